-- Lent areas at the two moments of a call. Assumes nothing.
use Rattle.std.specs.Prelude.{List, ℕ, ℤ, length, take}
use Rattle.std.specs.Borrow.{Bor, MutBor}
use denote.Triple.Both.{Both}
use Rattle.definitions.specs.Vector.{Vector}
use Rattle.definitions.specs.Lent.{Order, filled, order_of, vectors_of}

-- an area lent for reading: as it is passed (`entry`), and as the call leaves it (`exit`)
abbrev pub Lent : Type 0 → Type 0
Lent A = Both (Bor (List A)) (Bor (List A))

-- an area lent for writing, at the two moments
abbrev pub LentMut : Type 0 → Type 0
LentMut A = Both (MutBor (List A)) (MutBor (List A))

-- its rows of n numbers, as they are passed
abbrev pub vectors_in : (n : ℕ) (area : Lent ℤ) → List Vector
vectors_in n area = vectors_of n area.entry.now

-- the order that a call is sent
abbrev pub sent_order : (n : ℕ) (generators : Lent ℤ) (exchanges : Lent ℕ) (images : Lent ℤ) → Order
sent_order n generators exchanges images =
    order_of n generators.entry.now exchanges.entry.now images.entry.now

-- an area with zeros from a place on
abbrev pub cleared_from : {A : Type 0} → (blank : A) (at : ℕ) (area : List A) → List A
cleared_from blank at area = filled blank (length area) (take at area)
