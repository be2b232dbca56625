-- What the tests 5 to 11 and 23 find, and the group area then (Specification 2.5 and 7.2). Assumes nothing.
use Rattle.std.specs.Prelude.{◌≡◌, Bool, List, [], ◌∷◌, ℕ, ℤ, length}
use Rattle.definitions.specs.Lists.{concat}
use Rattle.definitions.specs.Group.{Exchange}
use Rattle.definitions.specs.Lent.{Order, filled, table_of}
use Rattle.definitions.specs.Refusals.{Outcome, accepted, Fault, no_fault, first_fault, unless_fault}
use Rattle.definitions.specs.Refusals.{admission_fault, cells_fault, numbers_fault, size_fault, symmetry_fault}
use Rattle.theory.proofs.Sizes.{OrderSized}
use Rattle.vectors.specs.Areas.{Lent, LentMut, sent_order}

-- 5 to 9
abbrev pub sent_fault : (order : Order) (group_size : ℕ) (fits : Bool) → Fault
sent_fault order group_size fits =
    first_fault (cells_fault order.n ∷ size_fault order group_size fits ∷ numbers_fault order ∷ [])

-- an order that meets none of 5 to 9
pub record Numbered (order : Order) : Type 0 where
  pub cells_pass : cells_fault order.n ≡ no_fault
  pub sized : OrderSized order
  pub numbers_pass : numbers_fault order ≡ no_fault

-- the tests came to `fault`; where none was met, r is the number of members of the group, and an area of `size` numbers
-- holds the table, and zeros behind
pub record Tabled (size : ℕ) (fault : Fault) (table : List Exchange) (group : List ℕ) (r : Outcome ℕ) : Type 0 where
  pub answer : r ≡ unless_fault fault (accepted (length table))
  pub held : fault ≡ no_fault → group ≡ filled 0 size (concat table)

-- 10, and 11 or 23, of the order that is sent, and its table in the group area
abbrev pub Tabulates : (n : ℕ) (generators : Lent ℤ) (exchanges : Lent ℕ) (images : Lent ℤ) (group : LentMut ℕ)
    (r : Outcome ℕ) → Type 0
Tabulates n generators exchanges images group r =
    let order = sent_order n generators exchanges images in
    let size = length group.entry.now in
    Tabled size (symmetry_fault order size) (table_of order size) group.exit.now r

-- 5 to 11 and 23 of the order that is sent, and its table in the group area
abbrev pub Admits : (n : ℕ) (generators : Lent ℤ) (exchanges : Lent ℕ) (images : Lent ℤ) (fits : Bool)
    (group : LentMut ℕ) (r : Outcome ℕ) → Type 0
Admits n generators exchanges images fits group r =
    let order = sent_order n generators exchanges images in
    let size = length group.entry.now in
    Tabled size (admission_fault order size fits) (table_of order size) group.exit.now r
