-- What the tests under size, generators and exchanges say of an order that meets none (Specification 7.2 and 7.3): above all, that every
-- member of the group keeps the lattice. Assumes nothing.
use Rattle.definitions.specs.Refusals.{no_fault}
use Rattle.std.specs.Prelude.{if◌then◌else◌}
use mathlib.Core.Path.{◌≡◌, refl, sym, ◌∙◌, subst}
use mathlib.Core.Bool.{Bool, true, false, not, ◌&&◌, ◌||◌}
use mathlib.Core.List.Memᴰ
use mathlib.Core.List.{List, [], ◌∷◌, map, Memᴰ}
use Prim.Native.Nat.{ℕ, zero, suc, ◌-◌, ◌≤◌}
use borrow.Author.Tests.{leb-true, not-false}
use lib.Dec.{leb}
use lib.IntN.{ℤ, pos, nat_abs}
use lib.ListN.{length, get_or, take, drop, replicate, length-append, length-replicate, length-take}
use native.Mathlib.Omega.{arith}
use Rattle.definitions.specs.Limits.{cells, entry_limit, group_limit, image_limit}
use Rattle.definitions.specs.Lists.{any}
use Rattle.definitions.specs.Vector.{Vector, equal, is_member, is_zero, negative, padded, plus, zero_vector}
use Rattle.definitions.specs.Lattice.{InLattice, combination}
use Rattle.definitions.specs.Group.{Exchange, exchanged, is_exchange}
use Rattle.definitions.specs.Lent.{Order, chunks, exchanges_of, generators_of, group_rows, is_bare, rows_of, table_of, vectors_of}
use Rattle.definitions.specs.Refusals.{cells_fault, fault_where, admission_fault, is_generator, is_past, is_uncertified, numbers_fault, order_fault, size_fault, symmetry_fault}
use Rattle.definitions.specs.Refusals.{images_fault, lattice_fault, leaves_generators, leaving_fault, sent_images}
use Rattle.theory.proofs.Tests.{and-true-left, and-true-right, clash, or-false-right}
use Rattle.theory.proofs.Lists.{mem-map}
use Rattle.theory.proofs.Members.{Each, any_none, each_append, each_both, each-cons, each_from, each-image, each_map, each_member, each_nil, each_of, member-place}
use Rattle.theory.proofs.Vector.{length-negative, length-plus, length-zero, negative-negative}
use Rattle.theory.proofs.Lattice.{combination-inside, lattice-generator, lattice-ind, lattice-negative, lattice-plus, lattice-zeros}
use Rattle.theory.proofs.Exchanges.{AllExchanges, valid-of}
use Rattle.theory.proofs.GroupTable.{table-of-group}
use Rattle.theory.proofs.Action.{exchanged-negative, exchanged-plus, exchanged-zero}
use Rattle.theory.proofs.Symmetric.{Symmetric}
use Rattle.theory.proofs.Bounds.{Within, not-zero}
use Rattle.theory.proofs.Equal.{equal-same, is_member_lem}
use Rattle.theory.proofs.Faults.{if_none, tests-none, where-none}

-- ---- rows of numbers as vectors
pub padded-length : (numbers : List ℤ) → length numbers ≤ cells → length (padded numbers) ≡ cells
unfolding padded
padded-length numbers h =
    omega (arith, length-append numbers (replicate (cells - length numbers) (pos 0)), length-replicate (cells - length numbers) (pos 0))

pub zeros_within : (limit k : ℕ) → Within limit (replicate k (pos 0))
zeros_within limit zero = each_nil
zeros_within limit (suc k) = let h : nat_abs (pos 0) ≤ limit = omega arith in each-cons h (zeros_within limit k)

pub padded-within : {limit : ℕ} {numbers : List ℤ} → Within limit numbers → Within limit (padded numbers)
unfolding padded
padded-within {limit} {numbers} h = each_append h (zeros_within limit (cells - length numbers))

pub each_take : {A : Type 0} {P : A → Type 0} (k : ℕ) {xs : List A} → Each P xs → Each P (take k xs)
each_take zero h = each_nil
each_take (suc k) each_nil = each_nil
each_take (suc k) (each-cons p h) = each-cons p (each_take k h)

pub each-drop : {A : Type 0} {P : A → Type 0} (k : ℕ) {xs : List A} → Each P xs → Each P (drop k xs)
each-drop zero h = h
each-drop (suc k) each_nil = each_nil
each-drop (suc k) (each-cons p h) = each-drop k h

chunks-each : {A : Type 0} {P : A → Type 0} (width count : ℕ) {xs : List A} → Each P xs → Each (λ row. (length row ≤ width) × Each P row) (chunks width count xs)
unfolding chunks
chunks-each width zero h = each_nil
chunks-each width (suc count) {xs} h = let l : length (take width xs) ≤ width = omega (arith, length-take width xs) in each-cons (l, each_take width h) (chunks-each width count (each-drop width h))

each-any : {A : Type 0} (xs : List A) → Each (λ x. Unit {0}) xs
each-any [] = each_nil
each-any (x ∷ xs) = each-cons tt (each-any xs)

pub vectors-length : (n : ℕ) (numbers : List ℤ) → n ≤ cells → Each (λ v. length v ≡ cells) (vectors_of n numbers)
unfolding vectors_of rows_of
vectors-length n numbers h = each-image padded (λ row (t : (length row ≤ n) × Each (λ x. Unit {0}) row). padded-length row (omega (arith, t.0))) (chunks-each n _ (each-any numbers))

pub vectors-within : {limit : ℕ} (n : ℕ) {numbers : List ℤ} → Within limit numbers → Each (Within limit) (vectors_of n numbers)
unfolding vectors_of rows_of
vectors-within {limit} n h = each-image padded (λ row (t : (length row ≤ n) × Within limit row). padded-within t.1) (chunks-each n _ h)

-- a number past no limit
pub past-none : (limit : ℕ) (x : ℤ) → is_past limit x ≡ false → nat_abs x ≤ limit
unfolding is_past
past-none limit x e = leb-true (nat_abs x) limit (not-false (leb (nat_abs x) limit) e)

-- no number of a list is past the limit
pub past-where : (number limit : ℕ) (numbers : List ℤ) → fault_where number (length numbers) (λ p. is_past limit (get_or numbers p (pos 0))) ≡ no_fault → Within limit numbers
past-where number limit numbers e =
    each_from numbers (pos 0) (λ p l. past-none limit (get_or numbers p (pos 0)) ((where-none number (length numbers) (λ p. is_past limit (get_or numbers p (pos 0)))).0 e p l))

-- 5
pub record Sized (n : ℕ) : Type 0 where
  pub least : 1 ≤ n
  pub most : n ≤ cells

pub cells-none : (n : ℕ) → cells_fault n ≡ no_fault → Sized n
unfolding cells_fault
cells-none n e =
    let b = not-false (leb 1 n && leb n cells) (if_none 5 (not (leb 1 n && leb n cells)) e) in
    record { least = leb-true 1 n (and-true-left (leb 1 n) (leb n cells) b); most = leb-true n cells (and-true-right (leb 1 n) (leb n cells) b) }

-- ---- 5 to 11, one after the other
pub record Admitted (order : Order) (group_size : ℕ) (fits : Bool) : Type 0 where
  pub cells_pass : cells_fault order.n ≡ no_fault
  pub sizes_pass : size_fault order group_size fits ≡ no_fault
  pub tests_pass : order_fault order group_size ≡ no_fault

pub admission-none : (order : Order) (group_size : ℕ) (fits : Bool) → admission_fault order group_size fits ≡ no_fault → Admitted order group_size fits
unfolding admission_fault
admission-none order group_size fits e =
    let a = tests-none (cells_fault order.n) _ e in
    let b = tests-none (size_fault order group_size fits) _ a.1 in
    let c = tests-none (order_fault order group_size) _ b.1 in
    record { cells_pass = a.0; sizes_pass = b.0; tests_pass = c.0 }

-- ---- 7 to 9
pub record Sendable (order : Order) : Type 0 where
  pub limited : Within entry_limit order.generators
  pub nonzero : Each (λ g. is_zero g ≡ false) (generators_of order)
  pub exchanges : AllExchanges order.n (exchanges_of order)

pub numbers-none : (order : Order) → numbers_fault order ≡ no_fault → Sendable order
unfolding numbers_fault
numbers-none order e =
    let a = tests-none _ _ e in
    let b = tests-none _ _ a.1 in
    let c = tests-none _ _ b.1 in
    record {
      limited = past-where 7 entry_limit order.generators a.0;
      nonzero = each_from generators [] ((where-none 8 (length generators) (λ p. is_zero (get_or generators p []))).0 b.0);
      exchanges = λ s k.
          let at = member-place [] k in
          subst (λ (t : Exchange). is_exchange order.n t ≡ true) at.2
          (not-false (is_exchange order.n (get_or sent at.0 [])) ((where-none 9 (length sent) (λ p. not (is_exchange order.n (get_or sent p [])))).0 c.0 at.0 at.1));
    }
  where
    generators : List Vector
    generators = generators_of order

    sent : List Exchange
    sent = exchanges_of order

-- ---- 7 to 11
pub record Acceptable (order : Order) (group_size : ℕ) : Type 0 where
  pub sendable : Sendable order
  pub roomy : length (table_of order group_size) ≤ group_rows order.n group_size
  pub keeping : lattice_fault order ≡ no_fault

pub order-none : (order : Order) (group_size : ℕ) → order_fault order group_size ≡ no_fault → Acceptable order group_size
unfolding order_fault symmetry_fault
order-none order group_size e =
    let both = tests-none (numbers_fault order) _ e in
    let d = tests-none _ _ (tests-none (symmetry_fault order group_size) _ both.1).0 in
    let f = tests-none _ _ d.1 in
    record {
      sendable = numbers-none order both.0;
      roomy = leb-true _ _ (not-false (leb (length (table_of order group_size)) (group_rows order.n group_size)) (if_none 10 _ d.0));
      keeping = f.0;
    }

-- the table has at most so many rows as a group may have members
pub table-small : (order : Order) (group_size : ℕ) → order_fault order group_size ≡ no_fault → length (table_of order group_size) ≤ group_limit
unfolding group_rows
table-small order group_size e = omega (arith, (order-none order group_size e).roomy)

-- ---- the lattice is kept
pub is-generator : (generators : List Vector) → Each (λ g. length g ≡ cells) generators → (v : Vector) → is_generator generators v ≡ true → InLattice generators v
unfolding is_generator
is-generator generators sizes v e = go (is_member v generators) refl (is_member (negative v) generators) refl e
  where
    go : (a : Bool) → is_member v generators ≡ a → (b : Bool) → is_member (negative v) generators ≡ b → (a || b) ≡ true → InLattice generators v
    go true p b q f = each_member (lattice-generator sizes) (is_member_lem v generators p)
    go false p true q f = subst (InLattice generators) (negative-negative v) (lattice-negative generators sizes (each_member (lattice-generator sizes) (is_member_lem (negative v) generators q)))
    go false p false q f = absurd (clash f refl)

-- an exchange that keeps the generators in the lattice keeps the lattice
exchange-keeps : (generators : List Vector) → Each (λ g. length g ≡ cells) generators → (e : Exchange) → length e ≤ cells → Each (λ g. InLattice generators (exchanged e g)) generators
    → (v : Vector) → InLattice generators v → InLattice generators (exchanged e v)
exchange-keeps generators sizes e short h v l = (lattice-ind generators sizes P at_zero at-plus at-negative (each_both sizes h) v l).1
  where
    P : Vector → Type 0
    P w = (length w ≡ cells) × InLattice generators (exchanged e w)

    at_zero : P zero_vector
    at_zero = (length-zero, subst (InLattice generators) (sym (exchanged-zero e short)) (lattice-zeros generators sizes))

    at-plus : (u w : Vector) → P u → P w → P (plus u w)
    at-plus u w a b = (length-plus cells u w a.0 b.0, subst (InLattice generators) (sym (exchanged-plus e u w (a.0 ∙ sym b.0))) (lattice-plus generators sizes a.1 b.1))

    at-negative : (u : Vector) → P u → P (negative u)
    at-negative u a = (length-negative u ∙ a.0, subst (InLattice generators) (sym (exchanged-negative e u)) (lattice-negative generators sizes a.1))

pub generators-length : (order : Order) → order.n ≤ cells → Each (λ g. length g ≡ cells) (generators_of order)
unfolding generators_of
generators-length order h = vectors-length order.n order.generators h

-- 11: the image of a generator is one, or the negative of one
pub stays-generator : (generators : List Vector) (sent : List Exchange) (g : Vector) → leaves_generators generators sent g ≡ false → (s : Exchange) → Memᴰ s sent → is_generator generators (exchanged s g) ≡ true
unfolding leaves_generators
stays-generator generators sent g h s k =
    not-false (is_generator generators (exchanged s g)) (each_member (any_none (λ t. not (is_generator generators (exchanged t g))) sent h) k)

pub closed-stays : {generators : List Vector} {sent : List Exchange} → leaving_fault generators sent ≡ no_fault → (s : Exchange) → Memᴰ s sent → Each (λ g. is_generator generators (exchanged s g) ≡ true) generators
unfolding leaving_fault
closed-stays {generators} {sent} e s k =
    each_map (λ g (f : leaves_generators generators sent g ≡ false). stays-generator generators sent g f s k)
    (each_from generators [] ((where-none 11 (length generators) (λ p. leaves_generators generators sent (get_or generators p []))).0 e))

-- 23: the image of a generator is the combination that is sent for it
in-images : (generators : List Vector) (s : Exchange) (g : Vector) {sent : List Exchange} → Memᴰ s sent → Memᴰ g generators → Memᴰ (exchanged s g) (sent_images generators sent)
unfolding sent_images
in-images generators s g (Memᴰ.head {x = t} {xs = sent} e) k =
    Memᴰ.append_left (sent_images generators sent) (subst (λ (r : Exchange). Memᴰ (exchanged s g) (map (exchanged r) generators)) e (mem-map (exchanged s) generators k))
in-images generators s g (Memᴰ.tail {x = t} {xs = sent} m) k = Memᴰ.append_right (map (exchanged t) generators) (in-images generators s g m k)

pub certified : (limit : ℕ) (generators : List Vector) → Each (λ g. length g ≡ cells) generators → (coefficients : List ℤ) (v : Vector) → is_uncertified limit generators coefficients v ≡ false → InLattice generators v
unfolding is_uncertified
certified limit generators sizes coefficients v e =
    let b = or-false-right (any (is_past limit) coefficients) (not (equal (combination coefficients generators) v)) e in
    subst (InLattice generators) (equal-same (combination coefficients generators) v (not-false (equal (combination coefficients generators) v) b)) (combination-inside coefficients sizes)

shown-keeps : (generators : List Vector) (sent : List Exchange) (coefficients : List ℤ) → Each (λ g. length g ≡ cells) generators → images_fault generators sent coefficients ≡ no_fault
    → (s : Exchange) → Memᴰ s sent → Each (λ g. InLattice generators (exchanged s g)) generators
unfolding images_fault
shown-keeps generators sent coefficients sizes e s k = each_of generators (λ g m. one (exchanged s g) (in-images generators s g k m))
  where
    images : List Vector
    images = sent_images generators sent

    certificates : List (List ℤ)
    certificates = chunks (length generators) (length images) coefficients

    one : (v : Vector) → Memᴰ v images → InLattice generators v
    one v m =
        let at = member-place [] m in
        subst (InLattice generators) at.2
        (certified image_limit generators sizes (get_or certificates at.0 []) (get_or images at.0 [])
        ((where-none 23 (length images) (λ p. is_uncertified image_limit generators (get_or certificates p []) (get_or images p []))).0 e at.0 at.1))

-- EITHER TEST makes sure that the images of generators are in the lattice
order-keeps : (order : Order) → order.n ≤ cells → lattice_fault order ≡ no_fault → (s : Exchange) → Memᴰ s (exchanges_of order) → Each (λ g. InLattice (generators_of order) (exchanged s g)) (generators_of order)
unfolding lattice_fault
order-keeps order h e s k = go (is_bare order) e
  where
    generators : List Vector
    generators = generators_of order

    sizes : Each (λ g. length g ≡ cells) generators
    sizes = generators-length order h

    go : (b : Bool) → (if b then images_fault generators (exchanges_of order) order.images else leaving_fault generators (exchanges_of order)) ≡ no_fault → Each (λ g. InLattice generators (exchanged s g)) generators
    go true f = shown-keeps generators (exchanges_of order) order.images sizes f s k
    go false f = each_map (λ g (t : is_generator generators (exchanged s g) ≡ true). is-generator generators sizes (exchanged s g) t) (closed-stays f s k)

-- AN ORDER THAT MEETS NO TEST UP TO 11, OR 23 IN ITS PLACE, keeps its lattice, and its table is its group's
pub order-symmetric : (order : Order) (group_size : ℕ) → cells_fault order.n ≡ no_fault → order_fault order group_size ≡ no_fault
    → Symmetric order.n (exchanges_of order) (table_of order group_size) (generators_of order)
unfolding table_of
order-symmetric order group_size e f = record {
  fits = (cells-none order.n e).most;
  sizes = sizes;
  exchanges = A.sendable.exchanges;
  is_table = table-of-group order.n (exchanges_of order) (group_rows order.n group_size) A.roomy;
  keeps = λ s k. exchange-keeps (generators_of order) sizes s (omega (arith, (valid-of order.n s (A.sendable.exchanges s k)).long, (cells-none order.n e).most)) (order-keeps order (cells-none order.n e).most A.keeping s k);
}
  where
    A : Acceptable order group_size
    A = order-none order group_size f

    sizes : Each (λ g. length g ≡ cells) (generators_of order)
    sizes = generators-length order (cells-none order.n e).most

-- its generators are nonzero and within the limit
pub order-generators : (order : Order) (group_size : ℕ) → order_fault order group_size ≡ no_fault → Each (λ g. ¬ (g ≡ zero_vector)) (generators_of order) × Each (Within entry_limit) (generators_of order)
unfolding generators_of
order-generators order group_size f =
    let A = order-none order group_size f in
    (each_map (λ g (h : is_zero g ≡ false). not-zero h) A.sendable.nonzero, vectors-within order.n A.sendable.limited)
