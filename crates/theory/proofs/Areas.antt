-- What the lent areas hold after a call (Specification 7.4): zeros after every refusal; after acceptance what was found, and zeros behind.
-- Assumes nothing.
use Rattle.definitions.specs.Refusals.{refused}
use Rattle.std.specs.declared.result.Result.TheVariants.{Err}
use Rattle.definitions.specs.Refusals.{Fault, no_fault}
use mathlib.Core.Path.{◌≡◌, refl, sym, ap, ◌∙◌, subst}
use mathlib.Core.List.{List, [], ◌++◌, append-nil, map}
use Prim.Native.Nat.{ℕ, ◌+◌, ◌-◌, ◌≤◌, ◌/◌}
use lib.IntN.{ℤ, pos}
use lib.ListN.{length, replicate, length-append, length-replicate}
use native.Mathlib.Nat.{sub-zero}
use native.Mathlib.Omega.{arith}
use Rattle.definitions.specs.declared.Answer.TheVariants.{Moves, Split}
use Rattle.definitions.specs.Lists.{concat}
use Rattle.definitions.specs.Split.{written}
use Rattle.definitions.specs.Lent.{Order, filled, numbers_of, table_of}
use Rattle.definitions.specs.Refusals.{Outcome, accepted}
use Rattle.definitions.specs.Calls.{ListEnd, Listing, Parts, SplitEnd, check_call, check_end, check_fault, list_call, list_end, listing, parts, split_call, split_end}

-- an area where nothing is written holds zeros
pub filled-nothing : {A : Type 0} (blank : A) (size : ℕ) → filled blank size [] ≡ replicate size blank
unfolding filled
filled-nothing blank size = ap (λ (k : ℕ). replicate k blank) (sub-zero size)

-- what is written does not change the size
pub length-filled : {A : Type 0} (blank : A) (size : ℕ) (numbers : List A) → length numbers ≤ size → length (filled blank size numbers) ≡ size
unfolding filled
length-filled blank size numbers h =
    length-append numbers (replicate (size - length numbers) blank) ∙ ap (λ (k : ℕ). length numbers + k) (length-replicate (size - length numbers) blank) ∙ omega arith

-- an area that the numbers fill
pub filled-whole : {A : Type 0} (blank : A) (size : ℕ) (numbers : List A) → length numbers ≡ size → filled blank size numbers ≡ numbers
unfolding filled
filled-whole blank size numbers long =
    let e : size - length numbers ≡ 0 = omega arith in
    ap (λ (k : ℕ). numbers ++ replicate k blank) e ∙ append-nil numbers

-- ---- List
pub record ListZeros (list_size group_size : ℕ) (end : ListEnd) : Type 0 where
  pub list : end.list ≡ replicate list_size (pos 0)
  pub group : end.group ≡ replicate group_size 0

pub list-refused : (order : Order) (list_size group_size number place : ℕ) → (list_call order list_size group_size).answer ≡ refused number place → ListZeros list_size group_size (list_call order list_size group_size)
unfolding list_call list_end
list-refused order list_size group_size number place e = go (listing order list_size group_size) e
  where
    go : (o : Outcome Listing) → (list_end order.n list_size group_size o).answer ≡ refused number place → ListZeros list_size group_size (list_end order.n list_size group_size o)
    go (Err r) q = record { list = filled-nothing (pos 0) list_size; group = filled-nothing 0 group_size }
    go (accepted found) q = let z : ◌≡◌ {A = ℕ} 0 1 = cc in absurd (omega arith)

pub record ListHeld (order : Order) (list_size group_size : ℕ) (found : Listing) (end : ListEnd) : Type 0 where
  pub answer : end.answer ≡ accepted (Moves (length found.rows) (length found.table) found.stored found.sums)
  pub list : end.list ≡ filled (pos 0) list_size (numbers_of order.n found.rows)
  pub group : end.group ≡ filled 0 group_size (concat found.table)

pub list-accepted : (order : Order) (list_size group_size : ℕ) (found : Listing) → listing order list_size group_size ≡ accepted found → ListHeld order list_size group_size found (list_call order list_size group_size)
unfolding list_call list_end
list-accepted order list_size group_size found e = subst (λ (o : Outcome Listing). ListHeld order list_size group_size found (list_end order.n list_size group_size o)) (sym e) (record { answer = refl; list = refl; group = refl })

-- ---- Split
pub record SplitZeros (list_size group_size pieces_size : ℕ) (end : SplitEnd) : Type 0 where
  pub list : end.list ≡ replicate list_size (pos 0)
  pub group : end.group ≡ replicate group_size 0
  pub pieces : end.pieces ≡ replicate pieces_size (pos 0)

pub split-refused : (order : Order) (vector : List ℤ) (list_size group_size pieces_size number place : ℕ) → (split_call order vector list_size group_size pieces_size).answer ≡ refused number place
    → SplitZeros list_size group_size pieces_size (split_call order vector list_size group_size pieces_size)
unfolding split_call split_end
split-refused order vector list_size group_size pieces_size number place e = go (parts order vector list_size group_size pieces_size) e
  where
    go : (o : Outcome Parts) → (split_end order.n list_size group_size pieces_size o).answer ≡ refused number place → SplitZeros list_size group_size pieces_size (split_end order.n list_size group_size pieces_size o)
    go (Err r) q = record { list = filled-nothing (pos 0) list_size; group = filled-nothing 0 group_size; pieces = filled-nothing (pos 0) pieces_size }
    go (accepted found) q = let z : ◌≡◌ {A = ℕ} 0 1 = cc in absurd (omega arith)

pub record SplitHeld (order : Order) (list_size group_size pieces_size : ℕ) (found : Parts) (end : SplitEnd) : Type 0 where
  pub answer : end.answer ≡ accepted (Split (length found.pieces) (length found.listing.rows) (length found.listing.table) found.listing.stored found.listing.sums)
  pub list : end.list ≡ filled (pos 0) list_size (numbers_of order.n found.listing.rows)
  pub group : end.group ≡ filled 0 group_size (concat found.listing.table)
  pub pieces : end.pieces ≡ filled (pos 0) pieces_size (concat (map written found.pieces))

pub split-accepted : (order : Order) (vector : List ℤ) (list_size group_size pieces_size : ℕ) (found : Parts) → parts order vector list_size group_size pieces_size ≡ accepted found
    → SplitHeld order list_size group_size pieces_size found (split_call order vector list_size group_size pieces_size)
unfolding split_call split_end
split-accepted order vector list_size group_size pieces_size found e =
    subst (λ (o : Outcome Parts). SplitHeld order list_size group_size pieces_size found (split_end order.n list_size group_size pieces_size o)) (sym e) (record { answer = refl; list = refl; group = refl; pieces = refl })

-- ---- Check
pub check-refused : (order : Order) (rows coefficients : List ℤ) (group_size number place : ℕ) → (check_call order rows coefficients group_size).answer ≡ refused number place
    → (check_call order rows coefficients group_size).group ≡ replicate group_size 0
unfolding check_call check_end
check-refused order rows coefficients group_size number place e = go (check_fault order rows coefficients group_size) e
  where
    go : (fault : Fault) → (check_end group_size (length rows / order.n) (table_of order group_size) fault).answer ≡ refused number place
        → (check_end group_size (length rows / order.n) (table_of order group_size) fault).group ≡ replicate group_size 0
    go (Err r) q = filled-nothing 0 group_size
    go no_fault q = let z : ◌≡◌ {A = ℕ} 0 1 = cc in absurd (omega arith)

pub check-passed : (order : Order) (rows coefficients : List ℤ) (group_size : ℕ) → check_fault order rows coefficients group_size ≡ no_fault
    → (check_call order rows coefficients group_size).group ≡ filled 0 group_size (concat (table_of order group_size))
unfolding check_call check_end
check-passed order rows coefficients group_size e = ap (λ (f : Fault). (check_end group_size (length rows / order.n) (table_of order group_size) f).group) e
