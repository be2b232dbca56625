-- BOTH PARTS OF A SESSION, and what its areas hold. Assumes nothing.
use Rattle.definitions.specs.Refusals.{Outcome}
use Rattle.std.specs.declared.result.Result.TheVariants.{Err}
use Rattle.definitions.specs.Refusals.{Fault, no_fault, fault_at}
use mathlib.Core.Path.{◌≡◌, refl, sym, ◌∙◌, ap, ap₂}
use mathlib.Core.Bool.{Bool, true, false, cond}
use mathlib.Core.List.{List, [], ◌∷◌, ◌++◌, map}
use Prim.Native.Nat.{ℕ, zero, suc, ◌+◌, ◌*◌, ◌≤◌}
use native.Mathlib.Nat.{mul-le-mul_left, mul-suc}
use native.Mathlib.Omega.{arith}
use lib.IntN.{ℤ, pos}
use lib.ListN.{length, take, drop, replicate, length-append, length-take, replicate-append-replicate}
use lib.Seq.{take_at, drop_at}
use Rattle.definitions.specs.declared.Ending.{Ending}
use Rattle.definitions.specs.Limits.{session_rows}
use Rattle.definitions.specs.Lists.{concat}
use Rattle.definitions.specs.Vector.{Vector}
use Rattle.definitions.specs.Group.{Exchange}
use Rattle.definitions.specs.Completion.{Completion, final_rows, is_finished, running, stopped}
use Rattle.definitions.specs.Lent.{Order, filled, numbers_of, table_of}
use Rattle.definitions.specs.Refusals.{accepted, refused}
use Rattle.definitions.specs.Calls.{listing_of}
use Rattle.definitions.specs.Session.{Pair, Part, Result, SessionEnd, ended, ending_of, first_part, half}
use Rattle.definitions.specs.Session.{half_of, is_refused, result_of, second_part, session_call, session_end, session_fault}
use Rattle.definitions.specs.Session.{shared_fault, started, steps_of, unfinished}
use Rattle.theory.proofs.Areas.{filled-nothing, length-filled}
use Rattle.theory.proofs.Listing.{final-few}
use Rattle.definitions.specs.Demands.{Blank, PartKept}
use Rattle.session_theory.proofs.Tests.{fault-none, fault-shared, shared-none, shared_same, tables_agree}
use Rattle.session_theory.proofs.Turns.{Fits, turns-first, turns-second}
use Rattle.session_theory.proofs.Own.{after-fits, met-refused, result_after}
use Rattle.session_theory.proofs.Kept.{IsPart, part-kept, part_of, zeros-blank}

-- ---- the halves of the list area
numbers-few : (n : ℕ) (rows : List Vector) → length (numbers_of n rows) ≤ n * length rows
unfolding numbers_of concat
numbers-few n [] = omega arith
numbers-few n (v ∷ rows) =
    omega (
      arith,
      length-append (take n v) (concat (map (take n) rows)),
      length-take n v,
      mul-suc n (length rows),
      numbers-few n rows,
    )

-- a half has its length
half-long : (table : List Exchange) (n : ℕ) (c : Completion) → Fits table session_rows c → length (half_of n (result_of table c)) ≡ half n
unfolding half_of result_of listing_of half
half-long table n (stopped number place) h = length-filled (pos 0) (half n) [] (omega arith)
half-long table n (running s) h = go (is_finished s)
  where
    go : (b : Bool) → length (half_of n (cond b (ended (listing_of table (running s))) (unfinished s.sums))) ≡ half n
    go true =
        let m : length (final_rows table s.rows) ≤ session_rows = omega (arith, final-few table s.rows) in
        length-filled (pos 0) (half n) (numbers_of n (final_rows table s.rows))
        (omega (arith, numbers-few n (final_rows table s.rows), mul-le-mul_left n m))
    go false = length-filled (pos 0) (half n) [] (omega arith)

two-zeros : (n : ℕ) → filled (pos 0) (half n + half n) [] ≡ filled (pos 0) (half n) [] ++ filled (pos 0) (half n) []
two-zeros n =
    filled-nothing (pos 0) (half n + half n)
    ∙ sym (replicate-append-replicate (half n) (half n) (pos 0))
    ∙ sym (ap₂ ◌++◌ (filled-nothing (pos 0) (half n)) (filled-nothing (pos 0) (half n)))

-- a list area of two halves holds both orders' rows, each with zeros behind
pub two-halves : (n list_size group_size : ℕ) (table : List Exchange) (a b : Result) → list_size ≡ half n + half n
    → (session_end n list_size group_size table a b).list ≡ half_of n a ++ half_of n b
unfolding session_end is_refused half_of
two-halves n list_size group_size table (ended (accepted found)) b e = refl
two-halves n list_size group_size table (unfinished sums) b e = refl
two-halves n list_size group_size table (ended (Err r)) (ended (accepted found)) e = refl
two-halves n list_size group_size table (ended (Err r)) (unfinished sums) e = refl
two-halves n list_size group_size table (ended (Err r)) (ended (Err q)) e =
    ap (λ (k : ℕ). filled (pos 0) k []) e ∙ two-zeros n

-- ---- A SESSION
module _ (first second : Order) (list_size group_size : ℕ) (steps : List ℕ) where
  abbrev end : SessionEnd
  end = session_call first second list_size group_size steps

  abbrev table : List Exchange
  table = table_of first group_size

  -- what each order has come to
  abbrev pub result₀ : Result
  result₀ = result_after first second list_size group_size table (steps_of 0 steps)

  abbrev pub result₁ : Result
  result₁ = result_after second first list_size group_size table (steps_of 1 steps)

  -- the session ends with these, however the steps are mixed
  pub session-is : end ≡ session_end first.n list_size group_size table result₀ result₁
  unfolding session_call
  session-is =
      ap₂ (λ (a b : Completion). session_end first.n list_size group_size table (result_of table a) (result_of table b))
      (turns-first table steps start) (turns-second table steps start)
    where
      start : Pair
      start = record {
        first = started table (session_fault first second list_size group_size) first;
        second = started table (session_fault second first list_size group_size) second;
      }

  pub answer₀ : end.first ≡ ending_of result₀
  unfolding session_end
  answer₀ = ap (λ (e : SessionEnd). e.first) session-is

  pub answer₁ : end.second ≡ ending_of result₁
  unfolding session_end
  answer₁ = ap (λ (e : SessionEnd). e.second) session-is

  module _ (shared : shared_fault first second list_size ≡ no_fault) where
    list-is : end.list ≡ half_of first.n result₀ ++ half_of first.n result₁
    list-is =
        ap (λ (e : SessionEnd). e.list) session-is
        ∙ two-halves first.n list_size group_size table result₀ result₁ (shared-none first second list_size shared).size

    long : length (half_of first.n result₀) ≡ half first.n
    long = half-long table first.n _ (after-fits first second list_size group_size table (steps_of 0 steps))

    -- the first half is order 0's, the second order 1's
    first-half : take (half first.n) end.list ≡ half_of first.n result₀
    first-half =
        ap (take (half first.n)) list-is
        ∙ take_at (half_of first.n result₀) (half_of first.n result₁) (half first.n) long

    second-half : drop (half first.n) end.list ≡ half_of first.n result₁
    second-half =
        ap (drop (half first.n)) list-is
        ∙ drop_at (half_of first.n result₀) (half_of first.n result₁) (half first.n) long

  -- a shared test refuses both, and everything is zero
  module _ {number place : ℕ} (shared : shared_fault first second list_size ≡ fault_at number place) where
    met₀ : result₀ ≡ ended (refused number place)
    met₀ =
        met-refused first second list_size group_size table (steps_of 0 steps) (fault-shared first second list_size group_size shared)

    met₁ : result₁ ≡ ended (refused number place)
    met₁ =
        met-refused second first list_size group_size table (steps_of 1 steps)
        (fault-shared second first list_size group_size (sym (shared_same first second list_size) ∙ shared))

    shut-list : end.list ≡ replicate list_size (pos 0)
    unfolding session_end is_refused
    shut-list =
        ap (λ (e : SessionEnd). e.list) session-is
        ∙ ap₂ (λ (a b : Result). (session_end first.n list_size group_size table a b).list) met₀ met₁
        ∙ filled-nothing (pos 0) list_size

-- zeros from some place on, or up to it
take-blank : (k m : ℕ) → Blank (take k (replicate m (pos 0)))
take-blank zero m = refl
take-blank (suc k) zero = refl
take-blank (suc k) (suc m) = ap (λ (l : List ℤ). pos 0 ∷ l) (take-blank k m)

drop-blank : (k m : ℕ) → Blank (drop k (replicate m (pos 0)))
drop-blank zero m = zeros-blank m refl
drop-blank (suc k) zero = refl
drop-blank (suc k) (suc m) = drop-blank k m

-- where both are known
pub part-is : {ending ending' : Outcome Ending} {rows rows' : List ℤ} → ending ≡ ending' → rows ≡ rows'
    → ◌≡◌ {A = Part} (record { ending = ending; rows = rows }) (record { ending = ending'; rows = rows' })
part-is p q = (λ i. record { ending = p i; rows = q i })

-- ORDER 0
pub first-is : (order : Order) (list_size group_size : ℕ) (steps : List ℕ)
    → IsPart order list_size group_size (steps_of 0 steps) (λ other. first_part order other list_size group_size steps)
unfolding first_part ending_of
first-is order list_size group_size steps = record {
  left = λ other e. part-is (answer₀ order other list_size group_size steps) (first-half order other list_size group_size steps e);
  blank = take (half order.n) (replicate list_size (pos 0));
  zeros = take-blank (half order.n) list_size;
  shut = λ other number place e.
      part-is (answer₀ order other list_size group_size steps ∙ ap ending_of (met₀ order other list_size group_size steps e))
      (ap (take (half order.n)) (shut-list order other list_size group_size steps e));
}

-- ORDER 1
module _ (order : Order) (list_size group_size : ℕ) (steps : List ℕ) (other : Order) where
  -- the table is its own, or a test refuses it
  own-table : result₁ other order list_size group_size steps
      ≡ result_after order other list_size group_size (table_of order group_size) (steps_of 1 steps)
  own-table = go (session_fault order other list_size group_size) refl
    where
      go : (x : Fault) → session_fault order other list_size group_size ≡ x
          → result₁ other order list_size group_size steps
          ≡ result_after order other list_size group_size (table_of order group_size) (steps_of 1 steps)
      go (Err r) e =
          met-refused order other list_size group_size (table_of other group_size) (steps_of 1 steps) e
          ∙ sym (met-refused order other list_size group_size (table_of order group_size) (steps_of 1 steps) e)
      go no_fault e =
          let s = fault-none order other list_size group_size e in
          ap (λ (t : List Exchange). result_after order other list_size group_size t (steps_of 1 steps))
          (sym (tables_agree order other list_size group_size s.0 s.1))

  second-left : shared_fault order other list_size ≡ no_fault
      → second_part order other list_size group_size steps ≡ part_of order other list_size group_size (steps_of 1 steps)
  unfolding second_part
  second-left e =
      let n = (shared-none order other list_size e).cells in
      let list = (session_call other order list_size group_size steps).list in
      part-is (answer₁ other order list_size group_size steps ∙ ap ending_of own-table)
      (ap (λ (k : ℕ). drop (half k) list) n
      ∙ second-half other order list_size group_size steps (shared_same other order list_size ∙ e)
      ∙ ap₂ half_of (sym n) own-table)

pub second_is : (order : Order) (list_size group_size : ℕ) (steps : List ℕ)
    → IsPart order list_size group_size (steps_of 1 steps) (λ other. second_part order other list_size group_size steps)
unfolding second_part ending_of
second_is order list_size group_size steps = record {
  left = second-left order list_size group_size steps;
  blank = drop (half order.n) (replicate list_size (pos 0));
  zeros = drop-blank (half order.n) list_size;
  shut = λ other number place e.
      let f = shared_same other order list_size ∙ e in
      part-is (answer₁ other order list_size group_size steps ∙ ap ending_of (met₁ other order list_size group_size steps f))
      (ap (drop (half order.n)) (shut-list other order list_size group_size steps f));
}

-- ---- WHAT EACH ORDER MAY CONCLUDE
pub first-kept : (first second : Order) (list_size group_size : ℕ) (steps : List ℕ)
    → PartKept first second list_size group_size (steps_of 0 steps) (λ other. first_part first other list_size group_size steps)
first-kept first second list_size group_size steps = part-kept (first-is first list_size group_size steps) second

pub second-kept : (first second : Order) (list_size group_size : ℕ) (steps : List ℕ)
    → PartKept second first list_size group_size (steps_of 1 steps) (λ other. second_part second other list_size group_size steps)
second-kept first second list_size group_size steps = part-kept (second_is second list_size group_size steps) first
