-- Steps 1 to 5 on a list area, with the table of a group (Specification 3). Assumes nothing.
use Rattle.definitions.specs.Refusals.{Outcome, refused}
use mathlib.Core.Path.{◌≡◌, sym, ◌∙◌, ap, subst}
use mathlib.Core.List.{List, []}
use Prim.Native.Nat.{ℕ, ◌*◌, ◌≤◌}
use native.Mathlib.Omega.{arith}
use native.Mathlib.Nat.{mul-le-mul, mul-le-mul_right}
use lib.IntN.{ℤ, pos}
use lib.ListN.{length}
use Rattle.definitions.specs.Limits.{group_limit, list_limit}
use Rattle.definitions.specs.Group.{Exchange}
use Rattle.definitions.specs.Completion.{final_rows, running}
use Rattle.definitions.specs.Lent.{filled, vectors_of, list_rows}
use Rattle.definitions.specs.Refusals.{accepted}
use Rattle.definitions.specs.Calls.{Listing, listing_of}
use Rattle.theory.proofs.Lists.{chunks-length}
use Rattle.theory.proofs.Bounds.{each_within}
use Rattle.theory.proofs.Areas.{filled-nothing, length-filled}
use Rattle.theory.proofs.Accepted.{zeros_within}
use Rattle.theory.proofs.Completion.{Sound, completed-sound}
use Rattle.theory.proofs.Rows.{rows-count}
use Rattle.certified_theory.proofs.Forgetting.{completed-plain}
use Rattle.vectors.specs.Bounds.{headroom}
use Rattle.admission.proofs.Tests.{rows_inside}
use Rattle.reduction.specs.declared.Shape.{Shape}
use Rattle.reduction.specs.Areas.{Table, rows_at, sequences_in}
use Rattle.reduction.specs.Marks.{RowsMarked}
use Rattle.coefficients.proofs.Nothing.{nothing-closed, vectors-none, width-none}
use Rattle.completion.specs.declared.Sizes.{Sizes}
use Rattle.completion.specs.declared.State.{State}
use Rattle.completion.specs.Machine.{state_in, sizes_of, completed_in, Areas, After}
use Rattle.certified.specs.Noting.{CertifiedTo, Notable}
use Rattle.certified.specs.Noting as Noting
use Rattle.sorting.specs.Flags.{Finished}
use Rattle.moves.specs.Found.{Grouped, listing_with, Finds}
use Rattle.moves.proofs.Ends.{finds-refused}

-- ---- a completion that has no coefficients to note
pub nothing-notable : {shape : Shape} {group : List ℕ} → Table shape group → (limit : ℕ) (basis coefficients : List ℤ)
    → length basis ≡ 0 → Notable shape limit group basis coefficients
nothing-notable {shape} {group} T limit basis coefficients e = record {
  closed = nothing-closed T basis e;
  room = omega (arith, ap (λ (k : ℕ). limit * k) (width-none shape.n basis e));
}

-- it is the completion
pub plain-after : {table : List ℕ} {list : List ℤ} {marks keys : List ℕ} {coefficients : List ℤ} {r : Outcome State}
    (sizes : Sizes) (generators basis : List ℤ) → length basis ≡ 0
    → CertifiedTo sizes.shape table list marks keys basis coefficients (Noting.completed_in sizes table generators basis) r
    → After sizes.shape table list marks keys (completed_in sizes table generators) r
plain-after sizes generators basis e C =
    rw (vectors-none sizes.shape.n basis e, completed-plain (sequences_in sizes.shape _) sizes.limit (vectors_of sizes.shape.n generators)) at C.after

module _ {shape : Shape} {generators : List ℤ} {group : List ℕ} (G : Grouped shape generators group) (list_size limit : ℕ) (rows : limit ≡ list_rows shape.n list_size) where
  abbrev n : ℕ
  n = shape.n

  abbrev table : List Exchange
  table = sequences_in shape group

  pub few : limit ≤ list_limit
  unfolding list_rows
  few = omega (arith, rows)

  inside : limit * n ≤ list_size
  unfolding list_rows
  inside = rw rows (rows_inside list_limit n list_size)

  -- a cleared list area, and marks for all images
  pub cleared-areas : {list : List ℤ} {marks : List ℕ} → list ≡ filled (pos 0) list_size [] → list_limit * group_limit ≤ length marks → Areas (sizes_of shape limit) group list marks
  cleared-areas {list} {marks} e m =
      let h : 0 ≤ list_size = omega arith in
      record {
        is_table = G.table;
        some = G.some;
        small = G.small;
        rows = few;
        room = omega (arith, inside, ap length e, length-filled (pos 0) list_size [] h);
        marks_room = omega (arith, mul-le-mul few G.small, m);
        limited = rw (e, filled-nothing (pos 0) list_size) (each_within headroom (zeros_within headroom list_size));
      }

  module _ {list : List ℤ} {marks keys : List ℕ} where
    -- the completion was turned down
    pub steps-stopped : (number place : ℕ) {group_size : ℕ} → After shape group list marks keys (completed_in (sizes_of shape limit) group generators) (refused number place)
        → Finds n list_size group_size (listing_with n list_size table generators) list group (refused number place)
    unfolding listing_of
    steps-stopped number place A = finds-refused (rw (← rows, ← A.answer))

    module _ (s : State) (A : After shape group list marks keys (completed_in (sizes_of shape limit) group generators) (accepted s)) (long : length list ≡ list_size) where
      sound : Sound G.admissible.symmetric limit (running (state_in n list s))
      sound = subst (Sound G.admissible.symmetric limit) (sym A.answer) (completed-sound G.admissible.symmetric G.admissible.nonzero G.admissible.entries limit)

      pub stored-few : s.stored ≤ limit
      stored-few = omega (arith, sound.1.rows_in, rows-count n s.stored list)

      -- the rows are held with their marks and keys
      pub stored-marked : list_limit * group_limit ≤ length marks → RowsMarked shape s.stored group list marks keys
      stored-marked m = record {
        is_table = G.table;
        area = record {
          holds = omega (arith, mul-le-mul_right {m = s.stored} {n = limit} n stored-few, inside, long);
          limited = A.held.limited;
        };
        room = let l : s.stored ≤ list_limit = omega (arith, stored-few, few) in omega (arith, mul-le-mul l G.small, m);
        marked = A.held.marked;
      }

      -- and then step 5
      pub steps-ended : {final : List ℤ} (count : ℕ) → Finished (record { shape = shape; k = s.stored }) group list final count
          → Finds n list_size (length group) (listing_with n list_size table generators) final group (accepted (record { rows = count; members = shape.g; stored = s.stored; sums = s.sums }))
      unfolding listing_of
      steps-ended count F = record {
        answer = rw (found-is, F.counted, chunks-length n shape.g group, rows-count n s.stored list);
        list_holds = λ found h. rw (← is-ended h, ← long) F.lies;
        group_holds = λ found h. rw (← is-ended h) G.held;
      }
        where
          ended : Listing
          ended = record { rows = final_rows table (rows_at n s.stored list); table = table; stored = length (rows_at n s.stored list); sums = s.sums }

          found-is : listing_with n list_size table generators ≡ accepted ended
          found-is = rw (← rows, ← A.answer)

          is-ended : {found : Listing} → listing_with n list_size table generators ≡ accepted found → ended ≡ found
          is-ended h = cc (sym found-is ∙ h)
