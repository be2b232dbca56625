-- Steps 1 to 5 on a list area, with the coefficients of the rows (Specification 3). Assumes nothing.
use Rattle.definitions.specs.Refusals.{refused}
use mathlib.Core.Path.{◌≡◌, sym, ◌∙◌, ap, ap₂}
use mathlib.Core.Logic.{inl, inr}
use mathlib.Core.List.{List}
use Prim.Native.Nat.{ℕ, ◌*◌, ◌/◌, ◌≤◌}
use native.Mathlib.Omega.{arith}
use native.Mathlib.Nat.{mul-le-mul}
use lib.IntN.{ℤ}
use lib.ListN.{length}
use Rattle.definitions.specs.declared.Answer.TheVariants.{Moves}
use Rattle.definitions.specs.Limits.{generator_limit, group_limit, list_limit}
use Rattle.definitions.specs.Vector.{Vector}
use Rattle.definitions.specs.Group.{Exchange}
use Rattle.definitions.specs.Completion.{completed, final_rows, running, stopped}
use Rattle.definitions.specs.Completion as Defined
use Rattle.definitions.specs.Certified.{CertifiedCompletion, final_coefficients}
use Rattle.definitions.specs.Lent.{list_rows, vectors_of}
use Rattle.definitions.specs.Refusals.{Outcome, accepted}
use Rattle.definitions.specs.Calls.{CertifiedListing, certified_listing_of, listed_coefficients, listing_of, with_coefficients}
use Rattle.theory.proofs.Lists.{chunks-length}
use Rattle.theory.proofs.Rows.{rows-count}
use Rattle.certified_theory.proofs.Forgetting.{Follows, completed-forgets}
use Rattle.reduction.specs.declared.Extent.{Extent}
use Rattle.reduction.specs.declared.Shape.{Shape}
use Rattle.reduction.specs.Areas.{rows_at, sequences_in}
use Rattle.completion.specs.declared.State.{State}
use Rattle.completion.specs.Machine.{After, sizes_of, state_in}
use Rattle.completion.specs.Machine as Machine
use Rattle.certified.specs.Noting.{CertifiedTo, completed_in, noted_in, width_of}
use Rattle.moves.proofs.Steps.{few, stored-few, stored-marked}
use Rattle.certified_lists.specs.Found.{Arranged, CertifiedFinds, ClosedGroup, RowsAndCoefficients, certified_with}
use Rattle.certified_lists.proofs.Ends.{finds-refused}

-- an outcome of a completion and the coefficients of its rows
abbrev listed_as : (table : List Exchange) (c : Defined.Completion) (coefficients : List (List ℤ)) → Outcome CertifiedListing
listed_as table c coefficients = with_coefficients (listed_coefficients table coefficients c) (listing_of table c)

module _ {shape : Shape} {generators : List ℤ} {group : List ℕ} (C : ClosedGroup shape generators group)
    (list_size limit : ℕ) (rows : limit ≡ list_rows shape.n list_size) where
  abbrev n : ℕ
  n = shape.n

  abbrev m : ℕ
  m = width_of n generators

  abbrev table : List Exchange
  table = sequences_in shape group

  abbrev end : CertifiedCompletion
  end = completed_in (sizes_of shape limit) group generators generators

  abbrev due : Outcome CertifiedListing
  due = certified_with n list_size table generators

  due-is : due ≡ listed_as table end.completion end.coefficients
  unfolding certified_listing_of
  due-is = rw (← rows)

  module _ {list : List ℤ} {marks keys : List ℕ} {noted : List ℤ} where
    -- the completion was turned down
    pub certified-stopped : (number place : ℕ) {group_size size : ℕ} {coefficients : List ℤ}
        → CertifiedTo shape group list marks keys generators noted end (refused number place)
        → CertifiedFinds n list_size group_size size due list group coefficients (refused number place)
    unfolding with_coefficients listed_coefficients listing_of
    certified-stopped number place A = finds-refused (rw (due-is, ← A.after.answer))

    module _ (s : State) (A : CertifiedTo shape group list marks keys generators noted end (accepted s))
        (long : length list ≡ list_size) where
      abbrev extent : Extent
      extent = record { shape = shape; k = s.stored }

      -- it is the plain completion: 24 was not met
      plain : After shape group list marks keys (Machine.completed_in (sizes_of shape limit) group generators) (accepted s)
      plain = record { answer = go (completed-forgets basis table limit basis); held = A.after.held }
        where
          basis : List Vector
          basis = vectors_of n generators

          go : Follows (completed table limit basis) end → running (state_in n list s) ≡ completed table limit basis
          go (inl e) = A.after.answer ∙ e
          go (inr (place, e)) = absurd (never (A.after.answer ∙ e))
            where
              never : {place : ℕ} → running (state_in n list s) ≡ stopped 24 place → ⊥
              never f = let z : ◌≡◌ {A = ℕ} 0 1 = cc in omega arith

      -- the rows are held with their marks and keys, and their coefficients
      pub stored-noted : {coefficients : List ℤ} → list_limit * group_limit ≤ length marks
          → list_limit * generator_limit ≤ length noted → length coefficients ≡ list_size / n * m
          → RowsAndCoefficients extent m group list marks keys noted coefficients
      stored-noted {coefficients} wide deep room =
          let stays = stored-few C.grouped list_size limit rows s plain long in
          let l : s.stored ≤ list_limit = omega (arith, stays, few C.grouped list_size limit rows) in
          record {
            marked = stored-marked C.grouped list_size limit rows s plain long wide;
            few = l;
            narrow = C.closed.is_basis.few;
            holds = omega (arith, mul-le-mul l C.closed.is_basis.few, deep);
            limited = A.noted.limited;
            room = omega (arith, room, ap (λ (k : ℕ). k / n * m) long);
          }

      -- and then step 5
      pub certified-ended : {final coefficients : List ℤ} (count size : ℕ)
          → Arranged extent m group list noted final coefficients count size
          → CertifiedFinds n list_size (length group) size due final group coefficients (accepted (Moves count shape.g s.stored s.sums))
      unfolding with_coefficients listed_coefficients listing_of
      certified-ended {final} {coefficients} count size F = record {
        answer = rw (due-ended, F.finished.counted, chunks-length n shape.g group, rows-count n s.stored list);
        list_holds = λ found h. rw (← is-ended h, ← long) F.finished.lies;
        group_holds = λ found h. rw (← is-ended h) C.grouped.held;
        coefficients_hold = λ found h. rw (← is-ended h) F.arranged;
      }
        where
          kept : List Vector
          kept = final_rows table (rows_at n s.stored list)

          ended : CertifiedListing
          ended = record {
            listing = record { rows = kept; table = table; stored = length (rows_at n s.stored list); sums = s.sums };
            coefficients = final_coefficients table (rows_at n s.stored list) (noted_in n generators s.stored noted);
          }

          due-ended : due ≡ accepted ended
          due-ended = due-is ∙ sym (ap₂ (listed_as table) A.after.answer A.noted.rows)

          is-ended : {found : CertifiedListing} → due ≡ accepted found → ended ≡ found
          is-ended h = cc (sym due-ended ∙ h)
