-- One step of an order, and the end of its steps (Specification 3.2 to 3.4 and 3.8). Assumes nothing.
use Rattle.definitions.specs.Refusals.{Outcome, accepted, refused}
use Rattle.std.specs.declared.result.Result.TheVariants.{Err}
use mathlib.Core.Path.{◌≡◌, sym, ◌∙◌, ap, subst}
use mathlib.Core.Bool.{true}
use mathlib.Core.List.{List}
use Prim.Native.Nat.{ℕ, suc, ◌-◌, ◌≤◌, ◌<◌}
use native.Mathlib.Omega.{arith}
use borrow.Author.Tests.{le-leb}
use lib.IntN.{ℤ}
use lib.ListN.{length}
use Rattle.definitions.specs.Completion.{is_finished, is_over, running}
use Rattle.definitions.specs.Completion as Defined
use Rattle.theory.proofs.Steps.{steps, steps-over}
use Rattle.reduction.specs.Areas.{sequences_in}
use Rattle.completion.specs.declared.Sizes.{Sizes}
use Rattle.completion.specs.declared.State.{State}
use Rattle.completion.specs.Machine.{After, Ready, completion_in, state_in, stepped_in}
use Rattle.completion.proofs.Facts.{areas-again, rows_are}
use Rattle.certified.proofs.Advancing.{sound-next}
use Rattle.session_orders.specs.Ends.{Standing, Taken, taken_in}

-- no sum is left to try
pub finished : {sizes : Sizes} {table : List ℕ} {list : List ℤ} {marks keys : List ℕ} {s : State}
    → Ready sizes table list marks keys s → s.stored ≤ s.i → is_finished (state_in sizes.shape.n list s) ≡ true
unfolding is_finished
finished {sizes} {list = list} {s = s} R h =
    le-leb (length (state_in sizes.shape.n list s).rows) s.i (omega (arith, rows_are R))

-- what holds whenever the loop's test is reached: the steps that are left come to the end of all
pub record Looped (sizes : Sizes) (table : List ℕ) (list : List ℤ) (marks keys : List ℕ) (c : Outcome State) (left : ℕ)
    (end : Defined.Completion) : Type 0 where
  pub standing : Standing sizes table list marks keys c
  pub same : taken_in sizes table list c left ≡ end

module _ {sizes : Sizes} {table : List ℕ} {list : List ℤ} {marks keys : List ℕ} {left : ℕ}
    {end : Defined.Completion} where
  module _ {c : Outcome State} (L : Looped sizes table list marks keys c left end) where
    -- for a completion by its case
    pub looped_is : {d : Outcome State} → c ≡ d → Looped sizes table list marks keys d left end
    looped_is e = subst (λ (d : Outcome State). Looped sizes table list marks keys d left end) e L

    -- no step is left
    pub looped-end : left ≤ 0 → Taken sizes table list marks keys end c
    looped-end h =
        let none : 0 ≡ left = omega arith in
        record { answer = ap (taken_in sizes table list c) none ∙ L.same; standing = L.standing }

    -- a completion that is over is the end
    looped-over : is_over (completion_in sizes.shape.n list c) ≡ true → Taken sizes table list marks keys end c
    looped-over over =
        let now = completion_in sizes.shape.n list c in
        record {
          answer = sym (steps-over (sequences_in sizes.shape table) sizes.limit left now over) ∙ L.same;
          standing = L.standing;
        }

    -- .. it was turned down
    pub looped-stopped : {number place : ℕ} → c ≡ refused number place → Taken sizes table list marks keys end c
    unfolding is_over
    looped-stopped e = looped-over (ap (λ (d : Outcome State). is_over (completion_in sizes.shape.n list d)) e)

  module _ {s : State} (L : Looped sizes table list marks keys (accepted s) left end) where
    -- .. it has no sum left
    pub looped-finished : s.stored ≤ s.i → Taken sizes table list marks keys end (accepted s)
    unfolding is_over
    looped-finished h = looped-over L (finished L.standing.ready h)

    -- one more step
    module _ (unfinished : s.i < s.stored) {list' : List ℤ} {marks' keys' : List ℕ} (l : length list' ≡ length list)
        (m : length marks' ≡ length marks) where
      standing-next : (r : Outcome State) → After sizes.shape table list' marks' keys' (stepped_in sizes table list s) r
          → Standing sizes table list' marks' keys' r
      standing-next (Err r) A = record { ready = tt }
      standing-next (accepted t) A =
          let R = L.standing.ready in
          record {
            ready = record {
              areas = areas-again R.areas l m A.held.limited;
              setting = R.setting;
              marked = A.held.marked;
              progress = (sound-next R unfinished t A).0;
              counted = (sound-next R unfinished t A).1;
            };
          }

      pub looped-next : 0 < left → {r : Outcome State}
          → After sizes.shape table list' marks' keys' (stepped_in sizes table list s) r
          → Looped sizes table list' marks' keys' r (left - 1) end
      looped-next some {r} A =
          let G = sequences_in sizes.shape table in
          let now = running (state_in sizes.shape.n list s) in
          let one : suc (left - 1) ≡ left = omega arith in
          record {
            standing = standing-next r A;
            same = ap (steps G sizes.limit (left - 1)) A.answer
                ∙ ap (λ (k : ℕ). steps G sizes.limit k now) one
                ∙ L.same;
          }
