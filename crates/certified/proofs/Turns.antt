-- One turn of the run, and its end (Specification 3.2 to 3.4 and 3.7). Assumes nothing.
use Rattle.std.specs.declared.result.Result.TheVariants.{Err}
use Rattle.definitions.specs.declared.Refusal.{Refusal}
use Rattle.definitions.specs.Refusals.{accepted}
use mathlib.Core.Path.{◌≡◌, refl, sym, ◌∙◌, ap, ap₂}
use mathlib.Core.Logic.{inl, inr}
use mathlib.Core.Bool.{true}
use mathlib.Core.List.{List}
use Prim.Native.Nat.{ℕ, suc, ◌+◌, ◌-◌, ◌≤◌, ◌<◌}
use native.Mathlib.Omega.{arith}
use borrow.Author.Tests.{le-leb}
use lib.ListN.{length}
use lib.IntN.{ℤ}
use Rattle.definitions.specs.Lists.{until}
use Rattle.definitions.specs.Vector.{Vector}
use Rattle.definitions.specs.Group.{Exchange}
use Rattle.definitions.specs.Completion.{is_finished, is_over, running, stopped, sum_count}
use Rattle.definitions.specs.Completion as Defined
use Rattle.definitions.specs.Certified.{CertifiedCompletion, certified_step, is_over_certified}
use Rattle.definitions.specs.Lent.{vectors_of}
use Rattle.theory.proofs.Counting.{fewer}
use Rattle.certified_theory.proofs.Forgetting.{Follows, step_follows}
use Rattle.certified_theory.proofs.Stopping.{until-over, until-turn}
use Rattle.reduction.specs.Areas.{sequences_in}
use Rattle.completion.specs.declared.Sizes.{Sizes}
use Rattle.completion.specs.declared.State.{State}
use Rattle.completion.specs.Machine.{After, Ready, state_in, stepped_in}
use Rattle.completion.proofs.Facts.{areas-again, left-rows, rows_are}
use Rattle.certified.specs.Noting.{CertifiedTo, Limited, Notable, advanced_in, standing_in}
use Rattle.certified.proofs.Advancing.{certified-same, notable-again, sound-next, sums_next, unfinished}

-- a completion that was turned down is over
pub stopped-over : (x : CertifiedCompletion) {number place : ℕ} → stopped number place ≡ x.completion
    → is_over_certified x ≡ true
unfolding is_over_certified is_over
stopped-over x e = ap is_over (sym e)

-- the most sums that can be tried
abbrev pub all_sums : Sizes → (table : List ℕ) → ℕ
all_sums sizes table = sum_count (length (sequences_in sizes.shape table)) sizes.limit

-- one sum
abbrev pub turn : Sizes → (table : List ℕ) (basis : List ℤ) → CertifiedCompletion → CertifiedCompletion
turn sizes table basis =
    certified_step (vectors_of sizes.shape.n basis) (sequences_in sizes.shape table) sizes.limit

-- what holds whenever the loop's test is reached: the sums that are left come to the whole run's end
pub record Looped (sizes : Sizes) (table : List ℕ) (list : List ℤ) (marks keys : List ℕ) (basis coefficients : List ℤ)
    (s : State) (end : CertifiedCompletion) : Type 0 where
  pub ready : Ready sizes table list marks keys s
  pub notable : Notable sizes.shape sizes.limit table basis coefficients
  pub limited : Limited sizes.shape.n basis s.stored coefficients
  pub same : until is_over_certified (turn sizes table basis) (all_sums sizes table - s.sums)
      (standing_in sizes.shape list basis coefficients s) ≡ end

module _ {sizes : Sizes} {table : List ℕ} {list : List ℤ} {marks keys : List ℕ} {basis coefficients : List ℤ} {s : State}
    {end : CertifiedCompletion} (L : Looped sizes table list marks keys basis coefficients s end) where
  abbrev G : List Exchange
  G = sequences_in sizes.shape table

  abbrev generators : List Vector
  generators = vectors_of sizes.shape.n basis

  abbrev all : ℕ
  all = all_sums sizes table

  abbrev state : Defined.State
  state = state_in sizes.shape.n list s

  abbrev standing : CertifiedCompletion
  standing = standing_in sizes.shape list basis coefficients s

  -- no sum is left
  pub looped-end : s.stored ≤ s.i
      → CertifiedTo sizes.shape table list marks keys basis coefficients end (accepted s)
  unfolding is_over_certified is_over is_finished
  looped-end h =
      let over = le-leb (length state.rows) s.i (omega (arith, rows_are L.ready)) in
      let e = sym (until-over is_over_certified (turn sizes table basis) (all - s.sums) standing over) ∙ L.same in
      certified-same e (record {
        after = record {
          answer = refl;
          held = record { limited = L.ready.areas.limited; marked = L.ready.marked };
        };
        noted = record { rows = refl; limited = L.limited };
      })

  module _ (left : s.i < s.stored) where
    few : s.sums < all
    few = fewer (length G) sizes.limit state L.ready.counted (left-rows L.ready left)

    abbrev advanced : CertifiedCompletion
    advanced = advanced_in sizes table list basis coefficients s

    open-run : end ≡ until is_over_certified (turn sizes table basis) (all - (s.sums + 1)) advanced
    unfolding is_over_certified is_over
    open-run =
        let k : all - s.sums ≡ suc (all - (s.sums + 1)) = omega (arith, few) in
        sym L.same
        ∙ ap (λ (m : ℕ). until is_over_certified (turn sizes table basis) m standing) k
        ∙ until-turn is_over_certified (turn sizes table basis) (all - (s.sums + 1)) standing (unfinished L.ready left)

    module _ {list' : List ℤ} {marks' keys' : List ℕ} {coefficients' : List ℤ} where
      -- the sum was turned down
      pub looped-stop : {r : Refusal}
          → CertifiedTo sizes.shape table list' marks' keys' basis coefficients' advanced (Err r)
          → CertifiedTo sizes.shape table list' marks' keys' basis coefficients' end (Err r)
      looped-stop A =
          let over = stopped-over advanced A.after.answer in
          let e = open-run ∙ until-over is_over_certified (turn sizes table basis) (all - (s.sums + 1)) advanced over in
          certified-same (sym e) A

      -- the sum came to t
      module _ (t : State)
          (A : CertifiedTo sizes.shape table list' marks' keys' basis coefficients' advanced (accepted t)) where
        abbrev later : Defined.State
        later = state_in sizes.shape.n list' t

        -- .. and so did the step of the completion
        stepped : After sizes.shape table list' marks' keys' (stepped_in sizes table list s) (accepted t)
        stepped = record { answer = go (step_follows generators G sizes.limit standing); held = A.after.held }
          where
            go : Follows (stepped_in sizes table list s) advanced → running later ≡ stepped_in sizes table list s
            go (inl e) = A.after.answer ∙ e
            go (inr (place, e)) = absurd (never (A.after.answer ∙ e))
              where
                never : {place : ℕ} → running later ≡ stopped 24 place → ⊥
                never f = let z : ◌≡◌ {A = ℕ} 0 1 = cc in omega arith

        next-is : standing_in sizes.shape list' basis coefficients' t ≡ advanced
        next-is =
            ap₂ (λ (c : Defined.Completion) (cs : List (List ℤ)). record { completion = c; coefficients = cs })
            A.after.answer A.noted.rows

        pub looped-next : length list' ≡ length list → length marks' ≡ length marks
            → length coefficients' ≡ length coefficients
            → Looped sizes table list' marks' keys' basis coefficients' t end
        looped-next l m k = record {
          ready = record {
            areas = areas-again L.ready.areas l m A.after.held.limited;
            setting = L.ready.setting;
            marked = A.after.held.marked;
            progress = (sound-next L.ready left t stepped).0;
            counted = (sound-next L.ready left t stepped).1;
          };
          notable = notable-again L.notable k;
          limited = A.noted.limited;
          same = ap₂ (λ (m : ℕ) (x : CertifiedCompletion). until is_over_certified (turn sizes table basis) (all - m) x)
              (sums_next L.ready left t stepped) next-is
              ∙ sym open-run;
        }

        -- and fewer sums are left
        pub looped-less : all - t.sums < all - s.sums
        looped-less = omega (arith, few, sums_next L.ready left t stepped)
