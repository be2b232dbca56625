-- How the commands make up the scan, and what its answers say (Specification 8.3). Assumes nothing.
use Rattle.definitions.specs.Refusals.{Outcome, accepted, refused}
use mathlib.Core.Path.{◌≡◌, refl, sym, ap, subst, ◌∙◌}
use mathlib.Core.List.{List}
use Prim.Native.Nat.{ℕ, zero, suc, ◌+◌, ◌≤◌, ◌<◌}
use native.Mathlib.Omega.{arith}
use lib.ListN.{length}
use Rattle.orders.specs.declared.Service.{Service}
use Rattle.orders.specs.declared.Progress.{Progress}
use Rattle.orders.specs.declared.Counts.{Counts}
use Rattle.orders.specs.declared.Step.{Step}
use Rattle.orders.specs.declared.Step.TheVariants.{Next, Stop}
use Rattle.orders.specs.Scan.{Few, step_of, after, scan_from, scan_of, start}
use Rattle.orders.proofs.Sizes.{length_most}
use Rattle.orders.proofs.Steps.{Exact, Sound, TurnedDown, Answered, Kept, kept}

-- ---- the loop

-- what is left of the scan, with some fuel, is the whole scan
pub record Going (v : Service) (order : List ℕ) (s : Progress) : Type 0 where
  pub sound : Sound order s
  pub fuel : ℕ
  pub enough : length order < s.at + fuel
  pub same : scan_from fuel v order s ≡ scan_of v order

-- nothing is read
pub sound-start : (order : List ℕ) → Sound order start
sound-start order = record {
  within = record {
    inside = omega arith;
    few = record { cells-ok = omega arith; generators-ok = omega arith; exchanges-ok = omega arith; images-ok = omega arith; rows_ok = omega arith; bare-ok = λ h. omega arith };
  };
  reached = refl;
  imaged = refl;
}

-- the whole scan is left
pub going_start : (v : Service) (order : List ℕ) → Going v order start
unfolding scan_of
going_start v order = record { sound = sound-start order; fuel = suc (length order); enough = omega arith; same = refl }

module _ (v : Service) (order : List ℕ) (s : Progress) where
  -- one command
  pub one_more : (fuel : ℕ) {x : Step} → step_of v order s ≡ x → scan_from (suc fuel) v order s ≡ after x (scan_from fuel v order)
  unfolding scan_from
  one_more fuel e = ap (λ (x : Step). after x (scan_from fuel v order)) e

  -- it goes on
  pub moved : (t : Progress) → Sound order s → step_of v order s ≡ Next t → Kept order s.at (Next t)
  moved t sound e = subst (Kept order s.at) e (kept order v s sound)

  -- what is then left
  going-fuel : (t : Progress) (fuel : ℕ) → Sound order s → length order < s.at + fuel → step_of v order s ≡ Next t → scan_from fuel v order s ≡ scan_of v order → Going v order t
  unfolding after
  going-fuel t zero sound h e q = absurd (let w = sound.within.inside in omega arith)
  going-fuel t (suc fuel) sound h e q =
      let m = moved t sound e in
      record { sound = m.0; fuel = fuel; enough = omega (arith, m.1); same = sym (one_more fuel e) ∙ q }

  -- the same, with any fuel that is enough
  pub going_on : (t : Progress) → Going v order s → step_of v order s ≡ Next t → Going v order t
  going_on t g e = going-fuel t g.fuel g.sound g.enough e g.same

  -- it stops: nothing is left
  stop-fuel : (found : Outcome Counts) (fuel : ℕ) → Sound order s → length order < s.at + fuel → step_of v order s ≡ Stop found → scan_from fuel v order s ≡ scan_of v order → found ≡ scan_of v order
  unfolding after
  stop-fuel found zero sound h e q = absurd (let w = sound.within.inside in omega arith)
  stop-fuel found (suc fuel) sound h e q = sym (one_more fuel e) ∙ q

  -- the same, with any fuel that is enough
  pub going_end : (found : Outcome Counts) → Going v order s → step_of v order s ≡ Stop found → found ≡ scan_of v order
  going_end found g e = stop-fuel found g.fuel g.sound g.enough e g.same

-- ---- the answers

-- a command, and what follows it
answered-after : (order : List ℕ) (at : ℕ) (x : Step) (rest : Progress → Outcome Counts) → Kept order at x
    → ((t : Progress) → x ≡ Next t → Answered order (rest t)) → Answered order (after x rest)
unfolding after
answered-after order at (Next t) rest k h = h t refl
answered-after order at (Stop found) rest k h = k

-- from any command on
answered-from : (v : Service) (order : List ℕ) (fuel : ℕ) (s : Progress) → Sound order s → length order < s.at + fuel → Answered order (scan_from fuel v order s)
unfolding scan_from
answered-from v order zero s sound h = absurd (let w = sound.within.inside in omega arith)
answered-from v order (suc fuel) s sound h =
    answered-after order s.at (step_of v order s) (scan_from fuel v order) (kept order v s sound)
    (λ t e. let m = moved v order s t sound e in answered-from v order fuel t m.0 (omega (arith, m.1)))

-- from the first command on
pub answered : (v : Service) (order : List ℕ) → Answered order (scan_of v order)
unfolding scan_of
answered v order = answered-from v order (suc (length order)) start (sound-start order) (omega arith)

-- the counts of an accepted order keep the limits, and it is no longer than the longest
pub accepted-few : (v : Service) (order : List ℕ) (c : Counts) → scan_of v order ≡ accepted c → Few c × (length order ≤ length_most)
accepted-few v order c e = (subst (Answered order) e (answered v order)).0

-- it has all IMAGEs that are due, or none
pub accepted-exact : (v : Service) (order : List ℕ) (c : Counts) → scan_of v order ≡ accepted c → Exact c
accepted-exact v order c e = (subst (Answered order) e (answered v order)).1

-- a refusal is one of 1 to 6, and its place lies in the order or at its end
pub turned_down : (v : Service) (order : List ℕ) (number place : ℕ) → scan_of v order ≡ refused number place → TurnedDown order number place
turned_down v order number place e = subst (Answered order) e (answered v order)
