-- `test_both` meets its contract: both orders' tests, and one table. Assumes nothing.
use Rattle.definitions.specs.Refusals.{Fault}
use mathlib.Core.Path.{◌≡◌, sym, ◌∙◌, ap, ap₂}
use mathlib.Core.List.{[], ◌∷◌}
use Prim.Native.Nat.{ℕ}
use lib.ListN.{length}
use Rattle.definitions.specs.Lent.{Order, order_of}
use Rattle.definitions.specs.Refusals.{first_fault, lattice_fault}
use Rattle.definitions.specs.Session.{difference_fault, difference_from, own_fault, shared_fault}
use Rattle.session_theory.proofs.Tests.{shared_same}
use Rattle.sessions.specs.Found.{any_left, late_fault, shared_in}
use Rattle.sessions.proofs.Testing.{early-numbered, early_fault, found-both, left-exchangeable, tabled-order}
use Rattle.sessions.proofs.test_both.Goals as goal

-- up to 9
module _ (first second : Order) (list size : ℕ) {shared early : Fault} (s : shared ≡ shared_in first.n second.n list) where
  early-first : early ≡ first_fault (shared ∷ own_fault first size ∷ difference_from first.n 0 first.exchanges second.exchanges ∷ [])
      → early ≡ early_fault first second list size
  unfolding difference_fault shared_fault
  early-first e =
      e ∙ ap (λ (f : Fault). first_fault (f ∷ own_fault first size ∷ difference_fault first second ∷ [])) s

  early-second : early ≡ first_fault (shared ∷ own_fault second size ∷ difference_from second.n 0 second.exchanges first.exchanges ∷ [])
      → early ≡ early_fault second first list size
  unfolding difference_fault shared_fault
  early-second e =
      e ∙ ap (λ (f : Fault). first_fault (f ∷ own_fault second size ∷ difference_fault second first ∷ []))
      (s ∙ shared_same first second list)

pub build_table-members-requires : goal.build_table-members-requires
build_table-members-requires c =
    let a = c.args in
    let first = order_of a.n0 a.generators0.now a.exchanges0.now a.images0.now in
    let second = order_of a.n1 a.generators1.now a.exchanges1.now a.images1.now in
    let size = length a.group.now in
    let s = c.shared_fault-shared.ensures.met in
    let e₀ = early-first first second a.list size s c.early_fault-first.ensures.met in
    let e₁ = early-second first second a.list size s c.early_fault-second.ensures.met in record {
      valid = λ e. left-exchangeable first second a.list size (sym (ap₂ any_left e₀ e₁) ∙ sym c.is_left.ensures.told ∙ e);
    }

pub late_fault-requires : goal.late_fault-requires
late_fault-requires c =
    let a = c.args in
    let first = order_of a.n0 a.generators0.now a.exchanges0.now a.images0.now in
    let second = order_of a.n1 a.generators1.now a.exchanges1.now a.images1.now in
    let size = length a.group.now in
    let e₀ = early-first first second a.list size c.shared_fault-shared.ensures.met c.early_fault-first.ensures.met in
    record { numbered = λ e. early-numbered first second a.list size (sym e₀ ∙ e) }

pub late_fault-requires-2 : goal.late_fault-requires-2
late_fault-requires-2 c =
    let a = c.args in
    let first = order_of a.n0 a.generators0.now a.exchanges0.now a.images0.now in
    let second = order_of a.n1 a.generators1.now a.exchanges1.now a.images1.now in
    let size = length a.group.now in
    let e₁ = early-second first second a.list size c.shared_fault-shared.ensures.met c.early_fault-second.ensures.met in
    record { numbered = λ e. early-numbered second first a.list size (sym e₁ ∙ e) }

pub returns : goal.returns
returns c =
    let a = c.args in
    let first = order_of a.n0 a.generators0.now a.exchanges0.now a.images0.now in
    let second = order_of a.n1 a.generators1.now a.exchanges1.now a.images1.now in
    let size = length a.group.now in
    let s = c.shared_fault-shared.ensures.met in
    let e₀ = early-first first second a.list size s c.early_fault-first.ensures.met in
    let e₁ = early-second first second a.list size s c.early_fault-second.ensures.met in
    let members = c.build_table-members.result in record {
      found = found-both first second a.list size _ _
          (c.late_fault.ensures.met ∙ ap (λ (x : Fault). late_fault x members (lattice_fault first)) e₀)
          (c.late_fault-2.ensures.met ∙ ap (λ (x : Fault). late_fault x members (lattice_fault second)) e₁)
          (λ h. tabled-order a.n0 a.generators0.now a.exchanges0.now a.images0.now
          (c.build_table-members.ensures.built (c.is_left.ensures.told ∙ ap₂ any_left e₀ e₁ ∙ h)));
    }
