-- What the tests of sizes say of a List with coefficients that meets none (Specification 7.3). Assumes nothing.
use Rattle.definitions.specs.Refusals.{no_fault}
use mathlib.Core.Path.{◌≡◌, refl, ◌∙◌, ap₂}
use mathlib.Core.Bool.{Bool, true, false, not, ◌&&◌}
use Prim.Native.Nat.{ℕ, ◌*◌, ◌/◌}
use borrow.Author.Tests.{eq-eqb, eqb-true, not-true}
use lib.Dec.{eqb}
use lib.ListN.{length}
use Rattle.definitions.specs.Lent.{Order, is_bare, whole_rows}
use Rattle.definitions.specs.Refusals.{accepted, admission_fault, certified_fits, size_fault}
use Rattle.definitions.specs.Calls.{CertifiedListing, certified_listing}
use Rattle.theory.proofs.Tests.{and-true-left, and-true-right}
use Rattle.theory.proofs.Faults.{unless-none}
use Rattle.theory.proofs.Sizes.{OrderSized, sizes-of-order}
use Rattle.theory.proofs.Accepted.{Admitted, admission-none}

-- what a List with coefficients lends has its size, and the order is not bare
pub record CertifiedSized (order : Order) (list_size coefficient_size : ℕ) : Type 0 where
  pub whole : whole_rows order.n list_size ≡ true
  pub one_each : coefficient_size ≡ list_size / order.n * (length order.generators / order.n)
  pub not_bare : is_bare order ≡ false

pub certified-sized : (order : Order) (list_size coefficient_size : ℕ)
    → certified_fits order list_size coefficient_size ≡ true
    → CertifiedSized order list_size coefficient_size
unfolding certified_fits
certified-sized order list_size coefficient_size e =
    let whole : Bool = whole_rows order.n list_size in
    let due : ℕ = list_size / order.n * (length order.generators / order.n) in
    let sizes = and-true-left (whole && eqb coefficient_size due) (not (is_bare order)) e in
    record {
      whole = and-true-left whole (eqb coefficient_size due) sizes;
      one_each = eqb-true coefficient_size due (and-true-right whole (eqb coefficient_size due) sizes);
      not_bare = not-true (is_bare order) (and-true-right (whole && eqb coefficient_size due) (not (is_bare order)) e);
    }

-- where the coefficients area has its size and the order is not bare, both calls test the same sizes
pub fits-alike : (order : Order) (list_size coefficient_size : ℕ)
    → coefficient_size ≡ list_size / order.n * (length order.generators / order.n) → is_bare order ≡ false
    → certified_fits order list_size coefficient_size ≡ whole_rows order.n list_size
unfolding certified_fits
fits-alike order list_size coefficient_size sized full =
    ap₂ (λ (a b : Bool). whole_rows order.n list_size && a && not b)
    (eq-eqb coefficient_size (list_size / order.n * (length order.generators / order.n)) sized) full
    ∙ alone (whole_rows order.n list_size)
  where
    alone : (a : Bool) → (a && true && not false) ≡ a
    alone true = refl
    alone false = refl

-- 6
pub sizes-of-certified : (order : Order) (list_size group_size coefficient_size : ℕ)
    → size_fault order group_size (certified_fits order list_size coefficient_size) ≡ no_fault
    → OrderSized order × CertifiedSized order list_size coefficient_size
sizes-of-certified order list_size group_size coefficient_size e =
    let Z = sizes-of-order order group_size (certified_fits order list_size coefficient_size) e in
    (Z.0, certified-sized order list_size coefficient_size Z.1)

-- an accepted call met none of 5 to 11
pub certified-admitted : (order : Order) (list_size group_size coefficient_size : ℕ) (found : CertifiedListing)
    → certified_listing order list_size group_size coefficient_size ≡ accepted found
    → Admitted order group_size (certified_fits order list_size coefficient_size)
unfolding certified_listing
certified-admitted order list_size group_size coefficient_size found e =
    admission-none order group_size (certified_fits order list_size coefficient_size)
    (unless-none (admission_fault order group_size (certified_fits order list_size coefficient_size)) _ e).0
