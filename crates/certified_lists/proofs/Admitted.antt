-- An order that a List with coefficients admits: in its group area is a table under which its generators are closed,
-- and its coefficients area has its size (Specification 2.10 and 7.3). Assumes nothing.
use mathlib.Core.Path.{◌≡◌, refl, ap}
use mathlib.Core.Bool.{Bool, true, false, not, ◌&&◌}
use mathlib.Core.List.{List}
use Prim.Native.Nat.{ℕ, ◌*◌, ◌/◌}
use native.Mathlib.Omega.{arith}
use lib.Dec.{eqb}
use lib.ListN.{length}
use Rattle.definitions.specs.Lent.{Order, generators_of, is_bare, table_of, vectors_of, whole_rows}
use Rattle.definitions.specs.Refusals.{Outcome, accepted, admission_fault, certified_fits}
use Rattle.theory.proofs.Members.{Each, each_of}
use Rattle.theory.proofs.Bounds.{each_within, within_more}
use Rattle.theory.proofs.Sizes.{OrderSized}
use Rattle.theory.proofs.Accepted.{Admitted, order-none, order-symmetric}
use Rattle.theory.proofs.Bare.{closed-members}
use Rattle.certified_theory.proofs.Fitting.{CertifiedSized, sizes-of-certified}
use Rattle.vectors.specs.Bounds.{headroom}
use Rattle.refusals.specs.Tests.{certified_sizes_fit}
use Rattle.admission.specs.Admission.{Tabled}
use Rattle.coefficients.specs.Carrying.{ClosedBy}
use Rattle.moves.specs.Found.{Grouped}
use Rattle.moves.proofs.Tables.{admitted, grouped-admitted, table-admitted}
use Rattle.certified_lists.specs.Found.{ClosedGroup}

-- the test of the numbers that were lent is that of the order
pub fits-order : (order : Order) (list_size size : ℕ)
    → certified_sizes_fit order.n (length order.generators) (length order.images) list_size size
    ≡ certified_fits order list_size size
unfolding certified_fits is_bare
fits-order order list_size size =
    let sized : Bool = eqb size (list_size / order.n * (length order.generators / order.n)) in
    ap (λ (b : Bool). whole_rows order.n list_size && sized && b) (not-not (eqb (length order.images) 0))
  where
    not-not : (b : Bool) → b ≡ not (not b)
    not-not true = refl
    not-not false = refl

-- 5 to 11, by the numbers of what else was lent
abbrev pub Tested : (order : Order) (list_size group_size size : ℕ) → List ℕ → Outcome ℕ → Type 0
Tested order list_size group_size size group r =
    let fits = certified_sizes_fit order.n (length order.generators) (length order.images) list_size size in
    Tabled group_size (admission_fault order group_size fits) (table_of order group_size) group r

-- none of them is met
module _ (order : Order) (list_size group_size size : ℕ) {g : ℕ} {group : List ℕ}
    (T : Tested order list_size group_size size group (accepted g)) (long : length group ≡ group_size) where
  P : Admitted order group_size (certified_fits order list_size size)
  P = rw (fits-order order list_size size) at (admitted order _ T long)

  Z : OrderSized order × CertifiedSized order list_size size
  Z = sizes-of-certified order list_size group_size size P.sizes_pass

  -- m coefficients for each list row
  pub room-admitted : size ≡ list_size / order.n * (length order.generators / order.n)
  room-admitted = Z.1.one_each

  -- each position of the table takes a generator to a generator or the negative of one
  table-closed : Each (ClosedBy (vectors_of order.n order.generators)) (table_of order group_size)
  unfolding generators_of
  table-closed =
      each_of (table_of order group_size) (λ s k.
      closed-members order group_size Z.1.not_bare P.cells_pass P.tests_pass s
      ((order-symmetric order group_size P.cells_pass P.tests_pass).is_table.sound s k))

  -- with the table in the group area
  pub closed-admitted : ClosedGroup (record { n = order.n; g = g }) order.generators group
  closed-admitted = record {
    grouped = G;
    closed = record {
      is_table = G.table;
      is_basis = record {
        positive = G.table.positive;
        narrow = G.table.narrow;
        few = Z.0.generators;
        limited = each_within headroom
            (within_more (omega arith) (order-none order group_size P.tests_pass).sendable.limited);
      };
      closed = rw (table-admitted order _ T long) table-closed;
    };
  }
    where
      G : Grouped (record { n = order.n; g = g }) order.generators group
      G = grouped-admitted order _ T long
