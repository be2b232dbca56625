-- A group area that holds the table of an accepted order (Specification 2.5). Assumes nothing.
use mathlib.Core.Path.{◌≡◌}
use mathlib.Core.Bool.{Bool}
use mathlib.Core.List.{List}
use Prim.Native.Nat.{ℕ, ◌≤◌}
use native.Mathlib.Omega.{arith}
use native.Mathlib.Nat.{mul-le-mul_right}
use lib.ListN.{length}
use Rattle.definitions.specs.Limits.{entry_limit, group_limit}
use Rattle.definitions.specs.Lists.{concat}
use Rattle.definitions.specs.Vector.{zero_vector}
use Rattle.definitions.specs.Group.{Exchange}
use Rattle.definitions.specs.Lent.{Order, filled, exchanges_of, generators_of, group_rows, table_of}
use Rattle.definitions.specs.Refusals.{accepted, admission_fault, no_fault}
use Rattle.theory.proofs.Members.{Each}
use Rattle.theory.proofs.Bounds.{Within}
use Rattle.theory.proofs.GroupTable.{area-rows, table-valid}
use Rattle.theory.proofs.Accepted.{Admitted, admission-none, cells-none, order-none, order-symmetric, order-generators}
use Rattle.theory.proofs.Symmetric.{Symmetric}
use Rattle.theory.proofs.Completion.{table-positive}
use Rattle.admission.specs.Admission.{Tabled}
use Rattle.admission.proofs.Tests.{admission-members, rows_inside}
use Rattle.reduction.specs.declared.Shape.{Shape}
use Rattle.reduction.specs.Areas.{sequences_in}
use Rattle.moves.specs.Found.{Grouped}

-- the table of an admitted order in a group area of `size` numbers
module _ {order : Order} {size : ℕ} {fits : Bool} (P : Admitted order size fits) {group : List ℕ} (held : group ≡ filled 0 size (concat (table_of order size)))
    (long : length group ≡ size) {g : ℕ} (count : g ≡ length (table_of order size)) where
  abbrev table : List Exchange
  table = table_of order size

  abbrev shape : Shape
  shape = record { n = order.n; g = g }

  O : Symmetric order.n (exchanges_of order) table (generators_of order)
  O = order-symmetric order size P.cells_pass P.tests_pass

  -- the rows of the area are the table
  pub held-table : sequences_in shape group ≡ table
  unfolding table_of
  held-table = rw (count, held) (area-rows order.n (exchanges_of order) O.exchanges (group_rows order.n size) size)

  G : Each (λ v. ¬ (v ≡ zero_vector)) (generators_of order) × Each (Within entry_limit) (generators_of order)
  G = order-generators order size P.tests_pass

  few : g ≤ group_rows order.n size
  few = omega (arith, (order-none order size P.tests_pass).roomy, count)

  pub held-grouped : Grouped shape order.generators group
  unfolding group_rows generators_of
  held-grouped = record {
    table = record {
      positive = (cells-none order.n P.cells_pass).least;
      narrow = (cells-none order.n P.cells_pass).most;
      holds = omega (arith, mul-le-mul_right {m = g} {n = group_rows order.n size} order.n few, rows_inside group_limit order.n size, long);
      valid = λ s m. table-valid order.n (exchanges_of order) O.exchanges table O.is_table s (rw held-table at m);
    };
    some = omega (arith, table-positive O G.0 G.1, count);
    small = omega (arith, few);
    admissible = record {
      sent = exchanges_of order;
      symmetric = rw held-table O;
      nonzero = G.0;
      entries = G.1;
    };
    held = rw (long, held-table) held;
  }

-- what an admission leaves: the table of its order in the group area
module _ (order : Order) (fits : Bool) {size g : ℕ} {group : List ℕ} (T : Tabled size (admission_fault order size fits) (table_of order size) group (accepted g)) (long : length group ≡ size) where
  pub passed : (admission_fault order size fits ≡ no_fault) × (g ≡ length (table_of order size))
  passed = admission-members _ _ T.answer

  pub admitted : Admitted order size fits
  admitted = admission-none order size fits passed.0

  pub held_admitted : group ≡ filled 0 size (concat (table_of order size))
  held_admitted = T.held passed.0

  pub table-admitted : sequences_in (record { n = order.n; g = g }) group ≡ table_of order size
  table-admitted = held-table admitted held_admitted long passed.1

  pub grouped-admitted : Grouped (record { n = order.n; g = g }) order.generators group
  grouped-admitted = held-grouped admitted held_admitted long passed.1
