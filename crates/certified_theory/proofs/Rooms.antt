-- An accepted order is accepted with every group area that has room for the group, and has the same table. Assumes
-- nothing.
use Rattle.definitions.specs.Refusals.{no_fault}
use mathlib.Core.Path.{◌≡◌, ap}
use mathlib.Core.Bool.{not}
use Prim.Native.Nat.{ℕ, ◌≤◌, ◌/◌}
use native.Mathlib.Omega.{arith}
use borrow.Author.Tests.{le-leb}
use lib.ListN.{length}
use Rattle.definitions.specs.Lent.{Order, exchanges_of, group_rows, table_of}
use Rattle.definitions.specs.Refusals.{numbers_fault, order_fault, symmetry_fault}
use Rattle.theory.proofs.GroupTable.{limit-free, table_fits, table-of-group}
use Rattle.theory.proofs.Accepted.{order-none, table-small}
use Rattle.theory.proofs.Faults.{none-all, none_end, none-if, tests-none}

module _ (order : Order) (group_size other : ℕ) (e : order_fault order group_size ≡ no_fault)
    (room : length (table_of order group_size) ≤ other / order.n) where
  fits : length (table_of order group_size) ≤ group_rows order.n other
  unfolding group_rows
  fits = omega (arith, room, table-small order group_size e)

  roomy : length (table_of order other) ≤ group_rows order.n other
  unfolding table_of
  roomy =
      (table_fits order.n (exchanges_of order) (group_rows order.n other) (table_of order group_size)
      (table-of-group order.n (exchanges_of order) (group_rows order.n group_size) (order-none order group_size e).roomy)).1 fits

  pub other-table : table_of order other ≡ table_of order group_size
  unfolding table_of
  other-table =
      limit-free order.n (exchanges_of order) (group_rows order.n other) (group_rows order.n group_size) roomy
      (order-none order group_size e).roomy

  pub other-order : order_fault order other ≡ no_fault
  unfolding order_fault symmetry_fault
  other-order =
      let numbers = (tests-none (numbers_fault order) _ e).0 in
      let room_fits = ap not (le-leb (length (table_of order other)) (group_rows order.n other) roomy) in
      let symmetry = none-all _ (none-if 10 room_fits) (none-all _ (order-none order group_size e).keeping none_end) in
      none-all _ numbers (none-all _ symmetry none_end)
