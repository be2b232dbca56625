-- The examples of pairs of plan calls whose problems differ in one cost, by computation. Assumes nothing.
use mathlib.Core.Path.{refl}
use Rattle.definitions.specs.Lists.{range, every, any, select, concat, inserted, sorted, until}
use Rattle.definitions.specs.Vector.{padded, zeros, zero_vector, plus, negative, minus, minus_all, scale, weight}
use Rattle.definitions.specs.Vector.{positive_sum, degree, within, is_zero, cell_below, below, equal_cell, equal}
use Rattle.definitions.specs.Vector.{is_member, greater}
use Rattle.definitions.specs.Group.{named, distinct_cells, is_exchange, exchanged, identity, composed, earlier, with_row}
use Rattle.definitions.specs.Group.{with_rows, products, closure, group_table}
use Rattle.definitions.specs.Orbit.{signed, orbit, orbits, greatest, representative, rank, precedes}
use Rattle.definitions.specs.Completion.{stored_rows, first_state, begun, sum_of, sum_at, next, is_finished, first_below}
use Rattle.definitions.specs.Completion.{subtracted, reduced, remainder, settled, step, is_over, run, sum_count}
use Rattle.definitions.specs.Completion.{completed, has_other_below, final_rows}
use Rattle.definitions.specs.Lent.{whole_rows, whole_rows_up_to, chunks, rows_of, filled, vectors_of, numbers_of, is_bare}
use Rattle.definitions.specs.Lent.{generators_of, exchanges_of, list_rows, group_rows, table_of}
use Rattle.definitions.specs.Refusals.{first_fault, fault_if, fault_from, fault_where, unless_fault, cells_fault, images_fit}
use Rattle.definitions.specs.Refusals.{order_fits, size_fault, is_past, is_generator, leaves_generators, leaving_fault, lattice_fault}
use Rattle.definitions.specs.Refusals.{numbers_fault, symmetry_fault, order_fault, admission_fault}
use Rattle.definitions.specs.Calls.{listing_of, listing}
use Rattle.definitions.specs.Plan.{cost, is_bounded, feasible, fall, gain, best_of, best_step, best_gain, is_cheapest}
use Rattle.definitions.specs.Plan.{improved, descent, reach, distance_bound, problem_fits, is_misplanned, problem_fault}
use Rattle.definitions.specs.Plan.{terms_of, planned_at, plan_reached, descended_end, plan_of, plan_call}
use Rattle.plan_theory.specs.Sensitivity.{call_total, perturbed, says_cheapest, sensitivity_bound}
use Rattle.plan_theory.specs.Examples.{ExamplesHold}

pub examples-hold : ExamplesHold
unfolding range every any select concat inserted sorted padded zeros zero_vector plus negative minus minus_all scale weight positive_sum degree within is_zero cell_below below equal_cell equal is_member greater named distinct_cells is_exchange exchanged identity composed earlier with_row with_rows products closure group_table signed orbit orbits greatest representative rank precedes stored_rows first_state begun sum_of sum_at next is_finished first_below subtracted reduced remainder settled step is_over run until sum_count completed has_other_below final_rows whole_rows whole_rows_up_to chunks rows_of filled vectors_of numbers_of is_bare generators_of exchanges_of list_rows group_rows table_of first_fault fault_if fault_from fault_where unless_fault cells_fault images_fit order_fits size_fault is_past is_generator leaves_generators leaving_fault lattice_fault numbers_fault symmetry_fault order_fault admission_fault listing_of listing cost is_bounded feasible fall gain best_of best_step best_gain is_cheapest improved descent reach distance_bound problem_fits is_misplanned problem_fault terms_of planned_at plan_reached descended_end plan_of plan_call call_total perturbed says_cheapest sensitivity_bound
examples-hold = (refl, refl, refl, refl, refl, refl)
