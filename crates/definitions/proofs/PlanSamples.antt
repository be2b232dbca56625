-- The proved sample plans end as the table says, by computation. Assumes nothing.
use mathlib.Core.Path.{refl}
use Rattle.definitions.specs.Lists.{range, every, any, select, concat, inserted, sorted, until}
use Rattle.definitions.specs.Vector.{padded, zeros, zero_vector, plus, negative, minus, minus_all, scale, total, weight, positive_sum, degree, within, is_zero, cell_below, below, cell_opposes, opposes, equal_cell, equal, is_member, greater}
use Rattle.definitions.specs.Lattice.{combination}
use Rattle.definitions.specs.Group.{named, distinct_cells, is_exchange, exchanged, identity, composed, earlier, with_row, with_rows, products, closure, group_table}
use Rattle.definitions.specs.Orbit.{signed, orbit, orbits, greatest, representative, rank, precedes}
use Rattle.definitions.specs.Completion.{stored_rows, first_state, begun, sum_of, sum_at, next, is_finished, first_below, subtracted, reduced, remainder, settled, step, is_over, run, sum_count, completed, has_other_below, final_rows}
use Rattle.definitions.specs.Lent.{whole_rows, whole_rows_up_to, chunks, rows_of, filled, vectors_of, numbers_of, is_bare, generators_of, exchanges_of, list_rows, group_rows, table_of}
use Rattle.definitions.specs.Refusals.{first_fault, fault_if, fault_from, fault_where, cells_fault, images_fit, order_fits, size_fault, is_past, is_generator, leaves_generators, is_uncertified, leaving_fault, sent_images, images_fault, lattice_fault, numbers_fault, symmetry_fault, order_fault, admission_fault, unless_fault}
use Rattle.definitions.specs.Calls.{listing_of, listing}
use Rattle.definitions.specs.Plan.{cost, is_bounded, feasible, fall, gain, best_of, best_step, best_gain, is_cheapest, improved, descent, reach, distance_bound, problem_fits, is_misplanned, problem_fault, plan_refused, terms_of, planned_at, plan_reached, descended_end, plan_of, plan_call}
use Rattle.definitions.specs.PlanSamples.{plan_called, plan_samples, PlanHold}

pub plan-samples-hold : PlanHold plan_samples
unfolding range every any select concat inserted sorted padded zeros zero_vector plus negative minus minus_all scale total weight positive_sum degree within is_zero cell_below below cell_opposes opposes equal_cell equal is_member greater combination named distinct_cells is_exchange exchanged identity composed earlier with_row with_rows products closure group_table signed orbit orbits greatest representative rank precedes stored_rows first_state begun sum_of sum_at next is_finished first_below subtracted reduced remainder settled step is_over run until sum_count completed has_other_below final_rows whole_rows whole_rows_up_to chunks rows_of filled vectors_of numbers_of is_bare generators_of exchanges_of list_rows group_rows table_of first_fault fault_if fault_from fault_where cells_fault images_fit order_fits size_fault is_past is_generator leaves_generators is_uncertified leaving_fault sent_images images_fault lattice_fault numbers_fault symmetry_fault order_fault admission_fault unless_fault listing_of listing cost is_bounded feasible fall gain best_of best_step best_gain is_cheapest improved descent reach distance_bound problem_fits is_misplanned problem_fault plan_refused terms_of planned_at plan_reached descended_end plan_of plan_call plan_called plan_samples
plan-samples-hold = (refl, (refl, (refl, (refl, (refl, (refl, (refl, (refl, (refl, (refl, (refl, (refl, (refl, tt)))))))))))))
