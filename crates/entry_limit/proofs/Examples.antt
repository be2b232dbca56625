-- The answers to orders with an entry of 5,000, and those under the entry limit before, by computation. Assumes nothing.
use Rattle.definitions.specs.Refusals.{accepted, refused}
use mathlib.Core.Path.{◌≡◌, refl}
use mathlib.Core.List.{[], ◌∷◌}
use lib.IntN.{pos}
use Rattle.definitions.specs.declared.Answer.TheVariants.{Moves, Passed}
use Rattle.definitions.specs.Lists.{range, every, any, select, concat, inserted, sorted, until}
use Rattle.definitions.specs.Vector.{padded, zeros, zero_vector, plus, negative, minus, minus_all, scale, total, weight, positive_sum, degree, within}
use Rattle.definitions.specs.Vector.{is_zero, cell_below, below, equal_cell, equal, is_member}
use Rattle.definitions.specs.Vector.{greater}
use Rattle.definitions.specs.Lattice.{combination}
use Rattle.definitions.specs.Group.{named, distinct_cells, is_exchange, exchanged, identity, composed, earlier, with_row}
use Rattle.definitions.specs.Group.{with_rows, products, closure, group_table}
use Rattle.definitions.specs.Orbit.{signed, orbit, orbits, greatest, representative, rank, precedes}
use Rattle.definitions.specs.Completion.{stored_rows, first_state, begun, sum_of, sum_at, next, is_finished, first_below}
use Rattle.definitions.specs.Completion.{subtracted, reduced, remainder, settled, step, is_over, run, sum_count, completed}
use Rattle.definitions.specs.Completion.{has_other_below, final_rows}
use Rattle.definitions.specs.Lent.{whole_rows, whole_rows_up_to, chunks, rows_of, filled, vectors_of, numbers_of, is_bare}
use Rattle.definitions.specs.Lent.{generators_of, exchanges_of, list_rows, group_rows, table_of}
use Rattle.definitions.specs.Refusals.{first_fault, fault_if, fault_from, fault_where, unless_fault, cells_fault, images_fit, order_fits}
use Rattle.definitions.specs.Refusals.{size_fault, brought_fits, is_past, is_generator, leaves_generators}
use Rattle.definitions.specs.Refusals.{numbers_fault, symmetry_fault, order_fault, admission_fault, is_unfit}
use Rattle.definitions.specs.Refusals.{is_uncertified, leaving_fault, sent_images, images_fault, lattice_fault}
use Rattle.definitions.specs.Refusals.{is_misplaced, rows_fault, sums_fault, wholeness_fault}
use Rattle.definitions.specs.Calls.{listing_of, listing, list_end, list_call}
use Rattle.definitions.specs.Calls.{rules_fault, check_fault, check_end, check_call}
use Rattle.entry_limit.specs.Calls.{settled_within, step_within, run_within, completed_within, numbers_fault_within}
use Rattle.entry_limit.specs.Calls.{order_fault_within, admission_fault_within, is_unfit_within, rows_fault_within}
use Rattle.entry_limit.specs.Calls.{listing_within, list_call_within, rules_fault_within, check_fault_within}
use Rattle.entry_limit.specs.Calls.{check_call_within}
use Rattle.entry_limit.specs.Examples.{answers, checked, halves, halves_coefficients, halves_rows, listed}
use Rattle.entry_limit.specs.Examples.{single, turned}

-- 7 where it was 13, 11 or a list; 12 where it was 13, at the same place, or a list; 17 where it was 20 or a pass
pub answers-before :
    (listed single 0 1 ≡ answers (refused 7 0) (refused 13 0))
    × (listed turned 2 4 ≡ answers (refused 7 0) (refused 11 0))
    × (listed single 1 1 ≡ answers (refused 7 0) (accepted (Moves 1 1 1 2)))
    × (listed halves 4 2 ≡ answers (refused 12 3) (refused 13 3))
    × (listed halves 8 2 ≡ answers (refused 12 3) (accepted (Moves 4 1 4 20)))
    × (checked halves (pos 5000 ∷ pos 0 ∷ []) (pos 1 ∷ pos 1 ∷ []) 2 ≡ answers (refused 17 0) (refused 20 0))
    × (checked halves halves_rows halves_coefficients 2 ≡ answers (refused 17 3) (accepted (Passed 4 20)))
unfolding range every any select concat inserted sorted padded zeros zero_vector plus negative minus minus_all scale total weight positive_sum degree within is_zero cell_below below equal_cell equal is_member greater combination named distinct_cells is_exchange exchanged identity composed earlier with_row with_rows products closure group_table signed orbit orbits greatest representative rank precedes stored_rows first_state begun sum_of sum_at next is_finished first_below subtracted reduced remainder settled step is_over run until sum_count completed has_other_below final_rows whole_rows whole_rows_up_to chunks rows_of filled vectors_of numbers_of is_bare generators_of exchanges_of list_rows group_rows table_of first_fault fault_if fault_from fault_where unless_fault cells_fault images_fit order_fits size_fault brought_fits is_past is_generator leaves_generators is_uncertified leaving_fault sent_images images_fault lattice_fault numbers_fault symmetry_fault order_fault admission_fault is_unfit is_misplaced rows_fault sums_fault wholeness_fault listing_of listing list_end list_call rules_fault check_fault check_end check_call settled_within step_within run_within completed_within numbers_fault_within order_fault_within admission_fault_within is_unfit_within rows_fault_within listing_within list_call_within rules_fault_within check_fault_within check_call_within
answers-before = (refl, refl, refl, refl, refl, refl, refl)
