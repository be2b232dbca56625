-- The proved sample sessions end as the table says, by computation. Assumes nothing.
use mathlib.Core.Path.{refl}
use Rattle.definitions.specs.Lists.{range, every, any, select, concat, inserted, sorted}
use Rattle.definitions.specs.Vector.{padded, zeros, zero_vector, plus, negative, minus, minus_all, scale, total, weight, positive_sum, degree, within, is_zero, cell_below, below, cell_opposes, opposes, equal_cell, equal, is_member, greater}
use Rattle.definitions.specs.Lattice.{combination}
use Rattle.definitions.specs.Group.{named, distinct_cells, is_exchange, exchanged, identity, composed, earlier, with_row, with_rows, products, closure, group_table}
use Rattle.definitions.specs.Orbit.{signed, orbit, orbits, greatest, representative, rank, precedes}
use Rattle.definitions.specs.Completion.{stored_rows, first_state, begun, sum_of, sum_at, next, is_finished, first_below, subtracted, reduced, remainder, settled, step, is_over, sum_count, has_other_below, final_rows}
use Rattle.definitions.specs.Lent.{whole_rows, whole_rows_up_to, chunks, rows_of, filled, vectors_of, numbers_of, is_bare, generators_of, exchanges_of, list_rows, group_rows, table_of}
use Rattle.definitions.specs.Refusals.{first_fault, fault_if, fault_from, fault_where, cells_fault, images_fit, order_fits, size_fault, is_past, is_generator, leaves_generators, is_uncertified, leaving_fault, sent_images, images_fault, lattice_fault, numbers_fault, symmetry_fault}
use Rattle.definitions.specs.Calls.{listing_of}
use Rattle.definitions.specs.Session.{half, shared_fault, difference_from, difference_fault, own_fault, session_fault, unless_met, started, session_step, session_steps, result_of, is_refused, ending_of, half_of, session_end, session_call}
use Rattle.definitions.specs.SessionSamples.{session_called, session_samples, SessionHold}

pub session-samples-hold : SessionHold session_samples
unfolding range every any select concat inserted sorted padded zeros zero_vector plus negative minus minus_all scale total weight positive_sum degree within is_zero cell_below below cell_opposes opposes equal_cell equal is_member greater combination named distinct_cells is_exchange exchanged identity composed earlier with_row with_rows products closure group_table signed orbit orbits greatest representative rank precedes stored_rows first_state begun sum_of sum_at next is_finished first_below subtracted reduced remainder settled step is_over sum_count has_other_below final_rows whole_rows whole_rows_up_to chunks rows_of filled vectors_of numbers_of is_bare generators_of exchanges_of list_rows group_rows table_of first_fault fault_if fault_from fault_where cells_fault images_fit order_fits size_fault is_past is_generator leaves_generators is_uncertified leaving_fault sent_images images_fault lattice_fault numbers_fault symmetry_fault listing_of half shared_fault difference_from difference_fault own_fault session_fault unless_met started session_step session_steps result_of is_refused ending_of half_of session_end session_call session_called session_samples
session-samples-hold = (refl, (refl, (refl, (refl, (refl, (refl, (refl, (refl, (refl, (refl, tt))))))))))
