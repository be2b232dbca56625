-- The proved sample orders of the List with coefficients end as the table says, by computation. Assumes nothing.
use mathlib.Core.Path.{refl}
use Rattle.definitions.specs.Lists.{range, every, any, select, concat, inserted, sorted, until}
use Rattle.definitions.specs.Vector.{padded, zeros, zero_vector, plus, negative, minus, minus_all, scale, weight, positive_sum, degree, within, is_zero, cell_below, below, equal_cell, equal, is_member, greater}
use Rattle.definitions.specs.Lattice.{combination}
use Rattle.definitions.specs.Group.{named, distinct_cells, is_exchange, exchanged, identity, composed, earlier, with_row, with_rows, products, closure, group_table}
use Rattle.definitions.specs.Orbit.{signed, orbit, orbits, greatest, representative, rank, precedes}
use Rattle.definitions.specs.Completion.{stored_rows, first_state, begun, sum_of, sum_at, next, is_finished, first_below, subtracted, reduced, remainder, settled, step, is_over, sum_count, has_other_below, final_rows}
use Rattle.definitions.specs.Certified.{coefficients_of, certified_rows, opposite, units, counted_as, image_coefficients, certified_image, certified_orbit, certified_orbits, certified_row, certified_begun, certified_sum, certified_remainder, new_coefficients, noted, certified_after, certified_from, certified_step, is_over_certified, certified_completed, final_coefficients}
use Rattle.definitions.specs.Lent.{whole_rows, whole_rows_up_to, chunks, rows_of, filled, vectors_of, numbers_of, is_bare, generators_of, exchanges_of, list_rows, group_rows, table_of}
use Rattle.definitions.specs.Refusals.{first_fault, fault_if, fault_from, fault_where, unless_fault, cells_fault, images_fit, order_fits, size_fault, is_past, is_generator, leaves_generators, is_uncertified, leaving_fault, sent_images, images_fault, lattice_fault, numbers_fault, symmetry_fault, order_fault, admission_fault, certified_fits}
use Rattle.definitions.specs.Calls.{listing_of, list_end, listed_coefficients, with_coefficients, certified_listing_of, certified_listing, certified_end, certified_call}
use Rattle.definitions.specs.CertifiedSamples.{certified_called, certified_samples, CertifiedHold}

pub certified-samples-hold : CertifiedHold certified_samples
unfolding range every any select concat inserted sorted until padded zeros zero_vector plus negative minus minus_all scale weight positive_sum degree within is_zero cell_below below equal_cell equal is_member greater combination named distinct_cells is_exchange exchanged identity composed earlier with_row with_rows products closure group_table signed orbit orbits greatest representative rank precedes stored_rows first_state begun sum_of sum_at next is_finished first_below subtracted reduced remainder settled step is_over sum_count has_other_below final_rows coefficients_of certified_rows opposite units counted_as image_coefficients certified_image certified_orbit certified_orbits certified_row certified_begun certified_sum certified_remainder new_coefficients noted certified_after certified_from certified_step is_over_certified certified_completed final_coefficients whole_rows whole_rows_up_to chunks rows_of filled vectors_of numbers_of is_bare generators_of exchanges_of list_rows group_rows table_of first_fault fault_if fault_from fault_where unless_fault cells_fault images_fit order_fits size_fault is_past is_generator leaves_generators is_uncertified leaving_fault sent_images images_fault lattice_fault numbers_fault symmetry_fault order_fault admission_fault certified_fits listing_of list_end listed_coefficients with_coefficients certified_listing_of certified_listing certified_end certified_call certified_called certified_samples
certified-samples-hold = (refl, (refl, (refl, (refl, (refl, (refl, (refl, (refl, (refl, (refl, (refl, tt)))))))))))
