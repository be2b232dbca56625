-- The programs print for P4, P7 and P8 what the specification says (Specification 10), from bytes to bytes, by
-- computation.
-- Assumes nothing.
use mathlib.Core.Path.{◌≡◌, refl}
use Rattle.definitions.specs.Lists.{range, every, any, select, concat, inserted, sorted, until}
use Rattle.definitions.specs.Vector.{padded, zeros, zero_vector, plus, negative, minus, minus_all, scale, total, weight, positive_sum, degree, within}
use Rattle.definitions.specs.Vector.{is_zero, cell_below, below, cell_opposes, opposes, equal_cell, equal, is_member}
use Rattle.definitions.specs.Vector.{greater}
use Rattle.definitions.specs.Lattice.{combination}
use Rattle.definitions.specs.Group.{named, distinct_cells, is_exchange, exchanged, identity, composed, earlier, with_row}
use Rattle.definitions.specs.Group.{with_rows, products, closure, group_table}
use Rattle.definitions.specs.Orbit.{signed, orbit, orbits, greatest, representative, rank, precedes}
use Rattle.definitions.specs.Completion.{stored_rows, first_state, begun, sum_of, sum_at, next, is_finished, first_below}
use Rattle.definitions.specs.Completion.{subtracted, reduced, remainder, settled, step, is_over, run, sum_count, completed}
use Rattle.definitions.specs.Completion.{has_other_below, final_rows}
use Rattle.definitions.specs.Split.{placed_orbit, placed_orbits, cell_times, times_up_to, times, with_piece, splitting}
use Rattle.definitions.specs.Split.{sign, written, share}
use Rattle.definitions.specs.Lent.{whole_rows, whole_rows_up_to, chunks, rows_of, filled, vectors_of, numbers_of, is_bare}
use Rattle.definitions.specs.Lent.{generators_of, exchanges_of, list_rows, group_rows, table_of}
use Rattle.definitions.specs.Refusals.{first_fault, fault_if, fault_from, fault_where, unless_fault, cells_fault, images_fit, order_fits}
use Rattle.definitions.specs.Refusals.{size_fault, split_size_fault, brought_fits, is_past, is_generator, leaves_generators}
use Rattle.definitions.specs.Refusals.{numbers_fault, symmetry_fault, order_fault, admission_fault, split_fault, is_unfit}
use Rattle.definitions.specs.Refusals.{is_uncertified, leaving_fault, sent_images, images_fault, lattice_fault}
use Rattle.definitions.specs.Refusals.{is_misplaced, rows_fault, sums_fault, wholeness_fault}
use Rattle.definitions.specs.Calls.{listing_of, listing, list_end, list_call, parts_of, parts, split_end, split_call}
use Rattle.definitions.specs.Calls.{rules_fault, check_fault, check_end, check_call}
use Rattle.commands.specs.Commands.{command_of, command_at}
use Rattle.commands.specs.Decode.{signed_of, little_at}
use Rattle.orders.specs.declared.Service.TheVariants.{List as ListService, Split as SplitService}
use Rattle.orders.specs.Grammar.{is_image_due, one_if}
use Rattle.orders.specs.Scan.{passed, admitted, step_from, step_of, after}
use Rattle.orders.specs.Scan.{scan_from, scan_of}
use Rattle.orders.specs.Operands.{commands_from, commands_in, command_numbers, gathered}
use Rattle.orders.specs.Operands.{generators_in, exchanges_in, images_in, vector_in}
use Rattle.answers.specs.Text.{digits, decimal}
use Rattle.answers.specs.Answers.{numbers_text, line_text, lines_text, head_text, table_text, moves_text, split_text}
use Rattle.answers.specs.Answers.{refused_text, answer_text}
use Rattle.promises.specs.Services.{printed, served, served_by}
use Rattle.promises.specs.Examples.{p4_file, p4_text, p7_file, p7_text, p8_file, p8_text, p17_file, p17_text}

pub examples-hold :
    (printed ListService p4_file ≡ p4_text)
    × (printed SplitService p7_file ≡ p7_text)
    × (printed SplitService p8_file ≡ p8_text)
    × (printed ListService p17_file ≡ p17_text)
unfolding range every any select concat inserted sorted padded zeros zero_vector plus negative minus minus_all scale total weight positive_sum degree within is_zero cell_below below cell_opposes opposes equal_cell equal is_member greater combination named distinct_cells is_exchange exchanged identity composed earlier with_row with_rows products closure group_table signed orbit orbits greatest representative rank precedes stored_rows first_state begun sum_of sum_at next is_finished first_below subtracted reduced remainder settled step is_over run until sum_count completed has_other_below final_rows placed_orbit placed_orbits cell_times times_up_to times with_piece splitting sign written share whole_rows whole_rows_up_to chunks rows_of filled vectors_of numbers_of is_bare generators_of exchanges_of list_rows group_rows table_of first_fault fault_if fault_from fault_where unless_fault cells_fault images_fit order_fits size_fault split_size_fault brought_fits is_past is_generator leaves_generators is_uncertified leaving_fault sent_images images_fault lattice_fault numbers_fault symmetry_fault order_fault admission_fault split_fault is_unfit is_misplaced rows_fault sums_fault wholeness_fault listing_of listing list_end list_call parts_of parts split_end split_call rules_fault check_fault check_end check_call command_of command_at signed_of little_at is_image_due one_if passed admitted step_from step_of after scan_from scan_of commands_from commands_in command_numbers gathered generators_in exchanges_in images_in vector_in digits decimal numbers_text line_text lines_text head_text table_text moves_text split_text refused_text answer_text printed served served_by p4_file p4_text p7_file p7_text p8_file p8_text p17_file p17_text
examples-hold = (refl, refl, refl, refl)
