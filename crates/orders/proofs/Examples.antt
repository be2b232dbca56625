-- The example files answer as the table says, by computation (Specification 8.3). Assumes nothing.
use mathlib.Core.Path.{◌≡◌, refl}
use mathlib.Core.List.{List, [], ◌∷◌, map}
use Prim.Native.Nat.{◌≤◌}
use borrow.Author.Tests.{leb-true}
use lib.IntN.{pos, negsuc}
use lib.ListN.{drop}
use Rattle.definitions.specs.Limits.{order_limit}
use Rattle.definitions.specs.Lists.{concat, range}
use Rattle.commands.specs.Commands.{command_of, command_at}
use Rattle.commands.specs.Decode.{signed_of, little_at}
use Rattle.orders.specs.declared.Service.{Service}
use Rattle.orders.specs.declared.Service.TheVariants.{List as ListService, Split, Check}
use Rattle.orders.specs.declared.Counts.{Counts}
use Rattle.orders.specs.Grammar.{is_image_due, one_if}
use Rattle.orders.specs.Scan.{passed, admitted, step_from, step_of, after, scan_from, scan_of}
use Rattle.orders.specs.Operands.{commands_from, commands_in, command_numbers, gathered, generators_in, exchanges_in, images_in, rows_in, coefficients_in, vector_in}
use Rattle.orders.specs.Examples.{Example, for_any, for_list, for_split, for_check, split_file, check_file}
use Rattle.orders.proofs.Sizes.{length_most}

-- each file's scan is the table's
abbrev Hold : Service → List Example → Type 0
Hold v lines = map (λ (x : Example). scan_of v x.file) lines ≡ map (λ (x : Example). x.found) lines

-- the files for any service
pub any-service : (v : Service) → Hold v for_any
unfolding concat command_of command_at is_image_due one_if passed admitted step_from step_of after scan_from scan_of for_any
any-service ListService = refl
any-service Split = refl
any-service Check = refl

-- those for List
pub list-files : Hold ListService for_list
unfolding command_of command_at is_image_due one_if passed admitted step_from step_of after scan_from scan_of for_list
list-files = refl

-- those for Split
pub split-files : Hold Split for_split
unfolding command_of command_at is_image_due one_if passed admitted step_from step_of after scan_from scan_of for_split split_file
split-files = refl

-- those for Check
pub check-files : Hold Check for_check
unfolding command_of command_at is_image_due one_if passed admitted step_from step_of after scan_from scan_of for_check check_file
check-files = refl

-- ---- what the accepted files lend

-- the counts of the Split
abbrev split_counts : Counts
split_counts = record { cells = 2; generators = 1; exchanges = 0; images = 0; rows = 0 }

-- the counts of the bare order
abbrev bare_counts : Counts
bare_counts = record { cells = 1; generators = 1; exchanges = 2; images = 2; rows = 0 }

-- the counts of the Check
abbrev check_counts : Counts
check_counts = record { cells = 2; generators = 1; exchanges = 1; images = 0; rows = 1 }

-- numbers of four bytes, one below zero
pub split-vector : vector_in split_file split_counts ≡ negsuc 1 ∷ pos 2 ∷ []
unfolding range command_of command_at signed_of little_at commands_from commands_in command_numbers gathered vector_in split_file
split-vector = refl

-- numbers of two bytes, one below zero
pub check-generators : generators_in check_file check_counts ≡ pos 1 ∷ negsuc 0 ∷ []
unfolding range command_of command_at signed_of little_at commands_from commands_in command_numbers gathered generators_in check_file
check-generators = refl

-- cells
pub check-exchanges : exchanges_in check_file check_counts ≡ 2 ∷ 1 ∷ []
unfolding range command_of command_at commands_from commands_in command_numbers gathered exchanges_in check_file
check-exchanges = refl

-- a number of four bytes for each exchange and generator, in the last file for List
pub bare-images : map (λ (x : Example). images_in x.file bare_counts) (drop 3 for_list) ≡ (pos 1 ∷ pos 1 ∷ []) ∷ []
unfolding range command_of command_at signed_of little_at commands_from commands_in command_numbers gathered images_in for_list
bare-images = refl

-- numbers of two bytes, behind the exchanges
pub check-rows : rows_in check_file check_counts ≡ pos 1 ∷ negsuc 0 ∷ []
unfolding range command_of command_at signed_of little_at commands_from commands_in command_numbers gathered rows_in check_file
check-rows = refl

-- a number of four bytes, behind the row
pub check-coefficients : coefficients_in check_file check_counts ≡ pos 1 ∷ []
unfolding range command_of command_at signed_of little_at commands_from commands_in command_numbers gathered coefficients_in check_file
check-coefficients = refl

-- ---- the longest file that is accepted is no longer than the first bytes
pub longest-file : length_most ≤ order_limit
longest-file = leb-true length_most order_limit refl
