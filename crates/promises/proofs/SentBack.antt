-- Every Check file that holds the order of a list with coefficients, its rows and its coefficients is answered
-- PASSED: by the program, and by the C call with room for the text. Assumes nothing.
use Rattle.definitions.specs.Refusals.{Outcome}
use mathlib.Core.Path.{◌≡◌, ◌∙◌, ap, ap₂}
use mathlib.Core.Bool.{Bool, true, cond}
use mathlib.Core.List.{List}
use Prim.Native.Nat.{ℕ, ◌≤◌, ◌*◌, ◌/◌, ◌%◌}
use native.Mathlib.Omega.{arith}
use native.Mathlib.Nat.{mul-div_cancel, mul-mod_left}
use borrow.Author.Tests.{eq-eqb, le-leb}
use lib.IntN.{ℤ, pos}
use lib.ListN.{length}
use Rattle.definitions.specs.declared.Answer.TheVariants.{Passed}
use Rattle.definitions.specs.Limits.{group_limit}
use Rattle.definitions.specs.Lists.{concat}
use Rattle.definitions.specs.Completion.{sum_count}
use Rattle.definitions.specs.Lent.{Order, filled, numbers_of, whole_rows}
use Rattle.definitions.specs.Refusals.{accepted}
use Rattle.definitions.specs.Calls.{CertifiedListing, certified_listing, check_call}
use Rattle.theory.proofs.ListCall.{listing-facts}
use Rattle.certified_theory.proofs.Forgetting.{certified-listing}
use Rattle.certified_theory.proofs.Passing.{order-some, written-passed}
use Rattle.orders.specs.declared.Service.TheVariants.{Check as CheckService}
use Rattle.orders.specs.declared.Counts.{Counts}
use Rattle.orders.specs.Scan.{scan_of}
use Rattle.orders.specs.Operands.{coefficients_in, rows_in}
use Rattle.answers.specs.Answers.{passed_text}
use Rattle.promises.specs.Services.{call_end, end_by, group_size, order_in, printed, refused_end, served, served_by}
use Rattle.promises.specs.Services.{text_end}
use Rattle.promises.proofs.Meaning.{passed-text}

-- a List with coefficients that is accepted, and a Check file that holds its order, its rows and their coefficients
module _ (order : Order) (list_size area_size coefficient_size : ℕ) (found : CertifiedListing)
    (e : certified_listing order list_size area_size coefficient_size ≡ accepted found) (file : List ℕ) (c : Counts)
    (scanned : scan_of CheckService file ≡ accepted c) (same : order_in file c ≡ order)
    (rows : rows_in file c ≡ numbers_of order.n found.listing.rows)
    (coefficients : coefficients_in file c ≡ concat found.coefficients) where
  abbrev text : List ℕ
  text =
      passed_text (length found.listing.rows)
      (sum_count (length found.listing.table) (length found.listing.rows))

  cells_are : c.cells ≡ order.n
  cells_are = ap (λ (o : Order). o.n) same

  whole : whole_rows order.n (group_size c) ≡ true
  unfolding whole_rows
  whole =
      eq-eqb (group_size c % order.n) 0
      (ap (λ (k : ℕ). group_limit * k % order.n) cells_are ∙ mul-mod_left group_limit order.n)

  room : length found.listing.table ≤ group_size c / order.n
  room =
      let some = order-some order list_size area_size coefficient_size found e in
      let lent : group_size c / order.n ≡ group_limit =
      ap (λ (k : ℕ). group_limit * k / order.n) cells_are ∙ mul-div_cancel group_limit some in
      let plain = certified-listing order list_size area_size coefficient_size found e in
      omega (arith, lent, (listing-facts order list_size area_size found.listing plain).small)

  -- THE FILE IS PASSED
  pub file-passed : (served CheckService file).answer
      ≡ accepted (Passed (length found.listing.rows)
      (sum_count (length found.listing.table) (length found.listing.rows)))
  unfolding served served_by
  file-passed =
      ap (λ (s : Outcome Counts). (served_by CheckService file s).answer) scanned
      ∙ ap (λ (o : Order). (check_call o (rows_in file c) (coefficients_in file c) (group_size c)).answer) same
      ∙ ap₂ (λ (x y : List ℤ). (check_call order x y (group_size c)).answer) rows coefficients
      ∙ written-passed order list_size area_size coefficient_size found e (group_size c) whole room

  -- THE PROGRAM PRINTS PASSED
  pub file-prints : printed CheckService file ≡ text
  file-prints = passed-text file file-passed

  -- THE C CALL lays it into an answer area with room
  pub file-call : (size : ℕ) → length text ≤ size
      → call_end CheckService file size ≡ record { result = pos (length text); area = filled 0 size text }
  unfolding call_end end_by text_end
  file-call size fits =
      ap₂ (end_by size) file-passed file-prints
      ∙ ap (λ (b : Bool). cond b (record { result = pos (length text); area = filled 0 size text }) (refused_end size 6 0))
      (le-leb (length text) size fits)
