-- An answer that is not 7, 12 or 17 is the one that is given under any higher entry limit. Assumes nothing.
use Rattle.orders.specs.declared.Counts.{Counts}
use Rattle.std.specs.declared.result.Result.TheVariants.{Err}
use Rattle.definitions.specs.Refusals.{Fault, no_fault}
use mathlib.Core.Path.{◌≡◌, refl, sym, ap, ◌∙◌}
use mathlib.Core.Logic.{inl, inr}
use mathlib.Core.Bool.{true, false}
use mathlib.Core.List.{List}
use Prim.Native.Nat.{ℕ, ◌≤◌, ◌/◌}
use lib.IntN.{ℤ}
use lib.ListN.{length}
use Rattle.definitions.specs.declared.Answer.{Answer}
use Rattle.definitions.specs.Limits.{entry_limit}
use Rattle.definitions.specs.Lent.{Order, table_of}
use Rattle.definitions.specs.Refusals.{Outcome, accepted, refused}
use Rattle.definitions.specs.Calls.{CheckEnd, ListEnd, Listing, Parts, SplitEnd, check_call, check_end, list_call, list_end}
use Rattle.definitions.specs.Calls.{split_call, split_end}
use Rattle.orders.specs.declared.Service.{Service}
use Rattle.orders.specs.declared.Service.TheVariants.{List as ListService, Split as SplitService}
use Rattle.orders.specs.declared.Service.TheVariants.{Check as CheckService}
use Rattle.orders.specs.Scan.{scan_of}
use Rattle.orders.specs.Operands.{coefficients_in, rows_in, vector_in}
use Rattle.promises.specs.Services.{group_size, list_size, order_in, pieces_size, served, served_by}
use Rattle.theory.proofs.Tests.{clash}
use Rattle.entry_limit.specs.Calls.{check_call_within, is_refused_by_entries, list_call_within}
use Rattle.entry_limit.specs.Calls.{split_call_within}
use Rattle.entry_limit.specs.Services.{check_served, list_served, served_by_within, served_within, split_served}
use Rattle.entry_limit.proofs.Same.{check-same, list_same, split-same}
use Rattle.entry_limit.proofs.Kept.{FaultBy, Kept, OutcomeBy, check-kept, listing-kept, parts-kept}

-- two ends, each from an outcome of which the first may be a refusal by the entry limit
module _ {A E : Type 0} (end : A → E) (answer : E → Outcome Answer) (By : A → Type 0)
    (met : (x : A) → By x → is_refused_by_entries (answer (end x)) ≡ true) where
  ends-before : {x y : A} {z : E} → end x ≡ z → Kept By x y → is_refused_by_entries (answer z) ≡ false → z ≡ end y
  ends-before {x} same (inl by) e =
      clash (sym (ap (λ (w : E). is_refused_by_entries (answer w)) same) ∙ met x by) e
  ends-before same (inr k) e = sym same ∙ ap end k

module _ {earlier : ℕ} (h : entry_limit ≤ earlier) where
  -- LIST
  pub list-before : (order : Order) (list_size group_size : ℕ)
      → is_refused_by_entries (list_call order list_size group_size).answer ≡ false
      → list_call order list_size group_size ≡ list_call_within earlier order list_size group_size
  unfolding list_call_within list_end is_refused_by_entries
  list-before order list_size group_size =
      ends-before (list_end order.n list_size group_size) (λ (e : ListEnd). e.answer) OutcomeBy met
      (list_same order list_size group_size) (listing-kept h order list_size group_size)
    where
      met : (x : Outcome Listing) → OutcomeBy x
          → is_refused_by_entries (list_end order.n list_size group_size x).answer ≡ true
      met (Err r) by = by
      met (accepted found) by = absurd by

  -- SPLIT
  pub split-before : (order : Order) (vector : List ℤ) (list_size group_size pieces_size : ℕ)
      → is_refused_by_entries (split_call order vector list_size group_size pieces_size).answer ≡ false
      → split_call order vector list_size group_size pieces_size
      ≡ split_call_within earlier order vector list_size group_size pieces_size
  unfolding split_call_within split_end is_refused_by_entries
  split-before order vector list_size group_size pieces_size =
      ends-before (split_end order.n list_size group_size pieces_size) (λ (e : SplitEnd). e.answer) OutcomeBy met
      (split-same order vector list_size group_size pieces_size)
      (parts-kept h order vector list_size group_size pieces_size)
    where
      met : (x : Outcome Parts) → OutcomeBy x
          → is_refused_by_entries (split_end order.n list_size group_size pieces_size x).answer ≡ true
      met (Err r) by = by
      met (accepted found) by = absurd by

  -- CHECK
  pub check-before : (order : Order) (rows coefficients : List ℤ) (group_size : ℕ)
      → is_refused_by_entries (check_call order rows coefficients group_size).answer ≡ false
      → check_call order rows coefficients group_size ≡ check_call_within earlier order rows coefficients group_size
  unfolding check_call_within check_end is_refused_by_entries
  check-before order rows coefficients group_size =
      ends-before (check_end group_size (length rows / order.n) (table_of order group_size)) (λ (e : CheckEnd). e.answer)
      FaultBy met (check-same order rows coefficients group_size) (check-kept h order rows coefficients group_size)
    where
      met : (x : Fault) → FaultBy x
          → is_refused_by_entries (check_end group_size (length rows / order.n) (table_of order group_size) x).answer ≡ true
      met (Err r) by = by
      met no_fault by = absurd by

  -- FILES: the answer and its lines, and so what is printed and what a C call leaves
  pub served-before : (service : Service) (file : List ℕ) → is_refused_by_entries (served service file).answer ≡ false
      → served service file ≡ served_within earlier service file
  unfolding served served_by served_within served_by_within
  served-before service file = go service (scan_of service file)
    where
      go : (service : Service) (scanned : Outcome Counts) → is_refused_by_entries (served_by service file scanned).answer ≡ false
          → served_by service file scanned ≡ served_by_within earlier service file scanned
      go service (Err r) e = refl
      go ListService (accepted c) e =
          ap (list_served c.cells) (list-before (order_in file c) (list_size c) (group_size c) e)
      go SplitService (accepted c) e =
          ap split_served (split-before (order_in file c) (vector_in file c) (list_size c) (group_size c) pieces_size e)
      go CheckService (accepted c) e =
          ap check_served (check-before (order_in file c) (rows_in file c) (coefficients_in file c) (group_size c) e)
