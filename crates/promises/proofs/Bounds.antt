-- How long a text can be (Specification 9.4). Assumes nothing.
use Rattle.definitions.specs.Refusals.{Outcome, refused}
use mathlib.Core.Path.{◌≡◌, refl, sym, ap, ap₂, subst}
use mathlib.Core.Bool.{true}
use mathlib.Core.List.{List, [], map, Memᴰ}
use Prim.Native.Nat.{ℕ, ◌≤◌}
use native.Mathlib.Omega.{arith}
use lib.IntN.{ℤ}
use lib.ListN.{length, take, length-map, length-take}
use Rattle.definitions.specs.declared.Answer.{Answer}
use Rattle.definitions.specs.Limits.{cells, entry_limit, piece_width, split_limit}
use Rattle.definitions.specs.Vector.{Vector, within}
use Rattle.definitions.specs.Completion.{sum_count}
use Rattle.definitions.specs.Split.{Piece, written}
use Rattle.definitions.specs.Lent.{Order}
use Rattle.definitions.specs.Calls.{Listing}
use Rattle.definitions.specs.Demands.{ListKept}
use Rattle.theory.proofs.Lists.{map-inv, mem-take}
use Rattle.theory.proofs.Members.{each_member, member-place}
use Rattle.theory.proofs.Bounds.{within-each}
use Rattle.theory.proofs.ListCall.{list-kept}
use Rattle.theory.proofs.Refused.{Reported, sums-few}
use Rattle.theory.proofs.Counts.{PieceCounts, check-counts, listing-counts, split-counts, written-within}
use Rattle.orders.specs.declared.Service.{Service}
use Rattle.orders.specs.declared.Service.TheVariants.{List as ListService, Split as SplitService}
use Rattle.orders.specs.declared.Service.TheVariants.{Check as CheckService}
use Rattle.orders.specs.Operands.{coefficients_in, rows_in, vector_in}
use Rattle.orders.proofs.Commands.{accepted-order}
use Rattle.answers.specs.Answers.{answer_text}
use Rattle.answers.specs.Lengths.{LinesWithin, WithinLimits, text_limit}
use Rattle.answers.proofs.Longest.{text-short}
use Rattle.promises.specs.Services.{group_size, list_size, order_in, pieces_size, printed, served}
use Rattle.promises.proofs.Orders.{CheckServed, ListServed, SplitServed, piece-wide}
use Rattle.promises.proofs.Cases.{Case, case-of, finds, refuses}

-- ---- lines

-- the own cells of the rows of a list
rows-within : (n : ℕ) → n ≤ cells → (order : Order) (found : Listing) → ListKept order found
    → LinesWithin cells entry_limit (map (take n) found.rows)
rows-within n fits order found K line m =
    let t = map-inv (take n) found.rows m in
    let p = member-place [] t.1 in
    let limited = subst (λ (v : Vector). within entry_limit v ≡ true) p.2 (K.limited p.0 p.1) in
    let row = within-each entry_limit t.0 limited in (
      omega (arith, ap length t.2, length-take n t.0),
      λ z k. each_member row (mem-take n z t.0 (subst (Memᴰ z) t.2 k)),
    )

-- the numbers of pieces
pieces-within : (pieces : List Piece) → ((piece : Piece) → Memᴰ piece pieces → PieceCounts piece)
    → LinesWithin piece_width split_limit (map written pieces)
pieces-within pieces h line m =
    let t = map-inv written pieces m in (
      omega (arith, ap length t.2, piece-wide t.0),
      λ z k. each_member (written-within t.0 (h t.0 t.1)) (subst (Memᴰ z) t.2 k),
    )

-- ---- texts
module _ (file : List ℕ) where
  -- a text whose answer and lines are within the limits
  short-of : (service : Service) {answer : Outcome Answer} {lines : List (List ℤ)} → (served service file).answer ≡ answer
      → (served service file).lines ≡ lines → WithinLimits answer lines → length (printed service file) ≤ text_limit
  unfolding printed
  short-of service {answer} {lines} p q w =
      subst (λ (t : List ℕ). length t ≤ text_limit) (sym (ap₂ answer_text p q)) (text-short answer lines w)

  -- of a refusal
  refused-short : (service : Service) (number place : ℕ) → (served service file).answer ≡ refused number place
      → Reported 22 number place → length (printed service file) ≤ text_limit
  refused-short service number place e r = short-of service e refl (omega (arith, r.low), omega (arith, r.near))

  -- of a list
  moves-short : ListServed file → length (printed ListService file) ≤ text_limit
  unfolding sum_count
  moves-short F =
      let c = F.counts in
      let C = listing-counts (order_in file c) (list_size c) (group_size c) F.found F.listed in
      let K = list-kept (order_in file c) (list_size c) (group_size c) F.found F.listed in
      let L = (accepted-order ListService file c F.scanned).readable.limited.few in
      short-of ListService F.answers F.lines (
        omega (arith, C.rows, length-map F.found.rows (take c.cells)),
        C.table,
        C.stored,
        C.sums,
        rows-within c.cells L.cells-ok (order_in file c) F.found K,
      )

  -- of pieces
  split-short : SplitServed file → length (printed SplitService file) ≤ text_limit
  split-short F =
      let c = F.counts in
      let C =
      split-counts (order_in file c) (vector_in file c) (list_size c) (group_size c) pieces_size F.found F.parted in
      short-of SplitService F.answers F.lines
      (omega (arith, C.room, length-map F.found.pieces written), pieces-within F.found.pieces C.each)

  -- of a pass
  passed-short : CheckServed file → length (printed CheckService file) ≤ text_limit
  passed-short F =
      let c = F.counts in
      let C = check-counts (order_in file c) (rows_in file c) (coefficients_in file c) (group_size c) F.passes in
      let L = (accepted-order CheckService file c F.scanned).readable.limited.few in
      short-of CheckService F.answers refl
      (omega (arith, L.rows_ok), omega (arith, sums-few C.table L.rows_ok))

-- NO TEXT THAT IS PRINTED IS LONGER THAN THE LIMIT
pub served-short : (service : Service) (file : List ℕ) → length (printed service file) ≤ text_limit
served-short service file = by service (case-of service file)
  where
    by : (v : Service) → Case v file → length (printed v file) ≤ text_limit
    by v (refuses number place e r) = refused-short file v number place e r
    by ListService (finds F) = moves-short file F
    by SplitService (finds F) = split-short file F
    by CheckService (finds F) = passed-short file F
