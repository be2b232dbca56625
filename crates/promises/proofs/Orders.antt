-- What a service finds in an accepted file: the outcome of its lent call, its answer and its lines (Specification 1.2
-- and 7.4). Assumes nothing.
use Rattle.definitions.specs.Refusals.{Fault, no_fault}
use mathlib.Core.Path.{◌≡◌, refl, sym, ap, ap₂, ◌∙◌}
use mathlib.Core.List.{List, map, Memᴰ}
use Prim.Native.Nat.{ℕ, ◌/◌}
use native.Mathlib.Nat.{mul-div_cancel}
use lib.IntN.{ℤ, pos}
use lib.ListN.{length, take, length-map}
use Rattle.definitions.specs.declared.Answer.{Answer}
use Rattle.definitions.specs.declared.Answer.TheVariants.{Moves, Split as SplitAnswer, Passed}
use Rattle.definitions.specs.Limits.{piece_width}
use Rattle.definitions.specs.Lists.{concat}
use Rattle.definitions.specs.Completion.{sum_count}
use Rattle.definitions.specs.Split.{Piece, written}
use Rattle.definitions.specs.Lent.{chunks, filled}
use Rattle.definitions.specs.Refusals.{Outcome, accepted}
use Rattle.definitions.specs.Calls.{Listing, Parts, check_call, check_end, check_fault, listing, parts}
use Rattle.theory.proofs.Lists.{chunks-filled, map-inv}
use Rattle.theory.proofs.ListCall.{listing-facts}
use Rattle.theory.proofs.Areas.{ListHeld, SplitHeld, list-accepted, split-accepted}
use Rattle.theory.proofs.Held.{held-lines, rows-narrow}
use Rattle.orders.specs.declared.Service.{Service}
use Rattle.orders.specs.declared.Service.TheVariants.{List as ListService, Split as SplitService}
use Rattle.orders.specs.declared.Service.TheVariants.{Check as CheckService}
use Rattle.orders.specs.declared.Counts.{Counts}
use Rattle.orders.specs.Scan.{scan_of}
use Rattle.orders.specs.Operands.{coefficients_in, rows_in, vector_in}
use Rattle.orders.proofs.Commands.{accepted-order}
use Rattle.orders.proofs.Numbers.{rows-count}
use Rattle.answers.specs.Answers.{line_count}
use Rattle.promises.specs.Services.{Served, group_size, list_size, order_in, pieces_size, served, served_by}
use Rattle.promises.specs.Services.{check_call_in, list_call_in, split_call_in, table_in}

-- ---- what is found

-- the outcome of a List
abbrev pub list_in : (file : List ℕ) → Counts → Outcome Listing
list_in file c = listing (order_in file c) (list_size c) (group_size c)

-- the outcome of a Split
abbrev pub parts_in : (file : List ℕ) → Counts → Outcome Parts
parts_in file c = parts (order_in file c) (vector_in file c) (list_size c) (group_size c) pieces_size

-- the outcome of a Check
abbrev pub fault_in : (file : List ℕ) → Counts → Fault
fault_in file c = check_fault (order_in file c) (rows_in file c) (coefficients_in file c) (group_size c)

-- the answer of a Check that is not refused
abbrev pub passed_in : (file : List ℕ) → Counts → Outcome Answer
passed_in file c = accepted (Passed c.rows (sum_count (length (table_in file c)) c.rows))

-- a List that is not refused: its answer has the counts of what was found, and its lines are the rows' own cells
pub record ListServed (file : List ℕ) : Type 0 where
  pub counts : Counts
  pub scanned : scan_of ListService file ≡ accepted counts
  pub found : Listing
  pub listed : list_in file counts ≡ accepted found
  pub answers :
      (served ListService file).answer
      ≡ accepted (Moves (length found.rows) (length found.table) found.stored found.sums)
  pub lines : (served ListService file).lines ≡ map (take counts.cells) found.rows

-- the answer of a Split that is not refused
abbrev pub split_answer : Parts → Outcome Answer
split_answer found =
    let l = found.listing in
    accepted (SplitAnswer (length found.pieces) (length l.rows) (length l.table) l.stored l.sums)

-- a Split that is not refused: its lines are the pieces
pub record SplitServed (file : List ℕ) : Type 0 where
  pub counts : Counts
  pub scanned : scan_of SplitService file ≡ accepted counts
  pub found : Parts
  pub parted : parts_in file counts ≡ accepted found
  pub answers : (served SplitService file).answer ≡ split_answer found
  pub lines : (served SplitService file).lines ≡ map written found.pieces

-- a Check that is not refused
pub record CheckServed (file : List ℕ) : Type 0 where
  pub counts : Counts
  pub scanned : scan_of CheckService file ≡ accepted counts
  pub passes : fault_in file counts ≡ no_fault
  pub answers : (served CheckService file).answer ≡ passed_in file counts

-- what a service finds
abbrev pub Found : Service → (file : List ℕ) → Type 0
Found ListService file = ListServed file
Found SplitService file = SplitServed file
Found CheckService file = CheckServed file

-- ---- an accepted order

-- its answer and its lines are those of its call
module _ (service : Service) (file : List ℕ) {c : Counts} (e : scan_of service file ≡ accepted c) where
  -- all that is served
  served-order : served service file ≡ served_by service file (accepted c)
  unfolding served
  served-order = ap (served_by service file) e

  -- the answer
  pub order-answer : {answer : Outcome Answer} → (served_by service file (accepted c)).answer ≡ answer
      → (served service file).answer ≡ answer
  order-answer q = ap (λ (s : Served). s.answer) served-order ∙ q

  -- the lines
  order-lines : {lines : List (List ℤ)} → (served_by service file (accepted c)).lines ≡ lines
      → (served service file).lines ≡ lines
  order-lines q = ap (λ (s : Served). s.lines) served-order ∙ q

-- ---- List
module _ (file : List ℕ) (c : Counts) (e : scan_of ListService file ≡ accepted c) where
  -- accepted
  pub list-found : (found : Listing) → list_in file c ≡ accepted found → ListServed file
  unfolding served_by
  list-found found q = record {
    counts = c;
    scanned = e;
    found = found;
    listed = q;
    answers = order-answer ListService file e H.answer;
    lines = order-lines ListService file e
        (ap (λ (a : Outcome Answer). chunks c.cells (line_count a) (list_call_in file c).list) H.answer
        ∙ held-lines c.cells (accepted-order ListService file c e).readable.limited.few.cells-ok found.rows
        (rows-narrow (order_in file c) found (listing-facts (order_in file c) (list_size c) (group_size c) found q))
        (list_size c) H.list);
  }
    where
      H : ListHeld (order_in file c) (list_size c) (group_size c) found (list_call_in file c)
      H = list-accepted (order_in file c) (list_size c) (group_size c) found q

-- ---- Split

-- a piece is written as so many numbers
pub piece-wide : (piece : Piece) → length (written piece) ≡ piece_width
unfolding written
piece-wide piece = refl

module _ (file : List ℕ) (c : Counts) (e : scan_of SplitService file ≡ accepted c) where
  -- accepted
  pub split-found : (found : Parts) → parts_in file c ≡ accepted found → SplitServed file
  unfolding served_by
  split-found found q = record {
    counts = c;
    scanned = e;
    found = found;
    parted = q;
    answers = order-answer SplitService file e H.answer;
    lines = order-lines SplitService file e
        (ap₂ (λ (a : Outcome Answer) (numbers : List ℤ). chunks piece_width (line_count a) numbers) H.answer H.pieces
        ∙ ap (λ (k : ℕ). chunks piece_width k (filled (pos 0) pieces_size (concat (map written found.pieces))))
        (sym (length-map found.pieces written))
        ∙ chunks-filled piece_width pieces_size (pos 0) (map written found.pieces) wide);
  }
    where
      H : SplitHeld (order_in file c) (list_size c) (group_size c) pieces_size found (split_call_in file c)
      H = split-accepted (order_in file c) (vector_in file c) (list_size c) (group_size c) pieces_size found q

      wide : (line : List ℤ) → Memᴰ line (map written found.pieces) → length line ≡ piece_width
      wide line m = let t = map-inv written found.pieces m in ap length t.2 ∙ piece-wide t.0

-- ---- Check
module _ (file : List ℕ) (c : Counts) (e : scan_of CheckService file ≡ accepted c) where
  -- the rows that were brought
  brought : length (rows_in file c) / c.cells ≡ c.rows
  brought =
      ap (λ (k : ℕ). k / c.cells) (rows-count CheckService file c (accepted-order CheckService file c e))
      ∙ mul-div_cancel c.rows (accepted-order CheckService file c e).readable.limited.some

  -- the answer by the fault
  pub check-answer : {fault : Fault} → fault_in file c ≡ fault
      → (check_call_in file c).answer ≡ (check_end (group_size c) c.rows (table_in file c) fault).answer
  unfolding check_call
  check-answer q =
      ap₂ (λ (k : ℕ) (f : Fault). (check_end (group_size c) k (table_in file c) f).answer) brought q

  -- no fault
  pub check-found : fault_in file c ≡ no_fault → (served CheckService file).answer ≡ passed_in file c
  unfolding served_by check_end
  check-found q = order-answer CheckService file e (check-answer q)
