-- How a run ends, once its list is there (Specification 3.9 and 7.4). Assumes nothing.
use Rattle.definitions.specs.Refusals.{Outcome}
use Rattle.definitions.specs.Refusals.{no_fault, fault_at}
use mathlib.Core.Path.{◌≡◌, refl, sym, ap, ap₂, ◌∙◌}
use mathlib.Core.Bool.{true, false, ◌&&◌}
use mathlib.Core.List.{List, []}
use Prim.Native.Nat.{ℕ, zero, suc, ◌-◌, ◌*◌, ◌/◌, ◌≤◌, ◌<◌}
use native.Mathlib.Nat.{div-mul-le_self, mul-le-mul_right}
use native.Mathlib.Omega.{arith}
use borrow.Author.Tests.{eq-eqb, eqb-true, leb-true, ne_eqb, not-false}
use lib.Dec.{eqb, leb}
use lib.IntN.{ℤ, pos}
use lib.ListN.{length, get_or, replicate}
use Rattle.definitions.specs.declared.Run.{Run}
use Rattle.definitions.specs.declared.View.{View}
use Rattle.definitions.specs.Limits.{cells, record_width, window_limit}
use Rattle.definitions.specs.Lists.{concat}
use Rattle.definitions.specs.Vector.{padded}
use Rattle.definitions.specs.Lent.{Order, filled, numbers_of, whole_rows}
use Rattle.definitions.specs.Refusals.{accepted, refused}
use Rattle.definitions.specs.Calls.{Listing, listing}
use Rattle.definitions.specs.Window.{Chain, Room, Visit, WindowEnd, answer_rows, answer_width, chain_fault, chain_fits, drawn_end, draws_of, is_contingency, is_entry, run_end, window_answered, window_call, window_of, window_refused}
use Rattle.theory.proofs.Tests.{and-true-left, and-true-right}
use Rattle.theory.proofs.Members.{Each, each_append, each-cons, each-every, each_from, each_nil}
use Rattle.theory.proofs.Faults.{if_none, tests-none, where-none}
use Rattle.theory.proofs.Accepted.{padded-length}
use Rattle.theory.proofs.Lists.{chunks-length}
use Rattle.theory.proofs.Rows.{rows-count, short-rows}
use Rattle.vectors.specs.Areas.{cleared_from}
use Rattle.reduction.specs.declared.Extent.{Extent}
use Rattle.moves.specs.declared.Numbers.{Numbers}
use Rattle.moves.specs.Found.{Held, listing_in}
use Rattle.figures.specs.Window.{Rows, Viewable}
use Rattle.draws.specs.Draws.{Filled, rows_in, table_in}
use Rattle.draws.specs.Run.{Ran, visits_of}
use Rattle.draws.proofs.Running.{draws-count}
use Rattle.windows.specs.Found.{Fitting, WindowEnds}
use Rattle.windows.proofs.Reaching as reaching

-- what 6 and 14 of a run leave
pub record Fits (view : View) (start records answers : List ℤ) : Type 0 where
  pub viewable : view.n ≤ cells → Viewable view
  pub sized : length start ≡ view.n
  pub roomy : Rows view answers (length records / record_width)
  pub entries : is_contingency (padded start) ≡ true

-- so many rows have room
rows-room : (count size width : ℕ) → count ≤ size / width → count * width ≤ size
rows-room count size width h = omega (arith, mul-le-mul_right {m = count} {n = size / width} width h, div-mul-le_self size width)

zeros-entries : (k : ℕ) → Each (λ x. is_entry x ≡ true) (replicate k (pos 0))
unfolding is_entry
zeros-entries zero = each_nil
zeros-entries (suc k) = each-cons refl (zeros-entries k)

pub chain_fits_lem : (view : View) (start records answers : List ℤ) → Fitting view start records answers → Fits view start records answers
unfolding chain_fault chain_fits is_contingency padded
chain_fits_lem view start records answers e =
    let a = tests-none _ _ e in
    let b = tests-none _ _ a.1 in
    let all = not-false _ (if_none 6 _ a.0) in
    let t2 = leb 1 view.width && leb view.width window_limit in
    let t3 = t2 && leb 1 view.cell in
    let t4 = t3 && leb view.cell view.n in
    let t5 = t4 && eqb (length start) view.n in
    let t6 = t5 && whole_rows record_width (length records) in
    let t7 = t6 && whole_rows (answer_width view.n) (length answers) in
    let last = leb (length records / record_width) (length answers / answer_width view.n) in
    let c7 = and-true-left t7 last all in
    let c6 = and-true-left t6 (whole_rows (answer_width view.n) (length answers)) c7 in
    let c5 = and-true-left t5 (whole_rows record_width (length records)) c6 in
    let c4 = and-true-left t4 (eqb (length start) view.n) c5 in
    let c3 = and-true-left t3 (leb view.cell view.n) c4 in
    let c2 = and-true-left t2 (leb 1 view.cell) c3 in
    record {
      viewable = λ narrow. record {
        narrow = narrow;
        some = leb-true 1 view.width (and-true-left (leb 1 view.width) _ c2);
        few = leb-true view.width window_limit (and-true-right (leb 1 view.width) _ c2);
        first = leb-true 1 view.cell (and-true-right t2 (leb 1 view.cell) c3);
        last = leb-true view.cell view.n (and-true-right t3 (leb view.cell view.n) c4);
      };
      sized = eqb-true (length start) view.n (and-true-right t4 (eqb (length start) view.n) c5);
      roomy = rows-room (length records / record_width) (length answers) (answer_width view.n) (leb-true _ _ (and-true-right t7 last all));
      entries =
          each-every is_entry
          (each_append (each_from start (pos 0) (λ p h. not-false (is_entry (get_or start p (pos 0))) ((where-none 14 (length start) _).0 b.0 p h))) (zeros-entries (cells - length start)));
    }

-- a refusal that no answers come before
pub refused-ends : (room : Room) (number place : ℕ) (before : List ℤ) {list : List ℤ} {group : List ℕ} {answers : List ℤ} → length before ≡ room.answers
    → list ≡ filled (pos 0) room.list [] → group ≡ filled 0 room.group [] → answers ≡ cleared_from (pos 0) 0 before
    → WindowEnds (window_refused room number place []) (refused number place) list group answers
unfolding window_refused concat
refused-ends room number place before size p q r = record { answer_is = refl; list_holds = p; group_holds = q; answers_hold = r ∙ ap (λ (k : ℕ). filled (pos 0) k []) size }

-- 6 and 14, once the List has ended
module _ (n : ℕ) (chain : Chain) (room : Room) (found : Listing) where
  pub tests-met : {number place : ℕ} → chain_fault n chain room.answers ≡ fault_at number place → window_refused room number place [] ≡ window_of n chain room (accepted found)
  unfolding window_of drawn_end
  tests-met e = rw e refl

  pub tests-unmet : chain_fault n chain room.answers ≡ no_fault → drawn_end n chain room found no_fault ≡ window_of n chain room (accepted found)
  unfolding window_of
  tests-unmet e = rw e refl

-- the call, once its List has ended
module _ (order : Order) (chain : Chain) (room : Room) where
  pub call-unlisted : {number place : ℕ} → listing order room.list room.group ≡ refused number place → window_refused room number place [] ≡ window_call order chain room
  unfolding window_call window_of
  call-unlisted e = rw e refl

  pub call-listed : {found : Listing} → accepted found ≡ listing order room.list room.group → window_of order.n chain room (accepted found) ≡ window_call order chain room
  unfolding window_call
  call-listed e = ap (window_of order.n chain room) e

-- the same end by another name
pub ends_same : {due due' : WindowEnd} {answer answer' : Outcome Run} {list : List ℤ} {group : List ℕ} {answers : List ℤ} → due ≡ due' → answer' ≡ answer
    → WindowEnds due answer list group answers → WindowEnds due' answer' list group answers
ends_same e f E = record {
  answer_is = f ∙ E.answer_is ∙ ap (λ (d : WindowEnd). d.answer) e;
  list_holds = E.list_holds ∙ ap (λ (d : WindowEnd). d.list) e;
  group_holds = E.group_holds ∙ ap (λ (d : WindowEnd). d.group) e;
  answers_hold = E.answers_hold ∙ ap (λ (d : WindowEnd). d.answers) e;
}

-- the start is a vector of n cells
pub start-filled : (n : ℕ) (start : List ℤ) → n ≤ cells → length start ≡ n → Filled n (padded start)
start-filled n start narrow e = record { long = padded-length start (omega (arith, e, narrow)); short = short-rows n start e }

-- ---- with a list and a table in their areas
module _ (view : View) (numbers : Numbers) (start records list : List ℤ) (group : List ℕ) (room : Room) where
  abbrev n : ℕ
  n = view.n

  abbrev chain : Chain
  chain = record { start = start; width = view.width; cell = view.cell; records = records }

  abbrev extent : Extent
  extent = record { shape = record { n = n; g = numbers.members }; k = numbers.rows }

  abbrev due : List Visit
  due = visits_of extent list group (padded start) records

  abbrev end : WindowEnd
  end = drawn_end n chain room (listing_in n numbers list group) no_fault

  module _ {answers : List ℤ} {done : ℕ} (ran : Ran view due answers done) (size : length answers ≡ room.answers) where
    abbrev rows : List (List ℤ)
    rows = answer_rows view [] due

    counted : length rows ≡ done
    counted = reaching.rows-count view [] due ∙ sym ran.all

    pub done-few : done ≤ length records / record_width
    done-few = omega (arith, ran.all, reaching.visits-few (table_in extent group) (rows_in extent list) (padded start) (draws_of records), draws-count records)

    -- the answer rows, and zeros behind them
    held : {area : List ℤ} → area ≡ cleared_from (pos 0) (done * answer_width n) answers → area ≡ filled (pos 0) room.answers (concat rows)
    held e = e ∙ ap₂ (λ (k : ℕ) (l : List ℤ). filled (pos 0) k l) size ran.rows

    -- a record is refused
    pub run-refused : {list' : List ℤ} {group' : List ℕ} {area : List ℤ} → done < length records / record_width
        → list' ≡ filled (pos 0) room.list [] → group' ≡ filled 0 room.group [] → area ≡ cleared_from (pos 0) (done * answer_width n) answers
        → WindowEnds end (refused 25 done) list' group' area
    unfolding drawn_end run_end window_refused
    run-refused h p q r =
        let e : eqb (length rows) (length (draws_of records)) ≡ false =
        ne_eqb (length rows) (length (draws_of records)) (λ k. absurd (omega (arith, h, k, counted, draws-count records))) in
        rw e (record { answer_is = ap (refused 25) (sym counted); list_holds = p; group_holds = q; answers_hold = held r })

    -- all have answers
    pub run-answered : {area : List ℤ} → length records / record_width ≤ done → Held n numbers list group → length list ≡ room.list → length group ≡ room.group
        → area ≡ cleared_from (pos 0) (done * answer_width n) answers
        → WindowEnds end (accepted (record { records = (length records / record_width); rows = numbers.rows; members = numbers.members; stored = numbers.stored; sums = numbers.sums })) list group area
    unfolding drawn_end run_end window_answered
    run-answered h H long wide r =
        let e : eqb (length rows) (length (draws_of records)) ≡ true = eq-eqb (length rows) (length (draws_of records)) (omega (arith, h, done-few, counted, draws-count records)) in
        let a : length records / record_width ≡ length rows = omega (arith, h, done-few, counted) in
        rw e (record {
          answer_is =
              ap (λ (k : ℕ). (accepted (record { records = k; rows = numbers.rows; members = numbers.members; stored = numbers.stored; sums = numbers.sums }))) a
              ∙ ap₂ (λ (k g : ℕ). (accepted (record { records = (length rows); rows = k; members = g; stored = numbers.stored; sums = numbers.sums }))) (sym (rows-count n numbers.rows list)) (sym (chunks-length n numbers.members group));
          list_holds = H.list_held ∙ ap (λ (k : ℕ). filled (pos 0) k (numbers_of n (listing_in n numbers list group).rows)) long;
          group_holds = H.group_held ∙ ap (λ (k : ℕ). filled 0 k (concat (listing_in n numbers list group).table)) wide;
          answers_hold = held r;
        })
