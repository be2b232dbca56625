-- How a Split ends, and what that promises (Specification 4 and 7.4). Assumes nothing.
use Rattle.std.specs.declared.result.Result.TheVariants.{Ok, Err}
use Rattle.definitions.specs.Refusals.{Fault, no_fault}
use mathlib.Core.Path.{◌≡◌, refl, sym, ◌∙◌, ap, ap₂, subst}
use mathlib.Core.Logic.{◌↔◌}
use mathlib.Core.Bool.{true}
use mathlib.Core.List.{List, [], ◌∷◌, map}
use Prim.Native.Nat.{ℕ, ◌-◌, ◌*◌, ◌/◌, ◌≤◌}
use native.Mathlib.Omega.{arith}
use borrow.Author.Tests.{leb-true, not-false}
use lib.Dec.{leb}
use lib.IntN.{ℤ, pos}
use lib.ListN.{length, get_or, take, drop}
use lib.Seq.{take-length}
use Rattle.definitions.specs.declared.Answer.{Answer}
use Rattle.definitions.specs.declared.Answer.TheVariants.{Moves, Split}
use Rattle.definitions.specs.declared.Refusal.{Refusal}
use Rattle.definitions.specs.Limits.{cells, entry_limit, piece_width, split_limit}
use Rattle.definitions.specs.Lists.{concat}
use Rattle.definitions.specs.Vector.{Vector, padded, within}
use Rattle.definitions.specs.Completion.{Completion, completed, final_rows, running, stopped}
use Rattle.definitions.specs.Split.{Image, Splitting, placed_orbits, splitting}
use Rattle.definitions.specs.Lent.{Order, filled, generators_of, list_rows, numbers_of, table_of, whole_rows}
use Rattle.definitions.specs.Refusals.{Outcome, accepted, refused, cells_fault, fault_where, first_fault, is_past, split_fault, split_size_fault, unless_fault}
use Rattle.definitions.specs.Calls.{ListEnd, Listing, Parts, SplitEnd, list_call, list_end, listing, listing_of, parts, parts_of, split_call, split_end}
use Rattle.theory.proofs.Lists.{chunks-length}
use Rattle.theory.proofs.Members.{Each, each_nil, each_append, each_from, each-head, each_tail}
use Rattle.theory.proofs.Bounds.{Within, each_within, within-each, within_more}
use Rattle.theory.proofs.Areas.{filled-nothing}
use Rattle.theory.proofs.Sizes.{sizes-of-split}
use Rattle.theory.proofs.Faults.{accepted-refused, if_none, number_of, place_of, tests-none, unless-none}
use Rattle.theory.proofs.Accepted.{Admitted, admission-none, cells-none, each_take, padded-within, past-where, zeros_within}
use Rattle.theory.proofs.Rows.{rows-count}
use Rattle.theory.proofs.ListCall.{ListFacts, list-kept, listing-facts}
use Rattle.theory.proofs.Held.{Narrow, held-room, held_rows, rows-narrow}
use Rattle.theory.proofs.SplitCall.{split-exactly, split-facts, split-outside}
use Rattle.vectors.specs.Bounds.{headroom}
use Rattle.reduction.specs.declared.Shape.{Shape}
use Rattle.reduction.specs.Areas.{rows_at, sequences_in}
use Rattle.pieces.specs.declared.Taken.{Taken}
use Rattle.pieces.specs.Taking.{Splits}
use Rattle.moves.specs.declared.Numbers.{Numbers}
use Rattle.moves.specs.Found.{Finds, Grouped, Held, SplitEnds, listing_in, pieces_fault}
use Rattle.moves.specs.Promise.{ListPromise, SplitAccepted, SplitPromise, SplitZero}
use Rattle.moves.proofs.Ends.{promise-accepted}
use Rattle.moves.proofs.Tables.{held-grouped, held-table}

-- a refusal is the same for any number of cells
pub ends_refused : (n list_size group_size pieces_size : ℕ) {due : Outcome Parts} {refusal : Refusal} {answer : Outcome Answer} {list : List ℤ} {group : List ℕ} {pieces : List ℤ} → Err refusal ≡ due
    → SplitEnds (split_end 0 list_size group_size pieces_size (Err refusal)) answer list group pieces → SplitEnds (split_end n list_size group_size pieces_size due) answer list group pieces
unfolding split_end
ends_refused n list_size group_size pieces_size e E = rw (← e) E

-- a List that was refused: its answer is that of the Split
pub ends-unlisted : {order : Order} {list_size group_size : ℕ} (pieces_size : ℕ) {answer : Outcome Answer} {list : List ℤ} {group : List ℕ} {pieces : List ℤ} (vector : List ℤ)
    → ListPromise order list_size group_size answer list group → ((rows g stored sums : ℕ) → answer ≡ accepted (Moves rows g stored sums) → ⊥)
    → pieces ≡ filled (pos 0) pieces_size [] → SplitEnds (split_end order.n list_size group_size pieces_size (parts_of vector pieces_size (listing order list_size group_size))) answer list group pieces
unfolding list_call list_end split_end parts_of
ends-unlisted {order} {list_size} {group_size} pieces_size {answer} {list} {group} {pieces} vector P other cleared = go (listing order list_size group_size) refl
  where
    at : Outcome Listing → ListEnd
    at o = list_end order.n list_size group_size o

    go : (o : Outcome Listing) → listing order list_size group_size ≡ o → SplitEnds (split_end order.n list_size group_size pieces_size (parts_of vector pieces_size (listing order list_size group_size))) answer list group pieces
    go (Err r) q = subst (λ (d : SplitEnd). SplitEnds d answer list group pieces) (sym (ap (λ (o : Outcome Listing). split_end order.n list_size group_size pieces_size (parts_of vector pieces_size o)) q)) (record {
      answers = P.answers ∙ ap (λ (o : Outcome Listing). (at o).answer) q;
      list_holds = P.list_holds ∙ ap (λ (o : Outcome Listing). (at o).list) q;
      group_holds = P.group_holds ∙ ap (λ (o : Outcome Listing). (at o).group) q;
      pieces_holds = cleared;
    })
    go (Ok found) q = absurd (other _ _ _ _ (P.answers ∙ ap (λ (o : Outcome Listing). (at o).answer) q))

-- the vector to split, read from its area
pub vector-read : (n : ℕ) (vector : List ℤ) → length vector ≡ n → padded (take n (drop 0 vector)) ≡ padded vector
vector-read n vector e = rw (← e, take-length vector)

pub vector-within : (vector : List ℤ) → fault_where 14 (length vector) (λ p. is_past split_limit (get_or vector p (pos 0))) ≡ no_fault → within split_limit (padded vector) ≡ true
unfolding padded
vector-within vector e = each_within split_limit (padded-within (past-where 14 split_limit vector e))

-- 5 and 6 are not met: it has n numbers
pub vector-sized : (n : ℕ) (vector : List ℤ) (pieces_size : ℕ) → no_fault ≡ first_fault (cells_fault n ∷ split_size_fault n vector pieces_size ∷ []) → length vector ≡ n
vector-sized n vector pieces_size e =
    let a = tests-none (cells_fault n) _ (sym e) in
    let b = tests-none (split_size_fault n vector pieces_size) _ a.1 in
    sizes-of-split n vector pieces_size b.0

-- what was tested before a listing was found, and its table
record Tested (order : Order) (list_size group_size : ℕ) (found : Listing) : Type 0 where
  admitted : Admitted order group_size (whole_rows order.n list_size)
  table_is : found.table ≡ table_of order group_size

listing-tested : (order : Order) (list_size group_size : ℕ) (found : Listing) → listing order list_size group_size ≡ accepted found → Tested order list_size group_size found
unfolding listing listing_of
listing-tested order list_size group_size found e =
    let a = unless-none _ (listing_of (table_of order group_size) (completed (table_of order group_size) (list_rows order.n list_size) (generators_of order))) e in
    record { admitted = admission-none order group_size _ a.0; table_is = go (completed (table_of order group_size) (list_rows order.n list_size) (generators_of order)) a.1 }
  where
    go : (c : Completion) → listing_of (table_of order group_size) c ≡ accepted found → found.table ≡ table_of order group_size
    go (stopped number place) x = accepted-refused x
    go (running s) x =
        let y : ◌≡◌ {A = Listing} (record { rows = final_rows (table_of order group_size) s.rows; table = table_of order group_size; stored = length s.rows; sums = s.sums }) found = cc x in
        sym (ap (λ (f : Listing). f.table) y)

-- rows within a limit, and zeros behind them
filled_within : (n size : ℕ) {limit : ℕ} (rows : List Vector) → Each (Within limit) rows → Within limit (filled (pos 0) size (numbers_of n rows))
unfolding filled numbers_of concat
filled_within n size {limit} rows h = each_append (numbers rows h) (zeros_within limit (size - length (concat (map (take n) rows))))
  where
    numbers : (l : List Vector) → Each (Within limit) l → Within limit (numbers_of n l)
    numbers [] k = each_nil
    numbers (v ∷ l) k = each_append (each_take n (each-head k)) (numbers l (each_tail k))

-- ---- outcomes by their answers
module _ (n list_size group_size pieces_size : ℕ) where
  outcome-refused : (o : Outcome Parts) (number place : ℕ) → (split_end n list_size group_size pieces_size o).answer ≡ refused number place → o ≡ refused number place
  unfolding split_end
  outcome-refused (Err r) number place e = ap₂ refused (ap number_of e) (ap place_of e)
  outcome-refused (accepted found) number place e = accepted-refused (sym e)

  outcome-accepted : (o : Outcome Parts) (count rows g stored sums : ℕ) → (split_end n list_size group_size pieces_size o).answer ≡ accepted (Split count rows g stored sums) → (found : Parts) × (o ≡ accepted found)
  unfolding split_end
  outcome-accepted (Err r) count rows g stored sums e = accepted-refused e
  outcome-accepted (accepted found) count rows g stored sums e = (found, refl)

module _ (order : Order) (vector : List ℤ) (list_size group_size pieces_size : ℕ) where
  abbrev outcome : Outcome Parts
  outcome = parts order vector list_size group_size pieces_size

  abbrev sizes : Fault
  sizes = first_fault (cells_fault order.n ∷ split_size_fault order.n vector pieces_size ∷ [])

  -- 5 or 6 is met before the List
  pub parts-unsized : {refusal : Refusal} → Err refusal ≡ sizes → Err refusal ≡ outcome
  unfolding parts unless_fault
  parts-unsized e = rw (← e)

  -- neither is: what the List came to
  pub parts-sized : {o : Outcome Listing} → no_fault ≡ sizes → o ≡ listing order list_size group_size → parts_of vector pieces_size o ≡ outcome
  unfolding parts unless_fault
  parts-sized e f = rw (f, ← e)

  -- ---- the promise
  module _ {answer : Outcome Answer} {list : List ℤ} {group : List ℕ} {pieces : List ℤ} (E : SplitEnds (split_end order.n list_size group_size pieces_size outcome) answer list group pieces)
      (long : length list ≡ list_size) (wide : length group ≡ group_size) (deep : length pieces ≡ pieces_size) where
    refused-is : (number place : ℕ) → (answer ≡ refused number place) ↔ (outcome ≡ refused number place)
    unfolding split_end
    refused-is number place = (λ e. outcome-refused order.n list_size group_size pieces_size outcome number place (sym E.answers ∙ e), λ e. rw e at E.answers)

    zero : (number place : ℕ) → answer ≡ refused number place → SplitZero list group pieces
    unfolding split_end
    zero number place e =
        let o = (refused-is number place).0 e in
        record {
          list_holds = rw long (rw o at E.list_holds ∙ filled-nothing (pos 0) list_size);
          group_holds = rw wide (rw o at E.group_holds ∙ filled-nothing 0 group_size);
          pieces_holds = rw deep (rw o at E.pieces_holds ∙ filled-nothing (pos 0) pieces_size);
        }

    kept : (count rows g stored sums : ℕ) → answer ≡ accepted (Split count rows g stored sums) → SplitAccepted order vector answer list group pieces
    unfolding split_end
    kept count rows g stored sums e =
        let A = outcome-accepted order.n list_size group_size pieces_size outcome count rows g stored sums (sym E.answers ∙ e) in
        let found = A.0 in
        let F = split-facts order vector list_size group_size pieces_size found A.1 in
        record {
          found = found;
          list_kept = list-kept order list_size group_size found.listing F.listed;
          kept = F.kept;
          in_lattice = F.in_lattice;
          says = rw A.1 at E.answers;
          list_holds = rw long (rw A.1 at E.list_holds);
          group_holds = rw wide (rw A.1 at E.group_holds);
          pieces_holds = rw deep (rw A.1 at E.pieces_holds);
        }

    -- A SPLIT KEEPS ITS PROMISE
    pub split-promise : SplitPromise order vector list_size group_size pieces_size answer list group pieces
    unfolding split_call
    split-promise = record {
      answers = E.answers;
      list_holds = E.list_holds;
      group_holds = E.group_holds;
      pieces_holds = E.pieces_holds;
      accepted = kept;
      refused = zero;
      outside = λ e. split-outside order vector list_size group_size pieces_size ((refused-is 15 0).0 e);
      exactly = λ P.
          let x = split-exactly order vector list_size group_size pieces_size P.found P.sizes P.listed P.entries in
          (λ e. x.0 ((refused-is 15 0).0 e), λ h. (refused-is 15 0).1 (x.1 h));
    }

-- ---- the areas after an accepted List
module _ {order : Order} {list_size group_size : ℕ} {answer : Outcome Answer} {list : List ℤ} {group : List ℕ} (P : ListPromise order list_size group_size answer list group) (long : length list ≡ list_size) (wide : length group ≡ group_size) where
  abbrev n : ℕ
  n = order.n

  -- what was found, by the numbers of the answer
  pub record Numbered (numbers : Numbers) : Type 0 where
    pub found : Listing
    pub same : listing order list_size group_size ≡ accepted found
    pub rows_are : numbers.rows ≡ length found.rows
    pub members_are : numbers.members ≡ length found.table
    pub stored_are : numbers.stored ≡ found.stored
    pub sums_are : numbers.sums ≡ found.sums

  pub listed : (numbers : Numbers) → answer ≡ accepted (Moves numbers.rows numbers.members numbers.stored numbers.sums) → Numbered numbers
  unfolding list_call list_end
  listed numbers e = go (listing order list_size group_size) refl
    where
      go : (o : Outcome Listing) → listing order list_size group_size ≡ o → Numbered numbers
      go (Err r) q = accepted-refused (sym (sym e ∙ rw q at P.answers))
      go (accepted found) q =
          let h = sym e ∙ rw q at P.answers in
          record { found = found; same = q; rows_are = cc h; members_are = cc h; stored_are = cc h; sums_are = cc h }

  module _ {numbers : Numbers} (L : Numbered numbers) where
    abbrev found : Listing
    found = L.found

    list-holds : list ≡ filled (pos 0) list_size (numbers_of n found.rows)
    unfolding list_call list_end
    list-holds = rw L.same at P.list_holds

    group-holds : group ≡ filled 0 group_size (concat found.table)
    unfolding list_call list_end
    group-holds = rw L.same at P.group_holds

    F : ListFacts order found
    F = listing-facts order list_size group_size found L.same

    T : Tested order list_size group_size found
    T = listing-tested order list_size group_size found L.same

    fits : n ≤ cells
    fits = (cells-none n T.admitted.cells_pass).most

    narrow : Each (Narrow n) found.rows
    narrow = rows-narrow order found F

    rows_same : rows_at n numbers.rows list ≡ found.rows
    rows_same = simp L.rows_are (held_rows n fits found.rows narrow list_size list-holds)

    held : group ≡ filled 0 group_size (concat (table_of order group_size))
    held = rw T.table_is at group-holds

    count : numbers.members ≡ length (table_of order group_size)
    count = rw T.table_is at L.members_are

    abbrev shape : Shape
    shape = record { n = n; g = numbers.members }

    table_same : sequences_in shape group ≡ found.table
    table_same = held-table T.admitted held wide count ∙ sym T.table_is

    G : Grouped shape order.generators group
    G = held-grouped T.admitted held wide count

    pub listed-held : Held n numbers list group
    listed-held = record {
      table = G.table;
      small = G.small;
      area = record {
        holds = omega (arith, held-room n fits found.rows narrow list_size list-holds, ap (λ (k : ℕ). k * n) L.rows_are);
        limited = subst (λ (l : List ℤ). within headroom l ≡ true) (sym list-holds) (each_within headroom (filled_within n list_size found.rows (each_from found.rows [] (λ r l. within_more (omega arith) (within-each entry_limit (get_or found.rows r []) (F.kept.limited r l))))));
      };
      few = omega (arith, L.rows_are, F.few, F.room);
      list_held = rw (long, rows_same) list-holds;
      group_held = G.held;
    }

    -- the listing was this one
    pub listed_same : accepted (listing_in n numbers list group) ≡ listing order list_size group_size
    listed_same = simp (rows_same, table_same, L.stored_are, L.sums_are, L.same)

-- the same, by what was found
module _ (order : Order) {list_size group_size : ℕ} {numbers : Numbers} {list : List ℤ} {group : List ℕ} (F : Finds order.n list_size group_size (listing order list_size group_size) list group (accepted numbers))
    (long : length list ≡ list_size) (wide : length group ≡ group_size) where
  promised : ListPromise order list_size group_size (accepted (Moves numbers.rows numbers.members numbers.stored numbers.sums)) list group
  promised = promise-accepted order _ _ _ _ _ _ long wide F

  pub found-held : Held order.n numbers list group
  found-held = listed-held promised long wide (listed promised long wide numbers refl)

  pub found_same : accepted (listing_in order.n numbers list group) ≡ listing order list_size group_size
  found_same = listed_same promised long wide (listed promised long wide numbers refl)

-- ---- 14 to 16 with a listing in its areas
module _ (n : ℕ) (numbers : Numbers) (list : List ℤ) (group : List ℕ) (vector : List ℤ) (pieces_size : ℕ) where
  abbrev pub at_hand : Listing
  at_hand = listing_in n numbers list group

  abbrev pub images : List Image
  images = placed_orbits 0 at_hand.table at_hand.rows

  abbrev pub taken : Splitting
  taken = splitting images (padded vector)

  -- 14 is met
  pub parts-past : {refusal : Refusal} → Err refusal ≡ fault_where 14 (length vector) (λ p. is_past split_limit (get_or vector p (pos 0))) → Err refusal ≡ parts_of vector pieces_size (accepted at_hand)
  unfolding parts_of split_fault unless_fault first_fault
  parts-past e = rw (← e)

  module _ {v : Vector} {area : List ℤ} {t : Taken} (S : Splits images v pieces_size area t) (same : v ≡ padded vector) (passed : fault_where 14 (length vector) (λ p. is_past split_limit (get_or vector p (pos 0))) ≡ no_fault) where
    outcome-is : parts_of vector pieces_size (accepted at_hand) ≡ unless_fault (pieces_fault t.rest t.count pieces_size) (accepted (record { listing = at_hand; pieces = taken.pieces }))
    unfolding parts_of split_fault first_fault
    outcome-is = rw (S.rest, S.count, same, passed)

    -- 15 or 16 is met
    pub parts-met : {refusal : Refusal} → Err refusal ≡ pieces_fault t.rest t.count pieces_size → Err refusal ≡ parts_of vector pieces_size (accepted at_hand)
    unfolding unless_fault
    parts-met e = rw (outcome-is, sym e) refl

    -- neither is
    pub ends-taken : (list_size group_size : ℕ) → list ≡ filled (pos 0) list_size (numbers_of n at_hand.rows) → group ≡ filled 0 group_size (concat at_hand.table) → no_fault ≡ pieces_fault t.rest t.count pieces_size
        → SplitEnds (split_end n list_size group_size pieces_size (parts_of vector pieces_size (accepted at_hand))) (accepted (Split t.count numbers.rows numbers.members numbers.stored numbers.sums)) list group area
    unfolding unless_fault split_end
    ends-taken list_size group_size a b e =
        let roomy = (tests-none _ _ (tests-none _ _ (sym e)).1).0 in
        let fits = leb-true t.count (pieces_size / piece_width) (not-false (leb t.count (pieces_size / piece_width)) (if_none 16 _ roomy)) in
        rw (outcome-is, sym e) (record {
          answers = rw (S.count, same, rows-count n numbers.rows list, chunks-length n numbers.members group);
          list_holds = a;
          group_holds = b;
          pieces_holds = rw same at (S.held fits);
        })
