-- WHAT AN ORDER MAY CONCLUDE, of either part of a session. Assumes nothing.
use Rattle.std.specs.declared.result.Result.TheVariants.{Err}
use Rattle.definitions.specs.Refusals.{Fault, no_fault, fault_at}
use Rattle.definitions.specs.declared.Answer.{Answer}
use Rattle.definitions.specs.declared.Ending.{Ending}
use Rattle.theory.proofs.Faults.{number_of, place_of}
use mathlib.Core.Path.{◌≡◌, refl, sym, ◌∙◌, ap, ap₂, subst}
use mathlib.Core.Bool.{Bool, true, false, cond}
use mathlib.Core.List.{List, []}
use Prim.Native.Nat.{ℕ, ◌≤◌}
use native.Mathlib.Omega.{arith}
use lib.IntN.{ℤ, pos}
use lib.ListN.{length, replicate, length-replicate}
use Rattle.definitions.specs.declared.Answer.TheVariants as answers
use Rattle.definitions.specs.declared.Ending.TheVariants.{Moves, Unfinished}
use Rattle.definitions.specs.Limits.{session_rows}
use Rattle.definitions.specs.Group.{Exchange}
use Rattle.definitions.specs.Completion.{Completion, is_finished, is_over, running, stopped, sum_count}
use Rattle.definitions.specs.Lent.{Order, table_of}
use Rattle.definitions.specs.Refusals.{Outcome, accepted, refused}
use Rattle.definitions.specs.Calls.{Listing, list_call, list_end, listing, listing_of}
use Rattle.definitions.specs.Session.{Part, Result, difference_fault, ended, ending_of, half, half_of, own_fault, result_of}
use Rattle.definitions.specs.Session.{session_fault, shared_fault, started, unfinished}
use Rattle.theory.proofs.Areas.{filled-nothing}
use Rattle.theory.proofs.ListCall.{list-kept}
use Rattle.theory.proofs.Steps.{steps}
use Rattle.definitions.specs.Demands.{Blank, Over, OwnEnd, PartAccepted, PartKept, SameShape}
use Rattle.session_theory.proofs.Tests.{fault-none}
use Rattle.session_theory.proofs.Own.{after, early-end, enough-steps, met-refused, own-end, result-over, result_after}
use Rattle.session_theory.proofs.Own.{unfinished-sums}

-- ---- results and answers
answer-ended : {X : Type 0} (o : Outcome Listing) {sums : ℕ} → ending_of (ended o) ≡ accepted (Unfinished sums) → X
unfolding ending_of
answer-ended (accepted found) e = let z : ◌≡◌ {A = ℕ} 0 1 = cc in absurd (omega (arith, z))
answer-ended (Err r) e = let z : ◌≡◌ {A = ℕ} 0 1 = cc in absurd (omega (arith, z))

-- an answer other than Unfinished comes from an end
not_left : (table : List Exchange) (c : Completion) → Over (ending_of (result_of table c)) → is_over c ≡ true
unfolding result_of is_over ending_of
not_left table (stopped number place) f = refl
not_left table (running s) f = go (is_finished s) refl f
  where
    go : (b : Bool) → is_finished s ≡ b
        → Over (ending_of (cond b (ended (listing_of table (running s))) (unfinished s.sums))) → is_finished s ≡ true
    go true e g = e
    go false e g = absurd (g s.sums refl)

over-left : (table : List Exchange) (c : Completion) → is_over c ≡ true → Over (ending_of (result_of table c))
over-left table c e sums f = answer-ended (listing_of table c) (sym (ap ending_of (result-over table c e)) ∙ f)

-- which result an answer comes from
unfinished-of : (result : Result) (sums : ℕ) → ending_of result ≡ accepted (Unfinished sums) → result ≡ unfinished sums
unfolding ending_of
unfinished-of (ended o) sums e = answer-ended o e
unfinished-of (unfinished tried) sums e = let z : tried ≡ sums = cc in ap unfinished z

pub refused-of : (result : Result) (number place : ℕ) → ending_of result ≡ refused number place
    → result ≡ ended (refused number place)
unfolding ending_of
refused-of (ended (accepted found)) number place e = let z : ◌≡◌ {A = ℕ} 0 1 = cc in absurd (omega (arith, z))
refused-of (ended (Err r)) number place e =
    let y : r.number ≡ number = cc in
    let z : r.place ≡ place = cc in
    ap₂ (λ (a b : ℕ). ended (refused a b)) y z
refused-of (unfinished tried) number place e = let z : ◌≡◌ {A = ℕ} 0 1 = cc in absurd (omega (arith, z))

moves-over : {rows members stored sums : ℕ} → Over (accepted (Moves rows members stored sums))
moves-over k e = let z : ◌≡◌ {A = ℕ} 0 1 = cc in omega (arith, z)

-- ---- halves
pub zeros-blank : (size : ℕ) {rows : List ℤ} → rows ≡ replicate size (pos 0) → Blank rows
zeros-blank size e = e ∙ ap (λ (k : ℕ). replicate k (pos 0)) (sym (ap length e ∙ length-replicate size (pos 0)))

refused-half : (n number place : ℕ) → Blank (half_of n (ended (refused number place)))
unfolding half_of
refused-half n number place = zeros-blank (half n) (filled-nothing (pos 0) (half n))

unfinished-half : (n sums : ℕ) → Blank (half_of n (unfinished sums))
unfolding half_of
unfinished-half n sums = zeros-blank (half n) (filled-nothing (pos 0) (half n))

-- ---- the part of an order
abbrev part_with : (n : ℕ) → Result → Part
part_with n result = record { ending = ending_of result; rows = half_of n result }

-- the part that a List on its own gives
module _ (order : Order) (group_size : ℕ) where
  abbrev found-by : Outcome Listing
  found-by = listing order (half order.n) group_size

  answered : {o : Outcome Listing} → found-by ≡ o
      → (list_call order (half order.n) group_size).answer ≡ (list_end order.n (half order.n) group_size o).answer
  unfolding list_call
  answered e = ap (λ (x : Outcome Listing). (list_end order.n (half order.n) group_size x).answer) e

  held : (o : Outcome Listing) → found-by ≡ o → half_of order.n (ended found-by) ≡ (list_call order (half order.n) group_size).list
  unfolding list_call list_end half_of
  held (accepted found) e =
      ap (λ (x : Outcome Listing). half_of order.n (ended x)) e
      ∙ sym (ap (λ (x : Outcome Listing). (list_end order.n (half order.n) group_size x).list) e)
  held (Err r) e =
      ap (λ (x : Outcome Listing). half_of order.n (ended x)) e
      ∙ sym (ap (λ (x : Outcome Listing). (list_end order.n (half order.n) group_size x).list) e)

  own-moves : (o : Outcome Listing) → found-by ≡ o → (r g k s : ℕ)
      → (list_call order (half order.n) group_size).answer ≡ accepted (answers.Moves r g k s) → ending_of (ended found-by) ≡ accepted (Moves r g k s)
  unfolding list_end ending_of
  own-moves (accepted found) e r g k s h =
      ap (λ (x : Outcome Listing). ending_of (ended x)) e ∙ counted (sym (answered e) ∙ h)
    where
      counted : (accepted (answers.Moves (length found.rows) (length found.table) found.stored found.sums)) ≡ accepted (answers.Moves r g k s)
          → (accepted (Moves (length found.rows) (length found.table) found.stored found.sums)) ≡ accepted (Moves r g k s)
      counted h = cc
  own-moves (Err q) e r g k s h =
      let f = sym (answered e) ∙ h in
      let z : ◌≡◌ {A = ℕ} 0 1 = cc in
      absurd (omega (arith, z))

  own-told : (o : Outcome Listing) → found-by ≡ o → (number place : ℕ)
      → (list_call order (half order.n) group_size).answer ≡ refused number place
      → ending_of (ended found-by) ≡ refused number place
  unfolding list_end ending_of
  own-told (accepted found) e number place h =
      let f = sym (answered e) ∙ h in
      let z : ◌≡◌ {A = ℕ} 0 1 = cc in
      absurd (omega (arith, z))
  own-told (Err r) e number place h = ap (λ (x : Outcome Listing). ending_of (ended x)) e ∙ told (sym (answered e) ∙ h)
    where
      told : ◌≡◌ {A = Outcome Answer} (refused r.number r.place) (refused number place)
          → ◌≡◌ {A = Outcome Ending} (refused r.number r.place) (refused number place)
      told h = ap₂ refused (ap number_of h) (ap place_of h)

  own-part : OwnEnd order group_size (part_with order.n (ended found-by))
  own-part = record { moves = own-moves found-by refl; refused = own-told found-by refl; rows = held found-by refl }

-- what an order has come to beside another, with `count` steps
abbrev pub part_of : (order other : Order) (list_size group_size count : ℕ) → Part
part_of order other list_size group_size count =
    part_with order.n (result_after order other list_size group_size (table_of order group_size) count)

-- the tests of an order see only the other's cells and exchanges
shape : (n : ℕ) (exchanges : List ℕ) → Order
shape n exchanges = record { n = n; generators = []; exchanges = exchanges; images = [] }

fault-shape : (order other : Order) (list_size group_size : ℕ)
    → session_fault order other list_size group_size ≡ session_fault order (shape other.n other.exchanges) list_size group_size
unfolding session_fault shared_fault difference_fault shape
fault-shape order other list_size group_size = refl

shared-shape : (order other : Order) (list_size : ℕ)
    → shared_fault order other list_size ≡ shared_fault order (shape other.n other.exchanges) list_size
unfolding shared_fault shape
shared-shape order other list_size = refl

module _ (order : Order) (list_size group_size : ℕ) {other other' : Order} (h : SameShape other other') where
  same-fault : session_fault order other list_size group_size ≡ session_fault order other' list_size group_size
  same-fault =
      fault-shape order other list_size group_size
      ∙ ap₂ (λ (n : ℕ) (x : List ℕ). session_fault order (shape n x) list_size group_size) h.cells h.exchanges
      ∙ sym (fault-shape order other' list_size group_size)

  same-shared : shared_fault order other list_size ≡ shared_fault order other' list_size
  same-shared =
      shared-shape order other list_size
      ∙ ap₂ (λ (n : ℕ) (x : List ℕ). shared_fault order (shape n x) list_size) h.cells h.exchanges
      ∙ sym (shared-shape order other' list_size)

-- A PART: what `part` gives an order beside any other
pub record IsPart (order : Order) (list_size group_size count : ℕ) (part : Order → Part) : Type 0 where
  pub left : (other : Order) → shared_fault order other list_size ≡ no_fault
      → part other ≡ part_of order other list_size group_size count
  pub blank : List ℤ
  pub zeros : Blank blank
  pub shut : (other : Order) (number place : ℕ) → shared_fault order other list_size ≡ fault_at number place
      → part other ≡ record { ending = refused number place; rows = blank }

module _ {order : Order} {list_size group_size count : ℕ} {part : Order → Part} (P : IsPart order list_size group_size count part) (other : Order) where
  abbrev result : Result
  result = result_after order other list_size group_size (table_of order group_size) count

  abbrev shared : Fault
  shared = shared_fault order other list_size

  -- a part that a shared test refused
  shut-ending : {number place : ℕ} → shared ≡ fault_at number place → (part other).ending ≡ refused number place
  shut-ending {number} {place} e = ap (λ (p : Part). p.ending) (P.shut other number place e)

  from-own : shared ≡ no_fault → result ≡ ended (listing order (half order.n) group_size) → OwnEnd order group_size (part other)
  from-own e r =
      subst (OwnEnd order group_size) (sym (P.left other e ∙ ap (part_with order.n) r)) (own-part order group_size)

  own : shared ≡ no_fault → difference_fault order other ≡ no_fault → Over (part other).ending → OwnEnd order group_size (part other)
  own e d f =
      from-own e
      (own-end order other list_size group_size e d count
      (not_left (table_of order group_size) (after order other list_size group_size (table_of order group_size) count)
      (λ sums q. f sums (ap (λ (p : Part). p.ending) (P.left other e) ∙ q))))

  early : (number place : ℕ) → shared ≡ no_fault → own_fault order group_size ≡ fault_at number place → OwnEnd order group_size (part other)
  early number place e d = from-own e (early-end order other list_size group_size e d count)

  ending-is : shared ≡ no_fault → (part other).ending ≡ ending_of result
  ending-is e = ap (λ (p : Part). p.ending) (P.left other e)

  rows_are : shared ≡ no_fault → (part other).rows ≡ half_of order.n result
  rows_are e = ap (λ (p : Part). p.rows) (P.left other e)

  -- an order that is not refused meets no test
  unmet : shared ≡ no_fault → ((number place : ℕ) → ¬ ((part other).ending ≡ refused number place))
      → session_fault order other list_size group_size ≡ no_fault
  unfolding ending_of
  unmet e f = go (session_fault order other list_size group_size) refl
    where
      go : (x : Fault) → session_fault order other list_size group_size ≡ x → session_fault order other list_size group_size ≡ no_fault
      go no_fault p = p
      go (Err refusal) p =
          let r = met-refused order other list_size group_size (table_of order group_size) count p in
          absurd (f refusal.number refusal.place (ending-is e ∙ ap ending_of r))

  accepts : (rows members stored sums : ℕ) → (part other).ending ≡ accepted (Moves rows members stored sums) → PartAccepted order group_size (part other)
  unfolding ending_of half_of
  accepts rows members stored sums e = go shared refl
    where
      other-than : {number place : ℕ} → (part other).ending ≡ refused number place → ⊥
      other-than f = let z : ◌≡◌ {A = ℕ} 0 1 = cc in omega (arith, z)

      taken : shared ≡ no_fault → (o : Outcome Listing) → listing order (half order.n) group_size ≡ o → result ≡ ended o
          → PartAccepted order group_size (part other)
      taken p (accepted found) l r = record {
        found = found;
        listed = l;
        kept = list-kept order (half order.n) group_size found l;
        says = ending-is p ∙ ap ending_of r;
        holds = rows_are p ∙ ap (half_of order.n) r;
      }
      taken p (Err q) l r = absurd (other-than (ending-is p ∙ ap ending_of r))

      go : (x : Fault) → shared ≡ x → PartAccepted order group_size (part other)
      go (Err r) p = absurd (other-than (shut-ending p))
      go no_fault p =
          let d = (fault-none order other list_size group_size (unmet p (λ m q f. other-than f))).1 in
          let over = not_left (table_of order group_size) (after order other list_size group_size (table_of order group_size) count)
          (λ k f. moves-over k (sym e ∙ ending-is p ∙ f)) in
          taken p (listing order (half order.n) group_size) refl (own-end order other list_size group_size p d count over)

  refuses : (number place : ℕ) → (part other).ending ≡ refused number place → Blank (part other).rows
  refuses number place e = go shared refl
    where
      go : (x : Fault) → shared ≡ x → Blank (part other).rows
      go (Err r) p = subst (λ (x : Part). Blank x.rows) (sym (P.shut other r.number r.place p)) P.zeros
      go no_fault p =
          subst Blank (sym (rows_are p ∙ ap (half_of order.n) (refused-of result number place (sym (ending-is p) ∙ e))))
          (refused-half order.n number place)

  leaves : (sums : ℕ) → (part other).ending ≡ accepted (Unfinished sums) → (sums ≡ count) × Blank (part other).rows
  leaves sums e = go shared refl
    where
      go : (x : Fault) → shared ≡ x → (sums ≡ count) × Blank (part other).rows
      go (Err r) p =
          let f = shut-ending p in
          let z : ◌≡◌ {A = ℕ} 0 1 = cc in
          absurd (omega (arith, z))
      go no_fault p =
          let r = unfinished-of result sums (sym (ending-is p) ∙ e) in (
            unfinished-sums order other list_size group_size (table_of order group_size) count sums r,
            subst Blank (sym (rows_are p ∙ ap (half_of order.n) r)) (unfinished-half order.n sums),
          )

  finishes : sum_count (length (table_of order group_size)) session_rows ≤ count → Over (part other).ending
  finishes h sums e = go shared refl
    where
      go : (x : Fault) → shared ≡ x → ⊥
      go (Err r) p = let f = shut-ending p in let z : ◌≡◌ {A = ℕ} 0 1 = cc in omega (arith, z)
      go no_fault p =
          over-left (table_of order group_size) (after order other list_size group_size (table_of order group_size) count)
          (enough-steps order other list_size group_size count h) sums (sym (ending-is p) ∙ e)

  -- TWO RUNS: the part beside another order of the same shape is the same
  pub part-blind : (other' : Order) → SameShape other other' → part other' ≡ part other
  part-blind other' h = go shared refl
    where
      table : List Exchange
      table = table_of order group_size

      parts : part_of order other list_size group_size count ≡ part_of order other' list_size group_size count
      parts =
          ap (λ (f : Fault). part_with order.n (result_of table (steps table session_rows count (started table f order))))
          (same-fault order list_size group_size h)

      go : (x : Fault) → shared ≡ x → part other' ≡ part other
      go (Err r) p = P.shut other' r.number r.place (sym (same-shared order list_size group_size h) ∙ p) ∙ sym (P.shut other r.number r.place p)
      go no_fault p = P.left other' (sym (same-shared order list_size group_size h) ∙ p) ∙ sym (P.left other p ∙ parts)

  pub part-kept : PartKept order other list_size group_size count part
  part-kept = record {
    own = own;
    early = early;
    accepted = accepts;
    refused = refuses;
    unfinished = leaves;
    finishes = finishes;
    blind = part-blind;
  }
