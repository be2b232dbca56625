-- How a List ends (Specification 3.5 and 7.4). Assumes nothing.
use Rattle.definitions.specs.declared.Answer.{Answer}
use Rattle.moves.specs.declared.Numbers.{Numbers}
use Rattle.std.specs.declared.result.Result.TheVariants.{Err}
use mathlib.Core.Path.{◌≡◌, refl, sym, ◌∙◌, ap, ap₂, subst}
use mathlib.Core.List.{List, []}
use Prim.Native.Nat.{ℕ}
use lib.IntN.{ℤ, pos}
use lib.ListN.{length, replicate, length-replicate}
use Rattle.definitions.specs.declared.Answer.TheVariants.{Moves}
use Rattle.definitions.specs.Lent.{Order, filled, generators_of, table_of, whole_rows}
use Rattle.definitions.specs.Refusals.{Outcome, accepted, refused, admission_fault, unless_fault}
use Rattle.definitions.specs.Calls.{Listing, listing, list_end, list_call}
use Rattle.theory.proofs.Areas.{filled-nothing}
use Rattle.theory.proofs.Faults.{accepted-refused, number_of, place_of}
use Rattle.theory.proofs.ListCall.{list-kept}
use Rattle.admission.specs.Admission.{Tabled}
use Rattle.admission.proofs.Tests.{admission-refused}
use Rattle.reduction.specs.Areas.{sequences_in}
use Rattle.moves.proofs.Tables.{passed, table-admitted}
use Rattle.moves.specs.Found.{listing_with, listed_of, Finds}
use Rattle.moves.specs.Promise.{ListPromise}

-- ---- outcomes
listed-refused : {number place : ℕ} (o : Outcome Listing) → refused number place ≡ listed_of o → o ≡ refused number place
listed-refused (Err r) e = sym (ap₂ refused (ap number_of e) (ap place_of e))
listed-refused (accepted found) e = accepted-refused e

record Accepting (rows g stored sums : ℕ) (o : Outcome Listing) : Type 0 where
  found : Listing
  same : o ≡ accepted found
  answer : accepted (Moves rows g stored sums) ≡ accepted (Moves (length found.rows) (length found.table) found.stored found.sums)

-- the answer with these numbers
abbrev answer_of : Outcome Numbers → Outcome Answer
answer_of (accepted n) = accepted (Moves n.rows n.members n.stored n.sums)
answer_of (Err r) = refused r.number r.place

listed_found : {rows g stored sums : ℕ} (o : Outcome Listing) → accepted (record { rows = rows; members = g; stored = stored; sums = sums }) ≡ listed_of o → Accepting rows g stored sums o
listed_found (Err r) e = accepted-refused (sym e)
listed_found (accepted found) e = record { found = found; same = refl; answer = ap answer_of e }

-- ---- what is found where a test is met
pub finds-refused : {n list_size group_size number place : ℕ} {o : Outcome Listing} {list : List ℤ} {group : List ℕ} → o ≡ refused number place → Finds n list_size group_size o list group (refused number place)
finds-refused e = record { answer = sym (ap listed_of e); list_holds = λ found h. accepted-refused (sym e ∙ h); group_holds = λ found h. accepted-refused (sym e ∙ h) }

-- the same for an answer by its case
pub finds-is : {n list_size group_size : ℕ} {o : Outcome Listing} {list : List ℤ} {group : List ℕ} {r t : Outcome Numbers} → Finds n list_size group_size o list group r → r ≡ t → Finds n list_size group_size o list group t
finds-is {n} {list_size} {group_size} {o} {list} {group} F e = subst (Finds n list_size group_size o list group) e F

-- ---- 5 to 13
module _ (order : Order) (list_size group_size : ℕ) where
  abbrev Tests : List ℕ → Outcome ℕ → Type 0
  Tests group r = Tabled group_size (admission_fault order group_size (whole_rows order.n list_size)) (table_of order group_size) group r

  -- one of 5 to 11 is met
  pub finds-unadmitted : {number place : ℕ} {list : List ℤ} {group : List ℕ} → Tests group (refused number place)
      → Finds order.n list_size group_size (listing order list_size group_size) list group (refused number place)
  unfolding listing unless_fault
  finds-unadmitted T = finds-refused (rw (admission-refused _ _ T.answer) refl)

  -- none is: what was found with the table in the group area
  pub finds-admitted : {g : ℕ} {list : List ℤ} {group : List ℕ} {r : Outcome Numbers} → Tests group (accepted g) → length group ≡ group_size
      → Finds order.n list_size (length group) (listing_with order.n list_size (sequences_in (record { n = order.n; g = g }) group) order.generators) list group r
      → Finds order.n list_size group_size (listing order list_size group_size) list group r
  unfolding listing unless_fault generators_of
  finds-admitted T long F = rw ((passed order _ T long).0, ← table-admitted order _ T long, ← long) F

  -- ---- the promise
  pub promise-refused : (number place : ℕ) → listing order list_size group_size ≡ refused number place → {list' : List ℤ} {group' : List ℕ} → list' ≡ filled (pos 0) list_size [] → group' ≡ filled 0 group_size []
      → ListPromise order list_size group_size (refused number place) list' group'
  unfolding list_call list_end
  promise-refused number place e p q = record {
    answers = rw e refl;
    list_holds = rw e p;
    group_holds = rw e q;
    accepted = λ a b c d h. accepted-refused h;
    refused = λ a b h. record { list_holds = zeros (pos 0) list_size p; group_holds = zeros 0 group_size q };
  }
    where
      zeros : {A : Type 0} (blank : A) {xs : List A} (size : ℕ) → xs ≡ filled blank size [] → xs ≡ replicate (length xs) blank
      zeros blank size e = rw (e ∙ filled-nothing blank size, length-replicate)

  pub promise-accepted : (rows g stored sums : ℕ) {list : List ℤ} {group : List ℕ} → length list ≡ list_size → length group ≡ group_size → Finds order.n list_size group_size (listing order list_size group_size) list group (accepted (record { rows = rows; members = g; stored = stored; sums = sums }))
      → ListPromise order list_size group_size (accepted (Moves rows g stored sums)) list group
  unfolding list_call list_end
  promise-accepted rows g stored sums {list} {group} long wide F = record {
    answers = rw A.same A.answer;
    list_holds = rw A.same (F.list_holds A.found A.same);
    group_holds = rw A.same (F.group_holds A.found A.same);
    accepted = λ a b c d h. record {
      found = A.found;
      kept = list-kept order list_size group_size A.found A.same;
      says = A.answer;
      list_holds = rw long (F.list_holds A.found A.same);
      group_holds = rw wide (F.group_holds A.found A.same);
    };
    refused = λ a b h. accepted-refused (sym h);
  }
    where
      A : Accepting rows g stored sums (listing order list_size group_size)
      A = listed_found (listing order list_size group_size) F.answer

  pub found-refused : {number place : ℕ} {list : List ℤ} {group : List ℕ} → Finds order.n list_size group_size (listing order list_size group_size) list group (refused number place) → listing order list_size group_size ≡ refused number place
  found-refused F = listed-refused (listing order list_size group_size) F.answer
