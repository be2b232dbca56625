-- What a List with coefficients leaves in its areas: zeros where it is refused; and what an accepted call has
-- written, sent back to Check as it stands there, is passed. Assumes nothing.
use Rattle.std.specs.declared.result.Result.TheVariants.{Err}
use Rattle.definitions.specs.Refusals.{no_fault}
use mathlib.Core.Path.{◌≡◌, refl, sym, ◌∙◌, ap, ap₂, subst}
use mathlib.Core.Bool.{true}
use mathlib.Core.List.{List, []}
use Prim.Native.Nat.{ℕ, ◌≤◌, ◌*◌, ◌/◌, ◌-◌}
use native.Mathlib.Omega.{arith}
use native.Mathlib.Nat.{mul-le-mul_right}
use lib.IntN.{ℤ, pos}
use lib.ListN.{length, take, replicate}
use lib.Seq.{take_at}
use Rattle.definitions.specs.declared.Answer.TheVariants.{Moves, Passed}
use Rattle.definitions.specs.Lists.{concat}
use Rattle.definitions.specs.Group.{Exchange}
use Rattle.definitions.specs.Completion.{Completion, completed, running, stopped, sum_count}
use Rattle.definitions.specs.Lent.{Order, filled, generators_of, list_rows, numbers_of, table_of, whole_rows}
use Rattle.definitions.specs.Refusals.{Outcome, accepted, cells_fault, order_fault, refused}
use Rattle.definitions.specs.Calls.{Listing, check_call, list_end, listing, listing_of}
use Rattle.definitions.specs.Calls.{CertifiedEnd, CertifiedListing, certified_call, certified_end, certified_listing}
use Rattle.theory.proofs.Areas.{filled-nothing, length-filled}
use Rattle.theory.proofs.Counting.{completed-tried}
use Rattle.theory.proofs.Completion.{table-positive}
use Rattle.theory.proofs.Faults.{accepted-refused, unless-none}
use Rattle.theory.proofs.Accepted.{admission-none, order-generators, order-symmetric}
use Rattle.theory.proofs.ListCall.{listing-facts}
use Rattle.theory.proofs.CheckCall.{generators-count}
use Rattle.certified_theory.proofs.Forgetting.{accepted-sized, certified-listing}
use Rattle.certified_theory.proofs.Passing.{brought-long, given-long, written-passed}

-- ---- the end of a refused call, and of an accepted one
pub record CertifiedZeros (list_size group_size coefficient_size : ℕ) (end : CertifiedEnd) : Type 0 where
  pub list : end.list ≡ replicate list_size (pos 0)
  pub group : end.group ≡ replicate group_size 0
  pub coefficients : end.coefficients ≡ replicate coefficient_size (pos 0)

-- A REFUSED CALL leaves zeros in all three areas
pub certified-refused : (order : Order) (list_size group_size coefficient_size number place : ℕ)
    → (certified_call order list_size group_size coefficient_size).answer ≡ refused number place
    → CertifiedZeros list_size group_size coefficient_size (certified_call order list_size group_size coefficient_size)
unfolding certified_call certified_end list_end
certified-refused order list_size group_size coefficient_size number place e =
    go (certified_listing order list_size group_size coefficient_size) e
  where
    ended : Outcome CertifiedListing → CertifiedEnd
    ended o = certified_end order.n list_size group_size coefficient_size o

    go : (o : Outcome CertifiedListing) → (ended o).answer ≡ refused number place
        → CertifiedZeros list_size group_size coefficient_size (ended o)
    go (accepted found) q = let z : ◌≡◌ {A = ℕ} 0 1 = cc in absurd (omega arith)
    go (Err r) q = record {
      list = filled-nothing (pos 0) list_size;
      group = filled-nothing 0 group_size;
      coefficients = filled-nothing (pos 0) coefficient_size;
    }

pub record CertifiedHeld (order : Order) (list_size group_size coefficient_size : ℕ) (found : CertifiedListing)
    (end : CertifiedEnd) : Type 0 where
  pub answer : end.answer
      ≡ accepted (Moves (length found.listing.rows) (length found.listing.table) found.listing.stored found.listing.sums)
  pub list : end.list ≡ filled (pos 0) list_size (numbers_of order.n found.listing.rows)
  pub group : end.group ≡ filled 0 group_size (concat found.listing.table)
  pub coefficients : end.coefficients ≡ filled (pos 0) coefficient_size (concat found.coefficients)

pub certified-accepted : (order : Order) (list_size group_size coefficient_size : ℕ) (found : CertifiedListing)
    → certified_listing order list_size group_size coefficient_size ≡ accepted found
    → CertifiedHeld order list_size group_size coefficient_size found
    (certified_call order list_size group_size coefficient_size)
unfolding certified_call certified_end list_end
certified-accepted order list_size group_size coefficient_size found e =
    subst (λ (o : Outcome CertifiedListing).
    CertifiedHeld order list_size group_size coefficient_size found (certified_end order.n list_size group_size coefficient_size o))
    (sym e) (record { answer = refl; list = refl; group = refl; coefficients = refl })

-- ---- sizes
-- a List stores no more rows than are lent
pub stored-fits : (order : Order) (list_size group_size : ℕ) (found : Listing)
    → listing order list_size group_size ≡ accepted found
    → found.stored ≤ list_size / order.n
unfolding listing listing_of list_rows
stored-fits order list_size group_size found e =
    let a = unless-none _ (listing_of table (completed table limit (generators_of order))) e in
    let A = admission-none order group_size _ a.0 in
    go A.cells_pass A.tests_pass (completed table limit (generators_of order)) refl a.1
  where
    table : List Exchange
    table = table_of order group_size

    limit : ℕ
    limit = list_rows order.n list_size

    used : limit ≤ list_size / order.n
    used = omega arith

    go : cells_fault order.n ≡ no_fault → order_fault order group_size ≡ no_fault → (c : Completion)
        → completed table limit (generators_of order) ≡ c → listing_of table c ≡ accepted found
        → found.stored ≤ list_size / order.n
    go p q (stopped number place) r x = accepted-refused x
    go p q (running s) r x =
        let G = order-generators order group_size q in
        let y : length s.rows ≡ found.stored = cc in
        let positive = table-positive (order-symmetric order group_size p q) G.0 G.1 in
        omega (arith, used, y, (completed-tried table limit (generators_of order) s positive r).fits)

-- what is written fits the coefficients area
pub coefficients-fit : (order : Order) (list_size group_size coefficient_size : ℕ) (found : CertifiedListing)
    → certified_listing order list_size group_size coefficient_size ≡ accepted found
    → length (concat found.coefficients) ≤ coefficient_size
coefficients-fit order list_size group_size coefficient_size found e =
    omega (
      arith,
      given-long order list_size group_size coefficient_size found e,
      size_is,
      mul-le-mul_right {m = length found.listing.rows} {n = list_size / order.n} (length (generators_of order)) few,
    )
  where
    plain : listing order list_size group_size ≡ accepted found.listing
    plain = certified-listing order list_size group_size coefficient_size found e

    few : length found.listing.rows ≤ list_size / order.n
    few =
        omega (
          arith,
          (listing-facts order list_size group_size found.listing plain).few,
          stored-fits order list_size group_size found.listing plain,
        )

    size_is : coefficient_size ≡ list_size / order.n * length (generators_of order)
    size_is =
        (accepted-sized order list_size group_size coefficient_size found e).one_each
        ∙ ap (λ (k : ℕ). list_size / order.n * k) (sym (generators-count order))

-- THE COEFFICIENTS AREA KEEPS ITS SIZE
pub coefficients-size : (order : Order) (list_size group_size coefficient_size : ℕ)
    → length (certified_call order list_size group_size coefficient_size).coefficients ≡ coefficient_size
unfolding certified_call certified_end
coefficients-size order list_size group_size coefficient_size = go (certified_listing order list_size group_size coefficient_size) refl
  where
    go : (o : Outcome CertifiedListing) → certified_listing order list_size group_size coefficient_size ≡ o
        → length (certified_end order.n list_size group_size coefficient_size o).coefficients ≡ coefficient_size
    go (Err r) e = length-filled (pos 0) coefficient_size [] (omega arith)
    go (accepted found) e =
        length-filled (pos 0) coefficient_size (concat found.coefficients)
        (coefficients-fit order list_size group_size coefficient_size found e)

-- ---- sent back
-- the numbers at the start of a filled area
front : (size k : ℕ) (numbers : List ℤ) → length numbers ≡ k → take k (filled (pos 0) size numbers) ≡ numbers
unfolding filled
front size k numbers e = take_at numbers (replicate (size - length numbers) (pos 0)) k e

-- A WRITTEN LIST, as it stands in its areas, IS PASSED BY CHECK with the same order and every group area that has
-- room for the group
pub areas-passed : (order : Order) (list_size group_size coefficient_size rows g stored sums : ℕ)
    → (certified_call order list_size group_size coefficient_size).answer ≡ accepted (Moves rows g stored sums)
    → (other : ℕ) → whole_rows order.n other ≡ true → g ≤ other / order.n
    → (check_call order (take (rows * order.n) (certified_call order list_size group_size coefficient_size).list)
    (take (rows * length (generators_of order)) (certified_call order list_size group_size coefficient_size).coefficients) other).answer
    ≡ accepted (Passed rows (sum_count g rows))
unfolding certified_call certified_end list_end
areas-passed order list_size group_size coefficient_size rows g stored sums q other whole room =
    go (certified_listing order list_size group_size coefficient_size) refl q
  where
    ended : Outcome CertifiedListing → CertifiedEnd
    ended o = certified_end order.n list_size group_size coefficient_size o

    go : (o : Outcome CertifiedListing) → certified_listing order list_size group_size coefficient_size ≡ o
        → (ended o).answer ≡ accepted (Moves rows g stored sums)
        → (check_call order (take (rows * order.n) (ended o).list)
        (take (rows * length (generators_of order)) (ended o).coefficients) other).answer
        ≡ accepted (Passed rows (sum_count g rows))
    go (Err r) e a = let z : ◌≡◌ {A = ℕ} 0 1 = cc in absurd (omega arith)
    go (accepted found) e a =
        let r : length found.listing.rows ≡ rows = cc in
        let t : length found.listing.table ≡ g = cc in
        ap₂ (λ (x y : List ℤ). (check_call order x y other).answer)
        (front list_size (rows * order.n) (numbers_of order.n found.listing.rows)
        (brought-long order list_size group_size coefficient_size found e ∙ ap (λ (k : ℕ). k * order.n) r))
        (front coefficient_size (rows * length (generators_of order)) (concat found.coefficients)
        (given-long order list_size group_size coefficient_size found e ∙ ap (λ (k : ℕ). k * length (generators_of order)) r))
        ∙ written-passed order list_size group_size coefficient_size found e other whole (omega (arith, room, t))
        ∙ ap₂ (λ (k l : ℕ). (accepted (Passed k (sum_count l k)))) r t
