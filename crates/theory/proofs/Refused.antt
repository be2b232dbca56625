-- What a refusal of a lent call may report (Specification 7.2): the last number, and how great its place can be. Assumes nothing.
use Rattle.std.specs.declared.result.Result.TheVariants.{Err}
use Rattle.definitions.specs.Refusals.{Fault, no_fault, fault_at}
use Rattle.std.specs.Prelude.{if◌then◌else◌}
use mathlib.Core.Path.{◌≡◌, refl, sym, subst, ap, ap₂, ◌∙◌}
use mathlib.Core.Bool.{Bool, true, false}
use mathlib.Core.Logic.{◌⊎◌, inl, inr}
use mathlib.Core.List.{List, [], ◌∷◌, map}
use Prim.Native.Nat.{ℕ, ◌+◌, ◌*◌, ◌/◌, ◌≤◌, ◌<◌}
use native.Mathlib.Nat.{mul-le-mul, mul-le-mul_left, suc-mul, zero-mul}
use native.Mathlib.Omega.{arith}
use lib.IntN.{ℤ}
use lib.ListN.{length, length-append, length-map}
use Rattle.definitions.specs.Limits.{exchange_limit, generator_limit, group_limit, list_limit}
use Rattle.definitions.specs.Vector.{Vector, padded}
use Rattle.definitions.specs.Group.{Exchange, exchanged}
use Rattle.definitions.specs.Completion.{Completion, completed, running, stopped, sum_count}
use Rattle.definitions.specs.Split.{Splitting, placed_orbits, splitting}
use Rattle.definitions.specs.Lent.{Order, exchanges_of, generators_of, is_bare, list_rows, rows_of, table_of, vectors_of, whole_rows}
use Rattle.definitions.specs.Refusals.{Outcome, accepted, admission_fault, brought_fits, cells_fault, first_fault, numbers_fault, order_fault, refused, rows_fault, size_fault, split_fault, split_size_fault, symmetry_fault, wholeness_fault}
use Rattle.definitions.specs.Refusals.{images_fault, lattice_fault, leaving_fault, sent_images}
use Rattle.definitions.specs.Calls.{Listing, Parts, check_call, check_end, check_fault, list_call, list_end, listing, listing_of, parts, parts_of, rules_fault, split_call, split_end}
use Rattle.theory.proofs.Lists.{chunks-length}
use Rattle.theory.proofs.Counting.{completed-near}
use Rattle.theory.proofs.Sums.{sums-said}
use Rattle.theory.proofs.Completion.{table-positive}
use Rattle.theory.proofs.Faults.{Said, accepted-refused, number_of, place_of, said-end, said-first, said-if, said-where, tests-none, unless-refused}
use Rattle.theory.proofs.Sizes.{OrderSized, sizes-of-check, sizes-of-order, sizes-of-split}
use Rattle.theory.proofs.Accepted.{Sized, admission-none, cells-none, order-generators, order-symmetric, table-small}
use Rattle.theory.proofs.ListCall.{completed-stops}
use Rattle.theory.proofs.CheckCall.{generators-count, vectors-count}

-- no place is past this: of all places those of sums can be greatest, and these are all sums of the greatest group and list
abbrev pub place_limit : ℕ
place_limit = group_limit * list_limit * (list_limit + 1)

-- all sums that can be tried are within it
pub sums-few : {g k : ℕ} → g ≤ group_limit → k ≤ list_limit → sum_count g k ≤ place_limit
unfolding sum_count
sums-few {g} {k} h l = mul-le-mul (mul-le-mul h l) more
  where
    more : k + 1 ≤ list_limit + 1
    more = omega arith

-- the last number
abbrev pub last_number : ℕ
last_number = 24

-- a refusal that may be reported, by a call whose own last number is `last`; past that there is 23 alone
pub record Reported (last number place : ℕ) : Type 0 where
  pub some : 1 ≤ number
  pub low : number ≤ last_number
  pub own : last < number → number ≡ 23
  pub near : place ≤ place_limit

-- the same, of a call with more numbers
pub reported-more : {last more number place a b : ℕ} → last ≤ more → a ≡ number → b ≡ place → Reported last a b → Reported more number place
reported-more h y z r = record { some = omega arith; low = omega arith; own = λ k. omega (arith, r.own (omega arith)); near = omega arith }

-- ---- 11, or 23 in its place
pub images-count : (generators : List Vector) (sent : List Exchange) → length (sent_images generators sent) ≡ length sent * length generators
unfolding sent_images
images-count generators [] = sym (zero-mul (length generators))
images-count generators (s ∷ sent) =
    length-append (map (exchanged s) generators) (sent_images generators sent) ∙ ap₂ ◌+◌ (length-map generators (exchanged s)) (images-count generators sent) ∙ omega (arith, suc-mul (length sent) (length generators))

pub exchanges-count : (order : Order) → length (exchanges_of order) ≡ length order.exchanges / order.n
unfolding exchanges_of rows_of
exchanges-count order = chunks-length order.n (length order.exchanges / order.n) order.exchanges

lattice-said : (order : Order) (last : ℕ) → 13 ≤ last → OrderSized order → Said (Reported last) (lattice_fault order)
unfolding lattice_fault images_fault leaving_fault
lattice-said order last h Z = either (is_bare order)
  where
    generators : List Vector
    generators = generators_of order

    sent : List Exchange
    sent = exchanges_of order

    few : length (sent_images generators sent) ≤ exchange_limit * generator_limit
    few =
        let e : length sent ≤ exchange_limit = omega (arith, exchanges-count order, Z.exchanges) in
        let g : length generators ≤ generator_limit = omega (arith, generators-count order, Z.generators) in
        omega (arith, images-count generators sent, mul-le-mul e g)

    either : (b : Bool) → Said (Reported last) (if b then images_fault generators sent order.images else leaving_fault generators sent)
    either true = said-where 23 _ _ (λ p l. omega (arith, few))
    either false = said-where 11 _ _ (λ p l. omega (arith, Z.generators, generators-count order))

-- ---- 7 to 11
order-said : (order : Order) (group_size last : ℕ) → 13 ≤ last → Sized order.n → OrderSized order → Said (Reported last) (order_fault order group_size)
unfolding order_fault numbers_fault symmetry_fault
order-said order group_size last h S Z =
    said-first _
    (said-first _ (said-where 7 _ _ (λ p l. omega (arith, Z.numbers, mul-le-mul_left generator_limit S.most)))
    (λ e. said-first _ (said-where 8 _ _ (λ p l. omega (arith, Z.generators, generators-count order)))
    (λ e. said-first _ (said-where 9 _ _ (λ p l. omega (arith, Z.exchanges, exchanges-count order)))
    (λ e. said-end (Reported last)))))
    (λ e. said-first _
    (said-first _ (said-if 10 _ (omega arith))
    (λ e. said-first _ (lattice-said order last h Z)
    (λ e. said-end (Reported last))))
    (λ e. said-end (Reported last)))

-- ---- 5 to 11
pub admission-said : (order : Order) (group_size : ℕ) (fits : Bool) (last : ℕ) → 13 ≤ last → Said (Reported last) (admission_fault order group_size fits)
unfolding admission_fault cells_fault size_fault
admission-said order group_size fits last h =
    said-first _ (said-if 5 _ (omega arith))
    (λ e. said-first _ (said-if 6 _ (omega arith))
    (λ f. said-first _ (order-said order group_size last h (cells-none order.n e) (sizes-of-order order group_size fits f).0)
    (λ g. said-end (Reported last))))

-- an order that meets none of 5 to 11 has a group
pub table-some : (order : Order) (group_size : ℕ) → cells_fault order.n ≡ no_fault → order_fault order group_size ≡ no_fault → 0 < length (table_of order group_size)
table-some order group_size e f = let G = order-generators order group_size f in table-positive (order-symmetric order group_size e f) G.0 G.1

-- ---- List
module _ (order : Order) (list_size group_size : ℕ) where
  abbrev table : List Exchange
  table = table_of order group_size

  abbrev limit : ℕ
  limit = list_rows order.n list_size

  abbrev tests : Fault
  tests = admission_fault order group_size (whole_rows order.n list_size)

  -- 5 to 11
  tests-said : Said (Reported 13) tests
  tests-said = admission-said order group_size (whole_rows order.n list_size) 13 (omega arith)

  -- 12 and 13
  stop-reported : tests ≡ no_fault → (number place : ℕ) → completed table limit (generators_of order) ≡ stopped number place → Reported 13 number place
  unfolding list_rows
  stop-reported e number place q =
      let A = admission-none order group_size _ e in
      let used : limit ≤ list_limit = omega arith in
      let tried = completed-near table limit (generators_of order) number place (table-some order group_size A.cells_pass A.tests_pass) q in
      let stops = twelve (completed-stops table limit (generators_of order) number place q) in
      record {
        some = stops.0;
        low = omega (arith, stops.1);
        own = λ h. absurd (omega (arith, stops.1));
        near = omega (arith, tried, sums-few (table-small order group_size A.tests_pass) used);
      }
    where
      twelve : (number ≡ 12) ⊎ (number ≡ 13) → (1 ≤ number) × (number ≤ 13)
      twelve (inl h) = (omega arith, omega arith)
      twelve (inr h) = (omega arith, omega arith)

  -- LIST: what a refusal may report
  pub list-reported : (number place : ℕ) → listing order list_size group_size ≡ refused number place → Reported 13 number place
  unfolding listing listing_of
  list-reported number place e = go (unless-refused tests (listing_of table (completed table limit (generators_of order))) e)
    where
      stops : tests ≡ no_fault → (c : Completion) → completed table limit (generators_of order) ≡ c → listing_of table c ≡ refused number place → Reported 13 number place
      stops h (running s) q x = accepted-refused (sym x)
      stops h (stopped a b) q x = let y : a ≡ number = ap number_of x in let z : b ≡ place = ap place_of x in reported-more (omega arith) y z (stop-reported h a b q)

      go : (tests ≡ fault_at number place) ⊎ ((tests ≡ no_fault) × (listing_of table (completed table limit (generators_of order)) ≡ refused number place)) → Reported 13 number place
      go (inl x) = (subst (Said (Reported 13)) x tests-said).said
      go (inr x) = stops x.0 (completed table limit (generators_of order)) refl x.1

-- ---- Split
module _ (order : Order) (vector : List ℤ) (list_size group_size pieces_size : ℕ) where
  abbrev sizes : Fault
  sizes = first_fault (cells_fault order.n ∷ split_size_fault order.n vector pieces_size ∷ [])

  -- 5 and 6
  sizes-said : Said (Reported 16) sizes
  unfolding cells_fault split_size_fault
  sizes-said = said-first _ (said-if 5 _ (omega arith)) (λ e. said-first _ (said-if 6 _ (omega arith)) (λ f. said-end (Reported 16)))

  -- 14 to 16
  split-said : sizes ≡ no_fault → (taken : Splitting) → Said (Reported 16) (split_fault vector pieces_size taken)
  unfolding split_fault
  split-said e taken =
      let b = tests-none (cells_fault order.n) _ e in
      let c = tests-none (split_size_fault order.n vector pieces_size) _ b.1 in
      said-first _ (said-where 14 _ _ (λ p l. omega (arith, sizes-of-split order.n vector pieces_size c.0, (cells-none order.n b.0).most)))
      (λ e. said-first _ (said-if 15 _ (omega arith))
      (λ e. said-first _ (said-if 16 _ (omega arith))
      (λ e. said-end (Reported 16))))

  -- SPLIT: what a refusal may report
  pub split-reported : (number place : ℕ) → parts order vector list_size group_size pieces_size ≡ refused number place → Reported 16 number place
  unfolding parts parts_of
  split-reported number place e = go (unless-refused sizes (parts_of vector pieces_size (listing order list_size group_size)) e)
    where
      after : sizes ≡ no_fault → (o : Outcome Listing) → listing order list_size group_size ≡ o → parts_of vector pieces_size o ≡ refused number place → Reported 16 number place
      after h (Err r) q x = let y : r.number ≡ number = cc in let z : r.place ≡ place = cc in reported-more (omega arith) y z (list-reported order list_size group_size r.number r.place q)
      after h (accepted l) q x = pick (unless-refused (split_fault vector pieces_size taken) (accepted (record { listing = l; pieces = taken.pieces })) x)
        where
          taken : Splitting
          taken = splitting (placed_orbits 0 l.table l.rows) (padded vector)

          pick : (split_fault vector pieces_size taken ≡ fault_at number place) ⊎ ((split_fault vector pieces_size taken ≡ no_fault) × (◌≡◌ {A = Outcome Parts} (accepted (record { listing = l; pieces = taken.pieces })) (refused number place))) → Reported 16 number place
          pick (inl f) = (subst (Said (Reported 16)) f (split-said h taken)).said
          pick (inr f) = let w = f.1 in accepted-refused (sym w)

      go : (sizes ≡ fault_at number place) ⊎ ((sizes ≡ no_fault) × (parts_of vector pieces_size (listing order list_size group_size) ≡ refused number place)) → Reported 16 number place
      go (inl x) = (subst (Said (Reported 16)) x sizes-said).said
      go (inr x) = after x.0 (listing order list_size group_size) refl x.1

-- ---- Check
module _ (order : Order) (brought coefficients : List ℤ) (group_size : ℕ) where
  abbrev rows : List Vector
  rows = vectors_of order.n brought

  -- 17 to 19
  rows-said : (table : List Exchange) (generators : List Vector) → length rows ≤ list_limit → Said (Reported 22) (rows_fault table generators rows coefficients)
  unfolding rows_fault
  rows-said table generators few =
      said-first _ (said-where 17 _ _ (λ r l. omega arith))
      (λ e. said-first _ (said-where 18 _ _ (λ r l. omega arith))
      (λ e. said-first _ (said-where 19 _ _ (λ r l. omega arith))
      (λ e. said-end (Reported 22))))

  -- 5 to 11 and 17 to 19
  rules-said : Said (Reported 22) (rules_fault order brought coefficients group_size)
  unfolding rules_fault
  rules-said =
      said-first _ (admission-said order group_size (brought_fits order brought coefficients) 22 (omega arith))
      (λ e. let Z = sizes-of-check order brought coefficients group_size (admission-none order group_size _ e).sizes_pass in
      said-first _ (rows-said (table_of order group_size) (generators_of order) (omega (arith, Z.few, vectors-count order.n brought)))
      (λ h. said-end (Reported 22)))

  -- 20 to 22
  wholeness-said : rules_fault order brought coefficients group_size ≡ no_fault → Said (Reported 22) (wholeness_fault (table_of order group_size) (generators_of order) rows)
  unfolding wholeness_fault rules_fault
  wholeness-said e =
      let a = tests-none (admission_fault order group_size (brought_fits order brought coefficients)) _ e in
      let A = admission-none order group_size (brought_fits order brought coefficients) a.0 in
      let Z = sizes-of-check order brought coefficients group_size A.sizes_pass in
      let few : length rows ≤ list_limit = omega (arith, Z.few, vectors-count order.n brought) in
      said-first _ (said-where 20 _ _ (λ p l. omega (arith, Z.sized.generators, generators-count order)))
      (λ e. said-first _ (sums-said (Reported 22) (table_of order group_size) rows (table-some order group_size A.cells_pass A.tests_pass) (λ k l. omega (arith, sums-few (table-small order group_size A.tests_pass) few)))
      (λ e. said-first _ (said-where 22 _ _ (λ r l. omega arith))
      (λ e. said-end (Reported 22))))

  -- CHECK: what a refusal may report
  pub check-reported : (number place : ℕ) → check_fault order brought coefficients group_size ≡ fault_at number place → Reported 22 number place
  unfolding check_fault
  check-reported number place e = (subst (Said (Reported 22)) e (said-first _ rules-said (λ h. said-first _ (wholeness-said h) (λ k. said-end (Reported 22))))).said

-- ---- the answers: of each call, what it may report where its answer is a refusal
pub list-answer-reported : (order : Order) (list_size group_size number place : ℕ) → (list_call order list_size group_size).answer ≡ refused number place → Reported 22 number place
unfolding list_call list_end
list-answer-reported order list_size group_size number place e = go (listing order list_size group_size) refl e
  where
    go : (o : Outcome Listing) → listing order list_size group_size ≡ o → (list_end order.n list_size group_size o).answer ≡ refused number place → Reported 22 number place
    go (Err r) q x = let y : r.number ≡ number = cc in let z : r.place ≡ place = cc in reported-more (omega arith) y z (list-reported order list_size group_size r.number r.place q)
    go (accepted found) q x = let z : ◌≡◌ {A = ℕ} 0 1 = cc in absurd (omega arith)

pub split-answer-reported : (order : Order) (vector : List ℤ) (list_size group_size pieces_size number place : ℕ) → (split_call order vector list_size group_size pieces_size).answer ≡ refused number place → Reported 22 number place
unfolding split_call split_end
split-answer-reported order vector list_size group_size pieces_size number place e = go (parts order vector list_size group_size pieces_size) refl e
  where
    go : (o : Outcome Parts) → parts order vector list_size group_size pieces_size ≡ o → (split_end order.n list_size group_size pieces_size o).answer ≡ refused number place → Reported 22 number place
    go (Err r) q x = let y : r.number ≡ number = cc in let z : r.place ≡ place = cc in reported-more (omega arith) y z (split-reported order vector list_size group_size pieces_size r.number r.place q)
    go (accepted found) q x = let z : ◌≡◌ {A = ℕ} 0 1 = cc in absurd (omega arith)

pub check-answer-reported : (order : Order) (rows coefficients : List ℤ) (group_size number place : ℕ) → (check_call order rows coefficients group_size).answer ≡ refused number place → Reported 22 number place
unfolding check_call check_end
check-answer-reported order rows coefficients group_size number place e = go (check_fault order rows coefficients group_size) refl e
  where
    go : (fault : Fault) → check_fault order rows coefficients group_size ≡ fault → (check_end group_size (length rows / order.n) (table_of order group_size) fault).answer ≡ refused number place → Reported 22 number place
    go (Err r) q x = let y : r.number ≡ number = cc in let z : r.place ≡ place = cc in reported-more (omega arith) y z (check-reported order rows coefficients group_size r.number r.place q)
    go no_fault q x = let z : ◌≡◌ {A = ℕ} 0 1 = cc in absurd (omega arith)
