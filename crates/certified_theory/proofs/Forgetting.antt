-- The plain completion is what is left of the one with coefficients when they are forgotten, as long as 24 is not
-- met; and 24 is never met where there are no coefficients to note. Assumes nothing.
use Rattle.std.specs.declared.result.Result.TheVariants.{Err}
use Rattle.definitions.specs.Refusals.{Fault, no_fault}
use mathlib.Core.Path.{◌≡◌, refl, sym, ◌∙◌, ap, subst}
use mathlib.Core.Logic.{◌⊎◌, inl, inr}
use mathlib.Core.Bool.{Bool, true, false, cond}
use mathlib.Core.List.{List, [], ◌∷◌, map}
use Prim.Native.Nat.{ℕ, zero, suc, ◌+◌, ◌*◌, ◌/◌}
use lib.Dec.{leb}
use lib.IntN.{ℤ}
use lib.ListN.{length}
use Rattle.definitions.specs.Limits.{stored_coefficient_limit}
use Rattle.definitions.specs.Lists.{every, until}
use Rattle.definitions.specs.Vector.{Vector, equal, negative, within, zeros}
use Rattle.definitions.specs.Group.{Exchange}
use Rattle.definitions.specs.Completion.{Completion, State, completed, is_over, run, running, step, stopped}
use Rattle.definitions.specs.Completion.{stored_rows}
use Rattle.definitions.specs.Completion.{sum_count}
use Rattle.definitions.specs.Certified.{Certified, certified_image, certified_orbit, certified_row, coefficients_of}
use Rattle.definitions.specs.Certified.{image_coefficients, opposite}
use Rattle.definitions.specs.Certified.{CertifiedCompletion, certified_after, certified_begun, certified_completed}
use Rattle.definitions.specs.Certified.{certified_from, certified_step}
use Rattle.definitions.specs.Certified.{counted_as}
use Rattle.definitions.specs.Certified.{is_over_certified, new_coefficients, noted}
use Rattle.definitions.specs.Lent.{Order, generators_of, is_bare, list_rows, table_of, whole_rows}
use Rattle.definitions.specs.Refusals.{Outcome, accepted, admission_fault, refused, unless_fault}
use Rattle.definitions.specs.Calls.{ListEnd, Listing, list_call, list_end, listing, listing_of}
use Rattle.definitions.specs.Calls.{CertifiedEnd, CertifiedListing, certified_call, certified_end, certified_listing}
use Rattle.definitions.specs.Calls.{certified_listing_of}
use Rattle.definitions.specs.Calls.{listed_coefficients, with_coefficients}
use Rattle.theory.proofs.Members.{Each, each-cons, each-image, each_nil, each_of}
use Rattle.theory.proofs.Counting.{if-cases}
use Rattle.theory.proofs.Faults.{accepted-refused}
use Rattle.certified_theory.proofs.Fitting.{CertifiedSized, certified-admitted, fits-alike, sizes-of-certified}

-- x is the completion c with coefficients, or has met 24
abbrev pub Follows : Completion → CertifiedCompletion → Type 0
Follows c x = (x.completion ≡ c) ⊎ ((place : ℕ) × (x.completion ≡ stopped 24 place))

module _ (basis : List Vector) (table : List Exchange) (limit : ℕ) where
  on-follows : (s : State) (cs : List (List ℤ)) (c : Completion) → Follows c (certified_after basis table s cs c)
  unfolding certified_after noted
  on-follows s cs (stopped number place) = inl refl
  on-follows s cs (running t) =
      if-cases (Follows (running t)) (leb (length t.rows) (length s.rows)) (λ e. inl refl)
      (λ e. if-cases (Follows (running t)) (within stored_coefficient_limit (new_coefficients basis table s cs)) (λ f. inl refl) (λ f. inr (s.sums + 1, refl)))

  pub step_follows : (x : CertifiedCompletion)
      → Follows (step table limit x.completion) (certified_step basis table limit x)
  unfolding certified_step certified_from step
  step_follows x = go x.completion x.coefficients
    where
      go : (c : Completion) (cs : List (List ℤ)) → Follows (step table limit c) (certified_from basis table limit c cs)
      go (stopped number place) cs = inl refl
      go (running s) cs = on-follows s cs (step table limit (running s))

  stays : (fuel : ℕ) (x : CertifiedCompletion) (number place : ℕ) → x.completion ≡ stopped number place
      → (until is_over_certified (certified_step basis table limit) fuel x).completion ≡ stopped number place
  unfolding until is_over_certified is_over
  stays zero x number place e = e
  stays (suc fuel) x number place e =
      ap (λ (b : Bool). (cond b x (until is_over_certified (certified_step basis table limit) fuel (certified_step basis table limit x))).completion) (ap is_over e) ∙ e

  run-follows : (fuel : ℕ) (x : CertifiedCompletion)
      → Follows (run table limit fuel x.completion)
      (until is_over_certified (certified_step basis table limit) fuel x)
  unfolding run until is_over_certified
  run-follows zero x = inl refl
  run-follows (suc fuel) x = go (is_over x.completion) (onward (step_follows x) (run-follows fuel (certified_step basis table limit x)))
    where
      y : CertifiedCompletion
      y = certified_step basis table limit x

      onward : Follows (step table limit x.completion) y
          → Follows (run table limit fuel y.completion)
          (until is_over_certified (certified_step basis table limit) fuel y)
          → Follows (run table limit fuel (step table limit x.completion))
          (until is_over_certified (certified_step basis table limit) fuel y)
      onward (inl e) h = subst (λ (c : Completion). Follows (run table limit fuel c) (until is_over_certified (certified_step basis table limit) fuel y)) e h
      onward (inr (place, e)) h = inr (place, stays fuel y 24 place e)

      go : (b : Bool)
          → Follows (run table limit fuel (step table limit x.completion))
          (until is_over_certified (certified_step basis table limit) fuel y)
          → Follows (cond b x.completion (run table limit fuel (step table limit x.completion)))
          (cond b x (until is_over_certified (certified_step basis table limit) fuel y))
      go true h = inl refl
      go false h = h

  -- FORGETTING: the completion with coefficients is the plain one, unless it has met 24
  pub completed-forgets : (generators : List Vector)
      → Follows (completed table limit generators) (certified_completed basis table limit generators)
  unfolding completed certified_completed certified_begun
  completed-forgets generators = run-follows (sum_count (length table) limit) (certified_begun basis table limit generators)

-- ---- with no coefficients to note
abbrev Empty : Certified → Type 0
Empty x = x.coefficients ≡ []

empty-image : (s : Exchange) (x : Certified) → Empty (certified_image [] s x)
unfolding certified_image image_coefficients zeros
empty-image s x = go x.coefficients
  where
    go : (cs : List ℤ) → image_coefficients [] s cs [] ≡ []
    go [] = refl
    go (c ∷ cs) = refl

empty-orbit : (table : List Exchange) (x : Certified) → Each Empty (certified_orbit [] table x)
unfolding certified_orbit opposite negative
empty-orbit [] x = each_nil
empty-orbit (s ∷ table) x = each-cons (empty-image s x) (each-cons (ap negative (empty-image s x)) (empty-orbit table x))

empty_of : {known : List Certified} → Each Empty known → (v : Vector) → coefficients_of known v ≡ []
unfolding coefficients_of
empty_of each_nil v = refl
empty_of (each-cons {x = x} {xs = known} h t) v = go (equal x.vector v) (empty_of t v)
  where
    go : (b : Bool) → coefficients_of known v ≡ [] → cond b x.coefficients (coefficients_of known v) ≡ []
    go true again = h
    go false again = again

-- the row that is stored has none
pub new-empty : (table : List Exchange) (s : State) (cs : List (List ℤ)) → new_coefficients [] table s cs ≡ []
unfolding new_coefficients certified_row
new-empty table s cs = empty_of (empty-orbit table _) _

module _ (table : List Exchange) (limit : ℕ) where
  step-plain : (x : CertifiedCompletion)
      → (certified_step [] table limit x).completion ≡ step table limit x.completion
  unfolding certified_step certified_from certified_after noted step within every
  step-plain x = go x.completion x.coefficients
    where
      on : (s : State) (cs : List (List ℤ)) (c : Completion) → (certified_after [] table s cs c).completion ≡ c
      on s cs (stopped number place) = refl
      on s cs (running t) =
          if-cases (λ (y : CertifiedCompletion). y.completion ≡ running t) (leb (length t.rows) (length s.rows)) (λ e. refl)
          (λ e. subst (λ (new : List ℤ). (noted cs (s.sums + 1) new (running t)).completion ≡ running t) (sym (new-empty table s cs)) refl)

      go : (c : Completion) (cs : List (List ℤ)) → (certified_from [] table limit c cs).completion ≡ step table limit c
      go (stopped number place) cs = refl
      go (running s) cs = on s cs (step table limit (running s))

  run-plain : (fuel : ℕ) (x : CertifiedCompletion)
      → (until is_over_certified (certified_step [] table limit) fuel x).completion ≡ run table limit fuel x.completion
  unfolding run until is_over_certified
  run-plain zero x = refl
  run-plain (suc fuel) x = go (is_over x.completion) (run-plain fuel (certified_step [] table limit x) ∙ ap (run table limit fuel) (step-plain x))
    where
      go : (b : Bool)
          → (until is_over_certified (certified_step [] table limit) fuel (certified_step [] table limit x)).completion
          ≡ run table limit fuel (step table limit x.completion)
          → (cond b x
          (until is_over_certified (certified_step [] table limit) fuel (certified_step [] table limit x))).completion
          ≡ cond b x.completion (run table limit fuel (step table limit x.completion))
      go true h = refl
      go false h = h

  -- WIDTH 0: with no coefficients the completion is the plain one, and 24 is never met
  pub completed-plain : (generators : List Vector)
      → (certified_completed [] table limit generators).completion ≡ completed table limit generators
  unfolding completed certified_completed certified_begun
  completed-plain generators = run-plain (sum_count (length table) limit) (certified_begun [] table limit generators)

  -- no row has coefficients
  pub begun-empty : (generators : List Vector)
      → Each (λ c. c ≡ []) (certified_begun [] table limit generators).coefficients
  unfolding certified_begun certified_row
  begun-empty generators = each-image (coefficients_of known) (λ r k. empty_of each-known r) (each_of rows (λ r k. k))
    where
      entry : Vector → Certified
      entry v = certified_row [] table (record { vector = v; coefficients = counted_as [] v })

      known : List Certified
      known = map entry generators

      rows : List Vector
      rows = stored_rows table [] generators

      each-known : Each Empty known
      each-known = each-image entry (λ v k. empty_of (empty-orbit table _) _) (each_of generators (λ v k. k))

-- ---- the calls
abbrev pub forgotten : Outcome CertifiedListing → Outcome Listing
forgotten (accepted found) = accepted found.listing
forgotten (Err r) = refused r.number r.place

-- one outcome is the other without its coefficients, or is 24
abbrev pub Agrees : Outcome Listing → Outcome CertifiedListing → Type 0
Agrees plain found = (forgotten found ≡ plain) ⊎ ((place : ℕ) × (found ≡ refused 24 place))

with-forgotten : (cs : List (List ℤ)) (outcome : Outcome Listing) → forgotten (with_coefficients cs outcome) ≡ outcome
unfolding with_coefficients
with-forgotten cs (accepted found) = refl
with-forgotten cs (Err r) = refl

listing-agrees : (table : List Exchange) (c : Completion) (x : CertifiedCompletion) → Follows c x
    → Agrees (listing_of table c) (certified_listing_of table x)
unfolding certified_listing_of with_coefficients listing_of listed_coefficients
listing-agrees table c x (inl e) = inl (with-forgotten (listed_coefficients table x.coefficients x.completion) (listing_of table x.completion) ∙ ap (listing_of table) e)
listing-agrees table c x (inr (place, e)) =
    inr (place, ap (λ (d : Completion). with_coefficients (listed_coefficients table x.coefficients d) (listing_of table d)) e)

unless-agrees : (fault : Fault) (plain : Outcome Listing) (found : Outcome CertifiedListing) → Agrees plain found
    → Agrees (unless_fault fault plain) (unless_fault fault found)
unfolding unless_fault
unless-agrees no_fault plain found h = h
unless-agrees (Err r) plain found h = inl refl

-- WHERE THE COEFFICIENTS AREA HAS ITS SIZE and the order is not bare, both calls find the same and are refused alike,
-- unless 24 is met
pub certified-agrees : (order : Order) (list_size group_size coefficient_size : ℕ)
    → coefficient_size ≡ list_size / order.n * (length order.generators / order.n) → is_bare order ≡ false
    → Agrees (listing order list_size group_size) (certified_listing order list_size group_size coefficient_size)
unfolding listing certified_listing
certified-agrees order list_size group_size coefficient_size sized full =
    subst (λ (fits : Bool). Agrees (unless_fault fault plain) (unless_fault (admission_fault order group_size fits) found))
    (sym (fits-alike order list_size coefficient_size sized full))
    (unless-agrees fault plain found
    (listing-agrees table (completed table limit generators) (certified_completed generators table limit generators)
    (completed-forgets generators table limit generators)))
  where
    generators : List Vector
    generators = generators_of order

    table : List Exchange
    table = table_of order group_size

    limit : ℕ
    limit = list_rows order.n list_size

    fault : Fault
    fault = admission_fault order group_size (whole_rows order.n list_size)

    plain : Outcome Listing
    plain = listing_of table (completed table limit generators)

    found : Outcome CertifiedListing
    found = certified_listing_of table (certified_completed generators table limit generators)

-- an accepted call: what it lends has its size
pub accepted-sized : (order : Order) (list_size group_size coefficient_size : ℕ) (found : CertifiedListing)
    → certified_listing order list_size group_size coefficient_size ≡ accepted found
    → CertifiedSized order list_size coefficient_size
accepted-sized order list_size group_size coefficient_size found e =
    (sizes-of-certified order list_size group_size coefficient_size
    (certified-admitted order list_size group_size coefficient_size found e).sizes_pass).1

-- it finds what a List finds
pub certified-listing : (order : Order) (list_size group_size coefficient_size : ℕ) (found : CertifiedListing)
    → certified_listing order list_size group_size coefficient_size ≡ accepted found
    → listing order list_size group_size ≡ accepted found.listing
certified-listing order list_size group_size coefficient_size found e =
    go (certified-agrees order list_size group_size coefficient_size Z.one_each Z.not_bare)
  where
    Z : CertifiedSized order list_size coefficient_size
    Z = accepted-sized order list_size group_size coefficient_size found e

    go : Agrees (listing order list_size group_size) (certified_listing order list_size group_size coefficient_size)
        → listing order list_size group_size ≡ accepted found.listing
    go (inl q) = sym q ∙ ap forgotten e
    go (inr (place, q)) = accepted-refused (sym q ∙ e)

-- the end without the coefficients area
abbrev pub plain_end : CertifiedEnd → ListEnd
plain_end end = record { answer = end.answer; list = end.list; group = end.group }

-- WHEREVER THE CALL WITH COEFFICIENTS IS NOT REFUSED BY 24, the plain call ends like it: with its answer, rows and
-- group
pub certified-end : (order : Order) (list_size group_size coefficient_size : ℕ)
    → coefficient_size ≡ list_size / order.n * (length order.generators / order.n) → is_bare order ≡ false
    → (plain_end (certified_call order list_size group_size coefficient_size) ≡ list_call order list_size group_size)
    ⊎ ((place : ℕ) × ((certified_call order list_size group_size coefficient_size).answer ≡ refused 24 place))
unfolding certified_call certified_end list_call list_end
certified-end order list_size group_size coefficient_size sized full =
    go (certified_listing order list_size group_size coefficient_size) (listing order list_size group_size)
    (certified-agrees order list_size group_size coefficient_size sized full)
  where
    ended : Outcome CertifiedListing → CertifiedEnd
    ended found = certified_end order.n list_size group_size coefficient_size found

    end_is : (found : Outcome CertifiedListing)
        → plain_end (ended found) ≡ list_end order.n list_size group_size (forgotten found)
    end_is (accepted found) = refl
    end_is (Err r) = refl

    go : (found : Outcome CertifiedListing) (plain : Outcome Listing) → Agrees plain found
        → (plain_end (ended found) ≡ list_end order.n list_size group_size plain)
        ⊎ ((place : ℕ) × ((ended found).answer ≡ refused 24 place))
    go found plain (inl q) = inl (end_is found ∙ ap (list_end order.n list_size group_size) q)
    go found plain (inr (place, q)) = inr (place, ap (λ (o : Outcome CertifiedListing). (ended o).answer) q)
