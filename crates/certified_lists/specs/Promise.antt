-- What the List with coefficients promises, for every input (Specification 1.1, 3.7, 7.4 and 11). Assumes nothing.
use Rattle.definitions.specs.Refusals.{Outcome, accepted, refused}
use Rattle.std.specs.Prelude.{◌≡◌, List, ℕ, ℤ, pos, length, replicate}
use Rattle.definitions.specs.declared.Answer.{Answer}
use Rattle.definitions.specs.declared.Answer.TheVariants.{Moves}
use Rattle.definitions.specs.Lists.{concat}
use Rattle.definitions.specs.Lent.{Order, filled, numbers_of}
use Rattle.definitions.specs.Calls.{CertifiedListing, certified_call}
use Rattle.definitions.specs.Demands.{CertifiedKept}
use Rattle.vectors.specs.Areas.{Lent, LentMut, sent_order}

-- the list area holds the plain call's list, the group area the table, and the coefficients area a coefficient for each
-- row and generator, with which the row is the combination of the generators; with them the list is passed by Check
pub record CertifiedAccepted (order : Order) (list_size group_size : ℕ) (answer : Outcome Answer) (list : List ℤ)
    (group : List ℕ) (coefficients : List ℤ) : Type 0 where
  pub found : CertifiedListing
  pub kept : CertifiedKept order list_size group_size found
  pub says : (let listing = found.listing in
      answer ≡ accepted (Moves (length listing.rows) (length listing.table) listing.stored listing.sums))
  pub list_holds : list ≡ filled (pos 0) (length list) (numbers_of order.n found.listing.rows)
  pub group_holds : group ≡ filled 0 (length group) (concat found.listing.table)
  pub coefficients_hold : coefficients ≡ filled (pos 0) (length coefficients) (concat found.coefficients)

-- demand 1: zeros in every area lent for writing
pub record CertifiedZero (list : List ℤ) (group : List ℕ) (coefficients : List ℤ) : Type 0 where
  pub list_holds : list ≡ replicate (length list) (pos 0)
  pub group_holds : group ≡ replicate (length group) 0
  pub coefficients_hold : coefficients ≡ replicate (length coefficients) (pos 0)

-- the answer and the three areas by the definition; and what a reader may conclude from an answer
pub record CertifiedPromise (order : Order) (list_size group_size coefficient_size : ℕ) (answer : Outcome Answer)
    (list : List ℤ) (group : List ℕ) (coefficients : List ℤ) : Type 0 where
  pub answers : answer ≡ (certified_call order list_size group_size coefficient_size).answer
  pub list_holds : list ≡ (certified_call order list_size group_size coefficient_size).list
  pub group_holds : group ≡ (certified_call order list_size group_size coefficient_size).group
  pub coefficients_hold : coefficients ≡ (certified_call order list_size group_size coefficient_size).coefficients
  pub accepted : (rows g stored sums : ℕ) → answer ≡ accepted (Moves rows g stored sums)
      → CertifiedAccepted order list_size group_size answer list group coefficients
  pub refused : (number place : ℕ) → answer ≡ refused number place → CertifiedZero list group coefficients

-- .. of the order that is sent, in the areas that are lent
abbrev pub KeepsCertified : (n : ℕ) (generators : Lent ℤ) (exchanges : Lent ℕ) (images : Lent ℤ) (list : LentMut ℤ)
    (group : LentMut ℕ) (coefficients : LentMut ℤ) (answer : Outcome Answer) → Type 0
KeepsCertified n generators exchanges images list group coefficients answer =
    let order = sent_order n generators exchanges images in
    let list_size = length list.entry.now in
    let group_size = length group.entry.now in
    let coefficient_size = length coefficients.entry.now in
    CertifiedPromise order list_size group_size coefficient_size answer
    list.exit.now group.exit.now coefficients.exit.now
