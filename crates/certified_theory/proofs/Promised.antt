-- An accepted List with coefficients keeps its promise (Specification 3.7). Assumes nothing.
use mathlib.Core.Path.{◌≡◌}
use mathlib.Core.List.{[]}
use Prim.Native.Nat.{ℕ, ◌<◌}
use lib.ListN.{length, get_or}
use Rattle.definitions.specs.Limits.{stored_coefficient_limit}
use Rattle.definitions.specs.Lent.{Order, generators_of}
use Rattle.definitions.specs.Refusals.{accepted}
use Rattle.definitions.specs.Calls.{CertifiedListing, certified_listing, listing}
use Rattle.definitions.specs.Demands.{CertifiedKept}
use Rattle.theory.proofs.Bounds.{each_within}
use Rattle.theory.proofs.ListCall.{list-kept}
use Rattle.certified_theory.proofs.Made.{of}
use Rattle.certified_theory.proofs.Noting.{Noted, Notes, rows_at}
use Rattle.certified_theory.proofs.Forgetting.{certified-listing}
use Rattle.certified_theory.proofs.Passing.{certified-notes, written-passed}

pub certified-kept : (order : Order) (list_size group_size coefficient_size : ℕ) (found : CertifiedListing)
    → certified_listing order list_size group_size coefficient_size ≡ accepted found
    → CertifiedKept order list_size group_size found
certified-kept order list_size group_size coefficient_size found e = record {
  plain = plain;
  kept = list-kept order list_size group_size found.listing plain;
  long = N.long;
  one_each = λ r l. (at r l).made.one_each;
  limited = λ r l. each_within stored_coefficient_limit (at r l).limited;
  adds_up = λ r l. (at r l).made.adds_up;
  passed = λ other whole room. written-passed order list_size group_size coefficient_size found e other whole room;
}
  where
    plain : listing order list_size group_size ≡ accepted found.listing
    plain = certified-listing order list_size group_size coefficient_size found e

    N : Notes (generators_of order) found.listing.rows found.coefficients
    N = certified-notes order list_size group_size coefficient_size found e

    at : (r : ℕ) → r < length found.listing.rows
        → Noted (generators_of order) (of (get_or found.listing.rows r []) (get_or found.coefficients r []))
    at r l = rows_at (Noted (generators_of order)) found.listing.rows found.coefficients N.long N.each r l
