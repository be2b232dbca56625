-- LIST (Specification 3, demand 2): an accepted listing is whole, sorted, each row the greatest of its images and within the limit; and the
-- completion stops short only by 12 or 13. Assumes nothing.
use Rattle.definitions.specs.Refusals.{no_fault}
use mathlib.Core.Path.{◌≡◌, refl, subst}
use mathlib.Core.Logic.{◌⊎◌, inl, inr}
use mathlib.Core.Bool.{not}
use mathlib.Core.List.{List, []}
use Prim.Native.Nat.{ℕ, ◌≤◌}
use lib.Dec.{leb}
use lib.ListN.{length}
use native.Mathlib.Omega.{arith}
use Rattle.definitions.specs.Limits.{entry_limit, group_limit, list_limit}
use Rattle.definitions.specs.Vector.{Vector, is_zero, within, zero_vector}
use Rattle.definitions.specs.Group.{Exchange}
use Rattle.definitions.specs.Completion.{Completion, State, begun, completed, final_rows, is_finished, remainder, running, settled, step, stopped, stored_rows, sum_at, sum_count}
use Rattle.definitions.specs.Lent.{Order, exchanges_of, generators_of, list_rows, table_of}
use Rattle.definitions.specs.Refusals.{accepted, cells_fault, order_fault}
use Rattle.definitions.specs.Calls.{Listing, listing, listing_of}
use Rattle.definitions.specs.Demands.{ListKept}
use Rattle.theory.proofs.Members.{Each, each_member}
use Rattle.theory.proofs.Symmetric.{Symmetric}
use Rattle.theory.proofs.Bounds.{Within, each_within}
use Rattle.theory.proofs.Whole.{Stored}
use Rattle.theory.proofs.Counting.{Tried, completed-tried, if-cases}
use Rattle.theory.proofs.Completion.{Progress, Sound, completed-conformal, completed-sound, run-keeps, table-positive}
use Rattle.theory.proofs.Listing.{final-few, final-sorted, final-keeps, final-stored, final-whole}
use Rattle.theory.proofs.Faults.{accepted-refused, unless-none}
use Rattle.theory.proofs.Accepted.{admission-none, order-generators, order-symmetric, table-small}

-- what an accepted listing rests on, for Split too
pub record ListFacts (order : Order) (found : Listing) : Type 0 where
  pub symmetric : Symmetric order.n (exchanges_of order) found.table (generators_of order)
  pub stored : Stored symmetric found.rows
  pub kept : ListKept order found
  pub few : length found.rows ≤ found.stored
  pub room : found.stored ≤ list_limit
  pub small : length found.table ≤ group_limit

-- ---- the completion's end
module _ (order : Order) (group_size limit : ℕ) (e : cells_fault order.n ≡ no_fault) (f : order_fault order group_size ≡ no_fault) where
  abbrev table : List Exchange
  table = table_of order group_size

  O : Symmetric order.n (exchanges_of order) table (generators_of order)
  O = order-symmetric order group_size e f

  ended-facts : limit ≤ list_limit → (s : State) → completed table limit (generators_of order) ≡ running s
      → ListFacts order (record { rows = final_rows table s.rows; table = table; stored = length s.rows; sums = s.sums })
  ended-facts h s q = record {
    symmetric = O;
    stored = final-keeps O rows P.stored;
    kept = record {
      whole = final-whole O rows P.stored (completed-conformal O G.0 G.1 limit s q);
      sorted = final-sorted O rows P.stored;
      greatest_images = λ r l. each_member P.stored.canonical (final-stored O rows P.stored r l);
      limited = λ r l. each_within entry_limit (each_member P.limited (final-stored O rows P.stored r l));
      table = O.is_table;
      counted = tried.all;
    };
    few = final-few table rows;
    room = omega (arith, tried.fits, h);
    small = table-small order group_size f;
  }
    where
      rows : List Vector
      rows = s.rows

      G : Each (λ g. ¬ (g ≡ zero_vector)) (generators_of order) × Each (Within entry_limit) (generators_of order)
      G = order-generators order group_size f

      tried : Tried table limit s
      tried = completed-tried table limit (generators_of order) s (table-positive O G.0 G.1) q

      P : Progress O s
      P = let c : Sound O limit (running s) = subst (Sound O limit) q (completed-sound O G.0 G.1 limit) in c.0

-- what a List finds rests on this
pub listing-facts : (order : Order) (list_size group_size : ℕ) (found : Listing) → listing order list_size group_size ≡ accepted found → ListFacts order found
unfolding listing listing_of list_rows
listing-facts order list_size group_size found e =
    let a = unless-none _ (listing_of table (completed table limit (generators_of order))) e in
    let A = admission-none order group_size _ a.0 in
    go A.cells_pass A.tests_pass (completed table limit (generators_of order)) refl a.1
  where
    table : List Exchange
    table = table_of order group_size

    limit : ℕ
    limit = list_rows order.n list_size

    used : limit ≤ list_limit
    used = omega arith

    go : cells_fault order.n ≡ no_fault → order_fault order group_size ≡ no_fault → (c : Completion) → completed table limit (generators_of order) ≡ c → listing_of table c ≡ accepted found → ListFacts order found
    go p q (stopped number place) r x = accepted-refused x
    go p q (running s) r x =
        let y : ◌≡◌ {A = Listing} (record { rows = final_rows table s.rows; table = table; stored = length s.rows; sums = s.sums }) found = cc in
        subst (ListFacts order) y (ended-facts order group_size limit p q used s r)

-- LIST: an accepted listing keeps demand 2
pub list-kept : (order : Order) (list_size group_size : ℕ) (found : Listing) → listing order list_size group_size ≡ accepted found → ListKept order found
list-kept order list_size group_size found e = (listing-facts order list_size group_size found e).kept

-- ---- the numbers of a refusal
abbrev StopsBy : Completion → Type 0
StopsBy (stopped number place) = (number ≡ 12) ⊎ (number ≡ 13)
StopsBy (running s) = Unit {0}

step-stops : (table : List Exchange) (limit : ℕ) (c : Completion) → StopsBy c → StopsBy (step table limit c)
unfolding step settled
step-stops table limit (stopped number place) h = h
step-stops table limit (running s) h =
    if-cases StopsBy (is_finished s) (λ e. tt)
    (λ e. if-cases StopsBy (is_zero v) (λ e. tt)
    (λ e. if-cases StopsBy (not (within entry_limit v)) (λ e. inl refl)
    (λ e. if-cases StopsBy (leb limit (length s.rows)) (λ e. inr refl) (λ e. tt))))
  where
    v : Vector
    v = remainder table s.rows (sum_at table s)

-- THE COMPLETION STOPS SHORT ONLY BY 12 OR 13 (its fuel is never spent: completed-over)
pub completed-stops : (table : List Exchange) (limit : ℕ) (generators : List Vector) (number place : ℕ) → completed table limit generators ≡ stopped number place → (number ≡ 12) ⊎ (number ≡ 13)
unfolding completed begun
completed-stops table limit generators number place e =
    subst StopsBy e (run-keeps StopsBy table limit (step-stops table limit) (sum_count (length table) limit) (begun table limit generators)
    (if-cases StopsBy (leb (length (stored_rows table [] generators)) limit) (λ e. tt) (λ e. inr refl)))
