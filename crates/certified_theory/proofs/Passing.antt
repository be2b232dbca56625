-- Every list written with its coefficients is passed by Check with the same order. Assumes nothing.
use Rattle.definitions.specs.Refusals.{no_fault}
use mathlib.Core.Path.{◌≡◌, refl, sym, ◌∙◌, ap, ap₂, subst}
use mathlib.Core.Bool.{Bool, true, false, not, ◌&&◌, ◌||◌}
use mathlib.Core.List.{List, [], ◌++◌, map, append-nil, Memᴰ}
use Prim.Native.Nat.{ℕ, zero, suc, ◌≤◌, ◌<◌, ◌*◌, ◌/◌, ◌%◌, ◌-◌}
use native.Mathlib.Omega.{arith}
use native.Mathlib.Nat.{mul-div_cancel, mul-mod_left}
use borrow.Author.Tests.{eq-eqb, le-leb, not-false}
use lib.Dec.{eqb}
use lib.IntN.{ℤ, pos, nat_abs}
use lib.ListN.{length, get_or, replicate, take, length-map}
use lib.Seq.{length-take-le}
use Rattle.definitions.specs.declared.Answer.TheVariants.{Passed}
use Rattle.definitions.specs.Limits.{cells, coefficient_limit, entry_limit, list_limit}
use Rattle.definitions.specs.Lists.{any, concat}
use Rattle.definitions.specs.Vector.{Vector, equal, is_zero, padded, within, zero_vector}
use Rattle.definitions.specs.Group.{Exchange}
use Rattle.definitions.specs.Orbit.{representative}
use Rattle.definitions.specs.Completion.{Completion, State, final_rows, running, stopped, sum_count}
use Rattle.definitions.specs.Certified.{Certified, CertifiedCompletion, certified_completed, certified_rows}
use Rattle.definitions.specs.Certified.{coefficients_of, final_coefficients}
use Rattle.definitions.specs.Lent.{Order, chunks, exchanges_of, filled, generators_of, is_bare, list_rows, numbers_of}
use Rattle.definitions.specs.Lent.{rows_of, table_of, vectors_of}
use Rattle.definitions.specs.Lent.{whole_rows, whole_rows_up_to}
use Rattle.definitions.specs.Refusals.{accepted, admission_fault, brought_fits, cells_fault, certified_fits, is_misplaced}
use Rattle.definitions.specs.Refusals.{is_past, is_uncertified, is_unfit}
use Rattle.definitions.specs.Refusals.{order_fault, order_fits, rows_fault, size_fault}
use Rattle.definitions.specs.Calls.{CertifiedListing, certified_listing, certified_listing_of, check_call}
use Rattle.definitions.specs.Calls.{listed_coefficients, listing_of, rules_fault}
use Rattle.definitions.specs.Calls.{with_coefficients}
use Rattle.definitions.specs.Demands.{RulesKept, Sorted, Whole}
use Rattle.theory.proofs.Tests.{and-true-left}
use Rattle.theory.proofs.Members.{Each, each_at, each_map, each_member, member-place, none_any}
use Rattle.theory.proofs.Lists.{chunks-concat, length-concat, map-inv}
use Rattle.theory.proofs.Equal.{same-equal}
use Rattle.theory.proofs.Bounds.{Within, nonzero-not, within_more}
use Rattle.theory.proofs.Symmetric.{Symmetric, inside-length}
use Rattle.theory.proofs.GroupTable.{table-unique}
use Rattle.theory.proofs.Listing.{final-stored}
use Rattle.theory.proofs.Completion.{Sound}
use Rattle.theory.proofs.Faults.{accepted-refused, if_none, none-all, none_end, none-if, unless-none, where-none}
use Rattle.theory.proofs.Accepted.{Admitted, cells-none, order-generators, order-symmetric}
use Rattle.theory.proofs.ListCall.{ListFacts, listing-facts}
use Rattle.theory.proofs.CheckCall.{check-answer, generators-count}
use Rattle.theory.proofs.Held.{Narrow, held_rows, rows-narrow}
use Rattle.certified_theory.proofs.Made.{looked-up, rows-vectors}
use Rattle.certified_theory.proofs.Keeping.{order-closed}
use Rattle.certified_theory.proofs.Noting.{Kept, Noted, Notes, NotesOf, completed-kept, rows_at, rows-map}
use Rattle.certified_theory.proofs.Fitting.{certified-admitted}
use Rattle.certified_theory.proofs.Forgetting.{accepted-sized, certified-listing}
use Rattle.certified_theory.proofs.Rooms.{other-order, other-table}

-- ---- the list's rows have their coefficients
module _ (order : Order) (group_size limit : ℕ) (b : is_bare order ≡ false) (e : cells_fault order.n ≡ no_fault)
    (f : order_fault order group_size ≡ no_fault) where
  abbrev table : List Exchange
  table = table_of order group_size

  O : Symmetric order.n (exchanges_of order) table (generators_of order)
  O = order-symmetric order group_size e f

  final-notes : (x : CertifiedCompletion)
      → certified_completed (generators_of order) table limit (generators_of order) ≡ x → (s : State)
      → x.completion ≡ running s
      → Notes (generators_of order) (final_rows table s.rows) (final_coefficients table s.rows x.coefficients)
  unfolding final_coefficients
  final-notes x q s r = record {
    long = length-map (final_rows table s.rows) (coefficients_of known);
    each = rows-map (Noted (generators_of order)) (coefficients_of known) (final_rows table s.rows)
        (λ v k. looked-up (Noted (generators_of order)) N.each v (subst (Memᴰ v) (sym (rows-vectors s.rows x.coefficients N.long)) (stored v k)));
  }
    where
      G : Each (λ g. ¬ (g ≡ zero_vector)) (generators_of order) × Each (Within entry_limit) (generators_of order)
      G = order-generators order group_size f

      K : Sound O limit (running s) × NotesOf (generators_of order) (running s) x.coefficients
      K = subst (λ (c : Completion). Sound O limit c × NotesOf (generators_of order) c x.coefficients) r
          (subst (Kept O (order-closed order group_size b e f) limit) q (completed-kept O (order-closed order group_size b e f) G.0 G.1 limit))

      N : Notes (generators_of order) s.rows x.coefficients
      N = K.1

      known : List Certified
      known = certified_rows s.rows x.coefficients

      stored : (v : Vector) → Memᴰ v (final_rows table s.rows) → Memᴰ v s.rows
      stored v k =
          let at = member-place [] k in
          subst (λ (w : Vector). Memᴰ w s.rows) at.2 (final-stored O s.rows K.0.0.stored at.0 at.1)

-- EACH ROW OF AN ACCEPTED LIST is the combination of the generators with its coefficients, none past its limit
pub certified-notes : (order : Order) (list_size group_size coefficient_size : ℕ) (found : CertifiedListing)
    → certified_listing order list_size group_size coefficient_size ≡ accepted found
    → Notes (generators_of order) found.listing.rows found.coefficients
unfolding certified_listing certified_listing_of listing_of with_coefficients listed_coefficients
certified-notes order list_size group_size coefficient_size found e =
    let A = certified-admitted order list_size group_size coefficient_size found e in
    go A.cells_pass A.tests_pass x.completion refl (unless-none _ (certified_listing_of table x) e).1
  where
    table : List Exchange
    table = table_of order group_size

    limit : ℕ
    limit = list_rows order.n list_size

    x : CertifiedCompletion
    x = certified_completed (generators_of order) table limit (generators_of order)

    go : cells_fault order.n ≡ no_fault → order_fault order group_size ≡ no_fault → (c : Completion) → x.completion ≡ c
        → with_coefficients (listed_coefficients table x.coefficients c) (listing_of table c) ≡ accepted found
        → Notes (generators_of order) found.listing.rows found.coefficients
    go p q (stopped number place) r y = accepted-refused y
    go p q (running s) r y =
        let same : ◌≡◌ {A = CertifiedListing} (record { listing = record { rows = final_rows table s.rows; table = table; stored = length s.rows; sums = s.sums }; coefficients = final_coefficients table s.rows x.coefficients }) found = cc in
        subst (λ (l : CertifiedListing). Notes (generators_of order) l.listing.rows l.coefficients) same
        (final-notes order group_size limit (accepted-sized order list_size group_size coefficient_size found e).not_bare p q x refl s r)

-- ---- tests
and_both : {a b : Bool} → a ≡ true → b ≡ true → (a && b) ≡ true
and_both {a} {b} p q = ap (λ (x : Bool). x && b) p ∙ q

or-neither : {a b : Bool} → a ≡ false → b ≡ false → (a || b) ≡ false
or-neither {a} {b} p q = ap (λ (x : Bool). x || b) p ∙ q

-- 17 of one row
fit_row : (table : List Exchange) (row : Vector) → is_zero row ≡ false → within entry_limit row ≡ true
    → representative table row ≡ row → is_unfit table row ≡ false
unfolding is_unfit
fit_row table row z w c = or-neither (or-neither z (ap not w)) (ap not (ap (equal row) c ∙ same-equal row))

-- 18
placed : (rows : List Vector) → Sorted rows → (r : ℕ) → r < length rows → is_misplaced rows r ≡ false
unfolding is_misplaced
placed rows h zero l = refl
placed rows h (suc r) l = ap not (h.ascending r l)

-- 19 of one row: no coefficient of a stored row is past the limit of 19
none-past : (limit : ℕ) {c : List ℤ} → Within limit c → any (is_past limit) c ≡ false
unfolding is_past
none-past limit h = none_any (is_past limit) (each_map (λ x (p : nat_abs x ≤ limit). ap not (le-leb (nat_abs x) limit p)) h)

certified-row : (generators : List Vector) (x : Certified) → Noted generators x
    → is_uncertified coefficient_limit generators x.coefficients x.vector ≡ false
unfolding is_uncertified
certified-row generators x h =
    or-neither (none-past coefficient_limit (within_more (omega arith) h.limited))
    (ap not (ap (λ (v : Vector). equal v x.vector) h.made.adds_up ∙ same-equal x.vector))

-- ---- the numbers of rows
numbers-long : (n : ℕ) → n ≤ cells → (rows : List Vector) → Each (Narrow n) rows
    → length (numbers_of n rows) ≡ length rows * n
unfolding numbers_of
numbers-long n fits rows h = length-concat n (map (take n) rows) line ∙ ap (λ (k : ℕ). k * n) (length-map rows (take n))
  where
    line : (r : List ℤ) → Memᴰ r (map (take n) rows) → length r ≡ n
    line r k = let t = map-inv (take n) rows k in ap length t.2 ∙ length-take-le n t.0 (omega (arith, (each_member h t.1).long))

numbers-back : (n : ℕ) → 1 ≤ n → n ≤ cells → (rows : List Vector) → Each (Narrow n) rows
    → vectors_of n (numbers_of n rows) ≡ rows
unfolding vectors_of rows_of filled
numbers-back n some fits rows h =
    ap (λ (k : ℕ). map padded (chunks n k (numbers_of n rows))) (ap (λ (k : ℕ). k / n) (numbers-long n fits rows h) ∙ mul-div_cancel (length rows) some)
    ∙ held_rows n fits rows h 0 (sym (append-nil (numbers_of n rows)) ∙ ap (λ (k : ℕ). numbers_of n rows ++ replicate k (pos 0)) none)
  where
    none : 0 ≡ 0 - length (numbers_of n rows)
    none = omega arith

module _ (order : Order) (list_size group_size coefficient_size : ℕ) (found : CertifiedListing)
    (e : certified_listing order list_size group_size coefficient_size ≡ accepted found) where
  -- what is sent back
  abbrev brought : List ℤ
  brought = numbers_of order.n found.listing.rows

  abbrev given : List ℤ
  given = concat found.coefficients

  abbrev n : ℕ
  n = order.n

  abbrev generators : List Vector
  generators = generators_of order

  abbrev rows : List Vector
  rows = found.listing.rows

  F : ListFacts order found.listing
  F = listing-facts order list_size group_size found.listing (certified-listing order list_size group_size coefficient_size found e)

  N : Notes generators rows found.coefficients
  N = certified-notes order list_size group_size coefficient_size found e

  A : Admitted order group_size (certified_fits order list_size coefficient_size)
  A = certified-admitted order list_size group_size coefficient_size found e

  pub order-some : 1 ≤ n
  order-some = (cells-none n A.cells_pass).least

  narrow : n ≤ cells
  narrow = (cells-none n A.cells_pass).most

  back : vectors_of n brought ≡ rows
  back = numbers-back n order-some narrow rows (rows-narrow order found.listing F)

  pub brought-long : length brought ≡ length rows * n
  brought-long = numbers-long n narrow rows (rows-narrow order found.listing F)

  count : length brought / n ≡ length rows
  count = ap (λ (k : ℕ). k / n) brought-long ∙ mul-div_cancel (length rows) order-some

  -- the certificates
  coefficient-rows : (c : List ℤ) → Memᴰ c found.coefficients → length c ≡ length generators
  coefficient-rows c k =
      let at = member-place [] k in
      ap length (sym at.2) ∙ (rows_at (Noted generators) rows found.coefficients N.long N.each at.0 (omega (arith, at.1, N.long))).made.one_each

  pub given-long : length given ≡ length rows * length generators
  given-long = length-concat (length generators) found.coefficients coefficient-rows ∙ ap (λ (k : ℕ). k * length generators) N.long

  certificates : chunks (length generators) (length rows) given ≡ found.coefficients
  certificates =
      ap (λ (k : ℕ). chunks (length generators) k given) (sym N.long)
      ∙ ap (chunks (length generators) (length found.coefficients)) (sym (append-nil given))
      ∙ chunks-concat (length generators) found.coefficients [] coefficient-rows

  -- the sizes
  fits-order : order_fits order ≡ true
  unfolding size_fault
  fits-order =
      let lent : Bool = certified_fits order list_size coefficient_size in
      let first : Bool = order_fits order && whole_rows n group_size in
      let all = not-false (first && lent) (if_none 6 (not (first && lent)) A.sizes_pass) in
      and-true-left (order_fits order) (whole_rows n group_size) (and-true-left first lent all)

  brought-fits : whole_rows_up_to list_limit n (length brought) ≡ true
  unfolding whole_rows_up_to whole_rows
  brought-fits =
      and_both (eq-eqb (length brought % n) 0 (ap (λ (k : ℕ). k % n) brought-long ∙ mul-mod_left (length rows) n))
      (le-leb (length brought / n) list_limit (omega (arith, count, F.few, F.room)))

  given-fits : eqb (length given) (length brought / n * (length order.generators / n)) ≡ true
  given-fits = eq-eqb (length given) (length brought / n * (length order.generators / n)) (given-long ∙ ap₂ ◌*◌ (sym count) (generators-count order))

  module _ (other : ℕ) (whole : whole_rows n other ≡ true) (room : length found.listing.table ≤ other / n) where
    abbrev other_table : List Exchange
    other_table = table_of order other

    found-table : found.listing.table ≡ table_of order group_size
    found-table = table-unique n (exchanges_of order) found.listing.table (table_of order group_size) F.symmetric.is_table (order-symmetric order group_size A.cells_pass A.tests_pass).is_table

    room-there : length (table_of order group_size) ≤ other / n
    room-there = omega (arith, room, ap length found-table)

    sizes : size_fault order other (brought_fits order brought given) ≡ no_fault
    unfolding size_fault brought_fits
    sizes = none-if 6 (ap not (and_both (and_both fits-order whole) (and_both brought-fits given-fits)))

    same-table : other_table ≡ found.listing.table
    same-table = other-table order group_size other A.tests_pass room-there ∙ sym found-table

    rules : rows_fault other_table generators rows given ≡ no_fault
    unfolding rows_fault
    rules =
        none-all _ ((where-none 17 (length rows) (λ r. is_unfit other_table (get_or rows r []))).1 fit)
        (none-all _ ((where-none 18 (length rows) (is_misplaced rows)).1 (placed rows F.kept.sorted))
        (none-all _ ((where-none 19 (length rows) (λ r. is_uncertified coefficient_limit generators (get_or (chunks (length generators) (length rows) given) r []) (get_or rows r []))).1 ok) none_end))
      where
        fit : (r : ℕ) → r < length rows → is_unfit other_table (get_or rows r []) ≡ false
        fit r l =
            let inside = each_at rows [] F.stored.inside r l in
            fit_row other_table (get_or rows r []) (nonzero-not (inside-length F.symmetric inside) (each_at rows [] F.stored.nonzero r l)) (F.kept.limited r l)
            (ap (λ (t : List Exchange). representative t (get_or rows r [])) same-table ∙ F.kept.greatest_images r l)

        ok : (r : ℕ) → r < length rows
            → is_uncertified coefficient_limit generators (get_or (chunks (length generators) (length rows) given) r [])
            (get_or rows r []) ≡ false
        ok r l =
            ap (λ (cs : List (List ℤ)). is_uncertified coefficient_limit generators (get_or cs r []) (get_or rows r [])) certificates
            ∙ certified-row generators _ (rows_at (Noted generators) rows found.coefficients N.long N.each r l)

    -- the rules are kept, and the list is whole
    rules-kept : RulesKept order brought given other
    unfolding rules_fault admission_fault
    rules-kept =
        let admitted =
        none-all _ A.cells_pass (none-all _ sizes (none-all _ (other-order order group_size other A.tests_pass room-there) none_end)) in
        none-all _ admitted
        (none-all _ (subst (λ (vs : List Vector). rows_fault other_table generators vs given ≡ no_fault) (sym back) rules) none_end)

    whole-list : Whole n (exchanges_of order) generators (vectors_of n brought)
    whole-list = subst (Whole n (exchanges_of order) generators) (sym back) F.kept.whole

    -- EVERY LIST WRITTEN WITH ITS COEFFICIENTS IS PASSED BY CHECK with the same order, wherever there is room for the
    -- group
    pub written-passed : (check_call order brought given other).answer
        ≡ accepted (Passed (length rows) (sum_count (length found.listing.table) (length rows)))
    written-passed =
        (check-answer order brought given other).1 (rules-kept, whole-list)
        ∙ ap₂ (λ (t : List Exchange) (vs : List Vector). (accepted (Passed (length vs) (sum_count (length t) (length vs))))) same-table back
