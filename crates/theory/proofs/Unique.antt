-- ONE LIST (Specification 2.8): of the sorted lists, each row the greatest of its images, one at most is whole; it is the lattice that counts,
-- not the generators. Assumes nothing.
use mathlib.Core.Path.{◌≡◌, refl, sym, ◌∙◌, ap₂, subst}
use mathlib.Core.Logic.{◌⊎◌, inl, inr}
use mathlib.Core.List.Memᴰ
use mathlib.Core.List.{List, [], ◌∷◌, Memᴰ}
use Prim.Native.Nat.{ℕ, ◌<◌}
use lib.ListN.{length, get_or}
use Rattle.definitions.specs.Limits.{cells}
use Rattle.definitions.specs.Vector.{Vector}
use Rattle.definitions.specs.Lattice.{Graver, InLattice}
use Rattle.definitions.specs.Group.{Exchange}
use Rattle.definitions.specs.Orbit.{representative}
use Rattle.definitions.specs.Lent.{Order, exchanges_of, generators_of, rows_of}
use Rattle.definitions.specs.Refusals.{accepted}
use Rattle.definitions.specs.Calls.{Listing, listing}
use Rattle.definitions.specs.Demands.{IsTable, Sorted, Whole}
use Rattle.theory.proofs.Members.{Each, each_member, member-place, place-member}
use Rattle.theory.proofs.Lattice.{lattice-ind, lattice-negative, lattice-plus, lattice-zeros}
use Rattle.theory.proofs.GroupTable.{table-unique}
use Rattle.theory.proofs.Images.{row_same}
use Rattle.theory.proofs.Symmetric.{Symmetric, inside-length}
use Rattle.theory.proofs.Sorting.{Ascends, ascends-cons, prec-irrefl, prec-trans, sorted-ascends}
use Rattle.theory.proofs.ListCall.{ListFacts, listing-facts}

-- ---- sorted rows are known by their members
ascends-unique : (l k : List Vector) → Ascends l → Ascends k → ((v : Vector) → Memᴰ v l → Memᴰ v k) → ((v : Vector) → Memᴰ v k → Memᴰ v l) → l ≡ k
ascends-unique [] [] x y f g = refl
ascends-unique [] (b ∷ k) x y f g = absurd (Memᴰ.not-nil (g b (Memᴰ.head refl)))
ascends-unique (a ∷ l) [] x y f g = absurd (Memᴰ.not-nil (f a (Memᴰ.head refl)))
ascends-unique (a ∷ l) (b ∷ k) (ascends-cons p x) (ascends-cons q y) f g = (λ i. head i ∷ ascends-unique l k x y into back i)
  where
    head : a ≡ b
    head = pick (Memᴰ.cases_cons (f a (Memᴰ.head refl))) (Memᴰ.cases_cons (g b (Memᴰ.head refl)))
      where
        pick : (a ≡ b) ⊎ Memᴰ a k → (b ≡ a) ⊎ Memᴰ b l → a ≡ b
        pick (inl e) t = e
        pick (inr m) (inl e) = sym e
        pick (inr m) (inr n) = absurd (prec-irrefl a a (prec-trans a b a (each_member p n) (each_member q m)) refl)

    into : (v : Vector) → Memᴰ v l → Memᴰ v k
    into v m = pick (Memᴰ.cases_cons (f v (Memᴰ.tail m)))
      where
        pick : (v ≡ b) ⊎ Memᴰ v k → Memᴰ v k
        pick (inl e) = absurd (prec-irrefl a v (each_member p m) (head ∙ sym e))
        pick (inr n) = n

    back : (v : Vector) → Memᴰ v k → Memᴰ v l
    back v m = pick (Memᴰ.cases_cons (g v (Memᴰ.tail m)))
      where
        pick : (v ≡ a) ⊎ Memᴰ v l → Memᴰ v l
        pick (inl e) = absurd (prec-irrefl b v (each_member q m) (sym head ∙ sym e))
        pick (inr n) = n

-- ---- lattices with the same vectors
pub record SameLattice (generators others : List Vector) : Type 0 where
  pub into : (v : Vector) → InLattice generators v → InLattice others v
  pub back : (v : Vector) → InLattice others v → InLattice generators v

pub flipped : {generators others : List Vector} → SameLattice generators others → SameLattice others generators
flipped h = record { into = h.back; back = h.into }

-- a lattice lies in another if its generators do
pub lattice-among : {generators others : List Vector} → Each (λ g. length g ≡ cells) generators → Each (λ g. length g ≡ cells) others → Each (InLattice others) generators → (v : Vector) → InLattice generators v → InLattice others v
lattice-among {generators} {others} sizes sizes' h v l =
    lattice-ind generators sizes (InLattice others) (lattice-zeros others sizes') (λ u w a b. lattice-plus others sizes' a b) (λ u a. lattice-negative others sizes' a) h v l

-- they have the same Graver basis, and the same whole lists
graver-same : {generators others : List Vector} → SameLattice generators others → {v : Vector} → Graver generators v → Graver others v
graver-same h {v} g = record { in_lattice = h.into v g.in_lattice; nonzero = g.nonzero; minimal = λ u l. g.minimal u (h.back u l) }

pub whole_same : {n : ℕ} {sent : List Exchange} {generators others rows : List Vector} → SameLattice generators others → Whole n sent generators rows → Whole n sent others rows
whole_same h W = record { sound = λ r l. graver-same h (W.sound r l); complete = λ v g. W.complete v (graver-same (flipped h) g) }

-- ---- ONE LIST
module _ {n : ℕ} {sent table : List Exchange} {generators : List Vector} (O : Symmetric n sent table generators) where
  -- a list as a List gives it
  pub record Canonical (rows : List Vector) : Type 0 where
    pub whole : Whole n sent generators rows
    pub sorted : Sorted rows
    pub greatest : (r : ℕ) → r < length rows → representative table (get_or rows r []) ≡ get_or rows r []

  -- each row of one is a row of the other
  among : (rows others : List Vector) → Canonical rows → Canonical others → (v : Vector) → Memᴰ v rows → Memᴰ v others
  among rows others C D v m =
      let at = member-place [] m in
      let g = subst (Graver generators) at.2 (C.whole.sound at.0 at.1) in
      let o = D.whole.complete v g in
      let q = get_or others o.row [] in
      let long = inside-length O (D.whole.sound o.row o.exists).in_lattice in
      let same : q ≡ v =
      sym (D.greatest o.row o.exists) ∙ sym (row_same n sent O.exchanges O.fits table O.is_table long o.image)
      ∙ subst (λ (w : Vector). representative table w ≡ w) at.2 (C.greatest at.0 at.1) in
      Memᴰ.cast (sym same) (place-member others [] o.row o.exists)

  pub whole_unique : (rows others : List Vector) → Canonical rows → Canonical others → rows ≡ others
  whole_unique rows others C D = ascends-unique rows others (sorted-ascends rows C.sorted) (sorted-ascends others D.sorted) (among rows others C D) (among others rows D C)

exchanges-same : (order other : Order) → order.n ≡ other.n → order.exchanges ≡ other.exchanges → exchanges_of order ≡ exchanges_of other
unfolding exchanges_of
exchanges-same order other p q = ap₂ (λ (n : ℕ) (x : List ℕ). rows_of n x) p q

-- TWO ORDERS WITH ONE LATTICE, and the same cells and exchanges, have the same list and table, where both are accepted
pub one_list : (order other : Order) (list_size group_size list_size' group_size' : ℕ) (found found' : Listing) → order.n ≡ other.n → order.exchanges ≡ other.exchanges → SameLattice (generators_of order) (generators_of other)
    → listing order list_size group_size ≡ accepted found → listing other list_size' group_size' ≡ accepted found' → (found.rows ≡ found'.rows) × (found.table ≡ found'.table)
one_list order other list_size group_size list_size' group_size' found found' cells exchanges lattice e f = (whole_unique F.symmetric found.rows found'.rows mine theirs, tables)
  where
    F : ListFacts order found
    F = listing-facts order list_size group_size found e

    G : ListFacts other found'
    G = listing-facts other list_size' group_size' found' f

    sent : exchanges_of other ≡ exchanges_of order
    sent = exchanges-same other order (sym cells) (sym exchanges)

    is_table : IsTable order.n (exchanges_of order) found'.table
    is_table = subst (λ (x : List Exchange). IsTable order.n x found'.table) sent (subst (λ (n : ℕ). IsTable n (exchanges_of other) found'.table) (sym cells) G.kept.table)

    tables : found.table ≡ found'.table
    tables = table-unique order.n (exchanges_of order) found.table found'.table F.kept.table is_table

    mine : Canonical F.symmetric found.rows
    mine = record { whole = F.kept.whole; sorted = F.kept.sorted; greatest = F.kept.greatest_images }

    theirs : Canonical F.symmetric found'.rows
    theirs = record {
      whole = whole_same (flipped lattice) (subst (λ (x : List Exchange). Whole order.n x (generators_of other) found'.rows) sent (subst (λ (n : ℕ). Whole n (exchanges_of other) (generators_of other) found'.rows) (sym cells) G.kept.whole));
      sorted = G.kept.sorted;
      greatest = subst (λ (t : List Exchange). (r : ℕ) → r < length found'.rows → representative t (get_or found'.rows r []) ≡ get_or found'.rows r []) (sym tables) G.kept.greatest_images;
    }
