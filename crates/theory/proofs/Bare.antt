-- BARE ORDERS: an order that sends a basis and shows its images by coefficients has the list of the order with all images sent as generators,
-- where both are accepted. Assumes nothing.
use Rattle.definitions.specs.Refusals.{no_fault}
use Rattle.std.specs.Prelude.{if◌then◌else◌}
use mathlib.Core.Path.{◌≡◌, refl, sym, subst, ◌∙◌, ap}
use mathlib.Core.Bool.{Bool, true, false, ◌||◌}
use mathlib.Core.List.{List, [], ◌∷◌, ◌++◌, map, Memᴰ}
use Prim.Native.Nat.{ℕ, zero, suc, ◌+◌, ◌*◌, ◌≤◌, ◌<◌}
use native.Mathlib.Nat.{suc-mul, zero-mul}
use native.Mathlib.Omega.{arith}
use lib.ListN.{length, get_or, length-map, get_or-append}
use lib.Seq.{get_or-append-add}
use lib.IntN.{pos, negsuc}
use Rattle.definitions.specs.Lists.{any, range}
use Rattle.definitions.specs.Vector.{Vector, equal, equal_cell, is_member, negative, padded}
use Rattle.definitions.specs.Group.{Exchange, InGroup, applied, composed, exchanged, identity, unit}
use Rattle.definitions.specs.Orbit.{IsImage, signed}
use Rattle.definitions.specs.Lent.{Order, chunks, exchanges_of, generators_of, is_bare, order_of, rows_of, vectors_of}
use Rattle.definitions.specs.Refusals.{accepted, cells_fault, images_fault, is_generator, lattice_fault, leaving_fault, order_fault, sent_images}
use Rattle.definitions.specs.Calls.{Listing, listing}
use Rattle.theory.proofs.Tests.{clash}
use Rattle.theory.proofs.Lists.{get_d_map}
use Rattle.theory.proofs.Members.{Each, each-cons, each_map, each_member, each_nil, each_of}
use Rattle.theory.proofs.Vector.{negative-negative}
use Rattle.theory.proofs.Equal.{is_member_lem, member_is}
use Rattle.theory.proofs.Action.{exchanged-negative}
use Rattle.theory.proofs.GroupTable.{members-keep}
use Rattle.theory.proofs.Lattice.{lattice-generator}
use Rattle.theory.proofs.Symmetric.{image-inside}
use Rattle.theory.proofs.Accepted.{Acceptable, cells-none, closed-stays, generators-length, is-generator, order-none}
use Rattle.theory.proofs.ListCall.{ListFacts, listing-facts}
use Rattle.theory.proofs.Unique.{SameLattice, lattice-among, one_list}

-- each generator of `bare`, or its negative, is one of `full`, and these are images of generators of `bare`
pub record AllImages (bare full : Order) : Type 0 where
  pub cells : bare.n ≡ full.n
  pub exchanges : bare.exchanges ≡ full.exchanges
  pub sent : Each (λ g. is_generator (generators_of full) g ≡ true) (generators_of bare)
  pub images : Each (λ u. (g : Vector) × Memᴰ g (generators_of bare) × IsImage bare.n (exchanges_of bare) u g) (generators_of full)

-- the lattice is the same
same-lattice : (bare full : Order) {a b : Listing} → AllImages bare full → ListFacts bare a → ListFacts full b → SameLattice (generators_of bare) (generators_of full)
same-lattice bare full A F G = record {
  into = lattice-among F.symmetric.sizes G.symmetric.sizes (each_map (λ g (e : is_generator (generators_of full) g ≡ true). is-generator (generators_of full) G.symmetric.sizes g e) A.sent);
  back = lattice-among G.symmetric.sizes F.symmetric.sizes
      (each_map (λ u (x : (g : Vector) × Memᴰ g (generators_of bare) × IsImage bare.n (exchanges_of bare) u g). image-inside F.symmetric (each_member (lattice-generator F.symmetric.sizes) x.1) x.2) A.images);
}

-- THE SAME LIST
pub bare-list : (bare full : Order) (list_size group_size list_size' group_size' : ℕ) (a b : Listing) → AllImages bare full → listing bare list_size group_size ≡ accepted a → listing full list_size' group_size' ≡ accepted b → (a.rows ≡ b.rows) × (a.table ≡ b.table)
bare-list bare full list_size group_size list_size' group_size' a b A e f =
    one_list bare full list_size group_size list_size' group_size' a b A.cells A.exchanges (same-lattice bare full A (listing-facts bare list_size group_size a e) (listing-facts full list_size' group_size' b f)) e f

-- THE PLACE OF 23: exchange × m + generator
pub sent-image-at : (generators : List Vector) (sent : List Exchange) (x q : ℕ) → x < length sent → q < length generators
    → get_or (sent_images generators sent) (x * length generators + q) [] ≡ exchanged (get_or sent x []) (get_or generators q [])
unfolding sent_images
sent-image-at generators [] x q h k = absurd (omega arith)
sent-image-at generators (s ∷ sent) zero q h k =
    let at : zero * length generators + q ≡ q = omega (arith, zero-mul (length generators)) in
    ap (λ (p : ℕ). get_or (map (exchanged s) generators ++ sent_images generators sent) p []) at
    ∙ get_or-append (map (exchanged s) generators) (sent_images generators sent) [] q (omega (arith, length-map generators (exchanged s)))
    ∙ get_d_map (exchanged s) generators q [] [] k
sent-image-at generators (s ∷ sent) (suc x) q h k =
    let at : suc x * length generators + q ≡ length (map (exchanged s) generators) + (x * length generators + q) = omega (arith, suc-mul x (length generators), length-map generators (exchanged s)) in
    ap (λ (p : ℕ). get_or (map (exchanged s) generators ++ sent_images generators sent) p []) at
    ∙ get_or-append-add (map (exchanged s) generators) (sent_images generators sent) (x * length generators + q) []
    ∙ sent-image-at generators sent x q (omega arith) k

-- ---- an order that is not bare
negative-generator : (generators : List Vector) (v : Vector) → is_generator generators (negative v) ≡ true → is_generator generators v ≡ true
unfolding is_generator
negative-generator generators v e =
    either (is_member v generators) (is_member (negative v) generators) (subst (λ (w : Vector). (is_member (negative v) generators || is_member w generators) ≡ true) (negative-negative v) e)
  where
    either : (a b : Bool) → (b || a) ≡ true → (a || b) ≡ true
    either true b e = refl
    either false true e = refl
    either false false e = e

-- EVERY MEMBER OF ITS GROUP TAKES A GENERATOR TO A GENERATOR or the negative of one, where the order is not bare
pub closed-members : (order : Order) (group_size : ℕ) → is_bare order ≡ false → cells_fault order.n ≡ no_fault → order_fault order group_size ≡ no_fault
    → (s : Exchange) → InGroup order.n (exchanges_of order) s → Each (λ g. is_generator (generators_of order) (exchanged s g) ≡ true) (generators_of order)
unfolding lattice_fault is_generator
closed-members order group_size b e f s m =
    each_of generators (λ g k. members-keep order.n sent A.sendable.exchanges P step s m g (long g k) (own g k))
  where
    generators : List Vector
    generators = generators_of order

    sent : List Exchange
    sent = exchanges_of order

    A : Acceptable order group_size
    A = order-none order group_size f

    P : Vector → Type 0
    P v = is_generator generators v ≡ true

    closed : leaving_fault generators sent ≡ no_fault
    closed = sym (ap (λ (x : Bool). if x then images_fault generators sent order.images else leaving_fault generators sent) b) ∙ A.keeping

    long : (g : Vector) → Memᴰ g generators → order.n ≤ length g
    long g k = omega (arith, each_member (generators-length order (cells-none order.n e).most) k, (cells-none order.n e).most)

    own : (g : Vector) → Memᴰ g generators → P g
    own g k = ap (λ (x : Bool). x || is_member (negative g) generators) (member_is k)

    step : (t : Exchange) → Memᴰ t sent → (v : Vector) → P v → P (exchanged t v)
    step t k v p = go (is_member v generators) refl (is_member (negative v) generators) refl p
      where
        go : (x : Bool) → is_member v generators ≡ x → (y : Bool) → is_member (negative v) generators ≡ y → (x || y) ≡ true → P (exchanged t v)
        go true h y i q = each_member (closed-stays closed t k) (is_member_lem v generators h)
        go false h true i q = negative-generator generators (exchanged t v)
            (subst P (exchanged-negative t v) (each_member (closed-stays closed t k) (is_member_lem (negative v) generators i)))
        go false h false i q = clash q refl

-- ---- an example: the moves of a line of three cells, with the cells moved round
bare-line : Order
bare-line = order_of 3 (pos 1 ∷ negsuc 0 ∷ pos 0 ∷ pos 0 ∷ pos 1 ∷ negsuc 0 ∷ []) (2 ∷ 3 ∷ 1 ∷ []) (negsuc 0 ∷ negsuc 0 ∷ pos 1 ∷ pos 0 ∷ [])

full-line : Order
full-line = order_of 3 (pos 1 ∷ negsuc 0 ∷ pos 0 ∷ pos 0 ∷ pos 1 ∷ negsuc 0 ∷ pos 1 ∷ pos 0 ∷ negsuc 0 ∷ []) (2 ∷ 3 ∷ 1 ∷ []) []

line-images : AllImages bare-line full-line
unfolding bare-line full-line is_generator is_member any equal equal_cell negative padded chunks rows_of vectors_of generators_of exchanges_of exchanged composed identity range signed
line-images = record {
  cells = refl;
  exchanges = refl;
  sent = each-cons refl (each-cons refl each_nil);
  images = each-cons (_, Memᴰ.head refl, (record { exchange = identity 3; in_group = unit; positive = true; equation = refl })) (each-cons (_, Memᴰ.tail (Memᴰ.head refl), (record { exchange = identity 3; in_group = unit; positive = true; equation = refl })) (each-cons (_, Memᴰ.head refl, record { exchange = composed (2 ∷ 3 ∷ 1 ∷ []) (identity 3); in_group = applied (Memᴰ.head refl) unit; positive = false; equation = refl }) each_nil));
}
