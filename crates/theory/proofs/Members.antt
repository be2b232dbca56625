-- What holds of each member of a list, lists with no member twice, and the places of members.
-- Assumes nothing.
use mathlib.Core.Path.{◌≡◌, refl, sym, ◌∙◌, ap, subst}
use mathlib.Core.Logic.{◌⊎◌, inl, inr}
use mathlib.Core.Bool.{Bool, true, false, cond, ◌&&◌, ◌||◌, true≢false}
use mathlib.Core.List.Memᴰ
use mathlib.Core.List.{List, [], ◌∷◌, ◌++◌, map, Memᴰ}
use Prim.Native.Nat.{ℕ, zero, suc, ◌<◌}
use native.Mathlib.Omega.{arith}
use lib.ListN.{length, get_or, take, drop}
use Rattle.definitions.specs.Lists.{any, every, select}
use Rattle.theory.proofs.Lists.{map-inv}

-- P holds of each member of a list
pub data Each {A : Type 0} (P : A → Type 0) : List A → Type 0 where
  each_nil : Each P []
  each-cons : {x : A} {xs : List A} → P x → Each P xs → Each P (x ∷ xs)

-- no member of a list stands in it twice
pub data Once {A : Type 0} : List A → Type 0 where
  nothing : Once []
  first : {x : A} {xs : List A} → ¬ (Memᴰ x xs) → Once xs → Once (x ∷ xs)

pub each_map : {A : Type 0} {P Q : A → Type 0} → ((x : A) → P x → Q x) → {xs : List A} → Each P xs → Each Q xs
each_map f each_nil = each_nil
each_map f (each-cons h t) = each-cons (f _ h) (each_map f t)

pub each-image : {A B : Type 0} {P : A → Type 0} {Q : B → Type 0} (g : A → B) → ((x : A) → P x → Q (g x)) → {xs : List A} → Each P xs → Each Q (map g xs)
each-image g f each_nil = each_nil
each-image g f (each-cons h t) = each-cons (f _ h) (each-image g f t)

pub each_append : {A : Type 0} {P : A → Type 0} {xs ys : List A} → Each P xs → Each P ys → Each P (xs ++ ys)
each_append each_nil k = k
each_append (each-cons h t) k = each-cons h (each_append t k)

pub each_member : {A : Type 0} {P : A → Type 0} {x : A} {xs : List A} → Each P xs → Memᴰ x xs → P x
each_member {A = A} {P = P} each_nil k = elim k [ ]
each_member {P = P} (each-cons h t) (Memᴰ.head e) = subst P (sym e) h
each_member (each-cons h t) (Memᴰ.tail m) = each_member t m

pub each_of : {A : Type 0} {P : A → Type 0} (xs : List A) → ((x : A) → Memᴰ x xs → P x) → Each P xs
each_of [] f = each_nil
each_of (x ∷ xs) f = each-cons (f x (Memᴰ.head refl)) (each_of xs (λ y m. f y (Memᴰ.tail m)))

pub each-head : {A : Type 0} {P : A → Type 0} {x : A} {xs : List A} → Each P (x ∷ xs) → P x
each-head (each-cons p h) = p

pub each_tail : {A : Type 0} {P : A → Type 0} {x : A} {xs : List A} → Each P (x ∷ xs) → Each P xs
each_tail (each-cons p h) = h

pub each_at : {A : Type 0} {P : A → Type 0} (xs : List A) (d : A) → Each P xs → (i : ℕ) → i < length xs → P (get_or xs i d)
each_at [] d h i l = absurd (omega arith)
each_at (x ∷ xs) d (each-cons p h) zero l = p
each_at (x ∷ xs) d (each-cons p h) (suc i) l = each_at xs d h i (omega arith)

pub each_from : {A : Type 0} {P : A → Type 0} (xs : List A) (d : A) → ((i : ℕ) → i < length xs → P (get_or xs i d)) → Each P xs
each_from [] d h = each_nil
each_from (x ∷ xs) d h = each-cons (h zero (omega arith)) (each_from xs d (λ i l. h (suc i) (omega arith)))

-- two facts of each member
pub each_both : {A : Type 0} {P Q : A → Type 0} {xs : List A} → Each P xs → Each Q xs → Each (λ x. P x × Q x) xs
each_both each_nil each_nil = each_nil
each_both (each-cons p h) (each-cons q k) = each-cons (p, q) (each_both h k)

-- ---- places
pub place-member : {A : Type 0} (xs : List A) (d : A) (i : ℕ) → i < length xs → Memᴰ (get_or xs i d) xs
place-member [] d i l = absurd (omega arith)
place-member (x ∷ xs) d zero l = Memᴰ.head refl
place-member (x ∷ xs) d (suc i) l = Memᴰ.tail (place-member xs d i (omega arith))

pub member-place : {A : Type 0} {x : A} {xs : List A} (d : A) → Memᴰ x xs → (i : ℕ) × (i < length xs) × (get_or xs i d ≡ x)
member-place d (Memᴰ.head e) = (zero, omega arith, sym e)
member-place d (Memᴰ.tail k) = let t = member-place d k in (suc t.0, omega (arith, t.1), t.2)

-- ---- once
pub once-place : {A : Type 0} {xs : List A} → Once xs → (d : A) (i j : ℕ) → i < length xs → j < length xs → get_or xs i d ≡ get_or xs j d → i ≡ j
once-place nothing d i j l k e = absurd (omega arith)
once-place (first new h) d zero zero l k e = refl
once-place (first {x = r} {xs = xs} new h) d zero (suc j) l k e = absurd (new (Memᴰ.cast e (place-member xs d j (omega arith))))
once-place (first {x = r} {xs = xs} new h) d (suc i) zero l k e = absurd (new (Memᴰ.cast (sym e) (place-member xs d i (omega arith))))
once-place (first new h) d (suc i) (suc j) l k e = ap suc (once-place h d i j (omega arith) (omega arith) e)

pub once-snoc : {A : Type 0} {xs : List A} (x : A) → Once xs → ¬ (Memᴰ x xs) → Once (xs ++ (x ∷ []))
once-snoc x nothing f = first (λ k. Memᴰ.not-nil k) nothing
once-snoc x (first {x = y} {xs = xs} new h) f = first (λ k. go (Memᴰ.append_cases xs k)) (once-snoc x h (λ k. f (Memᴰ.tail k)))
  where
    go : Memᴰ y xs ⊎ Memᴰ y (x ∷ []) → ⊥
    go (inl k) = new k
    go (inr k) = f (Memᴰ.head (sym (Memᴰ.eq_of_singleton k)))

-- ---- all members but the one at a place
module _ {A : Type 0} (d : A) where
  pub of_others : (xs : List A) (r : ℕ) (x : A) → Memᴰ x (take r xs ++ drop (suc r) xs) → (i : ℕ) × (i < length xs) × ((i ≡ r → ⊥) × (get_or xs i d ≡ x))
  of_others [] zero x k = absurd (Memᴰ.not-nil k)
  of_others [] (suc r) x k = absurd (Memᴰ.not-nil k)
  of_others (y ∷ xs) zero x k = let t = member-place d k in (suc t.0, omega (arith, t.1), (λ e. omega arith, t.2))
  of_others (y ∷ xs) (suc r) x k = go (Memᴰ.cases_cons k) (λ l. of_others xs r x l)
    where
      go : (x ≡ y) ⊎ Memᴰ x (take r xs ++ drop (suc r) xs) → (Memᴰ x (take r xs ++ drop (suc r) xs) → (i : ℕ) × (i < length xs) × ((i ≡ r → ⊥) × (get_or xs i d ≡ x)))
          → (i : ℕ) × (i < suc (length xs)) × ((i ≡ suc r → ⊥) × (get_or (y ∷ xs) i d ≡ x))
      go (inl e) again = (zero, omega arith, (λ f. omega arith, sym e))
      go (inr l) again = let t = again l in (suc t.0, omega (arith, t.1), (λ f. t.2.0 (omega arith), t.2.1))

  pub to-others : (xs : List A) (r i : ℕ) → i < length xs → (i ≡ r → ⊥) → Memᴰ (get_or xs i d) (take r xs ++ drop (suc r) xs)
  to-others [] r i l ne = absurd (omega arith)
  to-others (y ∷ xs) zero zero l ne = absurd (ne refl)
  to-others (y ∷ xs) zero (suc i) l ne = place-member xs d i (omega arith)
  to-others (y ∷ xs) (suc r) zero l ne = Memᴰ.head refl
  to-others (y ∷ xs) (suc r) (suc i) l ne = Memᴰ.tail (to-others xs r i (omega arith) (λ e. ne (ap suc e)))

-- ---- tests over a list
module _ {A : Type 0} (test : A → Bool) where
  pub every-each : (xs : List A) → every test xs ≡ true → Each (λ x. test x ≡ true) xs
  unfolding every
  every-each [] e = each_nil
  every-each (x ∷ xs) e = go (test x) refl e (λ f. every-each xs f)
    where
      go : (b : Bool) → test x ≡ b → (b && every test xs) ≡ true → (every test xs ≡ true → Each (λ y. test y ≡ true) xs) → Each (λ y. test y ≡ true) (x ∷ xs)
      go true q f again = each-cons q (again f)
      go false q f again = absurd (true≢false (sym f))

  pub each-every : {xs : List A} → Each (λ x. test x ≡ true) xs → every test xs ≡ true
  unfolding every
  each-every each_nil = refl
  each-every (each-cons {x = x} {xs = xs} q h) = ap (λ (b : Bool). b && every test xs) q ∙ each-every h

  pub any_none : (xs : List A) → any test xs ≡ false → Each (λ x. test x ≡ false) xs
  unfolding any
  any_none [] e = each_nil
  any_none (x ∷ xs) e = go (test x) refl e (λ f. any_none xs f)
    where
      go : (b : Bool) → test x ≡ b → (b || any test xs) ≡ false → (any test xs ≡ false → Each (λ y. test y ≡ false) xs) → Each (λ y. test y ≡ false) (x ∷ xs)
      go true q f again = absurd (true≢false f)
      go false q f again = each-cons q (again f)

  pub none_any : {xs : List A} → Each (λ x. test x ≡ false) xs → any test xs ≡ false
  unfolding any
  none_any each_nil = refl
  none_any (each-cons {x = x} {xs = xs} q h) = ap (λ (b : Bool). b || any test xs) q ∙ none_any h

  -- the members for which the test holds
  pub of-select : (xs : List A) (y : A) → Memᴰ y (select test xs) → Memᴰ y xs × (test y ≡ true)
  unfolding select
  of-select [] y k = absurd (Memᴰ.not-nil k)
  of-select (x ∷ xs) y k = go (test x) refl k (λ l. of-select xs y l)
    where
      deeper : Memᴰ y xs × (test y ≡ true) → Memᴰ y (x ∷ xs) × (test y ≡ true)
      deeper t = (Memᴰ.tail t.0, t.1)

      go : (b : Bool) → test x ≡ b → Memᴰ y (cond b (x ∷ select test xs) (select test xs)) → (Memᴰ y (select test xs) → Memᴰ y xs × (test y ≡ true)) → Memᴰ y (x ∷ xs) × (test y ≡ true)
      go false q k again = deeper (again k)
      go true q k again = pick (Memᴰ.cases_cons k)
        where
          pick : (y ≡ x) ⊎ Memᴰ y (select test xs) → Memᴰ y (x ∷ xs) × (test y ≡ true)
          pick (inl e) = (Memᴰ.head e, ap test e ∙ q)
          pick (inr l) = deeper (again l)

  pub to-select : (y : A) {xs : List A} → Memᴰ y xs → test y ≡ true → Memᴰ y (select test xs)
  unfolding select
  to-select y (Memᴰ.head {x = x} {xs = xs} e) q = subst (λ (b : Bool). Memᴰ y (cond b (x ∷ select test xs) (select test xs))) (sym (ap test (sym e) ∙ q)) (Memᴰ.head e)
  to-select y (Memᴰ.tail {x = x} {xs = xs} k) q = go (test x) (to-select y k q)
    where
      go : (b : Bool) → Memᴰ y (select test xs) → Memᴰ y (cond b (x ∷ select test xs) (select test xs))
      go true l = Memᴰ.tail l
      go false l = l

  pub select-once : {xs : List A} → Once xs → Once (select test xs)
  unfolding select
  select-once nothing = nothing
  select-once (first {x = x} {xs = xs} new h) = go (test x) (select-once h)
    where
      go : (b : Bool) → Once (select test xs) → Once (cond b (x ∷ select test xs) (select test xs))
      go true o = first (λ k. new (of-select xs x k).0) o
      go false o = o

-- a map that tells the members apart
pub once-map : {A B : Type 0} (f : A → B) {xs : List A} → ((x y : A) → Memᴰ x xs → Memᴰ y xs → f x ≡ f y → x ≡ y) → Once xs → Once (map f xs)
once-map f inj nothing = nothing
once-map f inj (first {x = x} {xs = xs} new once) = first fresh (once-map f (λ a b m k e. inj a b (Memᴰ.tail m) (Memᴰ.tail k) e) once)
  where
    fresh : ¬ (Memᴰ (f x) (map f xs))
    fresh m = let t = map-inv f xs m in new (Memᴰ.cast (inj x t.0 (Memᴰ.head refl) (Memᴰ.tail t.1) t.2) t.1)
