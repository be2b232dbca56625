-- Lists: membership, numbers in a row, and areas of rows of one width. Assumes nothing.
use mathlib.Core.Path.{◌≡◌, refl, sym, ap, subst, ◌∙◌}
use mathlib.Core.Logic.{◌⊎◌, inl, inr, ⊎_elim}
use mathlib.Core.List.Memᴰ
use mathlib.Core.List.{List, [], ◌∷◌, ◌++◌, map, append_assoc, Memᴰ}
use Prim.Native.Nat.{ℕ, zero, suc, ◌+◌, ◌-◌, ◌*◌, ◌≤◌, ◌<◌, zero-le, suc-le-suc}
use native.Mathlib.Nat.{not-suc-le-zero, le_of_suc-le-suc, zero-mul, suc-mul, mul-le-mul_right}
use native.Mathlib.Omega.{arith}
use native.Mathlib.Decide.{ℕ_discrete}
use lib.ListN.{length, get_or, take, drop, replicate, length-drop, length-append}
use lib.Seq.{drop-drop, length-take-le, take-add, take_at, drop_at}
use Rattle.definitions.specs.Lists.{range, concat}
use Rattle.definitions.specs.Lent.{chunks, filled}

-- ---- membership

module _ {A : Type 0} where
  -- the element at a place is a member
  pub mem-at : (l : List A) (i : ℕ) (d : A) → i < length l → Memᴰ (get_or l i d) l
  mem-at [] i d h = absurd (not-suc-le-zero h)
  mem-at (t ∷ l) zero d h = Memᴰ.head refl
  mem-at (t ∷ l) (suc i) d h = Memᴰ.tail (mem-at l i d (le_of_suc-le-suc h))

  -- a member stands at a place
  pub mem_index : (u : A) (l : List A) (d : A) → Memᴰ u l → (i : ℕ) × (i < length l) × (u ≡ get_or l i d)
  mem_index u [] d m = absurd (Memᴰ.not-nil m)
  mem_index u (t ∷ l) d m =
      ⊎_elim (λ (q : u ≡ t). (0, suc-le-suc zero-le, q))
      (λ q. let r = mem_index u l d q in (suc r.0, suc-le-suc r.1, r.2))
      (Memᴰ.cases_cons m)

  -- a member of a part is a member
  pub mem-take : (p : ℕ) (u : A) (l : List A) → Memᴰ u (take p l) → Memᴰ u l
  mem-take zero u l m = absurd (Memᴰ.not-nil m)
  mem-take (suc p) u [] m = m
  mem-take (suc p) u (t ∷ l) m =
      ⊎_elim (λ q. Memᴰ.head q) (λ q. Memᴰ.tail (mem-take p u l q)) (Memᴰ.cases_cons m)

  -- .. or of the rest
  pub mem-drop : (p : ℕ) (u : A) (l : List A) → Memᴰ u (drop p l) → Memᴰ u l
  mem-drop zero u l m = m
  mem-drop (suc p) u [] m = m
  mem-drop (suc p) u (t ∷ l) m = Memᴰ.tail (mem-drop p u l m)

module _ {A B : Type 0} where
  -- the members of a map
  pub mem-map : (f : A → B) {a : A} (l : List A) → Memᴰ a l → Memᴰ (f a) (map f l)
  mem-map f {a} [] m = absurd (Memᴰ.not-nil m)
  mem-map f {a} (x ∷ l) m =
      ⊎_elim (λ (q : a ≡ x). Memᴰ.head (ap f q)) (λ q. Memᴰ.tail (mem-map f l q)) (Memᴰ.cases_cons m)

  -- and only these
  pub map-inv : (f : A → B) {u : B} (l : List A) → Memᴰ u (map f l) → (a : A) × Memᴰ a l × (u ≡ f a)
  map-inv f {u} [] m = absurd (Memᴰ.not-nil m)
  map-inv f {u} (x ∷ l) m = go (map-inv f l) (Memᴰ.cases_cons m)
    where
      go : (Memᴰ u (map f l) → (a : A) × Memᴰ a l × (u ≡ f a)) → (u ≡ f x) ⊎ Memᴰ u (map f l) → (a : A) × Memᴰ a (x ∷ l) × (u ≡ f a)
      go ih (inl q) = (x, Memᴰ.head refl, q)
      go ih (inr q) = let r = ih q in (r.0, Memᴰ.tail r.1, r.2)

  -- an element of a map
  pub get_d_map : (f : A → B) (l : List A) (i : ℕ) (a : A) (b : B) → i < length l → get_or (map f l) i b ≡ f (get_or l i a)
  get_d_map f [] i a b h = absurd (not-suc-le-zero h)
  get_d_map f (x ∷ l) zero a b h = refl
  get_d_map f (x ∷ l) (suc i) a b h = get_d_map f l i a b (le_of_suc-le-suc h)

-- f of each of the one list and each of the other
abbrev pub pairings : {A B C : Type 0} (f : A → B → C) → List A → List B → List C
pairings f xs [] = []
pairings f xs (b ∷ ys) = map (λ a. f a b) xs ++ pairings f xs ys

module _ {A B C : Type 0} (f : A → B → C) (xs : List A) where
  -- the members of the pairings
  pub mem-pairings : {a : A} {b : B} (ys : List B) → Memᴰ a xs → Memᴰ b ys → Memᴰ (f a b) (pairings f xs ys)
  mem-pairings {a} {b} [] k m = absurd (Memᴰ.not-nil m)
  mem-pairings {a} {b} (x ∷ ys) k m = go (mem-pairings ys k) (Memᴰ.cases_cons m)
    where
      go : (Memᴰ b ys → Memᴰ (f a b) (pairings f xs ys)) → (b ≡ x) ⊎ Memᴰ b ys → Memᴰ (f a b) (pairings f xs (x ∷ ys))
      go ih (inl q) =
          Memᴰ.append_left (pairings f xs ys)
          (subst (λ (z : B). Memᴰ (f a b) (map (λ (y : A). f y z) xs)) q (mem-map (λ (y : A). f y b) xs k))
      go ih (inr q) = Memᴰ.append_right (map (λ (y : A). f y x) xs) (ih q)

  -- and only these
  pub pairings-inv : {u : C} (ys : List B) → Memᴰ u (pairings f xs ys) → (a : A) × (b : B) × Memᴰ a xs × Memᴰ b ys × (u ≡ f a b)
  pairings-inv {u} [] m = absurd (Memᴰ.not-nil m)
  pairings-inv {u} (x ∷ ys) m = go (pairings-inv ys) (Memᴰ.append_cases (map (λ (y : A). f y x) xs) m)
    where
      go : (Memᴰ u (pairings f xs ys) → (a : A) × (b : B) × Memᴰ a xs × Memᴰ b ys × (u ≡ f a b))
          → Memᴰ u (map (λ (y : A). f y x) xs) ⊎ Memᴰ u (pairings f xs ys)
          → (a : A) × (b : B) × Memᴰ a xs × Memᴰ b (x ∷ ys) × (u ≡ f a b)
      go ih (inl q) = let r = map-inv (λ (y : A). f y x) xs q in (r.0, x, r.1, Memᴰ.head refl, r.2)
      go ih (inr q) = let r = ih q in (r.0, r.1, r.2, Memᴰ.tail r.3, r.4)

-- ---- numbers in a row

-- how many they are
pub range_length : (start count : ℕ) → length (range start count) ≡ count
unfolding range
range_length start zero = refl
range_length start (suc count) = ap suc (range_length (suc start) count)

-- its members are start, .. start + count - 1
pub range-mem : (start count c : ℕ) → start ≤ c → c < start + count → Memᴰ c (range start count)
unfolding range
range-mem start zero c h k = absurd (omega arith)
range-mem start (suc count) c h k = go (range-mem (suc start) count c) (ℕ_discrete c start)
  where
    go : (suc start ≤ c → c < suc start + count → Memᴰ c (range (suc start) count)) → Dec (c ≡ start) → Memᴰ c (start ∷ range (suc start) count)
    go ih (yes q) = Memᴰ.head q
    go ih (no q) = Memᴰ.tail (ih (omega arith) (omega arith))

-- and only these
pub range-inv : (start count c : ℕ) → Memᴰ c (range start count) → (start ≤ c) × (c < start + count)
unfolding range
range-inv start zero c m = absurd (Memᴰ.not-nil m)
range-inv start (suc count) c m =
    ⊎_elim (λ (q : c ≡ start). (omega arith, omega arith))
    (λ q. let r = range-inv (suc start) count c q in (omega (arith, r.0), omega (arith, r.1)))
    (Memᴰ.cases_cons m)

-- the number at a place
pub get_or-range : (start count i d : ℕ) → i < count → get_or (range start count) i d ≡ start + i
unfolding range
get_or-range start zero i d h = absurd (not-suc-le-zero h)
get_or-range start (suc count) zero d h = omega arith
get_or-range start (suc count) (suc i) d h = get_or-range (suc start) count i d (le_of_suc-le-suc h) ∙ omega arith

-- ---- rows of an area

-- a row ends within the rows
pub row-end : (i count n : ℕ) → i < count → i * n + n ≤ count * n
row-end i count n h = omega (arith, suc-mul i n, mul-le-mul_right {m = suc i} {n = count} n h)

-- a row has a number
pub le-times : (k n : ℕ) → 1 ≤ n → k ≤ k * n
le-times zero n h = omega arith
le-times (suc k) n h = omega (arith, suc-mul k n, le-times k n h)

module _ {A : Type 0} where
  -- how many rows
  pub chunks-length : (n count : ℕ) (xs : List A) → length (chunks n count xs) ≡ count
  unfolding chunks
  chunks-length n zero xs = refl
  chunks-length n (suc count) xs = ap suc (chunks-length n count (drop n xs))

  -- row i of an area
  pub chunks-at : (n count i : ℕ) (xs : List A) → i < count → get_or (chunks n count xs) i [] ≡ take n (drop (i * n) xs)
  unfolding chunks
  chunks-at n zero i xs h = absurd (not-suc-le-zero h)
  chunks-at n (suc count) zero xs h = ap (λ (k : ℕ). take n (drop k xs)) (sym (zero-mul n))
  chunks-at n (suc count) (suc i) xs h =
      let e : n + i * n ≡ suc i * n = omega (arith, suc-mul i n) in
      chunks-at n count i (drop n xs) (le_of_suc-le-suc h)
      ∙ ap (take n) (drop-drop (i * n) n xs)
      ∙ ap (λ (k : ℕ). take n (drop k xs)) e

  -- the part of the area from i * n on, n numbers, is row i
  pub part-row : (n count i : ℕ) (xs : List A) → i < count → take (i * n + n - i * n) (drop (i * n) xs) ≡ get_or (chunks n count xs) i []
  part-row n count i xs h =
      let e : i * n + n - i * n ≡ n = omega arith in
      ap (λ (k : ℕ). take k (drop (i * n) xs)) e ∙ sym (chunks-at n count i xs h)

  -- each row has n numbers
  pub row-long : (n count i : ℕ) (xs : List A) → i < count → count * n ≤ length xs → length (get_or (chunks n count xs) i []) ≡ n
  row-long n count i xs h r =
      ap length (chunks-at n count i xs h)
      ∙ length-take-le n (drop (i * n) xs) (omega (arith, length-drop (i * n) xs, row-end i count n h))

  -- .. as a member
  pub chunks_long : (n count : ℕ) (xs : List A) → count * n ≤ length xs → (r : List A) → Memᴰ r (chunks n count xs) → length r ≡ n
  chunks_long n count xs h r m =
      let q = mem_index r (chunks n count xs) [] m in
      ap length q.2 ∙ row-long n count q.0 xs (omega (arith, q.1, chunks-length n count xs)) h

  -- fewer rows
  pub chunks-take : (n count p : ℕ) (xs : List A) → p ≤ count → take p (chunks n count xs) ≡ chunks n p xs
  unfolding chunks
  chunks-take n count zero xs h = refl
  chunks-take n zero (suc p) xs h = absurd (not-suc-le-zero h)
  chunks-take n (suc count) (suc p) xs h = ap (λ (r : List (List A)). take n xs ∷ r) (chunks-take n count p (drop n xs) (le_of_suc-le-suc h))

  -- the rows one after the other are the front of the area
  pub concat-chunks : (n count : ℕ) (xs : List A) → concat (chunks n count xs) ≡ take (count * n) xs
  unfolding chunks concat
  concat-chunks n zero xs = ap (λ (k : ℕ). take k xs) (sym (zero-mul n))
  concat-chunks n (suc count) xs =
      let e : n + count * n ≡ suc count * n = omega (arith, suc-mul count n) in
      ap (λ (r : List A). take n xs ++ r) (concat-chunks n count (drop n xs))
      ∙ sym (take-add n (count * n) xs)
      ∙ ap (λ (k : ℕ). take k xs) e

  -- an area that begins with rows has these rows
  pub chunks-concat : (n : ℕ) (l : List (List A)) (rest : List A) → ((r : List A) → Memᴰ r l → length r ≡ n) → chunks n (length l) (concat l ++ rest) ≡ l
  unfolding chunks concat
  chunks-concat n [] rest h = refl
  chunks-concat n (r ∷ l) rest h =
      let e : (r ++ concat l) ++ rest ≡ r ++ (concat l ++ rest) = append_assoc r (concat l) rest in
      let k : length r ≡ n = h r (Memᴰ.head refl) in
      ap (λ (x : List A). take n x ∷ chunks n (length l) (drop n x)) e
      ∙ ap (λ (x : List A). x ∷ chunks n (length l) (drop n (r ++ (concat l ++ rest)))) (take_at r (concat l ++ rest) n k)
      ∙ ap (λ (x : List A). r ∷ chunks n (length l) x) (drop_at r (concat l ++ rest) n k)
      ∙ ap (λ (x : List (List A)). r ∷ x) (chunks-concat n l rest (λ s m. h s (Memᴰ.tail m)))

  -- so an area filled with rows has these rows
  pub chunks-filled : (n size : ℕ) (blank : A) (l : List (List A)) → ((r : List A) → Memᴰ r l → length r ≡ n)
      → chunks n (length l) (filled blank size (concat l)) ≡ l
  unfolding filled
  chunks-filled n size blank l h = chunks-concat n l (replicate (size - length (concat l)) blank) h

  -- the rows of two tables
  pub concat-append : (a b : List (List A)) → concat (a ++ b) ≡ concat a ++ concat b
  unfolding concat
  concat-append [] b = refl
  concat-append (r ∷ a) b = ap (λ (x : List A). r ++ x) (concat-append a b) ∙ sym (append_assoc r (concat a) (concat b))

  -- how many numbers the rows have
  pub length-concat : (n : ℕ) (l : List (List A)) → ((r : List A) → Memᴰ r l → length r ≡ n) → length (concat l) ≡ length l * n
  unfolding concat
  length-concat n [] h = sym (zero-mul n)
  length-concat n (r ∷ l) h =
      omega (arith, length-append r (concat l), h r (Memᴰ.head refl), length-concat n l (λ s m. h s (Memᴰ.tail m)), suc-mul (length l) n)
