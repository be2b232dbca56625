-- What one turn of a loop does that fills a list, place by place. Assumes nothing.
use mathlib.Core.Path.{◌≡◌, refl, sym, ap, ◌∙◌}
use mathlib.Core.List.{List, [], ◌∷◌, ◌++◌, map, append_assoc, append-nil}
use Prim.Native.Nat.{ℕ, zero, suc, ◌+◌, ◌-◌, ◌≤◌, ◌<◌}
use native.Mathlib.Nat.{not-suc-le-zero, le_of_suc-le-suc}
use native.Mathlib.Numerals.{add-one}
use native.Mathlib.Omega.{arith}
use lib.ListN.{length, get_or, take, drop, set, replicate, length-append, length-replicate, length-take, drop_of_length-le, take-append-drop, replicate-append-replicate}
use lib.Seq.{drop-cons, set_at, append_snoc, length-take-le}
use Rattle.definitions.specs.Lists.{range}
use Rattle.definitions.specs.Lent.{filled}

range-suc : (start j v : ℕ) (out : List ℕ) → v ≡ start + j → j < length out → set (range start j ++ drop j out) j v ≡ range start (suc j) ++ drop (suc j) out
unfolding range
range-suc start j v [] e h = absurd (not-suc-le-zero h)
range-suc start zero v (y ∷ out) e h = let q : v ≡ start = omega arith in ap (λ (w : ℕ). w ∷ out) q
range-suc start (suc j) v (y ∷ out) e h = ap (λ (r : List ℕ). start ∷ r) (range-suc (suc start) j v out (omega arith) (le_of_suc-le-suc h))

-- a loop that stores the numbers from `start` on
pub range-turn : (start j v : ℕ) (out : List ℕ) → v ≡ start + j → j < length out → set (range start j ++ drop j out) j v ≡ range start (j + 1) ++ drop (j + 1) out
range-turn start j v out e h = range-suc start j v out e h ∙ ap (λ (k : ℕ). range start k ++ drop k out) (sym (add-one j))

module _ {A B : Type 0} (f : A → B) where
  map-suc : (j : ℕ) (s : List A) (d : A) (out : List B) → j < length s → j < length out
      → set (map f (take j s) ++ drop j out) j (f (get_or s j d)) ≡ map f (take (suc j) s) ++ drop (suc j) out
  map-suc j [] d out h k = absurd (not-suc-le-zero h)
  map-suc j (x ∷ s) d [] h k = absurd (not-suc-le-zero k)
  map-suc zero (x ∷ s) d (y ∷ out) h k = refl
  map-suc (suc j) (x ∷ s) d (y ∷ out) h k = ap (λ (r : List B). f x ∷ r) (map-suc j s d out (le_of_suc-le-suc h) (le_of_suc-le-suc k))

  -- a loop that stores f of each element
  pub map-turn : (j : ℕ) (s : List A) (d : A) (out : List B) → j < length s → j < length out
      → set (map f (take j s) ++ drop j out) j (f (get_or s j d)) ≡ map f (take (j + 1) s) ++ drop (j + 1) out
  map-turn j s d out h k = map-suc j s d out h k ∙ ap (λ (i : ℕ). map f (take i s) ++ drop i out) (sym (add-one j))

module _ {A : Type 0} (blank : A) (t : List A) (at : ℕ) where
  -- t with blanks in at..i
  abbrev pub blanked : ℕ → List A
  blanked i = take at t ++ replicate (i - at) blank ++ drop i t

  -- a loop that stores blanks from `at` to the end: at its start
  pub blank-start : t ≡ blanked at
  blank-start =
      let e : 0 ≡ at - at = omega arith in
      sym (take-append-drop at t)
      ∙ ap (λ (x : List A). x ++ drop at t) (sym (append-nil (take at t)))
      ∙ ap (λ (k : ℕ). take at t ++ replicate k blank ++ drop at t) e

  -- .. one store
  pub blank_turn : (i : ℕ) → at ≤ i → i < length t → set (blanked i) i blank ≡ blanked (i + 1)
  blank_turn i h l =
      let front : List A = take at t ++ replicate (i - at) blank in
      let long : length front ≡ i = omega (arith, length-append (take at t) (replicate (i - at) blank), length-take-le at t (omega arith), length-replicate (i - at) blank) in
      let k : i - at + 1 ≡ i + 1 - at = omega arith in
      ap (λ (x : List A). set (front ++ x) i blank) (drop-cons t i blank l)
      ∙ set_at front (get_or t i blank) (drop (suc i) t) blank i long
      ∙ sym (append_snoc front blank (drop (suc i) t))
      ∙ ap (λ (x : List A). x ++ drop (suc i) t) (append_assoc (take at t) (replicate (i - at) blank) (blank ∷ []))
      ∙ ap (λ (x : List A). take at t ++ x ++ drop (suc i) t) (replicate-append-replicate (i - at) 1 blank)
      ∙ ap (λ (x : ℕ). take at t ++ replicate x blank ++ drop (suc i) t) k
      ∙ ap (λ (x : ℕ). take at t ++ replicate (i + 1 - at) blank ++ drop x t) (sym (add-one i))

  -- .. and at its end
  pub blank-end : (i : ℕ) → at ≤ i → i - at ≤ length t - at → length t ≤ i → blanked i ≡ filled blank (length t) (take at t)
  unfolding filled
  blank-end i h e done =
      let k : i - at ≡ length t - length (take at t) = omega (arith, length-take at t) in
      ap (λ (x : List A). take at t ++ replicate (i - at) blank ++ x) (drop_of_length-le t done)
      ∙ append-nil (take at t ++ replicate (i - at) blank)
      ∙ ap (λ (x : ℕ). take at t ++ replicate x blank) k
