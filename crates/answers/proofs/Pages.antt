-- An area that is written piece by piece: two pieces one behind the other are one piece, and what is written from the
-- start of an area
-- of zeros is a page (Specification 9.4). Assumes nothing.
use mathlib.Core.Path.{◌≡◌, refl, sym, ◌∙◌, ap, subst}
use mathlib.Core.List.{List, [], ◌∷◌, ◌++◌, append_assoc}
use mathlib.Core.Bool.{Bool, true, false}
use mathlib.Core.Logic.{◌⊎◌, inl, inr, ⊎_elim}
use Prim.Native.Nat.{ℕ, zero, suc, ◌+◌, ◌-◌, ◌<◌, ◌≤◌}
use native.Mathlib.Omega.{arith}
use lib.ListN.{length, take, drop, replicate, length-append, length-replicate}
use lib.Seq.{paste, paste-zero, take-length, drop-drop, take-paste, drop-paste, length-paste}
use lib.Dec.{leb}
use borrow.Author.Tests.{le-leb, lt-leb, leb-true, leb-false}
use Rattle.definitions.specs.Lent.{filled}
use Rattle.answers.specs.Page.{written, behind, Wrote, page_of, end_of, Laid}

-- at most, or above
pub either : (m n : ℕ) → (m ≤ n) ⊎ (n < m)
either m n = go (leb m n) refl
  where
    go : (b : Bool) → leb m n ≡ b → (m ≤ n) ⊎ (n < m)
    go true e = inl (leb-true m n e)
    go false e = inr (leb-false m n e)

-- ---- the definitions by cases
pub written-yes : (a : List ℕ) (at : ℕ) (s : List ℕ) → length s ≤ length a - at
    → written a at s ≡ paste a at s (length s)
unfolding written
written-yes a at s h = rw (le-leb (length s) (length a - at) h)

pub written-no : (a : List ℕ) (at : ℕ) (s : List ℕ) → length a - at < length s → written a at s ≡ replicate (length a) 0
unfolding written
written-no a at s h = rw (lt-leb (length s) (length a - at) h)

pub behind-yes : (n at : ℕ) (s : List ℕ) → length s ≤ n - at → behind n at s ≡ at + length s
unfolding behind
behind-yes n at s h = rw (le-leb (length s) (n - at) h)

pub behind-no : (n at : ℕ) (s : List ℕ) → n - at < length s → behind n at s ≡ n + 1
unfolding behind
behind-no n at s h = rw (lt-leb (length s) (n - at) h)

page-yes : (n : ℕ) (t : List ℕ) → length t ≤ n → page_of n t ≡ filled 0 n t
unfolding page_of
page-yes n t h = rw (le-leb (length t) n h)

page-no : (n : ℕ) (t : List ℕ) → n < length t → page_of n t ≡ replicate n 0
unfolding page_of
page-no n t h = rw (lt-leb (length t) n h)

end-yes : (n : ℕ) (t : List ℕ) → length t ≤ n → end_of n t ≡ length t
unfolding end_of
end-yes n t h = rw (le-leb (length t) n h)

end-no : (n : ℕ) (t : List ℕ) → n < length t → end_of n t ≡ n + 1
unfolding end_of
end-no n t h = rw (lt-leb (length t) n h)

-- ---- the length stays

-- past the end only the empty text fits, and it changes nothing
paste-past : (a : List ℕ) (at : ℕ) (s : List ℕ) → length a < at → length s ≤ length a - at → paste a at s (length s) ≡ a
paste-past a at [] h k = sym (paste-zero a at [])
paste-past a at (x ∷ s) h k = absurd (omega arith)

-- a text that fits
length-laid : (a : List ℕ) (at : ℕ) (s : List ℕ) → length s ≤ length a - at
    → length (paste a at s (length s)) ≡ length a
length-laid a at s h =
    ⊎_elim (λ k. length-paste a at s (length s) (omega arith) (omega arith))
    (λ k. ap length (paste-past a at s k h))
    (either at (length a))

-- any text
length-written : (a : List ℕ) (at : ℕ) (s : List ℕ) → length (written a at s) ≡ length a
length-written a at s =
    ⊎_elim (λ h. ap length (written-yes a at s h) ∙ length-laid a at s h)
    (λ h. ap length (written-no a at s h) ∙ length-replicate (length a) 0)
    (either (length s) (length a - at))

-- ---- two pieces

-- both fit, inside the area
paste-in : (a : List ℕ) (at : ℕ) (s t : List ℕ) → at ≤ length a → length s + length t ≤ length a - at
    → paste (paste a at s (length s)) (at + length s) t (length t) ≡ paste a at (s ++ t) (length (s ++ t))
paste-in a at s t w h =
    let p = paste a at s (length s) in
    let front : take (at + length s) p ≡ take at a ++ s =
    take-paste a at s (length s) (omega arith) (omega arith) ∙ ap (λ (l : List ℕ). take at a ++ l) (take-length s) in
    let rest : drop (at + length s + length t) p ≡ drop (at + length s + length t) a =
    sym (drop-drop (length t) (at + length s) p)
    ∙ ap (drop (length t)) (drop-paste a at s (length s) (omega arith) (omega arith))
    ∙ drop-drop (length t) (at + length s) a in
    let end : at + length s + length t ≡ at + length (s ++ t) = omega (arith, length-append s t) in
    ap (λ (l : List ℕ). l ++ take (length t) t ++ drop (at + length s + length t) p) front
    ∙ ap (λ (l : List ℕ). take at a ++ s ++ l ++ drop (at + length s + length t) p) (take-length t)
    ∙ ap (λ (l : List ℕ). take at a ++ s ++ t ++ l) (rest ∙ ap (λ (k : ℕ). drop k a) end)
    ∙ ap (λ (l : List ℕ). l ++ drop (at + length (s ++ t)) a)
    (append_assoc (take at a) s t ∙ ap (λ (l : List ℕ). take at a ++ l) (sym (take-length (s ++ t))))

-- both fit
paste-paste : (a : List ℕ) (at : ℕ) (s t : List ℕ) → length s + length t ≤ length a - at
    → paste (paste a at s (length s)) (at + length s) t (length t) ≡ paste a at (s ++ t) (length (s ++ t))
paste-paste a at s t h =
    ⊎_elim (λ w. paste-in a at s t w h)
    (λ w.
    ap (λ (l : List ℕ). paste l (at + length s) t (length t)) (paste-past a at s w (omega arith))
    ∙ paste-past a (at + length s) t (omega arith) (omega arith)
    ∙ sym (paste-past a at (s ++ t) w (omega (arith, length-append s t))))
    (either at (length a))

-- behind a text that did not fit there is no place
behind-past : (n : ℕ) (t : List ℕ) → behind n (n + 1) t ≡ n + 1
behind-past n [] = behind-yes n (n + 1) [] (omega arith) ∙ let e : n + 1 + 0 ≡ n + 1 = omega arith in e
behind-past n (x ∷ t) = behind-no n (n + 1) (x ∷ t) (omega arith)

-- the place behind both
behind-append : (n at : ℕ) (s t : List ℕ) → behind n (behind n at s) t ≡ behind n at (s ++ t)
behind-append n at s t =
    let l = length-append s t in
    ⊎_elim
    (λ h. ap (λ (k : ℕ). behind n k t) (behind-yes n at s h) ∙ ⊎_elim
    (λ k. behind-yes n (at + length s) t (omega arith) ∙ let e : at + length s + length t ≡ at + length (s ++ t) = omega arith in e ∙ sym (behind-yes n at (s ++ t) (omega arith)))
    (λ k. behind-no n (at + length s) t (omega arith) ∙ sym (behind-no n at (s ++ t) (omega arith)))
    (either (length s + length t) (n - at)))
    (λ h. ap (λ (k : ℕ). behind n k t) (behind-no n at s h) ∙ behind-past n t ∙ sym (behind-no n at (s ++ t) (omega arith)))
    (either (length s) (n - at))

-- and the area stays zero
written-past : (m : ℕ) (t : List ℕ) → written (replicate m 0) (m + 1) t ≡ replicate m 0
written-past m [] = written-yes (replicate m 0) (m + 1) [] (omega arith) ∙ sym (paste-zero (replicate m 0) (m + 1) [])
written-past m (x ∷ t) =
    let z : length {A = ℕ} (replicate m 0) ≡ m = length-replicate m 0 in
    written-no (replicate m 0) (m + 1) (x ∷ t) (omega arith) ∙ ap (λ (k : ℕ). replicate k 0) z

-- the area with both
written-append : (a : List ℕ) (at : ℕ) (s t : List ℕ)
    → written (written a at s) (behind (length a) at s) t ≡ written a at (s ++ t)
written-append a at s t =
    let l = length-append s t in
    ⊎_elim
    (λ h.
    let e : written (written a at s) (behind (length a) at s) t ≡ written (paste a at s (length s)) (at + length s) t =
    ap (λ (k : ℕ). written (written a at s) k t) (behind-yes (length a) at s h)
    ∙ ap (λ (x : List ℕ). written x (at + length s) t) (written-yes a at s h) in
    let p : length (paste a at s (length s)) ≡ length a = length-laid a at s h in
    e ∙ ⊎_elim
    (λ k. written-yes (paste a at s (length s)) (at + length s) t (omega arith) ∙ paste-paste a at s t k ∙ sym (written-yes a at (s ++ t) (omega arith)))
    (λ k. written-no (paste a at s (length s)) (at + length s) t (omega arith) ∙ ap (λ (m : ℕ). replicate m 0) p ∙ sym (written-no a at (s ++ t) (omega arith)))
    (either (length s + length t) (length a - at)))
    (λ h.
    ap (λ (k : ℕ). written (written a at s) k t) (behind-no (length a) at s h)
    ∙ ap (λ (x : List ℕ). written x (length a + 1) t) (written-no a at s h)
    ∙ written-past (length a) t
    ∙ sym (written-no a at (s ++ t) (omega arith)))
    (either (length s) (length a - at))

-- ---- what was written

-- nothing
pub wrote_none : (a : List ℕ) (at : ℕ) → Wrote a a at at []
wrote_none a at = record {
  page = paste-zero a at [] ∙ sym (written-yes a at [] (omega arith));
  place = sym (behind-yes (length a) at [] (omega arith) ∙ let e : at + 0 ≡ at = omega arith in e);
}

-- the area's length stays
pub wrote-length : {a b : List ℕ} {at r : ℕ} {s : List ℕ} → Wrote a b at r s → length b ≡ length a
wrote-length {a} {b} {at} {r} {s} p = ap length p.page ∙ length-written a at s

-- two pieces, one behind the other
pub wrote-append : {a b c : List ℕ} {at k r : ℕ} {s t : List ℕ} → Wrote a b at k s → Wrote b c k r t
    → Wrote a c at r (s ++ t)
wrote-append {a} {b} {c} {at} {k} {r} {s} {t} p q = record {
  page =
      q.page
      ∙ ap (λ (l : List ℕ). written l k t) p.page
      ∙ ap (λ (n : ℕ). written (written a at s) n t) p.place
      ∙ written-append a at s t;
  place =
      q.place
      ∙ ap (λ (n : ℕ). behind n k t) (wrote-length p)
      ∙ ap (λ (n : ℕ). behind (length a) n t) p.place
      ∙ behind-append (length a) at s t;
}

-- the same text, said otherwise
pub wrote_as : {a b : List ℕ} {at r : ℕ} {s t : List ℕ} → Wrote a b at r s → s ≡ t → Wrote a b at r t
wrote_as {a} {b} {at} {r} p e = subst (Wrote a b at r) e p

-- ---- a text from the start of an area of zeros
-- zeros from a place on
drop-zeros : (k n : ℕ) → drop {A = ℕ} k (replicate n 0) ≡ replicate (n - k) 0
drop-zeros zero n = ap (λ (m : ℕ). replicate m 0) (let e : n ≡ n - 0 = omega arith in e)
drop-zeros (suc k) zero = ap (λ (m : ℕ). replicate m 0) (let e : 0 ≡ 0 - suc k = omega arith in e)
drop-zeros (suc k) (suc n) =
    drop-zeros k n ∙ ap (λ (m : ℕ). replicate m 0) (let e : n - k ≡ suc n - suc k = omega arith in e)

module _ (n : ℕ) (t : List ℕ) where
  -- their number
  zeros : length {A = ℕ} (replicate n 0) ≡ n
  zeros = length-replicate n 0

  -- the area is the page
  written-page : written (replicate n 0) 0 t ≡ page_of n t
  unfolding filled
  written-page =
      ⊎_elim
      (λ h. written-yes (replicate n 0) 0 t (let z = zeros in omega arith)
      ∙ ap (λ (l : List ℕ). l ++ drop (0 + length t) (replicate n 0)) (take-length t)
      ∙ ap (λ (l : List ℕ). t ++ l)
      (drop-zeros (0 + length t) n ∙ ap (λ (m : ℕ). replicate m 0) (let q : n - (0 + length t) ≡ n - length t = omega arith in q))
      ∙ sym (page-yes n t h))
      (λ h. written-no (replicate n 0) 0 t (let z = zeros in omega arith) ∙ ap (λ (m : ℕ). replicate m 0) zeros ∙ sym (page-no n t h))
      (either (length t) n)

  -- the place is the page's end
  behind-end : behind n 0 t ≡ end_of n t
  behind-end =
      ⊎_elim
      (λ h. behind-yes n 0 t (omega arith) ∙ (let q : 0 + length t ≡ length t = omega arith in q) ∙ sym (end-yes n t h))
      (λ h. behind-no n 0 t (omega arith) ∙ sym (end-no n t h))
      (either (length t) n)

-- AN AREA THAT WAS CLEARED and then written from its start holds the page of the text
pub wrote-laid : {n : ℕ} {a b : List ℕ} {r : ℕ} {s t : List ℕ} → a ≡ replicate n 0 → s ≡ t → Wrote a b 0 r s
    → Laid n b r t
wrote-laid {n} {a} {b} {r} {s} {t} e q w =
    let v = wrote_as w q in
    record {
      page = v.page ∙ ap (λ (l : List ℕ). written l 0 t) e ∙ written-page n t;
      place = v.place ∙ ap (λ (k : ℕ). behind k 0 t) (ap length e ∙ zeros n t) ∙ behind-end n t;
    }

-- ---- what the number that is answered says
module _ {n : ℕ} {a : List ℕ} {r : ℕ} {t : List ℕ} (w : Laid n a r t) where
  -- no more than the area's length: the text fits, and this is its length
  pub laid-fits : r ≤ n → (length t ≤ n) × (r ≡ length t) × (a ≡ filled 0 n t)
  laid-fits k =
      ⊎_elim (λ h. (h, w.place ∙ end-yes n t h, w.page ∙ page-yes n t h))
      (λ h. absurd (let e = w.place ∙ end-no n t h in omega arith))
      (either (length t) n)

  -- more: the text is too long, and the area is zero
  pub laid-long : n < r → (n < length t) × (r ≡ n + 1) × (a ≡ replicate n 0)
  laid-long k =
      ⊎_elim (λ h. absurd (let e = w.place ∙ end-yes n t h in omega arith))
      (λ h. (h, w.place ∙ end-no n t h, w.page ∙ page-no n t h))
      (either (length t) n)
