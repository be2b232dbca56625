-- What stands at the places from one to before another. Assumes nothing.
use mathlib.Core.Path.{◌≡◌, refl, sym, ap, ap₂, ◌∙◌}
use mathlib.Core.List.{List, [], ◌∷◌, ◌++◌, map, map-append}
use Prim.Native.Nat.{ℕ, zero, suc, ◌+◌, ◌-◌, ◌≤◌, ◌<◌}
use native.Mathlib.Omega.{arith}
use lib.ListN.{length, drop, length-map}
use lib.Seq.{drop-drop}
use Rattle.definitions.specs.Lists.{range}
use Rattle.theory.proofs.Lists.{range_length}

-- one number more
range_last : (start count : ℕ) → range start (suc count) ≡ range start count ++ (start + count) ∷ []
unfolding range
range_last start zero =
    let e : start ≡ start + 0 = omega arith in
    ap (λ (n : ℕ). n ∷ []) e
range_last start (suc count) =
    let e : suc start + count ≡ start + suc count = omega arith in
    ap (λ (r : List ℕ). start ∷ r)
    (range_last (suc start) count ∙ ap (λ (n : ℕ). range (suc start) count ++ n ∷ []) e)

module _ {A : Type 0} (f : ℕ → A) where
  -- what f is from `from` to before `to`
  abbrev pub part : (from to : ℕ) → List A
  part from to = map f (range from (to - from))

  pub part_length : (from to : ℕ) → length (part from to) ≡ to - from
  part_length from to = length-map (range from (to - from)) f ∙ range_length from (to - from)

  pub part-first : (from to : ℕ) → from < to → part from to ≡ f from ∷ part (suc from) to
  unfolding range
  part-first from to h =
      let e : to - from ≡ suc (to - suc from) = omega arith in
      ap (λ (n : ℕ). map f (range from n)) e

  pub part-last : (from to : ℕ) → from ≤ to → part from (suc to) ≡ part from to ++ f to ∷ []
  part-last from to h =
      let e : suc to - from ≡ suc (to - from) = omega arith in
      let k : from + (to - from) ≡ to = omega arith in
      ap (λ (n : ℕ). map f (range from n)) e
      ∙ ap (map f) (range_last from (to - from))
      ∙ ap (λ (n : ℕ). map f (range from (to - from) ++ n ∷ [])) k
      ∙ map-append f (range from (to - from)) (to ∷ [])

  pub part-over : (from to : ℕ) → to ≤ from → part from to ≡ []
  unfolding range
  part-over from to h = let e : to - from ≡ 0 = omega arith in rw e

  pub part_none : (to : ℕ) → part to to ≡ []
  part_none to = part-over to to (omega arith)

  -- without the first ones
  pub part-drop : (k to : ℕ) → k ≤ to → drop k (part 0 to) ≡ part k to
  part-drop zero to h = refl
  part-drop (suc k) to h =
      let e : k + 1 ≡ suc k = omega arith in
      ap (λ (n : ℕ). drop n (part 0 to)) (sym e)
      ∙ sym (drop-drop 1 k (part 0 to))
      ∙ ap (drop 1) (part-drop k to (omega arith) ∙ part-first k to (omega arith))

-- two functions that agree there
pub part_same : {A : Type 0} {f g : ℕ → A} (from to : ℕ) → ((j : ℕ) → from ≤ j → j < to → f j ≡ g j) → part f from to ≡ part g from to
unfolding range
part_same {A} {f} {g} from to h = go from (to - from) (λ j a b. h j a (omega arith))
  where
    go : (start count : ℕ) → ((j : ℕ) → start ≤ j → j < start + count → f j ≡ g j) → map f (range start count) ≡ map g (range start count)
    go start zero k = refl
    go start (suc count) k = ap₂ ◌∷◌ (k start (omega arith) (omega arith)) (go (suc start) count (λ j a b. k j (omega arith) (omega arith)))
