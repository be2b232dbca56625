-- What the areas show after an answer row is written behind `i` others. Assumes nothing.
use mathlib.Core.Path.{◌≡◌, refl, sym, ap, ap₂, ◌∙◌}
use mathlib.Core.List.{List, [], ◌∷◌, ◌++◌, map}
use Prim.Native.Nat.{ℕ, suc, ◌+◌, ◌-◌, ◌*◌, ◌≤◌, ◌<◌}
use native.Mathlib.Nat.{suc-mul}
use native.Mathlib.Omega.{arith}
use lib.IntN.{ℤ, pos}
use lib.ListN.{length, get_or, take, drop, get_or-append}
use lib.Seq.{drop_at, get_or-drop, get_or-take, length-take-le, take-add, take_at, take-take}
use Rattle.definitions.specs.declared.View.{View}
use Rattle.definitions.specs.Lists.{range}
use Rattle.definitions.specs.Vector.{Vector, padded}
use Rattle.definitions.specs.Window.{Visit, answer_row, answer_width, chosen, different, larger, last_of, lesser, value_of}
use Rattle.theory.proofs.Lists.{row-end}
use Rattle.theory.proofs.Rows.{short-padded}
use Rattle.vectors.proofs.Kit.{length-row}
use Rattle.figures.specs.declared.Extremes.{Extremes}
use Rattle.figures.specs.Window.{Counted, Rows, Spans, Viewable, row_in, rows_in, value_in, values_in}
use Rattle.figures.proofs.Parts.{part, part-drop, part-last, part_length, part_same}
use Rattle.figures.proofs.Rows.{different-few}
use Rattle.draws.specs.Draws.{Filled}
use Rattle.draws.specs.Run.{Answers, visit_in, visits_in}

-- ---- areas that begin alike
module _ {A : Type 0} where
  -- a part of an area's beginning
  cut : (at n : ℕ) (xs : List A) → at ≤ length xs → drop at (take (at + n) xs) ≡ take n (drop at xs)
  cut at n xs h = ap (drop at) (take-add at n xs) ∙ drop_at (take at xs) (take n (drop at xs)) at (length-take-le at xs h)

  module _ (area area' : List A) (m : ℕ) (same : take m area' ≡ take m area) where
    same_at : (d : A) (p : ℕ) → p < m → get_or area' p d ≡ get_or area p d
    same_at d p h = sym (get_or-take m area' p d h) ∙ ap (λ (l : List A). get_or l p d) same ∙ get_or-take m area p d h

    same-part : (at n : ℕ) → at + n ≤ m → m ≤ length area → m ≤ length area' → take n (drop at area') ≡ take n (drop at area)
    same-part at n h l l' =
        let front : take (at + n) area' ≡ take (at + n) area = sym (take-take (at + n) m area' h) ∙ ap (take (at + n)) same ∙ take-take (at + n) m area h in
        sym (cut at n area' (omega arith)) ∙ ap (drop at) front ∙ cut at n area (omega arith)

-- ---- the last of a part
map-part : {A B : Type 0} (g : A → B) (f : ℕ → A) (from to : ℕ) → map g (part f from to) ≡ part (λ j. g (f j)) from to
map-part {A} {B} g f from to = go (range from (to - from))
  where
    go : (l : List ℕ) → map g (map f l) ≡ map (λ j. g (f j)) l
    go [] = refl
    go (j ∷ l) = ap (λ (r : List B). g (f j) ∷ r) (go l)

-- all of the first `count`
pub visits-part : (view : View) (records answers : List ℤ) (count : ℕ) → visits_in view records answers count ≡ part (visit_in view records answers) 0 count
visits-part view records answers count =
    let e : count ≡ count - 0 = omega arith in
    ap (λ (k : ℕ). map (visit_in view records answers) (range 0 k)) e

last-part : {A : Type 0} (f : ℕ → A) (width m : ℕ) → last_of width (part f 0 m) ≡ part f (m - width) m
unfolding last_of
last-part f width m =
    let e : m - 0 - width ≡ m - width = omega arith in
    ap (λ (k : ℕ). drop (k - width) (part f 0 m)) (part_length f 0 m)
    ∙ ap (λ (k : ℕ). drop k (part f 0 m)) e
    ∙ part-drop f (m - width) m (omega arith)

-- the value of the chosen cell, as an area shows it
value-shown : (view : View) (records answers : List ℤ) (j : ℕ) → Viewable view → j * answer_width view.n + view.n ≤ length answers
    → value_of view.cell (visit_in view records answers j) ≡ value_in view answers j
unfolding value_of padded
value-shown view records answers j viewable room =
    let row = take view.n (drop (j * answer_width view.n) answers) in
    let long : length row ≡ view.n = length-row answers (j * answer_width view.n) view.n room in
    let c : view.cell - 1 < view.n = omega (arith, viewable.first, viewable.last) in
    get_or-append row _ (pos 0) (view.cell - 1) (omega (arith, long, c))
    ∙ get_or-take view.n (drop (j * answer_width view.n) answers) (view.cell - 1) (pos 0) c
    ∙ get_or-drop (j * answer_width view.n) answers (view.cell - 1) (pos 0)

-- a window has no more rows than records
pub counted-few : (records : List ℤ) (width i : ℕ) {area : List ℕ} {count : ℕ} → Counted records width i area count → count ≤ width
counted-few records width i c =
    let numbers = rows_in records (i - width) i in
    omega (arith, c.counted, different-few numbers, part_length (row_in records) (i - width) i)

-- ---- row i is written
module _ (view : View) (records answers answers' : List ℤ) (i : ℕ) (table : Vector) (numbers : List ℤ) (viewable : Viewable view)
    (room : Rows view answers (suc i)) (same : length answers' ≡ length answers) (filled : Filled view.n table)
    (written : take (i * answer_width view.n + answer_width view.n) answers' ≡ take (i * answer_width view.n) answers ++ (take view.n table ++ numbers)) where
  abbrev n : ℕ
  n = view.n

  abbrev w : ℕ
  w = answer_width n

  -- there is room for it
  roomy : i * w + w ≤ length answers
  roomy = omega (arith, suc-mul i w, room)

  -- and for each before it, with all that it shows
  inside : (j : ℕ) → j < i → j * w + w ≤ i * w
  inside j h = row-end j i w h

  kept : take (i * w) answers' ≡ take (i * w) answers
  kept =
      sym (take-take (i * w) (i * w + w) answers' (omega arith)) ∙ ap (take (i * w)) written
      ∙ take_at (take (i * w) answers) (take n table ++ numbers) (i * w) (length-take-le (i * w) answers (omega (arith, roomy)))

  row_is : take w (drop (i * w) answers') ≡ take n table ++ numbers
  row_is =
      sym (cut (i * w) w answers' (omega (arith, roomy, same))) ∙ ap (drop (i * w)) written
      ∙ drop_at (take (i * w) answers) (take n table ++ numbers) (i * w) (length-take-le (i * w) answers (omega (arith, roomy)))

  table_is : take n (drop (i * w) answers') ≡ take n table
  table_is =
      sym (take-take n w (drop (i * w) answers') (omega arith)) ∙ ap (take n) row_is
      ∙ take_at (take n table) numbers n (length-take-le n table (omega (arith, filled.long, viewable.narrow)))

  pub visit-is : visit_in view records answers' i ≡ record { row = row_in records i; reached = table }
  visit-is = ap (λ (v : Vector). record { row = row_in records i; reached = v }) (ap padded table_is ∙ short-padded n table viewable.narrow filled.long filled.short)

  pub visit-kept : (j : ℕ) → j < i → visit_in view records answers' j ≡ visit_in view records answers j
  visit-kept j h =
      ap (λ (row : List ℤ). record { row = row_in records j; reached = padded row })
      (same-part answers answers' (i * w) kept (j * w) n (omega (arith, inside j h)) (omega (arith, roomy)) (omega (arith, roomy, same)))

  value-kept : (j : ℕ) → j < i → value_in view answers' j ≡ value_in view answers j
  value-kept j h = same_at answers answers' (i * w) kept (pos 0) (j * w + (view.cell - 1)) (omega (arith, inside j h, viewable.first, viewable.last))

  value-is : value_in view answers' i ≡ get_or table (view.cell - 1) (pos 0)
  value-is =
      let c : view.cell - 1 < n = omega (arith, viewable.first, viewable.last) in
      sym (get_or-drop (i * w) answers' (view.cell - 1) (pos 0))
      ∙ sym (get_or-take n (drop (i * w) answers') (view.cell - 1) (pos 0) c)
      ∙ ap (λ (l : List ℤ). get_or l (view.cell - 1) (pos 0)) table_is
      ∙ get_or-take n table (view.cell - 1) (pos 0) c

  abbrev from : ℕ
  from = suc i - view.width

  -- the values of the window, as they were before, and the new one
  pub values-are : values_in view answers' from (suc i) ≡ values_in view answers from i ++ get_or table (view.cell - 1) (pos 0) ∷ []
  values-are =
      part-last (value_in view answers') from i (omega (arith, viewable.some))
      ∙ ap₂ (λ (l : List ℤ) (x : ℤ). l ++ x ∷ []) (part_same from i (λ j a b. value-kept j b)) value-is

  abbrev window : List Visit
  window = last_of view.width (visits_in view records answers' (suc i))

  window-is : window ≡ part (visit_in view records answers') from (suc i)
  window-is = ap (last_of view.width) (visits-part view records answers' (suc i)) ∙ last-part (visit_in view records answers') view.width (suc i)

  window-values : map (value_of view.cell) window ≡ values_in view answers' from (suc i)
  window-values =
      ap (map (value_of view.cell)) window-is ∙ map-part (value_of view.cell) (visit_in view records answers') from (suc i)
      ∙ part_same from (suc i) (λ j a b. value-shown view records answers' j viewable (omega (arith, roomy, same, row-end j (suc i) w b, suc-mul i w)))

  window-rows : map (λ (visit : Visit). visit.row) window ≡ rows_in records from (suc i)
  window-rows = ap (map (λ (visit : Visit). visit.row)) window-is ∙ map-part (λ (visit : Visit). visit.row) (visit_in view records answers') from (suc i)

  -- THE ROW IS THAT OF THE WINDOW, READ AFRESH
  pub row-answers : {e : Extremes} {count : ℕ} → Spans (values_in view answers from i ++ get_or table (view.cell - 1) (pos 0) ∷ []) e → count ≡ different (rows_in records from (suc i))
      → numbers ≡ e.smallest ∷ e.largest ∷ pos count ∷ [] → Answers view records answers answers' i table
  unfolding answer_row
  row-answers {e} {count} spans counted numbered = record {
    reached = visit-is;
    row =
        ap (λ (k : ℕ). take k answers') (suc-mul i w) ∙ written
        ∙ ap (λ (l : List ℤ). take (i * w) answers ++ l)
        (ap₂ (λ (v : Vector) (l : List ℤ). take n v ++ l) (sym (ap (λ (visit : Visit). visit.reached) visit-is)) (numbered ∙ three));
  }
    where
      values : values_in view answers from i ++ get_or table (view.cell - 1) (pos 0) ∷ [] ≡ map (value_of view.cell) window
      values = sym (window-values ∙ values-are)

      three : e.smallest ∷ e.largest ∷ pos count ∷ []
          ≡ chosen lesser (map (value_of view.cell) window) ∷ chosen larger (map (value_of view.cell) window) ∷ pos (different (map (λ (visit : Visit). visit.row) window)) ∷ []
      three =
          ap₂ (λ (a b : ℤ). a ∷ b ∷ pos count ∷ []) (spans.smallest ∙ ap (chosen lesser) values) (spans.largest ∙ ap (chosen larger) values)
          ∙ ap (λ (k : ℕ). chosen lesser (map (value_of view.cell) window) ∷ chosen larger (map (value_of view.cell) window) ∷ pos k ∷ []) (counted ∙ ap different (sym window-rows))

  -- the figures of the next window
  pub values-shown : {e : Extremes} → Spans (values_in view answers from i ++ get_or table (view.cell - 1) (pos 0) ∷ []) e → Spans (values_in view answers' from (suc i)) e
  values-shown spans = record { smallest = spans.smallest ∙ ap (chosen lesser) (sym values-are); largest = spans.largest ∙ ap (chosen larger) (sym values-are) }
