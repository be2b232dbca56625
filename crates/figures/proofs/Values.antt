-- The numbers that are chosen from the values of a window, as one value leaves it and another comes in. Assumes nothing.
use mathlib.Core.Path.{◌≡◌, refl, sym, ap, ◌∙◌}
use mathlib.Core.Logic.{◌⊎◌, inl, inr}
use mathlib.Core.Bool.{Bool, true, false, cond, ◌||◌}
use mathlib.Core.List.{List, [], ◌∷◌, ◌++◌}
use Prim.Native.Nat.{ℕ, suc, ◌+◌, ◌-◌, ◌^◌, ◌≤◌, ◌<◌}
use native.Mathlib.Nat.{add-zero, le_trans, mul-le-mul_right, zero-add}
use native.Mathlib.Omega.{arith}
use lib.Dec.{eqb, ltb, leb-suc-suc}
use lib.IntN.{ℤ, pos, negsuc}
use lib.Signed.{lt_z, mag}
use borrow.Author.Tests.{eqb-true, eqb-false, ltb-true, ltb-false, lt-ltb, le-ltb}
use mir.Syntax.{w32}
use mir.Val.{hbits, of_z}
use Rattle.std.specs.Int.{int_max, int_min}
use Rattle.std.proofs.lemmas.Int.{ints}
use Rattle.definitions.specs.declared.View.{View}
use Rattle.definitions.specs.Vector.{equal, equal_cell}
use Rattle.definitions.specs.Window.{answer_width, chosen, chosen_from, larger, lesser}
use Rattle.theory.proofs.Cell.{down, up}
use Rattle.theory.proofs.Equal.{same-equal}
use Rattle.theory.proofs.Tests.{and-true-left, clash, or-false-left, or-false-right}
use Rattle.vectors.proofs.Cells.{equal-no, equal-yes, read_back}
use Rattle.figures.specs.declared.Extremes.{Extremes}
use Rattle.figures.specs.Window.{Rows, is_stale, value_in}
use Rattle.figures.proofs.Parts.{part, part-first, part_none}

-- ---- a choice from two numbers

-- it can be grouped either way, and it is one of them
pub record Choice (choose : ℤ → ℤ → ℤ) : Type 0 where
  pub grouped : (a b c : ℤ) → choose a (choose b c) ≡ choose (choose a b) c
  pub one : (a b : ℤ) → (choose a b ≡ a) ⊎ (choose a b ≡ b)

-- the second, where it precedes the first
abbrev pub second : (precedes : ℤ → ℤ → Bool) (a b : ℤ) → ℤ
second precedes a b = cond (precedes b a) b a

-- `precedes`, and its failing, goes on from one to the next
abbrev GoesOn : (precedes : ℤ → ℤ → Bool) (answer : Bool) → Type 0
GoesOn precedes answer = (a b c : ℤ) → precedes a b ≡ answer → precedes b c ≡ answer → precedes a c ≡ answer

module _ (precedes : ℤ → ℤ → Bool) (on : (answer : Bool) → GoesOn precedes answer) where
  second-choice : Choice (second precedes)
  second-choice = record { grouped = λ a b c. groups a b c (precedes c b) (precedes b a) refl refl; one = λ a b. picks a b (precedes b a) }
    where
      groups : (a b c : ℤ) (p q : Bool) → precedes c b ≡ p → precedes b a ≡ q
          → second precedes a (second precedes b c) ≡ second precedes (second precedes a b) c
      groups a b c true true e f = simp (e, f, on true c b a e f)
      groups a b c true false e f = simp (e, f)
      groups a b c false true e f = simp (e, f)
      groups a b c false false e f = simp (e, f, on false c b a e f)

      picks : (a b : ℤ) (p : Bool) → (cond p b a ≡ a) ⊎ (cond p b a ≡ b)
      picks a b true = inr refl
      picks a b false = inl refl

-- two numbers compared, by their positive and negative parts
less-is : (x y : ℤ) → lt_z x y ≡ ltb (up x + down y) (up y + down x)
less-is (pos a) (pos b) = simp add-zero
less-is (pos a) (negsuc b) = sym (le-ltb (a + suc b) 0 (omega arith))
less-is (negsuc a) (pos b) = sym (lt-ltb 0 (b + suc a) (omega arith))
less-is (negsuc a) (negsuc b) = simp (zero-add, leb-suc-suc)

less-yes : (x y : ℤ) → lt_z x y ≡ true → up x + down y < up y + down x
less-yes x y h = ltb-true _ _ (sym (less-is x y) ∙ h)

less-no : (x y : ℤ) → lt_z x y ≡ false → up y + down x ≤ up x + down y
less-no x y h = ltb-false _ _ (sym (less-is x y) ∙ h)

less-on : (answer : Bool) → GoesOn lt_z answer
less-on true a b c h k = less-is a c ∙ lt-ltb (up a + down c) (up c + down a) (omega (arith, less-yes a b h, less-yes b c k))
less-on false a b c h k = less-is a c ∙ le-ltb (up a + down c) (up c + down a) (omega (arith, less-no a b h, less-no b c k))

pub lesser-choice : Choice lesser
unfolding lesser
lesser-choice = second-choice lt_z less-on

pub larger-choice : Choice larger
unfolding larger
larger-choice = second-choice (λ a b. lt_z b a) (λ answer a b c h k. less-on answer c b a k h)

-- the machine's own choices are these
pub min-is : (x y : ℤ) → int_min x y ≡ lesser x y
unfolding lesser
min-is x y = refl

pub max-is : (x y : ℤ) → int_max x y ≡ larger x y
unfolding larger
max-is x y = grind (arith, ints)

-- ---- numbers of a window

module _ (choose : ℤ → ℤ → ℤ) where
  -- one more in front
  chosen-front : (x : ℤ) (numbers : List ℤ) (v : ℤ) → chosen choose (x ∷ (numbers ++ v ∷ [])) ≡ choose x (chosen choose (numbers ++ v ∷ []))
  unfolding chosen chosen_from
  chosen-front x [] v = refl
  chosen-front x (y ∷ numbers) v = refl

  -- one alone
  chosen-alone : (v : ℤ) → chosen choose (v ∷ []) ≡ v
  unfolding chosen chosen_from
  chosen-alone v = refl

module _ {choose : ℤ → ℤ → ℤ} (choice : Choice choose) where
  -- one more behind
  chosen-behind : (x : ℤ) (numbers : List ℤ) (v : ℤ) → choose (chosen choose (x ∷ numbers)) v ≡ chosen choose (x ∷ (numbers ++ v ∷ []))
  unfolding chosen chosen_from
  chosen-behind x [] v = refl
  chosen-behind x (y ∷ numbers) v = sym (choice.grouped x (chosen choose (y ∷ numbers)) v) ∙ ap (choose x) (chosen-behind y numbers v)

  -- the first leaves, which was not chosen
  chosen-left : (x y : ℤ) (numbers : List ℤ) → ¬ (x ≡ chosen choose (x ∷ y ∷ numbers)) → chosen choose (x ∷ y ∷ numbers) ≡ chosen choose (y ∷ numbers)
  unfolding chosen chosen_from
  chosen-left x y numbers h = go (choice.one x (chosen choose (y ∷ numbers)))
    where
      go : (chosen choose (x ∷ y ∷ numbers) ≡ x) ⊎ (chosen choose (x ∷ y ∷ numbers) ≡ chosen choose (y ∷ numbers))
          → chosen choose (x ∷ y ∷ numbers) ≡ chosen choose (y ∷ numbers)
      go (inl e) = absurd (h (sym e))
      go (inr e) = e

  -- the first leaves, and one more comes behind
  chosen-moved : (x : ℤ) (numbers : List ℤ) (v : ℤ) → ¬ (x ≡ chosen choose (x ∷ numbers)) → choose (chosen choose (x ∷ numbers)) v ≡ chosen choose (numbers ++ v ∷ [])
  unfolding chosen chosen_from
  chosen-moved x [] v h = absurd (h refl)
  chosen-moved x (y ∷ numbers) v h = ap (λ (z : ℤ). choose z v) (chosen-left x y numbers h) ∙ chosen-behind y numbers v

module _ {choose : ℤ → ℤ → ℤ} (choice : Choice choose) (f : ℕ → ℤ) (v : ℤ) where
  -- one more behind; and the first leaves
  grown : (from to : ℕ) → from < to → choose (chosen choose (part f from to)) v ≡ chosen choose (part f from to ++ v ∷ [])
  grown from to h = rw (part-first f from to h) (chosen-behind choice (f from) (part f (suc from) to) v)

  moved : (from to : ℕ) → from < to → ¬ (f from ≡ chosen choose (part f from to))
      → choose (chosen choose (part f from to)) v ≡ chosen choose (part f (suc from) to ++ v ∷ [])
  moved from to h k =
      let e = part-first f from to h in
      rw e (chosen-moved choice (f from) (part f (suc from) to) v (rw e at k))

  -- e is chosen from the `width` numbers before number i, and the first of them leaves, if there is one more
  pub window-moved : (width i : ℕ) (e : ℤ) → 1 ≤ width → 1 ≤ i → e ≡ chosen choose (part f (i - width) i) → (width ≤ i → ¬ (f (i - width) ≡ e))
      → choose e v ≡ chosen choose (part f (suc i - width) i ++ v ∷ [])
  window-moved width i e wide some told stays = rw told (go (ltb i width) refl)
    where
      go : (t : Bool) → ltb i width ≡ t → choose (chosen choose (part f (i - width) i)) v ≡ chosen choose (part f (suc i - width) i ++ v ∷ [])
      go true q =
          let h = ltb-true i width q in
          let s : suc i - width ≡ i - width = omega arith in
          rw s (grown (i - width) i (omega arith))
      go false q =
          let h = ltb-false i width q in
          let s : suc i - width ≡ suc (i - width) = omega arith in
          rw s (moved (i - width) i (omega arith) (λ k. stays h (k ∙ sym told)))

-- the window is read from its end
module _ (choose : ℤ → ℤ → ℤ) (f : ℕ → ℤ) (v : ℤ) where
  pub read_none : (to : ℕ) → v ≡ chosen choose (part f to to ++ v ∷ [])
  read_none to = rw (part_none f to, chosen-alone choose v)

  pub read_more : (j to : ℕ) (x e : ℤ) → 1 ≤ j → j ≤ to → x ≡ f (j - 1) → e ≡ chosen choose (part f j to ++ v ∷ [])
      → choose x e ≡ chosen choose (part f (j - 1) to ++ v ∷ [])
  read_more j to x e some within read told =
      let s : suc (j - 1) ≡ j = omega arith in
      rw (read, told, part-first f (j - 1) to (omega arith), s) (sym (chosen-front choose (f (j - 1)) (part f j to) v))

-- ---- rows and bits

-- of so many answer rows, fewer are there too
pub fewer-rows : (view : View) (answers : List ℤ) (few many : ℕ) → few ≤ many → Rows view answers many → Rows view answers few
fewer-rows view answers few many h rows = le_trans (mul-le-mul_right {m = few} {n = many} (answer_width view.n) h) rows

-- the bits are compared
pub same_bits : (a b : ℤ) → mag a < 2 ^ hbits w32 → mag b < 2 ^ hbits w32 → eqb (of_z w32 a) (of_z w32 b) ≡ equal_cell a b
same_bits a b ha hb = go (eqb (of_z w32 a) (of_z w32 b)) refl
  where
    go : (t : Bool) → eqb (of_z w32 a) (of_z w32 b) ≡ t → t ≡ equal_cell a b
    go true e = sym (equal-yes a b (read_back a ha) (read_back b hb) (eqb-true _ _ e))
    go false e = sym (equal-no a b (eqb-false _ _ e))

-- ---- extremes that still tell

-- a value that is found different is different
differs : (x y : ℤ) → equal_cell x y ≡ false → ¬ (x ≡ y)
unfolding equal
differs x y h e = clash (and-true-left (equal_cell x x) true (same-equal (x ∷ []))) (ap (equal_cell x) e ∙ h)

-- the window has a value, and none of the extremes leaves it
pub record Telling (x : ℤ) (width i : ℕ) (e : Extremes) : Type 0 where
  pub some : 1 ≤ i
  pub smallest : width ≤ i → ¬ (x ≡ e.smallest)
  pub largest : width ≤ i → ¬ (x ≡ e.largest)

module _ (view : View) (answers : List ℤ) (i : ℕ) (e : Extremes) where
  abbrev leaving : ℤ
  leaving = value_in view answers (i - view.width)

  pub telling : {answer : Bool} → answer ≡ is_stale view answers i e → answer ≡ false → Telling leaving view.width i e
  telling told h = go (eqb i 0) (ltb i view.width) refl refl (sym told ∙ h)
    where
      go : (p q : Bool) → eqb i 0 ≡ p → ltb i view.width ≡ q
          → cond p true (cond q false (equal_cell leaving e.smallest || equal_cell leaving e.largest)) ≡ false → Telling leaving view.width i e
      go true q a b k = clash refl k
      go false true a b k =
          let l = ltb-true i view.width b in
          record { some = omega (arith, eqb-false i 0 a); smallest = λ m. absurd (omega arith); largest = λ m. absurd (omega arith) }
      go false false a b k =
          record {
            some = omega (arith, eqb-false i 0 a);
            smallest = λ m. differs leaving e.smallest (or-false-left (equal_cell leaving e.smallest) (equal_cell leaving e.largest) k);
            largest = λ m. differs leaving e.largest (or-false-right (equal_cell leaving e.smallest) (equal_cell leaving e.largest) k);
          }
