-- Counts in an area, number by number. Assumes nothing.
use mathlib.Core.Path.{◌≡◌, refl, sym, ◌∙◌}
use mathlib.Core.List.{List, [], ◌∷◌, ◌++◌}
use Prim.Native.Nat.{ℕ, zero, suc, ◌+◌, ◌-◌, ◌<◌, ◌≤◌}
use native.Mathlib.Omega.{arith}
use borrow.Author.Count.{below_more}
use lib.ListN.{length, get_or, set, replicate, length-set}
use lib.Seq.{ext_get_or, get_or-set_same, get_or-set_other}
use Rattle.definitions.specs.Lent.{filled}
use Rattle.theory.proofs.Areas.{length-filled}

-- zeros are read as what stands behind a list
zeros-at : (m j : ℕ) → ◌≡◌ {A = ℕ} (get_or (replicate m 0) j 0) 0
zeros-at zero j = refl
zeros-at (suc m) zero = refl
zeros-at (suc m) (suc j) = zeros-at m j

padded-at : (numbers : List ℕ) (m j : ℕ) → get_or (numbers ++ replicate m 0) j 0 ≡ get_or numbers j 0
padded-at [] m j = zeros-at m j
padded-at (x ∷ numbers) m zero = refl
padded-at (x ∷ numbers) m (suc j) = padded-at numbers m j

-- the first i numbers are laid
pub record Laying (numbers before now : List ℕ) (i : ℕ) : Type 0 where
  pub inside : i ≤ length before
  pub same : length now ≡ length before
  pub held : (j : ℕ) → j < i → get_or now j 0 ≡ get_or numbers j 0

module _ (numbers before : List ℕ) where
  -- none
  pub laying-start : Laying numbers before before 0
  laying-start = record { inside = omega arith; same = refl; held = λ j l. absurd (omega arith) }

  -- one more
  pub laying-turn : (now : List ℕ) (i r : ℕ) → Laying numbers before now i → r ≡ get_or numbers i 0 → i < length before
      → Laying numbers before (set now i r) (i + 1)
  laying-turn now i r L e h = record {
    inside = omega arith;
    same = simp length-set L.same;
    held = below_more _ i (λ j l. get_or-set_other now i j r 0 (λ q. omega arith) ∙ L.held j l)
        (get_or-set_same now i r 0 (omega (arith, L.same)) ∙ e);
  }

  -- all, and zeros behind them
  pub laying-end : (now : List ℕ) (i : ℕ) → Laying numbers before now i → length before ≤ i
      → length numbers ≤ length before → now ≡ filled 0 (length before) numbers
  unfolding filled
  laying-end now i L h k =
      ext_get_or 0 now (filled 0 (length before) numbers) (L.same ∙ sym (length-filled 0 (length before) numbers k))
      (λ j l. L.held j (omega (arith, L.same)) ∙ sym (padded-at numbers (length before - length numbers) j))
