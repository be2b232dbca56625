-- The two halves of a list area, written one after the other. Assumes nothing.
use mathlib.Core.Path.{◌≡◌, ◌∙◌, ap, ap₂}
use mathlib.Core.List.{List, [], ◌++◌, append-nil}
use Prim.Native.Nat.{ℕ, ◌+◌, ◌-◌}
use native.Mathlib.Omega.{arith}
use borrow.Rule.Slice.PartMut.{put_mid, post_of}
use lib.ListN.{length, take, drop, length-append, length-drop}
use lib.Seq.{take_all, take_at, length-take-le}
use Rattle.sessions.proofs.Differences.{nothing}

module _ {A : Type 0} (half : ℕ) (list : List A) (long : length list ≡ half + half) where
  -- the first half, as it is lent
  pub front_long : length (take half list) ≡ half
  front_long = length-take-le half list (omega (arith, long))

  module _ (front : List A) (fits : length front ≡ half) where
    abbrev once : List A
    once = front ++ drop half list

    pub once-long : length once ≡ half + half
    once-long = omega (arith, length-append front (drop half list), length-drop half list, long, fits)

    -- the second half, as it is lent then
    pub back_long : length (take (length once - half) (drop half once)) ≡ half
    back_long =
        ap length (take_all (length once - half) (drop half once) (omega (arith, length-drop half once)))
        ∙ (let e : length (drop half once) ≡ half = omega (arith, length-drop half once, once-long) in e)

    none-behind : post_of half (length once - half) once ≡ []
    none-behind =
        nothing (post_of half (length once - half) once)
        (omega (arith, length-drop (length once - half) (drop half once), length-drop half once))

    -- both are there in the end
    pub both_halves : (back : List A) → put_mid half (length once - half) once back ≡ front ++ back
    both_halves back =
        ap₂ (λ (a b : List A). a ++ (back ++ b)) (take_at front (drop half list) half fits) none-behind
        ∙ ap (λ (b : List A). front ++ b) (append-nil back)
