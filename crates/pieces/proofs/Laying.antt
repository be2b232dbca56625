-- Pieces written to an area, one after the other (Specification 4.1). Assumes nothing.
use mathlib.Core.Path.{◌≡◌, refl, sym, ap, ap₂, ◌∙◌}
use mathlib.Core.Bool.{Bool, cond}
use mathlib.Core.List.{List, [], ◌∷◌, ◌++◌, map, append_assoc, append-nil}
use Prim.Native.Nat.{ℕ, suc, ◌+◌, ◌-◌, ◌*◌, ◌/◌, ◌≤◌, ◌<◌}
use native.Mathlib.Nat.{add-zero, suc-mul, le-div_iff_mul-le}
use native.Mathlib.Omega.{arith}
use borrow.Author.Tests.{lt-ltb}
use lib.IntN.{ℤ, pos}
use lib.ListN.{length, drop, replicate, length-append, length-replicate, replicate-append-replicate}
use lib.Seq.{paste, take_all, take_at, drop_at}
use Rattle.definitions.specs.Limits.{piece_width}
use Rattle.definitions.specs.Lists.{concat}
use Rattle.definitions.specs.Split.{Piece, written}
use Rattle.definitions.specs.Lent.{filled}
use Rattle.theory.proofs.Areas.{length-filled}
use Rattle.pieces.specs.Taking.{laid, with_numbers}

-- the pieces of one list, and then those of another
pub laid-append : (area : List ℤ) (count : ℕ) (pieces others : List Piece)
    → laid area count (pieces ++ others) ≡ laid (laid area count pieces) (count + length pieces) others
unfolding laid
laid-append area count [] others = ap (λ (k : ℕ). laid area k others) (sym (add-zero count))
laid-append area count (piece ∷ pieces) others =
    let next = with_numbers area count (written piece) in
    let e : suc count + length pieces ≡ count + suc (length pieces) = omega arith in
    laid-append next (suc count) pieces others ∙ ap (λ (k : ℕ). laid (laid next (suc count) pieces) k others) e

-- ---- one piece, with room for it
module _ (area : List ℤ) (count : ℕ) (numbers : List ℤ) where
  abbrev pasted : List ℤ
  pasted = paste area (count * piece_width) numbers piece_width

  pub with-room : count < length area / piece_width → pasted ≡ with_numbers area count numbers
  with-room h = ap (λ (b : Bool). cond b pasted area) (sym (lt-ltb count (length area / piece_width) h))

-- ---- an area that had zeros behind its numbers

-- numbers pasted where the zeros begin
paste-filled : (size : ℕ) (front numbers : List ℤ) (at n : ℕ) → length front ≡ at → length numbers ≡ n → at + n ≤ size
    → paste (filled (pos 0) size front) at numbers n ≡ filled (pos 0) size (front ++ numbers)
unfolding filled
paste-filled size front numbers at n e f h =
    ap₂ (λ (x y : List ℤ). x ++ y ++ drop (at + n) held)
    (take_at front (replicate (size - length front) (pos 0)) at e) (take_all n numbers (omega arith))
    ∙ ap (λ (x : List ℤ). front ++ numbers ++ drop (at + n) x) room
    ∙ ap (λ (x : List ℤ). front ++ numbers ++ x) (drop_at (front ++ replicate n (pos 0)) behind (at + n) long)
  where
    held : List ℤ
    held = front ++ replicate (size - length front) (pos 0)

    left : ℕ
    left = size - length (front ++ numbers)

    behind : List ℤ
    behind = replicate left (pos 0)

    room : held ≡ (front ++ replicate n (pos 0)) ++ behind
    room =
        let k : size - length front ≡ n + left = omega (arith, length-append front numbers) in
        ap (λ (k : ℕ). front ++ replicate k (pos 0)) k
        ∙ ap (λ (x : List ℤ). front ++ x) (sym (replicate-append-replicate n left (pos 0)))
        ∙ sym (append_assoc front (replicate n (pos 0)) behind)

    long : length (front ++ replicate n (pos 0)) ≡ at + n
    long = omega (arith, length-append front (replicate n (pos 0)), length-replicate n (pos 0))

-- the pieces of a list after those that the area holds
pub laid_filled : (size : ℕ) (held : List ℤ) (count : ℕ) (pieces : List Piece)
    → length held ≡ count * piece_width → (count + length pieces) * piece_width ≤ size
    → laid (filled (pos 0) size held) count pieces ≡ filled (pos 0) size (held ++ concat (map written pieces))
unfolding laid concat written
laid_filled size held count [] e h = ap (filled (pos 0) size) (sym (append-nil held))
laid_filled size held count (piece ∷ pieces) e h =
    let next = held ++ written piece in
    let before = filled (pos 0) size held in
    let long : length before ≡ size = length-filled (pos 0) size held (omega (arith, suc-mul count piece_width)) in
    let enough : suc count * piece_width ≤ length before = omega arith in
    let wide : 0 < piece_width = omega arith in
    let room : count < length before / piece_width = (le-div_iff_mul-le wide).1 enough in
    ap (λ (x : List ℤ). laid x (suc count) pieces)
    (sym (with-room before count (written piece) room)
    ∙ paste-filled size held (written piece) (count * piece_width) piece_width e refl (omega arith))
    ∙ laid_filled size next (suc count) pieces (omega (arith, length-append held (written piece))) (omega arith)
    ∙ ap (filled (pos 0) size) (append_assoc held (written piece) (concat (map written pieces)))
