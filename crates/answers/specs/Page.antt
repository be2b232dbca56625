-- A text in a lent area (Specification 9.4), also where it is written piece by piece. Assumes nothing.
use Rattle.std.specs.Prelude.{◌≡◌, List, Bool, ℕ, ◌+◌, ◌-◌, length, replicate, leb, if◌then◌else◌}
use Rattle.std.proofs.Math.Seq.{paste}
use Rattle.definitions.specs.Lent.{filled}
use Rattle.vectors.specs.Areas.{LentMut}

-- ---- a whole text

-- an area of n bytes: the text at its start and zeros behind it, or zeros alone where the text is longer
unfoldable pub page_of : (n : ℕ) (text : List ℕ) → List ℕ
page_of n text = if leb (length text) n then filled 0 n text else replicate n 0

-- the length of the text, or one more than the area has where the text is longer
unfoldable pub end_of : (n : ℕ) (text : List ℕ) → ℕ
end_of n text = if leb (length text) n then length text else n + 1

-- the area of n bytes holds the text, and `end` is where the text ends
pub record Laid (n : ℕ) (area : List ℕ) (end : ℕ) (text : List ℕ) : Type 0 where
  pub page : area ≡ page_of n text
  pub place : end ≡ end_of n text

-- .. a lent area
abbrev pub LaidIn : (area : LentMut ℕ) (end : ℕ) (text : List ℕ) → Type 0
LaidIn area end text = Laid (length area.entry.now) area.exit.now end text

-- ---- a text behind others

-- the text is no longer than the room from the place `at` on, in an area of n bytes; past its end the empty text alone
abbrev pub fits : (n at : ℕ) (text : List ℕ) → Bool
fits n at text = leb (length text) (n - at)

-- the area with the text at a place, or all zeros where it does not fit
unfoldable pub written : (area : List ℕ) (at : ℕ) (text : List ℕ) → List ℕ
written area at text =
    if fits (length area) at text then paste area at text (length text) else replicate (length area) 0

-- the place behind the text, or one past the area where it does not fit
unfoldable pub behind : (n at : ℕ) (text : List ℕ) → ℕ
behind n at text = if fits n at text then at + length text else n + 1

-- the text was written at a place of the area `entry`, which is then `exit`, and `end` is the place behind it
pub record Wrote (entry exit : List ℕ) (at end : ℕ) (text : List ℕ) : Type 0 where
  pub page : exit ≡ written entry at text
  pub place : end ≡ behind (length entry) at text

-- .. of a lent area
abbrev pub WroteIn : (area : LentMut ℕ) (at end : ℕ) (text : List ℕ) → Type 0
WroteIn area at end text = Wrote area.entry.now area.exit.now at end text
