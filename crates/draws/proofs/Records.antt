-- A record of a run stands as three numbers in an area. Assumes nothing.
use mathlib.Core.Path.{◌≡◌, ap, ◌∙◌}
use mathlib.Core.List.{List, []}
use Prim.Native.Nat.{ℕ, ◌+◌, ◌*◌, ◌/◌, ◌<◌}
use native.Mathlib.Nat.{add-zero}
use native.Mathlib.Omega.{arith}
use lib.IntN.{ℤ, pos}
use lib.ListN.{length, get_or, take, drop}
use Rattle.definitions.specs.declared.Draw.{Draw}
use Rattle.definitions.specs.Limits.{record_width}
use Rattle.definitions.specs.Lent.{rows_of}
use Rattle.definitions.specs.Window.{draw_of, draws_of}
use Rattle.theory.proofs.Lists.{get_d_map}
use Rattle.vectors.proofs.Kit.{row_at}
use Rattle.vectors.proofs.Rows.{rows_at, rows-count}

-- the record at a place of an area
abbrev pub draw_from : (records : List ℤ) (at : ℕ) → Draw
draw_from records at =
    record { row = get_or records at (pos 0); position = get_or records (at + 1) (pos 0); sign = get_or records (at + 2) (pos 0) }

-- three numbers of an area are the record there
draw-part : (records : List ℤ) (at : ℕ) → draw_of (take record_width (drop at records)) ≡ draw_from records at
unfolding draw_of
draw-part records at =
    let number : (j : ℕ) → j < record_width → get_or (take record_width (drop at records)) j (pos 0) ≡ get_or records (at + j) (pos 0) =
    λ j h. row_at records at record_width j h in
    rw (number 0 (omega arith), number 1 (omega arith), number 2 (omega arith), add-zero at)

-- record i
pub draw-from : (records : List ℤ) (i : ℕ) → i < length records / record_width
    → get_or (draws_of records) i (draw_of []) ≡ draw_from records (i * record_width)
unfolding draws_of
draw-from records i h =
    get_d_map draw_of (rows_of record_width records) i [] (draw_of []) (omega (arith, rows-count record_width records))
    ∙ ap draw_of (rows_at record_width i records h)
    ∙ draw-part records (i * record_width)
