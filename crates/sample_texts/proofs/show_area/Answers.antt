-- `show_area` is safe: its rows lie within the area, and what it prints within its text. Assumes nothing.
use native.Mathlib.Nat.{div-mul-le_self}
use Rattle.sample_texts.proofs.show_area.Goals as goal

pub put_rows-rows-requires : goal.put_rows-rows-requires
put_rows-rows-requires c = record { rows = div-mul-le_self _ _ }
