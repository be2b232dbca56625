-- What an accepted file lends has the right sizes (Specification 7.3): on it no lent call meets 6 by its order.
-- Assumes nothing.
use Rattle.definitions.specs.Refusals.{accepted}
use mathlib.Core.Path.{◌≡◌, sym, ap, ap₂, ◌∙◌}
use mathlib.Core.Bool.{Bool, true, not, ◌&&◌, ◌||◌, or-true}
use mathlib.Core.List.{List}
use Prim.Native.Nat.{ℕ, ◌*◌, ◌/◌, ◌%◌, ◌≤◌}
use native.Mathlib.Decide.{dec_le}
use native.Mathlib.Nat.{mul-div_cancel, mul-mod_left, zero-mul}
use native.Mathlib.Omega.{arith}
use borrow.Author.Tests.{eq-eqb, le-leb}
use lib.Dec.{eqb, leb}
use lib.ListN.{length}
use Rattle.definitions.specs.Limits.{bare_limit}
use Rattle.definitions.specs.Lent.{is_bare, whole_rows, whole_rows_up_to}
use Rattle.definitions.specs.Refusals.{images_fit, order_fits}
use Rattle.orders.specs.declared.Service.{Service}
use Rattle.orders.specs.declared.Counts.{Counts}
use Rattle.orders.specs.Scan.{scan_of}
use Rattle.orders.specs.Operands.{exchanges_in, generators_in, images_in}
use Rattle.orders.proofs.Commands.{accepted-order}
use Rattle.orders.proofs.Numbers.{exchanges-count, generators-count, images-count}
use Rattle.promises.specs.Services.{order_in}

-- whole rows, not too many
rows_fit : (limit width count size : ℕ) → 1 ≤ width → size ≡ count * width → count ≤ limit
    → (whole_rows_up_to limit width size ≡ true) × (size / width ≡ count)
unfolding whole_rows_up_to whole_rows
rows_fit limit width count size some e few =
    let rest : size % width ≡ 0 = ap (λ (k : ℕ). k % width) e ∙ mul-mod_left count width in
    let rows : size / width ≡ count = ap (λ (k : ℕ). k / width) e ∙ mul-div_cancel count some in
    (ap₂ ◌&&◌ (eq-eqb (size % width) 0 rest) (le-leb (size / width) limit (omega (arith, rows))), rows)

module _ (v : Service) (file : List ℕ) (c : Counts) (e : scan_of v file ≡ accepted c) where
  abbrev generators : ℕ
  generators = length (generators_in file c)

  abbrev exchanges : ℕ
  exchanges = length (exchanges_in file c)

  -- no images, or one for each exchange and generator
  images-fit : generators / c.cells ≡ c.generators → exchanges / c.cells ≡ c.exchanges
      → images_fit (order_in file c) ≡ true
  unfolding images_fit is_bare
  images-fit gens exch =
      let A = accepted-order v file c e in
      let count = images-count v file c A in
      let due : ℕ = exchanges / c.cells * (generators / c.cells) * (generators / c.cells) in
      let fits : Bool = leb (generators / c.cells) bare_limit && eqb (length (images_in file c)) due in
      elim (dec_le 1 c.images) [
        | yes some ↦ (let few : generators / c.cells ≤ bare_limit = omega (arith, A.readable.limited.few.bare-ok some, gens) in
            let all : length (images_in file c) ≡ due =
            count ∙ ap (λ (k : ℕ). k * c.generators) (A.images-due some)
            ∙ (λ i. sym exch i * sym gens i * sym gens i) in
            ap (λ (b : Bool). not (is_bare (order_in file c)) || b) (ap₂ ◌&&◌ (le-leb _ bare_limit few) (eq-eqb _ due all))
            ∙ or-true (not (is_bare (order_in file c))))
        | no none ↦ (let zero : length (images_in file c) ≡ 0 = count ∙ ap (λ (k : ℕ). k * c.generators) (omega arith) ∙ zero-mul c.generators in
            ap (λ (b : Bool). not (not b) || fits) (eq-eqb _ 0 zero))
      ]

  -- THE ORDER OF AN ACCEPTED FILE has the sizes that 6 asks for
  pub file-fits : order_fits (order_in file c) ≡ true
  unfolding order_fits
  file-fits =
      let A = accepted-order v file c e in
      let L = A.readable.limited in
      let g = rows_fit _ c.cells c.generators generators L.some (generators-count v file c A) L.few.generators-ok in
      let x = rows_fit _ c.cells c.exchanges exchanges L.some (exchanges-count v file c A) L.few.exchanges-ok in
      ap₂ ◌&&◌ (ap₂ ◌&&◌ g.0 x.0) (images-fit g.1 x.1)
