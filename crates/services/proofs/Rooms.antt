-- What an accepted file lends fits in areas for any order (Specification 6). Assumes nothing.
use Rattle.definitions.specs.Refusals.{accepted}
use mathlib.Core.Path.{◌≡◌, subst⁻¹}
use mathlib.Core.List.{List}
use Prim.Native.Nat.{ℕ, ◌*◌, ◌≤◌}
use native.Mathlib.Decide.{dec_le}
use native.Mathlib.Nat.{mul-le-mul, zero-mul}
use native.Mathlib.Omega.{arith}
use lib.IntN.{ℤ}
use lib.ListN.{length}
use Rattle.definitions.specs.Limits.{bare_limit, cells, exchange_limit, generator_limit, list_limit}
use Rattle.orders.specs.declared.Service.{Service}
use Rattle.orders.specs.declared.Counts.{Counts}
use Rattle.orders.specs.Scan.{Few, scan_of}
use Rattle.orders.proofs.Commands.{accepted-order}
use Rattle.orders.proofs.Numbers.{exchanges-count, generators-count, images-count}
use Rattle.services.specs.Answered.{OrderFits}

module _ (c : Counts) (h : Few c) where
  -- the generators
  pub generators-room : c.generators * c.cells ≤ generator_limit * cells
  generators-room = mul-le-mul h.generators-ok h.cells-ok

  -- the exchanges
  pub exchanges-room : c.exchanges * c.cells ≤ exchange_limit * cells
  exchanges-room = mul-le-mul h.exchanges-ok h.cells-ok

  -- the images of a bare order
  pub images-room : c.images * c.generators ≤ exchange_limit * bare_limit * bare_limit
  images-room =
      elim (dec_le 1 c.images) [
        | yes some ↦ (let few = h.bare-ok some in
            let most : c.images ≤ exchange_limit * bare_limit = omega (arith, h.images-ok, mul-le-mul h.exchanges-ok few) in
            mul-le-mul most few)
        | no none ↦ (let zero : c.images ≡ 0 = omega arith in
            subst⁻¹ (λ (k : ℕ). k * c.generators ≤ exchange_limit * bare_limit * bare_limit) zero (omega (arith, zero-mul c.generators)))
      ]

  -- the brought rows
  pub rows-room : c.rows * c.cells ≤ list_limit * cells
  rows-room = mul-le-mul h.rows_ok h.cells-ok

  -- their coefficients
  pub coefficients-room : c.rows * c.generators ≤ list_limit * generator_limit
  coefficients-room = mul-le-mul h.rows_ok h.generators-ok

-- and so do the generators, the exchanges and the images of an accepted file
pub order-fits : (v : Service) (file : List ℕ) (c : Counts) {generators : List ℤ} {exchanges : List ℕ} {images : List ℤ}
    → scan_of v file ≡ accepted c → generator_limit * cells ≤ length generators
    → exchange_limit * cells ≤ length exchanges → exchange_limit * bare_limit * bare_limit ≤ length images
    → OrderFits file c generators exchanges images
order-fits v file c e g x i =
    let A = accepted-order v file c e in
    record {
      readable = A.readable;
      generators_count = generators-count v file c A;
      exchanges_count = exchanges-count v file c A;
      images_count = images-count v file c A;
      generators_fit = g;
      exchanges_fit = x;
      images_fit = i;
    }
