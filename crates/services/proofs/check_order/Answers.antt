-- `check_order` meets its contract: the parts of the areas that are lent hold what the file says. Assumes nothing.
use Rattle.definitions.specs.Refusals.{accepted}
use mathlib.Core.Path.{◌≡◌, sym, ◌∙◌, ap}
use mathlib.Core.List.{List}
use Prim.Native.Nat.{ℕ, ◌*◌, ◌≤◌}
use native.Mathlib.Omega.{arith}
use lib.ListN.{take}
use lib.Seq.{length-take-le}
use Rattle.definitions.specs.Limits.{cells, generator_limit, list_limit}
use Rattle.orders.specs.declared.Service.TheVariants.{Check as CheckService}
use Rattle.orders.specs.declared.Counts.{Counts}
use Rattle.orders.specs.Scan.{Few, scan_of}
use Rattle.orders.specs.Operands.{coefficients_in, rows_in}
use Rattle.orders.proofs.Commands.{Accepted, accepted-order}
use Rattle.orders.proofs.Numbers.{coefficients-count, front, rows-count}
use Rattle.services.proofs.Rooms.{coefficients-room, rows-room}
use Rattle.services.proofs.Serving.{check-says, order-read}
use Rattle.services.proofs.check_order.Goals as goal

-- the file is accepted
found : {file : List ℕ} {k : Counts} → scan_of CheckService file ≡ accepted k → Accepted CheckService file k
found {file} {k} = accepted-order CheckService file k

few : (file : List ℕ) {k : Counts} → scan_of CheckService file ≡ accepted k → Few k
few file e = (found e).readable.limited.few

-- its rows and coefficients fit in areas for any
rows_fit : (file : List ℕ) {k : Counts} (size : ℕ) → scan_of CheckService file ≡ accepted k → size ≡ list_limit * cells
    → k.rows * k.cells ≤ size
rows_fit file {k} size e s = omega (arith, rows-room k (few file e), s)

coefficients_fit : (file : List ℕ) {k : Counts} (size : ℕ) → scan_of CheckService file ≡ accepted k
    → size ≡ list_limit * generator_limit → k.rows * k.generators ≤ size
coefficients_fit file {k} size e s = omega (arith, coefficients-room k (few file e), s)

pub overflow_mul-k : goal.overflow_mul-k
overflow_mul-k c = omega (arith, rows-room c.args.c (few _ c.requires.accepted))

pub overflow_mul-q : goal.overflow_mul-q
overflow_mul-q c = omega (arith, coefficients-room c.args.c (few _ c.requires.accepted))

pub overflow_mul-g : goal.overflow_mul-g
overflow_mul-g c = omega (arith, (few _ c.requires.accepted).cells-ok)

pub read_rows-requires : goal.read_rows-requires
read_rows-requires c = record { readable = (found c.requires.accepted).readable; room = omega (arith, rows-count CheckService c.args.order.now c.args.c (found c.requires.accepted), rows-room c.args.c (few _ c.requires.accepted)) }

pub read_coefficients-requires : goal.read_coefficients-requires
read_coefficients-requires c = record { readable = (found c.requires.accepted).readable; room = omega (arith, coefficients-count CheckService c.args.order.now c.args.c (found c.requires.accepted), coefficients-room c.args.c (few _ c.requires.accepted)) }

pub slice_bounds-check-end : goal.slice_bounds-check-end
slice_bounds-check-end c =
    sym
    (length-take-le _ _ c.requires.read.generators_fit)

pub slice_bounds-check-end-2 : goal.slice_bounds-check-end-2
slice_bounds-check-end-2 c =
    sym
    (length-take-le _ _ c.requires.read.exchanges_fit)

pub slice_bounds-check-end-3 : goal.slice_bounds-check-end-3
slice_bounds-check-end-3 c =
    sym
    (length-take-le _ _ c.requires.read.images_fit)

pub slice_bounds-rows-end : goal.slice_bounds-rows-end
slice_bounds-rows-end c = rows_fit _ _ c.requires.accepted c.read_rows.auto.area

pub slice_bounds-check-end-4 : goal.slice_bounds-check-end-4
slice_bounds-check-end-4 c = sym (length-take-le _ _ (rows_fit _ _ c.requires.accepted c.read_rows.auto.area))

pub slice_bounds-coefficients-end : goal.slice_bounds-coefficients-end
slice_bounds-coefficients-end c = coefficients_fit _ _ c.requires.accepted c.read_coefficients.auto.area

pub slice_bounds-check-end-5 : goal.slice_bounds-check-end-5
slice_bounds-check-end-5 c = sym (length-take-le _ _ (coefficients_fit _ _ c.requires.accepted c.read_coefficients.auto.area))

pub slice_bounds-group-end : goal.slice_bounds-group-end
slice_bounds-group-end c =
    omega
    (arith, (few _ c.requires.accepted).cells-ok)

pub slice_bounds-check-end-6 : goal.slice_bounds-check-end-6
slice_bounds-check-end-6 c =
    sym
    (length-take-le _ _ (omega (arith, (few _ c.requires.accepted).cells-ok)))

pub returns : goal.returns
returns c =
    let a = c.args in
    let h = found c.requires.accepted in record {
      served = check-says a.order.now a.c c.check.ensures.kept
          (order-read a.order.now a.c c.requires.read)
          (ap (take (a.c.rows * a.c.cells)) c.read_rows.ensures.read
          ∙ front _ (rows_in a.order.now a.c) (a.c.rows * a.c.cells) (rows-count CheckService a.order.now a.c h))
          (ap (take (a.c.rows * a.c.generators)) c.read_coefficients.ensures.read
          ∙ front _ (coefficients_in a.order.now a.c) (a.c.rows * a.c.generators) (coefficients-count CheckService a.order.now a.c h))
          (length-take-le _ _ (omega (arith, (few _ c.requires.accepted).cells-ok)));
    }
