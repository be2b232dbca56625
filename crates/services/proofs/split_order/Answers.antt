-- `split_order` meets its contract: the parts of the areas that are lent hold what the file says. Assumes nothing.
use Rattle.definitions.specs.Refusals.{accepted}
use mathlib.Core.Path.{◌≡◌, sym, ◌∙◌, ap}
use mathlib.Core.List.{List}
use Prim.Native.Nat.{ℕ, ◌≤◌}
use native.Mathlib.Omega.{arith}
use lib.ListN.{take}
use lib.Seq.{length-take-le}
use Rattle.definitions.specs.Limits.{cells}
use Rattle.orders.specs.declared.Service.TheVariants.{Split as SplitService}
use Rattle.orders.specs.declared.Counts.{Counts}
use Rattle.orders.specs.Scan.{scan_of}
use Rattle.orders.specs.Operands.{vector_in}
use Rattle.orders.proofs.Commands.{Accepted, accepted-order}
use Rattle.orders.proofs.Numbers.{front, vector-count}
use Rattle.services.proofs.Serving.{order-read, split-serves}
use Rattle.services.proofs.split_order.Goals as goal

-- the file is accepted
found : {file : List ℕ} {k : Counts} → scan_of SplitService file ≡ accepted k → Accepted SplitService file k
found {file} {k} = accepted-order SplitService file k

few : (file : List ℕ) {k : Counts} → scan_of SplitService file ≡ accepted k → k.cells ≤ cells
few file e = (found e).readable.limited.few.cells-ok

-- its vector fits in an area for any
vector_fits : (file : List ℕ) {k : Counts} (size : ℕ) → scan_of SplitService file ≡ accepted k → size ≡ cells
    → k.cells ≤ size
vector_fits file size e s = omega (arith, few file e, s)

pub overflow_mul-l : goal.overflow_mul-l
overflow_mul-l c = omega (arith, few _ c.requires.accepted)

pub overflow_mul-g : goal.overflow_mul-g
overflow_mul-g c = omega (arith, few _ c.requires.accepted)

pub read_vector-requires : goal.read_vector-requires
read_vector-requires c = record { readable = (found c.requires.accepted).readable; room = omega (arith, vector-count c.args.order.now c.args.c (found c.requires.accepted), few _ c.requires.accepted) }

pub slice_bounds-split-end : goal.slice_bounds-split-end
slice_bounds-split-end c =
    sym
    (length-take-le _ _ c.requires.read.generators_fit)

pub slice_bounds-split-end-2 : goal.slice_bounds-split-end-2
slice_bounds-split-end-2 c =
    sym
    (length-take-le _ _ c.requires.read.exchanges_fit)

pub slice_bounds-split-end-3 : goal.slice_bounds-split-end-3
slice_bounds-split-end-3 c =
    sym
    (length-take-le _ _ c.requires.read.images_fit)

pub slice_bounds-vector-end : goal.slice_bounds-vector-end
slice_bounds-vector-end c = vector_fits _ _ c.requires.accepted c.read_vector.auto.area

pub slice_bounds-split-end-4 : goal.slice_bounds-split-end-4
slice_bounds-split-end-4 c = sym (length-take-le _ _ (vector_fits _ _ c.requires.accepted c.read_vector.auto.area))

pub slice_bounds-list-end : goal.slice_bounds-list-end
slice_bounds-list-end c = omega (arith, few _ c.requires.accepted)

pub slice_bounds-split-end-5 : goal.slice_bounds-split-end-5
slice_bounds-split-end-5 c =
    sym
    (length-take-le _ _ (omega (arith, few _ c.requires.accepted)))

pub slice_bounds-group-end : goal.slice_bounds-group-end
slice_bounds-group-end c = omega (arith, few _ c.requires.accepted)

pub slice_bounds-split-end-6 : goal.slice_bounds-split-end-6
slice_bounds-split-end-6 c =
    sym
    (length-take-le _ _ (omega (arith, few _ c.requires.accepted)))

pub returns : goal.returns
returns c =
    let a = c.args in record {
      served = split-serves a.order.now a.c c.split.ensures.kept
          (order-read a.order.now a.c c.requires.read)
          (ap (take a.c.cells) c.read_vector.ensures.read
          ∙ front _ (vector_in a.order.now a.c) a.c.cells (vector-count a.order.now a.c (found c.requires.accepted)))
          (length-take-le _ _ (omega (arith, few _ c.requires.accepted)))
          (length-take-le _ _ (omega (arith, few _ c.requires.accepted)))
          c.requires.room;
    }
