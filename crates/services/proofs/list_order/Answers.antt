-- `list_order` meets its contract: the parts of the areas that are lent hold what the file says. Assumes nothing.
use Rattle.definitions.specs.Refusals.{accepted}
use mathlib.Core.Path.{◌≡◌, sym}
use mathlib.Core.List.{List}
use Prim.Native.Nat.{ℕ, ◌*◌, ◌≤◌}
use native.Mathlib.Omega.{arith}
use lib.IntN.{ℤ}
use lib.ListN.{length}
use lib.Seq.{length-take-le}
use Rattle.definitions.specs.Limits.{cells, list_limit}
use Rattle.orders.specs.declared.Service.TheVariants.{List as ListService}
use Rattle.orders.specs.declared.Counts.{Counts}
use Rattle.orders.specs.Scan.{Few, scan_of}
use Rattle.orders.proofs.Commands.{accepted-order}
use Rattle.services.proofs.Serving.{order-read, list-serves}
use Rattle.services.proofs.list_order.Goals as goal

-- the counts of the file
few : (file : List ℕ) {k : Counts} → scan_of ListService file ≡ accepted k → Few k
few file {k} e = (accepted-order ListService file k e).readable.limited.few

-- its list fits in an area for any
fits : (file : List ℕ) {k : Counts} (list : List ℤ) → scan_of ListService file ≡ accepted k
    → list_limit * cells ≤ length list → list_limit * k.cells ≤ length list
fits file list e room = omega (arith, (few file e).cells-ok, room)

pub overflow_mul-l : goal.overflow_mul-l
overflow_mul-l c = omega (arith, (few _ c.requires.accepted).cells-ok)

pub overflow_mul-g : goal.overflow_mul-g
overflow_mul-g c = omega (arith, (few _ c.requires.accepted).cells-ok)

pub slice_bounds-list-end : goal.slice_bounds-list-end
slice_bounds-list-end c = sym (length-take-le _ _ c.requires.read.generators_fit)

pub slice_bounds-list-end-2 : goal.slice_bounds-list-end-2
slice_bounds-list-end-2 c = sym (length-take-le _ _ c.requires.read.exchanges_fit)

pub slice_bounds-list-end-3 : goal.slice_bounds-list-end-3
slice_bounds-list-end-3 c = sym (length-take-le _ _ c.requires.read.images_fit)

pub slice_bounds-list-end-4 : goal.slice_bounds-list-end-4
slice_bounds-list-end-4 c = fits _ _ c.requires.accepted c.requires.room

pub slice_bounds-list-end-5 : goal.slice_bounds-list-end-5
slice_bounds-list-end-5 c = sym (length-take-le _ _ (fits _ _ c.requires.accepted c.requires.room))

pub slice_bounds-group-end : goal.slice_bounds-group-end
slice_bounds-group-end c = omega (arith, (few _ c.requires.accepted).cells-ok)

pub slice_bounds-list-end-6 : goal.slice_bounds-list-end-6
slice_bounds-list-end-6 c =
    sym
    (length-take-le _ _ (omega (arith, (few _ c.requires.accepted).cells-ok)))

pub returns : goal.returns
returns c =
    let a = c.args in record {
      served = list-serves a.order.now a.c _ (few _ c.requires.accepted).cells-ok c.list.ensures.kept
          (order-read a.order.now a.c c.requires.read)
          (length-take-le _ _ (fits _ _ c.requires.accepted c.requires.room))
          (length-take-le _ _ (omega (arith, (few _ c.requires.accepted).cells-ok)));
    }
