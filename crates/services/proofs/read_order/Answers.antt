-- `read_order` meets its contract: what is read fits, and stands at the start. Assumes nothing.
use mathlib.Core.Path.{ap, ◌∙◌}
use Prim.Native.Nat.{◌*◌, ◌≤◌}
use native.Mathlib.Omega.{arith}
use lib.ListN.{length, take}
use Rattle.orders.specs.Operands.{exchanges_in, generators_in, images_in}
use Rattle.orders.proofs.Numbers.{front}
use Rattle.services.proofs.Rooms.{exchanges-room, generators-room, images-room}
use Rattle.services.proofs.read_order.Goals as goal

pub read_generators-requires : goal.read_generators-requires
read_generators-requires c = record { readable = c.requires.fits.readable; room = omega (arith, c.requires.fits.generators_count, c.requires.fits.generators_fit, generators-room c.args.c c.requires.fits.readable.limited.few) }

pub read_exchanges-requires : goal.read_exchanges-requires
read_exchanges-requires c = record { readable = c.requires.fits.readable; room = omega (arith, c.requires.fits.exchanges_count, c.requires.fits.exchanges_fit, exchanges-room c.args.c c.requires.fits.readable.limited.few) }

pub read_images-requires : goal.read_images-requires
read_images-requires c = record { readable = c.requires.fits.readable; room = omega (arith, c.requires.fits.images_count, c.requires.fits.images_fit, images-room c.args.c c.requires.fits.readable.limited.few) }

pub returns : goal.returns
returns c =
    let a = c.args in
    let h = c.requires.fits.readable.limited.few in
    let g = c.read_generators in
    let e = c.read_exchanges in
    let i = c.read_images in
    let gs : a.c.generators * a.c.cells ≤ length a.generators.now =
    omega (arith, c.requires.fits.generators_fit, generators-room a.c h) in
    let es : a.c.exchanges * a.c.cells ≤ length a.exchanges.now =
    omega (arith, c.requires.fits.exchanges_fit, exchanges-room a.c h) in
    let is : a.c.images * a.c.generators ≤ length a.images.now =
    omega (arith, c.requires.fits.images_fit, images-room a.c h) in record {
      read = record {
        generators_fit = omega (arith, gs, g.auto.area);
        exchanges_fit = omega (arith, es, e.auto.area);
        images_fit = omega (arith, is, i.auto.area);
        generators_are =
            ap (take (a.c.generators * a.c.cells)) g.ensures.read
            ∙ front a.generators.now (generators_in a.order.now a.c) (a.c.generators * a.c.cells)
            c.requires.fits.generators_count;
        exchanges_are =
            ap (take (a.c.exchanges * a.c.cells)) e.ensures.read
            ∙ front a.exchanges.now (exchanges_in a.order.now a.c) (a.c.exchanges * a.c.cells)
            c.requires.fits.exchanges_count;
        images_are =
            ap (take (a.c.images * a.c.generators)) i.ensures.read
            ∙ front a.images.now (images_in a.order.now a.c) (a.c.images * a.c.generators)
            c.requires.fits.images_count;
      };
    }
