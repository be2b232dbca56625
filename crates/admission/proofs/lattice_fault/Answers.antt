-- `lattice_fault` meets its contract: 23 where images are sent, else 11. Assumes nothing.
use Rattle.std.proofs.Common.{rules, arith}
use Rattle.definitions.specs.Limits.{entry_limit}
use Rattle.definitions.specs.Lent.{exchanges_of, generators_of, is_bare}
use Rattle.definitions.specs.Refusals.{lattice_fault}
use Rattle.theory.proofs.Accepted.{cells-none, numbers-none}
use Rattle.theory.proofs.Bounds.{each_within, within_more}
use Rattle.vectors.specs.Bounds.{headroom}
use Rattle.admission.proofs.lattice_fault.Goals as goal

pub leaving_fault-requires : goal.leaving_fault-requires
unfolding exchanges_of
leaving_fault-requires c =
    let d = cells-none _ c.requires.numbered.cells_pass in
    let fit = numbers-none _ c.requires.numbered.numbers_pass in
    record { cells = (d.least, d.most); bounded = each_within headroom (within_more (omega arith) fit.limited); valid = fit.exchanges }

pub returns-then-images-eq0 : goal.returns-then-images-eq0
unfolding lattice_fault is_bare generators_of exchanges_of
returns-then-images-eq0 c = search rules

pub images_fault-requires : goal.images_fault-requires
unfolding is_bare exchanges_of
images_fault-requires c =
    let d = cells-none _ c.requires.numbered.cells_pass in
    let fit = numbers-none _ c.requires.numbered.numbers_pass in
    let sized = c.requires.numbered.sized in
    let bare = sized.bare (search rules) in record {
      cells = (d.least, d.most);
      valid = fit.exchanges;
      sizes = record { bounded = record { entries = each_within entry_limit fit.limited; few = sized.generators }; few = bare.few; exchanges_few = sized.exchanges; one_each = bare.one_each };
    }

pub returns : goal.returns
unfolding lattice_fault is_bare generators_of exchanges_of
returns c = search rules
