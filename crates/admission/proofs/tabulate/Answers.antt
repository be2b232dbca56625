-- `tabulate` meets its contract, case by case. Assumes nothing.
use Rattle.std.proofs.Common.{rules, length, arith}
use Rattle.definitions.specs.Limits.{group_limit}
use Rattle.definitions.specs.Lent.{exchanges_of, group_rows, table_of}
use Rattle.definitions.specs.Refusals.{fault_if, first_fault, symmetry_fault, unless_fault}
use Rattle.group.specs.Answer.{area_of, members_of}
use Rattle.theory.proofs.Accepted.{cells-none, numbers-none}
use Rattle.admission.proofs.Tests.{rows_inside}
use Rattle.admission.proofs.tabulate.Goals as goal

pub rows_up_to-limit-requires : goal.rows_up_to-limit-requires
rows_up_to-limit-requires c = record { some = (cells-none _ c.requires.numbered.cells_pass).least }

pub group_table-built-requires-clause-areas : goal.group_table-built-requires-clause-areas
group_table-built-requires-clause-areas c =
    let d = cells-none _ c.requires.numbered.cells_pass in record {
      some = d.least;
      most = d.most;
      few = omega arith;
      room = rw c.rows_up_to-limit.ensures.counted (rows_inside group_limit c.args.n (length c.args.group.now));
    }

pub group_table-built-requires-clause-valid : goal.group_table-built-requires-clause-valid
unfolding exchanges_of
group_table-built-requires-clause-valid c = (numbers-none _ c.requires.numbered.numbers_pass).exchanges

pub returns-in_err-g : goal.returns-in_err-g
unfolding table_of group_rows exchanges_of symmetry_fault first_fault fault_if unless_fault members_of area_of
returns-in_err-g c = search rules

pub returns-in_err-lattice_fault : goal.returns-in_err-lattice_fault
unfolding table_of group_rows exchanges_of symmetry_fault first_fault fault_if unless_fault members_of area_of
returns-in_err-lattice_fault c = search rules

pub returns : goal.returns
unfolding table_of group_rows exchanges_of symmetry_fault first_fault fault_if unless_fault members_of area_of
returns c = search rules
