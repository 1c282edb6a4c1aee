use Rattle.flow_leaves.proofs.Names as names
use Rattle.flow_leaves.proofs.sites.leaves_are_cell_names.Goals as goal

pub returns-clause-cells : goal.returns-clause-cells
returns-clause-cells c = names.cell_names_are_leaves

pub returns-clause-leaves : goal.returns-clause-leaves
returns-clause-leaves c = names.leaves_are_cell_names
