use Rattle.c_ordered.proofs.Ordering as ordering
use Rattle.c_ordered.proofs.laws.items_are_parts.Goals as goal

pub returns-clause-blocks : goal.returns-clause-blocks
returns-clause-blocks c = ordering.blocks_are_parts

pub returns-clause-decisions : goal.returns-clause-decisions
returns-clause-decisions c = ordering.decisions_are_parts
