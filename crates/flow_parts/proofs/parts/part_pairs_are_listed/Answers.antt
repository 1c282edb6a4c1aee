use Rattle.flow_parts.proofs.Laws.{parts_are_sites, part_pairs_are_listed}
use Rattle.flow_parts.proofs.Positions.{covered_parts, covered_part_p_uses}
use Rattle.flow_parts.proofs.parts.part_pairs_are_listed.Goals as goal

pub returns-clause-sites : goal.returns-clause-sites
returns-clause-sites c = parts_are_sites

pub returns-clause-pairs : goal.returns-clause-pairs
returns-clause-pairs c = part_pairs_are_listed

pub returns-clause-covered : goal.returns-clause-covered
returns-clause-covered c = covered_parts

pub returns-clause-p_uses : goal.returns-clause-p_uses
returns-clause-p_uses c = covered_part_p_uses
