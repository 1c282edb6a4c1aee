use Rattle.flow_parts.proofs.Named.{definitions_are_parts, uses_are_parts}
use Rattle.flow_parts.proofs.sited.local_sites_are_parts.Goals as goal

pub returns-clause-definitions : goal.returns-clause-definitions
returns-clause-definitions c = definitions_are_parts

pub returns-clause-uses : goal.returns-clause-uses
returns-clause-uses c = uses_are_parts
