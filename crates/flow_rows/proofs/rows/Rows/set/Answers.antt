use Rattle.std.proofs.Common.{rules}
use Rattle.std.proofs.lemmas.List.{map-set}
use Rattle.flow_rows.proofs.rows.Rows.set.Goals as goal

pub returns-clause-row : goal.returns-clause-row
returns-clause-row c = search (rules, map-set)
