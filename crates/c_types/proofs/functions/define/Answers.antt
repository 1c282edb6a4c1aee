use Rattle.std.proofs.Common.{sym, arith}
use Rattle.c_types.proofs.Rows.{definition_stays}
use Rattle.c_types.proofs.functions.define.Goals as goal

pub returns-else-row-functions : goal.returns-else-row-functions
returns-else-row-functions c = sym (definition_stays _ _ _ (omega (arith, c.functions.ensures, c.saturating_sub-row.ensures, c.if-row-functions.false)))
