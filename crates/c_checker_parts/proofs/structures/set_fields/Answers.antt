use Rattle.std.proofs.Common.{sym, arith}
use Rattle.c_checker_parts.proofs.Rows.{fields_stay}
use Rattle.c_checker_parts.proofs.structures.set_fields.Goals as goal

pub returns-else-row-structures : goal.returns-else-row-structures
returns-else-row-structures c = sym (fields_stay _ _ _ (omega (arith, c.structures.ensures, c.saturating_sub-row.ensures, c.if-row-structures.false)))
