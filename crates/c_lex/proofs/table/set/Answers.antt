use Rattle.std.proofs.Common.{◌∙◌, ap}
use Rattle.c_lex.specs.Macros.{rows_of}
use Rattle.c_lex.proofs.Tables.{set_entry}
use Rattle.c_lex.proofs.table.set.Goals as goal

pub returns-in-Ok : goal.returns-in-Ok
returns-in-Ok c = ap rows_of c.in-Ok.ensures.entries ∙ set_entry c.args.name c.args.body c.args.table.now.entries
