use Rattle.std.proofs.Common.{◌-◌, length, arith, vec_len}
use Rattle.std.proofs.lemmas.Grind.{common_steps}
use Rattle.c_lex.proofs.Marks.{all_closed}
use Rattle.c_lex.proofs.scan.close.Goals as goal

pub returns-in-Ok : goal.returns-in-Ok
returns-in-Ok c = all_closed c.args.rows (length c.args.opened.now.items) (c.args.rows - vec_len c.args.opened.now) c.args.opened.now.items c.resize.new.self.items c.requires (grind (arith, common_steps)) c.in-Ok.ensures.items
