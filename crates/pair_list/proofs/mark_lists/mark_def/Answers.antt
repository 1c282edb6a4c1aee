use Rattle.pair_list.proofs.Making.{def_some}
use Rattle.pair_list.proofs.mark_lists.mark_def.Goals as goal

pub returns-in_ok-mark_names-in-Some : goal.returns-in_ok-mark_names-in-Some
returns-in_ok-mark_names-in-Some c = def_some c.args.sites.now c.args.function c.args.d c.in-Some.variable c.def-def.result.now c.args.marks.now.items c.mark_names.new.marks.items (c.requires.0, c.def-def.ensures) c.if-def-function.false c.in-Some.is c.in_ok-mark_names-in-Some.ensures
