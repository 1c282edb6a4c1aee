use Rattle.std.proofs.Common.{refl}
use Rattle.pair_list.proofs.Making.{names_more}
use Rattle.pair_list.proofs.mark_lists.mark_names.Goals as goal

pub loop-i-preserved : goal.loop-i-preserved
loop-i-preserved c = names_more c.args.sites.now c.args.def c.args.variable c.loop-i.i c.args.names.now c.args.marks.now.items c.loop-i.marks.items c.push_mark.new.marks.items (record { def = c.args.def; variable = c.args.variable; name = c.get-name.result; strong = c.is_strong-strong.result }) c.loop-i.invariant c.get-name.ensures refl refl c.is_strong-strong.ensures c.in_ok-push_mark.ensures
