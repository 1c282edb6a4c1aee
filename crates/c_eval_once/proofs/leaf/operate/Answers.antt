use Rattle.std.proofs.Common.{◌∙◌}
use Rattle.c_syntax.specs.View.{note_shape, type_of}
use Rattle.c_eval_once.proofs.Told.{both_noted}
use Rattle.c_eval_once.proofs.leaf.operate.Goals as goal

pub returns-in-Some-Some : goal.returns-in-Some-Some
returns-in-Some-Some c = c.operated.ensures ∙ both_noted c.args.op (note_shape c.args.a.now.note) (note_shape c.args.b.now.note) (type_of c.in-Some-Some.j.now) (type_of c.in-Some-Some.k.now) c.args.left c.args.right c.in-Some-Some.ensures c.in-Some-Some.ensures'
