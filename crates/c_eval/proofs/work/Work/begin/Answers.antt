use Rattle.std.proofs.Common.{◌∙◌, ap, sym}
use Rattle.c_tables.specs.Tables.{tables_shape}
use Rattle.c_meaning.specs.Results.{then_do}
use Rattle.c_world.specs.World.{state_of}
use Rattle.c_eval.specs.Rest.{left, to_value}
use Rattle.c_eval_once.specs.Parts.{replied}
use Rattle.c_eval.proofs.Opened.{call_opens, reply_then}
use Rattle.c_eval.proofs.work.Work.begin.Goals as goal

pub returns-in_ok-step-in-Call-clause-rest : goal.returns-in_ok-step-in-Call-clause-rest
returns-in_ok-step-in-Call-clause-rest c = λ k h. c.in_ok-step-in-Call.ensures.rest k h ∙ call_opens (tables_shape c.args.tables.now) k c.args.node.now _ _ _ (state_of c.args.world.now h) (left (tables_shape c.args.tables.now) k c.args.self.now) c.in-Call.is c.deref.ensures.value

pub returns-in_ok-reply-in-Number-clause-rest : goal.returns-in_ok-reply-in-Number-clause-rest
returns-in_ok-reply-in-Number-clause-rest c = λ k h.
    let go = to_value (left (tables_shape c.args.tables.now) k c.args.self.now) in
    let s = state_of c.args.world.now h in
    c.reply.ensures.rest (tables_shape c.args.tables.now) k s ∙ reply_then (replied c.in_ok-reply-in-Number.reply s) go ∙ ap (λ r. then_do r go) (sym (c.in_ok-reply-in-Number.ensures.meets s _ (c.leaf.ensures (tables_shape c.args.tables.now) k s)))
