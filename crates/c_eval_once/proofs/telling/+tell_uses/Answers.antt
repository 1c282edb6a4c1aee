use Rattle.std.proofs.Common.{◌∙◌, ap}
use Rattle.c_syntax.specs.Shape.{used}
use Rattle.c_syntax.specs.View.{node_shape}
use Rattle.c_meaning.specs.Places.{logs, log_use, marks}
use Rattle.c_world.specs.World.{state_of}
use Rattle.c_eval_once.specs.Forms.{told}
use Rattle.c_eval_once.proofs.Told.{probe_form, use_marks, behind_marks, no_marks}
use Rattle.c_eval_once.proofs.telling.+tell_uses.Goals as goal

pub returns-in_ok-told-in-Use-clause-told : goal.returns-in_ok-told-in-Use-clause-told
returns-in_ok-told-in-Use-clause-told n c = λ h go.
    let shape = probe_form c.args.node.now c.deref-in-Use.result.now c.in-Probe.probe c.in-Probe.inner c.in-Probe.is c.deref-in-Use.ensures in
    ap (λ xs. logs (log_use c.args.at) xs (state_of c.args.world.now h) go) (use_marks c.args.node.now c.deref-in-Use.result.now c.in-Probe.probe c.in-Use.text shape c.in-Use.is)
    ∙ behind_marks (log_use c.args.at) (marks used (node_shape c.deref-in-Use.result.now)) c.in-Use.text c.in_ok-told-in-Use.told (state_of c.args.world.now h) (state_of c.tell_uses-in-Use.new.world h) (state_of c.tell_use.new.world h) go (λ go. c.in_ok-tell_uses-in-Use.ensures.told h go ∙ ap (λ b. told b (state_of c.tell_uses-in-Use.new.world h) go) c.if-branch.true) (c.in_ok-told-in-Use.ensures.told h)

pub returns-else-branch-clause-told : goal.returns-else-branch-clause-told
returns-else-branch-clause-told n c = λ h go.
    let shape = probe_form c.args.node.now c.deref-in-Use.result.now c.in-Probe.probe c.in-Probe.inner c.in-Probe.is c.deref-in-Use.ensures in
    ap (λ xs. logs (log_use c.args.at) xs (state_of c.args.world.now h) go) (use_marks c.args.node.now c.deref-in-Use.result.now c.in-Probe.probe c.in-Use.text shape c.in-Use.is)
    ∙ no_marks (log_use c.args.at) (marks used (node_shape c.deref-in-Use.result.now)) c.in-Use.text (state_of c.args.world.now h) (state_of c.tell_uses-in-Use.new.world h) go (λ go. c.in_ok-tell_uses-in-Use.ensures.told h go ∙ ap (λ b. told b (state_of c.tell_uses-in-Use.new.world h) go) c.if-branch.false)
