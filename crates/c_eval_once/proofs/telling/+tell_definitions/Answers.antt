use Rattle.std.proofs.Common.{◌∙◌, ap}
use Rattle.c_syntax.specs.Shape.{def}
use Rattle.c_syntax.specs.View.{node_shape}
use Rattle.c_meaning.specs.Places.{logs, log_def, marks}
use Rattle.c_world.specs.World.{state_of}
use Rattle.c_eval_once.specs.Forms.{told}
use Rattle.c_eval_once.proofs.Told.{probe_form, definition_marks, behind_marks, no_marks}
use Rattle.c_eval_once.proofs.telling.+tell_definitions.Goals as goal

pub returns-in_ok-told-in-Def-clause-told : goal.returns-in_ok-told-in-Def-clause-told
returns-in_ok-told-in-Def-clause-told n c = λ h go.
    let shape = probe_form c.args.node.now c.deref-in-Def.result.now c.in-Probe.probe c.in-Probe.inner c.in-Probe.is c.deref-in-Def.ensures in
    ap (λ xs. logs (log_def c.args.at) xs (state_of c.args.world.now h) go) (definition_marks c.args.node.now c.deref-in-Def.result.now c.in-Probe.probe c.in-Def.text shape c.in-Def.is)
    ∙ behind_marks (log_def c.args.at) (marks def (node_shape c.deref-in-Def.result.now)) c.in-Def.text c.in_ok-told-in-Def.told (state_of c.args.world.now h) (state_of c.tell_definitions-in-Def.new.world h) (state_of c.tell_definition.new.world h) go (λ go. c.in_ok-tell_definitions-in-Def.ensures.told h go ∙ ap (λ b. told b (state_of c.tell_definitions-in-Def.new.world h) go) c.if-branch.true) (c.in_ok-told-in-Def.ensures.told h)

pub returns-else-branch-clause-told : goal.returns-else-branch-clause-told
returns-else-branch-clause-told n c = λ h go.
    let shape = probe_form c.args.node.now c.deref-in-Def.result.now c.in-Probe.probe c.in-Probe.inner c.in-Probe.is c.deref-in-Def.ensures in
    ap (λ xs. logs (log_def c.args.at) xs (state_of c.args.world.now h) go) (definition_marks c.args.node.now c.deref-in-Def.result.now c.in-Probe.probe c.in-Def.text shape c.in-Def.is)
    ∙ no_marks (log_def c.args.at) (marks def (node_shape c.deref-in-Def.result.now)) c.in-Def.text (state_of c.args.world.now h) (state_of c.tell_definitions-in-Def.new.world h) go (λ go. c.in_ok-tell_definitions-in-Def.ensures.told h go ∙ ap (λ b. told b (state_of c.tell_definitions-in-Def.new.world h) go) c.if-branch.false)
