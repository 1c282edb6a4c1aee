use Rattle.std.proofs.Common.{ap, ◌∙◌}
use Rattle.c_syntax.specs.declared.tree.Param.{out-Param}
use Rattle.c_syntax.specs.View.{param_shape, spec_list, declarator_shape}
use Rattle.c_syntax.proofs.Open.{param_open}
use Rattle.probe_in.proofs.Functions.{param_defined}
use Rattle.probe_in.proofs.defining.defined_param.Goals as goal

pub returns : goal.returns
returns c t f =
    let a = out-Param c.args.param.now in
    param_defined t f _ _ a.pos (spec_list a.specs.items) _ (declarator_shape a.name) _ (param_shape c.args.param.now) _ (param_open c.args.param.now) c.in_ok-made.ensures (c.in_ok-specs.ensures ∙ ap spec_list c.deref.ensures.value) (c.in_ok-name.ensures t f)
