use Rattle.std.proofs.Common.{ap, ◌∙◌}
use Rattle.c_syntax.specs.declared.tree.Compound.{out-Compound}
use Rattle.c_syntax.specs.Shape.{defined}
use Rattle.c_syntax.specs.View.{external_shape, spec_list, declarator_shape, decl_list, item_list, compound_shape}
use Rattle.c_syntax.proofs.Open.{compound_open}
use Rattle.probe_in.proofs.Functions.{function_probed}
use Rattle.probe_in.proofs.unit.probed_function.Goals as goal

pub returns : goal.returns
returns c t =
    let a = out-Compound c.args.body.now in
    let name = ap (λ d. defined (spec_list c.in_ok-specs.specs.items) (declarator_shape d) c.in_ok-marks.marks.items (compound_shape c.in_ok-body.body)) c.into_inner.ensures in
    function_probed t _ _ _ _ _ _ _ _ _ _ _ _ _ a.pos (decl_list a.decls.items) (item_list a.items.items) _ (compound_shape c.args.body.now) _ (ap external_shape c.in_ok-made.ensures ∙ name) c.in_ok-specs.ensures (c.in_ok-name.ensures t) c.in_ok-mark.ensures c.in_ok-marks.ensures c.in_ok-block.ensures (c.in_ok-body.ensures t) (compound_open c.args.body.now)
