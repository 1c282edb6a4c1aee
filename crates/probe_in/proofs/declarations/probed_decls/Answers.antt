use Rattle.std.proofs.Common.{ap, ◌∙◌, arith}
use Rattle.probe_expr.specs.Numbers.{counts}
use Rattle.probe_expr.proofs.Listing.{one_more, ended}
use Rattle.probe_in.proofs.Lists.{decls}
use Rattle.probe_in.proofs.declarations.probed_decls.Goals as goal

pub loop-decl-preserved : goal.loop-decl-preserved
loop-decl-preserved c t c' w h =
    one_more (decls t c') _ _ _ _ _ _ c.args.decls.now c.loop-decl.decl-index w c.in_ok-put.ensures c.loop-decl-test.true c.decl-item.is (λ v e. c.in_ok-one.ensures t c' v e) (c.loop-decl.invariant t c' w h)

pub returns : goal.returns
returns c t c' w h =
    let p = ended (decls t c') _ _ c.args.decls.now c.loop-decl.decl-index w (omega arith) (c.loop-decl.invariant t c' w h) in
    (p.2, ap counts p.3 ∙ p.1)
