use Rattle.std.proofs.Common.{◌∙◌, ap, sym}
use Rattle.c_syntax.specs.View.{node_shape}
use Rattle.c_tables.specs.Tables.{tables_shape}
use Rattle.c_meaning.specs.Results.{then_do}
use Rattle.c_world.specs.World.{state_of}
use Rattle.c_eval.specs.Rest.{left, to_value}
use Rattle.c_eval_once.specs.Parts.{value}
use Rattle.c_eval.specs.Forms.{passed_value}
use Rattle.c_eval.proofs.work.Work.open.Goals as goal

pub returns-in_ok-step-in-None-clause-rest : goal.returns-in_ok-step-in-None-clause-rest
returns-in_ok-step-in-None-clause-rest c = λ k h.
    let t = tables_shape c.args.tables.now in
    let go = to_value (left t k c.pass.new.self) in
    c.in_ok-step-in-None.ensures.rest k h
    ∙ ap (λ s. then_do (value t k (node_shape c.in-Node.node.now) s) go) (c.in-None.ensures.is k h)
    ∙ ap (λ r. then_do (passed_value t k r (state_of c.pass.new.world h)) go) (sym c.in-Node.is)
    ∙ c.in_ok-why.ensures.rest t k h
