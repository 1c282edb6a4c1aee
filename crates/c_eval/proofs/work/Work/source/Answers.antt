use Rattle.std.proofs.Common.{◌∙◌, ap}
use Rattle.c_syntax.specs.View.{node_shape}
use Rattle.c_tables.specs.Tables.{tables_shape}
use Rattle.c_meaning.specs.Results.{then_do}
use Rattle.c_world.specs.World.{state_of}
use Rattle.c_eval.specs.declared.frame.Wait.TheVariants as wait
use Rattle.c_eval.specs.Rest.{Spot, waiting, left}
use Rattle.c_eval_once.specs.Parts.{place}
use Rattle.c_eval.proofs.work.Work.source.Goals as goal

pub returns-in_ok-step-in-None-clause-rest : goal.returns-in_ok-step-in-None-clause-rest
returns-in_ok-step-in-None-clause-rest c = λ k h.
    let t = tables_shape c.args.tables.now in
    c.in_ok-step-in-None.ensures.rest t k (state_of c.place_at_once.new.world h)
    ∙ ap (λ s. then_do (place t k (node_shape c.args.operand.now) s) (λ q s. waiting t k c.args.node.now (wait.Copy c.args.to) (left t k c.args.self.now) (Spot q) s)) (c.in-None.ensures.is k h)
