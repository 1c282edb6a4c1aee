use Rattle.std.proofs.Common.{sym, ◌∙◌}
use Rattle.std.proofs.lemmas.Result.{on_ok_weaker}
use Rattle.c_syntax.specs.View.{expr_shape}
use Rattle.flow_rows.proofs.Counting.{test_counted}
use Rattle.flow_rows.proofs.numbers.Numbers.test.Goals as goal

pub returns-else-is_logical : goal.returns-else-is_logical
returns-else-is_logical c =
    on_ok_weaker c.decision.result (λ d. test_counted _ _ c.args.node.now.pos (expr_shape c.args.node.now.form) (sym c.is_logical.ensures ∙ c.if-is_logical.false) d) c.decision.ensures
