use Rattle.std.proofs.Common.{ap, ◌∙◌}
use Rattle.c_syntax.specs.Shape.{switch}
use Rattle.c_syntax.specs.View.{node_shape, item_list}
use Rattle.c_syntax.proofs.Open.{switch_open}
use Rattle.c_parse_stmt.proofs.forms.switch_form.Goals as goal

pub returns : goal.returns
returns c = switch_open c.into_inner.result c.args.items ∙ ap (λ n. switch (node_shape n) (item_list c.args.items.items)) c.into_inner.ensures
