use Rattle.c_syntax.specs.View.{note_shape, expr_shape}
use Rattle.c_walk.specs.Items.{both}
use Rattle.c_walk.specs.Walked.{with_site}
use Rattle.flow_walks.specs.Comes.{evaluated}
use Rattle.flow_walks.specs.Expressions.{read_form}
use Rattle.flow_rows.specs.Laying.{ways}
use Rattle.flow_rows.specs.View.{rows_of}
use Rattle.flow_rows.proofs.Joins.{fill_placed}
use Rattle.flow_rows.proofs.nodes.lay_name.Goals as goal

pub returns : goal.returns
returns c =
    let a = c.args.node.now in
    fill_placed (rows_of c.args.out.now.rows) (rows_of c.read_out.new.rows) (rows_of c.fill.new.self) c.args.out.now.numbers c.site.new.self c.args.at c.in_ok-behind.behind
    (λ w k. read_form c.args.taken (note_shape a.note) (expr_shape a.form) w (evaluated both (ways k c.args.to))) (λ around w. with_site around c.args.taken a.pos (note_shape a.note) (expr_shape a.form) w)
    c.in_ok-behind.ensures.grown c.in_ok-behind.ensures.led c.in_ok-site.ensures c.in_ok-fill.ensures.grown c.in_ok-fill.ensures.laid
