use Rattle.std.proofs.Common.{◌∙◌, ◌++◌, ◌∷◌, [], ap, map, drop}
use Rattle.c_syntax.specs.View.{note_shape, node_list, type_of}
use Rattle.c_tables.specs.Tables.{tables_shape}
use Rattle.c_meaning.specs.Firsts.{quiet}
use Rattle.c_meaning.specs.Results.{then_do}
use Rattle.c_meaning.specs.Builtins.{called}
use Rattle.c_meaning.specs.Expressions.{arguments}
use Rattle.c_world.specs.World.{state_of}
use Rattle.c_eval.specs.Rest.{left, to_value}
use Rattle.c_eval.proofs.Opened.{one_done}
use Rattle.c_eval.proofs.work.Work.take_argument.Goals as goal

pub returns-clause-rest : goal.returns-clause-rest
returns-clause-rest c = λ k h.
    let t = tables_shape c.args.tables.now in
    let n = note_shape c.args.node.now.note in
    let s = state_of c.args.world.now h in
    let go = to_value (left t k c.args.self.now) in
    let xs = node_list c.args.others.now in
    let ts = drop 1 (map type_of c.args.kinds.now) in
    c.in_ok-step.ensures.rest k h
    ∙ ap (λ us. then_do (then_do (arguments t k xs us (quiet 0) s) (λ vs. called t k n (c.push.new.self.items ++ vs))) go) c.behind_first.ensures
    ∙ ap (λ ys. then_do (then_do (arguments t k xs ts (quiet 0) s) (λ vs. called t k n (ys ++ vs))) go) (c.in-Ok.ensures.items ∙ ap (λ v. c.args.done.items ++ v ∷ []) c.parameter.ensures)
    ∙ one_done t k n (arguments t k xs ts (quiet 0) s) c.args.done.items _ go
