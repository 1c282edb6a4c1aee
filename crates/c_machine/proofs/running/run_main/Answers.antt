use Rattle.std.proofs.lemmas.Result.{err_from_is_err_and}
use Rattle.std.proofs.Common.{◌∙◌, ap, sym, subst, rules}
use Rattle.c_tree.specs.declared.program.Program.{Program}
use Rattle.c_meaning.specs.Runs.{all_made, silent}
use Rattle.c_meaning.specs.Sources.{source_of}
use Rattle.c_world.specs.World.{state_of, answered}
use Rattle.c_eval.specs.Advance.{Grown}
use Rattle.c_machine.specs.Todo.{knot_of}
use Rattle.c_machine.proofs.Runs.{main_grown, main_stops, main_none, main_goes, same_grown}
use Rattle.c_machine.proofs.running.run_main.Goals as goal

pub returns-in_err-why-clause-front : goal.returns-in_err-why-clause-front
returns-in_err-why-clause-front g c = let p = err_from_is_err_and c.from_residual.result c.from_residual.ensures.1 in rw p.1 (λ l.
    let w = c.in_err-why.ensures.front l in
    let s = state_of c.args.world.now l in
    (w.0, w.1, main_grown (source_of c.args.plan.now.program.now) w.0 s (subst (λ (q : Program). Grown w.0 (all_made (source_of q) silent s)) c.requires.program w.2)))

pub returns-in-Some-clause-done : goal.returns-in-Some-clause-done
returns-in-Some-clause-done g c = λ l.
    let P = source_of c.args.plan.now.program.now in
    let k = knot_of c.args.plan.now.program.now in
    let w = c.in_ok-why.ensures.done l in
    let s = state_of c.args.world.now l in
    let u = state_of c.make_all.new.world w.0 in
    (w.0, w.1, main_stops P k s u c.in-Some.why (ap (λ (q : Program). all_made (source_of q) silent s) (sym c.requires.program) ∙ w.2 ∙ ap (λ o. answered o u) c.in-Some.is))

pub returns-in_default-main_number-clause-done : goal.returns-in_default-main_number-clause-done
returns-in_default-main_number-clause-done g c = λ l.
    let P = source_of c.args.plan.now.program.now in
    let k = knot_of c.args.plan.now.program.now in
    let w = c.in_ok-why.ensures.done l in
    let s = state_of c.args.world.now l in
    let u = state_of c.make_all.new.world w.0 in
    (w.0, w.1, main_none P k s u (ap (λ (q : Program). all_made (source_of q) silent s) (sym c.requires.program) ∙ w.2 ∙ ap (λ o. answered o u) c.in_default.is) (search rules))

pub returns-in_err-ended-clause-front : goal.returns-in_err-ended-clause-front
returns-in_err-ended-clause-front g c = let p = err_from_is_err_and c.from_residual-in_err-ended.result c.from_residual-in_err-ended.ensures.1 in rw p.1 (λ l.
    let P = source_of c.args.plan.now.program.now in
    let k = knot_of c.args.plan.now.program.now in
    let w = c.in_ok-why.ensures.done l in
    let s = state_of c.args.world.now l in
    let u = state_of c.make_all.new.world w.0 in
    let v = c.in_err-ended.ensures.front w.0 in
    (v.0, (λ h at. v.1 h (w.1 h at)), same_grown v.0 _ _ (main_goes P k s u c.in-Some-main_number.function (ap (λ (q : Program). all_made (source_of q) silent s) (sym c.requires.program) ∙ w.2 ∙ ap (λ o. answered o u) c.in_default.is) (search rules)) v.2))

pub returns-clause-done : goal.returns-clause-done
returns-clause-done g c = λ l.
    let P = source_of c.args.plan.now.program.now in
    let k = knot_of c.args.plan.now.program.now in
    let w = c.in_ok-why.ensures.done l in
    let s = state_of c.args.world.now l in
    let u = state_of c.make_all.new.world w.0 in
    let v = c.in_ok-ended.ensures.done w.0 in
    (v.0, (λ h at. v.1 h (w.1 h at)), main_goes P k s u c.in-Some-main_number.function (ap (λ (q : Program). all_made (source_of q) silent s) (sym c.requires.program) ∙ w.2 ∙ ap (λ o. answered o u) c.in_default.is) (search rules) ∙ v.2)
