use Rattle.std.proofs.Common.{◌∙◌, ◌-◌, ◌++◌, [], ap, sym, subst, append-nil, refl}
use Rattle.std.proofs.lemmas.Result.{err_from_is_err_and}
use Rattle.c_tables.specs.Tables.{tables_shape}
use Rattle.c_tree.specs.declared.program.Program.{Program}
use Rattle.c_world.specs.World.{state_of}
use Rattle.c_world.specs.Names.{scope_counts}
use Rattle.c_eval.proofs.Advanced.{front_pending}
use Rattle.c_machine.specs.Run.{end_as}
use Rattle.c_machine.proofs.Runs.{ended_grown, run_front, run_is, outcome_is}
use Rattle.c_machine.proofs.running.run.Goals as goal

pub run_main-requires-clause-none : goal.run_main-requires-clause-none
run_main-requires-clause-none g c = ap (λ s. scope_counts s.calls) (c.in_ok-world.ensures.start [])

pub returns-in_err-ended-clause-front : goal.returns-in_err-ended-clause-front
returns-in_err-ended-clause-front g c = let p = err_from_is_err_and c.from_residual-in_err-ended.result c.from_residual-in_err-ended.ensures.1 in rw p.1 (
    let w = c.in_err-ended.ensures.front [] in
    (w.0, (λ h at. w.1 h (subst (λ h. g.P.Probes.stands_for c.args.probes.now h) (sym (append-nil h)) at)), run_front c.args.program.now c.in_ok-plan.plan.program.now c.args.input.now c.args.limit (state_of c.in_ok-world.world []) c.in_ok-plan.ensures (c.in_ok-world.ensures.start []) w.0 w.2))

pub returns-in_err-end-clause-front : goal.returns-in_err-end-clause-front
returns-in_err-end-clause-front g c = let p = err_from_is_err_and c.from_residual-in_err-end.result c.from_residual-in_err-end.ensures.1 in rw p.1 (
    let w = c.in_ok-ended.ensures.done [] in
    (w.0, (λ h at. w.1 h (subst (λ h. g.P.Probes.stands_for c.args.probes.now h) (sym (append-nil h)) at)), run_front c.args.program.now c.in_ok-plan.plan.program.now c.args.input.now c.args.limit (state_of c.in_ok-world.world []) c.in_ok-plan.ensures (c.in_ok-world.ensures.start []) w.0 (ended_grown w.0 _ c.in_ok-ended.ended (state_of c.run_main.new.world w.0) w.2 (front_pending w.0 c.run_main.new.world.pending.items))))

pub returns-in_err-output-clause-front : goal.returns-in_err-output-clause-front
returns-in_err-output-clause-front g c = let p = err_from_is_err_and c.from_residual-in_err-output.result c.from_residual-in_err-output.ensures.1 in rw p.1 (
    let w = c.in_ok-ended.ensures.done [] in
    (w.0, (λ h at. w.1 h (subst (λ h. g.P.Probes.stands_for c.args.probes.now h) (sym (append-nil h)) at)), run_front c.args.program.now c.in_ok-plan.plan.program.now c.args.input.now c.args.limit (state_of c.in_ok-world.world []) c.in_ok-plan.ensures (c.in_ok-world.ensures.start []) w.0 (ended_grown w.0 _ c.in_ok-ended.ended (state_of c.run_main.new.world w.0) w.2 (front_pending w.0 c.run_main.new.world.pending.items))))

pub returns-clause-run : goal.returns-clause-run
returns-clause-run g c =
    let w = c.in_ok-ended.ensures.done [] in
    let u = state_of c.run_main.new.world w.0 in
    let e = c.in_ok-ended.ended in
    let same = c.in_ok-ended.ensures.same in
    let tables = same.program ∙ c.in_ok-world.ensures.program in (
      w.0,
      (λ h at. w.1 h (subst (λ h. g.P.Probes.stands_for c.args.probes.now h) (sym (append-nil h)) at)),
      run_is c.args.program.now c.in_ok-plan.plan.program.now c.args.input.now c.args.limit (state_of c.in_ok-world.world []) c.in_ok-plan.ensures (c.in_ok-world.ensures.start []) e u w.2
          ∙ outcome_is c.args.limit c.turns.result (end_as (tables_shape c.args.program.now.tables) e u) c.in_ok-end.end u c.in_ok-output.output w.0
          (c.in_ok-output.ensures ∙ c.output.ensures)
          (c.turns.ensures ∙ ap (λ n. n - c.run_main.new.world.turns) (same.limit ∙ c.in_ok-world.ensures.limit))
          (c.in_ok-end.ensures w.0 ∙ ap (λ (p : Program). end_as (tables_shape p.tables) e u) tables)
          refl
          (ap (λ es. w.0 ++ es) c.in_ok-ended.ensures.told ∙ append-nil w.0),
    )
