-- The step of the loop, and what stops it.
use Rattle.std.proofs.Common.{map, drop, ◌+◌}
use Rattle.std.specs.Prelude.{string_bytes}
use Rattle.std.proofs.lemmas.Result.{err_from_is_err_and}
use Rattle.atac_traces.proofs.Course.{left_cons, left_none, came_first, came_on, came_stops, came_by}
use Rattle.atac_traces.proofs.joining.join.Goals as goal

pub loop-name-init : goal.loop-name-init
loop-name-init g c = came_first (g.S.Shelf.state c.args.shelf.now) c.args.sum.now _ c.numbers_fit.ensures

pub loop-name-preserved : goal.loop-name-preserved
loop-name-preserved g c =
    let left = left_cons string_bytes c.args.names.now c.loop-name.name-index c.name-item.result c.as_str.result.now c.loop-name-test.true c.name-item.is c.as_str.ensures.value in
    let h = came_by _ _ _ _ _ _ _ left c.loop-name.invariant in
    let f = c.in_ok-trace.ensures in
    let a = c.in_ok-add_trace.ensures in
    came_on _ _ _ _ _ _ _ _ _ h f.says f.grows f.found f.agrees c.in_ok-trace.trace f.gives.0 f.gives.1 f.gives.2 a.digest a.runs a.old_runs a.counts a.sound

pub returns-in_err-trace : goal.returns-in_err-trace
returns-in_err-trace g c =
    let p = err_from_is_err_and c.from_residual.result c.from_residual.ensures.1 in
    let left = left_cons string_bytes c.args.names.now c.loop-name.name-index c.name-item.result c.as_str.result.now c.loop-name-test.true c.name-item.is c.as_str.ensures.value in
    let h = came_by _ _ _ _ _ _ _ left c.loop-name.invariant in
    let f = c.in_err-trace.ensures in
    rw (p.1, p.2) (came_stops _ _ _ _ _ c.loop-name.sum _ _ _ h f.says f.grows f.found f.agrees _ f.gives)

pub returns-in_err-add_trace : goal.returns-in_err-add_trace
returns-in_err-add_trace g c =
    let p = err_from_is_err_and c.from_residual-in_err-add_trace.result c.from_residual-in_err-add_trace.ensures.1 in
    let left = left_cons string_bytes c.args.names.now c.loop-name.name-index c.name-item.result c.as_str.result.now c.loop-name-test.true c.name-item.is c.as_str.ensures.value in
    let h = came_by _ _ _ _ _ _ _ left c.loop-name.invariant in
    let f = c.in_ok-trace.ensures in
    rw (p.1, p.2) (came_stops _ _ _ _ _ c.loop-name.sum _ _ _ h f.says f.grows f.found f.agrees _ tt)

pub returns : goal.returns
returns g c = came_by _ _ _ _ _ _ _ (left_none string_bytes c.args.names.now c.loop-name.name-index c.loop-name-test.false) c.loop-name.invariant
