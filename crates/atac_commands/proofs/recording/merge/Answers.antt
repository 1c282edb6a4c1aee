-- Each way out of `merge`.
use Rattle.std.proofs.Common.{◌∙◌}
use Rattle.std.proofs.lemmas.Result.{err_from_is_err_and}
use Rattle.atac_commands.proofs.Merged.{first_stops, rest_stops, rest_wants, spell_stops, rest_breaks, rest_ends}
use Rattle.atac_commands.proofs.recording.merge.Goals as goal

pub returns-in_err-sum : goal.returns-in_err-sum
returns-in_err-sum g c =
    let p = err_from_is_err_and c.from_residual.result c.from_residual.ensures.1 in
    let f = c.in_err-sum.ensures in
    rw (p.1, p.2, c.in-Some.ensures.cases.0, ← c.as_str.ensures.value) (first_stops c.args.kept.now c.as_str.result.now _ _ _ _ f.found f.agrees f.says f.grows _ f.gives)

pub returns-in_err-join : goal.returns-in_err-join
returns-in_err-join g c =
    let p = err_from_is_err_and c.from_residual-in_err-join.result c.from_residual-in_err-join.ensures.1 in
    let f = c.in_ok-sum.ensures in
    rw (p.1, p.2, c.in-Some.ensures.cases.0, ← c.as_str.ensures.value)
    (rest_stops c.args.kept.now c.as_str.result.now _ _ (g.S.Shelf.state c.fetch_any.new.shelf) _ _ f.found f.agrees f.gives.0 c.in_ok-sum.sum f.gives.1 f.gives.2 f.says f.grows _ c.in_err-join.ensures)

pub returns-in_err-line : goal.returns-in_err-line
returns-in_err-line g c =
    let p = err_from_is_err_and c.from_residual-in_err-line.result c.from_residual-in_err-line.ensures.1 in
    let f = c.in_ok-sum.ensures in
    rw (p.1, p.2, c.in-Some.ensures.cases.0, ← c.as_str.ensures.value)
    (rest_wants c.args.kept.now c.as_str.result.now _ _ (g.S.Shelf.state c.fetch_any.new.shelf) _ _ f.found f.agrees f.gives.0 c.in_ok-sum.sum f.gives.1 f.gives.2 f.says f.grows _ c.in_ok-join.ensures)

pub returns-in_err-spelling : goal.returns-in_err-spelling
returns-in_err-spelling g c =
    let p = err_from_is_err_and c.from_residual-in_err-spelling.result c.from_residual-in_err-spelling.ensures.1 in
    let f = c.in_ok-sum.ensures in
    rw (p.1, p.2, c.in-Some.ensures.cases.0, ← c.as_str.ensures.value)
    (spell_stops c.args.kept.now c.as_str.result.now _ _ (g.S.Shelf.state c.fetch_any.new.shelf) _ _ f.found f.agrees f.gives.0 c.in_ok-sum.sum f.gives.1 f.gives.2 f.says f.grows _ c.in_ok-join.ensures _ c.in_err-spelling.ensures)

pub returns-in_err-put : goal.returns-in_err-put
returns-in_err-put g c =
    let p = err_from_is_err_and c.from_residual-in_err-put.result c.from_residual-in_err-put.ensures.1 in
    let f = c.in_ok-sum.ensures in
    rw (p.1, p.2, c.in-Some.ensures.cases.0, ← c.as_str.ensures.value)
    (rest_breaks c.args.kept.now c.as_str.result.now _ _ (g.S.Shelf.state c.fetch_any.new.shelf) _ _ f.found f.agrees f.gives.0 c.in_ok-sum.sum f.gives.1 f.gives.2 f.says f.grows _ c.in_ok-join.ensures
    c.in_ok-spelling.ensures.1 _ c.as_bytes.result.now (c.as_bytes.ensures.value ∙ c.in_ok-line.ensures) _ c.in_err-put.ensures)

pub returns : goal.returns
returns g c =
    let f = c.in_ok-sum.ensures in
    rw (c.in-Some.ensures.cases.0, ← c.as_str.ensures.value)
    (rest_ends c.args.kept.now c.as_str.result.now _ _ (g.S.Shelf.state c.fetch_any.new.shelf) (g.S.Shelf.state c.join.new.shelf) _ f.found f.agrees f.gives.0 c.in_ok-sum.sum f.gives.1 f.gives.2 f.says f.grows _ c.in_ok-join.ensures
    c.in_ok-spelling.ensures.1 _ c.as_bytes.result.now (c.as_bytes.ensures.value ∙ c.in_ok-line.ensures) _ c.as_slice.result.now c.keep.result c.in_ok-put.ensures (c.as_slice.ensures.value ∙ c.in_ok-spelling.ensures.0) c.keep.ensures)
