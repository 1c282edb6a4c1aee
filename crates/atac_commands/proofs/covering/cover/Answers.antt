-- Each way out of `cover`, and the step of its loop.
use Rattle.std.proofs.Common.{refl, ◌∙◌, Some, ◌∷◌, [], ◌++◌, map}
use Rattle.std.specs.Prelude.{string_bytes}
use Rattle.std.proofs.lemmas.Result.{err_from_is_err_and}
use Rattle.atac_words.specs.Words.{Cover}
use Rattle.atac_programs.specs.Programs.{program_in, section, shown}
use Rattle.atac_commands.specs.Readings.{Refuses}
use Rattle.atac_commands.proofs.Asked.{cover_stopped_first, cover_understands, cover_refused}
use Rattle.atac_commands.proofs.Exits.{wants_at_once, program_stops, not_accepted, known_nothing}
use Rattle.atac_programs.proofs.Reading.{read_refused, read_given}
use Rattle.atac_commands.proofs.Course.{guesses, guesses_agree, came_first, came_on, came_stops, came_by, came_wants, came_ends, left_cons, left_none}
use Rattle.atac_commands.proofs.Inputs.{stands_on}
use Rattle.atac_steps.proofs.Growing.{sink_stays}
use Rattle.atac_commands.proofs.covering.cover.Goals as goal

pub returns-in_err-source : goal.returns-in_err-source
returns-in_err-source g c =
    let p = err_from_is_err_and c.from_residual.result c.from_residual.ensures.1 in
    let f = c.in_err-source.ensures in
    let says = (g.S.Shelf.state c.args.shelf.now).says in
    let inputs = map string_bytes c.args.inputs.now in
    rw (p.1, p.2) (program_stops _ (Some (Cover _ _ _)) _ _ _ f.found (guesses says inputs) (f.agrees, guesses_agree says inputs) f.says f.grows
    _ 1048576 _ f.gives refl (λ h. cover_stopped_first c.args.limit c.args.program.now inputs f.found (guesses says inputs) _ h))

pub returns-in_err-said : goal.returns-in_err-said
returns-in_err-said g c =
    let p = err_from_is_err_and c.from_residual-in_err-said.result c.from_residual-in_err-said.ensures.1 in
    let f = c.in_ok-source.ensures in
    let says = (g.S.Shelf.state c.args.shelf.now).says in
    let inputs = map string_bytes c.args.inputs.now in
    rw (p.1, p.2) (wants_at_once _ (Some (Cover _ _ _)) _ _ _ f.found (guesses says inputs) (f.agrees, guesses_agree says inputs) f.says f.grows)

pub returns-in-Refuses : goal.returns-in-Refuses
returns-in-Refuses g c =
    let f = c.in_ok-source.ensures in
    let says = (g.S.Shelf.state c.args.shelf.now).says in
    let inputs = map string_bytes c.args.inputs.now in
    let is = read_refused _ c.in-Refuses.said _ _ c.in-Refuses.is c.as_slice.ensures.value c.in_ok-said.ensures in
    not_accepted _ (Some (Cover _ _ _)) _ _ _ _ (f.found ∷ guesses says inputs) (f.agrees, guesses_agree says inputs) (Refuses _) (cover_understands c.args.limit c.args.program.now inputs f.found (guesses says inputs) _ f.gives (Refuses _) is) f.says f.grows (sink_stays _)
    _ _ (cover_refused c.args.limit c.args.program.now inputs f.found (guesses says inputs) _ f.gives _) (known_nothing _)

pub loop-input-init : goal.loop-input-init
loop-input-init g c =
    let f = c.in_ok-source.ensures in
    let u = c.in-Covers.understood in
    let q = read_given _ u _ _ c.in-Covers.is c.as_slice.ensures.value c.in_ok-said.ensures in
    let P = program_in q.accepted in
    record {
      program = P;
      items = u.items;
      done = [];
      got = [];
      came = came_first P u.items c.args.limit c.args.program.now (map string_bytes c.args.inputs.now) _ _ _ _ f.found f.agrees f.gives (record { accepted = q.accepted; program = refl; has = q.has }) f.says f.grows;
      stands = c.new-covering.ensures P q.holds;
    }

pub loop-input-preserved : goal.loop-input-preserved
loop-input-preserved g c =
    let i = c.loop-input.invariant in
    let n = c.args.limit in
    let left = left_cons string_bytes c.args.inputs.now c.loop-input.input-index c.input-item.result c.as_str.result.now c.loop-input-test.true c.input-item.is c.as_str.ensures.value in
    let h = came_by i.program i.items n _ _ _ _ _ _ i.done i.got _ _ left i.came in
    let s = c.in_ok-cover_one.ensures i.program i.items (shown i.program n i.got) i.stands in
    record {
      program = i.program;
      items = i.items;
      done = i.done ++ section c.as_str.result.now i.program s.gives.0 n ∷ [];
      got = i.got ++ s.gives.0 ∷ [];
      came = came_on i.program i.items n _ _ _ _ _ _ _ _ c.as_str.result.now _ i.done i.got h s.says s.shelf_grows s.out_grows s.found s.gives.0 s.agrees s.gives.1 s.gives.2;
      stands = stands_on i.program i.items n i.got s.gives.0 _ s.gives.3;
    }

pub returns-in_err-cover_one : goal.returns-in_err-cover_one
returns-in_err-cover_one g c =
    let p = err_from_is_err_and c.from_residual-in_err-cover_one.result c.from_residual-in_err-cover_one.ensures.1 in
    let i = c.loop-input.invariant in
    let n = c.args.limit in
    let left = left_cons string_bytes c.args.inputs.now c.loop-input.input-index c.input-item.result c.as_str.result.now c.loop-input-test.true c.input-item.is c.as_str.ensures.value in
    let h = came_by i.program i.items n _ _ _ _ _ _ i.done i.got _ _ left i.came in
    let s = c.in_err-cover_one.ensures i.program i.items (shown i.program n i.got) i.stands in
    rw (p.1, p.2) (came_stops i.program i.items n _ _ _ _ _ _ _ _ c.as_str.result.now _ i.done i.got h s.says s.shelf_grows s.out_grows s.found _ s.agrees s.gives)

pub returns-in_err-report : goal.returns-in_err-report
returns-in_err-report g c =
    let p = err_from_is_err_and c.from_residual-in_err-report.result c.from_residual-in_err-report.ensures.1 in
    let i = c.loop-input.invariant in
    let h = came_by i.program i.items c.args.limit _ _ _ _ _ _ i.done i.got _ _ (left_none string_bytes c.args.inputs.now c.loop-input.input-index c.loop-input-test.false) i.came in
    rw (p.1, p.2) (came_wants i.program i.items c.args.limit _ _ _ _ _ _ i.done i.got h)

pub returns : goal.returns
returns g c =
    let i = c.loop-input.invariant in
    let n = c.args.limit in
    let h = came_by i.program i.items n _ _ _ _ _ _ i.done i.got _ _ (left_none string_bytes c.args.inputs.now c.loop-input.input-index c.loop-input-test.false) i.came in
    came_ends i.program i.items n _ _ _ _ _ _ i.done i.got h _ _ c.put.result c.put.ensures (c.as_slice-2.ensures.value ∙ c.in_ok-report.ensures i.program i.items (shown i.program n i.got) i.stands)
