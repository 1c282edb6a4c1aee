-- Each way out of `pick`.
use Rattle.std.proofs.Common.{refl, sym, ◌∙◌, Some, ◌∷◌, [], map}
use Rattle.std.specs.Prelude.{string_bytes}
use Rattle.std.proofs.lemmas.List.{length-map}
use Rattle.std.proofs.lemmas.Result.{err_from_is_err_and}
use Rattle.atac_words.specs.Words.{Pick}
use Rattle.atac_programs.specs.Programs.{program_in}
use Rattle.atac_programs.proofs.Reading.{read_refused, read_given}
use Rattle.atac_steps.proofs.Growing.{sink_stays}
use Rattle.atac_commands.specs.Readings.{Refuses}
use Rattle.atac_commands.proofs.Asked.{pick_stopped, pick_not, pick_refused}
use Rattle.atac_commands.proofs.Course.{guesses, guesses_agree}
use Rattle.atac_commands.proofs.Gathered.{one_run_each}
use Rattle.atac_commands.proofs.Exits.{wants_at_once, program_stops, not_accepted, known_nothing}
use Rattle.atac_commands.proofs.Picked.{pick_stops, pick_wants, pick_ends}
use Rattle.atac_commands.proofs.picking.pick.Goals as goal

pub returns-in_err-source : goal.returns-in_err-source
returns-in_err-source g c =
    let p = err_from_is_err_and c.from_residual.result c.from_residual.ensures.1 in
    let f = c.in_err-source.ensures in
    let says = (g.S.Shelf.state c.args.shelf.now).says in
    let inputs = map string_bytes c.args.inputs.now in
    rw (p.1, p.2) (program_stops _ (Some (Pick _ _ _)) _ _ _ f.found (guesses says inputs) (f.agrees, guesses_agree says inputs) f.says f.grows
    _ 1048576 _ f.gives refl (λ h. pick_stopped c.args.limit c.args.program.now inputs f.found (guesses says inputs) _ h))

pub returns-in_err-said : goal.returns-in_err-said
returns-in_err-said g c =
    let p = err_from_is_err_and c.from_residual-in_err-said.result c.from_residual-in_err-said.ensures.1 in
    let f = c.in_ok-source.ensures in
    let says = (g.S.Shelf.state c.args.shelf.now).says in
    let inputs = map string_bytes c.args.inputs.now in
    rw (p.1, p.2) (wants_at_once _ (Some (Pick _ _ _)) _ _ _ f.found (guesses says inputs) (f.agrees, guesses_agree says inputs) f.says f.grows)

pub returns-in-Refuses : goal.returns-in-Refuses
returns-in-Refuses g c =
    let f = c.in_ok-source.ensures in
    let says = (g.S.Shelf.state c.args.shelf.now).says in
    let inputs = map string_bytes c.args.inputs.now in
    let is = read_refused _ c.in-Refuses.said _ _ c.in-Refuses.is c.as_slice.ensures.value c.in_ok-said.ensures in
    not_accepted _ (Some (Pick _ _ _)) _ _ _ _ (f.found ∷ guesses says inputs) (f.agrees, guesses_agree says inputs) (Refuses _) (pick_not c.args.limit c.args.program.now inputs f.found (guesses says inputs) _ f.gives _ is) f.says f.grows (sink_stays _)
    _ _ (pick_refused c.args.limit c.args.program.now inputs f.found (guesses says inputs) _ f.gives _) (known_nothing _)

pub returns-in_err-gather : goal.returns-in_err-gather
returns-in_err-gather g c =
    let p = err_from_is_err_and c.from_residual-in_err-gather.result c.from_residual-in_err-gather.ensures.1 in
    let f = c.in_ok-source.ensures in
    let u = c.in-Covers.understood in
    let q = read_given _ u _ _ c.in-Covers.is c.as_slice.ensures.value c.in_ok-said.ensures in
    let P = program_in q.accepted in
    let s = c.in_err-gather.ensures P u.items [] (c.new-gathering.ensures P c.args.limit q.holds) in
    rw (p.1, p.2) (pick_stops c.args.limit c.args.program.now (map string_bytes c.args.inputs.now) _ (g.S.Shelf.state c.fetch.new.shelf) _ _ f.found f.agrees _ f.gives P u.items (record { accepted = q.accepted; program = refl; has = q.has }) f.says f.grows
    s.found s.agrees s.says s.grows _ s.gives)

pub text-requires : goal.text-requires
text-requires g c =
    let u = c.in-Covers.understood in
    let q = read_given _ u _ _ c.in-Covers.is c.as_slice.ensures.value c.in_ok-said.ensures in
    let P = program_in q.accepted in
    let s = c.in_ok-gather.ensures P u.items [] (c.new-gathering.ensures P c.args.limit q.holds) in
    sym (length-map c.args.inputs.now string_bytes) ∙ one_run_each P c.args.limit (map string_bytes c.args.inputs.now) s.found s.gives.0 c.gather.new.self.runs.items s.gives.1 s.gives.2.each

pub returns-in_err-text : goal.returns-in_err-text
returns-in_err-text g c =
    let p = err_from_is_err_and c.from_residual-in_err-text.result c.from_residual-in_err-text.ensures.1 in
    let f = c.in_ok-source.ensures in
    let u = c.in-Covers.understood in
    let q = read_given _ u _ _ c.in-Covers.is c.as_slice.ensures.value c.in_ok-said.ensures in
    let P = program_in q.accepted in
    let s = c.in_ok-gather.ensures P u.items [] (c.new-gathering.ensures P c.args.limit q.holds) in
    rw (p.1, p.2) (pick_wants c.args.limit c.args.program.now (map string_bytes c.args.inputs.now) _ (g.S.Shelf.state c.fetch.new.shelf) _ _ f.found f.agrees _ f.gives P u.items (record { accepted = q.accepted; program = refl; has = q.has }) f.says f.grows
    s.found s.agrees s.says s.grows)

pub returns : goal.returns
returns g c =
    let f = c.in_ok-source.ensures in
    let u = c.in-Covers.understood in
    let q = read_given _ u _ _ c.in-Covers.is c.as_slice.ensures.value c.in_ok-said.ensures in
    let P = program_in q.accepted in
    let s = c.in_ok-gather.ensures P u.items [] (c.new-gathering.ensures P c.args.limit q.holds) in
    let t = c.in_ok-text.ensures P u.items c.args.limit s.gives.0 s.gives.2 in
    pick_ends c.args.limit c.args.program.now (map string_bytes c.args.inputs.now) _ (g.S.Shelf.state c.fetch.new.shelf) _ _ f.found f.agrees _ f.gives P u.items (record { accepted = q.accepted; program = refl; has = q.has }) f.says f.grows
    s.found s.agrees s.says s.grows s.gives.0 s.gives.1 t.marks t.picked _ _ c.put.result c.put.ensures (c.as_slice-2.ensures.value ∙ t.is)
