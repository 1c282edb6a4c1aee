-- Each way out of `watch`.
use Rattle.std.proofs.Common.{refl, Some, ◌∷◌, []}
use Rattle.std.proofs.lemmas.Result.{err_from_is_err_and}
use Rattle.atac_words.specs.Words.{Watch}
use Rattle.atac_programs.specs.Programs.{program_in}
use Rattle.atac_programs.proofs.Reading.{watch_refused, watch_given}
use Rattle.atac_steps.proofs.Found.{guess, guess_agrees}
use Rattle.atac_steps.proofs.Growing.{sink_stays}
use Rattle.atac_commands.specs.Readings.{Refuses}
use Rattle.atac_commands.proofs.Asked as answers
use Rattle.atac_commands.proofs.Exits.{wants_at_once, program_stops, not_accepted, known_nothing}
use Rattle.atac_commands.proofs.Watched.{handed_in, watch_fetch, watch_feeds, watch_ends}
use Rattle.atac_commands.proofs.watching.watch.Goals as goal

pub returns-in_err-source : goal.returns-in_err-source
returns-in_err-source g c =
    let p = err_from_is_err_and c.from_residual.result c.from_residual.ensures.1 in
    let f = c.in_err-source.ensures in
    let said = (g.S.Shelf.state c.args.shelf.now).says c.args.input.now in
    rw (p.1, p.2) (program_stops _ (Some (Watch _ _ _ _)) _ _ _ f.found (guess said ∷ []) (f.agrees, (guess_agrees said, tt)) f.says f.grows
    _ 1048576 _ f.gives refl (λ h. let s = answers.watch_stopped c.args.limit c.args.program.now c.args.input.now c.args.name.now f.found (guess said) _ h in ((s.0, tt), s.1)))

pub returns-in_err-said : goal.returns-in_err-said
returns-in_err-said g c =
    let p = err_from_is_err_and c.from_residual-in_err-said.result c.from_residual-in_err-said.ensures.1 in
    let f = c.in_ok-source.ensures in
    let said = (g.S.Shelf.state c.args.shelf.now).says c.args.input.now in
    rw (p.1, p.2) (wants_at_once _ (Some (Watch _ _ _ _)) _ _ _ f.found (guess said ∷ []) (f.agrees, (guess_agrees said, tt)) f.says f.grows)

pub returns-in-Refuses : goal.returns-in-Refuses
returns-in-Refuses g c =
    let f = c.in_ok-source.ensures in
    let said = (g.S.Shelf.state c.args.shelf.now).says c.args.input.now in
    let is = watch_refused _ c.in-Refuses.said _ _ c.in-Refuses.is c.as_slice.ensures.value c.in_ok-said.ensures in
    not_accepted _ (Some (Watch _ _ _ _)) _ _ _ _ (f.found ∷ guess said ∷ []) (f.agrees, (guess_agrees said, tt)) (Refuses _) (answers.watch_not c.args.limit c.args.program.now c.args.input.now c.args.name.now f.found (guess said) _ f.gives _ is, tt) f.says f.grows (sink_stays _)
    _ _ (answers.watch_refused c.args.limit c.args.program.now c.args.input.now c.args.name.now f.found (guess said) _ f.gives _) (known_nothing _)

pub returns-in_err-bytes : goal.returns-in_err-bytes
returns-in_err-bytes g c =
    let p = err_from_is_err_and c.from_residual-in_err-bytes.result c.from_residual-in_err-bytes.ensures.1 in
    let f = c.in_ok-source.ensures in
    let h = c.in_err-bytes.ensures in
    let q = watch_given _ c.in-Watches.probed _ _ c.in-Watches.is c.as_slice.ensures.value c.in_ok-said.ensures in
    let ws = handed_in c.args.watchers.items (λ w. (g.dyn-1.0.entry w.vtable).1.called w.value) (λ w. (g.dyn-1.0.entry w.vtable).1.stands_for w.value) (λ w. (g.dyn-1.0.entry w.vtable).1.text_of w.value) in
    rw (p.1, p.2) (watch_fetch ws c.args.limit c.args.program.now c.args.input.now c.args.name.now _ (g.S.Shelf.state c.fetch.new.shelf) _ _ f.found h.found f.agrees h.agrees _ f.gives (program_in q.accepted) (record { accepted = q.accepted; program = refl }) f.says f.grows h.says h.grows _ h.gives)

pub returns-in_err-text : goal.returns-in_err-text
returns-in_err-text g c =
    let p = err_from_is_err_and c.from_residual-in_err-text.result c.from_residual-in_err-text.ensures.1 in
    let f = c.in_ok-source.ensures in
    let h = c.in_ok-bytes.ensures in
    let q = watch_given _ c.in-Watches.probed _ _ c.in-Watches.is c.as_slice.ensures.value c.in_ok-said.ensures in
    let ws = handed_in c.args.watchers.items (λ w. (g.dyn-1.0.entry w.vtable).1.called w.value) (λ w. (g.dyn-1.0.entry w.vtable).1.stands_for w.value) (λ w. (g.dyn-1.0.entry w.vtable).1.text_of w.value) in
    rw (p.1, p.2) (watch_feeds ws c.args.limit c.args.program.now c.args.input.now c.args.name.now _ (g.S.Shelf.state c.fetch.new.shelf) _ _ f.found h.found f.agrees h.agrees _ f.gives (program_in q.accepted) (record { accepted = q.accepted; program = refl }) f.says f.grows h.says h.grows
    _ h.gives _ c.in_err-text.ensures.stops)

pub returns : goal.returns
returns g c =
    let f = c.in_ok-source.ensures in
    let h = c.in_ok-bytes.ensures in
    let q = watch_given _ c.in-Watches.probed _ _ c.in-Watches.is c.as_slice.ensures.value c.in_ok-said.ensures in
    let ws = handed_in c.args.watchers.items (λ w. (g.dyn-1.0.entry w.vtable).1.called w.value) (λ w. (g.dyn-1.0.entry w.vtable).1.stands_for w.value) (λ w. (g.dyn-1.0.entry w.vtable).1.text_of w.value) in
    watch_ends ws c.args.limit c.args.program.now c.args.input.now c.args.name.now _ (g.S.Shelf.state c.fetch.new.shelf) _ _ f.found h.found f.agrees h.agrees _ f.gives (program_in q.accepted) (record { accepted = q.accepted; program = refl }) f.says f.grows h.says h.grows
    _ h.gives _ (c.in_ok-text.ensures.text (program_in q.accepted) q.simulates) _ _ c.put.result c.put.ensures c.as_slice-2.ensures.value
