-- Each way out of `instrument`.
use Rattle.std.proofs.Common.{refl, Some, ◌∷◌, []}
use Rattle.std.proofs.lemmas.Result.{err_from_is_err_and}
use Rattle.atac_words.specs.Words.{Instrument}
use Rattle.atac_steps.proofs.Growing.{sink_stays}
use Rattle.atac_commands.specs.Readings.{Refuses, Probes}
use Rattle.atac_commands.proofs.Asked.{instrument_stopped, instrumented, instrument_refused, instrument_done}
use Rattle.atac_commands.proofs.Exits.{wants_at_once, program_stops, not_accepted, keep_ends, known_nothing}
use Rattle.atac_programs.proofs.Reading as reading
use Rattle.atac_commands.proofs.commands.instrument.Goals as goal

pub returns-in_err-source : goal.returns-in_err-source
returns-in_err-source g c =
    let p = err_from_is_err_and c.from_residual.result c.from_residual.ensures.1 in
    let f = c.in_err-source.ensures in
    rw (p.1, p.2) (program_stops _ (Some (Instrument _ _)) _ _ _ f.found [] (f.agrees, tt) f.says f.grows
    _ 1048576 _ f.gives refl (λ h. instrument_stopped c.args.program.now c.args.kept.now f.found _ h))

pub returns-in_err-said : goal.returns-in_err-said
returns-in_err-said g c =
    let p = err_from_is_err_and c.from_residual-in_err-said.result c.from_residual-in_err-said.ensures.1 in
    let f = c.in_ok-source.ensures in
    rw (p.1, p.2) (wants_at_once _ (Some (Instrument _ _)) _ _ _ f.found [] (f.agrees, tt) f.says f.grows)

pub returns-in-Refuses : goal.returns-in-Refuses
returns-in-Refuses g c =
    let f = c.in_ok-source.ensures in
    let is = reading.probe_refused _ c.in-Refuses.said _ _ c.in-Refuses.is c.as_slice.ensures.value c.in_ok-said.ensures in
    not_accepted _ (Some (Instrument _ _)) _ _ _ _ (f.found ∷ []) (f.agrees, tt) (Refuses _) (instrumented c.args.program.now c.args.kept.now f.found _ f.gives (Refuses _) is) f.says f.grows (sink_stays _)
    _ _ (instrument_refused c.args.program.now c.args.kept.now f.found _ f.gives _) (known_nothing _)

pub returns : goal.returns
returns g c =
    let f = c.in_ok-source.ensures in
    let bytes = c.in-Probes.text in
    let is = reading.probe_given _ bytes _ _ c.in-Probes.is c.as_slice.ensures.value c.in_ok-said.ensures in
    let done = instrument_done c.args.program.now c.args.kept.now f.found _ f.gives bytes.items in
    keep_ends _ (Some (Instrument _ _)) _ (g.S.Shelf.state c.fetch.new.shelf) _ _ _ (f.found ∷ []) (f.agrees, tt) (Probes bytes.items) (instrumented c.args.program.now c.args.kept.now f.found _ f.gives (Probes bytes.items) is) f.says f.grows (sink_stays _)
    c.args.kept.now bytes.items [] done (known_nothing _) c.keep.result (rw (← c.as_slice-2.ensures.value) c.keep.ensures)
