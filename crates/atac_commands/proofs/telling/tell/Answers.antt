-- Each way out of `tell`.
use Rattle.std.proofs.Common.{refl, ap, ◌∙◌, Some, ◌∷◌, [], map}
use Rattle.std.specs.Prelude.{string_bytes}
use Rattle.std.proofs.lemmas.Result.{err_from_is_err_and}
use Rattle.sha2.specs.Sha256.{sha256}
use Rattle.trace_file.specs.declared.trace.Trace.{Trace}
use Rattle.atac_words.specs.Words.{Tell}
use Rattle.atac_steps.proofs.Growing.{sink_stays}
use Rattle.atac_programs.specs.Programs.{IsCovered, program_in}
use Rattle.atac_commands.specs.Readings.{Refuses, view_text}
use Rattle.atac_commands.proofs.Asked.{tell_stopped, tell_not, tell_refused}
use Rattle.atac_commands.proofs.Course.{guesses, guesses_agree}
use Rattle.atac_commands.proofs.Exits.{wants_at_once, program_stops, not_accepted, known_nothing}
use Rattle.atac_commands.proofs.Told.{tell_stops, tell_wants, tell_ends}
use Rattle.atac_commands.proofs.Sums.{sum_of}
use Rattle.atac_programs.proofs.Reading.{itemise_refused, itemise_given}
use Rattle.atac_commands.proofs.telling.tell.Goals as goal

pub returns-in_err-source : goal.returns-in_err-source
returns-in_err-source g c =
    let p = err_from_is_err_and c.from_residual.result c.from_residual.ensures.1 in
    let f = c.in_err-source.ensures in
    let says = (g.S.Shelf.state c.args.shelf.now).says in
    let traces = map string_bytes c.args.traces.now in
    rw (p.1, p.2) (program_stops _ (Some (Tell _ _ _)) _ _ _ f.found (guesses says traces) (f.agrees, guesses_agree says traces) f.says f.grows
    _ 1048576 _ f.gives refl (λ h. tell_stopped c.args.view c.args.program.now traces f.found (guesses says traces) _ h))

pub returns-in_err-said : goal.returns-in_err-said
returns-in_err-said g c =
    let p = err_from_is_err_and c.from_residual-in_err-said.result c.from_residual-in_err-said.ensures.1 in
    let f = c.in_ok-source.ensures in
    let says = (g.S.Shelf.state c.args.shelf.now).says in
    let traces = map string_bytes c.args.traces.now in
    rw (p.1, p.2) (wants_at_once _ (Some (Tell _ _ _)) _ _ _ f.found (guesses says traces) (f.agrees, guesses_agree says traces) f.says f.grows)

pub returns-in-Refuses : goal.returns-in-Refuses
returns-in-Refuses g c =
    let f = c.in_ok-source.ensures in
    let says = (g.S.Shelf.state c.args.shelf.now).says in
    let traces = map string_bytes c.args.traces.now in
    let is = itemise_refused _ c.in-Refuses.said _ _ c.in-Refuses.is c.as_slice.ensures.value c.in_ok-said.ensures in
    not_accepted _ (Some (Tell _ _ _)) _ _ _ _ (f.found ∷ guesses says traces) (f.agrees, guesses_agree says traces) (Refuses _) (tell_not c.args.view c.args.program.now traces f.found (guesses says traces) _ f.gives _ is) f.says f.grows (sink_stays _)
    _ _ (tell_refused c.args.view c.args.program.now traces f.found (guesses says traces) _ f.gives _) (known_nothing _)

-- the program's items are understood, and its digest is that of its text
pub returns-in_err-join : goal.returns-in_err-join
returns-in_err-join g c =
    let p = err_from_is_err_and c.from_residual-in_err-join.result c.from_residual-in_err-join.ensures.1 in
    let f = c.in_ok-source.ensures in
    let traces = map string_bytes c.args.traces.now in
    let h = itemise_given _ c.in-Has.field-0 c.in-Has.field-1 c.in-Has.items _ _ c.in-Has.is c.as_slice.ensures.value c.in_ok-said.ensures in
    let is : IsCovered _ (program_in h.sites.accepted) c.in-Has.items = record { accepted = h.sites.accepted; program = refl; has = h.has } in
    let digest = ap (λ (t : Trace). t.digest) c.no_runs-sum.ensures ∙ (c.digest_of.ensures ∙ ap sha256 c.as_slice-2.ensures.value) in
    rw (p.1, p.2) (tell_stops c.args.view c.args.program.now traces _ _ (g.S.Shelf.state c.fetch.new.shelf) _ _ f.found f.agrees f.gives (program_in h.sites.accepted) c.in-Has.items is f.says f.grows c.no_runs-sum.result digest _ c.in_err-join.ensures)

pub returns-in_err-told : goal.returns-in_err-told
returns-in_err-told g c =
    let p = err_from_is_err_and c.from_residual-in_err-told.result c.from_residual-in_err-told.ensures.1 in
    let f = c.in_ok-source.ensures in
    let traces = map string_bytes c.args.traces.now in
    let h = itemise_given _ c.in-Has.field-0 c.in-Has.field-1 c.in-Has.items _ _ c.in-Has.is c.as_slice.ensures.value c.in_ok-said.ensures in
    let is : IsCovered _ (program_in h.sites.accepted) c.in-Has.items = record { accepted = h.sites.accepted; program = refl; has = h.has } in
    let digest = ap (λ (t : Trace). t.digest) c.no_runs-sum.ensures ∙ (c.digest_of.ensures ∙ ap sha256 c.as_slice-2.ensures.value) in
    rw (p.1, p.2) (tell_wants c.args.view c.args.program.now traces _ _ (g.S.Shelf.state c.fetch.new.shelf) _ _ f.found f.agrees f.gives (program_in h.sites.accepted) c.in-Has.items is f.says f.grows c.no_runs-sum.result _ digest c.in_ok-join.ensures)

pub returns : goal.returns
returns g c =
    let f = c.in_ok-source.ensures in
    let traces = map string_bytes c.args.traces.now in
    let h = itemise_given _ c.in-Has.field-0 c.in-Has.field-1 c.in-Has.items _ _ c.in-Has.is c.as_slice.ensures.value c.in_ok-said.ensures in
    let is : IsCovered _ (program_in h.sites.accepted) c.in-Has.items = record { accepted = h.sites.accepted; program = refl; has = h.has } in
    let digest = ap (λ (t : Trace). t.digest) c.no_runs-sum.ensures ∙ (c.digest_of.ensures ∙ ap sha256 c.as_slice-2.ensures.value) in
    let j = c.in_ok-join.ensures in
    let sum = sum_of _ j.traces _ _ (c.no_runs-sum.ensures ∙ ap (λ d. record { digest = d; runs = 0; old_runs = 0; tally = [] }) (c.digest_of.ensures ∙ ap sha256 c.as_slice-2.ensures.value)) j.adds in
    let whole = c.as_slice-4.ensures.value ∙ (c.in_ok-told.ensures _ j.traces sum ∙ ap (λ s. view_text c.args.view s c.in-Has.items j.traces) c.as_slice-3.ensures.value) in
    tell_ends c.args.view c.args.program.now traces _ _ (g.S.Shelf.state c.fetch.new.shelf) _ _ f.found f.agrees f.gives (program_in h.sites.accepted) c.in-Has.items is f.says f.grows c.no_runs-sum.result _ digest j _ _ c.put.result c.put.ensures whole
