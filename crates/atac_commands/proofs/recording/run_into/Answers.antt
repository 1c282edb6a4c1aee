-- Each way out of `run_into`.
use Rattle.std.proofs.Common.{refl, ap, ◌∙◌, subst, Some, ◌∷◌, [], List, ℕ}
use Rattle.std.proofs.lemmas.Result.{err_from_is_err_and}
use Rattle.atac_base.specs.Outside.{Said, Agrees}
use Rattle.c_meaning.specs.Sources.{source_of}
use Rattle.trace_file.specs.declared.trace.Trace.{Trace}
use Rattle.atac_words.specs.Words.{RunInto}
use Rattle.atac_steps.proofs.Found.{guess, guess_agrees}
use Rattle.atac_steps.proofs.Growing.{sink_stays, shelf_goes_on}
use Rattle.atac_programs.specs.Programs.{section, met_by}
use Rattle.atac_commands.specs.Readings.{Refuses, IsRunMore}
use Rattle.atac_commands.proofs.Asked.{into_stopped, into_not, into_refused}
use Rattle.atac_commands.proofs.Exits.{wants_at_once, program_stops, not_accepted, known_nothing}
use Rattle.atac_commands.proofs.Into.{input_stops, trace_stops, into_wants, spell_stops, into_breaks, into_ends, old_of}
use Rattle.atac_programs.proofs.Reading.{record_refused, recordable}
use Rattle.atac_commands.proofs.recording.run_into.Goals as goal

pub returns-in_err-source : goal.returns-in_err-source
returns-in_err-source g c =
    let p = err_from_is_err_and c.from_residual.result c.from_residual.ensures.1 in
    let f = c.in_err-source.ensures in
    let says = (g.S.Shelf.state c.args.shelf.now).says in
    rw (p.1, p.2) (program_stops _ (Some (RunInto _ _ _ _)) _ _ _ f.found (guess (says c.args.input.now) ∷ guess (says c.args.trace.now) ∷ []) (f.agrees, (guess_agrees (says c.args.input.now), (guess_agrees (says c.args.trace.now), tt))) f.says f.grows
    _ 67108864 _ f.gives refl (λ h. into_stopped c.args.limit c.args.program.now c.args.input.now c.args.trace.now f.found (guess (says c.args.input.now)) (guess (says c.args.trace.now)) _ h))

pub returns-in_err-said : goal.returns-in_err-said
returns-in_err-said g c =
    let p = err_from_is_err_and c.from_residual-in_err-said.result c.from_residual-in_err-said.ensures.1 in
    let f = c.in_ok-source.ensures in
    let says = (g.S.Shelf.state c.args.shelf.now).says in
    rw (p.1, p.2) (wants_at_once _ (Some (RunInto _ _ _ _)) _ _ _ f.found (guess (says c.args.input.now) ∷ guess (says c.args.trace.now) ∷ []) (f.agrees, (guess_agrees (says c.args.input.now), (guess_agrees (says c.args.trace.now), tt))) f.says f.grows)

pub returns-in-Refuses : goal.returns-in-Refuses
returns-in-Refuses g c =
    let f = c.in_ok-source.ensures in
    let says = (g.S.Shelf.state c.args.shelf.now).says in
    let is = record_refused _ c.in-Refuses.said _ _ c.in-Refuses.is c.as_slice.ensures.value c.in_ok-said.ensures in
    not_accepted _ (Some (RunInto _ _ _ _)) _ _ _ _ (f.found ∷ guess (says c.args.input.now) ∷ guess (says c.args.trace.now) ∷ []) (f.agrees, (guess_agrees (says c.args.input.now), (guess_agrees (says c.args.trace.now), tt))) (Refuses _)
    (into_not c.args.limit c.args.program.now c.args.input.now c.args.trace.now f.found (guess (says c.args.input.now)) (guess (says c.args.trace.now)) _ f.gives _ is) f.says f.grows (sink_stays _)
    _ _ (into_refused c.args.limit c.args.program.now c.args.input.now c.args.trace.now f.found (guess (says c.args.input.now)) (guess (says c.args.trace.now)) _ f.gives _) (known_nothing _)

pub returns-in_err-bytes : goal.returns-in_err-bytes
returns-in_err-bytes g c =
    let p = err_from_is_err_and c.from_residual-in_err-bytes.result c.from_residual-in_err-bytes.ensures.1 in
    let f = c.in_ok-source.ensures in
    let e = c.in_err-bytes.ensures in
    let u = c.in-Records.recordable in
    let h = recordable _ u _ _ c.in-Records.is c.as_slice.ensures.value c.in_ok-said.ensures in
    let agrees = subst (λ (says : List ℕ → Said). Agrees (says c.args.input.now) e.found) f.says e.agrees in
    let says = (g.S.Shelf.state c.args.shelf.now).says in
    rw (p.1, p.2) (input_stops c.args.limit c.args.program.now c.args.input.now c.args.trace.now _ _ (g.S.Shelf.state c.fetch.new.shelf) _ _ f.found f.agrees f.gives (source_of u.program) (record { read = h.read; digest = u.digest; line = h.line }) f.says f.grows e.says e.grows
    e.found (guess (says c.args.trace.now)) agrees (guess_agrees (says c.args.trace.now)) _ e.gives)

pub returns-in_err-old : goal.returns-in_err-old
returns-in_err-old g c =
    let p = err_from_is_err_and c.from_residual-in_err-old.result c.from_residual-in_err-old.ensures.1 in
    let f = c.in_ok-source.ensures in
    let e = c.in_ok-bytes.ensures in
    let o = c.in_err-old.ensures in
    let u = c.in-Records.recordable in
    let h = recordable _ u _ _ c.in-Records.is c.as_slice.ensures.value c.in_ok-said.ensures in
    let ai = subst (λ (says : List ℕ → Said). Agrees (says c.args.input.now) e.found) f.says e.agrees in
    let at = subst (λ (says : List ℕ → Said). Agrees (says c.args.trace.now) o.found) (e.says ∙ f.says) o.agrees in
    rw (p.1, p.2) (trace_stops c.args.limit c.args.program.now c.args.input.now c.args.trace.now _ _ _ (g.S.Shelf.state c.fetch-2.new.shelf) _ _ f.found e.found f.agrees f.gives ai e.gives (source_of u.program) (record { read = h.read; digest = u.digest; line = h.line }) (e.says ∙ f.says) (shelf_goes_on _ _ _ f.grows e.grows) o.says o.grows
    o.found at _ o.gives)

pub returns-in_err-section : goal.returns-in_err-section
returns-in_err-section g c =
    let p = err_from_is_err_and c.from_residual-in_err-section.result c.from_residual-in_err-section.ensures.1 in
    let f = c.in_ok-source.ensures in
    let e = c.in_ok-bytes.ensures in
    let o = c.in_ok-old.ensures in
    let u = c.in-Records.recordable in
    let h = recordable _ u _ _ c.in-Records.is c.as_slice.ensures.value c.in_ok-said.ensures in
    let ai = subst (λ (says : List ℕ → Said). Agrees (says c.args.input.now) e.found) f.says e.agrees in
    let at = subst (λ (says : List ℕ → Said). Agrees (says c.args.trace.now) o.found) (e.says ∙ f.says) o.agrees in
    rw (p.1, p.2) (into_wants c.args.limit c.args.program.now c.args.input.now c.args.trace.now _ _ _ (g.S.Shelf.state c.fetch-2.new.shelf) _ _ f.found e.found f.agrees f.gives ai e.gives (source_of u.program) (record { read = h.read; digest = u.digest; line = h.line }) (e.says ∙ f.says) (shelf_goes_on _ _ _ f.grows e.grows) o.says o.grows
    o.found at)

pub returns-in_err-spelling : goal.returns-in_err-spelling
returns-in_err-spelling g c =
    let p = err_from_is_err_and c.from_residual-in_err-spelling.result c.from_residual-in_err-spelling.ensures.1 in
    let f = c.in_ok-source.ensures in
    let e = c.in_ok-bytes.ensures in
    let o = c.in_ok-old.ensures in
    let u = c.in-Records.recordable in
    let h = recordable _ u _ _ c.in-Records.is c.as_slice.ensures.value c.in_ok-said.ensures in
    let ai = subst (λ (says : List ℕ → Said). Agrees (says c.args.input.now) e.found) f.says e.agrees in
    let at = subst (λ (says : List ℕ → Said). Agrees (says c.args.trace.now) o.found) (e.says ∙ f.says) o.agrees in
    let k = old_of (g.S.Shelf.state c.fetch-2.new.shelf) (g.S.Shelf.state c.fetch_old.new.shelf) u.digest c.args.trace.now o.found c.in_ok-old.old o.gives in
    let more =
    subst (λ (t : Trace). IsRunMore t c.record.new.trace (met_by (source_of u.program) c.args.limit c.in_ok-bytes.bytes.items)) c.begun-sum.ensures
    (subst (λ b. IsRunMore c.begun-sum.result c.record.new.trace (met_by (source_of u.program) c.args.limit b)) c.as_slice-2.ensures.value (c.in_ok-section.ensures.more h.owners)) in
    rw (p.1, p.2) (spell_stops c.args.limit c.args.program.now c.args.input.now c.args.trace.now _ _ _ (g.S.Shelf.state c.fetch-2.new.shelf) _ _ f.found e.found f.agrees f.gives ai e.gives (source_of u.program) (record { read = h.read; digest = u.digest; line = h.line }) (e.says ∙ f.says) (shelf_goes_on _ _ _ f.grows e.grows) o.says o.grows
    o.found at k.read _ c.record.new.trace k.is k.goes more _ c.in_err-spelling.ensures)

pub returns-in_err-put : goal.returns-in_err-put
returns-in_err-put g c =
    let p = err_from_is_err_and c.from_residual-in_err-put.result c.from_residual-in_err-put.ensures.1 in
    let f = c.in_ok-source.ensures in
    let e = c.in_ok-bytes.ensures in
    let o = c.in_ok-old.ensures in
    let u = c.in-Records.recordable in
    let h = recordable _ u _ _ c.in-Records.is c.as_slice.ensures.value c.in_ok-said.ensures in
    let ai = subst (λ (says : List ℕ → Said). Agrees (says c.args.input.now) e.found) f.says e.agrees in
    let at = subst (λ (says : List ℕ → Said). Agrees (says c.args.trace.now) o.found) (e.says ∙ f.says) o.agrees in
    let k = old_of (g.S.Shelf.state c.fetch-2.new.shelf) (g.S.Shelf.state c.fetch_old.new.shelf) u.digest c.args.trace.now o.found c.in_ok-old.old o.gives in
    let more =
    subst (λ (t : Trace). IsRunMore t c.record.new.trace (met_by (source_of u.program) c.args.limit c.in_ok-bytes.bytes.items)) c.begun-sum.ensures
    (subst (λ b. IsRunMore c.begun-sum.result c.record.new.trace (met_by (source_of u.program) c.args.limit b)) c.as_slice-2.ensures.value (c.in_ok-section.ensures.more h.owners)) in
    let whole = c.as_slice-3.ensures.value ∙ (c.in_ok-section.ensures.section ∙ ap (λ b. section c.args.input.now (source_of u.program) b c.args.limit) c.as_slice-2.ensures.value) in
    rw (p.1, p.2) (into_breaks c.args.limit c.args.program.now c.args.input.now c.args.trace.now _ _ _ (g.S.Shelf.state c.fetch-2.new.shelf) _ _ f.found e.found f.agrees f.gives ai e.gives (source_of u.program) (record { read = h.read; digest = u.digest; line = h.line }) (e.says ∙ f.says) (shelf_goes_on _ _ _ f.grows e.grows) o.says o.grows
    o.found at k.read _ c.record.new.trace k.is k.goes more c.in_ok-spelling.ensures.1 _ c.as_slice-3.result.now whole _ c.in_err-put.ensures)

pub returns : goal.returns
returns g c =
    let f = c.in_ok-source.ensures in
    let e = c.in_ok-bytes.ensures in
    let o = c.in_ok-old.ensures in
    let u = c.in-Records.recordable in
    let h = recordable _ u _ _ c.in-Records.is c.as_slice.ensures.value c.in_ok-said.ensures in
    let ai = subst (λ (says : List ℕ → Said). Agrees (says c.args.input.now) e.found) f.says e.agrees in
    let at = subst (λ (says : List ℕ → Said). Agrees (says c.args.trace.now) o.found) (e.says ∙ f.says) o.agrees in
    let k = old_of (g.S.Shelf.state c.fetch-2.new.shelf) (g.S.Shelf.state c.fetch_old.new.shelf) u.digest c.args.trace.now o.found c.in_ok-old.old o.gives in
    let more =
    subst (λ (t : Trace). IsRunMore t c.record.new.trace (met_by (source_of u.program) c.args.limit c.in_ok-bytes.bytes.items)) c.begun-sum.ensures
    (subst (λ b. IsRunMore c.begun-sum.result c.record.new.trace (met_by (source_of u.program) c.args.limit b)) c.as_slice-2.ensures.value (c.in_ok-section.ensures.more h.owners)) in
    let whole = c.as_slice-3.ensures.value ∙ (c.in_ok-section.ensures.section ∙ ap (λ b. section c.args.input.now (source_of u.program) b c.args.limit) c.as_slice-2.ensures.value) in
    into_ends c.args.limit c.args.program.now c.args.input.now c.args.trace.now _ _ _ (g.S.Shelf.state c.fetch-2.new.shelf) (g.S.Shelf.state c.fetch_old.new.shelf) _ f.found e.found f.agrees f.gives ai e.gives (source_of u.program) (record { read = h.read; digest = u.digest; line = h.line }) (e.says ∙ f.says) (shelf_goes_on _ _ _ f.grows e.grows) o.says o.grows
    o.found at k.read _ c.record.new.trace k.is k.goes more c.in_ok-spelling.ensures.1 _ c.as_slice-3.result.now whole _ c.as_slice-4.result.now c.keep.result c.in_ok-put.ensures (c.as_slice-4.ensures.value ∙ c.in_ok-spelling.ensures.0) c.keep.ensures
