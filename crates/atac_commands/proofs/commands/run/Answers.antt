-- Each way out of `run`.
use Rattle.std.proofs.Common.{refl, ap, sym, ◌∙◌, subst, Some, ◌∷◌, [], List, ℕ}
use Rattle.std.proofs.lemmas.Result.{err_from_is_err_and}
use Rattle.atac_base.specs.Outside.{Said, Agrees}
use Rattle.atac_words.specs.Words.{Run}
use Rattle.atac_programs.specs.Programs.{section}
use Rattle.atac_commands.specs.Readings.{Refuses, Runs}
use Rattle.atac_commands.specs.Answers.{Answer, text}
use Rattle.c_meaning.specs.Sources.{source_of}
use Rattle.atac_commands.proofs.Asked.{run_stopped_first, run_understands, run_refused, run_stopped, run_done, run_text}
use Rattle.atac_commands.proofs.Exits.{wants_memory, wants_at_once, program_stops, not_accepted, fetch_stops, put_ends, known_nothing}
use Rattle.atac_programs.proofs.Reading.{unread, runnable}
use Rattle.atac_steps.proofs.Found.{guess, guess_agrees}
use Rattle.atac_steps.proofs.Growing.{sink_stays, shelf_goes_on}
use Rattle.atac_commands.proofs.commands.run.Goals as goal

pub returns-in_err-source : goal.returns-in_err-source
returns-in_err-source g c =
    let p = err_from_is_err_and c.from_residual.result c.from_residual.ensures.1 in
    let f = c.in_err-source.ensures in
    let said = (g.S.Shelf.state c.args.shelf.now).says c.args.input.now in
    rw (p.1, p.2) (program_stops _ (Some (Run _ _ _)) _ _ _ f.found (guess said ∷ []) (f.agrees, (guess_agrees said, tt)) f.says f.grows
    _ 67108864 _ f.gives refl (λ h. run_stopped_first c.args.limit c.args.program.now c.args.input.now f.found (guess said) _ h))

pub returns-in_err-said : goal.returns-in_err-said
returns-in_err-said g c =
    let p = err_from_is_err_and c.from_residual-in_err-said.result c.from_residual-in_err-said.ensures.1 in
    let f = c.in_ok-source.ensures in
    let said = (g.S.Shelf.state c.args.shelf.now).says c.args.input.now in
    rw (p.1, p.2) (wants_at_once _ (Some (Run _ _ _)) _ _ _ f.found (guess said ∷ []) (f.agrees, (guess_agrees said, tt)) f.says f.grows)

pub returns-in-Refuses : goal.returns-in-Refuses
returns-in-Refuses g c =
    let f = c.in_ok-source.ensures in
    let said = (g.S.Shelf.state c.args.shelf.now).says c.args.input.now in
    let is = unread _ c.in-Refuses.said _ _ c.in-Refuses.is c.as_slice.ensures.value c.in_ok-said.ensures in
    not_accepted _ (Some (Run _ _ _)) _ _ _ _ (f.found ∷ guess said ∷ []) (f.agrees, (guess_agrees said, tt)) (Refuses _) (run_understands c.args.limit c.args.program.now c.args.input.now f.found (guess said) _ f.gives (Refuses _) is) f.says f.grows (sink_stays _)
    _ _ (run_refused c.args.limit c.args.program.now c.args.input.now f.found (guess said) _ f.gives _) (known_nothing _)

pub returns-in_err-bytes : goal.returns-in_err-bytes
returns-in_err-bytes g c =
    let p = err_from_is_err_and c.from_residual-in_err-bytes.result c.from_residual-in_err-bytes.ensures.1 in
    let f = c.in_ok-source.ensures in
    let h = c.in_err-bytes.ensures in
    let agrees = subst (λ (says : List ℕ → Said). Agrees (says c.args.input.now) h.found) f.says h.agrees in
    let u = c.in-Runs.runnable in
    let q = runnable _ u _ _ c.in-Runs.is c.as_slice.ensures.value c.in_ok-said.ensures in
    let P = source_of u in
    let is = run_understands c.args.limit c.args.program.now c.args.input.now f.found h.found _ f.gives (Runs P) q in
    rw (p.1, p.2) (fetch_stops _ (Some (Run _ _ _)) _ _ _ _ (f.found ∷ h.found ∷ []) (f.agrees, (agrees, tt)) (Runs P) is (h.says ∙ f.says) (shelf_goes_on _ _ _ f.grows h.grows) (sink_stays _)
    1 _ 16777216 h.found (g.S.Shelf.state c.fetch.new.shelf) [] _ h.gives refl f.grows
    (λ e. let stopped = run_stopped c.args.limit c.args.program.now c.args.input.now f.found h.found _ f.gives P _ e in
    (sym (ap (λ (a : Answer). a.end) stopped), sym (ap (λ (a : Answer). text a) stopped)))
    refl (known_nothing _))

pub returns-in_err-section : goal.returns-in_err-section
returns-in_err-section g c =
    let p = err_from_is_err_and c.from_residual-in_err-section.result c.from_residual-in_err-section.ensures.1 in
    let f = c.in_ok-source.ensures in
    let h = c.in_ok-bytes.ensures in
    let agrees = subst (λ (says : List ℕ → Said). Agrees (says c.args.input.now) h.found) f.says h.agrees in
    let u = c.in-Runs.runnable in
    let q = runnable _ u _ _ c.in-Runs.is c.as_slice.ensures.value c.in_ok-said.ensures in
    let P = source_of u in
    let is = run_understands c.args.limit c.args.program.now c.args.input.now f.found h.found _ f.gives (Runs P) q in
    rw (p.1, p.2) (wants_memory _ (Some (Run _ _ _)) _ _ _ _ (f.found ∷ h.found ∷ []) (f.agrees, (agrees, tt)) (Runs P) is (h.says ∙ f.says) (shelf_goes_on _ _ _ f.grows h.grows) (sink_stays _) 0 [] refl (known_nothing _))

pub returns : goal.returns
returns g c =
    let f = c.in_ok-source.ensures in
    let h = c.in_ok-bytes.ensures in
    let agrees = subst (λ (says : List ℕ → Said). Agrees (says c.args.input.now) h.found) f.says h.agrees in
    let u = c.in-Runs.runnable in
    let q = runnable _ u _ _ c.in-Runs.is c.as_slice.ensures.value c.in_ok-said.ensures in
    let P = source_of u in
    let is = run_understands c.args.limit c.args.program.now c.args.input.now f.found h.found _ f.gives (Runs P) q in
    let whole = run_text c.args.limit c.args.program.now c.args.input.now f.found h.found _ f.gives P _ h.gives in
    let done = run_done c.args.limit c.args.program.now c.args.input.now f.found h.found _ f.gives P _ h.gives in
    let line = c.as_slice-3.ensures.value ∙ (c.in_ok-section.ensures ∙ ap (λ b. section c.args.input.now P b c.args.limit) c.as_slice-2.ensures.value) in
    put_ends _ (Some (Run _ _ _)) _ _ _ _ (f.found ∷ h.found ∷ []) (f.agrees, (agrees, tt)) (Runs P) is (h.says ∙ f.says) (shelf_goes_on _ _ _ f.grows h.grows) c.put.ensures.grows
    (g.W.Sink.state c.args.out.now) [] _ c.put.result c.put.ensures
    (ap (λ (a : Answer). a.end) done) (ap (λ (a : Answer). a.kept) done) (whole ∙ sym line) (known_nothing _) (sink_stays _)
