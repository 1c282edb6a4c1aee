-- Each way out of `check`.
use Rattle.std.proofs.Common.{refl, ap, sym, ◌∙◌, Some, ◌∷◌, []}
use Rattle.std.proofs.lemmas.Result.{err_from_is_err_and}
use Rattle.atac_words.specs.Words.{Check}
use Rattle.atac_commands.specs.Readings.{Refuses, Counted}
use Rattle.atac_commands.specs.Answers.{Answer, text}
use Rattle.atac_commands.proofs.Asked.{check_stopped, checked, check_refused, check_done}
use Rattle.atac_commands.proofs.Exits.{wants_at_once, program_stops, not_accepted, put_ends, known_nothing}
use Rattle.atac_programs.proofs.Reading as reading
use Rattle.atac_steps.proofs.Growing.{sink_stays}
use Rattle.atac_commands.proofs.commands.check.Goals as goal

pub returns-in_err-source : goal.returns-in_err-source
returns-in_err-source g c =
    let p = err_from_is_err_and c.from_residual.result c.from_residual.ensures.1 in
    let f = c.in_err-source.ensures in
    rw (p.1, p.2) (program_stops _ (Some (Check _)) _ _ _ f.found [] (f.agrees, tt) f.says f.grows
    _ 1048576 _ f.gives refl (λ h. check_stopped c.args.program.now f.found _ h))

pub returns-in_err-said : goal.returns-in_err-said
returns-in_err-said g c =
    let p = err_from_is_err_and c.from_residual-in_err-said.result c.from_residual-in_err-said.ensures.1 in
    let f = c.in_ok-source.ensures in
    rw (p.1, p.2) (wants_at_once _ (Some (Check _)) _ _ _ f.found [] (f.agrees, tt) f.says f.grows)

pub returns-in-Refuses : goal.returns-in-Refuses
returns-in-Refuses g c =
    let f = c.in_ok-source.ensures in
    let is = reading.count_refused _ c.in-Refuses.said _ _ c.in-Refuses.is c.as_slice.ensures.value c.in_ok-said.ensures in
    not_accepted _ (Some (Check _)) _ _ _ _ (f.found ∷ []) (f.agrees, tt) (Refuses _) (checked c.args.program.now f.found _ f.gives (Refuses _) is) f.says f.grows (sink_stays _)
    _ _ (check_refused c.args.program.now f.found _ f.gives _) (known_nothing _)

pub returns : goal.returns
returns g c =
    let f = c.in_ok-source.ensures in
    let h = reading.count_given _ c.in-Counts.line _ _ c.in-Counts.is c.as_slice.ensures.value c.in_ok-said.ensures in
    let done = check_done c.args.program.now f.found _ f.gives h.counts in
    let line = c.as_bytes.ensures.value ∙ h.says in
    put_ends _ (Some (Check _)) _ _ _ _ (f.found ∷ []) (f.agrees, tt) (Counted h.counts) (checked c.args.program.now f.found _ f.gives (Counted h.counts) h.counted) f.says f.grows c.put.ensures.grows
    (g.W.Sink.state c.args.out.now) [] _ c.put.result c.put.ensures
    (ap (λ (a : Answer). a.end) done) (ap (λ (a : Answer). a.kept) done) (ap (λ (a : Answer). text a) done ∙ sym line) (known_nothing _) (sink_stays _)
