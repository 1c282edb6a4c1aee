-- The totals of the runs, and what was said of them.
use Rattle.std.proofs.Common.{ap, ◌∙◌, [], map}
use Rattle.std.specs.List.{flat_map}
use Rattle.atac_self.specs.Summary.{summary_text}
use Rattle.atac_programs.specs.Sections.{ended_line}
use Rattle.probe_watch.specs.Logs.{bytes_in}
use Rattle.atac_programs.specs.Programs.{shown}
use Rattle.atac_commands.proofs.Watched.{sum_text_of}
use Rattle.atac_commands.proofs.watching.summed.Goals as goal

pub returns-clause-text : goal.returns-clause-text
returns-clause-text g c = λ P h.
    let stands = c.in_ok-run_on_all.ensures P c.args.understood.items [] (c.new-covering.ensures P h) in
    let lines = c.as_slice-2.ensures.value ∙ (c.in_ok-ends.ensures ∙ ap (flat_map ended_line) c.as_slice.ensures.value) in
    let is =
    c.in_ok-text.ensures
    ∙ (ap (λ e. summary_text c.args.length e c.as_slice-3.result.now c.as_slice-4.result.now) lines
    ∙ ap (summary_text c.args.length (flat_map ended_line c.in_ok-fed.fed.ends.items) c.as_slice-3.result.now) c.as_slice-4.ensures.value) in
    sum_text_of _ P _ c.args.understood.items c.args.limit c.args.length (map bytes_in c.args.inputs.now) c.in_ok-fed.fed _ _ (rw c.probed.ensures stands.simulates) c.in_ok-fed.ensures.fed
    (c.as_slice-3.ensures.value ∙ c.in_ok-totals.ensures P c.args.understood.items (shown P c.args.limit (map bytes_in c.args.inputs.now)) stands) is
