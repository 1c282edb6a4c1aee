-- The section, from the run of which nothing is heard.
use Rattle.std.proofs.Common.{sym, ap, ◌∙◌}
use Rattle.c_meaning.specs.Runs.{Outcome}
use Rattle.atac_programs.specs.Sections.{section_text}
use Rattle.atac_programs.proofs.program.section_of.Goals as goal

pub returns : goal.returns
returns c =
    let w = c.in_ok-ended.ensures.run in
    c.in_ok-text.ensures ∙ ap (λ (o : Outcome). section_text c.args.input_name.now o) (sym w.2)
