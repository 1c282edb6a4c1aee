-- The section of the run, and what was said of it.
use Rattle.std.proofs.Common.{ap, ◌∙◌, map}
use Rattle.c_meaning.specs.Sources.{source_of}
use Rattle.probe_watch.specs.Logs.{bytes_in}
use Rattle.atac_commands.proofs.Watched.{watch_text_of}
use Rattle.atac_commands.proofs.watching.watched.Goals as goal

pub returns-clause-text : goal.returns-clause-text
returns-clause-text g c = λ P simulates.
    watch_text_of _ P (source_of c.args.program.now) c.args.limit c.args.input.now c.args.bytes.items c.args.name.now _ c.in_ok-fed.fed _ (ap (map bytes_in) (c.as_slice.ensures.value ∙ c.in_ok-inputs.ensures)) simulates c.in_ok-fed.ensures.fed c.in_ok-text.ensures
