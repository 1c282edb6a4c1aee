-- The commands that the code reads as commands.
use Rattle.std.specs.Prelude.{◌≤◌, ℕ, List, map, string_bytes, ◌<◌, length}
use Rattle.atac_words.specs.declared.words.Turns.{Turns}
use Rattle.atac_words.specs.declared.words.Asked.{Asked}
use Rattle.atac_words.specs.declared.words.Asked.TheVariants as asked
use Rattle.atac_words.specs.Words.{Command, Check, ListItems, Instrument, Cover, Run, RunInto, Merge, Tell, Pick, Watch, SelfCover, turns_most, watched_most}

abbrev pub command_of : Asked → Command
command_of (asked.Check program) = Check program.now
command_of (asked.List program) = ListItems program.now
command_of (asked.Instrument program out) = Instrument program.now out.now
command_of (asked.Cover limit program inputs) = Cover limit program.now (map string_bytes inputs.now)
command_of (asked.Run limit program input) = Run limit program.now input.now
command_of (asked.RunInto limit program input trace) = RunInto limit program.now input.now trace.now
command_of (asked.Merge out traces) = Merge out.now (map string_bytes traces.now)
command_of (asked.Tell view program traces) = Tell view program.now (map string_bytes traces.now)
command_of (asked.Pick limit program inputs) = Pick limit program.now (map string_bytes inputs.now)
command_of (asked.Watch limit program input name) = Watch limit program.now input.now name.now
command_of (asked.SelfCover limit seed) = SelfCover limit seed

-- no more turns are asked for than may be, and what is merged is some trace
abbrev pub IsFew : Asked → Type 0
IsFew (asked.Check program) = Unit {0}
IsFew (asked.List program) = Unit {0}
IsFew (asked.Instrument program out) = Unit {0}
IsFew (asked.Cover limit program inputs) = limit ≤ turns_most
IsFew (asked.Run limit program input) = limit ≤ turns_most
IsFew (asked.RunInto limit program input trace) = limit ≤ turns_most
IsFew (asked.Merge out traces) = 0 < length traces.now
IsFew (asked.Tell view program traces) = Unit {0}
IsFew (asked.Pick limit program inputs) = limit ≤ turns_most
IsFew (asked.Watch limit program input name) = limit ≤ watched_most
IsFew (asked.SelfCover limit seed) = limit ≤ turns_most

abbrev pub turns_of : Turns → ℕ × List (List ℕ)
turns_of t = (t.limit, map string_bytes t.words.now)
