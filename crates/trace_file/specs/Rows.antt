-- The rows of a trace, by what they are kept as.
use Rattle.std.specs.Prelude.{List, Option, Some, None, Vec, ℕ}
use Rattle.std.specs.Global.{Global}
use Rattle.atac_facts.specs.declared.tally.Counted.{Counted}
use Rattle.trace_file.specs.declared.rows.Seen.{Seen}
use Rattle.trace_file.specs.declared.rows.Seen.TheVariants.{Made, Read}
use Rattle.trace_file.specs.Lists.{Orderly, file_rows}

-- They stand in the bytes that were read, where there are such; else they were made.
abbrev pub kept_rows : List Counted → Option (Vec ℕ Global) → List Counted
kept_rows made None = made
kept_rows made (Some bytes) = file_rows bytes.items

-- Rows that were read are orderly.
abbrev pub AreOrderly : Option (Vec ℕ Global) → Type 0
AreOrderly None = Unit {0}
AreOrderly (Some bytes) = Orderly 0 (file_rows bytes.items)

abbrev pub seen_rows : Seen → List Counted
seen_rows (Made rows) = rows.now
seen_rows (Read bytes) = file_rows bytes.now
