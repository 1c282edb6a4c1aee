-- What a read to the end leaves.
use Rattle.std.specs.Prelude.{ℕ, ◌≤◌, List, length}
use Rattle.atac_cli.specs.declared.shelf.ReadEnd.{ReadEnd}
use Rattle.atac_cli.specs.declared.shelf.ReadEnd.TheVariants.{End}

-- All the bytes that were read, where they are at most the limit.
abbrev pub ReadsUpTo : ℕ → ReadEnd → List ℕ → Type 0
ReadsUpTo most End bytes = length bytes ≤ most
ReadsUpTo most end bytes = Unit {0}
