-- The numbers of the code, and what a walk counts.
use Rattle.std.specs.Prelude.{◌≡◌}
use Rattle.c_walk.specs.declared.around.Around.{Around}
use Rattle.c_walk.specs.Walked.{Walked}
use Rattle.c_walk.specs.Counted.{block_count, def_count, use_count}
use Rattle.flow_rows.specs.declared.numbers.Numbers.{Numbers}

-- how many blocks, decisions, definitions and uses were walked through, and how many variables were declared
abbrev pub counts : Walked → Numbers
counts w = record { blocks = block_count w.items; decisions = w.decisions; defs = def_count w.items; uses = use_count w.items; variables = w.variables }

-- behind a walk with the first numbers, the walk leads to the second ones
abbrev pub Counted : Numbers → Numbers → (Around → Walked → Walked) → Type 0
Counted n m walk = (c : Around) (w : Walked) → counts w ≡ n → counts (walk c w) ≡ m
