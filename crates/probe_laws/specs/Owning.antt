-- In a program with its probes each use probe belongs to the decision of its use.
use Rattle.std.specs.Prelude.{◌≡◌, ◌<◌, ℕ, None}
use Rattle.c_syntax.specs.declared.text.Text.{Text}
use Rattle.c_sites_probes.specs.Owned.{owner_of, owned_in}
use Rattle.c_meaning.specs.Calls.{Source}
use Rattle.probe_rules.specs.Instrumented.{instrumented}
use Rattle.probe_laws.specs.Laws.{IsTaken}
use Rattle.probe_laws.specs.Owners.{owner_in_program}

-- the innermost test or select round it is that of the use's decision
abbrev pub ProgramOwns : Type 0
ProgramOwns = (P : Source) → IsTaken P → (digest : Text) (u : ℕ) → owner_of u (owned_in (instrumented digest P).unit) ≡ owner_in_program P u

-- and no use has a number that no probe may have
abbrev pub ProgramOwnsFew : Type 0
ProgramOwnsFew = (P : Source) → IsTaken P → (u : ℕ) → 16383 < u → owner_in_program P u ≡ None
