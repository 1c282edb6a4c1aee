-- What holds of every program of the checker: it does with its probes what it does without them.
use Rattle.std.specs.Prelude.{◌≡◌, [], None}
use Rattle.c_syntax.specs.declared.text.Text.{Text}
use Rattle.c_syntax.specs.Shape.{UnitShape}
use Rattle.c_syntax.specs.Shaped.{ShapedUnit}
use Rattle.c_tree.specs.Units.{typed_unit, complaints}
use Rattle.c_tree.specs.Programs.{IsProgram}
use Rattle.c_sites_probes.specs.Marked.{unit_mark}
use Rattle.c_meaning.specs.Calls.{Source}
use Rattle.c_sites.specs.Refused.{refusal}
use Rattle.probe_rules.specs.Instrumented.{instrumented}
use Rattle.probe_rules.specs.Fitting.{IsFitUnit, HasFewItems}
use Rattle.probe_rules.specs.Simulation.{all_walked, IsPlain, Simulates}

-- a plain unit that the grammar allows, typed without complaint, is fit
abbrev pub TypedFits : Type 0
TypedFits = (u : UnitShape) → ShapedUnit u → complaints u ≡ [] → unit_mark u ≡ None → IsFitUnit (typed_unit u).unit

-- the program isn't refused: no probe stands in it, and not too many items are counted
abbrev pub IsTaken : Source → Type 0
IsTaken P = refusal P.tables P.unit ≡ None

abbrev pub TakenIsPlain : Type 0
TakenIsPlain = (P : Source) → IsTaken P → IsPlain P

abbrev pub TakenIsFew : Type 0
TakenIsFew = (P : Source) → IsTaken P → HasFewItems (all_walked P)

abbrev pub ProgramFits : Type 0
ProgramFits = (P : Source) → IsProgram P.unit P.tables → IsPlain P → IsFitUnit P.unit

-- whichever digest stands in its line
abbrev pub ProgramSimulates : Type 0
ProgramSimulates = (P : Source) → IsProgram P.unit P.tables → IsTaken P → (digest : Text) → Simulates (instrumented digest P) P
