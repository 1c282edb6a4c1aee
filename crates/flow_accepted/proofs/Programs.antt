-- Programs of the checker that aren't refused are orderly, since their parameters have rows and their constants have values.
use Rattle.std.proofs.Common.{sym, subst, ◌∙◌}
use Rattle.c_tree.specs.Programs.{IsProgram}
use Rattle.c_meaning.specs.Calls.{Source}
use Rattle.flow_initial.specs.Lengths.{AreFilled}
use Rattle.flow_values.specs.Initialised.{AreInitialised}
use Rattle.flow_accepted.proofs.OrderlyPrograms as orderly
use Rattle.flow_values.proofs.Begun.{parameters_have_rows}
use Rattle.flow_values.proofs.FilePrograms.{rows_suffice}
use Rattle.flow_accepted.proofs.KindedUnits.{accepted_is_kinded}
use Rattle.flow_accepted.proofs.Layered.{accepted_is_layered}
use Rattle.flow_owned.proofs.Programs.{same_tables, programs_own_their_names}
use Rattle.flow_accepted.proofs.Scalars.{programs_have_scalar_parameters}
use Rattle.flow_initial.proofs.Arrays.{arrays_are_filled}
use Rattle.flow_parts.proofs.Positions.{covered_parts, covered_part_p_uses}
use Rattle.flow_accepted.specs.Laws.{TakenIsOrderly, TakenHasParts, TakenCallsWalk, TakenCallsLeave, TakenPairsAreListed, TakenPUsesAreListed}

initialised : (P : Source) → IsProgram P.unit P.tables → AreInitialised P
initialised P is = rows_suffice parameters_have_rows P is

pub taken_is_orderly : TakenIsOrderly
taken_is_orderly P is taken = orderly.accepted_is_orderly P is taken (initialised P is)

pub taken_has_parts : TakenHasParts
taken_has_parts P is taken = record {
  orderly = taken_is_orderly P is taken;
  kinded = accepted_is_kinded P is;
  own = programs_own_their_names P.unit P.tables is;
  layered = accepted_is_layered P is;
  filled = subst AreFilled (sym (same_tables is.source P.unit is.typed) ∙ is.tables) (arrays_are_filled is.source is.sound.shaped);
  scalars = programs_have_scalar_parameters P.unit P.tables is;
}

pub taken_calls_walk : TakenCallsWalk
taken_calls_walk P is taken = orderly.accepted_calls_walk P is taken (initialised P is)

pub taken_calls_leave : TakenCallsLeave
taken_calls_leave P is taken = orderly.accepted_calls_leave P is taken (initialised P is)

pub taken_pairs_are_listed : TakenPairsAreListed
taken_pairs_are_listed P is taken = covered_parts P (taken_has_parts P is taken)

pub taken_p_uses_are_listed : TakenPUsesAreListed
taken_p_uses_are_listed P is taken = covered_part_p_uses P (taken_has_parts P is taken)
