-- Every program of the checker that isn't refused does with its probes what it does without them.
use Rattle.std.proofs.Common.{◌≡◌, sym, ap, ◌∙◌, subst}
use Rattle.c_syntax.specs.Shape.{UnitShape}
use Rattle.c_tree.specs.Units.{TypedUnit, typed_unit, complaints}
use Rattle.c_tree.proofs.Programs.{typed_again}
use Rattle.c_sites_probes.specs.Marked.{unit_mark}
use Rattle.probe_rules.specs.Fitting.{IsFitUnit}
use Rattle.probe_rules.proofs.Simulation.{simulates}
use Rattle.probe_laws.specs.Laws.{TypedFits, TakenIsPlain, TakenIsFew, ProgramFits, ProgramSimulates}
use Rattle.probe_laws.proofs.FewItems.{few_items, is_plain}
use Rattle.probe_laws.proofs.FitUnits as units
use Rattle.probe_laws.proofs.BareMarks.{typed_mark}

pub typed_fits : TypedFits
typed_fits u shaped clean plain = units.typed_fits u shaped.all clean plain

pub taken_is_plain : TakenIsPlain
taken_is_plain P taken = is_plain P taken

pub taken_is_few : TakenIsFew
taken_is_few P taken = few_items P taken

-- typed once more, a unit has the same complaints
same_complaints : (u v : UnitShape) → v ≡ (typed_unit u).unit → complaints v ≡ complaints u
same_complaints u v e = ap complaints e ∙ ap (λ (t : TypedUnit). t.state.complaints) (typed_again u)

pub program_fits : ProgramFits
program_fits P is plain =
    let u = is.source in
    let clean = sym (same_complaints u P.unit is.typed) ∙ is.clean in
    let none = sym (typed_mark u) ∙ ap unit_mark (sym is.typed) ∙ plain in
    subst IsFitUnit (sym is.typed) (typed_fits u is.sound.shaped clean none)

pub program_simulates : ProgramSimulates
program_simulates P is taken digest = simulates digest P (is_plain P taken) (program_fits P is (is_plain P taken)) (few_items P taken)
