-- Programs of the checker that aren't refused are orderly, and each call of their runs is a walk of its function.
use Rattle.std.proofs.Common.{◌≡◌, sym, ap, ◌∙◌, subst}
use Rattle.c_syntax.specs.Shape.{UnitShape}
use Rattle.c_tree.specs.Units.{TypedUnit, typed_unit, complaints}
use Rattle.c_tree.specs.Programs.{IsProgram}
use Rattle.c_tree.proofs.Programs.{typed_again}
use Rattle.c_walk.specs.Units as units
use Rattle.c_meaning.specs.Calls.{Source}
use Rattle.c_sites_probes.specs.Marked.{unit_mark}
use Rattle.probe_rules.specs.Simulation.{IsPlain}
use Rattle.probe_laws.proofs.BareMarks.{typed_mark}
use Rattle.probe_laws.proofs.FewItems.{is_plain}
use Rattle.probe_laws.proofs.Laws.{program_fits}
use Rattle.flow_calls.proofs.Laws as calls
use Rattle.flow_accepted.specs.Orderly.{AcceptedIsOrderly, AcceptedCallsWalk, AcceptedCallsLeave}
use Rattle.flow_accepted.proofs.Apt.{AreAptExternals}
use Rattle.flow_accepted.proofs.AptUnits.{typed_apt}
use Rattle.flow_accepted.proofs.Orders.{externals_orderly}

-- typed once more, a unit has the same complaints
same_complaints : (u v : UnitShape) → v ≡ (typed_unit u).unit → complaints v ≡ complaints u
same_complaints u v e = ap complaints e ∙ ap (λ (t : TypedUnit). t.state.complaints) (typed_again u)

program_apt : (P : Source) → IsProgram P.unit P.tables → IsPlain P → AreAptExternals P.unit.externals
program_apt P is plain =
    let u = is.source in
    let clean = sym (same_complaints u P.unit is.typed) ∙ is.clean in
    let none = sym (typed_mark u) ∙ ap unit_mark (sym is.typed) ∙ plain in
    subst (λ (v : UnitShape). AreAptExternals v.externals) (sym is.typed) (typed_apt u is.sound.shaped.all clean none)

pub accepted_is_orderly : AcceptedIsOrderly
accepted_is_orderly P is taken initialised input limit f s e =
    let plain = is_plain P taken in
    externals_orderly P.tables s.file P.unit.externals units.no_items (program_fits P is plain) (program_apt P is plain) (initialised input limit f s e)

pub accepted_calls_walk : AcceptedCallsWalk
accepted_calls_walk P is taken initialised input limit a le = calls.each_call_walks P (accepted_is_orderly P is taken initialised) input limit a le

pub accepted_calls_leave : AcceptedCallsLeave
accepted_calls_leave P is taken initialised input limit a z le r = calls.each_call_leaves P (accepted_is_orderly P is taken initialised) input limit a z le r
