-- What typing takes for a constant initialiser has a value, once the objects of file scope of a program are made.
use Rattle.std.proofs.Common.{◌≡◌, ℕ, ◌-◌, List, [], length, nat_eq, Bool, true, false, Option, Some, refl, sym, ap, ◌∙◌, subst, arith}
use Rattle.std.specs.Prelude.{slice_get, if◌then◌else◌}
use Rattle.c_syntax.specs.Shape.{UnitShape}
use Rattle.c_syntax.specs.Shaped.{ShapedExternals}
use Rattle.c_type_rules.specs.Layouts.{Extent, known, incomplete, in_row}
use Rattle.c_tables.specs.Tables.{TablesShape}
use Rattle.c_tree.specs.Units.{start, type_line, type_externals, any_main, type_unit, bodies}
use Rattle.c_tree.proofs.Grows.{demand_grows}
use Rattle.c_meaning.specs.declared.end.Flow.{Flow}
use Rattle.c_meaning.specs.State as meaning
use Rattle.c_meaning.specs.Results.{Gives}
use Rattle.c_meaning.specs.Calls.{Source}
use Rattle.c_meaning.specs.Runs.{all_made, audible}
use Rattle.probe_laws.proofs.Settled.{IsClean}
use Rattle.probe_laws.proofs.Rules.{back}
use Rattle.probe_laws.proofs.FitUnits.{start_knows}
use Rattle.flow_initial.proofs.Cores.{core}
use Rattle.flow_values.specs.Programs.{ParametersHaveRows}
use Rattle.flow_values.proofs.Reaching.{Variables, none_added}
use Rattle.flow_values.proofs.UnitsIn.{line_kept, line_goes, start_good, demand_tables, reaches_itself, same_complaints, same_tables, accepted_is_initialised}
use Rattle.flow_values.specs.Made.{HaveRoom, AreBound}
use Rattle.flow_values.specs.FilePrograms.{ProgramsHaveConstants, RowsSuffice}
use Rattle.flow_values.proofs.Values.{made_give_constants}
use Rattle.flow_values.proofs.Ending.{IsFine, onward, EndsIn, between_none}
use Rattle.flow_values.proofs.FileUnits.{IsRoomy, AreCounted, row_there, externals_past}
use Rattle.flow_values.proofs.FileRuns.{Leads, made_finds}

no_room : (b : Bool) (i : ℕ) (e : Extent) → (if b then incomplete else in_row (slice_get [] i)) ≡ known e → ⊥
no_room true i e h = cc
no_room false i e h = cc

start_fine : (defined : Option (List Bool)) → IsFine (core (start defined))
start_fine defined = (start_good defined, (record { even = refl; extents = λ n e h. absurd (no_room (nat_eq n 0) (n - 1) e h) }, λ n e h. absurd (no_room (nat_eq n 0) (n - 1) e h)))

made_is : (P : Source) (s u : meaning.State) (f : Flow) → all_made P audible s ≡ Gives f u → AreCounted u.file 0 P.unit.externals
made_is P s u f e = subst (Leads (λ (v : meaning.State). AreCounted v.file 0 P.unit.externals)) e (made_finds P audible s)

-- in the tables at the end of a unit of which nothing is complained
unit_given : ParametersHaveRows → (t : TablesShape) (b : List meaning.Bound) (defined : Option (List Bool)) (u : UnitShape) → ShapedExternals u.externals → IsClean (type_unit defined u).state → (type_unit defined u).state.tables ≡ t
    → AreCounted b 0 (type_unit defined u).unit.externals → HaveRoom t × AreBound t b
unit_given rows t b defined u is clean e counted =
    let v = type_line u.line (start defined) in
    let y = type_externals u.externals v in
    let same = sym (demand_tables (any_main y.state.tables.functions) 38 (y.state.at - 1) u.last y.state) ∙ e in
    let fine = onward (start defined) v (λ J kept. line_kept J kept.all.types u.line (start defined)) (start_fine defined) in
    let none : length v.tables.variables ≡ 0 = ap length (line_kept (Variables []) (none_added []) u.line (start defined) refl) in
    let roomy : IsRoomy v = λ t ends. between_none t _ 0 (length v.tables.variables) (sym none) in
    let all = externals_past rows u.externals v is (line_goes u.line (start defined) (start_knows defined)).0 fine roomy (back (demand_grows (any_main y.state.tables.functions) 38 (y.state.at - 1) u.last y.state) clean) in
    let size : length t.variables ≡ length y.state.tables.variables = ap (λ (x : TablesShape). length x.variables) (sym same) in
    let structures : length t.structures ≡ length y.state.tables.structures = ap (λ (x : TablesShape). length x.structures) (sym same) in
    let ends : EndsIn t (core y.state) = (reaches_itself t y.state same, omega (arith, structures)) in (
      λ n w at o. let r = row_there t.variables n w at in all.0 t ends n w (omega (arith, r.0)) (omega (arith, r.1, size)) at o,
      λ n w at o. let r = row_there t.variables n w at in all.1 t b ends (subst (λ m. AreCounted b m y.externals) (sym none) counted) n w (omega (arith, none, r.0)) (omega (arith, r.1, size)) at o,
    )

pub programs_have_constants : ProgramsHaveConstants
programs_have_constants rows P is input limit f s e =
    let u = is.source in
    let clean = sym (same_complaints u P.unit is.typed) ∙ is.clean in
    let tables = sym (same_tables u P.unit is.typed) ∙ is.tables in
    let counted = subst (λ (v : UnitShape). AreCounted s.file 0 v.externals) is.typed (made_is P (meaning.start input limit) s f e) in
    let given = unit_given rows P.tables s.file (Some (bodies u)) u is.sound.shaped.all (ap length clean) tables counted in
    made_give_constants P.tables s.file given.0 given.1

pub rows_suffice : RowsSuffice
rows_suffice rows P is = accepted_is_initialised rows P is (programs_have_constants rows P is)
