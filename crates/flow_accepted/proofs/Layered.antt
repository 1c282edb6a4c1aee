-- In a program of the checker no structure lies in itself, of those that lie in a variable.
use Rattle.std.proofs.Common.{◌≡◌, ℕ, ◌-◌, List, [], length, nat_eq, Bool, true, false, Option, Some, refl, sym, ap, ◌∙◌, subst, arith}
use Rattle.std.specs.Prelude.{slice_get, if◌then◌else◌}
use Rattle.c_syntax.specs.Shape.{UnitShape}
use Rattle.c_syntax.specs.Shaped.{ShapedExternals}
use Rattle.c_type_rules.specs.Layouts.{Extent, known, incomplete, in_row}
use Rattle.c_tables.specs.Tables.{TablesShape}
use Rattle.c_tree.specs.Units.{start, type_line, type_externals, any_main, type_unit, bodies}
use Rattle.flow_initial.proofs.Cores.{core}
use Rattle.flow_values.proofs.UnitsIn.{line_kept, start_good, demand_tables, reaches_itself, same_tables}
use Rattle.flow_values.proofs.Ending.{IsFine, EndsIn}
use Rattle.flow_accepted.specs.Tables.{AcceptedIsLayered}
use Rattle.flow_accepted.proofs.Depths.{AreNested, nested_layered}
use Rattle.flow_accepted.proofs.Steps.{◌▹◌, adds_none}
use Rattle.flow_accepted.proofs.StepUnits.{externals_step}

-- ---- units

no_room : (b : Bool) (i : ℕ) (e : Extent) → (if b then incomplete else in_row (slice_get [] i)) ≡ known e → ⊥
no_room true i e h = cc
no_room false i e h = cc

pub start_fine : (defined : Option (List Bool)) → IsFine (core (start defined))
start_fine defined = (start_good defined, (record { even = refl; extents = λ n e h. absurd (no_room (nat_eq n 0) (n - 1) e h) }, λ n e h. absurd (no_room (nat_eq n 0) (n - 1) e h)))

-- in the tables at the end of a unit, whatever is complained of
unit_nested : (t : TablesShape) (defined : Option (List Bool)) (u : UnitShape) → ShapedExternals u.externals → (type_unit defined u).state.tables ≡ t → AreNested t t.variables
unit_nested t defined u is e =
    let v = type_line u.line (start defined) in
    let y = type_externals u.externals v in
    let same = sym (demand_tables (any_main y.state.tables.functions) 38 (y.state.at - 1) u.last y.state) ∙ e in
    let structures : length t.structures ≡ length y.state.tables.structures = ap (λ (x : TablesShape). length x.structures) (sym same) in
    let ends : EndsIn t (core y.state) = (reaches_itself t y.state same, omega (arith, structures)) in
    let all = adds_none t (start defined) v (λ J kept. line_kept J kept u.line (start defined)) ▹ externals_step t u.externals v is in
    subst (λ (x : TablesShape). AreNested t x.variables) same (all.nested (start_fine defined) ends tt)

-- ---- programs

pub accepted_is_layered : AcceptedIsLayered
accepted_is_layered P is =
    let u = is.source in
    nested_layered P.tables (unit_nested P.tables (Some (bodies u)) u is.sound.shaped.all (sym (same_tables u P.unit is.typed) ∙ is.tables))
