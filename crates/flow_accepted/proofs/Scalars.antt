-- In each program of the checker the parameters of functions are scalars.
use Rattle.std.proofs.Common.{◌≡◌, ◌-◌, List, [], ◌∷◌, length, Bool, false, Option, Some, refl, sym, ap, ◌∙◌, subst, arith}
use Rattle.c_syntax.specs.Shape.{declarator, arrays, function, ExternalShape, defined, declared, UnitShape}
use Rattle.c_syntax.specs.Shaped.{ShapedExternals}
use Rattle.c_tables.specs.Tables.{TablesShape}
use Rattle.c_tree.specs.State.{State}
use Rattle.c_tree.specs.Units.{type_external, type_externals, start, type_line, any_main, type_unit, bodies}
use Rattle.c_tree.proofs.Grows.{demand_grows}
use Rattle.c_tree.proofs.GrowsUnits.{externals_grow}
use Rattle.c_walk.specs.Walked.{Walked}
use Rattle.c_walk.specs.Units as walks
use Rattle.c_walk.specs.Units.{walk_external}
use Rattle.c_meaning.proofs.Declared.{external_count}
use Rattle.probe_laws.proofs.Settled.{IsClean}
use Rattle.probe_laws.proofs.Rules.{back}
use Rattle.probe_laws.proofs.Known.{Knows}
use Rattle.probe_laws.proofs.FitUnits.{start_knows}
use Rattle.flow_initial.proofs.Cores.{core}
use Rattle.flow_initial.proofs.KeepsUnits as units
use Rattle.flow_values.specs.Bodies.{Reaches}
use Rattle.flow_values.proofs.Reaching.{Variables, none_added, passed_units, before}
use Rattle.flow_values.proofs.UnitsIn.{line_kept, line_goes, demand_tables, reaches_itself, same_complaints, same_tables}
use Rattle.flow_values.proofs.Begun.{parameters_have_rows}
use Rattle.flow_values.proofs.Ending.{IsFine, onward, between_none}
use Rattle.flow_values.proofs.FileUnits.{IsRoomy, external_past}
use Rattle.flow_parts.specs.Parameters.{AreScalarParameters}
use Rattle.flow_accepted.specs.Tables.{ProgramsHaveScalarParameters}
use Rattle.flow_accepted.proofs.Layered.{start_fine}
use Rattle.flow_accepted.proofs.Definitions.{defined_scalar}

-- ---- units

module _ (t : TablesShape) where
  -- where the walk has counted the rows so far
  externals_scalar : (es : List ExternalShape) (s : State) (w : Walked) → ShapedExternals es → Knows false s → IsFine (core s) → IsRoomy s → Reaches t (core (type_externals es s).state) → IsClean (type_externals es s).state
      → w.variables ≡ length s.tables.variables → AreScalarParameters t (type_externals es s).externals w
  externals_scalar [] s w is h g roomy reach clean n = tt
  externals_scalar (declared d ∷ rest) s w is h g roomy reach clean n =
      let y = type_external (declared d) s in
      let one = external_past parameters_have_rows (declared d) s is.0 h g roomy (back (externals_grow rest y.state) clean) in
      let count = one.counted in
      externals_scalar rest y.state (walk_external t y.external w) is.1 one.goes.0 one.fine one.roomy reach clean (omega (arith, external_count t y.external w, count, n))
  externals_scalar (defined specs (declarator stars x (arrays ls) i) ms c ∷ rest) s w is h g roomy reach clean n = absurd is.0.1
  externals_scalar (defined specs (declarator stars x (function ps) i) ms c ∷ rest) s w is h g roomy reach clean n =
      let e = defined specs (declarator stars x (function ps) i) ms c in
      let y = type_external e s in
      let z = type_externals rest y.state in
      let here = back (externals_grow rest y.state) clean in
      let one = external_past parameters_have_rows e s is.0 h g roomy here in
      let count = one.counted in
      let near = before t (core y.state) (core z.state) (passed_units y.state z.state (λ J kept. units.externals_keep J kept rest y.state is.1) one.fine.0).0 reach in
      (defined_scalar t specs stars x ps i ms c s w is.0 h g.0 near here n, externals_scalar rest y.state (walk_external t y.external w) is.1 one.goes.0 one.fine one.roomy reach clean (omega (arith, external_count t y.external w, count, n)))

unit_scalar : (t : TablesShape) (bodied : Option (List Bool)) (u : UnitShape) → ShapedExternals u.externals → IsClean (type_unit bodied u).state → (type_unit bodied u).state.tables ≡ t → AreScalarParameters t (type_unit bodied u).unit.externals walks.no_items
unit_scalar t bodied u is clean e =
    let v = type_line u.line (start bodied) in
    let y = type_externals u.externals v in
    let same = sym (demand_tables (any_main y.state.tables.functions) 38 (y.state.at - 1) u.last y.state) ∙ e in
    let fine = onward (start bodied) v (λ J kept. line_kept J kept.all.types u.line (start bodied)) (start_fine bodied) in
    let none : length v.tables.variables ≡ 0 = ap length (line_kept (Variables []) (none_added []) u.line (start bodied) refl) in
    let roomy : IsRoomy v = λ t ends. between_none t _ 0 (length v.tables.variables) (sym none) in
    externals_scalar t u.externals v walks.no_items is (line_goes u.line (start bodied) (start_knows bodied)).0 fine roomy (reaches_itself t y.state same) (back (demand_grows (any_main y.state.tables.functions) 38 (y.state.at - 1) u.last y.state) clean) (sym none)

-- ---- programs

pub programs_have_scalar_parameters : ProgramsHaveScalarParameters
programs_have_scalar_parameters v t is =
    let u = is.source in
    let clean = sym (same_complaints u v is.typed) ∙ is.clean in
    let tables = sym (same_tables u v is.typed) ∙ is.tables in
    let one = unit_scalar t (Some (bodies u)) u is.sound.shaped.all (ap length clean) tables in
    subst (λ (w : UnitShape). AreScalarParameters t w.externals walks.no_items) (sym is.typed) one
