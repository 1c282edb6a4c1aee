-- Typing notes in a unit the types of the rows.
use Rattle.std.proofs.Common.{◌≡◌, ℕ, ◌-◌, List, [], ◌∷◌, append-nil, Bool, true, false, Option, Some, None, refl, sym, ap, ◌∙◌, subst}
use Rattle.std.specs.Prelude.{slice_get, is_some, nat_eq, if◌then◌else◌}
use Rattle.c_base.specs.declared.place.Pos.{Pos}
use Rattle.c_syntax.specs.declared.tree.ProgramLine.{ProgramLine}
use Rattle.c_syntax.specs.Shape.{declarator, arrays, function, ExternalShape, defined, declared, UnitShape}
use Rattle.c_syntax.specs.Shaped.{ShapedExternal, ShapedExternals}
use Rattle.c_type_rules.specs.Verdicts.{result_type}
use Rattle.c_constants.specs.Probes.{digest_of}
use Rattle.c_tables.specs.Tables.{TablesShape}
use Rattle.c_tables.specs.Rows.{row, fields_in}
use Rattle.c_tree.specs.State.{State, demand}
use Rattle.c_tree.specs.Rulings.{by, rule, kind_at}
use Rattle.c_tree.specs.Parts.{unspelled, spelled_rule, pointed}
use Rattle.c_tree.specs.Typing.{type_specs}
use Rattle.c_tree.specs.Declaring.{type_function}
use Rattle.c_tree.specs.Stating.{Surroundings, type_marks, type_compound}
use Rattle.c_tree.specs.Units.{specs_place, begun_function, type_external, type_externals, start, type_line, any_main, type_unit, TypedUnit, bodies, typed_unit}
use Rattle.c_tree.proofs.Programs.{typed_again}
use Rattle.flow_initial.proofs.Cores.{Core, core, Kept, KeptByUnits, ◌▸◌}
use Rattle.flow_initial.proofs.KeepsNodes as nodes
use Rattle.flow_initial.proofs.KeepsParts as parts
use Rattle.flow_initial.proofs.KeepsUnits as units
use Rattle.flow_values.specs.Bodies.{Good, Reaches}
use Rattle.flow_leaves.specs.KindedPrograms.{IsKindedExternal, AreKindedExternals}
use Rattle.flow_accepted.specs.Tables.{AcceptedIsKinded}
use Rattle.flow_accepted.proofs.Along.{Along, up_to_units, onward, onward_units}
use Rattle.flow_accepted.proofs.KindedDecls.{decl_kinded}
use Rattle.flow_accepted.proofs.KindedStatements.{compound_kinded}

module _ (t : TablesShape) where
  external_kinded : (e : ExternalShape) (s : State) → ShapedExternal e → Along t s (type_external e s).state → IsKindedExternal t (type_external e s).external
  external_kinded (declared d) s is g = decl_kinded t d s is g
  external_kinded (defined specs (declarator stars x (arrays ls) i) ms c) s is g = absurd is.1
  external_kinded (defined specs (declarator stars x (function ps) i) ms c) s is g =
      let y = type_specs false specs unspelled s in
      let r = spelled_rule y.spelled in
      let q = specs_place specs in
      let v = rule r s.at q y.state in
      let k = kind_at r in
      let f = type_function true k stars x ps i v in
      let a = begun_function f f.state in
      let m = type_marks ms a in
      let e : Surroundings = record { loop = false; breakable = false; result = kind_at (by 33 (result_type (pointed stars k))) } in
      let h = onward_units t s m (type_compound e c m).state
      (λ J kept. let types = kept.all.types in nodes.specs_keep J types false specs unspelled s ▸ nodes.rule_keeps J types r s.at q y.state ▸ parts.function_keeps J types true k stars x ps i v
      ▸ kept.turning f.number f.state ▸ units.variables_keep J kept.all f.given _ (units.function_given true k stars x ps i v) ▸ parts.marks_keep J types ms a)
      (g.0, record { fields = g.1.fields; more = g.1.more; added = g.1.added }) in
      compound_kinded t e c m is.3 h

  externals_kinded : (es : List ExternalShape) (s : State) → ShapedExternals es → Along t s (type_externals es s).state → AreKindedExternals t (type_externals es s).externals
  externals_kinded [] s is g = tt
  externals_kinded (e ∷ rest) s is g =
      let u = (type_external e s).state in
      let end = (type_externals rest u).state in
      let first : (J : Core → Type 0) → KeptByUnits J → J (core s) → J (core u) = λ J kept. units.external_keeps J kept e s is.0 in
      (external_kinded e s is.0 (up_to_units t s u end first (λ J kept. units.externals_keep J kept rest u is.1) g), externals_kinded rest u is.1 (onward_units t s u end first g))

-- ---- units

line_keeps : (J : Core → Type 0) → Kept J → (l : Option ProgramLine) (s : State) → J (core s) → J (core (type_line l s))
line_keeps J kept None s h = h
line_keeps J kept (Some l) s h = nodes.demand_keeps J kept (is_some (digest_of l.digest)) 37 s.at l.pos s h

no_fields : (o : Bool) (i : ℕ) → fields_in (if o then None else slice_get [] i) ≡ []
no_fields true i = refl
no_fields false i = refl

start_good : (known : Option (List Bool)) → Good (core (start known))
start_good known = (record { tags = (tt, tt); even = refl; bare = λ n e. no_fields (nat_eq n 0) (n - 1) }, (tt, tt), refl)

demand_tables : (o : Bool) (n token : ℕ) (p : Pos) (s : State) → (demand o n token p s).tables ≡ s.tables
demand_tables true n token p s = refl
demand_tables false n token p s = refl

reaches_itself : (t : TablesShape) (s : State) → s.tables ≡ t → Reaches t (core s)
reaches_itself t s e = record {
  fields = λ n set. ap (λ (x : TablesShape). fields_in (row x.structures n)) (sym e);
  more = [];
  added = ap (λ (x : TablesShape). x.variables) (sym e) ∙ sym (append-nil s.tables.variables);
}

unit_kinded : (t : TablesShape) (known : Option (List Bool)) (u : UnitShape) → ShapedExternals u.externals → (type_unit known u).state.tables ≡ t → AreKindedExternals t (type_unit known u).unit.externals
unit_kinded t known u is e =
    let v = type_line u.line (start known) in
    let y = type_externals u.externals v in
    let end = reaches_itself t y.state (sym (demand_tables (any_main y.state.tables.functions) 38 (y.state.at - 1) u.last y.state) ∙ e) in
    externals_kinded t u.externals v is (onward t (start known) v y.state (λ J kept. line_keeps J kept.types u.line (start known)) (start_good known, end))

-- ---- programs

same_tables : (u v : UnitShape) → v ≡ (typed_unit u).unit → (typed_unit v).state.tables ≡ (typed_unit u).state.tables
same_tables u v e = ap (λ (x : UnitShape). (typed_unit x).state.tables) e ∙ ap (λ (x : TypedUnit). x.state.tables) (typed_again u)

pub accepted_is_kinded : AcceptedIsKinded
accepted_is_kinded P is =
    let u = is.source in
    let one = unit_kinded P.tables (Some (bodies u)) u is.sound.shaped.all (sym (same_tables u P.unit is.typed) ∙ is.tables) in
    subst (λ (v : UnitShape). AreKindedExternals P.tables v.externals) (sym is.typed) one
