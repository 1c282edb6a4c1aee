-- Each string and each list that initialises a local variable of a program gives it a value, where constants have values and parameters rows.
use Rattle.std.proofs.Common.{◌≡◌, ℕ, ◌+◌, ◌-◌, inl, List, [], ◌∷◌, length, append-nil, Bool, true, false, Option, Some, None, refl, sym, ap, ◌∙◌, subst, arith}
use Rattle.std.specs.Prelude.{slice_get, is_some, nat_eq, if◌then◌else◌}
use Rattle.c_base.specs.declared.place.Pos.{Pos}
use Rattle.c_syntax.specs.declared.tree.Named.{Named}
use Rattle.c_syntax.specs.declared.tree.ProbeMark.{ProbeMark}
use Rattle.c_syntax.specs.declared.tree.ProgramLine.{ProgramLine}
use Rattle.c_syntax.specs.declared.tree.Star.{Star}
use Rattle.c_syntax.specs.Shape.{SpecShapes, DeclShapes, declarator, DeclFormShape, arrays, function, ParamsShape, MaybeInit, braces, ItemShapes, ExternalShape, defined, declared, UnitShape}
use Rattle.c_syntax.specs.Shaped.{ShapedExternal, ShapedExternals}
use Rattle.c_type_rules.specs.Verdicts.{result_type}
use Rattle.c_constants.specs.Probes.{digest_of}
use Rattle.c_tables.specs.Tables.{TablesShape}
use Rattle.c_tables.specs.Rows.{row, fields_in, text_of}
use Rattle.c_tree.specs.State.{State, demand}
use Rattle.c_tree.specs.Rulings.{by, rule, kind_at}
use Rattle.c_tree.specs.Parts.{unspelled, spelled_rule, pointed}
use Rattle.c_tree.specs.Typing.{type_specs}
use Rattle.c_tree.specs.Declaring.{type_function, type_decl}
use Rattle.c_tree.specs.Stating.{Surroundings, type_marks, type_compound}
use Rattle.c_tree.specs.Units.{specs_place, begun_function, ended_function, type_external, type_externals, start, type_line, any_main, type_unit, TypedUnit, bodies, typed_unit, complaints}
use Rattle.c_tree.proofs.Grows.{rule_grows, demand_grows}
use Rattle.c_tree.proofs.GrowsUnits.{function_grows, variables_grow, marks_grow, compound_grows, externals_grow}
use Rattle.c_tree.proofs.Programs.{typed_again}
use Rattle.c_walk.specs.Walked.{Walked, with_block}
use Rattle.c_walk.specs.Units as walks
use Rattle.c_walk.specs.Units.{function_of, in_function, define_parameters, walk_external}
use Rattle.c_meaning.specs.State.{Bound}
use Rattle.c_meaning.specs.Counts.{signature_variables}
use Rattle.c_meaning.proofs.Declared.{decl_count, params_count, external_count}
use Rattle.probe_laws.proofs.Settled.{IsClean, type_there}
use Rattle.probe_laws.proofs.Rules.{back}
use Rattle.probe_laws.proofs.Known.{Knows, Goes, left_holds, stays, ◌▹◌, rule_goes, demand_goes}
use Rattle.probe_laws.proofs.KnownParts.{spelled_settled}
use Rattle.probe_laws.proofs.KnownNodes.{all_specs, specs_know}
use Rattle.probe_laws.proofs.FitDecls.{function_fits}
use Rattle.probe_laws.proofs.FitStatements.{marks_go}
use Rattle.probe_laws.proofs.FitUnits.{begun_goes, start_knows}
use Rattle.flow_values.specs.Initialised.{InExternals}
use Rattle.flow_initial.proofs.Cores.{Core, core, Kept, ◌▸◌}
use Rattle.flow_initial.proofs.KeepsNodes as nodes
use Rattle.flow_initial.proofs.KeepsParts as parts
use Rattle.flow_initial.proofs.KeepsUnits as units
use Rattle.flow_values.specs.Bodies.{Good, Reaches, InitsGive}
use Rattle.flow_values.specs.Programs.{form_of, ParametersHaveRows, AcceptedIsInitialised}
use Rattle.flow_values.proofs.Reaching.{passed, passed_units, before, by_types}
use Rattle.flow_values.proofs.DeclsIn.{Step, decl_in}
use Rattle.flow_values.proofs.StatementsIn.{compound_in}
use Rattle.flow_values.proofs.Typed.{constants_suffice}

ended_goes : (s : State) → Knows false s → Goes false s (ended_function s)
ended_goes s h = (left_holds false (length s.tables.functions) s.names h, omega arith)

form_count : (t : TablesShape) (n : ℕ) (d : DeclFormShape) (w : Walked) → (define_parameters t n d w).variables ≡ w.variables + signature_variables d
form_count t n (function ps) w = params_count t n ps w
form_count t n (arrays ls) w = omega arith

module _ (t : TablesShape) (b : List Bound) (given : InitsGive t b) (rows : ParametersHaveRows) where
  pub defined_in : (specs : SpecShapes) (stars : List Star) (x : Option Named) (ps : ParamsShape) (i : MaybeInit) (ms : List ProbeMark) (p : Pos) (ds : DeclShapes) (items : ItemShapes) (s : State) (w : Walked)
      → ShapedExternal (defined specs (declarator stars x (function ps) i) ms (braces p ds items)) → Knows false s → Good (core s)
      → Reaches t (core (type_external (defined specs (declarator stars x (function ps) i) ms (braces p ds items)) s).state) → IsClean (type_external (defined specs (declarator stars x (function ps) i) ms (braces p ds items)) s).state
      → w.variables ≡ length s.tables.variables
      → Step s (type_external (defined specs (declarator stars x (function ps) i) ms (braces p ds items)) s).state
      (walk_external t (type_external (defined specs (declarator stars x (function ps) i) ms (braces p ds items)) s).external w)
      ((rest : List ExternalShape) → InExternals t b rest (walk_external t (type_external (defined specs (declarator stars x (function ps) i) ms (braces p ds items)) s).external w)
      → InExternals t b ((type_external (defined specs (declarator stars x (function ps) i) ms (braces p ds items)) s).external ∷ rest) w)
  defined_in specs stars x ps i ms p ds items s w is h g reach clean n =
      let y = type_specs false specs unspelled s in
      let r = spelled_rule y.spelled in
      let q = specs_place specs in
      let v = rule r s.at q y.state in
      let k = kind_at r in
      let f = type_function true k stars x ps i v in
      let a = begun_function f f.state in
      let m = type_marks ms a in
      let e : Surroundings = record { loop = false; breakable = false; result = kind_at (by 33 (result_type (pointed stars k))) } in
      let c = braces p ds items in
      let z = type_compound e c m in
      let marked = back (compound_grows e c m) clean in
      let declared = back (variables_grow f.given _) (back (marks_grow ms a) marked) in
      let ruled = back (function_grows true k stars x ps i v) declared in
      let one = specs_know false specs unspelled s (all_specs specs is.0) (inl refl) h (back (rule_grows r s.at q y.state) ruled) in
      let two = rule_goes r s.at q y.state one.1.0 in
      let typed = type_there r s.at q y.state (spelled_settled y.spelled one.0) ruled in
      let three = function_fits true k stars x ps i v is.2.1.1 typed two.0 declared in
      let four = begun_goes f f.state three.1 three.0.0 in
      let five = marks_go ms a four.0 in
      let to_function = by_types s f.state (λ J kept. nodes.specs_keep J kept false specs unspelled s ▸ nodes.rule_keeps J kept r s.at q y.state ▸ parts.function_keeps J kept true k stars x ps i v) g in
      let to_body = passed_units f.state a (λ J kept. kept.turning f.number f.state ▸ units.variables_keep J kept.all f.given _ (units.function_given true k stars x ps i v)) to_function.0 in
      let to_marks = by_types a m (λ J kept. parts.marks_keep J kept ms a) to_body.1 in
      let number = function_of t (text_of x) in
      let count : (define_parameters t number (form_of f.name) w).variables ≡ length m.tables.variables =
      omega (arith, form_count t number (form_of f.name) w, n, to_function.1, rows k stars x ps i v is.2.1.1 typed two.0 declared, to_marks.1) in
      let six = compound_in t b given e (in_function number) c m (with_block p (define_parameters t number (form_of f.name) w)) is.3 five.0 to_marks.0 (record { fields = reach.fields; more = reach.more; added = reach.added }) clean count in
      (one.1 ▹ two ▹ three.0 ▹ four ▹ five ▹ six.0 ▹ ended_goes z.state six.0.0, six.1, λ rest more. (six.2, more))

  externals_in : (es : List ExternalShape) (s : State) (w : Walked) → ShapedExternals es → Knows false s → Good (core s) → Reaches t (core (type_externals es s).state) → IsClean (type_externals es s).state → w.variables ≡ length s.tables.variables
      → InExternals t b (type_externals es s).externals w
  externals_in [] s w is h g reach clean n = tt
  externals_in (declared d ∷ rest) s w is h g reach clean n =
      let y = type_decl d s in
      let c = in_function 0 in
      let later = passed s y.state (λ J kept. units.decl_keeps J kept d s is.0) g in
      let near = before t (core y.state) (core (type_externals rest y.state).state) (passed_units y.state (type_externals rest y.state).state (λ J kept. units.externals_keep J kept rest y.state is.1) later.1).0 reach in
      let one = decl_in t b given c d s w is.0 h g near (back (externals_grow rest y.state) clean) n in
      externals_in rest y.state (walk_external t (declared y.decl) w) is.1 one.0.0 later.1 reach clean (omega (arith, external_count t (declared y.decl) w, decl_count t c y.decl w, one.1))
  externals_in (defined specs (declarator stars x (arrays ls) i) ms c ∷ rest) s w is h g reach clean n = absurd is.0.1
  externals_in (defined specs (declarator stars x (function ps) i) ms (braces p ds items) ∷ rest) s w is h g reach clean n =
      let e = defined specs (declarator stars x (function ps) i) ms (braces p ds items) in
      let y = type_external e s in
      let later = passed_units s y.state (λ J kept. units.external_keeps J kept e s is.0) g in
      let near = before t (core y.state) (core (type_externals rest y.state).state) (passed_units y.state (type_externals rest y.state).state (λ J kept. units.externals_keep J kept rest y.state is.1) later.1).0 reach in
      let one = defined_in specs stars x ps i ms p ds items s w is.0 h g near (back (externals_grow rest y.state) clean) n in
      one.2 (type_externals rest y.state).externals (externals_in rest y.state (walk_external t y.external w) is.1 one.0.0 later.1 reach clean one.1)

-- ---- units

pub line_kept : (J : Core → Type 0) → Kept J → (l : Option ProgramLine) (s : State) → J (core s) → J (core (type_line l s))
line_kept J kept None s h = h
line_kept J kept (Some l) s h = nodes.demand_keeps J kept (is_some (digest_of l.digest)) 37 s.at l.pos s h

pub line_goes : (l : Option ProgramLine) (s : State) → Knows false s → Goes false s (type_line l s)
line_goes None s h = stays s h
line_goes (Some l) s h = demand_goes (is_some (digest_of l.digest)) 37 s.at l.pos s h

no_fields : (o : Bool) (i : ℕ) → fields_in (if o then None else slice_get [] i) ≡ []
no_fields true i = refl
no_fields false i = refl

pub start_good : (known : Option (List Bool)) → Good (core (start known))
start_good known = (record { tags = (tt, tt); even = refl; bare = λ n e. no_fields (nat_eq n 0) (n - 1) }, (tt, tt), refl)

pub demand_tables : (o : Bool) (n token : ℕ) (p : Pos) (s : State) → (demand o n token p s).tables ≡ s.tables
demand_tables true n token p s = refl
demand_tables false n token p s = refl

pub reaches_itself : (t : TablesShape) (s : State) → s.tables ≡ t → Reaches t (core s)
reaches_itself t s e = record {
  fields = λ n set. ap (λ (x : TablesShape). fields_in (row x.structures n)) (sym e);
  more = [];
  added = ap (λ (x : TablesShape). x.variables) (sym e) ∙ sym (append-nil s.tables.variables);
}

unit_in : (t : TablesShape) (b : List Bound) → InitsGive t b → ParametersHaveRows → (known : Option (List Bool)) (u : UnitShape) → ShapedExternals u.externals → IsClean (type_unit known u).state → (type_unit known u).state.tables ≡ t
    → InExternals t b (type_unit known u).unit.externals walks.no_items
unit_in t b given rows known u is clean e =
    let v = type_line u.line (start known) in
    let y = type_externals u.externals v in
    let line = by_types (start known) v (λ J kept. line_kept J kept u.line (start known)) (start_good known) in
    let reach = reaches_itself t y.state (sym (demand_tables (any_main y.state.tables.functions) 38 (y.state.at - 1) u.last y.state) ∙ e) in
    externals_in t b given rows u.externals v walks.no_items is (line_goes u.line (start known) (start_knows known)).0 line.0 reach (back (demand_grows (any_main y.state.tables.functions) 38 (y.state.at - 1) u.last y.state) clean) line.1

-- ---- programs

pub same_complaints : (u v : UnitShape) → v ≡ (typed_unit u).unit → complaints v ≡ complaints u
same_complaints u v e = ap complaints e ∙ ap (λ (x : TypedUnit). x.state.complaints) (typed_again u)

pub same_tables : (u v : UnitShape) → v ≡ (typed_unit u).unit → (typed_unit v).state.tables ≡ (typed_unit u).state.tables
same_tables u v e = ap (λ (x : UnitShape). (typed_unit x).state.tables) e ∙ ap (λ (x : TypedUnit). x.state.tables) (typed_again u)

pub accepted_is_initialised : AcceptedIsInitialised
accepted_is_initialised rows P is constants input limit f s e =
    let u = is.source in
    let clean = sym (same_complaints u P.unit is.typed) ∙ is.clean in
    let tables = sym (same_tables u P.unit is.typed) ∙ is.tables in
    let one = unit_in P.tables s.file (constants_suffice P.tables s.file (constants input limit f s e)) rows (Some (bodies u)) u is.sound.shaped.all (ap length clean) tables in
    subst (λ (v : UnitShape). InExternals P.tables s.file v.externals walks.no_items) (sym is.typed) one
