-- Functions with bodies, and units, are typed alike without their places.
use Rattle.std.proofs.Common.{◌≡◌, ◌-◌, List, [], ◌∷◌, map, Option, Some, None, option_map, is_some, Bool, true, false, refl, ap, ◌∙◌}
use Rattle.c_syntax.specs.declared.text.Text.{Text}
use Rattle.c_syntax.specs.declared.tree.ProbeMark.{ProbeMark}
use Rattle.c_syntax.specs.declared.tree.ProgramLine.{ProgramLine}
use Rattle.c_syntax.specs.declared.tree.Star.{Star}
use Rattle.c_syntax.specs.Start.{start}
use Rattle.c_syntax.specs.Shape.{TypeOf, SpecShapes, no_specs, more_specs, declarator, arrays, function, CompoundShape, ExternalShape, defined, declared, UnitShape}
use Rattle.c_type_rules.specs.Verdicts.{result_type}
use Rattle.c_constants.specs.Probes.{digest_of}
use Rattle.c_scopes.specs.Scoping.{find_here}
use Rattle.c_tree.specs.declared.meaning.Entity.{Entity}
use Rattle.c_tree.specs.Complaints.{no_main, stray, wrong_type}
use Rattle.c_tree.specs.State.{State, demand, steps}
use Rattle.c_tree.specs.Rulings.{by, rule, kind_at}
use Rattle.c_tree.specs.Parts.{pointed, spelled_rule, unspelled}
use Rattle.c_tree.specs.Typing.{type_specs}
use Rattle.c_tree.specs.Declaring.{TypedFunction, type_function}
use Rattle.c_tree.specs.Stating.{Surroundings, type_marks, type_compound}
use Rattle.c_tree.specs.Units.{start as first, variable_of, with_variables, begun_function, ended_function, TypedExternal, type_definition, specs_place, type_external, TypedExternals, type_externals, type_line, any_main, TypedUnit, type_unit}
use Rattle.c_placing.specs.Unplaced.{unplaced_mark, unplaced_named, unplaced_star, unplaced_specs, unplaced_name, unplaced_params, unplaced_maybe_init, unplaced_compound, unplaced_external, unplaced_line, unplaced}
use Rattle.c_unplaced.specs.Unplaced.{unplaced_state, TypingSeesNoPlace}
use Rattle.c_unplaced.proofs.Rules.{complained, ruled, demanded}
use Rattle.c_unplaced.proofs.Nodes.{pointed_same, specs_typed}
use Rattle.c_unplaced.proofs.Decls.{unplaced_function, variable_made}
use Rattle.c_unplaced.proofs.Functions.{function_typed, decl_typed}
use Rattle.c_unplaced.proofs.Statements.{marks_typed, compound_typed}

abbrev unplaced_part : TypedExternal → TypedExternal
unplaced_part t = record { external = unplaced_external t.external; state = unplaced_state t.state }

abbrev unplaced_parts : TypedExternals → TypedExternals
unplaced_parts t = record { externals = map unplaced_external t.externals; state = unplaced_state t.state }

abbrev unplaced_unit : TypedUnit → TypedUnit
unplaced_unit t = record { unit = unplaced t.unit; state = unplaced_state t.state }

-- ---- functions with bodies

variable_begun : (x : Text) (k : Option TypeOf) (o : Option Entity) (s : State) → variable_of x k o (unplaced_state s) ≡ unplaced_state (variable_of x k o s)
variable_begun x k None s = variable_made x k s
variable_begun x k (Some e) s = refl

variables_begun : (xs : List (Text × Option TypeOf)) (s : State) → with_variables xs (unplaced_state s) ≡ unplaced_state (with_variables xs s)
variables_begun [] s = refl
variables_begun ((x, k) ∷ rest) s =
    ap (with_variables rest) (variable_begun x k (find_here x s.names) s) ∙ variables_begun rest (variable_of x k (find_here x s.names) s)

function_begun : (f : TypedFunction) (s : State) → begun_function (unplaced_function f) (unplaced_state s) ≡ unplaced_state (begun_function f s)
function_begun f s = variables_begun f.given _

abbrev within : Option TypeOf → Surroundings
within k = record { loop = false; breakable = false; result = k }

definition_typed : (specs : SpecShapes) (f : TypedFunction) (k : Option TypeOf) (marks : List ProbeMark) (c : CompoundShape) →
    type_definition (unplaced_specs specs) (unplaced_function f) k (map unplaced_mark marks) (unplaced_compound c) ≡ unplaced_part (type_definition specs f k marks c)
definition_typed specs f k marks c =
    let u = begun_function f f.state in
    let ms = map unplaced_mark marks in
    ap (λ v. let t = type_compound (within k) (unplaced_compound c) (type_marks ms v) in record { external = defined (unplaced_specs specs) (unplaced_name f.name) ms t.compound; state = ended_function t.state }) (function_begun f f.state)
    ∙ (ap (λ v. let t = type_compound (within k) (unplaced_compound c) v in record { external = defined (unplaced_specs specs) (unplaced_name f.name) ms t.compound; state = ended_function t.state }) (marks_typed marks u)
    ∙ ap (λ t. record { external = defined (unplaced_specs specs) (unplaced_name f.name) ms t.compound; state = ended_function t.state }) (compound_typed (within k) c (type_marks marks u)))

specs_start : (specs : SpecShapes) → specs_place (unplaced_specs specs) ≡ start
specs_start no_specs = refl
specs_start (more_specs p f rest) = refl

-- a definition, by its function
abbrev defined_by : List Star → List ProbeMark → CompoundShape → SpecShapes → Option TypeOf → TypedFunction → TypedExternal
defined_by xs marks c specs k f = type_definition specs f (kind_at (by wrong_type (result_type (pointed xs k)))) (map unplaced_mark marks) (unplaced_compound c)

external_typed : (e : ExternalShape) (s : State) → type_external (unplaced_external e) (unplaced_state s) ≡ unplaced_part (type_external e s)
external_typed (declared d) s = ap (λ t. record { external = declared t.decl; state = t.state }) (decl_typed d s)
external_typed (defined specs (declarator stars x (function ps) i) marks c) s =
    let xs = map unplaced_star stars in
    let y = option_map unplaced_named x in
    let t = type_specs false specs unspelled s in
    let ts = unplaced_specs t.specs in
    let r = spelled_rule t.spelled in
    let u = rule r s.at (specs_place specs) t.state in
    let f = type_function true (kind_at r) stars x ps i u in
    ap (λ v. defined_by xs marks c v.specs (kind_at (spelled_rule v.spelled)) (type_function true (kind_at (spelled_rule v.spelled)) xs y (unplaced_params ps) (unplaced_maybe_init i) (rule (spelled_rule v.spelled) s.at (specs_place (unplaced_specs specs)) v.state))) (specs_typed false specs unspelled s)
    ∙ (ap (λ q. defined_by xs marks c ts (kind_at r) (type_function true (kind_at r) xs y (unplaced_params ps) (unplaced_maybe_init i) (rule r s.at q (unplaced_state t.state)))) (specs_start specs)
    ∙ (ap (λ v. defined_by xs marks c ts (kind_at r) (type_function true (kind_at r) xs y (unplaced_params ps) (unplaced_maybe_init i) v)) (ruled r s.at (specs_place specs) t.state)
    ∙ (ap (defined_by xs marks c ts (kind_at r)) (function_typed true (kind_at r) stars x ps i u)
    ∙ (ap (λ k. type_definition ts (unplaced_function f) (kind_at (by wrong_type (result_type k))) (map unplaced_mark marks) (unplaced_compound c)) (pointed_same stars (kind_at r))
    ∙ definition_typed t.specs f (kind_at (by wrong_type (result_type (pointed stars (kind_at r))))) marks c))))
external_typed (defined specs (declarator stars x (arrays ls) i) marks c) s =
    ap (λ u. record { external = unplaced_external (defined specs (declarator stars x (arrays ls) i) marks c); state = u }) (complained wrong_type s.at start s)

externals_typed : (es : List ExternalShape) (s : State) → type_externals (map unplaced_external es) (unplaced_state s) ≡ unplaced_parts (type_externals es s)
externals_typed [] s = refl
externals_typed (e ∷ rest) s =
    let t = type_external e s in
    ap (λ x. let r = type_externals (map unplaced_external rest) x.state in record { externals = x.external ∷ r.externals; state = r.state }) (external_typed e s)
    ∙ ap (λ r. record { externals = unplaced_external t.external ∷ r.externals; state = r.state }) (externals_typed rest t.state)

-- ---- units

line_typed : (l : Option ProgramLine) (s : State) → type_line (option_map unplaced_line l) (unplaced_state s) ≡ unplaced_state (type_line l s)
line_typed None s = refl
line_typed (Some l) s = ap (steps 5) (demanded (is_some (digest_of l.digest)) stray s.at l.pos s)

-- a unit, by what stands in it
abbrev unit_with : UnitShape → TypedExternals → TypedUnit
unit_with u t = record {
  unit = record u { externals = t.externals };
  state = demand (any_main t.state.tables.functions) no_main (t.state.at - 1) u.last t.state;
}

pub whole_typed : (known : Option (List Bool)) (u : UnitShape) → type_unit known (unplaced u) ≡ unplaced_unit (type_unit known u)
whole_typed known u =
    let l = type_line u.line (first known) in
    let t = type_externals u.externals l in
    let v = unplaced (record u { externals = t.externals }) in
    ap (λ x. unit_with (unplaced u) (type_externals (map unplaced_external u.externals) x)) (line_typed u.line (first known))
    ∙ (ap (unit_with (unplaced u)) (externals_typed u.externals l)
    ∙ ap (λ x. record { unit = v; state = x }) (demanded (any_main t.state.tables.functions) no_main (t.state.at - 1) u.last t.state))

pub unit_typed : TypingSeesNoPlace
unit_typed known u = (ap (λ t. t.unit) (whole_typed known u), ap (λ t. t.state) (whole_typed known u))
