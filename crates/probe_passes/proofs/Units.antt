-- Functions with bodies, and units, are typed alike in the first pass, where nothing is complained of.
use Rattle.std.proofs.Common.{◌≡◌, ◌≤◌, ◌-◌, List, [], ◌∷◌, length, Option, Some, None, is_some, Bool, true, false, refl, ap, ◌∙◌, arith}
use Rattle.c_syntax.specs.declared.text.Text.{Text}
use Rattle.c_syntax.specs.declared.tree.ProbeMark.{ProbeMark}
use Rattle.c_syntax.specs.declared.tree.ProgramLine.{ProgramLine}
use Rattle.c_syntax.specs.declared.tree.Star.{Star}
use Rattle.c_syntax.specs.Shape.{TypeOf, SpecShapes, declarator, arrays, function, CompoundShape, ExternalShape, defined, declared, UnitShape}
use Rattle.c_type_rules.specs.Verdicts.{result_type}
use Rattle.c_constants.specs.Probes.{digest_of}
use Rattle.c_scopes.specs.Scoping.{find_here}
use Rattle.c_tree.specs.declared.meaning.Complaint.{Complaint}
use Rattle.c_tree.specs.declared.meaning.Entity.{Entity}
use Rattle.c_tree.specs.Complaints.{no_main, stray, wrong_type}
use Rattle.c_tree.specs.State.{State, demand, steps}
use Rattle.c_tree.specs.Rulings.{by, rule, kind_at}
use Rattle.c_tree.specs.Parts.{pointed, spelled_rule, unspelled}
use Rattle.c_tree.specs.Typing.{type_specs}
use Rattle.c_tree.specs.Declaring.{TypedFunction, type_function}
use Rattle.c_tree.specs.Stating.{Surroundings, type_marks, type_compound}
use Rattle.c_tree.specs.Units.{start, variable_of, with_variables, begun_function, ended_function, TypedExternal, type_definition, specs_place, type_external, TypedExternals, type_externals, type_line, any_main, TypedUnit, type_unit}
use Rattle.c_tree.proofs.Grows.{Grows, ◌▸◌, demand_grows, rule_grows}
use Rattle.c_tree.proofs.GrowsUnits.{function_grows, marks_grow, compound_grows, variables_grow, externals_grow}
use Rattle.probe_passes.specs.Passes.{first_pass, PassesAgree}
use Rattle.probe_passes.proofs.Rules.{IsClean, ruled, demanded}
use Rattle.probe_passes.proofs.Nodes.{specs_typed}
use Rattle.probe_passes.proofs.Decls.{variable_made}
use Rattle.probe_passes.proofs.Functions.{first_function, function_typed, decl_typed}
use Rattle.probe_passes.proofs.Statements.{marks_typed, compound_typed}

abbrev first_part : TypedExternal → TypedExternal
first_part t = record t { state = first_pass t.state }

abbrev first_parts : TypedExternals → TypedExternals
first_parts t = record t { state = first_pass t.state }

abbrev first_unit : TypedUnit → TypedUnit
first_unit t = record t { state = first_pass t.state }

-- ---- functions with bodies

variable_begun : (x : Text) (k : Option TypeOf) (o : Option Entity) (s : State) → variable_of x k o (first_pass s) ≡ first_pass (variable_of x k o s)
variable_begun x k None s = variable_made x k s
variable_begun x k (Some e) s = refl

variables_begun : (xs : List (Text × Option TypeOf)) (s : State) → with_variables xs (first_pass s) ≡ first_pass (with_variables xs s)
variables_begun [] s = refl
variables_begun ((x, k) ∷ rest) s =
    ap (with_variables rest) (variable_begun x k (find_here x s.names) s) ∙ variables_begun rest (variable_of x k (find_here x s.names) s)

function_begun : (f : TypedFunction) (s : State) → begun_function (first_function f) (first_pass s) ≡ first_pass (begun_function f s)
function_begun f s = variables_begun f.given _

begun_grows : (f : TypedFunction) (s : State) → Grows s (begun_function f s)
begun_grows f s = variables_grow f.given _

abbrev within : Option TypeOf → Surroundings
within k = record { loop = false; breakable = false; result = k }

-- nothing was complained of before the body
head_clean : (specs : SpecShapes) (f : TypedFunction) (k : Option TypeOf) (marks : List ProbeMark) (c : CompoundShape) → IsClean (type_definition specs f k marks c).state → IsClean f.state
head_clean specs f k marks c h =
    let u = begun_function f f.state in
    begun_grows f f.state ▸ (marks_grow marks u ▸ (compound_grows (within k) c (type_marks marks u) ▸ h))

definition_typed : (specs : SpecShapes) (f : TypedFunction) (k : Option TypeOf) (marks : List ProbeMark) (c : CompoundShape) → IsClean (type_definition specs f k marks c).state →
    type_definition specs (first_function f) k marks c ≡ first_part (type_definition specs f k marks c)
definition_typed specs f k marks c h =
    let u = begun_function f f.state in
    ap (λ v. let t = type_compound (within k) c (type_marks marks v) in record { external = defined specs f.name marks t.compound; state = ended_function t.state }) (function_begun f f.state)
    ∙ (ap (λ v. let t = type_compound (within k) c v in record { external = defined specs f.name marks t.compound; state = ended_function t.state }) (marks_typed marks u)
    ∙ ap (λ t. record { external = defined specs f.name marks t.compound; state = ended_function t.state }) (compound_typed (within k) c (type_marks marks u) h))

-- a definition, by its function
abbrev defined_by : List Star → List ProbeMark → CompoundShape → SpecShapes → Option TypeOf → TypedFunction → TypedExternal
defined_by stars marks c specs k f = type_definition specs f (kind_at (by wrong_type (result_type (pointed stars k)))) marks c

external_typed : (e : ExternalShape) (s : State) → IsClean (type_external e s).state → type_external e (first_pass s) ≡ first_part (type_external e s)
external_typed (declared d) s h = ap (λ t. record { external = declared t.decl; state = t.state }) (decl_typed d s h)
external_typed (defined specs (declarator stars x (function ps) i) marks c) s h =
    let t = type_specs false specs unspelled s in
    let r = spelled_rule t.spelled in
    let u = rule r s.at (specs_place specs) t.state in
    let f = type_function true (kind_at r) stars x ps i u in
    let k = kind_at (by wrong_type (result_type (pointed stars (kind_at r)))) in
    let late = head_clean t.specs f k marks c h in
    let early = rule_grows r s.at (specs_place specs) t.state ▸ (function_grows true (kind_at r) stars x ps i u ▸ late) in
    ap (λ v. defined_by stars marks c v.specs (kind_at (spelled_rule v.spelled)) (type_function true (kind_at (spelled_rule v.spelled)) stars x ps i (rule (spelled_rule v.spelled) s.at (specs_place specs) v.state))) (specs_typed false specs unspelled s early)
    ∙ (ap (λ v. defined_by stars marks c t.specs (kind_at r) (type_function true (kind_at r) stars x ps i v)) (ruled r s.at (specs_place specs) t.state)
    ∙ (ap (defined_by stars marks c t.specs (kind_at r)) (function_typed true (kind_at r) stars x ps i u late)
    ∙ definition_typed t.specs f k marks c h))
external_typed (defined specs (declarator stars x (arrays ls) i) marks c) s h = refl

externals_typed : (es : List ExternalShape) (s : State) → IsClean (type_externals es s).state → type_externals es (first_pass s) ≡ first_parts (type_externals es s)
externals_typed [] s h = refl
externals_typed (e ∷ rest) s h =
    let t = type_external e s in
    ap (λ x. let r = type_externals rest x.state in record { externals = x.external ∷ r.externals; state = r.state }) (external_typed e s (externals_grow rest t.state ▸ h))
    ∙ ap (λ r. record { externals = t.external ∷ r.externals; state = r.state }) (externals_typed rest t.state h)

-- ---- units

line_typed : (l : Option ProgramLine) (s : State) → type_line l (first_pass s) ≡ first_pass (type_line l s)
line_typed None s = refl
line_typed (Some l) s = ap (steps 5) (demanded (is_some (digest_of l.digest)) stray s.at l.pos s)

-- a unit, by what stands in it
abbrev unit_with : UnitShape → TypedExternals → TypedUnit
unit_with u t = record {
  unit = record u { externals = t.externals };
  state = demand (any_main t.state.tables.functions) no_main (t.state.at - 1) u.last t.state;
}

whole_typed : (known : Option (List Bool)) (u : UnitShape) → IsClean (type_unit known u).state → type_unit None u ≡ first_unit (type_unit known u)
whole_typed known u h =
    let l = type_line u.line (start known) in
    let t = type_externals u.externals l in
    let late = demand_grows (any_main t.state.tables.functions) no_main (t.state.at - 1) u.last t.state ▸ h in
    ap (λ x. unit_with u (type_externals u.externals x)) (line_typed u.line (start known))
    ∙ (ap (unit_with u) (externals_typed u.externals l late)
    ∙ ap (λ x. record { unit = record u { externals = t.externals }; state = x }) (demanded (any_main t.state.tables.functions) no_main (t.state.at - 1) u.last t.state))

none_left : (cs : List Complaint) → cs ≡ [] → length cs ≤ 0
none_left cs e = let k = ap length e in omega (arith, k)

pub passes_agree : PassesAgree
passes_agree bs u e = whole_typed (Some bs) u (none_left (type_unit (Some bs) u).state.complaints e)
