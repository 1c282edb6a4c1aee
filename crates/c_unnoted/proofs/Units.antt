-- Functions with bodies, and units, are typed alike without their notes.
use Rattle.std.proofs.Common.{◌≡◌, ◌-◌, List, [], ◌∷◌, map, Option, Some, None, is_some, Bool, true, false, refl, sym, ap, ◌∙◌}
use Rattle.c_syntax.specs.declared.tree.ProbeMark.{ProbeMark}
use Rattle.c_syntax.specs.declared.tree.Star.{Star}
use Rattle.c_syntax.specs.Shape.{TypeOf, SpecShapes, no_specs, more_specs, declarator, arrays, function, CompoundShape, ExternalShape, defined, declared, UnitShape}
use Rattle.c_type_rules.specs.Verdicts.{result_type}
use Rattle.c_tree.specs.Complaints.{no_main, wrong_type}
use Rattle.c_tree.specs.State.{State, demand}
use Rattle.c_tree.specs.Rulings.{by, rule, kind_at}
use Rattle.c_tree.specs.Parts.{pointed, spelled_rule, unspelled}
use Rattle.c_tree.specs.Typing.{type_specs}
use Rattle.c_tree.specs.Declaring.{TypedFunction, type_function}
use Rattle.c_tree.specs.Stating.{Surroundings, type_marks}
use Rattle.c_tree.specs.Units.{start, begun_function, ended_function, TypedExternal, type_definition, specs_place, type_external, TypedExternals, type_externals, type_line, any_main, TypedUnit, type_unit, bodies, typed_unit}
use Rattle.c_tree.specs.Unnoted.{bare_specs, bare_params, bare_maybe_init, bare_compound, bare_external, bare_unit}
use Rattle.c_unnoted.specs.Written.{written_specs, written_external, written_unit}
use Rattle.c_unnoted.specs.Unnoted.{TypingSeesNoNote, UnnotedUnits, TypedIsWritten}
use Rattle.c_unnoted.proofs.Nodes.{specs_typed}
use Rattle.c_unnoted.proofs.Functions.{written_function, function_typed, decl_typed}
use Rattle.c_unnoted.proofs.Statements.{compound_typed}

abbrev written_part : TypedExternal → TypedExternal
written_part t = record { external = written_external t.external; state = t.state }

abbrev written_parts : TypedExternals → TypedExternals
written_parts t = record { externals = map written_external t.externals; state = t.state }

abbrev written_whole : TypedUnit → TypedUnit
written_whole t = record { unit = written_unit t.unit; state = t.state }

-- ---- functions with bodies

abbrev within : Option TypeOf → Surroundings
within k = record { loop = false; breakable = false; result = k }

-- a definition, by its function, and by its specifiers
abbrev defined_by : List Star → List ProbeMark → CompoundShape → SpecShapes → Option TypeOf → TypedFunction → TypedExternal
defined_by stars marks c specs k f = type_definition specs f (kind_at (by wrong_type (result_type (pointed stars k)))) marks c

specs_same : (specs : SpecShapes) → specs_place (bare_specs specs) ≡ specs_place specs
specs_same no_specs = refl
specs_same (more_specs p f rest) = refl

external_typed : (e : ExternalShape) (s : State) → type_external (bare_external e) s ≡ written_part (type_external e s)
external_typed (declared d) s = ap (λ t. record { external = declared t.decl; state = t.state }) (decl_typed d s)
external_typed (defined specs (declarator stars x (function ps) i) marks c) s =
    let t = type_specs false specs unspelled s in
    let r = spelled_rule t.spelled in
    let u = rule r s.at (specs_place specs) t.state in
    let k = kind_at r in
    let f = type_function true k stars x ps i u in
    let j = bare_maybe_init i in
    ap (λ q. let v = type_specs false (bare_specs specs) unspelled s in let z = kind_at (spelled_rule v.spelled) in defined_by stars marks (bare_compound c) v.specs z (type_function true z stars x (bare_params ps) j (rule (spelled_rule v.spelled) s.at q v.state))) (specs_same specs)
    ∙ (ap (λ v. let z = kind_at (spelled_rule v.spelled) in defined_by stars marks (bare_compound c) v.specs z (type_function true z stars x (bare_params ps) j (rule (spelled_rule v.spelled) s.at (specs_place specs) v.state))) (specs_typed false specs unspelled s)
    ∙ (ap (defined_by stars marks (bare_compound c) (written_specs t.specs) k) (function_typed true k stars x ps i u)
    ∙ ap (λ b. record { external = defined (written_specs t.specs) (written_function f).name marks b.compound; state = ended_function b.state }) (compound_typed (within (kind_at (by wrong_type (result_type (pointed stars k))))) c (type_marks marks (begun_function f f.state)))))
external_typed (defined specs (declarator stars x (arrays ls) i) marks c) s = refl

externals_typed : (es : List ExternalShape) (s : State) → type_externals (map bare_external es) s ≡ written_parts (type_externals es s)
externals_typed [] s = refl
externals_typed (e ∷ rest) s =
    let t = type_external e s in
    ap (λ x. let r = type_externals (map bare_external rest) x.state in record { externals = x.external ∷ r.externals; state = r.state }) (external_typed e s)
    ∙ ap (λ r. record { externals = written_external t.external ∷ r.externals; state = r.state }) (externals_typed rest t.state)

-- ---- units

-- a unit, by what stands in it
abbrev unit_with : UnitShape → TypedExternals → TypedUnit
unit_with u t = record {
  unit = record u { externals = t.externals };
  state = demand (any_main t.state.tables.functions) no_main (t.state.at - 1) u.last t.state;
}

whole_typed : (known : Option (List Bool)) (u : UnitShape) → type_unit known (bare_unit u) ≡ written_whole (type_unit known u)
whole_typed known u = ap (unit_with u) (externals_typed u.externals (type_line u.line (start known)))

pub unit_typed : TypingSeesNoNote
unit_typed known u = record { state = ap (λ t. t.state) (whole_typed known u); unit = ap (λ t. t.unit) (whole_typed known u) }

bodies_same : (u : UnitShape) → bodies (bare_unit u) ≡ bodies u
bodies_same u = ap (λ t. map (λ f. is_some f.defined) t.state.tables.functions) (whole_typed None u)

typed_same : (u : UnitShape) → typed_unit (bare_unit u) ≡ written_whole (typed_unit u)
typed_same u = ap (λ b. type_unit (Some b) (bare_unit u)) (bodies_same u) ∙ whole_typed (Some (bodies u)) u

pub units_unnoted : UnnotedUnits
units_unnoted u = record {
  bodies = bodies_same u;
  complaints = ap (λ t. t.state.complaints) (typed_same u);
  typed = λ w. typed_same u ∙ ap (λ x. record { unit = x; state = (typed_unit u).state }) w;
}

pub typed_written : TypedIsWritten
typed_written known u e = sym (ap (λ t. t.unit) (whole_typed known u)) ∙ ap (λ v. (type_unit known v).unit) e
