-- The parameters of a function of which nothing is complained are scalars, in the tables at the end.
use Rattle.std.proofs.Common.{◌≡◌, ℕ, inl, List, length, true, false, Option, refl, subst, arith}
use Rattle.c_syntax.specs.declared.tree.Named.{Named}
use Rattle.c_syntax.specs.declared.tree.ProbeMark.{ProbeMark}
use Rattle.c_syntax.specs.declared.tree.Star.{Star}
use Rattle.c_syntax.specs.Shape.{SpecShapes, declarator, function, ParamsShape, MaybeInit, CompoundShape, defined}
use Rattle.c_syntax.specs.Shaped.{ShapedExternal}
use Rattle.c_type_rules.specs.Verdicts.{result_type}
use Rattle.c_tables.specs.Tables.{TablesShape}
use Rattle.c_tables.specs.Rows.{text_of}
use Rattle.c_tree.specs.State.{State}
use Rattle.c_tree.specs.Rulings.{by, rule, kind_at}
use Rattle.c_tree.specs.Parts.{unspelled, spelled_rule, pointed}
use Rattle.c_tree.specs.Typing.{type_specs}
use Rattle.c_tree.specs.Declaring.{closed_scope, type_function}
use Rattle.c_tree.specs.Stating.{Surroundings, type_marks, type_compound}
use Rattle.c_tree.specs.Units.{specs_place, begun_function, type_external}
use Rattle.c_tree.proofs.Grows.{rule_grows}
use Rattle.c_tree.proofs.GrowsUnits.{function_grows, variables_grow, marks_grow, compound_grows}
use Rattle.c_walk.specs.Walked.{Walked}
use Rattle.c_walk.specs.Units.{function_of}
use Rattle.c_meaning.specs.Counts.{signature_variables}
use Rattle.probe_laws.proofs.Settled.{IsClean, type_there}
use Rattle.probe_laws.proofs.Rules.{back}
use Rattle.probe_laws.proofs.Known.{Knows, rule_goes}
use Rattle.probe_laws.proofs.KnownParts.{spelled_settled}
use Rattle.probe_laws.proofs.KnownNodes.{all_specs, specs_know}
use Rattle.flow_initial.proofs.Cores.{core, ◌▸◌}
use Rattle.flow_initial.proofs.KeepsNodes as nodes
use Rattle.flow_initial.proofs.KeepsParts as parts
use Rattle.flow_initial.proofs.KeepsUnits as units
use Rattle.flow_values.specs.Bodies.{Good, Reaches}
use Rattle.flow_values.specs.Programs.{form_of}
use Rattle.flow_values.proofs.Reaching.{passed_units, before, by_types}
use Rattle.flow_values.proofs.Begun.{parameters_have_rows}
use Rattle.flow_parts.specs.Parameters.{HasScalarParameters}
use Rattle.flow_accepted.proofs.Given.{ScalarFrom, function_scalar, scalar_behind, variables_scalar}
use Rattle.flow_accepted.proofs.Walks.{ScalarRange, range_in, form_scalar}

pub defined_scalar : (t : TablesShape) (specs : SpecShapes) (stars : List Star) (x : Option Named) (ps : ParamsShape) (i : MaybeInit) (ms : List ProbeMark) (c : CompoundShape) (s : State) (w : Walked)
    → ShapedExternal (defined specs (declarator stars x (function ps) i) ms c) → Knows false s → Good (core s) → Reaches t (core (type_external (defined specs (declarator stars x (function ps) i) ms c) s).state)
    → IsClean (type_external (defined specs (declarator stars x (function ps) i) ms c) s).state → w.variables ≡ length s.tables.variables
    → (let y = type_specs false specs unspelled s in let r = spelled_rule y.spelled in let f = type_function true (kind_at r) stars x ps i (rule r s.at (specs_place specs) y.state) in HasScalarParameters t (function_of t (text_of x)) (form_of f.name) w)
defined_scalar t specs stars x ps i ms c s w is h g reach clean n =
    let y = type_specs false specs unspelled s in
    let r = spelled_rule y.spelled in
    let q = specs_place specs in
    let v = rule r s.at q y.state in
    let k = kind_at r in
    let f = type_function true k stars x ps i v in
    let a = begun_function f f.state in
    let m = type_marks ms a in
    let e : Surroundings = record { loop = false; breakable = false; result = kind_at (by 33 (result_type (pointed stars k))) } in
    let z = type_compound e c m in
    let declared = back (variables_grow f.given _) (back (marks_grow ms a) (back (compound_grows e c m) clean)) in
    let ruled = back (function_grows true k stars x ps i v) declared in
    let one = specs_know false specs unspelled s (all_specs specs is.0) (inl refl) h (back (rule_grows r s.at q y.state) ruled) in
    let two = rule_goes r s.at q y.state one.1.0 in
    let typed = type_there r s.at q y.state (spelled_settled y.spelled one.0) ruled in
    let count = parameters_have_rows k stars x ps i v is.2.1.1 typed two.0 declared in
    let to_function = by_types s f.state (λ J kept. nodes.specs_keep J kept false specs unspelled s ▸ nodes.rule_keeps J kept r s.at q y.state ▸ parts.function_keeps J kept true k stars x ps i v) g in
    let to_body = passed_units f.state a (λ J kept. kept.turning f.number f.state ▸ units.variables_keep J kept.all f.given _ (units.function_given true k stars x ps i v)) to_function.0 in
    let to_end = passed_units a (type_external (defined specs (declarator stars x (function ps) i) ms c) s).state
    (λ J kept. parts.marks_keep J kept.all.types ms a ▸ units.compound_keeps J kept.all e c m is.3 ▸ kept.all.types.leaving z.state ▸ kept.turning 0 (closed_scope z.state)) to_body.1 in
    let near = before t (core a) (core (type_external (defined specs (declarator stars x (function ps) i) ms c) s).state) to_end.0 reach in
    let size = length f.state.tables.variables in
    let scalar : ScalarFrom size a.tables.variables = variables_scalar size f.given _ (function_scalar true k stars x ps i v) (scalar_behind f.state.tables.variables) in
    let same : size ≡ w.variables = omega (arith, n, to_function.1) in
    form_scalar t (function_of t (text_of x)) (form_of f.name) w (subst (λ (j : ℕ). ScalarRange t j (signature_variables (form_of f.name))) same (range_in t a.tables.variables near.more size (signature_variables (form_of f.name)) near.added count scalar))
