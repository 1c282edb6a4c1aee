-- In a plain unit in which nothing is complained of, the operands of `&` and `.` are no used places.
use Rattle.std.proofs.Common.{◌≡◌, ℕ, zero, suc, ◌-◌, inl, List, [], ◌∷◌, length, Bool, true, false, Option, Some, None, refl, ap, ◌∙◌, arith}
use Rattle.std.specs.Prelude.{is_some}
use Rattle.c_syntax.specs.declared.text.Text.{Text}
use Rattle.c_syntax.specs.declared.tree.ProgramLine.{ProgramLine}
use Rattle.c_syntax.specs.Shape.{TypeOf, declarator, arrays, function, ExternalShape, defined, declared, UnitShape}
use Rattle.c_syntax.specs.Shaped.{ShapedExternal, ShapedExternals}
use Rattle.c_type_rules.specs.Verdicts.{result_type}
use Rattle.c_constants.specs.Probes.{digest_of}
use Rattle.c_scopes.specs.Rows.{Scope, Scoped}
use Rattle.c_scopes.specs.Scoping.{find_here, entered}
use Rattle.c_tables.specs.Tables.{changed_at, with_definition}
use Rattle.c_tree.specs.declared.meaning.Entity.{Entity}
use Rattle.c_tree.specs.declared.meaning.Entity.TheVariants as entity
use Rattle.c_tree.specs.State.{State}
use Rattle.c_tree.specs.Rulings.{by, rule, kind_at}
use Rattle.c_tree.specs.Parts.{unspelled, spelled_rule, pointed}
use Rattle.c_tree.specs.Typing.{type_specs}
use Rattle.c_tree.specs.Declaring.{next_variable, TypedFunction, type_function, declared_again, with_constants}
use Rattle.c_tree.specs.Stating.{Surroundings, type_marks, type_compound}
use Rattle.c_tree.specs.Units.{specs_place, variable_of, with_variables, numbers_from, begun_function, ended_function, type_external, type_externals, start, type_line, any_main, type_unit, bodies, typed_unit, complaints}
use Rattle.c_sites_probes.specs.Marked.{first, mark_among, specs_mark, declarator_mark, compound_mark, external_mark, externals_mark, line_mark, unit_mark}
use Rattle.probe_rules.proofs.ReadyUnits.{none_first, none_second}
use Rattle.c_tree.proofs.Grows.{rule_grows, demand_grows}
use Rattle.c_tree.proofs.GrowsUnits.{function_grows, variables_grow, marks_grow, compound_grows, externals_grow}
use Rattle.probe_laws.proofs.Settled.{IsThere, IsClean, type_there}
use Rattle.probe_laws.proofs.Rules.{back}
use Rattle.probe_laws.proofs.Known.{Holds, Knows, Goes, declared_holds, entered_holds, left_holds, holds_more, stays, ◌▹◌, rule_goes, demand_goes}
use Rattle.probe_laws.proofs.KnownParts.{spelled_settled}
use Rattle.probe_laws.proofs.KnownNodes.{all_specs, specs_know}
use Rattle.probe_laws.proofs.FitDecls.{AreTyped, with_variable_goes, function_fits}
use Rattle.probe_laws.proofs.FitStatements.{marks_go}
use Rattle.probe_laws.proofs.BareMarks.{typed_mark}
use Rattle.flow_accepted.proofs.Apt.{IsAptExternal, AreAptExternals}
use Rattle.flow_accepted.proofs.AptDecls.{decl_apt}
use Rattle.flow_accepted.proofs.AptStatements.{compound_apt}

-- ---- a function's body begins

variable_of_goes : (x : Text) (k : Option TypeOf) (e : Option Entity) (s : State) → IsThere k → Knows false s → Goes false s (variable_of x k e s)
variable_of_goes x k None s is h = with_variable_goes x k s is h
variable_of_goes x k (Some e) s is h = stays s h

variables_go : (xs : List (Text × Option TypeOf)) (s : State) → AreTyped xs → Knows false s → Goes false s (with_variables xs s)
variables_go [] s is h = stays s h
variables_go ((x, k) ∷ rest) s is h = let one = variable_of_goes x k (find_here x s.names) s is.0 h in one ▹ variables_go rest (variable_of x k (find_here x s.names) s) is.1 one.0

again_holds : (n : ℕ) (x : Text) (e : Entity) (o : Option Entity) (s : Scoped Entity) → Holds false n s → Holds false n (declared_again x e o s)
again_holds n x (entity.Constant v) None s h = declared_holds false n x (entity.Constant v) s tt h
again_holds n x (entity.Constant v) (Some o) s h = h
again_holds n x (entity.Variable k) o s h = h
again_holds n x (entity.Parameter k) o s h = h
again_holds n x (entity.Function k) o s h = h
again_holds n x (entity.Builtin b) o s h = h
again_holds n x entity.Unknown o s h = h

constants_hold : (n : ℕ) (rows : Scope Entity) (s : Scoped Entity) → Holds false n s → Holds false n (with_constants rows s)
constants_hold n [] s h = h
constants_hold n ((x, e) ∷ rest) s h = constants_hold n rest (declared_again x e (find_here x s) s) (again_holds n x e (find_here x s) s h)

changed_size : {R : Type 0} (f : R → R) (i : ℕ) (rows : List R) → length (changed_at f i rows) ≡ length rows
changed_size f i [] = refl
changed_size f zero (r ∷ rows) = refl
changed_size f (suc i) (r ∷ rows) = ap suc (changed_size f i rows)

begun_goes : (f : TypedFunction) (s : State) → AreTyped f.given → Knows false s → Goes false s (begun_function f s)
begun_goes f s is h =
    let params = numbers_from (next_variable s) f.given in
    let v = record s {
      names = with_constants s.listed (entered s.names);
      tables = with_definition f.number params s.tables;
      function = f.number;
      file = false;
    } in
    let e = changed_size (λ g. record g { defined = Some params }) (f.number - 1) s.tables.functions in
    let n = length s.tables.functions in
    let m = length v.tables.functions in
    let one : Goes false s v = (constants_hold m s.listed (entered s.names) (entered_holds false m s.names (holds_more false n m s.names (omega (arith, e)) h)), omega (arith, e)) in
    one ▹ variables_go f.given v is one.0

ended_goes : (s : State) → Knows false s → Goes false s (ended_function s)
ended_goes s h = (left_holds false (length s.tables.functions) s.names h, omega arith)

-- ---- units

external_apt : (e : ExternalShape) (s : State) → ShapedExternal e → external_mark (type_external e s).external ≡ None → Knows false s → IsClean (type_external e s).state → Goes false s (type_external e s).state × IsAptExternal (type_external e s).external
external_apt (declared d) s is m h c = let one = decl_apt d s is m h c in (one.0, tt)
external_apt (defined specs (declarator stars x (arrays ls) i) ms c) s is m h clean = absurd is.1
external_apt (defined specs (declarator stars x (function ps) i) ms c) s is m h clean =
    let t = type_specs false specs unspelled s in
    let r = spelled_rule t.spelled in
    let q = specs_place specs in
    let v = rule r s.at q t.state in
    let f = type_function true (kind_at r) stars x ps i v in
    let b = begun_function f f.state in
    let w = type_marks ms b in
    let e : Surroundings = record { loop = false; breakable = false; result = kind_at (by 33 (result_type (pointed stars (kind_at r)))) } in
    let y = type_compound e c w in
    let marked = back (compound_grows e c w) clean in
    let declared = back (variables_grow f.given _) (back (marks_grow ms b) marked) in
    let ruled = back (function_grows true (kind_at r) stars x ps i v) declared in
    let one = specs_know false specs unspelled s (all_specs specs is.0) (inl refl) h (back (rule_grows r s.at q t.state) ruled) in
    let two = rule_goes r s.at q t.state one.1.0 in
    let typed = type_there r s.at q t.state (spelled_settled t.spelled one.0) ruled in
    let three = function_fits true (kind_at r) stars x ps i v is.2.1.1 typed two.0 declared in
    let four = begun_goes f f.state three.1 three.0.0 in
    let five = marks_go ms b four.0 in
    let rest = first (mark_among ms) (compound_mark y.compound) in
    let last = none_second (mark_among ms) (compound_mark y.compound) (none_second (declarator_mark f.name) rest (none_second (specs_mark t.specs) (first (declarator_mark f.name) rest) m)) in
    let six = compound_apt e c w is.3 last five.0 clean in
    (one.1 ▹ two ▹ three.0 ▹ four ▹ five ▹ six.0 ▹ ended_goes y.state six.0.0, six.1)

externals_apt : (es : List ExternalShape) (s : State) → ShapedExternals es → externals_mark (type_externals es s).externals ≡ None → Knows false s → IsClean (type_externals es s).state → AreAptExternals (type_externals es s).externals
externals_apt [] s is m h c = tt
externals_apt (e ∷ rest) s is m h c =
    let t = type_external e s in
    let y = type_externals rest t.state in
    let one = external_apt e s is.0 (none_first (external_mark t.external) (externals_mark y.externals) m) h (back (externals_grow rest t.state) c) in
    (one.1, externals_apt rest t.state is.1 (none_second (external_mark t.external) (externals_mark y.externals) m) one.0.0 c)

line_goes : (l : Option ProgramLine) (s : State) → Knows false s → Goes false s (type_line l s)
line_goes None s h = stays s h
line_goes (Some l) s h = demand_goes (is_some (digest_of l.digest)) 37 s.at l.pos s h

start_knows : (known : Option (List Bool)) → Knows false (start known)
start_knows known = record { sure = (tt, (tt, (tt, tt))); around = tt; inside = tt }

-- whichever functions count as defined
unit_apt : (known : Option (List Bool)) (u : UnitShape) → ShapedExternals u.externals → unit_mark (type_unit known u).unit ≡ None → IsClean (type_unit known u).state → AreAptExternals (type_unit known u).unit.externals
unit_apt known u is m c =
    let v = type_line u.line (start known) in
    let t = type_externals u.externals v in
    externals_apt u.externals v is (none_second (line_mark u.line) (externals_mark t.externals) m) (line_goes u.line (start known) (start_knows known)).0
    (back (demand_grows (any_main t.state.tables.functions) 38 (t.state.at - 1) u.last t.state) c)

pub typed_apt : (u : UnitShape) → ShapedExternals u.externals → complaints u ≡ [] → unit_mark u ≡ None → AreAptExternals (typed_unit u).unit.externals
typed_apt u is clean plain = unit_apt (Some (bodies u)) u is (typed_mark u ∙ plain) (ap length clean)
