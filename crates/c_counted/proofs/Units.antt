-- How typing counts: functions with bodies, and units.
use Rattle.std.proofs.Common.{◌≡◌, ℕ, ◌+◌, ◌-◌, ◌≤◌, List, [], ◌∷◌, Option, Some, None, Bool, true, false, refl, sym, ap, subst, arith}
use Rattle.std.specs.Prelude.{is_some, ◌≢◌, ◌||◌}
use Rattle.c_base.specs.declared.place.Pos.{Pos}
use Rattle.c_syntax.specs.declared.text.Text.{Text}
use Rattle.c_syntax.specs.declared.token.Mark.TheVariants as m
use Rattle.c_syntax.specs.declared.tree.ProgramLine.{ProgramLine}
use Rattle.c_syntax.specs.Forms.{◌▷◌, mark}
use Rattle.c_syntax.specs.Grammar.{specs_form, spec_form, declarator_form, declarators_form, marks_form, compound_form, maybe_line_form, external_form, externals_form, unit_form}
use Rattle.c_syntax.specs.Shape.{TypeOf, SpecShapes, no_specs, more_specs, decl, no_declarators, more_declarators, declarator, arrays, function, ExternalShape, defined, declared, UnitShape}
use Rattle.c_syntax.specs.Shaped.{SomeSpecs, ShapedExternal, ShapedExternals, ShapedUnit}
use Rattle.c_scopes.specs.Scoping.{find_here}
use Rattle.c_type_rules.specs.Verdicts.{result_type}
use Rattle.c_constants.specs.Probes.{digest_of}
use Rattle.c_tree.specs.declared.meaning.Entity.{Entity}
use Rattle.c_tree.specs.State.{State}
use Rattle.c_tree.specs.Rulings.{by, rule, kind_at}
use Rattle.c_tree.specs.Parts.{unspelled, spelled_rule, pointed}
use Rattle.c_tree.specs.Typing.{type_specs}
use Rattle.c_tree.specs.Declaring.{TypedFunction, type_function}
use Rattle.c_tree.specs.Stating.{type_marks}
use Rattle.c_tree.specs.Units.{specs_place, with_variables, variable_of, begun_function, type_external, type_externals, start, type_line, any_main, type_unit}
use Rattle.c_counted.proofs.Counting.{behind, kept, Stands, begins, some_tokens, no_fewer, Held, same, here, stepped5, demanded, ruled}
use Rattle.c_counted.proofs.Expressions.{specs_held, all_specs, specs_begin, spec_begins}
use Rattle.c_counted.proofs.Declarations.{with_variable_held, function_held, decl_held}
use Rattle.c_counted.proofs.Statements.{marks_held, compound_held}

-- ---- functions with bodies

variable_of_held : {P : ℕ → Pos → Type 0} (x : Text) (k : Option TypeOf) (e : Option Entity) (s : State) {n : ℕ} → Held P n s → Held P n (variable_of x k e s)
variable_of_held x k None s h = with_variable_held x k s h
variable_of_held x k (Some e) s h = h

variables_held : {P : ℕ → Pos → Type 0} (xs : List (Text × Option TypeOf)) (s : State) {n : ℕ} → Held P n s → Held P n (with_variables xs s)
variables_held [] s h = h
variables_held ((x, k) ∷ rest) s h = variables_held rest (variable_of x k (find_here x s.names) s) (variable_of_held x k (find_here x s.names) s h)

begun_function_held : {P : ℕ → Pos → Type 0} (f : TypedFunction) (s : State) {n : ℕ} → Held P n s → Held P n (begun_function f s)
begun_function_held f s h = variables_held f.given _ (same h refl refl)

specs_at : {P : ℕ → Pos → Type 0} (x : SpecShapes) (s : State) {n : ℕ} → SomeSpecs x → Stands P n (specs_form x) → Held P n s → P s.at (specs_place x)
specs_at no_specs s e w h = absurd e
specs_at (more_specs p f rest) s {n} e w h = here h (w.0.0 (some_tokens n (spec_form f) (spec_begins f)))

external_held : {P : ℕ → Pos → Type 0} (e : ExternalShape) (s : State) {n : ℕ} → ShapedExternal e → Stands P n (external_form e) → Held P n s → Held P (behind n (external_form e)) (type_external e s).state
external_held (declared d) s e w h = decl_held d s e w h
external_held (defined specs (declarator stars x (arrays ls) i) ms c) s e w h = absurd e.1
external_held (defined specs (declarator stars x (function ps) i) ms c) s e w h =
    let t = type_specs false specs unspelled s in
    let r = spelled_rule t.spelled in
    let q = specs_place specs in
    let v = rule r s.at q t.state in
    let hv = ruled r s.at q t.state (specs_at specs s e.0 w.0 h) (specs_held false specs unspelled s (all_specs specs e.0) w.0 h) in
    let f = type_function true (kind_at r) stars x ps i v in
    let hf = function_held true (kind_at r) stars x ps i v e.2 w.1.0 hv in
    let b = begun_function f f.state in
    let hm = marks_held ms b w.1.1.0 (begun_function_held f f.state hf) in
    let k = kind_at (by 33 (result_type (pointed stars (kind_at r)))) in
    same (compound_held (record { loop = false; breakable = false; result = k }) c (type_marks ms b) e.3 w.1.1.1 hm) refl refl

externals_held : {P : ℕ → Pos → Type 0} (es : List ExternalShape) (s : State) {n : ℕ} → ShapedExternals es → Stands P n (externals_form es) → Held P n s → Held P (behind n (externals_form es)) (type_externals es s).state
externals_held [] s e w h = h
externals_held (x ∷ rest) s e w h = externals_held rest (type_external x s).state e.1 w.1 (external_held x s e.0 w.0 h)

-- ---- units

line_held : {P : ℕ → Pos → Type 0} (l : Option ProgramLine) (s : State) {n : ℕ} → Stands P n (maybe_line_form l) → Held P n s → Held P (behind n (maybe_line_form l)) (type_line l s)
line_held None s w h = h
line_held (Some l) s w h = stepped5 (demanded (is_some (digest_of l.digest)) 37 s.at l.pos s (here h w.0) h)

external_begins : (e : ExternalShape) → ShapedExternal e → begins (external_form e) ≡ true
external_begins (declared (decl p specs no_declarators)) e = ap (λ b. b || begins (declarators_form no_declarators ▷ mark m.Semicolon)) (specs_begin specs e.1)
external_begins (declared (decl p specs (more_declarators d rest))) e = ap (λ b. b || begins (declarators_form (more_declarators d rest) ▷ mark m.Semicolon)) (specs_begin specs e.0)
external_begins (defined specs d ms c) e = ap (λ b. b || begins (declarator_form d ▷ marks_form ms ▷ compound_form c)) (specs_begin specs e.0)

externals_some : (n : ℕ) (es : List ExternalShape) → es ≢ [] → ShapedExternals es → n + 1 ≤ behind n (externals_form es)
externals_some n [] z e = absurd (z refl)
externals_some n (x ∷ rest) z e = omega (arith, some_tokens n (external_form x) (external_begins x e.0), no_fewer (behind n (external_form x)) (externals_form rest))

pub unit_some : (u : UnitShape) → ShapedUnit u → 1 ≤ behind 0 (unit_form u)
unit_some u e = omega (arith, no_fewer 0 (maybe_line_form u.line), externals_some (behind 0 (maybe_line_form u.line)) u.externals e.some e.all)

-- the end of a unit is at its last token
pub unit_held : {P : ℕ → Pos → Type 0} (known : Option (List Bool)) (u : UnitShape) → ShapedUnit u → Stands P 0 (unit_form u) → P (kept (behind 0 (unit_form u)) - 1) u.last → Held P (behind 0 (unit_form u)) (type_unit known u).state
unit_held {P} known u e w x =
    let s = type_line u.line (start known) in
    let t = type_externals u.externals s in
    let b : Held P 0 (start known) = record { count = refl; fine = tt } in
    let i = externals_held u.externals s e.all w.1.1 (line_held u.line (start known) w.1.0 b) in
    demanded (any_main t.state.tables.functions) 38 (t.state.at - 1) u.last t.state (subst (λ n. P (n - 1) u.last) (sym i.count) x) i
