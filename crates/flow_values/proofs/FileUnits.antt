-- The variables of file scope of a unit: each has room, and the walk counts all rows.
use Rattle.std.proofs.Common.{◌≡◌, ℕ, zero, suc, ◌+◌, ◌-◌, ◌<◌, ◌≤◌, List, [], ◌∷◌, ◌++◌, length, nat_eq, Bool, true, false, Option, Some, refl, sym, ap, ◌∙◌, subst, arith}
use Rattle.std.specs.Prelude.{slice_get, is_some, if◌then◌else◌}
use Rattle.std.proofs.lemmas.Bool.Decides.{nat_tests}
use Rattle.c_base.specs.declared.place.Pos.{Pos}
use Rattle.c_syntax.specs.declared.tree.Named.{Named}
use Rattle.c_syntax.specs.declared.tree.ProbeMark.{ProbeMark}
use Rattle.c_syntax.specs.declared.tree.Star.{Star}
use Rattle.c_syntax.specs.Shape.{SpecShapes, DeclShape, DeclShapes, declarator, arrays, function, ParamsShape, MaybeInit, braces, ItemShapes, ExternalShape, defined, declared}
use Rattle.c_syntax.specs.Shaped.{in_names, ShapedDecl, ShapedExternal, ShapedExternals}
use Rattle.c_type_rules.specs.Verdicts.{result_type}
use Rattle.c_tables.specs.Tables.{VariableShape, TablesShape}
use Rattle.c_tables.specs.Rows.{row}
use Rattle.c_tree.specs.State.{State}
use Rattle.c_tree.specs.Rulings.{by, rule, kind_at}
use Rattle.c_tree.specs.Parts.{unspelled, spelled_rule, pointed}
use Rattle.c_tree.specs.Typing.{type_specs}
use Rattle.c_tree.specs.Declaring.{type_function, type_decl}
use Rattle.c_tree.specs.Stating.{Surroundings, type_marks}
use Rattle.c_tree.specs.Units.{specs_place, begun_function, type_external, type_externals}
use Rattle.c_tree.proofs.GrowsUnits.{externals_grow}
use Rattle.c_walk.specs.Walked.{Walked}
use Rattle.c_walk.specs.Units.{no_items, in_function}
use Rattle.c_meaning.specs.State.{Bound, found_in}
use Rattle.c_meaning.specs.Counts.{decl_variables, external_variables}
use Rattle.c_meaning.proofs.Declared.{decl_count, external_count}
use Rattle.probe_laws.proofs.Settled.{IsClean}
use Rattle.probe_laws.proofs.Rules.{back}
use Rattle.probe_laws.proofs.Known.{Knows, Goes}
use Rattle.flow_initial.proofs.Cores.{core}
use Rattle.flow_initial.proofs.KeepsNodes as nodes
use Rattle.flow_initial.proofs.KeepsParts as parts
use Rattle.flow_initial.proofs.KeepsUnits as units
use Rattle.flow_initial.proofs.RowLists.{row_at}
use Rattle.flow_values.specs.Bodies.{InitsGive}
use Rattle.flow_values.specs.Programs.{ParametersHaveRows}
use Rattle.flow_values.proofs.Reaching.{Variables, none_added}
use Rattle.flow_values.proofs.Typed.{constants_suffice}
use Rattle.flow_values.proofs.DeclsIn.{decl_in}
use Rattle.flow_values.proofs.UnitsIn.{defined_in, reaches_itself}
use Rattle.flow_values.specs.Made.{HasRoom, HaveRoom, AreBound}
use Rattle.flow_values.proofs.Values.{made_give_constants}
use Rattle.flow_values.proofs.Ending.{IsFine, onward, EndsIn, earlier, Between, between_none, between_both}
use Rattle.flow_values.proofs.Owning.{AreOwned, IsOwned, none_owned, all_owned, type_function_least}
use Rattle.flow_values.proofs.FileRoom.{HaveRoomTo, decl_room}

-- ---- as if each variable stood for an instance

bound_to : ℕ → List Bound
bound_to zero = []
bound_to (suc n) = record { variable = suc n; instance = 0 } ∷ bound_to n

found_if : (b : Bool) (m n j : ℕ) (bs : List Bound) → nat_eq m n ≡ b → (b ≡ false → is_some (found_in n bs) ≡ true) → is_some (if b then Some j else found_in n bs) ≡ true
found_if true m n j bs e f = refl
found_if false m n j bs e f = f refl

bound_found : (m n : ℕ) → 1 ≤ n → n ≤ m → is_some (found_in n (bound_to m)) ≡ true
unfolding bound_to
bound_found zero n low high = absurd (omega (arith, low, high))
bound_found (suc m) n low high = found_if (nat_eq (suc m) n) (suc m) n 0 (bound_to m) refl (λ e. bound_found m n low (grind (arith, nat_tests)))

below_length : (vs : List VariableShape) (i : ℕ) (v : VariableShape) → slice_get vs i ≡ Some v → i < length vs
below_length [] i v e = cc
below_length (x ∷ vs) zero v e = omega arith
below_length (x ∷ vs) (suc i) v e = omega (arith, below_length vs i v e)

pub row_there : (vs : List VariableShape) (n : ℕ) (v : VariableShape) → row vs n ≡ Some v → (1 ≤ n) × (n ≤ length vs) × (slice_get vs (n - 1) ≡ Some v)
row_there vs zero v e = cc
row_there vs (suc n) v e = let at = sym (row_at vs (suc n) (omega arith)) ∙ e in (omega arith, omega (arith, below_length vs (suc n - 1) v at), at)

all_bound : (t : TablesShape) → AreBound t (bound_to (length t.variables))
all_bound t n v e o = let r = row_there t.variables n v e in bound_found (length t.variables) n r.0 r.1

inits_give : (t : TablesShape) → HaveRoom t → InitsGive t (bound_to (length t.variables))
inits_give t has = constants_suffice t (bound_to (length t.variables)) (made_give_constants t (bound_to (length t.variables)) has (all_bound t))

-- ---- at each external declaration

-- each variable of file scope so far has room in whatever tables come
abbrev pub IsRoomy : State → Type 0
IsRoomy s = (t : TablesShape) → EndsIn t (core s) → HaveRoomTo t 0 (length s.tables.variables)

ends_itself : (s : State) → EndsIn s.tables (core s)
ends_itself s = (reaches_itself s.tables s refl, omega arith)

abbrev at_count : ℕ → Walked
at_count n = record no_items { variables = n }

-- names are known behind it, all is fine, each variable has room, and the rows are those that are counted
pub record IsPast (e : ExternalShape) (s : State) : Type 0 where
  pub goes : Goes false s (type_external e s).state
  pub fine : IsFine (core (type_external e s).state)
  pub roomy : IsRoomy (type_external e s).state
  pub counted : length (type_external e s).state.tables.variables ≡ length s.tables.variables + external_variables (type_external e s).external

past_roomy : (s u : State) → ((t : TablesShape) → EndsIn t (core u) → EndsIn t (core s)) → IsRoomy s → ((t : TablesShape) → EndsIn t (core u) → HaveRoomTo t (length s.tables.variables) (length u.tables.variables)) → IsRoomy u
past_roomy s u back roomy more t ends = between_both t (λ n v. HasRoom t v.kind) 0 (length s.tables.variables) (length u.tables.variables) (roomy t (back t ends)) (more t ends)

all_have : (s : State) → IsRoomy s → HaveRoom s.tables
all_have s roomy n v e o = let r = row_there s.tables.variables n v e in roomy s.tables (ends_itself s) n v (omega (arith, r.0)) r.1 e o

declared_past : (d : DeclShape) (s : State) → ShapedDecl in_names d → Knows false s → IsFine (core s) → IsRoomy s → IsClean (type_decl d s).state → IsPast (declared d) s
declared_past d s is h g roomy clean =
    let y = type_decl d s in
    let fine = onward s y.state (λ J kept. units.decl_keeps J kept.all d s is) g in
    let back = λ (t : TablesShape). earlier t s y.state (λ J kept. units.decl_keeps J kept.all d s is) g in
    let after = past_roomy s y.state back roomy (λ t ends. (decl_room t d s is h g ends clean).1) in
    let t = y.state.tables in
    let w = at_count (length s.tables.variables) in
    let one = decl_in t (bound_to (length t.variables)) (inits_give t (all_have y.state after)) (in_function 0) d s w is h g.0 (ends_itself y.state).0 clean refl in
    record { goes = one.0; fine = fine; roomy = after; counted = sym one.1 ∙ decl_count t (in_function 0) y.decl w }

-- what a definition declares is of its function
defined_owned : (specs : SpecShapes) (stars : List Star) (x : Option Named) (ps : ParamsShape) (i : MaybeInit) (ms : List ProbeMark) (p : Pos) (ds : DeclShapes) (items : ItemShapes) (s : State)
    → ShapedExternal (defined specs (declarator stars x (function ps) i) ms (braces p ds items))
    → AreOwned (length s.tables.variables) (type_external (defined specs (declarator stars x (function ps) i) ms (braces p ds items)) s).state.tables.variables
defined_owned specs stars x ps i ms p ds items s is =
    let y = type_specs false specs unspelled s in
    let r = spelled_rule y.spelled in
    let v = rule r s.at (specs_place specs) y.state in
    let k = kind_at r in
    let f = type_function true k stars x ps i v in
    let a = begun_function f f.state in
    let m = type_marks ms a in
    let e : Surroundings = record { loop = false; breakable = false; result = kind_at (by 33 (result_type (pointed stars k))) } in
    let vs = s.tables.variables in
    let same = parts.function_keeps (Variables vs) (none_added vs) true k stars x ps i v (nodes.rule_keeps (Variables vs) (none_added vs) r s.at (specs_place specs) y.state (nodes.specs_keep (Variables vs) (none_added vs) false specs unspelled s refl)) in
    let n = length vs in
    let J = IsOwned n in
    let kept = all_owned n in
    let start : J (core (record f.state { function = f.number })) = (subst (AreOwned n) (sym same) (none_owned vs), λ z. absurd (omega (arith, z, type_function_least true k stars x ps i v))) in
    let body = units.variables_keep J kept f.given _ (units.function_given true k stars x ps i v) start in
    (units.compound_keeps J kept e (braces p ds items) m is.3 (parts.marks_keep J kept.types ms a body)).0

owned_between : (t : TablesShape) (Q : ℕ → VariableShape → Type 0) (u : State) (p : ℕ) → EndsIn t (core u) → AreOwned p u.tables.variables → Between t Q p (length u.tables.variables)
owned_between t Q u p ends own n v low high at owner =
    let r = row_there t.variables n v at in
    let there = in_part u.tables.variables ends.0.more (n - 1) v (omega (arith, high, r.0)) (sym (ap (λ vs. slice_get vs (n - 1)) ends.0.added) ∙ r.2) in
    absurd (own (n - 1) v (omega (arith, low)) there owner)
  where
    in_part : (vs more : List VariableShape) (i : ℕ) (v : VariableShape) → i < length vs → slice_get (vs ++ more) i ≡ Some v → slice_get vs i ≡ Some v
    in_part [] more i v h e = absurd (omega (arith, h))
    in_part (x ∷ vs) more zero v h e = e
    in_part (x ∷ vs) more (suc i) v h e = in_part vs more i v (omega (arith, h)) e

-- each number that is counted for a variable of file scope is bound, where so many are counted before
abbrev pub IsBoundTo : List Bound → ℕ → ℕ → Type 0
IsBoundTo b p m = (n : ℕ) → p < n → n ≤ p + m → is_some (found_in n b) ≡ true

abbrev pub AreCounted : List Bound → ℕ → List ExternalShape → Type 0
AreCounted b p [] = Unit {0}
AreCounted b p (declared d ∷ rest) = IsBoundTo b p (decl_variables d) × AreCounted b (p + decl_variables d) rest
AreCounted b p (defined specs d ms c ∷ rest) = AreCounted b (p + external_variables (defined specs d ms c)) rest

counted_rest : (b : List Bound) (p : ℕ) (e : ExternalShape) (rest : List ExternalShape) → AreCounted b p (e ∷ rest) → AreCounted b (p + external_variables e) rest
counted_rest b p (declared d) rest h = h.1
counted_rest b p (defined specs d ms c) rest h = h

external_bound : (e : ExternalShape) (s : State) → ShapedExternal e → (t : TablesShape) (b : List Bound) → EndsIn t (core (type_external e s).state) → length (type_external e s).state.tables.variables ≡ length s.tables.variables + external_variables (type_external e s).external
    → (rest : List ExternalShape) → AreCounted b (length s.tables.variables) ((type_external e s).external ∷ rest) → Between t (λ n v. is_some (found_in n b) ≡ true) (length s.tables.variables) (length (type_external e s).state.tables.variables)
external_bound (declared d) s is t b ends size rest counted = λ n v low high at owner. counted.0 n low (omega (arith, high, size))
external_bound (defined specs (declarator stars x (arrays ls) i) ms c) s is t b ends size rest counted = absurd is.1
external_bound (defined specs (declarator stars x (function ps) i) ms (braces p ds items)) s is t b ends size rest counted =
    owned_between t _ (type_external (defined specs (declarator stars x (function ps) i) ms (braces p ds items)) s).state (length s.tables.variables) ends (defined_owned specs stars x ps i ms p ds items s is)

module _ (rows : ParametersHaveRows) where
  defined_past : (specs : SpecShapes) (stars : List Star) (x : Option Named) (ps : ParamsShape) (i : MaybeInit) (ms : List ProbeMark) (p : Pos) (ds : DeclShapes) (items : ItemShapes) (s : State)
      → ShapedExternal (defined specs (declarator stars x (function ps) i) ms (braces p ds items)) → Knows false s → IsFine (core s) → IsRoomy s
      → IsClean (type_external (defined specs (declarator stars x (function ps) i) ms (braces p ds items)) s).state → IsPast (defined specs (declarator stars x (function ps) i) ms (braces p ds items)) s
  defined_past specs stars x ps i ms p ds items s is h g roomy clean =
      let e = defined specs (declarator stars x (function ps) i) ms (braces p ds items) in
      let y = type_external e s in
      let fine = onward s y.state (λ J kept. units.external_keeps J kept e s is) g in
      let back = λ (t : TablesShape). earlier t s y.state (λ J kept. units.external_keeps J kept e s is) g in
      let own = defined_owned specs stars x ps i ms p ds items s is in
      let after = past_roomy s y.state back roomy (λ t ends. owned_between t (λ n v. HasRoom t v.kind) y.state (length s.tables.variables) ends own) in
      let t = y.state.tables in
      let w = at_count (length s.tables.variables) in
      let one = defined_in t (bound_to (length t.variables)) (inits_give t (all_have y.state after)) rows specs stars x ps i ms p ds items s w is h g.0 (ends_itself y.state).0 clean refl in
      record { goes = one.0; fine = fine; roomy = after; counted = sym one.1 ∙ external_count t y.external w }

  pub external_past : (e : ExternalShape) (s : State) → ShapedExternal e → Knows false s → IsFine (core s) → IsRoomy s → IsClean (type_external e s).state → IsPast e s
  external_past (declared d) s is h g roomy clean = declared_past d s is h g roomy clean
  external_past (defined specs (declarator stars x (arrays ls) i) ms c) s is h g roomy clean = absurd is.1
  external_past (defined specs (declarator stars x (function ps) i) ms (braces p ds items)) s is h g roomy clean = defined_past specs stars x ps i ms p ds items s is h g roomy clean

  -- behind all of them each variable has room; and where what is counted of file scope is bound, each of its variables is
  pub externals_past : (es : List ExternalShape) (s : State) → ShapedExternals es → Knows false s → IsFine (core s) → IsRoomy s → IsClean (type_externals es s).state
      → IsRoomy (type_externals es s).state × ((t : TablesShape) (b : List Bound) → EndsIn t (core (type_externals es s).state) → AreCounted b (length s.tables.variables) (type_externals es s).externals
      → Between t (λ n v. is_some (found_in n b) ≡ true) (length s.tables.variables) (length (type_externals es s).state.tables.variables))
  externals_past [] s is h g roomy clean = (roomy, λ t b ends counted. between_none t _ (length s.tables.variables) (length s.tables.variables) refl)
  externals_past (e ∷ rest) s is h g roomy clean =
      let y = type_external e s in
      let z = type_externals rest y.state in
      let one = external_past e s is.0 h g roomy (back (externals_grow rest y.state) clean) in
      let two = externals_past rest y.state is.1 one.goes.0 one.fine one.roomy clean in (
        two.0,
        λ t b ends counted.
            let near = earlier t y.state z.state (λ J kept. units.externals_keep J kept rest y.state is.1) one.fine ends in
            between_both t (λ n v. is_some (found_in n b) ≡ true) (length s.tables.variables) (length y.state.tables.variables) (length z.state.tables.variables)
            (external_bound e s is.0 t b near one.counted z.externals counted) (two.1 t b ends (subst (λ m. AreCounted b m z.externals) (sym one.counted) (counted_rest b (length s.tables.variables) y.external z.externals counted))),
      )
