-- The rows that a function's parameters get where its body begins are those of scalars.
use Rattle.std.proofs.Common.{◌≡◌, ℕ, zero, suc, ◌≤◌, List, [], ◌∷◌, ◌++◌, length, Bool, true, false, Option, Some, None, refl, arith}
use Rattle.std.specs.Prelude.{slice_get}
use Rattle.std.specs.List.{AllByRecursion}
use Rattle.c_syntax.specs.declared.text.Text.{Text}
use Rattle.c_syntax.specs.declared.tree.Named.{Named}
use Rattle.c_syntax.specs.declared.tree.Star.{Star}
use Rattle.c_syntax.specs.Shape.{TypeOf, decl, DeclShapes, no_decls, more_decls, declarator, no_declarators, more_declarators, arrays, function, ParamsShape, empty, void, params, MaybeInit}
use Rattle.c_type_rules.specs.Kinds.{decay, is_scalar}
use Rattle.c_type_rules.specs.Verdicts.{fine_if}
use Rattle.c_scopes.specs.Scoping.{find_here}
use Rattle.c_tables.specs.Tables.{VariableShape}
use Rattle.c_tables.specs.Rows.{first_place}
use Rattle.c_tree.specs.declared.meaning.Entity.{Entity}
use Rattle.c_tree.specs.State.{State, step, steps, complain}
use Rattle.c_tree.specs.Rulings.{Ruled, allowed, unsettled, refused, by, rule, kind_at, of_kind}
use Rattle.c_tree.specs.Parts.{unspelled, spelled_rule, star_tokens, pointed}
use Rattle.c_tree.specs.Typing.{type_specs, type_lengths}
use Rattle.c_tree.specs.Declaring.{name_tokens, claim_name, with_variable, element_lengths, scalar_rule, type_param, type_param_list, type_params, opened_scope, type_function}
use Rattle.c_tree.specs.Units.{variable_of, with_variables}
use Rattle.c_meaning.specs.Layout.{kind_in}
use Rattle.flow_parts.specs.Parameters.{IsScalarKind}

-- ---- what parameters are

fine_scalar : (b : Bool) (t : TypeOf) → is_scalar t ≡ b → IsScalarKind (kind_at (by 33 (fine_if b t)))
fine_scalar true t e = e
fine_scalar false t e = tt

rule_scalar : (r : Ruled) → IsScalarKind (kind_at (scalar_rule r))
rule_scalar (allowed t) = fine_scalar (is_scalar (decay t)) (decay t) refl
rule_scalar unsettled = tt
rule_scalar (refused n) = tt

abbrev pub AreScalar : List (Text × Option TypeOf) → Type 0
AreScalar gs = AllByRecursion (λ (g : Text × Option TypeOf). IsScalarKind g.1) gs

list_scalar : (defining : Bool) (ds : DeclShapes) (s : State) → AreScalar (type_param_list defining ds s).given
list_scalar defining no_decls s = tt
list_scalar defining (more_decls (decl p specs no_declarators) rest) s = list_scalar defining rest (step (complain 33 s.at first_place s))
list_scalar defining (more_decls (decl p specs (more_declarators (declarator stars x (arrays ls) i) no_declarators)) rest) s =
    let t = type_specs false specs unspelled s in
    let r = spelled_rule t.spelled in
    let l = type_lengths [] ls (steps (name_tokens x) (claim_name defining x (steps (star_tokens stars) (rule r s.at p t.state)))) in
    (rule_scalar (of_kind (pointed stars (kind_at r)) (element_lengths l.state.rooms l.counts)), list_scalar defining rest (step (type_param defining p specs stars x ls i s).state))
list_scalar defining (more_decls (decl p specs (more_declarators (declarator stars x (function ps) i) no_declarators)) rest) s = list_scalar defining rest (step (complain 33 s.at first_place s))
list_scalar defining (more_decls (decl p specs (more_declarators (declarator stars x (arrays ls) i) (more_declarators d more))) rest) s = list_scalar defining rest (step (complain 33 s.at first_place s))
list_scalar defining (more_decls (decl p specs (more_declarators (declarator stars x (function ps) i) (more_declarators d more))) rest) s = list_scalar defining rest (step (complain 33 s.at first_place s))

params_scalar : (defining : Bool) (ps : ParamsShape) (s : State) → AreScalar (type_params defining ps s).given
params_scalar defining empty s = tt
params_scalar defining void s = tt
params_scalar defining (params ds) s = list_scalar defining ds (step (record s { params = [] }))

pub function_scalar : (defining : Bool) (k : Option TypeOf) (stars : List Star) (x : Option Named) (ps : ParamsShape) (i : MaybeInit) (s : State) → AreScalar (type_function defining k stars x ps i s).given
function_scalar defining k stars x ps i s =
    let b = steps (star_tokens stars) s in
    params_scalar defining ps (record (opened_scope (steps (name_tokens x) (claim_name false x b))) { file = false })

-- ---- rows

-- from that index on each row there is has a scalar type
abbrev pub ScalarFrom : ℕ → List VariableShape → Type 0
ScalarFrom n vs = (i : ℕ) → n ≤ i → IsScalarKind (kind_in (slice_get vs i))

none_there : (vs : List VariableShape) (i : ℕ) → length vs ≤ i → IsScalarKind (kind_in (slice_get vs i))
none_there [] i h = tt
none_there (v ∷ vs) zero h = absurd (omega (arith, h))
none_there (v ∷ vs) (suc i) h = none_there vs i (omega (arith, h))

pub scalar_behind : (vs : List VariableShape) → ScalarFrom (length vs) vs
scalar_behind vs i h = none_there vs i h

one_more : (vs : List VariableShape) (v : VariableShape) (i : ℕ) → is_scalar v.kind ≡ true → IsScalarKind (kind_in (slice_get vs i)) → IsScalarKind (kind_in (slice_get (vs ++ v ∷ []) i))
one_more [] v zero e h = e
one_more [] v (suc i) e h = tt
one_more (x ∷ vs) v zero e h = h
one_more (x ∷ vs) v (suc i) e h = one_more vs v i e h

with_scalar : (n : ℕ) (x : Text) (k : Option TypeOf) (s : State) → IsScalarKind k → ScalarFrom n s.tables.variables → ScalarFrom n (with_variable x k s).tables.variables
with_scalar n x None s e h = h
with_scalar n x (Some t) s e h = λ i low. one_more s.tables.variables (record { name = x; kind = t; function = s.function }) i e (h i low)

variable_scalar : (n : ℕ) (x : Text) (k : Option TypeOf) (o : Option Entity) (s : State) → IsScalarKind k → ScalarFrom n s.tables.variables → ScalarFrom n (variable_of x k o s).tables.variables
variable_scalar n x k None s e h = with_scalar n x k s e h
variable_scalar n x k (Some o) s e h = h

pub variables_scalar : (n : ℕ) (gs : List (Text × Option TypeOf)) (s : State) → AreScalar gs → ScalarFrom n s.tables.variables → ScalarFrom n (with_variables gs s).tables.variables
variables_scalar n [] s all h = h
variables_scalar n ((x, k) ∷ rest) s all h = variables_scalar n rest (variable_of x k (find_here x s.names) s) all.1 (variable_scalar n x k (find_here x s.names) s all.0 h)
