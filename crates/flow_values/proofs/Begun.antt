-- Where a function's body begins, each parameter gets a row among the variables.
use Rattle.std.proofs.Common.{◌≡◌, ℕ, ◌+◌, List, [], ◌∷◌, ◌++◌, length, length-append, Bool, true, false, Option, Some, None, refl, sym, ◌∙◌, subst, arith}
use Rattle.std.specs.Prelude.{bytes_eq}
use Rattle.std.specs.List.{AllByRecursion}
use Rattle.c_base.specs.declared.place.Pos.{Pos}
use Rattle.c_syntax.specs.declared.text.Text.{Text}
use Rattle.c_syntax.specs.declared.tree.Named.{Named}
use Rattle.c_syntax.specs.declared.tree.Star.{Star}
use Rattle.c_syntax.specs.Shape.{TypeOf, ParamsShape, MaybeInit}
use Rattle.c_syntax.specs.Shaped.{ShapedParams}
use Rattle.c_type_rules.specs.Verdicts.{result_type}
use Rattle.c_scopes.specs.Rows.{Scope, Scoped}
use Rattle.c_scopes.specs.Scoping.{named, find_here, entered, closed_in}
use Rattle.c_tables.specs.Tables.{with_definition}
use Rattle.c_tables.specs.Rows.{first_place, text_of, name_pos}
use Rattle.c_tree.specs.declared.meaning.Entity.{Entity}
use Rattle.c_tree.specs.declared.meaning.Entity.TheVariants as entity
use Rattle.c_tree.specs.State.{State, steps, demand, mention, function_number, numbered_or, pushed_function}
use Rattle.c_tree.specs.Rulings.{Ruled, allowed, unsettled, refused, by, rule, kind_at}
use Rattle.c_tree.specs.Parts.{star_tokens, pointed}
use Rattle.c_tree.specs.Declaring.{next_variable, with_variable, name_tokens, claim_name, token_of_name, type_params, opened_scope, all_kinds, signature_of, Signature, function_at, unclear_at, function_entity, closed_params, declared_again, with_constants, declare_function, TypedFunction, type_function}
use Rattle.c_tree.specs.Units.{variable_of, with_variables, numbers_from, begun_function}
use Rattle.c_tree.proofs.Grows.{rule_grows}
use Rattle.c_tree.proofs.GrowsUnits.{closed_params_grows, declared_grows}
use Rattle.c_meaning.specs.Counts.{signature_variables}
use Rattle.probe_laws.proofs.Settled.{IsClean}
use Rattle.probe_laws.proofs.Rules.{back}
use Rattle.probe_laws.proofs.FitDecls.{AreTyped, function_fits}
use Rattle.flow_values.specs.Programs.{form_of, ParametersHaveRows}
use Rattle.flow_values.proofs.Scopes.{all_map, named_beside, different, Stand}
use Rattle.flow_values.proofs.Parameters.{stand_kept, IsParameter, Free, Declared, Apart, params_new}

-- ---- rows of names that are free and differ

beside : (t : Scope Entity) (x : Text) (e : Entity) (gs : List (Text × Option TypeOf)) → Free t gs → AllByRecursion (λ (h : Text × Option TypeOf). bytes_eq h.0 x ≡ false) gs → Free (t ++ (x, e) ∷ []) gs
beside t x e [] free apart = tt
beside t x e (g ∷ gs) free apart = (named_beside g.0 x e t apart.0 ∙ free.0, beside t x e gs free.1 apart.1)

rows_added : (gs : List (Text × Option TypeOf)) (s : State) → AreTyped gs → Free s.names.top gs → Apart gs → length (with_variables gs s).tables.variables ≡ length s.tables.variables + length gs
rows_added [] s typed free apart = omega arith
rows_added ((x, None) ∷ rest) s typed free apart = absurd typed.0
rows_added ((x, Some t) ∷ rest) s typed free apart =
    let w = with_variable x (Some t) s in
    let more = rows_added rest w typed.1 (beside s.names.top x (entity.Variable (next_variable s)) rest free.1 apart.0) apart.1 in
    let one = length-append s.tables.variables (record { name = x; kind = t; function = s.function } ∷ []) in
    subst (λ o. length (with_variables rest (variable_of x (Some t) o s)).tables.variables ≡ length s.tables.variables + length ((x, Some t) ∷ rest)) (sym free.0) (omega (arith, more, one))

-- ---- constants of the parameter list have other names

again_free : (x y : Text) (n : ℕ) (t : Scope Entity) → named x t ≡ Some (entity.Parameter n) → (e : Entity) (o : Option Entity) (s : Scoped Entity) → named y t ≡ Some e → named x s.top ≡ None → named x (declared_again y e o s).top ≡ None
again_free x y n t is (entity.Constant v) None s stands free = named_beside x y (entity.Constant v) s.top (different x y t (λ e. cc)) ∙ free
again_free x y n t is (entity.Constant v) (Some o) s stands free = free
again_free x y n t is (entity.Variable k) o s stands free = free
again_free x y n t is (entity.Parameter k) o s stands free = free
again_free x y n t is (entity.Function k) o s stands free = free
again_free x y n t is (entity.Builtin b) o s stands free = free
again_free x y n t is entity.Unknown o s stands free = free

constants_free : (x : Text) (n : ℕ) (t : Scope Entity) → named x t ≡ Some (entity.Parameter n) → (rows : Scope Entity) (s : Scoped Entity) → Stand t rows → named x s.top ≡ None → named x (with_constants rows s).top ≡ None
constants_free x n t is [] s stand free = free
constants_free x n t is ((y, e) ∷ rest) s stand free = constants_free x n t is rest (declared_again y e (find_here y s) s) stand.1 (again_free x y n t is e (find_here y s) s stand.0 free)

closed_free : (x : Text) (n : ℕ) (o : List (Scope Entity)) (t : Scope Entity) → named x t ≡ Some (entity.Parameter n) → Stand t t → (s : Scoped Entity) → named x s.top ≡ None → named x (with_constants (closed_in o t) s).top ≡ None
closed_free x n [] t is stand s free = free
closed_free x n (y ∷ o) t is stand s free = constants_free x n t is t s stand free

-- ---- the names of the parameter list are as they were when the function is declared

rule_listed : (r : Ruled) (token : ℕ) (p : Pos) (s : State) → (rule r token p s).listed ≡ s.listed
rule_listed (allowed t) token p s = refl
rule_listed unsettled token p s = refl
rule_listed (refused n) token p s = refl

demand_listed : (b : Bool) (n token : ℕ) (p : Pos) (s : State) → (demand b n token p s).listed ≡ s.listed
demand_listed true n token p s = refl
demand_listed false n token p s = refl

mention_listed : (x : Text) (k : TypeOf) (ks : List TypeOf) (n : Option ℕ) (s : State) → (numbered_or n s (pushed_function x k ks s)).state.listed ≡ s.listed
mention_listed x k ks (Some n) s = refl
mention_listed x k ks None s = refl

function_listed : (token : ℕ) (p : Pos) (x : Text) (e : Entity) (o : Option Entity) (s : State) → (function_at true token p x e o s).listed ≡ s.listed
function_listed token p x e None s = refl
function_listed token p x e (Some o) s = demand_listed _ 31 token p s

unclear_listed : (token : ℕ) (p : Pos) (x : Text) (o : Option Entity) (s : State) → (unclear_at true token p x o s).listed ≡ s.listed
unclear_listed token p x None s = refl
unclear_listed token p x (Some o) s = demand_listed _ 31 token p s

declared_listed : (token : ℕ) (p : Pos) (x : Text) (f : Option Signature) (s : State) → (declare_function true token p x f s).state.listed ≡ s.listed
declared_listed token p x None s = unclear_listed token p x (find_here x s.names) s
declared_listed token p x (Some f) s =
    let m = mention x f.result f.params s in
    function_listed token p x (function_entity x f m.number) (find_here x m.state.names) m.state ∙ mention_listed x f.result f.params (function_number x f.result f.params s.tables.functions) s

behind_listed : (r : Ruled) (token : ℕ) (p : Pos) (file : Bool) (x : Text) (f : Option Signature) (s : State) → (declare_function true token p x f (record (rule r token p s) { file = file })).state.listed ≡ s.listed
behind_listed r token p file x f s = declared_listed token p x f (record (rule r token p s) { file = file }) ∙ rule_listed r token p s

-- ---- functions

-- where the body begins, without the variables
abbrev at_body : TypedFunction → State → State
at_body f s = record s {
  names = with_constants s.listed (entered s.names);
  tables = with_definition f.number (numbers_from (next_variable s) f.given) s.tables;
  function = f.number;
  file = false;
}

all_free : (l : Scope Entity) (o : List (Scope Entity)) (t : Scope Entity) (s : Scoped Entity) → l ≡ closed_in o t → Stand t t → (gs : List (Text × Option TypeOf)) → Declared t gs → Free (with_constants l (entered s)).top gs
all_free l o t s e stand gs is = subst (λ (z : Scope Entity). Free (with_constants z (entered s)).top gs) (sym e)
    (all_map (λ (g : Text × Option TypeOf). IsParameter g.0 t) (λ (g : Text × Option TypeOf). named g.0 (with_constants (closed_in o t) (entered s)).top ≡ None) (λ g h. closed_free g.0 h.0 o t h.1 stand (entered s) refl) gs is)

function_rows : (k : Option TypeOf) (stars : List Star) (x : Option Named) (ps : ParamsShape) (i : MaybeInit) (s : State) → ShapedParams ps → AreTyped (type_function true k stars x ps i s).given → IsClean (type_function true k stars x ps i s).state
    → length (begun_function (type_function true k stars x ps i s) (type_function true k stars x ps i s).state).tables.variables
    ≡ length (type_function true k stars x ps i s).state.tables.variables + signature_variables (form_of (type_function true k stars x ps i s).name)
function_rows k stars x ps i s is typed c =
    let b = steps (star_tokens stars) s in
    let token = token_of_name b.at x b in
    let p = name_pos first_place x in
    let r = by 33 (result_type (pointed stars k)) in
    let v = record (opened_scope (steps (name_tokens x) (claim_name false x b))) { file = false } in
    let q = type_params true ps v in
    let f = signature_of (kind_at r) (all_kinds q.given) in
    let w = closed_params true q.state in
    let u = record (rule r token p w) { file = s.file } in
    let d = type_function true k stars x ps i s in
    let ruled = back {m = length d.state.complaints} (declared_grows true token p (text_of x) f u) c in
    let closed = back {m = length (rule r token p w).complaints} (rule_grows r token p w) ruled in
    let new = params_new ps v is typed (back (closed_params_grows true q.state) closed) in
    let listed = behind_listed r token p s.file (text_of x) f w in
    let free = all_free d.state.listed q.state.names.outer q.state.names.top d.state.names listed (stand_kept true ps v tt) d.given new.0 in
    let rows = rows_added d.given (at_body d d.state) typed free new.1 in
    let count = new.2 in
    omega (arith, rows, count)

pub parameters_have_rows : ParametersHaveRows
parameters_have_rows k stars x ps i s is there h c = function_rows k stars x ps i s is (function_fits true k stars x ps i s is there h c).1 c
