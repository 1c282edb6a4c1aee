-- Variables that a function's body declares are of that function.
use Rattle.std.proofs.Common.{◌≡◌, ℕ, zero, suc, ◌+◌, ◌≤◌, List, [], ◌∷◌, ◌++◌, length, Bool, true, false, Option, Some, None, ap, ◌∙◌, arith}
use Rattle.std.specs.Prelude.{slice_get, if◌then◌else◌}
use Rattle.c_base.specs.declared.place.Pos.{Pos}
use Rattle.c_syntax.specs.declared.text.Text.{Text}
use Rattle.c_syntax.specs.declared.tree.Named.{Named}
use Rattle.c_syntax.specs.declared.tree.Star.{Star}
use Rattle.c_syntax.specs.Shape.{TypeOf, ParamsShape, MaybeInit}
use Rattle.c_type_rules.specs.Verdicts.{result_type}
use Rattle.c_tables.specs.Tables.{FieldShape, FunctionShape, VariableShape}
use Rattle.c_tables.specs.Rows.{first_place, number_from, text_of, name_pos}
use Rattle.c_tree.specs.declared.meaning.Tag.{Tag}
use Rattle.c_tree.specs.State.{State, steps, is_function, function_number, pushed_function, numbered_or}
use Rattle.c_tree.specs.Rulings.{by, rule, kind_at}
use Rattle.c_tree.specs.Parts.{star_tokens, pointed, opened, begun_at, closed, listed_enumeration}
use Rattle.c_tree.specs.Declaring.{name_tokens, claim_name, token_of_name, type_params, opened_scope, closed_params, all_kinds, Signature, signature_of, declare_function, type_function}
use Rattle.flow_initial.proofs.Cores.{Core, core, lines_of, Kept, KeptByAll}
use Rattle.flow_initial.proofs.Openings.{opened_keeps}

-- behind so many, each variable is one of a function
abbrev pub AreOwned : ℕ → List VariableShape → Type 0
AreOwned p vs = (i : ℕ) (v : VariableShape) → p ≤ i → slice_get vs i ≡ Some v → v.function ≡ 0 → ⊥

abbrev pub IsOwned : ℕ → Core → Type 0
IsOwned p c = AreOwned p c.variables × (c.function ≡ 0 → ⊥)

pub none_owned : (vs : List VariableShape) → AreOwned (length vs) vs
none_owned [] i v le e o = cc
none_owned (x ∷ vs) zero v le e o = omega (arith, le)
none_owned (x ∷ vs) (suc i) v le e o = none_owned vs i v (omega (arith, le)) e o

last_or : (vs : List VariableShape) (x v : VariableShape) (i : ℕ) → slice_get (vs ++ x ∷ []) i ≡ Some v → (slice_get vs i ≡ Some v → v.function ≡ 0 → ⊥) → (x.function ≡ 0 → ⊥) → v.function ≡ 0 → ⊥
last_or [] x v zero e f g o = let same : x ≡ v = cc in g (ap (λ (y : VariableShape). y.function) same ∙ o)
last_or [] x v (suc i) e f g o = cc
last_or (y ∷ vs) x v zero e f g o = f e o
last_or (y ∷ vs) x v (suc i) e f g o = last_or vs x v i e f g o

begun_owned : (p : ℕ) (m : Option ℕ) (s : State) → IsOwned p (core s) → IsOwned p (core (begun_at m s))
begun_owned p None s h = h
begun_owned p (Some m) s h = h

closed_owned : (p : ℕ) (m : Option ℕ) (fields : List FieldShape) (s : State) → IsOwned p (core s) → IsOwned p (core (closed m fields s))
closed_owned p None fields s h = h
closed_owned p (Some m) fields s h = h

listed_owned : (p : ℕ) (q : Pos) (x : Text) (t : Option Tag) (s : State) → IsOwned p (core s) → IsOwned p (core (listed_enumeration q x t s))
listed_owned p q x None s h = h
listed_owned p q x (Some t) s h = h

types_owned : (p : ℕ) → Kept (IsOwned p)
types_owned p = record {
  opening = opened_keeps (IsOwned p) (λ s h. h) (λ x s h. h);
  beginning = begun_owned p;
  closing = λ alone x ds s h g. closed_owned p (opened alone true x s).number (lines_of alone x ds s).fields (lines_of alone x ds s).state g;
  listing = listed_owned p;
  entering = λ s h. h;
  leaving = λ s h. h;
  hushing = λ s t f h. f h;
}

pub all_owned : (p : ℕ) → KeptByAll (IsOwned p)
all_owned p = record {
  types = types_owned p;
  declaring = λ x k s g h. ((λ i v le e o. last_or s.tables.variables (record { name = x; kind = k; function = s.function }) v i e (h.0 i v le) h.1 o), h.1);
}

-- ---- a function's number is no 0

abbrev AtLeast : ℕ → Option ℕ → Type 0
AtLeast n None = Unit {0}
AtLeast n (Some m) = n ≤ m

less_least : (n : ℕ) (o : Option ℕ) → AtLeast (n + 1) o → AtLeast n o
less_least n None h = tt
less_least n (Some m) h = omega (arith, h)

pick_least : (b : Bool) (n : ℕ) (o : Option ℕ) → AtLeast n o → AtLeast n (if b then Some n else o)
pick_least true n o h = omega arith
pick_least false n o h = h

from_least : (test : FunctionShape → Bool) (n : ℕ) (rows : List FunctionShape) → AtLeast n (number_from test n rows)
from_least test n [] = tt
from_least test n (r ∷ rows) = pick_least (test r) n (number_from test (n + 1) rows) (less_least n (number_from test (n + 1) rows) (from_least test (n + 1) rows))

numbered_least : (x : Text) (k : TypeOf) (ks : List TypeOf) (o : Option ℕ) (s : State) → AtLeast 1 o → 1 ≤ (numbered_or o s (pushed_function x k ks s)).number
numbered_least x k ks (Some n) s h = h
numbered_least x k ks None s h = omega arith

pub function_least : (defining : Bool) (token : ℕ) (p : Pos) (x : Text) (f : Option Signature) (s : State) → 1 ≤ (declare_function defining token p x f s).number
function_least defining token p x None s = omega arith
function_least defining token p x (Some f) s = numbered_least x f.result f.params (function_number x f.result f.params s.tables.functions) s (from_least (is_function x f.result f.params) 1 s.tables.functions)

pub type_function_least : (defining : Bool) (k : Option TypeOf) (stars : List Star) (x : Option Named) (ps : ParamsShape) (i : MaybeInit) (s : State) → 1 ≤ (type_function defining k stars x ps i s).number
type_function_least defining k stars x ps i s =
    let begun = steps (star_tokens stars) s in
    let token = token_of_name begun.at x begun in
    let p = name_pos first_place x in
    let r = by 33 (result_type (pointed stars k)) in
    let q = type_params defining ps (record (opened_scope (steps (name_tokens x) (claim_name false x begun))) { file = false }) in
    function_least defining token p (text_of x) (signature_of (kind_at r) (all_kinds q.given)) (record (rule r token p (closed_params defining q.state)) { file = s.file })
