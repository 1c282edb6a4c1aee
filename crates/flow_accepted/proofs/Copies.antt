-- Where a structure stands to the left of a plain `=` of which nothing is complained, both sides are places that are copied; else a scalar
-- stands there.
use Rattle.std.proofs.Common.{◌≡◌, ℕ, ◌⊎◌, inl, inr, List, [], Bool, true, false, Option, Some, None, refl, sym, ap, ◌∙◌, subst}
use Rattle.std.specs.Prelude.{nat_eq, ◌&&◌, if◌then◌else◌}
use Rattle.std.proofs.lemmas.Bool.{true≢false}
use Rattle.c_base.specs.declared.place.Pos.{Pos}
use Rattle.c_syntax.specs.declared.tree.UnaryOp.TheVariants as front
use Rattle.c_syntax.specs.Shape.{TypeOf, int, pointer, array, structure, nothing, NoteShape, typed, known, bare, number, char, str, name, unary, before, size_of, Infix, plain, and, or, assign, comma, NodeShape, node, ExprShape, leaf, paren, call, prefix, size_of_type, cast, suffix, two, choose, probe, index, field, behind, simple, select}
use Rattle.c_type_rules.specs.Kinds.{is_scalar}
use Rattle.c_type_rules.specs.Verdicts.{fine, wrong, assigned_type}
use Rattle.c_type_rules.specs.Layouts.{Measure}
use Rattle.c_constants.specs.declared.numbers.Number.{Number}
use Rattle.c_constants.specs.Numbers.{number_of}
use Rattle.c_constants.specs.declared.constants.Constant.{Constant}
use Rattle.c_constants.specs.declared.constants.Constant.TheVariants as constant
use Rattle.c_scopes.specs.Scoping.{find}
use Rattle.c_tables.specs.Tables.{FunctionShape, VariableShape}
use Rattle.c_tables.specs.Rows.{row}
use Rattle.c_tree.specs.declared.meaning.Entity.{Entity}
use Rattle.c_tree.specs.declared.meaning.Entity.TheVariants as entity
use Rattle.c_tree.specs.State.{State, step, steps, is_clean}
use Rattle.c_tree.specs.Rulings.{by, kind_at, of_kind, allowed_if}
use Rattle.c_tree.specs.Sorts.{Sort, note_of, cleared, null}
use Rattle.c_tree.specs.Operators.{number_sort, named_variable, named_parameter, named_entity, Given, called, call_of, typed_call, assigned_rule, entering}
use Rattle.c_tree.specs.Typing.{opening, type_node, type_form, type_arguments}
use Rattle.c_walk.specs.Places.{has_scalar, has_structure, holds_structure}
use Rattle.c_sites_probes.specs.Marked.{node_mark, form_mark}
use Rattle.probe_rules.proofs.ReadyUnits.{some_none}
use Rattle.probe_laws.proofs.Settled.{IsThere}
use Rattle.flow_walks.specs.Expressions.{holds_scalar, form_holds_scalar}
use Rattle.flow_calls.specs.Orderly.{is_copied, form_is_copied}
use Rattle.flow_accepted.proofs.Apt.{CopiesApt}

-- ---- notes

structured : (k : Option TypeOf) (c : Constant) (m : Option ℕ) (n : ℕ) → k ≡ Some (structure n) → has_structure (note_of k c m false) ≡ true
structured None c m n e = cc
structured (Some (structure j)) c m n e = refl
structured (Some (int k)) c m n e = cc
structured (Some (pointer t)) c m n e = cc
structured (Some (array t k)) c m n e = cc
structured (Some nothing) c m n e = cc

scalar_noted : (k : Option TypeOf) (c : Constant) (m : Option ℕ) (t : TypeOf) → k ≡ Some t → is_scalar t ≡ true → has_scalar (note_of k c m false) ≡ true
scalar_noted k c m t e h = subst (λ (k : Option TypeOf). has_scalar (note_of k c m false) ≡ true) (sym e) h

-- the type of what is noted as a structure
noted_structure : (k : Option TypeOf) (c : Constant) (m : Option ℕ) (v : Bool) → has_structure (note_of k c m v) ≡ true → (n : ℕ) × (k ≡ Some (structure n))
noted_structure None c m v e = absurd (true≢false (sym e))
noted_structure (Some (structure n)) c m v e = (n, refl)
noted_structure (Some (int k)) c m false e = absurd (true≢false (sym e))
noted_structure (Some (pointer t)) c m false e = absurd (true≢false (sym e))
noted_structure (Some (array t k)) c m false e = absurd (true≢false (sym e))
noted_structure (Some nothing) c m false e = absurd (true≢false (sym e))
noted_structure (Some (int k)) (constant.Known j z) m true e = absurd (true≢false (sym e))
noted_structure (Some (int k)) c m true e = cc
noted_structure (Some (pointer t)) (constant.Known j z) m true e = absurd (true≢false (sym e))
noted_structure (Some (pointer t)) c m true e = cc
noted_structure (Some (array t k)) (constant.Known j z) m true e = absurd (true≢false (sym e))
noted_structure (Some (array t k)) c m true e = cc
noted_structure (Some nothing) (constant.Known j z) m true e = absurd (true≢false (sym e))
noted_structure (Some nothing) c m true e = cc

-- ---- a place of a structure, past parentheses

variable_copied : (p : Pos) (j : ℕ) (v : Option VariableShape) (s : State) (k : Option TypeOf) (n : ℕ) → k ≡ Some (structure n) → (named_variable p j v s).typing.sort.place ≡ true
    → (let t = (named_variable p j v s).typing in has_structure (note_of k t.sort.constant t.names t.valued) ≡ true)
variable_copied p j None s k n e h = absurd (true≢false (sym h))
variable_copied p j (Some v) s k n e h = structured k _ _ n e

parameter_copied : (p : Pos) (y : Option TypeOf) (s : State) (k : Option TypeOf) (n : ℕ) → k ≡ Some (structure n) → (named_parameter p y s).typing.sort.place ≡ true
    → (let t = (named_parameter p y s).typing in has_structure (note_of k t.sort.constant t.names t.valued) ≡ true)
parameter_copied p None s k n e h = absurd (true≢false (sym h))
parameter_copied p (Some y) s k n e h = structured k _ _ n e

name_copied : (p : Pos) (x : Option Entity) (s : State) (k : Option TypeOf) (n : ℕ) → k ≡ Some (structure n) → (named_entity p x s).typing.sort.place ≡ true
    → (let t = (named_entity p x s).typing in has_structure (note_of k t.sort.constant t.names t.valued) ≡ true)
name_copied p (Some (entity.Variable j)) s k n e h = variable_copied p j (row s.tables.variables j) s k n e h
name_copied p (Some (entity.Parameter j)) s k n e h = parameter_copied p (row s.params j) s k n e h
name_copied p (Some (entity.Constant v)) s k n e h = absurd (true≢false (sym h))
name_copied p (Some entity.Unknown) s k n e h = absurd (true≢false (sym h))
name_copied p (Some (entity.Function f)) s k n e h = absurd (true≢false (sym h))
name_copied p (Some (entity.Builtin b)) s k n e h = absurd (true≢false (sym h))
name_copied p None s k n e h = absurd (true≢false (sym h))

number_unplaced : (n : Option Number) → (number_sort n).place ≡ true → ⊥
number_unplaced None h = true≢false (sym h)
number_unplaced (Some n) h = true≢false (sym h)

row_unplaced : (p : Pos) (token : ℕ) (clean : Bool) (j : ℕ) (f : Option FunctionShape) (gs : List Given) (s : State) → (call_of p token clean j f gs s).typing.sort.place ≡ true → ⊥
row_unplaced p token clean j None gs s h = true≢false (sym h)
row_unplaced p token clean j (Some f) gs s h = true≢false (sym h)

call_unplaced : (p : Pos) (token : ℕ) (clean : Bool) (f : Option ℕ) (gs : List Given) (s : State) → (typed_call p token clean f gs s).typing.sort.place ≡ true → ⊥
call_unplaced p token clean None gs s h = true≢false (sym h)
call_unplaced p token clean (Some j) gs s h = row_unplaced p token clean j (row s.tables.functions j) gs s h

cleared_place : (b : Bool) (a : Sort) → (cleared b a).place ≡ true → a.place ≡ true
cleared_place true a e = e
cleared_place false a e = absurd (true≢false (sym e))

cleared_kind : (b : Bool) (a : Sort) (n : ℕ) → (cleared b a).kind ≡ Some (structure n) → a.kind ≡ Some (structure n)
cleared_kind true a n e = e
cleared_kind false a n e = cc

mutual
  pub copied_place : (a : NodeShape) (s : State) (n : ℕ) → node_mark (type_node a s).node ≡ None → (type_node a s).sort.kind ≡ Some (structure n) → (type_node a s).sort.place ≡ true → is_copied (type_node a s).node ≡ true
  copied_place (node p o m f) s n none k e =
      let t = type_form p o f (entering f s) in
      form_copied p o f (entering f s) n (cleared (is_clean s t.state) t.typing.sort).kind k none (cleared_kind (is_clean s t.state) t.typing.sort n k) (cleared_place (is_clean s t.state) t.typing.sort e)

  form_copied : (p o : Pos) (f : ExprShape) (s : State) (n : ℕ) (k : Option TypeOf) → k ≡ Some (structure n) → form_mark p (type_form p o f s).form ≡ None → (type_form p o f s).typing.sort.kind ≡ Some (structure n) → (type_form p o f s).typing.sort.place ≡ true
      → (let t = type_form p o f s in form_is_copied (note_of k t.typing.sort.constant t.typing.names t.typing.valued) t.form ≡ true)
  form_copied p o (paren a) s n k e none h place = copied_place a (step s) n none h place
  form_copied p o (leaf (name x)) s n k e none h place = name_copied p (find x s.names) s k n e place
  form_copied p o (prefix (unary front.Deref) a) s n k e none h place = structured k _ _ n e
  form_copied p o (suffix a (index b)) s n k e none h place = structured k _ _ n e
  form_copied p o (suffix a (field g x q)) s n k e none h place = structured k _ _ n e
  form_copied p o (leaf (number x)) s n k e none h place = absurd (number_unplaced (number_of x) place)
  form_copied p o (leaf (char x)) s n k e none h place = absurd (true≢false (sym place))
  form_copied p o (leaf (str x)) s n k e none h place = absurd (true≢false (sym place))
  form_copied p o (call x args) s n k e none h place =
      let f = called p x s in
      let t = type_arguments [] args (steps (opening args) f.state) in
      absurd (call_unplaced p s.at (is_clean f.state t.state) f.function t.given t.state place)
  form_copied p o (prefix (unary front.AddressOf) a) s n k e none h place = absurd (true≢false (sym place))
  form_copied p o (prefix (unary front.Plus) a) s n k e none h place = absurd (true≢false (sym place))
  form_copied p o (prefix (unary front.Minus) a) s n k e none h place = absurd (true≢false (sym place))
  form_copied p o (prefix (unary front.Flip) a) s n k e none h place = absurd (true≢false (sym place))
  form_copied p o (prefix (unary front.Not) a) s n k e none h place = absurd (true≢false (sym place))
  form_copied p o (prefix (before u) a) s n k e none h place = absurd (true≢false (sym place))
  form_copied p o (prefix size_of a) s n k e none h place = absurd (true≢false (sym place))
  form_copied p o (size_of_type y) s n k e none h place = absurd (true≢false (sym place))
  form_copied p o (cast y a) s n k e none h place = absurd (true≢false (sym place))
  form_copied p o (suffix a (behind u)) s n k e none h place = absurd (true≢false (sym place))
  form_copied p o (two (plain u) a b) s n k e none h place = absurd (true≢false (sym place))
  form_copied p o (two and a b) s n k e none h place = absurd (true≢false (sym place))
  form_copied p o (two or a b) s n k e none h place = absurd (true≢false (sym place))
  form_copied p o (two (assign u) a b) s n k e none h place = absurd (true≢false (sym place))
  form_copied p o (two comma a b) s n k e none h place = absurd (true≢false (sym place))
  form_copied p o (choose a b d) s n k e none h place = absurd (true≢false (sym place))
  form_copied p o (probe (simple u x) a) s n k e none h place = absurd (some_none p none)
  form_copied p o (probe (select x cs) a) s n k e none h place = absurd (some_none p none)

-- ---- a place of a scalar, past parentheses, and one of a structure

variable_scalar : (p : Pos) (j : ℕ) (v : Option VariableShape) (s : State) (k : Option TypeOf) (u : TypeOf) → k ≡ Some u → is_scalar u ≡ true → (named_variable p j v s).typing.sort.place ≡ true
    → (let t = (named_variable p j v s).typing in has_scalar (note_of k t.sort.constant t.names t.valued) ≡ true)
variable_scalar p j None s k u e is h = absurd (true≢false (sym h))
variable_scalar p j (Some v) s k u e is h = scalar_noted k _ _ u e is

parameter_scalar : (p : Pos) (y : Option TypeOf) (s : State) (k : Option TypeOf) (u : TypeOf) → k ≡ Some u → is_scalar u ≡ true → (named_parameter p y s).typing.sort.place ≡ true
    → (let t = (named_parameter p y s).typing in has_scalar (note_of k t.sort.constant t.names t.valued) ≡ true)
parameter_scalar p None s k u e is h = absurd (true≢false (sym h))
parameter_scalar p (Some y) s k u e is h = scalar_noted k _ _ u e is

name_scalar : (p : Pos) (x : Option Entity) (s : State) (k : Option TypeOf) (u : TypeOf) → k ≡ Some u → is_scalar u ≡ true → (named_entity p x s).typing.sort.place ≡ true
    → (let t = (named_entity p x s).typing in has_scalar (note_of k t.sort.constant t.names t.valued) ≡ true)
name_scalar p (Some (entity.Variable j)) s k u e is h = variable_scalar p j (row s.tables.variables j) s k u e is h
name_scalar p (Some (entity.Parameter j)) s k u e is h = parameter_scalar p (row s.params j) s k u e is h
name_scalar p (Some (entity.Constant v)) s k u e is h = absurd (true≢false (sym h))
name_scalar p (Some entity.Unknown) s k u e is h = absurd (true≢false (sym h))
name_scalar p (Some (entity.Function f)) s k u e is h = absurd (true≢false (sym h))
name_scalar p (Some (entity.Builtin b)) s k u e is h = absurd (true≢false (sym h))
name_scalar p None s k u e is h = absurd (true≢false (sym h))

cleared_some : (b : Bool) (a : Sort) (t : TypeOf) → (cleared b a).kind ≡ Some t → a.kind ≡ Some t
cleared_some true a t e = e
cleared_some false a t e = cc

mutual
  scalar_place : (a : NodeShape) (s : State) (u : TypeOf) → node_mark (type_node a s).node ≡ None → (type_node a s).sort.kind ≡ Some u → is_scalar u ≡ true → (type_node a s).sort.place ≡ true → holds_scalar (type_node a s).node ≡ true
  scalar_place (node p o m f) s u none k is e =
      let t = type_form p o f (entering f s) in
      form_scalar p o f (entering f s) u (cleared (is_clean s t.state) t.typing.sort).kind k is none (cleared_some (is_clean s t.state) t.typing.sort u k) (cleared_place (is_clean s t.state) t.typing.sort e)

  form_scalar : (p o : Pos) (f : ExprShape) (s : State) (u : TypeOf) (k : Option TypeOf) → k ≡ Some u → is_scalar u ≡ true → form_mark p (type_form p o f s).form ≡ None → (type_form p o f s).typing.sort.kind ≡ Some u → (type_form p o f s).typing.sort.place ≡ true
      → (let t = type_form p o f s in form_holds_scalar (note_of k t.typing.sort.constant t.typing.names t.typing.valued) t.form ≡ true)
  form_scalar p o (paren a) s y k e is none h place = scalar_place a (step s) y none h is place
  form_scalar p o (leaf (name x)) s y k e is none h place = name_scalar p (find x s.names) s k y e is place
  form_scalar p o (prefix (unary front.Deref) a) s y k e is none h place = scalar_noted k _ _ y e is
  form_scalar p o (suffix a (index b)) s y k e is none h place = scalar_noted k _ _ y e is
  form_scalar p o (suffix a (field g x q)) s y k e is none h place = scalar_noted k _ _ y e is
  form_scalar p o (leaf (number x)) s y k e is none h place = absurd (number_unplaced (number_of x) place)
  form_scalar p o (leaf (char x)) s y k e is none h place = absurd (true≢false (sym place))
  form_scalar p o (leaf (str x)) s y k e is none h place = absurd (true≢false (sym place))
  form_scalar p o (call x args) s y k e is none h place =
      let f = called p x s in
      let t = type_arguments [] args (steps (opening args) f.state) in
      absurd (call_unplaced p s.at (is_clean f.state t.state) f.function t.given t.state place)
  form_scalar p o (prefix (unary front.AddressOf) a) s y k e is none h place = absurd (true≢false (sym place))
  form_scalar p o (prefix (unary front.Plus) a) s y k e is none h place = absurd (true≢false (sym place))
  form_scalar p o (prefix (unary front.Minus) a) s y k e is none h place = absurd (true≢false (sym place))
  form_scalar p o (prefix (unary front.Flip) a) s y k e is none h place = absurd (true≢false (sym place))
  form_scalar p o (prefix (unary front.Not) a) s y k e is none h place = absurd (true≢false (sym place))
  form_scalar p o (prefix (before u) a) s y k e is none h place = absurd (true≢false (sym place))
  form_scalar p o (prefix size_of a) s y k e is none h place = absurd (true≢false (sym place))
  form_scalar p o (size_of_type x) s y k e is none h place = absurd (true≢false (sym place))
  form_scalar p o (cast x a) s y k e is none h place = absurd (true≢false (sym place))
  form_scalar p o (suffix a (behind u)) s y k e is none h place = absurd (true≢false (sym place))
  form_scalar p o (two (plain u) a b) s y k e is none h place = absurd (true≢false (sym place))
  form_scalar p o (two and a b) s y k e is none h place = absurd (true≢false (sym place))
  form_scalar p o (two or a b) s y k e is none h place = absurd (true≢false (sym place))
  form_scalar p o (two (assign u) a b) s y k e is none h place = absurd (true≢false (sym place))
  form_scalar p o (two comma a b) s y k e is none h place = absurd (true≢false (sym place))
  form_scalar p o (choose a b d) s y k e is none h place = absurd (true≢false (sym place))
  form_scalar p o (probe (simple u x) a) s y k e is none h place = absurd (some_none p none)
  form_scalar p o (probe (select x cs) a) s y k e is none h place = absurd (some_none p none)

-- a place's note doesn't hold a value
variable_unvalued : (p : Pos) (j : ℕ) (v : Option VariableShape) (s : State) → (named_variable p j v s).typing.valued ≡ false
variable_unvalued p j None s = refl
variable_unvalued p j (Some v) s = refl

parameter_unvalued : (p : Pos) (y : Option TypeOf) (s : State) → (named_parameter p y s).typing.valued ≡ false
parameter_unvalued p None s = refl
parameter_unvalued p (Some y) s = refl

name_unvalued : (p : Pos) (x : Option Entity) (s : State) → (named_entity p x s).typing.sort.place ≡ true → (named_entity p x s).typing.valued ≡ false
name_unvalued p (Some (entity.Variable j)) s h = variable_unvalued p j (row s.tables.variables j) s
name_unvalued p (Some (entity.Parameter j)) s h = parameter_unvalued p (row s.params j) s
name_unvalued p (Some (entity.Constant v)) s h = absurd (true≢false (sym h))
name_unvalued p (Some entity.Unknown) s h = refl
name_unvalued p (Some (entity.Function f)) s h = refl
name_unvalued p (Some (entity.Builtin b)) s h = refl
name_unvalued p None s h = refl

form_unvalued : (p o : Pos) (f : ExprShape) (s : State) → (type_form p o f s).typing.sort.place ≡ true → (type_form p o f s).typing.valued ≡ false
form_unvalued p o (paren a) s place = refl
form_unvalued p o (leaf (name x)) s place = name_unvalued p (find x s.names) s place
form_unvalued p o (prefix (unary front.Deref) a) s place = refl
form_unvalued p o (suffix a (index b)) s place = refl
form_unvalued p o (suffix a (field g x q)) s place = refl
form_unvalued p o (leaf (number x)) s place = absurd (number_unplaced (number_of x) place)
form_unvalued p o (leaf (char x)) s place = absurd (true≢false (sym place))
form_unvalued p o (leaf (str x)) s place = absurd (true≢false (sym place))
form_unvalued p o (call x args) s place =
    let f = called p x s in
    let t = type_arguments [] args (steps (opening args) f.state) in
    absurd (call_unplaced p s.at (is_clean f.state t.state) f.function t.given t.state place)
form_unvalued p o (prefix (unary front.AddressOf) a) s place = absurd (true≢false (sym place))
form_unvalued p o (prefix (unary front.Plus) a) s place = absurd (true≢false (sym place))
form_unvalued p o (prefix (unary front.Minus) a) s place = absurd (true≢false (sym place))
form_unvalued p o (prefix (unary front.Flip) a) s place = absurd (true≢false (sym place))
form_unvalued p o (prefix (unary front.Not) a) s place = absurd (true≢false (sym place))
form_unvalued p o (prefix (before u) a) s place = absurd (true≢false (sym place))
form_unvalued p o (prefix size_of a) s place = absurd (true≢false (sym place))
form_unvalued p o (size_of_type y) s place = absurd (true≢false (sym place))
form_unvalued p o (cast y a) s place = absurd (true≢false (sym place))
form_unvalued p o (suffix a (behind u)) s place = absurd (true≢false (sym place))
form_unvalued p o (two (plain u) a b) s place = absurd (true≢false (sym place))
form_unvalued p o (two and a b) s place = absurd (true≢false (sym place))
form_unvalued p o (two or a b) s place = absurd (true≢false (sym place))
form_unvalued p o (two (assign u) a b) s place = absurd (true≢false (sym place))
form_unvalued p o (two comma a b) s place = absurd (true≢false (sym place))
form_unvalued p o (choose a b d) s place = absurd (true≢false (sym place))
form_unvalued p o (probe (simple u x) a) s place = refl
form_unvalued p o (probe (select x cs) a) s place = refl

structure_held : (a : NodeShape) (s : State) (n : ℕ) → (type_node a s).sort.kind ≡ Some (structure n) → (type_node a s).sort.place ≡ true → holds_structure (type_node a s).node ≡ true
structure_held (node p o m f) s n k e =
    let t = type_form p o f (entering f s) in
    let c = cleared (is_clean s t.state) t.typing.sort in
    subst (λ (v : Bool). has_structure (note_of c.kind t.typing.sort.constant t.typing.names v) ≡ true) (sym (form_unvalued p o f (entering f s) (cleared_place (is_clean s t.state) t.typing.sort e))) (structured c.kind t.typing.sort.constant t.typing.names n k)

-- ---- both sides

right_place : (b right : Bool) → IsThere (kind_at (by 33 (if b && right then fine nothing else wrong))) → right ≡ true
right_place true true h = refl
right_place true false h = absurd h
right_place false right h = absurd h

-- what the type of `=` says of them
sides : (m : ℕ) (left : Bool) (y : Option TypeOf) (zero right : Bool) → IsThere (kind_at (by 33 (assigned_type (kind_at (of_kind y (λ t. allowed_if left 32 (structure m)))) y zero right)))
    → (left ≡ true) × (right ≡ true) × ((n : ℕ) × (y ≡ Some (structure n)))
sides m left None zero right h = absurd h
sides m false (Some y) zero right h = absurd h
sides m true (Some (structure n)) zero right h = (refl, right_place (nat_eq m n) right h, (n, refl))
sides m true (Some (int k)) zero right h = absurd h
sides m true (Some (pointer t)) zero right h = absurd h
sides m true (Some (array t k)) zero right h = absurd h
sides m true (Some nothing) zero right h = absurd h

pub copied_sides : (rooms : List Measure) (a b : Sort) (m : ℕ) → a.kind ≡ Some (structure m) → IsThere (kind_at (assigned_rule None rooms a b)) → (a.place ≡ true) × (b.place ≡ true) × ((n : ℕ) × (b.kind ≡ Some (structure n)))
copied_sides rooms a b m e h =
    sides m a.place b.kind (null b) b.place (subst (λ k. IsThere (kind_at (by 33 (assigned_type (kind_at (of_kind b.kind (λ t. of_kind k (allowed_if a.place 32)))) b.kind (null b) b.place)))) e h)

-- what stands to the left: a scalar, or a structure
abbrev Standing : TypeOf → Type 0
Standing y = (is_scalar y ≡ true) ⊎ ((n : ℕ) × (y ≡ structure n))

left_stands : (k : TypeOf) (left : Bool) (y : Option TypeOf) (zero right : Bool) → IsThere (kind_at (by 33 (assigned_type (kind_at (of_kind y (λ t. allowed_if left 32 k))) y zero right))) → (left ≡ true) × Standing k
left_stands k left None zero right h = absurd h
left_stands k false (Some y) zero right h = absurd h
left_stands (int k) true (Some y) zero right h = (refl, inl refl)
left_stands (pointer k) true (Some y) zero right h = (refl, inl refl)
left_stands (structure n) true (Some y) zero right h = (refl, inr (n, refl))
left_stands (array k n) true (Some y) zero right h = absurd h
left_stands nothing true (Some y) zero right h = absurd h

none_left : (left : Bool) (y : Option TypeOf) (zero right : Bool) → IsThere (kind_at (by 33 (assigned_type (kind_at (of_kind y (λ t. of_kind None (allowed_if left 32)))) y zero right))) → ⊥
none_left left None zero right h = h
none_left left (Some y) zero right h = h

left_known : (k : Option TypeOf) (left : Bool) (y : Option TypeOf) (zero right : Bool) → IsThere (kind_at (by 33 (assigned_type (kind_at (of_kind y (λ t. of_kind k (allowed_if left 32)))) y zero right)))
    → (u : TypeOf) × (k ≡ Some u) × (left ≡ true) × Standing u
left_known None left y zero right h = absurd (none_left left y zero right h)
left_known (Some k) left y zero right h = let one = left_stands k left y zero right h in (k, refl, one.0, one.1)

unheld_scalar : (a : NodeShape) (s : State) (u : TypeOf) → node_mark (type_node a s).node ≡ None → (type_node a s).sort.kind ≡ Some u → (type_node a s).sort.place ≡ true → Standing u
    → holds_structure (type_node a s).node ≡ false → holds_scalar (type_node a s).node ≡ true
unheld_scalar a s u none k place (inl is) e = scalar_place a s u none k is place
unheld_scalar a s u none k place (inr (n, same)) e = absurd (true≢false (sym (structure_held a s n (k ∙ ap Some same) place) ∙ e))

-- the left side's node holds a structure
pub held_structure : (a : NodeShape) (s : State) → holds_structure (type_node a s).node ≡ true → (n : ℕ) × ((type_node a s).sort.kind ≡ Some (structure n))
held_structure (node p o m f) s e =
    let t = type_form p o f (entering f s) in
    noted_structure (cleared (is_clean s t.state) t.typing.sort).kind t.typing.sort.constant t.typing.names t.typing.valued e

pub copies_apt : (u : Infix) (a b : NodeShape) (s v : State) (rooms : List Measure) → node_mark (type_node a s).node ≡ None → node_mark (type_node b v).node ≡ None
    → (u ≡ assign None → IsThere (kind_at (assigned_rule None rooms (type_node a s).sort (type_node b v).sort))) → CopiesApt u (type_node a s).node (type_node b v).node
copies_apt (assign None) a b s v rooms none other there = (
  λ e.
      let k = held_structure a s e in
      let both = copied_sides rooms (type_node a s).sort (type_node b v).sort k.0 k.1 (there refl) in
      (copied_place a s k.0 none k.1 both.0, copied_place b v both.2.0 other both.2.1 both.1),
  λ e.
      let left = left_known (type_node a s).sort.kind (type_node a s).sort.place (type_node b v).sort.kind (null (type_node b v).sort) (type_node b v).sort.place (there refl) in
      unheld_scalar a s left.0 none left.1 left.2 left.3 e,
)
copies_apt (assign (Some q)) a b s v rooms none other there = tt
copies_apt (plain q) a b s v rooms none other there = tt
copies_apt and a b s v rooms none other there = tt
copies_apt or a b s v rooms none other there = tt
copies_apt comma a b s v rooms none other there = tt
