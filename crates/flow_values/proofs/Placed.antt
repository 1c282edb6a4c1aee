-- What typing knows of a place: it is a variable of file scope, a part of one, or nothing.
use Rattle.std.proofs.Common.{◌≡◌, [], Bool, true, false, Option, Some, None, refl}
use Rattle.std.specs.Prelude.{◌||◌, nat_eq, if◌then◌else◌}
use Rattle.c_base.specs.declared.place.Pos.{Pos}
use Rattle.c_syntax.specs.declared.tree.UnaryOp.{UnaryOp}
use Rattle.c_syntax.specs.declared.tree.UnaryOp.TheVariants as front
use Rattle.c_syntax.specs.Shape.{TypeOf, int, pointer, array, structure, nothing, number, char, str, name, unary, before, size_of, plain, and, or, assign, comma, Access, dot, arrow, block, test, used, def, NodeShape, node, ExprShape, leaf, paren, call, prefix, size_of_type, cast, suffix, two, choose, probe, index, field, behind, simple, select}
use Rattle.c_type_rules.specs.Verdicts.{is_probed, probed_type, fine_if}
use Rattle.c_constants.specs.declared.numbers.Number.{Number}
use Rattle.c_constants.specs.declared.constants.Constant.{Constant}
use Rattle.c_constants.specs.declared.constants.Constant.TheVariants.{No, Variable, Part}
use Rattle.c_constants.specs.Numbers.{number_of}
use Rattle.c_constants.specs.Constants as constants
use Rattle.c_scopes.specs.Scoping.{find}
use Rattle.c_tables.specs.Tables.{FunctionShape, VariableShape}
use Rattle.c_tables.specs.Rows.{row}
use Rattle.c_tree.specs.declared.meaning.Entity.{Entity}
use Rattle.c_tree.specs.declared.meaning.Entity.TheVariants as entity
use Rattle.c_tree.specs.State.{State, step, steps, is_clean}
use Rattle.c_tree.specs.Rulings.{by, then_rule, kind_at, allowed_if, element_constant}
use Rattle.c_tree.specs.Sorts.{Sort, cleared}
use Rattle.c_tree.specs.Operators.{number_sort, named_variable, named_parameter, named_entity, called, call_of, typed_call, unary_sort, field_constant, is_copied, claim, entering}
use Rattle.c_tree.specs.Typing.{opening, type_node, type_form, type_arguments}
use Rattle.probe_laws.proofs.Settled.{IsThere}

abbrev pub ForPlace : Constant → Type 0
ForPlace No = Unit {0}
ForPlace Variable = Unit {0}
ForPlace Part = Unit {0}
ForPlace c = ⊥

-- of a place, its constant is one of a place
abbrev pub IsRight : Sort → Type 0
IsRight a = a.place ≡ true → ForPlace a.constant

-- ---- what is allowed

pub there : (k : Option TypeOf) (y : TypeOf) → k ≡ Some y → IsThere k
there None y e = cc
there (Some x) y e = tt

-- what is known of a probe round a place: the place, and its type
pub record Round (copied : Bool) (k : Option TypeOf) (place : Bool) : Type 0 where
  pub type : TypeOf
  pub placed : place ≡ true
  pub inside : k ≡ Some type
  pub same : kind_at (then_rule (by 33 (probed_type copied k)) (allowed_if place 33)) ≡ Some type
  pub fits : is_probed copied type ≡ true

round_type : (copied : Bool) (y : TypeOf) (place b : Bool) → is_probed copied y ≡ b → IsThere (kind_at (then_rule (by 33 (fine_if b y)) (allowed_if place 33)))
    → (place ≡ true) × (kind_at (then_rule (by 33 (fine_if b y)) (allowed_if place 33)) ≡ Some y) × (b ≡ true)
round_type copied y true true e h = (refl, refl, refl)
round_type copied y false true e h = absurd h
round_type copied y place false e h = absurd h

pub round_place : (copied : Bool) (k : Option TypeOf) (place : Bool) → IsThere (kind_at (then_rule (by 33 (probed_type copied k)) (allowed_if place 33))) → Round copied k place
round_place copied None place h = absurd h
round_place copied (Some y) place h = let r = round_type copied y place (is_probed copied y) refl h in record { type = y; placed = r.0; inside = refl; same = r.1; fits = r.2 }

pub no_array : (copied : Bool) (y : TypeOf) → is_probed copied y ≡ true → constants.is_array y ≡ false
no_array copied (int k) e = refl
no_array copied (pointer t) e = refl
no_array true (array t n) e = cc
no_array false (array t n) e = cc
no_array copied (structure n) e = refl
no_array copied nothing e = refl

-- ---- forms

pick_place : (b : Bool) (c d : Constant) → ForPlace c → ForPlace d → ForPlace (if b then c else d)
pick_place true c d h g = h
pick_place false c d h g = g

number_right : (n : Option Number) → IsRight (number_sort n)
number_right None e = tt
number_right (Some n) e = cc

variable_right : (p : Pos) (n : _) (v : Option VariableShape) (s : State) → IsRight (named_variable p n v s).typing.sort
variable_right p n None s e = tt
variable_right p n (Some v) s e = pick_place (nat_eq v.function 0) Variable No tt tt

parameter_right : (p : Pos) (k : Option TypeOf) (s : State) → IsRight (named_parameter p k s).typing.sort
parameter_right p None s e = tt
parameter_right p (Some t) s e = tt

name_right : (p : Pos) (e : Option Entity) (s : State) → IsRight (named_entity p e s).typing.sort
name_right p (Some (entity.Variable n)) s = variable_right p n (row s.tables.variables n) s
name_right p (Some (entity.Parameter n)) s = parameter_right p (row s.params n) s
name_right p (Some (entity.Constant v)) s = λ e. cc
name_right p (Some entity.Unknown) s = λ e. tt
name_right p (Some (entity.Function n)) s = λ e. tt
name_right p (Some (entity.Builtin b)) s = λ e. tt
name_right p None s = λ e. tt

unary_right : (u : UnaryOp) (k : Option TypeOf) (c : Constant) → IsRight (unary_sort u k c)
unary_right front.Deref k c e = tt
unary_right front.AddressOf k c e = cc
unary_right front.Plus k c e = cc
unary_right front.Minus k c e = cc
unary_right front.Flip k c e = cc
unary_right front.Not k c e = cc

element_right : (x y : Option TypeOf) (a b : Constant) → ForPlace (element_constant x a y b)
element_right None y a b = tt
element_right (Some x) None a b = tt
element_right (Some x) (Some y) a b = pick_place (constants.reaches x a b || constants.reaches y b a) Part No tt tt

field_right : (h : Access) (a : Constant) → ForPlace (field_constant h a)
field_right dot a = pick_place (constants.is_place a) Part No tt tt
field_right arrow a = tt

row_right : (p : Pos) (token : _) (clean : Bool) (n : _) (f : Option FunctionShape) (gs : _) (s : State) → IsRight (call_of p token clean n f gs s).typing.sort
row_right p token clean n None gs s e = tt
row_right p token clean n (Some f) gs s e = tt

call_right : (p : Pos) (token : _) (clean : Bool) (f : Option _) (gs : _) (s : State) → IsRight (typed_call p token clean f gs s).typing.sort
call_right p token clean None gs s = λ e. tt
call_right p token clean (Some n) gs s = row_right p token clean n (row s.tables.functions n) gs s

cleared_right : (b : Bool) (a : Sort) → (IsThere a.kind → IsRight a) → IsThere (cleared b a).kind → IsRight (cleared b a)
cleared_right true a f h = f h
cleared_right false a f h = absurd h

mutual
  pub node_right : (a : NodeShape) (s : State) → IsThere (type_node a s).sort.kind → IsRight (type_node a s).sort
  node_right (node p o n f) s = cleared_right (is_clean s (type_form p o f (entering f s)).state) (type_form p o f (entering f s)).typing.sort (form_right p o f (entering f s))

  form_right : (p o : Pos) (f : ExprShape) (s : State) → IsThere (type_form p o f s).typing.sort.kind → IsRight (type_form p o f s).typing.sort
  form_right p o (leaf (number t)) s h = number_right (number_of t)
  form_right p o (leaf (char c)) s h = λ e. cc
  form_right p o (leaf (str t)) s h = λ e. cc
  form_right p o (leaf (name x)) s h = name_right p (find x s.names) s
  form_right p o (paren a) s h = node_right a (step s) h
  form_right p o (call x args) s h =
      let c = called p x s in
      let t = type_arguments [] args (steps (opening args) c.state) in
      call_right p s.at (is_clean c.state t.state) c.function t.given t.state
  form_right p o (prefix (unary u) a) s h = unary_right u _ (type_node a (step s)).sort.constant
  form_right p o (prefix (before u) a) s h = λ e. cc
  form_right p o (prefix size_of a) s h = λ e. cc
  form_right p o (size_of_type y) s h = λ e. cc
  form_right p o (cast y a) s h = λ e. cc
  form_right p o (suffix a (index b)) s h =
      let t = type_node a s in
      let v = type_node b (step t.state) in
      λ e. element_right t.sort.kind v.sort.kind t.sort.constant v.sort.constant
  form_right p o (suffix a (field g x q)) s h = λ e. field_right g (type_node a s).sort.constant
  form_right p o (suffix a (behind u)) s h = λ e. cc
  form_right p o (two (plain u) a b) s h = λ e. cc
  form_right p o (two and a b) s h = λ e. cc
  form_right p o (two or a b) s h = λ e. cc
  form_right p o (two (assign u) a b) s h = λ e. cc
  form_right p o (two comma a b) s h = λ e. cc
  form_right p o (choose a b c) s h = λ e. cc
  form_right p o (probe (simple block x) a) s h = λ e. cc
  form_right p o (probe (simple test x) a) s h = λ e. cc
  form_right p o (probe (simple used x) a) s h =
      let v = steps 4 (claim used x s.at p s) in
      let r = round_place (is_copied used s.side) (type_node a v).sort.kind (type_node a v).sort.place h in
      λ e. node_right a v (there (type_node a v).sort.kind r.type r.inside) r.placed
  form_right p o (probe (simple def x) a) s h =
      let v = steps 4 (claim def x s.at p s) in
      let r = round_place (is_copied def s.side) (type_node a v).sort.kind (type_node a v).sort.place h in
      λ e. node_right a v (there (type_node a v).sort.kind r.type r.inside) r.placed
  form_right p o (probe (select x cs) a) s h = λ e. cc
