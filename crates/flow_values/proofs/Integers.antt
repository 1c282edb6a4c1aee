-- Integer constants: a run knows of a typed expression what typing does, where nothing is complained of.
use Rattle.std.proofs.Common.{◌≡◌, ℕ, ℤ, List, [], Bool, true, false, Option, Some, None, refl, sym, ap, ap₂, ◌∙◌, subst}
use Rattle.std.specs.Prelude.{pos, ◌||◌, nat_eq, option_map, option_and_then, if◌then◌else◌}
use Rattle.c_base.specs.declared.place.Pos.{Pos}
use Rattle.c_base.specs.declared.place.IntKind.{IntKind}
use Rattle.c_base.specs.declared.place.IntKind.TheVariants.{Int}
use Rattle.c_arith.specs.Arith.{wrap}
use Rattle.c_arith.specs.declared.ArithUnary.{ArithUnary}
use Rattle.c_arith.specs.declared.ArithUnary.TheVariants as arithmetic
use Rattle.c_syntax.specs.declared.tree.BinaryOp.{BinaryOp}
use Rattle.c_syntax.specs.declared.tree.UnaryOp.{UnaryOp}
use Rattle.c_syntax.specs.declared.tree.UnaryOp.TheVariants as front
use Rattle.c_syntax.specs.Shape.{TypeOf, int, pointer, array, structure, nothing, NoteShape, number, char, str, name, unary, before, size_of, plain, and, or, assign, comma, Access, dot, arrow, block, test, used, def, NodeShape, node, ExprShape, leaf, paren, call, prefix, size_of_type, cast, suffix, two, choose, probe, index, field, behind, simple, select}
use Rattle.c_syntax.specs.Shaped.{Shaped, ShapedExpr}
use Rattle.c_type_rules.specs.Kinds.{promote, meet}
use Rattle.c_type_rules.specs.Layouts.{Measure, known, incomplete, too_large, measure}
use Rattle.c_type_rules.specs.Verdicts.{cast_type}
use Rattle.c_constants.specs.declared.numbers.Number.{Number}
use Rattle.c_constants.specs.declared.constants.Constant.{Constant}
use Rattle.c_constants.specs.declared.constants.Constant.TheVariants.{No, Faulty, Known, Variable, Part, Address, Literal}
use Rattle.c_constants.specs.Numbers.{number_of}
use Rattle.c_constants.specs.Constants as constants
use Rattle.c_constants.specs.Constants.{kind_of, value, given, with_one, with_two, of_both, is_zero, truth_value}
use Rattle.c_scopes.specs.Scoping.{find}
use Rattle.c_tables.specs.Tables.{FunctionShape, VariableShape}
use Rattle.c_tables.specs.Rows.{row}
use Rattle.c_tree.specs.declared.meaning.Entity.{Entity}
use Rattle.c_tree.specs.declared.meaning.Entity.TheVariants as entity
use Rattle.c_tree.specs.declared.meaning.Side.TheVariants.{Neither}
use Rattle.c_tree.specs.State.{State, step, steps, is_clean}
use Rattle.c_tree.specs.Rulings.{Ruled, by, then_rule, rule, kind_at, of_kind, by_room, whole, size_in, sized, as_size, size_constant, cast_constant, element_constant}
use Rattle.c_tree.specs.Sorts.{Typing, note_of, cleared, pos_in}
use Rattle.c_tree.specs.Operators.{number_sort, literal_number, string_type, named_variable, named_parameter, named_entity, called, Given, call_of, typed_call, unary_sort, unary_rule, place_rule, choice_rule, element_rule, field_constant, hushed, is_copied, probe_rule, claim, sided, entering}
use Rattle.c_tree.specs.Typing.{opening, type_node, type_form, type_arguments, type_type}
use Rattle.c_tree.proofs.Grows.{rule_grows, infix_grows, node_grows, form_grows}
use Rattle.c_walk.specs.Tests.{number_constant, noted_constant, cast_to}
use Rattle.c_meaning.specs.Constants.{constant}
use Rattle.probe_laws.proofs.Settled.{IsThere, IsClean}
use Rattle.probe_laws.proofs.Rules.{back}
use Rattle.probe_laws.proofs.Known.{Knows}
use Rattle.probe_laws.proofs.KnownParts.{claim_goes, is_still_clean}
use Rattle.probe_laws.proofs.KnownNodes.{node_knows, form_knows, type_knows}
use Rattle.flow_values.proofs.Placed.{ForPlace, there, round_place, node_right}

-- ---- what is an integer, or nothing

abbrev pub IsInteger : Constant → Type 0
IsInteger c = constants.probed c ≡ c

given_integer : (k : IntKind) (o : Option ℤ) → IsInteger (given k o)
given_integer k (Some v) = refl
given_integer k None = refl

one_integer : (i : Option IntKind) (k : IntKind → IntKind) (v : IntKind → Option ℤ) → IsInteger (with_one i (λ j. given (k j) (v j)))
one_integer None k v = refl
one_integer (Some j) k v = given_integer (k j) (v j)

two_integer : (i j : Option IntKind) (k : IntKind → IntKind → IntKind) (v : IntKind → IntKind → Option ℤ) → IsInteger (with_two i j (λ x y. given (k x y) (v x y)))
two_integer None j k v = refl
two_integer (Some i) None k v = refl
two_integer (Some i) (Some j) k v = given_integer (k i j) (v i j)

pub probed_integer : (c : Constant) → IsInteger (constants.probed c)
probed_integer No = refl
probed_integer (Faulty k) = refl
probed_integer (Known k v) = refl
probed_integer Variable = refl
probed_integer Part = refl
probed_integer Address = refl
probed_integer Literal = refl

probed_kind : (c : Constant) → kind_of (constants.probed c) ≡ kind_of c
probed_kind No = refl
probed_kind (Faulty k) = refl
probed_kind (Known k v) = refl
probed_kind Variable = refl
probed_kind Part = refl
probed_kind Address = refl
probed_kind Literal = refl

probed_value : (c : Constant) → value (constants.probed c) ≡ value c
probed_value No = refl
probed_value (Faulty k) = refl
probed_value (Known k v) = refl
probed_value Variable = refl
probed_value Part = refl
probed_value Address = refl
probed_value Literal = refl

-- ---- operators

arithmetic_same : (o : ArithUnary) (c : Constant) → constants.arithmetic o (constants.probed c) ≡ constants.arithmetic o c
arithmetic_same o No = refl
arithmetic_same o (Faulty k) = refl
arithmetic_same o (Known k v) = refl
arithmetic_same o Variable = refl
arithmetic_same o Part = refl
arithmetic_same o Address = refl
arithmetic_same o Literal = refl

pub arithmetic_integer : (o : ArithUnary) (c : Constant) → IsInteger (constants.arithmetic o c)
arithmetic_integer o c = one_integer (kind_of c) (constants.unary_kind o) (λ k. option_and_then (constants.unary_value o (promote k)) (value c))

arithmetic_told : (o : ArithUnary) (c : Constant) → constants.arithmetic o (constants.probed c) ≡ constants.probed (constants.arithmetic o c)
arithmetic_told o c = arithmetic_same o c ∙ sym (arithmetic_integer o c)

address_told : (c : Constant) → constants.address (constants.probed c) ≡ constants.probed (constants.address c)
address_told No = refl
address_told (Faulty k) = refl
address_told (Known k v) = refl
address_told Variable = refl
address_told Part = refl
address_told Address = refl
address_told Literal = refl

unary_told : (u : UnaryOp) (k : Option TypeOf) (c : Constant) → constants.unary u (constants.probed c) ≡ constants.probed (unary_sort u k c).constant
unary_told front.Plus k c = arithmetic_told arithmetic.Plus c
unary_told front.Minus k c = arithmetic_told arithmetic.Minus c
unary_told front.Flip k c = arithmetic_told arithmetic.Flip c
unary_told front.Not k c = arithmetic_told arithmetic.Not c
unary_told front.AddressOf k c = address_told c
unary_told front.Deref k c = refl

pub binary_integer : (o : BinaryOp) (a b : Constant) → IsInteger (constants.binary o a b)
binary_integer o a b = two_integer (kind_of a) (kind_of b) (constants.result_kind o) (λ j k. of_both (constants.binary_value o (constants.computing_kind o j k)) (value a) (value b))

binary_told : (o : BinaryOp) (a b : Constant) → constants.binary o (constants.probed a) (constants.probed b) ≡ constants.probed (constants.binary o a b)
binary_told o a b =
    let f : Option IntKind → Option IntKind → Option ℤ → Option ℤ → Constant = λ i j x y. with_two i j (λ j k. given (constants.result_kind o j k) (of_both (constants.binary_value o (constants.computing_kind o j k)) x y)) in
    ap₂ (λ i j. f i j (value (constants.probed a)) (value (constants.probed b))) (probed_kind a) (probed_kind b) ∙ (ap₂ (λ x y. f (kind_of a) (kind_of b) x y) (probed_value a) (probed_value b) ∙ sym (binary_integer o a b))

pub both_integer : (a b : Constant) → IsInteger (constants.both a b)
both_integer a b = two_integer (kind_of a) (kind_of b) (λ j k. Int) (λ j k. option_and_then (λ x. if is_zero x then Some (pos 0) else option_map truth_value (value b)) (value a))

both_told : (a b : Constant) → constants.both (constants.probed a) (constants.probed b) ≡ constants.probed (constants.both a b)
both_told a b =
    let f : Option IntKind → Option IntKind → Option ℤ → Option ℤ → Constant = λ i j x y. with_two i j (λ j k. given Int (option_and_then (λ x. if is_zero x then Some (pos 0) else option_map truth_value y) x)) in
    ap₂ (λ i j. f i j (value (constants.probed a)) (value (constants.probed b))) (probed_kind a) (probed_kind b) ∙ (ap₂ (λ x y. f (kind_of a) (kind_of b) x y) (probed_value a) (probed_value b) ∙ sym (both_integer a b))

pub either_integer : (a b : Constant) → IsInteger (constants.either a b)
either_integer a b = two_integer (kind_of a) (kind_of b) (λ j k. Int) (λ j k. option_and_then (λ x. if is_zero x then option_map truth_value (value b) else Some (pos 1)) (value a))

either_told : (a b : Constant) → constants.either (constants.probed a) (constants.probed b) ≡ constants.probed (constants.either a b)
either_told a b =
    let f : Option IntKind → Option IntKind → Option ℤ → Option ℤ → Constant = λ i j x y. with_two i j (λ j k. given Int (option_and_then (λ x. if is_zero x then option_map truth_value y else Some (pos 1)) x)) in
    ap₂ (λ i j. f i j (value (constants.probed a)) (value (constants.probed b))) (probed_kind a) (probed_kind b) ∙ (ap₂ (λ x y. f (kind_of a) (kind_of b) x y) (probed_value a) (probed_value b) ∙ sym (either_integer a b))

choice_of : Option IntKind → Option ℤ → Option IntKind → Option ℤ → Option IntKind → Option ℤ → Constant
choice_of h x i y j z = with_one h (λ g. with_two i j (λ j k. given (meet j k) (option_and_then (λ x. option_map (wrap (meet j k)) (if is_zero x then z else y)) x)))

chosen_integer : (h : Option IntKind) (x : Option ℤ) (i : Option IntKind) (y : Option ℤ) (j : Option IntKind) (z : Option ℤ) → IsInteger (choice_of h x i y j z)
unfolding choice_of
chosen_integer None x i y j z = refl
chosen_integer (Some h) x i y j z = two_integer i j meet (λ j k. option_and_then (λ x. option_map (wrap (meet j k)) (if is_zero x then z else y)) x)

choice_as : (a b c : Constant) → constants.choice a b c ≡ choice_of (kind_of a) (value a) (kind_of b) (value b) (kind_of c) (value c)
unfolding choice_of
choice_as a b c = refl

pub choice_integer : (a b c : Constant) → IsInteger (constants.choice a b c)
choice_integer a b c = ap constants.probed (choice_as a b c) ∙ (chosen_integer (kind_of a) (value a) (kind_of b) (value b) (kind_of c) (value c) ∙ sym (choice_as a b c))

choice_told : (a b c : Constant) → constants.choice (constants.probed a) (constants.probed b) (constants.probed c) ≡ constants.probed (constants.choice a b c)
choice_told a b c =
    choice_as (constants.probed a) (constants.probed b) (constants.probed c)
    ∙ (ap₂ (λ h x. choice_of h x (kind_of (constants.probed b)) (value (constants.probed b)) (kind_of (constants.probed c)) (value (constants.probed c))) (probed_kind a) (probed_value a)
    ∙ (ap₂ (λ i y. choice_of (kind_of a) (value a) i y (kind_of (constants.probed c)) (value (constants.probed c))) (probed_kind b) (probed_value b)
    ∙ (ap₂ (λ j z. choice_of (kind_of a) (value a) (kind_of b) (value b) j z) (probed_kind c) (probed_value c) ∙ (sym (choice_as a b c) ∙ sym (choice_integer a b c)))))

cast_same : (t : TypeOf) (c : Constant) → constants.cast t (constants.probed c) ≡ constants.cast t c
cast_same (int k) No = refl
cast_same (int k) (Faulty j) = refl
cast_same (int k) (Known j v) = refl
cast_same (int k) Variable = refl
cast_same (int k) Part = refl
cast_same (int k) Address = refl
cast_same (int k) Literal = refl
cast_same (pointer t) c = refl
cast_same (array t n) c = refl
cast_same (structure n) c = refl
cast_same nothing c = refl

pub cast_integer : (t : Option TypeOf) (c : Constant) → IsInteger (cast_constant t c)
cast_integer None c = refl
cast_integer (Some (int k)) c = one_integer (kind_of c) (λ j. k) (λ j. option_map (wrap k) (value c))
cast_integer (Some (pointer t)) c = refl
cast_integer (Some (array t n)) c = refl
cast_integer (Some (structure n)) c = refl
cast_integer (Some nothing) c = refl

-- ---- notes

plain_note : (k : Option TypeOf) (c : Constant) (n : Option ℕ) (x : Constant) → noted_constant (note_of k c n false) x ≡ x
plain_note None c n x = refl
plain_note (Some k) c n x = refl

-- the node of a form, with the note that its typing makes
abbrev pub note_in : Typing → NoteShape
note_in t = note_of t.sort.kind t.sort.constant t.names t.valued

abbrev IsTold : Typing → Constant → Type 0
IsTold t x = noted_constant (note_in t) x ≡ constants.probed t.sort.constant

number_told : (n : Option Number) → noted_constant (note_of (number_sort n).kind (number_sort n).constant None false) (number_constant n) ≡ constants.probed (number_sort n).constant
number_told None = refl
number_told (Some n) = refl

pick_none : (b : Bool) (c d : Constant) → constants.probed c ≡ No → constants.probed d ≡ No → No ≡ constants.probed (if b then c else d)
pick_none true c d h g = sym h
pick_none false c d h g = sym g

variable_told : (p : Pos) (n : ℕ) (v : Option VariableShape) (s : State) → IsTold (named_variable p n v s).typing No
variable_told p n None s = refl
variable_told p n (Some v) s = pick_none (nat_eq v.function 0) Variable No refl refl

parameter_told : (p : Pos) (k : Option TypeOf) (s : State) → IsTold (named_parameter p k s).typing No
parameter_told p None s = refl
parameter_told p (Some t) s = refl

name_told : (p : Pos) (e : Option Entity) (s : State) → IsTold (named_entity p e s).typing No
name_told p (Some (entity.Variable n)) s = variable_told p n (row s.tables.variables n) s
name_told p (Some (entity.Parameter n)) s = parameter_told p (row s.params n) s
name_told p (Some (entity.Constant v)) s = refl
name_told p (Some entity.Unknown) s = refl
name_told p (Some (entity.Function n)) s = refl
name_told p (Some (entity.Builtin b)) s = refl
name_told p None s = refl

row_told : (p : Pos) (token : ℕ) (clean : Bool) (n : ℕ) (f : Option FunctionShape) (gs : List Given) (s : State) → IsTold (call_of p token clean n f gs s).typing No
row_told p token clean n None gs s = refl
row_told p token clean n (Some f) gs s = refl

call_told : (p : Pos) (token : ℕ) (clean : Bool) (f : Option ℕ) (gs : List Given) (s : State) → IsTold (typed_call p token clean f gs s).typing No
call_told p token clean None gs s = refl
call_told p token clean (Some n) gs s = row_told p token clean n (row s.tables.functions n) gs s

element_told : (x y : Option TypeOf) (a b : Constant) → No ≡ constants.probed (element_constant x a y b)
element_told None y a b = refl
element_told (Some x) None a b = refl
element_told (Some x) (Some y) a b = pick_none (constants.reaches x a b || constants.reaches y b a) Part No refl refl

field_told : (h : Access) (a : Constant) → No ≡ constants.probed (field_constant h a)
field_told dot a = pick_none (constants.is_place a) Part No refl refl
field_told arrow a = refl

-- a known size stands in the note
abbrev size_note : Ruled → Constant → NoteShape
size_note r c = note_of (kind_at (then_rule r as_size)) c None true

whole_told : (rooms : List Measure) (t : TypeOf) → noted_constant (size_note (whole rooms t) (size_constant rooms (Some t))) No ≡ constants.probed (size_constant rooms (Some t))
whole_told rooms t = by_measure t (measure rooms t)
  where
    by_measure : (t : TypeOf) (m : Measure) → noted_constant (size_note (by_room m t) (size_in m)) No ≡ constants.probed (size_in m)
    by_measure t (known e) = refl
    by_measure t incomplete = refl
    by_measure t too_large = refl

type_size_told : (rooms : List Measure) (k : Option TypeOf) → noted_constant (size_note (of_kind k (whole rooms)) (size_constant rooms k)) No ≡ constants.probed (size_constant rooms k)
type_size_told rooms None = refl
type_size_told rooms (Some t) = whole_told rooms t

size_told : (rooms : List Measure) (k : Option TypeOf) → noted_constant (size_note (of_kind k (sized rooms)) (size_constant rooms k)) No ≡ constants.probed (size_constant rooms k)
size_told rooms None = refl
size_told rooms (Some nothing) = refl
size_told rooms (Some (int k)) = whole_told rooms (int k)
size_told rooms (Some (pointer t)) = whole_told rooms (pointer t)
size_told rooms (Some (array t n)) = whole_told rooms (array t n)
size_told rooms (Some (structure n)) = whole_told rooms (structure n)

-- an integer is cast to an integer, and anything to nothing
cast_told : (k a : Option TypeOf) (c x : Constant) → x ≡ constants.probed c → IsThere (kind_at (by 33 (cast_type k a))) → cast_to (note_of (kind_at (by 33 (cast_type k a))) (cast_constant k c) None false) x ≡ constants.probed (cast_constant k c)
cast_told None a c x e h = absurd h
cast_told (Some k) None c x e h = absurd h
cast_told (Some (int k)) (Some (int j)) c x e h = ap (constants.cast (int k)) e ∙ (cast_same (int k) c ∙ sym (cast_integer (Some (int k)) c))
cast_told (Some nothing) (Some a) c x e h = refl
cast_told (Some (int k)) (Some (pointer t)) c x e h = absurd h
cast_told (Some (int k)) (Some (array t n)) c x e h = absurd h
cast_told (Some (int k)) (Some (structure n)) c x e h = absurd h
cast_told (Some (int k)) (Some nothing) c x e h = absurd h
cast_told (Some (pointer t)) (Some a) c x e h = absurd h
cast_told (Some (array t n)) (Some a) c x e h = absurd h
cast_told (Some (structure n)) (Some a) c x e h = absurd h

-- ---- expressions

place_none : (c : Constant) → ForPlace c → constants.probed c ≡ No
place_none No h = refl
place_none Variable h = refl
place_none Part h = refl
place_none (Known k v) h = absurd h
place_none (Faulty k) h = absurd h
place_none Address h = absurd h
place_none Literal h = absurd h

abbrev pub IsSame : NodeShape → Constant → Type 0
IsSame a c = constant a ≡ constants.probed c

mutual
  pub node_integer : (a : NodeShape) (s : State) → Shaped a → Knows false s → IsClean (type_node a s).state → IsSame (type_node a s).node (type_node a s).sort.constant
  node_integer (node p o n f) s is h c =
      let u = entering f s in
      let t = type_form p o f u in
      subst (λ b. IsSame (node p o (note_of (cleared b t.typing.sort).kind t.typing.sort.constant t.typing.names t.typing.valued) t.form) (cleared b t.typing.sort).constant)
      (sym (is_still_clean s t.state (back (form_grows p o f u) c) c)) (form_integer p o f u is.1 h c)

  pub form_integer : (p o : Pos) (f : ExprShape) (s : State) → ShapedExpr f → Knows false s → IsClean (type_form p o f s).state
      → IsSame (node p o (note_in (type_form p o f s).typing) (type_form p o f s).form) (type_form p o f s).typing.sort.constant
  form_integer p o (leaf (number t)) s is h c = number_told (number_of t)
  form_integer p o (leaf (char x)) s is h c = refl
  form_integer p o (leaf (str t)) s is h c = plain_note (kind_at (whole s.rooms (string_type t))) Literal (literal_number s) No
  form_integer p o (leaf (name x)) s is h c = name_told p (find x s.names) s
  form_integer p o (paren a) s is h c = let t = type_node a (step s) in plain_note t.sort.kind t.sort.constant None (constant t.node) ∙ node_integer a (step s) is h c
  form_integer p o (call x args) s is h c =
      let f = called p x s in
      let t = type_arguments [] args (steps (opening args) f.state) in
      call_told p s.at (is_clean f.state t.state) f.function t.given t.state
  form_integer p o (prefix (unary u) a) s is h c =
      let t = type_node a (step s) in
      let v = rule (place_rule u t.sort) (step s).at (pos_in a) t.state in
      let r = unary_rule u t.state.rooms t.sort in
      let early = back (rule_grows (place_rule u t.sort) (step s).at (pos_in a) t.state) (back (rule_grows r s.at o v) c) in
      let x = unary_sort u (kind_at r) t.sort.constant in
      plain_note x.kind x.constant None (constants.unary u (constant t.node)) ∙ (ap (constants.unary u) (node_integer a (step s) is.1 h early) ∙ unary_told u (kind_at r) t.sort.constant)
  form_integer p o (prefix (before u) a) s is h c = plain_note (type_form p o (prefix (before u) a) s).typing.sort.kind No None No
  form_integer p o (prefix size_of a) s is h c = let t = type_node a (hushed (step s)) in size_told t.state.rooms t.sort.kind
  form_integer p o (size_of_type y) s is h c = let t = type_type y (steps 2 s) in type_size_told t.state.rooms t.kind
  form_integer p o (cast y a) s is h c =
      let k = type_type y (step s) in
      let t = type_node a (step k.state) in
      let r = by 33 (cast_type k.kind t.sort.kind) in
      let late = back (rule_grows r s.at o t.state) c in
      let first = type_knows y (step s) is.0 h (back (node_grows a (step k.state)) late) in
      let x = cast_constant k.kind t.sort.constant in
      plain_note (kind_at r) x None _ ∙ cast_told k.kind t.sort.kind t.sort.constant (constant t.node) (node_integer a (step k.state) is.2 first.1.0 late) (form_knows p o (cast y a) s is h c).0
  form_integer p o (suffix a (index e)) s is h c =
      let t = type_node a s in
      let v = type_node e (step t.state) in
      plain_note (kind_at (element_rule v.state.rooms t.sort v.sort)) (element_constant t.sort.kind t.sort.constant v.sort.kind v.sort.constant) None No ∙ element_told t.sort.kind v.sort.kind t.sort.constant v.sort.constant
  form_integer p o (suffix a (field g x q)) s is h c =
      let t = (type_form p o (suffix a (field g x q)) s).typing.sort in
      plain_note t.kind t.constant None No ∙ field_told g (type_node a s).sort.constant
  form_integer p o (suffix a (behind u)) s is h c = plain_note (type_form p o (suffix a (behind u)) s).typing.sort.kind No None No
  form_integer p o (two (plain u) a e) s is h c =
      let l = sided Neither s in
      let t = type_node a l in
      let r = sided Neither (step t.state) in
      let v = type_node e r in
      let late = back (infix_grows t.state.at o s.at (pos_in a) (plain u) t.sort v.sort v.state) c in
      let early = back (node_grows e r) late in
      let first = node_knows a l is.2 h early in
      let x = (type_form p o (two (plain u) a e) s).typing.sort in
      plain_note x.kind x.constant None _ ∙ (ap₂ (constants.binary u) (node_integer a l is.2 h early) (node_integer e r is.4 first.1.0 late) ∙ binary_told u t.sort.constant v.sort.constant)
  form_integer p o (two and a e) s is h c =
      let l = sided Neither s in
      let t = type_node a l in
      let r = sided Neither (step t.state) in
      let v = type_node e r in
      let late = back (infix_grows t.state.at o s.at (pos_in a) and t.sort v.sort v.state) c in
      let early = back (node_grows e r) late in
      let first = node_knows a l is.2 h early in
      let x = (type_form p o (two and a e) s).typing.sort in
      plain_note x.kind x.constant None _ ∙ (ap₂ constants.both (node_integer a l is.2 h early) (node_integer e r is.4 first.1.0 late) ∙ both_told t.sort.constant v.sort.constant)
  form_integer p o (two or a e) s is h c =
      let l = sided Neither s in
      let t = type_node a l in
      let r = sided Neither (step t.state) in
      let v = type_node e r in
      let late = back (infix_grows t.state.at o s.at (pos_in a) or t.sort v.sort v.state) c in
      let early = back (node_grows e r) late in
      let first = node_knows a l is.2 h early in
      let x = (type_form p o (two or a e) s).typing.sort in
      plain_note x.kind x.constant None _ ∙ (ap₂ constants.either (node_integer a l is.2 h early) (node_integer e r is.4 first.1.0 late) ∙ either_told t.sort.constant v.sort.constant)
  form_integer p o (two (assign u) a e) s is h c = plain_note (type_form p o (two (assign u) a e) s).typing.sort.kind No None No
  form_integer p o (two comma a e) s is h c = plain_note (type_form p o (two comma a e) s).typing.sort.kind No None No
  form_integer p o (choose a e g) s is h c =
      let t = type_node a s in
      let v = type_node e (step t.state) in
      let w = type_node g (step v.state) in
      let r = choice_rule t.sort v.sort w.sort in
      let late = back (rule_grows r t.state.at o w.state) c in
      let mid = back (node_grows g (step v.state)) late in
      let early = back (node_grows e (step t.state)) mid in
      let first = node_knows a s is.1 h early in
      let second = node_knows e (step t.state) is.2 first.1.0 mid in
      let x = constants.choice t.sort.constant v.sort.constant w.sort.constant in
      let one = node_integer a s is.1 h early in
      let other = node_integer e (step t.state) is.2 first.1.0 mid in
      let third = node_integer g (step v.state) is.4 second.1.0 late in
      plain_note (kind_at r) x None _ ∙ (ap₂ (λ i j. constants.choice i j (constant w.node)) one other
      ∙ (ap (λ j. constants.choice (constants.probed t.sort.constant) (constants.probed v.sort.constant) j) third ∙ choice_told t.sort.constant v.sort.constant w.sort.constant))
  form_integer p o (probe (simple block x) a) s is h c =
      let v = steps 4 (claim block x s.at p s) in
      let t = type_node a v in
      let r = probe_rule block s.side t.sort in
      let early = back (rule_grows r s.at p t.state) c in
      plain_note (kind_at r) (constants.probed t.sort.constant) None _ ∙ ap constants.probed (node_integer a v is.1 (claim_goes block x s.at p s h).0 early)
  form_integer p o (probe (simple test x) a) s is h c =
      let v = steps 4 (claim test x s.at p s) in
      let t = type_node a v in
      let r = probe_rule test s.side t.sort in
      let early = back (rule_grows r s.at p t.state) c in
      plain_note (kind_at r) (constants.probed t.sort.constant) None _ ∙ ap constants.probed (node_integer a v is.1 (claim_goes test x s.at p s h).0 early)
  form_integer p o (probe (simple used x) a) s is h c =
      let v = steps 4 (claim used x s.at p s) in
      let t = type_node a v in
      let r = round_place (is_copied used s.side) t.sort.kind t.sort.place (form_knows p o (probe (simple used x) a) s is h c).0 in
      plain_note (kind_at (probe_rule used s.side t.sort)) t.sort.constant None No ∙ sym (place_none t.sort.constant (node_right a v (there t.sort.kind r.type r.inside) r.placed))
  form_integer p o (probe (simple def x) a) s is h c =
      let v = steps 4 (claim def x s.at p s) in
      let t = type_node a v in
      let r = round_place (is_copied def s.side) t.sort.kind t.sort.place (form_knows p o (probe (simple def x) a) s is h c).0 in
      plain_note (kind_at (probe_rule def s.side t.sort)) t.sort.constant None No ∙ sym (place_none t.sort.constant (node_right a v (there t.sort.kind r.type r.inside) r.placed))
  form_integer p o (probe (select x cs) a) s is h c = plain_note (type_form p o (probe (select x cs) a) s).typing.sort.kind No None No
