-- A plain expression in which nothing is complained of is fit: what is changed in it is a place, and of a scalar where it is read too; the name of
-- a scalar is that of a variable.
use Rattle.std.proofs.Common.{◌≡◌, ℕ, ◌++◌, List, [], ◌∷◌, length, Bool, true, false, Option, Some, None, refl, sym, subst}
use Rattle.c_base.specs.declared.place.Pos.{Pos}
use Rattle.c_base.specs.declared.place.IntKind.TheVariants.{Int}
use Rattle.c_syntax.specs.declared.tree.BinaryOp.{BinaryOp}
use Rattle.c_syntax.specs.declared.tree.BinaryOp.TheVariants as op
use Rattle.c_syntax.specs.declared.tree.UnaryOp.{UnaryOp}
use Rattle.c_syntax.specs.declared.tree.UnaryOp.TheVariants as front
use Rattle.c_syntax.specs.Shape.{TypeOf, int, pointer, array, structure, nothing, NoteShape, number, char, str, name, unary, before, size_of, plain, and, or, assign, comma, NodeShape, node, ExprShape, leaf, paren, call, prefix, size_of_type, cast, suffix, two, choose, probe, index, field, behind, simple, select, NodeShapes, no_nodes, more_nodes}
use Rattle.c_syntax.specs.Shaped.{Shaped, ShapedExpr, ShapedNodes}
use Rattle.c_type_rules.specs.Kinds.{is_scalar, decay, is_structure}
use Rattle.c_type_rules.specs.Layouts.{Measure}
use Rattle.c_type_rules.specs.Verdicts.{Verdict, fine, unknown, wrong, on, values_type, compound_type, step_type, cast_type, assigned_type}
use Rattle.c_constants.specs.declared.constants.Constant.{Constant}
use Rattle.c_constants.specs.declared.numbers.Number.{Number}
use Rattle.c_constants.specs.Numbers.{number_of}
use Rattle.c_scopes.specs.Scoping.{find}
use Rattle.c_tables.specs.Tables.{FunctionShape, VariableShape}
use Rattle.c_tree.specs.declared.meaning.Entity.{Entity}
use Rattle.c_tree.specs.declared.meaning.Entity.TheVariants as entity
use Rattle.c_tree.specs.State.{State, step, steps, is_clean}
use Rattle.c_tables.specs.Rows.{row}
use Rattle.c_tree.specs.Rulings.{by, then_rule, rule, kind_at, of_kind, allowed_if, moved}
use Rattle.c_tree.specs.Sorts.{Sort, Typing, note_of, cleared, pos_in, changeable, null, node_sort, value_note}
use Rattle.c_tree.specs.Operators.{number_sort, named_variable, named_entity, called, Given, given_at, call_of, typed_call, unary_sort, unary_rule, place_rule, step_rule, typed_infix, choice_rule, element_rule, holder, field_rule, left_of, right_of, sided, entering}
use Rattle.c_tree.specs.Typing.{opening, type_node, type_form, type_arguments, type_type}
use Rattle.c_walk.specs.declared.around.Taken.{Taken}
use Rattle.c_walk.specs.declared.around.Taken.TheVariants.{Read, Written, Changed, Addressed, Copied}
use Rattle.c_walk.specs.Places.{is_place, has_scalar, has_structure, holds_structure}
use Rattle.c_walk.specs.Walked.{operand_taken, left_taken, right_taken}
use Rattle.c_sites_probes.specs.Marked.{first, node_mark, form_mark, nodes_mark, type_mark}
use Rattle.probe_rules.specs.Fitting.{MayBe, IsName, IsFit, AreFit}
use Rattle.probe_rules.proofs.ReadyUnits.{some_none, none_first, none_second}
use Rattle.c_tree.proofs.Grows.{rule_grows, typed_call_grows, infix_grows, node_grows, form_grows, arguments_grows}
use Rattle.probe_laws.proofs.Settled.{IsThere, IsClean, mended}
use Rattle.probe_laws.proofs.Rules.{back, changeable_there, step_there, left_there, infix_there}
use Rattle.probe_laws.proofs.Known.{MaybeSure, Knows, find_sure}
use Rattle.probe_laws.proofs.KnownParts.{called_knows, is_still_clean}
use Rattle.probe_laws.proofs.KnownNodes.{node_knows, type_knows}
use Rattle.c_tree.specs.declared.meaning.Side.TheVariants.{Neither}
use Rattle.c_constants.specs.declared.constants.Constant.TheVariants.{Known}
use Rattle.std.specs.Prelude.{nat_eq, ◌&&◌, if◌then◌else◌}

-- ---- how an expression may be taken

abbrev HasScalarType : Option TypeOf → Type 0
HasScalarType None = ⊥
HasScalarType (Some t) = is_scalar t ≡ true

abbrev pub HasStructureType : Option TypeOf → Type 0
HasStructureType None = ⊥
HasStructureType (Some t) = is_structure t ≡ true

abbrev pub Allows : Taken → Sort → Type 0
Allows Read a = Unit {0}
Allows Addressed a = Unit {0}
Allows Written a = a.place ≡ true
Allows Changed a = (a.place ≡ true) × HasScalarType a.kind
Allows Copied a = (a.place ≡ true) × HasStructureType a.kind

abbrev note_in : Typing → NoteShape
note_in t = note_of t.sort.kind t.sort.constant t.names t.valued

value_suits : (r : Taken) (x : Bool) (n : NoteShape) (a : Sort) → a.place ≡ false → Allows r a → MayBe r x n
value_suits Read x n a e h = tt
value_suits Addressed x n a e h = tt
value_suits Written x n a e h = cc
value_suits Changed x n a e h = let g = h.0 in cc
value_suits Copied x n a e h = let g = h.0 in cc

scalar_note : (k : Option TypeOf) (c : Constant) (n : Option ℕ) → HasScalarType k → has_scalar (note_of k c n false) ≡ true
scalar_note None c n h = absurd h
scalar_note (Some t) c n h = h

structure_note : (k : Option TypeOf) (c : Constant) (n : Option ℕ) → HasStructureType k → has_structure (note_of k c n false) ≡ true
structure_note None c n h = absurd h
structure_note (Some t) c n h = h

place_suits : (r : Taken) (a : Sort) (c : Constant) (n : Option ℕ) → Allows r a → MayBe r true (note_of a.kind c n false)
place_suits Read a c n h = tt
place_suits Addressed a c n h = tt
place_suits Written a c n h = refl
place_suits Changed a c n h = (refl, scalar_note a.kind c n h.1)
place_suits Copied a c n h = (refl, structure_note a.kind c n h.1)

unary_suits : (r : Taken) (u : UnaryOp) (k : Option TypeOf) (c : Constant) (x : NodeShape) → Allows r (unary_sort u k c) → MayBe r (is_place (prefix (unary u) x)) (note_of (unary_sort u k c).kind (unary_sort u k c).constant None false)
unary_suits r front.Deref k c x h = place_suits r (unary_sort front.Deref k c) (unary_sort front.Deref k c).constant None h
unary_suits r front.AddressOf k c x h = value_suits r false _ (unary_sort front.AddressOf k c) refl h
unary_suits r front.Plus k c x h = value_suits r false _ (unary_sort front.Plus k c) refl h
unary_suits r front.Minus k c x h = value_suits r false _ (unary_sort front.Minus k c) refl h
unary_suits r front.Flip k c x h = value_suits r false _ (unary_sort front.Flip k c) refl h
unary_suits r front.Not k c x h = value_suits r false _ (unary_sort front.Not k c) refl h

operand_allows : (u : UnaryOp) (a : Sort) → Allows (operand_taken u) a
operand_allows front.AddressOf a = tt
operand_allows front.Deref a = tt
operand_allows front.Plus a = tt
operand_allows front.Minus a = tt
operand_allows front.Flip a = tt
operand_allows front.Not a = tt

-- ---- names, numbers and calls

number_value : (n : Option Number) → (number_sort n).place ≡ false
number_value None = refl
number_value (Some n) = refl

row_fits : (r : Taken) (p : Pos) (n : ℕ) (v : Option VariableShape) (s : State) → IsClean (named_variable p n v s).state → Allows r (named_variable p n v s).typing.sort
    → MayBe r true (note_in (named_variable p n v s).typing) × IsName (note_in (named_variable p n v s).typing)
row_fits r p n None s c h = absurd (mended 30 s.at p s c)
row_fits r p n (Some v) s c h = let t = (named_variable p n (Some v) s).typing in (place_suits r t.sort t.sort.constant (Some n) h, tt)

name_fits : (r : Taken) (p : Pos) (e : Option Entity) (s : State) → MaybeSure false (length s.tables.functions) e → IsClean (named_entity p e s).state → Allows r (named_entity p e s).typing.sort
    → MayBe r true (note_in (named_entity p e s).typing) × IsName (note_in (named_entity p e s).typing)
name_fits r p (Some (entity.Variable n)) s is c h = row_fits r p n (row s.tables.variables n) s c h
name_fits r p (Some (entity.Parameter n)) s is c h = cc
name_fits r p (Some (entity.Constant v)) s is c h = (value_suits r true _ (named_entity p (Some (entity.Constant v)) s).typing.sort refl h, tt)
name_fits r p (Some entity.Unknown) s is c h = absurd is
name_fits r p (Some (entity.Function n)) s is c h = absurd (mended 30 s.at p s c)
name_fits r p (Some (entity.Builtin x)) s is c h = absurd (mended 30 s.at p s c)
name_fits r p None s is c h = absurd (mended 30 s.at p s c)

row_value : (p : Pos) (token : ℕ) (clean : Bool) (n : ℕ) (f : Option FunctionShape) (gs : List Given) (s : State) → (call_of p token clean n f gs s).typing.sort.place ≡ false
row_value p token clean n None gs s = refl
row_value p token clean n (Some f) gs s = refl

call_value : (p : Pos) (token : ℕ) (clean : Bool) (f : Option ℕ) (gs : List Given) (s : State) → (typed_call p token clean f gs s).typing.sort.place ≡ false
call_value p token clean None gs s = refl
call_value p token clean (Some n) gs s = row_value p token clean n (row s.tables.functions n) gs s

-- ---- what is changed

if_place : (b : Bool) (t : TypeOf) → IsThere (kind_at (allowed_if b 32 t)) → b ≡ true
if_place true t h = refl
if_place false t h = absurd h

is_placed : (k : Option TypeOf) (b : Bool) → IsThere (kind_at (of_kind k (allowed_if b 32))) → b ≡ true
is_placed None b h = absurd h
is_placed (Some t) b h = if_place b t h

is_left : (k j : Option TypeOf) (b : Bool) → IsThere (kind_at (of_kind j (λ t. of_kind k (allowed_if b 32)))) → b ≡ true
is_left k None b h = absurd h
is_left k (Some t) b h = is_placed k b h

-- nothing is stored in what is no scalar
nothing_stored : (v : Verdict) (rooms : List Measure) → IsThere (kind_at (then_rule (by 33 (on v (λ t. wrong))) (moved rooms))) → ⊥
nothing_stored (fine t) rooms h = h
nothing_stored unknown rooms h = h
nothing_stored wrong rooms h = h

compound_scalar : (u : BinaryOp) (rooms : List Measure) (t b : TypeOf) → IsThere (kind_at (then_rule (by 33 (compound_type u (Some t) (Some b))) (moved rooms))) → is_scalar t ≡ true
compound_scalar u rooms (int k) b h = refl
compound_scalar u rooms (pointer t) b h = refl
compound_scalar u rooms (array t n) b h = absurd (nothing_stored (values_type u (pointer t) false (decay b) false) rooms h)
compound_scalar u rooms (structure n) b h = absurd (nothing_stored (values_type u (structure n) false (decay b) false) rooms h)
compound_scalar u rooms nothing b h = absurd (nothing_stored (values_type u nothing false (decay b) false) rooms h)

abbrev left_kind : Option TypeOf → Bool → Option TypeOf → Option TypeOf
left_kind k b j = kind_at (of_kind j (λ t. of_kind k (allowed_if b 32)))

left_scalar : (u : BinaryOp) (rooms : List Measure) (k : Option TypeOf) (b : Bool) (j : Option TypeOf) → IsThere k → IsThere j → b ≡ true
    → IsThere (kind_at (then_rule (by 33 (compound_type u (left_kind k b j) j)) (moved rooms))) → HasScalarType k
left_scalar u rooms None b j is at e h = is
left_scalar u rooms (Some t) b None is at e h = absurd at
left_scalar u rooms (Some t) true (Some j) is at e h = compound_scalar u rooms t j h
left_scalar u rooms (Some t) false (Some j) is at e h = cc

left_allows : (u : Option BinaryOp) (a b : Sort) (token : ℕ) (o : Pos) (head : ℕ) (p : Pos) (s : State) → IsThere a.kind → IsThere b.kind → IsClean (typed_infix token o head p (assign u) a b s).state → Allows (left_taken u) a
left_allows None a b token o head p s h g c = is_left a.kind b.kind a.place (left_there None s.rooms a b token o head p s h g c)
left_allows (Some u) a b token o head p s h g c =
    let e = is_left a.kind b.kind a.place (left_there (Some u) s.rooms a b token o head p s h g c) in
    (e, left_scalar u s.rooms a.kind a.place b.kind h g e (infix_there token o head p (assign (Some u)) a b s h g c))

-- ---- what is copied

-- a structure's node is of a structure's type
noted_structure : (k : Option TypeOf) (c : Constant) (n : Option ℕ) (v : Bool) → has_structure (note_of k c n v) ≡ true → HasStructureType k
noted_structure None c n v e = cc
noted_structure (Some t) c n false e = e
noted_structure (Some t) c n true e = valued c e
  where
    valued : (c : Constant) → has_structure (value_note t c) ≡ true → is_structure t ≡ true
    valued (Known k v) e = cc
    valued c e = e

pub node_structure : (a : NodeShape) (s : State) → holds_structure (type_node a s).node ≡ true → HasStructureType (type_node a s).sort.kind
node_structure (node p o n f) s e =
    let t = type_form p o f (entering f s) in
    noted_structure (node_sort s t).kind t.typing.sort.constant t.typing.names t.typing.valued e

copy_placed : (b place : Bool) → IsThere (kind_at (by 33 (if b && place then fine nothing else wrong))) → place ≡ true
copy_placed true true h = refl
copy_placed true false h = absurd h
copy_placed false place h = absurd h

copy_taken : (m : ℕ) (b : TypeOf) (n place : Bool) → IsThere (kind_at (by 33 (assigned_type (Some (structure m)) (Some b) n place))) → (place ≡ true) × (is_structure b ≡ true)
copy_taken m (structure j) n place h = (copy_placed (nat_eq m j) place h, refl)
copy_taken m (int k) n place h = absurd h
copy_taken m (pointer t) n place h = absurd h
copy_taken m (array t k) n place h = absurd h
copy_taken m nothing n place h = absurd h

right_structure : (k : Option TypeOf) (b : Bool) (j : Option TypeOf) (n place : Bool) → HasStructureType k → IsThere j → b ≡ true → IsThere (kind_at (by 33 (assigned_type (left_kind k b j) j n place))) → (place ≡ true) × HasStructureType j
right_structure None b j n place is at e h = absurd is
right_structure (Some t) b None n place is at e h = absurd at
right_structure (Some t) false (Some x) n place is at e h = cc
right_structure (Some (structure m)) true (Some x) n place is at e h = copy_taken m x n place h
right_structure (Some (int k)) true (Some x) n place is at e h = cc
right_structure (Some (pointer t)) true (Some x) n place is at e h = cc
right_structure (Some (array t k)) true (Some x) n place is at e h = cc
right_structure (Some nothing) true (Some x) n place is at e h = cc

pub right_allows : (u : Option BinaryOp) (x : NodeShape) (a b : Sort) (token : ℕ) (o : Pos) (head : ℕ) (p : Pos) (s : State) → (holds_structure x ≡ true → HasStructureType a.kind) → IsThere a.kind → IsThere b.kind → IsClean (typed_infix token o head p (assign u) a b s).state → Allows (right_taken u x) b
right_allows (Some u) x a b token o head p s holds h g c = tt
right_allows None x a b token o head p s holds h g c = by_left (holds_structure x) refl
  where
    by_left : (copies : Bool) → holds_structure x ≡ copies → Allows (if copies then Copied else Read) b
    by_left true e =
        right_structure a.kind a.place b.kind (null b) b.place (holds e) g (left_allows None a b token o head p s h g c) (infix_there token o head p (assign None) a b s h g c)
    by_left false e = tt

-- ---- steps

step_scalar : (rooms : List Measure) (k : Option TypeOf) (b : Bool) → IsThere k → b ≡ true → IsThere (kind_at (then_rule (by 33 (step_type (kind_at (of_kind k (allowed_if b 32))))) (moved rooms))) → HasScalarType k
step_scalar rooms None b is e h = is
step_scalar rooms (Some t) true is e h = compound_scalar op.Add rooms t (int Int) h
step_scalar rooms (Some t) false is e h = cc

step_allows : (rooms : List Measure) (a : Sort) (token : ℕ) (o : Pos) (head : ℕ) (p : Pos) (s : State) → IsThere a.kind → IsClean (rule (step_rule rooms a) token o (rule (changeable a) head p s)) → Allows Changed a
step_allows rooms a token o head p s h c =
    let e = is_placed a.kind a.place (changeable_there (step_rule rooms a) a token o head p s h c) in
    (e, step_scalar rooms a.kind a.place h e (step_there rooms a token o head p s h c))

-- ---- expressions

mutual
  pub node_fits : (r : Taken) (a : NodeShape) (s : State) → Shaped a → node_mark (type_node a s).node ≡ None → Knows false s → IsClean (type_node a s).state → Allows r (type_node a s).sort → IsFit r (type_node a s).node
  node_fits r (node p o n f) s is m h c able =
      let v = entering f s in
      let t = type_form p o f v in
      let e = is_still_clean s t.state (back (form_grows p o f v) c) c in
      subst (λ b. IsFit r (node p o (note_of (cleared b t.typing.sort).kind t.typing.sort.constant t.typing.names t.typing.valued) t.form)) (sym e)
      (form_fits r p o f v is.1 m h c (subst (λ b. Allows r (cleared b t.typing.sort)) e able))

  form_fits : (r : Taken) (p o : Pos) (f : ExprShape) (s : State) → ShapedExpr f → form_mark p (type_form p o f s).form ≡ None → Knows false s → IsClean (type_form p o f s).state → Allows r (type_form p o f s).typing.sort
      → IsFit r (node p o (note_in (type_form p o f s).typing) (type_form p o f s).form)
  form_fits r p o (leaf (number t)) s is m h c able = (value_suits r false _ (number_sort (number_of t)) (number_value (number_of t)) able, tt)
  form_fits r p o (leaf (char x)) s is m h c able = (value_suits r false _ (type_form p o (leaf (char x)) s).typing.sort refl able, tt)
  form_fits r p o (leaf (str t)) s is m h c able = (value_suits r false _ (type_form p o (leaf (str t)) s).typing.sort refl able, tt)
  form_fits r p o (leaf (name x)) s is m h c able = name_fits r p (find x s.names) s (find_sure false (length s.tables.functions) x s.names h) c able
  form_fits r p o (paren a) s is m h c able = (tt, node_fits r a (step s) is m h c able)
  form_fits r p o (call x args) s is m h c able =
      let f = called p x s in
      let t = type_arguments [] args (steps (opening args) f.state) in
      let clean = is_clean f.state t.state in
      let late = back (typed_call_grows p s.at clean f.function t.given t.state) c in
      let early = back (arguments_grows [] args (steps (opening args) f.state)) late in
      let one = called_knows false p (find x s.names) s (find_sure false (length s.tables.functions) x s.names h) h early in
      (value_suits r false _ (typed_call p s.at clean f.function t.given t.state).typing.sort (call_value p s.at clean f.function t.given t.state) able, arguments_fit [] args (steps (opening args) f.state) is m one.0.0 late)
  form_fits r p o (prefix (unary u) a) s is m h c able =
      let t = type_node a (step s) in
      let v = rule (place_rule u t.sort) (step s).at (pos_in a) t.state in
      let q = unary_rule u t.state.rooms t.sort in (
        unary_suits r u (kind_at q) t.sort.constant t.node able,
        node_fits (operand_taken u) a (step s) is.1 m h (back (rule_grows (place_rule u t.sort) (step s).at (pos_in a) t.state) (back (rule_grows q s.at o v) c)) (operand_allows u t.sort),
      )
  form_fits r p o (prefix (before u) a) s is m h c able =
      let t = type_node a (step s) in
      let v = rule (changeable t.sort) (step s).at (pos_in a) t.state in
      let q = step_rule t.state.rooms t.sort in
      let late = back (rule_grows (changeable t.sort) (step s).at (pos_in a) t.state) (back (rule_grows q s.at o v) c) in
      let one = node_knows a (step s) is.1 h late in
      (value_suits r false _ (type_form p o (prefix (before u) a) s).typing.sort refl able, node_fits Changed a (step s) is.1 m h late (step_allows t.state.rooms t.sort s.at o (step s).at (pos_in a) t.state one.0 c))
  form_fits r p o (prefix size_of a) s is m h c able = (value_suits r false _ (type_form p o (prefix size_of a) s).typing.sort refl able, tt)
  form_fits r p o (size_of_type y) s is m h c able = (value_suits r false _ (type_form p o (size_of_type y) s).typing.sort refl able, tt)
  form_fits r p o (cast y a) s is m h c able =
      let k = type_type y (step s) in
      let t = type_node a (step k.state) in
      let late = back (rule_grows (by 33 (cast_type k.kind t.sort.kind)) s.at o t.state) c in
      let one = type_knows y (step s) is.0 h (back (node_grows a (step k.state)) late) in
      (value_suits r false _ (type_form p o (cast y a) s).typing.sort refl able, node_fits Read a (step k.state) is.2 (none_second (type_mark k.type) (node_mark t.node) m) one.1.0 late tt)
  form_fits r p o (suffix a (index e)) s is m h c able =
      let t = type_node a s in
      let v = type_node e (step t.state) in
      let q = element_rule v.state.rooms t.sort v.sort in
      let late = back (rule_grows q t.state.at o v.state) c in
      let early = back (node_grows e (step t.state)) late in
      let one = node_knows a s is.1 h early in
      let z = (type_form p o (suffix a (index e)) s).typing.sort in (
        place_suits r z z.constant None able,
        (node_fits Read a s is.1 (none_first (node_mark t.node) (node_mark v.node) m) h early tt, node_fits Read e (step t.state) is.2 (none_second (node_mark t.node) (node_mark v.node) m) one.1.0 late tt),
      )
  form_fits r p o (suffix a (field g x q)) s is m h c able =
      let t = type_node a s in
      let d = holder g t.state.rooms t.sort.kind in
      let v = step (rule d t.state.at o t.state) in
      let f = of_kind (kind_at d) (field_rule x t.state) in
      let z = (type_form p o (suffix a (field g x q)) s).typing.sort in
      (place_suits r z z.constant None able, node_fits Read a s is.1 (none_first (node_mark t.node) None m) h (back (rule_grows d t.state.at o t.state) (back (rule_grows f v.at q v) c)) tt)
  form_fits r p o (suffix a (behind u)) s is m h c able =
      let t = type_node a s in
      let v = rule (changeable t.sort) s.at (pos_in a) (step t.state) in
      let q = step_rule t.state.rooms t.sort in
      let late = back (rule_grows (changeable t.sort) s.at (pos_in a) (step t.state)) (back (rule_grows q t.state.at o v) c) in
      let one = node_knows a s is.1 h late in (
        value_suits r false _ (type_form p o (suffix a (behind u)) s).typing.sort refl able,
        node_fits Changed a s is.1 (none_first (node_mark t.node) None m) h late (step_allows t.state.rooms t.sort t.state.at o s.at (pos_in a) (step t.state) one.0 c),
      )
  form_fits r p o (two (plain u) a e) s is m h c able =
      let l = sided Neither s in
      let t = type_node a l in
      let d = sided Neither (step t.state) in
      let v = type_node e d in
      let late = back (infix_grows t.state.at o s.at (pos_in a) (plain u) t.sort v.sort v.state) c in
      let early = back (node_grows e d) late in
      let one = node_knows a l is.2 h early in (
        value_suits r false _ (type_form p o (two (plain u) a e) s).typing.sort refl able,
        (
          node_fits Read a l is.2 (none_first (node_mark t.node) (node_mark v.node) m) h early tt,
          node_fits Read e d is.4 (none_second (node_mark t.node) (node_mark v.node) m) one.1.0 late tt,
        ),
      )
  form_fits r p o (two and a e) s is m h c able =
      let l = sided Neither s in
      let t = type_node a l in
      let d = sided Neither (step t.state) in
      let v = type_node e d in
      let late = back (infix_grows t.state.at o s.at (pos_in a) and t.sort v.sort v.state) c in
      let early = back (node_grows e d) late in
      let one = node_knows a l is.2 h early in (
        value_suits r false _ (type_form p o (two and a e) s).typing.sort refl able,
        (
          node_fits Read a l is.2 (none_first (node_mark t.node) (node_mark v.node) m) h early tt,
          node_fits Read e d is.4 (none_second (node_mark t.node) (node_mark v.node) m) one.1.0 late tt,
        ),
      )
  form_fits r p o (two or a e) s is m h c able =
      let l = sided Neither s in
      let t = type_node a l in
      let d = sided Neither (step t.state) in
      let v = type_node e d in
      let late = back (infix_grows t.state.at o s.at (pos_in a) or t.sort v.sort v.state) c in
      let early = back (node_grows e d) late in
      let one = node_knows a l is.2 h early in (
        value_suits r false _ (type_form p o (two or a e) s).typing.sort refl able,
        (
          node_fits Read a l is.2 (none_first (node_mark t.node) (node_mark v.node) m) h early tt,
          node_fits Read e d is.4 (none_second (node_mark t.node) (node_mark v.node) m) one.1.0 late tt,
        ),
      )
  form_fits r p o (two comma a e) s is m h c able =
      let l = sided Neither s in
      let t = type_node a l in
      let d = sided Neither (step t.state) in
      let v = type_node e d in
      let late = back (infix_grows t.state.at o s.at (pos_in a) comma t.sort v.sort v.state) c in
      let early = back (node_grows e d) late in
      let one = node_knows a l is.2 h early in (
        value_suits r false _ (type_form p o (two comma a e) s).typing.sort refl able,
        (
          node_fits Read a l is.2 (none_first (node_mark t.node) (node_mark v.node) m) h early tt,
          node_fits Read e d is.4 (none_second (node_mark t.node) (node_mark v.node) m) one.1.0 late tt,
        ),
      )
  form_fits r p o (two (assign u) a e) s is m h c able =
      let l = sided (left_of (assign u)) s in
      let t = type_node a l in
      let d = sided (right_of (assign u) t.sort.kind) (step t.state) in
      let v = type_node e d in
      let late = back (infix_grows t.state.at o s.at (pos_in a) (assign u) t.sort v.sort v.state) c in
      let early = back (node_grows e d) late in
      let one = node_knows a l is.2 h early in
      let other = node_knows e d is.4 one.1.0 late in (
        value_suits r false _ (type_form p o (two (assign u) a e) s).typing.sort refl able,
        (
          node_fits (left_taken u) a l is.2 (none_first (node_mark t.node) (node_mark v.node) m) h early (left_allows u t.sort v.sort t.state.at o s.at (pos_in a) v.state one.0 other.0 c),
          node_fits (right_taken u t.node) e d is.4 (none_second (node_mark t.node) (node_mark v.node) m) one.1.0 late (right_allows u t.node t.sort v.sort t.state.at o s.at (pos_in a) v.state (node_structure a l) one.0 other.0 c),
        ),
      )
  form_fits r p o (choose a e g) s is m h c able =
      let t = type_node a s in
      let v = type_node e (step t.state) in
      let w = type_node g (step v.state) in
      let late = back (rule_grows (choice_rule t.sort v.sort w.sort) t.state.at o w.state) c in
      let mid = back (node_grows g (step v.state)) late in
      let early = back (node_grows e (step t.state)) mid in
      let one = node_knows a s is.1 h early in
      let other = node_knows e (step t.state) is.2 one.1.0 mid in
      let rest = none_second (node_mark t.node) (first (node_mark v.node) (node_mark w.node)) m in (
        value_suits r false _ (type_form p o (choose a e g) s).typing.sort refl able,
        (
          node_fits Read a s is.1 (none_first (node_mark t.node) (first (node_mark v.node) (node_mark w.node)) m) h early tt,
          node_fits Read e (step t.state) is.2 (none_first (node_mark v.node) (node_mark w.node) rest) one.1.0 mid tt,
          node_fits Read g (step v.state) is.4 (none_second (node_mark v.node) (node_mark w.node) rest) other.1.0 late tt,
        ),
      )
  form_fits r p o (probe (simple u x) a) s is m h c able = absurd (some_none p m)
  form_fits r p o (probe (select x cs) a) s is m h c able = absurd (some_none p m)

  arguments_fit : (gs : List Given) (es : NodeShapes) (s : State) → ShapedNodes 1 es → nodes_mark (type_arguments gs es s).nodes ≡ None → Knows false s → IsClean (type_arguments gs es s).state → AreFit (type_arguments gs es s).nodes
  arguments_fit gs no_nodes s is m h c = tt
  arguments_fit gs (more_nodes a rest) s is m h c =
      let t = type_node a (step s) in
      let gs = gs ++ given_at (step s).at (pos_in a) t.sort ∷ [] in
      let y = type_arguments gs rest t.state in
      let early = back (arguments_grows gs rest t.state) c in
      let one = node_knows a (step s) is.1 h early in
      (node_fits Read a (step s) is.1 (none_first (node_mark t.node) (nodes_mark y.nodes) m) h early tt, arguments_fit gs rest t.state is.2 (none_second (node_mark t.node) (nodes_mark y.nodes) m) one.1.0 c)
