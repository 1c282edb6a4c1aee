-- What is written is a place of a scalar or of a structure that is copied, and a site of an expression that is typed without a complaint is one.
use Rattle.std.proofs.Common.{◌≡◌, ℕ, List, Bool, true, false, Option, Some, None, refl}
use Rattle.c_base.specs.declared.place.Pos.{Pos}
use Rattle.c_base.specs.declared.place.IntKind.TheVariants.{Int}
use Rattle.c_syntax.specs.declared.tree.BinaryOp.{BinaryOp}
use Rattle.c_syntax.specs.declared.tree.BinaryOp.TheVariants as op
use Rattle.c_syntax.specs.declared.tree.UnaryOp.{UnaryOp}
use Rattle.c_syntax.specs.declared.tree.UnaryOp.TheVariants as front
use Rattle.c_syntax.specs.Shape.{TypeOf, int, pointer, array, structure, nothing, number, char, str, name, unary, before, size_of, assign, NodeShape, ExprShape, leaf, paren, call, prefix, size_of_type, cast, suffix, two, choose, probe, index, field, behind, simple, select, used, def}
use Rattle.c_type_rules.specs.Kinds.{is_scalar, decay}
use Rattle.c_type_rules.specs.Layouts.{Measure}
use Rattle.c_type_rules.specs.Verdicts.{Verdict, fine, unknown, wrong, on, truth_of, values_type, branches_type, compound_type, step_type, truth_type, logical_type, conditional_type, assigned_type, is_probed}
use Rattle.c_constants.specs.declared.constants.Constant.{Constant}
use Rattle.c_constants.specs.declared.constants.Constant.TheVariants.{No, Faulty, Known, Variable, Part, Address, Literal}
use Rattle.c_scopes.specs.Scoping.{find}
use Rattle.c_tables.specs.Tables.{VariableShape}
use Rattle.c_tables.specs.Rows.{row}
use Rattle.c_tree.specs.declared.meaning.Entity.{Entity}
use Rattle.c_tree.specs.declared.meaning.Entity.TheVariants as entity
use Rattle.c_tree.specs.State.{State}
use Rattle.c_tree.specs.Rulings.{by, then_rule, rule, kind_at, of_kind, allowed_if, moved}
use Rattle.c_tree.specs.Sorts.{Sort, Typing, note_of, changeable}
use Rattle.c_tree.specs.Operators.{named_variable, named_parameter, named_entity, unary_sort, step_rule, typed_infix, choice_rule, left_of, right_of, may_copy, is_copied}
use Rattle.c_tree.specs.Typing.{type_form}
use Rattle.c_walk.specs.declared.around.Taken.{Taken}
use Rattle.c_walk.specs.declared.around.Taken.TheVariants.{Read, Written, Changed, Addressed, Copied}
use Rattle.c_walk.specs.Places.{is_place, has_scalar, holds_structure}
use Rattle.c_walk.specs.Walked.{operand_taken, left_taken, is_written, right_taken, is_used}
use Rattle.probe_laws.proofs.Settled.{IsThere, IsClean}
use Rattle.probe_laws.proofs.Rules.{changeable_there, step_there, left_there, infix_there}
use Rattle.probe_typed.specs.Typed.{MayBeTaken, MayBeTested, HasProbedType, IsProbedPlace}
use Rattle.probe_typed.proofs.Follows.{IsPlainNote}
use Rattle.c_tree.specs.declared.meaning.Side.{Side}
use Rattle.probe_laws.proofs.FitNodes.{HasStructureType, Allows}
use Rattle.std.specs.Prelude.{if◌then◌else◌}

-- ---- operands

pub operand_taken_so : (u : UnaryOp) (d : Side) (a : Sort) → MayBeTaken (operand_taken u) d a
operand_taken_so front.AddressOf d a = tt
operand_taken_so front.Deref d a = tt
operand_taken_so front.Plus d a = tt
operand_taken_so front.Minus d a = tt
operand_taken_so front.Flip d a = tt
operand_taken_so front.Not d a = tt

if_place : (b : Bool) (t : TypeOf) → IsThere (kind_at (allowed_if b 32 t)) → b ≡ true
if_place true t h = refl
if_place false t h = absurd h

is_placed : (k : Option TypeOf) (b : Bool) → IsThere (kind_at (of_kind k (allowed_if b 32))) → b ≡ true
is_placed None b h = absurd h
is_placed (Some t) b h = if_place b t h

is_left : (k j : Option TypeOf) (b : Bool) → IsThere (kind_at (of_kind j (λ t. of_kind k (allowed_if b 32)))) → b ≡ true
is_left k None b h = absurd h
is_left k (Some t) b h = is_placed k b h

-- a value fits into a scalar alone, and a structure is copied
stored_probed : (t b : TypeOf) (n place : Bool) → IsThere (kind_at (by 33 (assigned_type (Some t) (Some b) n place))) → is_probed true t ≡ true
stored_probed (int k) b n place h = refl
stored_probed (pointer t) b n place h = refl
stored_probed (array t m) b n place h = absurd h
stored_probed (structure m) b n place h = refl
stored_probed nothing b n place h = absurd h

nothing_stored : (v : Verdict) (rooms : List Measure) → IsThere (kind_at (then_rule (by 33 (on v (λ t. wrong))) (moved rooms))) → ⊥
nothing_stored (fine t) rooms h = h
nothing_stored unknown rooms h = h
nothing_stored wrong rooms h = h

compound_scalar : (u : BinaryOp) (rooms : List Measure) (t b : TypeOf) → IsThere (kind_at (then_rule (by 33 (compound_type u (Some t) (Some b))) (moved rooms))) → is_probed false t ≡ true
compound_scalar u rooms (int k) b h = refl
compound_scalar u rooms (pointer t) b h = refl
compound_scalar u rooms (array t n) b h = absurd (nothing_stored (values_type u (pointer t) false (decay b) false) rooms h)
compound_scalar u rooms (structure n) b h = absurd (nothing_stored (values_type u (structure n) false (decay b) false) rooms h)
compound_scalar u rooms nothing b h = absurd (nothing_stored (values_type u nothing false (decay b) false) rooms h)

abbrev left_kind : Option TypeOf → Bool → Option TypeOf → Option TypeOf
left_kind k b j = kind_at (of_kind j (λ t. of_kind k (allowed_if b 32)))

assigned_probed : (k : Option TypeOf) (b : Bool) (j : Option TypeOf) (n place : Bool) → IsThere k → IsThere j → b ≡ true → IsThere (kind_at (by 33 (assigned_type (left_kind k b j) j n place))) → HasProbedType true k
assigned_probed None b j n place is at e h = is
assigned_probed (Some t) b None n place is at e h = absurd at
assigned_probed (Some t) true (Some j) n place is at e h = stored_probed t j n place h
assigned_probed (Some t) false (Some j) n place is at e h = cc

left_scalar : (u : BinaryOp) (rooms : List Measure) (k : Option TypeOf) (b : Bool) (j : Option TypeOf) → IsThere k → IsThere j → b ≡ true
    → IsThere (kind_at (then_rule (by 33 (compound_type u (left_kind k b j) j)) (moved rooms))) → HasProbedType false k
left_scalar u rooms None b j is at e h = is
left_scalar u rooms (Some t) b None is at e h = absurd at
left_scalar u rooms (Some t) true (Some j) is at e h = compound_scalar u rooms t j h
left_scalar u rooms (Some t) false (Some j) is at e h = cc

pub left_taken_so : (u : Option BinaryOp) (a b : Sort) (token : ℕ) (o : Pos) (head : ℕ) (p : Pos) (s : State) → IsThere a.kind → IsThere b.kind → IsClean (typed_infix token o head p (assign u) a b s).state → MayBeTaken (left_taken u) (left_of (assign u)) a
left_taken_so None a b token o head p s h g c =
    let e = is_left a.kind b.kind a.place (left_there None s.rooms a b token o head p s h g c) in
    (e, assigned_probed a.kind a.place b.kind _ _ h g e (infix_there token o head p (assign None) a b s h g c))
left_taken_so (Some u) a b token o head p s h g c =
    let e = is_left a.kind b.kind a.place (left_there (Some u) s.rooms a b token o head p s h g c) in
    (e, left_scalar u s.rooms a.kind a.place b.kind h g e (infix_there token o head p (assign (Some u)) a b s h g c))

-- what is to the right of a structure is copied
structure_probed : (j k : Option TypeOf) → HasStructureType j → HasStructureType k → HasProbedType (is_copied used (may_copy j)) k
structure_probed None k h g = absurd h
structure_probed (Some t) None h g = absurd g
structure_probed (Some (structure m)) (Some (structure n)) h g = refl
structure_probed (Some (structure m)) (Some (int k)) h g = cc
structure_probed (Some (structure m)) (Some (pointer t)) h g = cc
structure_probed (Some (structure m)) (Some (array t n)) h g = cc
structure_probed (Some (structure m)) (Some nothing) h g = cc
structure_probed (Some (int k)) (Some t) h g = cc
structure_probed (Some (pointer t)) (Some u) h g = cc
structure_probed (Some (array t n)) (Some u) h g = cc
structure_probed (Some nothing) (Some t) h g = cc

pub right_taken_so : (u : Option BinaryOp) (x : NodeShape) (a b : Sort) → (holds_structure x ≡ true → HasStructureType a.kind) → Allows (right_taken u x) b → MayBeTaken (right_taken u x) (right_of (assign u) a.kind) b
right_taken_so (Some u) x a b holds h = tt
right_taken_so None x a b holds h = by_left (holds_structure x) refl h
  where
    by_left : (copies : Bool) → holds_structure x ≡ copies → Allows (if copies then Copied else Read) b → MayBeTaken (if copies then Copied else Read) (may_copy a.kind) b
    by_left true e h = (h.0, structure_probed a.kind b.kind (holds e) h.1)
    by_left false e h = tt

step_scalar : (rooms : List Measure) (k : Option TypeOf) (b : Bool) → IsThere k → b ≡ true → IsThere (kind_at (then_rule (by 33 (step_type (kind_at (of_kind k (allowed_if b 32))))) (moved rooms))) → HasProbedType false k
step_scalar rooms None b is e h = is
step_scalar rooms (Some t) true is e h = compound_scalar op.Add rooms t (int Int) h
step_scalar rooms (Some t) false is e h = cc

pub step_taken_so : (rooms : List Measure) (d : Side) (a : Sort) (token : ℕ) (o : Pos) (head : ℕ) (p : Pos) (s : State) → IsThere a.kind → IsClean (rule (step_rule rooms a) token o (rule (changeable a) head p s)) → MayBeTaken Changed d a
step_taken_so rooms d a token o head p s h c =
    let e = is_placed a.kind a.place (changeable_there (step_rule rooms a) a token o head p s h c) in
    (e, step_scalar rooms a.kind a.place h e (step_there rooms a token o head p s h c))

-- ---- tests

on_first : (v : Verdict) (f : TypeOf → Verdict) → IsThere (kind_at (by 33 (on v f))) → IsThere (kind_at (by 33 v))
on_first (fine t) f h = tt
on_first unknown f h = h
on_first wrong f h = h

on_both : (v w : Verdict) → IsThere (kind_at (by 33 (on v (λ t. w)))) → IsThere (kind_at (by 33 v)) × IsThere (kind_at (by 33 w))
on_both (fine t) w h = (tt, h)
on_both unknown w h = absurd h
on_both wrong w h = absurd h

logical_kinds : (j k : Option TypeOf) → IsThere (kind_at (by 33 (logical_type j k))) → IsThere (kind_at (by 33 (truth_type j))) × IsThere (kind_at (by 33 (truth_type k)))
logical_kinds None k h = absurd h
logical_kinds (Some t) None h = absurd h
logical_kinds (Some t) (Some u) h = on_both (truth_of t) (truth_of u) h

-- both operands of `&&` and `||`, and the first one of `?:`
pub logical_tested : (a b : Sort) → IsThere (kind_at (by 33 (logical_type a.kind b.kind))) → MayBeTested a × MayBeTested b
logical_tested a b h = logical_kinds a.kind b.kind h

conditional_kinds : (i j k : Option TypeOf) (m n : Bool) → IsThere (kind_at (by 33 (conditional_type i j m k n))) → IsThere (kind_at (by 33 (truth_type i)))
conditional_kinds None j k m n h = absurd h
conditional_kinds (Some t) None k m n h = absurd h
conditional_kinds (Some t) (Some u) None m n h = absurd h
conditional_kinds (Some t) (Some u) (Some v) m n h = on_first (truth_of t) (λ x. branches_type (decay u) m (decay v) n) h

pub chosen_tested : (a b c : Sort) → IsThere (kind_at (choice_rule a b c)) → MayBeTested a
chosen_tested a b c h = conditional_kinds a.kind b.kind c.kind _ _ h

-- ---- sites

abbrev IsUnvalued : Typing → Type 0
IsUnvalued t = t.sort.place ≡ true → t.valued ≡ false

variable_plain : (p : Pos) (n : ℕ) (v : Option VariableShape) (s : State) → IsUnvalued (named_variable p n v s).typing
variable_plain p n None s h = refl
variable_plain p n (Some v) s h = refl

parameter_plain : (p : Pos) (k : Option TypeOf) (s : State) → IsUnvalued (named_parameter p k s).typing
parameter_plain p None s h = refl
parameter_plain p (Some t) s h = refl

name_plain : (p : Pos) (e : Option Entity) (s : State) → IsUnvalued (named_entity p e s).typing
name_plain p (Some (entity.Variable n)) s h = variable_plain p n (row s.tables.variables n) s h
name_plain p (Some (entity.Parameter n)) s h = parameter_plain p (row s.params n) s h
name_plain p (Some (entity.Constant v)) s h = cc
name_plain p (Some entity.Unknown) s h = refl
name_plain p (Some (entity.Function n)) s h = refl
name_plain p (Some (entity.Builtin x)) s h = refl
name_plain p None s h = refl

-- a place has no value in its note
place_plain : (p o : Pos) (f : ExprShape) (s : State) → is_place (type_form p o f s).form ≡ true → IsUnvalued (type_form p o f s).typing
place_plain p o (leaf (number t)) s e h = cc
place_plain p o (leaf (char x)) s e h = cc
place_plain p o (leaf (str t)) s e h = cc
place_plain p o (leaf (name x)) s e h = name_plain p (find x s.names) s h
place_plain p o (paren a) s e h = cc
place_plain p o (call x args) s e h = cc
place_plain p o (prefix (unary u) a) s e h = refl
place_plain p o (prefix (before u) a) s e h = cc
place_plain p o (prefix size_of a) s e h = cc
place_plain p o (size_of_type y) s e h = cc
place_plain p o (cast y a) s e h = cc
place_plain p o (suffix a (index b)) s e h = refl
place_plain p o (suffix a (field g x q)) s e h = refl
place_plain p o (suffix a (behind u)) s e h = cc
place_plain p o (two u a b) s e h = cc
place_plain p o (choose a b c) s e h = cc
place_plain p o (probe (simple u x) a) s e h = cc
place_plain p o (probe (select x cs) a) s e h = cc

-- what has a scalar in its note
abbrev HasScalarNote : Typing → Type 0
HasScalarNote t = has_scalar (note_of t.sort.kind t.sort.constant t.names t.valued) ≡ true

variable_placed : (p : Pos) (n : ℕ) (v : Option VariableShape) (s : State) → HasScalarNote (named_variable p n v s).typing → (named_variable p n v s).typing.sort.place ≡ true
variable_placed p n None s h = cc
variable_placed p n (Some v) s h = refl

parameter_placed : (p : Pos) (k : Option TypeOf) (s : State) → HasScalarNote (named_parameter p k s).typing → (named_parameter p k s).typing.sort.place ≡ true
parameter_placed p None s h = cc
parameter_placed p (Some t) s h = refl

name_placed : (p : Pos) (e : Option Entity) (s : State) → HasScalarNote (named_entity p e s).typing → (named_entity p e s).typing.sort.place ≡ true
name_placed p (Some (entity.Variable n)) s h = variable_placed p n (row s.tables.variables n) s h
name_placed p (Some (entity.Parameter n)) s h = parameter_placed p (row s.params n) s h
name_placed p (Some (entity.Constant v)) s h = cc
name_placed p (Some entity.Unknown) s h = cc
name_placed p (Some (entity.Function n)) s h = cc
name_placed p (Some (entity.Builtin x)) s h = cc
name_placed p None s h = cc

unary_placed : (u : UnaryOp) (a b : NodeShape) (k : Option TypeOf) (c : Constant) → is_place (prefix (unary u) a) ≡ true → (unary_sort u k c).place ≡ true
unary_placed front.Deref a b k c e = refl
unary_placed front.AddressOf a b k c e = cc
unary_placed front.Plus a b k c e = cc
unary_placed front.Minus a b k c e = cc
unary_placed front.Flip a b k c e = cc
unary_placed front.Not a b k c e = cc

-- what is a place by its form, of a scalar by its note, is one
form_placed : (p o : Pos) (f : ExprShape) (s : State) → is_place (type_form p o f s).form ≡ true → HasScalarNote (type_form p o f s).typing → (type_form p o f s).typing.sort.place ≡ true
form_placed p o (leaf (number t)) s e h = cc
form_placed p o (leaf (char x)) s e h = cc
form_placed p o (leaf (str t)) s e h = cc
form_placed p o (leaf (name x)) s e h = name_placed p (find x s.names) s h
form_placed p o (paren a) s e h = cc
form_placed p o (call x args) s e h = cc
form_placed p o (prefix (unary u) a) s e h = unary_placed u _ a _ _ e
form_placed p o (prefix (before u) a) s e h = cc
form_placed p o (prefix size_of a) s e h = cc
form_placed p o (size_of_type y) s e h = cc
form_placed p o (cast y a) s e h = cc
form_placed p o (suffix a (index b)) s e h = refl
form_placed p o (suffix a (field g x q)) s e h = refl
form_placed p o (suffix a (behind u)) s e h = cc
form_placed p o (two u a b) s e h = cc
form_placed p o (choose a b c) s e h = cc
form_placed p o (probe (simple u x) a) s e h = cc
form_placed p o (probe (select x cs) a) s e h = cc

-- what may have a probe anywhere may have one where it is copied
probed_too : (copied : Bool) (k : Option TypeOf) → HasProbedType false k → HasProbedType copied k
probed_too copied None h = h
probed_too copied (Some (int k)) h = refl
probed_too copied (Some (pointer t)) h = refl
probed_too copied (Some (array t n)) h = cc
probed_too copied (Some (structure n)) h = cc
probed_too copied (Some nothing) h = cc

scalar_probed : (t : TypeOf) → is_scalar t ≡ true → is_probed false t ≡ true
scalar_probed (int k) h = refl
scalar_probed (pointer t) h = refl
scalar_probed (array t n) h = cc
scalar_probed (structure n) h = cc
scalar_probed nothing h = cc

scalar_kind : (k : Option TypeOf) (c : Constant) (n : Option ℕ) (valued : Bool) → has_scalar (note_of k c n valued) ≡ true → HasProbedType false k
scalar_kind None c n valued h = cc
scalar_kind (Some t) c n false h = scalar_probed t h
scalar_kind (Some t) No n true h = scalar_probed t h
scalar_kind (Some t) (Faulty k) n true h = scalar_probed t h
scalar_kind (Some t) (Known k v) n true h = cc
scalar_kind (Some t) Variable n true h = scalar_probed t h
scalar_kind (Some t) Part n true h = scalar_probed t h
scalar_kind (Some t) Address n true h = scalar_probed t h
scalar_kind (Some t) Literal n true h = scalar_probed t h

plain_note : (k : Option TypeOf) (c : Constant) (n : Option ℕ) (valued : Bool) → valued ≡ false → IsPlainNote (note_of k c n valued)
plain_note None c n valued e = tt
plain_note (Some t) c n false e = tt
plain_note (Some t) c n true e = cc

-- a place by its form has no value in its note
pub placed_plain : (p o : Pos) (f : ExprShape) (s : State) → is_place (type_form p o f s).form ≡ true → (let x = (type_form p o f s).typing in x.sort.place ≡ true → IsPlainNote (note_of x.sort.kind x.sort.constant x.names x.valued))
placed_plain p o f s here e = let x = (type_form p o f s).typing in plain_note x.sort.kind x.sort.constant x.names x.valued (place_plain p o f s here e)

pub written_place : (r : Taken) (d : Side) (a : Sort) → is_written r ≡ true → MayBeTaken r d a → IsProbedPlace (is_copied def d) a
written_place Read d a e h = cc
written_place Addressed d a e h = cc
written_place Copied d a e h = cc
written_place Written d a e h = h
written_place Changed d a e h = (h.0, probed_too (is_copied def d) a.kind h.1)

-- one by its form that is used
read_place : (d : Side) (p o : Pos) (f : ExprShape) (s : State) → is_place (type_form p o f s).form ≡ true → HasScalarNote (type_form p o f s).typing → IsProbedPlace (is_copied used d) (type_form p o f s).typing.sort
read_place d p o f s here h =
    let x = (type_form p o f s).typing in
    (form_placed p o f s here h, probed_too (is_copied used d) x.sort.kind (scalar_kind x.sort.kind x.sort.constant x.names x.valued h))

pub used_place : (r : Taken) (d : Side) (p o : Pos) (f : ExprShape) (s : State) → is_place (type_form p o f s).form ≡ true → (
    let x = (type_form p o f s).typing in
    is_used r (note_of x.sort.kind x.sort.constant x.names x.valued) ≡ true → MayBeTaken r d x.sort → IsProbedPlace (is_copied used d) x.sort)
used_place Read d p o f s here e h = read_place d p o f s here e
used_place Changed d p o f s here e h = read_place d p o f s here e
used_place Copied d p o f s here e h = h
used_place Written d p o f s here e h = cc
used_place Addressed d p o f s here e h = cc
