-- What an operator comes to without complaint: what typing knows of its value is read of its tree.
use Rattle.std.proofs.Common.{◌≡◌, ℕ, ◌⊎◌, inl, inr, List, Option, Some, None, Bool, false, nat_eq, refl, sym, ap, subst, ◌∙◌}
use Rattle.c_base.specs.declared.place.Pos.{Pos}
use Rattle.c_syntax.specs.declared.text.Text.{Text}
use Rattle.c_syntax.specs.declared.tree.UnaryOp.{UnaryOp}
use Rattle.c_syntax.specs.declared.tree.UnaryOp.TheVariants as front
use Rattle.c_syntax.specs.Shape.{TypeOf, int, pointer, array, structure, nothing, NoteShape, name, unary, Infix, plain, and, or, assign, comma, NodeShape, ExprShape, leaf, call, prefix, cast, two, choose, TypeShape, NodeShapes}
use Rattle.c_type_rules.specs.Layouts.{Measure, known, incomplete, too_large, measure}
use Rattle.c_type_rules.specs.Verdicts.{cast_type}
use Rattle.c_constants.specs.declared.numbers.Number.{Number}
use Rattle.c_constants.specs.declared.constants.Constant.{Constant}
use Rattle.c_constants.specs.declared.constants.Constant.TheVariants.{No}
use Rattle.c_constants.specs.Constants as constants
use Rattle.c_constants.specs.Constants.{kind_of}
use Rattle.c_tables.specs.Tables.{FunctionShape, VariableShape}
use Rattle.c_tables.specs.Rows.{row}
use Rattle.c_tree.specs.declared.meaning.Entity.{Entity}
use Rattle.c_tree.specs.declared.meaning.Entity.TheVariants as entity
use Rattle.c_tree.specs.Complaints.{wrong_type}
use Rattle.c_tree.specs.State.{State, step}
use Rattle.c_tree.specs.Rulings.{Ruled, allowed, unsettled, refused, by, then_rule, kind_at, rule, of_kind, whole, sized, as_size, size_in, cast_constant}
use Rattle.c_tree.specs.Sorts.{Sort, a_value, Typing, plainly, naming, valuing, note_of}
use Rattle.c_tree.specs.Operators.{number_sort, named_variable, named_parameter, named_entity, Given, call_of, typed_call, unary_rule, unary_sort, place_rule, typed_unary, typed_infix, typed_choice, choice_rule, typed_cast, typed_size, typed_type_size}
use Rattle.c_walk.specs.Tests as tests
use Rattle.c_walk.specs.Tests.{constant_form, noted_constant, number_constant, cast_to, joined}
use Rattle.probe_rules.proofs.SameConstants.{AreAlike}
use Rattle.probe_laws.proofs.Settled.{IsThere, IsClean, mended}
use Rattle.probe_laws.proofs.Rules.{unary_there, size_there, type_size_there, cast_there, infix_there, choice_there}
use Rattle.probe_cases.proofs.Alike.{alike_same, none_alike, unary_alike, joined_alike, choice_alike, cast_alike, unary_none, joined_none, test_none, branches_none, cast_none, variable_none}

-- ---- what is said of a form

-- what has no type is no integer constant
abbrev pub IsGrounded : Option TypeOf → Constant → Type 0
IsGrounded None c = kind_of c ≡ None
IsGrounded (Some t) c = Unit {0}

-- the note of a form
abbrev pub note_in : Typing → NoteShape
note_in t = note_of t.sort.kind t.sort.constant t.names t.valued

-- what typing knows of its value is read of its tree
pub record IsRead (f : ExprShape) (t : Typing) : Type 0 where
  pub grounded : IsGrounded t.sort.kind t.sort.constant
  pub alike : AreAlike (noted_constant (note_in t) (constant_form (note_in t) f)) t.sort.constant

pub grounded_none : (k : Option TypeOf) (c : Constant) → kind_of c ≡ None → IsGrounded k c
grounded_none None c e = e
grounded_none (Some t) c e = tt

grounded_there : (k : Option TypeOf) (c : Constant) → IsThere k → IsGrounded k c
grounded_there None c h = absurd h
grounded_there (Some t) c h = tt

none_at : (k : Option TypeOf) (c : Constant) → k ≡ None → IsGrounded k c → kind_of c ≡ None
none_at None c e g = g
none_at (Some t) c e g = cc

-- it has no type, or it has one
by_kind : (k : Option TypeOf) {P : Type 0} → (k ≡ None → P) → (IsThere k → P) → P
by_kind None f g = f refl
by_kind (Some t) f g = g tt

-- a note without a value
plain_note : (k : Option TypeOf) (c : Constant) (m : Option ℕ) (d : Constant) → noted_constant (note_of k c m false) d ≡ d
plain_note None c m d = refl
plain_note (Some t) c m d = refl

pub alike_noted : (k : Option TypeOf) (c : Constant) (m : Option ℕ) {d e : Constant} → AreAlike d e → AreAlike (noted_constant (note_of k c m false) d) e
alike_noted k c m {d} {e} p = subst (λ x. AreAlike x e) (sym (plain_note k c m d)) p

-- a form that is no integer constant, and has no value in its note
pub read_none : (f : ExprShape) (x : Sort) (m : Option ℕ) → ((n : NoteShape) → constant_form n f ≡ No) → kind_of x.constant ≡ None → IsRead f (naming x m)
read_none f x m none e = record {
  grounded = grounded_none x.kind x.constant e;
  alike = alike_noted x.kind x.constant m (subst (λ c. AreAlike c x.constant) (sym (none (note_in (naming x m)))) (none_alike x.constant e));
}

-- ---- constants, names and calls

pub number_read : (t : Text) (p : Pos) (m : Option Number) → IsGrounded (number_sort m).kind (number_sort m).constant × AreAlike (noted_constant (note_in (plainly (number_sort m))) (number_constant m)) (number_sort m).constant
number_read t p None = (refl, alike_same refl)
number_read t p (Some n) = (tt, alike_same refl)

variable_read : (p : Pos) (x : Text) (n : ℕ) (v : Option VariableShape) (s : State) → IsRead (leaf (name x)) (named_variable p n v s).typing
variable_read p x n None s = record { grounded = refl; alike = alike_same refl }
variable_read p x n (Some v) s = record { grounded = tt; alike = none_alike _ (variable_none (nat_eq v.function 0)) }

parameter_read : (p : Pos) (x : Text) (k : Option TypeOf) (s : State) → IsRead (leaf (name x)) (named_parameter p k s).typing
parameter_read p x None s = record { grounded = refl; alike = alike_same refl }
parameter_read p x (Some t) s = record { grounded = tt; alike = alike_same refl }

pub entity_read : (p : Pos) (x : Text) (e : Option Entity) (s : State) → IsRead (leaf (name x)) (named_entity p e s).typing
entity_read p x (Some (entity.Variable n)) s = variable_read p x n (row s.tables.variables n) s
entity_read p x (Some (entity.Parameter n)) s = parameter_read p x (row s.params n) s
entity_read p x (Some (entity.Constant v)) s = record { grounded = tt; alike = alike_same refl }
entity_read p x (Some entity.Unknown) s = record { grounded = refl; alike = alike_same refl }
entity_read p x (Some (entity.Function n)) s = record { grounded = refl; alike = alike_same refl }
entity_read p x (Some (entity.Builtin b)) s = record { grounded = refl; alike = alike_same refl }
entity_read p x None s = record { grounded = refl; alike = alike_same refl }

row_read : (p : Pos) (x : Text) (args : NodeShapes) (token : ℕ) (clean : Bool) (n : ℕ) (f : Option FunctionShape) (gs : List Given) (s : State) → IsRead (call x args) (call_of p token clean n f gs s).typing
row_read p x args token clean n None gs s = record { grounded = refl; alike = alike_same refl }
row_read p x args token clean n (Some f) gs s = record { grounded = tt; alike = alike_same refl }

pub call_read : (p : Pos) (x : Text) (args : NodeShapes) (token : ℕ) (clean : Bool) (f : Option ℕ) (gs : List Given) (s : State) → IsRead (call x args) (typed_call p token clean f gs s).typing
call_read p x args token clean None gs s = record { grounded = refl; alike = alike_same refl }
call_read p x args token clean (Some n) gs s = row_read p x args token clean n (row s.tables.functions n) gs s

-- ---- operands: a typed node, and what is read of it

pub record IsReadNode (a : NodeShape) (x : Sort) : Type 0 where
  pub grounded : IsGrounded x.kind x.constant
  pub alike : AreAlike (tests.constant a) x.constant

-- ---- operators of one operand

unary_constant : (u : UnaryOp) (k : Option TypeOf) (c : Constant) → constants.unary u c ≡ (unary_sort u k c).constant
unary_constant front.AddressOf k c = refl
unary_constant front.Deref k c = refl
unary_constant front.Plus k c = refl
unary_constant front.Minus k c = refl
unary_constant front.Flip k c = refl
unary_constant front.Not k c = refl

pub unary_read : (u : UnaryOp) (a : NodeShape) (x : Sort) (token : ℕ) (o : Pos) (head : ℕ) (p : Pos) (s : State) → IsReadNode a x
    → IsClean (rule (unary_rule u s.rooms x) token o (rule (place_rule u x) head p s)) → IsRead (prefix (unary u) a) (typed_unary token o head p u x s).typing
unary_read u a x token o head p s is c =
    let k = kind_at (unary_rule u s.rooms x) in
    let y = unary_sort u k x.constant in
    let e = unary_constant u k x.constant in
    record {
      grounded = by_kind x.kind
          (λ d. grounded_none y.kind y.constant (ap kind_of (sym e) ∙ unary_none u x.constant (none_at x.kind x.constant d is.grounded)))
          (λ h. grounded_there y.kind y.constant (unary_there u s.rooms x.constant x token o head p s h c));
      alike = alike_noted y.kind y.constant None (subst (AreAlike (constants.unary u (tests.constant a))) e (unary_alike u is.alike));
    }

valued_read : (f : ExprShape) → ((n : NoteShape) → constant_form n f ≡ No) → (r : Ruled) (m : Measure) → IsThere (kind_at (then_rule r as_size)) → IsRead f (valuing (a_value (kind_at (then_rule r as_size)) (size_in m)))
valued_read f none (allowed t) (known e) h = record { grounded = tt; alike = alike_same refl }
valued_read f none (allowed t) incomplete h = record { grounded = tt; alike = alike_same (none _) }
valued_read f none (allowed t) too_large h = record { grounded = tt; alike = alike_same (none _) }
valued_read f none unsettled m h = absurd h
valued_read f none (refused n) m h = absurd h

pub size_read : (f : ExprShape) → ((n : NoteShape) → constant_form n f ≡ No) → (token : ℕ) (o : Pos) (k : Option TypeOf) (s : State) → IsClean (rule (of_kind k (sized s.rooms)) token o s) → IsRead f (typed_size token o k s).typing
size_read f none token o None s c = record { grounded = refl; alike = alike_same (none _) }
size_read f none token o (Some t) s c = valued_read f none (sized s.rooms t) (measure s.rooms t) (size_there s.rooms (Some t) token o s tt c)

pub type_size_read : (f : ExprShape) → ((n : NoteShape) → constant_form n f ≡ No) → (token : ℕ) (o : Pos) (k : Option TypeOf) (s : State) → IsClean (rule (of_kind k (whole s.rooms)) token o (step s)) → IsRead f (typed_type_size token o k s).typing
type_size_read f none token o None s c = record { grounded = refl; alike = alike_same (none _) }
type_size_read f none token o (Some t) s c = valued_read f none (whole s.rooms t) (measure s.rooms t) (type_size_there s.rooms (Some t) token o (step s) tt c)

-- the note has the type of the cast
cast_noted : (k l : Option TypeOf) (b d : Constant) (token : ℕ) (o : Pos) (s : State) → IsGrounded l d → AreAlike b d → IsClean (rule (by wrong_type (cast_type k l)) token o s)
    → AreAlike (cast_to (note_of (kind_at (by wrong_type (cast_type k l))) (cast_constant k d) None false) b) (cast_constant k d)
cast_noted None l b d token o s g p c = alike_same refl
cast_noted (Some t) None b d token o s g p c = none_alike (constants.cast t d) (cast_none t d g)
cast_noted (Some (int k)) (Some (int j)) b d token o s g p c = cast_alike k p
cast_noted (Some (int k)) (Some (pointer u)) b d token o s g p c = absurd (mended wrong_type token o s c)
cast_noted (Some (int k)) (Some (array u n)) b d token o s g p c = absurd (mended wrong_type token o s c)
cast_noted (Some (int k)) (Some (structure n)) b d token o s g p c = absurd (mended wrong_type token o s c)
cast_noted (Some (int k)) (Some nothing) b d token o s g p c = absurd (mended wrong_type token o s c)
cast_noted (Some nothing) (Some u) b d token o s g p c = alike_same refl
cast_noted (Some (pointer t)) (Some u) b d token o s g p c = alike_same refl
cast_noted (Some (array t n)) (Some u) b d token o s g p c = alike_same refl
cast_noted (Some (structure n)) (Some u) b d token o s g p c = alike_same refl

cast_grounded : (k l : Option TypeOf) (d : Constant) (token : ℕ) (o : Pos) (s : State) → IsGrounded l d → IsClean (rule (by wrong_type (cast_type k l)) token o s) → IsGrounded (kind_at (by wrong_type (cast_type k l))) (cast_constant k d)
cast_grounded None l d token o s g c = grounded_none (kind_at (by wrong_type (cast_type None l))) No refl
cast_grounded (Some t) None d token o s g c = grounded_none (kind_at (by wrong_type (cast_type (Some t) None))) (constants.cast t d) (cast_none t d g)
cast_grounded (Some t) (Some u) d token o s g c = grounded_there (kind_at (by wrong_type (cast_type (Some t) (Some u)))) (constants.cast t d) (cast_there (Some t) (Some u) token o s tt tt c)

pub cast_read : (y : TypeShape) (a : NodeShape) (k : Option TypeOf) (x : Sort) (token : ℕ) (o : Pos) (s : State) → IsReadNode a x → IsClean (rule (by wrong_type (cast_type k x.kind)) token o s) → IsRead (cast y a) (typed_cast token o k x s).typing
cast_read y a k x token o s is c = record {
  grounded = cast_grounded k x.kind x.constant token o s is.grounded c;
  alike = alike_noted (kind_at (by wrong_type (cast_type k x.kind))) (cast_constant k x.constant) None (cast_noted k x.kind (tests.constant a) x.constant token o s is.grounded is.alike c);
}

-- ---- operators of two and three operands

-- of two operands one has no type, or both have one
by_kinds : (k l : Option TypeOf) {P : Type 0} → ((k ≡ None) ⊎ (l ≡ None) → P) → (IsThere k → IsThere l → P) → P
by_kinds k l f g = by_kind k (λ e. f (inl e)) (λ h. by_kind l (λ e. f (inr e)) (λ i. g h i))

none_of : (x y : Sort) → IsGrounded x.kind x.constant → IsGrounded y.kind y.constant → (x.kind ≡ None) ⊎ (y.kind ≡ None) → (kind_of x.constant ≡ None) ⊎ (kind_of y.constant ≡ None)
none_of x y g h (inl e) = inl (none_at x.kind x.constant e g)
none_of x y g h (inr e) = inr (none_at y.kind y.constant e h)

infix_grounded : (token : ℕ) (o : Pos) (head : ℕ) (p : Pos) (u : Infix) (x y : Sort) (s : State) → IsGrounded x.kind x.constant → IsGrounded y.kind y.constant
    → IsClean (typed_infix token o head p u x y s).state → IsGrounded (typed_infix token o head p u x y s).typing.sort.kind (joined u x.constant y.constant)
infix_grounded token o head p u x y s g h c =
    let k = (typed_infix token o head p u x y s).typing.sort.kind in
    by_kinds x.kind y.kind
    (λ e. grounded_none k (joined u x.constant y.constant) (joined_none u x.constant y.constant (none_of x y g h e)))
    (λ i j. grounded_there k (joined u x.constant y.constant) (infix_there token o head p u x y s i j c))

pub infix_read : (token : ℕ) (o : Pos) (head : ℕ) (p : Pos) (u : Infix) (a b : NodeShape) (x y : Sort) (s : State) → IsReadNode a x → IsReadNode b y
    → IsClean (typed_infix token o head p u x y s).state → IsRead (two u a b) (typed_infix token o head p u x y s).typing
infix_read token o head p (plain u) a b x y s is are c = record { grounded = infix_grounded token o head p (plain u) x y s is.grounded are.grounded c; alike = alike_noted _ _ None (joined_alike (plain u) is.alike are.alike) }
infix_read token o head p and a b x y s is are c = record { grounded = infix_grounded token o head p and x y s is.grounded are.grounded c; alike = alike_noted _ _ None (joined_alike and is.alike are.alike) }
infix_read token o head p or a b x y s is are c = record { grounded = infix_grounded token o head p or x y s is.grounded are.grounded c; alike = alike_noted _ _ None (joined_alike or is.alike are.alike) }
infix_read token o head p (assign u) a b x y s is are c = read_none (two (assign u) a b) (typed_infix token o head p (assign u) x y s).typing.sort None (λ n. refl) refl
infix_read token o head p comma a b x y s is are c = read_none (two comma a b) (typed_infix token o head p comma x y s).typing.sort None (λ n. refl) refl

pub choice_read : (a b d : NodeShape) (x y z : Sort) (token : ℕ) (o : Pos) (s : State) → IsReadNode a x → IsReadNode b y → IsReadNode d z
    → IsClean (rule (choice_rule x y z) token o s) → IsRead (choose a b d) (typed_choice token o x y z s).typing
choice_read a b d x y z token o s is are be c =
    let k = kind_at (choice_rule x y z) in
    let v = constants.choice x.constant y.constant z.constant in
    record {
      grounded = by_kind x.kind
          (λ e. grounded_none k v (test_none x.constant y.constant z.constant (none_at x.kind x.constant e is.grounded)))
          (λ h. by_kinds y.kind z.kind
          (λ e. grounded_none k v (branches_none x.constant y.constant z.constant (none_of y z are.grounded be.grounded e)))
          (λ i j. grounded_there k v (choice_there x y z token o s h i j c)));
      alike = alike_noted k v None (choice_alike is.alike are.alike be.alike);
    }
