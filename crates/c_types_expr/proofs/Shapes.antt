-- The shape of a form, by its parts as code holds them.
use Rattle.std.proofs.Common.{◌≡◌, refl, sym, ap, ◌∙◌, Option}
use Rattle.std.specs.declared.vec.Vec.{Vec}
use Rattle.std.specs.declared.boxed.Box.{Box}
use Rattle.std.specs.declared.alloc.Global.{Global}
use Rattle.c_base.specs.declared.place.Pos.{Pos}
use Rattle.c_syntax.specs.declared.text.Text.{Text}
use Rattle.c_syntax.specs.declared.tree.UnaryOp.{UnaryOp}
use Rattle.c_syntax.specs.declared.tree.StepOp.{StepOp}
use Rattle.c_syntax.specs.declared.tree.BinaryOp.{BinaryOp}
use Rattle.c_syntax.specs.declared.tree.ExprProbe.{ExprProbe}
use Rattle.c_syntax.specs.declared.tree.TypeName.{TypeName}
use Rattle.c_syntax.specs.declared.tree.Node.{Node}
use Rattle.c_syntax.specs.declared.tree.Expr.{Expr}
use Rattle.c_syntax.specs.declared.tree.Expr.TheVariants.{Paren, Unary, Step, SizeOf, Member, Arrow, Probe, Index, Binary, And, Or, Assign, Comma, Call, SizeOfType, Cast, Cond}
use Rattle.c_syntax.specs.declared.tree.Named.{Named}
use Rattle.c_syntax.specs.declared.tree.Decl.{Decl}
use Rattle.c_syntax.specs.declared.tree.Enumer.{Enumer}
use Rattle.c_syntax.specs.declared.tree.SpecForm.{SpecForm}
use Rattle.c_syntax.specs.declared.tree.SpecForm.TheVariants.{Struct, Enum}
use Rattle.c_syntax.specs.Options.{maybe_members, maybe_rows}
use Rattle.c_syntax.specs.Shape.{struct, enum, paren, prefix, unary, size_of, suffix, field, dot, arrow, index, probe, two, plain, and, or, assign, comma, call, size_of_type, cast, choose, select}
use Rattle.c_syntax.specs.View.{spec_shape, expr_shape, node_shape, node_list, type_shape, probe_shape, step_shape}
use Rattle.c_syntax.proofs.Open.{call_open, select_open, struct_open, enum_open}
use Rattle.c_syntax.specs.declared.tree.ExprProbe.TheVariants.{Select}
use Rattle.c_tree.specs.State.{State}
use Rattle.c_tree.specs.Typing.{type_form, type_step}
use Rattle.c_types_expr.specs.Forms.{type_probing}
use Rattle.c_types_expr.proofs.Steps.{stepping_form, probing_form}

pub paren_form : (e : Expr) (a a' : Box Node Global) (at-a : Node) → e ≡ Paren a → a' ≡ a → at-a ≡ a'.value → expr_shape e ≡ paren (node_shape at-a)
paren_form e a a' at-a is a-is a-at = rw (is, a-at, a-is) refl

pub unary_form : (e : Expr) (op op' : UnaryOp) (a a' : Box Node Global) (at-a : Node) → e ≡ Unary op a → op' ≡ op → a' ≡ a → at-a ≡ a'.value → expr_shape e ≡ prefix (unary op') (node_shape at-a)
unary_form e op op' a a' at-a is op-is a-is a-at = rw (is, a-at, op-is, a-is) refl

pub step_form : (e : Expr) (op op' : StepOp) (a a' : Box Node Global) (at-a : Node) → e ≡ Step op a → op' ≡ op → a' ≡ a → at-a ≡ a'.value → expr_shape e ≡ step_shape op' (node_shape at-a)
step_form e op op' a a' at-a is op-is a-is a-at = rw (is, a-at, op-is, a-is) refl

pub size_of_form : (e : Expr) (a a' : Box Node Global) (at-a : Node) → e ≡ SizeOf a → a' ≡ a → at-a ≡ a'.value → expr_shape e ≡ prefix size_of (node_shape at-a)
size_of_form e a a' at-a is a-is a-at = rw (is, a-at, a-is) refl

pub member_form : (e : Expr) (a a' : Box Node Global) (at-a : Node) (name name' : Text) (place place' : Pos) → e ≡ Member a name place → a' ≡ a → name' ≡ name → place' ≡ place → at-a ≡ a'.value → expr_shape e ≡ suffix (node_shape at-a) (field dot name' place')
member_form e a a' at-a name name' place place' is a-is name-is place-is a-at = rw (is, a-at, a-is, name-is, place-is) refl

pub arrow_form : (e : Expr) (a a' : Box Node Global) (at-a : Node) (name name' : Text) (place place' : Pos) → e ≡ Arrow a name place → a' ≡ a → name' ≡ name → place' ≡ place → at-a ≡ a'.value → expr_shape e ≡ suffix (node_shape at-a) (field arrow name' place')
arrow_form e a a' at-a name name' place place' is a-is name-is place-is a-at = rw (is, a-at, a-is, name-is, place-is) refl

pub probe_form : (e : Expr) (mark mark' : ExprProbe) (a a' : Box Node Global) (at-a : Node) → e ≡ Probe mark a → mark' ≡ mark → a' ≡ a → at-a ≡ a'.value → expr_shape e ≡ probe (probe_shape mark') (node_shape at-a)
probe_form e mark mark' a a' at-a is mark-is a-is a-at = rw (is, a-at, mark-is, a-is) refl

pub index_form : (e : Expr) (a a' : Box Node Global) (at-a : Node) (b b' : Box Node Global) (at-b : Node) → e ≡ Index a b → a' ≡ a → b' ≡ b → at-a ≡ a'.value → at-b ≡ b'.value → expr_shape e ≡ suffix (node_shape at-a) (index (node_shape at-b))
index_form e a a' at-a b b' at-b is a-is b-is a-at b-at = rw (is, a-at, b-at, a-is, b-is) refl

pub binary_form : (e : Expr) (op op' : BinaryOp) (a a' : Box Node Global) (at-a : Node) (b b' : Box Node Global) (at-b : Node) → e ≡ Binary op a b → op' ≡ op → a' ≡ a → b' ≡ b → at-a ≡ a'.value → at-b ≡ b'.value → expr_shape e ≡ two (plain op') (node_shape at-a) (node_shape at-b)
binary_form e op op' a a' at-a b b' at-b is op-is a-is b-is a-at b-at = rw (is, a-at, b-at, op-is, a-is, b-is) refl

pub and_form : (e : Expr) (a a' : Box Node Global) (at-a : Node) (b b' : Box Node Global) (at-b : Node) → e ≡ And a b → a' ≡ a → b' ≡ b → at-a ≡ a'.value → at-b ≡ b'.value → expr_shape e ≡ two and (node_shape at-a) (node_shape at-b)
and_form e a a' at-a b b' at-b is a-is b-is a-at b-at = rw (is, a-at, b-at, a-is, b-is) refl

pub or_form : (e : Expr) (a a' : Box Node Global) (at-a : Node) (b b' : Box Node Global) (at-b : Node) → e ≡ Or a b → a' ≡ a → b' ≡ b → at-a ≡ a'.value → at-b ≡ b'.value → expr_shape e ≡ two or (node_shape at-a) (node_shape at-b)
or_form e a a' at-a b b' at-b is a-is b-is a-at b-at = rw (is, a-at, b-at, a-is, b-is) refl

pub assign_form : (e : Expr) (op op' : Option BinaryOp) (a a' : Box Node Global) (at-a : Node) (b b' : Box Node Global) (at-b : Node) → e ≡ Assign op a b → op' ≡ op → a' ≡ a → b' ≡ b → at-a ≡ a'.value → at-b ≡ b'.value → expr_shape e ≡ two (assign op') (node_shape at-a) (node_shape at-b)
assign_form e op op' a a' at-a b b' at-b is op-is a-is b-is a-at b-at = rw (is, a-at, b-at, op-is, a-is, b-is) refl

pub comma_form : (e : Expr) (a a' : Box Node Global) (at-a : Node) (b b' : Box Node Global) (at-b : Node) → e ≡ Comma a b → a' ≡ a → b' ≡ b → at-a ≡ a'.value → at-b ≡ b'.value → expr_shape e ≡ two comma (node_shape at-a) (node_shape at-b)
comma_form e a a' at-a b b' at-b is a-is b-is a-at b-at = rw (is, a-at, b-at, a-is, b-is) refl

pub call_form : (e : Expr) (name name' : Text) (args args' : Vec Node Global) → e ≡ Call name args → name' ≡ name → args' ≡ args → expr_shape e ≡ call name' (node_list args'.items)
call_form e name name' args args' is name-is args-is = rw (is, name-is, args-is) (call_open name args)

pub size_of_type_form : (e : Expr) (name name' : TypeName) → e ≡ SizeOfType name → name' ≡ name → expr_shape e ≡ size_of_type (type_shape name')
size_of_type_form e name name' is name-is = rw (is, name-is) refl

pub cast_form : (e : Expr) (name name' : TypeName) (a a' : Box Node Global) (at-a : Node) → e ≡ Cast name a → name' ≡ name → a' ≡ a → at-a ≡ a'.value → expr_shape e ≡ cast (type_shape name') (node_shape at-a)
cast_form e name name' a a' at-a is name-is a-is a-at = rw (is, a-at, name-is, a-is) refl

pub cond_form : (e : Expr) (a a' : Box Node Global) (at-a : Node) (b b' : Box Node Global) (at-b : Node) (c c' : Box Node Global) (at-c : Node) → e ≡ Cond a b c → a' ≡ a → b' ≡ b → c' ≡ c → at-a ≡ a'.value → at-b ≡ b'.value → at-c ≡ c'.value → expr_shape e ≡ choose (node_shape at-a) (node_shape at-b) (node_shape at-c)
cond_form e a a' at-a b b' at-b c c' at-c is a-is b-is c-is a-at b-at c-at = rw (is, a-at, b-at, c-at, a-is, b-is, c-is) refl

pub step_typed : (p o : Pos) (s : State) (e : Expr) (op op' : StepOp) (a a' : Box Node Global) (at-a : Node) → e ≡ Step op a → op' ≡ op → a' ≡ a → at-a ≡ a'.value → type_step o op' (node_shape at-a) s ≡ type_form p o (expr_shape e) s
step_typed p o s e op op' a a' at-a is op-is a-is a-at = sym (ap (λ x. type_form p o x s) (step_form e op op' a a' at-a is op-is a-is a-at) ∙ stepping_form p o op' (node_shape at-a) s)

pub probe_typed : (p o : Pos) (s : State) (e : Expr) (mark mark' : ExprProbe) (a a' : Box Node Global) (at-a : Node) → e ≡ Probe mark a → mark' ≡ mark → a' ≡ a → at-a ≡ a'.value → type_probing p (probe_shape mark') (node_shape at-a) s ≡ type_form p o (expr_shape e) s
probe_typed p o s e mark mark' a a' at-a is mark-is a-is a-at = sym (ap (λ x. type_form p o x s) (probe_form e mark mark' a a' at-a is mark-is a-is a-at) ∙ probing_form p o (probe_shape mark') (node_shape at-a) s)

pub select_form : (m : ExprProbe) (number number' : Text) (cases cases' : Vec Node Global) → m ≡ Select number cases → number' ≡ number → cases' ≡ cases → probe_shape m ≡ select number' (node_list cases'.items)
select_form m number number' cases cases' is number-is cases-is = rw (is, number-is, cases-is) (select_open number cases)

pub struct_form : (f : SpecForm) (x y : Option Named) (v w : Option (Vec Decl Global)) → f ≡ Struct x v → y ≡ x → w ≡ v → spec_shape f ≡ struct y (maybe_members w)
struct_form f x y v w is n a = rw (is, n, a) (struct_open x v)

pub enum_form : (f : SpecForm) (x y : Option Named) (v w : Option (Vec Enumer Global)) → f ≡ Enum x v → y ≡ x → w ≡ v → spec_shape f ≡ enum y (maybe_rows w)
enum_form f x y v w is n a = rw (is, n, a) (enum_open x v)
