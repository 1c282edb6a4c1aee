-- What each form of a node is: a place, a node with a turn, or looked through.
use Rattle.std.proofs.Common.{◌≡◌, List, [], ◌∷◌, ◌++◌, ap, ◌∙◌, Option, Some, None, Bool, true, false, refl, sym, arith}
use Rattle.std.proofs.lemmas.Bool.{true≢false}
use Rattle.c_base.specs.declared.place.Pos.{Pos}
use Rattle.std.specs.Borrow.{Bor}
use Rattle.c_syntax.specs.declared.text.Text.{Text}
use Rattle.c_syntax.specs.declared.tree.Node.{Node}
use Rattle.c_syntax.specs.declared.tree.Note.{Note}
use Rattle.c_syntax.specs.declared.tree.Note.TheVariants as note
use Rattle.c_syntax.specs.declared.tree.Expr.{Expr}
use Rattle.c_syntax.specs.declared.tree.Expr.TheVariants as expr
use Rattle.c_syntax.specs.declared.tree.ExprProbe.TheVariants as probes
use Rattle.c_syntax.specs.declared.tree.UnaryOp.TheVariants as front
use Rattle.c_syntax.specs.declared.tree.StepOp.TheVariants as way
use Rattle.c_syntax.specs.Shape.{NoteShape, NodeShape, NodeShapes, test, ExprShape, leaf, paren, call, prefix, unary, before, size_of, size_of_type, cast, suffix, index, field, behind, dot, arrow, two, plain, and, or, assign, comma, choose, probe, simple, select, node, used}
use Rattle.c_store.specs.declared.value.Value.{Value}
use Rattle.c_store.specs.declared.value.Pointer.{Pointer}
use Rattle.c_syntax.specs.View.{note_shape, expr_shape, node_shape}
use Rattle.c_tables.specs.Tables.{TablesShape}
use Rattle.c_meaning.specs.declared.end.Stop.TheVariants as stop
use Rattle.c_meaning.specs.State.{State}
use Rattle.c_meaning.specs.Results.{Stops, then_do, untyped}
use Rattle.c_walk.specs.Tests.{choosing}
use Rattle.c_meaning.specs.Operators.{is_true}
use Rattle.c_meaning.specs.Firsts.{quiet, outcome}
use Rattle.c_meaning.specs.Places.{logs, marks, fetched}
use Rattle.c_meaning.specs.Constants.{select_constants, chosen_among}
use Rattle.c_meaning.specs.Expressions.{gives, log_test}
use Rattle.c_meaning.specs.Knot.{Knot}
use Rattle.c_world.specs.declared.world.World.{World}
use Rattle.c_eval.specs.declared.frame.Wait.{Wait}
use Rattle.c_eval.specs.declared.frame.Wait.TheVariants as wait
use Rattle.c_eval.proofs.Steps.{then_then, needed_then, frames_push, weights_push}
use Rattle.c_eval.specs.declared.frame.Frame.{Frame}
use Rattle.c_eval.specs.Rest.{weights, waits, waiting, wait_weight, Val, Spot, Taker, to_value, to_spot, answer, all_do, on_operand, on_found, on_second, on_written, on_combined, on_copied, on_comma}
use Rattle.c_eval_once.specs.Parts.{truth_at, value, place}
use Rattle.c_eval.specs.Forms.{is_probe, takes_none, has_place, is_bare, is_bare_place}
use Rattle.c_eval_once.specs.Forms.{Kept, told, standing}
use Rattle.c_eval_once.proofs.Standing.{read_at}

no_yes : {A : Type 0} → false ≡ true → A
no_yes e = absurd (true≢false (sym e))

yes_no : {A : Type 0} → true ≡ false → A
yes_no e = absurd (true≢false e)

-- another node takes a turn first
pub value_no_turn : (t : TablesShape) (k : Knot) (p o' : Pos) (n : Note) (e : Expr) (s : State) → is_bare e ≡ true → standing n e ≡ false → s.turns ≡ 0 → value t k (node p o' (note_shape n) (expr_shape e)) s ≡ Stops stop.Turns s
value_no_turn t k p w n (expr.Number x) s bare not none = rw none refl
value_no_turn t k p w n (expr.Char c) s bare not none = rw none refl
value_no_turn t k p w n (expr.Str x) s bare not none = rw none refl
value_no_turn t k p w (note.Typed y (Some v)) (expr.Name x) s bare not none = yes_no not
value_no_turn t k p w (note.Typed y None) (expr.Name x) s bare not none = rw none refl
value_no_turn t k p w (note.Known y v) (expr.Name x) s bare not none = rw none refl
value_no_turn t k p w note.Bare (expr.Name x) s bare not none = rw none refl
value_no_turn t k p w n (expr.Paren' _ q o m a) s bare not none = no_yes bare
value_no_turn t k p w n (expr.Index' _ q o m a _ q' o' m' b) s bare not none = yes_no not
value_no_turn t k p w n (expr.Member' _ q o m a x r) s bare not none = yes_no not
value_no_turn t k p w n (expr.Arrow' _ q o m a x r) s bare not none = yes_no not
value_no_turn t k p w n (expr.Call' x _ args) s bare not none = rw none refl
value_no_turn t k p w n (expr.Unary' front.AddressOf _ q o m a) s bare not none = rw none refl
value_no_turn t k p w n (expr.Unary' front.Deref _ q o m a) s bare not none = yes_no not
value_no_turn t k p w n (expr.Unary' front.Plus _ q o m a) s bare not none = rw none refl
value_no_turn t k p w n (expr.Unary' front.Minus _ q o m a) s bare not none = rw none refl
value_no_turn t k p w n (expr.Unary' front.Flip _ q o m a) s bare not none = rw none refl
value_no_turn t k p w n (expr.Unary' front.Not _ q o m a) s bare not none = rw none refl
value_no_turn t k p w n (expr.Step' way.PreInc _ q o m a) s bare not none = rw none refl
value_no_turn t k p w n (expr.Step' way.PreDec _ q o m a) s bare not none = rw none refl
value_no_turn t k p w n (expr.Step' way.PostInc _ q o m a) s bare not none = rw none refl
value_no_turn t k p w n (expr.Step' way.PostDec _ q o m a) s bare not none = rw none refl
value_no_turn t k p w n (expr.SizeOf' _ q o m a) s bare not none = rw none refl
value_no_turn t k p w n (expr.SizeOfType y) s bare not none = rw none refl
value_no_turn t k p w n (expr.Cast' y _ q o m a) s bare not none = rw none refl
value_no_turn t k p w n (expr.Binary' u _ q o m a _ q' o' m' b) s bare not none = rw none refl
value_no_turn t k p w n (expr.And' _ q o m a _ q' o' m' b) s bare not none = rw none refl
value_no_turn t k p w n (expr.Or' _ q o m a _ q' o' m' b) s bare not none = rw none refl
value_no_turn t k p w n (expr.Cond' _ q o m a _ q' o' m' b _ q'' o'' m'' c) s bare not none = rw none refl
value_no_turn t k p w n (expr.Assign' None _ q o m a _ q' o' m' b) s bare not none = rw none refl
value_no_turn t k p w n (expr.Assign' (Some u) _ q o m a _ q' o' m' b) s bare not none = rw none refl
value_no_turn t k p w n (expr.Comma' _ q o m a _ q' o' m' b) s bare not none = rw none refl
value_no_turn t k p w n (expr.Probe' (probes.Block x) _ q o m a) s bare not none = no_yes bare
value_no_turn t k p w n (expr.Probe' (probes.Test x) _ q o m a) s bare not none = no_yes bare
value_no_turn t k p w n (expr.Probe' (probes.Select' x l cs) _ q o m a) s bare not none = no_yes bare
value_no_turn t k p w n (expr.Probe' (probes.Use x) _ q o m a) s bare not none = yes_no not
value_no_turn t k p w n (expr.Probe' (probes.Def x) _ q o m a) s bare not none = yes_no not

-- and another node is none
pub not_place : (t : TablesShape) (k : Knot) (p o' : Pos) (n : Note) (e : Expr) (s : State) → is_bare_place e ≡ true → has_place n e ≡ false → place t k (node p o' (note_shape n) (expr_shape e)) s ≡ untyped s
not_place t k p w n (expr.Number x) s bare not = refl
not_place t k p w n (expr.Char c) s bare not = refl
not_place t k p w n (expr.Str x) s bare not = refl
not_place t k p w (note.Typed y (Some v)) (expr.Name x) s bare not = yes_no not
not_place t k p w (note.Typed y None) (expr.Name x) s bare not = refl
not_place t k p w (note.Known y v) (expr.Name x) s bare not = refl
not_place t k p w note.Bare (expr.Name x) s bare not = refl
not_place t k p w n (expr.Paren' _ q o m a) s bare not = no_yes bare
not_place t k p w n (expr.Index' _ q o m a _ q' o' m' b) s bare not = yes_no not
not_place t k p w n (expr.Member' _ q o m a x r) s bare not = yes_no not
not_place t k p w n (expr.Arrow' _ q o m a x r) s bare not = yes_no not
not_place t k p w n (expr.Call' x _ args) s bare not = refl
not_place t k p w n (expr.Unary' front.AddressOf _ q o m a) s bare not = refl
not_place t k p w n (expr.Unary' front.Deref _ q o m a) s bare not = yes_no not
not_place t k p w n (expr.Unary' front.Plus _ q o m a) s bare not = refl
not_place t k p w n (expr.Unary' front.Minus _ q o m a) s bare not = refl
not_place t k p w n (expr.Unary' front.Flip _ q o m a) s bare not = refl
not_place t k p w n (expr.Unary' front.Not _ q o m a) s bare not = refl
not_place t k p w n (expr.Step' way.PreInc _ q o m a) s bare not = refl
not_place t k p w n (expr.Step' way.PreDec _ q o m a) s bare not = refl
not_place t k p w n (expr.Step' way.PostInc _ q o m a) s bare not = refl
not_place t k p w n (expr.Step' way.PostDec _ q o m a) s bare not = refl
not_place t k p w n (expr.SizeOf' _ q o m a) s bare not = refl
not_place t k p w n (expr.SizeOfType y) s bare not = refl
not_place t k p w n (expr.Cast' y _ q o m a) s bare not = refl
not_place t k p w n (expr.Binary' u _ q o m a _ q' o' m' b) s bare not = refl
not_place t k p w n (expr.And' _ q o m a _ q' o' m' b) s bare not = refl
not_place t k p w n (expr.Or' _ q o m a _ q' o' m' b) s bare not = refl
not_place t k p w n (expr.Cond' _ q o m a _ q' o' m' b _ q'' o'' m'' c) s bare not = refl
not_place t k p w n (expr.Assign' None _ q o m a _ q' o' m' b) s bare not = refl
not_place t k p w n (expr.Assign' (Some u) _ q o m a _ q' o' m' b) s bare not = refl
not_place t k p w n (expr.Comma' _ q o m a _ q' o' m' b) s bare not = yes_no not
not_place t k p w n (expr.Probe' (probes.Block x) _ q o m a) s bare not = no_yes bare
not_place t k p w n (expr.Probe' (probes.Test x) _ q o m a) s bare not = refl
not_place t k p w n (expr.Probe' (probes.Select' x l cs) _ q o m a) s bare not = refl
not_place t k p w n (expr.Probe' (probes.Use x) _ q o m a) s bare not = no_yes bare
not_place t k p w n (expr.Probe' (probes.Def x) _ q o m a) s bare not = no_yes bare

-- ---- what is waited for, and what else comes

pub operand_spot : (t : TablesShape) (k : Knot) (n : NoteShape) (f : ExprShape) (go : Taker) (q : Pointer) (s : State) → on_operand t k n f go (Spot q) s ≡ untyped s
operand_spot t k n (leaf l) go q s = refl
operand_spot t k n (paren a) go q s = refl
operand_spot t k n (call x args) go q s = refl
operand_spot t k n (prefix (unary front.AddressOf) a) go q s = refl
operand_spot t k n (prefix (unary front.Deref) a) go q s = refl
operand_spot t k n (prefix (unary front.Plus) a) go q s = refl
operand_spot t k n (prefix (unary front.Minus) a) go q s = refl
operand_spot t k n (prefix (unary front.Flip) a) go q s = refl
operand_spot t k n (prefix (unary front.Not) a) go q s = refl
operand_spot t k n (prefix (before u) a) go q s = refl
operand_spot t k n (prefix size_of a) go q s = refl
operand_spot t k n (size_of_type y) go q s = refl
operand_spot t k n (cast y a) go q s = refl
operand_spot t k n (suffix a (index b)) go q s = refl
operand_spot t k n (suffix a (field dot x p)) go q s = refl
operand_spot t k n (suffix a (field arrow x p)) go q s = refl
operand_spot t k n (suffix a (behind u)) go q s = refl
operand_spot t k n (two (plain u) a b) go q s = refl
operand_spot t k n (two and a b) go q s = refl
operand_spot t k n (two or a b) go q s = refl
operand_spot t k n (two (assign None) a b) go q s = refl
operand_spot t k n (two (assign (Some u)) a b) go q s = refl
operand_spot t k n (two comma a b) go q s = refl
operand_spot t k n (choose a b c) go q s = refl
operand_spot t k n (probe (simple w x) a) go q s = refl
operand_spot t k n (probe (select x cs) a) go q s = refl

pub second_spot : (f : ExprShape) (v : Value) (go : Taker) (q : Pointer) (s : State) → on_second f v go (Spot q) s ≡ untyped s
second_spot (leaf l) v go q s = refl
second_spot (paren a) v go q s = refl
second_spot (call x args) v go q s = refl
second_spot (prefix (unary front.AddressOf) a) v go q s = refl
second_spot (prefix (unary front.Deref) a) v go q s = refl
second_spot (prefix (unary front.Plus) a) v go q s = refl
second_spot (prefix (unary front.Minus) a) v go q s = refl
second_spot (prefix (unary front.Flip) a) v go q s = refl
second_spot (prefix (unary front.Not) a) v go q s = refl
second_spot (prefix (before u) a) v go q s = refl
second_spot (prefix size_of a) v go q s = refl
second_spot (size_of_type y) v go q s = refl
second_spot (cast y a) v go q s = refl
second_spot (suffix a (index b)) v go q s = refl
second_spot (suffix a (field dot x p)) v go q s = refl
second_spot (suffix a (field arrow x p)) v go q s = refl
second_spot (suffix a (behind u)) v go q s = refl
second_spot (two (plain u) a b) v go q s = refl
second_spot (two and a b) v go q s = refl
second_spot (two or a b) v go q s = refl
second_spot (two (assign None) a b) v go q s = refl
second_spot (two (assign (Some u)) a b) v go q s = refl
second_spot (two comma a b) v go q s = refl
second_spot (choose a b c) v go q s = refl
second_spot (probe (simple w x) a) v go q s = refl
second_spot (probe (select x cs) a) v go q s = refl

pub second_none : (f : ExprShape) (v : Value) (go : Taker) (s : State) → on_second f v go (Val None) s ≡ untyped s
second_none (leaf l) v go s = refl
second_none (paren a) v go s = refl
second_none (call x args) v go s = refl
second_none (prefix (unary front.AddressOf) a) v go s = refl
second_none (prefix (unary front.Deref) a) v go s = refl
second_none (prefix (unary front.Plus) a) v go s = refl
second_none (prefix (unary front.Minus) a) v go s = refl
second_none (prefix (unary front.Flip) a) v go s = refl
second_none (prefix (unary front.Not) a) v go s = refl
second_none (prefix (before u) a) v go s = refl
second_none (prefix size_of a) v go s = refl
second_none (size_of_type y) v go s = refl
second_none (cast y a) v go s = refl
second_none (suffix a (index b)) v go s = refl
second_none (suffix a (field dot x p)) v go s = refl
second_none (suffix a (field arrow x p)) v go s = refl
second_none (suffix a (behind u)) v go s = refl
second_none (two (plain u) a b) v go s = refl
second_none (two and a b) v go s = refl
second_none (two or a b) v go s = refl
second_none (two (assign None) a b) v go s = refl
second_none (two (assign (Some u)) a b) v go s = refl
second_none (two comma a b) v go s = refl
second_none (choose a b c) v go s = refl
second_none (probe (simple w x) a) v go s = refl
second_none (probe (select x cs) a) v go s = refl

pub written_spot : (f : ExprShape) (r : Pointer) (go : Taker) (q : Pointer) (s : State) → on_written f r go (Spot q) s ≡ untyped s
written_spot (leaf l) r go q s = refl
written_spot (paren a) r go q s = refl
written_spot (call x args) r go q s = refl
written_spot (prefix (unary front.AddressOf) a) r go q s = refl
written_spot (prefix (unary front.Deref) a) r go q s = refl
written_spot (prefix (unary front.Plus) a) r go q s = refl
written_spot (prefix (unary front.Minus) a) r go q s = refl
written_spot (prefix (unary front.Flip) a) r go q s = refl
written_spot (prefix (unary front.Not) a) r go q s = refl
written_spot (prefix (before u) a) r go q s = refl
written_spot (prefix size_of a) r go q s = refl
written_spot (size_of_type y) r go q s = refl
written_spot (cast y a) r go q s = refl
written_spot (suffix a (index b)) r go q s = refl
written_spot (suffix a (field dot x p)) r go q s = refl
written_spot (suffix a (field arrow x p)) r go q s = refl
written_spot (suffix a (behind u)) r go q s = refl
written_spot (two (plain u) a b) r go q s = refl
written_spot (two and a b) r go q s = refl
written_spot (two or a b) r go q s = refl
written_spot (two (assign None) a b) r go q s = refl
written_spot (two (assign (Some u)) a b) r go q s = refl
written_spot (two comma a b) r go q s = refl
written_spot (choose a b c) r go q s = refl
written_spot (probe (simple w x) a) r go q s = refl
written_spot (probe (select x cs) a) r go q s = refl

pub written_none : (f : ExprShape) (r : Pointer) (go : Taker) (s : State) → on_written f r go (Val None) s ≡ untyped s
written_none (leaf l) r go s = refl
written_none (paren a) r go s = refl
written_none (call x args) r go s = refl
written_none (prefix (unary front.AddressOf) a) r go s = refl
written_none (prefix (unary front.Deref) a) r go s = refl
written_none (prefix (unary front.Plus) a) r go s = refl
written_none (prefix (unary front.Minus) a) r go s = refl
written_none (prefix (unary front.Flip) a) r go s = refl
written_none (prefix (unary front.Not) a) r go s = refl
written_none (prefix (before u) a) r go s = refl
written_none (prefix size_of a) r go s = refl
written_none (size_of_type y) r go s = refl
written_none (cast y a) r go s = refl
written_none (suffix a (index b)) r go s = refl
written_none (suffix a (field dot x p)) r go s = refl
written_none (suffix a (field arrow x p)) r go s = refl
written_none (suffix a (behind u)) r go s = refl
written_none (two (plain u) a b) r go s = refl
written_none (two and a b) r go s = refl
written_none (two or a b) r go s = refl
written_none (two (assign None) a b) r go s = refl
written_none (two (assign (Some u)) a b) r go s = refl
written_none (two comma a b) r go s = refl
written_none (choose a b c) r go s = refl
written_none (probe (simple w x) a) r go s = refl
written_none (probe (select x cs) a) r go s = refl

pub combined_spot : (f : ExprShape) (r : Pointer) (v : Value) (go : Taker) (q : Pointer) (s : State) → on_combined f r v go (Spot q) s ≡ untyped s
combined_spot (leaf l) r v go q s = refl
combined_spot (paren a) r v go q s = refl
combined_spot (call x args) r v go q s = refl
combined_spot (prefix (unary front.AddressOf) a) r v go q s = refl
combined_spot (prefix (unary front.Deref) a) r v go q s = refl
combined_spot (prefix (unary front.Plus) a) r v go q s = refl
combined_spot (prefix (unary front.Minus) a) r v go q s = refl
combined_spot (prefix (unary front.Flip) a) r v go q s = refl
combined_spot (prefix (unary front.Not) a) r v go q s = refl
combined_spot (prefix (before u) a) r v go q s = refl
combined_spot (prefix size_of a) r v go q s = refl
combined_spot (size_of_type y) r v go q s = refl
combined_spot (cast y a) r v go q s = refl
combined_spot (suffix a (index b)) r v go q s = refl
combined_spot (suffix a (field dot x p)) r v go q s = refl
combined_spot (suffix a (field arrow x p)) r v go q s = refl
combined_spot (suffix a (behind u)) r v go q s = refl
combined_spot (two (plain u) a b) r v go q s = refl
combined_spot (two and a b) r v go q s = refl
combined_spot (two or a b) r v go q s = refl
combined_spot (two (assign None) a b) r v go q s = refl
combined_spot (two (assign (Some u)) a b) r v go q s = refl
combined_spot (two comma a b) r v go q s = refl
combined_spot (choose a b c) r v go q s = refl
combined_spot (probe (simple w x) a) r v go q s = refl
combined_spot (probe (select x cs) a) r v go q s = refl

pub combined_none : (f : ExprShape) (r : Pointer) (v : Value) (go : Taker) (s : State) → on_combined f r v go (Val None) s ≡ untyped s
combined_none (leaf l) r v go s = refl
combined_none (paren a) r v go s = refl
combined_none (call x args) r v go s = refl
combined_none (prefix (unary front.AddressOf) a) r v go s = refl
combined_none (prefix (unary front.Deref) a) r v go s = refl
combined_none (prefix (unary front.Plus) a) r v go s = refl
combined_none (prefix (unary front.Minus) a) r v go s = refl
combined_none (prefix (unary front.Flip) a) r v go s = refl
combined_none (prefix (unary front.Not) a) r v go s = refl
combined_none (prefix (before u) a) r v go s = refl
combined_none (prefix size_of a) r v go s = refl
combined_none (size_of_type y) r v go s = refl
combined_none (cast y a) r v go s = refl
combined_none (suffix a (index b)) r v go s = refl
combined_none (suffix a (field dot x p)) r v go s = refl
combined_none (suffix a (field arrow x p)) r v go s = refl
combined_none (suffix a (behind u)) r v go s = refl
combined_none (two (plain u) a b) r v go s = refl
combined_none (two and a b) r v go s = refl
combined_none (two or a b) r v go s = refl
combined_none (two (assign None) a b) r v go s = refl
combined_none (two (assign (Some u)) a b) r v go s = refl
combined_none (two comma a b) r v go s = refl
combined_none (choose a b c) r v go s = refl
combined_none (probe (simple w x) a) r v go s = refl
combined_none (probe (select x cs) a) r v go s = refl

pub copied_value : (f : ExprShape) (q : Pointer) (go : Taker) (v : Option Value) (s : State) → on_copied f q go (Val v) s ≡ untyped s
copied_value (leaf l) q go v s = refl
copied_value (paren a) q go v s = refl
copied_value (call x args) q go v s = refl
copied_value (prefix u a) q go v s = refl
copied_value (size_of_type y) q go v s = refl
copied_value (cast y a) q go v s = refl
copied_value (suffix a u) q go v s = refl
copied_value (two (plain u) a b) q go v s = refl
copied_value (two and a b) q go v s = refl
copied_value (two or a b) q go v s = refl
copied_value (two (assign None) a b) q go v s = refl
copied_value (two (assign (Some u)) a b) q go v s = refl
copied_value (two comma a b) q go v s = refl
copied_value (choose a b c) q go v s = refl
copied_value (probe u a) q go v s = refl

pub comma_spot : (t : TablesShape) (k : Knot) (f : ExprShape) (go : Taker) (q : Pointer) (s : State) → on_comma t k f go (Spot q) s ≡ untyped s
comma_spot t k (leaf l) go q s = refl
comma_spot t k (paren a) go q s = refl
comma_spot t k (call x args) go q s = refl
comma_spot t k (prefix (unary front.AddressOf) a) go q s = refl
comma_spot t k (prefix (unary front.Deref) a) go q s = refl
comma_spot t k (prefix (unary front.Plus) a) go q s = refl
comma_spot t k (prefix (unary front.Minus) a) go q s = refl
comma_spot t k (prefix (unary front.Flip) a) go q s = refl
comma_spot t k (prefix (unary front.Not) a) go q s = refl
comma_spot t k (prefix (before u) a) go q s = refl
comma_spot t k (prefix size_of a) go q s = refl
comma_spot t k (size_of_type y) go q s = refl
comma_spot t k (cast y a) go q s = refl
comma_spot t k (suffix a (index b)) go q s = refl
comma_spot t k (suffix a (field dot x p)) go q s = refl
comma_spot t k (suffix a (field arrow x p)) go q s = refl
comma_spot t k (suffix a (behind u)) go q s = refl
comma_spot t k (two (plain u) a b) go q s = refl
comma_spot t k (two and a b) go q s = refl
comma_spot t k (two or a b) go q s = refl
comma_spot t k (two (assign None) a b) go q s = refl
comma_spot t k (two (assign (Some u)) a b) go q s = refl
comma_spot t k (two comma a b) go q s = refl
comma_spot t k (choose a b c) go q s = refl
comma_spot t k (probe (simple w x) a) go q s = refl
comma_spot t k (probe (select x cs) a) go q s = refl

pub found_value : (t : TablesShape) (k : Knot) (f : ExprShape) (go : Taker) (v : Option Value) (s : State) → on_found t k f go (Val v) s ≡ untyped s
found_value t k (leaf l) go v s = refl
found_value t k (paren a) go v s = refl
found_value t k (call x args) go v s = refl
found_value t k (prefix (unary front.AddressOf) a) go v s = refl
found_value t k (prefix (unary front.Deref) a) go v s = refl
found_value t k (prefix (unary front.Plus) a) go v s = refl
found_value t k (prefix (unary front.Minus) a) go v s = refl
found_value t k (prefix (unary front.Flip) a) go v s = refl
found_value t k (prefix (unary front.Not) a) go v s = refl
found_value t k (prefix (before u) a) go v s = refl
found_value t k (prefix size_of a) go v s = refl
found_value t k (size_of_type y) go v s = refl
found_value t k (cast y a) go v s = refl
found_value t k (suffix a (index b)) go v s = refl
found_value t k (suffix a (field dot x p)) go v s = refl
found_value t k (suffix a (field arrow x p)) go v s = refl
found_value t k (suffix a (behind u)) go v s = refl
found_value t k (two (plain u) a b) go v s = refl
found_value t k (two and a b) go v s = refl
found_value t k (two or a b) go v s = refl
found_value t k (two (assign None) a b) go v s = refl
found_value t k (two (assign (Some u)) a b) go v s = refl
found_value t k (two comma a b) go v s = refl
found_value t k (choose a b c) go v s = refl
found_value t k (probe (simple w x) a) go v s = refl
found_value t k (probe (select x cs) a) go v s = refl

-- another wait than these needs a value
pub none_waits : (t : TablesShape) (k : Knot) (e : Node) (w : Wait) (go : Taker) (s : State) → takes_none w ≡ false → waiting t k e w go (Val None) s ≡ untyped s
none_waits t k e wait.Operand go s f = yes_no f
none_waits t k e wait.Chosen go s f = yes_no f
none_waits t k e wait.Comma go s f = yes_no f
none_waits t k e wait.Probe go s f = refl
none_waits t k e wait.Place go s f = found_value t k (expr_shape e.form) go None s
none_waits t k e wait.Read go s f = refl
none_waits t k e (wait.Second v) go s f = second_none (expr_shape e.form) v go s
none_waits t k e wait.Truth go s f = refl
none_waits t k e (wait.Into q) go s f = written_none (expr_shape e.form) q go s
none_waits t k e (wait.Combine q x) go s f = combined_none (expr_shape e.form) q x go s
none_waits t k e (wait.Copy q) go s f = copied_value (expr_shape e.form) q go None s
none_waits t k e (wait.Argument kinds others done) go s f = refl

pub probe_is : (w : Wait) → is_probe w ≡ true → w ≡ wait.Probe
probe_is wait.Probe f = refl
probe_is wait.Operand f = no_yes f
probe_is wait.Chosen f = no_yes f
probe_is wait.Comma f = no_yes f
probe_is wait.Place f = no_yes f
probe_is wait.Read f = no_yes f
probe_is (wait.Second v) f = no_yes f
probe_is wait.Truth f = no_yes f
probe_is (wait.Into q) f = no_yes f
probe_is (wait.Combine q x) f = no_yes f
probe_is (wait.Copy q) f = no_yes f
probe_is (wait.Argument kinds others done) f = no_yes f

-- a place that is read
pub read_opens : (t : TablesShape) (k : Knot) (e : Bor Node) (s : State) (fs fs' : List Frame) → standing e.now.note e.now.form ≡ true → fs' ≡ fs ++ record { node = e; wait = wait.Read } ∷ [] → then_do (place t k (node_shape e.now) s) (to_spot (all_do t k fs' answer)) ≡ then_do (value t k (node_shape e.now) s) (to_value (all_do t k fs answer))
read_opens t k e s fs fs' is p =
    let n = note_shape e.now.note in
    let xs = marks used (node_shape e.now) in
    ap (λ go. then_do (place t k (node_shape e.now) s) (to_spot go)) (ap (λ fs. all_do t k fs answer) p ∙ frames_push t k fs (record { node = e; wait = wait.Read }) answer)
    ∙ sym (then_then (place t k (node_shape e.now) s) (fetched t n xs (quiet 0)) (to_value (all_do t k fs answer)))
    ∙ ap (λ r. then_do r (to_value (all_do t k fs answer))) (sym (read_at t k e.now.pos e.now.op e.now.note e.now.form s is))

-- a probe that waits for a value
test_same : (t : TablesShape) (k : Knot) (e : Node) (f : ExprShape) (a : NodeShape) (x : Text) (s : State) (go : Taker) → f ≡ probe (simple test x) a → then_do (value t k a s) (λ v s. waits t k (note_shape e.note) f (node_shape e) wait.Probe go (Val v) s) ≡ then_do (value t k (node e.pos e.op (note_shape e.note) f) s) (to_value go)
test_same t k e f a x s go is = rw is (needed_then (value t k a s) (λ v s. logs (log_test (outcome (is_true v))) (x ∷ []) s (gives v)) (to_value go))

select_same : (t : TablesShape) (k : Knot) (e : Node) (f : ExprShape) (a : NodeShape) (x : Text) (cs : NodeShapes) (s : State) (go : Taker) → f ≡ probe (select x cs) a → then_do (value t k a s) (λ v s. waits t k (note_shape e.note) f (node_shape e) wait.Probe go (Val v) s) ≡ then_do (value t k (node e.pos e.op (note_shape e.note) f) s) (to_value go)
select_same t k e f a x cs s go is = rw is (needed_then (value t k a s) (λ v s. logs (log_test (chosen_among (choosing a) v (select_constants (choosing a) cs))) (x ∷ []) s (gives v)) (to_value go))

pub probe_opens : (t : TablesShape) (k : Knot) (e : Bor Node) (s : State) (fs fs' : List Frame) (a : NodeShape) → fs' ≡ fs ++ record { node = e; wait = wait.Probe } ∷ [] → ((go : Taker) → then_do (value t k a s) (λ v s. waiting t k e.now wait.Probe go (Val v) s) ≡ then_do (value t k (node_shape e.now) s) (to_value go)) → then_do (value t k a s) (to_value (all_do t k fs' answer)) ≡ then_do (value t k (node_shape e.now) s) (to_value (all_do t k fs answer))
probe_opens t k e s fs fs' a p same =
    ap (λ go. then_do (value t k a s) (to_value go)) (ap (λ fs. all_do t k fs answer) p ∙ frames_push t k fs (record { node = e; wait = wait.Probe }) answer) ∙ same (all_do t k fs answer)

pub test_opens : (t : TablesShape) (k : Knot) (e : Bor Node) (s : State) (fs fs' : List Frame) (a : NodeShape) (x : Text) → fs' ≡ fs ++ record { node = e; wait = wait.Probe } ∷ [] → expr_shape e.now.form ≡ probe (simple test x) a → then_do (value t k a s) (to_value (all_do t k fs' answer)) ≡ then_do (value t k (node_shape e.now) s) (to_value (all_do t k fs answer))
test_opens t k e s fs fs' a x p is = probe_opens t k e s fs fs' a p (λ go. test_same t k e.now (expr_shape e.now.form) a x s go is)

pub select_opens : (t : TablesShape) (k : Knot) (e : Bor Node) (s : State) (fs fs' : List Frame) (a : NodeShape) (x : Text) (cs : NodeShapes) → fs' ≡ fs ++ record { node = e; wait = wait.Probe } ∷ [] → expr_shape e.now.form ≡ probe (select x cs) a → then_do (value t k a s) (to_value (all_do t k fs' answer)) ≡ then_do (value t k (node_shape e.now) s) (to_value (all_do t k fs answer))
select_opens t k e s fs fs' a x cs p is = probe_opens t k e s fs fs' a p (λ go. select_same t k e.now (expr_shape e.now.form) a x cs s go is)

-- the truth of a last operand
pub truth_taken : (t : TablesShape) (k : Knot) (e : Node) (w : Wait) (v : Option Value) (p x : Value) (s : State) (go : Taker) → w ≡ wait.Truth → v ≡ Some p → ((s : State) → truth_at p s ≡ gives x s) → go (Val (Some x)) s ≡ waiting t k e w go (Val v) s
truth_taken t k e w v p x s go i j f = rw (i, j) (ap (λ r. then_do r (to_value go)) (sym (f s)))

-- a probe on top is told of what is given
pub give_told : (t : TablesShape) (k : Knot) (fs rest : List Frame) (f : Frame) (v : Option Value) (r : Bool) (s s' : State) → is_probe f.wait ≡ true → fs ≡ rest ++ f ∷ [] → ((go : Taker) → waiting t k f.node.now wait.Probe go (Val v) s ≡ told r s' (λ s. go (Val v) s)) → all_do t k fs answer (Val v) s ≡ told r s' (λ s. all_do t k rest answer (Val v) s)
give_told t k fs rest f v r s s' is p one =
    let go = all_do t k rest answer in
    ap (λ fs. all_do t k fs answer (Val v) s) p ∙ ap (λ go. go (Val v) s) (frames_push t k rest f answer) ∙ ap (λ w. waiting t k f.node.now w go (Val v) s) (probe_is f.wait is) ∙ one go

pub probe_weight : (fs rest : List Frame) (f : Frame) → is_probe f.wait ≡ true → fs ≡ rest ++ f ∷ [] → weights rest ≡ weights fs
probe_weight fs rest f is p = omega (arith, ap weights p ∙ weights_push rest f, ap wait_weight (probe_is f.wait is))

pub probe_pushed : (fs fs' : List Frame) (e : Bor Node) → fs' ≡ fs ++ record { node = e; wait = wait.Probe } ∷ [] → weights fs' ≡ weights fs
probe_pushed fs fs' e p = omega (arith, ap weights p ∙ weights_push fs (record { node = e; wait = wait.Probe }))

pub kept_further : (u v w : World) → Kept u v → Kept v w → Kept u w
kept_further u v w a b = record { program = b.program ∙ a.program; limit = b.limit ∙ a.limit; names = b.names ∙ a.names }
