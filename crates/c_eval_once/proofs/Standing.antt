-- The value of a place is read from it.
use Rattle.std.proofs.Common.{◌≡◌, List, [], ◌∷◌, ◌++◌, ap, ◌∙◌, Option, Some, None, Bool, true, false, refl, sym, arith}
use Rattle.std.proofs.lemmas.Bool.{true≢false}
use Rattle.c_base.specs.declared.place.Pos.{Pos}
use Rattle.std.specs.Borrow.{Bor}
use Rattle.c_syntax.specs.declared.text.Text.{Text}
use Rattle.c_syntax.specs.declared.tree.Node.{Node}
use Rattle.c_syntax.specs.declared.tree.Note.{Note}
use Rattle.c_syntax.specs.declared.tree.Note.TheVariants as note
use Rattle.c_syntax.specs.declared.tree.Expr.{Expr}
use Rattle.c_syntax.specs.declared.tree.Expr.TheVariants as expr
use Rattle.c_syntax.specs.declared.tree.ExprProbe.TheVariants as probes
use Rattle.c_syntax.specs.declared.tree.UnaryOp.TheVariants as front
use Rattle.c_syntax.specs.declared.tree.StepOp.TheVariants as way
use Rattle.c_syntax.specs.Shape.{NoteShape, NodeShape, NodeShapes, test, ExprShape, leaf, paren, call, prefix, unary, before, size_of, size_of_type, cast, suffix, index, field, behind, dot, arrow, two, plain, and, or, assign, comma, choose, probe, simple, select, node, used}
use Rattle.c_store.specs.declared.value.Value.{Value}
use Rattle.c_store.specs.declared.value.Pointer.{Pointer}
use Rattle.c_syntax.specs.View.{note_shape, expr_shape, node_shape}
use Rattle.c_tables.specs.Tables.{TablesShape}
use Rattle.c_meaning.specs.declared.end.Stop.TheVariants as stop
use Rattle.c_meaning.specs.State.{State}
use Rattle.c_meaning.specs.Results.{Stops, then_do, untyped}
use Rattle.c_walk.specs.Tests.{choosing}
use Rattle.c_meaning.specs.Operators.{is_true}
use Rattle.c_meaning.specs.Firsts.{quiet, outcome}
use Rattle.c_meaning.specs.Places.{logs, marks, fetched}
use Rattle.c_meaning.specs.Constants.{select_constants, chosen_among}
use Rattle.c_meaning.specs.Expressions.{gives, log_test}
use Rattle.c_meaning.specs.Knot.{Knot}
use Rattle.c_world.specs.declared.world.World.{World}
use Rattle.c_eval_once.specs.Parts.{truth_at, value, place}
use Rattle.c_eval_once.specs.Forms.{Kept, told, standing}

no_yes : {A : Type 0} → false ≡ true → A
no_yes e = absurd (true≢false (sym e))

-- a place's value is read from it
pub read_at : (t : TablesShape) (k : Knot) (p o' : Pos) (n : Note) (e : Expr) (s : State) → standing n e ≡ true → value t k (node p o' (note_shape n) (expr_shape e)) s ≡ then_do (place t k (node p o' (note_shape n) (expr_shape e)) s) (fetched t (note_shape n) (marks used (node p o' (note_shape n) (expr_shape e))) (quiet 0))
read_at t k p w n (expr.Number x) s is = no_yes is
read_at t k p w n (expr.Char c) s is = no_yes is
read_at t k p w n (expr.Str x) s is = no_yes is
read_at t k p w (note.Typed y (Some v)) (expr.Name x) s is = refl
read_at t k p w (note.Typed y None) (expr.Name x) s is = no_yes is
read_at t k p w (note.Known y v) (expr.Name x) s is = no_yes is
read_at t k p w note.Bare (expr.Name x) s is = no_yes is
read_at t k p w n (expr.Paren' _ q o m a) s is = no_yes is
read_at t k p w n (expr.Index' _ q o m a _ q' o' m' b) s is = refl
read_at t k p w n (expr.Member' _ q o m a x r) s is = refl
read_at t k p w n (expr.Arrow' _ q o m a x r) s is = refl
read_at t k p w n (expr.Call' x _ args) s is = no_yes is
read_at t k p w n (expr.Unary' front.AddressOf _ q o m a) s is = no_yes is
read_at t k p w n (expr.Unary' front.Deref _ q o m a) s is = refl
read_at t k p w n (expr.Unary' front.Plus _ q o m a) s is = no_yes is
read_at t k p w n (expr.Unary' front.Minus _ q o m a) s is = no_yes is
read_at t k p w n (expr.Unary' front.Flip _ q o m a) s is = no_yes is
read_at t k p w n (expr.Unary' front.Not _ q o m a) s is = no_yes is
read_at t k p w n (expr.Step' way.PreInc _ q o m a) s is = no_yes is
read_at t k p w n (expr.Step' way.PreDec _ q o m a) s is = no_yes is
read_at t k p w n (expr.Step' way.PostInc _ q o m a) s is = no_yes is
read_at t k p w n (expr.Step' way.PostDec _ q o m a) s is = no_yes is
read_at t k p w n (expr.SizeOf' _ q o m a) s is = no_yes is
read_at t k p w n (expr.SizeOfType y) s is = no_yes is
read_at t k p w n (expr.Cast' y _ q o m a) s is = no_yes is
read_at t k p w n (expr.Binary' u _ q o m a _ q' o' m' b) s is = no_yes is
read_at t k p w n (expr.And' _ q o m a _ q' o' m' b) s is = no_yes is
read_at t k p w n (expr.Or' _ q o m a _ q' o' m' b) s is = no_yes is
read_at t k p w n (expr.Cond' _ q o m a _ q' o' m' b _ q'' o'' m'' c) s is = no_yes is
read_at t k p w n (expr.Assign' None _ q o m a _ q' o' m' b) s is = no_yes is
read_at t k p w n (expr.Assign' (Some u) _ q o m a _ q' o' m' b) s is = no_yes is
read_at t k p w n (expr.Comma' _ q o m a _ q' o' m' b) s is = no_yes is
read_at t k p w n (expr.Probe' (probes.Block x) _ q o m a) s is = no_yes is
read_at t k p w n (expr.Probe' (probes.Test x) _ q o m a) s is = no_yes is
read_at t k p w n (expr.Probe' (probes.Select' x l cs) _ q o m a) s is = no_yes is
read_at t k p w n (expr.Probe' (probes.Use x) _ q o m a) s is = refl
read_at t k p w n (expr.Probe' (probes.Def x) _ q o m a) s is = refl
