-- What a place is by its form: where it is used by itself, and where not.
use Rattle.std.proofs.Common.{List, ◌≡◌, refl, sym, Bool, true, false}
use Rattle.std.proofs.lemmas.Bool.{true≢false}
use Rattle.c_syntax.specs.declared.tree.UnaryOp.TheVariants as front
use Rattle.c_syntax.specs.Shape.{NoteShape, number, char, str, name, unary, before, size_of, plain, and, or, assign, comma, NodeShape, node, ExprShape, leaf, paren, call, prefix, size_of_type, cast, suffix, two, choose, probe, index, field, behind}
use Rattle.c_walk.specs.declared.around.Taken.TheVariants.{Written, Changed}
use Rattle.flow_walks.specs.Comes.{Met, Comes, emit, emit_if}
use Rattle.flow_walks.specs.Expressions.{holds_place, form_holds_place, holds_scalar, form_holds_scalar}
use Rattle.flow_calls.specs.Orderly.{is_used, form_is_used, IsOrderly, HasOrder}

pub emit_none : (b : Bool) (a : Met) (k : Comes) (w : List Met) → b ≡ false → k w → emit_if b a k w
emit_none true a k w e p = absurd (true≢false e)
emit_none false a k w e p = p

pub emit_one : (b : Bool) (a : Met) (k : Comes) (w : List Met) → b ≡ true → emit a k w → emit_if b a k w
emit_one true a k w e p = p
emit_one false a k w e p = absurd (true≢false (sym e))

mutual
  -- a scalar's place is a place
  pub scalar_place : (a : NodeShape) → holds_scalar a ≡ true → holds_place a ≡ true
  scalar_place (node p o n f) e = form_scalar_place n f e

  form_scalar_place : (n : NoteShape) (f : ExprShape) → form_holds_scalar n f ≡ true → form_holds_place f ≡ true
  form_scalar_place n (paren a) e = scalar_place a e
  form_scalar_place n (probe u a) e = scalar_place a e
  form_scalar_place n (leaf (name x)) e = refl
  form_scalar_place n (suffix a (index b)) e = refl
  form_scalar_place n (suffix a (field h x q)) e = refl
  form_scalar_place n (prefix (unary front.Deref) a) e = refl
  form_scalar_place n (leaf (number x)) e = absurd (true≢false (sym e))
  form_scalar_place n (leaf (char c)) e = absurd (true≢false (sym e))
  form_scalar_place n (leaf (str x)) e = absurd (true≢false (sym e))
  form_scalar_place n (call x args) e = absurd (true≢false (sym e))
  form_scalar_place n (prefix (unary front.AddressOf) a) e = absurd (true≢false (sym e))
  form_scalar_place n (prefix (unary front.Plus) a) e = absurd (true≢false (sym e))
  form_scalar_place n (prefix (unary front.Minus) a) e = absurd (true≢false (sym e))
  form_scalar_place n (prefix (unary front.Flip) a) e = absurd (true≢false (sym e))
  form_scalar_place n (prefix (unary front.Not) a) e = absurd (true≢false (sym e))
  form_scalar_place n (prefix (before u) a) e = absurd (true≢false (sym e))
  form_scalar_place n (prefix size_of a) e = absurd (true≢false (sym e))
  form_scalar_place n (size_of_type y) e = absurd (true≢false (sym e))
  form_scalar_place n (cast y a) e = absurd (true≢false (sym e))
  form_scalar_place n (suffix a (behind u)) e = absurd (true≢false (sym e))
  form_scalar_place n (two (plain u) a b) e = absurd (true≢false (sym e))
  form_scalar_place n (two and a b) e = absurd (true≢false (sym e))
  form_scalar_place n (two or a b) e = absurd (true≢false (sym e))
  form_scalar_place n (two (assign u) a b) e = absurd (true≢false (sym e))
  form_scalar_place n (two comma a b) e = absurd (true≢false (sym e))
  form_scalar_place n (choose a b d) e = absurd (true≢false (sym e))

mutual
  -- what is written is not used there
  pub place_unused : (a : NodeShape) → IsOrderly a → holds_place a ≡ true → (is_used Written a ≡ false) × (is_used Changed a ≡ false)
  place_unused (node p o n f) h e = form_unused n f h e

  form_unused : (n : NoteShape) (f : ExprShape) → HasOrder f → form_holds_place f ≡ true → (form_is_used Written n f ≡ false) × (form_is_used Changed n f ≡ false)
  form_unused n (paren a) h e = place_unused a h e
  form_unused n (probe u a) h e = absurd h
  form_unused n (two comma a b) h e = absurd (true≢false (sym e))
  form_unused n (leaf l) h e = (refl, refl)
  form_unused n (suffix a u) h e = (refl, refl)
  form_unused n (prefix u a) h e = (refl, refl)
  form_unused n (call x args) h e = (refl, refl)
  form_unused n (size_of_type y) h e = (refl, refl)
  form_unused n (cast y a) h e = (refl, refl)
  form_unused n (two (plain u) a b) h e = (refl, refl)
  form_unused n (two and a b) h e = (refl, refl)
  form_unused n (two or a b) h e = (refl, refl)
  form_unused n (two (assign u) a b) h e = (refl, refl)
  form_unused n (choose a b d) h e = (refl, refl)

-- a use, and behind it what comes where the test holds
pub used_then : (u : Met) (b : Bool) (a : Met) (k : Comes) (w : List Met) → b ≡ true → emit u (emit a k) w → emit u (emit_if b a k) w
used_then u true a k w e p = p
used_then u false a k w e p = absurd (true≢false (sym e))
