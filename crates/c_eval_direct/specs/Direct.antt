-- Which expressions are done at once.
use Rattle.std.specs.Prelude.{ℕ, ◌+◌, Bool, true, false, if◌then◌else◌}
use Rattle.c_syntax.specs.declared.tree.Note.{Note}
use Rattle.c_syntax.specs.declared.tree.Expr.{Expr}
use Rattle.c_syntax.specs.declared.tree.Expr.TheVariants.{Number, Char, Str, Name, Paren', Index', Unary', Step', SizeOf', SizeOfType, Binary', And', Or', Assign', Probe'}
use Rattle.c_syntax.specs.declared.tree.ExprProbe.{ExprProbe}
use Rattle.c_syntax.specs.declared.tree.ExprProbe.TheVariants as probes
use Rattle.c_syntax.specs.View.{note_shape}
use Rattle.c_walk.specs.Places.{has_structure}
use Rattle.c_eval_once.specs.Forms.{is_variable, is_deref, is_address, is_of_place, is_valued, is_name}

-- a structure, which an assignment copies
abbrev pub is_copied : Note → Bool
is_copied n = has_structure (note_shape n)

-- constants and variables; operators but calls, casts, `?:` and commas; elements and what pointers point to; assignments to these but
-- of structures, and steps over them; and the probes round these
abbrev mutual
  pub is_direct : Note → Expr → Bool
  is_direct n (Number x) = true
  is_direct n (Char c) = true
  is_direct n (Str x) = true
  is_direct n (Name x) = is_name n
  is_direct n (SizeOf' _ p o m a) = true
  is_direct n (SizeOfType y) = true
  is_direct n (Paren' _ p o m a) = is_direct m a
  is_direct n (Binary' u _ p o m a _ p' o' m' b) = if is_direct m a then is_direct m' b else false
  is_direct n (And' _ p o m a _ p' o' m' b) = if is_direct m a then is_direct m' b else false
  is_direct n (Or' _ p o m a _ p' o' m' b) = if is_direct m a then is_direct m' b else false
  is_direct n (Unary' u _ p o m a) = if is_address u then false else if is_valued n then is_direct m a else false
  is_direct n (Index' _ p o m a _ p' o' m' b) = if is_valued n then if is_direct m a then is_direct m' b else false else false
  is_direct n (Assign' u _ p o m a _ p' o' m' b) = if is_copied m then false else if is_direct_place m a then is_direct m' b else false
  is_direct n (Step' u _ p o m a) = is_direct_place m a
  is_direct n (Probe' u _ p o m a) = if is_of_place u then if is_valued n then is_direct_place m a else false else is_direct m a
  is_direct n _ = false

  -- the places among them
  pub is_direct_place : Note → Expr → Bool
  is_direct_place n (Name x) = is_variable n
  is_direct_place n (Index' _ p o m a _ p' o' m' b) = if is_direct m a then is_direct m' b else false
  is_direct_place n (Unary' u _ p o m a) = if is_deref u then is_direct m a else false
  is_direct_place n (Probe' u _ p o m a) = if is_of_place u then is_direct_place m a else false
  is_direct_place n _ = false

-- no probe stands round it
abbrev pub is_bare : Expr → Bool
is_bare (Probe' u _ p o m a) = false
is_bare _ = true

-- the probe of a test or a choice
abbrev pub is_judged : ExprProbe → Bool
is_judged (probes.Test x) = true
is_judged (probes.Select' x n cs) = true
is_judged (probes.Block x) = false
is_judged (probes.Use x) = false
is_judged (probes.Def x) = false

-- how many parts a direct expression has
abbrev pub parts : Expr → ℕ
parts (Paren' _ p o n a) = 1 + parts a
parts (Unary' u _ p o n a) = 1 + parts a
parts (Step' u _ p o n a) = 1 + parts a
parts (Probe' u _ p o n a) = 1 + parts a
parts (Binary' u _ p o n a _ p' o' n' b) = 1 + (parts a + parts b)
parts (And' _ p o n a _ p' o' n' b) = 1 + (parts a + parts b)
parts (Or' _ p o n a _ p' o' n' b) = 1 + (parts a + parts b)
parts (Index' _ p o n a _ p' o' n' b) = 1 + (parts a + parts b)
parts (Assign' u _ p o n a _ p' o' n' b) = 1 + (parts a + parts b)
parts _ = 0
