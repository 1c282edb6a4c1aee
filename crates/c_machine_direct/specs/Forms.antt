-- Which statements are done at once, and which loops at each turn.
use Rattle.std.specs.Prelude.{List, [], ◌∷◌, Bool, true, false, Option, Some, None, if◌then◌else◌}
use Rattle.c_syntax.specs.declared.tree.Node.{Node}
use Rattle.c_syntax.specs.declared.tree.Decl.{Decl}
use Rattle.c_syntax.specs.declared.tree.Item.{Item}
use Rattle.c_syntax.specs.declared.tree.StmtForm.{StmtForm, Held-StmtForm-If-2, None', Some', Row_of-Item, end_of-Item, more_of-Item}
use Rattle.c_syntax.specs.declared.tree.StmtForm.TheVariants as form
use Rattle.c_syntax.specs.declared.tree.Compound.{Compound, Compound'}
use Rattle.c_eval_direct.specs.Direct.{is_direct}

-- no expression, or a direct one
abbrev pub is_direct_maybe : Option Node → Bool
is_direct_maybe None = true
is_direct_maybe (Some e) = is_direct e.note e.form

abbrev pub has_none : List Decl → Bool
has_none [] = true
has_none (d ∷ rest) = false

-- no loop, no `switch` and no declaration, and expressions that are direct
abbrev mutual
  pub is_direct_form : StmtForm → Bool
  is_direct_form (form.Compound c) = is_direct_compound c
  is_direct_form (form.Plain e) = is_direct_maybe e
  is_direct_form (form.If' e _ p marks q s other) = if is_direct e.note e.form then if is_direct_form s then is_direct_other other else false else false
  is_direct_form (form.While' e _ p marks q s) = false
  is_direct_form (form.Do' _ p marks q s e) = false
  is_direct_form (form.For' a b c _ p marks q s) = false
  is_direct_form (form.Switch' e _ items) = false
  is_direct_form form.Break = true
  is_direct_form form.Continue = true
  is_direct_form (form.Return e) = is_direct_maybe e

  pub is_direct_other : Held-StmtForm-If-2 → Bool
  is_direct_other None' = true
  is_direct_other (Some' _ p marks q s) = is_direct_form s

  pub is_direct_compound : Compound → Bool
  is_direct_compound (Compound' p decls _ items) = if has_none decls.items then are_direct_rows items else false

  pub are_direct_rows : {m : _} → Row_of-Item m → Bool
  are_direct_rows end_of-Item = true
  are_direct_rows (more_of-Item labels p marks q s rest) = if is_direct_form s then are_direct_rows rest else false

abbrev pub are_direct : List Item → Bool
are_direct [] = true
are_direct (i ∷ rest) = if is_direct_form i.stmt.form then are_direct rest else false

-- a loop whose test and step are direct, and whose body is done at once
abbrev pub is_direct_loop : StmtForm → Bool
is_direct_loop (form.While' e _ p marks q s) = if is_direct e.note e.form then is_direct_form s else false
is_direct_loop (form.Do' _ p marks q s e) = if is_direct e.note e.form then is_direct_form s else false
is_direct_loop (form.For' a b c _ p marks q s) = if is_direct_maybe b then if is_direct_maybe c then is_direct_form s else false else false
is_direct_loop f = false
