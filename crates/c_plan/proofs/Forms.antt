-- The extents of the parts of a form.
use Rattle.std.proofs.Common.{◌≡◌, ℕ, ◌+◌, ◌≤◌, List, ◌++◌, Option, Some, None, sym, ap, subst, ◌∙◌, arith, length, take, drop, get_or, ◌-◌, Box, Vec, Global}
use Rattle.c_syntax.specs.declared.tree.Node.{Node}
use Rattle.c_syntax.specs.declared.tree.Item.{Item}
use Rattle.c_syntax.specs.declared.tree.Stmt.{Stmt}
use Rattle.c_syntax.specs.declared.tree.StmtForm.{StmtForm}
use Rattle.c_syntax.specs.declared.tree.StmtForm.TheVariants as form
use Rattle.c_syntax.specs.declared.tree.Compound.{Compound, out-Compound}
use Rattle.c_syntax.specs.Shape.{switch}
use Rattle.c_syntax.specs.View.{stmt_shape, form_shape, item_list, decl_list, compound_shape, node_shape}
use Rattle.c_syntax.specs.Options.{if_form}
use Rattle.c_syntax.proofs.Open.{if_open, switch_open, compound_open}
use Rattle.c_meaning.specs.Counts.{stmt_variables, form_variables, items_variables, compound_variables, variables_among}
use Rattle.c_plan.specs.declared.extent.Extent.{Extent}
use Rattle.c_plan.specs.Extents.{stmt_extents, form_extents, compound_extents, items_extents, Begins}
use Rattle.c_plan.specs.Names.{names_of}
use Rattle.c_plan.proofs.Fronts.{begins_left, begins_after, own_extent}
use Rattle.c_plan.proofs.Named.{variables_named}

-- the statement of an `if`
if_left : (n : Node) (s : Box Stmt Global) (other : Option (Box Stmt Global)) (ys : List Extent) → Begins (form_extents (if_form (node_shape n) (stmt_shape s.value) other)) ys → Begins (stmt_extents (stmt_shape s.value)) ys
if_left n s None ys h = h
if_left n s (Some t) ys h = begins_left (stmt_extents (stmt_shape s.value)) (stmt_extents (stmt_shape t.value)) ys h

pub if_first : (f : StmtForm) (n : Node) (s : Box Stmt Global) (other : Option (Box Stmt Global)) (a : Stmt) (ys : List Extent) → f ≡ form.If n s other → a ≡ s.value → Begins (form_extents (form_shape f)) ys → Begins (stmt_extents (stmt_shape a)) ys
if_first f n s other a ys is e h =
    subst (λ a. Begins (stmt_extents (stmt_shape a)) ys) (sym e) (if_left n s other ys (subst (λ f. Begins (form_extents f) ys) (ap form_shape is ∙ if_open n s other) h))

-- the statements of a `switch`
pub switch_shape : (f : StmtForm) (n : Node) (v : Vec Item Global) → f ≡ form.Switch n v → form_shape f ≡ switch (node_shape n) (item_list v.items)
switch_shape f n v is = ap form_shape is ∙ switch_open n v

pub switch_listed : (f : StmtForm) (n : Node) (v : Vec Item Global) (ys : List Extent) → f ≡ form.Switch n v → Begins (form_extents (form_shape f)) ys → Begins (items_extents (item_list v.items)) ys
switch_listed f n v ys is h = subst (λ f. Begins (form_extents f) ys) (switch_shape f n v is) h

pub switch_fits : (f : StmtForm) (n : Node) (v : Vec Item Global) (m : ℕ) → f ≡ form.Switch n v → m + form_variables (form_shape f) ≤ 4294967295 → m + items_variables (item_list v.items) ≤ 4294967295
switch_fits f n v m is h = subst (λ f. m + form_variables f ≤ 4294967295) (switch_shape f n v is) h

-- a compound statement
pub block_listed : (c : Compound) (ys : List Extent) → Begins (compound_extents (compound_shape c)) ys → Begins (items_extents (item_list (out-Compound c).items.items)) ys
block_listed c ys h = subst (λ c. Begins (compound_extents c) ys) (compound_open c) h

pub block_fits : (c : Compound) (m : ℕ) → m + compound_variables (compound_shape c) ≤ 4294967295 → (m + variables_among (names_of (decl_list (out-Compound c).decls.items))) + items_variables (item_list (out-Compound c).items.items) ≤ 4294967295
block_fits c m h =
    let g = subst (λ c. m + compound_variables c ≤ 4294967295) (compound_open c) h in
    omega (arith, g, variables_named (decl_list (out-Compound c).decls.items))

-- ---- behind a statement

pub behind_listed : (a b : Stmt) (ys : List Extent) (d : Extent) → Begins (stmt_extents (stmt_shape a) ++ stmt_extents (stmt_shape b)) ys → Begins (stmt_extents (stmt_shape b)) (take (length ys - (get_or ys 0 d).statements) (drop (get_or ys 0 d).statements ys))
behind_listed a b ys d h =
    begins_after (stmt_extents (stmt_shape a)) (stmt_extents (stmt_shape b)) ys _ h (ap (λ (x : Extent). x.statements) (own_extent (stmt_shape a) ys (stmt_extents (stmt_shape b)) d h))

pub behind_fits : (a b : Stmt) (ys : List Extent) (d : Extent) (n : ℕ) → Begins (stmt_extents (stmt_shape a) ++ stmt_extents (stmt_shape b)) ys → n + (stmt_variables (stmt_shape a) + stmt_variables (stmt_shape b)) ≤ 4294967295 → (n + (get_or ys 0 d).variables) + stmt_variables (stmt_shape b) ≤ 4294967295
behind_fits a b ys d n h g =
    let v : (get_or ys 0 d).variables ≡ stmt_variables (stmt_shape a) = ap (λ (x : Extent). x.variables) (own_extent (stmt_shape a) ys (stmt_extents (stmt_shape b)) d h) in
    omega arith
