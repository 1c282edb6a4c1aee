-- The list of shapes that a row makes is the one that the row's items make.
use Rattle.std.proofs.Common.{◌≡◌, refl}
use mathlib.Core.Former.{Count}
use Rattle.c_syntax.specs.declared.tree.Expr.{Row_of-Node, end_of-Node, more_of-Node, items-the_row-Node}
use Rattle.c_syntax.specs.declared.tree.TypeName.{Row_of-Spec, end_of-Spec, more_of-Spec, items-the_row-Spec}
use Rattle.c_syntax.specs.declared.tree.SpecForm.{Row_of-Decl, end_of-Decl, more_of-Decl, items-the_row-Decl, Row_of-Enumer, end_of-Enumer, more_of-Enumer, items-the_row-Enumer, items_shown-the_row-Decl-4, items_shown-the_row-Enumer-5, Held-SpecForm-Struct-1, SpecForm-Struct-1-None', SpecForm-Struct-1-Some', view-SpecForm-Struct-1, Held-SpecForm-Enum-1, SpecForm-Enum-1-None', SpecForm-Enum-1-Some', view-SpecForm-Enum-1}
use Rattle.c_syntax.specs.declared.tree.Decl.{Row_of-Declarator, end_of-Declarator, more_of-Declarator, items-the_row-Declarator, Held-Declarator-init, Declarator-init-None', Declarator-init-Some', view-Declarator-init}
use Rattle.c_syntax.specs.declared.tree.Enumer.{Enumer', outs-Enumer', Held-DeclForm-Arrays-0-1, DeclForm-Arrays-0-1-None', DeclForm-Arrays-0-1-Some', view-DeclForm-Arrays-0-1}
use Rattle.c_syntax.specs.declared.tree.DeclForm.{Row_of-DeclForm-Arrays-0-1, end_of-DeclForm-Arrays-0-1, more_of-DeclForm-Arrays-0-1, items-the_row-DeclForm-Arrays-0-1}
use Rattle.c_syntax.specs.declared.tree.Params.{Row_of-Param, end_of-Param, more_of-Param, items-the_row-Param}
use Rattle.c_syntax.specs.declared.tree.Init.{Row_of-Init, end_of-Init, more_of-Init, items-the_row-Init}
use Rattle.c_syntax.specs.declared.tree.StmtForm.{Row_of-Item, end_of-Item, more_of-Item, items-the_row-Item}
use Rattle.c_syntax.specs.View.{nodes_shape, node_list, maybe_node_shape, maybe_node, lengths_shape, lengths_list, type_lengths_shape, type_lengths_list, specs_shape, spec_list, members_shape, rows_shape, enumers_shape, enumer_list, decls_shape, decl_list, declarators_shape, declarator_list, param_rows_shape, param_list, maybe_init_shape, maybe_init, inits_shape, init_list, items_shape, item_list}
use Rattle.c_syntax.specs.Options.{maybe_members, maybe_rows}

-- OPTIONS

pub maybe_node_is : (l : Held-DeclForm-Arrays-0-1) → maybe_node_shape l ≡ maybe_node (view-DeclForm-Arrays-0-1 l)
maybe_node_is DeclForm-Arrays-0-1-None' = refl
maybe_node_is (DeclForm-Arrays-0-1-Some' _ _ _ _) = refl

pub maybe_init_is : (i : Held-Declarator-init) → maybe_init_shape i ≡ maybe_init (view-Declarator-init i)
maybe_init_is Declarator-init-None' = refl
maybe_init_is (Declarator-init-Some' _) = refl

-- ROWS

pub nodes_are : (n : Count) (k : Row_of-Node n) → nodes_shape k ≡ node_list (items-the_row-Node n k)
nodes_are _ end_of-Node = refl
nodes_are _ (more_of-Node {n} _ _ _ _ rest) = rw (nodes_are n rest)

pub type_lengths_are : (n : Count) (k : Row_of-Node n) → type_lengths_shape k ≡ type_lengths_list (items-the_row-Node n k)
type_lengths_are _ end_of-Node = refl
type_lengths_are _ (more_of-Node {n} _ _ _ _ rest) = rw (type_lengths_are n rest)

pub lengths_are : (n : Count) (k : Row_of-DeclForm-Arrays-0-1 n) → lengths_shape k ≡ lengths_list (items-the_row-DeclForm-Arrays-0-1 n k)
lengths_are _ end_of-DeclForm-Arrays-0-1 = refl
lengths_are _ (more_of-DeclForm-Arrays-0-1 {n} l rest) = rw (maybe_node_is l, lengths_are n rest)

pub specs_are : (n : Count) (k : Row_of-Spec n) → specs_shape k ≡ spec_list (items-the_row-Spec n k)
specs_are _ end_of-Spec = refl
specs_are _ (more_of-Spec {n} _ _ rest) = rw (specs_are n rest)

pub enumers_are : (n : Count) (k : Row_of-Enumer n) → enumers_shape k ≡ enumer_list (items-the_row-Enumer n k)
enumers_are _ end_of-Enumer = refl
enumers_are _ (more_of-Enumer {n} (Enumer' x v) rest) = rw (outs-Enumer' x v, maybe_node_is v, enumers_are n rest)

pub decls_are : (n : Count) (k : Row_of-Decl n) → decls_shape k ≡ decl_list (items-the_row-Decl n k)
decls_are _ end_of-Decl = refl
decls_are _ (more_of-Decl {n} _ rest) = rw (decls_are n rest)

pub declarators_are : (n : Count) (k : Row_of-Declarator n) → declarators_shape k ≡ declarator_list (items-the_row-Declarator n k)
declarators_are _ end_of-Declarator = refl
declarators_are _ (more_of-Declarator {n} _ _ _ i rest) = rw (maybe_init_is i, declarators_are n rest)

pub params_are : (n : Count) (k : Row_of-Param n) → param_rows_shape k ≡ param_list (items-the_row-Param n k)
params_are _ end_of-Param = refl
params_are _ (more_of-Param {n} _ rest) = rw (params_are n rest)

pub inits_are : (n : Count) (k : Row_of-Init n) → inits_shape k ≡ init_list (items-the_row-Init n k)
inits_are _ end_of-Init = refl
inits_are _ (more_of-Init {n} _ rest) = rw (inits_are n rest)

pub items_are : (n : Count) (k : Row_of-Item n) → items_shape k ≡ item_list (items-the_row-Item n k)
items_are _ end_of-Item = refl
items_are _ (more_of-Item {n} _ _ _ _ _ rest) = rw (items_are n rest)

-- OPTIONAL ROWS

pub members_are : (m : Held-SpecForm-Struct-1) → members_shape m ≡ maybe_members (view-SpecForm-Struct-1 m)
members_are SpecForm-Struct-1-None' = refl
members_are (SpecForm-Struct-1-Some' n k) = rw (items_shown-the_row-Decl-4 n k, decls_are _ k)

pub rows_are : (m : Held-SpecForm-Enum-1) → rows_shape m ≡ maybe_rows (view-SpecForm-Enum-1 m)
rows_are SpecForm-Enum-1-None' = refl
rows_are (SpecForm-Enum-1-Some' n k) = rw (items_shown-the_row-Enumer-5 n k, enumers_are _ k)
