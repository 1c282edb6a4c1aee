-- The shapes of the parts that code builds from a `Vec` or an `Option`.
use Rattle.std.proofs.Common.{◌≡◌, refl, Option, Some, None, ◌∙◌, ap}
use Rattle.std.specs.declared.vec.Vec.{Vec}
use Rattle.std.specs.declared.alloc.Global.{Global}
use Rattle.c_base.specs.declared.place.Pos.{Pos}
use Rattle.c_syntax.specs.declared.tree.Node.{Node}
use Rattle.c_syntax.specs.declared.tree.Spec.{Spec}
use Rattle.c_syntax.specs.declared.tree.Star.{Star}
use Rattle.c_syntax.specs.declared.tree.Declarator.{Declarator}
use Rattle.c_syntax.specs.declared.tree.Item.{Item}
use Rattle.c_syntax.specs.declared.tree.Expr.{items_hidden-the_row-Node-1}
use Rattle.c_syntax.specs.declared.tree.TypeName.{roll-TypeName, out-roll-TypeName}
use Rattle.c_syntax.specs.declared.tree.SpecForm.{items_hidden-the_row-Decl-4, items_hidden-the_row-Enumer-5, back-SpecForm-Struct-1, back-SpecForm-Enum-1}
use Rattle.c_syntax.specs.declared.tree.Decl.{Decl, roll-Decl, out-roll-Decl}
use Rattle.c_syntax.specs.declared.tree.DeclForm.{items_hidden-the_row-DeclForm-Arrays-0-1-0}
use Rattle.c_syntax.specs.declared.tree.DeclForm.TheBlock.{hidden-the_row-Node-1, hidden-the_row-DeclForm-Arrays-0-1-0, hidden-the_row-Param-3, hidden-the_row-Init-2, hidden-the_row-Decl-4, hidden-the_row-Enumer-5}
use Rattle.c_syntax.specs.declared.tree.Params.{items_hidden-the_row-Param-3}
use Rattle.c_syntax.specs.declared.tree.Param.{Param, roll-Param, out-roll-Param}
use Rattle.c_syntax.specs.declared.tree.Init.{Init, items_hidden-the_row-Init-2}
use Rattle.c_syntax.specs.declared.tree.Enumer.{Enumer}
use Rattle.c_syntax.specs.declared.tree.StmtForm.{items_hidden-the_row-Item-0}
use Rattle.c_syntax.specs.declared.tree.StmtForm.TheBlock.{hidden-the_row-Item-0}
use Rattle.c_syntax.specs.declared.tree.Compound.{roll-Compound, out-roll-Compound}
use Rattle.c_syntax.specs.Shape.{type_name, decl, more_declarators, no_declarators, braces}
use Rattle.c_syntax.specs.View.{nodes_shape, node_list, type_shape, type_lengths_list, members_shape, rows_shape, spec_list, decl_shape, decl_list, lengths_shape, lengths_list, param_shape, param_rows_shape, param_list, inits_shape, init_list, declarator_shape, declarator_list, compound_shape, items_shape, item_list}
use Rattle.c_syntax.specs.Options.{maybe_members, maybe_rows}
use Rattle.c_syntax.proofs.Rows.{nodes_are, lengths_are, enumers_are, decls_are, params_are, inits_are, items_are}
use Rattle.c_syntax.proofs.Open.{type_open, decl_open, param_open, compound_open}

-- IN A VARIANT

pub nodes_made : (v : Vec Node Global) → nodes_shape (hidden-the_row-Node-1 v) ≡ node_list v.items
nodes_made v = nodes_are _ (hidden-the_row-Node-1 v) ∙ ap node_list (items_hidden-the_row-Node-1 v)

pub lengths_made : (v : Vec (Option Node) Global) → lengths_shape (hidden-the_row-DeclForm-Arrays-0-1-0 v) ≡ lengths_list v.items
lengths_made v = lengths_are _ (hidden-the_row-DeclForm-Arrays-0-1-0 v) ∙ ap lengths_list (items_hidden-the_row-DeclForm-Arrays-0-1-0 v)

pub params_made : (v : Vec Param Global) → param_rows_shape (hidden-the_row-Param-3 v) ≡ param_list v.items
params_made v = params_are _ (hidden-the_row-Param-3 v) ∙ ap param_list (items_hidden-the_row-Param-3 v)

pub inits_made : (v : Vec Init Global) → inits_shape (hidden-the_row-Init-2 v) ≡ init_list v.items
inits_made v = inits_are _ (hidden-the_row-Init-2 v) ∙ ap init_list (items_hidden-the_row-Init-2 v)

pub members_made : (m : Option (Vec Decl Global)) → members_shape (back-SpecForm-Struct-1 m) ≡ maybe_members m
members_made None = refl
members_made (Some v) = rw (decls_are _ (hidden-the_row-Decl-4 v), items_hidden-the_row-Decl-4 v)

pub rows_made : (m : Option (Vec Enumer Global)) → rows_shape (back-SpecForm-Enum-1 m) ≡ maybe_rows m
rows_made None = refl
rows_made (Some v) = rw (enumers_are _ (hidden-the_row-Enumer-5 v), items_hidden-the_row-Enumer-5 v)

pub items_made : (v : Vec Item Global) → items_shape (hidden-the_row-Item-0 v) ≡ item_list v.items
items_made v = items_are _ (hidden-the_row-Item-0 v) ∙ ap item_list (items_hidden-the_row-Item-0 v)

-- IN A STRUCT

pub type_made : (p : Pos) (specs : Vec Spec Global) (stars : Vec Star Global) (lengths : Vec Node Global) → type_shape (roll-TypeName record { pos = p; specs = specs; stars = stars; lengths = lengths }) ≡ type_name p (spec_list specs.items) stars.items (type_lengths_list lengths.items)
type_made p specs stars lengths = rw (type_open (roll-TypeName record { pos = p; specs = specs; stars = stars; lengths = lengths }), out-roll-TypeName record { pos = p; specs = specs; stars = stars; lengths = lengths })

pub decl_made : (p : Pos) (specs : Vec Spec Global) (names : Vec Declarator Global) → decl_shape (roll-Decl record { pos = p; specs = specs; names = names }) ≡ decl p (spec_list specs.items) (declarator_list names.items)
decl_made p specs names = rw (decl_open (roll-Decl record { pos = p; specs = specs; names = names }), out-roll-Decl record { pos = p; specs = specs; names = names })

pub param_made : (p : Pos) (specs : Vec Spec Global) (name : Declarator) → param_shape (roll-Param record { pos = p; specs = specs; name = name }) ≡ decl p (spec_list specs.items) (more_declarators (declarator_shape name) no_declarators)
param_made p specs name = rw (param_open (roll-Param record { pos = p; specs = specs; name = name }), out-roll-Param record { pos = p; specs = specs; name = name })

pub compound_made : (p : Pos) (decls : Vec Decl Global) (items : Vec Item Global) → compound_shape (roll-Compound record { pos = p; decls = decls; items = items }) ≡ braces p (decl_list decls.items) (item_list items.items)
compound_made p decls items = rw (compound_open (roll-Compound record { pos = p; decls = decls; items = items }), out-roll-Compound record { pos = p; decls = decls; items = items })
