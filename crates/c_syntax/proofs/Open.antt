-- The shapes of the parts that hold a `Vec` or an `Option`, by the lists that these hold.
use Rattle.std.proofs.Common.{◌≡◌, refl, Bool, Option, Some, None}
use Rattle.std.specs.declared.vec.Vec.{Vec}
use Rattle.std.specs.declared.boxed.Box.{Box}
use Rattle.std.specs.declared.alloc.Global.{Global}
use Rattle.c_base.specs.declared.place.Pos.{Pos}
use Rattle.c_syntax.specs.declared.text.Text.{Text}
use Rattle.c_syntax.specs.declared.tree.Named.{Named}
use Rattle.c_syntax.specs.declared.tree.Node.{Node}
use Rattle.c_syntax.specs.declared.tree.Item.{Item}
use Rattle.c_syntax.specs.declared.tree.Stmt.{Stmt}
use Rattle.c_syntax.specs.declared.tree.Expr.{items_hidden-the_row-Node-1}
use Rattle.c_syntax.specs.declared.tree.Expr.TheVariants.{Call}
use Rattle.c_syntax.specs.declared.tree.ExprProbe.TheVariants.{Select}
use Rattle.c_syntax.specs.declared.tree.TypeName.{TypeName, TypeName', out-TypeName, outs-TypeName', items_shown-the_row-Node-1}
use Rattle.c_syntax.specs.declared.tree.SpecForm.{items_hidden-the_row-Decl-4, items_hidden-the_row-Enumer-5}
use Rattle.c_syntax.specs.declared.tree.SpecForm.TheVariants as spec
use Rattle.c_syntax.specs.declared.tree.Decl.{Decl, Decl', out-Decl, outs-Decl', items_shown-the_row-Spec-6, items_shown-the_row-Declarator-7}
use Rattle.c_syntax.specs.declared.tree.DeclForm.{items_hidden-the_row-DeclForm-Arrays-0-1-0}
use Rattle.c_syntax.specs.declared.tree.DeclForm.TheVariants.{Arrays}
use Rattle.c_syntax.specs.declared.tree.DeclForm.TheBlock.{hidden-the_row-Node-1, hidden-the_row-DeclForm-Arrays-0-1-0, hidden-the_row-Param-3, hidden-the_row-Init-2, hidden-the_row-Decl-4, hidden-the_row-Enumer-5}
use Rattle.c_syntax.specs.declared.tree.Params.{items_hidden-the_row-Param-3}
use Rattle.c_syntax.specs.declared.tree.Params.TheVariants as ps
use Rattle.c_syntax.specs.declared.tree.Param.{Param, Param', out-Param, outs-Param'}
use Rattle.c_syntax.specs.declared.tree.Init.{Init, items_hidden-the_row-Init-2}
use Rattle.c_syntax.specs.declared.tree.Init.TheVariants as init
use Rattle.c_syntax.specs.declared.tree.Enumer.{Enumer}
use Rattle.c_syntax.specs.declared.tree.StmtForm.{items_hidden-the_row-Item-0}
use Rattle.c_syntax.specs.declared.tree.StmtForm.TheBlock.{hidden-the_row-Item-0}
use Rattle.c_syntax.specs.declared.tree.StmtForm.TheVariants as form
use Rattle.c_syntax.specs.declared.tree.Compound.{Compound, Compound', out-Compound, outs-Compound', items_shown-the_row-Item-0}
use Rattle.c_syntax.specs.Shape.{call, select, type_name, struct, enum, decl, more_declarators, no_declarators, arrays, params, listed, switch, braces}
use Rattle.c_syntax.specs.View.{expr_shape, probe_shape, node_shape, node_list, type_shape, type_lengths_list, spec_shape, spec_list, decl_shape, decl_list, decl_form_shape, lengths_list, params_shape, param_shape, param_list, init_shape, init_list, declarator_shape, declarator_list, form_shape, compound_shape, stmt_shape, item_list}
use Rattle.c_syntax.specs.Options.{maybe_members, maybe_rows, if_form}
use Rattle.c_syntax.proofs.Rows.{nodes_are, type_lengths_are, lengths_are, specs_are, enumers_are, decls_are, declarators_are, params_are, inits_are, items_are, maybe_init_is}

-- EXPRESSIONS AND TYPE NAMES

pub call_open : (x : Text) (v : Vec Node Global) → expr_shape (Call x v) ≡ call x (node_list v.items)
call_open x v = rw (nodes_are _ (hidden-the_row-Node-1 v), items_hidden-the_row-Node-1 v)

pub select_open : (x : Text) (v : Vec Node Global) → probe_shape (Select x v) ≡ select x (node_list v.items)
select_open x v = rw (nodes_are _ (hidden-the_row-Node-1 v), items_hidden-the_row-Node-1 v)

pub type_open : (t : TypeName) → type_shape t ≡ type_name (out-TypeName t).pos (spec_list (out-TypeName t).specs.items) (out-TypeName t).stars.items (type_lengths_list (out-TypeName t).lengths.items)
type_open (TypeName' p m specs stars n lengths) =
    rw (outs-TypeName' p m specs stars n lengths, items_shown-the_row-Spec-6 m specs, items_shown-the_row-Node-1 n lengths, specs_are _ specs, type_lengths_are _ lengths)

-- SPECIFIERS AND DECLARATIONS

pub struct_open : (n : Option Named) (m : Option (Vec Decl Global)) → spec_shape (spec.Struct n m) ≡ struct n (maybe_members m)
struct_open n None = refl
struct_open n (Some v) = rw (decls_are _ (hidden-the_row-Decl-4 v), items_hidden-the_row-Decl-4 v)

pub enum_open : (n : Option Named) (m : Option (Vec Enumer Global)) → spec_shape (spec.Enum n m) ≡ enum n (maybe_rows m)
enum_open n None = refl
enum_open n (Some v) = rw (enumers_are _ (hidden-the_row-Enumer-5 v), items_hidden-the_row-Enumer-5 v)

pub decl_open : (d : Decl) → decl_shape d ≡ decl (out-Decl d).pos (spec_list (out-Decl d).specs.items) (declarator_list (out-Decl d).names.items)
decl_open (Decl' p m specs n names) =
    rw (outs-Decl' p m specs n names, items_shown-the_row-Spec-6 m specs, items_shown-the_row-Declarator-7 n names, specs_are _ specs, declarators_are _ names)

pub param_open : (p : Param) → param_shape p ≡ decl (out-Param p).pos (spec_list (out-Param p).specs.items) (more_declarators (declarator_shape (out-Param p).name) no_declarators)
param_open (Param' p m specs stars n f i) =
    rw (outs-Param' p m specs stars n f i, items_shown-the_row-Spec-6 m specs, specs_are _ specs, maybe_init_is i)

pub arrays_open : (v : Vec (Option Node) Global) → decl_form_shape (Arrays v) ≡ arrays (lengths_list v.items)
arrays_open v = rw (lengths_are _ (hidden-the_row-DeclForm-Arrays-0-1-0 v), items_hidden-the_row-DeclForm-Arrays-0-1-0 v)

pub params_open : (v : Vec Param Global) → params_shape (ps.List v) ≡ params (param_list v.items)
params_open v = rw (params_are _ (hidden-the_row-Param-3 v), items_hidden-the_row-Param-3 v)

pub inits_open : (p : Pos) (v : Vec Init Global) (last : Bool) → init_shape (init.List p v last) ≡ listed p (init_list v.items) last
inits_open p v last = rw (inits_are _ (hidden-the_row-Init-2 v), items_hidden-the_row-Init-2 v)

-- STATEMENTS

pub if_open : (n : Node) (s : Box Stmt Global) (other : Option (Box Stmt Global)) → form_shape (form.If n s other) ≡ if_form (node_shape n) (stmt_shape s.value) other
if_open n s None = refl
if_open n s (Some t) = refl

pub switch_open : (n : Node) (v : Vec Item Global) → form_shape (form.Switch n v) ≡ switch (node_shape n) (item_list v.items)
switch_open n v = rw (items_are _ (hidden-the_row-Item-0 v), items_hidden-the_row-Item-0 v)

pub compound_open : (c : Compound) → compound_shape c ≡ braces (out-Compound c).pos (decl_list (out-Compound c).decls.items) (item_list (out-Compound c).items.items)
compound_open (Compound' p ds m items) = rw (outs-Compound' p ds m items, items_shown-the_row-Item-0 m items, items_are _ items)
