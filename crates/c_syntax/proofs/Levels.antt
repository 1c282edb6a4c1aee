-- The heights of what code reads in another form than a shape has.
use Rattle.std.proofs.Common.{◌≡◌, ◌+◌, suc, max, length, List, Option, Some, Bool, refl, arith, ap, ◌∙◌}
use Rattle.std.specs.declared.vec.Vec.{Vec}
use Rattle.std.specs.declared.alloc.Global.{Global}
use Rattle.c_base.specs.declared.place.Pos.{Pos}
use Rattle.c_syntax.specs.declared.text.Text.{Text}
use Rattle.c_syntax.specs.declared.tree.StepOp.{StepOp}
use Rattle.c_syntax.specs.declared.tree.StepOp.TheVariants as way
use Rattle.c_syntax.specs.declared.tree.Star.{Star}
use Rattle.c_syntax.specs.declared.tree.Named.{Named}
use Rattle.c_syntax.specs.declared.tree.Node.{Node}
use Rattle.c_syntax.specs.declared.tree.Decl.{Decl}
use Rattle.c_syntax.specs.declared.tree.Enumer.{Enumer}
use Rattle.c_syntax.specs.declared.tree.Param.{Param}
use Rattle.c_syntax.specs.declared.tree.Expr.{Expr}
use Rattle.c_syntax.specs.declared.tree.Expr.TheVariants.{Call}
use Rattle.c_syntax.specs.declared.tree.ExprProbe.{ExprProbe}
use Rattle.c_syntax.specs.declared.tree.ExprProbe.TheVariants.{Select}
use Rattle.c_syntax.specs.declared.tree.SpecForm.{SpecForm}
use Rattle.c_syntax.specs.declared.tree.SpecForm.TheVariants as spec
use Rattle.c_syntax.specs.declared.tree.DeclForm.{DeclForm}
use Rattle.c_syntax.specs.declared.tree.DeclForm.TheVariants.{Arrays}
use Rattle.c_syntax.specs.declared.tree.Params.{Params}
use Rattle.c_syntax.specs.declared.tree.Params.TheVariants as ps
use Rattle.c_syntax.specs.declared.tree.Init.{Init}
use Rattle.c_syntax.specs.declared.tree.Init.TheVariants as init
use Rattle.c_syntax.specs.declared.tree.Item.{Item}
use Rattle.c_syntax.specs.declared.tree.StmtForm.{StmtForm}
use Rattle.c_syntax.specs.declared.tree.StmtForm.TheVariants as form
use Rattle.c_syntax.specs.Shape.{NodeShape}
use Rattle.c_syntax.specs.View.{expr_shape, probe_shape, node_list, spec_shape, decl_list, enumer_list, decl_form_shape, lengths_list, params_shape, param_list, init_shape, init_list, step_shape, node_shape, form_shape, item_list}
use Rattle.c_syntax.specs.Levels.{height, expr_height, cases_height, nodes_height, spec_height, decls_height, enumers_height, behind_height, lengths_height, params_height, init_height, inits_height, form_height, items_height}
use Rattle.c_syntax.proofs.Open.{call_open, select_open, struct_open, enum_open, arrays_open, params_open, inits_open, switch_open}

pub step_height : (o : StepOp) (a : NodeShape) → expr_height (step_shape o a) ≡ suc (height a)
step_height way.PreInc a = refl
step_height way.PreDec a = refl
step_height way.PostInc a = omega arith
step_height way.PostDec a = omega arith

pub call_levels : (e : Expr) (x : Text) (v : Vec Node Global) → e ≡ Call x v → expr_height (expr_shape e) ≡ suc (nodes_height (node_list v.items))
call_levels e x v is = ap expr_height (ap expr_shape is ∙ call_open x v)

pub select_levels : (p : ExprProbe) (x : Text) (v : Vec Node Global) → p ≡ Select x v → cases_height (probe_shape p) ≡ nodes_height (node_list v.items)
select_levels p x v is = ap cases_height (ap probe_shape is ∙ select_open x v)

pub struct_levels : (f : SpecForm) (n : Option Named) (m : Option (Vec Decl Global)) (v : Vec Decl Global) → f ≡ spec.Struct n m → m ≡ Some v → spec_height (spec_shape f) ≡ suc (decls_height (decl_list v.items))
struct_levels f n m v is some = ap spec_height (ap spec_shape (is ∙ ap (spec.Struct n) some) ∙ struct_open n (Some v))

pub enum_levels : (f : SpecForm) (n : Option Named) (m : Option (Vec Enumer Global)) (v : Vec Enumer Global) → f ≡ spec.Enum n m → m ≡ Some v → spec_height (spec_shape f) ≡ enumers_height (enumer_list v.items)
enum_levels f n m v is some = ap spec_height (ap spec_shape (is ∙ ap (spec.Enum n) some) ∙ enum_open n (Some v))

pub arrays_levels : (stars : List Star) (f : DeclForm) (v : Vec (Option Node) Global) → f ≡ Arrays v → behind_height stars (decl_form_shape f) ≡ length stars + lengths_height (lengths_list v.items)
arrays_levels stars f v is = ap (behind_height stars) (ap decl_form_shape is ∙ arrays_open v)

pub params_levels : (p : Params) (v : Vec Param Global) → p ≡ ps.List v → params_height (params_shape p) ≡ decls_height (param_list v.items)
params_levels p v is = ap params_height (ap params_shape is ∙ params_open v)

pub inits_levels : (i : Init) (p : Pos) (v : Vec Init Global) (last : Bool) → i ≡ init.List p v last → init_height (init_shape i) ≡ suc (inits_height (init_list v.items))
inits_levels i p v last is = ap init_height (ap init_shape is ∙ inits_open p v last)

pub switch_levels : (f : StmtForm) (n : Node) (v : Vec Item Global) → f ≡ form.Switch n v → form_height (form_shape f) ≡ max (height (node_shape n)) (items_height (item_list v.items))
switch_levels f n v is = ap form_height (ap form_shape is ∙ switch_open n v)
