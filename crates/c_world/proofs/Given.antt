-- Parameters are made, and their arguments are written.
use Rattle.std.proofs.lemmas.Bool.{lt-ltb}
use Rattle.std.proofs.Common.{nat_lt, length, ◌<◌, true, ◌≡◌, ℕ, suc, ◌+◌, List, ◌∷◌, Option, sym, ap, ◌∙◌}
use Rattle.std.specs.declared.vec.Vec.{Vec}
use Rattle.std.specs.declared.alloc.Global.{Global}
use Rattle.c_syntax.specs.declared.tree.Node.{Node}
use Rattle.c_syntax.specs.declared.tree.DeclForm.TheVariants.{Arrays}
use Rattle.c_syntax.specs.declared.tree.Params.{Params}
use Rattle.c_syntax.specs.declared.tree.Params.TheVariants as ps
use Rattle.c_syntax.specs.declared.tree.Param.{Param, out-Param}
use Rattle.c_syntax.specs.Shape.{DeclShape, DeclShapes, more_decls, decl, DeclFormShape, arrays, declarator, more_declarators, no_declarators}
use Rattle.c_syntax.specs.View.{spec_list, decl_form_shape, maybe_init, lengths_list, params_shape, param_shape, param_list}
use Rattle.c_syntax.proofs.Open.{param_open, params_open, arrays_open}
use Rattle.c_store.specs.declared.value.Value.{Value}
use Rattle.c_tables.specs.Tables.{TablesShape}
use Rattle.c_meaning.specs.declared.end.Flow.{Flow}
use Rattle.c_meaning.specs.State.{State}
use Rattle.c_meaning.specs.Results.{Got, Gives, then_do, present}
use Rattle.c_meaning.specs.Firsts.{quiet, noted_begun}
use Rattle.c_meaning.specs.Layout.{cells, variable_kind}
use Rattle.c_meaning.specs.Declarations.{make, bind, scalar_written}
use Rattle.c_meaning.specs.Calls.{Routine, given_variable, given, given_params, given_all, activated, entered}
use Rattle.c_meaning.specs.Counts.{decl_variables}
use Rattle.c_meaning.proofs.Steps.{then_then, then_same}
use Rattle.c_world.specs.Steps.{placed, made_variable, given_one}

shape_open : (p : Param) (v : Vec (Option Node) Global) → (out-Param p).name.form ≡ Arrays v → param_shape p ≡ decl (out-Param p).pos (spec_list (out-Param p).specs.items) (more_declarators (declarator (out-Param p).name.stars.items (out-Param p).name.name (arrays (lengths_list v.items)) (maybe_init (out-Param p).name.init)) no_declarators)
shape_open p v e = param_open p ∙ ap (λ x. decl (out-Param p).pos (spec_list (out-Param p).specs.items) (more_declarators (declarator (out-Param p).name.stars.items (out-Param p).name.name x (maybe_init (out-Param p).name.init)) no_declarators)) (ap decl_form_shape e ∙ arrays_open v)

pub given_at : (t : TablesShape) (p : Param) (w : Vec (Option Node) Global) (n m : ℕ) (v : Value) (s : State) (r : Got ℕ) → (out-Param p).name.form ≡ Arrays w → m ≡ suc n → made_variable t m s ≡ r → given_one t (param_shape p) n v s ≡ then_do r (λ j s. scalar_written (out-Param p).name.name (quiet 0) j v s)
given_at t p w n m v s r e next made =
    ap (λ d. given_one t d n v s) (shape_open p w e) ∙
    then_same (present (variable_kind t (suc n)) s) _ _ (λ k s. sym (then_then (make t k s) (λ j s. Gives j (bind (suc n) j s)) (λ j s. scalar_written (out-Param p).name.name (quiet 0) j v s))) ∙
    sym (then_then (present (variable_kind t (suc n)) s) (λ k s. placed (suc n) (cells t k) s) (λ j s. scalar_written (out-Param p).name.name (quiet 0) j v s)) ∙
    ap (λ r. then_do r (λ j s. scalar_written (out-Param p).name.name (quiet 0) j v s)) (ap (λ n. made_variable t n s) (sym next) ∙ made)

pub given_list : (t : TablesShape) (f : Params) (v : Vec Param Global) (xs : List Param) (n : ℕ) (vs : List Value) (s : State) (r : Got Flow) → f ≡ ps.List v → xs ≡ v.items → given t (param_list xs) (quiet n) vs s ≡ r → given_params t (params_shape f) (quiet n) vs s ≡ r
given_list t f v xs n vs s r e same is =
    ap (λ x. given_params t x (quiet n) vs s) (ap params_shape e ∙ params_open v) ∙ ap (λ x. given t (param_list x) (quiet n) vs s) (sym same) ∙ is

pub entered_at : (t t' : TablesShape) (f n : ℕ) (p : DeclFormShape) (R : Routine) (vs : List Value) (s mid : State) (g : Got Flow) → R.params ≡ p → R.first ≡ quiet n → length s.calls < 4000 → mid ≡ activated f s → t' ≡ t → given_all t' p (quiet n) vs mid ≡ g → entered t f R vs s ≡ g
entered_at t t' f n p R vs s mid g e k h m same is =
    let x : nat_lt (length s.calls) 4000 ≡ true = lt-ltb (length s.calls) 4000 h in
    rw x (ap (λ x. given_all t x R.first vs (noted_begun R.first f (activated f s))) e ∙ ap (λ x. given_all t p x vs (noted_begun x f (activated f s))) k ∙ ap (λ x. given_all t p (quiet n) vs x) (sym m) ∙ ap (λ x. given_all x p (quiet n) vs mid) (sym same) ∙ is)
