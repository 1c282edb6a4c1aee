use Rattle.std.proofs.Common.{◌≡◌, suc, ◌+◌, [], Some, sym, ap, subst, ◌∙◌, arith, add-one}
use Rattle.c_syntax.specs.Shape.{declarator, arrays}
use Rattle.c_syntax.specs.View.{decl_form_shape, lengths_list, maybe_init}
use Rattle.c_syntax.proofs.Open.{arrays_open}
use Rattle.c_tree.specs.declared.program.Program.{Program}
use Rattle.c_tables.specs.Tables.{tables_shape}
use Rattle.c_meaning.specs.State.{instance_of}
use Rattle.c_meaning.specs.Layout.{variable_kind}
use Rattle.c_meaning.specs.Firsts.{quiet}
use Rattle.c_meaning.specs.Counts.{variables_of}
use Rattle.c_meaning.specs.Declarations.{initialised, declared_name}
use Rattle.c_world.specs.Steps.{declared}
use Rattle.c_world.specs.World.{state_of, tables_of, answered}
use Rattle.c_machine.specs.Todo.{declared_as}
use Rattle.c_machine.proofs.Turns.{declared_turns}
use Rattle.c_machine.proofs.Filled.{Outcome, declared_outcome}
use Rattle.c_machine.proofs.initial.declare_one.Goals as goal

pub returns-in-Some-clause-turns : goal.returns-in-Some-clause-turns
returns-in-Some-clause-turns c = declared_turns (tables_of c.args.world.now) c.args.variable (state_of c.args.world.now []) (state_of c.declare.new.self []) c.in_ok-why-in-Arrays.field-0 (c.in_ok-why-in-Arrays.ensures.done [])

pub returns-in_ok-declared-in-None-clause-turns : goal.returns-in_ok-declared-in-None-clause-turns
returns-in_ok-declared-in-None-clause-turns c = omega (arith, declared_turns (tables_of c.args.world.now) c.args.variable (state_of c.args.world.now []) (state_of c.declare.new.self []) c.in_ok-why-in-Arrays.field-0 (c.in_ok-why-in-Arrays.ensures.done []), c.in_ok-declared-in-None.ensures.kept.turns)

pub returns-in_ok-declared-in-None-clause-done : goal.returns-in_ok-declared-in-None-clause-done
returns-in_ok-declared-in-None-clause-done c = λ k h n e.
    let w = c.args.world.now in
    let d = c.args.declarator.now in
    let v = c.args.variable in
    let s = state_of w h in
    let s' = state_of c.declare.new.self h in
    let ls = lengths_list c.in-Arrays.field-0.items in
    let init = maybe_init d.init in
    let shape : decl_form_shape d.form ≡ arrays ls = ap decl_form_shape c.in-Arrays.is ∙ arrays_open c.in-Arrays.field-0 in
    let next : v ≡ suc n = e ∙ ap (λ f. n + variables_of (declarator d.stars.items d.name f init)) shape ∙ add-one n in
    let is = c.in_ok-why-in-Arrays.ensures.done h in
    let out = declared_outcome (tables_of w) k d.stars.items d.name ls init n s s' c.in_ok-why-in-Arrays.field-0 c.requires (subst (λ v. declared (tables_of w) v s ≡ answered c.in_ok-why-in-Arrays.field-0 s') next is) in
    let made = subst (λ o. Outcome (tables_of w) k d.name init n (variable_kind (tables_of w) (suc n)) (answered o s') (declared_name (tables_of w) k (declarator d.stars.items d.name (arrays ls) init) (quiet n) s)) c.in-None.is out in
    let rest = subst (λ (p : Program). variable_kind (tables_shape p.tables) v ≡ Some made.0 → instance_of v s' ≡ Some made.1 → declared_as (tables_shape p.tables) k c.in_ok-declared-in-None.declared (state_of c.initialise.new.world h) ≡ initialised (tables_shape p.tables) k made.0 d.name (quiet (n + 1)) made.1 init s')
    c.declare.ensures.same.program (c.in_ok-declared-in-None.ensures.done k h (n + 1) made.1 made.0) in
    rest (ap (variable_kind (tables_of w)) next ∙ made.2) (ap (λ v. instance_of v s') next ∙ made.3)
    ∙ made.4
    ∙ ap (λ f. declared_name (tables_of w) k (declarator d.stars.items d.name f init) (quiet n) s) (sym shape)
