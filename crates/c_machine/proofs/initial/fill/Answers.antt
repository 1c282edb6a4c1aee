use Rattle.std.proofs.Common.{◌≡◌, Some, None, true, false, sym, ap, ◌∙◌}
use Rattle.c_syntax.specs.View.{node_shape, init_shape, init_list}
use Rattle.c_syntax.specs.Shape.{one, listed, one_init}
use Rattle.c_syntax.proofs.Open.{inits_open}
use Rattle.c_tables.specs.declared.tables.Tables as tables
use Rattle.c_tables.specs.Tables.{tables_shape}
use Rattle.c_meaning.specs.Firsts.{quiet}
use Rattle.c_meaning.specs.Layout.{variable_kind}
use Rattle.c_meaning.specs.Declarations.{initialised}
use Rattle.c_meaning.specs.Results.{then_do, present}
use Rattle.c_world.specs.Steps.{filled_object}
use Rattle.c_world.specs.World.{state_of, tables_of}
use Rattle.c_eval_once.specs.Parts.{value}
use Rattle.c_machine.specs.Todo.{init_flow}
use Rattle.c_machine.specs.Forms.{is_array_kind}
use Rattle.c_machine.proofs.Filled.{list_is, array_is, value_is}
use Rattle.c_machine.proofs.initial.fill.Goals as goal

pub returns-then-is_array-clause-done : goal.returns-then-is_array-clause-done
returns-then-is_array-clause-done c = λ k h n j y e g.
    let t = tables_of c.args.world.now in
    let s = state_of c.args.world.now h in
    let v = c.args.variable in
    let x = c.args.name.now in
    let shape : init_shape c.args.init.now ≡ one (node_shape c.in-One.node) = ap init_shape c.in-One.is in
    let is : is_array_kind (Some y) ≡ true = ap is_array_kind (sym e) ∙ ap (λ (t : tables.Tables). is_array_kind (variable_kind (tables_shape t) v)) (sym c.tables.ensures) ∙ sym c.is_array.ensures ∙ c.if-is_array.true in
    c.in_ok-declared-in-One.ensures.done k h n
    ∙ ap (λ i. filled_object t v x i (quiet n) s) shape
    ∙ array_is t k y x v n j (node_shape c.in-One.node) s e g is
    ∙ ap (λ i. initialised t k y x (quiet n) j (one_init i) s) (sym shape)

pub returns-in_ok-declared-in-List-clause-done : goal.returns-in_ok-declared-in-List-clause-done
returns-in_ok-declared-in-List-clause-done c = λ k h n j y e g.
    let t = tables_of c.args.world.now in
    let s = state_of c.args.world.now h in
    let v = c.args.variable in
    let x = c.args.name.now in
    let l = c.in-List in
    let shape : init_shape c.args.init.now ≡ listed l.field-0 (init_list l.field-1.items) l.field-2 = ap init_shape l.is ∙ inits_open l.field-0 l.field-1 l.field-2 in
    c.in_ok-declared-in-List.ensures.done k h n
    ∙ ap (λ i. filled_object t v x i (quiet n) s) shape
    ∙ list_is t k y x v n j l.field-0 (init_list l.field-1.items) l.field-2 s e g
    ∙ ap (λ i. initialised t k y x (quiet n) j (one_init i) s) (sym shape)

pub returns-in-None-clause-done : goal.returns-in-None-clause-done
returns-in-None-clause-done c = λ k h n j y e g. let i : None ≡ Some j = sym c.in-None.is ∙ c.instance.ensures h ∙ g in cc

pub returns-in-Some-clause-done : goal.returns-in-Some-clause-done
returns-in-Some-clause-done c = λ k h n j y e g.
    let t = tables_of c.args.world.now in
    let s = state_of c.args.world.now h in
    let v = c.args.variable in
    let x = c.args.name.now in
    let a = node_shape c.in-One.node in
    let shape : init_shape c.args.init.now ≡ one a = ap init_shape c.in-One.is in
    let is : is_array_kind (Some y) ≡ false = ap is_array_kind (sym e) ∙ ap (λ (t : tables.Tables). is_array_kind (variable_kind (tables_shape t) v)) (sym c.tables.ensures) ∙ sym c.is_array.ensures ∙ c.if-is_array.false in
    let found : Some c.in-Some.instance ≡ Some j = sym c.in-Some.is ∙ c.instance.ensures h ∙ g in
    let same : c.in-Some.instance ≡ j = cc in
    ap (λ j. then_do (value t k a s) (λ w s. then_do (present w s) (init_flow t j v x))) same
    ∙ value_is t k y x v n j a s e is
    ∙ ap (λ i. initialised t k y x (quiet n) j (one_init i) s) (sym shape)
