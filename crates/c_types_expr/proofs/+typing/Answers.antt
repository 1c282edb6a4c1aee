use Rattle.std.proofs.Common.{◌<◌, length, sym, ap, ◌∙◌, arith}
use Rattle.std.proofs.lemmas.List.{length-set}
use Rattle.c_syntax.specs.Shape.{probe}
use Rattle.c_syntax.specs.View.{node_shape, probe_shape}
use Rattle.c_syntax.proofs.Open.{call_open, select_open, struct_open, enum_open}
use Rattle.c_tree.specs.Sorts.{Formed, Outcome}
use Rattle.c_tree.specs.Parts.{TypedNodes, TypedCases, TypedLengths, TypedSpecs, TypedDecls, TypedNames, TypedRows, with_tagged}
use Rattle.c_tree.specs.Typing.{type_form}
use Rattle.c_checker.specs.CheckerView.{state_of}
use Rattle.c_checker_parts.specs.SpelledView.{spelled_of}
use Rattle.c_types_expr.specs.Forms.{access_of, type_probing}
use Rattle.c_types_expr.specs.Parts.{specified}
use Rattle.c_types_expr.proofs.Steps.{access_same, step_weight}
use Rattle.c_types_expr.proofs.Weights.{form_weight, spec_weight, probe_weight}
use Rattle.c_types_expr.proofs.Shapes.{step_typed, probe_typed, select_form, struct_form, enum_form, paren_form, unary_form, step_form, size_of_form, member_form, arrow_form, probe_form, index_form, binary_form, and_form, or_form, assign_form, comma_form, call_form, size_of_type_form, cast_form, cond_form}
use Rattle.c_types_expr.proofs.Rows.{argument_done, arguments_done, nodes_lighter, case_done, cases_done, brackets_done, lengths_done, lengths_lighter, length_done, name_lengths_done, name_lengths_lighter}
use Rattle.c_types_expr.proofs.Listed.{spec_done, specs_done, specs_lighter, line_done, lines_done, lines_lighter, field_done, fields_done, fields_lighter, row_done, rows_done, rows_lighter}
use Rattle.c_types_expr.proofs.+typing.Goals as goal

pub nodes::type_single-returns-in_ok-typing-in-Paren-clause-typing : goal.nodes::type_single-returns-in_ok-typing-in-Paren-clause-typing
nodes::type_single-returns-in_ok-typing-in-Paren-clause-typing t c =
    let e = paren_form c.args.form.now _ _ _ c.in-Paren.is c.in-Paren.a-is c.deref_mut.ensures.value in
    c.in_ok-typing-in-Paren.ensures.typing ∙ ap (λ x. (type_form c.args.pos c.args.op_pos x (state_of c.args.checker.now)).typing) (sym e)

pub nodes::type_single-returns-in_ok-typing-in-Paren-clause-state : goal.nodes::type_single-returns-in_ok-typing-in-Paren-clause-state
nodes::type_single-returns-in_ok-typing-in-Paren-clause-state t c =
    let e = paren_form c.args.form.now _ _ _ c.in-Paren.is c.in-Paren.a-is c.deref_mut.ensures.value in
    c.in_ok-typing-in-Paren.ensures.state ∙ ap (λ x. (type_form c.args.pos c.args.op_pos x (state_of c.args.checker.now)).state) (sym e)

pub nodes::type_single-returns-in_ok-typing-in-Unary-clause-tree : goal.nodes::type_single-returns-in_ok-typing-in-Unary-clause-tree
nodes::type_single-returns-in_ok-typing-in-Unary-clause-tree t c =
    let e = unary_form c.args.form.now _ _ _ _ _ c.in-Unary.is c.in-Unary.op-is c.in-Unary.a-is c.deref_mut-in-Unary.ensures.value in
    c.in_ok-typing-in-Unary.ensures.tree ∙ ap (λ x. (type_form c.args.pos c.args.op_pos x (state_of c.args.checker.now)).form) (sym e)

pub nodes::type_single-returns-in_ok-typing-in-Unary-clause-typing : goal.nodes::type_single-returns-in_ok-typing-in-Unary-clause-typing
nodes::type_single-returns-in_ok-typing-in-Unary-clause-typing t c =
    let e = unary_form c.args.form.now _ _ _ _ _ c.in-Unary.is c.in-Unary.op-is c.in-Unary.a-is c.deref_mut-in-Unary.ensures.value in
    c.in_ok-typing-in-Unary.ensures.typing ∙ ap (λ x. (type_form c.args.pos c.args.op_pos x (state_of c.args.checker.now)).typing) (sym e)

pub nodes::type_single-returns-in_ok-typing-in-Unary-clause-state : goal.nodes::type_single-returns-in_ok-typing-in-Unary-clause-state
nodes::type_single-returns-in_ok-typing-in-Unary-clause-state t c =
    let e = unary_form c.args.form.now _ _ _ _ _ c.in-Unary.is c.in-Unary.op-is c.in-Unary.a-is c.deref_mut-in-Unary.ensures.value in
    c.in_ok-typing-in-Unary.ensures.state ∙ ap (λ x. (type_form c.args.pos c.args.op_pos x (state_of c.args.checker.now)).state) (sym e)

pub nodes::type_single-returns-in_ok-typing-in-Step-clause-tree : goal.nodes::type_single-returns-in_ok-typing-in-Step-clause-tree
nodes::type_single-returns-in_ok-typing-in-Step-clause-tree t c = c.in_ok-typing-in-Step.ensures.tree ∙ ap (λ (r : Formed). r.form) (step_typed c.args.pos c.args.op_pos (state_of c.args.checker.now) c.args.form.now _ _ _ _ _ c.in-Step.is c.in-Step.op-is c.in-Step.a-is c.deref_mut-in-Step.ensures.value)

pub nodes::type_single-returns-in_ok-typing-in-Step-clause-typing : goal.nodes::type_single-returns-in_ok-typing-in-Step-clause-typing
nodes::type_single-returns-in_ok-typing-in-Step-clause-typing t c = c.in_ok-typing-in-Step.ensures.typing ∙ ap (λ (r : Formed). r.typing) (step_typed c.args.pos c.args.op_pos (state_of c.args.checker.now) c.args.form.now _ _ _ _ _ c.in-Step.is c.in-Step.op-is c.in-Step.a-is c.deref_mut-in-Step.ensures.value)

pub nodes::type_single-returns-in_ok-typing-in-Step-clause-state : goal.nodes::type_single-returns-in_ok-typing-in-Step-clause-state
nodes::type_single-returns-in_ok-typing-in-Step-clause-state t c = c.in_ok-typing-in-Step.ensures.state ∙ ap (λ (r : Formed). r.state) (step_typed c.args.pos c.args.op_pos (state_of c.args.checker.now) c.args.form.now _ _ _ _ _ c.in-Step.is c.in-Step.op-is c.in-Step.a-is c.deref_mut-in-Step.ensures.value)

pub nodes::type_single-returns-in_ok-typing-in-SizeOf-clause-typing : goal.nodes::type_single-returns-in_ok-typing-in-SizeOf-clause-typing
nodes::type_single-returns-in_ok-typing-in-SizeOf-clause-typing t c =
    let e = size_of_form c.args.form.now _ _ _ c.in-SizeOf.is c.in-SizeOf.a-is c.deref_mut-in-SizeOf.ensures.value in
    c.in_ok-typing-in-SizeOf.ensures.typing ∙ ap (λ x. (type_form c.args.pos c.args.op_pos x (state_of c.args.checker.now)).typing) (sym e)

pub nodes::type_single-returns-in_ok-typing-in-SizeOf-clause-state : goal.nodes::type_single-returns-in_ok-typing-in-SizeOf-clause-state
nodes::type_single-returns-in_ok-typing-in-SizeOf-clause-state t c =
    let e = size_of_form c.args.form.now _ _ _ c.in-SizeOf.is c.in-SizeOf.a-is c.deref_mut-in-SizeOf.ensures.value in
    c.in_ok-typing-in-SizeOf.ensures.state ∙ ap (λ x. (type_form c.args.pos c.args.op_pos x (state_of c.args.checker.now)).state) (sym e)

pub nodes::type_single-returns-in_ok-typing-in-Member-clause-tree : goal.nodes::type_single-returns-in_ok-typing-in-Member-clause-tree
nodes::type_single-returns-in_ok-typing-in-Member-clause-tree t c =
    let e = member_form c.args.form.now _ _ _ _ _ _ _ c.in-Member.is c.in-Member.a-is c.in-Member.name-is c.in-Member.place-is c.deref_mut-in-Member.ensures.value in
    c.in_ok-typing-in-Member.ensures.tree ∙ ap (λ x. (type_form c.args.pos c.args.op_pos x (state_of c.args.checker.now)).form) (sym e)

pub nodes::type_single-returns-in_ok-typing-in-Member-clause-typing : goal.nodes::type_single-returns-in_ok-typing-in-Member-clause-typing
nodes::type_single-returns-in_ok-typing-in-Member-clause-typing t c =
    let e = member_form c.args.form.now _ _ _ _ _ _ _ c.in-Member.is c.in-Member.a-is c.in-Member.name-is c.in-Member.place-is c.deref_mut-in-Member.ensures.value in
    c.in_ok-typing-in-Member.ensures.typing ∙ ap (λ x. (type_form c.args.pos c.args.op_pos x (state_of c.args.checker.now)).typing) (sym e)

pub nodes::type_single-returns-in_ok-typing-in-Member-clause-state : goal.nodes::type_single-returns-in_ok-typing-in-Member-clause-state
nodes::type_single-returns-in_ok-typing-in-Member-clause-state t c =
    let e = member_form c.args.form.now _ _ _ _ _ _ _ c.in-Member.is c.in-Member.a-is c.in-Member.name-is c.in-Member.place-is c.deref_mut-in-Member.ensures.value in
    c.in_ok-typing-in-Member.ensures.state ∙ ap (λ x. (type_form c.args.pos c.args.op_pos x (state_of c.args.checker.now)).state) (sym e)

pub nodes::type_single-returns-in_ok-typing-in-Arrow-clause-tree : goal.nodes::type_single-returns-in_ok-typing-in-Arrow-clause-tree
nodes::type_single-returns-in_ok-typing-in-Arrow-clause-tree t c =
    let e = arrow_form c.args.form.now _ _ _ _ _ _ _ c.in-Arrow.is c.in-Arrow.a-is c.in-Arrow.name-is c.in-Arrow.place-is c.deref_mut-in-Arrow.ensures.value in
    c.in_ok-typing-in-Arrow.ensures.tree ∙ ap (λ x. (type_form c.args.pos c.args.op_pos x (state_of c.args.checker.now)).form) (sym e)

pub nodes::type_single-returns-in_ok-typing-in-Arrow-clause-typing : goal.nodes::type_single-returns-in_ok-typing-in-Arrow-clause-typing
nodes::type_single-returns-in_ok-typing-in-Arrow-clause-typing t c =
    let e = arrow_form c.args.form.now _ _ _ _ _ _ _ c.in-Arrow.is c.in-Arrow.a-is c.in-Arrow.name-is c.in-Arrow.place-is c.deref_mut-in-Arrow.ensures.value in
    c.in_ok-typing-in-Arrow.ensures.typing ∙ ap (λ x. (type_form c.args.pos c.args.op_pos x (state_of c.args.checker.now)).typing) (sym e)

pub nodes::type_single-returns-in_ok-typing-in-Arrow-clause-state : goal.nodes::type_single-returns-in_ok-typing-in-Arrow-clause-state
nodes::type_single-returns-in_ok-typing-in-Arrow-clause-state t c =
    let e = arrow_form c.args.form.now _ _ _ _ _ _ _ c.in-Arrow.is c.in-Arrow.a-is c.in-Arrow.name-is c.in-Arrow.place-is c.deref_mut-in-Arrow.ensures.value in
    c.in_ok-typing-in-Arrow.ensures.state ∙ ap (λ x. (type_form c.args.pos c.args.op_pos x (state_of c.args.checker.now)).state) (sym e)

pub nodes::type_single-returns-in_ok-typing-in-Probe-clause-tree : goal.nodes::type_single-returns-in_ok-typing-in-Probe-clause-tree
nodes::type_single-returns-in_ok-typing-in-Probe-clause-tree t c = c.in_ok-typing-in-Probe.ensures.tree ∙ ap (λ (r : Formed). r.form) (probe_typed c.args.pos c.args.op_pos (state_of c.args.checker.now) c.args.form.now _ _ _ _ _ c.in-Probe.is c.in-Probe.mark-is c.in-Probe.a-is c.deref_mut-in-Probe.ensures.value)

pub nodes::type_single-returns-in_ok-typing-in-Probe-clause-typing : goal.nodes::type_single-returns-in_ok-typing-in-Probe-clause-typing
nodes::type_single-returns-in_ok-typing-in-Probe-clause-typing t c = c.in_ok-typing-in-Probe.ensures.typing ∙ ap (λ (r : Formed). r.typing) (probe_typed c.args.pos c.args.op_pos (state_of c.args.checker.now) c.args.form.now _ _ _ _ _ c.in-Probe.is c.in-Probe.mark-is c.in-Probe.a-is c.deref_mut-in-Probe.ensures.value)

pub nodes::type_single-returns-in_ok-typing-in-Probe-clause-state : goal.nodes::type_single-returns-in_ok-typing-in-Probe-clause-state
nodes::type_single-returns-in_ok-typing-in-Probe-clause-state t c = c.in_ok-typing-in-Probe.ensures.state ∙ ap (λ (r : Formed). r.state) (probe_typed c.args.pos c.args.op_pos (state_of c.args.checker.now) c.args.form.now _ _ _ _ _ c.in-Probe.is c.in-Probe.mark-is c.in-Probe.a-is c.deref_mut-in-Probe.ensures.value)

pub pairs::type_pair-returns-in_ok-typing-in-Index-clause-tree : goal.pairs::type_pair-returns-in_ok-typing-in-Index-clause-tree
pairs::type_pair-returns-in_ok-typing-in-Index-clause-tree t c =
    let e = index_form c.args.form.now _ _ _ _ _ _ c.in-Index.is c.in-Index.a-is c.in-Index.b-is c.deref_mut.ensures.value c.deref_mut-in-Index.ensures.value in
    c.in_ok-typing-in-Index.ensures.tree ∙ ap (λ x. (type_form c.args.pos c.args.op_pos x (state_of c.args.checker.now)).form) (sym e)

pub pairs::type_pair-returns-in_ok-typing-in-Index-clause-typing : goal.pairs::type_pair-returns-in_ok-typing-in-Index-clause-typing
pairs::type_pair-returns-in_ok-typing-in-Index-clause-typing t c =
    let e = index_form c.args.form.now _ _ _ _ _ _ c.in-Index.is c.in-Index.a-is c.in-Index.b-is c.deref_mut.ensures.value c.deref_mut-in-Index.ensures.value in
    c.in_ok-typing-in-Index.ensures.typing ∙ ap (λ x. (type_form c.args.pos c.args.op_pos x (state_of c.args.checker.now)).typing) (sym e)

pub pairs::type_pair-returns-in_ok-typing-in-Index-clause-state : goal.pairs::type_pair-returns-in_ok-typing-in-Index-clause-state
pairs::type_pair-returns-in_ok-typing-in-Index-clause-state t c =
    let e = index_form c.args.form.now _ _ _ _ _ _ c.in-Index.is c.in-Index.a-is c.in-Index.b-is c.deref_mut.ensures.value c.deref_mut-in-Index.ensures.value in
    c.in_ok-typing-in-Index.ensures.state ∙ ap (λ x. (type_form c.args.pos c.args.op_pos x (state_of c.args.checker.now)).state) (sym e)

pub pairs::type_pair-returns-in_ok-typing-in-Binary-clause-tree : goal.pairs::type_pair-returns-in_ok-typing-in-Binary-clause-tree
pairs::type_pair-returns-in_ok-typing-in-Binary-clause-tree t c =
    let e = binary_form c.args.form.now _ _ _ _ _ _ _ _ c.in-Binary.is c.in-Binary.op-is c.in-Binary.a-is c.in-Binary.b-is c.deref_mut-in-Binary.ensures.value c.deref_mut-in-Binary-2.ensures.value in
    c.in_ok-typing-in-Binary.ensures.tree ∙ ap (λ x. (type_form c.args.pos c.args.op_pos x (state_of c.args.checker.now)).form) (sym e)

pub pairs::type_pair-returns-in_ok-typing-in-Binary-clause-typing : goal.pairs::type_pair-returns-in_ok-typing-in-Binary-clause-typing
pairs::type_pair-returns-in_ok-typing-in-Binary-clause-typing t c =
    let e = binary_form c.args.form.now _ _ _ _ _ _ _ _ c.in-Binary.is c.in-Binary.op-is c.in-Binary.a-is c.in-Binary.b-is c.deref_mut-in-Binary.ensures.value c.deref_mut-in-Binary-2.ensures.value in
    c.in_ok-typing-in-Binary.ensures.typing ∙ ap (λ x. (type_form c.args.pos c.args.op_pos x (state_of c.args.checker.now)).typing) (sym e)

pub pairs::type_pair-returns-in_ok-typing-in-Binary-clause-state : goal.pairs::type_pair-returns-in_ok-typing-in-Binary-clause-state
pairs::type_pair-returns-in_ok-typing-in-Binary-clause-state t c =
    let e = binary_form c.args.form.now _ _ _ _ _ _ _ _ c.in-Binary.is c.in-Binary.op-is c.in-Binary.a-is c.in-Binary.b-is c.deref_mut-in-Binary.ensures.value c.deref_mut-in-Binary-2.ensures.value in
    c.in_ok-typing-in-Binary.ensures.state ∙ ap (λ x. (type_form c.args.pos c.args.op_pos x (state_of c.args.checker.now)).state) (sym e)

pub pairs::type_pair-returns-in_ok-typing-in-And-clause-tree : goal.pairs::type_pair-returns-in_ok-typing-in-And-clause-tree
pairs::type_pair-returns-in_ok-typing-in-And-clause-tree t c =
    let e = and_form c.args.form.now _ _ _ _ _ _ c.in-And.is c.in-And.a-is c.in-And.b-is c.deref_mut-in-And.ensures.value c.deref_mut-in-And-2.ensures.value in
    c.in_ok-typing-in-And.ensures.tree ∙ ap (λ x. (type_form c.args.pos c.args.op_pos x (state_of c.args.checker.now)).form) (sym e)

pub pairs::type_pair-returns-in_ok-typing-in-And-clause-typing : goal.pairs::type_pair-returns-in_ok-typing-in-And-clause-typing
pairs::type_pair-returns-in_ok-typing-in-And-clause-typing t c =
    let e = and_form c.args.form.now _ _ _ _ _ _ c.in-And.is c.in-And.a-is c.in-And.b-is c.deref_mut-in-And.ensures.value c.deref_mut-in-And-2.ensures.value in
    c.in_ok-typing-in-And.ensures.typing ∙ ap (λ x. (type_form c.args.pos c.args.op_pos x (state_of c.args.checker.now)).typing) (sym e)

pub pairs::type_pair-returns-in_ok-typing-in-And-clause-state : goal.pairs::type_pair-returns-in_ok-typing-in-And-clause-state
pairs::type_pair-returns-in_ok-typing-in-And-clause-state t c =
    let e = and_form c.args.form.now _ _ _ _ _ _ c.in-And.is c.in-And.a-is c.in-And.b-is c.deref_mut-in-And.ensures.value c.deref_mut-in-And-2.ensures.value in
    c.in_ok-typing-in-And.ensures.state ∙ ap (λ x. (type_form c.args.pos c.args.op_pos x (state_of c.args.checker.now)).state) (sym e)

pub pairs::type_pair-returns-in_ok-typing-in-Or-clause-tree : goal.pairs::type_pair-returns-in_ok-typing-in-Or-clause-tree
pairs::type_pair-returns-in_ok-typing-in-Or-clause-tree t c =
    let e = or_form c.args.form.now _ _ _ _ _ _ c.in-Or.is c.in-Or.a-is c.in-Or.b-is c.deref_mut-in-Or.ensures.value c.deref_mut-in-Or-2.ensures.value in
    c.in_ok-typing-in-Or.ensures.tree ∙ ap (λ x. (type_form c.args.pos c.args.op_pos x (state_of c.args.checker.now)).form) (sym e)

pub pairs::type_pair-returns-in_ok-typing-in-Or-clause-typing : goal.pairs::type_pair-returns-in_ok-typing-in-Or-clause-typing
pairs::type_pair-returns-in_ok-typing-in-Or-clause-typing t c =
    let e = or_form c.args.form.now _ _ _ _ _ _ c.in-Or.is c.in-Or.a-is c.in-Or.b-is c.deref_mut-in-Or.ensures.value c.deref_mut-in-Or-2.ensures.value in
    c.in_ok-typing-in-Or.ensures.typing ∙ ap (λ x. (type_form c.args.pos c.args.op_pos x (state_of c.args.checker.now)).typing) (sym e)

pub pairs::type_pair-returns-in_ok-typing-in-Or-clause-state : goal.pairs::type_pair-returns-in_ok-typing-in-Or-clause-state
pairs::type_pair-returns-in_ok-typing-in-Or-clause-state t c =
    let e = or_form c.args.form.now _ _ _ _ _ _ c.in-Or.is c.in-Or.a-is c.in-Or.b-is c.deref_mut-in-Or.ensures.value c.deref_mut-in-Or-2.ensures.value in
    c.in_ok-typing-in-Or.ensures.state ∙ ap (λ x. (type_form c.args.pos c.args.op_pos x (state_of c.args.checker.now)).state) (sym e)

pub pairs::type_pair-returns-in_ok-typing-in-Assign-clause-tree : goal.pairs::type_pair-returns-in_ok-typing-in-Assign-clause-tree
pairs::type_pair-returns-in_ok-typing-in-Assign-clause-tree t c =
    let e = assign_form c.args.form.now _ _ _ _ _ _ _ _ c.in-Assign.is c.in-Assign.op-is c.in-Assign.a-is c.in-Assign.b-is c.deref_mut-in-Assign.ensures.value c.deref_mut-in-Assign-2.ensures.value in
    c.in_ok-typing-in-Assign.ensures.tree ∙ ap (λ x. (type_form c.args.pos c.args.op_pos x (state_of c.args.checker.now)).form) (sym e)

pub pairs::type_pair-returns-in_ok-typing-in-Assign-clause-typing : goal.pairs::type_pair-returns-in_ok-typing-in-Assign-clause-typing
pairs::type_pair-returns-in_ok-typing-in-Assign-clause-typing t c =
    let e = assign_form c.args.form.now _ _ _ _ _ _ _ _ c.in-Assign.is c.in-Assign.op-is c.in-Assign.a-is c.in-Assign.b-is c.deref_mut-in-Assign.ensures.value c.deref_mut-in-Assign-2.ensures.value in
    c.in_ok-typing-in-Assign.ensures.typing ∙ ap (λ x. (type_form c.args.pos c.args.op_pos x (state_of c.args.checker.now)).typing) (sym e)

pub pairs::type_pair-returns-in_ok-typing-in-Assign-clause-state : goal.pairs::type_pair-returns-in_ok-typing-in-Assign-clause-state
pairs::type_pair-returns-in_ok-typing-in-Assign-clause-state t c =
    let e = assign_form c.args.form.now _ _ _ _ _ _ _ _ c.in-Assign.is c.in-Assign.op-is c.in-Assign.a-is c.in-Assign.b-is c.deref_mut-in-Assign.ensures.value c.deref_mut-in-Assign-2.ensures.value in
    c.in_ok-typing-in-Assign.ensures.state ∙ ap (λ x. (type_form c.args.pos c.args.op_pos x (state_of c.args.checker.now)).state) (sym e)

pub pairs::type_pair-returns-in_ok-typing-in-Comma-clause-tree : goal.pairs::type_pair-returns-in_ok-typing-in-Comma-clause-tree
pairs::type_pair-returns-in_ok-typing-in-Comma-clause-tree t c =
    let e = comma_form c.args.form.now _ _ _ _ _ _ c.in-Comma.is c.in-Comma.a-is c.in-Comma.b-is c.deref_mut-in-Comma.ensures.value c.deref_mut-in-Comma-2.ensures.value in
    c.in_ok-typing-in-Comma.ensures.tree ∙ ap (λ x. (type_form c.args.pos c.args.op_pos x (state_of c.args.checker.now)).form) (sym e)

pub pairs::type_pair-returns-in_ok-typing-in-Comma-clause-typing : goal.pairs::type_pair-returns-in_ok-typing-in-Comma-clause-typing
pairs::type_pair-returns-in_ok-typing-in-Comma-clause-typing t c =
    let e = comma_form c.args.form.now _ _ _ _ _ _ c.in-Comma.is c.in-Comma.a-is c.in-Comma.b-is c.deref_mut-in-Comma.ensures.value c.deref_mut-in-Comma-2.ensures.value in
    c.in_ok-typing-in-Comma.ensures.typing ∙ ap (λ x. (type_form c.args.pos c.args.op_pos x (state_of c.args.checker.now)).typing) (sym e)

pub pairs::type_pair-returns-in_ok-typing-in-Comma-clause-state : goal.pairs::type_pair-returns-in_ok-typing-in-Comma-clause-state
pairs::type_pair-returns-in_ok-typing-in-Comma-clause-state t c =
    let e = comma_form c.args.form.now _ _ _ _ _ _ c.in-Comma.is c.in-Comma.a-is c.in-Comma.b-is c.deref_mut-in-Comma.ensures.value c.deref_mut-in-Comma-2.ensures.value in
    c.in_ok-typing-in-Comma.ensures.state ∙ ap (λ x. (type_form c.args.pos c.args.op_pos x (state_of c.args.checker.now)).state) (sym e)

pub nodes::type_other-returns-in_ok-typing-in-Call-clause-tree : goal.nodes::type_other-returns-in_ok-typing-in-Call-clause-tree
nodes::type_other-returns-in_ok-typing-in-Call-clause-tree t c =
    let e = call_form c.args.form.now _ _ _ _ c.in-Call.is c.in-Call.name-is c.in-Call.args-is in
    call_open _ _ ∙ c.in_ok-typing-in-Call.ensures.tree ∙ ap (λ x. (type_form c.args.pos c.args.op_pos x (state_of c.args.checker.now)).form) (sym e)

pub nodes::type_other-returns-in_ok-typing-in-Call-clause-typing : goal.nodes::type_other-returns-in_ok-typing-in-Call-clause-typing
nodes::type_other-returns-in_ok-typing-in-Call-clause-typing t c =
    let e = call_form c.args.form.now _ _ _ _ c.in-Call.is c.in-Call.name-is c.in-Call.args-is in
    c.in_ok-typing-in-Call.ensures.typing ∙ ap (λ x. (type_form c.args.pos c.args.op_pos x (state_of c.args.checker.now)).typing) (sym e)

pub nodes::type_other-returns-in_ok-typing-in-Call-clause-state : goal.nodes::type_other-returns-in_ok-typing-in-Call-clause-state
nodes::type_other-returns-in_ok-typing-in-Call-clause-state t c =
    let e = call_form c.args.form.now _ _ _ _ c.in-Call.is c.in-Call.name-is c.in-Call.args-is in
    c.in_ok-typing-in-Call.ensures.state ∙ ap (λ x. (type_form c.args.pos c.args.op_pos x (state_of c.args.checker.now)).state) (sym e)

pub nodes::type_other-returns-in_ok-typing-in-SizeOfType-clause-typing : goal.nodes::type_other-returns-in_ok-typing-in-SizeOfType-clause-typing
nodes::type_other-returns-in_ok-typing-in-SizeOfType-clause-typing t c =
    let e = size_of_type_form c.args.form.now _ _ c.in-SizeOfType.is c.in-SizeOfType.name-is in
    c.in_ok-typing-in-SizeOfType.ensures.typing ∙ ap (λ x. (type_form c.args.pos c.args.op_pos x (state_of c.args.checker.now)).typing) (sym e)

pub nodes::type_other-returns-in_ok-typing-in-SizeOfType-clause-state : goal.nodes::type_other-returns-in_ok-typing-in-SizeOfType-clause-state
nodes::type_other-returns-in_ok-typing-in-SizeOfType-clause-state t c =
    let e = size_of_type_form c.args.form.now _ _ c.in-SizeOfType.is c.in-SizeOfType.name-is in
    c.in_ok-typing-in-SizeOfType.ensures.state ∙ ap (λ x. (type_form c.args.pos c.args.op_pos x (state_of c.args.checker.now)).state) (sym e)

pub nodes::type_other-returns-in_ok-typing-in-Cast-clause-tree : goal.nodes::type_other-returns-in_ok-typing-in-Cast-clause-tree
nodes::type_other-returns-in_ok-typing-in-Cast-clause-tree t c =
    let e = cast_form c.args.form.now _ _ _ _ _ c.in-Cast.is c.in-Cast.name-is c.in-Cast.a-is c.deref_mut.ensures.value in
    c.in_ok-typing-in-Cast.ensures.tree ∙ ap (λ x. (type_form c.args.pos c.args.op_pos x (state_of c.args.checker.now)).form) (sym e)

pub nodes::type_other-returns-in_ok-typing-in-Cast-clause-typing : goal.nodes::type_other-returns-in_ok-typing-in-Cast-clause-typing
nodes::type_other-returns-in_ok-typing-in-Cast-clause-typing t c =
    let e = cast_form c.args.form.now _ _ _ _ _ c.in-Cast.is c.in-Cast.name-is c.in-Cast.a-is c.deref_mut.ensures.value in
    c.in_ok-typing-in-Cast.ensures.typing ∙ ap (λ x. (type_form c.args.pos c.args.op_pos x (state_of c.args.checker.now)).typing) (sym e)

pub nodes::type_other-returns-in_ok-typing-in-Cast-clause-state : goal.nodes::type_other-returns-in_ok-typing-in-Cast-clause-state
nodes::type_other-returns-in_ok-typing-in-Cast-clause-state t c =
    let e = cast_form c.args.form.now _ _ _ _ _ c.in-Cast.is c.in-Cast.name-is c.in-Cast.a-is c.deref_mut.ensures.value in
    c.in_ok-typing-in-Cast.ensures.state ∙ ap (λ x. (type_form c.args.pos c.args.op_pos x (state_of c.args.checker.now)).state) (sym e)

pub nodes::type_other-returns-in_ok-typing-in-Cond-clause-tree : goal.nodes::type_other-returns-in_ok-typing-in-Cond-clause-tree
nodes::type_other-returns-in_ok-typing-in-Cond-clause-tree t c =
    let e = cond_form c.args.form.now _ _ _ _ _ _ _ _ _ c.in-Cond.is c.in-Cond.a-is c.in-Cond.b-is c.in-Cond.c-is c.deref_mut-in-Cond.ensures.value c.deref_mut-in-Cond-2.ensures.value c.deref_mut-in-Cond-3.ensures.value in
    c.in_ok-typing-in-Cond.ensures.tree ∙ ap (λ x. (type_form c.args.pos c.args.op_pos x (state_of c.args.checker.now)).form) (sym e)

pub nodes::type_other-returns-in_ok-typing-in-Cond-clause-typing : goal.nodes::type_other-returns-in_ok-typing-in-Cond-clause-typing
nodes::type_other-returns-in_ok-typing-in-Cond-clause-typing t c =
    let e = cond_form c.args.form.now _ _ _ _ _ _ _ _ _ c.in-Cond.is c.in-Cond.a-is c.in-Cond.b-is c.in-Cond.c-is c.deref_mut-in-Cond.ensures.value c.deref_mut-in-Cond-2.ensures.value c.deref_mut-in-Cond-3.ensures.value in
    c.in_ok-typing-in-Cond.ensures.typing ∙ ap (λ x. (type_form c.args.pos c.args.op_pos x (state_of c.args.checker.now)).typing) (sym e)

pub nodes::type_other-returns-in_ok-typing-in-Cond-clause-state : goal.nodes::type_other-returns-in_ok-typing-in-Cond-clause-state
nodes::type_other-returns-in_ok-typing-in-Cond-clause-state t c =
    let e = cond_form c.args.form.now _ _ _ _ _ _ _ _ _ c.in-Cond.is c.in-Cond.a-is c.in-Cond.b-is c.in-Cond.c-is c.deref_mut-in-Cond.ensures.value c.deref_mut-in-Cond-2.ensures.value c.deref_mut-in-Cond-3.ensures.value in
    c.in_ok-typing-in-Cond.ensures.state ∙ ap (λ x. (type_form c.args.pos c.args.op_pos x (state_of c.args.checker.now)).state) (sym e)

pub nodes::type_probed-returns-in_ok-typing-in-Select-clause-tree : goal.nodes::type_probed-returns-in_ok-typing-in-Select-clause-tree
nodes::type_probed-returns-in_ok-typing-in-Select-clause-tree t c =
    let e = select_form c.args.mark.now _ _ _ _ c.in-Select.is c.in-Select.number-is c.in-Select.cases-is in
    ap (λ x. probe x (node_shape c.type_select.new.a)) (select_open _ _) ∙ c.in_ok-typing-in-Select.ensures.tree ∙ ap (λ x. (type_probing c.args.pos x (node_shape c.args.a.now) (state_of c.args.checker.now)).form) (sym e)

pub nodes::type_probed-returns-in_ok-typing-in-Select-clause-typing : goal.nodes::type_probed-returns-in_ok-typing-in-Select-clause-typing
nodes::type_probed-returns-in_ok-typing-in-Select-clause-typing t c =
    let e = select_form c.args.mark.now _ _ _ _ c.in-Select.is c.in-Select.number-is c.in-Select.cases-is in
    c.in_ok-typing-in-Select.ensures.typing ∙ ap (λ x. (type_probing c.args.pos x (node_shape c.args.a.now) (state_of c.args.checker.now)).typing) (sym e)

pub nodes::type_probed-returns-in_ok-typing-in-Select-clause-state : goal.nodes::type_probed-returns-in_ok-typing-in-Select-clause-state
nodes::type_probed-returns-in_ok-typing-in-Select-clause-state t c =
    let e = select_form c.args.mark.now _ _ _ _ c.in-Select.is c.in-Select.number-is c.in-Select.cases-is in
    c.in_ok-typing-in-Select.ensures.state ∙ ap (λ x. (type_probing c.args.pos x (node_shape c.args.a.now) (state_of c.args.checker.now)).state) (sym e)

pub nodes::type_field_of-returns-clause-typing : goal.nodes::type_field_of-returns-clause-typing
nodes::type_field_of-returns-clause-typing t c = c.in_ok-typing.ensures.typing ∙ ap (λ (r : Outcome). r.typing) (access_same c.args.op_pos c.args.place (access_of c.args.access) c.args.name.now _ _ _ _ c.in_ok-a.ensures.sort c.in_ok-a.ensures.state)

pub nodes::type_field_of-returns-clause-state : goal.nodes::type_field_of-returns-clause-state
nodes::type_field_of-returns-clause-state t c = c.in_ok-typing.ensures.state ∙ ap (λ (r : Outcome). r.state) (access_same c.args.op_pos c.args.place (access_of c.args.access) c.args.name.now _ _ _ _ c.in_ok-a.ensures.sort c.in_ok-a.ensures.state)

pub lists::type_arguments-loop-i-preserved : goal.lists::type_arguments-loop-i-preserved
lists::type_arguments-loop-i-preserved t c =
    let less : c.loop-i.i < length c.loop-i.args.items = omega (arith, c.len-i-end.ensures, c.loop-i.invariant.count, c.loop-i-test.true) in
    let done = c.in_ok-type_argument.ensures in
    record {
      typed = argument_done c.loop-i.args.items _ c.index_mut.result.now c.type_argument.new.a _ _ _ _ _ less c.index_mut.ensures.value done.tree done.given done.state c.loop-i.invariant.typed;
      count = length-set c.loop-i.args.items c.loop-i.i _ ∙ c.loop-i.invariant.count;
      lighter = nodes_lighter c.loop-i.args.items c.loop-i.i _ c.type_argument.new.a less c.loop-i.invariant.lighter;
    }

pub lists::type_arguments-returns-clause-tree : goal.lists::type_arguments-returns-clause-tree
lists::type_arguments-returns-clause-tree t c = ap (λ (r : TypedNodes). r.nodes) (arguments_done c.loop-i.args.items c.loop-i.i _ _ _ (omega (arith, c.len-i-end.ensures, c.loop-i.invariant.count, c.loop-i-test.false)) c.loop-i.invariant.typed)

pub lists::type_arguments-returns-clause-given : goal.lists::type_arguments-returns-clause-given
lists::type_arguments-returns-clause-given t c = ap (λ (r : TypedNodes). r.given) (arguments_done c.loop-i.args.items c.loop-i.i _ _ _ (omega (arith, c.len-i-end.ensures, c.loop-i.invariant.count, c.loop-i-test.false)) c.loop-i.invariant.typed)

pub lists::type_arguments-returns-clause-state : goal.lists::type_arguments-returns-clause-state
lists::type_arguments-returns-clause-state t c = ap (λ (r : TypedNodes). r.state) (arguments_done c.loop-i.args.items c.loop-i.i _ _ _ (omega (arith, c.len-i-end.ensures, c.loop-i.invariant.count, c.loop-i-test.false)) c.loop-i.invariant.typed)

pub lists::type_cases-loop-i-preserved : goal.lists::type_cases-loop-i-preserved
lists::type_cases-loop-i-preserved t c =
    let less : c.loop-i.i < length c.loop-i.cases.items = omega (arith, c.len-i-end.ensures, c.loop-i.invariant.count, c.loop-i-test.true) in
    let done = c.in_ok-type_case.ensures in
    record {
      typed = case_done c.loop-i.cases.items _ c.index_mut.result.now c.type_case.new.a _ _ _ _ _ less c.index_mut.ensures.value done.tree done.values done.state c.loop-i.invariant.typed;
      count = length-set c.loop-i.cases.items c.loop-i.i _ ∙ c.loop-i.invariant.count;
      lighter = nodes_lighter c.loop-i.cases.items c.loop-i.i _ c.type_case.new.a less c.loop-i.invariant.lighter;
    }

pub lists::type_cases-returns-clause-tree : goal.lists::type_cases-returns-clause-tree
lists::type_cases-returns-clause-tree t c = ap (λ (r : TypedCases). r.nodes) (cases_done c.loop-i.cases.items c.loop-i.i _ _ _ (omega (arith, c.len-i-end.ensures, c.loop-i.invariant.count, c.loop-i-test.false)) c.loop-i.invariant.typed)

pub lists::type_cases-returns-clause-values : goal.lists::type_cases-returns-clause-values
lists::type_cases-returns-clause-values t c = ap (λ (r : TypedCases). r.values) (cases_done c.loop-i.cases.items c.loop-i.i _ _ _ (omega (arith, c.len-i-end.ensures, c.loop-i.invariant.count, c.loop-i-test.false)) c.loop-i.invariant.typed)

pub lists::type_cases-returns-clause-state : goal.lists::type_cases-returns-clause-state
lists::type_cases-returns-clause-state t c = ap (λ (r : TypedCases). r.state) (cases_done c.loop-i.cases.items c.loop-i.i _ _ _ (omega (arith, c.len-i-end.ensures, c.loop-i.invariant.count, c.loop-i-test.false)) c.loop-i.invariant.typed)

pub lengths::type_lengths-loop-i-preserved : goal.lengths::type_lengths-loop-i-preserved
lengths::type_lengths-loop-i-preserved t c =
    let less : c.loop-i.i < length c.loop-i.lengths.items = omega (arith, c.len-i-end.ensures, c.loop-i.invariant.count, c.loop-i-test.true) in
    let done = c.in_ok-type_brackets.ensures in
    record {
      typed = brackets_done c.loop-i.lengths.items _ c.index_mut.result.now c.type_brackets.new.length _ _ _ _ _ less c.index_mut.ensures.value done.tree done.counts done.state c.loop-i.invariant.typed;
      count = length-set c.loop-i.lengths.items c.loop-i.i _ ∙ c.loop-i.invariant.count;
      lighter = lengths_lighter c.loop-i.lengths.items c.loop-i.i _ c.type_brackets.new.length less c.loop-i.invariant.lighter;
    }

pub lengths::type_lengths-returns-clause-tree : goal.lengths::type_lengths-returns-clause-tree
lengths::type_lengths-returns-clause-tree t c = ap (λ (r : TypedLengths). r.lengths) (lengths_done c.loop-i.lengths.items c.loop-i.i _ _ _ (omega (arith, c.len-i-end.ensures, c.loop-i.invariant.count, c.loop-i-test.false)) c.loop-i.invariant.typed)

pub lengths::type_lengths-returns-clause-counts : goal.lengths::type_lengths-returns-clause-counts
lengths::type_lengths-returns-clause-counts t c = ap (λ (r : TypedLengths). r.counts) (lengths_done c.loop-i.lengths.items c.loop-i.i _ _ _ (omega (arith, c.len-i-end.ensures, c.loop-i.invariant.count, c.loop-i-test.false)) c.loop-i.invariant.typed)

pub lengths::type_lengths-returns-clause-state : goal.lengths::type_lengths-returns-clause-state
lengths::type_lengths-returns-clause-state t c = ap (λ (r : TypedLengths). r.state) (lengths_done c.loop-i.lengths.items c.loop-i.i _ _ _ (omega (arith, c.len-i-end.ensures, c.loop-i.invariant.count, c.loop-i-test.false)) c.loop-i.invariant.typed)

pub lengths::type_name_lengths-loop-i-preserved : goal.lengths::type_name_lengths-loop-i-preserved
lengths::type_name_lengths-loop-i-preserved t c =
    let less : c.loop-i.i < length c.loop-i.lengths.items = omega (arith, c.len-i-end.ensures, c.loop-i.invariant.count, c.loop-i-test.true) in
    let done = c.in_ok-type_length.ensures in
    record {
      typed = length_done c.loop-i.lengths.items _ c.index_mut.result.now c.type_length.new.a _ _ _ _ _ less c.index_mut.ensures.value done.tree done.counts done.state c.loop-i.invariant.typed;
      count = length-set c.loop-i.lengths.items c.loop-i.i _ ∙ c.loop-i.invariant.count;
      lighter = name_lengths_lighter c.loop-i.lengths.items c.loop-i.i _ c.type_length.new.a less c.loop-i.invariant.lighter;
    }

pub lengths::type_name_lengths-returns-clause-tree : goal.lengths::type_name_lengths-returns-clause-tree
lengths::type_name_lengths-returns-clause-tree t c = ap (λ (r : TypedLengths). r.lengths) (name_lengths_done c.loop-i.lengths.items c.loop-i.i _ _ _ (omega (arith, c.len-i-end.ensures, c.loop-i.invariant.count, c.loop-i-test.false)) c.loop-i.invariant.typed)

pub lengths::type_name_lengths-returns-clause-counts : goal.lengths::type_name_lengths-returns-clause-counts
lengths::type_name_lengths-returns-clause-counts t c = ap (λ (r : TypedLengths). r.counts) (name_lengths_done c.loop-i.lengths.items c.loop-i.i _ _ _ (omega (arith, c.len-i-end.ensures, c.loop-i.invariant.count, c.loop-i-test.false)) c.loop-i.invariant.typed)

pub lengths::type_name_lengths-returns-clause-state : goal.lengths::type_name_lengths-returns-clause-state
lengths::type_name_lengths-returns-clause-state t c = ap (λ (r : TypedLengths). r.state) (name_lengths_done c.loop-i.lengths.items c.loop-i.i _ _ _ (omega (arith, c.len-i-end.ensures, c.loop-i.invariant.count, c.loop-i-test.false)) c.loop-i.invariant.typed)

pub members::type_fields-loop-i-preserved : goal.members::type_fields-loop-i-preserved
members::type_fields-loop-i-preserved t c =
    let less : c.loop-i.i < length c.loop-i.names.items = omega (arith, c.len-i-end.ensures, c.loop-i.invariant.count, c.loop-i-test.true) in
    let done = c.in_ok-type_field.ensures in
    record {
      typed = field_done _ _ c.loop-i.names.items _ c.index_mut.result.now c.type_field.new.name _ _ _ _ _ less c.index_mut.ensures.value done.tree done.fields done.state c.loop-i.invariant.typed;
      count = length-set c.loop-i.names.items c.loop-i.i _ ∙ c.loop-i.invariant.count;
      lighter = fields_lighter c.loop-i.names.items c.loop-i.i _ c.type_field.new.name less c.loop-i.invariant.lighter;
    }

pub members::type_fields-returns-clause-tree : goal.members::type_fields-returns-clause-tree
members::type_fields-returns-clause-tree t c = ap (λ (r : TypedNames). r.names) (fields_done _ _ c.loop-i.names.items c.loop-i.i _ _ _ (omega (arith, c.len-i-end.ensures, c.loop-i.invariant.count, c.loop-i-test.false)) c.loop-i.invariant.typed)

pub members::type_fields-returns-clause-fields : goal.members::type_fields-returns-clause-fields
members::type_fields-returns-clause-fields t c = ap (λ (r : TypedNames). r.fields) (fields_done _ _ c.loop-i.names.items c.loop-i.i _ _ _ (omega (arith, c.len-i-end.ensures, c.loop-i.invariant.count, c.loop-i-test.false)) c.loop-i.invariant.typed)

pub members::type_fields-returns-clause-state : goal.members::type_fields-returns-clause-state
members::type_fields-returns-clause-state t c = ap (λ (r : TypedNames). r.state) (fields_done _ _ c.loop-i.names.items c.loop-i.i _ _ _ (omega (arith, c.len-i-end.ensures, c.loop-i.invariant.count, c.loop-i-test.false)) c.loop-i.invariant.typed)

pub enumerators::rows_types-loop-i-preserved : goal.enumerators::rows_types-loop-i-preserved
enumerators::rows_types-loop-i-preserved t c =
    let less : c.loop-i.i < length c.loop-i.enumers.items = omega (arith, c.len-i-end.ensures, c.loop-i.invariant.count, c.loop-i-test.true) in
    let done = c.in_ok-next.ensures in
    record {
      typed = row_done c.loop-i.enumers.items _ c.index_mut.result.now c.type_row.new.row _ _ _ _ _ less c.index_mut.ensures.value done.name done.tree done.next done.state c.loop-i.invariant.typed;
      count = length-set c.loop-i.enumers.items c.loop-i.i _ ∙ c.loop-i.invariant.count;
      lighter = rows_lighter c.loop-i.enumers.items c.loop-i.i _ c.type_row.new.row less c.loop-i.invariant.lighter;
    }

pub enumerators::rows_types-returns-clause-tree : goal.enumerators::rows_types-returns-clause-tree
enumerators::rows_types-returns-clause-tree t c = ap (λ (r : TypedRows). r.rows) (rows_done c.loop-i.enumers.items c.loop-i.i _ _ _ (omega (arith, c.len-i-end.ensures, c.loop-i.invariant.count, c.loop-i-test.false)) c.loop-i.invariant.typed)

pub enumerators::rows_types-returns-clause-state : goal.enumerators::rows_types-returns-clause-state
enumerators::rows_types-returns-clause-state t c = ap (λ (r : TypedRows). r.state) (rows_done c.loop-i.enumers.items c.loop-i.i _ _ _ (omega (arith, c.len-i-end.ensures, c.loop-i.invariant.count, c.loop-i-test.false)) c.loop-i.invariant.typed)

pub specifiers::type_specs-loop-i-preserved : goal.specifiers::type_specs-loop-i-preserved
specifiers::type_specs-loop-i-preserved t c =
    let less : c.loop-i.i < length c.loop-i.specs.items = omega (arith, c.len-i-end.ensures, c.loop-i.invariant.count, c.loop-i-test.true) in
    let done = c.in_ok-type_spec.ensures in
    record {
      typed = spec_done _ c.loop-i.specs.items _ c.index_mut.result.now c.type_spec.new.spec _ _ _ _ _ less c.index_mut.ensures.value done.pos done.tree done.spelled done.state c.loop-i.invariant.typed;
      count = length-set c.loop-i.specs.items c.loop-i.i _ ∙ c.loop-i.invariant.count;
      lighter = specs_lighter c.loop-i.specs.items c.loop-i.i _ c.type_spec.new.spec less c.loop-i.invariant.lighter;
    }

pub specifiers::type_specs-returns-clause-tree : goal.specifiers::type_specs-returns-clause-tree
specifiers::type_specs-returns-clause-tree t c = ap (λ (r : TypedSpecs). r.specs) (specs_done _ c.loop-i.specs.items c.loop-i.i _ _ _ (omega (arith, c.len-i-end.ensures, c.loop-i.invariant.count, c.loop-i-test.false)) c.loop-i.invariant.typed)

pub specifiers::type_specs-returns-clause-spelled : goal.specifiers::type_specs-returns-clause-spelled
specifiers::type_specs-returns-clause-spelled t c = ap (λ (r : TypedSpecs). r.spelled) (specs_done _ c.loop-i.specs.items c.loop-i.i _ _ _ (omega (arith, c.len-i-end.ensures, c.loop-i.invariant.count, c.loop-i-test.false)) c.loop-i.invariant.typed)

pub specifiers::type_specs-returns-clause-state : goal.specifiers::type_specs-returns-clause-state
specifiers::type_specs-returns-clause-state t c = ap (λ (r : TypedSpecs). r.state) (specs_done _ c.loop-i.specs.items c.loop-i.i _ _ _ (omega (arith, c.len-i-end.ensures, c.loop-i.invariant.count, c.loop-i-test.false)) c.loop-i.invariant.typed)

pub members::type_lines-loop-i-preserved : goal.members::type_lines-loop-i-preserved
members::type_lines-loop-i-preserved t c =
    let less : c.loop-i.i < length c.loop-i.decls.items = omega (arith, c.len-i-end.ensures, c.loop-i.invariant.count, c.loop-i-test.true) in
    let done = c.in_ok-type_line.ensures in
    record {
      typed = line_done c.loop-i.decls.items _ c.index_mut.result.now c.type_line.new.line _ _ _ _ _ less c.index_mut.ensures.value done.tree done.fields done.state c.loop-i.invariant.typed;
      count = length-set c.loop-i.decls.items c.loop-i.i _ ∙ c.loop-i.invariant.count;
      lighter = lines_lighter c.loop-i.decls.items c.loop-i.i _ c.type_line.new.line less c.loop-i.invariant.lighter;
    }

pub members::type_lines-returns-clause-tree : goal.members::type_lines-returns-clause-tree
members::type_lines-returns-clause-tree t c = ap (λ (r : TypedDecls). r.decls) (lines_done c.loop-i.decls.items c.loop-i.i _ _ _ (omega (arith, c.len-i-end.ensures, c.loop-i.invariant.count, c.loop-i-test.false)) c.loop-i.invariant.typed)

pub members::type_lines-returns-clause-fields : goal.members::type_lines-returns-clause-fields
members::type_lines-returns-clause-fields t c = ap (λ (r : TypedDecls). r.fields) (lines_done c.loop-i.decls.items c.loop-i.i _ _ _ (omega (arith, c.len-i-end.ensures, c.loop-i.invariant.count, c.loop-i-test.false)) c.loop-i.invariant.typed)

pub members::type_lines-returns-clause-state : goal.members::type_lines-returns-clause-state
members::type_lines-returns-clause-state t c = ap (λ (r : TypedDecls). r.state) (lines_done c.loop-i.decls.items c.loop-i.i _ _ _ (omega (arith, c.len-i-end.ensures, c.loop-i.invariant.count, c.loop-i-test.false)) c.loop-i.invariant.typed)

pub specifiers::type_spec-returns-in_ok-kind-in-Struct-clause-tree : goal.specifiers::type_spec-returns-in_ok-kind-in-Struct-clause-tree
specifiers::type_spec-returns-in_ok-kind-in-Struct-clause-tree t c =
    let e = struct_form c.args.spec.now.form _ _ _ _ c.in-Struct.is c.in-Struct.tag-is c.in-Struct.decls-is in
    struct_open _ _ ∙ c.in_ok-kind-in-Struct.ensures.tree ∙ ap (λ x. (specified c.args.alone c.args.spec.now.pos x (spelled_of c.args.spelled.now) (state_of c.args.checker.now)).spec) (sym e)

pub specifiers::type_spec-returns-in_ok-kind-in-Struct-clause-spelled : goal.specifiers::type_spec-returns-in_ok-kind-in-Struct-clause-spelled
specifiers::type_spec-returns-in_ok-kind-in-Struct-clause-spelled t c =
    let e = struct_form c.args.spec.now.form _ _ _ _ c.in-Struct.is c.in-Struct.tag-is c.in-Struct.decls-is in
    c.add_tagged.ensures ∙ ap (λ k. with_tagged k (spelled_of c.args.spelled.now)) c.in_ok-kind-in-Struct.ensures.kind ∙ ap (λ x. (specified c.args.alone c.args.spec.now.pos x (spelled_of c.args.spelled.now) (state_of c.args.checker.now)).spelled) (sym e)

pub specifiers::type_spec-returns-in_ok-kind-in-Struct-clause-state : goal.specifiers::type_spec-returns-in_ok-kind-in-Struct-clause-state
specifiers::type_spec-returns-in_ok-kind-in-Struct-clause-state t c =
    let e = struct_form c.args.spec.now.form _ _ _ _ c.in-Struct.is c.in-Struct.tag-is c.in-Struct.decls-is in
    c.in_ok-kind-in-Struct.ensures.state ∙ ap (λ x. (specified c.args.alone c.args.spec.now.pos x (spelled_of c.args.spelled.now) (state_of c.args.checker.now)).state) (sym e)

pub specifiers::type_spec-returns-in_ok-kind-in-Enum-clause-tree : goal.specifiers::type_spec-returns-in_ok-kind-in-Enum-clause-tree
specifiers::type_spec-returns-in_ok-kind-in-Enum-clause-tree t c =
    let e = enum_form c.args.spec.now.form _ _ _ _ c.in-Enum.is c.in-Enum.tag-is c.in-Enum.rows-is in
    enum_open _ _ ∙ c.in_ok-kind-in-Enum.ensures.tree ∙ ap (λ x. (specified c.args.alone c.args.spec.now.pos x (spelled_of c.args.spelled.now) (state_of c.args.checker.now)).spec) (sym e)

pub specifiers::type_spec-returns-in_ok-kind-in-Enum-clause-spelled : goal.specifiers::type_spec-returns-in_ok-kind-in-Enum-clause-spelled
specifiers::type_spec-returns-in_ok-kind-in-Enum-clause-spelled t c =
    let e = enum_form c.args.spec.now.form _ _ _ _ c.in-Enum.is c.in-Enum.tag-is c.in-Enum.rows-is in
    c.add_tagged-in-Enum.ensures ∙ ap (λ k. with_tagged k (spelled_of c.args.spelled.now)) c.in_ok-kind-in-Enum.ensures.kind ∙ ap (λ x. (specified c.args.alone c.args.spec.now.pos x (spelled_of c.args.spelled.now) (state_of c.args.checker.now)).spelled) (sym e)

pub specifiers::type_spec-returns-in_ok-kind-in-Enum-clause-state : goal.specifiers::type_spec-returns-in_ok-kind-in-Enum-clause-state
specifiers::type_spec-returns-in_ok-kind-in-Enum-clause-state t c =
    let e = enum_form c.args.spec.now.form _ _ _ _ c.in-Enum.is c.in-Enum.tag-is c.in-Enum.rows-is in
    c.in_ok-kind-in-Enum.ensures.state ∙ ap (λ x. (specified c.args.alone c.args.spec.now.pos x (spelled_of c.args.spelled.now) (state_of c.args.checker.now)).state) (sym e)

pub specifiers::type_spec-type_struct-requires : goal.specifiers::type_spec-type_struct-requires
specifiers::type_spec-type_struct-requires t c =
    let e = struct_form c.args.spec.now.form _ _ _ _ c.in-Struct.is c.in-Struct.tag-is c.in-Struct.decls-is in
    omega (arith, ap spec_weight e)

pub specifiers::type_spec-type_enum-requires : goal.specifiers::type_spec-type_enum-requires
specifiers::type_spec-type_enum-requires t c =
    let e = enum_form c.args.spec.now.form _ _ _ _ c.in-Enum.is c.in-Enum.tag-is c.in-Enum.rows-is in
    omega (arith, ap spec_weight e)

pub nodes::type_other-type_call-requires : goal.nodes::type_other-type_call-requires
nodes::type_other-type_call-requires t c =
    let e = call_form c.args.form.now _ _ _ _ c.in-Call.is c.in-Call.name-is c.in-Call.args-is in
    omega (arith, ap form_weight e)

pub nodes::type_probed-type_select-requires : goal.nodes::type_probed-type_select-requires
nodes::type_probed-type_select-requires t c =
    let e = select_form c.args.mark.now _ _ _ _ c.in-Select.is c.in-Select.number-is c.in-Select.cases-is in
    omega (arith, ap probe_weight e)
