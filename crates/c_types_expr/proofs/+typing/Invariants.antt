use Rattle.std.proofs.Common.{◌≡◌, ◌≤◌, ◌+◌, ◌*◌, [], Some, pos, length, map, take, drop}
use Rattle.c_type_rules.specs.Kinds.{type_in}
use Rattle.c_syntax.specs.declared.tree.Enumer.{out-Enumer}
use Rattle.c_syntax.specs.Options.{maybe_members, maybe_rows}
use Rattle.c_syntax.specs.View.{node_shape, node_list, expr_shape, probe_shape, type_shape, maybe_node, lengths_list, type_lengths_list, spec_shape, spec_list, decl_shape, decl_list, declarator_shape, declarator_list, enumer_list}
use Rattle.c_tree.specs.Parts.{unspelled}
use Rattle.c_tree.specs.Typing.{type_arguments, type_cases, type_lengths, type_specs, type_lines, type_fields, rows_types}
use Rattle.c_checker.specs.CallView.{given_of}
use Rattle.c_checker.specs.CheckerView.{state_of}
use Rattle.c_checker_parts.specs.LengthView.{length_shape}
use Rattle.c_checker_parts.specs.SpelledView.{spelled_of}
use Rattle.c_types_expr.specs.MembersView.{fields_of}
use Rattle.c_types_expr.specs.Turns.{in_front}
use Rattle.c_types_expr.proofs.Rows.{an_argument, a_case, brackets, a_length}
use Rattle.c_types_expr.proofs.Listed.{a_spec, a_line, a_field, a_row}
use Rattle.c_types_expr.proofs.Weights.{node_weight, form_weight, probe_weight, type_weight, nodes_weight, maybe_weight, lengths_weight, spec_weight, specs_weight, members_weight, rows_weight, decl_weight, decls_weight, declarator_weight, declarators_weight, enumers_weight}
use Rattle.c_types_expr.proofs.+typing.Given as goal

abbrev pub decreases-nodes::type_node : goal.decreases-nodes::type_node
decreases-nodes::type_node l = 8 * node_weight (node_shape l.node.now)

abbrev pub decreases-nodes::type_form : goal.decreases-nodes::type_form
decreases-nodes::type_form l = 8 * form_weight (expr_shape l.form.now) + 7

abbrev pub decreases-nodes::type_single : goal.decreases-nodes::type_single
decreases-nodes::type_single l = 8 * form_weight (expr_shape l.form.now) + 6

abbrev pub decreases-pairs::type_pair : goal.decreases-pairs::type_pair
decreases-pairs::type_pair l = 8 * form_weight (expr_shape l.form.now) + 6

abbrev pub decreases-nodes::type_other : goal.decreases-nodes::type_other
decreases-nodes::type_other l = 8 * form_weight (expr_shape l.form.now) + 6

abbrev pub decreases-nodes::type_operand : goal.decreases-nodes::type_operand
decreases-nodes::type_operand l = 8 * node_weight (node_shape l.a.now) + 1

abbrev pub decreases-nodes::type_stepped : goal.decreases-nodes::type_stepped
decreases-nodes::type_stepped l = 8 * node_weight (node_shape l.a.now) + 1

abbrev pub decreases-nodes::type_size : goal.decreases-nodes::type_size
decreases-nodes::type_size l = 8 * node_weight (node_shape l.a.now) + 1

abbrev pub decreases-nodes::type_field_of : goal.decreases-nodes::type_field_of
decreases-nodes::type_field_of l = 8 * node_weight (node_shape l.a.now) + 1

abbrev pub decreases-nodes::type_paren : goal.decreases-nodes::type_paren
decreases-nodes::type_paren l = 8 * node_weight (node_shape l.a.now) + 2

abbrev pub decreases-nodes::type_unary : goal.decreases-nodes::type_unary
decreases-nodes::type_unary l = 8 * node_weight (node_shape l.a.now) + 2

abbrev pub decreases-nodes::type_step : goal.decreases-nodes::type_step
decreases-nodes::type_step l = 8 * node_weight (node_shape l.a.now) + 2

abbrev pub decreases-nodes::type_probe : goal.decreases-nodes::type_probe
decreases-nodes::type_probe l = 8 * node_weight (node_shape l.a.now) + 1

abbrev pub decreases-nodes::type_probed : goal.decreases-nodes::type_probed
decreases-nodes::type_probed l = 8 * (probe_weight (probe_shape l.mark.now) + node_weight (node_shape l.a.now)) + 2

abbrev pub decreases-nodes::type_select : goal.decreases-nodes::type_select
decreases-nodes::type_select l = 8 * (nodes_weight (node_list l.cases.now.items) + node_weight (node_shape l.a.now)) + 1

abbrev pub decreases-pairs::type_operands : goal.decreases-pairs::type_operands
decreases-pairs::type_operands l = 8 * (node_weight (node_shape l.a.now) + node_weight (node_shape l.b.now)) + 1

abbrev pub decreases-pairs::type_index : goal.decreases-pairs::type_index
decreases-pairs::type_index l = 8 * (node_weight (node_shape l.a.now) + node_weight (node_shape l.b.now)) + 2

abbrev pub decreases-pairs::type_infix : goal.decreases-pairs::type_infix
decreases-pairs::type_infix l = 8 * (node_weight (node_shape l.a.now) + node_weight (node_shape l.b.now)) + 2

abbrev pub decreases-nodes::type_name_size : goal.decreases-nodes::type_name_size
decreases-nodes::type_name_size l = 8 * type_weight (type_shape l.name.now) + 1

abbrev pub decreases-nodes::type_cast : goal.decreases-nodes::type_cast
decreases-nodes::type_cast l = 8 * (type_weight (type_shape l.name.now) + node_weight (node_shape l.a.now)) + 1

abbrev pub decreases-nodes::type_choice : goal.decreases-nodes::type_choice
decreases-nodes::type_choice l = 8 * (node_weight (node_shape l.a.now) + node_weight (node_shape l.b.now) + node_weight (node_shape l.c.now)) + 2

abbrev pub decreases-lists::type_call : goal.decreases-lists::type_call
decreases-lists::type_call l = 8 * nodes_weight (node_list l.args.now.items) + 1

abbrev pub decreases-lists::type_arguments : goal.decreases-lists::type_arguments
decreases-lists::type_arguments l = 8 * nodes_weight (node_list l.args.now.items)

abbrev pub decreases-lists::type_argument : goal.decreases-lists::type_argument
decreases-lists::type_argument l = 8 * node_weight (node_shape l.a.now) + 1

abbrev pub decreases-lists::type_cases : goal.decreases-lists::type_cases
decreases-lists::type_cases l = 8 * nodes_weight (node_list l.cases.now.items)

abbrev pub decreases-lists::type_case : goal.decreases-lists::type_case
decreases-lists::type_case l = 8 * node_weight (node_shape l.a.now) + 1

abbrev pub decreases-lengths::type_lengths : goal.decreases-lengths::type_lengths
decreases-lengths::type_lengths l = 8 * lengths_weight (lengths_list l.lengths.now.items)

abbrev pub decreases-lengths::type_brackets : goal.decreases-lengths::type_brackets
decreases-lengths::type_brackets l = 8 * maybe_weight (maybe_node l.length.now)

abbrev pub decreases-lengths::type_length : goal.decreases-lengths::type_length
decreases-lengths::type_length l = 8 * node_weight (node_shape l.a.now) + 1

abbrev pub decreases-lengths::type_name_lengths : goal.decreases-lengths::type_name_lengths
decreases-lengths::type_name_lengths l = 8 * lengths_weight (type_lengths_list l.lengths.now.items)

abbrev pub decreases-specifiers::type_name : goal.decreases-specifiers::type_name
decreases-specifiers::type_name l = 8 * type_weight (type_shape l.name.now)

abbrev pub decreases-specifiers::type_spelled : goal.decreases-specifiers::type_spelled
decreases-specifiers::type_spelled l = 8 * (specs_weight (spec_list l.specs.now.items) + lengths_weight (type_lengths_list l.lengths.now.items)) + 1

abbrev pub decreases-specifiers::type_specs : goal.decreases-specifiers::type_specs
decreases-specifiers::type_specs l = 8 * specs_weight (spec_list l.specs.now.items)

abbrev pub decreases-specifiers::type_spec : goal.decreases-specifiers::type_spec
decreases-specifiers::type_spec l = 8 * spec_weight (spec_shape l.spec.now.form)

abbrev pub decreases-specifiers::type_struct : goal.decreases-specifiers::type_struct
decreases-specifiers::type_struct l = 8 * members_weight (maybe_members l.decls.now)

abbrev pub decreases-specifiers::type_members : goal.decreases-specifiers::type_members
decreases-specifiers::type_members l = 8 * decls_weight (decl_list l.decls.now.items) + 1

abbrev pub decreases-members::type_lines : goal.decreases-members::type_lines
decreases-members::type_lines l = 8 * decls_weight (decl_list l.decls.now.items)

abbrev pub decreases-members::type_line : goal.decreases-members::type_line
decreases-members::type_line l = 8 * decl_weight (decl_shape l.line.now)

abbrev pub decreases-members::type_line_parts : goal.decreases-members::type_line_parts
decreases-members::type_line_parts l = 8 * (specs_weight (spec_list l.specs.now.items) + declarators_weight (declarator_list l.names.now.items)) + 1

abbrev pub decreases-members::type_fields : goal.decreases-members::type_fields
decreases-members::type_fields l = 8 * declarators_weight (declarator_list l.names.now.items)

abbrev pub decreases-members::type_field : goal.decreases-members::type_field
decreases-members::type_field l = 8 * declarator_weight (declarator_shape l.name.now)

abbrev pub decreases-enumerators::type_enum : goal.decreases-enumerators::type_enum
decreases-enumerators::type_enum l = 8 * rows_weight (maybe_rows l.enumers.now)

abbrev pub decreases-enumerators::rows_types : goal.decreases-enumerators::rows_types
decreases-enumerators::rows_types l = 8 * enumers_weight (enumer_list l.enumers.now.items)

abbrev pub decreases-enumerators::type_row : goal.decreases-enumerators::type_row
decreases-enumerators::type_row l = 8 * maybe_weight (maybe_node (out-Enumer l.row.now).value) + 1

abbrev pub decreases-enumerators::type_value : goal.decreases-enumerators::type_value
decreases-enumerators::type_value l = 8 * maybe_weight (maybe_node l.given.now)

abbrev pub invariant-lists::type_arguments-loop-i : goal.invariant-lists::type_arguments-loop-i
invariant-lists::type_arguments-loop-i l = record {
  typed : in_front an_argument (take l.i l.args.items) (type_arguments (map given_of l.given.items) (node_list (drop l.i l.args.items)) (state_of l.checker)) ≡ type_arguments [] (node_list l.fn.args.items) (state_of l.fn.checker);
  count : length l.args.items ≡ length l.fn.args.items;
  lighter : nodes_weight (node_list (drop l.i l.args.items)) ≤ nodes_weight (node_list l.fn.args.items);
}

abbrev pub invariant-lists::type_cases-loop-i : goal.invariant-lists::type_cases-loop-i
invariant-lists::type_cases-loop-i l = record {
  typed : in_front a_case (take l.i l.cases.items) (type_cases l.values.items (node_list (drop l.i l.cases.items)) (state_of l.checker)) ≡ type_cases [] (node_list l.fn.cases.items) (state_of l.fn.checker);
  count : length l.cases.items ≡ length l.fn.cases.items;
  lighter : nodes_weight (node_list (drop l.i l.cases.items)) ≤ nodes_weight (node_list l.fn.cases.items);
}

abbrev pub invariant-lengths::type_lengths-loop-i : goal.invariant-lengths::type_lengths-loop-i
invariant-lengths::type_lengths-loop-i l = record {
  typed : in_front brackets (take l.i l.lengths.items) (type_lengths (map length_shape l.counts.items) (lengths_list (drop l.i l.lengths.items)) (state_of l.checker)) ≡ type_lengths [] (lengths_list l.fn.lengths.items) (state_of l.fn.checker);
  count : length l.lengths.items ≡ length l.fn.lengths.items;
  lighter : lengths_weight (lengths_list (drop l.i l.lengths.items)) ≤ lengths_weight (lengths_list l.fn.lengths.items);
}

abbrev pub invariant-lengths::type_name_lengths-loop-i : goal.invariant-lengths::type_name_lengths-loop-i
invariant-lengths::type_name_lengths-loop-i l = record {
  typed : in_front a_length (take l.i l.lengths.items) (type_lengths (map length_shape l.counts.items) (type_lengths_list (drop l.i l.lengths.items)) (state_of l.checker)) ≡ type_lengths [] (type_lengths_list l.fn.lengths.items) (state_of l.fn.checker);
  count : length l.lengths.items ≡ length l.fn.lengths.items;
  lighter : lengths_weight (type_lengths_list (drop l.i l.lengths.items)) ≤ lengths_weight (type_lengths_list l.fn.lengths.items);
}

abbrev pub invariant-members::type_fields-loop-i : goal.invariant-members::type_fields-loop-i
invariant-members::type_fields-loop-i l = record {
  typed : in_front a_field (take l.i l.names.items) (type_fields l.pos (type_in l.kind) (declarator_list (drop l.i l.names.items)) (fields_of l.fields) (state_of l.checker)) ≡ type_fields l.fn.pos (type_in l.fn.kind) (declarator_list l.fn.names.items) (fields_of l.fn.fields) (state_of l.fn.checker);
  count : length l.names.items ≡ length l.fn.names.items;
  lighter : declarators_weight (declarator_list (drop l.i l.names.items)) ≤ declarators_weight (declarator_list l.fn.names.items);
}

abbrev pub invariant-enumerators::rows_types-loop-i : goal.invariant-enumerators::rows_types-loop-i
invariant-enumerators::rows_types-loop-i l = record {
  typed : in_front a_row (take l.i l.enumers.items) (rows_types l.next (enumer_list (drop l.i l.enumers.items)) (state_of l.checker)) ≡ rows_types (Some (pos 0)) (enumer_list l.fn.enumers.items) (state_of l.fn.checker);
  count : length l.enumers.items ≡ length l.fn.enumers.items;
  lighter : enumers_weight (enumer_list (drop l.i l.enumers.items)) ≤ enumers_weight (enumer_list l.fn.enumers.items);
}

abbrev pub invariant-specifiers::type_specs-loop-i : goal.invariant-specifiers::type_specs-loop-i
invariant-specifiers::type_specs-loop-i l = record {
  typed : in_front a_spec (take l.i l.specs.items) (type_specs l.alone (spec_list (drop l.i l.specs.items)) (spelled_of l.spelled) (state_of l.checker)) ≡ type_specs l.fn.alone (spec_list l.fn.specs.items) unspelled (state_of l.fn.checker);
  count : length l.specs.items ≡ length l.fn.specs.items;
  lighter : specs_weight (spec_list (drop l.i l.specs.items)) ≤ specs_weight (spec_list l.fn.specs.items);
}

abbrev pub invariant-members::type_lines-loop-i : goal.invariant-members::type_lines-loop-i
invariant-members::type_lines-loop-i l = record {
  typed : in_front a_line (take l.i l.decls.items) (type_lines (decl_list (drop l.i l.decls.items)) (fields_of l.fields) (state_of l.checker)) ≡ type_lines (decl_list l.fn.decls.items) [] (state_of l.fn.checker);
  count : length l.decls.items ≡ length l.fn.decls.items;
  lighter : decls_weight (decl_list (drop l.i l.decls.items)) ≤ decls_weight (decl_list l.fn.decls.items);
}
