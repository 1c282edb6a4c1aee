use Rattle.std.proofs.Common.{◌≡◌, ◌+◌, ◌≤◌, length, ◌*◌, ◌<◌}
use Rattle.c_syntax.specs.Levels.{specs_height, decls_height, inits_height, enumers_height, lengths_height}
use Rattle.c_syntax.specs.View.{spec_list, param_list, decl_list, init_list, node_shape, node_list, enumer_list, lengths_list, type_lengths_list}
use Rattle.c_grammar.proofs.ListSteps.{SpecsFrom, ParamsFrom, DeclsFrom, InitsFrom, EnumersFrom, LengthsFrom, TypeLengthsFrom}
use Rattle.c_grammar.specs.CodeView.{standing_of}
use Rattle.c_parse_expr.proofs.DeclRead.{FurtherSoFar}
use Rattle.c_grammar.specs.Found.{Measured, AllMeasured}
use Rattle.c_parse_expr.proofs.ExprRead.{ClimbsFrom, LedBehind}
use Rattle.c_grammar.specs.Reader.{reads_enumers}
use Rattle.c_parse_expr.proofs.+reading.Given as goal

abbrev pub decreases-operand::read_typed : goal.decreases-operand::read_typed
decreases-operand::read_typed l = 8 * length l.input.now + 4

abbrev pub decreases-spec::read_given : goal.decreases-spec::read_given
decreases-spec::read_given l = 8 * length l.input.now + 3

abbrev pub decreases-spec::read_length : goal.decreases-spec::read_length
decreases-spec::read_length l = 8 * length l.input.now + 4

abbrev pub decreases-spec::read_lengths : goal.decreases-spec::read_lengths
decreases-spec::read_lengths l = 8 * length l.input.now

abbrev pub decreases-spec::read_type_length : goal.decreases-spec::read_type_length
decreases-spec::read_type_length l = 8 * length l.input.now + 4

abbrev pub decreases-spec::read_type_lengths : goal.decreases-spec::read_type_lengths
decreases-spec::read_type_lengths l = 8 * length l.input.now

abbrev pub decreases-spec::read_type_name : goal.decreases-spec::read_type_name
decreases-spec::read_type_name l = 8 * length l.input.now + 3

abbrev pub decreases-spec::read_enum : goal.decreases-spec::read_enum
decreases-spec::read_enum l = 8 * length l.input.now

abbrev pub decreases-spec::read_rows : goal.decreases-spec::read_rows
decreases-spec::read_rows l = 8 * length l.input.now + 3

abbrev pub decreases-spec::read_enumers : goal.decreases-spec::read_enumers
decreases-spec::read_enumers l = 8 * length l.input.now + 2

abbrev pub decreases-spec::read_enumer : goal.decreases-spec::read_enumer
decreases-spec::read_enumer l = 8 * length l.input.now + 1

abbrev pub decreases-spec::read_value : goal.decreases-spec::read_value
decreases-spec::read_value l = 8 * length l.input.now

abbrev pub decreases-decl::read_arrays : goal.decreases-decl::read_arrays
decreases-decl::read_arrays l = 8 * length l.input.now + 1

abbrev pub decreases-decl::read_ending : goal.decreases-decl::read_ending
decreases-decl::read_ending l = 8 * length l.input.now

abbrev pub decreases-spec::read_specifiers : goal.decreases-spec::read_specifiers
decreases-spec::read_specifiers l = 8 * length l.input.now + 2

abbrev pub decreases-spec::read_specs : goal.decreases-spec::read_specs
decreases-spec::read_specs l = 8 * length l.input.now + 1

abbrev pub decreases-spec::read_spec : goal.decreases-spec::read_spec
decreases-spec::read_spec l = 8 * length l.input.now + 1

abbrev pub decreases-spec::read_struct : goal.decreases-spec::read_struct
decreases-spec::read_struct l = 8 * length l.input.now

abbrev pub decreases-spec::read_fields : goal.decreases-spec::read_fields
decreases-spec::read_fields l = 8 * length l.input.now + 7

abbrev pub decreases-decl::read_declarator : goal.decreases-decl::read_declarator
decreases-decl::read_declarator l = 8 * length l.input.now + 4

abbrev pub decreases-decl::read_named_behind : goal.decreases-decl::read_named_behind
decreases-decl::read_named_behind l = 8 * length l.input.now + 3

abbrev pub decreases-decl::read_form : goal.decreases-decl::read_form
decreases-decl::read_form l = 8 * length l.input.now + 2

abbrev pub decreases-decl::read_parameters : goal.decreases-decl::read_parameters
decreases-decl::read_parameters l = 8 * length l.input.now + 7

abbrev pub decreases-decl::read_params : goal.decreases-decl::read_params
decreases-decl::read_params l = 8 * length l.input.now + 6

abbrev pub decreases-decl::read_param : goal.decreases-decl::read_param
decreases-decl::read_param l = 8 * length l.input.now + 5

abbrev pub decreases-decl::read_names : goal.decreases-decl::read_names
decreases-decl::read_names l = 8 * length l.input.now + 4

abbrev pub decreases-decl::read_further : goal.decreases-decl::read_further
decreases-decl::read_further l = 8 * length l.input.now + 3

abbrev pub decreases-decl::read_decl : goal.decreases-decl::read_decl
decreases-decl::read_decl l = 8 * length l.input.now + 5

abbrev pub decreases-decl::read_decls : goal.decreases-decl::read_decls
decreases-decl::read_decls l = 8 * length l.input.now + 6

abbrev pub invariant-spec::read_specs-loop-begin : goal.invariant-spec::read_specs-loop-begin
invariant-spec::read_specs-loop-begin l = record {
  low : l.levels + l.depth ≤ 400;
  measured : l.levels ≡ specs_height (spec_list l.list.items);
  no_longer : length l.rest ≤ length l.input;
  on : SpecsFrom l.depth l.probes l.list.items l.input l.rest;
}

abbrev pub decreases-spec::read_specs-loop-begin : goal.decreases-spec::read_specs-loop-begin
decreases-spec::read_specs-loop-begin l = length l.rest

abbrev pub invariant-decl::read_params-loop-inside : goal.invariant-decl::read_params-loop-inside
invariant-decl::read_params-loop-inside l = record {
  low : l.levels + l.depth ≤ 400;
  measured : l.levels ≡ decls_height (param_list l.list.items);
  no_longer : length l.rest ≤ length l.input;
  on : ParamsFrom l.depth l.probes l.list.items l.input l.rest;
}

abbrev pub decreases-decl::read_params-loop-inside : goal.decreases-decl::read_params-loop-inside
decreases-decl::read_params-loop-inside l = length l.rest

abbrev pub invariant-decl::read_further-loop-inside : goal.invariant-decl::read_further-loop-inside
invariant-decl::read_further-loop-inside l = record {
  low : l.levels + l.depth ≤ 400;
  no_longer : length l.rest ≤ length l.input;
  on : FurtherSoFar (standing_of l.standing) l.depth l.probes l.fn.before.items l.list.items l.input l.levels l.rest;
}

abbrev pub decreases-decl::read_further-loop-inside : goal.decreases-decl::read_further-loop-inside
decreases-decl::read_further-loop-inside l = length l.rest

abbrev pub invariant-decl::read_decls-loop-alloc : goal.invariant-decl::read_decls-loop-alloc
invariant-decl::read_decls-loop-alloc l = record {
  low : l.levels + l.depth ≤ 400;
  measured : l.levels ≡ decls_height (decl_list l.list.items);
  no_longer : length l.rest ≤ length l.input;
  on : DeclsFrom (standing_of l.standing) l.depth l.probes l.list.items l.input l.rest;
}

abbrev pub decreases-decl::read_decls-loop-alloc : goal.decreases-decl::read_decls-loop-alloc
decreases-decl::read_decls-loop-alloc l = length l.rest

abbrev pub decreases-init::read_init : goal.decreases-init::read_init
decreases-init::read_init l = 8 * length l.input.now + 3

abbrev pub decreases-init::read_braced : goal.decreases-init::read_braced
decreases-init::read_braced l = 8 * length l.inside.now + 5

abbrev pub decreases-init::read_inits : goal.decreases-init::read_inits
decreases-init::read_inits l = 8 * length l.input.now + 4

abbrev pub invariant-init::read_inits-loop-inside : goal.invariant-init::read_inits-loop-inside
invariant-init::read_inits-loop-inside l = record {
  low : l.levels + l.depth < 400;
  measured : l.levels ≡ inits_height (init_list l.list.items);
  no_longer : length l.rest ≤ length l.input;
  on : InitsFrom l.depth l.probes l.list.items l.input l.rest;
}

abbrev pub decreases-init::read_inits-loop-inside : goal.decreases-init::read_inits-loop-inside
decreases-init::read_inits-loop-inside l = length l.rest

abbrev pub decreases-expr::read_node : goal.decreases-expr::read_node
decreases-expr::read_node l = 8 * length l.input.now + 2

abbrev pub decreases-expr::climb : goal.decreases-expr::climb
decreases-expr::climb l = 8 * length l.input.now

abbrev pub decreases-expr::grow : goal.decreases-expr::grow
decreases-expr::grow l = 8 * length l.input.now + 5

abbrev pub decreases-expr::grow_infix : goal.decreases-expr::grow_infix
decreases-expr::grow_infix l = 8 * length l.input.now + 4

abbrev pub decreases-expr::grow_choice : goal.decreases-expr::grow_choice
decreases-expr::grow_choice l = 8 * length l.input.now + 4

abbrev pub decreases-expr::grow_index : goal.decreases-expr::grow_index
decreases-expr::grow_index l = 8 * length l.input.now + 4

abbrev pub decreases-operand::read_closed : goal.decreases-operand::read_closed
decreases-operand::read_closed l = 8 * length l.input.now + 3

abbrev pub decreases-operand::read_front : goal.decreases-operand::read_front
decreases-operand::read_front l = 8 * length l.input.now + 1

abbrev pub decreases-operand::read_name : goal.decreases-operand::read_name
decreases-operand::read_name l = 8 * length l.input.now

abbrev pub decreases-operand::read_arguments : goal.decreases-operand::read_arguments
decreases-operand::read_arguments l = 8 * length l.input.now + 3

abbrev pub decreases-operand::read_led : goal.decreases-operand::read_led
decreases-operand::read_led l = 8 * length l.input.now

abbrev pub decreases-operand::read_prefix : goal.decreases-operand::read_prefix
decreases-operand::read_prefix l = 8 * length l.input.now

abbrev pub decreases-operand::read_paren : goal.decreases-operand::read_paren
decreases-operand::read_paren l = 8 * length l.input.now

abbrev pub decreases-operand::read_cast : goal.decreases-operand::read_cast
decreases-operand::read_cast l = 8 * length l.inside.now + 5

abbrev pub decreases-operand::read_simple : goal.decreases-operand::read_simple
decreases-operand::read_simple l = 8 * length l.input.now

abbrev pub decreases-operand::read_select : goal.decreases-operand::read_select
decreases-operand::read_select l = 8 * length l.input.now

abbrev pub decreases-operand::read_cases : goal.decreases-operand::read_cases
decreases-operand::read_cases l = 8 * length l.input.now + 1

abbrev pub decreases-operand::read_inside : goal.decreases-operand::read_inside
decreases-operand::read_inside l = 8 * length l.input.now + 3

abbrev pub invariant-expr::climb-loop-op : goal.invariant-expr::climb-loop-op
invariant-expr::climb-loop-op l = record {
  low : l.size.levels + l.depth ≤ 400;
  measured : Measured (node_shape l.node.value) l.size;
  no_longer : length l.rest ≤ length l.input;
  on : ClimbsFrom l.least l.depth l.probes (node_shape l.fn.first.value) (node_shape l.node.value) l.input l.rest;
}

abbrev pub decreases-expr::climb-loop-op : goal.decreases-expr::climb-loop-op
decreases-expr::climb-loop-op l = length l.rest

abbrev pub invariant-operand::read_led-loop-inside : goal.invariant-operand::read_led-loop-inside
invariant-operand::read_led-loop-inside l = record {
  low : l.all.levels + l.depth ≤ 400;
  measured : AllMeasured (node_list l.list.items) l.all;
  no_longer : length l.rest ≤ length l.input;
  on : LedBehind l.least l.depth l.probes l.fn.before.items l.list.items l.input l.rest;
}

abbrev pub decreases-operand::read_led-loop-inside : goal.decreases-operand::read_led-loop-inside
decreases-operand::read_led-loop-inside l = length l.rest

abbrev pub invariant-spec::read_enumers-loop-inside : goal.invariant-spec::read_enumers-loop-inside
invariant-spec::read_enumers-loop-inside l = record {
  low : l.levels + l.depth ≤ 400;
  measured : l.levels ≡ enumers_height (enumer_list l.list.items);
  no_longer : length l.rest ≤ length l.input;
  on : EnumersFrom l.depth l.probes (reads_enumers l.depth l.probes) l.list.items l.input l.rest;
}

abbrev pub decreases-spec::read_enumers-loop-inside : goal.decreases-spec::read_enumers-loop-inside
decreases-spec::read_enumers-loop-inside l = length l.rest

abbrev pub invariant-spec::read_lengths-loop-inside : goal.invariant-spec::read_lengths-loop-inside
invariant-spec::read_lengths-loop-inside l = record {
  count : l.count ≡ length l.list.items;
  few : l.count + l.depth ≤ 400;
  low : l.levels + l.depth ≤ 400;
  measured : l.levels ≡ lengths_height (lengths_list l.list.items);
  no_longer : length l.rest ≤ length l.input;
  on : LengthsFrom l.free l.depth l.probes l.list.items l.input l.rest;
}

abbrev pub decreases-spec::read_lengths-loop-inside : goal.decreases-spec::read_lengths-loop-inside
decreases-spec::read_lengths-loop-inside l = length l.rest

abbrev pub invariant-spec::read_type_lengths-loop-inside : goal.invariant-spec::read_type_lengths-loop-inside
invariant-spec::read_type_lengths-loop-inside l = record {
  count : l.count ≡ length l.list.items;
  few : l.count + l.depth ≤ 400;
  low : l.levels + l.depth ≤ 400;
  measured : l.levels ≡ lengths_height (type_lengths_list l.list.items);
  no_longer : length l.rest ≤ length l.input;
  on : TypeLengthsFrom l.depth l.probes l.list.items l.input l.rest;
}

abbrev pub decreases-spec::read_type_lengths-loop-inside : goal.decreases-spec::read_type_lengths-loop-inside
decreases-spec::read_type_lengths-loop-inside l = length l.rest
