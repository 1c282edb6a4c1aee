use Rattle.std.proofs.Common.{map, sym, ap, ◌∙◌, arith}
use Rattle.std.proofs.lemmas.List.{take_all}
use Rattle.std.proofs.lemmas.Result.{IfOk-weaker}
use Rattle.c_syntax.specs.Shape.{params, listed}
use Rattle.c_syntax.specs.View.{node_shape, decl_shape, declarator_shape, param_shape, init_shape, maybe_node}
use Rattle.c_syntax.proofs.Made.{nodes_made, lengths_made, params_made, inits_made}
use Rattle.c_copy.proofs.Lists.{spec_pair, enumer_pair, same_nodes, same_type_lengths, same_specs, same_enumers, same_decls, same_declarators, same_lengths, same_params, same_inits}
use Rattle.c_copy.proofs.Options.{struct_same, enum_same}
use Rattle.c_copy.proofs.tree.+copy.Goals as goal

-- what holds a list

pub copy_form-returns-in-Call : goal.copy_form-returns-in-Call
copy_form-returns-in-Call t c = rw (c.in-Call.is, nodes_made c.in-Call.args, sym c.deref-in-Call.ensures.value) c.copy_call.ensures

pub copy_probe-returns-in-Select : goal.copy_probe-returns-in-Select
copy_probe-returns-in-Select t c = rw (c.in-Select.is, nodes_made c.in-Select.cases, sym c.deref.ensures.value) c.copy_select.ensures

pub copy_decl_form-returns-in-Arrays : goal.copy_decl_form-returns-in-Arrays
copy_decl_form-returns-in-Arrays t c = rw (c.in-Arrays.is, lengths_made c.in-Arrays.lengths, sym c.deref.ensures.value) c.copy_arrays.ensures

pub copy_params-returns-in-List : goal.copy_params-returns-in-List
copy_params-returns-in-List t c = rw (c.in-List.is, params_made c.in-List.list, sym c.deref.ensures.value) c.copy_param_list.ensures

pub copy_init-returns-in-List : goal.copy_init-returns-in-List
copy_init-returns-in-List t c = rw (c.in-List.is, inits_made c.in-List.list, sym c.deref.ensures.value) c.copy_init_list.ensures

pub copy_spec-returns-in_ok-decls-in-Some : goal.copy_spec-returns-in_ok-decls-in-Some
copy_spec-returns-in_ok-decls-in-Some t c = struct_same _ _ _ _ _ c.in-Some.decls c.in_ok-decls-in-Some.decls _ c.in-Struct.is c.in-Some.is c.in_ok-name-in-Struct.ensures c.in_ok-decls-in-Some.ensures c.deref.ensures.value c.new_struct-in-Some.ensures

pub copy_spec-returns-in_ok-rows-in-Some-list : goal.copy_spec-returns-in_ok-rows-in-Some-list
copy_spec-returns-in_ok-rows-in-Some-list t c = enum_same _ _ _ _ _ c.in-Some-list.rows c.in_ok-rows-in-Some-list.rows _ c.in-Enum.is c.in-Some-list.is c.in_ok-name-in-Enum.ensures c.in_ok-rows-in-Some-list.ensures c.deref-in-Some-list.ensures.value c.new_enum-in-Some-list.ensures

-- lists

pub copy_nodes-returns : goal.copy_nodes-returns
copy_nodes-returns t c = same_nodes _ _ (c.loop-node.invariant ∙ ap (map node_shape) (take_all c.loop-node.node-index c.args.nodes.now (omega arith)))

pub copy_type_lengths-returns : goal.copy_type_lengths-returns
copy_type_lengths-returns t c = same_type_lengths _ _ (c.loop-node.invariant ∙ ap (map node_shape) (take_all c.loop-node.node-index c.args.nodes.now (omega arith)))

pub copy_specs-returns : goal.copy_specs-returns
copy_specs-returns t c = same_specs _ _ (c.loop-spec.invariant ∙ ap (map spec_pair) (take_all c.loop-spec.spec-index c.args.specs.now (omega arith)))

pub copy_enumers-returns : goal.copy_enumers-returns
copy_enumers-returns t c = same_enumers _ _ (c.loop-row.invariant ∙ ap (map enumer_pair) (take_all c.loop-row.row-index c.args.rows.now (omega arith)))

pub copy_decls-returns : goal.copy_decls-returns
copy_decls-returns t c = same_decls _ _ (c.loop-decl.invariant ∙ ap (map decl_shape) (take_all c.loop-decl.decl-index c.args.decls.now (omega arith)))

pub copy_declarators-returns : goal.copy_declarators-returns
copy_declarators-returns t c = same_declarators _ _ (c.loop-name.invariant ∙ ap (map declarator_shape) (take_all c.loop-name.name-index c.args.names.now (omega arith)))

pub copy_lengths-returns : goal.copy_lengths-returns
copy_lengths-returns t c = same_lengths _ _ (c.loop-length.invariant ∙ ap (map maybe_node) (take_all c.loop-length.length-index c.args.lengths.now (omega arith)))

pub copy_param_list-returns : goal.copy_param_list-returns
copy_param_list-returns t c = c.new_params.ensures ∙ ap params (same_params _ _ (c.loop-param.invariant ∙ ap (map param_shape) (take_all c.loop-param.param-index c.args.list.now (omega arith))))

pub copy_init_list-returns : goal.copy_init_list-returns
copy_init_list-returns t c =
    let same = same_inits _ _ (c.loop-init.invariant ∙ ap (map init_shape) (take_all c.loop-init.init-index c.args.list.now (omega arith))) in
    IfOk-weaker c.boxed.result _ _ (λ b e. ap init_shape e ∙ c.new_list.ensures ∙ ap (λ l. listed c.args.pos l c.args.last) same) c.boxed.ensures
