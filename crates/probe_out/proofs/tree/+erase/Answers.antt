use Rattle.std.proofs.Common.{map, sym, ap, ◌∙◌, arith}
use Rattle.std.proofs.lemmas.List.{take_all}
use Rattle.std.proofs.lemmas.Result.{IfOk-weaker}
use Rattle.c_syntax.specs.Shape.{params, listed}
use Rattle.c_syntax.specs.View.{expr_shape, init_shape}
use Rattle.c_syntax.proofs.Made.{nodes_made, lengths_made, params_made, inits_made}
use Rattle.probe_out.specs.Forms.{erased_expr}
use Rattle.probe_out.proofs.Forms.{probe_left}
use Rattle.probe_out.proofs.Lists.{left_node, left_spec, left_enumer, left_decl, left_declarator, left_param, left_init, left_length, nodes_left, type_lengths_left, specs_left, enumers_left, decls_left, declarators_left, lengths_left, params_left, inits_left}
use Rattle.probe_out.proofs.Options.{struct_left, enum_left}
use Rattle.probe_out.proofs.tree.+erase.Goals as goal

-- a form in a probe

pub erased_form-returns-in-Probe : goal.erased_form-returns-in-Probe
erased_form-returns-in-Probe t c =
    let same = probe_left c.in-Probe.field-0 c.in-Probe.inner c.deref-in-Probe.result.now c.deref-in-Probe.ensures in
    IfOk-weaker c.erased_form.result _ _ (λ f e. e ∙ same ∙ sym (ap (λ x. erased_expr (expr_shape x)) c.in-Probe.is)) c.erased_form.ensures

-- what holds a list

pub erased_form-returns-in-Call : goal.erased_form-returns-in-Call
erased_form-returns-in-Call t c = rw (c.in-Call.is, nodes_made c.in-Call.args, sym c.deref-in-Call.ensures.value) c.erased_call.ensures

pub erased_behind-returns-in-Arrays : goal.erased_behind-returns-in-Arrays
erased_behind-returns-in-Arrays t c = rw (c.in-Arrays.is, lengths_made c.in-Arrays.lengths, sym c.deref.ensures.value) c.erased_arrays.ensures

pub erased_params-returns-in-List : goal.erased_params-returns-in-List
erased_params-returns-in-List t c = rw (c.in-List.is, params_made c.in-List.list, sym c.deref.ensures.value) c.erased_param_list.ensures

pub erased_init-returns-in-List : goal.erased_init-returns-in-List
erased_init-returns-in-List t c = rw (c.in-List.is, inits_made c.in-List.list, sym c.deref.ensures.value) c.erased_init_list.ensures

pub erased_spec-returns-in_ok-decls-in-Some : goal.erased_spec-returns-in_ok-decls-in-Some
erased_spec-returns-in_ok-decls-in-Some t c = struct_left _ _ _ _ _ c.in-Some.decls c.in_ok-decls-in-Some.decls _ c.in-Struct.is c.in-Some.is c.in_ok-name-in-Struct.ensures c.in_ok-decls-in-Some.ensures c.deref.ensures.value c.new_struct-in-Some.ensures

pub erased_spec-returns-in_ok-rows-in-Some-list : goal.erased_spec-returns-in_ok-rows-in-Some-list
erased_spec-returns-in_ok-rows-in-Some-list t c = enum_left _ _ _ _ _ c.in-Some-list.rows c.in_ok-rows-in-Some-list.rows _ c.in-Enum.is c.in-Some-list.is c.in_ok-name-in-Enum.ensures c.in_ok-rows-in-Some-list.ensures c.deref-in-Some-list.ensures.value c.new_enum-in-Some-list.ensures

-- lists

pub erased_nodes-returns : goal.erased_nodes-returns
erased_nodes-returns t c = nodes_left _ _ (c.loop-node.invariant ∙ ap (map left_node) (take_all c.loop-node.node-index c.args.nodes.now (omega arith)))

pub erased_type_lengths-returns : goal.erased_type_lengths-returns
erased_type_lengths-returns t c = type_lengths_left _ _ (c.loop-node.invariant ∙ ap (map left_node) (take_all c.loop-node.node-index c.args.nodes.now (omega arith)))

pub erased_specs-returns : goal.erased_specs-returns
erased_specs-returns t c = specs_left _ _ (c.loop-spec.invariant ∙ ap (map left_spec) (take_all c.loop-spec.spec-index c.args.specs.now (omega arith)))

pub erased_enumers-returns : goal.erased_enumers-returns
erased_enumers-returns t c = enumers_left _ _ (c.loop-row.invariant ∙ ap (map left_enumer) (take_all c.loop-row.row-index c.args.rows.now (omega arith)))

pub erased_decls-returns : goal.erased_decls-returns
erased_decls-returns t c = decls_left _ _ (c.loop-decl.invariant ∙ ap (map left_decl) (take_all c.loop-decl.decl-index c.args.decls.now (omega arith)))

pub erased_declarators-returns : goal.erased_declarators-returns
erased_declarators-returns t c = declarators_left _ _ (c.loop-name.invariant ∙ ap (map left_declarator) (take_all c.loop-name.name-index c.args.names.now (omega arith)))

pub erased_lengths-returns : goal.erased_lengths-returns
erased_lengths-returns t c = lengths_left _ _ (c.loop-length.invariant ∙ ap (map left_length) (take_all c.loop-length.length-index c.args.lengths.now (omega arith)))

pub erased_param_list-returns : goal.erased_param_list-returns
erased_param_list-returns t c = c.new_params.ensures ∙ ap params (params_left _ _ (c.loop-param.invariant ∙ ap (map left_param) (take_all c.loop-param.param-index c.args.list.now (omega arith))))

pub erased_init_list-returns : goal.erased_init_list-returns
erased_init_list-returns t c =
    let same = inits_left _ _ (c.loop-init.invariant ∙ ap (map left_init) (take_all c.loop-init.init-index c.args.list.now (omega arith))) in
    IfOk-weaker c.boxed.result _ _ (λ b e. ap init_shape e ∙ c.new_list.ensures ∙ ap (λ l. listed c.args.pos l c.args.last) same) c.boxed.ensures
