use Rattle.std.proofs.Common.{◌≡◌, map, take}
use Rattle.c_syntax.specs.View.{node_shape, decl_shape, declarator_shape, param_shape, init_shape, maybe_node}
use Rattle.c_copy.proofs.Lists.{spec_pair, enumer_pair}
use Rattle.probe_out.proofs.Lists.{left_node, left_spec, left_enumer, left_decl, left_declarator, left_param, left_init, left_length}
use Rattle.probe_out.proofs.tree.+erase.Given as goal

abbrev pub invariant-erased_nodes-loop-node : goal.invariant-erased_nodes-loop-node
invariant-erased_nodes-loop-node l = map node_shape l.made.items ≡ map left_node (take l.node-index l.nodes)

abbrev pub invariant-erased_type_lengths-loop-node : goal.invariant-erased_type_lengths-loop-node
invariant-erased_type_lengths-loop-node l = map node_shape l.made.items ≡ map left_node (take l.node-index l.nodes)

abbrev pub invariant-erased_specs-loop-spec : goal.invariant-erased_specs-loop-spec
invariant-erased_specs-loop-spec l = map spec_pair l.made.items ≡ map left_spec (take l.spec-index l.specs)

abbrev pub invariant-erased_enumers-loop-row : goal.invariant-erased_enumers-loop-row
invariant-erased_enumers-loop-row l = map enumer_pair l.made.items ≡ map left_enumer (take l.row-index l.rows)

abbrev pub invariant-erased_decls-loop-decl : goal.invariant-erased_decls-loop-decl
invariant-erased_decls-loop-decl l = map decl_shape l.made.items ≡ map left_decl (take l.decl-index l.decls)

abbrev pub invariant-erased_declarators-loop-name : goal.invariant-erased_declarators-loop-name
invariant-erased_declarators-loop-name l = map declarator_shape l.made.items ≡ map left_declarator (take l.name-index l.names)

abbrev pub invariant-erased_lengths-loop-length : goal.invariant-erased_lengths-loop-length
invariant-erased_lengths-loop-length l = map maybe_node l.made.items ≡ map left_length (take l.length-index l.lengths)

abbrev pub invariant-erased_param_list-loop-param : goal.invariant-erased_param_list-loop-param
invariant-erased_param_list-loop-param l = map param_shape l.made.items ≡ map left_param (take l.param-index l.list)

abbrev pub invariant-erased_init_list-loop-init : goal.invariant-erased_init_list-loop-init
invariant-erased_init_list-loop-init l = map init_shape l.made.items ≡ map left_init (take l.init-index l.list)
