use Rattle.std.proofs.Common.{◌≡◌, map, take}
use Rattle.c_syntax.specs.View.{node_shape, decl_shape, declarator_shape, param_shape, init_shape, maybe_node}
use Rattle.c_copy.proofs.Lists.{spec_pair, enumer_pair}
use Rattle.c_copy.proofs.tree.+copy.Given as goal

abbrev pub invariant-copy_nodes-loop-node : goal.invariant-copy_nodes-loop-node
invariant-copy_nodes-loop-node l = map node_shape l.copies.items ≡ map node_shape (take l.node-index l.nodes)

abbrev pub invariant-copy_type_lengths-loop-node : goal.invariant-copy_type_lengths-loop-node
invariant-copy_type_lengths-loop-node l = map node_shape l.copies.items ≡ map node_shape (take l.node-index l.nodes)

abbrev pub invariant-copy_specs-loop-spec : goal.invariant-copy_specs-loop-spec
invariant-copy_specs-loop-spec l = map spec_pair l.copies.items ≡ map spec_pair (take l.spec-index l.specs)

abbrev pub invariant-copy_enumers-loop-row : goal.invariant-copy_enumers-loop-row
invariant-copy_enumers-loop-row l = map enumer_pair l.copies.items ≡ map enumer_pair (take l.row-index l.rows)

abbrev pub invariant-copy_decls-loop-decl : goal.invariant-copy_decls-loop-decl
invariant-copy_decls-loop-decl l = map decl_shape l.copies.items ≡ map decl_shape (take l.decl-index l.decls)

abbrev pub invariant-copy_declarators-loop-name : goal.invariant-copy_declarators-loop-name
invariant-copy_declarators-loop-name l = map declarator_shape l.copies.items ≡ map declarator_shape (take l.name-index l.names)

abbrev pub invariant-copy_lengths-loop-length : goal.invariant-copy_lengths-loop-length
invariant-copy_lengths-loop-length l = map maybe_node l.copies.items ≡ map maybe_node (take l.length-index l.lengths)

abbrev pub invariant-copy_param_list-loop-param : goal.invariant-copy_param_list-loop-param
invariant-copy_param_list-loop-param l = map param_shape l.copies.items ≡ map param_shape (take l.param-index l.list)

abbrev pub invariant-copy_init_list-loop-init : goal.invariant-copy_init_list-loop-init
invariant-copy_init_list-loop-init l = map init_shape l.copies.items ≡ map init_shape (take l.init-index l.list)
