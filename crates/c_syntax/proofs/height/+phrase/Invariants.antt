use Rattle.std.proofs.Common.{◌≡◌, ◌+◌, ◌≤◌, max, drop}
use Rattle.c_syntax.specs.View.{decl_list, declarator_list, enumer_list, init_list, lengths_list, node_list, param_list, spec_list, type_lengths_list}
use Rattle.c_syntax.specs.Levels.{declarators_height, decls_height, enumers_height, inits_height, lengths_height, nodes_height, specs_height}
use Rattle.c_syntax.proofs.height.+phrase.Given as goal

abbrev pub invariant-nodes_height-loop-node : goal.invariant-nodes_height-loop-node
invariant-nodes_height-loop-node l = max l.most (nodes_height (node_list (drop l.node-index l.nodes))) ≡ nodes_height (node_list l.nodes)

abbrev pub invariant-specs_height-loop-spec : goal.invariant-specs_height-loop-spec
invariant-specs_height-loop-spec l = max l.most (specs_height (spec_list (drop l.spec-index l.specs))) ≡ specs_height (spec_list l.specs)

abbrev pub invariant-enumers_height-loop-row : goal.invariant-enumers_height-loop-row
invariant-enumers_height-loop-row l = max l.most (enumers_height (enumer_list (drop l.row-index l.rows))) ≡ enumers_height (enumer_list l.rows)

abbrev pub invariant-decls_height-loop-decl : goal.invariant-decls_height-loop-decl
invariant-decls_height-loop-decl l = max l.most (decls_height (decl_list (drop l.decl-index l.decls))) ≡ decls_height (decl_list l.decls)

abbrev pub invariant-declarators_height-loop-name : goal.invariant-declarators_height-loop-name
invariant-declarators_height-loop-name l = max l.most (declarators_height (declarator_list (drop l.name-index l.names))) ≡ declarators_height (declarator_list l.names)

abbrev pub invariant-param_list_height-loop-param : goal.invariant-param_list_height-loop-param
invariant-param_list_height-loop-param l = max l.most (decls_height (param_list (drop l.param-index l.list))) ≡ decls_height (param_list l.list)

abbrev pub invariant-inits_height-loop-init : goal.invariant-inits_height-loop-init
invariant-inits_height-loop-init l = max l.most (inits_height (init_list (drop l.init-index l.list))) ≡ inits_height (init_list l.list)

abbrev pub invariant-type_lengths_height-loop-node : goal.invariant-type_lengths_height-loop-node
invariant-type_lengths_height-loop-node l = record {
  so_far : max l.most (l.depth + lengths_height (type_lengths_list (drop l.node-index l.nodes))) ≡ lengths_height (type_lengths_list l.nodes);
  enough : l.depth ≤ l.most;
}

abbrev pub invariant-lengths_height-loop-length : goal.invariant-lengths_height-loop-length
invariant-lengths_height-loop-length l = record {
  so_far : max l.most (l.depth + lengths_height (lengths_list (drop l.length-index l.lengths))) ≡ lengths_height (lengths_list l.lengths);
  enough : l.depth ≤ l.most;
}
