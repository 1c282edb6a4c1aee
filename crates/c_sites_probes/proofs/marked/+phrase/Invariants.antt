use Rattle.std.proofs.Common.{◌≡◌, drop}
use Rattle.c_syntax.specs.View.{decl_list, declarator_list, enumer_list, init_list, lengths_list, node_list, param_list, spec_list, type_lengths_list}
use Rattle.c_sites_probes.specs.Marked.{declarators_mark, decls_mark, enumers_mark, inits_mark, lengths_mark, nodes_mark, specs_mark}
use Rattle.c_sites_probes.proofs.marked.+phrase.Given as goal

abbrev pub invariant-nodes_mark-loop-node : goal.invariant-nodes_mark-loop-node
invariant-nodes_mark-loop-node l = nodes_mark (node_list (drop l.node-index l.nodes)) ≡ nodes_mark (node_list l.nodes)

abbrev pub invariant-lengths_mark-loop-length : goal.invariant-lengths_mark-loop-length
invariant-lengths_mark-loop-length l = lengths_mark (lengths_list (drop l.length-index l.lengths)) ≡ lengths_mark (lengths_list l.lengths)

abbrev pub invariant-type_lengths_mark-loop-node : goal.invariant-type_lengths_mark-loop-node
invariant-type_lengths_mark-loop-node l = lengths_mark (type_lengths_list (drop l.node-index l.nodes)) ≡ lengths_mark (type_lengths_list l.nodes)

abbrev pub invariant-specs_mark-loop-spec : goal.invariant-specs_mark-loop-spec
invariant-specs_mark-loop-spec l = specs_mark (spec_list (drop l.spec-index l.specs)) ≡ specs_mark (spec_list l.specs)

abbrev pub invariant-enumers_mark-loop-row : goal.invariant-enumers_mark-loop-row
invariant-enumers_mark-loop-row l = enumers_mark (enumer_list (drop l.row-index l.rows)) ≡ enumers_mark (enumer_list l.rows)

abbrev pub invariant-decls_mark-loop-decl : goal.invariant-decls_mark-loop-decl
invariant-decls_mark-loop-decl l = decls_mark (decl_list (drop l.decl-index l.decls)) ≡ decls_mark (decl_list l.decls)

abbrev pub invariant-declarators_mark-loop-name : goal.invariant-declarators_mark-loop-name
invariant-declarators_mark-loop-name l = declarators_mark (declarator_list (drop l.name-index l.names)) ≡ declarators_mark (declarator_list l.names)

abbrev pub invariant-param_list_mark-loop-param : goal.invariant-param_list_mark-loop-param
invariant-param_list_mark-loop-param l = decls_mark (param_list (drop l.param-index l.list)) ≡ decls_mark (param_list l.list)

abbrev pub invariant-inits_mark-loop-init : goal.invariant-inits_mark-loop-init
invariant-inits_mark-loop-init l = inits_mark (init_list (drop l.init-index l.list)) ≡ inits_mark (init_list l.list)
