use Rattle.std.proofs.Common.{◌≡◌, drop}
use Rattle.c_syntax.specs.View.{decl_list, declarator_list, enumer_list, init_list, lengths_list, node_list, param_list, spec_list, type_lengths_list}
use Rattle.c_sites_probes.specs.Owned.{own_declarators, own_decls, own_enumers, own_inits, own_lengths, own_nodes, own_specs}
use Rattle.c_sites_probes.proofs.owned.+owned.Given as goal

abbrev pub invariant-own_nodes-loop-node : goal.invariant-own_nodes-loop-node
invariant-own_nodes-loop-node l = own_nodes l.owner (node_list (drop l.node-index l.nodes)) l.out.items ≡ own_nodes l.owner (node_list l.nodes) l.initial.out.items

abbrev pub invariant-own_lengths-loop-length : goal.invariant-own_lengths-loop-length
invariant-own_lengths-loop-length l = own_lengths l.owner (lengths_list (drop l.length-index l.lengths)) l.out.items ≡ own_lengths l.owner (lengths_list l.lengths) l.initial.out.items

abbrev pub invariant-own_type_lengths-loop-node : goal.invariant-own_type_lengths-loop-node
invariant-own_type_lengths-loop-node l = own_lengths l.owner (type_lengths_list (drop l.node-index l.nodes)) l.out.items ≡ own_lengths l.owner (type_lengths_list l.nodes) l.initial.out.items

abbrev pub invariant-own_specs-loop-spec : goal.invariant-own_specs-loop-spec
invariant-own_specs-loop-spec l = own_specs l.owner (spec_list (drop l.spec-index l.specs)) l.out.items ≡ own_specs l.owner (spec_list l.specs) l.initial.out.items

abbrev pub invariant-own_enumers-loop-row : goal.invariant-own_enumers-loop-row
invariant-own_enumers-loop-row l = own_enumers l.owner (enumer_list (drop l.row-index l.rows)) l.out.items ≡ own_enumers l.owner (enumer_list l.rows) l.initial.out.items

abbrev pub invariant-own_decls-loop-decl : goal.invariant-own_decls-loop-decl
invariant-own_decls-loop-decl l = own_decls l.owner (decl_list (drop l.decl-index l.decls)) l.out.items ≡ own_decls l.owner (decl_list l.decls) l.initial.out.items

abbrev pub invariant-own_declarators-loop-name : goal.invariant-own_declarators-loop-name
invariant-own_declarators-loop-name l = own_declarators l.owner (declarator_list (drop l.name-index l.names)) l.out.items ≡ own_declarators l.owner (declarator_list l.names) l.initial.out.items

abbrev pub invariant-own_param_list-loop-param : goal.invariant-own_param_list-loop-param
invariant-own_param_list-loop-param l = own_decls l.owner (param_list (drop l.param-index l.list)) l.out.items ≡ own_decls l.owner (param_list l.list) l.initial.out.items

abbrev pub invariant-own_inits-loop-init : goal.invariant-own_inits-loop-init
invariant-own_inits-loop-init l = own_inits l.owner (init_list (drop l.init-index l.list)) l.out.items ≡ own_inits l.owner (init_list l.list) l.initial.out.items
