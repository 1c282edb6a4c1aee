use Rattle.std.proofs.Common.{◌≡◌, ◌++◌, drop}
use Rattle.c_syntax.specs.Forms.{kinds}
use Rattle.c_syntax.specs.View.{decl_list, declarator_list, enumer_list, init_list, lengths_list, node_list, param_list, spec_list, type_lengths_list}
use Rattle.c_syntax.specs.Grammar.{decls_form, led_declarators_form, led_enumers_form, led_inits_form, led_nodes_form, led_params_form, lengths_form, specs_form}
use Rattle.c_syntax.proofs.phrases.+phrase.Given as goal

abbrev pub invariant-put_nodes-loop-node : goal.invariant-put_nodes-loop-node
invariant-put_nodes-loop-node l = l.out ++ kinds (led_nodes_form (node_list (drop l.node-index l.rest))) ≡ l.initial.out ++ kinds (led_nodes_form (node_list l.rest))

abbrev pub invariant-put_select-loop-node : goal.invariant-put_select-loop-node
invariant-put_select-loop-node l = l.out ++ kinds (led_nodes_form (node_list (drop l.node-index l.cases))) ≡ l.initial.out ++ kinds (led_nodes_form (node_list l.cases))

abbrev pub invariant-put_type_lengths-loop-node : goal.invariant-put_type_lengths-loop-node
invariant-put_type_lengths-loop-node l = l.out ++ kinds (lengths_form (type_lengths_list (drop l.node-index l.nodes))) ≡ l.initial.out ++ kinds (lengths_form (type_lengths_list l.nodes))

abbrev pub invariant-put_specs-loop-spec : goal.invariant-put_specs-loop-spec
invariant-put_specs-loop-spec l = l.out ++ kinds (specs_form (spec_list (drop l.spec-index l.specs))) ≡ l.initial.out ++ kinds (specs_form (spec_list l.specs))

abbrev pub invariant-put_enumers-loop-row : goal.invariant-put_enumers-loop-row
invariant-put_enumers-loop-row l = l.out ++ kinds (led_enumers_form (enumer_list (drop l.row-index l.rest))) ≡ l.initial.out ++ kinds (led_enumers_form (enumer_list l.rest))

abbrev pub invariant-put_decls-loop-decl : goal.invariant-put_decls-loop-decl
invariant-put_decls-loop-decl l = l.out ++ kinds (decls_form (decl_list (drop l.decl-index l.decls))) ≡ l.initial.out ++ kinds (decls_form (decl_list l.decls))

abbrev pub invariant-put_declarators-loop-name : goal.invariant-put_declarators-loop-name
invariant-put_declarators-loop-name l = l.out ++ kinds (led_declarators_form (declarator_list (drop l.name-index l.rest))) ≡ l.initial.out ++ kinds (led_declarators_form (declarator_list l.rest))

abbrev pub invariant-put_lengths-loop-length : goal.invariant-put_lengths-loop-length
invariant-put_lengths-loop-length l = l.out ++ kinds (lengths_form (lengths_list (drop l.length-index l.lengths))) ≡ l.initial.out ++ kinds (lengths_form (lengths_list l.lengths))

abbrev pub invariant-put_param_list-loop-param : goal.invariant-put_param_list-loop-param
invariant-put_param_list-loop-param l = l.out ++ kinds (led_params_form (param_list (drop l.param-index l.rest))) ≡ l.initial.out ++ kinds (led_params_form (param_list l.rest))

abbrev pub invariant-put_inits-loop-init : goal.invariant-put_inits-loop-init
invariant-put_inits-loop-init l = l.out ++ kinds (led_inits_form (init_list (drop l.init-index l.rest))) ≡ l.initial.out ++ kinds (led_inits_form (init_list l.rest))
