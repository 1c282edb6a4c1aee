use Rattle.std.proofs.Common.{rules, ◌≡◌, ◌<◌, arith, suc, true, length, None, subst, ◌+◌, refl, ◌≤◌, false, ℕ, List, Some, IfOk, IsErrOf, MatchOption, ◌-◌, ◌*◌, ◌/◌, ◌%◌, Bool, nat_eq, nat_lt, [], ◌∷◌, ◌++◌, slice_index_or, slice_set, bit_and, bit_or, Fits, w8, w32, w64, Bor, MutBor, sym, ap, ◌∙◌}
use Rattle.c_parse_expr.proofs.SpecRead.{specs_further, specs_measured, fields_read, given_read, lengths_further, lengths_measured, type_lengths_further, type_lengths_measured, type_starless, type_unended}
use Rattle.c_syntax.specs.Levels.{decls_height, behind_height}
use Rattle.c_syntax.specs.Shaped.{in_members, name_fits, in_params}
use Rattle.c_syntax.specs.View.{decl_list, decl_form_shape, spec_list, declarator_shape, node_shape, init_shape, init_list, node_list}
use Rattle.c_grammar.specs.Look.{Finds, after}
use Rattle.c_grammar.specs.Starts.{is_spec, spec_head}
use Rattle.c_grammar.specs.Reader.{reads_decls, reads_declarator, reads, reads_lengths}
use Rattle.c_grammar.specs.ExprReader.{reads_stars}
use Rattle.c_grammar.specs.Found.{Found, NodeFound}
use Rattle.c_grammar.specs.Parts.{behind, declaring}
use Rattle.c_grammar.specs.CodeView.{standing_of, oper_of, infix_of, prefix_of}
use Rattle.c_parse_expr.proofs.DeclRead.{named_unended, params_first, params_first_measured, params_further, params_measured, param_unread, further_unread, decl_unread, decl_unended, decls_further, decls_measured, one_read, list_read, list_unclosed, inits_first, inits_first_measured, inits_further, inits_measured}
use Rattle.c_syntax.specs.Forms.{place}
use Rattle.c_syntax.specs.Shape.{listed, bare, node, prefix}
use Rattle.c_grammar.proofs.ListSteps.{one_item_more}
use Rattle.c_grammar.proofs.CodeSteps.{lengths_many, type_lengths_many}
use Rattle.c_parse_expr.proofs.ExprRead.{climb_more, climb_unread, climb_too_high, infix_read, prefix_read, takes_inner, level_inner, inside_unclosed, inside_too_many, choice_read, choice_unended, arguments_read, arguments_broken, arguments_unclosed, cast_read, cast_unended, mark_read, led_further, led_measured, led_ended, call_read, node_read, node_loose, node_unended, select_read, select_unread, simple_read, simple_unread, typed_read, typed_unclosed}
use Rattle.std.proofs.lemmas.Result.{IfOk-weaker}
use Rattle.c_syntax.specs.declared.token.Mark.TheVariants as marks
use Rattle.c_parse_expr.proofs.+reading.Goals as goal

pub spec::read_specs-loop-begin-preserved : goal.spec::read_specs-loop-begin-preserved
spec::read_specs-loop-begin-preserved t c =
    let same = c.in_ok-put.ensures.ok in
    record {
      low = omega (arith, c.higher-levels.ensures, c.in_ok-form.ensures.low, c.loop-begin.invariant.low);
      measured = specs_measured c.put.new.list.items c.in-Some.begin c.args.depth c.args.probes c.loop-begin.levels c.in_ok-form.own c.higher-levels.result c.loop-begin.list.items record { pos = c.first_place-pos.result; form = c.in_ok-form.form } c.in-Some.inside.now c.in_ok-form.behind.now c.in_ok-form.ensures.found c.loop-begin.invariant.measured same c.higher-levels.ensures;
      no_longer = omega (arith, c.in_ok-form.ensures.no_longer, c.in-Some.ensures.shorter, c.loop-begin.invariant.no_longer);
      on = specs_further c.put.new.list.items c.in-Some.begin c.args.depth c.args.probes c.in_ok-form.own c.loop-begin.list.items record { pos = c.first_place-pos.result; form = c.in_ok-form.form } c.args.input.now c.loop-begin.rest.now c.in-Some.inside.now c.in_ok-form.behind.now c.loop-begin.invariant.on c.in-Some.ensures.found c.in_ok-form.ensures.found c.first_place-pos.ensures same;
    }

pub spec::read_fields-returns-in-Some-clause-found : goal.spec::read_fields-returns-in-Some-clause-found
spec::read_fields-returns-in-Some-clause-found t c =
    let low : c.args.depth < 400 = search rules in
    let there : is_spec (spec_head c.args.input.now) ≡ true = search rules in
    let f : Found (reads_decls in_members (suc c.args.depth) c.args.probes) decls_height c.args.input.now (decl_list c.in_ok-list.list.items) c.in_ok-list.levels c.in_ok-list.behind.now = search rules in
    fields_read c.args.depth c.args.probes c.in_ok-list.levels (decl_list c.in_ok-list.list.items) c.args.input.now c.in_ok-list.behind.now c.in-Some.rest.now low there f c.in-Some.ensures.found

pub decl::read_named_behind-returns-clause-fails : goal.decl::read_named_behind-returns-clause-fails
decl::read_named_behind-returns-clause-fails t c = λ e.
    let b : name_fits (standing_of c.args.standing) c.in_ok-name.name ≡ true = search rules in
    let f : Found (behind (standing_of c.args.standing) c.args.depth c.args.probes (length c.args.stars.items)) (behind_height c.args.stars.items) c.in_ok-name.inside.now (decl_form_shape c.in_ok-form.form) c.in_ok-form.levels c.in_ok-form.behind.now = search rules in
    named_unended (standing_of c.args.standing) c.args.depth c.args.probes c.in_ok-form.levels c.args.stars.items c.in_ok-name.name (decl_form_shape c.in_ok-form.form) c.args.input.now c.in_ok-name.inside.now c.in_ok-form.behind.now c.in_ok-name.ensures.found b f (c.read_ending.ensures.fails e)

pub decl::read_params-loop-inside-init : goal.decl::read_params-loop-inside-init
decl::read_params-loop-inside-init t c =
    let same = c.in_ok-put.ensures.ok in
    record {
      low = c.in_ok-first.ensures.low;
      measured = params_first_measured c.put.new.list.items c.new-list.result.items c.args.depth c.args.probes c.in_ok-first.first_levels c.in_ok-first.first c.args.input.now c.in_ok-first.behind.now c.in_ok-first.ensures.found c.new-list.ensures.items same;
      no_longer = c.in_ok-first.ensures.no_longer;
      on = params_first c.put.new.list.items c.new-list.result.items c.args.depth c.args.probes c.in_ok-first.first_levels c.in_ok-first.first c.args.input.now c.in_ok-first.behind.now c.in_ok-first.ensures.found c.new-list.ensures.items same;
    }

pub decl::read_params-loop-inside-preserved : goal.decl::read_params-loop-inside-preserved
decl::read_params-loop-inside-preserved t c =
    let same = c.in_ok-put-2.ensures.ok in
    record {
      low = omega (arith, c.higher-levels.ensures, c.in_ok-param.ensures.low, c.loop-inside.invariant.low);
      measured = params_measured c.put-in-Some.new.list.items c.args.depth c.args.probes c.loop-inside.levels c.in_ok-param.own c.higher-levels.result c.loop-inside.list.items c.in_ok-param.param c.in-Some.inside.now c.in_ok-param.further.now c.in_ok-param.ensures.found c.loop-inside.invariant.measured same c.higher-levels.ensures;
      no_longer = omega (arith, c.in_ok-param.ensures.no_longer, c.in-Some.ensures.shorter, c.loop-inside.invariant.no_longer);
      on = params_further c.put-in-Some.new.list.items c.args.depth c.args.probes c.in_ok-param.own c.loop-inside.list.items c.in_ok-param.param c.args.input.now c.loop-inside.rest.now c.in-Some.inside.now c.in_ok-param.further.now c.loop-inside.invariant.on c.in-Some.ensures.found c.in_ok-param.ensures.found same;
    }

pub decl::read_param-returns-in_err-name-clause-fails : goal.decl::read_param-returns-in_err-name-clause-fails
decl::read_param-returns-in_err-name-clause-fails t c = λ e.
    let p : Finds (reads_declarator in_params c.args.depth c.args.probes) c.in_ok-specs.behind.now None = c.in_err-name.ensures.fails (search rules) in
    param_unread c.args.depth c.args.probes c.in_ok-specs.levels (spec_list c.in_ok-specs.specs.items) c.args.input.now c.in_ok-specs.behind.now c.in_ok-specs.ensures.found p

pub decl::read_further-returns-in_err-item-clause-fails : goal.decl::read_further-returns-in_err-item-clause-fails
decl::read_further-returns-in_err-item-clause-fails t c = λ e.
    let p : Finds (reads_declarator (standing_of c.args.standing) c.args.depth c.args.probes) c.in-Some.inside.now None = c.in_err-item.ensures.fails (search rules) in
    further_unread (standing_of c.args.standing) c.args.depth c.args.probes c.loop-inside.levels c.args.before.items c.loop-inside.list.items c.args.input.now c.loop-inside.rest.now c.in-Some.inside.now c.loop-inside.invariant.on c.in-Some.ensures.found p

pub decl::read_decl-returns-in_err-first-clause-fails : goal.decl::read_decl-returns-in_err-first-clause-fails
decl::read_decl-returns-in_err-first-clause-fails t c = λ e.
    let n : after marks.Semicolon c.in_ok-specs.behind.now ≡ None = search rules in
    let p : Finds (reads_declarator (standing_of c.args.standing) c.args.depth c.args.probes) c.in_ok-specs.behind.now None = c.in_err-first.ensures.fails (search rules) in
    decl_unread (standing_of c.args.standing) c.args.depth c.args.probes c.in_ok-specs.levels (spec_list c.in_ok-specs.specs.items) c.args.input.now c.in_ok-specs.behind.now c.in_ok-specs.ensures.found n p

pub decl::read_decl-returns-clause-fails : goal.decl::read_decl-returns-clause-fails
decl::read_decl-returns-clause-fails t c = λ e.
    let n : after marks.Semicolon c.in_ok-specs.behind.now ≡ None = search rules in
    let p : Finds (declaring (standing_of c.args.standing) c.args.depth c.args.probes (place c.args.input.now) (spec_list c.in_ok-specs.specs.items) (declarator_shape c.in_ok-first.first)) c.in_ok-first.inside.now None =
    subst (λ q. Finds (declaring (standing_of c.args.standing) c.args.depth c.args.probes q (spec_list c.in_ok-specs.specs.items) (declarator_shape c.in_ok-first.first)) c.in_ok-first.inside.now None) c.first_place-pos.ensures (c.read_names.ensures.fails e) in
    decl_unended (standing_of c.args.standing) c.args.depth c.args.probes c.in_ok-specs.levels c.in_ok-first.own (spec_list c.in_ok-specs.specs.items) (declarator_shape c.in_ok-first.first) c.args.input.now c.in_ok-specs.behind.now c.in_ok-first.inside.now c.in_ok-specs.ensures.found n c.in_ok-first.ensures.found p

pub decl::read_decls-loop-alloc-preserved : goal.decl::read_decls-loop-alloc-preserved
decl::read_decls-loop-alloc-preserved t c =
    let there : is_spec (spec_head c.loop-alloc.rest.now) ≡ true = search rules in
    let same = c.in_ok-put.ensures.ok in
    record {
      low = omega (arith, c.higher-levels.ensures, c.in_ok-item.ensures.low, c.loop-alloc.invariant.low);
      measured = decls_measured c.put.new.list.items (standing_of c.args.standing) c.args.depth c.args.probes c.loop-alloc.levels c.in_ok-item.own c.higher-levels.result c.loop-alloc.list.items c.in_ok-item.item c.loop-alloc.rest.now c.in_ok-item.behind.now c.in_ok-item.ensures.found c.loop-alloc.invariant.measured same c.higher-levels.ensures;
      no_longer = omega (arith, c.in_ok-item.ensures.shorter, c.loop-alloc.invariant.no_longer);
      on = decls_further c.put.new.list.items (standing_of c.args.standing) c.args.depth c.args.probes c.in_ok-item.own c.loop-alloc.list.items c.in_ok-item.item c.args.input.now c.loop-alloc.rest.now c.in_ok-item.behind.now c.loop-alloc.invariant.on there c.in_ok-item.ensures.found same;
    }

pub init::read_braced-returns-in-Some-clause-found : goal.init::read_braced-returns-in-Some-clause-found
init::read_braced-returns-in-Some-clause-found t c =
    let alike : init_shape c.new_list.result ≡ listed (place c.args.input.now) (init_list c.in_ok-list.list.items) c.in-Some.last = search rules in
    list_read c.args.depth c.args.probes c.in_ok-list.levels (c.in_ok-list.levels + 1) (init_list c.in_ok-list.list.items) c.in-Some.last (init_shape c.new_list.result) c.args.input.now c.args.inside.now c.in_ok-list.behind.now c.in-Some.rest.now c.requires.deep c.requires.begins c.in_ok-list.ensures.found c.in-Some.ensures.found alike refl

pub init::read_braced-returns-in-None-clause-fails : goal.init::read_braced-returns-in-None-clause-fails
init::read_braced-returns-in-None-clause-fails t c = λ e.
    list_unclosed c.args.depth c.args.probes c.in_ok-list.levels (init_list c.in_ok-list.list.items) c.args.input.now c.args.inside.now c.in_ok-list.behind.now c.requires.deep c.requires.begins c.in_ok-list.ensures.found c.in-None.ensures.found

pub init::read_init-returns-in_ok-node-in-None-clause-found : goal.init::read_init-returns-in_ok-node-in-None-clause-found
init::read_init-returns-in_ok-node-in-None-clause-found t c =
    let low : c.args.depth < 400 = search rules in
    one_read c.args.depth (c.args.depth + 1) c.args.probes (c.in_ok-node-in-None.size.levels + 1) (node_shape c.in_ok-node-in-None.node.value) (init_shape c.single_init.result) c.in_ok-node-in-None.size c.args.input.now c.in_ok-node-in-None.rest.now low c.in-None.ensures.found c.in_ok-node-in-None.ensures.found refl c.single_init.ensures refl

pub init::read_inits-loop-inside-init : goal.init::read_inits-loop-inside-init
init::read_inits-loop-inside-init t c =
    let same = c.in_ok-put.ensures.ok in
    record {
      low = omega (arith, c.in_ok-first.ensures.low);
      measured = inits_first_measured c.put.new.list.items c.new-list.result.items (c.args.depth + 1) c.args.probes c.in_ok-first.first_levels c.in_ok-first.first c.args.input.now c.in_ok-first.behind.now c.in_ok-first.ensures.found c.new-list.ensures.items same;
      no_longer = c.in_ok-first.ensures.no_longer;
      on = inits_first c.put.new.list.items c.new-list.result.items c.args.depth (c.args.depth + 1) c.args.probes c.in_ok-first.first_levels c.in_ok-first.first c.args.input.now c.in_ok-first.behind.now c.in_ok-first.ensures.found refl c.new-list.ensures.items same;
    }

pub init::read_inits-loop-inside-preserved : goal.init::read_inits-loop-inside-preserved
init::read_inits-loop-inside-preserved t c =
    let same = c.in_ok-put-2.ensures.ok in
    record {
      low = omega (arith, c.higher-levels.ensures, c.in_ok-item.ensures.low, c.loop-inside.invariant.low);
      measured = inits_measured c.put-in-Some.new.list.items (c.args.depth + 1) c.args.probes c.loop-inside.levels c.in_ok-item.own c.higher-levels.result c.loop-inside.list.items c.in_ok-item.item c.in-Some.inside.now c.in_ok-item.further.now c.in_ok-item.ensures.found c.loop-inside.invariant.measured same c.higher-levels.ensures;
      no_longer = omega (arith, c.in_ok-item.ensures.no_longer, c.in-Some.ensures.shorter, c.loop-inside.invariant.no_longer);
      on = inits_further c.put-in-Some.new.list.items c.args.depth (c.args.depth + 1) c.args.probes c.in_ok-item.own c.loop-inside.list.items c.in_ok-item.item c.args.input.now c.loop-inside.rest.now c.in-Some.inside.now c.in_ok-item.further.now c.loop-inside.invariant.on c.in-Some.ensures.found c.in_ok-item.ensures.found refl same;
    }

pub spec::read_given-returns-in-Some-clause-found : goal.spec::read_given-returns-in-Some-clause-found
spec::read_given-returns-in-Some-clause-found t c =
    let f : NodeFound (reads 2 (suc c.args.depth) c.args.probes) c.args.input.now (node_shape c.in_ok-node.node.value) c.in_ok-node.size c.in_ok-node.behind.now = search rules in
    given_read c.args.depth c.args.probes (node_shape c.in_ok-node.node.value) c.in_ok-node.size c.args.input.now c.in_ok-node.behind.now c.in-Some.rest.now c.requires.given f c.in-Some.ensures.found

pub spec::read_lengths-returns-then-count-depth-ge-MOST_LEVELS-clause-fails : goal.spec::read_lengths-returns-then-count-depth-ge-MOST_LEVELS-clause-fails
spec::read_lengths-returns-then-count-depth-ge-MOST_LEVELS-clause-fails t c = λ e.
    let high : 400 ≤ c.loop-inside.count + c.args.depth = search rules in
    lengths_many c.args.free c.args.depth c.args.probes c.loop-inside.count c.loop-inside.list.items c.args.input.now c.loop-inside.rest.now c.in-Some.inside.now c.loop-inside.invariant.on c.loop-inside.invariant.count c.in-Some.ensures.found high

pub spec::read_lengths-loop-inside-preserved : goal.spec::read_lengths-loop-inside-preserved
spec::read_lengths-loop-inside-preserved t c =
    let low : c.loop-inside.count + c.args.depth < 400 = search rules in
    let same = c.in_ok-put.ensures.ok in
    let more = one_item_more c.put.new.list.items c.loop-inside.list.items c.in_ok-length.length same in
    record {
      count = omega (arith, more, c.loop-inside.invariant.count);
      few = omega (arith, low);
      low = omega (arith, c.higher-levels.ensures, c.in_ok-length.ensures.low, c.loop-inside.invariant.low);
      measured = lengths_measured c.put.new.list.items c.args.free (c.loop-inside.count + c.args.depth) c.args.probes c.loop-inside.levels c.in_ok-length.own c.loop-inside.count c.higher-levels.result c.loop-inside.list.items c.in_ok-length.length c.in-Some.inside.now c.in_ok-length.behind.now c.in_ok-length.ensures.found c.loop-inside.invariant.measured c.loop-inside.invariant.count same c.higher-levels.ensures;
      no_longer = omega (arith, c.in_ok-length.ensures.no_longer, c.in-Some.ensures.shorter, c.loop-inside.invariant.no_longer);
      on = lengths_further c.put.new.list.items c.args.free c.args.depth c.args.probes c.in_ok-length.own c.loop-inside.count c.loop-inside.list.items c.in_ok-length.length c.args.input.now c.loop-inside.rest.now c.in-Some.inside.now c.in_ok-length.behind.now c.loop-inside.invariant.on c.loop-inside.invariant.count c.in-Some.ensures.found low c.in_ok-length.ensures.found same;
    }

pub spec::read_type_lengths-returns-then-count-depth-ge-MOST_LEVELS-clause-fails : goal.spec::read_type_lengths-returns-then-count-depth-ge-MOST_LEVELS-clause-fails
spec::read_type_lengths-returns-then-count-depth-ge-MOST_LEVELS-clause-fails t c = λ e.
    let high : 400 ≤ c.loop-inside.count + c.args.depth = search rules in
    type_lengths_many c.args.depth c.args.probes c.loop-inside.count c.loop-inside.list.items c.args.input.now c.loop-inside.rest.now c.in-Some.inside.now c.loop-inside.invariant.on c.loop-inside.invariant.count c.in-Some.ensures.found high

pub spec::read_type_lengths-loop-inside-preserved : goal.spec::read_type_lengths-loop-inside-preserved
spec::read_type_lengths-loop-inside-preserved t c =
    let low : c.loop-inside.count + c.args.depth < 400 = search rules in
    let same = c.in_ok-put_inner.ensures.ok in
    let more = one_item_more c.put_inner.new.list.items c.loop-inside.list.items c.in_ok-length.length.value same in
    record {
      count = omega (arith, more, c.loop-inside.invariant.count);
      few = omega (arith, low);
      low = omega (arith, c.higher-levels.ensures, c.in_ok-length.ensures.low, c.loop-inside.invariant.low);
      measured = type_lengths_measured c.put_inner.new.list.items (c.loop-inside.count + c.args.depth) c.args.probes c.loop-inside.levels c.in_ok-length.own c.loop-inside.count c.higher-levels.result c.loop-inside.list.items c.in_ok-length.length.value c.in-Some.inside.now c.in_ok-length.behind.now c.in_ok-length.ensures.found c.loop-inside.invariant.measured c.loop-inside.invariant.count same c.higher-levels.ensures;
      no_longer = omega (arith, c.in_ok-length.ensures.no_longer, c.in-Some.ensures.shorter, c.loop-inside.invariant.no_longer);
      on = type_lengths_further c.put_inner.new.list.items c.args.depth c.args.probes c.in_ok-length.own c.loop-inside.count c.loop-inside.list.items c.in_ok-length.length.value c.args.input.now c.loop-inside.rest.now c.in-Some.inside.now c.in_ok-length.behind.now c.loop-inside.invariant.on c.loop-inside.invariant.count c.in-Some.ensures.found low c.in_ok-length.ensures.found same;
    }

pub spec::read_type_name-returns-in_err-stars-clause-fails : goal.spec::read_type_name-returns-in_err-stars-clause-fails
spec::read_type_name-returns-in_err-stars-clause-fails t c = λ e.
    let p : Finds (reads_stars c.args.depth) c.in_ok-specs.behind.now None = c.in_err-stars.ensures.fails (search rules) in
    type_starless c.args.depth c.args.probes c.in_ok-specs.levels (spec_list c.in_ok-specs.specs.items) c.args.input.now c.in_ok-specs.behind.now c.in_ok-specs.ensures.found p

pub spec::read_type_name-returns-in_err-lengths-clause-fails : goal.spec::read_type_name-returns-in_err-lengths-clause-fails
spec::read_type_name-returns-in_err-lengths-clause-fails t c = λ e.
    let count : c.star_count-count.result ≡ length c.in_ok-stars.stars.items = search rules in
    let p : Finds (reads_lengths false (c.star_count-count.result + c.args.depth) c.args.probes) c.in_ok-stars.inside.now None = c.in_err-lengths.ensures.fails (search rules) in
    type_unended c.args.depth c.args.probes c.in_ok-specs.levels c.star_count-count.result (spec_list c.in_ok-specs.specs.items) c.in_ok-stars.stars.items c.args.input.now c.in_ok-specs.behind.now c.in_ok-stars.inside.now c.in_ok-specs.ensures.found c.in_ok-stars.ensures.found count p

pub expr::climb-returns-then-size-depth-ge-MOST_LEVELS-clause-fails : goal.expr::climb-returns-then-size-depth-ge-MOST_LEVELS-clause-fails
expr::climb-returns-then-size-depth-ge-MOST_LEVELS-clause-fails t c = λ e. climb_too_high c.args.least c.args.depth c.args.probes (node_shape c.args.first.value) (node_shape c.loop-op.node.value) c.loop-op.size.levels (oper_of c.in-Some.op) c.args.input.now c.loop-op.rest.now c.in-Some.behind.now c.loop-op.invariant.on (takes_inner _ _ _ _ _ _ c.deref.ensures c.in-Some.ensures.found) c.loop-op.invariant.measured.levels (search rules)

pub expr::climb-returns-in_err-grown-clause-fails : goal.expr::climb-returns-in_err-grown-clause-fails
expr::climb-returns-in_err-grown-clause-fails t c = λ e. climb_unread c.args.least c.args.depth c.args.probes c.first_place-op_pos.result (node_shape c.args.first.value) (node_shape c.loop-op.node.value) c.loop-op.size.levels (oper_of c.in-Some.op) c.args.input.now c.loop-op.rest.now c.in-Some.behind.now c.loop-op.invariant.on (takes_inner _ _ _ _ _ _ c.deref.ensures c.in-Some.ensures.found) c.loop-op.invariant.measured.levels (search rules) c.first_place-op_pos.ensures (c.in_err-grown.ensures.fails (search rules))

pub expr::climb-loop-op-preserved : goal.expr::climb-loop-op-preserved
expr::climb-loop-op-preserved t c = record {
  low = c.in_ok-grown.ensures.low;
  measured = c.in_ok-grown.ensures.found.size;
  no_longer = search rules;
  on = climb_more c.args.least c.args.depth c.args.probes c.first_place-op_pos.result (node_shape c.args.first.value) (node_shape c.loop-op.node.value) (node_shape c.in_ok-grown.grown.value) c.loop-op.size.levels c.in_ok-grown.grown_size (oper_of c.in-Some.op) c.args.input.now c.loop-op.rest.now c.in-Some.behind.now c.in_ok-grown.further.now c.loop-op.invariant.on (takes_inner _ _ _ _ _ _ c.deref.ensures c.in-Some.ensures.found) c.loop-op.invariant.measured.levels (search rules) c.first_place-op_pos.ensures c.in_ok-grown.ensures.found;
}

pub expr::grow_choice-returns-in_err-no-clause-fails : goal.expr::grow_choice-returns-in_err-no-clause-fails
expr::grow_choice-returns-in_err-no-clause-fails t c = λ e. choice_unended c.args.depth c.args.probes (node_shape c.args.left.value) _ _ c.args.op_pos _ _ c.in_ok-yes.ensures.found (c.in_err-no.ensures.fails (search rules))

pub expr::grow_choice-returns-clause-found : goal.expr::grow_choice-returns-clause-found
expr::grow_choice-returns-clause-found t c = choice_read c.args.depth c.args.probes (node_shape c.args.left.value) _ _ _ _ _ _ _ _ _ c.args.op_pos _ _ _ c.in_ok-yes.ensures.found c.in_ok-no.ensures.found c.requires.measured c.in_ok-choice_node.ensures.ok c.higher.ensures c.higher-2.ensures c.above-all.ensures.levels c.above-all.ensures.probes

pub operand::read_arguments-returns-in_err-args-clause-fails : goal.operand::read_arguments-returns-in_err-args-clause-fails
operand::read_arguments-returns-in_err-args-clause-fails t c = λ e. arguments_broken _ _ _ _ _ _ _ _ c.in_default.ensures.found c.in_ok-first.ensures.found c.new-args.ensures.items c.in_ok-put_inner.ensures.ok (c.in_err-args.ensures.fails (search rules))

pub operand::read_arguments-returns-in-Some-past-clause-found : goal.operand::read_arguments-returns-in-Some-past-clause-found
operand::read_arguments-returns-in-Some-past-clause-found t c = arguments_read _ _ _ _ _ _ _ _ _ _ _ _ c.in_default.ensures.found c.in_ok-first.ensures.found c.new-args.ensures.items c.in_ok-put_inner.ensures.ok c.in_ok-args.ensures.found c.in-Some-past.ensures.found

pub operand::read_arguments-returns-in-None-clause-fails : goal.operand::read_arguments-returns-in-None-clause-fails
operand::read_arguments-returns-in-None-clause-fails t c = λ e. arguments_unclosed _ _ _ _ _ _ _ _ _ _ _ c.in_default.ensures.found c.in_ok-first.ensures.found c.new-args.ensures.items c.in_ok-put_inner.ensures.ok c.in_ok-args.ensures.found c.in-None.ensures.found

pub operand::read_cast-returns-in_err-operand-clause-fails : goal.operand::read_cast-returns-in_err-operand-clause-fails
operand::read_cast-returns-in_err-operand-clause-fails t c = λ e. cast_unended _ _ _ _ _ _ _ _ c.requires.begins c.requires.type_there c.in_ok-type_name.ensures.found (c.in_err-operand.ensures.fails (search rules))

pub operand::read_cast-returns-clause-found : goal.operand::read_cast-returns-clause-found
operand::read_cast-returns-clause-found t c = cast_read _ _ _ _ _ _ _ _ _ _ _ _ _ _ _ c.requires.begins c.requires.type_there c.in_ok-type_name.ensures.found c.in_ok-operand.ensures.found c.first_place.ensures c.in_ok-node.ensures.ok c.higher.ensures c.above-all.ensures.levels c.above-all.ensures.probes

pub operand::read_closed-returns-in-Some-clause-found : goal.operand::read_closed-returns-in-Some-clause-found
operand::read_closed-returns-in-Some-clause-found t c = mark_read c.args.mark c.args.depth c.args.probes _ _ _ _ _ c.in_ok-inner.ensures.found c.in-Some.ensures.found

pub operand::read_led-loop-inside-preserved : goal.operand::read_led-loop-inside-preserved
operand::read_led-loop-inside-preserved t c = record {
  low = search rules;
  measured = led_measured _ _ _ _ _ _ _ _ _ _ _ c.in_ok-node.ensures.found c.loop-inside.invariant.measured c.in_ok-put_inner.ensures.ok c.higher.ensures c.higher-in-Some.ensures;
  no_longer = search rules;
  on = led_further _ _ _ _ _ _ _ _ _ _ _ _ c.loop-inside.invariant.on c.in-Some.ensures.found c.in_ok-node.ensures.found c.in_ok-put_inner.ensures.ok;
}

pub operand::read_led-returns-clause-found : goal.operand::read_led-returns-clause-found
operand::read_led-returns-clause-found t c = led_ended _ _ _ _ _ _ _ _ c.loop-inside.invariant.on c.loop-inside.invariant.measured c.in_default.ensures.found

pub operand::read_name-returns-in_ok-call_node-in-Some-clause-found : goal.operand::read_name-returns-in_ok-call_node-in-Some-clause-found
operand::read_name-returns-in_ok-call_node-in-Some-clause-found t c = call_read _ _ _ _ _ _ _ _ _ _ _ _ c.requires.begins c.in-Some.ensures.found c.in_ok-args-in-Some.ensures.found c.first_place-pos.ensures c.in_ok-call_node-in-Some.ensures.ok c.above-in-Some.ensures.levels c.above-in-Some.ensures.probes

pub expr::read_node-returns-then-level_of-least-clause-fails : goal.expr::read_node-returns-then-level_of-least-clause-fails
expr::read_node-returns-then-level_of-least-clause-fails t c = λ e. node_loose _ _ _ _ _ _ _ _ (search rules) c.in_ok-first.ensures.found (level_inner _ _ _ c.deref.ensures c.level_of.ensures.value) (search rules)

pub expr::read_node-returns-clause-found : goal.expr::read_node-returns-clause-found
expr::read_node-returns-clause-found t c = IfOk-weaker c.climb.result _ _ (λ p f. node_read _ _ _ _ _ _ _ _ _ _ _ (search rules) c.in_ok-first.ensures.found (level_inner _ _ _ c.deref.ensures c.level_of.ensures.value) (search rules) f) c.climb.ensures.found

pub expr::read_node-returns-clause-fails : goal.expr::read_node-returns-clause-fails
expr::read_node-returns-clause-fails t c = λ e. node_unended _ _ _ _ _ _ _ _ (search rules) c.in_ok-first.ensures.found (level_inner _ _ _ c.deref.ensures c.level_of.ensures.value) (search rules) (c.climb.ensures.fails e)

pub operand::read_typed-returns-in-None-clause-fails : goal.operand::read_typed-returns-in-None-clause-fails
operand::read_typed-returns-in-None-clause-fails t c = λ e. typed_unclosed _ _ _ _ _ _ c.in_ok-type_name.ensures.found c.in-None.ensures.found

pub operand::read_typed-returns-in-Some-clause-found : goal.operand::read_typed-returns-in-Some-clause-found
operand::read_typed-returns-in-Some-clause-found t c = typed_read _ _ _ _ _ _ _ c.in_ok-type_name.ensures.found c.in-Some.ensures.found

pub operand::read_select-returns-clause-found : goal.operand::read_select-returns-clause-found
operand::read_select-returns-clause-found t c = select_read _ _ _ _ _ _ _ _ _ _ _ _ _ _ _ c.requires.begins c.first_place.ensures (search rules) c.in-Some.ensures.found c.in_ok-cases.ensures.found c.in-Some-past.ensures.found c.in_ok-inner.ensures.found c.in_ok-node.ensures.ok

pub operand::read_select-returns-in_err-inner-clause-fails : goal.operand::read_select-returns-in_err-inner-clause-fails
operand::read_select-returns-in_err-inner-clause-fails t c = λ e. select_unread _ _ _ _ _ _ _ _ _ _ c.requires.begins (search rules) c.in-Some.ensures.found c.in_ok-cases.ensures.found c.in-Some-past.ensures.found (c.in_err-inner.ensures.fails (search rules))

pub operand::read_simple-returns-clause-found : goal.operand::read_simple-returns-clause-found
operand::read_simple-returns-clause-found t c = simple_read _ _ _ _ _ _ _ _ _ _ _ _ _ _ _ c.requires.begins c.first_place.ensures (search rules) c.in-Some.ensures.found c.in-Some-past.ensures.found c.probe_bound-least.ensures.value refl refl c.in_ok-inner.ensures.found c.in_ok-node.ensures.ok

pub operand::read_simple-returns-in_err-inner-clause-fails : goal.operand::read_simple-returns-in_err-inner-clause-fails
operand::read_simple-returns-in_err-inner-clause-fails t c = λ e. simple_unread _ _ _ _ _ _ _ _ _ _ c.requires.begins (search rules) c.in-Some.ensures.found c.in-Some-past.ensures.found c.probe_bound-least.ensures.value refl refl (c.in_err-inner.ensures.fails (search rules))

pub expr::grow_infix-returns-clause-found : goal.expr::grow_infix-returns-clause-found
expr::grow_infix-returns-clause-found t c = infix_read c.args.depth c.args.probes _ (node_shape c.args.left.value) _ _ _ _ _ _ c.args.op_pos (infix_of c.args.op) _ _ c.right_bound.ensures.value c.in_ok-right.ensures.found c.requires.measured c.in_ok-infix_node.ensures.ok c.higher.ensures c.above-all.ensures.levels c.above-all.ensures.probes

pub operand::read_prefix-returns-in_ok-node-in-None-clause-found : goal.operand::read_prefix-returns-in_ok-node-in-None-clause-found
operand::read_prefix-returns-in_ok-node-in-None-clause-found t c = prefix_read c.args.depth c.args.probes _ (node_shape c.in_ok-operand-in-None.operand.value) _ _ _ (prefix_of c.args.op) _ _ _ c.requires.begins c.in-None.ensures.found c.prefix_bound.ensures.value c.in_ok-operand-in-None.ensures.found (c.in_ok-node-in-None.ensures.ok ∙ ap (λ q. node q q bare (prefix (prefix_of c.args.op) (node_shape c.in_ok-operand-in-None.operand.value))) c.first_place-pos.ensures) c.above-in-None.ensures.levels c.above-in-None.ensures.probes

pub operand::read_inside-returns-in_default-clause-fails : goal.operand::read_inside-returns-in_default-clause-fails
operand::read_inside-returns-in_default-clause-fails t c = λ e. inside_unclosed _ _ _ _ c.args.cases _ _ _ c.in_ok-inner.ensures.found c.in_default.ensures.found

pub operand::read_inside-returns-in-None-clause-fails : goal.operand::read_inside-returns-in-None-clause-fails
operand::read_inside-returns-in-None-clause-fails t c = λ e. inside_too_many _ _ _ _ c.args.cases _ _ _ _ c.in_ok-inner.ensures.found c.in-Some.ensures.found c.in-None.ensures.few
