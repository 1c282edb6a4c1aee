use Rattle.std.proofs.Common.{rules, refl, ap, ◌∙◌}
use Rattle.c_syntax.specs.Forms.{place}
use Rattle.c_syntax.specs.Shape.{stmt}
use Rattle.c_syntax.specs.View.{form_shape, stmt_shape}
use Rattle.c_grammar_stmt.proofs.StmtSteps.{stmt_fails}
use Rattle.c_grammar_stmt.proofs.StmtRead.{while_read, while_unread, when_read, either_read, if_unread, else_unread, do_read, do_bare, do_unread, do_open, for_read, for_unread, switch_read, switch_braceless, switch_unread, switch_unclosed, compound_read, compound_unread, compound_unclosed, item_plain, item_labelled, item_plain_unread, item_labelled_unread, items_measured, items_further, where_ok, braced_read, at_if, at_while, at_do, at_for, at_switch, stmt_read}
use Rattle.c_parse_stmt.proofs.stmt.+statements.Goals as goal

pub read_while-returns-in_err-body-clause-fails : goal.read_while-returns-in_err-body-clause-fails
read_while-returns-in_err-body-clause-fails t c = λ e.
    while_unread _ _ _ _ _ c.in_ok-test.ensures.found (c.in_err-body.ensures.fails (search rules))

pub read_while-returns-clause-found : goal.read_while-returns-clause-found
read_while-returns-clause-found t c = while_read _ _ _ _ _ _ _ _ _ _ c.in_ok-test.ensures.found c.in_ok-body.ensures.found c.while_form.ensures (search rules)

pub read_if-returns-in_err-body-clause-fails : goal.read_if-returns-in_err-body-clause-fails
read_if-returns-in_err-body-clause-fails t c = λ e.
    if_unread _ _ _ _ _ c.in_ok-test.ensures.found (c.in_err-body.ensures.fails (search rules))

pub read_if-returns-in_default-clause-found : goal.read_if-returns-in_default-clause-found
read_if-returns-in_default-clause-found t c = when_read _ _ _ _ _ _ _ _ _ _ c.in_ok-test.ensures.found c.in_ok-body.ensures.found c.in_default.ensures.found c.when_form.ensures (search rules)

pub read_if-returns-in_err-last-clause-fails : goal.read_if-returns-in_err-last-clause-fails
read_if-returns-in_err-last-clause-fails t c = λ e.
    else_unread _ _ _ _ _ _ _ _ _ c.in_ok-test.ensures.found c.in_ok-body.ensures.found c.in-Some.ensures.found (c.in_err-last.ensures.fails (search rules))

pub read_if-returns-clause-found : goal.read_if-returns-clause-found
read_if-returns-clause-found t c = either_read _ _ _ _ c.higher.result _ _ _ _ _ _ _ _ _ _ c.in_ok-test.ensures.found c.in_ok-body.ensures.found c.in-Some.ensures.found c.in_ok-last.ensures.found c.either_form.ensures (search rules) (search rules)

pub read_do-returns-in_default-clause-fails : goal.read_do-returns-in_default-clause-fails
read_do-returns-in_default-clause-fails t c = λ e.
    do_bare _ _ _ _ _ c.in_ok-body.ensures.found c.in_default.ensures.found

pub read_do-returns-in_err-test-clause-fails : goal.read_do-returns-in_err-test-clause-fails
read_do-returns-in_err-test-clause-fails t c = λ e.
    do_unread _ _ _ _ _ _ c.in_ok-body.ensures.found c.in-Some.ensures.found (c.in_err-test.ensures.fails (search rules))

pub read_do-returns-in_default-past-clause-fails : goal.read_do-returns-in_default-past-clause-fails
read_do-returns-in_default-past-clause-fails t c = λ e.
    do_open _ _ _ _ _ _ _ _ _ c.in_ok-body.ensures.found c.in-Some.ensures.found c.in_ok-test.ensures.found c.in_default-past.ensures.found

pub read_do-returns-clause-found : goal.read_do-returns-clause-found
read_do-returns-clause-found t c = do_read _ _ _ _ _ _ _ _ _ _ _ _ c.in_ok-body.ensures.found c.in-Some.ensures.found c.in_ok-test.ensures.found c.in-Some-past.ensures.found c.do_form.ensures (search rules)

pub read_for-returns-in_err-body-clause-fails : goal.read_for-returns-in_err-body-clause-fails
read_for-returns-in_err-body-clause-fails t c = λ e.
    for_unread _ _ _ _ _ _ _ c.in_ok-head.ensures.found (c.in_err-body.ensures.fails (search rules))

pub read_for-returns-clause-found : goal.read_for-returns-clause-found
read_for-returns-clause-found t c = for_read _ _ _ _ _ _ _ _ _ _ _ _ c.in_ok-head.ensures.found c.in_ok-body.ensures.found c.for_form.ensures (search rules)

pub read_switch-returns-in_default-clause-fails : goal.read_switch-returns-in_default-clause-fails
read_switch-returns-in_default-clause-fails t c = λ e.
    switch_braceless _ _ _ _ _ c.in_ok-test.ensures.found c.in_default.ensures.found

pub read_switch-returns-in_err-items-clause-fails : goal.read_switch-returns-in_err-items-clause-fails
read_switch-returns-in_err-items-clause-fails t c = λ e.
    switch_unread _ _ _ _ _ _ c.in_ok-test.ensures.found c.in-Some.ensures.found (c.in_err-items.ensures.fails (search rules))

pub read_switch-returns-in_default-past-clause-fails : goal.read_switch-returns-in_default-past-clause-fails
read_switch-returns-in_default-past-clause-fails t c = λ e.
    switch_unclosed _ _ _ _ _ _ _ _ _ c.in_ok-test.ensures.found c.in-Some.ensures.found c.in_ok-items.ensures.found c.in_default-past.ensures.found

pub read_switch-returns-clause-found : goal.read_switch-returns-clause-found
read_switch-returns-clause-found t c = switch_read _ _ _ _ _ _ _ _ _ _ _ _ c.in_ok-test.ensures.found c.in-Some.ensures.found c.in_ok-items.ensures.found c.in-Some-past.ensures.found (search rules) (search rules)

pub read_compound-returns-in_err-items-clause-fails : goal.read_compound-returns-in_err-items-clause-fails
read_compound-returns-in_err-items-clause-fails t c = λ e.
    compound_unread _ _ _ _ _ _ (search rules) c.in_ok-decls.ensures.found (c.in_err-items.ensures.fails (search rules))

pub read_compound-returns-in_default-clause-fails : goal.read_compound-returns-in_default-clause-fails
read_compound-returns-in_default-clause-fails t c = λ e.
    compound_unclosed _ _ _ _ _ _ _ _ _ (search rules) c.in_ok-decls.ensures.found c.in_ok-items.ensures.found c.in_default.ensures.found

pub read_compound-returns-clause-found : goal.read_compound-returns-clause-found
read_compound-returns-clause-found t c = compound_read _ _ _ c.higher-levels.result _ _ _ _ _ _ _ _ _ (search rules) c.in_ok-decls.ensures.found c.in_ok-items.ensures.found c.in-Some.ensures.found (search rules) (search rules) (search rules)

pub read_item-returns-in_err-stmt-clause-fails : goal.read_item-returns-in_err-stmt-clause-fails
read_item-returns-in_err-stmt-clause-fails t c = λ e.
    item_plain_unread _ _ _ _ _ c.requires.more c.in_ok-labels.ensures.found (search rules) (c.in_err-stmt.ensures.fails (search rules))

pub read_item-returns-then-is_empty-clause-found : goal.read_item-returns-then-is_empty-clause-found
read_item-returns-then-is_empty-clause-found t c = item_plain _ _ _ _ _ _ _ _ c.requires.more c.in_ok-labels.ensures.found (search rules) c.into_inner-stmt.ensures c.in_ok-stmt.ensures.found

pub read_item-returns-in_err-stmt-2-clause-fails : goal.read_item-returns-in_err-stmt-2-clause-fails
read_item-returns-in_err-stmt-2-clause-fails t c = λ e.
    item_labelled_unread _ _ _ _ _ c.requires.more c.in_ok-labels.ensures.found (search rules) (c.in_err-stmt-2.ensures.fails (search rules))

pub read_item-returns-clause-found : goal.read_item-returns-clause-found
read_item-returns-clause-found t c = item_labelled _ _ _ c.higher-levels.result _ _ _ _ _ _ c.requires.more c.in_ok-labels.ensures.found (search rules) c.into_inner-stmt-2.ensures c.in_ok-stmt-2.ensures.found (search rules) (search rules)

pub read_items-loop-alloc-preserved : goal.read_items-loop-alloc-preserved
read_items-loop-alloc-preserved t c = record {
  low = search rules;
  measured = items_measured _ _ _ _ _ _ _ _ _ c.loop-alloc.invariant.measured c.in_ok-item.ensures.found (search rules) c.in_ok-put.ensures.ok;
  no_longer = search rules;
  on = items_further _ _ _ _ _ _ _ _ c.loop-alloc.invariant.on c.in_ok-item.ensures.found c.in_ok-put.ensures.ok;
}

pub read_form-returns-in-Some-clause-found : goal.read_form-returns-in-Some-clause-found
read_form-returns-in-Some-clause-found t c = braced_read _ _ c.first_place-pos.result _ _ _ _ c.in-Some.ensures.found c.first_place-pos.ensures c.in_ok-compound.ensures.found

pub read_form-returns-in-Some-past_key-clause-found : goal.read_form-returns-in-Some-past_key-clause-found
read_form-returns-in-Some-past_key-clause-found t c = where_ok c.read_if.result (λ p f. at_if _ _ _ _ _ _ c.in-Some-past_key.ensures.found f) c.read_if.ensures.found

pub read_form-returns-in-Some-past_key-2-clause-found : goal.read_form-returns-in-Some-past_key-2-clause-found
read_form-returns-in-Some-past_key-2-clause-found t c = where_ok c.read_while.result (λ p f. at_while _ _ _ _ _ _ c.in-Some-past_key-2.ensures.found f) c.read_while.ensures.found

pub read_form-returns-in-Some-past_key-3-clause-found : goal.read_form-returns-in-Some-past_key-3-clause-found
read_form-returns-in-Some-past_key-3-clause-found t c = where_ok c.read_do.result (λ p f. at_do _ _ _ _ _ _ c.in-Some-past_key-3.ensures.found f) c.read_do.ensures.found

pub read_form-returns-in-Some-past_key-4-clause-found : goal.read_form-returns-in-Some-past_key-4-clause-found
read_form-returns-in-Some-past_key-4-clause-found t c = where_ok c.read_for.result (λ p f. at_for _ _ _ _ _ _ c.in-Some-past_key-4.ensures.found f) c.read_for.ensures.found

pub read_form-returns-in-Some-past_key-5-clause-found : goal.read_form-returns-in-Some-past_key-5-clause-found
read_form-returns-in-Some-past_key-5-clause-found t c = where_ok c.read_switch.result (λ p f. at_switch _ _ _ _ _ _ c.in-Some-past_key-5.ensures.found f) c.read_switch.ensures.found

pub read_statement-returns-in_err-form-clause-fails : goal.read_statement-returns-in_err-form-clause-fails
read_statement-returns-in_err-form-clause-fails t c = λ e.
    stmt_fails _ _ _ _ (search rules) c.in_ok-probes.ensures.found (c.in_err-form.ensures.fails (search rules))

pub read_statement-returns-clause-found : goal.read_statement-returns-clause-found
read_statement-returns-clause-found t c = stmt_read _ _ _ _ _ _ _ _ _ (search rules) c.in_ok-probes.ensures.found c.in_ok-form.ensures.found (ap stmt_shape c.in_ok-stmt.ensures.ok ∙ ap (λ p. stmt p c.in_ok-probes.probes.items c.first_place-at.result (form_shape c.in_ok-form.form)) c.first_place-pos.ensures ∙ ap (λ q. stmt (place c.args.input.now) c.in_ok-probes.probes.items q (form_shape c.in_ok-form.form)) c.first_place-at.ensures) refl
