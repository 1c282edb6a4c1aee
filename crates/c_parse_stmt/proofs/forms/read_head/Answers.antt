use Rattle.std.proofs.Common.{rules}
use Rattle.c_grammar_stmt.specs.StmtFound.{maybe_inner}
use Rattle.c_grammar_stmt.proofs.StmtRead.{head_read, head_second, head_third}
use Rattle.c_parse_stmt.proofs.forms.read_head.Goals as goal

pub returns-in_err-test-clause-fails : goal.returns-in_err-test-clause-fails
returns-in_err-test-clause-fails c = λ e.
    head_second c.args.depth c.in_ok-first.first_levels (maybe_inner c.in_ok-first.first) c.args.input.now c.in-Some.inside.now c.in_ok-first.behind.now c.in-Some.ensures.found c.in_ok-first.ensures.found (c.in_err-test.ensures.fails (search rules))

pub returns-in_err-step-clause-fails : goal.returns-in_err-step-clause-fails
returns-in_err-step-clause-fails c = λ e.
    head_third c.args.depth c.in_ok-first.first_levels c.in_ok-test.test_levels (maybe_inner c.in_ok-first.first) (maybe_inner c.in_ok-test.test) c.args.input.now c.in-Some.inside.now c.in_ok-first.behind.now c.in_ok-test.last.now c.in-Some.ensures.found c.in_ok-first.ensures.found c.in_ok-test.ensures.found (c.in_err-step.ensures.fails (search rules))

pub returns-clause-found : goal.returns-clause-found
returns-clause-found c =
    head_read c.args.depth c.in_ok-first.first_levels c.in_ok-test.test_levels c.in_ok-step.step_levels c.higher.result c.higher-levels.result (maybe_inner c.in_ok-first.first) (maybe_inner c.in_ok-test.test) (maybe_inner c.in_ok-step.step) c.args.input.now c.in-Some.inside.now c.in_ok-first.behind.now c.in_ok-test.last.now c.in_ok-step.rest.now c.in-Some.ensures.found c.in_ok-first.ensures.found c.in_ok-test.ensures.found c.in_ok-step.ensures.found (search rules) (search rules)
