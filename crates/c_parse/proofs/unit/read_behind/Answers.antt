use Rattle.std.proofs.Common.{rules, Some, None, subst}
use Rattle.std.proofs.lemmas.Result.{IfOk-weaker}
use Rattle.c_syntax.specs.View.{spec_list, declarator_shape, external_shape}
use Rattle.c_grammar.specs.Look.{Finds}
use Rattle.c_grammar_stmt.specs.StmtParts.{function_parts}
use Rattle.c_grammar_stmt.proofs.StmtSteps.{external_defined}
use Rattle.c_parse.proofs.unit.read_behind.Goals as goal

pub returns-then-begins_function-clause-found : goal.returns-then-begins_function-clause-found
returns-then-begins_function-clause-found c =
    IfOk-weaker c.read_function.result _ _ (λ p f. external_defined c.args.pos (spec_list c.args.specs.items) (declarator_shape c.args.name) c.args.input.now (Some (external_shape p.0, p.1.now)) (search rules) (subst (λ d. Finds (function_parts (spec_list c.args.specs.items) (declarator_shape d)) c.args.input.now (Some (external_shape p.0, p.1.now))) c.in_ok-boxed.ensures.ok f)) c.read_function.ensures.found

pub returns-then-begins_function-clause-fails : goal.returns-then-begins_function-clause-fails
returns-then-begins_function-clause-fails c = λ e.
    external_defined c.args.pos (spec_list c.args.specs.items) (declarator_shape c.args.name) c.args.input.now None (search rules) (subst (λ d. Finds (function_parts (spec_list c.args.specs.items) (declarator_shape d)) c.args.input.now None) c.in_ok-boxed.ensures.ok (c.read_function.ensures.fails e))
