use Rattle.std.proofs.Common.{rules, ◌≡◌, ◌+◌, ◌<◌, ◌≤◌, length, Some, None, IfOk, IsErrOf, ℕ, ◌-◌, ◌*◌, ◌/◌, ◌%◌, Bool, true, false, nat_eq, nat_lt, List, [], ◌∷◌, ◌++◌, slice_index_or, slice_set, bit_and, bit_or, Fits, w8, w32, w64, Bor, MutBor, subst, sym}
use Rattle.std.proofs.lemmas.Result.{IfOk-weaker}
use Rattle.c_syntax.specs.View.{spec_list, declarator_shape, compound_shape}
use Rattle.c_syntax.specs.Shape.{defined}
use Rattle.c_grammar.specs.Look.{Finds}
use Rattle.c_grammar_stmt.specs.StmtParts.{function_parts}
use Rattle.c_grammar_stmt.proofs.StmtSteps.{function_bare}
use Rattle.c_parse.proofs.UnitRead.{function_read, function_unread}
use Rattle.c_parse.proofs.unit.read_function.Goals as goal

pub returns-in_default-clause-fails : goal.returns-in_default-clause-fails
returns-in_default-clause-fails c = λ e. function_bare (spec_list c.args.specs.items) (declarator_shape c.args.name.value) _ _ _ c.in_ok-marks.ensures.found c.in_default.ensures.found

pub returns-in_err-body-clause-fails : goal.returns-in_err-body-clause-fails
returns-in_err-body-clause-fails c = λ e. function_unread _ (spec_list c.args.specs.items) (declarator_shape c.args.name.value) _ _ _ _ c.in_ok-marks.ensures.found c.in-Some.ensures.found c.first_place.ensures (c.in_err-body.ensures.fails (search rules))

pub returns-clause-found : goal.returns-clause-found
returns-clause-found c =
    subst (λ d. Finds (function_parts (spec_list c.args.specs.items) (declarator_shape c.args.name.value)) c.args.input.now (Some (defined (spec_list c.args.specs.items) (declarator_shape d) c.in_ok-marks.marks.items (compound_shape c.in_ok-body.body), c.in_ok-body.rest.now))) (sym c.into_inner-name.ensures) (function_read _ (spec_list c.args.specs.items) (declarator_shape c.args.name.value) _ _ _ _ _ _ _ c.in_ok-marks.ensures.found c.in-Some.ensures.found c.first_place.ensures c.in_ok-body.ensures.found)
