use Rattle.std.proofs.Common.{subst, sym}
use Rattle.c_syntax.specs.Shape.{simply, return}
use Rattle.c_syntax.specs.Levels.{form_height}
use Rattle.c_grammar.specs.Found.{Found}
use Rattle.c_grammar_stmt.specs.StmtReader.{reads_form}
use Rattle.c_grammar_stmt.proofs.StmtRead.{return_read, plain_read}
use Rattle.c_parse_stmt.proofs.forms.read_plain.Goals as goal

pub returns-in-Some-past_key-2-clause-found : goal.returns-in-Some-past_key-2-clause-found
returns-in-Some-past_key-2-clause-found c =
    subst (λ v. Found (reads_form c.args.depth) form_height c.args.input.now (return v) c.in_ok-value.levels c.in_ok-value.rest.now) (sym c.unboxed.ensures) (return_read _ _ _ _ _ _ c.in-Some-past_key-2.ensures.found c.in_ok-value.ensures.found)

pub returns-clause-found : goal.returns-clause-found
returns-clause-found c =
    subst (λ v. Found (reads_form c.args.depth) form_height c.args.input.now (simply v) c.in_ok-value-2.levels c.in_ok-value-2.rest.now) (sym c.unboxed-2.ensures) (plain_read _ _ _ _ _ c.requires.plain c.in_default.ensures.found c.in_default-past_key.ensures.found c.in_default-past_key-2.ensures.found c.in_ok-value-2.ensures.found)
