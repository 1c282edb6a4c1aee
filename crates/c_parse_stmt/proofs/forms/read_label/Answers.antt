use Rattle.std.proofs.Common.{ap, ◌∙◌}
use Rattle.c_syntax.specs.Shape.{case}
use Rattle.c_syntax.specs.View.{node_shape}
use Rattle.c_grammar_stmt.proofs.StmtRead.{case_read, case_unended}
use Rattle.c_parse_stmt.proofs.forms.read_label.Goals as goal

pub returns-in-Some-past-clause-found : goal.returns-in-Some-past-clause-found
returns-in-Some-past-clause-found c =
    case_read _ _ _ _ _ _ _ _ c.in-Some.ensures.found c.in_ok-value.ensures.found c.in-Some-past.ensures.found (c.case_label.ensures ∙ ap (λ p. case p (node_shape c.in_ok-value.value.value)) c.first_place-pos.ensures)

pub returns-in-None-clause-fails : goal.returns-in-None-clause-fails
returns-in-None-clause-fails c = λ e.
    case_unended _ _ _ _ _ _ c.in-Some.ensures.found c.in_ok-value.ensures.found c.in-None.ensures.found
