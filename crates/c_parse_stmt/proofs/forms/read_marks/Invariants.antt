use Rattle.std.proofs.Common.{◌≤◌, length}
use Rattle.c_grammar_stmt.proofs.FormSteps.{MarksFrom}
use Rattle.c_parse_stmt.proofs.forms.read_marks.Given as goal

abbrev pub invariant-loop-number : goal.invariant-loop-number
invariant-loop-number l = record {
  no_longer : length l.rest ≤ length l.input;
  on : MarksFrom l.marks.items l.input l.rest;
}

abbrev pub decreases-loop-number : goal.decreases-loop-number
decreases-loop-number l = length l.rest
