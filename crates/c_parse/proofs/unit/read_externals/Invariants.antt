use Rattle.std.proofs.Common.{◌≤◌, length}
use Rattle.c_grammar_stmt.specs.StmtParts.{ExternalsFrom}
use Rattle.c_parse.proofs.unit.read_externals.Given as goal

abbrev pub invariant-loop-rest : goal.invariant-loop-rest
invariant-loop-rest l = record {
  no_longer : length l.rest ≤ length l.input;
  on : ExternalsFrom l.list.items l.input l.rest;
}

abbrev pub decreases-loop-rest : goal.decreases-loop-rest
decreases-loop-rest l = length l.rest
