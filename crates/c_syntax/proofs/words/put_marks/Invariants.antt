use Rattle.std.proofs.Common.{◌≡◌, ◌++◌, drop}
use Rattle.c_syntax.specs.Forms.{kinds}
use Rattle.c_syntax.specs.Grammar.{marks_form}
use Rattle.c_syntax.proofs.words.put_marks.Given as goal

abbrev pub invariant-loop-probe : goal.invariant-loop-probe
invariant-loop-probe l = l.out ++ kinds (marks_form (drop l.probe-index l.marks)) ≡ l.initial.out ++ kinds (marks_form l.marks)
