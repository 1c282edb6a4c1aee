use Rattle.std.proofs.Common.{◌≡◌, ◌+◌, ◌<◌, ◌≤◌, length}
use Rattle.std.specs.Prelude.{map}
use Rattle.c_syntax.specs.View.{label_shape}
use Rattle.c_syntax.specs.Levels.{labels_height}
use Rattle.c_grammar_stmt.specs.StmtParts.{LabelsFrom}
use Rattle.c_parse_stmt.proofs.forms.read_labels.Given as goal

abbrev pub invariant-loop-alloc : goal.invariant-loop-alloc
invariant-loop-alloc l = record {
  low : l.levels + l.depth < 400;
  measured : l.levels ≡ labels_height (map label_shape l.labels.items);
  no_longer : length l.rest ≤ length l.input;
  on : LabelsFrom l.depth l.labels.items l.input l.rest;
}

abbrev pub decreases-loop-alloc : goal.decreases-loop-alloc
decreases-loop-alloc l = length l.rest
