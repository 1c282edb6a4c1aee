use Rattle.std.proofs.Common.{rules}
use Rattle.c_grammar_stmt.proofs.StmtRead.{labels_measured, labels_further, labels_read}
use Rattle.c_grammar_stmt.proofs.StmtLabels.{label_list_failed}
use Rattle.c_parse_stmt.proofs.forms.read_labels.Goals as goal

pub returns-in_err-label-clause-fails : goal.returns-in_err-label-clause-fails
returns-in_err-label-clause-fails c = λ e.
    label_list_failed _ _ _ _ c.loop-alloc.invariant.on (search rules) (c.in_err-label.ensures.fails (search rules))

pub loop-alloc-preserved : goal.loop-alloc-preserved
loop-alloc-preserved c = record {
  low = search rules;
  measured = labels_measured _ _ _ _ _ _ _ _ _ c.loop-alloc.invariant.measured c.in_ok-label.ensures.found (search rules) c.in_ok-put.ensures.ok;
  no_longer = search rules;
  on = labels_further _ _ _ _ _ _ _ _ c.loop-alloc.invariant.on (search rules) c.in_ok-label.ensures.found c.in_ok-put.ensures.ok;
}

pub returns-clause-found : goal.returns-clause-found
returns-clause-found c = labels_read _ _ _ _ _ c.loop-alloc.invariant.on (search rules) c.loop-alloc.invariant.measured
