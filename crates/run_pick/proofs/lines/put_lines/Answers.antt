-- One line more.
use Rattle.run_pick.proofs.OneLine.{next_line}
use Rattle.run_pick.proofs.lines.put_lines.Goals as goal

pub loop-i-preserved : goal.loop-i-preserved
loop-i-preserved c =
    next_line _ _ _ _ _ _ _ _ _ _ c.at.ensures.mark c.loop-i-test.true c.index-names-i.is c.kept_word-word.ensures c.as_str-name.ensures.value c.in_ok-write.ensures.bytes c.loop-i.invariant
