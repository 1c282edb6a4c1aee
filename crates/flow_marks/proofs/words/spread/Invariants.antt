use Rattle.flow_marks.specs.Words.{Spread}
use Rattle.flow_marks.proofs.words.spread.Given as goal

abbrev pub invariant-loop-to : goal.invariant-loop-to
invariant-loop-to l = Spread l.word l.next l.fn.held.items l.fn.waiting.items l.held.items l.waiting.items l.to-index
