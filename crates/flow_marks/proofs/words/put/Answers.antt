use Rattle.flow_marks.proofs.Passing.{put_some}
use Rattle.flow_marks.proofs.words.put.Goals as goal

pub returns-clause-puts : goal.returns-clause-puts
returns-clause-puts c = put_some c.args.word c.index-old.result.now c.args.to c.args.held.now.items c.args.waiting.now.items c.wait.new.waiting.items c.requires c.index-old.ensures c.if-new-old.false c.in_ok-wait.ensures
