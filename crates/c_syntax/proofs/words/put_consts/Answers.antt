use Rattle.std.proofs.Common.{arith}
use Rattle.std.proofs.lemmas.Grind.{common_steps}
use Rattle.c_syntax.proofs.Lists.{next_const}
use Rattle.c_syntax.proofs.words.put_consts.Goals as goal

pub loop-preserved : goal.loop-preserved
loop-preserved c = grind (arith, common_steps, next_const c.args.count c.loop.counter c.loop-test.true)
