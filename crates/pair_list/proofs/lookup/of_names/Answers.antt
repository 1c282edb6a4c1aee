use Rattle.std.proofs.Common.{arith}
use Rattle.pair_list.proofs.Tabling.{names_more, names_all}
use Rattle.pair_list.proofs.lookup.of_names.Goals as goal

pub loop-i-preserved : goal.loop-i-preserved
loop-i-preserved c = λ marks start t. names_more marks start c.args.names.now c.loop-i.i c.get.result c.loop-i.word c.of_name-more.result c.or_word-word.result c.get.ensures (c.loop-i.invariant marks start t) (c.of_name-more.ensures marks start t) c.or_word-word.ensures

pub returns : goal.returns
returns c = λ marks start t. names_all marks start c.args.names.now c.loop-i.i c.loop-i.word (let f = c.loop-i-test.false in let e = c.len-i-end.ensures.count in omega arith) (c.loop-i.invariant marks start t)
