use Rattle.pair_list.proofs.Tabling.{met_none, met_mask}
use Rattle.pair_list.proofs.lookup.met.Goals as goal

pub returns-then-of-eq0 : goal.returns-then-of-eq0
returns-then-of-eq0 c = λ marks start t. met_none marks start c.args.came c.args.used.now.variable c.args.used.now.names c.in-Some.variable c.of_variable.result c.and_word-of.result c.in-Some.is (c.of_variable.ensures marks start t) c.and_word-of.ensures c.if-of-eq0.true

pub returns-else-of-eq0 : goal.returns-else-of-eq0
returns-else-of-eq0 c = λ marks start t. met_mask marks start c.args.came c.args.used.now.variable c.args.used.now.names c.in-Some.variable c.of_variable.result c.and_word-of.result c.in-Some.is (c.of_variable.ensures marks start t) c.and_word-of.ensures c.of_names-names.result c.and_word.result (c.of_names-names.ensures marks start t) c.and_word.ensures
