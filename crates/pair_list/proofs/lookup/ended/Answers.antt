use Rattle.pair_list.proofs.Tabling.{ended_none, ended_mask}
use Rattle.pair_list.proofs.lookup.ended.Goals as goal

pub returns-then-strong-eq0 : goal.returns-then-strong-eq0
returns-then-strong-eq0 c = λ marks start t. ended_none marks start c.args.def.now.variable c.args.def.now.names c.in-Some.variable c.args.tables.now.strong c.of_variable.result c.and_word-strong.result c.in-Some.is t.strong (c.of_variable.ensures marks start t) c.and_word-strong.ensures c.if-strong-eq0.true

pub returns-else-strong-eq0 : goal.returns-else-strong-eq0
returns-else-strong-eq0 c = λ marks start t. ended_mask marks start c.args.def.now.variable c.args.def.now.names c.in-Some.variable c.args.tables.now.strong c.of_variable.result c.and_word-strong.result c.in-Some.is t.strong (c.of_variable.ensures marks start t) c.and_word-strong.ensures c.of_names-names.result c.and_word.result (c.of_names-names.ensures marks start t) c.and_word.ensures
