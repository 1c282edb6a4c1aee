use Rattle.std.proofs.Common.{sym, subst}
use Rattle.pair_list.specs.declared.tables.By.TheVariants.{Name}
use Rattle.pair_list.specs.Tables.{IsTable}
use Rattle.pair_list.proofs.lookup.of_name.Goals as goal

pub returns : goal.returns
returns c = λ marks start t. c.word_of.ensures Name marks start (subst (IsTable Name marks start c.args.tables.now.low_name 64) (sym c.deref.ensures.value) t.names)
