use Rattle.std.proofs.Common.{sym, subst}
use Rattle.pair_list.specs.declared.tables.By.TheVariants.{Variable}
use Rattle.pair_list.specs.Tables.{IsTable}
use Rattle.pair_list.proofs.lookup.of_variable.Goals as goal

pub returns : goal.returns
returns c = λ marks start t. c.word_of.ensures Variable marks start (subst (IsTable Variable marks start c.args.tables.now.low_variable 64) (sym c.deref.ensures.value) t.variables)
