use Rattle.std.proofs.Common.{sym, subst}
use Rattle.pair_list.specs.Marks.{EndsMark}
use Rattle.pair_list.specs.Masks.{IsMask}
use Rattle.pair_list.proofs.masks.stopped.Goals as goal

pub returns-in-Define : goal.returns-in-Define
returns-in-Define c = λ marks start t. subst (λ a. IsMask marks start (λ m. EndsMark c.args.sites.now m a) c.ended_by.result) (sym c.in-Define.is) (c.ended_by.ensures marks start t)

pub returns-in-Kill : goal.returns-in-Kill
returns-in-Kill c = λ marks start t. subst (λ a. IsMask marks start (λ m. EndsMark c.args.sites.now m a) c.of_variable.result) (sym c.in-Kill.is) (c.of_variable.ensures marks start t)
