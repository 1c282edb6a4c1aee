use Rattle.std.proofs.Common.{arith}
use Rattle.pair_list.proofs.Finding.{entry_is}
use Rattle.pair_list.proofs.reached.entry.Goals as goal

pub returns-clause-entry : goal.returns-clause-entry
returns-clause-entry c = entry_is c.in_ok-words.words.items (let e = c.in_ok-words.ensures.size in let r = c.requires in omega arith) c.in_ok-words.ensures.none
