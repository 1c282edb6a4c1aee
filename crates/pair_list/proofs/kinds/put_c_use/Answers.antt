use Rattle.pair_list.proofs.Rowing.{c_use_put}
use Rattle.pair_list.proofs.kinds.put_c_use.Goals as goal

pub returns-in_ok-push_c_use-in-None : goal.returns-in_ok-push_c_use-in-None
returns-in_ok-push_c_use-in-None c = c_use_put c.args.sites.now c.args.pair c.row_of-row.result c.args.items.now c.push_c_use.new.items c.requires.placed c.row_of-row.ensures.row c.use_site-used.result.now c.use_site-used.ensures c.in-None.is c.in_ok-push_c_use-in-None.ensures
