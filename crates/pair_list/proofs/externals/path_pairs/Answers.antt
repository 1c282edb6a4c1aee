use Rattle.std.proofs.Common.{length, refl, arith}
use Rattle.pair_list.proofs.Joining.{path_appends, path_more}
use Rattle.pair_list.proofs.externals.path_pairs.Goals as goal

pub returns-in-Ok-clause-pairs : goal.returns-in-Ok-clause-pairs
returns-in-Ok-clause-pairs c =
    let f = c.if-count-eq0.false in
    path_appends c.args.flow.now c.args.sites.now c.def.result.now.function c.args.first c.args.count c.def.result.now (omega arith) (c.requires.first, c.def.ensures) refl c.requires.together (length c.args.sites.now.lists.uses.items) c.args.pairs.now.items c.run_pairs.new.pairs.items c.in-Ok.ensures.pairs

pub returns-in-Err-clause-more : goal.returns-in-Err-clause-more
returns-in-Err-clause-more c = λ e.
    let f = c.if-count-eq0.false in
    path_more c.args.flow.now c.args.sites.now c.def.result.now.function c.args.first c.args.count c.def.result.now (omega arith) (c.requires.first, c.def.ensures) refl c.requires.together (length c.args.sites.now.lists.uses.items) 1000000 c.args.pairs.now.items (c.in-Err.ensures.more e)
