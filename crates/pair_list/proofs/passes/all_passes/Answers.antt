use Rattle.std.proofs.Common.{◌*◌, refl, arith}
use Rattle.pair_list.proofs.Finding.{any_more, any_all}
use Rattle.pair_list.proofs.passes.all_passes.Goals as goal

pub loop-turn-preserved : goal.loop-turn-preserved
loop-turn-preserved c = record {
  adds = any_more c.args.flow.now c.args.sites.now c.args.function c.args.marks.now c.args.first c.args.low c.loop-turn.turn (c.loop-turn.turn * 64) c.args.hits.now.items c.loop-turn.hits.items c.pass.new.hits.items refl c.loop-turn.invariant.adds c.in_ok-pass.ensures;
  empty = c.clear_tables.ensures;
}

pub returns : goal.returns
returns c = any_all c.args.flow.now c.args.sites.now c.args.function c.args.marks.now c.args.first c.args.low c.loop-turn.turn c.args.hits.now.items c.loop-turn.hits.items (let t = c.loop-turn-test.false in let a = c.turns_of-turn-end.ensures.all in omega arith) c.loop-turn.invariant.adds
