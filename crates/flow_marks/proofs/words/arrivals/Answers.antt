use Rattle.std.proofs.Common.{◌*◌, ◌^◌, ◌<◌, ◌≤◌, length, subst, sym, ◌∙◌, arith}
use Rattle.std.specs.Prelude.{sum}
use Rattle.flow_marks.proofs.Passing.{last_in, next_at, start_open, start_sound, turn_sound, turn_open, turn_within, turn_count, all_arrive, sum_bound, lets_at, spread_at, in_next}
use Rattle.flow_marks.proofs.words.arrivals.Goals as goal

pub loop-from-init : goal.loop-from-init
loop-from-init c = record {
  fits = λ row. let z = c.in_ok-held.ensures.none row in omega arith;
  size = c.in_ok-held.ensures.size;
  sound = start_sound c.args.flow.now c.args.gives.now c.args.stops.now c.in_ok-held.held.items c.in_ok-held.ensures.none;
  within = λ row h. let lt = c.in_ok-waiting.ensures.within row h in let e = c.requires.gives in omega arith;
  waits = start_open c.args.flow.now c.args.gives.now c.args.stops.now c.in_ok-held.held.items c.in_ok-waiting.waiting.items c.in_ok-held.ensures.none c.in_ok-waiting.ensures.all;
}

pub bounds-gives-row : goal.bounds-gives-row
bounds-gives-row c = let lt = c.loop-from.invariant.within c.in-Some.from (last_in c.loop-from.waiting.items c.take.new.waiting.items c.in-Some.from c.in-Some.ensures) in let e = c.requires.gives in omega arith

pub index-requires : goal.index-requires
index-requires c = let lt = c.loop-from.invariant.within c.in-Some.from (last_in c.loop-from.waiting.items c.take.new.waiting.items c.in-Some.from c.in-Some.ensures) in let e = c.loop-from.invariant.size in omega arith

pub bounds-stops-row : goal.bounds-stops-row
bounds-stops-row c = let lt = c.loop-from.invariant.within c.in-Some.from (last_in c.loop-from.waiting.items c.take.new.waiting.items c.in-Some.from c.in-Some.ensures) in let e = c.requires.stops in omega arith

pub bounds-flow-row : goal.bounds-flow-row
bounds-flow-row c = c.loop-from.invariant.within c.in-Some.from (last_in c.loop-from.waiting.items c.take.new.waiting.items c.in-Some.from c.in-Some.ensures)

pub spread-requires : goal.spread-requires
spread-requires c =
    let lt = c.loop-from.invariant.within c.in-Some.from (last_in c.loop-from.waiting.items c.take.new.waiting.items c.in-Some.from c.in-Some.ensures) in
    in_next c.args.flow.now c.in-Some.from (length c.loop-from.held.items) c.deref.result.now (c.deref.ensures.value ∙ sym (next_at c.args.flow.now c.in-Some.from c.index-flow-row.result lt c.index-flow-row.is)) c.loop-from.invariant.size c.requires.in_range

pub loop-from-smaller : goal.loop-from-smaller
loop-from-smaller c =
    let lt = c.loop-from.invariant.within c.in-Some.from (last_in c.loop-from.waiting.items c.take.new.waiting.items c.in-Some.from c.in-Some.ensures) in
    let next = c.deref.ensures.value ∙ sym (next_at c.args.flow.now c.in-Some.from c.index-flow-row.result lt c.index-flow-row.is) in
    let s = spread_at c.args.flow.now c.in-Some.from c.let_out-word.result c.deref.result.now c.loop-from.held.items c.take.new.waiting.items c.spread.new.held.items c.spread.new.waiting.items next c.in_ok-spread.ensures in
    let b : sum c.spread.new.held.items ≤ length c.args.flow.now * 2 ^ 64 = subst (λ n. sum c.spread.new.held.items ≤ n * 2 ^ 64) (s.size ∙ c.loop-from.invariant.size) (sum_bound c.spread.new.held.items (2 ^ 64) (s.fits c.loop-from.invariant.fits)) in
    let n = s.count in
    let l = turn_count c.loop-from.waiting.items c.take.new.waiting.items c.in-Some.from c.in-Some.ensures in
    omega arith

pub loop-from-preserved : goal.loop-from-preserved
loop-from-preserved c =
    let lt = c.loop-from.invariant.within c.in-Some.from (last_in c.loop-from.waiting.items c.take.new.waiting.items c.in-Some.from c.in-Some.ensures) in
    let next = c.deref.ensures.value ∙ sym (next_at c.args.flow.now c.in-Some.from c.index-flow-row.result lt c.index-flow-row.is) in
    let s = spread_at c.args.flow.now c.in-Some.from c.let_out-word.result c.deref.result.now c.loop-from.held.items c.take.new.waiting.items c.spread.new.held.items c.spread.new.waiting.items next c.in_ok-spread.ensures in
    let in_held : c.in-Some.from < length c.loop-from.held.items = (let e = c.loop-from.invariant.size in omega arith) in
    let lets = lets_at c.args.gives.now c.loop-from.held.items c.args.stops.now c.in-Some.from c.index.result.now c.let_out-word.result in_held c.index.ensures c.let_out-word.ensures in
    record {
      fits = s.fits c.loop-from.invariant.fits;
      size = s.size ∙ c.loop-from.invariant.size;
      sound = turn_sound c.args.flow.now c.args.gives.now c.args.stops.now c.in-Some.from c.let_out-word.result c.loop-from.waiting.items c.take.new.waiting.items c.loop-from.held.items c.spread.new.waiting.items c.spread.new.held.items c.in-Some.ensures lets s c.loop-from.invariant.sound;
      within = turn_within c.args.flow.now c.args.gives.now c.args.stops.now c.in-Some.from c.let_out-word.result c.loop-from.waiting.items c.take.new.waiting.items c.loop-from.held.items c.spread.new.waiting.items c.spread.new.held.items c.in-Some.ensures lets s c.requires.in_range c.loop-from.invariant.within;
      waits = turn_open c.args.flow.now c.args.gives.now c.args.stops.now c.in-Some.from c.let_out-word.result c.loop-from.waiting.items c.take.new.waiting.items c.loop-from.held.items c.spread.new.waiting.items c.spread.new.held.items c.in-Some.ensures lets s c.loop-from.invariant.waits;
    }

pub returns-clause-complete : goal.returns-clause-complete
returns-clause-complete c = all_arrive c.args.flow.now c.args.gives.now c.args.stops.now c.loop-from.held.items c.loop-from.waiting.items c.in_default.ensures c.loop-from.invariant.waits
