use Rattle.std.proofs.Common.{◌≡◌, ◌∙◌, length, vec_len, arith, sym}
use Rattle.reach_defs.proofs.Spreading.{start_open, start_sound, next_at, next_open, round, has_all, marks_bound, steps_fit}
use Rattle.reach_defs.proofs.Putting.{last_in, within_less, length_less}
use Rattle.reach_defs.proofs.reaching.reach.Goals as goal

pub loop-from-init : goal.loop-from-init
loop-from-init g c = record {
  height = c.in_ok-held.ensures.height;
  width = c.in_ok-held.ensures.width ∙ c.len.ensures;
  rows = c.in_ok-worklist.ensures.rows;
  sound = start_sound c.args.rows.now c.in_ok-marks.marks.items c.in_ok-held.held c.in_ok-held.ensures.none;
  waits = start_open c.args.rows.now c.in_ok-marks.marks.items c.in_ok-held.held c.in_ok-worklist.worklist.queue c.in_ok-worklist.ensures.all;
  within = c.in_ok-worklist.ensures.within;
  count = omega (arith, c.in_ok-worklist.ensures.length, c.in_ok-held.ensures.count);
}

pub bounds-rows-from : goal.bounds-rows-from
bounds-rows-from g c = c.loop-from.invariant.within c.in-Some.from (last_in c.loop-from.worklist.queue c.take.new.self.queue c.in-Some.from c.in-Some.ensures.taken.0)

pub spread-requires-clause-from : goal.spread-requires-clause-from
spread-requires-clause-from g c = c.loop-from.invariant.within c.in-Some.from (last_in c.loop-from.worklist.queue c.take.new.self.queue c.in-Some.from c.in-Some.ensures.taken.0)

pub spread-requires-clause-next : goal.spread-requires-clause-next
spread-requires-clause-next g c =
    let lt = c.loop-from.invariant.within c.in-Some.from (last_in c.loop-from.worklist.queue c.take.new.self.queue c.in-Some.from c.in-Some.ensures.taken.0) in
    c.numbers.ensures ∙ sym (next_at c.args.rows.now c.in-Some.from c.index-rows-from.result lt c.index-rows-from.is)

pub loop-from-smaller : goal.loop-from-smaller
loop-from-smaller g c =
    let s = c.in_ok-spread.ensures.spread in
    let b = marks_bound c.spread.new.held (length c.args.rows.now) (vec_len c.in_ok-marks.marks) (s.height ∙ c.loop-from.invariant.height) (s.width ∙ c.loop-from.invariant.width) in
    let l = length_less c.loop-from.worklist.queue c.take.new.self.queue c.in-Some.from c.in-Some.ensures.taken.0 in
    let n = s.count in
    omega arith

pub loop-from-preserved : goal.loop-from-preserved
loop-from-preserved g c =
    let lt = c.loop-from.invariant.within c.in-Some.from (last_in c.loop-from.worklist.queue c.take.new.self.queue c.in-Some.from c.in-Some.ensures.taken.0) in
    let next = c.numbers.ensures ∙ sym (next_at c.args.rows.now c.in-Some.from c.index-rows-from.result lt c.index-rows-from.is) in
    let s = round c.args.rows.now c.in_ok-marks.marks.items c.deref.result.now c.numbers.result.now c.in-Some.from 0 c.loop-from.held c.take.new.self.queue c.spread.new.held c.spread.new.worklist.queue c.deref.ensures.value next c.in_ok-spread.ensures.spread in
    let l = length_less c.loop-from.worklist.queue c.take.new.self.queue c.in-Some.from c.in-Some.ensures.taken.0 in
    let n = s.count in
    let t = c.in-Some.ensures.taken.1 in
    record {
      height = s.height ∙ c.loop-from.invariant.height;
      width = s.width ∙ c.loop-from.invariant.width;
      rows = c.in_ok-spread.ensures.rows ∙ c.in-Some.ensures.rows ∙ c.loop-from.invariant.rows;
      sound = s.sound c.loop-from.invariant.sound;
      waits = next_open c.args.rows.now c.in_ok-marks.marks.items c.in-Some.from c.loop-from.held c.spread.new.held c.loop-from.worklist.queue c.take.new.self.queue c.spread.new.worklist.queue c.in-Some.ensures.taken.0 s c.loop-from.invariant.waits;
      within = s.within (within_less c.loop-from.worklist.queue c.take.new.self.queue c.in-Some.from (length c.args.rows.now) c.in-Some.ensures.taken.0 c.loop-from.invariant.within);
      count = omega arith;
    }

pub returns-clause-complete : goal.returns-clause-complete
returns-clause-complete g c = has_all c.args.rows.now c.in_ok-marks.marks.items c.loop-from.held c.loop-from.worklist.queue c.in_default.ensures.taken.0 c.in_ok-marks.ensures.listed c.loop-from.invariant.waits

pub returns-clause-steps : goal.returns-clause-steps
returns-clause-steps g c = λ marks listed.
    let b = marks_bound c.loop-from.held (length c.args.rows.now) (vec_len c.in_ok-marks.marks) c.loop-from.invariant.height c.loop-from.invariant.width in
    let f = steps_fit (length c.args.rows.now) (vec_len c.in_ok-marks.marks) (length marks) (c.in_ok-marks.ensures.fewest marks listed) in
    let e : c.take.new.steps ≡ c.loop-from.steps = c.in_default.ensures.taken.2 in
    omega arith

pub returns-in_err-spread-clause-steps : goal.returns-in_err-spread-clause-steps
returns-in_err-spread-clause-steps g c = λ marks listed.
    let b = marks_bound c.loop-from.held (length c.args.rows.now) (vec_len c.in_ok-marks.marks) c.loop-from.invariant.height c.loop-from.invariant.width in
    let f = steps_fit (length c.args.rows.now) (vec_len c.in_ok-marks.marks) (length marks) (c.in_ok-marks.ensures.fewest marks listed) in
    let l = length_less c.loop-from.worklist.queue c.take.new.self.queue c.in-Some.from c.in-Some.ensures.taken.0 in
    let t = c.in-Some.ensures.taken.1 in
    omega arith
