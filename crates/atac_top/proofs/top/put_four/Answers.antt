-- The pieces that were put whole, and a front of the one that failed.
use Rattle.std.proofs.Common.{refl, sym, ◌++◌, append_assoc}
use Rattle.atac_steps.specs.Grows.{SinkGrows}
use Rattle.atac_steps.proofs.Growing.{sink_goes_on}
use Rattle.atac_top.proofs.Lines.{tells_front, tells_last, after_two}
use Rattle.atac_top.proofs.top.put_four.Goals as goal

pub returns-in_err-put-2 : goal.returns-in_err-put-2
returns-in_err-put-2 g c =
    let h = c.in_err-put-2.ensures in
    let a = c.in_ok-put.ensures in
    tells_front _ (g.E.Sink.state c.put.new.self) _ _ _ (c.args.c.now ++ c.args.d.now) _ _ a.whole (record { faults = a.faults.later; wants = a.wants.later })
    (record { front = h.front; faults = h.faults; wants = h.wants }) refl

pub returns-in_err-put-3 : goal.returns-in_err-put-3
returns-in_err-put-3 g c =
    let h = c.in_err-put-3.ensures in
    let a = c.in_ok-put.ensures in
    let b = c.in_ok-put-2.ensures in
    let first = g.E.Sink.state c.put.new.self in
    let second = g.E.Sink.state c.put-2.new.self in
    let one : SinkGrows (g.E.Sink.state c.args.err.now) first = record { faults = a.faults.later; wants = a.wants.later } in
    let two : SinkGrows first second = record { faults = b.faults.later; wants = b.wants.later } in
    tells_front _ second _ (c.args.a.now ++ c.args.b.now) _ c.args.d.now _ _
    (after_two _ _ _ _ _ a.whole b.whole) (sink_goes_on _ _ _ one two)
    (record { front = h.front; faults = h.faults; wants = h.wants }) (sym (append_assoc c.args.a.now c.args.b.now _))

pub returns : goal.returns
returns g c =
    let a = c.in_ok-put.ensures in
    let b = c.in_ok-put-2.ensures in
    let d = c.in_ok-put-3.ensures in
    let e = c.put-4.ensures in
    let first = g.E.Sink.state c.put.new.self in
    let second = g.E.Sink.state c.put-2.new.self in
    let third = g.E.Sink.state c.put-3.new.self in
    let one : SinkGrows (g.E.Sink.state c.args.err.now) first = record { faults = a.faults.later; wants = a.wants.later } in
    let two : SinkGrows first second = record { faults = b.faults.later; wants = b.wants.later } in
    let three : SinkGrows second third = record { faults = d.faults.later; wants = d.wants.later } in
    tells_last _ third _ ((c.args.a.now ++ c.args.b.now) ++ c.args.c.now) _ _ c.put-4.result
    (after_two _ _ _ _ _ (after_two _ _ _ _ _ a.whole b.whole) d.whole) (sink_goes_on _ _ _ one (sink_goes_on _ _ _ two three))
    e.whole e.front e.faults e.wants (simp append_assoc)
