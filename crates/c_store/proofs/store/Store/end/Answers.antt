use Rattle.std.proofs.Common.{◌≡◌, ◌∙◌, ◌+◌, length, map, List, sym, ap, arith, rules}
use Rattle.c_store.specs.Held.{cells_in}
use Rattle.c_store.specs.Cells.{slot_of, cell_count, Slot, Cells, without}
use Rattle.c_store.proofs.Places.{Ends, ascending_removed, end_done}
use Rattle.c_store.proofs.store.Store.end.Goals as goal

ends : (c : goal.After-len) → Ends c.self.inside.instances.items c.taken-ended.new.instances.items c.args.self.now.live c.args.instance c.taken-ended.result
ends c = end_done c.args.self.now c.self.inside.most c.self.inside.count c.self.inside.count c.self.inside.instances.items c.taken-ended.new.instances.items c.in-Some.i c.args.instance c.taken-ended.result c.self.view_is c.in-Some.ensures c.self.invariant.0 c.taken-ended.ensures.value c.taken-ended.ensures.rest

counted : (c : goal.After-len) → cell_count (map slot_of c.self.inside.instances.items) ≡ c.len.result + cell_count (map slot_of c.taken-ended.new.instances.items)
counted c =
    let n : c.len.result ≡ length (cells_in c.taken-ended.result.cells) = search rules in
    (ends c).counted ∙ ap (λ k. k + cell_count (map slot_of c.taken-ended.new.instances.items)) (sym n)

pub overflow_cast-self : goal.overflow_cast-self
overflow_cast-self c = omega (arith, counted c, c.self.invariant.1, c.self.invariant.2, c.self.invariant.3)

pub overflow_sub-self : goal.overflow_sub-self
overflow_sub-self c = omega (arith, counted c, c.self.invariant.1)

ends_dropped : (c : goal.After-drop) → Ends c.self.inside.instances.items c.taken-ended.new.instances.items c.args.self.now.live c.args.instance c.taken-ended.result
ends_dropped c = end_done c.args.self.now c.self.inside.most c.self.inside.count c.self.inside.count c.self.inside.instances.items c.taken-ended.new.instances.items c.in-Some.i c.args.instance c.taken-ended.result c.self.view_is c.in-Some.ensures c.self.invariant.0 c.taken-ended.ensures.value c.taken-ended.ensures.rest

pub invariant_of-self : goal.invariant_of-self
invariant_of-self c =
    let n : c.len.result ≡ length (cells_in c.taken-ended.result.cells) = search rules in
    (rw c.taken-ended.ensures.rest (ascending_removed 0 c.self.inside.count c.self.inside.instances.items c.in-Some.i c.self.invariant.0), omega (arith, n, (ends_dropped c).counted, c.self.invariant.1), omega (arith, c.self.invariant.2), c.self.invariant.3)

pub returns-in-Some : goal.returns-in-Some
returns-in-Some c = ap (λ (l : List Slot). record { most = c.self.inside.most; count = c.self.inside.count; live = l }) (ends_dropped c).done ∙ ap (λ (d : Cells). record d { live = without c.args.instance c.args.self.now.live }) c.self.view_is
