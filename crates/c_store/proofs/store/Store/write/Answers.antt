use Rattle.std.proofs.Common.{◌≡◌, ◌∙◌, ◌<◌, length, true, refl, sym, ap, rules}
use Rattle.std.proofs.Math.ListN.{length-set}
use Rattle.c_store.specs.Held.{cells_in}
use Rattle.c_store.specs.Cells.{slot_of, cell_of, with_value}
use Rattle.c_store.proofs.Places.{write_done, room_at, ascending_set, cells_set}
use Rattle.c_store.proofs.store.Store.write.Goals as goal

pub set-requires : goal.set-requires
set-requires c =
    let r : cell_of c.args.at < length (cells_in c.index_mut-instance.result.now.cells) = room_at c.args.self.now c.self.inside.most c.self.inside.count c.self.inside.instances.items c.args.at c.in_ok-i.i c.index_mut-instance.result.now c.self.view_is c.in_ok-i.ensures.element c.index_mut-instance.ensures.value in
    rw c.cell.ensures.value r

pub invariant_of-self-2 : goal.invariant_of-self-2
invariant_of-self-2 c = (ascending_set 0 _ _ _ _ _ c.self.invariant.0 c.index_mut-instance.ensures.value refl, c.self.invariant.1 ∙ sym (cells_set c.self.inside.instances.items c.in_ok-i.i c.index_mut-instance.result.now _ c.index_mut-instance.ensures.value (ap (λ l. length l) c.set.ensures ∙ simp length-set)), c.self.invariant.2, c.self.invariant.3)

pub returns-clause-is : goal.returns-clause-is
returns-clause-is c =
    let writable : c.index_mut-instance.result.now.writable ≡ true = search rules in
    write_done c.args.self.now c.self.inside.most c.self.inside.count c.self.inside.instances.items c.args.at c.args.value c.in_ok-i.i c.index_mut-instance.result.now _ c.self.view_is c.in_ok-i.ensures.element c.index_mut-instance.ensures.value writable (ap (λ l. record (slot_of c.index_mut-instance.result.now) { cells = l }) c.set.ensures ∙ ap (λ k. with_value (slot_of c.index_mut-instance.result.now) k c.args.value) c.cell.ensures.value)
