use Rattle.std.proofs.Common.{◌≡◌, ◌+◌, length, refl, ap, arith, rules}
use Rattle.c_store.specs.Held.{cells_in}
use Rattle.c_store.specs.Cells.{Cells, cell_count}
use Rattle.c_store.proofs.Places.{ascending_push, cells_push}
use Rattle.c_store.proofs.store.Store.keep.Goals as goal

pub invariant_of-self : goal.invariant_of-self
invariant_of-self c =
    let n : c.len.result ≡ length (cells_in c.args.cells) = search rules in
    rw c.in-Ok.ensures.items (ascending_push 0 c.self.inside.count _ c.self.inside.instances.items _ c.self.invariant.0 (omega arith) refl, omega (arith, n, cells_push c.self.inside.instances.items (record { number = c.self.inside.count + 1; writable = c.args.writable; cells = c.args.cells }), c.self.invariant.1), omega (arith, n, c.requires.room, c.self.invariant.1, ap (λ (d : Cells). cell_count d.live) c.self.view_is, ap (λ (d : Cells). d.most) c.self.view_is), c.self.invariant.3)
