use Rattle.std.proofs.Common.{◌≡◌, ◌∙◌, ◌+◌, ◌≤◌, length, map, true, false, sym, ap, arith, rules}
use Rattle.c_store.specs.Held.{cells_in}
use Rattle.c_store.specs.Cells.{slot_of, is_inside, cell_count, cell_of}
use Rattle.c_store.proofs.Places.{found_at, few_cells, inside_room, not_inside}
use Rattle.c_store.proofs.store.Store.element.Goals as goal

pub returns-then-inside-clause-small : goal.returns-then-inside-clause-small
returns-then-inside-clause-small c =
    let n : c.len.result ≡ length (cells_in c.index.result.now.cells) = search rules in
    let inside : c.inside.result ≡ true = search rules in
    let few : length (cells_in c.index.result.now.cells) ≤ cell_count (map slot_of c.self.inside.instances.items) = few_cells c.args.self.now c.self.inside.most c.self.inside.count c.self.inside.instances.items c.in-Some.i c.args.at.instance c.index.result.now c.self.view_is c.in-Some.ensures (search rules) in
    let room : cell_of c.args.at + c.args.at.size ≤ c.len.result = inside_room c.args.at c.len.result (sym c.inside.ensures ∙ inside) in
    omega (arith, n, few, room, c.self.invariant.1, c.self.invariant.2, c.self.invariant.3)

pub returns-else-inside-clause-element : goal.returns-else-inside-clause-element
returns-else-inside-clause-element c =
    let n : c.len.result ≡ length (cells_in c.index.result.now.cells) = search rules in
    let outside : c.inside.result ≡ false = search rules in
    not_inside c.args.self.now.live c.args.at (slot_of c.index.result.now) (found_at c.args.self.now c.self.inside.most c.self.inside.count c.self.inside.instances.items c.in-Some.i c.args.at.instance c.index.result.now c.self.view_is c.in-Some.ensures (search rules)) (ap (λ n. is_inside c.args.at n) (sym n) ∙ sym c.inside.ensures ∙ outside)
