use Rattle.std.proofs.Common.{◌≡◌, ◌∙◌, ap, sym, arith}
use Rattle.c_meaning.specs.State.{tells}
use Rattle.c_meaning.specs.Places.{first_cell}
use Rattle.c_world.specs.Steps.{filled_at}
use Rattle.c_world.specs.World.{state_of}
use Rattle.c_world.proofs.Marked.{filled_is}
use Rattle.c_world.proofs.world.World.fill_whole.Goals as goal

pub returns-clause-done : goal.returns-clause-done
returns-clause-done c = λ h n m e.
    let k : m ≡ c.args.count = omega (arith, e, c.if-count-eq4294967295.false) in
    filled_is tells c.args.name.now n (first_cell c.args.instance m) c.args.cells.now (state_of c.args.self.now h) ∙
    ap (λ x. filled_at x (first_cell c.args.instance m) c.args.cells.now (state_of c.args.self.now h)) (sym c.name_site.ensures) ∙
    ap (λ q. filled_at c.name_site.result q c.args.cells.now (state_of c.args.self.now h)) (ap (λ m. first_cell c.args.instance m) k ∙ sym c.first_cell.ensures) ∙
    c.in_ok-stopped.ensures.done h
