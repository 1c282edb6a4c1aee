-- The row of a fact, or none.
use Rattle.std.proofs.Common.{◌≡◌, List, get_or, subst}
use Rattle.atac_facts.specs.declared.tally.Counted.{Counted}
use Rattle.atac_facts.specs.Tallies.{AscendsFrom}
use Rattle.atac_facts.proofs.Found.{count_at, count_none}
use Rattle.atac_facts.proofs.tally.Tally.count.Goals as goal

pub returns-in-Ok : goal.returns-in-Ok
returns-in-Ok c =
    count_at c.args.self.now c.args.fact c.in-Ok.at c.index.result.now (subst (AscendsFrom 0) c.self.view_is c.self.invariant.0) c.in-Ok.ensures.found
    (subst (λ (rows : List Counted). c.index.result.now ≡ get_or rows c.in-Ok.at c.index.result.now) c.self.view_is c.index.ensures)

pub returns-in-Err : goal.returns-in-Err
returns-in-Err c = count_none c.args.self.now c.args.fact c.in-Err.field-0 c.in-Err.ensures.absent
