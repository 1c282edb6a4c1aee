-- The new number is above all others.
use Rattle.std.proofs.Common.{◌≡◌, ◌∙◌, ◌<◌, length, refl, ap, arith}
use Rattle.std.proofs.Math.ListN.{length-replicate}
use Rattle.cover_parts.specs.declared.rows.Row.{Row}
use Rattle.cover_parts.specs.Rows.{Table, words_in}
use Rattle.cover_parts.proofs.Places.{ascending_push, cells_push}
use Rattle.cover_parts.proofs.rows.Rows.make.Goals as goal

pub invariant_of-self : goal.invariant_of-self
invariant_of-self c =
    let y : Row = record { number = c.args.instance; words = c.in-Ok.words } in
    let n : length (words_in c.in-Ok.words) ≡ c.args.cells = ap (λ l. length l) c.in-Ok.ensures ∙ simp length-replicate in
    let above : c.self.inside.top < c.args.instance = omega (arith, c.if-instance-self.false, ap (λ (t : Table). t.top) c.self.view_is) in
    rw c.in-Ok-pushed.ensures.items (ascending_push 0 c.self.inside.top c.args.instance c.self.inside.rows.items y c.self.invariant.0 above refl, omega (arith, n, cells_push c.self.inside.rows.items y, c.self.invariant.1, c.in-Some.ensures))
