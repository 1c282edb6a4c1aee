-- The word of one instance changes, and no number.
use Rattle.std.proofs.Common.{◌∙◌, length, refl, sym, ap}
use Rattle.std.proofs.Math.ListN.{length-set}
use Rattle.cover_parts.proofs.Places.{ascending_set, cells_set, put_done, put_there}
use Rattle.cover_parts.proofs.rows.Rows.define.Goals as goal

pub invariant_of-self : goal.invariant_of-self
invariant_of-self c = (ascending_set 0 _ _ _ _ _ c.self.invariant.0 c.index_mut-row.ensures.value refl, c.self.invariant.1 ∙ sym (cells_set c.self.inside.rows.items c.in-Some.i c.index_mut-row.result.now _ c.index_mut-row.ensures.value (ap (λ l. length l) c.set.ensures.is ∙ simp length-set)))

pub returns-in-Some-clause-is : goal.returns-in-Some-clause-is
returns-in-Some-clause-is c = put_done c.args.self.now c.self.inside.top c.self.inside.rows.items c.args.at c.args.definition c.in-Some.i c.index_mut-row.result.now _ c.self.view_is c.in-Some.ensures c.index_mut-row.ensures.value (ap (λ l. record { number = c.index_mut-row.result.now.number; words = l }) c.set.ensures.is)

pub returns-in-Some-clause-there : goal.returns-in-Some-clause-there
returns-in-Some-clause-there c = put_there c.args.self.now c.self.inside.top c.self.inside.rows.items c.args.at c.in-Some.i c.index_mut-row.result.now c.set.result c.self.view_is c.in-Some.ensures c.index_mut-row.ensures.value c.set.ensures.there
