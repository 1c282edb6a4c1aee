-- The instance is taken out with its words, or there is none.
use Rattle.std.proofs.Common.{◌≡◌, ◌∙◌, ◌+◌, length, map, List, sym, ap, arith, rules}
use Rattle.cover_parts.specs.Rows.{slot_of, words_in, cell_count, Slot, Table, without}
use Rattle.cover_parts.proofs.Places.{Ended, ascending_removed, end_done, without_none}
use Rattle.cover_parts.proofs.rows.Rows.end.Goals as goal

ends : (c : goal.After-len) → Ended c.self.inside.rows.items c.taken-ended.new.rows.items c.args.self.now.live c.args.instance c.taken-ended.result
ends c = end_done c.args.self.now c.self.inside.top c.self.inside.rows.items c.taken-ended.new.rows.items c.in-Some.i c.args.instance c.taken-ended.result c.self.view_is c.in-Some.ensures c.self.invariant.0 c.taken-ended.ensures.value c.taken-ended.ensures.rest

counted : (c : goal.After-len) → cell_count (map slot_of c.self.inside.rows.items) ≡ c.len.result + cell_count (map slot_of c.taken-ended.new.rows.items)
counted c =
    let n : c.len.result ≡ length (words_in c.taken-ended.result.words) = search rules in
    (ends c).counted ∙ ap (λ k. k + cell_count (map slot_of c.taken-ended.new.rows.items)) (sym n)

pub overflow_sub-self : goal.overflow_sub-self
overflow_sub-self c = omega (arith, counted c, c.self.invariant.1)

ends_dropped : (c : goal.After-drop) → Ended c.self.inside.rows.items c.taken-ended.new.rows.items c.args.self.now.live c.args.instance c.taken-ended.result
ends_dropped c = end_done c.args.self.now c.self.inside.top c.self.inside.rows.items c.taken-ended.new.rows.items c.in-Some.i c.args.instance c.taken-ended.result c.self.view_is c.in-Some.ensures c.self.invariant.0 c.taken-ended.ensures.value c.taken-ended.ensures.rest

pub invariant_of-self : goal.invariant_of-self
invariant_of-self c =
    let n : c.len.result ≡ length (words_in c.taken-ended.result.words) = search rules in
    (rw c.taken-ended.ensures.rest (ascending_removed 0 c.self.inside.top c.self.inside.rows.items c.in-Some.i c.self.invariant.0), omega (arith, n, (ends_dropped c).counted, c.self.invariant.1))

pub returns-in-Some-clause-is : goal.returns-in-Some-clause-is
returns-in-Some-clause-is c = ap (λ (l : List Slot). record { top = c.self.inside.top; live = l }) (ends_dropped c).done ∙ ap (λ (t : Table). record { top = t.top; live = without c.args.instance c.args.self.now.live }) c.self.view_is

pub returns-in_default-clause-is : goal.returns-in_default-clause-is
returns-in_default-clause-is c = sym (ap (λ (l : List Slot). record { top = c.args.self.now.top; live = l }) (without_none c.args.instance c.args.self.now.live c.in_default.ensures))
