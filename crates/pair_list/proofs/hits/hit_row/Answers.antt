use Rattle.std.proofs.Common.{◌+◌, ◌≡◌, ◌∙◌, sym, arith}
use Rattle.std.specs.Int.{bit_at}
use Rattle.pair_list.specs.Hits.{RowHits}
use Rattle.pair_list.proofs.Making.{not_some}
use Rattle.pair_list.proofs.Meeting.{adds_none, adds_same, row_is, use_is}
use Rattle.pair_list.proofs.hits.hit_row.Goals as goal

pub add_bits-requires : goal.add_bits-requires
add_bits-requires c = let h = ((c.index_of.ensures c.in-Some.k).0 c.in-Some.is).1 in let e = c.len.ensures in omega arith

pub returns-in-Some : goal.returns-in-Some
returns-in-Some c =
    let h = (c.index_of.ensures c.in-Some.k).0 c.in-Some.is in
    adds_same (λ q j. (q ≡ c.in-Some.k) × (bit_at c.row_bits-word.result j ≡ 1)) (λ k j. RowHits c.args.sites.now c.args.function c.args.marks.now c.args.start c.args.first c.args.came c.args.action (c.args.low + k) j) c.args.hits.now.items c.add_bits.new.hits.items
    (row_is c.args.sites.now c.args.function c.args.marks.now c.args.start c.args.first c.args.came c.args.low c.in-Use.u c.in-Some.k c.row_bits-word.result c.args.action c.in-Use.is h.0 c.row_bits-word.ensures)
    c.add_bits.ensures

pub returns-in-None : goal.returns-in-None
returns-in-None c = adds_none (λ k j. RowHits c.args.sites.now c.args.function c.args.marks.now c.args.start c.args.first c.args.came c.args.action (c.args.low + k) j) c.args.hits.now.items
    (λ k j lt h. not_some k (sym c.in-None.is ∙ (c.index_of.ensures k).1 (use_is c.in-Use.u (c.args.low + k) (sym c.in-Use.is ∙ h.0), (let e = c.len.ensures in omega arith))))
