use Rattle.std.proofs.Common.{◌+◌, arith}
use Rattle.std.proofs.lemmas.Option.{slice_get_within}
use Rattle.pair_list.proofs.Finding.{iff_then}
use Rattle.pair_list.proofs.Meeting.{use_meets, defs_meet}
use Rattle.pair_list.proofs.hits.row_bits.Goals as goal

pub defs_of-bits-requires-clause-there : goal.defs_of-bits-requires-clause-there
defs_of-bits-requires-clause-there c = λ i h. let m = (c.met-word.ensures c.args.marks.now c.args.start c.requires.tables i).0 h in (m.0, slice_get_within c.args.marks.now (c.args.start + i) m.2.0 m.2.1)

pub returns : goal.returns
returns c = use_meets c.args.sites.now c.args.function c.args.marks.now c.args.start c.args.first c.args.came c.args.u c.defs_of-bits.result c.use_site-used.result.now (let f = c.if-u-eq0.false in omega arith) c.use_site-used.ensures c.if-used-function.false
    (λ j. iff_then (c.defs_of-bits.ensures j) (defs_meet c.args.marks.now c.args.start c.args.first c.args.came c.met-word.result c.use_site-used.result.now (c.met-word.ensures c.args.marks.now c.args.start c.requires.tables) j))
