use Rattle.std.proofs.Common.{arith}
use Rattle.std.proofs.lemmas.List.{length-map}
use Rattle.c_syntax.specs.View.{unit_shape, external_shape}
use Rattle.c_tables.specs.Tables.{tables_shape}
use Rattle.pair_list.proofs.Joining.{so_far_all}
use Rattle.pair_list.proofs.externals.unit_pairs.Goals as goal

pub returns-clause-pairs : goal.returns-clause-pairs
returns-clause-pairs c =
    let size = length-map c.args.unit.now.externals.items external_shape in
    let test = c.loop-k-test.false in
    let end = c.len-k-end.ensures in
    so_far_all (tables_shape c.args.tables.now) (unit_shape c.args.unit.now) c.args.sites.now c.loop-k.k c.loop-k.numbers c.loop-k.pairs.items c.loop-k.items c.requires.numbered (omega arith) c.loop-k.invariant
