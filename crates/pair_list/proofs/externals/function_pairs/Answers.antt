use Rattle.std.proofs.Common.{arith}
use Rattle.std.proofs.lemmas.List.{length-map}
use Rattle.c_syntax.specs.View.{unit_shape, external_shape}
use Rattle.c_tables.specs.Tables.{tables_shape}
use Rattle.pair_list.proofs.Joining.{there_is, stand_there, so_far_next, too_many}
use Rattle.pair_list.proofs.externals.function_pairs.Goals as goal

pub path_pairs-requires-clause-together : goal.path_pairs-requires-clause-together
path_pairs-requires-clause-together c =
    let u = unit_shape c.args.unit.now in
    let size = length-map c.args.unit.now.externals.items external_shape in
    let there = c.requires.there in
    let e = there_is u.externals c.args.k (omega arith) in
    stand_there (tables_shape c.args.tables.now) u c.args.sites.now c.requires.numbered c.args.k e.0 e.1 c.args.before c.args.now c.args.pairs.now.items c.args.items c.requires.so_far c.requires.counted

pub returns-in-Ok-clause-so_far : goal.returns-in-Ok-clause-so_far
returns-in-Ok-clause-so_far c =
    let u = unit_shape c.args.unit.now in
    let size = length-map c.args.unit.now.externals.items external_shape in
    let there = c.requires.there in
    let e = there_is u.externals c.args.k (omega arith) in
    so_far_next (tables_shape c.args.tables.now) u c.args.sites.now c.requires.numbered c.args.k e.0 e.1 c.args.before c.args.now c.args.pairs.now.items c.args.items c.requires.so_far c.requires.counted c.args.flow.now (c.requires.rows e.0 e.1) c.path_pairs.new.pairs.items c.in-Ok.items c.in-Ok.ensures.pairs c.in-Ok.ensures.count c.in-Ok.ensures.within

pub returns-in-Err-clause-more : goal.returns-in-Err-clause-more
returns-in-Err-clause-more c = λ x.
    let u = unit_shape c.args.unit.now in
    let size = length-map c.args.unit.now.externals.items external_shape in
    let there = c.requires.there in
    let e = there_is u.externals c.args.k (omega arith) in
    too_many (tables_shape c.args.tables.now) u c.args.sites.now c.requires.numbered c.args.k e.0 e.1 c.args.before c.args.now c.args.pairs.now.items c.args.items c.requires.so_far c.requires.counted c.args.flow.now (c.requires.rows e.0 e.1) (c.in-Err.ensures.more x)
