use Rattle.std.proofs.Common.{subst, sym, arith}
use Rattle.pair_list.specs.Marks.{AreMarks}
use Rattle.pair_list.proofs.Finding.{found_bits}
use Rattle.pair_list.proofs.passes.found.Goals as goal

pub all_passes-requires-clause-within : goal.all_passes-requires-clause-within
all_passes-requires-clause-within c =
    let are = subst (AreMarks c.args.sites.now c.args.function c.args.first c.args.count) (sym c.deref.ensures.value) c.in_ok-marks.ensures in
    λ i m at. let e = are.each i m at in let b = e.2 in let w = c.requires.word in (e.1, omega arith)

pub returns-clause-found : goal.returns-clause-found
returns-clause-found c =
    let are = subst (AreMarks c.args.sites.now c.args.function c.args.first c.args.count) (sym c.deref.ensures.value) c.in_ok-marks.ensures in
    found_bits c.args.flow.now c.args.sites.now c.args.function c.args.first c.args.count c.deref.result.now are c.args.low c.args.uses c.in_ok-hits.hits.items c.all_passes.new.hits.items c.in_ok-hits.ensures.size c.in_ok-hits.ensures.none c.in_ok-all_passes.ensures
