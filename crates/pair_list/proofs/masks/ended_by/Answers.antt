use Rattle.std.proofs.Common.{inl, inr, arith}
use Rattle.pair_list.proofs.Tabling.{define_out, define_in}
use Rattle.pair_list.proofs.masks.ended_by.Goals as goal

pub returns-then-d-eq0 : goal.returns-then-d-eq0
returns-then-d-eq0 c = λ marks start t. define_out c.args.sites.now marks start c.args.d (inl c.if-d-eq0.true)

pub returns-then-d-defs : goal.returns-then-d-defs
returns-then-d-defs c = λ marks start t. define_out c.args.sites.now marks start c.args.d (inr (let f = c.if-d-defs.true in let e = c.defs.ensures in omega arith))

pub returns : goal.returns
returns c = λ marks start t. define_in c.args.sites.now marks start c.args.d c.ended-word.result c.def.result.now (let f = c.if-d-eq0.false in omega arith) c.def.ensures (c.ended-word.ensures marks start t)
