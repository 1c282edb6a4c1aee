use Rattle.std.proofs.Common.{arith}
use Rattle.reach_defs.proofs.Cells.{bit_here, bit_kept, bit_only, bits_more}
use Rattle.reach_defs.proofs.table.Grid.set.Goals as goal

pub returns-clause-here : goal.returns-clause-here
returns-clause-here c = bit_here c.args.self.now.words.items c.index_mut.result.now c.args.self.now.height c.args.self.now.width c.args.self.now.stride c.args.row c.args.mark c.index_mut.ensures.value (omega (arith, c.args.self.now.size, c.args.self.now.words.ok)) c.args.self.now.room c.requires.row c.requires.mark

pub returns-clause-kept : goal.returns-clause-kept
returns-clause-kept c = bit_kept c.args.self.now.words.items c.index_mut.result.now c.args.self.now.height c.args.self.now.width c.args.self.now.stride c.args.row c.args.mark c.index_mut.ensures.value (omega (arith, c.args.self.now.size, c.args.self.now.words.ok)) c.args.self.now.room c.requires.row c.requires.mark

pub returns-clause-only : goal.returns-clause-only
returns-clause-only c = bit_only c.args.self.now.words.items c.index_mut.result.now c.args.self.now.height c.args.self.now.width c.args.self.now.stride c.args.row c.args.mark c.index_mut.ensures.value (omega (arith, c.args.self.now.size, c.args.self.now.words.ok)) c.args.self.now.room c.requires.row c.requires.mark

pub returns-clause-more : goal.returns-clause-more
returns-clause-more c = λ e. bits_more c.args.self.now.words.items c.index_mut.result.now c.args.self.now.height c.args.self.now.width c.args.self.now.stride c.args.row c.args.mark c.index_mut.ensures.value (omega (arith, c.args.self.now.size, c.args.self.now.words.ok)) c.args.self.now.room c.requires.row c.requires.mark (λ h. let t = c.has.ensures.1 h in let f = c.if-has.false in absurd (cc))
