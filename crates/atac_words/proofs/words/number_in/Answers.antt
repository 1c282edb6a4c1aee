use Rattle.std.proofs.Common.{rules, refl, arith}
use Rattle.atac_words.proofs.Limits.{parse_none, large_none, parse_some}
use Rattle.atac_words.proofs.words.number_in.Goals as goal

pub returns-then-number-most-clause-number : goal.returns-then-number-most-clause-number
returns-then-number-most-clause-number c =
    large_none c.args.most (omega arith) c.args.word.now c.args.word.now c.parse.result c.in-Ok.number refl c.parse.ensures.value.0 c.in-Ok.is (omega arith)

pub returns-else-number-most-clause-number : goal.returns-else-number-most-clause-number
returns-else-number-most-clause-number c =
    parse_some c.args.most (omega arith) c.args.word.now c.args.word.now c.parse.result c.in-Ok.number refl c.parse.ensures.value.0 c.in-Ok.is (search rules) (search rules) (omega arith)

pub returns-in-Err-clause-number : goal.returns-in-Err-clause-number
returns-in-Err-clause-number c =
    parse_none c.args.most (omega arith) c.args.word.now c.args.word.now c.parse.result c.in-Err.field-0 refl c.parse.ensures.value.0 c.in-Err.is
