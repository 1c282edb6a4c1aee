use Rattle.std.proofs.Common.{◌≡◌, map, drop}
use Rattle.std.specs.Prelude.{string_bytes}
use Rattle.atac_words.specs.Words.{are_operands}
use Rattle.atac_words.proofs.words.may_be_operands.Given as goal

-- all words so far may be operands
abbrev pub invariant-loop-word : goal.invariant-loop-word
invariant-loop-word l = are_operands (map string_bytes l.words) ≡ are_operands (map string_bytes (drop l.word-index l.words))
