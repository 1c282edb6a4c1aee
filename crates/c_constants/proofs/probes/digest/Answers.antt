use Rattle.std.proofs.Common.{◌∙◌, sym}
use Rattle.c_constants.proofs.Lower.{digest_value, digest_spelled}
use Rattle.c_constants.proofs.probes.digest.Goals as goal

pub returns-then-is_lower-clause-value : goal.returns-then-is_lower-clause-value
returns-then-is_lower-clause-value c = digest_value c.args.text.now c.from_hex.result c.ok.result c.if-text-eq64.true (sym c.is_lower.ensures ∙ c.if-is_lower.true) c.from_hex.ensures c.ok.ensures.value

pub returns-then-is_lower-clause-spelled : goal.returns-then-is_lower-clause-spelled
returns-then-is_lower-clause-spelled c = digest_spelled c.args.text.now c.from_hex.result c.ok.result c.if-text-eq64.true (sym c.is_lower.ensures ∙ c.if-is_lower.true) c.from_hex.ensures c.ok.ensures.value
