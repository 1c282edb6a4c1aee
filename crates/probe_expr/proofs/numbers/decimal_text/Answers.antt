use Rattle.std.proofs.Common.{◌≡◌, ◌≤◌, length, ap, ◌∙◌, arith}
use Rattle.std.specs.Fmt.{decimal}
use Rattle.std.proofs.lemmas.Fmt.{length-decimal-le_wide}
use Rattle.probe_expr.proofs.numbers.decimal_text.Goals as goal

-- no u128 has more digits
pub from_bytes-requires : goal.from_bytes-requires
from_bytes-requires c =
    let same : c.as_bytes.result.now ≡ decimal c.args.number = c.as_bytes.ensures.value ∙ c.in-Ok.ensures.ok in
    let few : length (decimal c.args.number) ≤ 39 = length-decimal-le_wide 39 c.args.number (omega arith) (omega arith) (omega arith) in
    omega (arith, ap length same, few)
