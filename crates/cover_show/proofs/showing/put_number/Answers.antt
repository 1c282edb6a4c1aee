-- The number's text is that of the format.
use Rattle.std.proofs.Common.{ap, ◌∙◌}
use Rattle.std.specs.Fmt.{styled_decimal}
use Rattle.cover_show.proofs.Numbers.{number_is}
use Rattle.cover_show.proofs.showing.put_number.Goals as goal

pub returns : goal.returns
returns c = let e = ap (λ s. styled_decimal s c.args.number) c.laid_out.ensures ∙ number_is c.args.number in rw (← e) c.write.ensures.bytes
