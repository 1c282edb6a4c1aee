-- The text is that of the value, and the value determines the lines.
use Rattle.atac_facts.specs.Sets.{holds}
use Rattle.json_out.proofs.Determined.{determined}
use Rattle.json_out.proofs.Compact.{text_is}
use Rattle.json_out.proofs.text.json_text.Goals as goal

pub returns-in-Ok-clause-text : goal.returns-in-Ok-clause-text
returns-in-Ok-clause-text c = let sent = c.in-Ok.ensures.events in text_is c.args.items.now (holds c.args.facts.now) sent.0 _ sent.1 sent.2

pub returns-in-Ok-clause-determines : goal.returns-in-Ok-clause-determines
returns-in-Ok-clause-determines c = λ other covers e. determined other _ covers _ e

pub returns-in-Err-clause-determines : goal.returns-in-Err-clause-determines
returns-in-Err-clause-determines c = λ other covers e. determined other _ covers _ e
