-- The fact of an item of each kind.
use Rattle.std.proofs.Common.{sym, ap, ◌∙◌}
use Rattle.atac_facts.specs.declared.fact.Fact.TheVariants.{Block}
use Rattle.cover_report.proofs.Places.{block_fact, outcome_is, c_use_is, p_use_is}
use Rattle.cover_report.proofs.kinds.fact.Goals as goal

pub returns-in-Block : goal.returns-in-Block
returns-in-Block c = ap Block c.block_number.ensures ∙ sym (block_fact _ _ _ c.in-Block.is c.requires)

pub returns-in-Outcome : goal.returns-in-Outcome
returns-in-Outcome c = sym (ap (λ item. item.fact) (outcome_is _ _ _ _ c.in-Outcome.is c.outcome-row.ensures))

pub returns-in-CUse : goal.returns-in-CUse
returns-in-CUse c = sym (ap (λ item. item.fact) (c_use_is _ _ _ _ c.in-CUse.is c.c_use-row.ensures.row))

pub returns-in-PUse : goal.returns-in-PUse
returns-in-PUse c = sym (ap (λ item. item.fact) (p_use_is _ _ _ _ c.in-PUse.is c.p_use-row.ensures.row))
