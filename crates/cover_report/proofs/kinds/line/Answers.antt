-- The line of an item of each kind.
use Rattle.std.proofs.Common.{sym, ap}
use Rattle.cover_report.proofs.Places.{block_is, outcome_is, c_use_is, p_use_is}
use Rattle.cover_report.proofs.kinds.line.Goals as goal

pub returns-in-Block : goal.returns-in-Block
returns-in-Block c = sym (ap (λ item. item.line) (block_is _ _ _ _ c.in-Block.is c.block.ensures))

pub returns-in-Outcome : goal.returns-in-Outcome
returns-in-Outcome c = sym (ap (λ item. item.line) (outcome_is _ _ _ _ c.in-Outcome.is c.outcome.ensures))

pub returns-in-CUse : goal.returns-in-CUse
returns-in-CUse c = sym (ap (λ item. item.line) (c_use_is _ _ _ _ c.in-CUse.is c.c_use.ensures.row))

pub returns-in-PUse : goal.returns-in-PUse
returns-in-PUse c = sym (ap (λ item. item.line) (p_use_is _ _ _ _ c.in-PUse.is c.p_use.ensures.row))
