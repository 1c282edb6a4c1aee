use Rattle.flow_calls.proofs.Pairs as pairs
use Rattle.flow_calls.proofs.misses.pairs_are_listed.Goals as goal

pub returns : goal.returns
returns c = record { law = pairs.pairs_are_listed }
