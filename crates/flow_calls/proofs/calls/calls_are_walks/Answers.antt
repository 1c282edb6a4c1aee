use Rattle.flow_calls.proofs.Laws.{each_call_walks, each_call_leaves}
use Rattle.flow_calls.proofs.calls.calls_are_walks.Goals as goal

pub returns-clause-walks : goal.returns-clause-walks
returns-clause-walks c = each_call_walks

pub returns-clause-leaves : goal.returns-clause-leaves
returns-clause-leaves c = each_call_leaves
