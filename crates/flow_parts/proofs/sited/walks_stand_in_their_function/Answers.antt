use Rattle.flow_parts.proofs.Walks.{walks_stand}
use Rattle.flow_parts.proofs.sited.walks_stand_in_their_function.Goals as goal

pub returns : goal.returns
returns c = record { walks = walks_stand }
