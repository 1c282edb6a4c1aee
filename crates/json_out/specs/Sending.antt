-- What one member adds to the events that an object is sent as.
use Rattle.std.specs.Prelude.{ℕ, List}
use Rattle.serde.specs.Event.{Log}
use Rattle.serde_json.specs.Data.{Data, Members, member}
use Rattle.serde_json.specs.Events.{SendsMembers}

-- whatever ends an object well from here ends it well from before, with this member in front
pub record AddsMember (key : List ℕ) (value : Data) (old new : Log) : Type 0 where
  pub adds : (rest : Members) (end : Log) → SendsMembers rest new end → SendsMembers (member key value rest) old end
