-- What every call leaves of a shelf and of a sink: no count falls, and a shelf tells as before.
use Rattle.std.specs.Prelude.{◌≡◌, ◌≤◌}
use Rattle.atac_base.specs.Outside.{ShelfState, SinkState}

pub record ShelfGrows (shelf shelf' : ShelfState) : Type 0 where
  pub tells : shelf'.tells ≡ shelf.tells
  pub read_faults : shelf.read_faults ≤ shelf'.read_faults
  pub keep_faults : shelf.keep_faults ≤ shelf'.keep_faults

pub record SinkGrows (sink sink' : SinkState) : Type 0 where
  pub faults : sink.faults ≤ sink'.faults
  pub wants : sink.wants ≤ sink'.wants
