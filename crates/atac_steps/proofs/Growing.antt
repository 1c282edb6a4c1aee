-- What grows goes on growing.
use Rattle.std.proofs.Common.{refl, ◌∙◌, ℕ, ◌≤◌, arith}
use Rattle.atac_base.specs.Outside.{ShelfState, SinkState, Rose}
use Rattle.atac_steps.specs.Grows.{ShelfGrows, SinkGrows}

-- a count that rose later rose since earlier
pub rose_since : (a b c : ℕ) → a ≤ b → Rose b c → Rose a c
rose_since a b c h r = omega arith

since : (a b c : ℕ) → a ≤ b → b ≤ c → a ≤ c
since a b c h k = omega arith

same : (a : ℕ) → a ≤ a
same a = omega arith

pub shelf_stays : (shelf : ShelfState) → ShelfGrows shelf shelf
shelf_stays shelf = record { tells = refl; read_faults = same _; keep_faults = same _ }

pub sink_stays : (sink : SinkState) → SinkGrows sink sink
sink_stays sink = record { faults = same _; wants = same _ }

pub shelf_goes_on : (a b c : ShelfState) → ShelfGrows a b → ShelfGrows b c → ShelfGrows a c
shelf_goes_on a b c h k =
    record { tells = k.tells ∙ h.tells; read_faults = since _ _ _ h.read_faults k.read_faults; keep_faults = since _ _ _ h.keep_faults k.keep_faults }

pub sink_goes_on : (a b c : SinkState) → SinkGrows a b → SinkGrows b c → SinkGrows a c
sink_goes_on a b c h k = record { faults = since _ _ _ h.faults k.faults; wants = since _ _ _ h.wants k.wants }
