-- What a step leaves as it was.
use Rattle.std.specs.Prelude.{◌≡◌}
use Rattle.c_world.specs.declared.world.World.{World}

-- the program, the turns and the names are the same
pub record Kept (v w : World) : Type 0 where
  pub program : w.program.now ≡ v.program.now
  pub limit : w.limit ≡ v.limit
  pub turns : w.turns ≡ v.turns
  pub names : w.names ≡ v.names
