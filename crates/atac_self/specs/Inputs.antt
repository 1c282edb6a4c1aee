-- Inputs as lists of bytes.
use Rattle.std.specs.Prelude.{ℕ, List, Vec}
use Rattle.std.specs.Global.{Global}

abbrev pub bytes_in : Vec ℕ Global → List ℕ
bytes_in input = input.items
