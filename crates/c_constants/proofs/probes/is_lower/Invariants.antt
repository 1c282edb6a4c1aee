use Rattle.std.proofs.Common.{◌≡◌, drop}
use Rattle.std.specs.List.{list_all}
use Rattle.c_constants.specs.Probes.{is_lower_digit}
use Rattle.c_constants.proofs.probes.is_lower.Given as goal

abbrev pub invariant-loop-b : goal.invariant-loop-b
invariant-loop-b l = list_all is_lower_digit (drop l.b-index l.text) ≡ list_all is_lower_digit l.text
