use Rattle.std.proofs.Common.{◌≡◌, ◌++◌, map, drop, string_bytes}
use Rattle.run_pick.specs.Lines.{kept_lines}
use Rattle.run_pick.proofs.lines.put_lines.Given as goal

abbrev pub invariant-loop-i : goal.invariant-loop-i
invariant-loop-i l = string_bytes l.text ++ kept_lines (drop l.i l.picks) (map string_bytes (drop l.i l.names)) ≡ string_bytes l.fn.text ++ kept_lines l.picks (map string_bytes l.names)
