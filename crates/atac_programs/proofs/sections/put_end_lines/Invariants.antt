use Rattle.std.proofs.Common.{◌≡◌, ◌++◌, drop}
use Rattle.std.specs.List.{flat_map}
use Rattle.atac_programs.specs.Sections.{ended_line}
use Rattle.atac_programs.proofs.sections.put_end_lines.Given as goal

abbrev pub invariant-loop-end : goal.invariant-loop-end
invariant-loop-end l = l.text.items ++ flat_map ended_line (drop l.end-index l.ends) ≡ l.fn.text.items ++ flat_map ended_line l.fn.ends
