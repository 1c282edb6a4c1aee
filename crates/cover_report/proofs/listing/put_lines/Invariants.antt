use Rattle.std.proofs.Common.{◌≡◌, ◌++◌, drop, string_bytes}
use Rattle.std.specs.List.{flat_map}
use Rattle.cover_report.specs.ItemTexts.{of_kind, list_line}
use Rattle.cover_report.proofs.listing.put_lines.Given as goal

abbrev pub invariant-loop-i : goal.invariant-loop-i
invariant-loop-i l = string_bytes l.text ++ flat_map list_line (drop l.i (of_kind l.items l.kind)) ≡ string_bytes l.fn.text ++ flat_map list_line (of_kind l.items l.kind)
