use Rattle.std.proofs.Common.{◌≡◌, ◌++◌, drop, string_bytes}
use Rattle.std.specs.List.{flat_map}
use Rattle.atac_facts.specs.Sets.{holds}
use Rattle.cover_report.specs.ItemTexts.{of_kind}
use Rattle.cover_report.specs.Texts.{report_line}
use Rattle.cover_report.proofs.reporting.put_lines.Given as goal

abbrev pub invariant-loop-i : goal.invariant-loop-i
invariant-loop-i l = string_bytes l.text ++ flat_map (report_line (holds l.facts)) (drop l.i (of_kind l.items l.kind)) ≡ string_bytes l.fn.text ++ flat_map (report_line (holds l.facts)) (of_kind l.items l.kind)
