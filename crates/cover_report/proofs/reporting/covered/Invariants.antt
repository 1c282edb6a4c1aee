use Rattle.std.proofs.Common.{◌≡◌, ◌≤◌, take}
use Rattle.std.specs.List.{count_by}
use Rattle.atac_facts.specs.Sets.{holds}
use Rattle.cover_report.specs.ItemTexts.{of_kind}
use Rattle.cover_report.specs.Texts.{is_covered}
use Rattle.cover_report.proofs.reporting.covered.Given as goal

abbrev pub invariant-loop-i : goal.invariant-loop-i
invariant-loop-i l = record {
  count : l.covered ≡ count_by (is_covered (holds l.facts)) (take l.i (of_kind l.items l.kind));
  small : l.covered ≤ l.i;
}
