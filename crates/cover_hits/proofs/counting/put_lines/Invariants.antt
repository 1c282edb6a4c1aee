use Rattle.std.proofs.Common.{◌≡◌, ◌++◌, take, drop, true, string_bytes}
use Rattle.std.specs.List.{flat_map}
use Rattle.atac_facts.specs.Tallies.{count_of}
use Rattle.cover_report.specs.ItemTexts.{of_kind}
use Rattle.cover_hits.specs.Hits.{hits_line}
use Rattle.cover_hits.specs.Fitting.{all_fit}
use Rattle.cover_hits.proofs.counting.put_lines.Given as goal

abbrev pub invariant-loop-i : goal.invariant-loop-i
invariant-loop-i l = record {
  lines : string_bytes l.text ++ flat_map (hits_line l.exact (count_of l.tally)) (drop l.i (of_kind l.items l.kind)) ≡ string_bytes l.fn.text ++ flat_map (hits_line l.exact (count_of l.tally)) (of_kind l.items l.kind);
  fit : all_fit (take l.i (of_kind l.items l.kind)) ≡ true;
}
