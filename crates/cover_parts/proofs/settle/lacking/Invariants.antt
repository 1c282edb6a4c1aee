-- So many are lacking, and those that lack among the pairs still to come.
use Rattle.std.proofs.Common.{ℕ, ◌+◌, ◌≤◌, drop}
use Rattle.cover_parts.specs.Settled.{puses, Lacking}
use Rattle.cover_parts.proofs.settle.lacking.Given as goal

abbrev pub invariant-loop-w : goal.invariant-loop-w
invariant-loop-w l = record {
  few : l.count ≤ l.w-index;
  rest : (m : ℕ) → Lacking l.facts (puses l.decision l.outcome (drop l.w-index l.waits)) m → Lacking l.facts (puses l.decision l.outcome l.waits) (l.count + m);
}
