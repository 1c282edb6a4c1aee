-- The outcome and the first pairs are noted, and there is room for the others.
use Rattle.std.proofs.Common.{take, drop}
use Rattle.std.specs.List.{Contains}
use Rattle.cover_parts.specs.Gaining.{Gains}
use Rattle.cover_parts.specs.Settled.{puses, settled, HasRoom}
use Rattle.cover_parts.proofs.settle.note_all.Given as goal

abbrev pub invariant-loop-w : goal.invariant-loop-w
invariant-loop-w l = record {
  noted : Gains l.fn.facts l.facts (λ f. Contains (settled l.decision l.outcome (take l.w-index l.waits)) f);
  room : HasRoom l.fn.facts (puses l.decision l.outcome (drop l.w-index l.waits)) l.facts.spare;
}
