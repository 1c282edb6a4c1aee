use Rattle.std.proofs.Common.{ℕ, List, map, drop, Some}
use Rattle.std.specs.Prelude.{string_bytes}
use Rattle.c_meaning.specs.Calls.{Source}
use Rattle.atac_words.specs.Words.{Cover}
use Rattle.atac_base.specs.Items.{ItemLists}
use Rattle.atac_programs.specs.Programs.{shown}
use Rattle.atac_commands.specs.Readings.{Covers}
use Rattle.atac_commands.specs.Answers.{covering}
use Rattle.atac_commands.specs.Progress.{Stands, Came}
use Rattle.atac_commands.proofs.covering.cover.Given as goal

-- of some program, with its items, the sections that were put and the bytes that were got
pub record Going (Comes : Source → ItemLists → List (List ℕ) → List (List ℕ) → Type 0) (Holds : Source → ItemLists → List (List ℕ) → Type 0) : Type 0 where
  pub program : Source
  pub items : ItemLists
  pub done : List (List ℕ)
  pub got : List (List ℕ)
  pub came : Comes program items done got
  pub stands : Holds program items got

-- the sections so far stand in `out`, the rest of the answer is that to the inputs that are left, and the facts are those of the runs so far
abbrev pub invariant-loop-input : goal.invariant-loop-input
invariant-loop-input g l = Going
    (λ P items done got. Came (Some (Cover l.limit l.fn.program (map string_bytes l.inputs))) (Covers P items) (g.S.Shelf.state l.fn.shelf) (g.S.Shelf.state l.shelf) (g.W.Sink.state l.fn.out) (g.W.Sink.state l.out)
    (map string_bytes (drop l.input-index l.inputs)) (λ rest. covering P items l.limit (map string_bytes (drop l.input-index l.inputs)) rest done got) done)
    (λ P items got. Stands P items (shown P l.limit got) l.covering)
