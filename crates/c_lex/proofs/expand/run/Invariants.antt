use Rattle.std.proofs.Common.{◌≡◌, ◌+◌, ◌*◌, [], ◌∷◌, length}
use Rattle.c_lex.specs.Macros.{rows_of, spelled}
use Rattle.c_lex.specs.Output.{made_of}
use Rattle.c_lex.specs.Expand.{expansion}
use Rattle.c_lex.specs.Replacing.{closed_of, left_of, spent}
use Rattle.c_lex.proofs.expand.run.Given as goal

abbrev pub invariant-loop-frame : goal.invariant-loop-frame
invariant-loop-frame l = record {
  given : spent l.pos (made_of l.fn.out) (expansion (rows_of l.table.entries) l.fn.opened.items (spelled l.fn.piece ∷ [])) ≡ spent l.pos (made_of l.out) (left_of (rows_of l.table.entries) l.opened.items l.stack.items);
  marks : closed_of l.opened.items l.stack.items ≡ l.fn.opened.items;
}

abbrev pub decreases-loop-frame : goal.decreases-loop-frame
decreases-loop-frame l = 2 * l.out.room.replacements + l.out.room.tokens + length l.stack.items
