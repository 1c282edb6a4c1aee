use Rattle.std.proofs.Common.{◌≡◌, drop, false}
use Rattle.c_lex_pieces.specs.Front.{comment_end}
use Rattle.c_lex_pieces.proofs.Steps.{add_more}
use Rattle.c_lex_pieces.proofs.front.comment_size.Given as goal

abbrev pub invariant-loop-i : goal.invariant-loop-i
invariant-loop-i l = add_more l.i (comment_end l.star (drop l.i l.text)) ≡ comment_end false l.text
