use Rattle.std.proofs.Common.{◌≡◌, drop, false}
use Rattle.c_lex_pieces.specs.Quotes.{before_quote}
use Rattle.c_lex_pieces.proofs.Steps.{add_more}
use Rattle.c_lex_pieces.proofs.quotes.end_of.Given as goal

abbrev pub invariant-loop-i : goal.invariant-loop-i
invariant-loop-i l = add_more l.i (before_quote l.quote l.escaped (drop l.i l.text)) ≡ before_quote l.quote false l.text
