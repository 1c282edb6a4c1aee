use Rattle.c_lex.proofs.Pieces as lemmas
use Rattle.c_lex.proofs.laws.pieces_join.Goals as goal

pub returns : goal.returns
returns c = lemmas.pieces_join
