use Rattle.c_lex.proofs.ReadBack.{written_reads}
use Rattle.c_lex.proofs.laws.read_back.Goals as goal

pub returns : goal.returns
returns c = written_reads
