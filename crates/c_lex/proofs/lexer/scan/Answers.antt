use Rattle.std.proofs.Common.{arith}
use Rattle.std.proofs.lemmas.Grind.{common_steps}
use Rattle.c_lex.specs.Scanner.{state_of}
use Rattle.c_lex.specs.Given.{begin}
use Rattle.c_lex.proofs.Scanning.{refused_at, scan_end}
use Rattle.c_lex.proofs.lexer.scan.Goals as goal

pub returns-in-Err-clause-refused : goal.returns-in-Err-clause-refused
returns-in-Err-clause-refused c = refused_at c.in-Err.refusal c.longest.result c.loop-rest.rest.now c.args.text.now (state_of c.loop-rest.scan) (begin c.args.kind) (grind (arith, common_steps)) c.longest.ensures.front c.in-Err.ensures.refused c.loop-rest.invariant.on

pub returns-clause-tokens : goal.returns-clause-tokens
returns-clause-tokens c = c.loop-rest.invariant.on _ (scan_end c.loop-rest.rest.now (state_of c.loop-rest.scan) (grind (arith, common_steps)))
