use Rattle.std.proofs.Common.{◌≡◌, [], ◌∷◌, Option, Some, None, subst}
use Rattle.std.specs.Prelude.{IfOk, MatchBool}
use Rattle.c_lex.specs.Macros.{rows_of, spelled}
use Rattle.c_lex.specs.Output.{Made, made_of}
use Rattle.c_lex.specs.Expand.{expansion}
use Rattle.c_lex.proofs.Spent.{spent_all}
use Rattle.c_lex.proofs.expand.expand.Goals as goal

pub returns-clause-given : goal.returns-clause-given
returns-clause-given c = subst (λ (all : Option Made). IfOk c.run.result (λ b. MatchBool b (all ≡ Some (made_of c.run.new.out)) (all ≡ None))) (spent_all c.args.pos (made_of c.args.out.now) (expansion (rows_of c.args.table.now.entries) c.args.opened.now.items (spelled c.args.piece ∷ []))) c.run.ensures.given
