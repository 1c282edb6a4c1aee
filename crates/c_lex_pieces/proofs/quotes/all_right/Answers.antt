use Rattle.std.proofs.Common.{arith, ap, sym, ◌∙◌, ◌<◌, length}
use Rattle.std.proofs.lemmas.Grind.{common_steps}
use Rattle.std.specs.Prelude.{is_some}
use Rattle.c_lex_pieces.specs.Quotes.{all_values, characters}
use Rattle.c_lex_pieces.proofs.Steps.{right_value}
use Rattle.c_lex_pieces.proofs.quotes.all_right.Goals as goal

pub loop-rest-preserved : goal.loop-rest-preserved
loop-rest-preserved c =
    let some : 0 < length c.loop-rest.rest.now = grind (arith, common_steps) in
    ap (λ bs. is_some (all_values (characters bs))) c.split_at.ensures.back
    ∙ sym (right_value _ _ _ c.character_of-first.ensures.first some (c.character_of-first.ensures.some some) c.in-Some.is)
    ∙ c.loop-rest.invariant
