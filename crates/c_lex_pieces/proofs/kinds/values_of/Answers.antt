use Rattle.std.proofs.Common.{arith, ap, sym, ◌∙◌, ◌<◌, length, drop}
use Rattle.std.proofs.lemmas.Grind.{common_steps}
use Rattle.c_lex_pieces.specs.Quotes.{all_values, characters}
use Rattle.c_lex_pieces.proofs.Steps.{behind, value_behind}
use Rattle.c_lex_pieces.proofs.kinds.values_of.Goals as goal

pub loop-rest-preserved : goal.loop-rest-preserved
loop-rest-preserved c =
    let some : 0 < length c.loop-rest.rest.now = grind (arith, common_steps) in
    record {
      few = grind (arith, common_steps);
      values =
          ap (λ bs. behind c.push.new.self (all_values (characters bs))) c.split_at.ensures.back
          ∙ ap (λ out. behind out (all_values (characters (drop c.character_of-first.result.size c.loop-rest.rest.now)))) c.in_ok-push.ensures.ok
          ∙ sym (value_behind _ _ _ _ c.character_of-first.ensures.first some (c.character_of-first.ensures.some some) c.in-Some.is)
          ∙ c.loop-rest.invariant.values;
    }
