use Rattle.std.proofs.Common.{◌∙◌, ap, sym, arith}
use Rattle.c_lex_pieces.proofs.Spelled.{are_bytes}
use Rattle.c_lex.specs.Scan.{scanned}
use Rattle.c_lex.proofs.Scanning.{whole}
use Rattle.c_lex.proofs.Soundness.{given_is_sound}
use Rattle.c_lex.proofs.lexer.lex.Goals as goal

pub returns-clause-sound : goal.returns-clause-sound
returns-clause-sound c =
    let there = whole c.args.kind c.args.text.now (scanned c.in_ok-tokens.tokens.items) c.in_ok-tokens.ensures.tokens in
    given_is_sound c.args.kind c.args.text.now _ (are_bytes c.args.text.now (λ k. omega (arith, c.type_inv.text k))) (there ∙ ap scanned (sym c.in_ok-join.ensures))
