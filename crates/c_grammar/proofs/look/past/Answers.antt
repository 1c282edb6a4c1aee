use Rattle.std.proofs.Common.{rules, ◌≡◌, ◌<◌, length, Some, None, Bool, IfSome, MatchOption, ℕ, ◌+◌, ◌-◌, ◌*◌, ◌≤◌, ◌/◌, ◌%◌, true, false, nat_eq, nat_lt, List, [], ◌∷◌, ◌++◌, slice_index_or, slice_set, bit_and, bit_or, Fits, w8, w32, w64, Bor, MutBor}
use Rattle.c_syntax.specs.Forms.{place}
use Rattle.c_grammar.specs.Look.{after, after_key, after_probe, a_number, a_string, a_word, got}
use Rattle.c_grammar.specs.Starts.{mark_oper, an_oper, no_oper, sign, a_sign, no_sign, start, no_start, spec_head, no_spec, is_spec, type_ahead}
use Rattle.c_grammar.specs.CodeView.{oper_of, start_of, spec_start_of}
use Rattle.c_syntax.specs.declared.token.TokenKind.TheVariants as kind
use Rattle.c_syntax.specs.Forms.{head, a_token}
use Rattle.c_grammar.proofs.Looking.{after_of}
use Rattle.c_grammar.proofs.look.past.Goals as goal

-- src/look.rt:89:17
pub returns-then-eq-clause-found : goal.returns-then-eq-clause-found
returns-then-eq-clause-found c =
    let h : c.in-Mark.found ≡ c.args.mark = search rules in
    let k : head c.args.input.now ≡ a_token (kind.Mark c.args.mark) c.in-Some.rest.now = search rules in
    after_of c.args.mark c.args.input.now c.in-Some.rest.now k
