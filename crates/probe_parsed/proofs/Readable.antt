-- A program with its probes can be written as a text, which gives its tokens.
use Rattle.std.proofs.Common.{◌≡◌, List, ◌++◌, Option, Some, None, ◌∙◌, refl, ap, subst, not}
use Rattle.std.specs.Prelude.{◌&&◌}
use Rattle.c_syntax.specs.declared.text.Text.{Text}
use Rattle.c_syntax.specs.declared.tree.ProgramLine.{ProgramLine}
use Rattle.c_syntax.specs.declared.token.Mark.TheVariants as m
use Rattle.c_syntax.specs.declared.token.TokenKind.{TokenKind}
use Rattle.c_syntax.specs.declared.token.TokenKind.TheVariants as kind
use Rattle.c_syntax.specs.Forms.{kinds}
use Rattle.c_syntax.specs.Grammar.{maybe_line_form, line_form, externals_form, tokens_of}
use Rattle.c_lex_pieces.specs.Written.{AreBytes}
use Rattle.c_lex.specs.declared.lexer.TextKind.TheVariants.{Probed}
use Rattle.c_lex.specs.ReadBack.{AreReadable, are_apart}
use Rattle.c_tables.specs.Rows.{first_place}
use Rattle.c_walk.specs.Units.{no_items}
use Rattle.c_sites_probes.specs.Marked.{line_mark, externals_mark}
use Rattle.c_meaning.specs.Calls.{Source}
use Rattle.probe_rules.specs.Instrumented.{probed_externals, instrumented}
use Rattle.probe_rules.specs.Fitting.{HasFewItems}
use Rattle.probe_rules.specs.Simulation.{IsPlain, all_walked}
use Rattle.probe_rules.proofs.ReadyUnits.{some_none, none_first, none_second}
use Rattle.c_tree.specs.Lexed.{AreLexed}
use Rattle.probe_parsed.specs.Readable.{AreWithin}
use Rattle.probe_parsed.proofs.Woven.{woven_lexed, plain_first}
use Rattle.probe_parsed.proofs.WovenUnits.{externals_woven}

no_line : (l : Option ProgramLine) (ks : List TokenKind) → line_mark l ≡ None → kinds (maybe_line_form l) ++ ks ≡ ks
no_line None ks none = refl
no_line (Some l) ks none = absurd (some_none l.pos none)

-- a program line in front
lined : (l : ProgramLine) (ks : List TokenKind) → AreBytes l.digest → AreLexed ks → AreLexed (kinds (line_form l) ++ ks)
lined l ks bytes lexed = record {
  tokens = (tt, (tt, (bytes, (tt, (tt, lexed.tokens)))));
  kept = lexed.kept;
  apart = ap (λ b. not b && are_apart ks) (plain_first (kind.Mark m.Semicolon) ks refl) ∙ lexed.apart;
}

pub instrumented_lexed : (digest : Text) (P : Source) → AreBytes digest → IsPlain P → HasFewItems (all_walked P) → AreLexed (tokens_of P.unit) → AreLexed (tokens_of (instrumented digest P).unit)
instrumented_lexed digest P bytes plain few lexed =
    let es = P.unit.externals in
    let old = kinds (externals_form es) in
    let new = kinds (externals_form (probed_externals P.tables es no_items)) in
    let was : AreLexed old = subst AreLexed (no_line P.unit.line old (none_first (line_mark P.unit.line) (externals_mark es) plain)) lexed in
    let l : ProgramLine = record { pos = first_place; digest = digest } in
    lined l new bytes (woven_lexed old new (externals_woven P.tables es no_items (none_second (line_mark P.unit.line) (externals_mark es) plain) few) was)

pub instrumented_is_readable : (digest : Text) (P : Source) → AreBytes digest → IsPlain P → HasFewItems (all_walked P) → AreLexed (tokens_of P.unit) → AreWithin (tokens_of (instrumented digest P).unit) → AreReadable Probed (tokens_of (instrumented digest P).unit)
instrumented_is_readable digest P bytes plain few lexed within =
    let i = instrumented_lexed digest P bytes plain few lexed in
    record { tokens = i.tokens; kept = i.kept; apart = i.apart; few = within.few; short = within.short }
