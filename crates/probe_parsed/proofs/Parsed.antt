-- The text of a program with its probes is read as its unit, but for places and notes.
use Rattle.std.proofs.Common.{◌≡◌, List, sym, subst, ◌∙◌}
use Rattle.c_syntax.specs.declared.text.Text.{Text}
use Rattle.c_syntax.specs.declared.token.Token.{Token}
use Rattle.c_syntax.specs.Forms.{kinds_of}
use Rattle.c_syntax.specs.Grammar.{tokens_of}
use Rattle.c_lex.specs.declared.lexer.TextKind.TheVariants.{Probed}
use Rattle.c_lex.specs.ReadBack.{AreReadable}
use Rattle.c_lex.specs.Written.{written}
use Rattle.c_lex.proofs.ReadBack.{written_reads}
use Rattle.c_tree.specs.Unnoted.{bare_unit}
use Rattle.c_meaning.specs.Calls.{Source}
use Rattle.probe_rules.specs.Instrumented.{instrumented}
use Rattle.c_placing.specs.Placing.{at_unit}
use Rattle.probe_parsed.specs.Parsed.{IsParsed, IsWritable}
use Rattle.probe_parsed.proofs.Readable.{instrumented_is_readable}
use Rattle.c_tree.proofs.BareForms.{tokens_same}
use Rattle.probe_parsed.proofs.FirmUnits.{instrumented_is_shaped}
use Rattle.c_placing.proofs.Placing.{unit_is_placed}
use Rattle.c_placing.proofs.PlacedShaped.{placed_is_shaped}
use Rattle.c_placing.proofs.PlacedEqual.{placed_is_equal}

pub instrumented_is_parsed : (digest : Text) (P : Source) (ts : List Token) → IsWritable digest P → kinds_of ts ≡ tokens_of (instrumented digest P).unit → IsParsed (written ts) (instrumented digest P).unit
instrumented_is_parsed digest P ts w e =
    let q = (instrumented digest P).unit in
    let i = written_reads Probed ts (subst (AreReadable Probed) (sym e) (instrumented_is_readable digest P w.bytes w.plain w.few w.lexed w.within)) in
    record {
      tokens = i.0;
      read = i.1;
      unit = at_unit i.0 (bare_unit q);
      shaped = placed_is_shaped i.0 (bare_unit q) (instrumented_is_shaped digest P w.plain w.few w.shaped);
      placed = unit_is_placed i.0 (bare_unit q) (i.2 ∙ (e ∙ sym (tokens_same q)));
      equal = placed_is_equal i.0 (bare_unit q);
    }
