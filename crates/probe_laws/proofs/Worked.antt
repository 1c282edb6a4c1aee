-- Worked programs: one that the law speaks of, and one with a probe, which is typed without complaint but isn't fit. All places are 1:1.
use Rattle.std.proofs.Common.{◌≡◌, [], ◌∷◌, Option, Some, None, refl, arith}
use Rattle.c_base.specs.declared.place.Pos.{Pos}
use Rattle.c_syntax.specs.declared.text.Text.{Text}
use Rattle.c_syntax.specs.declared.token.Key.TheVariants as key
use Rattle.c_syntax.specs.declared.token.TokenKind.TheVariants as kind
use Rattle.c_syntax.specs.declared.tree.Named.{Named}
use Rattle.c_syntax.specs.Shape.{bare, number, name, assign, def, simple, and, NodeShape, node, ExprShape, leaf, two, probe, one_node, no_lengths, SpecShapes, no_specs, more_specs, word, decl, no_decls, declarator, no_declarators, more_declarators, arrays, function, void, no_init, StmtShape, stmt, FormShape, simply, return, braces, no_items, more_items, defined, declared, UnitShape}
use Rattle.c_lex_pieces.specs.Written.{IsToken}
use Rattle.c_tree.specs.Units.{typed_unit, complaints}
use Rattle.c_tree.specs.Programs.{IsSound}
use Rattle.c_tree.proofs.Programs.{program_typed}
use Rattle.c_meaning.specs.Calls.{Source}
use Rattle.probe_rules.specs.Instrumented.{instrumented}
use Rattle.probe_rules.specs.Fitting.{IsFitUnit}
use Rattle.probe_rules.specs.Simulation.{Simulates}
use Rattle.probe_laws.proofs.Laws.{program_simulates}

abbrev p : Pos
p = record { line = 1; col = 1 }

abbrev e : ExprShape → NodeShape
e f = node p p bare f

abbrev a_text : Text
a_text = 97 ∷ []

abbrev main_text : Text
main_text = 109 ∷ 97 ∷ 105 ∷ 110 ∷ []

abbrev a : NodeShape
a = e (leaf (name a_text))

abbrev seven : NodeShape
seven = e (leaf (number (55 ∷ [])))

abbrev s : FormShape → StmtShape
s f = stmt p [] p f

abbrev ints : SpecShapes
ints = more_specs p (word key.Int) no_specs

abbrev named : Text → Option Named
named x = Some (record { pos = p; text = x; probe = None })

-- int a;int main(void){..=7;return a&&a;}
abbrev unit : NodeShape → UnitShape
unit place = record {
  pos = p;
  line = None;
  externals = declared (decl p ints (more_declarators (declarator [] (named a_text) (arrays no_lengths) no_init) no_declarators))
      ∷ defined ints (declarator [] (named main_text) (function void) no_init) []
      (braces p no_decls (more_items [] (s (simply (one_node (e (two (assign None) place seven))))) (more_items [] (s (return (one_node (e (two and a a))))) no_items))) ∷ [];
  last = p;
}

a_word : IsToken (kind.Word a_text)
a_word = ((refl, tt), refl, refl)

main_word : IsToken (kind.Word main_text)
main_word = ((refl, (refl, (refl, (refl, tt)))), refl, refl)

seven_number : IsToken (kind.Number (55 ∷ []))
seven_number = (refl, tt, refl)

is_sound : IsSound (unit a)
is_sound = record {
  shaped = record {
    some = λ h. cc;
    all = (
      ((refl, tt), (refl, tt, tt), tt),
      (
        ((refl, tt), tt, (refl, (refl, tt), tt), (tt, (tt, (omega arith, (refl, (refl, omega arith, (refl, tt), omega arith, (refl, tt)))), (tt, (omega arith, (refl, (refl, omega arith, (refl, tt), omega arith, (refl, tt)))), tt)))),
        tt,
      ),
    );
    low = omega arith;
  };
  lexed = record {
    -- int a ; int main ( void ) { a = 7 ; return a && a ; }
    tokens = (tt, (a_word, (tt, (tt, (main_word, (tt, (tt, (tt, (tt, (a_word, (tt, (seven_number, (tt, (tt, (a_word, (tt, (a_word, (tt, (tt, tt)))))))))))))))))));
    kept = refl;
    apart = refl;
  };
}

abbrev program : Source
program = record { unit = (typed_unit (unit a)).unit; tables = (typed_unit (unit a)).state.tables }

simulated : (digest : Text) → Simulates (instrumented digest program) program
simulated digest = program_simulates program (program_typed (unit a) is_sound refl) refl digest

-- __atac_def(1,a)=7
abbrev probed : UnitShape
probed = unit (e (probe (simple def (49 ∷ [])) a))

no_complaint : complaints probed ≡ []
no_complaint = refl

not_fit : IsFitUnit (typed_unit probed).unit → ⊥
not_fit f = let h = f.1.0.1.1.1.1.0.0 in cc
