-- A worked program with its probes, typed: it is the tree that typing makes of it, and nothing is complained of. All places are 1:1.
use Rattle.std.proofs.Common.{◌≡◌, ℕ, ◌+◌, List, [], ◌∷◌, Option, Some, None, refl, arith}
use Rattle.std.specs.Fmt.{digits}
use Rattle.c_base.specs.declared.place.Pos.{Pos}
use Rattle.c_base.specs.declared.place.IntKind.TheVariants.{Int}
use Rattle.c_arith.specs.Arith.{pattern, value_of, fitted, unary_result}
use Rattle.c_syntax.specs.declared.text.Text.{Text}
use Rattle.c_syntax.specs.declared.token.Key.TheVariants as key
use Rattle.c_syntax.specs.declared.tree.Named.{Named}
use Rattle.c_syntax.specs.declared.tree.ProbeMark.{ProbeMark}
use Rattle.c_syntax.specs.declared.tree.ProgramLine.{ProgramLine}
use Rattle.c_syntax.specs.declared.tree.UnaryOp.TheVariants as front
use Rattle.c_syntax.specs.Shape.{int, NoteShape, typed, number, name, unary, and, assign, Probing, block, test, used, def, simple, select, NodeShape, node, ExprShape, leaf, prefix, two, probe, no_nodes, more_nodes, one_node, no_lengths, SpecShapes, no_specs, more_specs, word, decl, no_decls, declarator, no_declarators, more_declarators, arrays, function, void, no_init, StmtShape, stmt, FormShape, simply, switch, return, braces, no_items, more_items, defined, declared, case, UnitShape}
use Rattle.c_tables.specs.Tables.{TablesShape}
use Rattle.c_tree.specs.Units.{typed_unit, complaints}
use Rattle.c_meaning.specs.Calls.{Source}
use Rattle.probe_rules.specs.Instrumented.{instrumented_unit, instrumented}
use Rattle.probe_rules.specs.Fitting.{IsFitUnit, HasFewItems}
use Rattle.probe_rules.specs.Simulation.{all_walked, Simulates}
use Rattle.c_sites_probes.specs.Owned.{owned_in}
use Rattle.probe_rules.proofs.Simulation.{simulates}

abbrev p : Pos
p = record { line = 1; col = 1 }

abbrev an_int : NoteShape
an_int = typed (int Int) None

abbrev e : ExprShape → NodeShape
e f = node p p an_int f

abbrev text : ℕ → Text
text k = (48 + k) ∷ []

abbrev digit : ℕ → NodeShape
digit k = e (leaf (number (text k)))

abbrev a_text : Text
a_text = 97 ∷ []

abbrev a : NodeShape
a = node p p (typed (int Int) (Some 1)) (leaf (name a_text))

abbrev round : Probing → ℕ → NodeShape → NodeShape
round u k l = e (probe (simple u (text k)) l)

abbrev minus_two : NodeShape
minus_two = e (prefix (unary front.Minus) (digit 2))

abbrev mark : ℕ → ProbeMark
mark k = record { pos = p; number = text k }

abbrev s : List ProbeMark → FormShape → StmtShape
s ms f = stmt p ms p f

abbrev ints : SpecShapes
ints = more_specs p (word key.Int) no_specs

abbrev named : Text → Option ProbeMark → Option Named
named x m = Some (record { pos = p; text = x; probe = m })

abbrev main_text : Text
main_text = 109 ∷ 97 ∷ 105 ∷ 110 ∷ []

-- int a;int main(void){switch(..){case -2:..;}return ..;}
abbrev unit : Option ProgramLine → Option ProbeMark → List ProbeMark → NodeShape → StmtShape → StmtShape → UnitShape
unit line m ms chosen one last = record {
  pos = p;
  line = line;
  externals = declared (decl p ints (more_declarators (declarator [] (named a_text m) (arrays no_lengths) no_init) no_declarators))
      ∷ defined ints (declarator [] (named main_text None) (function void) no_init) ms
      (braces p no_decls (more_items [] (s [] (switch chosen (more_items (case p minus_two ∷ []) one no_items))) (more_items [] last no_items))) ∷ [];
  last = p;
}

-- int a;int main(void){switch(a){case -2:a=7;}return a&&a;}
abbrev plain_unit : UnitShape
plain_unit = unit None None [] a (s [] (simply (one_node (e (two (assign None) a (digit 7)))))) (s [] (return (one_node (e (two and a a)))))

abbrev tables : TablesShape
tables = record {
  structures = [];
  functions = record { name = main_text; result = int Int; params = []; defined = Some [] } ∷ [];
  variables = record { name = a_text; kind = int Int; function = 0 } ∷ [];
  literals = [];
}

abbrev sixteen : Text → Text
sixteen t = 48 ∷ 49 ∷ 50 ∷ 51 ∷ 52 ∷ 53 ∷ 54 ∷ 55 ∷ 56 ∷ 57 ∷ 97 ∷ 98 ∷ 99 ∷ 100 ∷ 101 ∷ 102 ∷ t

abbrev digest : Text
digest = sixteen (sixteen (sixteen (sixteen [])))

-- __atac_program("..");int __atac_def(1,a);int main(void)__atac_block(1):{switch(__atac_select(1,-2;__atac_use(1,a))){
-- case -2:__atac_block(2):__atac_def(2,a)=7;}__atac_block(3):return __atac_test(2,__atac_use(2,a))&&__atac_block(4,__atac_test(3,__atac_use(3,a)));}
abbrev probed_unit : UnitShape
probed_unit =
    unit (Some (record { pos = p; digest = digest })) (Some (mark 1)) (mark 1 ∷ []) (e (probe (select (text 1) (more_nodes minus_two no_nodes)) (round used 1 a)))
    (s (mark 2 ∷ []) (simply (one_node (e (two (assign None) (round def 2 a) (digit 7))))))
    (s (mark 3 ∷ []) (return (one_node (e (two and (round test 2 (round used 2 a)) (round block 4 (round test 3 (round used 3 a))))))))

is_probed : instrumented_unit digest tables plain_unit ≡ probed_unit
unfolding digits pattern value_of fitted unary_result
is_probed = refl

is_typed : (typed_unit probed_unit).unit ≡ probed_unit
unfolding pattern value_of fitted unary_result
is_typed = refl

is_clean : complaints probed_unit ≡ []
unfolding pattern value_of fitted unary_result
is_clean = refl

-- ---- what holds of it

abbrev program : Source
program = record { unit = plain_unit; tables = tables }

is_fit : IsFitUnit plain_unit
is_fit = ((tt, tt), ((tt, (tt, (tt, ((tt, tt), (((tt, (tt, tt)), tt), (tt, ((refl, tt), (tt, tt))), tt)), (tt, (tt, ((tt, tt), (tt, tt))), tt)))), tt))

few : HasFewItems (all_walked program)
few = record { blocks = omega arith; decisions = omega arith; defs = omega arith; uses = omega arith }

-- with its probes it does what it does without
simulated : Simulates (instrumented digest program) program
simulated = simulates digest program refl is_fit few

-- and each of its uses is that of the decision round it
owned : owned_in probed_unit ≡ (1, 1) ∷ (2, 2) ∷ (3, 3) ∷ []
owned = refl
