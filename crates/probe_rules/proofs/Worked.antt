-- Worked programs with their probes, as tokens. All places are 1:1.
use Rattle.std.proofs.Common.{◌≡◌, ℕ, ◌+◌, ◌++◌, List, [], ◌∷◌, Option, Some, None, false, refl}
use Rattle.std.specs.Fmt.{digits}
use Rattle.c_base.specs.declared.place.Pos.{Pos}
use Rattle.c_base.specs.declared.place.IntKind.TheVariants.{Int}
use Rattle.c_arith.specs.Arith.{pattern, value_of}
use Rattle.c_syntax.specs.declared.text.Text.{Text}
use Rattle.c_syntax.specs.declared.token.TokenKind.{TokenKind}
use Rattle.c_syntax.specs.declared.token.TokenKind.TheVariants as kind
use Rattle.c_syntax.specs.declared.token.Mark.{Mark}
use Rattle.c_syntax.specs.declared.token.Mark.TheVariants as m
use Rattle.c_syntax.specs.declared.token.Key.TheVariants as key
use Rattle.c_syntax.specs.declared.token.ProbeWord.{ProbeWord}
use Rattle.c_syntax.specs.declared.token.ProbeWord.TheVariants as w
use Rattle.c_syntax.specs.declared.tree.Named.{Named}
use Rattle.c_syntax.specs.Forms.{kinds}
use Rattle.c_syntax.specs.Grammar.{stmt_form, tokens_of}
use Rattle.c_syntax.specs.Shape.{int, typed, number, char, name, and, or, assign, up, NodeShape, node, ExprShape, leaf, paren, call, suffix, two, behind, no_nodes, more_nodes, one_node, no_lengths, SpecShapes, no_specs, more_specs, word, decl, no_decls, more_decls, declarator, no_declarators, more_declarators, arrays, function, void, no_init, one_init, one, StmtShape, stmt, FormShape, simply, when, switch, return, braces, no_items, more_items, defined, case, default, UnitShape}
use Rattle.c_tables.specs.Tables.{TablesShape}
use Rattle.c_walk.specs.Items.{block, def}
use Rattle.c_walk.specs.Walked.{Walked}
use Rattle.c_walk.specs.Units.{in_function}
use Rattle.probe_rules.specs.ProbedStatements.{probed_stmt}
use Rattle.probe_rules.specs.Instrumented.{instrumented_unit}

-- ---- how they are spelled here

abbrev p : Pos
p = record { line = 1; col = 1 }

abbrev e : ExprShape → NodeShape
e f = node p p (typed (int Int) None) f

abbrev a : Text
a = 97 ∷ []

abbrev b : Text
b = 98 ∷ []

abbrev c : Text
c = 99 ∷ []

abbrev main_text : Text
main_text = 109 ∷ 97 ∷ 105 ∷ 110 ∷ []

abbrev getchar_text : Text
getchar_text = 103 ∷ 101 ∷ 116 ∷ 99 ∷ 104 ∷ 97 ∷ 114 ∷ []

abbrev putchar_text : Text
putchar_text = 112 ∷ 117 ∷ 116 ∷ 99 ∷ 104 ∷ 97 ∷ 114 ∷ []

-- the variables a, b and c are the first three
abbrev var : ℕ → NodeShape
var k = node p p (typed (int Int) (Some k)) (leaf (name ((96 + k) ∷ [])))

abbrev digit : ℕ → NodeShape
digit k = e (leaf (number ((48 + k) ∷ [])))

abbrev s : FormShape → StmtShape
s f = stmt p [] p f

abbrev named : Text → Option Named
named x = Some (record { pos = p; text = x; probe = None })

abbrev ints : SpecShapes
ints = more_specs p (word key.Int) no_specs

abbrev tables : TablesShape
tables = record { structures = []; functions = record { name = main_text; result = int Int; params = []; defined = Some [] } ∷ []; variables = record { name = a; kind = int Int; function = 1 } ∷ []; literals = [] }

-- ---- and their tokens

abbrev mark : Mark → List TokenKind
mark x = kind.Mark x ∷ []

abbrev spelled : Text → List TokenKind
spelled x = kind.Word x ∷ []

abbrev numeral : ℕ → List TokenKind
numeral k = kind.Number ((48 + k) ∷ []) ∷ []

-- a probe with a number of one digit
abbrev round : ProbeWord → ℕ → List TokenKind → List TokenKind
round x k inner = kind.Probe x ∷ mark m.LeftParen ++ numeral k ++ mark m.Comma ++ inner ++ mark m.RightParen

abbrev in_parens : List TokenKind → List TokenKind
in_parens inner = mark m.LeftParen ++ inner ++ mark m.RightParen

abbrev block_before : ℕ → List TokenKind
block_before k = kind.Probe w.Block ∷ in_parens (numeral k) ++ mark m.Colon

-- ---- if(a&&(b||c))putchar('y'); where a, b and c were defined, in a body that is a block

abbrev three_defined : Walked
three_defined = record { items = block p ∷ def p 1 None ∷ def p 1 None ∷ def p 1 None ∷ []; decisions = 0; variables = 3 }

abbrev if_statement : StmtShape
if_statement =
    s (when (e (two and (var 1) (e (paren (e (two or (var 2) (var 3))))))) (s (simply (one_node (e (call putchar_text (more_nodes (e (leaf (char 121))) no_nodes)))))))

-- if(__atac_test(1,__atac_use(1,a))&&__atac_block(2,(__atac_test(2,__atac_use(2,b))||__atac_block(3,__atac_test(3,__atac_use(3,c))))))
-- __atac_block(4):putchar('y');
tests_are_probed : kinds (stmt_form (probed_stmt tables (in_function 1) false if_statement three_defined))
    ≡ kind.Key key.If ∷ in_parens (round w.Test 1 (round w.Use 1 (spelled a)) ++ mark m.AndAnd
    ++ round w.Block 2 (in_parens (round w.Test 2 (round w.Use 2 (spelled b)) ++ mark m.OrOr ++ round w.Block 3 (round w.Test 3 (round w.Use 3 (spelled c))))))
    ++ block_before 4 ++ spelled putchar_text ++ in_parens (kind.Char 121 ∷ []) ++ mark m.Semicolon
unfolding digits
tests_are_probed = refl

-- ---- int main(void){int a=0;switch(getchar()){case 'a':a++;default:a=-1;}return a;}

abbrev program : UnitShape
program = record {
  pos = p;
  line = None;
  externals = defined ints (declarator [] (named main_text) (function void) no_init) []
      (braces p (more_decls (decl p ints (more_declarators (declarator [] (named a) (arrays no_lengths) (one_init (one (digit 0)))) no_declarators)) no_decls)
      (more_items [] (s (switch (e (call getchar_text no_nodes))
      (more_items (case p (e (leaf (char 97))) ∷ []) (s (simply (one_node (e (suffix (var 1) (behind up))))))
      (more_items (case p (e (leaf (char 200))) ∷ default p ∷ []) (s (simply (one_node (e (two (assign None) (var 1) (digit 7)))))) no_items))))
      (more_items [] (s (return (one_node (var 1)))) no_items))) ∷ [];
  last = p;
}

abbrev digest : Text
digest = 68 ∷ []

-- __atac_program("D");int main(void)__atac_block(1):{int __atac_def(1,a)=0;switch(__atac_select(1,97,-56;getchar())){
-- case 'a':__atac_block(2):__atac_def(2,__atac_use(1,a))++;case '\310':default:__atac_block(3):__atac_def(3,a)=7;}
-- __atac_block(4):return __atac_use(2,a);}
all_is_probed : tokens_of (instrumented_unit digest tables program)
    ≡ kind.Probe w.Program ∷ in_parens (kind.Str digest ∷ []) ++ mark m.Semicolon
    ++ kind.Key key.Int ∷ spelled main_text ++ in_parens (kind.Key key.Void ∷ []) ++ block_before 1 ++ mark m.LeftBrace
    ++ kind.Key key.Int ∷ round w.Def 1 (spelled a) ++ mark m.Equal ++ numeral 0 ++ mark m.Semicolon
    ++ kind.Key key.Switch ∷ in_parens (kind.Probe w.Select ∷ in_parens (numeral 1 ++ mark m.Comma ++ kind.Number (57 ∷ 55 ∷ []) ∷ mark m.Comma ++ mark m.Minus ++ kind.Number (53 ∷ 54 ∷ []) ∷ mark m.Semicolon ++ spelled getchar_text ++ in_parens [])) ++ mark m.LeftBrace
    ++ kind.Key key.Case ∷ kind.Char 97 ∷ mark m.Colon ++ block_before 2 ++ round w.Def 2 (round w.Use 1 (spelled a)) ++ mark m.PlusPlus ++ mark m.Semicolon
    ++ kind.Key key.Case ∷ kind.Char 200 ∷ mark m.Colon ++ kind.Key key.Default ∷ mark m.Colon ++ block_before 3 ++ round w.Def 3 (spelled a) ++ mark m.Equal ++ numeral 7 ++ mark m.Semicolon ++ mark m.RightBrace
    ++ block_before 4 ++ kind.Key key.Return ∷ round w.Use 2 (spelled a) ++ mark m.Semicolon ++ mark m.RightBrace
unfolding digits pattern value_of
all_is_probed = refl
