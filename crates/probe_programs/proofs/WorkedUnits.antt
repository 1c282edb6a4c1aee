-- A worked copy of a structure: with its probes, a definition round its target and a use round its source, it is typed as it stands. All places
-- are 1:1.
use Rattle.std.proofs.Common.{◌≡◌, ℕ, ◌+◌, List, [], ◌∷◌, Option, Some, None, refl}
use Rattle.std.specs.Fmt.{digits}
use Rattle.c_base.specs.declared.place.Pos.{Pos}
use Rattle.c_syntax.specs.declared.text.Text.{Text}
use Rattle.c_syntax.specs.declared.token.Key.TheVariants as key
use Rattle.c_syntax.specs.declared.tree.Named.{Named}
use Rattle.c_syntax.specs.declared.tree.ProbeMark.{ProbeMark}
use Rattle.c_syntax.specs.declared.tree.ProgramLine.{ProgramLine}
use Rattle.c_syntax.specs.Shape.{bare, number, name, assign, Probing, used, def, simple, NodeShape, node, ExprShape, leaf, paren, two, probe, one_node, no_lengths, SpecShapes, no_specs, more_specs, word, struct, no_members, members, decl, no_decls, more_decls, declarator, no_declarators, more_declarators, arrays, function, void, no_init, StmtShape, stmt, FormShape, simply, return, braces, no_items, more_items, ExternalShape, defined, declared, UnitShape}
use Rattle.c_arith.specs.Arith.{pattern, value_of, fitted, unary_result}
use Rattle.c_tree.specs.Units.{typed_unit, complaints}
use Rattle.c_tree.specs.Unnoted.{bare_unit}
use Rattle.probe_rules.specs.Instrumented.{instrumented_unit}

abbrev p : Pos
p = record { line = 1; col = 1 }

abbrev e : ExprShape → NodeShape
e f = node p p bare f

abbrev text : ℕ → Text
text k = (48 + k) ∷ []

abbrev a_text : Text
a_text = 97 ∷ []

abbrev b_text : Text
b_text = 98 ∷ []

abbrev f_text : Text
f_text = 102 ∷ []

abbrev s_text : Text
s_text = 115 ∷ []

abbrev main_text : Text
main_text = 109 ∷ 97 ∷ 105 ∷ 110 ∷ []

abbrev named : Text → Option ProbeMark → Option Named
named x m = Some (record { pos = p; text = x; probe = m })

abbrev mark : ℕ → ProbeMark
mark k = record { pos = p; number = text k }

abbrev variable : SpecShapes → Text → Option ProbeMark → ExternalShape
variable specs x m = declared (decl p specs (more_declarators (declarator [] (named x m) (arrays no_lengths) no_init) no_declarators))

abbrev ints : SpecShapes
ints = more_specs p (word key.Int) no_specs

-- struct s{int f;}
abbrev with_f : SpecShapes
with_f = more_specs p (struct (named s_text None) (members (more_decls (decl p ints (more_declarators (declarator [] (named f_text None) (arrays no_lengths) no_init) no_declarators)) no_decls))) no_specs

abbrev of_s : SpecShapes
of_s = more_specs p (struct (named s_text None) no_members) no_specs

abbrev s : FormShape → StmtShape
s f = stmt p [] p f

-- struct s{int f;}a;struct s b;int main(void){target=source;return 0;}
abbrev unit : Option ProgramLine → Option ProbeMark → Option ProbeMark → List ProbeMark → NodeShape → NodeShape → UnitShape
unit line m n ms target source = record {
  pos = p;
  line = line;
  externals = variable with_f a_text m ∷ variable of_s b_text n
      ∷ defined ints (declarator [] (named main_text None) (function void) no_init) ms
      (braces p no_decls (more_items [] (s (simply (one_node (e (two (assign None) target source))))) (more_items [] (s (return (one_node (e (leaf (number (text 0))))))) no_items))) ∷ [];
  last = p;
}

abbrev variable_a : NodeShape
variable_a = e (leaf (name a_text))

abbrev variable_b : NodeShape
variable_b = e (leaf (name b_text))

abbrev round : Probing → ℕ → NodeShape → NodeShape
round u k a = e (probe (simple u (text k)) a)

-- a=(b)
abbrev plain : UnitShape
plain = unit None None None [] variable_a (e (paren variable_b))

no_complaint : complaints plain ≡ []
no_complaint = refl

abbrev sixteen : Text → Text
sixteen t = 48 ∷ 49 ∷ 50 ∷ 51 ∷ 52 ∷ 53 ∷ 54 ∷ 55 ∷ 56 ∷ 57 ∷ 97 ∷ 98 ∷ 99 ∷ 100 ∷ 101 ∷ 102 ∷ t

abbrev digest : Text
digest = sixteen (sixteen (sixteen (sixteen [])))

-- __atac_def(3,a)=(__atac_use(1,b))
abbrev probed : UnitShape
probed = unit (Some (record { pos = p; digest = digest })) (Some (mark 1)) (Some (mark 2)) (mark 1 ∷ []) (round def 3 variable_a) (e (paren (round used 1 variable_b)))

is_probed : bare_unit (instrumented_unit digest (typed_unit plain).state.tables (typed_unit plain).unit) ≡ probed
unfolding digits pattern value_of fitted unary_result
is_probed = refl

is_typed : bare_unit (typed_unit probed).unit ≡ probed
unfolding pattern value_of fitted unary_result
is_typed = refl

is_clean : complaints probed ≡ []
unfolding pattern value_of fitted unary_result
is_clean = refl
