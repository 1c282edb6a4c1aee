-- Worked sizes: the rows of the tables and the labels of a switch beside the tokens.
use Rattle.std.proofs.Common.{◌≡◌, List, [], ◌∷◌, length, Option, Some, None, refl}
use Rattle.c_base.specs.declared.place.Pos.{Pos}
use Rattle.c_syntax.specs.declared.text.Text.{Text}
use Rattle.c_syntax.specs.declared.token.Key.TheVariants as key
use Rattle.c_syntax.specs.declared.tree.Named.{Named}
use Rattle.c_syntax.specs.Grammar.{tokens_of}
use Rattle.c_syntax.specs.Shape.{bare, number, str, name, node, NodeShape, ExprShape, leaf, call, no_nodes, more_nodes, one_node, SpecShapes, no_specs, more_specs, word, struct, members, no_lengths, decl, DeclShape, no_decls, more_decls, declarator, no_declarators, more_declarators, arrays, function, void, no_init, case, default, stmt, FormShape, simply, switch, break, braces, ItemShapes, no_items, more_items, ExternalShape, defined, declared, UnitShape}
use Rattle.c_tree.specs.Units.{typed_unit}
use Rattle.c_counted.specs.Sizes.{row_count}
use Rattle.c_counted.specs.Labels.{label_count}

abbrev p : Pos
p = record { line = 1; col = 1 }

abbrev n : ExprShape → NodeShape
n f = node p p bare f

abbrev x : Text
x = 120 ∷ []

abbrev y : Text
y = 121 ∷ []

abbrev main : Text
main = 109 ∷ 97 ∷ 105 ∷ 110 ∷ []

abbrev putchar : Text
putchar = 112 ∷ 117 ∷ 116 ∷ 99 ∷ 104 ∷ 97 ∷ 114 ∷ []

abbrev named : Text → Option Named
named z = Some (record { pos = p; text = z; probe = None })

abbrev int : SpecShapes
int = more_specs p (word key.Int) no_specs

abbrev of : SpecShapes → Text → DeclShape
of specs z = decl p specs (more_declarators (declarator [] (named z) (arrays no_lengths) no_init) no_declarators)

abbrev in_main : ItemShapes → ExternalShape
in_main items = defined int (declarator [] (named main) (function void) no_init) [] (braces p no_decls items)

abbrev unit : List ExternalShape → UnitShape
unit es = record { pos = p; line = None; externals = es; last = p }

abbrev one_item : FormShape → ItemShapes
one_item f = more_items [] (stmt p [] p f) no_items

-- struct { int x; int y; } x; int main(void) { "x"; putchar(x); }
abbrev rows : UnitShape
rows =
    unit (declared (of (more_specs p (struct None (members (more_decls (of int x) (more_decls (of int y) no_decls)))) no_specs) x)
    ∷ in_main (more_items [] (stmt p [] p (simply (one_node (n (leaf (str x)))))) (one_item (simply (one_node (n (call putchar (more_nodes (n (leaf (name x))) no_nodes))))))) ∷ [])

-- a structure with two fields, a variable, a literal, and the functions main and putchar
has_seven_rows : row_count (typed_unit rows).state.tables ≡ 7
unfolding row_count
has_seven_rows = refl

of_many_tokens : length (tokens_of rows) ≡ 25
of_many_tokens = refl

-- case 1: case 2: default: break;
abbrev three : ItemShapes
three = more_items (case p (n (leaf (number (49 ∷ [])))) ∷ case p (n (leaf (number (50 ∷ [])))) ∷ default p ∷ []) (stmt p [] p break) no_items

has_three_labels : label_count three ≡ 3
has_three_labels = refl

-- int main(void) { switch (1) { case 1: case 2: default: break; } }
labels_and_tokens : length (tokens_of (unit (in_main (one_item (switch (n (leaf (number (49 ∷ [])))) three)) ∷ []))) ≡ 23
labels_and_tokens = refl
