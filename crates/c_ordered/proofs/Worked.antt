-- A worked unit: its parts in preorder, with their paths, and the items that they are. Each place is given by its column in line 1.
use Rattle.std.proofs.Common.{◌≡◌, ℕ, List, [], ◌∷◌, map, flat_map, Option, Some, None, refl, false}
use Rattle.c_base.specs.declared.place.Pos.{Pos}
use Rattle.c_base.specs.declared.place.IntKind.TheVariants.{Int}
use Rattle.c_syntax.specs.declared.text.Text.{Text}
use Rattle.c_syntax.specs.declared.token.Key.TheVariants as key
use Rattle.c_syntax.specs.declared.tree.Named.{Named}
use Rattle.c_syntax.specs.declared.tree.UnaryOp.TheVariants as front
use Rattle.c_syntax.specs.Shape.{int, typed, number, name, and, or, NodeShape, node, ExprShape, leaf, paren, prefix, unary, two, one_node, no_lengths, SpecShapes, no_specs, more_specs, word, decl, DeclShapes, no_decls, more_decls, declarator, no_declarators, more_declarators, arrays, function, void, no_init, one_init, one, stmt, when, return, braces, no_items, more_items, defined, UnitShape}
use Rattle.c_tables.specs.Tables.{TablesShape}
use Rattle.c_walk.specs.Items.{Direct, Item, both, block, decision, def, used}
use Rattle.c_walk.specs.Units.{items_of}
use Rattle.c_walk.specs.declared.around.Taken.TheVariants.{Read}
use Rattle.c_ordered.specs.Trees.{Path, Standing}
use Rattle.c_ordered.specs.Parts as parts
use Rattle.c_ordered.specs.Parts.{Part, Role, place_of}
use Rattle.c_ordered.specs.Ordered.{parts_of, items_at}

-- ---- how the unit is spelled here

abbrev at : ℕ → Pos
at k = record { line = 1; col = k }

abbrev e : ℕ → ExprShape → NodeShape
e k f = node (at k) (at k) (typed (int Int) None) f

abbrev i_text : Text
i_text = 105 ∷ []

abbrev i : ℕ → NodeShape
i k = node (at k) (at k) (typed (int Int) (Some 1)) (leaf (name i_text))

abbrev zero_at : ℕ → NodeShape
zero_at k = e k (leaf (number (48 ∷ [])))

abbrev named : ℕ → Text → Option Named
named k x = Some (record { pos = at k; text = x; probe = None })

abbrev ints : SpecShapes
ints = more_specs (at 1) (word key.Int) no_specs

abbrev int_i : DeclShapes
int_i = more_decls (decl (at 16) ints (more_declarators (declarator [] (named 20 i_text) (arrays no_lengths) (one_init (one (zero_at 22)))) no_declarators)) no_decls

abbrev main_text : Text
main_text = 109 ∷ 97 ∷ 105 ∷ 110 ∷ []

-- int main(void){int i=0;if(i&&!(i||i))return i;}
abbrev unit : UnitShape
unit = record {
  pos = at 1;
  line = None;
  externals = defined ints (declarator [] (named 5 main_text) (function void) no_init) [] (braces (at 15) int_i
      (more_items [] (stmt (at 24) [] (at 24) (when (e 27 (two and (i 27) (e 30 (prefix (unary front.Not) (e 31 (paren (e 32 (two or (i 32) (i 35))))))))) (stmt (at 38) [] (at 38) (return (one_node (i 45)))))) no_items)) ∷ [];
  last = at 99;
}

abbrev tables : TablesShape
tables = record {
  structures = [];
  functions = record { name = main_text; result = int Int; params = []; defined = Some [] } ∷ [];
  variables = record { name = i_text; kind = int Int; function = 1 } ∷ [];
  literals = [];
}

-- ---- its parts

abbrev shown : Standing Part → Path × Role × Pos
shown s = (s.path, s.part.role, place_of s.part.what)

in_preorder : map shown (parts_of unit)
    ≡ ([], parts.other, at 1)
    ∷ (0 ∷ [], parts.other, at 5)
    ∷ (0 ∷ 0 ∷ [], parts.controlled, at 15)
    ∷ (0 ∷ 0 ∷ 0 ∷ [], parts.other, at 16)
    ∷ (0 ∷ 0 ∷ 0 ∷ 0 ∷ [], parts.defined, at 20)
    ∷ (0 ∷ 0 ∷ 0 ∷ 0 ∷ 0 ∷ [], parts.operand Read, at 22)
    ∷ (0 ∷ 0 ∷ 1 ∷ [], parts.listed false [], at 24)
    ∷ (0 ∷ 0 ∷ 1 ∷ 0 ∷ [], parts.tested, at 27)
    ∷ (0 ∷ 0 ∷ 1 ∷ 0 ∷ 0 ∷ [], parts.tested, at 27)
    ∷ (0 ∷ 0 ∷ 1 ∷ 0 ∷ 1 ∷ [], parts.tested_apart, at 30)
    ∷ (0 ∷ 0 ∷ 1 ∷ 0 ∷ 1 ∷ 0 ∷ [], parts.operand Read, at 31)
    ∷ (0 ∷ 0 ∷ 1 ∷ 0 ∷ 1 ∷ 0 ∷ 0 ∷ [], parts.operand Read, at 32)
    ∷ (0 ∷ 0 ∷ 1 ∷ 0 ∷ 1 ∷ 0 ∷ 0 ∷ 0 ∷ [], parts.tested, at 32)
    ∷ (0 ∷ 0 ∷ 1 ∷ 0 ∷ 1 ∷ 0 ∷ 0 ∷ 1 ∷ [], parts.tested_apart, at 35)
    ∷ (0 ∷ 0 ∷ 1 ∷ 1 ∷ [], parts.controlled, at 38)
    ∷ (0 ∷ 0 ∷ 1 ∷ 1 ∷ 0 ∷ [], parts.operand Read, at 45)
    ∷ []
in_preorder = refl

-- ---- the items that they are, and those that the walk lists

abbrev i_whole : Option Direct
i_whole = Some (record { variable = 1; name = i_text; kind = int Int })

abbrev listed : List Item
listed = block (at 15) ∷ def (at 20) 1 i_whole ∷ decision (at 27) both ∷ used (at 27) 1 i_whole (Some 1) ∷ block (at 30) ∷ decision (at 30) both
    ∷ decision (at 32) both ∷ used (at 32) 1 i_whole (Some 3) ∷ block (at 35) ∷ decision (at 35) both ∷ used (at 35) 1 i_whole (Some 4) ∷ block (at 38) ∷ used (at 45) 1 i_whole None ∷ []

by_parts : flat_map (items_at tables (parts_of unit)) (parts_of unit) ≡ listed
by_parts = refl

by_walk : items_of tables unit ≡ listed
by_walk = refl
