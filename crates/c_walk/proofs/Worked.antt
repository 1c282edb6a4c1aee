-- Worked units: their items. Each place is given by its column in line 1.
use Rattle.std.proofs.Common.{◌≡◌, ℕ, pos, ◌+◌, List, [], ◌∷◌, Option, Some, None, refl}
use Rattle.c_base.specs.declared.place.Pos.{Pos}
use Rattle.c_base.specs.declared.place.IntKind.TheVariants.{Int}
use Rattle.c_arith.specs.Arith.{wrap}
use Rattle.c_syntax.specs.declared.text.Text.{Text}
use Rattle.c_syntax.specs.declared.token.Key.TheVariants as key
use Rattle.c_syntax.specs.declared.tree.Named.{Named}
use Rattle.c_syntax.specs.declared.tree.BinaryOp.TheVariants as op
use Rattle.c_syntax.specs.declared.tree.UnaryOp.TheVariants as front
use Rattle.c_syntax.specs.Shape.{int, array, structure, typed, number, name, unary, plain, and, or, assign, dot, up, NodeShape, node, ExprShape, leaf, paren, prefix, two, suffix, index, field, behind, one_node, no_lengths, SpecShapes, no_specs, more_specs, word, decl, DeclShapes, no_decls, more_decls, declarator, no_declarators, more_declarators, arrays, function, void, no_init, one_init, one, StmtShape, stmt, FormShape, compound, simply, when, while, switch, break, return, braces, ItemShapes, no_items, more_items, defined, case, default, UnitShape}
use Rattle.c_tables.specs.Tables.{TablesShape}
use Rattle.c_walk.specs.Items.{Direct, both, only_true, cases, Item, block, decision, def, used}
use Rattle.c_walk.specs.Units.{items_of}

-- ---- how the units are spelled here

abbrev at : ℕ → Pos
at k = record { line = 1; col = k }

abbrev e : ℕ → ExprShape → NodeShape
e k f = node (at k) (at k) (typed (int Int) None) f

abbrev i_text : Text
i_text = 105 ∷ []

abbrev i : ℕ → NodeShape
i k = node (at k) (at k) (typed (int Int) (Some 1)) (leaf (name i_text))

abbrev digit : ℕ → ℕ → NodeShape
digit k n = e k (leaf (number ((48 + n) ∷ [])))

abbrev named : ℕ → Text → Option Named
named k x = Some (record { pos = at k; text = x; probe = None })

abbrev ints : SpecShapes
ints = more_specs (at 1) (word key.Int) no_specs

-- int i=0; where i stands there
abbrev int_i : ℕ → DeclShapes
int_i k = more_decls (decl (at k) ints (more_declarators (declarator [] (named k i_text) (arrays no_lengths) (one_init (one (digit (k + 2) 0)))) no_declarators)) no_decls

abbrev s : ℕ → FormShape → StmtShape
s k f = stmt (at k) [] (at k) f

abbrev then : ℕ → FormShape → ItemShapes → ItemShapes
then k f rest = more_items [] (s k f) rest

abbrev main_text : Text
main_text = 109 ∷ 97 ∷ 105 ∷ 110 ∷ []

-- int main(void) with a body at column 15
abbrev main_with : DeclShapes → ItemShapes → UnitShape
main_with ds items = record {
  pos = at 1;
  line = None;
  externals = defined ints (declarator [] (named 5 main_text) (function void) no_init) [] (braces (at 15) ds items) ∷ [];
  last = at 99;
}

abbrev v_text : Text
v_text = 118 ∷ []

abbrev f_text : Text
f_text = 102 ∷ []

abbrev g_text : Text
g_text = 103 ∷ []

-- main is function 1, i is variable 1, and v is variable 2, of type struct{int f;int g[2];}
abbrev tables : TablesShape
tables = record {
  structures = record { tag = None; fields = record { name = f_text; kind = int Int } ∷ record { name = g_text; kind = array (int Int) 2 } ∷ [] } ∷ [];
  functions = record { name = main_text; result = int Int; params = []; defined = Some [] } ∷ [];
  variables = record { name = i_text; kind = int Int; function = 1 } ∷ record { name = v_text; kind = structure 1; function = 1 } ∷ [];
  literals = [];
}

abbrev items : UnitShape → List Item
items u = items_of tables u

abbrev direct_i : Option Direct
direct_i = Some (record { variable = 1; name = i_text; kind = int Int })

-- ---- units

-- int main(void){int i=0;while(1){i++;if(i==2)break;}return i;}
loop_with_break : items (main_with (int_i 20)
    (then 24 (while (digit 30 1) (s 32 (compound (braces (at 32) no_decls
    (then 33 (simply (one_node (e 33 (suffix (i 33) (behind up)))))
    (then 37 (when (e 40 (two (plain op.Eq) (i 40) (digit 43 2))) (s 45 break)) no_items))))))
    (then 52 (return (one_node (i 59))) no_items)))
    ≡ block (at 15) ∷ def (at 20) 1 direct_i ∷ block (at 30) ∷ decision (at 30) only_true ∷ block (at 32) ∷ def (at 33) 1 direct_i ∷ used (at 33) 1 direct_i None
    ∷ decision (at 40) both ∷ used (at 40) 1 direct_i (Some 2) ∷ block (at 45) ∷ block (at 52) ∷ used (at 59) 1 direct_i None ∷ []
loop_with_break = refl

-- int main(void){int i=0;if(i&&(i||i))return i;}
tests : items (main_with (int_i 20)
    (then 24 (when (e 27 (two and (i 27) (e 30 (paren (e 31 (two or (i 31) (i 34))))))) (s 37 (return (one_node (i 44))))) no_items))
    ≡ block (at 15) ∷ def (at 20) 1 direct_i ∷ decision (at 27) both ∷ used (at 27) 1 direct_i (Some 1) ∷ block (at 30) ∷ decision (at 31) both ∷ used (at 31) 1 direct_i (Some 2)
    ∷ block (at 34) ∷ decision (at 34) both ∷ used (at 34) 1 direct_i (Some 3) ∷ block (at 37) ∷ used (at 44) 1 direct_i None ∷ []
tests = refl

-- int main(void){int i=0;switch(i){case 1:i=2;break;default:i+=1;}return i;}
cases_and_rest : items (main_with (int_i 20)
    (then 24 (switch (i 31)
    (more_items (case (at 34) (digit 39 1) ∷ []) (s 41 (simply (one_node (e 41 (two (assign None) (i 41) (digit 43 2))))))
    (then 45 break
    (more_items (default (at 51) ∷ []) (s 59 (simply (one_node (e 59 (two (assign (Some op.Add)) (i 59) (digit 62 1)))))) no_items))))
    (then 65 (return (one_node (i 72))) no_items)))
    ≡ block (at 15) ∷ def (at 20) 1 direct_i ∷ decision (at 31) (cases (wrap Int (pos 1) ∷ [])) ∷ used (at 31) 1 direct_i (Some 1) ∷ block (at 41) ∷ def (at 41) 1 direct_i
    ∷ block (at 59) ∷ def (at 59) 1 direct_i ∷ used (at 59) 1 direct_i None ∷ block (at 65) ∷ used (at 72) 1 direct_i None ∷ []
cases_and_rest = refl

abbrev v : ℕ → NodeShape
v k = node (at k) (at k) (typed (structure 1) (Some 2)) (leaf (name v_text))

abbrev v_g : ℕ → NodeShape
v_g k = node (at k) (at k) (typed (array (int Int) 2) None) (suffix (v k) (field dot g_text (at (k + 2))))

-- int main(void){int i=0;v.g[i]=*&i;}
element_of_a_field : items (main_with (int_i 20)
    (then 24 (simply (one_node (e 24 (two (assign None) (e 24 (suffix (v_g 24) (index (i 28)))) (e 31 (prefix (unary front.Deref) (e 32 (prefix (unary front.AddressOf) (i 33))))))))) no_items))
    ≡ block (at 15) ∷ def (at 20) 1 direct_i ∷ def (at 24) 1 (Some (record { variable = 2; name = 118 ∷ 46 ∷ 103 ∷ 91 ∷ 93 ∷ []; kind = int Int })) ∷ used (at 28) 1 direct_i None
    ∷ used (at 31) 1 None None ∷ []
element_of_a_field = refl
