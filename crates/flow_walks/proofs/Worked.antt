-- Worked functions: lists that are walks, and some that are none. Each place is given by its column in line 1.
use Rattle.std.proofs.Common.{◌≡◌, ℕ, ◌+◌, List, zero, suc, [], ◌∷◌, Option, Some, None, refl, inl, inr, ap, arith}
use Rattle.c_base.specs.declared.place.Pos.{Pos}
use Rattle.c_base.specs.declared.place.IntKind.TheVariants.{Int}
use Rattle.c_syntax.specs.declared.text.Text.{Text}
use Rattle.c_syntax.specs.declared.token.Key.TheVariants as key
use Rattle.c_syntax.specs.declared.tree.Named.{Named}
use Rattle.c_syntax.specs.Shape.{int, structure, nothing, assign, two, typed, number, name, NodeShape, node, ExprShape, leaf, suffix, behind, up, one_node, no_lengths, SpecShapes, no_specs, more_specs, word, decl, DeclShapes, no_decls, more_decls, declarator, no_declarators, more_declarators, arrays, function, void, no_init, one_init, one, StmtShape, stmt, FormShape, compound, simply, while, return, braces, ItemShapes, no_items, more_items, defined, UnitShape}
use Rattle.c_tables.specs.Tables.{TablesShape}
use Rattle.flow_walks.specs.declared.action.Action.TheVariants.{Define, Use, Block, Test, Kill}
use Rattle.flow_walks.specs.Comes.{Met, act, leave, Comes, turns}
use Rattle.flow_walks.specs.Walks.{Goes}

-- ---- how the units are spelled here

abbrev at : ℕ → Pos
at k = record { line = 1; col = k }

abbrev e : ℕ → ExprShape → NodeShape
e k f = node (at k) (at k) (typed (int Int) None) f

abbrev i_text : Text
i_text = 105 ∷ []

abbrev i : ℕ → NodeShape
i k = node (at k) (at k) (typed (int Int) (Some 1)) (leaf (name i_text))

abbrev digit : ℕ → ℕ → NodeShape
digit k n = e k (leaf (number ((48 + n) ∷ [])))

abbrev named : ℕ → Text → Option Named
named k x = Some (record { pos = at k; text = x; probe = None })

abbrev ints : SpecShapes
ints = more_specs (at 1) (word key.Int) no_specs

abbrev int_i : ℕ → DeclShapes
int_i k = more_decls (decl (at k) ints (more_declarators (declarator [] (named k i_text) (arrays no_lengths) (one_init (one (digit (k + 2) 0)))) no_declarators)) no_decls

abbrev s : ℕ → FormShape → StmtShape
s k f = stmt (at k) [] (at k) f

abbrev then : ℕ → FormShape → ItemShapes → ItemShapes
then k f rest = more_items [] (s k f) rest

abbrev main_text : Text
main_text = 109 ∷ 97 ∷ 105 ∷ 110 ∷ []

abbrev main_with : DeclShapes → ItemShapes → UnitShape
main_with ds items = record {
  pos = at 1;
  line = None;
  externals = defined ints (declarator [] (named 5 main_text) (function void) no_init) [] (braces (at 15) ds items) ∷ [];
  last = at 99;
}

-- main is function 1, and i is variable 1
abbrev tables : TablesShape
tables = record {
  structures = [];
  functions = record { name = main_text; result = int Int; params = []; defined = Some [] } ∷ [];
  variables = record { name = i_text; kind = int Int; function = 1 } ∷ [];
  literals = [];
}

abbrev IsWalk : UnitShape → List Met → Type 0
IsWalk u w = Goes tables u 1 w

-- ---- units

-- int main(void){int i=0;while(i)i++;return i;}
abbrev counting : UnitShape
counting = main_with (int_i 20)
    (then 24 (while (i 30) (s 32 (simply (one_node (e 32 (suffix (i 32) (behind up)))))))
    (then 36 (return (one_node (i 43))) no_items))

-- the loop is passed by: its test is a block, and what stands behind the loop is one
passed_by : IsWalk counting (act (Block 1) ∷ act (Kill 1) ∷ act (Define 1) ∷ act (Block 2) ∷ act (Use 1) ∷ act (Test 1 2) ∷ act (Block 4) ∷ act (Use 3) ∷ leave ∷ [])
passed_by = inl (refl, (refl, (refl, (refl, (1, (refl, (refl, inr (refl, (refl, (refl, (refl, tt)))))))))))

-- one turn, whose body is a block
one_turn : IsWalk counting (act (Block 1) ∷ act (Kill 1) ∷ act (Define 1) ∷ act (Block 2) ∷ act (Use 1) ∷ act (Test 1 1) ∷ act (Block 3) ∷ act (Use 2) ∷ act (Define 2) ∷ act (Block 2) ∷ act (Use 1) ∷ act (Test 1 2) ∷ [])
one_turn = inl (refl, (refl, (refl, (refl, (2, (refl, (refl, inl (refl, (refl, (refl, (refl, (refl, (refl, inr (refl, tt))))))))))))))

abbrev block_in : Met → ℕ
block_in (act (Block n)) = n
block_in a = 0

none_of : (a : Met) (v : List Met) (once : Comes → Comes) → ((j : Comes) → once j (a ∷ v) → ⊥) → (n : ℕ) → turns n once (a ∷ v) → ⊥
none_of a v once h zero p = p
none_of a v once h (suc n) p = h (turns n once) p

-- the use in the loop's body comes only behind the loop's blocks
no_use_at_once : IsWalk counting (act (Block 1) ∷ act (Kill 1) ∷ act (Define 1) ∷ act (Use 2) ∷ []) → ⊥
no_use_at_once (inl p) = none_of (act (Use 2)) [] _ (λ j q. let e = ap block_in q.0 in absurd (omega arith)) p.1.1.1.1.0 p.1.1.1.1.1
no_use_at_once (inr p) = p

-- int main(void){int i=0;return i;i++;}
abbrev returning : UnitShape
returning = main_with (int_i 20)
    (then 24 (return (one_node (i 31)))
    (then 33 (simply (one_node (e 33 (suffix (i 33) (behind up))))) no_items))

-- what stands behind a `return` is not met
not_behind_return : IsWalk returning (act (Block 1) ∷ act (Kill 1) ∷ act (Define 1) ∷ act (Use 1) ∷ act (Block 2) ∷ []) → ⊥
not_behind_return (inl p) = let e = ap block_in p.1.1.1.1.1.0 in absurd (omega arith)
not_behind_return (inr p) = p

-- ---- structures

abbrev v_text : Text
v_text = 118 ∷ []

abbrev w_text : Text
w_text = 119 ∷ []

abbrev whole : ℕ → ℕ → Text → NodeShape
whole k n x = node (at k) (at k) (typed (structure 1) (Some n)) (leaf (name x))

-- int main(void){v=w;return i;}, where v and w are of one structure
abbrev copying : UnitShape
copying = main_with no_decls
    (then 16 (simply (one_node (node (at 16) (at 17) (typed nothing None) (two (assign None) (whole 16 2 v_text) (whole 18 3 w_text)))))
    (then 20 (return (one_node (i 27))) no_items))

-- the right one is used, and then the left one is defined
copied : IsWalk copying (act (Block 1) ∷ act (Use 1) ∷ act (Define 1) ∷ act (Use 2) ∷ leave ∷ [])
copied = inl (refl, (refl, (refl, (refl, (refl, (refl, tt))))))

abbrev use_in : Met → ℕ
use_in (act (Use n)) = n
use_in a = 0

not_defined_before : IsWalk copying (act (Block 1) ∷ act (Define 1) ∷ []) → ⊥
not_defined_before (inl p) = let e = ap use_in p.1.1.0 in absurd (omega arith)
not_defined_before (inr p) = p
