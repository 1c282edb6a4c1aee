-- A worked program: what main does by itself is a walk; where the run stops it is the beginning of one; and a list that is none.
use Rattle.std.proofs.Common.{◌≡◌, ℕ, [], ◌∷◌, Option, Some, None, refl, inl, inr, ap, arith}
use Rattle.c_base.specs.declared.place.Pos.{Pos}
use Rattle.c_base.specs.declared.place.IntKind.TheVariants.{Int}
use Rattle.c_events.specs.declared.events.Event.TheVariants as event
use Rattle.c_arith.specs.Arith.{pattern, value_of, fitted, shift_count, unary_result, binary_result}
use Rattle.c_syntax.specs.declared.text.Text.{Text}
use Rattle.c_syntax.specs.declared.token.Key.TheVariants as key
use Rattle.c_syntax.specs.declared.tree.Named.{Named}
use Rattle.c_syntax.specs.Shape.{int, typed, number, name, NodeShape, node, ExprShape, leaf, suffix, behind, down, one_node, no_lengths, SpecShapes, no_specs, more_specs, word, decl, DeclShapes, no_decls, more_decls, declarator, no_declarators, more_declarators, arrays, function, void, no_init, one_init, one, StmtShape, stmt, FormShape, compound, simply, while, return, braces, ItemShapes, no_items, more_items, defined, UnitShape}
use Rattle.c_tables.specs.Tables.{TablesShape}
use Rattle.c_meaning.specs.State.{begins, makes, tells}
use Rattle.c_meaning.specs.Deeds.{own}
use Rattle.c_meaning.specs.Calls.{Source, calls}
use Rattle.c_meaning.specs.Runs.{run_heard}
use Rattle.flow_walks.specs.declared.action.Action.TheVariants.{Define, Use, Block, Test, Kill}
use Rattle.flow_walks.specs.Comes.{Met, act}
use Rattle.flow_walks.specs.Walks.{Goes}
use Rattle.flow_calls.specs.Readings.{readings}
use Rattle.flow_calls.specs.Orderly.{IsOrderlyProgram}

-- ---- how the unit is spelled here

abbrev at : ℕ → Pos
at n = record { line = 1; col = n }

abbrev i_text : Text
i_text = 105 ∷ []

abbrev k_text : Text
k_text = 107 ∷ []

abbrev main_text : Text
main_text = 109 ∷ 97 ∷ 105 ∷ 110 ∷ []

abbrev e : ℕ → ExprShape → NodeShape
e n f = node (at n) (at n) (typed (int Int) None) f

-- i is variable 1
abbrev i : ℕ → NodeShape
i n = node (at n) (at n) (typed (int Int) (Some 1)) (leaf (name i_text))

abbrev named : ℕ → Text → Option Named
named n x = Some (record { pos = at n; text = x; probe = None })

abbrev ints : SpecShapes
ints = more_specs (at 1) (word key.Int) no_specs

abbrev an_int : ℕ → Text → NodeShape → DeclShapes
an_int n x a = more_decls (decl (at n) ints (more_declarators (declarator [] (named n x) (arrays no_lengths) (one_init (one a))) no_declarators)) no_decls

abbrev s : ℕ → FormShape → StmtShape
s n f = stmt (at n) [] (at n) f

abbrev then : ℕ → FormShape → ItemShapes → ItemShapes
then n f rest = more_items [] (s n f) rest

-- int main(void){int i=1;while(i){int k=i;i--;}return i;}
abbrev counting : UnitShape
counting = record {
  pos = at 1;
  line = None;
  externals = defined ints (declarator [] (named 5 main_text) (function void) no_init) [] (braces (at 15) (an_int 20 i_text (e 22 (leaf (number (49 ∷ [])))))
      (then 24 (while (i 30) (s 32 (compound (braces (at 32) (an_int 37 k_text (i 39)) (then 41 (simply (one_node (e 41 (suffix (i 41) (behind down))))) no_items)))))
      (then 46 (return (one_node (i 53))) no_items))) ∷ [];
  last = at 99;
}

abbrev tables : TablesShape
tables = record {
  structures = [];
  functions = record { name = main_text; result = int Int; params = []; defined = Some [] } ∷ [];
  variables = record { name = i_text; kind = int Int; function = 1 } ∷ record { name = k_text; kind = int Int; function = 1 } ∷ [];
  literals = [];
}

abbrev program : Source
program = record { unit = counting; tables = tables }

-- ---- what main does

orderly : IsOrderlyProgram program
orderly input limit f s e = ((((tt, tt), tt), ((tt, (((tt, tt), tt), ((tt, refl), tt))), (tt, tt))), tt)

-- one turn of the loop, in which an instance of k is made
whole_run : readings (own 1 (run_heard program [] 100).deeds) ≡ Block 1 ∷ Kill 1 ∷ Define 1 ∷ Block 2 ∷ Use 1 ∷ Test 1 1 ∷ Block 3 ∷ Kill 2 ∷ Use 2 ∷ Define 2 ∷ Use 3 ∷ Define 3 ∷ Block 2 ∷ Use 1 ∷ Test 1 2 ∷ Block 4 ∷ Use 4 ∷ []
unfolding pattern value_of fitted shift_count unary_result binary_result calls
whole_run = refl

-- no turn is left for the initialiser
stopped_run : own 1 (run_heard program [] 2).deeds ≡ begins 1 ∷ tells (event.Block 1) ∷ makes 1 1 ∷ []
unfolding pattern value_of fitted shift_count unary_result binary_result calls
stopped_run = refl

its_walk : Goes tables counting 1 (act (Block 1) ∷ act (Kill 1) ∷ [])
its_walk = inl (refl, (refl, (refl, tt)))

abbrev killed : Met → ℕ
killed (act (Kill v)) = v
killed a = 0

-- a variable isn't defined before its instance is made
no_walk : Goes tables counting 1 (act (Block 1) ∷ act (Define 1) ∷ []) → ⊥
no_walk (inl p) = let e = ap killed p.1.1.0 in absurd (omega arith)
no_walk (inr p) = p
