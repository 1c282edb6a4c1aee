-- A worked program: the sites of a field and of an element, and pairs of them that a run makes, which are listed.
use Rattle.std.proofs.Common.{◌≡◌, ◌≤◌, ◌<◌, ℕ, zero, suc, ◌-◌, List, [], ◌∷◌, ◌++◌, refl, sym, ap, arith, Bool, true, false, Option, Some, None}
use Rattle.std.specs.Prelude.{nat_eq, slice_get, if◌then◌else◌}
use Rattle.std.specs.List.{AllByRecursion}
use Rattle.std.proofs.lemmas.Bool.{true≢false}
use Rattle.c_base.specs.declared.place.Pos.{Pos}
use Rattle.c_base.specs.declared.place.IntKind.TheVariants.{Int}
use Rattle.c_arith.specs.Arith.{pattern, value_of, fitted, shift_count, unary_result, binary_result}
use Rattle.c_syntax.specs.declared.text.Text.{Text}
use Rattle.c_syntax.specs.declared.token.Key.TheVariants as key
use Rattle.c_syntax.specs.declared.tree.Named.{Named}
use Rattle.c_syntax.specs.Shape.{TypeOf, int, pointer, array, structure, nothing, typed, number, name, NodeShape, node, ExprShape, leaf, suffix, two, assign, index, field, dot, one_node, no_lengths, more_lengths, SpecShapes, no_specs, more_specs, word, struct, members, decl, DeclShape, DeclShapes, no_decls, more_decls, declarator, no_declarators, more_declarators, arrays, function, void, no_init, stmt, FormShape, simply, return, braces, ItemShapes, no_items, more_items, defined, UnitShape}
use Rattle.c_tables.specs.Tables.{FieldShape, StructShape, TablesShape}
use Rattle.c_tables.specs.Rows.{fields_in}
use Rattle.c_events.specs.declared.events.Cell.{Cell}
use Rattle.c_events.specs.declared.events.Event.{Event}
use Rattle.c_events.specs.declared.events.Event.TheVariants as event
use Rattle.c_meaning.specs.Deeds.{told}
use Rattle.c_meaning.specs.Calls.{Source, calls}
use Rattle.c_meaning.specs.Runs.{run_heard}
use Rattle.flow_calls.specs.Orderly.{IsOrderlyProgram}
use Rattle.flow_calls.specs.Placing.{Local, IsStrong}
use Rattle.flow_calls.specs.Pairs.{HasPair, IsListed}
use Rattle.flow_leaves.specs.CellNames.{depth_in, AreLayered}
use Rattle.flow_parts.specs.Parts.{parts_of, HasParts}
use Rattle.flow_owned.specs.Fields.{AreApart}
use Rattle.flow_parts.specs.Strong.{HasIndex}
use Rattle.flow_parts.proofs.Laws.{part_pairs_are_listed}
use Rattle.flow_leaves.proofs.Layers.{some_same}
use Rattle.flow_parts.proofs.Strong.{none_some, head_of, part_names_are_strong}

-- ---- how the unit is spelled here

abbrev pub at : Pos
at = record { line = 1; col = 1 }

abbrev pub main_text : Text
main_text = 109 ∷ 97 ∷ 105 ∷ 110 ∷ []

abbrev a_text : Text
a_text = 97 ∷ []

abbrev pub f_text : Text
f_text = 102 ∷ []

abbrev pub g_text : Text
g_text = 103 ∷ []

abbrev pub s_text : Text
s_text = 115 ∷ []

abbrev pub e : ExprShape → NodeShape
e f = node at at (typed (int Int) None) f

abbrev pub one : NodeShape
one = e (leaf (number (49 ∷ [])))

-- s is variable 1, a is variable 2
abbrev member : NodeShape
member = e (suffix (node at at (typed (structure 1) (Some 1)) (leaf (name s_text))) (field dot g_text at))

abbrev element : NodeShape
element = e (suffix (node at at (typed (array (int Int) 2) (Some 2)) (leaf (name a_text))) (index one))

abbrev pub ints : SpecShapes
ints = more_specs at (word key.Int) no_specs

abbrev pub named : Text → Option Named
named x = Some (record { pos = at; text = x; probe = None })

abbrev pub a_field : Text → DeclShape
a_field x = decl at ints (more_declarators (declarator [] (named x) (arrays no_lengths) no_init) no_declarators)

abbrev pub pair_fields : DeclShapes
pair_fields = more_decls (a_field f_text) (more_decls (a_field g_text) no_decls)

abbrev variables : DeclShapes
variables = more_decls (decl at (more_specs at (struct None (members pair_fields)) no_specs) (more_declarators (declarator [] (named s_text) (arrays no_lengths) no_init) no_declarators))
    (more_decls (decl at ints (more_declarators (declarator [] (named a_text) (arrays (more_lengths (one_node (e (leaf (number (50 ∷ []))))) no_lengths)) no_init) no_declarators)) no_decls)

abbrev pub first : FormShape → ItemShapes → ItemShapes
first f rest = more_items [] (stmt at [] at f) rest

-- int main(void){struct{int f;int g;}s;int a[2];s.g=1;a[1]=s.g;return a[1];}
abbrev parted : UnitShape
parted = record {
  pos = at;
  line = None;
  externals = defined ints (declarator [] (named main_text) (function void) no_init) [] (braces at variables
      (first (simply (one_node (e (two (assign None) member one)))) (first (simply (one_node (e (two (assign None) element member)))) (first (return (one_node element)) no_items)))) ∷ [];
  last = at;
}

-- struct {int f; int g;}
abbrev pub structures : List StructShape
structures = record { tag = None; fields = record { name = f_text; kind = int Int } ∷ record { name = g_text; kind = int Int } ∷ [] } ∷ []

abbrev tables : TablesShape
tables = record {
  structures = structures;
  functions = record { name = main_text; result = int Int; params = []; defined = Some [] } ∷ [];
  variables = record { name = s_text; kind = structure 1; function = 1 } ∷ record { name = a_text; kind = array (int Int) 2; function = 1 } ∷ [];
  literals = [];
}

abbrev program : Source
program = record { unit = parted; tables = tables }

-- ---- its sites: s.g and a[]

abbrev in_s : Local
in_s = record { variable = 1; names = (115 ∷ 46 ∷ 103 ∷ []) ∷ []; parameter = false }

abbrev in_a : Local
in_a = record { variable = 2; names = (97 ∷ 91 ∷ 93 ∷ []) ∷ []; parameter = false }

field_defined : (parts_of program).defined 1 ≡ Some in_s
field_defined = refl

element_defined : (parts_of program).defined 2 ≡ Some in_a
element_defined = refl

element_used : (parts_of program).used 2 ≡ Some in_a
element_used = refl

second_leaf : (parts_of program).leaf 1 1 ≡ 115 ∷ 46 ∷ 103 ∷ []
second_leaf = refl

-- each element has the one name
same_leaf : (parts_of program).leaf 2 0 ≡ (parts_of program).leaf 2 1
same_leaf = refl

-- ---- what is asked of it

orderly : IsOrderlyProgram program
orderly input limit f s e = ((((tt, tt), ((tt, tt), tt)), (((tt, refl), refl, tt, (λ h. absurd (true≢false (sym h))), (λ h. refl)), (((tt, tt), refl, (tt, refl), (λ h. absurd (true≢false (sym h))), (λ h. refl)), ((tt, tt), tt)))), tt)

-- the one structure has fields of no depth
pub of_rows : (b : Bool) (i : ℕ) → AllByRecursion (λ (f : FieldShape). depth_in (λ n. 1) f.kind < 1) (fields_in (if b then None else slice_get structures i))
of_rows true i = tt
of_rows false zero = (omega arith, (omega arith, tt))
of_rows false (suc i) = tt

pub flat : (k : TypeOf) → depth_in (λ n. 1) k ≤ 1
flat (int j) = omega arith
flat (pointer k) = omega arith
flat (array k n) = flat k
flat (structure n) = omega arith
flat nothing = omega arith

layered : AreLayered tables
layered = record { depths = λ n. 1; below = λ n le. of_rows (nat_eq n 0) (n - 1); few = λ v k e. flat k }

has : HasParts program
has = record {
  orderly = orderly;
  kinded = (
    (
      ((tt, tt), ((tt, tt), tt)),
      ((tt, ((refl, (refl, tt)), (tt, tt))), ((tt, ((refl, ((refl, tt), (tt, tt))), (refl, (refl, tt)))), ((refl, ((refl, tt), (tt, tt))), tt))),
    ),
    tt,
  );
  own = ((((tt, tt), ((tt, tt), tt)), ((refl, tt), (((refl, tt), refl), ((refl, tt), tt)))), tt);
  layered = layered;
  filled = (((tt, (tt, tt)), tt), (tt, ((omega arith, tt), tt)));
  scalars = (tt, tt);
}

-- ---- what a run makes

abbrev cell : ℕ → Cell
cell j = record { instance = j; index = 1 }

its_events : told (run_heard program [] 100).deeds ≡ event.Block 1 ∷ event.Def 1 (cell 1) ∷ event.Use 1 (cell 1) 1 ∷ event.Def 2 (cell 2) ∷ event.Use 2 (cell 2) 1 ∷ []
unfolding pattern value_of fitted shift_count unary_result binary_result calls
its_events = refl

none_between : (p q : List Event) (d : ℕ) (c : Cell) → [] ≡ p ++ event.Def d c ∷ q → ⊥
none_between [] q d c h = cc
none_between (x ∷ p) q d c h = cc

field_pair : HasPair (told (run_heard program [] 100).deeds) 1 1
field_pair = record {
  cell = cell 1;
  user = 1;
  pre = event.Block 1 ∷ [];
  mid = [];
  post = event.Def 2 (cell 2) ∷ event.Use 2 (cell 2) 1 ∷ [];
  is = its_events;
  none = λ p q d h. none_between p q d (cell 1) h;
}

element_pair : HasPair (told (run_heard program [] 100).deeds) 2 2
element_pair = record {
  cell = cell 2;
  user = 1;
  pre = event.Block 1 ∷ event.Def 1 (cell 1) ∷ event.Use 1 (cell 1) 1 ∷ [];
  mid = [];
  post = [];
  is = its_events;
  none = λ p q d h. none_between p q d (cell 2) h;
}

field_listed : (f : ℕ) × IsListed program (parts_of program) f 1 in_s 1 in_s
field_listed = part_pairs_are_listed program has [] 100 1 1 in_s in_s refl refl refl field_pair

element_listed : (f : ℕ) × IsListed program (parts_of program) f 2 in_a 2 in_a
element_listed = part_pairs_are_listed program has [] 100 2 2 in_a in_a refl refl refl element_pair

-- ---- s.g is the name of one cell

no_index : HasIndex (115 ∷ 46 ∷ 103 ∷ []) → ⊥
no_index (zero, a, b) = let e = some_same 115 91 a in omega (arith, e)
no_index (suc zero, a, b) = let e = some_same 46 91 a in omega (arith, e)
no_index (suc (suc zero), a, b) = let e = some_same 103 91 a in omega (arith, e)
no_index (suc (suc (suc i)), a, b) = none_some 91 a

different : f_text ≡ g_text → ⊥
different h = let e : 102 ≡ 103 = ap head_of h in omega (arith, e)

apart_rows : (b : Bool) (i : ℕ) → AreApart (fields_in (if b then None else slice_get tables.structures i))
apart_rows true i = tt
apart_rows false zero = (refl, (different, tt), (refl, tt, tt))
apart_rows false (suc i) = tt

field_strong : IsStrong (parts_of program) 1 (115 ∷ 46 ∷ 103 ∷ [])
field_strong = part_names_are_strong program (λ n. apart_rows (nat_eq n 0) (n - 1)) 1 (115 ∷ 46 ∷ 103 ∷ []) no_index
