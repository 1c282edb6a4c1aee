-- A worked program that copies a structure: the sites of the copy, and a pair of its definition and the use of a field, which is listed.
use Rattle.std.proofs.Common.{◌≡◌, ℕ, ◌-◌, List, [], ◌∷◌, ◌++◌, refl, sym, true, false, Some, None}
use Rattle.std.specs.Prelude.{nat_eq}
use Rattle.std.proofs.lemmas.Bool.{true≢false}
use Rattle.c_base.specs.declared.place.IntKind.TheVariants.{Int}
use Rattle.c_arith.specs.Arith.{pattern, value_of, fitted, shift_count, unary_result, binary_result}
use Rattle.c_syntax.specs.declared.text.Text.{Text}
use Rattle.c_syntax.specs.Shape.{int, structure, nothing, typed, name, NodeShape, node, leaf, suffix, two, assign, field, dot, one_node, no_lengths, no_specs, more_specs, struct, members, decl, DeclShapes, no_decls, more_decls, declarator, no_declarators, more_declarators, arrays, function, void, no_init, simply, return, braces, no_items, defined, UnitShape}
use Rattle.c_tables.specs.Tables.{TablesShape}
use Rattle.c_events.specs.declared.events.Cell.{Cell}
use Rattle.c_events.specs.declared.events.Event.{Event}
use Rattle.c_events.specs.declared.events.Event.TheVariants as event
use Rattle.c_meaning.specs.Deeds.{told}
use Rattle.c_meaning.specs.Calls.{Source, calls}
use Rattle.c_meaning.specs.Runs.{run_heard}
use Rattle.flow_calls.specs.Orderly.{IsOrderlyProgram}
use Rattle.flow_calls.specs.Placing.{Local}
use Rattle.flow_calls.specs.Pairs.{HasPair, IsListed}
use Rattle.flow_calls.proofs.Lists.{heads, tails}
use Rattle.flow_leaves.specs.CellNames.{AreLayered}
use Rattle.flow_parts.specs.Parts.{parts_of, HasParts}
use Rattle.flow_parts.proofs.Laws.{part_pairs_are_listed}
use Rattle.flow_parts.proofs.Worked.{at, main_text, f_text, g_text, s_text, e, one, ints, named, pair_fields, structures, first, of_rows, flat}

-- ---- how the unit is spelled here

abbrev r_text : Text
r_text = 114 ∷ []

-- s is variable 1, r is variable 2
abbrev whole : Text → ℕ → NodeShape
whole x n = node at at (typed (structure 1) (Some n)) (leaf (name x))

abbrev part : Text → ℕ → Text → NodeShape
part x n y = e (suffix (whole x n) (field dot y at))

abbrev variables : DeclShapes
variables = more_decls (decl at (more_specs at (struct None (members pair_fields)) no_specs)
    (more_declarators (declarator [] (named s_text) (arrays no_lengths) no_init) (more_declarators (declarator [] (named r_text) (arrays no_lengths) no_init) no_declarators))) no_decls

-- int main(void){struct{int f;int g;}s,r;s.f=1;s.g=1;r=s;return r.g;}
abbrev copying : UnitShape
copying = record {
  pos = at;
  line = None;
  externals = defined ints (declarator [] (named main_text) (function void) no_init) [] (braces at variables
      (first (simply (one_node (e (two (assign None) (part s_text 1 f_text) one)))) (first (simply (one_node (e (two (assign None) (part s_text 1 g_text) one))))
      (first (simply (one_node (node at at (typed nothing None) (two (assign None) (whole r_text 2) (whole s_text 1))))) (first (return (one_node (part r_text 2 g_text))) no_items))))) ∷ [];
  last = at;
}

abbrev tables : TablesShape
tables = record {
  structures = structures;
  functions = record { name = main_text; result = int Int; params = []; defined = Some [] } ∷ [];
  variables = record { name = s_text; kind = structure 1; function = 1 } ∷ record { name = r_text; kind = structure 1; function = 1 } ∷ [];
  literals = [];
}

abbrev program : Source
program = record { unit = copying; tables = tables }

-- ---- its sites: s.f, s.g, and r with both of its fields; s with both of its, and r.g

abbrev in_r : Local
in_r = record { variable = 2; names = (114 ∷ 46 ∷ 102 ∷ []) ∷ (114 ∷ 46 ∷ 103 ∷ []) ∷ []; parameter = false }

abbrev in_s : Local
in_s = record { variable = 1; names = (115 ∷ 46 ∷ 102 ∷ []) ∷ (115 ∷ 46 ∷ 103 ∷ []) ∷ []; parameter = false }

abbrev in_g : Local
in_g = record { variable = 1; names = (115 ∷ 46 ∷ 103 ∷ []) ∷ []; parameter = false }

abbrev r_g : Local
r_g = record { variable = 2; names = (114 ∷ 46 ∷ 103 ∷ []) ∷ []; parameter = false }

copy_defined : (parts_of program).defined 3 ≡ Some in_r
copy_defined = refl

copy_used : (parts_of program).used 1 ≡ Some in_s
copy_used = refl

field_used : (parts_of program).used 2 ≡ Some r_g
field_used = refl

source_defined : (parts_of program).defined 2 ≡ Some in_g
source_defined = refl

-- past the end
no_cell : (parts_of program).leaf 2 2 ≡ 91 ∷ 93 ∷ []
no_cell = refl

-- ---- what is asked of it

orderly : IsOrderlyProgram program
orderly input limit f s e = (
  (((tt, (tt, tt)), tt), (((tt, refl), refl, tt, (λ h. absurd (true≢false (sym h))), (λ h. refl)), (((tt, refl), refl, tt, (λ h. absurd (true≢false (sym h))), (λ h. refl)), ((tt, refl, tt, (λ h. (refl, refl)), (λ h. absurd (true≢false h))), ((tt, refl), tt))))),
  tt,
)

layered : AreLayered tables
layered = record { depths = λ n. 1; below = λ n le. of_rows (nat_eq n 0) (n - 1); few = λ v k e. flat k }

has : HasParts program
has = record {
  orderly = orderly;
  kinded = (
    (
      ((tt, (tt, tt)), tt),
      ((tt, ((refl, (refl, tt)), (tt, tt))), ((tt, ((refl, (refl, tt)), (tt, tt))), ((tt, ((refl, tt), (refl, tt))), ((refl, (refl, tt)), tt)))),
    ),
    tt,
  );
  own = ((((tt, (tt, tt)), tt), ((refl, tt), ((refl, tt), ((refl, refl), (refl, tt))))), tt);
  layered = layered;
  filled = (((tt, (tt, tt)), tt), (tt, (tt, tt)));
  scalars = (tt, tt);
}

-- ---- what a run makes

abbrev cell : ℕ → ℕ → Cell
cell j i = record { instance = j; index = i }

its_events : told (run_heard program [] 100).deeds ≡ event.Block 1 ∷ event.Def 1 (cell 1 0) ∷ event.Def 2 (cell 1 1) ∷ event.Use 1 (cell 1 0) 1 ∷ event.Use 1 (cell 1 1) 1 ∷ event.Def 3 (cell 2 0) ∷ event.Def 3 (cell 2 1) ∷ event.Use 2 (cell 2 1) 1 ∷ []
unfolding pattern value_of fitted shift_count unary_result binary_result calls
its_events = refl

none_between : (p q : List Event) (d : ℕ) (c : Cell) → [] ≡ p ++ event.Def d c ∷ q → ⊥
none_between [] q d c h = cc
none_between (x ∷ p) q d c h = cc

-- the copy of s.g is used in the return
copy_pair : HasPair (told (run_heard program [] 100).deeds) 3 2
copy_pair = record {
  cell = cell 2 1;
  user = 1;
  pre = event.Block 1 ∷ event.Def 1 (cell 1 0) ∷ event.Def 2 (cell 1 1) ∷ event.Use 1 (cell 1 0) 1 ∷ event.Use 1 (cell 1 1) 1 ∷ event.Def 3 (cell 2 0) ∷ [];
  mid = [];
  post = [];
  is = its_events;
  none = λ p q d h. none_between p q d (cell 2 1) h;
}

copy_listed : (f : ℕ) × IsListed program (parts_of program) f 3 in_r 2 r_g
copy_listed = part_pairs_are_listed program has [] 100 3 2 in_r r_g refl refl refl copy_pair

-- and s.g in the copy
source_pair : HasPair (told (run_heard program [] 100).deeds) 2 1
source_pair = record {
  cell = cell 1 1;
  user = 1;
  pre = event.Block 1 ∷ event.Def 1 (cell 1 0) ∷ [];
  mid = event.Use 1 (cell 1 0) 1 ∷ [];
  post = event.Def 3 (cell 2 0) ∷ event.Def 3 (cell 2 1) ∷ event.Use 2 (cell 2 1) 1 ∷ [];
  is = its_events;
  none = λ p q d h. none_behind p q d (cell 1 1) (event.Use 1 (cell 1 0) 1) h (λ k. never d (cell 1 1) 1 (cell 1 0) 1 k);
}
  where
    never : (d : ℕ) (c : Cell) (u : ℕ) (b : Cell) (a : ℕ) → event.Use u b a ≡ event.Def d c → ⊥
    never d c u b a h = cc

    none_behind : (p q : List Event) (d : ℕ) (c : Cell) (x : Event) → x ∷ [] ≡ p ++ event.Def d c ∷ q → (x ≡ event.Def d c → ⊥) → ⊥
    none_behind [] q d c x h differs = differs (heads x (event.Def d c) [] q h)
    none_behind (y ∷ p) q d c x h differs = none_between p q d c (tails x y [] (p ++ event.Def d c ∷ q) h)

source_listed : (f : ℕ) × IsListed program (parts_of program) f 2 in_g 1 in_s
source_listed = part_pairs_are_listed program has [] 100 2 1 in_g in_s refl refl refl source_pair
