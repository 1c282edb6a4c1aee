-- A worked program: its sites, which are those of its local variables; each of its runs is in place; and sites that aren't its own.
use Rattle.std.proofs.Common.{inl, inr, ◌≡◌, ℕ, zero, suc, List, [], ◌∷◌, Option, Some, None, refl, sym, ap, subst, arith, false}
use Rattle.std.specs.Prelude.{Contains}
use Rattle.std.proofs.lemmas.Bool.{true≢false}
use Rattle.c_base.specs.declared.place.Pos.{Pos}
use Rattle.c_base.specs.declared.place.IntKind.TheVariants.{Int}
use Rattle.c_arith.specs.Arith.{pattern, value_of, fitted, shift_count, unary_result, binary_result}
use Rattle.c_syntax.specs.declared.text.Text.{Text}
use Rattle.c_syntax.specs.declared.token.Key.TheVariants as key
use Rattle.c_syntax.specs.declared.tree.Named.{Named}
use Rattle.c_syntax.specs.Shape.{int, typed, number, name, NodeShape, node, ExprShape, leaf, suffix, behind, down, one_node, no_lengths, SpecShapes, no_specs, more_specs, word, decl, DeclShapes, no_decls, more_decls, declarator, no_declarators, more_declarators, arrays, function, void, no_init, one_init, one, StmtShape, stmt, FormShape, compound, simply, while, return, braces, ItemShapes, no_items, more_items, defined, UnitShape}
use Rattle.c_tables.specs.Tables.{TablesShape}
use Rattle.c_walk.specs.Units as units
use Rattle.c_meaning.specs.declared.end.Flow.{Flow}
use Rattle.c_meaning.specs.declared.end.Flow.TheVariants.{Next}
use Rattle.c_meaning.specs.State.{Bound, State, start}
use Rattle.c_meaning.specs.Results.{Got, Gives, Stops}
use Rattle.c_meaning.specs.Deeds.{told}
use Rattle.c_meaning.specs.Calls.{Source, calls}
use Rattle.c_meaning.specs.Runs.{all_made, audible, run_heard}
use Rattle.c_events.specs.declared.events.Cell.{Cell}
use Rattle.c_events.specs.declared.events.Event.TheVariants as event
use Rattle.c_walk.specs.declared.around.Taken.TheVariants.{Read}
use Rattle.c_meaning.specs.Places.{whole}
use Rattle.flow_names.proofs.Names.{calls_keep_names}
use Rattle.flow_calls.specs.Placing.{Local, Sites, AreInPlace, AreFinished}
use Rattle.flow_calls.proofs.Lists.{some_not, some_is}
use Rattle.flow_places.specs.Sited.{IsItself, StandsFor}
use Rattle.flow_places.specs.Declared.{AreSitesOf, AreSitedExternals}
use Rattle.flow_places.proofs.Laws.{runs_are_in_place}

-- ---- how the unit is spelled here

abbrev at : ℕ → Pos
at n = record { line = 1; col = n }

abbrev pub i_text : Text
i_text = 105 ∷ []

abbrev pub k_text : Text
k_text = 107 ∷ []

abbrev main_text : Text
main_text = 109 ∷ 97 ∷ 105 ∷ 110 ∷ []

abbrev e : ℕ → ExprShape → NodeShape
e n f = node (at n) (at n) (typed (int Int) None) f

-- i is variable 1
abbrev i : ℕ → NodeShape
i n = node (at n) (at n) (typed (int Int) (Some 1)) (leaf (name i_text))

abbrev named : ℕ → Text → Option Named
named n x = Some (record { pos = at n; text = x; probe = None })

abbrev ints : SpecShapes
ints = more_specs (at 1) (word key.Int) no_specs

abbrev an_int : ℕ → Text → NodeShape → DeclShapes
an_int n x a = more_decls (decl (at n) ints (more_declarators (declarator [] (named n x) (arrays no_lengths) (one_init (one a))) no_declarators)) no_decls

abbrev s : ℕ → FormShape → StmtShape
s n f = stmt (at n) [] (at n) f

abbrev then : ℕ → FormShape → ItemShapes → ItemShapes
then n f rest = more_items [] (s n f) rest

-- int main(void){int i=1;while(i){int k=i;i--;}return i;}
abbrev counting : UnitShape
counting = record {
  pos = at 1;
  line = None;
  externals = defined ints (declarator [] (named 5 main_text) (function void) no_init) [] (braces (at 15) (an_int 20 i_text (e 22 (leaf (number (49 ∷ [])))))
      (then 24 (while (i 30) (s 32 (compound (braces (at 32) (an_int 37 k_text (i 39)) (then 41 (simply (one_node (e 41 (suffix (i 41) (behind down))))) no_items)))))
      (then 46 (return (one_node (i 53))) no_items))) ∷ [];
  last = at 99;
}

abbrev pub tables : TablesShape
tables = record {
  structures = [];
  functions = record { name = main_text; result = int Int; params = []; defined = Some [] } ∷ [];
  variables = record { name = i_text; kind = int Int; function = 1 } ∷ record { name = k_text; kind = int Int; function = 1 } ∷ [];
  literals = [];
}

abbrev pub program : Source
program = record { unit = counting; tables = tables }

-- ---- its sites

abbrev variable : ℕ → Text → Local
variable x n = record { variable = x; names = n ∷ []; parameter = false }

abbrev pub cell : ℕ → Cell
cell j = record { instance = j; index = 0 }

-- the definitions of i, of k, and of i behind it
abbrev definitions : ℕ → Option Local
definitions zero = None
definitions (suc zero) = Some (variable 1 i_text)
definitions (suc (suc zero)) = Some (variable 2 k_text)
definitions (suc (suc (suc n))) = Some (variable 1 i_text)

abbrev leaves : ℕ → ℕ → Text
leaves x (suc n) = []
leaves (suc zero) zero = i_text
leaves x zero = k_text

-- each use is one of i
abbrev sites : Sites
sites = record { defined = definitions; used = λ u. Some (variable 1 i_text); leaf = leaves }

file_of : Got Flow → List Bound
file_of (Gives f s) = s.file
file_of (Stops why s) = s.file

no_file : (input : List ℕ) (limit : ℕ) (f : Flow) (s : State) → all_made program audible (start input limit) ≡ Gives f s → [] ≡ s.file
unfolding file_of
no_file input limit f s e = ap file_of e

-- i where it is used
i_used : IsItself [] (Some 1) (variable 1 i_text) × Contains (i_text ∷ []) i_text
i_used = (record { is = refl; local = refl }, (0, omega arith, refl))

its_sites : AreSitesOf program sites
its_sites = record {
  outside = tt;
  inside = λ input limit f s e. subst (λ b. AreSitedExternals sites b tables counting.externals units.no_items) (no_file input limit f s e) (
    (
      tt,
      (
        ((((refl, refl, refl), (λ h. absurd (true≢false (sym h)))), tt), tt),
        (
          ((λ h. inl i_used), (((((refl, refl, refl), (λ h. inl i_used)), tt), tt), ((tt, inl i_used, inl (record { is = refl; local = refl }, refl, refl)), tt))),
          ((λ h. inl i_used), tt),
        ),
      ),
    ),
    tt,
  );
}

in_place : (input : List ℕ) (limit : ℕ) → AreInPlace sites (run_heard program input limit).deeds × AreFinished sites (run_heard program input limit).deeds
in_place input limit = runs_are_in_place program sites its_sites input limit

-- the instance of i is 1, that of k in the one turn is 2
pub its_events : told (run_heard program [] 100).deeds
    ≡ event.Block 1 ∷ event.Def 1 (cell 1) ∷ event.Block 2 ∷ event.Use 1 (cell 1) 1 ∷ event.Test 1 1 1 ∷ event.Block 3 ∷ event.Use 2 (cell 1) 1 ∷ event.Def 2 (cell 2) ∷ event.Use 3 (cell 1) 1 ∷ event.Def 3 (cell 1)
    ∷ event.Block 2 ∷ event.Use 1 (cell 1) 1 ∷ event.Test 1 2 1 ∷ event.Block 4 ∷ event.Use 4 (cell 1) 1 ∷ []
unfolding pattern value_of fitted shift_count unary_result binary_result calls
its_events = refl

-- sites of which use 1 is one of k
abbrev wrong_sites : Sites
wrong_sites = record { defined = definitions; used = λ u. Some (variable 2 k_text); leaf = leaves }

-- in a call in which i stands for instance 7, its place is no place of k
called : State
called = record (start [] 100) { calls = record { function = 1; activation = 1; scopes = (record { variable = 1; instance = 7 } ∷ []) ∷ [] } ∷ [] }

not_found : StandsFor [] tables (i 30) 2 (λ c. Contains (k_text ∷ []) (leaves 2 c)) → ⊥
unfolding called
not_found h =
    let k = h.by (calls program audible) (calls_keep_names program audible) Read audible called (record called { turns = 99 }) (whole 7 1) refl refl (omega arith) in
    absurd (some_not 7 k.0)

not_its_own : AreSitesOf program wrong_sites → ⊥
not_its_own h =
    let k = h.inside [] 100 Next (start [] 100) refl in
    elim (k.0.1.1.0.0 refl) [ inl u ↦ let e = some_is 1 2 u.0.is in absurd (omega (arith, e)) | inr u ↦ not_found u ]
