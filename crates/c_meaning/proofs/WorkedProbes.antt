-- Worked runs: programs with probes. Their logs are the events of the programs without them.
use Rattle.std.proofs.Common.{◌≡◌, ℕ, pos, ◌+◌, List, [], ◌∷◌, Some, refl}
use Rattle.c_events.specs.declared.events.Cell.{Cell}
use Rattle.c_events.specs.declared.events.Event.{Event}
use Rattle.c_events.specs.declared.events.Event.TheVariants.{Block, Def, Use, Test}
use Rattle.c_arith.specs.Arith.{pattern, value_of, fitted, shift_count, unary_result, binary_result}
use Rattle.c_syntax.specs.declared.text.Text.{Text}
use Rattle.c_syntax.specs.declared.tree.ProbeMark.{ProbeMark}
use Rattle.c_syntax.specs.declared.tree.BinaryOp.TheVariants as op
use Rattle.c_syntax.specs.Shape.{Probing, block, test, used, def, char, leaf, up, behind, suffix, probe, simple, select, no_nodes, more_nodes, while, switch, break, simply, one_node, return, FormShape, NodeShape, StmtShape, stmt, ItemShapes, no_items, more_items, case, declarator, arrays, function, void, no_lengths, no_init, one_init, one, DeclShape, braces, defined, ExternalShape}
use Rattle.c_meaning.specs.declared.end.End.{End}
use Rattle.c_meaning.specs.declared.end.End.TheVariants as end
use Rattle.c_meaning.specs.Calls.{calls}
use Rattle.c_meaning.specs.Runs.{Outcome, run, run_heard}
use Rattle.c_meaning.specs.Deeds.{told}
use Rattle.c_meaning.proofs.Spelled.{p, x, main_text, getchar_text, e, digit, var, set, bin, call_of, named, on, do_it, give, ints, of, an_int_of, decls, main_with, program}

-- ---- how probes are spelled here

abbrev number_text : ℕ → Text
number_text k = (48 + k) ∷ []

abbrev mark : ℕ → ProbeMark
mark k = record { pos = p; number = number_text k }

abbrev probed : Probing → ℕ → NodeShape → NodeShape
probed u k l = e (probe (simple u (number_text k)) l)

abbrev a_use : ℕ → Text → NodeShape
a_use k t = probed used k (var t)

abbrev a_def : ℕ → Text → NodeShape
a_def k t = probed def k (var t)

-- a statement with a block probe before it
abbrev marked : ℕ → FormShape → StmtShape
marked k form = stmt p (mark k ∷ []) p form

abbrev marked_items : ℕ → FormShape → ItemShapes → ItemShapes
marked_items k form rest = more_items [] (marked k form) rest

abbrev a_defined_int : ℕ → Text → NodeShape → DeclShape
a_defined_int k t l = of ints (declarator [] (Some (record { pos = p; text = t; probe = Some (mark k) })) (arrays no_lengths) (one_init (one l)))

abbrev marked_main : ℕ → List DeclShape → ItemShapes → ExternalShape
marked_main k ds items = defined ints (declarator [] (named main_text) (function void) no_init) (mark k ∷ []) (braces p (decls ds) items)

-- what is seen of a program that logs
pub record Logged : Type 0 where
  pub turns : ℕ
  pub end : End
  pub log : List Event

abbrev logged : Outcome → Logged
logged o = record { turns = o.turns; end = o.end; log = o.log }

abbrev as_logged : Outcome → Logged
as_logged o = record { turns = o.turns; end = o.end; log = told o.deeds }

abbrev c : Cell
c = record { instance = 1; index = 0 }

-- ---- int main(void){int x=0;while(x<2)x=x+1;return x;}

abbrev counting : List ExternalShape
counting = main_with (an_int_of x (digit 0) ∷ []) (on (while (bin op.Lt (var x) (digit 2)) (do_it (set (var x) (bin op.Add (var x) (digit 1))))) (give (var x))) ∷ []

-- the same with its probes
abbrev probed_counting : List ExternalShape
probed_counting =
    marked_main 1 (a_defined_int 1 x (digit 0) ∷ []) (on (while (probed block 2 (probed test 1 (bin op.Lt (a_use 1 x) (digit 2))))
    (marked 3 (simply (one_node (set (a_def 2 x) (bin op.Add (a_use 2 x) (digit 1)))))))
    (marked_items 4 (return (one_node (a_use 3 x))) no_items)) ∷ []

abbrev one_turn : List Event → List Event
one_turn rest = Block 2 ∷ Use 1 c 1 ∷ Test 1 1 1 ∷ Block 3 ∷ Use 2 c 1 ∷ Def 2 c ∷ rest

-- these are the events of the program without probes
counted : logged (run (program probed_counting) [] 27)
    ≡ record { turns = 27; end = end.Returned (pos 2); log = Block 1 ∷ Def 1 c ∷ one_turn (one_turn (Block 2 ∷ Use 1 c 1 ∷ Test 1 2 1 ∷ Block 4 ∷ Use 3 c 1 ∷ [])) }
unfolding pattern value_of fitted shift_count unary_result binary_result calls
counted = refl

stopped : logged (run (program probed_counting) [] 4) ≡ record { turns = 4; end = end.Turns; log = Block 1 ∷ Def 1 c ∷ Block 2 ∷ [] }
unfolding pattern value_of fitted shift_count unary_result binary_result calls
stopped = refl

-- a program without probes logs nothing, and what is done at probes is no deed
plain_is_silent : logged (run (program counting) [] 27) ≡ record { turns = 27; end = end.Returned (pos 2); log = [] }
unfolding pattern value_of fitted shift_count unary_result binary_result calls
plain_is_silent = refl

-- ---- int main(void){int x=0;switch(getchar()){case 'a':x++;break;case 'b':x=9;}return x;}

abbrev a_char : ℕ → NodeShape
a_char b = e (leaf (char b))

abbrev stepped : NodeShape → NodeShape
stepped l = e (suffix l (behind up))

abbrev cases : List ExternalShape
cases =
    main_with (an_int_of x (digit 0) ∷ []) (on (switch (call_of getchar_text no_nodes)
    (more_items (case p (a_char 97) ∷ []) (do_it (stepped (var x))) (on break (more_items (case p (a_char 98) ∷ []) (do_it (set (var x) (digit 9))) no_items))))
    (give (var x))) ∷ []

abbrev probed_cases : List ExternalShape
probed_cases =
    marked_main 1 (a_defined_int 1 x (digit 0) ∷ []) (on (switch (e (probe (select (number_text 1) (more_nodes (a_char 97) (more_nodes (a_char 98) no_nodes))) (call_of getchar_text no_nodes)))
    (more_items (case p (a_char 97) ∷ []) (marked 2 (simply (one_node (stepped (probed def 2 (a_use 1 x)))))) (on break
    (more_items (case p (a_char 98) ∷ []) (marked 3 (simply (one_node (set (a_def 3 x) (digit 9))))) no_items))))
    (marked_items 4 (return (one_node (a_use 2 x))) no_items)) ∷ []

abbrev first_case : Logged
first_case = record {
  turns = 11;
  end = end.Returned (pos 1);
  log = Block 1 ∷ Def 1 c ∷ Test 1 1 1 ∷ Block 2 ∷ Use 1 c 1 ∷ Def 2 c ∷ Block 4 ∷ Use 2 c 1 ∷ [];
}

abbrev no_case : Logged
no_case = record { turns = 7; end = end.Returned (pos 0); log = Block 1 ∷ Def 1 c ∷ Test 1 3 1 ∷ Block 4 ∷ Use 2 c 1 ∷ [] }

first_case_heard : as_logged (run_heard (program cases) (97 ∷ []) 100) ≡ first_case
unfolding pattern value_of fitted shift_count unary_result binary_result calls
first_case_heard = refl

first_case_logged : logged (run (program probed_cases) (97 ∷ []) 100) ≡ first_case
unfolding pattern value_of fitted shift_count unary_result binary_result calls
first_case_logged = refl

no_case_heard : as_logged (run_heard (program cases) [] 100) ≡ no_case
unfolding pattern value_of fitted shift_count unary_result binary_result calls
no_case_heard = refl

no_case_logged : logged (run (program probed_cases) [] 100) ≡ no_case
unfolding pattern value_of fitted shift_count unary_result binary_result calls
no_case_logged = refl

-- ---- two use probes round one place log both, the inner one first

-- int main(void){int x=0;return __atac_use(1,__atac_use(2,x));}
inner_first : logged (run (program (main_with (an_int_of x (digit 0) ∷ []) (give (probed used 1 (a_use 2 x))) ∷ [])) [] 100)
    ≡ record { turns = 5; end = end.Returned (pos 0); log = Use 2 c 1 ∷ Use 1 c 1 ∷ [] }
unfolding pattern value_of fitted shift_count unary_result binary_result calls
inner_first = refl
