-- Worked runs: calls, a switch, and the limits of calls and cells.
use Rattle.std.proofs.Common.{◌≡◌, ℕ, pos, List, [], ◌∷◌, replicate, refl}
use Rattle.c_events.specs.declared.events.Cell.{Cell}
use Rattle.c_events.specs.declared.events.Event.{Event}
use Rattle.c_events.specs.declared.events.Event.TheVariants.{Block, Def, Use, Test}
use Rattle.c_arith.specs.Arith.{pattern, value_of, fitted, shift_count, unary_result, binary_result}
use Rattle.c_syntax.specs.declared.tree.BinaryOp.TheVariants as op
use Rattle.c_syntax.specs.Shape.{char, leaf, no_nodes, when, switch, break, no_items, more_items, case, default, NodeShape, ItemShapes, ExternalShape}
use Rattle.c_meaning.specs.declared.end.End.{End}
use Rattle.c_meaning.specs.declared.end.End.TheVariants as end
use Rattle.c_meaning.specs.State.{begins, tells, start}
use Rattle.c_meaning.specs.Calls.{Source, calls}
use Rattle.c_meaning.specs.Runs.{Outcome, silent, main_called, outcome, run_heard}
use Rattle.c_meaning.specs.Deeds.{own}
use Rattle.c_meaning.proofs.Spelled.{p, f, n, x, getchar_text, putchar_text, e, digit, var, set, bin, call_of, of_one, on, do_it, give, back, an_int, an_int_of, function_of_int, main_with, program, runs}

-- how a run ends, and behind how many turns
pub record Ending : Type 0 where
  pub turns : ℕ
  pub end : End

abbrev ending : Outcome → Ending
ending o = record { turns = o.turns; end = o.end }

-- the only cell of an instance
abbrev c : ℕ → Cell
c j = record { instance = j; index = 0 }

-- int f(int n){if(n<2)return 1;return n*f(n-1);}int main(void){return f(3);}
abbrev factorial : List ExternalShape
factorial =
    function_of_int f n [] (on (when (bin op.Lt (var n) (digit 2)) (back (digit 1))) (give (bin op.Mul (var n) (call_of f (of_one (bin op.Sub (var n) (digit 1)))))))
    ∷ main_with [] (give (call_of f (of_one (digit 3)))) ∷ []

-- a call that goes on: it is in its own activation, and the argument is in its own instance
abbrev deeper : ℕ → ℕ → List Event → List Event
deeper j a rest = Def 1 (c j) ∷ Block 1 ∷ Use 1 (c j) a ∷ Test 1 2 a ∷ Block 3 ∷ Use 2 (c j) a ∷ Use 3 (c j) a ∷ rest

factorial_of_three : runs factorial [] 100
    ≡ record {
      output = [];
      turns = 35;
      end = end.Returned (pos 6);
      events = Block 4 ∷ deeper 1 2 (deeper 2 3 (Def 1 (c 3) ∷ Block 1 ∷ Use 1 (c 3) 4 ∷ Test 1 1 4 ∷ Block 2 ∷ []));
    }
unfolding pattern value_of fitted shift_count unary_result binary_result calls
factorial_of_three = refl

-- what the second activation did by itself, without the calls inside it
own_of_a_call : own 2 (run_heard (program factorial) [] 100).deeds
    ≡ begins 1 ∷ tells (Def 1 (c 1)) ∷ tells (Block 1) ∷ tells (Use 1 (c 1) 2) ∷ tells (Test 1 2 2) ∷ tells (Block 3) ∷ tells (Use 2 (c 1) 2) ∷ tells (Use 3 (c 1) 2) ∷ []
unfolding pattern value_of fitted shift_count unary_result binary_result calls
own_of_a_call = refl

-- ---- int main(void){int x=0;switch(getchar()){case 'a':x=1;case 'b':x=x+2;break;case 'c':x=9;}return x;}

abbrev letter_case : ℕ → NodeShape → ItemShapes → ItemShapes
letter_case b l rest = more_items (case p (e (leaf (char b))) ∷ []) (do_it l) rest

abbrev cases : List ExternalShape
cases =
    main_with (an_int_of x (digit 0) ∷ []) (on (switch (call_of getchar_text no_nodes)
    (letter_case 97 (set (var x) (digit 1)) (letter_case 98 (set (var x) (bin op.Add (var x) (digit 2))) (on break (letter_case 99 (set (var x) (digit 9)) no_items)))))
    (give (var x))) ∷ []

falls_through : runs cases (97 ∷ []) 100
    ≡ record {
      output = [];
      turns = 18;
      end = end.Returned (pos 3);
      events = Block 1 ∷ Def 1 (c 1) ∷ Test 1 1 1 ∷ Block 2 ∷ Def 2 (c 1) ∷ Block 3 ∷ Use 1 (c 1) 1 ∷ Def 3 (c 1) ∷ Block 5 ∷ Use 2 (c 1) 1 ∷ [];
    }
unfolding pattern value_of fitted shift_count unary_result binary_result calls
falls_through = refl

passes_by : runs cases (122 ∷ []) 100
    ≡ record { output = []; turns = 7; end = end.Returned (pos 0); events = Block 1 ∷ Def 1 (c 1) ∷ Test 1 4 1 ∷ Block 5 ∷ Use 2 (c 1) 1 ∷ [] }
unfolding pattern value_of fitted shift_count unary_result binary_result calls
passes_by = refl

-- int main(void){switch(getchar()){case 'a':putchar('a');default:putchar('d');}}
takes_default : runs (main_with [] (on (switch (call_of getchar_text no_nodes)
    (letter_case 97 (call_of putchar_text (of_one (e (leaf (char 97))))) (more_items (default p ∷ []) (do_it (call_of putchar_text (of_one (e (leaf (char 100)))))) no_items))) no_items) ∷ []) [] 100
    ≡ record { output = 100 ∷ []; turns = 6; end = end.Returned (pos 0); events = Block 1 ∷ Test 1 2 1 ∷ Block 3 ∷ [] }
unfolding pattern value_of fitted shift_count unary_result binary_result calls
takes_default = refl

-- ---- limits

-- where no cell more may live: int main(void){int x;return 0;}
abbrev without_room : Source → Outcome
without_room P = outcome P.tables 100 (main_called P silent (calls P silent) (record (start [] 100) { store = record { most = 0; count = 0; live = [] } }))

no_room : (without_room (program (main_with (an_int x ∷ []) (give (digit 0)) ∷ []))).end ≡ end.Room
unfolding pattern value_of fitted shift_count unary_result binary_result calls
no_room = refl

-- where 3,998 calls are active already
abbrev far_inside : Source → Outcome
far_inside P = outcome P.tables 100 (main_called P silent (calls P silent) (record (start [] 100) { calls = replicate 3998 (record { function = 0; activation = 0; scopes = [] }) }))

-- int f(int n){return f(n);}int main(void){return f(0);}: main and the first call of f may be active yet
abbrev endless : List ExternalShape
endless = function_of_int f n [] (give (call_of f (of_one (var n)))) ∷ main_with [] (give (call_of f (of_one (digit 0)))) ∷ []

too_deep : ending (far_inside (program endless)) ≡ record { turns = 8; end = end.Depth }
unfolding pattern value_of fitted shift_count unary_result binary_result calls
too_deep = refl
