-- Worked runs: tests, conditional expressions, commas and the other operators that choose.
use Rattle.std.proofs.Common.{◌≡◌, ℕ, pos, List, [], ◌∷◌, Some, refl}
use Rattle.c_events.specs.declared.events.Cell.{Cell}
use Rattle.c_events.specs.declared.events.Event.TheVariants.{Block, Def, Use, Test}
use Rattle.c_arith.specs.Arith.{pattern, value_of, fitted, shift_count, unary_result, binary_result}
use Rattle.c_syntax.specs.declared.token.Key.TheVariants as key
use Rattle.c_syntax.specs.declared.tree.BinaryOp.TheVariants as op
use Rattle.c_syntax.specs.declared.tree.UnaryOp.TheVariants as front
use Rattle.c_syntax.specs.Shape.{up, before, prefix, and, or, assign, comma, two, choose, char, leaf, paren, when, either, do_while, continue, no_nodes, no_items, more_specs, word, no_specs, declarator, arrays, no_lengths, one_init, one, NodeShape, DeclShape, ExternalShape}
use Rattle.c_store.specs.declared.value.Fault.TheVariants.{NoResult}
use Rattle.c_meaning.specs.declared.end.End.{End}
use Rattle.c_meaning.specs.declared.end.End.TheVariants as end
use Rattle.c_meaning.specs.Calls.{calls}
use Rattle.c_meaning.specs.Runs.{run}
use Rattle.c_meaning.proofs.Spelled.{p, named, a, b, f, i, n, x, letter, main_text, getchar_text, putchar_text, e, digit, digits, var, set, bin, pre, call_of, of_one, s, on, does, do_it, give, back, block_of, of, an_int, an_int_of, function_of_none, function_of_int, main_with, program, runs}

abbrev c : ℕ → Cell
c j = record { instance = j; index = 0 }

abbrev read_digit : NodeShape
read_digit = bin op.Sub (call_of getchar_text no_nodes) (e (leaf (char 48)))

abbrev d : List ℕ
d = letter 3

-- int main(void){int a;int b;int d;a=getchar()-'0';b=getchar()-'0';d=getchar()-'0';if(a&&(b||d))putchar('y');return 0;}
both_and_either : runs (main_with (an_int a ∷ an_int b ∷ an_int d ∷ []) (does (set (var a) read_digit) (does (set (var b) read_digit) (does (set (var d) read_digit)
    (on (when (e (two and (var a) (e (paren (e (two or (var b) (var d))))))) (do_it (call_of putchar_text (of_one (e (leaf (char 121)))))))
    (give (digit 0)))))) ∷ []) (49 ∷ 48 ∷ 49 ∷ []) 100
    ≡ record {
      output = 121 ∷ [];
      turns = 33;
      end = end.Returned (pos 0);
      events =
          Block 1 ∷ Def 1 (c 1) ∷ Def 2 (c 2) ∷ Def 3 (c 3) ∷ Use 1 (c 1) 1 ∷ Test 1 1 1 ∷ Block 2 ∷ Use 2 (c 2) 1 ∷ Test 2 2 1 ∷ Block 3 ∷ Use 3 (c 3) 1 ∷ Test 3 1 1
          ∷ Block 4 ∷ Block 5 ∷ [];
    }
unfolding pattern value_of fitted shift_count unary_result binary_result calls
both_and_either = refl

-- int f(int n){int x;if(n)x=5;else x=1;if(x+(n?f(0):0)>4)return 1;return 0;}int main(void){return f(1);}: a test that is entered again
-- inside itself ends twice, each time in its own activation
entered_again : runs (function_of_int f n (an_int x ∷ []) (on (either (var n) (do_it (set (var x) (digit 5))) (do_it (set (var x) (digit 1))))
    (on (when (bin op.Gt (bin op.Add (var x) (e (paren (e (choose (var n) (call_of f (of_one (digit 0))) (digit 0)))))) (digit 4)) (back (digit 1))) (give (digit 0))))
    ∷ main_with [] (give (call_of f (of_one (digit 1)))) ∷ []) [] 100
    ≡ record {
      output = [];
      turns = 41;
      end = end.Returned (pos 1);
      events =
          Block 9 ∷ Def 1 (c 1) ∷ Block 1 ∷ Use 1 (c 1) 2 ∷ Test 1 1 2 ∷ Block 2 ∷ Def 2 (c 2) ∷ Block 4 ∷ Use 2 (c 2) 2 ∷ Use 3 (c 1) 2 ∷ Test 3 1 2 ∷ Block 5
          ∷ Def 1 (c 3) ∷ Block 1 ∷ Use 1 (c 3) 3 ∷ Test 1 2 3 ∷ Block 3 ∷ Def 3 (c 4) ∷ Block 4 ∷ Use 2 (c 4) 3 ∷ Use 3 (c 3) 3 ∷ Test 3 2 3 ∷ Block 6 ∷ Test 2 2 3 ∷ Block 8
          ∷ Test 2 1 2 ∷ Block 7 ∷ [];
    }
unfolding pattern value_of fitted shift_count unary_result binary_result calls
entered_again = refl

-- int main(void){int i=0;int x=0;do{if(++i==2)continue;x+=i;}while(i<3);return x;}
continued : runs (main_with (an_int_of i (digit 0) ∷ an_int_of x (digit 0) ∷ []) (on (do_while
    (block_of (on (when (bin op.Eq (e (prefix (before up) (var i))) (digit 2)) (s continue)) (does (e (two (assign (Some op.Add)) (var x) (var i))) no_items)))
    (bin op.Lt (var i) (digit 3))) (give (var x))) ∷ []) [] 100
    ≡ record {
      output = [];
      turns = 44;
      end = end.Returned (pos 4);
      events =
          Block 1 ∷ Def 1 (c 1) ∷ Def 2 (c 2) ∷ Block 2 ∷ Use 1 (c 1) 1 ∷ Def 3 (c 1) ∷ Test 1 2 1 ∷ Block 4 ∷ Use 2 (c 2) 1 ∷ Use 3 (c 1) 1 ∷ Def 4 (c 2) ∷ Block 5 ∷ Use 4 (c 1) 1 ∷ Test 2 1 1
          ∷ Block 2 ∷ Use 1 (c 1) 1 ∷ Def 3 (c 1) ∷ Test 1 1 1 ∷ Block 3 ∷ Block 5 ∷ Use 4 (c 1) 1 ∷ Test 2 1 1
          ∷ Block 2 ∷ Use 1 (c 1) 1 ∷ Def 3 (c 1) ∷ Test 1 2 1 ∷ Block 4 ∷ Use 2 (c 2) 1 ∷ Use 3 (c 1) 1 ∷ Def 4 (c 2) ∷ Block 5 ∷ Use 4 (c 1) 1 ∷ Test 2 2 1
          ∷ Block 6 ∷ Use 5 (c 2) 1 ∷ [];
    }
unfolding pattern value_of fitted shift_count unary_result binary_result calls
continued = refl

-- how a run ends, and behind how many turns
pub record Ending : Type 0 where
  pub turns : ℕ
  pub end : End

abbrev ends : List ExternalShape → Ending
ends es = let o = run (program es) [] 100 in record { turns = o.turns; end = o.end }

-- int f(void){}int main(void){return 1?f():2;}: an arm is looked through, and return uses the value
arm_without_result : ends (function_of_none f [] no_items ∷ main_with [] (give (e (choose (digit 1) (call_of f no_nodes) (digit 2)))) ∷ []) ≡ record { turns = 6; end = end.Fault NoResult main_text }
unfolding pattern value_of fitted shift_count unary_result binary_result calls
arm_without_result = refl

-- int f(void){}int main(void){return f(),3;}
comma_drops_its_left_side : ends (function_of_none f [] no_items ∷ main_with [] (give (e (two comma (call_of f no_nodes) (digit 3)))) ∷ []) ≡ record { turns = 6; end = end.Returned (pos 3) }
unfolding pattern value_of fitted shift_count unary_result binary_result calls
comma_drops_its_left_side = refl

abbrev a_char_of : List ℕ → NodeShape → DeclShape
a_char_of t l = of (more_specs p (word key.Char) no_specs) (declarator [] (named t) (arrays no_lengths) (one_init (one l)))

-- int main(void){char x=127;x+=1;return-x;}: it is computed in int, and converted back
wraps_back : ends (main_with (a_char_of x (digits (49 ∷ 50 ∷ 55 ∷ [])) ∷ []) (does (e (two (assign (Some op.Add)) (var x) (digit 1))) (give (pre front.Minus (var x)))) ∷ [])
    ≡ record { turns = 10; end = end.Returned (pos 128) }
unfolding pattern value_of fitted shift_count unary_result binary_result calls
wraps_back = refl
