-- Worked runs: loops and their limits.
use Rattle.std.proofs.Common.{◌≡◌, pos, List, [], ◌∷◌, refl}
use Rattle.c_events.specs.declared.events.Cell.{Cell}
use Rattle.c_events.specs.declared.events.Event.{Event}
use Rattle.c_events.specs.declared.events.Event.TheVariants.{Block, Def, Use, Test}
use Rattle.c_arith.specs.Arith.{pattern, value_of, fitted, shift_count, unary_result, binary_result}
use Rattle.c_syntax.specs.declared.tree.BinaryOp.TheVariants as op
use Rattle.c_syntax.specs.Shape.{up, behind, suffix, when, while, break, no_items, ExternalShape}
use Rattle.c_meaning.specs.declared.end.End.TheVariants.{Returned, Turns}
use Rattle.c_meaning.specs.Calls.{calls}
use Rattle.c_meaning.proofs.Spelled.{e, i, x, digit, var, set, bin, s, does, do_it, on, give, block_of, an_int_of, main_with, runs}

-- a cell of the first instance
abbrev c : Cell
c = record { instance = 1; index = 0 }

-- int main(void){return 0;}
nothing_done : runs (main_with [] (give (digit 0)) ∷ []) [] 100 ≡ record { output = []; turns = 3; end = Returned (pos 0); events = Block 1 ∷ [] }
unfolding pattern value_of fitted shift_count unary_result binary_result calls
nothing_done = refl

-- int main(void){int x=0;while(x<2)x=x+1;return x;}
abbrev counting : List ExternalShape
counting = main_with (an_int_of x (digit 0) ∷ []) (on (while (bin op.Lt (var x) (digit 2)) (do_it (set (var x) (bin op.Add (var x) (digit 1))))) (give (var x))) ∷ []

abbrev one_turn : List Event → List Event
one_turn rest = Block 2 ∷ Use 1 c 1 ∷ Test 1 1 1 ∷ Block 3 ∷ Use 2 c 1 ∷ Def 2 c ∷ rest

counted : runs counting [] 27
    ≡ record { output = []; turns = 27; end = Returned (pos 2); events = Block 1 ∷ Def 1 c ∷ one_turn (one_turn (Block 2 ∷ Use 1 c 1 ∷ Test 1 2 1 ∷ Block 4 ∷ Use 3 c 1 ∷ [])) }
unfolding pattern value_of fitted shift_count unary_result binary_result calls
counted = refl

after_three_turns : runs counting [] 3 ≡ record { output = []; turns = 3; end = Turns; events = Block 1 ∷ Def 1 c ∷ [] }
unfolding pattern value_of fitted shift_count unary_result binary_result calls
after_three_turns = refl

-- a block's event comes before its node's turn
after_four_turns : runs counting [] 4 ≡ record { output = []; turns = 4; end = Turns; events = Block 1 ∷ Def 1 c ∷ Block 2 ∷ [] }
unfolding pattern value_of fitted shift_count unary_result binary_result calls
after_four_turns = refl

after_twenty_six_turns : runs counting [] 26
    ≡ record { output = []; turns = 26; end = Turns; events = Block 1 ∷ Def 1 c ∷ one_turn (one_turn (Block 2 ∷ Use 1 c 1 ∷ Test 1 2 1 ∷ Block 4 ∷ [])) }
unfolding pattern value_of fitted shift_count unary_result binary_result calls
after_twenty_six_turns = refl

-- int main(void){int i=0;while(1){i++;if(i==2)break;}return i;}
broken_off : runs (main_with (an_int_of i (digit 0) ∷ []) (on (while (digit 1) (block_of (does (e (suffix (var i) (behind up))) (on (when (bin op.Eq (var i) (digit 2)) (s break)) no_items)))) (give (var i))) ∷ []) [] 100
    ≡ record {
      output = [];
      turns = 25;
      end = Returned (pos 2);
      events =
          Block 1 ∷ Def 1 c ∷ Block 2 ∷ Test 1 1 1 ∷ Block 3 ∷ Use 1 c 1 ∷ Def 2 c ∷ Use 2 c 1 ∷ Test 2 2 1
          ∷ Block 2 ∷ Test 1 1 1 ∷ Block 3 ∷ Use 1 c 1 ∷ Def 2 c ∷ Use 2 c 1 ∷ Test 2 1 1 ∷ Block 4 ∷ Block 5 ∷ Use 3 c 1 ∷ [];
    }
unfolding pattern value_of fitted shift_count unary_result binary_result calls
broken_off = refl
