-- Worked runs: arrays, structures, pointers, strings and initialisers.
use Rattle.std.proofs.Common.{◌≡◌, ℕ, pos, List, [], ◌∷◌, false, refl}
use Rattle.c_events.specs.declared.events.Cell.{Cell}
use Rattle.c_events.specs.declared.events.Event.{Event}
use Rattle.c_events.specs.declared.events.Event.TheVariants.{Block, Def, Use, Test}
use Rattle.c_arith.specs.Arith.{pattern, value_of, fitted, shift_count, unary_result, binary_result}
use Rattle.c_syntax.specs.declared.text.Text.{Text}
use Rattle.c_syntax.specs.declared.token.Key.TheVariants as key
use Rattle.c_syntax.specs.declared.tree.BinaryOp.TheVariants as op
use Rattle.c_syntax.specs.declared.tree.UnaryOp.TheVariants as front
use Rattle.c_syntax.specs.Shape.{char, str, leaf, arrow, up, behind, suffix, field, for, when, one_node, no_nodes, NodeShape, no_lengths, more_lengths, no_node, SpecShapes, no_specs, more_specs, word, struct, no_members, members, DeclShape, decl, declarator, no_declarators, arrays, MaybeInit, no_init, one_init, one, listed, no_inits, more_inits, no_items, declared, ExternalShape}
use Rattle.c_store.specs.declared.value.Fault.TheVariants.{Uninitialised}
use Rattle.c_meaning.specs.declared.end.End.{End}
use Rattle.c_meaning.specs.declared.end.End.TheVariants as end
use Rattle.c_meaning.specs.Calls.{calls}
use Rattle.c_meaning.specs.State.{begins, makes, tells, repeats}
use Rattle.c_meaning.specs.Runs.{Outcome, run_heard}
use Rattle.c_meaning.specs.Deeds.{own}
use Rattle.c_meaning.proofs.Spelled.{p, named, a, b, f, g, i, q, v, x, y, letter, main_text, getchar_text, putchar_text, e, digit, var, set, bin, pre, dotted, at, call_of, of_one, on, does, do_it, do_block, give, star, ints, of, an_int, an_array, a_pointer, decls, main_with, program, runs}

abbrev cell : ℕ → ℕ → Cell
cell j k = record { instance = j; index = k }

-- getchar()-'0'
abbrev read_digit : NodeShape
read_digit = bin op.Sub (call_of getchar_text no_nodes) (e (leaf (char 48)))

abbrev j_text : Text
j_text = letter 9

-- int main(void){int a[4];int i;int j;int y;i=getchar()-'0';j=getchar()-'0';a[i]=1;a[j]=2;y=a[i];putchar('0'+y);return 0;}
abbrev elements : List ExternalShape
elements =
    main_with (an_array a (digit 4) ∷ an_int i ∷ an_int j_text ∷ an_int y ∷ []) (does (set (var i) read_digit) (does (set (var j_text) read_digit)
    (does (set (at (var a) (var i)) (digit 1)) (does (set (at (var a) (var j_text)) (digit 2)) (does (set (var y) (at (var a) (var i)))
    (does (call_of putchar_text (of_one (bin op.Add (e (leaf (char 48))) (var y)))) (give (digit 0)))))))) ∷ []

-- the events from the definition of a[j] on, where i is 1
abbrev elements_events : ℕ → List Event
elements_events j =
    Block 1 ∷ Def 1 (cell 2 0) ∷ Def 2 (cell 3 0) ∷ Use 1 (cell 2 0) 1 ∷ Def 3 (cell 1 1) ∷ Use 2 (cell 3 0) 1 ∷ Def 4 (cell 1 j)
    ∷ Use 4 (cell 2 0) 1 ∷ Use 3 (cell 1 1) 1 ∷ Def 5 (cell 4 0) ∷ Use 5 (cell 4 0) 1 ∷ []

other_element : runs elements (49 ∷ 50 ∷ []) 100 ≡ record { output = 49 ∷ []; turns = 45; end = end.Returned (pos 0); events = elements_events 2 }
unfolding pattern value_of fitted shift_count unary_result binary_result calls
other_element = refl

same_element : runs elements (49 ∷ 49 ∷ []) 100 ≡ record { output = 50 ∷ []; turns = 45; end = end.Returned (pos 0); events = elements_events 1 }
unfolding pattern value_of fitted shift_count unary_result binary_result calls
same_element = refl

-- ---- structures

-- struct s{int f;int g;};
abbrev s_struct : ExternalShape
s_struct = declared (decl p (more_specs p (struct (named (letter 18)) (members (decls (an_int f ∷ an_int g ∷ [])))) no_specs) no_declarators)

abbrev of_s : SpecShapes
of_s = more_specs p (struct (named (letter 18)) no_members) no_specs

abbrev an_s : Text → DeclShape
an_s t = of of_s (declarator [] (named t) (arrays no_lengths) no_init)

abbrev a_pointer_to_s : Text → DeclShape
a_pointer_to_s t = of of_s (declarator (star ∷ []) (named t) (arrays no_lengths) no_init)

abbrev pointed : NodeShape → Text → NodeShape
pointed l t = e (suffix l (field arrow t p))

-- struct s{int f;int g;};int main(void){struct s v;struct s*q;q=&v;v.f=1;q->g=2;q->f=3;return v.f+v.g;}
fields : runs (s_struct ∷ main_with (an_s v ∷ a_pointer_to_s q ∷ []) (does (set (var q) (pre front.AddressOf (var v))) (does (set (dotted (var v) f) (digit 1))
    (does (set (pointed (var q) g) (digit 2)) (does (set (pointed (var q) f) (digit 3)) (give (bin op.Add (dotted (var v) f) (dotted (var v) g))))))) ∷ []) [] 100
    ≡ record {
      output = [];
      turns = 30;
      end = end.Returned (pos 5);
      events =
          Block 1 ∷ Def 1 (cell 2 0) ∷ Def 2 (cell 1 0) ∷ Use 1 (cell 2 0) 1 ∷ Def 3 (cell 1 1) ∷ Use 2 (cell 2 0) 1 ∷ Def 4 (cell 1 0)
          ∷ Use 3 (cell 1 0) 1 ∷ Use 4 (cell 1 1) 1 ∷ [];
    }
unfolding pattern value_of fitted shift_count unary_result binary_result calls
fields = refl

-- struct s{int f;int g;};int main(void){struct s a,b;a.f=1;a.g=2;b=a;b.g=5;return b.f+b.g;}: one use and one definition, told of each cell
copied_whole : runs (s_struct ∷ main_with (an_s a ∷ an_s b ∷ []) (does (set (dotted (var a) f) (digit 1)) (does (set (dotted (var a) g) (digit 2))
    (does (set (var b) (var a)) (does (set (dotted (var b) g) (digit 5)) (give (bin op.Add (dotted (var b) f) (dotted (var b) g))))))) ∷ []) [] 100
    ≡ record {
      output = [];
      turns = 32;
      end = end.Returned (pos 6);
      events =
          Block 1 ∷ Def 1 (cell 1 0) ∷ Def 2 (cell 1 1) ∷ Use 1 (cell 1 0) 1 ∷ Use 1 (cell 1 1) 1 ∷ Def 3 (cell 2 0) ∷ Def 3 (cell 2 1) ∷ Def 4 (cell 2 1)
          ∷ Use 2 (cell 2 0) 1 ∷ Use 3 (cell 2 1) 1 ∷ [];
    }
unfolding pattern value_of fitted shift_count unary_result binary_result calls
copied_whole = refl

-- struct s{int f;int g;};int main(void){struct s a,b;a.f=1;b=a;return b.g;}: a cell without value is copied as one without value
copied_without_value : runs (s_struct ∷ main_with (an_s a ∷ an_s b ∷ []) (does (set (dotted (var a) f) (digit 1)) (does (set (var b) (var a)) (give (dotted (var b) g)))) ∷ []) [] 100
    ≡ record {
      output = [];
      turns = 19;
      end = end.Fault Uninitialised main_text;
      events = Block 1 ∷ Def 1 (cell 1 0) ∷ Use 1 (cell 1 0) 1 ∷ Use 1 (cell 1 1) 1 ∷ Def 2 (cell 2 0) ∷ Def 2 (cell 2 1) ∷ [];
    }
unfolding pattern value_of fitted shift_count unary_result binary_result calls
copied_without_value = refl

-- how a run ends, and behind how many turns
pub record Ending : Type 0 where
  pub turns : ℕ
  pub end : End

abbrev ending : Outcome → Ending
ending o = record { turns = o.turns; end = o.end }

-- ---- pointers

-- int main(void){int x;int y;int*q;x=1;q=&x;*q=2;y=x;return y;}
through_a_pointer : runs (main_with (an_int x ∷ an_int y ∷ a_pointer q no_init ∷ []) (does (set (var x) (digit 1)) (does (set (var q) (pre front.AddressOf (var x)))
    (does (set (pre front.Deref (var q)) (digit 2)) (does (set (var y) (var x)) (give (var y)))))) ∷ []) [] 100
    ≡ record {
      output = [];
      turns = 24;
      end = end.Returned (pos 2);
      events =
          Block 1 ∷ Def 1 (cell 1 0) ∷ Def 2 (cell 3 0) ∷ Use 1 (cell 3 0) 1 ∷ Def 3 (cell 1 0) ∷ Use 2 (cell 1 0) 1 ∷ Def 4 (cell 2 0) ∷ Use 3 (cell 2 0) 1 ∷ [];
    }
unfolding pattern value_of fitted shift_count unary_result binary_result calls
through_a_pointer = refl

-- ---- instances that end

-- int main(void){int i;for(i=0;i<2;i++){int x;if(i==0)x=7;putchar(x);}return 0;}: each turn has an x of its own
abbrev anew : List ExternalShape
anew =
    main_with (an_int i ∷ []) (on (for (one_node (set (var i) (digit 0))) (one_node (bin op.Lt (var i) (digit 2))) (one_node (e (suffix (var i) (behind up))))
    (do_block (an_int x ∷ []) (on (when (bin op.Eq (var i) (digit 0)) (do_it (set (var x) (digit 7)))) (does (call_of putchar_text (of_one (var x))) no_items))))
    (give (digit 0))) ∷ []

ended_and_made : runs anew [] 100
    ≡ record {
      output = 7 ∷ [];
      turns = 36;
      end = end.Fault Uninitialised main_text;
      events =
          Block 1 ∷ Def 1 (cell 1 0) ∷ Block 2 ∷ Use 1 (cell 1 0) 1 ∷ Test 1 1 1 ∷ Block 4 ∷ Use 3 (cell 1 0) 1 ∷ Test 2 1 1 ∷ Block 5 ∷ Def 3 (cell 2 0)
          ∷ Block 6 ∷ Use 4 (cell 2 0) 1 ∷ Block 3 ∷ Use 2 (cell 1 0) 1 ∷ Def 2 (cell 1 0) ∷ Block 2 ∷ Use 1 (cell 1 0) 1 ∷ Test 1 1 1 ∷ Block 4
          ∷ Use 3 (cell 1 0) 1 ∷ Test 2 2 1 ∷ Block 6 ∷ [];
    }
unfolding pattern value_of fitted shift_count unary_result binary_result calls
ended_and_made = refl

-- ---- initialisers

abbrev open_array : SpecShapes → Text → MaybeInit → DeclShape
open_array specs t init = of specs (declarator [] (named t) (arrays (more_lengths no_node no_lengths)) init)

abbrev chars : SpecShapes
chars = more_specs p (word key.Char) no_specs

-- char a[]="ab";int main(void){return a[1];}
a_string : runs (declared (open_array chars a (one_init (one (e (leaf (str (97 ∷ 98 ∷ []))))))) ∷ main_with [] (give (at (var a) (digit 1))) ∷ []) [] 100
    ≡ record {
      output = [];
      turns = 5;
      end = end.Returned (pos 98);
      events = Def 1 (cell 1 0) ∷ Def 1 (cell 1 1) ∷ Def 1 (cell 1 2) ∷ Block 1 ∷ Use 1 (cell 1 1) 1 ∷ [];
    }
unfolding pattern value_of fitted shift_count unary_result binary_result calls
a_string = refl

-- int a[2];int*q=&a[1];int main(void){int b[3]={1,2};return b[1]+b[2]+*q;}: what a list leaves out is zero, and so is all of a
lists_and_addresses : runs (declared (an_array a (digit 2)) ∷ declared (a_pointer q (one_init (one (pre front.AddressOf (at (var a) (digit 1))))))
    ∷ main_with (of ints (declarator [] (named b) (arrays (more_lengths (one_node (digit 3)) no_lengths)) (one_init (listed p (more_inits (one (digit 1)) (more_inits (one (digit 2)) no_inits)) false))) ∷ [])
    (give (bin op.Add (bin op.Add (at (var b) (digit 1)) (at (var b) (digit 2))) (pre front.Deref (var q)))) ∷ []) [] 100
    ≡ record {
      output = [];
      turns = 15;
      end = end.Returned (pos 2);
      events =
          Def 1 (cell 1 0) ∷ Def 1 (cell 1 1) ∷ Def 2 (cell 2 0) ∷ Block 1 ∷ Def 3 (cell 3 0) ∷ Def 3 (cell 3 1) ∷ Def 3 (cell 3 2)
          ∷ Use 1 (cell 3 1) 1 ∷ Use 2 (cell 3 2) 1 ∷ Use 4 (cell 2 0) 1 ∷ Use 3 (cell 1 1) 1 ∷ [];
    }
unfolding pattern value_of fitted shift_count unary_result binary_result calls
lists_and_addresses = refl

-- int main(void){int x;int b[2]={1,2};return 0;}: what main did by itself. The definition of b is one, told of each cell
own_of_main : own 1 (run_heard (program (main_with (an_int x ∷ of ints (declarator [] (named b) (arrays (more_lengths (one_node (digit 2)) no_lengths)) (one_init (listed p (more_inits (one (digit 1)) (more_inits (one (digit 2)) no_inits)) false))) ∷ [])
    (give (digit 0)) ∷ [])) [] 100).deeds
    ≡ begins 1 ∷ tells (Block 1) ∷ makes 1 1 ∷ makes 2 2 ∷ tells (Def 1 (cell 2 0)) ∷ repeats (Def 1 (cell 2 1)) ∷ []
unfolding pattern value_of fitted shift_count unary_result binary_result calls
own_of_main = refl
