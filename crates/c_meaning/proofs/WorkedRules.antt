-- Worked runs: one for each rule that is easily missed.
use Rattle.std.proofs.Common.{false, ◌≡◌, ℕ, pos, List, [], ◌∷◌, Some, refl}
use Rattle.c_arith.specs.Arith.{pattern, value_of, fitted, shift_count, unary_result, binary_result}
use Rattle.c_syntax.specs.declared.token.Key.{Key}
use Rattle.c_syntax.specs.declared.token.Key.TheVariants as key
use Rattle.c_syntax.specs.declared.tree.BinaryOp.TheVariants as op
use Rattle.c_syntax.specs.declared.tree.UnaryOp.TheVariants as front
use Rattle.c_syntax.specs.Shape.{str, leaf, paren, arrow, up, before, prefix, suffix, field, cast, type_name, assign, comma, two, for, one_node, no_nodes, LengthShapes, no_lengths, more_lengths, no_node, SpecShapes, no_specs, more_specs, word, struct, no_members, members, DeclShape, decl, declarator, no_declarators, arrays, no_init, one_init, one, no_items, break, declared, ExternalShape, listed, MaybeInit, NodeShape, InitShapes, no_inits, more_inits}
use Rattle.c_store.specs.declared.value.Fault.TheVariants.{Null, OutOfBounds, NoResult}
use Rattle.c_meaning.specs.declared.end.End.{End}
use Rattle.c_meaning.specs.declared.end.End.TheVariants as end
use Rattle.c_meaning.specs.Calls.{calls}
use Rattle.c_meaning.specs.Runs.{run}
use Rattle.c_meaning.proofs.Spelled.{a, a_pointer, an_array, an_int, at, bin, call_of, decls, digit, digits, does, dotted, e, f, function_of_none, g, give, ints, letter, main_text, main_with, named, of, of_one, on, p, pre, program, putchar_text, q, s, set, star, v, var, x}

-- what is written, and how a run ends
pub record Ending : Type 0 where
  pub output : List ℕ
  pub turns : ℕ
  pub end : End

abbrev ends : List ExternalShape → Ending
ends es = let o = run (program es) [] 100 in record { output = o.output; turns = o.turns; end = o.end }

-- nothing written, and this status
abbrev gives : ℕ → ℕ → Ending
gives turns status = record { output = []; turns = turns; end = end.Returned (pos status) }

abbrev keyed : Key → SpecShapes
keyed k = more_specs p (word k) no_specs

abbrev length_of : ℕ → LengthShapes → LengthShapes
length_of d rest = more_lengths (one_node (digit d)) rest

abbrev a_row_array : DeclShape
a_row_array = of ints (declarator [] (named a) (arrays (length_of 2 (length_of 3 no_lengths))) no_init)

-- ---- arrays

-- int main(void){int a[2][3];a[2];}: an array that becomes a pointer is selected
selected_at_the_end : ends (main_with (a_row_array ∷ []) (does (at (var a) (digit 2)) no_items) ∷ []) ≡ record { output = []; turns = 11; end = end.Fault OutOfBounds main_text }
unfolding pattern value_of fitted shift_count unary_result binary_result calls
selected_at_the_end = refl

-- int main(void){int a[2][3];&a[2];}: its address may be taken
address_at_the_end : ends (main_with (a_row_array ∷ []) (does (pre front.AddressOf (at (var a) (digit 2))) no_items) ∷ []) ≡ gives 12 0
unfolding pattern value_of fitted shift_count unary_result binary_result calls
address_at_the_end = refl

-- int main(void){int a[2];a[1]=7;return 1[a];}
index_in_front : ends (main_with (an_array a (digit 2) ∷ []) (does (set (at (var a) (digit 1)) (digit 7)) (give (at (digit 1) (var a)))) ∷ []) ≡ gives 13 7
unfolding pattern value_of fitted shift_count unary_result binary_result calls
index_in_front = refl

-- char*q="ab";int main(void){return*++q-"ba"[1];}
strings : ends (declared (of (keyed key.Char) (declarator (star ∷ []) (named q) (arrays no_lengths) (one_init (one (e (leaf (str (97 ∷ 98 ∷ []))))))))
    ∷ main_with [] (give (bin op.Sub (pre front.Deref (e (prefix (before up) (var q)))) (at (e (leaf (str (98 ∷ 97 ∷ [])))) (digit 1)))) ∷ []) ≡ gives 9 1
unfolding pattern value_of fitted shift_count unary_result binary_result calls
strings = refl

-- int main(void){int a[3];return&a[2]-a;}
distance : ends (main_with (an_array a (digit 3) ∷ []) (give (bin op.Sub (pre front.AddressOf (at (var a) (digit 2))) (var a))) ∷ []) ≡ gives 11 2
unfolding pattern value_of fitted shift_count unary_result binary_result calls
distance = refl

-- ---- structures

abbrev s_text : List ℕ
s_text = letter 18

-- struct s{int f;int g[2];};
abbrev s_struct : ExternalShape
s_struct = declared (decl p (more_specs p (struct (named s_text) (members (decls (an_int f ∷ an_array g (digit 2) ∷ [])))) no_specs) no_declarators)

abbrev of_s : SpecShapes
of_s = more_specs p (struct (named s_text) no_members) no_specs

abbrev v_of_s : DeclShape
v_of_s = of of_s (declarator [] (named v) (arrays no_lengths) no_init)

abbrev q_to_s : DeclShape
q_to_s = of of_s (declarator (star ∷ []) (named q) (arrays no_lengths) (one_init (one (digit 0))))

-- struct s{int f;int g[2];};int main(void){struct s v;v.g[1]=5;return(1,v).g[1];}: a comma is the place that its right side is
place_behind_comma : ends (s_struct ∷ main_with (v_of_s ∷ []) (does (set (at (dotted (var v) g) (digit 1)) (digit 5)) (give (at (dotted (e (paren (e (two comma (digit 1) (var v))))) g) (digit 1)))) ∷ []) ≡ gives 18 5
unfolding pattern value_of fitted shift_count unary_result binary_result calls
place_behind_comma = refl

-- struct s{int f;int g[2];};int main(void){struct s v;v;}: a structure is not read
structure_not_read : ends (s_struct ∷ main_with (v_of_s ∷ []) (does (var v) no_items) ∷ []) ≡ gives 6 0
unfolding pattern value_of fitted shift_count unary_result binary_result calls
structure_not_read = refl

-- struct s{int f;int g[2];};int main(void){struct s*q=0;return q->f;}
field_of_null : ends (s_struct ∷ main_with (q_to_s ∷ []) (give (e (suffix (var q) (field arrow f p)))) ∷ []) ≡ record { output = []; turns = 6; end = end.Fault Null main_text }
unfolding pattern value_of fitted shift_count unary_result binary_result calls
field_of_null = refl

-- ---- results that are not used

-- int f(void){}int main(void){(void)f();for(f();;f())break;}
not_used : ends (function_of_none f [] no_items ∷ main_with [] (does (e (cast (type_name p (keyed key.Void) [] no_lengths) (call_of f no_nodes))) (on (for (one_node (call_of f no_nodes)) no_node (one_node (call_of f no_nodes)) (s break)) no_items)) ∷ [])
    ≡ gives 9 0
unfolding pattern value_of fitted shift_count unary_result binary_result calls
not_used = refl

-- int f(void){}int main(void){return f()+1/0;}: it is missed before anything to its right is evaluated
missed_first : ends (function_of_none f [] no_items ∷ main_with [] (give (bin op.Add (call_of f no_nodes) (bin op.Div (digit 1) (digit 0)))) ∷ []) ≡ record { output = []; turns = 5; end = end.Fault NoResult main_text }
unfolding pattern value_of fitted shift_count unary_result binary_result calls
missed_first = refl

-- ---- numbers

-- int main(void){return putchar(-1);}
put_modulo_256 : ends (main_with [] (give (call_of putchar_text (of_one (pre front.Minus (digit 1))))) ∷ []) ≡ record { output = 255 ∷ []; turns = 5; end = end.Returned (pos 255) }
unfolding pattern value_of fitted shift_count unary_result binary_result calls
put_modulo_256 = refl

-- int main(void){return-1<0u;}: the usual conversions
usual_conversions : ends (main_with [] (give (bin op.Lt (pre front.Minus (digit 1)) (digits (48 ∷ 117 ∷ [])))) ∷ []) ≡ gives 6 0
unfolding pattern value_of fitted shift_count unary_result binary_result calls
usual_conversions = refl

-- int main(void){unsigned char x=5;x-=6;return x;}: a narrower object wraps
narrow_object : ends (main_with (of (more_specs p (word key.Unsigned) (keyed key.Char)) (declarator [] (named x) (arrays no_lengths) (one_init (one (digit 5)))) ∷ [])
    (does (e (two (assign (Some op.Sub)) (var x) (digit 6))) (give (var x))) ∷ []) ≡ gives 9 255
unfolding pattern value_of fitted shift_count unary_result binary_result calls
narrow_object = refl

-- ---- initialisers of file scope

abbrev list_of : InitShapes → MaybeInit
list_of items = one_init (listed p items false)

abbrev item : NodeShape → InitShapes → InitShapes
item l rest = more_inits (one l) rest

abbrev text : List ℕ → NodeShape
text t = e (leaf (str t))

-- struct s{int f;int g[2];};struct s v={1,{2}};int*q=&v.g[1];int main(void){*q=v.f+v.g[0];return v.g[1];}
nested_list : ends (s_struct
    ∷ declared (of of_s (declarator [] (named v) (arrays no_lengths) (list_of (item (digit 1) (more_inits (listed p (item (digit 2) no_inits) false) no_inits)))))
    ∷ declared (a_pointer q (one_init (one (pre front.AddressOf (at (dotted (var v) g) (digit 1))))))
    ∷ main_with [] (does (set (pre front.Deref (var q)) (bin op.Add (dotted (var v) f) (at (dotted (var v) g) (digit 0)))) (give (at (dotted (var v) g) (digit 1)))) ∷ []) ≡ gives 17 3
unfolding pattern value_of fitted shift_count unary_result binary_result calls
nested_list = refl

abbrev char_rows : DeclShape
char_rows = of (keyed key.Char) (declarator [] (named a) (arrays (length_of 2 (length_of 2 no_lengths))) (list_of (item (text (98 ∷ 97 ∷ [])) (item (text (99 ∷ [])) no_inits))))

-- char a[2][2]={"ba","c"};int main(void){return a[0][1]+a[1][1];}: a string may leave out its zero, and what it leaves out is zero
strings_in_a_list : ends (declared char_rows ∷ main_with [] (give (bin op.Add (at (at (var a) (digit 0)) (digit 1)) (at (at (var a) (digit 1)) (digit 1)))) ∷ []) ≡ gives 13 97
unfolding pattern value_of fitted shift_count unary_result binary_result calls
strings_in_a_list = refl
