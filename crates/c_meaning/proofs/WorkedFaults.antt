-- Worked runs: one of each fault (C89, 2.1.1.3 leaves them undefined), and the other ends.
use Rattle.std.proofs.Common.{◌≡◌, ℕ, pos, List, [], ◌∷◌, refl}
use Rattle.c_arith.specs.Arith.{pattern, value_of, fitted, shift_count, unary_result, binary_result}
use Rattle.c_syntax.specs.declared.tree.BinaryOp.TheVariants as op
use Rattle.c_syntax.specs.declared.tree.UnaryOp.TheVariants as front
use Rattle.c_syntax.specs.Shape.{str, leaf, no_nodes, compound, braces, no_init, one_init, one, no_items, ExternalShape}
use Rattle.c_store.specs.declared.value.Fault.{Fault}
use Rattle.c_store.specs.declared.value.Fault.TheVariants.{DivideByZero, Overflow, ShiftCount, Null, Dangling, OutOfBounds, Uninitialised, OtherArray, WriteLiteral, NoResult}
use Rattle.c_meaning.specs.declared.end.End.{End}
use Rattle.c_meaning.specs.declared.end.End.TheVariants as end
use Rattle.c_meaning.specs.Calls.{calls}
use Rattle.c_meaning.specs.Runs.{Outcome, run}
use Rattle.c_meaning.proofs.Spelled.{p, a, b, f, q, x, main_text, exit_text, e, digit, digits, var, set, bin, pre, at, call_of, of_one, on, does, give, an_int, an_int_of, an_array, a_pointer, decls, function_of_none, function_of_int, main_with, program}

-- how a run ends, and behind how many turns
pub record Ending : Type 0 where
  pub turns : ℕ
  pub end : End

abbrev ending : Outcome → Ending
ending o = record { turns = o.turns; end = o.end }

abbrev ends : List ExternalShape → ℕ → Ending
ends es limit = ending (run (program es) [] limit)

abbrev in_main : Fault → ℕ → Ending
in_main fault turns = record { turns = turns; end = end.Fault fault main_text }

-- int main(void){int x=2147483647;x=x+1;return x;}
overflow : ends (main_with (an_int_of x (digits (50 ∷ 49 ∷ 52 ∷ 55 ∷ 52 ∷ 56 ∷ 51 ∷ 54 ∷ 52 ∷ 55 ∷ [])) ∷ []) (does (set (var x) (bin op.Add (var x) (digit 1))) (give (var x))) ∷ []) 100
    ≡ in_main Overflow 9
unfolding pattern value_of fitted shift_count unary_result binary_result calls
overflow = refl

-- int main(void){int x=0;return 1/x;}
divide_by_zero : ends (main_with (an_int_of x (digit 0) ∷ []) (give (bin op.Div (digit 1) (var x))) ∷ []) 100 ≡ in_main DivideByZero 7
unfolding pattern value_of fitted shift_count unary_result binary_result calls
divide_by_zero = refl

-- int main(void){return 1<<32;}
shift_too_far : ends (main_with [] (give (bin op.Shl (digit 1) (digits (51 ∷ 50 ∷ [])))) ∷ []) 100 ≡ in_main ShiftCount 5
unfolding pattern value_of fitted shift_count unary_result binary_result calls
shift_too_far = refl

-- int main(void){int a[2];return a[2];}
out_of_bounds : ends (main_with (an_array a (digit 2) ∷ []) (give (at (var a) (digit 2))) ∷ []) 100 ≡ in_main OutOfBounds 7
unfolding pattern value_of fitted shift_count unary_result binary_result calls
out_of_bounds = refl

-- int main(void){int*q=0;return*q;}
null_used : ends (main_with (a_pointer q (one_init (one (digit 0))) ∷ []) (give (pre front.Deref (var q))) ∷ []) 100 ≡ in_main Null 6
unfolding pattern value_of fitted shift_count unary_result binary_result calls
null_used = refl

-- int main(void){int*q;{int x;q=&x;}return*q;}
dangling : ends (main_with (a_pointer q no_init ∷ []) (on (compound (braces p (decls (an_int x ∷ [])) (does (set (var q) (pre front.AddressOf (var x))) no_items))) (give (pre front.Deref (var q)))) ∷ []) 100
    ≡ in_main Dangling 12
unfolding pattern value_of fitted shift_count unary_result binary_result calls
dangling = refl

-- int main(void){int x;return x;}
uninitialised : ends (main_with (an_int x ∷ []) (give (var x)) ∷ []) 100 ≡ in_main Uninitialised 4
unfolding pattern value_of fitted shift_count unary_result binary_result calls
uninitialised = refl

-- int main(void){int a;int b;return&a<&b;}
other_array : ends (main_with (an_int a ∷ an_int b ∷ []) (give (bin op.Lt (pre front.AddressOf (var a)) (pre front.AddressOf (var b)))) ∷ []) 100 ≡ in_main OtherArray 9
unfolding pattern value_of fitted shift_count unary_result binary_result calls
other_array = refl

-- int main(void){*"a"=1;}
write_literal : ends (main_with [] (does (set (pre front.Deref (e (leaf (str (97 ∷ []))))) (digit 1)) no_items) ∷ []) 100 ≡ in_main WriteLiteral 6
unfolding pattern value_of fitted shift_count unary_result binary_result calls
write_literal = refl

-- int f(void){}int main(void){return f();}: the value is missed in main
no_result : ends (function_of_none f [] no_items ∷ main_with [] (give (call_of f no_nodes)) ∷ []) 100 ≡ in_main NoResult 4
unfolding pattern value_of fitted shift_count unary_result binary_result calls
no_result = refl

-- int f(void){}int main(void){f();}: nothing is missed
result_not_used : ends (function_of_none f [] no_items ∷ main_with [] (does (call_of f no_nodes) no_items) ∷ []) 100 ≡ record { turns = 4; end = end.Returned (pos 0) }
unfolding pattern value_of fitted shift_count unary_result binary_result calls
result_not_used = refl

-- int f(int x){return 1/x;}int main(void){return f(0);}
fault_in_function : ends (function_of_int f x [] (give (bin op.Div (digit 1) (var x))) ∷ main_with [] (give (call_of f (of_one (digit 0)))) ∷ []) 100
    ≡ record { turns = 9; end = end.Fault DivideByZero f }
unfolding pattern value_of fitted shift_count unary_result binary_result calls
fault_in_function = refl

-- int f(int x){exit(x);}int main(void){f(3);}
exits_inside : ends (function_of_int f x [] (does (call_of exit_text (of_one (var x))) no_items) ∷ main_with [] (does (call_of f (of_one (digit 3))) no_items) ∷ []) 100
    ≡ record { turns = 8; end = end.Exited (pos 3) }
unfolding pattern value_of fitted shift_count unary_result binary_result calls
exits_inside = refl
