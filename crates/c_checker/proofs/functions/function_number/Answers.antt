use Rattle.std.proofs.Common.{◌≡◌, ◌+◌, ◌-◌, ◌&&◌, Bool, true, false, refl, List, map, Some, None, ap, sym, ◌∙◌, arith, rules}
use Rattle.c_syntax.specs.Shape.{TypeOf}
use Rattle.c_syntax.specs.View.{type_of}
use Rattle.c_syntax.specs.declared.text.Text.{Text}
use Rattle.c_tree.specs.State.{is_function}
use Rattle.c_tables.specs.Rows.{has_name}
use Rattle.c_tables.specs.Tables.{FunctionShape, function_shape}
use Rattle.c_checker.proofs.Numbering.{number_here, number_next, number_passed, number_counted, number_none}
use Rattle.c_checker.proofs.functions.function_number.Goals as goal

left : (a b : Bool) → (a && b) ≡ true → a ≡ true
left true b e = refl
left false b e = e

named : (x : Text) (k : TypeOf) (ks : List TypeOf) (f : FunctionShape) → is_function x k ks f ≡ true → has_name x f ≡ true
named x k ks f e = left _ _ e

pub returns-in_default : goal.returns-in_default
returns-in_default c = sym (number_none _ (has_name c.args.name.now) (named c.args.name.now _ _) 1 _ (sym c.first_named.ensures ∙ c.in_default.is))

pub loop-i-init : goal.loop-i-init
loop-i-init c =
    let rows = map function_shape c.args.tables.now.functions.items in
    let test = is_function c.args.name.now (type_of c.args.gives.now) (map type_of c.args.params.now) in
    let first = sym c.first_named.ensures ∙ c.in-Some.is in
    let counted = number_counted test (has_name c.args.name.now) (named c.args.name.now _ _) 1 c.in-Some.first rows first in
    let here : c.saturating_sub-i.result + 1 ≡ c.in-Some.first = omega (arith, counted, c.saturating_sub-i.ensures) in
    rw (here, c.saturating_sub-i.ensures) (number_passed test (has_name c.args.name.now) (named c.args.name.now _ _) 1 c.in-Some.first rows first)

pub returns-then-is_function : goal.returns-then-is_function
returns-then-is_function c =
    sym (number_here _ _ c.loop-i.i _ _ _ c.function.ensures (omega arith) (sym c.is_function.ensures ∙ c.if-is_function.true)) ∙ c.loop-i.invariant

pub loop-i-preserved : goal.loop-i-preserved
loop-i-preserved c =
    sym (number_next _ _ c.loop-i.i _ _ _ c.function.ensures (omega arith) (sym c.is_function.ensures ∙ c.if-is_function.false)) ∙ c.loop-i.invariant
