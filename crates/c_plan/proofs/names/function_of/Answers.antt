use Rattle.std.proofs.Common.{◌≡◌, ◌+◌, ◌-◌, drop, sym, ◌∙◌, ap, arith}
use Rattle.c_tables.specs.Rows.{number_from}
use Rattle.c_tables.specs.Tables.{tables_shape}
use Rattle.c_walk.specs.Units.{has_body, number_or}
use Rattle.c_walk.proofs.Numbering.{number_here, number_next}
use Rattle.c_plan.proofs.NamedRoutines.{no_body, from_named}
use Rattle.c_plan.proofs.names.function_of.Goals as goal

pub returns-in_default : goal.returns-in_default
returns-in_default c = sym (ap number_or (no_body c.args.name.now 1 (tables_shape c.args.tables.now).functions (sym c.first_named.ensures ∙ c.in_default.is)))

pub overflow_step-i : goal.overflow_step-i
overflow_step-i c = (from_named c.args.name.now 1 c.in-Some.first (tables_shape c.args.tables.now).functions (sym c.first_named.ensures ∙ c.in-Some.is)).least

pub loop-i-init : goal.loop-i-init
loop-i-init c =
    let from = from_named c.args.name.now 1 c.in-Some.first (tables_shape c.args.tables.now).functions (sym c.first_named.ensures ∙ c.in-Some.is) in
    let k : (c.in-Some.first - 1) + 1 ≡ c.in-Some.first = omega (arith, from.least) in
    ap (λ n. number_from (has_body c.args.name.now) n (drop (c.in-Some.first - 1) (tables_shape c.args.tables.now).functions)) k ∙ sym from.same

pub returns-then-has_body : goal.returns-then-has_body
returns-then-has_body c =
    ap number_or (sym (number_here _ _ c.loop-i.i _ _ _ c.function.ensures (omega arith) (sym c.has_body.ensures ∙ c.if-has_body.true)) ∙ c.loop-i.invariant)

pub loop-i-preserved : goal.loop-i-preserved
loop-i-preserved c =
    sym (number_next _ _ c.loop-i.i _ _ _ c.function.ensures (omega arith) (sym c.has_body.ensures ∙ c.if-has_body.false)) ∙ c.loop-i.invariant
