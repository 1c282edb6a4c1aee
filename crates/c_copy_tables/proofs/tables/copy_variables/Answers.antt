use Rattle.std.proofs.Common.{◌+◌, ◌-◌, refl, arith}
use Rattle.c_tables.specs.Tables.{VariableShape, tables_shape}
use Rattle.c_copy_tables.proofs.Copied.{Listed, one_more}
use Rattle.c_copy_tables.proofs.tables.copy_variables.Goals as goal

abbrev variables : Listed VariableShape
variables = record { list = λ t. t.variables; with = λ rows t. record t { variables = rows }; has = λ rows t. refl; last = λ rows before t. refl }

pub loop-i-preserved : goal.loop-i-preserved
loop-i-preserved c =
    one_more variables (tables_shape c.args.into.now) (tables_shape c.loop-i.into) (tables_shape c.push_variable.new.self) (tables_shape c.args.from.now).variables c.loop-i.i (c.loop-i.i + 1 - 1) _ _ c.loop-i.invariant c.in_ok-push_variable.ensures.ok c.variable.ensures (omega arith) c.in_ok-row.ensures
