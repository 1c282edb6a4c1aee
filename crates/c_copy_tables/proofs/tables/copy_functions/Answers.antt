use Rattle.std.proofs.Common.{◌+◌, ◌-◌, refl, arith}
use Rattle.c_tables.specs.Tables.{FunctionShape, tables_shape}
use Rattle.c_copy_tables.proofs.Copied.{Listed, one_more}
use Rattle.c_copy_tables.proofs.tables.copy_functions.Goals as goal

abbrev functions : Listed FunctionShape
functions = record { list = λ t. t.functions; with = λ rows t. record t { functions = rows }; has = λ rows t. refl; last = λ rows before t. refl }

pub loop-i-preserved : goal.loop-i-preserved
loop-i-preserved c =
    one_more functions (tables_shape c.args.into.now) (tables_shape c.loop-i.into) (tables_shape c.push_function.new.self) (tables_shape c.args.from.now).functions c.loop-i.i (c.loop-i.i + 1 - 1) _ _ c.loop-i.invariant c.in_ok-push_function.ensures.ok c.function.ensures (omega arith) c.in_ok-row.ensures
