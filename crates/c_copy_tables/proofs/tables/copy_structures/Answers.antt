use Rattle.std.proofs.Common.{◌+◌, ◌-◌, refl, arith}
use Rattle.c_tables.specs.Tables.{StructShape, tables_shape}
use Rattle.c_copy_tables.proofs.Copied.{Listed, one_more}
use Rattle.c_copy_tables.proofs.tables.copy_structures.Goals as goal

abbrev structures : Listed StructShape
structures = record { list = λ t. t.structures; with = λ rows t. record t { structures = rows }; has = λ rows t. refl; last = λ rows before t. refl }

pub loop-i-preserved : goal.loop-i-preserved
loop-i-preserved c =
    one_more structures (tables_shape c.args.into.now) (tables_shape c.loop-i.into) (tables_shape c.push_structure.new.self) (tables_shape c.args.from.now).structures c.loop-i.i (c.loop-i.i + 1 - 1) _ _ c.loop-i.invariant c.in_ok-push_structure.ensures.ok c.structure.ensures (omega arith) c.in_ok-row.ensures
