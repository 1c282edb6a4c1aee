use Rattle.std.proofs.Common.{◌+◌, ◌-◌, refl, arith}
use Rattle.c_syntax.specs.declared.text.Text.{Text}
use Rattle.c_tables.specs.Tables.{tables_shape}
use Rattle.c_copy_tables.proofs.Copied.{Listed, one_more}
use Rattle.c_copy_tables.proofs.tables.copy_literals.Goals as goal

abbrev literals : Listed Text
literals = record { list = λ t. t.literals; with = λ rows t. record t { literals = rows }; has = λ rows t. refl; last = λ rows before t. refl }

pub loop-i-preserved : goal.loop-i-preserved
loop-i-preserved c =
    one_more literals (tables_shape c.args.into.now) (tables_shape c.loop-i.into) (tables_shape c.push_literal.new.self) (tables_shape c.args.from.now).literals c.loop-i.i (c.loop-i.i + 1 - 1) _ _ c.loop-i.invariant c.in_ok-push_literal.ensures.ok c.literal.ensures (omega arith) c.in_ok-bytes.ensures
