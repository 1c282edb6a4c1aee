use Rattle.std.proofs.Common.{refl}
use Rattle.c_syntax.specs.View.{maybe_init}
use Rattle.c_tables.specs.Tables.{tables_shape}
use Rattle.flow_rows.proofs.Declared.{variable_placed}
use Rattle.flow_rows.proofs.declarations.lay_variable.Goals as goal

pub returns : goal.returns
returns c x =
    variable_placed (tables_shape c.args.tables.now) x _ _ _ _ _ _ _ c.variable.new.self.variables c.args.at c.in_ok-inner.inner c.args.to (maybe_init c.args.init.now)
    c.in_ok-inner.ensures.grown c.in_ok-fill.ensures.grown c.in_ok-fill.ensures.laid refl c.in_ok-variable.ensures (c.in_ok-lay_maybe_init.ensures x)
