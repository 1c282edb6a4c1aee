use Rattle.std.proofs.Common.{◌≡◌, ◌+◌, suc, length, arith}
use Rattle.c_syntax.specs.View.{type_of}
use Rattle.c_tables.specs.Tables.{tables_shape}
use Rattle.c_compute.proofs.Sizes.{cells_counted}
use Rattle.c_compute.proofs.layout.cells.Goals as goal

pub returns : goal.returns
returns c =
    let deep : c.from.result + 1 ≡ suc (length (tables_shape c.args.tables.now).structures) = omega (arith, c.from.ensures, c.structures.ensures) in
    cells_counted (tables_shape c.args.tables.now) (type_of c.args.kind.now) (c.from.result + 1) c.scalar_count.result deep c.scalar_count.ensures
