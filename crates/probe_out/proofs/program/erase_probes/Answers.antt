use Rattle.std.proofs.Common.{ap, sym, ◌∙◌, subst}
use Rattle.c_syntax.specs.View.{unit_shape}
use Rattle.c_tables.specs.Tables.{tables_shape}
use Rattle.c_tree.specs.Erased.{erased_unit}
use Rattle.c_tree.specs.Programs.{HoldsProgram}
use Rattle.probe_out.proofs.program.erase_probes.Goals as goal

pub from_typed-requires : goal.from_typed-requires
from_typed-requires c =
    let unit = c.in_ok-unit.ensures ∙ ap (λ u. erased_unit (unit_shape u)) c.unit.ensures.unit in
    let tables = c.in_ok-tables.ensures ∙ ap tables_shape c.tables.ensures.tables in
    subst (λ u. ∥ HoldsProgram u (tables_shape c.in_ok-tables.tables) ∥₁) (sym unit) (subst (λ t. ∥ HoldsProgram (erased_unit (unit_shape c.args.program.now.unit)) t ∥₁) (sym tables) c.requires)
