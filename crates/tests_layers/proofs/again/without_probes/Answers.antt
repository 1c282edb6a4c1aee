-- What is left of the probes is the program, which holds what a program holds.
use Rattle.std.proofs.Common.{sym, ap, subst}
use Rattle.c_syntax.specs.View.{unit_shape}
use Rattle.c_tables.specs.Tables.{tables_shape}
use Rattle.c_tree.specs.Programs.{HoldsProgram}
use Rattle.c_meaning.specs.Calls.{Source}
use Rattle.tests_layers.proofs.again.without_probes.Goals as goal

pub erase_probes-requires : goal.erase_probes-requires
erase_probes-requires c =
    let t = ap (λ (s : Source). s.tables) c.in_ok-probed.ensures.program in
    subst (λ u. ∥ HoldsProgram u (tables_shape c.in_ok-probed.probed.tables) ∥₁) (sym c.in_ok-probed.ensures.erased)
    (subst (λ x. ∥ HoldsProgram (unit_shape c.args.program.now.unit) x ∥₁) (sym t) c.args.program.now.typed)
