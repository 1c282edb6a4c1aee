use Rattle.std.proofs.Common.{arith, rules, ap}
use Rattle.c_syntax.specs.declared.tree.StmtForm.{the_lemmas}
use Rattle.c_syntax.specs.Levels.{compound_height}
use Rattle.c_syntax.proofs.Open.{compound_open}
use Rattle.c_syntax.proofs.Levels.{switch_levels}
use Rattle.c_syntax.proofs.height.+statement.Goals as goal

pub form_height-items_height-requires : goal.form_height-items_height-requires
form_height-items_height-requires t c =
    let levels = switch_levels c.args.form.now c.in-Switch.test c.in-Switch.items c.in-Switch.is in
    (search (rules, the_lemmas), rw c.deref-in-Switch.ensures.value (omega (arith, levels, c.requires)))

pub compound_height-items_height-requires : goal.compound_height-items_height-requires
compound_height-items_height-requires t c =
    let levels = ap compound_height (compound_open c.args.body.now) in
    (search (rules, the_lemmas), rw c.deref-2.ensures.value (omega (arith, levels, c.requires)))
