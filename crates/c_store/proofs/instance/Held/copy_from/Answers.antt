use Rattle.std.proofs.Common.{◌∙◌}
use Rattle.c_store.specs.Held.{cells_in}
use Rattle.c_store.proofs.Copied.{part_of_one}
use Rattle.c_store.proofs.instance.Held.copy_from.Goals as goal

pub returns-then-size-eq1 : goal.returns-then-size-eq1
returns-then-size-eq1 c = c.put.ensures ∙ part_of_one (cells_in c.args.from.now) (cells_in c.args.self.now) c.args.start c.args.dest c.args.size c.get.result c.if-size-eq1.true c.requires.first c.requires.at c.get.ensures
