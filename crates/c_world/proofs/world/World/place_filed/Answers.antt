use Rattle.std.proofs.Common.{replicate, None, subst}
use Rattle.c_tables.specs.declared.tables.Tables as tables
use Rattle.c_tables.specs.Tables.{tables_shape}
use Rattle.c_compute.specs.Sizes.{IsMeasured}
use Rattle.c_world.proofs.Made.{filed_on}
use Rattle.c_world.proofs.world.World.place_filed.Goals as goal

pub invariant_of-self-in-Ok : goal.invariant_of-self-in-Ok
invariant_of-self-in-Ok c =
    let g = filed_on c.args.self.now.names c.bind_file.new.self c.args.self.now.store c.make.new.self (replicate c.in_ok-count.count None) c.args.variable c.in-Ok.instance c.args.self.now.last c.bind_file.result c.args.self.now.living c.args.self.now.most c.args.self.now.active c.in-Ok.ensures.is.0 c.in-Ok.ensures.is.1 c.bind_file.ensures.bound c.bind_file.ensures.kept in
    record {
      living = g.living;
      counted = g.counted;
      most = g.most;
      active = g.active;
      within = c.args.self.now.within;
      limited = c.args.self.now.limited;
      routed = c.args.self.now.routed;
      measured = subst (λ (t : tables.Tables). IsMeasured (tables_shape t) c.variable_cells.new.sizes.items) c.tables.ensures.tables c.variable_cells.ensures.measured;
    }
