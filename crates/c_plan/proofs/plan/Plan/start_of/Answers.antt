use Rattle.std.proofs.Common.{arith}
use Rattle.c_plan.specs.Routines.{routine_of}
use Rattle.c_meaning.specs.Sources.{source_of}
use Rattle.c_plan.proofs.Planned.{found, within}
use Rattle.c_plan.proofs.plan.Plan.start_of.Goals as goal

pub index-requires : goal.index-requires
index-requires c = omega (arith, (c.args.self.now.planned c.args.function (routine_of c.args.called.now) c.requires).0, c.args.self.now.starts.ok.0)

pub returns-clause-start : goal.returns-clause-start
returns-clause-start c = found (source_of c.args.self.now.program.now) c.args.self.now.starts.items c.args.self.now.extents.items c.args.function (routine_of c.args.called.now) c.index.result.now c.args.self.now.planned c.requires c.index.ensures

pub returns-clause-within : goal.returns-clause-within
returns-clause-within c = within (routine_of c.args.called.now) c.index.result.now c.args.self.now.extents.items (found (source_of c.args.self.now.program.now) c.args.self.now.starts.items c.args.self.now.extents.items c.args.function (routine_of c.args.called.now) c.index.result.now c.args.self.now.planned c.requires c.index.ensures)
