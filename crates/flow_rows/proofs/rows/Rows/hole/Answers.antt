use Rattle.flow_rows.specs.View.{rows_of}
use Rattle.flow_rows.proofs.Growth.{push_none}
use Rattle.flow_rows.proofs.rows.Rows.hole.Goals as goal

pub returns : goal.returns
returns c = record { grown = push_none (rows_of c.args.self.now) (rows_of c.push.new.self) _ c.new.ensures.items c.in_ok-number.ensures.row }
