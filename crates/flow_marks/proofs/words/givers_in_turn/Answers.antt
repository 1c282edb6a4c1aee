-- The same rows in another order.
use Rattle.flow_marks.proofs.Turned.{all_back, within_back}
use Rattle.flow_marks.proofs.words.givers_in_turn.Goals as goal

pub returns-clause-all : goal.returns-clause-all
returns-clause-all c = all_back c.args.gives.now c.in_ok-rows.rows.items c.reverse.new.self.items c.reverse.ensures.items c.in_ok-rows.ensures.all

pub returns-clause-within : goal.returns-clause-within
returns-clause-within c = within_back c.args.gives.now c.in_ok-rows.rows.items c.reverse.new.self.items c.reverse.ensures.items c.in_ok-rows.ensures.within
