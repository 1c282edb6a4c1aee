use Rattle.std.proofs.Common.{◌≡◌, ◌≤◌, ◌++◌, List, map, length}
use Rattle.c_events.specs.declared.events.Event.{Event}
use Rattle.c_syntax.specs.View.{note_shape, node_list, type_of}
use Rattle.c_tables.specs.Tables.{tables_shape}
use Rattle.c_meaning.specs.Results.{then_do}
use Rattle.c_meaning.specs.Knot.{Knot}
use Rattle.c_meaning.specs.Builtins.{called}
use Rattle.c_meaning.specs.Expressions.{arguments}
use Rattle.c_meaning.specs.Firsts.{quiet}
use Rattle.c_world.specs.World.{state_of}
use Rattle.c_eval.specs.Rest.{left, to_value}
use Rattle.c_eval_once.specs.Forms.{Kept}
use Rattle.c_eval.proofs.work.Work.arguments.Given as goal

abbrev pub decreases-loop-first : goal.decreases-loop-first
decreases-loop-first l = length l.others

abbrev pub invariant-loop-first : goal.invariant-loop-first
invariant-loop-first l = (l.self.stack.items ≡ l.fn.self.stack.items) × ((k : Knot) (h : List Event) → then_do (then_do (arguments (tables_shape l.fn.tables) k (node_list l.others) (map type_of l.kinds) (quiet 0) (state_of l.world h)) (λ vs. called (tables_shape l.fn.tables) k (note_shape l.fn.node.note) (l.done.items ++ vs))) (to_value (left (tables_shape l.fn.tables) k l.fn.self)) ≡ then_do (then_do (arguments (tables_shape l.fn.tables) k (node_list l.fn.others) (map type_of l.fn.kinds) (quiet 0) (state_of l.fn.world h)) (λ vs. called (tables_shape l.fn.tables) k (note_shape l.fn.node.note) (l.fn.done.items ++ vs))) (to_value (left (tables_shape l.fn.tables) k l.fn.self))) × (l.world.turns ≤ l.fn.world.turns) × Kept l.fn.world l.world
