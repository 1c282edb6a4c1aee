use Rattle.std.proofs.Common.{◌≡◌, ◌≤◌, true}
use Rattle.c_syntax.specs.View.{node_shape}
use Rattle.c_tables.specs.Tables.{TablesShape}
use Rattle.c_walk.specs.declared.around.Taken.{Taken}
use Rattle.c_meaning.specs.State.{State}
use Rattle.c_meaning.specs.Firsts.{First}
use Rattle.c_meaning.specs.Knot.{Knot}
use Rattle.c_meaning.specs.Expressions.{meaning}
use Rattle.c_eval_direct.specs.Direct.{is_direct_place, parts}
use Rattle.c_eval_direct.proofs.parts.behind_probes.Given as goal

abbrev pub invariant-loop-inner : goal.invariant-loop-inner
invariant-loop-inner l = ((t : TablesShape) (k : Knot) (r : Taken) (i : First) (s : State) → (meaning t k (node_shape l.fn.node)).place r i s ≡ (meaning t k (node_shape l.inner)).place r i s) × (is_direct_place l.inner.note l.inner.form ≡ true) × (parts l.inner.form ≤ parts l.fn.node.form)
