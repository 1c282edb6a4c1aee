-- Names are known behind labels as before them.
use Rattle.std.proofs.Common.{ℕ, ℤ, List, [], ◌∷◌, false, Option, Some, None}
use Rattle.std.specs.Prelude.{not}
use Rattle.c_base.specs.declared.place.Pos.{Pos}
use Rattle.c_syntax.specs.Shape.{LabelShape, case, default}
use Rattle.c_syntax.specs.Shaped.{ShapedLabels}
use Rattle.c_constants.specs.Constants as constants
use Rattle.c_tree.specs.State.{State, step, steps}
use Rattle.c_tree.specs.Rulings.{rule}
use Rattle.c_tree.specs.Sorts.{pos_in}
use Rattle.c_tree.specs.Operators.{constant_rule}
use Rattle.c_tree.specs.Typing.{type_node}
use Rattle.c_tree.specs.Stating.{Labels, case_state, default_state, case_labels, default_labels, type_labels}
use Rattle.c_tree.proofs.Grows.{rule_grows}
use Rattle.c_tree.proofs.GrowsUnits.{case_grows, labels_grow}
use Rattle.probe_laws.proofs.Settled.{IsClean}
use Rattle.probe_laws.proofs.Rules.{back}
use Rattle.probe_laws.proofs.Known.{Knows, Goes, stays, ◌▹◌, rule_goes, demand_goes}
use Rattle.probe_laws.proofs.KnownNodes.{node_knows}

case_goes : (token : ℕ) (p : Pos) (o : Option Labels) (v : Option ℤ) (s : State) → Knows false s → Goes false s (case_state token p o v s)
case_goes token p None v s h = stays s h
case_goes token p (Some l) v s h = demand_goes _ 36 token p s h

default_goes : (token : ℕ) (p : Pos) (o : Option Labels) (s : State) → Knows false s → Goes false s (default_state token p o s)
default_goes token p None s h = stays s h
default_goes token p (Some l) s h = demand_goes (not l.default) 36 token p s h

pub labels_go : (o : Option Labels) (ls : List LabelShape) (s : State) → ShapedLabels ls → Knows false s → IsClean (type_labels o ls s).state → Goes false s (type_labels o ls s).state
labels_go o [] s is h c = stays s h
labels_go o (case p a ∷ rest) s is h c =
    let t = type_node a (step s) in
    let v = constants.value t.sort.constant in
    let r = constant_rule t.sort in
    let u = rule r (step s).at (pos_in a) t.state in
    let w = case_state s.at p o v u in
    let late = back (labels_grow (case_labels o v) rest (step w)) c in
    let one = (node_knows a (step s) is.1 h (back (rule_grows r (step s).at (pos_in a) t.state) (back (case_grows s.at p o v u) late))).1 in
    let two = rule_goes r (step s).at (pos_in a) t.state one.0 in
    let three = case_goes s.at p o v u two.0 in
    one ▹ two ▹ three ▹ labels_go (case_labels o v) rest (step w) is.2 three.0 c
labels_go o (default p ∷ rest) s is h c =
    let one = default_goes s.at p o s h in
    one ▹ labels_go (default_labels o) rest (steps 2 (default_state s.at p o s)) is one.0 c
