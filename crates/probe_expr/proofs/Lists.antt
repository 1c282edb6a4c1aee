-- Lists of nodes that are made from their fronts.
use Rattle.std.proofs.Common.{◌≡◌, ℕ, ◌+◌, ◌<◌, ℤ, refl, List, [], ◌∷◌, ◌++◌, length, get_or, drop, ap, sym, ◌∙◌}
use Rattle.std.proofs.lemmas.List.{drop_more}
use Rattle.c_base.specs.declared.place.Pos.{Pos}
use Rattle.c_syntax.specs.declared.tree.Node.{Node}
use Rattle.c_syntax.specs.Shape.{NodeShape, NodeShapes, no_nodes, more_nodes}
use Rattle.c_syntax.specs.View.{node_shape, node_list}
use Rattle.c_walk.specs.declared.around.Around.{Around}
use Rattle.c_walk.specs.declared.around.Taken.TheVariants.{Read}
use Rattle.c_walk.specs.Walked.{Walked}
use Rattle.c_walk.specs.Walking.{walk_node, walk_nodes}
use Rattle.probe_rules.specs.Marks.{constant_at, constants_at}
use Rattle.probe_rules.specs.ProbedExpressions.{probed_node, probed_nodes}
use Rattle.probe_expr.specs.declared.numbers.Numbers.{Numbers}
use Rattle.probe_expr.specs.Numbers.{counts}
use Rattle.probe_expr.proofs.Listing.{Listing, SoFar}

-- the nodes in front of those shapes
abbrev pub nodes_onto : List Node → NodeShapes → NodeShapes
nodes_onto [] rest = rest
nodes_onto (n ∷ ns) rest = more_nodes (node_shape n) (nodes_onto ns rest)

pub onto_push : (ns : List Node) (n : Node) (rest : NodeShapes) → nodes_onto (ns ++ n ∷ []) rest ≡ nodes_onto ns (more_nodes (node_shape n) rest)
onto_push [] n rest = refl
onto_push (m ∷ ns) n rest = ap (more_nodes (node_shape m)) (onto_push ns n rest)

pub onto_none : (ns : List Node) → nodes_onto ns no_nodes ≡ node_list ns
onto_none [] = refl
onto_none (n ∷ ns) = ap (more_nodes (node_shape n)) (onto_none ns)

-- one constant more
pub constant_onto : (ns ms : List Node) (n : Node) (p o : Pos) (vs : List ℤ) (i : ℕ) (d z : ℤ) (all : NodeShapes) → ms ≡ ns ++ n ∷ [] → i < length vs → node_shape n ≡ constant_at p o z → z ≡ get_or vs i d → nodes_onto ns (constants_at p o (drop i vs)) ≡ all → nodes_onto ms (constants_at p o (drop (i + 1) vs)) ≡ all
constant_onto ns ms n p o vs i d z all put less made is before =
    let rest = constants_at p o (drop (i + 1) vs) in
    ap (λ xs. nodes_onto xs rest) put ∙ onto_push ns n rest ∙ ap (λ s. nodes_onto ns (more_nodes s rest)) (made ∙ ap (constant_at p o) is)
    ∙ sym (ap (λ xs. nodes_onto ns (constants_at p o xs)) (drop_more vs i d less)) ∙ before

-- ---- arguments

abbrev pub arguments : Around → Listing Node NodeShape NodeShapes Walked Numbers
arguments c = record {
  shape = node_shape;
  none = no_nodes;
  more = more_nodes;
  list = node_list;
  one = probed_node c Read;
  step = walk_node c Read;
  all = probed_nodes c;
  walk = walk_nodes c;
  known = counts;
  seen = λ w. w;
  list_none = refl;
  list_more = λ x xs. refl;
  all_none = λ v. refl;
  all_more = λ s l v. refl;
  walk_none = λ v. refl;
  walk_more = λ s l v. refl;
}

-- so far, wherever they stand behind a walk with the first numbers
abbrev pub ArgumentsSoFar : Numbers → Numbers → List Node → List Node → List Node → Type 0
ArgumentsSoFar n m made left whole = (c : Around) (w : Walked) → counts w ≡ n → SoFar (arguments c) m made left whole w
