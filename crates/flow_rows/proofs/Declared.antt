-- Declarations, each from its parts.
use Rattle.std.proofs.Common.{ℕ, ◌≡◌, Bool, true, Option, sym, subst, ap, ◌∙◌}
use Rattle.c_base.specs.declared.place.Pos.{Pos}
use Rattle.c_syntax.specs.declared.tree.Named.{Named}
use Rattle.c_syntax.specs.Shape.{NodeShape, InitShapes, InitShape, one, listed, MaybeInit}
use Rattle.c_tables.specs.Tables.{TablesShape}
use Rattle.c_tables.specs.Rows.{first_place, name_pos}
use Rattle.c_walk.specs.declared.around.Taken.TheVariants.{Read}
use Rattle.c_walk.specs.Items.{Direct}
use Rattle.c_walk.specs.Walked.{Walked, with_def}
use Rattle.c_walk.specs.Walking.{walk_node}
use Rattle.c_walk.specs.Counted.{next_def}
use Rattle.c_walk.specs.Stating.{whole, with_variable, with_whole_def, walk_init, walk_maybe_init}
use Rattle.flow_walks.specs.declared.action.Action.TheVariants.{Define, Kill}
use Rattle.flow_walks.specs.Comes.{act, emit, value}
use Rattle.flow_walks.specs.Expressions.{node_goes}
use Rattle.flow_walks.specs.Statements.{init_goes, maybe_init_goes}
use Rattle.flow_walks.proofs.More.{emit_in, value_in}
use Rattle.flow_rows.specs.Paths.{Graph}
use Rattle.flow_rows.specs.Counts.{counts, Counted}
use Rattle.flow_rows.specs.Laying.{Grown, Lays, LaidAt, Placed}
use Rattle.flow_rows.specs.declared.numbers.Numbers.{Numbers}
use Rattle.flow_rows.proofs.Laws.{lead_placed, counted_placed, grown_then, leads, lays_then, keeps_then}

-- a variable as a whole is defined
whole_counted : (t : TablesShape) (x : Option Named) (n m : Numbers) → ((p : Pos) (d : Option Direct) → Counted n m (λ c w. with_def true c p d w)) → Counted n m (λ c w. with_whole_def t c.function x w)
whole_counted t x n m def c w e = def (name_pos first_place x) (whole t w.variables) c w e

pub init_one : (t : TablesShape) (x : Option Named) (g h i : Graph) (n m l : Numbers) (d at y z : ℕ) (f : InitShape) (a : NodeShape) → f ≡ one a
    → Grown g h → LaidAt h y (λ k. emit (act (Define d)) (k z)) → ((w : Walked) → counts w ≡ n → d ≡ next_def w) → ((p : Pos) (d : Option Direct) → Counted n m (λ c w. with_def true c p d w))
    → Placed h i m l at (λ c w k. node_goes t c Read a w (value (k y))) (λ c w. walk_node c Read a w)
    → Placed g i n l at (λ c w k. init_goes t c x f w (k z)) (λ c w. walk_init c f (with_whole_def t c.function x w))
init_one t x g h i n m l d at y z f a is gh row number def part =
    subst (λ f. Placed g i n l at (λ c w k. init_goes t c x f w (k z)) (λ c w. walk_init c f (with_whole_def t c.function x w))) (sym is)
    (lead_placed n g h i l at y (λ c w k v. node_goes t c Read a (with_whole_def t c.function x w) (value v)) (λ w k. emit (act (Define (next_def w))) (k z)) (λ c w. walk_node c Read a (with_whole_def t c.function x w))
    (λ c w k u v q. value_in t c Read a (with_whole_def t c.function x w) u v q) gh
    (λ w e j k. leads j y (λ m. emit (act (Define (next_def w))) (m z)) (subst (λ d. Lays j y (λ k. emit (act (Define d)) (k z))) (number w e) (row j k)))
    (counted_placed n h i m l at (λ c w k. node_goes t c Read a w (value (k y))) (λ c w. with_whole_def t c.function x w) (λ c w. walk_node c Read a w) (whole_counted t x n m def) part))

init_listed : (t : TablesShape) (x : Option Named) (g h : Graph) (n m : Numbers) (d at z : ℕ) (p : Pos) (items : InitShapes) (last : Bool)
    → Grown g h → LaidAt h at (λ k. emit (act (Define d)) (k z)) → ((w : Walked) → counts w ≡ n → d ≡ next_def w) → ((p : Pos) (d : Option Direct) → Counted n m (λ c w. with_def true c p d w))
    → Placed g h n m at (λ c w k. init_goes t c x (listed p items last) w (k z)) (λ c w. walk_init c (listed p items last) (with_whole_def t c.function x w))
init_listed t x g h n m d at z p items last gh row number def = record {
  grown = gh;
  laid = λ c w e j k. subst (λ d. Lays j at (λ k. emit (act (Define d)) (k z))) (number w e) (row j k);
  counted = whole_counted t x n m def;
}

pub init_list_placed : (t : TablesShape) (x : Option Named) (g h : Graph) (n m : Numbers) (d at z : ℕ) (f : InitShape) (p : Pos) (items : InitShapes) (last : Bool) → f ≡ listed p items last
    → Grown g h → LaidAt h at (λ k. emit (act (Define d)) (k z)) → ((w : Walked) → counts w ≡ n → d ≡ next_def w) → ((p : Pos) (d : Option Direct) → Counted n m (λ c w. with_def true c p d w))
    → Placed g h n m at (λ c w k. init_goes t c x f w (k z)) (λ c w. walk_init c f (with_whole_def t c.function x w))
init_list_placed t x g h n m d at z f p items last is gh row number def =
    subst (λ f. Placed g h n m at (λ c w k. init_goes t c x f w (k z)) (λ c w. walk_init c f (with_whole_def t c.function x w))) (sym is) (init_listed t x g h n m d at z p items last gh row number def)

-- a variable is declared: what was defined of it before ends
pub variable_placed : (t : TablesShape) (x : Option Named) (g h i j : Graph) (n l m : Numbers) (v at z y : ℕ) (f : MaybeInit)
    → Grown g h → Grown h i → LaidAt i at (λ k. emit (act (Kill v)) (k z)) → v ≡ l.variables → Counted n l (λ c w. with_variable w)
    → Placed i j l m z (λ c w k. maybe_init_goes t c x f w (k y)) (λ c w. walk_maybe_init t c x f w)
    → Placed g j n m at (λ c w k. emit (act (Kill (with_variable w).variables)) (maybe_init_goes t c x f (with_variable w) (k y))) (λ c w. walk_maybe_init t c x f (with_variable w))
variable_placed t x g h i j n l m v at z y f gh hi row is count part = record {
  grown = grown_then g i j (grown_then g h i gh hi) part.grown;
  laid = λ c w e q k.
      let number : v ≡ (with_variable w).variables = is ∙ ap (λ (o : Numbers). o.variables) (sym (count c w e)) in
      let first = subst (λ b. Lays q at (λ k. emit (act (Kill b)) (k z))) number (row q (keeps_then i j q part.grown.keeps k)) in
      lays_then q at z (λ k x. emit (act (Kill (with_variable w).variables)) x) (λ k. maybe_init_goes t c x f (with_variable w) (k y)) (λ k x y u. emit_in (act (Kill (with_variable w).variables)) x y u) first
      (leads q z (λ k. maybe_init_goes t c x f (with_variable w) (k y)) (part.laid c (with_variable w) (count c w e) q k));
  counted = λ c w e. part.counted c (with_variable w) (count c w e);
}
