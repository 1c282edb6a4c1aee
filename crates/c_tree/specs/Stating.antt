-- How statements are typed (C89, 3.6), and function bodies.
use Rattle.std.specs.Prelude.{ℕ, ℤ, ◌+◌, ◌*◌, List, [], ◌∷◌, length, Bool, true, false, not, ◌||◌, Option, Some, None, option_map}
use Rattle.c_base.specs.declared.place.Pos.{Pos}
use Rattle.c_base.specs.declared.place.IntKind.{IntKind}
use Rattle.c_syntax.specs.declared.tree.ProbeMark.{ProbeMark}
use Rattle.c_syntax.specs.Shape.{TypeOf, int, block, NodeShape, MaybeNode, no_node, one_node, LabelShape, case, default, StmtShape, stmt, FormShape, compound, simply, when, either, while, do_while, for, switch, break, continue, return, CompoundShape, braces, ItemShapes, no_items, more_items}
use Rattle.c_type_rules.specs.Verdicts.{truth_type, promoted_type, fits_type}
use Rattle.c_constants.specs.Constants as constants
use Rattle.c_tree.specs.State.{State, step, steps, complain, demand}
use Rattle.c_tree.specs.Rulings.{Ruled, by, rule, kind_at, of_kind}
use Rattle.c_tree.specs.Sorts.{Sort, TypedNode, null, pos_in}
use Rattle.c_tree.specs.Operators.{claim, constant_rule, is_among, wrapped}
use Rattle.c_tree.specs.Parts.{judged_constant}
use Rattle.c_tree.specs.Typing.{type_node}
use Rattle.c_tree.specs.Declaring.{type_decls, opened_scope, closed_scope}
use Rattle.c_tree.specs.Complaints.{case_twice, stray, wrong_type}

-- ---- what stands round a statement

-- it is in a loop; in a loop or a switch; and what the function gives, where that is known
pub record Surroundings : Type 0 where
  pub loop : Bool
  pub breakable : Bool
  pub result : Option TypeOf

abbrev pub in_loop : Surroundings → Surroundings
in_loop c = record c { loop = true; breakable = true }

abbrev pub in_switch : Surroundings → Surroundings
in_switch c = record c { breakable = true }

-- the labels of a switch so far: the type of their values, the values, and whether one is `default`
pub record Labels : Type 0 where
  pub kind : Option IntKind
  pub values : List (Option ℤ)
  pub default : Bool

abbrev pub kind_of_switch : Option TypeOf → Option IntKind
kind_of_switch (Some (int k)) = Some k
kind_of_switch _ = None

abbrev pub no_labels : Ruled → Labels
no_labels r = record { kind = kind_of_switch (kind_at r); values = []; default = false }

-- ---- expressions in statements

-- a test is a scalar
abbrev pub tested : ℕ → TypedNode → State
tested first a = rule (by wrong_type (truth_type a.sort.kind)) first (pos_in a.node) a.state

abbrev pub switched : TypedNode → Ruled
switched a = by wrong_type (promoted_type a.sort.kind)

pub record TypedMaybe : Type 0 where
  pub node : MaybeNode
  pub state : State

abbrev pub a_maybe : TypedNode → State → TypedMaybe
a_maybe a s = record { node = one_node a.node; state = s }

abbrev pub type_maybe : MaybeNode → State → TypedMaybe
type_maybe no_node s = record { node = no_node; state = s }
type_maybe (one_node a) s = let t = type_node a s in a_maybe t t.state

abbrev pub type_test : MaybeNode → State → TypedMaybe
type_test no_node s = record { node = no_node; state = s }
type_test (one_node a) s = let t = type_node a s in a_maybe t (tested s.at t)

-- a value that is given back fits into what the function gives
abbrev pub result_rule : Option TypeOf → Sort → Ruled
result_rule k a = of_kind k (λ t. by wrong_type (fits_type (Some t) a.kind (null a)))

abbrev pub type_result : ℕ → Pos → Option TypeOf → MaybeNode → State → TypedMaybe
type_result token p k no_node s = record { node = no_node; state = s }
type_result token p k (one_node a) s = let t = type_node a s in a_maybe t (rule (result_rule k t.sort) token p t.state)

-- ---- probes and labels

-- block probes before a statement: word, parenthesis, number, parenthesis and colon
abbrev pub type_marks : List ProbeMark → State → State
type_marks [] s = s
type_marks (m ∷ ms) s = type_marks ms (steps 5 (claim block m.number s.at m.pos s))

pub record TypedLabels : Type 0 where
  pub labels : List LabelShape
  pub so_far : Option Labels
  pub state : State

-- the value is one of those before it, as a value of their type
abbrev pub comes_twice : Option IntKind → Option ℤ → List (Option ℤ) → Bool
comes_twice (Some k) (Some v) vs = is_among v vs
comes_twice _ _ vs = false

abbrev pub as_kind : Option IntKind → Option ℤ → Option ℤ
as_kind None v = None
as_kind (Some k) v = wrapped k v

abbrev pub with_value : Option ℤ → Labels → Labels
with_value v l = record l { values = v ∷ l.values }

-- a case at that token: directly in a switch, and for the first time there
abbrev pub case_state : ℕ → Pos → Option Labels → Option ℤ → State → State
case_state token p None v s = complain stray token p s
case_state token p (Some l) v s = demand (not (comes_twice l.kind (as_kind l.kind v) l.values)) case_twice token p s

abbrev pub default_state : ℕ → Pos → Option Labels → State → State
default_state token p None s = complain stray token p s
default_state token p (Some l) s = demand (not l.default) case_twice token p s

abbrev pub case_labels : Option Labels → Option ℤ → Option Labels
case_labels o v = option_map (λ l. with_value (as_kind l.kind v) l) o

abbrev pub with_default : Labels → Labels
with_default l = record l { default = true }

abbrev pub default_labels : Option Labels → Option Labels
default_labels o = option_map with_default o

abbrev pub one_label : LabelShape → TypedLabels → TypedLabels
one_label l r = record r { labels = l ∷ r.labels }

abbrev pub type_labels : Option Labels → List LabelShape → State → TypedLabels
type_labels o [] s = record { labels = []; so_far = o; state = s }
type_labels o (case p a ∷ rest) s =
    let t = type_node a (step s) in
    let v = constants.value t.sort.constant in
    one_label (case p t.node) (type_labels (case_labels o v) rest (step (case_state s.at p o v (judged_constant (step s).at (pos_in a) t.sort t.state))))
type_labels o (default p ∷ rest) s = one_label (default p) (type_labels (default_labels o) rest (steps 2 (default_state s.at p o s)))

-- ---- statements

pub record TypedStmt : Type 0 where
  pub stmt : StmtShape
  pub state : State

pub record TypedBody : Type 0 where
  pub form : FormShape
  pub state : State

pub record TypedCompound : Type 0 where
  pub compound : CompoundShape
  pub state : State

pub record TypedItems : Type 0 where
  pub items : ItemShapes
  pub state : State

abbrev mutual
  pub type_stmt : Surroundings → StmtShape → State → TypedStmt
  type_stmt c (stmt p marks q f) s =
      let t = type_body c q f (type_marks marks s) in
      record { stmt = stmt p marks q t.form; state = t.state }

  -- a statement's form, which begins at that place
  pub type_body : Surroundings → Pos → FormShape → State → TypedBody
  type_body c p (compound b) s =
      let t = type_compound c b (opened_scope s) in
      record { form = compound t.compound; state = closed_scope t.state }
  type_body c p (simply e) s =
      let t = type_maybe e s in
      record { form = simply t.node; state = step t.state }
  type_body c p (when e a) s =
      let t = type_node e (steps 2 s) in
      let v = type_stmt c a (step (tested (steps 2 s).at t)) in
      record { form = when t.node v.stmt; state = v.state }
  type_body c p (either e a b) s =
      let t = type_node e (steps 2 s) in
      let v = type_stmt c a (step (tested (steps 2 s).at t)) in
      let w = type_stmt c b (step v.state) in
      record { form = either t.node v.stmt w.stmt; state = w.state }
  type_body c p (while e a) s =
      let t = type_node e (steps 2 s) in
      let v = type_stmt (in_loop c) a (step (tested (steps 2 s).at t)) in
      record { form = while t.node v.stmt; state = v.state }
  type_body c p (do_while a e) s =
      let v = type_stmt (in_loop c) a (step s) in
      let t = type_node e (steps 2 v.state) in
      record { form = do_while v.stmt t.node; state = steps 2 (tested (steps 2 v.state).at t) }
  type_body c p (for e f g a) s =
      let t = type_maybe e (steps 2 s) in
      let v = type_test f (step t.state) in
      let w = type_maybe g (step v.state) in
      let b = type_stmt (in_loop c) a (step w.state) in
      record { form = for t.node v.node w.node b.stmt; state = b.state }
  type_body c p (switch e items) s =
      let t = type_node e (steps 2 s) in
      let r = switched t in
      let v = type_items (in_switch c) (Some (no_labels r)) items (steps 2 (rule r (steps 2 s).at (pos_in t.node) t.state)) in
      record { form = switch t.node v.items; state = step v.state }
  type_body c p break s = record { form = break; state = steps 2 (demand c.breakable stray s.at p s) }
  type_body c p continue s = record { form = continue; state = steps 2 (demand c.loop stray s.at p s) }
  type_body c p (return e) s =
      let t = type_result s.at p c.result e (step s) in
      record { form = return t.node; state = step t.state }

  -- the braces with what stands in them, in a scope that is open already
  pub type_compound : Surroundings → CompoundShape → State → TypedCompound
  type_compound c (braces p ds items) s =
      let d = type_decls ds (step s) in
      let t = type_items c None items d.state in
      record { compound = braces p d.decls t.items; state = step t.state }

  -- statements with their labels, directly in a switch or not
  pub type_items : Surroundings → Option Labels → ItemShapes → State → TypedItems
  type_items c o no_items s = record { items = no_items; state = s }
  type_items c o (more_items labels a rest) s =
      let l = type_labels o labels s in
      let t = type_stmt c a l.state in
      let r = type_items c l.so_far rest t.state in
      record { items = more_items l.labels t.stmt r.items; state = r.state }
