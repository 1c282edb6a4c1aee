-- What is typed of the constants of a select probe, and which constants a switch has.
use Rattle.std.specs.Prelude.{◌≡◌, ◌⊎◌, ℕ, ◌≤◌, ℤ, List, [], ◌∷◌, length, map, true, Some, None}
use Rattle.std.specs.Fmt.{decimal}
use Rattle.c_base.specs.declared.place.Pos.{Pos}
use Rattle.c_base.specs.declared.place.IntKind.{IntKind}
use Rattle.c_arith.specs.Arith.{InRange}
use Rattle.c_scopes.specs.Rows.{Scope}
use Rattle.c_syntax.specs.Shape.{int, test, NodeShape, NodeShapes, ItemShapes, FormShape, switch}
use Rattle.c_syntax.specs.Shaped.{ShapedForm}
use Rattle.c_type_rules.specs.Kinds.{promote}
use Rattle.c_constants.specs.declared.constants.Constant.TheVariants.{No}
use Rattle.c_constants.specs.Constants as constants
use Rattle.c_tree.specs.declared.meaning.Entity.{Entity}
use Rattle.c_tree.specs.declared.meaning.Entity.TheVariants as entity
use Rattle.c_tree.specs.declared.meaning.Side.TheVariants.{Neither}
use Rattle.c_tree.specs.State.{State, step, steps, is_clean}
use Rattle.c_tree.specs.Sorts.{TypedNode, a_value}
use Rattle.c_tree.specs.Operators.{wrapped, sided, claim}
use Rattle.c_tree.specs.Parts.{TypedCases}
use Rattle.c_tree.specs.Typing.{type_node, type_cases}
use Rattle.c_tree.specs.Stating.{Surroundings, type_body}
use Rattle.c_walk.specs.declared.around.Around.{Around}
use Rattle.c_walk.specs.declared.around.Taken.TheVariants.{Read}
use Rattle.c_walk.specs.Items.{cases}
use Rattle.c_walk.specs.Tests as tests
use Rattle.c_walk.specs.Tests.{choosing, case_values}
use Rattle.c_walk.specs.Walked.{Walked, next_decision, with_decision, pos_of, inside}
use Rattle.c_sites_probes.specs.Marked.{node_mark, body_mark}
use Rattle.probe_rules.specs.Marks.{constant_at, constants_at, in_select}
use Rattle.probe_rules.specs.ProbedExpressions.{probed_node, probed_choice}

-- ---- what is typed of a constant

-- the later state is the earlier one, but for how many tokens stand before it
abbrev pub IsFurther : State → State → Type 0
IsFurther s t = t ≡ record s { at = t.at }

-- in a state the node came out as it stands, and without complaint: an integer constant, which is that value of the type; behind it stands
-- neither side of `=`
pub record IsTyped (k : IntKind) (z : ℤ) (a : NodeShape) (s : State) (t : TypedNode) : Type 0 where
  pub node : t.node ≡ a
  pub kind : (j : IntKind) × (t.sort.kind ≡ Some (int j))
  pub value : wrapped k (constants.value t.sort.constant) ≡ Some z
  pub state : IsFurther (sided Neither s) t.state

-- what is written for a value of a type
abbrev pub ConstantsAreTyped : Type 0
ConstantsAreTyped = (k : IntKind) (z : ℤ) → InRange k z → (p o : Pos) (s : State) → IsTyped k z (constant_at p o z) s (type_node (constant_at p o z) s)

-- ---- and of a list of them

pub record AreTyped (k : IntKind) (zs : List ℤ) (cs : NodeShapes) (s : State) (t : TypedCases) : Type 0 where
  pub nodes : t.nodes ≡ cs
  pub values : map (wrapped k) t.values ≡ map Some zs
  pub state : IsFurther s t.state

-- each is a value of the type, and the first stands on neither side
abbrev pub AreInRange : IntKind → List ℤ → Type 0
AreInRange k [] = Unit {0}
AreInRange k (z ∷ zs) = InRange k z × AreInRange k zs

abbrev pub ListsAreTyped : Type 0
ListsAreTyped = (k : IntKind) (zs : List ℤ) → AreInRange k zs → (p o : Pos) (s : State) → let r = sided Neither s in AreTyped k zs (constants_at p o zs) r (type_cases [] (constants_at p o zs) r)

-- ---- case constants

-- What typing knows of the value of an expression is what the walk reads of the tree that typing gives: in an expression without probes, of
-- which nothing is complained.
abbrev pub ValuesAreRead : Type 0
ValuesAreRead = (a : NodeShape) (s : State) → let t = type_node a s in node_mark t.node ≡ None → t.state.complaints ≡ [] →
    (constants.kind_of (tests.constant t.node) ≡ constants.kind_of t.sort.constant) × (constants.value (tests.constant t.node) ≡ constants.value t.sort.constant)

-- z is one of them
abbrev pub IsAmong : ℤ → List ℤ → Type 0
IsAmong z [] = ⊥
IsAmong z (y ∷ ys) = (z ≡ y) ⊎ IsAmong z ys

-- no two of them are equal
abbrev pub AreDifferent : List ℤ → Type 0
AreDifferent [] = Unit {0}
AreDifferent (z ∷ zs) = (IsAmong z zs → ⊥) × AreDifferent zs

-- a name is one of a variable, a constant, a builtin, or one of so many functions
abbrev pub IsKnown : ℕ → Entity → Type 0
IsKnown n (entity.Variable k) = Unit {0}
IsKnown n (entity.Parameter k) = ⊥
IsKnown n (entity.Function k) = (1 ≤ k) × (k ≤ n)
IsKnown n (entity.Builtin b) = Unit {0}
IsKnown n (entity.Constant v) = Unit {0}
IsKnown n entity.Unknown = ⊥

abbrev pub AreKnown : ℕ → Scope Entity → Type 0
AreKnown n [] = Unit {0}
AreKnown n (x ∷ rest) = IsKnown n x.1 × AreKnown n rest

abbrev pub AreKnownAround : ℕ → List (Scope Entity) → Type 0
AreKnownAround n [] = Unit {0}
AreKnownAround n (names ∷ rest) = AreKnown n names × AreKnownAround n rest

-- as all names are while nothing was complained of
abbrev pub KnowsNames : State → Type 0
KnowsNames s = let n = length s.tables.functions in AreKnown n s.names.top × AreKnownAround n s.names.outer

abbrev pub HasDifferentCases : FormShape → Type 0
HasDifferentCases (switch e items) = AreDifferent (case_values (choosing e) items)
HasDifferentCases f = Unit {0}

-- a switch without probes, of which nothing is complained, has case constants that differ in the type that it chooses by
abbrev pub CasesDiffer : Type 0
CasesDiffer = (c : Surroundings) (p : Pos) (e : NodeShape) (items : ItemShapes) (s : State) → ShapedForm (switch e items) → KnowsNames s → let t = type_body c p (switch e items) s in
    body_mark t.form ≡ None → t.state.complaints ≡ [] → HasDifferentCases t.form

-- ---- a select probe

-- from that state on the expression is typed as it stands, as that integer, and without complaint
pub record Stands (j : IntKind) (b : NodeShape) (s : State) : Type 0 where
  pub node : (type_node b s).node ≡ b
  pub kind : (type_node b s).sort.kind ≡ Some (int j)
  pub clean : is_clean s (type_node b s).state ≡ true

-- the state before the constants of a select probe that stands at that place: its number is claimed
abbrev pub begun : Walked → Pos → State → State
begun w p s = steps 3 (claim test (decimal (next_decision w)) s.at p (sided Neither s))

-- A select probe is typed as it stands, as an integer that is no constant, and the state behind it is one token behind that of its expression:
-- where its number is claimed without complaint, its constants are different values of the promoted type, and its expression stands behind them.
abbrev pub SelectsAreTyped : Type 0
SelectsAreTyped = (j : IntKind) (zs : List ℤ) → AreInRange (promote j) zs → AreDifferent zs → (w : Walked) (b : NodeShape) (s : State) →
    is_clean s (begun w (pos_of b) s) ≡ true → ((t : State) → IsFurther (begun w (pos_of b) s) t → Stands j b t) →
    let y = type_node (in_select zs w b) s in
    (y.node ≡ in_select zs w b) × (y.sort ≡ a_value (Some (int j)) No) × ((t : State) × IsFurther (begun w (pos_of b) s) t × (y.state ≡ step (type_node b t).state))

-- What a switch chooses by stands with its probes, the select probe among them, where with the others alone it stands behind that one's constants.
abbrev pub KeepsChoice : FormShape → Type 0
KeepsChoice (switch e items) = (j : IntKind) → choosing e ≡ Some (promote j) → (d : Around) (w : Walked) (s : State) →
    let b = probed_node (inside d w) Read e (with_decision (pos_of e) (cases (case_values (choosing e) items)) w) in
    is_clean s (begun w (pos_of b) s) ≡ true → ((t : State) → IsFurther (begun w (pos_of b) s) t → Stands j b t) → Stands j (probed_choice d e items w) s
KeepsChoice f = Unit {0}

abbrev pub ChoicesAreTyped : Type 0
ChoicesAreTyped = (c : Surroundings) (p : Pos) (e : NodeShape) (items : ItemShapes) (s : State) → ShapedForm (switch e items) → KnowsNames s → let t = type_body c p (switch e items) s in
    body_mark t.form ≡ None → t.state.complaints ≡ [] → KeepsChoice t.form
