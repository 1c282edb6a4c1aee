-- Which sites may be told of in a program: of an expression, those that are a local variable itself or are found at cells of their names, by the
-- numbers that the walk gives them. No probe stands in it.
use Rattle.std.specs.Prelude.{◌≡◌, ◌<◌, ◌+◌, ◌⊎◌, ℕ, Contains, List, [], ◌∷◌, true, false, Option, Some, None}
use Rattle.c_base.specs.declared.place.Pos.{Pos}
use Rattle.c_syntax.specs.declared.text.Text.{Text}
use Rattle.c_syntax.specs.Shape.{NoteShape, typed, name, unary, before, size_of, plain, and, or, assign, comma, NodeShape, node, ExprShape, leaf, paren, call, prefix, size_of_type, cast, suffix, two, choose, probe, index, field, behind, NodeShapes, no_nodes, more_nodes, MaybeNode, no_node, one_node}
use Rattle.c_walk.specs.declared.around.Around.{Around}
use Rattle.c_walk.specs.declared.around.Taken.{Taken}
use Rattle.c_walk.specs.declared.around.Taken.TheVariants.{Read, Changed, Written}
use Rattle.c_walk.specs.Places.{holds_structure}
use Rattle.c_walk.specs.Walked.{Walked, operand_taken, right_taken, with_block, pos_of, inside_test, with_test, with_site}
use Rattle.c_walk.specs.Counted.{next_def, next_use}
use Rattle.c_walk.specs.Walking.{walk_node, walk_test, walk_arm}
use Rattle.c_store.specs.declared.value.Pointer.{Pointer}
use Rattle.c_store.specs.Cells.{cell_of}
use Rattle.c_tables.specs.Tables.{TablesShape}
use Rattle.c_meaning.specs.State.{Bound, State, found_in, found_within}
use Rattle.c_meaning.specs.Results.{Gives}
use Rattle.c_meaning.specs.Firsts.{First}
use Rattle.c_meaning.specs.Knot.{Knot}
use Rattle.c_meaning.specs.Expressions.{meaning}
use Rattle.flow_names.specs.Keeping.{KeepsNames}
use Rattle.flow_walks.specs.Expressions.{reads}
use Rattle.flow_calls.specs.Placing.{Local, Sites}

-- ---- variables by name

abbrev pub named_in : NoteShape → Option ℕ
named_in (typed k (Some v)) = Some v
named_in n = None

-- the variable that the expression is the name of, in parentheses or not
abbrev mutual
  pub variable_named : NodeShape → Option ℕ
  variable_named (node p o n f) = form_names n f

  pub form_names : NoteShape → ExprShape → Option ℕ
  form_names n (leaf (name x)) = named_in n
  form_names n (paren a) = variable_named a
  form_names n f = None

-- ---- sites, where these are the variables of file scope

-- the site is that variable itself, which is a local one
pub record IsItself (F : List Bound) (named : Option ℕ) (v : Local) : Type 0 where
  pub is : named ≡ Some v.variable
  pub local : found_in v.variable F ≡ None

-- a use: none that is told of, or the variable, at its first cell
abbrev pub IsUse : Sites → List Bound → Option ℕ → Option Local → Type 0
IsUse S F named None = Unit {0}
IsUse S F named (Some v) = IsItself F named v × Contains v.names (S.leaf v.variable 0)

-- a definition: none, or the variable, by its one name
abbrev pub IsDefinition : Sites → List Bound → Option ℕ → Option Local → Type 0
IsDefinition S F named None = Unit {0}
IsDefinition S F named (Some v) = IsItself F named v × (v.parameter ≡ false) × (v.names ≡ S.leaf v.variable 0 ∷ [])

-- ---- sites by what they come to

-- wherever the place is found, it is in the instance that the variable stands for in the active call, at such a cell, or past the end of an array
pub record StandsFor (F : List Bound) (t : TablesShape) (a : NodeShape) (x : ℕ) (P : ℕ → Type 0) : Type 0 where
  pub by : (k : Knot) → KeepsNames k → (r : Taken) (i : First) (s u : State) (q : Pointer) → s.file ≡ F → (meaning t k a).place r i s ≡ Gives q u → q.index < q.length → (found_within x u.calls ≡ Some q.instance) × P (cell_of q)

-- a use at a cell of one of its names, and a definition at a cell of its one name
abbrev pub IsUsedAt : Sites → List Bound → TablesShape → NodeShape → Option Local → Type 0
IsUsedAt S F t a None = ⊥
IsUsedAt S F t a (Some v) = StandsFor F t a v.variable (λ c. Contains v.names (S.leaf v.variable c))

abbrev pub IsDefinedAt : Sites → List Bound → TablesShape → NodeShape → Option Local → Type 0
IsDefinedAt S F t a None = ⊥
IsDefinedAt S F t a (Some v) = (v.parameter ≡ false) × StandsFor F t a v.variable (λ c. v.names ≡ S.leaf v.variable c ∷ [])

-- ---- structures that are copied

-- wherever its place is found, it is in the instance that the variable stands for in the active call, at such an element, or past the end of an array
pub record StandsWhole (F : List Bound) (t : TablesShape) (a : NodeShape) (x : ℕ) (P : Pointer → Type 0) : Type 0 where
  pub by : (k : Knot) → KeepsNames k → (r : Taken) (i : First) (s u : State) (q : Pointer) → s.file ≡ F → (meaning t k a).place r i s ≡ Gives q u → q.index < q.length → (found_within x u.calls ≡ Some q.instance) × P q

-- each of so many cells from that one has one of the names, and each of the names is one of these cells'
abbrev pub AreNamedFrom : Sites → ℕ → List Text → ℕ → ℕ → Type 0
AreNamedFrom S x names c n = (i : ℕ) → i < n → Contains names (S.leaf x (c + i))

abbrev pub AreAllFrom : Sites → ℕ → List Text → ℕ → ℕ → Type 0
AreAllFrom S x names c n = (m : Text) → Contains names m → (i : ℕ) × (i < n) × (S.leaf x (c + i) ≡ m)

-- a use of all its cells, and a definition of these, by their names
abbrev pub IsUsedWhole : Sites → List Bound → TablesShape → NodeShape → Option Local → Type 0
IsUsedWhole S F t a None = Unit {0}
IsUsedWhole S F t a (Some v) = StandsWhole F t a v.variable (λ q. AreNamedFrom S v.variable v.names (cell_of q) q.size)

abbrev pub IsDefinedWhole : Sites → List Bound → TablesShape → NodeShape → Option Local → Type 0
IsDefinedWhole S F t a None = Unit {0}
IsDefinedWhole S F t a (Some v) = (v.parameter ≡ false) × StandsWhole F t a v.variable (λ q. AreNamedFrom S v.variable v.names (cell_of q) q.size × AreAllFrom S v.variable v.names (cell_of q) q.size)

module _ (S : Sites) (F : List Bound) (t : TablesShape) where
  -- where the value of a place by itself is read
  abbrev pub IsReadSite : Taken → Pos → NoteShape → ExprShape → Walked → Type 0
  IsReadSite Read p n f w = reads Read n f ≡ true → IsUse S F (form_names n f) (S.used (next_use w)) ⊎ IsUsedAt S F t (node p p n f) (S.used (next_use w))
  IsReadSite r p n f w = Unit {0}

  abbrev pub IsUsedSite : NodeShape → Walked → Type 0
  IsUsedSite a w = IsUse S F (variable_named a) (S.used (next_use w)) ⊎ IsUsedAt S F t a (S.used (next_use w))

  abbrev pub IsDefinedSite : NodeShape → Walked → Type 0
  IsDefinedSite a w = IsDefinition S F (variable_named a) (S.defined (next_def w)) ⊎ IsDefinedAt S F t a (S.defined (next_def w))

  -- the definition and the use of a copy
  abbrev pub IsCopied : NodeShape → NodeShape → Walked → Walked → Type 0
  IsCopied a b w v = IsDefinedWhole S F t a (S.defined (next_def w)) × IsUsedWhole S F t b (S.used (next_use v))

  -- each site of an expression, behind what was walked through
  abbrev mutual
    pub IsSited : Around → Taken → NodeShape → Walked → Type 0
    IsSited c r (node p o n f) w = IsFormSited c r p n f w

    pub IsFormSited : Around → Taken → Pos → NoteShape → ExprShape → Walked → Type 0
    IsFormSited c r p n (leaf l) w = IsReadSite r p n (leaf l) w
    IsFormSited c r p n (paren a) w = IsSited c r a w
    IsFormSited c r p n (probe u a) w = ⊥
    IsFormSited c r p n (call x args) w = AreSited c args w
    IsFormSited c r p n (prefix (unary u) a) w = IsReadSite r p n (prefix (unary u) a) w × IsSited c (operand_taken u) a (with_site c r p n (prefix (unary u) a) w)
    IsFormSited c r p n (prefix (before u) a) w = IsSited c Changed a w × IsUsedSite a w × IsDefinedSite a w
    IsFormSited c r p n (prefix size_of a) w = Unit {0}
    IsFormSited c r p n (size_of_type y) w = Unit {0}
    IsFormSited c r p n (cast y a) w = IsSited c Read a w
    IsFormSited c r p n (suffix a (index b)) w =
        let j = with_site c r p n (suffix a (index b)) w in
        IsReadSite r p n (suffix a (index b)) w × IsSited c Read a j × IsSited c Read b (walk_node c Read a j)
    IsFormSited c r p n (suffix a (field h x q)) w = IsReadSite r p n (suffix a (field h x q)) w × IsSited c Read a (with_site c r p n (suffix a (field h x q)) w)
    IsFormSited c r p n (suffix a (behind u)) w = IsSited c Changed a w × IsUsedSite a w × IsDefinedSite a w
    IsFormSited c r p n (two (plain u) a b) w = IsSited c Read a w × IsSited c Read b (walk_node c Read a w)
    IsFormSited c r p n (two comma a b) w = IsSited c Read a w × IsSited c Read b (walk_node c Read a w)
    IsFormSited c r p n (two and a b) w = IsTestSited c a w × IsTestSited c b (with_block (pos_of b) (walk_test c a w))
    IsFormSited c r p n (two or a b) w = IsTestSited c a w × IsTestSited c b (with_block (pos_of b) (walk_test c a w))
    IsFormSited c r p n (two (assign None) a b) w =
        let v = walk_node c Written a w in
        IsSited c Written a w × (holds_structure a ≡ false → IsDefinedSite a w) × IsSited c (right_taken None a) b v × (holds_structure a ≡ true → IsCopied a b w v)
    IsFormSited c r p n (two (assign (Some u)) a b) w = IsSited c Changed a w × IsUsedSite a w × IsDefinedSite a w × IsSited c Read b (walk_node c Changed a w)
    IsFormSited c r p n (choose a b d) w = IsTestSited c a w × IsArmSited c b (walk_test c a w) × IsArmSited c d (walk_arm c b (walk_test c a w))

    -- an expression at a test position, and one that is a block
    pub IsTestSited : Around → NodeShape → Walked → Type 0
    IsTestSited c (node p o n f) w = IsFormSited (inside_test c f w) Read p n f (with_test p f w)

    pub IsArmSited : Around → NodeShape → Walked → Type 0
    IsArmSited c (node p o n f) w = IsFormSited c Read p n f (with_block p w)

    pub AreSited : Around → NodeShapes → Walked → Type 0
    AreSited c no_nodes w = Unit {0}
    AreSited c (more_nodes a rest) w = IsSited c Read a w × AreSited c rest (walk_node c Read a w)

  abbrev pub IsMaybeSited : Around → MaybeNode → Walked → Type 0
  IsMaybeSited c no_node w = Unit {0}
  IsMaybeSited c (one_node a) w = IsSited c Read a w

  -- the test of a loop, and the step of a `for`
  abbrev pub IsLoopTestSited : Around → MaybeNode → Walked → Type 0
  IsLoopTestSited c no_node w = Unit {0}
  IsLoopTestSited c (one_node a) w = IsTestSited c a (with_block (pos_of a) w)

  abbrev pub IsStepSited : Around → MaybeNode → Walked → Type 0
  IsStepSited c no_node w = Unit {0}
  IsStepSited c (one_node a) w = IsArmSited c a w
