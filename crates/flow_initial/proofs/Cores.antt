-- What the tables hold of structures and variables, and properties of it that typing keeps.
use Rattle.std.specs.Prelude.{◌≡◌, ℕ, List, [], Bool, true, Option, None}
use Rattle.c_base.specs.declared.place.Pos.{Pos}
use Rattle.c_syntax.specs.declared.text.Text.{Text}
use Rattle.c_syntax.specs.declared.tree.Named.{Named}
use Rattle.c_syntax.specs.Shape.{TypeOf, DeclShapes}
use Rattle.c_scopes.specs.Rows.{Scope, Scoped}
use Rattle.c_scopes.specs.Scoping.{find_here}
use Rattle.c_type_rules.specs.Layouts.{Measure}
use Rattle.c_tables.specs.Tables.{StructShape, VariableShape}
use Rattle.c_tree.specs.declared.meaning.Entity.{Entity}
use Rattle.c_tree.specs.declared.meaning.Tag.{Tag}
use Rattle.c_tree.specs.State.{State, step, steps}
use Rattle.c_tree.specs.Parts.{opened, begun_at, closed, listed_enumeration, tag_tokens, within, with_name, TypedDecls}
use Rattle.c_tree.specs.Operators.{hushed, heard}
use Rattle.c_tree.specs.Typing.{type_lines}
use Rattle.c_tree.specs.Declaring.{with_row, opened_scope, closed_scope}
use Rattle.flow_initial.specs.Lengths.{IsFilled}

pub record Core : Type 0 where
  pub tags : Scoped Tag
  pub structures : List StructShape
  pub begun : List Bool
  pub variables : List VariableShape
  pub quiet : Bool
  pub rooms : List Measure
  pub function : ℕ

abbrev pub core : State → Core
core s = record { tags = s.tags; structures = s.tables.structures; begun = s.begun; variables = s.tables.variables; quiet = s.quiet; rooms = s.rooms; function = s.function }

-- the lines of a member list, behind its tag
abbrev pub lines_of : Bool → Option Named → DeclShapes → State → TypedDecls
lines_of alone x ds s = let o = opened alone true x s in type_lines ds [] (within (step (steps (tag_tokens x) (begun_at o.number o.state))))

-- what types declare keeps the property, and so do scopes
pub record Kept (J : Core → Type 0) : Type 0 where
  pub opening : (alone list : Bool) (x : Option Named) (s : State) → J (core s) → J (core (opened alone list x s).state)
  pub beginning : (n : Option ℕ) (s : State) → J (core s) → J (core (begun_at n s))
  pub closing : (alone : Bool) (x : Option Named) (ds : DeclShapes) (s : State) → J (core s) → J (core (lines_of alone x ds s).state)
      → J (core (closed (opened alone true x s).number (lines_of alone x ds s).fields (lines_of alone x ds s).state))
  pub listing : (p : Pos) (x : Text) (t : Option Tag) (s : State) → J (core s) → J (core (listed_enumeration p x t s))
  pub entering : (s : State) → J (core s) → J (core (opened_scope s))
  pub leaving : (s : State) → J (core s) → J (core (closed_scope s))
  -- the operand of a sizeof, and a string that fills an array
  pub hushing : (s t : State) → (J (core (hushed s)) → J (core t)) → J (core s) → J (core (heard s.quiet t))

-- a property of that and of the innermost scope, at a token
abbrev pub At : (Core → Scope Entity → Type 0) → State → Type 0
At J s = J (core s) s.names.top

-- what types in expressions declare keeps it: a name is declared where it was free
pub record KeptInside (J : Core → Scope Entity → Type 0) : Type 0 where
  pub opening : (alone list : Bool) (x : Option Named) (s : State) → At J s → At J (opened alone list x s).state
  pub beginning : (n : Option ℕ) (s : State) → At J s → At J (begun_at n s)
  pub closing : (alone : Bool) (x : Option Named) (ds : DeclShapes) (s : State) → At J s → At J (lines_of alone x ds s).state → At J (closed (opened alone true x s).number (lines_of alone x ds s).fields (lines_of alone x ds s).state)
  pub listing : (p : Pos) (x : Text) (t : Option Tag) (s : State) → At J s → At J (listed_enumeration p x t s)
  pub hushing : (s t : State) → (At J (hushed s) → At J t) → At J s → At J (heard s.quiet t)
  pub naming : (x : Text) (e : Entity) (s : State) → find_here x s.names ≡ None → At J s → At J (with_name x e s)

-- a property of no scope that types keep is such a property
pub inside : (J : Core → Type 0) → Kept J → KeptInside (λ c names. J c)
inside J kept = record { opening = kept.opening; beginning = kept.beginning; closing = kept.closing; listing = kept.listing; hushing = kept.hushing; naming = λ x e s free h. h }

-- what types keep, and a new variable too
pub record KeptByAll (J : Core → Type 0) : Type 0 where
  pub types : Kept J
  pub declaring : (x : Text) (k : TypeOf) (s : State) → IsFilled k → J (core s) → J (core (with_row x k s))

-- and so does the number of the function whose body begins or ends
pub record KeptByUnits (J : Core → Type 0) : Type 0 where
  pub all : KeptByAll J
  pub turning : (n : ℕ) (s : State) → J (core s) → J (core (record s { function = n }))

infixl 5 ◌▸◌
pub ◌▸◌ : {A B C : Type 0} → (A → B) → (B → C) → A → C
(f ▸ g) h = g (f h)
