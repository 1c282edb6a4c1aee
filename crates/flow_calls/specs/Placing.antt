-- Where definitions and uses stand among all that was done: in the instance that their own activation made last of their variable, at a cell of
-- their name.
use Rattle.std.specs.Prelude.{◌≡◌, ◌⊎◌, ◌<◌, ◌≤◌, ◌++◌, ◌&&◌, ℕ, Contains, List, [], ◌∷◌, map, nat_eq, Bool, true, false, Option, Some, None, if◌then◌else◌}
use Rattle.c_events.specs.declared.events.Cell.{Cell}
use Rattle.c_events.specs.declared.events.Event.{Event}
use Rattle.c_events.specs.declared.events.Event.TheVariants.{Def, Use}
use Rattle.c_syntax.specs.declared.text.Text.{Text}
use Rattle.c_meaning.specs.State.{Act, begins, makes, tells, repeats, Deed, or_else}
use Rattle.c_meaning.specs.Deeds.{own}
use Rattle.flow_walks.specs.declared.action.Action.{Action}
use Rattle.flow_walks.specs.declared.action.Action.TheVariants as action
use Rattle.flow_calls.specs.Readings.{readings}

-- a direct site of a local variable: the variable's number, the site's leaf names, and whether it is a parameter's definition
pub record Local : Type 0 where
  pub variable : ℕ
  pub names : List Text
  pub parameter : Bool

-- the definitions and uses that are direct sites of local variables, by their numbers; and the leaf name of each cell of a variable
pub record Sites : Type 0 where
  pub defined : ℕ → Option Local
  pub used : ℕ → Option Local
  pub leaf : ℕ → ℕ → Text

-- ---- instances

-- the instance of that variable that an act makes; a parameter's is the one that its definition writes
abbrev pub given_in : ℕ → Cell → Option Local → Option ℕ
given_in x c None = None
given_in x c (Some v) = if v.parameter && nat_eq v.variable x then Some c.instance else None

abbrev pub shown_by : Sites → ℕ → Event → Option ℕ
shown_by S x (Def d c) = given_in x c (S.defined d)
shown_by S x e = None

abbrev pub made_in : Sites → ℕ → Act → Option ℕ
made_in S x (makes y j) = if nat_eq y x then Some j else None
made_in S x (tells e) = shown_by S x e
made_in S x a = None

abbrev pub made_by : Sites → ℕ → ℕ → Deed → Option ℕ
made_by S a x d = if nat_eq d.activation a then made_in S x d.act else None

-- the one that the activation made last
abbrev pub last_made : Sites → ℕ → ℕ → List Deed → Option ℕ
last_made S a x [] = None
last_made S a x (d ∷ rest) = or_else (last_made S a x rest) (made_by S a x d)

-- the number of the instance that an act makes, or 0
abbrev pub given_number : Cell → Option Local → ℕ
given_number c None = 0
given_number c (Some v) = if v.parameter then c.instance else 0

abbrev pub shown_number : Sites → Event → ℕ
shown_number S (Def d c) = given_number c (S.defined d)
shown_number S e = 0

abbrev pub number_of : Sites → Act → ℕ
number_of S (makes x j) = j
number_of S (tells e) = shown_number S e
number_of S a = 0

-- ---- in place

-- no act made an instance of that number or a greater one
abbrev pub IsNewest : Sites → List Deed → ℕ → Type 0
IsNewest S ds j = (p q : List Deed) (d : Deed) → ds ≡ p ++ d ∷ q → number_of S d.act < j

-- the cell is one of the variable's instance that the activation made last, and has one of the site's names
pub record InPlace (S : Sites) (ds : List Deed) (a : ℕ) (v : Local) (c : Cell) : Type 0 where
  pub made : last_made S a v.variable ds ≡ Some c.instance
  pub named : Contains v.names (S.leaf v.variable c.index)

abbrev pub IsDefined : Sites → List Deed → ℕ → Local → Cell → Bool → Type 0
IsDefined S ds a v c true = IsNewest S ds c.instance × Contains v.names (S.leaf v.variable c.index)
IsDefined S ds a v c false = InPlace S ds a v c

abbrev pub DefinedAt : Sites → List Deed → ℕ → Cell → Option Local → Type 0
DefinedAt S ds a c None = Unit {0}
DefinedAt S ds a c (Some v) = IsDefined S ds a v c v.parameter

abbrev pub UsedAt : Sites → List Deed → ℕ → Cell → Option Local → Type 0
UsedAt S ds a c None = Unit {0}
UsedAt S ds a c (Some v) = (1 ≤ a) × InPlace S ds a v c

abbrev pub ToldAt : Sites → List Deed → ℕ → Event → Type 0
ToldAt S ds a (Def d c) = DefinedAt S ds a c (S.defined d)
ToldAt S ds a (Use u c b) = UsedAt S ds a c (S.used u)
ToldAt S ds a e = Unit {0}

-- a further event of a definition, which is no parameter's, and is the last action
pub record IsFurther (S : Sites) (ds : List Deed) (a d : ℕ) (c : Cell) (v : Local) : Type 0 where
  pub no_parameter : v.parameter ≡ false
  pub place : InPlace S ds a v c
  pub before : List Action
  pub last : readings (own a ds) ≡ before ++ action.Define d ∷ []

abbrev pub IsRepeated : Sites → List Deed → ℕ → ℕ → Cell → Option Local → Type 0
IsRepeated S ds a d c None = Unit {0}
IsRepeated S ds a d c (Some v) = IsFurther S ds a d c v

-- a further event of a use, which is the last action
pub record IsFurtherUse (S : Sites) (ds : List Deed) (a u : ℕ) (c : Cell) (v : Local) : Type 0 where
  pub active : 1 ≤ a
  pub place : InPlace S ds a v c
  pub before : List Action
  pub last : readings (own a ds) ≡ before ++ action.Use u ∷ []

abbrev pub IsUsedAgain : Sites → List Deed → ℕ → ℕ → Cell → Option Local → Type 0
IsUsedAgain S ds a u c None = Unit {0}
IsUsedAgain S ds a u c (Some v) = IsFurtherUse S ds a u c v

abbrev pub RepeatedAt : Sites → List Deed → ℕ → Event → Type 0
RepeatedAt S ds a (Def d c) = IsRepeated S ds a d c (S.defined d)
RepeatedAt S ds a (Use u c b) = IsUsedAgain S ds a u c (S.used u)
RepeatedAt S ds a e = ⊥

-- an act of that activation behind these deeds
abbrev pub At : Sites → List Deed → ℕ → Act → Type 0
At S ds a (begins f) = Unit {0}
At S ds a (makes x j) = IsNewest S ds j
At S ds a (tells e) = ToldAt S ds a e
At S ds a (repeats e) = RepeatedAt S ds a e

abbrev pub AreInPlace : Sites → List Deed → Type 0
AreInPlace S ds = (p q : List Deed) (d : Deed) → ds ≡ p ++ d ∷ q → At S p d.activation d.act

-- ---- all that a definition defines

-- only one cell of the variable has the name
abbrev pub IsStrong : Sites → ℕ → Text → Type 0
IsStrong S x n = (i k : ℕ) → S.leaf x i ≡ n → S.leaf x k ≡ n → i ≡ k

-- a definition has one name, or stands behind the making of its variable
abbrev pub HasOneName : Sites → List Deed → ℕ → Local → Cell → Type 0
HasOneName S ds a v c = (v.names ≡ S.leaf v.variable c.index ∷ []) ⊎ ((front : List Act) × (j : ℕ) × (own a ds ≡ front ++ makes v.variable j ∷ []))

-- the definition of a further cell
abbrev pub further : ℕ → ℕ → Cell → Deed
further a d c = record { activation = a; act = repeats (Def d c) }

-- right behind it are its further cells, so that it defines each cell that alone has one of the names
pub record IsWhole (S : Sites) (behind : List Deed) (a d : ℕ) (c : Cell) (v : Local) : Type 0 where
  pub cells : List Cell
  pub rest : List Deed
  pub is : behind ≡ map (further a d) cells ++ rest
  pub all : (i : ℕ) → Contains v.names (S.leaf v.variable i) → IsStrong S v.variable (S.leaf v.variable i) → Contains (c ∷ cells) (record { instance = c.instance; index = i })

-- a parameter's definition is its making
abbrev pub IsFinished : Sites → List Deed → List Deed → ℕ → ℕ → Cell → Local → Bool → Type 0
IsFinished S ds behind a d c v true = Unit {0}
IsFinished S ds behind a d c v false = HasOneName S ds a v c ⊎ IsWhole S behind a d c v

abbrev pub AreFinished : Sites → List Deed → Type 0
AreFinished S ds = (p q : List Deed) (a d : ℕ) (c : Cell) (v : Local) → ds ≡ p ++ record { activation = a; act = tells (Def d c) } ∷ q → S.defined d ≡ Some v → IsFinished S p q a d c v v.parameter
