-- How many labels a switch has.
use Rattle.std.specs.Prelude.{ℕ, ◌+◌, ◌≤◌, length}
use Rattle.std.specs.List.{AllByRecursion}
use Rattle.c_syntax.specs.Shape.{StmtShape, stmt, FormShape, compound, simply, when, either, while, do_while, for, switch, break, continue, return, CompoundShape, braces, ItemShapes, no_items, more_items, ExternalShape, defined, declared, UnitShape}
use Rattle.c_syntax.specs.Grammar.{tokens_of}

-- directly in the switch, with those of `default`
abbrev pub label_count : ItemShapes → ℕ
label_count no_items = 0
label_count (more_items labels a rest) = length labels + label_count rest

-- the predicate holds of what stands in the braces of each switch
abbrev mutual
  pub Switches : (ItemShapes → Type 0) → StmtShape → Type 0
  Switches P (stmt p ms q f) = FormSwitches P f

  pub FormSwitches : (ItemShapes → Type 0) → FormShape → Type 0
  FormSwitches P (compound c) = BraceSwitches P c
  FormSwitches P (simply e) = Unit {0}
  FormSwitches P (when e a) = Switches P a
  FormSwitches P (either e a b) = Switches P a × Switches P b
  FormSwitches P (while e a) = Switches P a
  FormSwitches P (do_while a e) = Switches P a
  FormSwitches P (for e f g a) = Switches P a
  FormSwitches P (switch e items) = P items × ItemSwitches P items
  FormSwitches P break = Unit {0}
  FormSwitches P continue = Unit {0}
  FormSwitches P (return e) = Unit {0}

  pub BraceSwitches : (ItemShapes → Type 0) → CompoundShape → Type 0
  BraceSwitches P (braces p ds items) = ItemSwitches P items

  pub ItemSwitches : (ItemShapes → Type 0) → ItemShapes → Type 0
  ItemSwitches P no_items = Unit {0}
  ItemSwitches P (more_items labels a rest) = Switches P a × ItemSwitches P rest

abbrev pub ExternalSwitches : (ItemShapes → Type 0) → ExternalShape → Type 0
ExternalSwitches P (defined specs d ms c) = BraceSwitches P c
ExternalSwitches P (declared d) = Unit {0}

abbrev pub AllSwitches : (ItemShapes → Type 0) → UnitShape → Type 0
AllSwitches P u = AllByRecursion (ExternalSwitches P) u.externals

-- each switch of a unit has at most as many labels as the unit has tokens
abbrev pub LabelsAreNoMore : Type 0
LabelsAreNoMore = (u : UnitShape) → AllSwitches (λ items. label_count items ≤ length (tokens_of u)) u
