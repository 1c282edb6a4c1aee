-- Parts of a program, the roles that they stand in, and which kinds of items they are. Each kind is told by the part and its role alone.
use Rattle.std.specs.Prelude.{◌&&◌, ◌||◌, ◌++◌, List, [], ◌∷◌, not, Bool, true, false, Option, Some, None, is_some, if◌then◌else◌}
use Rattle.c_base.specs.declared.place.Pos.{Pos}
use Rattle.c_syntax.specs.declared.tree.Named.{Named}
use Rattle.c_syntax.specs.Shape.{NodeShape, node, DeclShape, decl, LabelShape, StmtShape, stmt, CompoundShape, braces, ItemShapes, UnitShape}
use Rattle.c_tables.specs.Rows.{first_place, name_pos}
use Rattle.c_walk.specs.declared.around.Taken.{Taken}
use Rattle.c_walk.specs.declared.around.Taken.TheVariants.{Read}
use Rattle.c_walk.specs.Items.{Outcomes, cases}
use Rattle.c_walk.specs.Places.{is_place}
use Rattle.c_walk.specs.Tests.{is_logical, outcomes, choosing, case_values}
use Rattle.c_walk.specs.Walked.{is_written, is_used}

-- ---- parts

-- a declared name stands for its variable; a function that is defined has its name
pub data What : Type 0 where
  expression : NodeShape → What
  statement : StmtShape → What
  body : CompoundShape → What
  name : Option Named → What
  declaration : DeclShape → What
  definition : Option Named → What
  whole : UnitShape → What

-- how a part stands in the part that holds it
pub data Role : Type 0 where
  -- an operand, an argument, an initialiser or the expression of a statement, and what is done with its value
  operand : Taken → Role
  -- the test of an `if`, the left operand of `&&` or `||`, or the first one of `?:`
  tested : Role
  -- the right operand of `&&` or `||`, or the test of a loop
  tested_apart : Role
  -- the second or the third operand of `?:`, or the step of a `for`
  apart : Role
  -- what a `switch` with these statements chooses by
  chosen_by : ItemShapes → Role
  -- a substatement of an `if`, an `else` or a loop, or the body of a function
  controlled : Role
  -- in a list of statements, with these labels, behind one that splits the list or not
  listed : Bool → List LabelShape → Role
  -- a variable that has a value from its declaration on
  defined : Role
  other : Role

pub record Part : Type 0 where
  pub role : Role
  pub what : What

-- the place of its first token, a name's own place
abbrev pub place_of : What → Pos
place_of (expression (node p o n f)) = p
place_of (statement (stmt p marks q f)) = p
place_of (body (braces p ds items)) = p
place_of (name x) = name_pos first_place x
place_of (declaration (decl p specs names)) = p
place_of (definition x) = name_pos first_place x
place_of (whole u) = u.pos

-- ---- which of them are items

abbrev pub has_label : List LabelShape → Bool
has_label [] = false
has_label (l ∷ ls) = true

-- a block begins with it
abbrev pub is_block : Role → Bool
is_block tested_apart = true
is_block apart = true
is_block controlled = true
is_block (listed after labels) = after || has_label labels
is_block _ = false

abbrev pub is_tested : Role → Bool
is_tested tested = true
is_tested tested_apart = true
is_tested _ = false

-- what it may come to, if it is a decision: what is tested is one, but for `&&` and `||`, and so is what a `switch` chooses by
abbrev pub decided : Role → What → Option Outcomes
decided (chosen_by items) (expression a) = Some (cases (case_values (choosing a) items))
decided r (expression a) = if is_tested r && not (is_logical a) then Some (outcomes a) else None
decided r w = None

-- what is done with an expression's value
abbrev pub taken : Role → Taken
taken (operand k) = k
taken _ = Read

abbrev pub is_def : Role → What → Bool
is_def r (expression (node p o n f)) = is_place f && is_written (taken r)
is_def defined (name x) = true
is_def r w = false

abbrev pub is_use : Role → What → Bool
is_use r (expression (node p o n f)) = is_place f && is_used (taken r) n
is_use r w = false

-- the kinds of items
pub data Kind : Type 0 where
  block : Kind
  decision : Outcomes → Kind
  def : Kind
  used : Kind

abbrev pub kind_if : Bool → Kind → List Kind
kind_if true k = k ∷ []
kind_if false k = []

abbrev pub kind_of_decision : Option Outcomes → List Kind
kind_of_decision None = []
kind_of_decision (Some o) = decision o ∷ []

-- the kinds that a part is, in the order in which its items stand
abbrev pub kinds : Part → List Kind
kinds x = kind_if (is_block x.role) block ++ (kind_of_decision (decided x.role x.what) ++ (kind_if (is_def x.role x.what) def ++ kind_if (is_use x.role x.what) used))

-- ---- tests

abbrev pub is_decision : Part → Bool
is_decision x = is_some (decided x.role x.what)

-- a variable is declared, with or without a value
abbrev pub is_variable_name : What → Bool
is_variable_name (name x) = true
is_variable_name w = false

abbrev pub is_variable : Part → Bool
is_variable x = is_variable_name x.what

abbrev pub is_function_definition : What → Bool
is_function_definition (definition x) = true
is_function_definition w = false

-- a function is defined
abbrev pub is_definition : Part → Bool
is_definition x = is_function_definition x.what
