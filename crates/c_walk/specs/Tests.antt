-- Decisions: what stands at a test position, and what it may come to.
use Rattle.std.specs.Prelude.{ℤ, pos, ◌++◌, List, [], ◌∷◌, Bool, true, false, Option, Some, None, if◌then◌else◌}
use Rattle.c_base.specs.declared.place.IntKind.{IntKind}
use Rattle.c_arith.specs.Arith.{wrap}
use Rattle.c_type_rules.specs.Kinds.{promote}
use Rattle.c_syntax.specs.Shape.{int, NoteShape, typed, known, number, char, unary, Infix, plain, and, or, NodeShape, node, ExprShape, leaf, paren, cast, prefix, two, choose, LabelShape, case, default, ItemShapes, no_items, more_items}
use Rattle.c_constants.specs.declared.constants.Constant.{Constant}
use Rattle.c_constants.specs.declared.constants.Constant.TheVariants.{No, Known}
use Rattle.c_constants.specs.declared.numbers.Number.{Number}
use Rattle.c_constants.specs.Numbers.{number_of}
use Rattle.c_constants.specs.Constants as constants
use Rattle.c_walk.specs.Items.{Outcomes, both, only_true, only_false}

-- ---- tests

-- `&&` or `||`, in parentheses or not
abbrev mutual
  pub is_logical : NodeShape → Bool
  is_logical (node p o n f) = is_logical_form f

  pub is_logical_form : ExprShape → Bool
  is_logical_form (paren a) = is_logical a
  is_logical_form (two and a b) = true
  is_logical_form (two or a b) = true
  is_logical_form _ = false

-- an integer or a character constant has its own outcome alone
abbrev pub outcome_of : Constant → Outcomes
outcome_of (Known k v) = if constants.is_zero v then only_false else only_true
outcome_of _ = both

abbrev pub number_constant : Option Number → Constant
number_constant (Some n) = Known n.kind (pos n.value)
number_constant None = No

abbrev mutual
  pub outcomes : NodeShape → Outcomes
  outcomes (node p o n f) = outcomes_of_form f

  pub outcomes_of_form : ExprShape → Outcomes
  outcomes_of_form (paren a) = outcomes a
  outcomes_of_form (leaf (number t)) = outcome_of (number_constant (number_of t))
  outcomes_of_form (leaf (char c)) = outcome_of (constants.character c)
  outcomes_of_form _ = both

-- ---- case constants

-- an enumeration constant or a sizeof has its value in its note
abbrev pub noted_constant : NoteShape → Constant → Constant
noted_constant (known (int k) v) c = Known k v
noted_constant n c = c

abbrev pub cast_to : NoteShape → Constant → Constant
cast_to (typed t n) c = constants.cast t c
cast_to n c = No

abbrev pub joined : Infix → Constant → Constant → Constant
joined (plain u) a b = constants.binary u a b
joined and a b = constants.both a b
joined or a b = constants.either a b
joined _ a b = No

-- what is known of a constant expression (C89, 3.4)
abbrev mutual
  pub constant : NodeShape → Constant
  constant (node p o n f) = noted_constant n (constant_form n f)

  pub constant_form : NoteShape → ExprShape → Constant
  constant_form n (leaf (number t)) = number_constant (number_of t)
  constant_form n (leaf (char c)) = constants.character c
  constant_form n (paren a) = constant a
  constant_form n (prefix (unary u) a) = constants.unary u (constant a)
  constant_form n (cast t a) = cast_to n (constant a)
  constant_form n (two u a b) = joined u (constant a) (constant b)
  constant_form n (choose a b c) = constants.choice (constant a) (constant b) (constant c)
  constant_form n _ = No

-- the promoted type of what a switch chooses by (C89, 3.6.4.2), and a case constant converted to it
abbrev pub choosing : NodeShape → Option IntKind
choosing (node p o (typed (int k) n) f) = Some (promote k)
choosing (node p o (known (int k) v) f) = Some (promote k)
choosing _ = None

abbrev pub case_value : Option IntKind → Constant → ℤ
case_value (Some k) (Known j v) = wrap k v
case_value _ _ = pos 0

abbrev pub label_values : Option IntKind → List LabelShape → List ℤ
label_values k [] = []
label_values k (case p a ∷ labels) = case_value k (constant a) ∷ label_values k labels
label_values k (default p ∷ labels) = label_values k labels

-- the case constants of a switch, in order
abbrev pub case_values : Option IntKind → ItemShapes → List ℤ
case_values k no_items = []
case_values k (more_items labels a rest) = label_values k labels ++ case_values k rest
