-- What is counted in a program, in the order of its tree: an outer node before the nodes in it, and these in the order of their tokens.
use Rattle.std.specs.Prelude.{ℕ, ℤ, ◌+◌, List, [], ◌∷◌, Option}
use Rattle.c_base.specs.declared.place.Pos.{Pos}
use Rattle.c_syntax.specs.declared.text.Text.{Text}
use Rattle.c_syntax.specs.Shape.{TypeOf}
use Rattle.c_base.specs.declared.labels.OutcomeLabel.{OutcomeLabel}
use Rattle.c_base.specs.declared.labels.OutcomeLabel.TheVariants.{True, False, Case, Rest}

-- a direct place: a variable, a field of a direct place, or an element of a direct place that is an array. It has the variable's number,
-- its own name, which is the variable's with each field as `.f` and each index as `[]`, and its type
pub record Direct : Type 0 where
  pub variable : ℕ
  pub name : Text
  pub kind : TypeOf

-- what a decision may come to: true or false, one of the two alone, or one of these case constants or none of them
pub data Outcomes : Type 0 where
  both : Outcomes
  only_true : Outcomes
  only_false : Outcomes
  cases : List ℤ → Outcomes

-- an outcome with its label: 1 is true and 2 is false; of a switch the i-th is its i-th case, and the last one is the rest
abbrev pub case_labels : ℕ → List ℤ → List (ℕ × OutcomeLabel)
case_labels i [] = (i, Rest) ∷ []
case_labels i (v ∷ vs) = (i, Case v) ∷ case_labels (i + 1) vs

abbrev pub labels : Outcomes → List (ℕ × OutcomeLabel)
labels both = (1, True) ∷ (2, False) ∷ []
labels only_true = (1, True) ∷ []
labels only_false = (2, False) ∷ []
labels (cases vs) = case_labels 1 vs

-- each with the place of its first token, a declared name's with that of the name. A site has the number of the function that it stands in, or 0,
-- and its place, if it is direct; a use has the number of the decision whose expression holds it, the innermost one, if there is one
pub data Item : Type 0 where
  block : Pos → Item
  decision : Pos → Outcomes → Item
  def : Pos → ℕ → Option Direct → Item
  used : Pos → ℕ → Option Direct → Option ℕ → Item
