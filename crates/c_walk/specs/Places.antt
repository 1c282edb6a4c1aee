-- Places (C89, 3.2.2.1): variables, elements, fields, and what a pointer points to.
use Rattle.std.specs.Prelude.{◌++◌, [], ◌∷◌, Bool, true, false, Option, Some, None, option_map, if◌then◌else◌}
use Rattle.c_syntax.specs.declared.text.Text.{Text}
use Rattle.c_syntax.specs.declared.tree.UnaryOp.TheVariants as front
use Rattle.c_syntax.specs.Shape.{NoteShape, typed, name, unary, dot, NodeShape, node, ExprShape, leaf, paren, prefix, suffix, index, field}
use Rattle.c_type_rules.specs.Kinds.{is_scalar, is_structure}
use Rattle.c_constants.specs.Constants.{is_array}
use Rattle.c_walk.specs.Items.{Direct}

-- an expression is a place by its form
abbrev pub is_place : ExprShape → Bool
is_place (leaf (name x)) = true
is_place (suffix a (index b)) = true
is_place (suffix a (field h x q)) = true
is_place (prefix (unary front.Deref) a) = true
is_place _ = false

-- an integer or a pointer; an enumeration constant is no place
abbrev pub has_scalar : NoteShape → Bool
has_scalar (typed t n) = is_scalar t
has_scalar _ = false

abbrev pub has_structure : NoteShape → Bool
has_structure (typed t n) = is_structure t
has_structure _ = false

-- a structure, which `=` copies
abbrev pub holds_structure : NodeShape → Bool
holds_structure (node p o n f) = has_structure n

abbrev pub has_array : NodeShape → Bool
has_array (node p o (typed t n) f) = is_array t
has_array _ = false

-- ---- direct places

abbrev pub named : Text → NoteShape → Option Direct
named x (typed t (Some n)) = Some (record { variable = n; name = x; kind = t })
named x _ = None

-- a part of a direct place, with the text that stands for it
abbrev pub with_part : Text → NoteShape → Option Direct → Option Direct
with_part x (typed t n) d = option_map (λ d. record { variable = d.variable; name = d.name ++ x; kind = t }) d
with_part x _ d = None

abbrev pub element_text : Text
element_text = 91 ∷ 93 ∷ []

abbrev pub field_text : Text → Text
field_text x = 46 ∷ x

abbrev mutual
  pub direct : NodeShape → Option Direct
  direct (node p o n f) = direct_form n f

  pub direct_form : NoteShape → ExprShape → Option Direct
  direct_form n (leaf (name x)) = named x n
  direct_form n (paren a) = direct a
  direct_form n (suffix a (field dot x q)) = with_part (field_text x) n (direct a)
  -- an element is one of whichever of the two is an array (C89, 3.3.2.1)
  direct_form n (suffix a (index b)) = with_part element_text n (if has_array a then direct a else if has_array b then direct b else None)
  direct_form n _ = None
