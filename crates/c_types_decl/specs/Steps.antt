-- Parts of the steps that declarations take.
use Rattle.std.specs.Prelude.{ℕ, Bool, false, List, [], ◌∷◌, Option}
use Rattle.c_base.specs.declared.place.Pos.{Pos}
use Rattle.c_syntax.specs.declared.text.Text.{Text}
use Rattle.c_syntax.specs.declared.tree.Named.{Named}
use Rattle.c_syntax.specs.declared.tree.Star.{Star}
use Rattle.c_syntax.specs.Shape.{TypeOf, SpecShapes, LengthShapes, DeclShape, decl, declarator, no_declarators, more_declarators, DeclFormShape, arrays, function, MaybeInit}
use Rattle.c_type_rules.specs.Layouts.{Measure}
use Rattle.c_tree.specs.State.{State, steps, complain}
use Rattle.c_tables.specs.Rows.{first_place, text_of, name_pos}
use Rattle.c_tree.specs.Rulings.{Ruled, then_rule, kind_at, rule}
use Rattle.c_tree.specs.Parts.{Length, unspelled, spelled_rule, pointed, star_tokens}
use Rattle.c_tree.specs.Initialisers.{lengths_with}
use Rattle.c_tree.specs.Typing.{type_specs, type_lengths}
use Rattle.c_tree.specs.Declaring.{name_tokens, claim_name, token_of_name, with_lengths, variable_rule, declare_variable, element_pointer, parameter_rule, name_demand, declare_parameter}
use Rattle.c_tree.specs.Complaints.{wrong_type}

-- ---- names

abbrev pub place_of : Option Named → Pos
place_of x = name_pos first_place x

-- behind a name, whose probe was claimed
abbrev pub claimed_name : Bool → Option Named → State → State
claimed_name fits x s = steps (name_tokens x) (claim_name fits x s)

-- ---- variables

abbrev pub ruled_variable : List Star → MaybeInit → List Length → Option TypeOf → State → Ruled
ruled_variable stars i ls k s = variable_rule s.rooms (lengths_with i ls) (pointed stars k)

-- the variable as it was ruled, or the complaint and what has no type
abbrev pub settled_variable : ℕ → Option Named → Ruled → State → State
settled_variable token x r s = declare_variable token (place_of x) (text_of x) (kind_at r) (rule r token (place_of x) s)

-- ---- parameters

-- a pointer to an array with these lengths
abbrev pub pointer_to_element : List Measure → List Length → TypeOf → Ruled
pointer_to_element rooms ls t = then_rule (with_lengths ls t) (element_pointer rooms)

-- the parameter as it was ruled, or the complaint and what has no type
abbrev pub settled_parameter : ℕ → Pos → Option Named → Ruled → State → State
settled_parameter token p x r s = declare_parameter token x (kind_at r) (rule r token (name_pos p x) s)

-- a parameter's declarator
pub record TypedDeclared : Type 0 where
  pub lengths : LengthShapes
  pub kind : Option TypeOf
  pub state : State

-- of a parameter that begins at the first token, and before whose stars the type stands
abbrev pub type_declared : Bool → ℕ → Pos → Option TypeOf → List Star → Option Named → LengthShapes → State → TypedDeclared
type_declared defining first p k stars x ls s =
    let begun = steps (star_tokens stars) s in
    let l = type_lengths [] ls (claimed_name defining x begun) in
    let r = parameter_rule l.state.rooms l.counts (pointed stars k) in
    record { lengths = l.lengths; kind = kind_at r; state = settled_parameter (token_of_name first x begun) p x r (name_demand defining x first p l.state) }

-- a parameter with arrays: its specifiers, and its declarator
pub record TypedParts : Type 0 where
  pub specs : SpecShapes
  pub lengths : LengthShapes
  pub kind : Option TypeOf
  pub state : State

abbrev pub type_parts : Bool → Pos → SpecShapes → List Star → Option Named → LengthShapes → State → TypedParts
type_parts defining p specs stars x ls s =
    let t = type_specs false specs unspelled s in
    let r = spelled_rule t.spelled in
    let a = type_declared defining s.at p (kind_at r) stars x ls (rule r s.at p t.state) in
    record { specs = t.specs; lengths = a.lengths; kind = a.kind; state = a.state }

-- a declaration of a parameter list with one declarator: what it gives, a parameter or nothing
pub record TypedForm : Type 0 where
  pub specs : SpecShapes
  pub form : DeclFormShape
  pub given : List (Text × Option TypeOf)
  pub state : State

abbrev pub type_form : Bool → Pos → SpecShapes → List Star → Option Named → DeclFormShape → State → TypedForm
type_form defining p specs stars x (arrays ls) s =
    let a = type_parts defining p specs stars x ls s in
    record { specs = a.specs; form = arrays a.lengths; given = (text_of x, a.kind) ∷ []; state = a.state }
type_form defining p specs stars x (function ps) s = record { specs = specs; form = function ps; given = []; state = complain wrong_type s.at first_place s }

-- a declaration of a parameter list
pub record TypedItem : Type 0 where
  pub param : DeclShape
  pub given : List (Text × Option TypeOf)
  pub state : State

abbrev pub item_of : Pos → List Star → Option Named → MaybeInit → TypedForm → TypedItem
item_of p stars x i f = record { param = decl p f.specs (more_declarators (declarator stars x f.form i) no_declarators); given = f.given; state = f.state }

abbrev pub type_item : Bool → DeclShape → State → TypedItem
type_item defining (decl p specs (more_declarators (declarator stars x f i) no_declarators)) s = item_of p stars x i (type_form defining p specs stars x f s)
type_item defining d s = record { param = d; given = []; state = complain wrong_type s.at first_place s }
