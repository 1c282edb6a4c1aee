-- What a function's name stands for.
use Rattle.std.specs.Prelude.{ℕ, ◌-◌, Bool, false, Vec, List, [], ◌∷◌, map, Option, Some, None, if◌then◌else◌}
use Rattle.std.specs.Global.{Global}
use Rattle.c_base.specs.declared.place.IntKind.TheVariants.{Int}
use Rattle.c_syntax.specs.declared.text.Text.{Text}
use Rattle.c_syntax.specs.declared.tree.CType.{CType}
use Rattle.c_syntax.specs.declared.tree.Named.{Named}
use Rattle.c_syntax.specs.Shape.{TypeOf, int, ParamsShape}
use Rattle.c_syntax.specs.View.{type_of}
use Rattle.c_type_rules.specs.Verdicts.{result_type}
use Rattle.c_tree.specs.State.{State, Numbered, same_types}
use Rattle.c_tree.specs.Rulings.{by, kind_at, rule}
use Rattle.c_tree.specs.Parts.{within, outside}
use Rattle.c_tables.specs.Rows.{text_of}
use Rattle.c_tables.specs.Tables.{TablesShape, changed_at}
use Rattle.c_tree.specs.declared.meaning.Entity.{Entity}
use Rattle.c_tree.specs.declared.meaning.Entity.TheVariants as entity
use Rattle.c_tables.specs.declared.builtins.Builtin.{Builtin}
use Rattle.c_tables.specs.declared.builtins.Builtin.TheVariants.{GetChar, PutChar, Exit}
use Rattle.c_tree.specs.Declaring.{Signature, signature_of, is_builtin, opened_scope, closed_params, TypedSignature, type_params, all_kinds, with_body, declare_function}
use Rattle.c_types_decl.specs.Steps.{place_of, claimed_name}
use Rattle.c_tree.specs.Complaints.{wrong_type}

abbrev pub signature : TypeOf → List TypeOf → Signature
signature t ts = record { result = t; params = ts }

abbrev pub are_one_int : List TypeOf → Bool
are_one_int ts = same_types ts (int Int ∷ [])

-- the built-in function of that name and type, if it is one
abbrev pub builtin_of : Text → Signature → Option Builtin
builtin_of x f =
    if is_builtin GetChar x f then Some GetChar else if is_builtin PutChar x f then Some PutChar else if is_builtin Exit x f then Some Exit else None

-- or the one with that number
abbrev pub entity_or : Option Builtin → ℕ → Entity
entity_or None n = entity.Function n
entity_or (Some b) n = entity.Builtin b

-- the types, if each is there
abbrev pub types_in : Option (Vec CType Global) → Option (List TypeOf)
types_in None = None
types_in (Some v) = Some (map type_of v.items)

-- the function with that number has a body, if it has that name
abbrev pub with_body_at : Text → ℕ → TablesShape → TablesShape
with_body_at x i t = record t { functions = changed_at (with_body x) (i - 1) t.functions }

-- ---- functions

-- behind a function's name its parameters, in a scope of their own
abbrev pub type_enclosed : Bool → Option Named → ParamsShape → State → TypedSignature
type_enclosed defining x ps s =
    let q = type_params defining ps (within (opened_scope (claimed_name false x s))) in
    record { params = q.params; given = q.given; state = closed_params defining q.state }

-- the function that gives that type and takes those parameters
abbrev pub settled_function : Bool → Bool → ℕ → Option Named → Option TypeOf → List (Text × Option TypeOf) → State → Numbered
settled_function defining file token x k gs s =
    let r = by wrong_type (result_type k) in
    declare_function defining token (place_of x) (text_of x) (signature_of (kind_at r) (all_kinds gs)) (outside file (rule r token (place_of x) s))
