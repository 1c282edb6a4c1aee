-- How a unit is typed (C89, 3.7), what is complained of in it, and which programs there are.
use Rattle.std.specs.Prelude.{◌≡◌, ℕ, ◌+◌, ◌-◌, ◌*◌, ◌≤◌, All, Contains, List, [], ◌∷◌, ◌++◌, length, map, nat_eq, nat_lt, bytes_eq, Bool, true, false, is_some, Option, Some, None, ◌&&◌, ◌||◌, if◌then◌else◌}
use Rattle.c_base.specs.declared.place.Pos.{Pos}
use Rattle.c_base.specs.declared.place.IntKind.TheVariants.{Int}
use Rattle.c_syntax.specs.declared.text.Text.{Text}
use Rattle.c_syntax.specs.declared.tree.ProgramLine.{ProgramLine}
use Rattle.c_syntax.specs.declared.tree.Named.{Named}
use Rattle.c_syntax.specs.declared.tree.ProbeMark.{ProbeMark}
use Rattle.c_syntax.specs.declared.tree.Star.{Star}
use Rattle.c_syntax.specs.Shape.{TypeOf, int, SpecShapes, no_specs, more_specs, DeclaratorShape, declarator, arrays, function, ParamsShape, MaybeInit, CompoundShape, ExternalShape, defined, declared, UnitShape}
use Rattle.c_tables.specs.Tables.{FunctionShape, TablesShape, with_definition}
use Rattle.c_tree.specs.declared.meaning.Complaint.{Complaint}
use Rattle.c_tree.specs.declared.meaning.Entity.{Entity}
use Rattle.c_tree.specs.declared.meaning.Entity.TheVariants as entity
use Rattle.c_tree.specs.declared.meaning.Side.TheVariants.{Neither}
use Rattle.c_tables.specs.declared.builtins.Builtin.TheVariants.{GetChar, PutChar, Exit}
use Rattle.c_tables.specs.Builtins.{builtin_name}
use Rattle.c_tree.specs.State.{State, step, steps, complain, demand, is_function}
use Rattle.c_tables.specs.Rows.{first_place}
use Rattle.c_tree.specs.Rulings.{kind_at, rule, by}
use Rattle.c_type_rules.specs.Verdicts.{result_type}
use Rattle.c_constants.specs.Probes.{digest_of}
use Rattle.c_tree.specs.Parts.{unspelled, spelled_rule, pointed, with_name}
use Rattle.c_tree.specs.Typing.{type_specs}
use Rattle.c_tree.specs.Declaring.{next_variable, with_variable, TypedFunction, type_function, type_decl, closed_scope, with_constants}
use Rattle.c_scopes.specs.Scoping.{find_here, entered}
use Rattle.c_tree.specs.Stating.{Surroundings, type_marks, type_compound}
use Rattle.c_tree.specs.Complaints.{no_main, stray, wrong_type}

-- ---- functions with bodies

-- in the body each parameter that has a name and a type is a variable
abbrev pub variable_of : Text → Option TypeOf → Option Entity → State → State
variable_of x k None s = with_variable x k s
variable_of x k (Some e) s = s

abbrev pub with_variables : List (Text × Option TypeOf) → State → State
with_variables [] s = s
with_variables ((x, k) ∷ rest) s = with_variables rest (variable_of x k (find_here x s.names) s)

abbrev pub numbers_from : ℕ → List (Text × Option TypeOf) → List ℕ
numbers_from n [] = []
numbers_from n (x ∷ rest) = n ∷ numbers_from (n + 1) rest

-- the function has a body from here on
abbrev pub begun_function : TypedFunction → State → State
begun_function f s = with_variables f.given (record s {
  names = with_constants s.listed (entered s.names);
  tables = with_definition f.number (numbers_from (next_variable s) f.given) s.tables;
  function = f.number;
  file = false;
})

abbrev pub ended_function : State → State
ended_function s = record (closed_scope s) { function = 0; file = true }

pub record TypedExternal : Type 0 where
  pub external : ExternalShape
  pub state : State

-- a function's result, block probes and body, behind its parentheses
abbrev pub type_definition : SpecShapes → TypedFunction → Option TypeOf → List ProbeMark → CompoundShape → TypedExternal
type_definition specs f k marks c =
    let t = type_compound (record { loop = false; breakable = false; result = k }) c (type_marks marks (begun_function f f.state)) in
    record { external = defined specs f.name marks t.compound; state = ended_function t.state }

-- where specifiers begin
abbrev pub specs_place : SpecShapes → Pos
specs_place no_specs = first_place
specs_place (more_specs p f rest) = p

-- a definition of anything but a function stands in no unit
abbrev pub type_external : ExternalShape → State → TypedExternal
type_external (declared d) s =
    let t = type_decl d s in
    record { external = declared t.decl; state = t.state }
type_external (defined specs (declarator stars x (function ps) i) marks c) s =
    let t = type_specs false specs unspelled s in
    let r = spelled_rule t.spelled in
    let f = type_function true (kind_at r) stars x ps i (rule r s.at (specs_place specs) t.state) in
    type_definition t.specs f (kind_at (by wrong_type (result_type (pointed stars (kind_at r))))) marks c
type_external (defined specs (declarator stars x (arrays ls) i) marks c) s =
    record { external = defined specs (declarator stars x (arrays ls) i) marks c; state = complain wrong_type s.at first_place s }

pub record TypedExternals : Type 0 where
  pub externals : List ExternalShape
  pub state : State

abbrev pub type_externals : List ExternalShape → State → TypedExternals
type_externals [] s = record { externals = []; state = s }
type_externals (e ∷ rest) s =
    let t = type_external e s in
    let r = type_externals rest t.state in
    record { externals = t.external ∷ r.externals; state = r.state }

-- ---- units

-- before the first token
abbrev pub start : Option (List Bool) → State
start known = record {
  at = 0;
  names = record { outer = []; top = (builtin_name GetChar, entity.Builtin GetChar) ∷ (builtin_name PutChar, entity.Builtin PutChar) ∷ (builtin_name Exit, entity.Builtin Exit) ∷ [] };
  tags = record { outer = []; top = [] };
  tables = record { structures = []; functions = []; variables = []; literals = [] };
  rooms = [];
  begun = [];
  params = [];
  listed = [];
  seen = record { blocks = []; tests = []; uses = []; defs = [] };
  quiet = false;
  side = Neither;
  file = true;
  function = 0;
  known = known;
  complaints = [];
}

-- the program line: word, parenthesis, string, parenthesis and semicolon
abbrev pub type_line : Option ProgramLine → State → State
type_line None s = s
type_line (Some l) s = steps 5 (demand (is_some (digest_of l.digest)) stray s.at l.pos s)

abbrev pub main_name : Text
main_name = 109 ∷ 97 ∷ 105 ∷ 110 ∷ []

-- int main(void), with a body
abbrev pub is_main : FunctionShape → Bool
is_main f = is_function main_name (int Int) [] f && is_some f.defined

abbrev pub any_main : List FunctionShape → Bool
any_main [] = false
any_main (f ∷ fs) = is_main f || any_main fs

pub record TypedUnit : Type 0 where
  pub unit : UnitShape
  pub state : State

abbrev pub type_unit : Option (List Bool) → UnitShape → TypedUnit
type_unit known u =
    let t = type_externals u.externals (type_line u.line (start known)) in
    record {
      unit = record u { externals = t.externals };
      state = demand (any_main t.state.tables.functions) no_main (t.state.at - 1) u.last t.state;
    }

-- which functions have bodies, if each call is allowed
abbrev pub bodies : UnitShape → List Bool
bodies u = map (λ f. is_some f.defined) (type_unit None u).state.tables.functions

-- the unit, where a call is one of a function with a body
abbrev pub typed_unit : UnitShape → TypedUnit
typed_unit u = type_unit (Some (bodies u)) u

abbrev pub complaints : UnitShape → List Complaint
complaints u = (typed_unit u).state.complaints

-- ---- the first complaint: by token, and at one token the lowest number

abbrev pub order : Complaint → ℕ
order c = c.token * 256 + c.number

abbrev pub comes_before : Complaint → Complaint → Type 0
comes_before a b = order a ≤ order b

-- the one that comes before the other
abbrev pub earlier : Complaint → Complaint → Complaint
earlier a b = if nat_lt (order a) (order b) then a else b

-- one of them, and none comes before it
pub record IsFirst (c : Complaint) (cs : List Complaint) : Type 0 where
  pub one : Contains cs c
  pub first : All (comes_before c) cs
