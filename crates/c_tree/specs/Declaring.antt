-- How declarations are typed (C89, 3.5): variables, functions, parameters.
use Rattle.std.specs.Prelude.{ℕ, ℤ, ◌+◌, ◌-◌, ◌++◌, ◌&&◌, ◌||◌, List, [], ◌∷◌, length, map, nat_eq, Bool, true, false, not, is_some, Option, Some, None, option_map, if◌then◌else◌}
use Rattle.std.specs.Ordering.{int_eq}
use Rattle.c_base.specs.declared.place.Pos.{Pos}
use Rattle.c_syntax.specs.declared.text.Text.{Text}
use Rattle.c_syntax.specs.declared.tree.Named.{Named}
use Rattle.c_syntax.specs.declared.tree.ProbeMark.{ProbeMark}
use Rattle.c_syntax.specs.declared.tree.Star.{Star}
use Rattle.c_syntax.specs.Shape.{TypeOf, pointer, def, SpecShapes, no_specs, DeclShape, decl, DeclShapes, no_decls, more_decls, DeclaratorShape, declarator, DeclaratorShapes, no_declarators, more_declarators, DeclFormShape, arrays, function, ParamsShape, empty, void, params, LengthShapes, MaybeInit, no_init, one_init}
use Rattle.c_type_rules.specs.Layouts.{Measure, known, incomplete, too_large, measure}
use Rattle.c_type_rules.specs.Verdicts.{parameter_type, result_type}
use Rattle.c_scopes.specs.Rows.{Scope, Scoped}
use Rattle.c_scopes.specs.Scoping.{find_here, declared, entered, left, closed}
use Rattle.c_tables.specs.Tables.{FunctionShape, VariableShape, TablesShape}
use Rattle.c_tree.specs.declared.meaning.Entity.{Entity}
use Rattle.c_tree.specs.declared.meaning.Entity.TheVariants as entity
use Rattle.c_tables.specs.declared.builtins.Builtin.{Builtin}
use Rattle.c_tables.specs.declared.builtins.Builtin.TheVariants.{GetChar, PutChar, Exit}
use Rattle.c_tables.specs.Builtins.{builtin_name, builtin_result, builtin_params}
use Rattle.c_tree.specs.State.{State, step, steps, complain, demand, is_clean, is_function, Numbered, mention}
use Rattle.c_tables.specs.Rows.{first_place, row, has_name, text_of, name_pos}
use Rattle.c_tree.specs.Rulings.{Ruled, allowed, unsettled, refused, by, then_rule, kind_at, rule, of_kind, whole}
use Rattle.c_tree.specs.Operators.{claim}
use Rattle.c_tree.specs.Parts.{Length, counted, left_out, unclear, TypedLengths, pointed, star_tokens, arrays_of, unspelled, spelled_rule, with_name}
use Rattle.c_tree.specs.Initialisers.{lengths_with, TypedInit, type_init}
use Rattle.c_tree.specs.Typing.{type_specs, type_lengths}
use Rattle.c_tree.specs.Complaints.{declared_twice, incomplete_type, stray, too_large_type, wrong_type}

-- ---- declared names

-- the tokens of a name with the probe round it
abbrev pub probe_tokens : ℕ → Option ProbeMark → ℕ
probe_tokens n None = 0
probe_tokens n (Some m) = n

abbrev pub name_tokens : Option Named → ℕ
name_tokens None = 0
name_tokens (Some x) = 1 + probe_tokens 5 x.probe

-- a probe round a name, at its word: its number, and whether one may stand there
abbrev pub claim_mark : Bool → Option ProbeMark → State → State
claim_mark fits None s = s
claim_mark fits (Some m) s = demand fits stray s.at m.pos (claim def m.number s.at m.pos s)

abbrev pub claim_name : Bool → Option Named → State → State
claim_name fits None s = s
claim_name fits (Some x) s = claim_mark fits x.probe s

abbrev pub token_of_name : ℕ → Option Named → State → ℕ
token_of_name first None s = first
token_of_name first (Some x) s = (steps (probe_tokens 4 x.probe) s).at

-- ---- variables

abbrev pub next_variable : State → ℕ
next_variable s = length s.tables.variables + 1

abbrev pub with_row : Text → TypeOf → State → State
with_row x t s =
    record s { tables = record s.tables { variables = s.tables.variables ++ record { name = x; kind = t; function = s.function } ∷ [] } }

abbrev pub with_variable : Text → Option TypeOf → State → State
with_variable x None s = with_name x entity.Unknown s
with_variable x (Some t) s = with_name x (entity.Variable (next_variable s)) (with_row x t s)

abbrev pub variable_at : ℕ → Pos → Text → Option TypeOf → Option Entity → State → State
variable_at token p x k None s = with_variable x k s
variable_at token p x k (Some e) s = complain declared_twice token p s

abbrev pub declare_variable : ℕ → Pos → Text → Option TypeOf → State → State
declare_variable token p x k s = variable_at token p x k (find_here x s.names) s

abbrev pub any_unclear : List Length → Bool
any_unclear [] = false
any_unclear (unclear ∷ ls) = true
any_unclear (l ∷ ls) = any_unclear ls

abbrev pub any_left_out : List Length → Bool
any_left_out [] = false
any_left_out (left_out ∷ ls) = true
any_left_out (l ∷ ls) = any_left_out ls

-- the type with its lengths; each must be there
abbrev pub with_lengths : List Length → TypeOf → Ruled
with_lengths ls t =
    if any_unclear ls then unsettled else if any_left_out ls then refused incomplete_type else of_kind (arrays_of ls (Some t)) allowed

abbrev pub room_rule : List Measure → Ruled → Ruled
room_rule rooms (allowed t) = whole rooms t
room_rule rooms r = r

-- what stands behind the specifiers, with the stars and lengths of a declarator
abbrev pub variable_rule : List Measure → List Length → Option TypeOf → Ruled
variable_rule rooms ls k = room_rule rooms (of_kind k (with_lengths ls))

abbrev pub has_init : MaybeInit → Bool
has_init no_init = false
has_init (one_init i) = true

pub record TypedMaybeInit : Type 0 where
  pub init : MaybeInit
  pub state : State

abbrev pub an_init : TypedInit → TypedMaybeInit
an_init i = record { init = one_init i.init; state = i.state }

-- behind an equal sign
abbrev pub type_maybe_init : Bool → Option TypeOf → MaybeInit → State → TypedMaybeInit
type_maybe_init c k no_init s = record { init = no_init; state = s }
type_maybe_init c k (one_init i) s = an_init (type_init c k i (step s))

pub record TypedDeclarator : Type 0 where
  pub name : DeclaratorShape
  pub state : State

-- a variable, of what stands before its stars
abbrev pub type_variable : Option TypeOf → List Star → Option Named → LengthShapes → MaybeInit → State → TypedDeclarator
type_variable k stars x ls i s =
    let begun = steps (star_tokens stars) s in
    let l = type_lengths [] ls (steps (name_tokens x) (claim_name (nat_eq s.function 0 || has_init i) x begun)) in
    let token = token_of_name begun.at x begun in
    let r = variable_rule l.state.rooms (lengths_with i l.counts) (pointed stars k) in
    let d = declare_variable token (name_pos first_place x) (text_of x) (kind_at r) (rule r token (name_pos first_place x) l.state) in
    let j = type_maybe_init (nat_eq s.function 0) (kind_at r) i d in
    record { name = declarator stars x (arrays l.lengths) j.init; state = j.state }

-- ---- parameters

pub record TypedParam : Type 0 where
  pub param : DeclShape
  pub kind : Option TypeOf
  pub state : State

pub record TypedParams : Type 0 where
  pub params : DeclShapes
  -- each with its name, and its type where no complaint stands inside
  pub given : List (Text × Option TypeOf)
  pub state : State

abbrev pub with_parameter : Text → Option TypeOf → State → State
with_parameter x None s = with_name x entity.Unknown s
with_parameter x (Some t) s = with_name x (entity.Parameter (length s.params + 1)) (record s { params = s.params ++ t ∷ [] })

abbrev pub parameter_at : ℕ → Pos → Text → Option TypeOf → Option Entity → State → State
parameter_at token p x k None s = with_parameter x k s
parameter_at token p x k (Some e) s = complain declared_twice token p s

-- a parameter without a name declares nothing
abbrev pub declare_parameter : ℕ → Option Named → Option TypeOf → State → State
declare_parameter token None k s = s
declare_parameter token (Some x) k s = parameter_at token x.pos x.text k (find_here x.text s.names) s

-- a pointer to an element of that room, which isn't too large; it may be incomplete
abbrev pub by_element : Measure → TypeOf → Ruled
by_element (known e) t = allowed (pointer t)
by_element incomplete t = allowed (pointer t)
by_element too_large t = refused too_large_type

abbrev pub element_pointer : List Measure → TypeOf → Ruled
element_pointer rooms t = by_element (measure rooms t) t

-- an array is a pointer to its element, whatever its length
abbrev pub element_lengths : List Measure → List Length → TypeOf → Ruled
element_lengths rooms [] t = allowed t
element_lengths rooms (unclear ∷ ls) t = unsettled
element_lengths rooms (l ∷ ls) t = then_rule (with_lengths ls t) (element_pointer rooms)

abbrev pub scalar_rule : Ruled → Ruled
scalar_rule (allowed t) = by wrong_type (parameter_type (Some t))
scalar_rule r = r

abbrev pub parameter_rule : List Measure → List Length → Option TypeOf → Ruled
parameter_rule rooms ls k = scalar_rule (of_kind k (element_lengths rooms ls))

-- a parameter of a definition has a name
abbrev pub name_demand : Bool → Option Named → ℕ → Pos → State → State
name_demand true None first p s = complain stray first p s
name_demand _ x first p s = s

-- defining: the list is a definition's
abbrev pub type_param : Bool → Pos → SpecShapes → List Star → Option Named → LengthShapes → MaybeInit → State → TypedParam
type_param defining p specs stars x ls i s =
    let t = type_specs false specs unspelled s in
    let r = spelled_rule t.spelled in
    let begun = steps (star_tokens stars) (rule r s.at p t.state) in
    let l = type_lengths [] ls (steps (name_tokens x) (claim_name defining x begun)) in
    let token = token_of_name s.at x begun in
    let k = parameter_rule l.state.rooms l.counts (pointed stars (kind_at r)) in
    let d = declare_parameter token x (kind_at k) (rule k token (name_pos p x) (name_demand defining x s.at p l.state)) in
    record { param = decl p t.specs (more_declarators (declarator stars x (arrays l.lengths) i) no_declarators); kind = kind_at k; state = d }

abbrev pub one_param : Option Named → TypedParam → TypedParams → TypedParams
one_param x a r = record { params = more_decls a.param r.params; given = (text_of x, a.kind) ∷ r.given; state = r.state }

-- each parameter with the comma or parenthesis behind it; other declarations than parameters stand in no list
abbrev pub type_param_list : Bool → DeclShapes → State → TypedParams
type_param_list defining no_decls s = record { params = no_decls; given = []; state = s }
type_param_list defining (more_decls (decl p specs (more_declarators (declarator stars x (arrays ls) i) no_declarators)) rest) s =
    let a = type_param defining p specs stars x ls i s in
    one_param x a (type_param_list defining rest (step a.state))
type_param_list defining (more_decls d rest) s =
    let r = type_param_list defining rest (step (complain wrong_type s.at first_place s)) in
    record r { params = more_decls d r.params }

pub record TypedSignature : Type 0 where
  pub params : ParamsShape
  pub given : List (Text × Option TypeOf)
  pub state : State

abbrev pub listed_params : TypedParams → TypedSignature
listed_params r = record { params = params r.params; given = r.given; state = r.state }

-- the parentheses with what stands in them
abbrev pub type_params : Bool → ParamsShape → State → TypedSignature
type_params defining empty s = record { params = empty; given = []; state = steps 2 s }
type_params defining void s = record { params = void; given = []; state = steps 3 s }
type_params defining (params ds) s = listed_params (type_param_list defining ds (step (record s { params = [] })))

-- ---- functions

abbrev pub opened_scope : State → State
opened_scope s = record s { names = entered s.names; tags = entered s.tags }

abbrev pub closed_scope : State → State
closed_scope s = record s { names = left s.names; tags = left s.tags }

abbrev pub all_kinds : List (Text × Option TypeOf) → Option (List TypeOf)
all_kinds [] = Some []
all_kinds ((x, None) ∷ rest) = None
all_kinds ((x, Some t) ∷ rest) = option_map (λ ts. t ∷ ts) (all_kinds rest)

-- a function's type: what it gives, and its parameters
pub record Signature : Type 0 where
  pub result : TypeOf
  pub params : List TypeOf

abbrev pub signature_of : Option TypeOf → Option (List TypeOf) → Option Signature
signature_of (Some t) (Some ts) = Some (record { result = t; params = ts })
signature_of _ _ = None

abbrev pub is_builtin : Builtin → Text → Signature → Bool
is_builtin b x f = is_function x f.result f.params (record { name = builtin_name b; result = builtin_result b; params = builtin_params b; defined = None })

abbrev pub function_entity : Text → Signature → ℕ → Entity
function_entity x f n =
    if is_builtin GetChar x f then entity.Builtin GetChar
    else if is_builtin PutChar x f then entity.Builtin PutChar
    else if is_builtin Exit x f then entity.Builtin Exit
    else entity.Function n

abbrev pub same_builtin : Builtin → Builtin → Bool
same_builtin GetChar GetChar = true
same_builtin PutChar PutChar = true
same_builtin Exit Exit = true
same_builtin _ _ = false

-- the two are one function; what stands for nothing may be any
abbrev pub same_function : Entity → Entity → Bool
same_function (entity.Function n) (entity.Function m) = nat_eq n m
same_function (entity.Builtin a) (entity.Builtin b) = same_builtin a b
same_function e entity.Unknown = true
same_function _ _ = false

abbrev pub names_function : Entity → Bool
names_function (entity.Function n) = true
names_function (entity.Builtin b) = true
names_function entity.Unknown = true
names_function _ = false

abbrev pub has_body : Option FunctionShape → Bool
has_body None = false
has_body (Some f) = is_some f.defined

-- it counts as defined already
abbrev pub is_defined : Entity → State → Bool
is_defined (entity.Function n) s = has_body (row s.tables.functions n)
is_defined entity.Unknown s = false
is_defined _ s = true

abbrev pub function_at : Bool → ℕ → Pos → Text → Entity → Option Entity → State → State
function_at defining token p x e None s = with_name x e s
function_at defining token p x e (Some o) s = demand (same_function e o && not (defining && is_defined e s)) declared_twice token p s

-- a function of an unclear type, which is equal to every other
abbrev pub unclear_at : Bool → ℕ → Pos → Text → Option Entity → State → State
unclear_at defining token p x None s = with_name x entity.Unknown s
unclear_at defining token p x (Some o) s = demand (names_function o && not (defining && is_defined o s)) declared_twice token p s

-- its body is one of each function of that name
abbrev pub with_body : Text → FunctionShape → FunctionShape
with_body x f = if has_name x f then record f { defined = Some [] } else f

abbrev pub with_bodies : Text → TablesShape → TablesShape
with_bodies x t = record t { functions = map (with_body x) t.functions }

abbrev pub bodied : Bool → Text → State → State
bodied true x s = record s { tables = with_bodies x s.tables }
bodied false x s = s

abbrev pub mentioned : Bool → ℕ → Pos → Text → Signature → Numbered → Numbered
mentioned defining token p x f m = record {
  number = m.number;
  state = function_at defining token p x (function_entity x f m.number) (find_here x m.state.names) m.state;
}

abbrev pub declare_function : Bool → ℕ → Pos → Text → Option Signature → State → Numbered
declare_function defining token p x None s = record { number = length s.tables.functions + 1; state = bodied defining x (unclear_at defining token p x (find_here x s.names) s) }
declare_function defining token p x (Some f) s = mentioned defining token p x f (mention x f.result f.params s)

-- a function's declarator, its number, and what its parameters are
pub record TypedFunction : Type 0 where
  pub name : DeclaratorShape
  pub number : ℕ
  pub given : List (Text × Option TypeOf)
  pub state : State

-- inside its parentheses a scope of its own is open, which is closed but for its tags where a body follows; its names are kept for that
abbrev pub closed_params : Bool → State → State
closed_params true s = record s { names = left s.names; listed = closed s.names }
closed_params false s = closed_scope s

-- a name of the parameter list stands for the same in the body, if that is a constant
abbrev pub declared_again : Text → Entity → Option Entity → Scoped Entity → Scoped Entity
declared_again x (entity.Constant v) None s = declared x (entity.Constant v) s
declared_again x e o s = s

abbrev pub with_constants : Scope Entity → Scoped Entity → Scoped Entity
with_constants [] s = s
with_constants ((x, e) ∷ rest) s = with_constants rest (declared_again x e (find_here x s) s)

abbrev pub type_function : Bool → Option TypeOf → List Star → Option Named → ParamsShape → MaybeInit → State → TypedFunction
type_function defining k stars x ps i s =
    let begun = steps (star_tokens stars) s in
    let token = token_of_name begun.at x begun in
    let p = name_pos first_place x in
    let r = by wrong_type (result_type (pointed stars k)) in
    let q = type_params defining ps (record (opened_scope (steps (name_tokens x) (claim_name false x begun))) { file = false }) in
    let f = signature_of (kind_at r) (all_kinds q.given) in
    let d = declare_function defining token p (text_of x) f (record (rule r token p (closed_params defining q.state)) { file = s.file }) in
    record { name = declarator stars x (function q.params) i; number = d.number; given = q.given; state = d.state }

-- ---- declarations

pub record TypedDeclarators : Type 0 where
  pub names : DeclaratorShapes
  pub state : State

abbrev pub plain_declarator : TypedFunction → TypedDeclarator
plain_declarator f = record { name = f.name; state = f.state }

abbrev pub type_declarator : Option TypeOf → DeclaratorShape → State → TypedDeclarator
type_declarator k (declarator stars x (arrays ls) i) s = type_variable k stars x ls i s
type_declarator k (declarator stars x (function ps) i) s = plain_declarator (type_function false k stars x ps i s)

-- each declarator with the comma or semicolon behind it
abbrev pub type_declarators : Option TypeOf → DeclaratorShapes → State → TypedDeclarators
type_declarators k no_declarators s = record { names = no_declarators; state = s }
type_declarators k (more_declarators d rest) s =
    let t = type_declarator k d s in
    let r = type_declarators k rest (step t.state) in
    record { names = more_declarators t.name r.names; state = r.state }

-- without a declarator a semicolon stands behind the specifiers
abbrev pub none_declared : DeclaratorShapes → Bool
none_declared no_declarators = true
none_declared (more_declarators d rest) = false

abbrev pub semicolon : DeclaratorShapes → ℕ
semicolon no_declarators = 1
semicolon (more_declarators d rest) = 0

pub record TypedDecl : Type 0 where
  pub decl : DeclShape
  pub state : State

abbrev pub type_decl : DeclShape → State → TypedDecl
type_decl (decl p specs names) s =
    let t = type_specs (none_declared names) specs unspelled s in
    let r = spelled_rule t.spelled in
    let n = type_declarators (kind_at r) names (steps (semicolon names) (rule r s.at p t.state)) in
    record { decl = decl p t.specs n.names; state = n.state }

pub record TypedDeclList : Type 0 where
  pub decls : DeclShapes
  pub state : State

abbrev pub type_decls : DeclShapes → State → TypedDeclList
type_decls no_decls s = record { decls = no_decls; state = s }
type_decls (more_decls d rest) s =
    let t = type_decl d s in
    let r = type_decls rest t.state in
    record { decls = more_decls t.decl r.decls; state = r.state }
