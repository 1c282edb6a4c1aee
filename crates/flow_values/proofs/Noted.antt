-- The note of a typed node holds its type, and only integers stand as values in notes.
use Rattle.std.proofs.Common.{◌≡◌, ℕ, [], Bool, true, false, Option, Some, None, refl, sym, ap, ◌∙◌}
use Rattle.c_base.specs.declared.place.Pos.{Pos}
use Rattle.c_syntax.specs.Shape.{TypeOf, int, pointer, array, structure, nothing, number, char, str, name, unary, before, size_of, plain, and, or, assign, comma, NodeShape, node, ExprShape, leaf, paren, call, prefix, size_of_type, cast, suffix, two, choose, probe, index, field, behind, simple, select}
use Rattle.c_constants.specs.declared.constants.Constant.{Constant}
use Rattle.c_constants.specs.declared.constants.Constant.TheVariants.{No, Faulty, Known, Variable, Part, Address, Literal}
use Rattle.c_constants.specs.Constants as constants
use Rattle.c_scopes.specs.Scoping.{find}
use Rattle.c_tables.specs.Tables.{FunctionShape, VariableShape}
use Rattle.c_tables.specs.Rows.{row}
use Rattle.c_tree.specs.declared.meaning.Entity.{Entity}
use Rattle.c_tree.specs.declared.meaning.Entity.TheVariants as entity
use Rattle.c_tree.specs.State.{State, step, steps, is_clean}
use Rattle.c_tree.specs.Rulings.{Ruled, allowed, unsettled, refused, then_rule, kind_at, of_kind, whole, sized, as_size}
use Rattle.c_tree.specs.Sorts.{Typing, note_of, value_note, cleared}
use Rattle.c_tree.specs.Operators.{named_variable, named_parameter, named_entity, called, call_of, typed_call, hushed, entering}
use Rattle.c_tree.specs.Typing.{opening, type_node, type_form, type_arguments, type_type}
use Rattle.c_walk.specs.Places.{has_array}
use Rattle.c_meaning.specs.Constants.{type_at}

-- what stands as a value in its note is no array
abbrev pub IsApart : Typing → Type 0
IsApart t = t.valued ≡ true → (k : TypeOf) → t.sort.kind ≡ Some k → constants.is_array k ≡ false

an_int : (j : _) (k : TypeOf) → Some (int j) ≡ Some k → constants.is_array k ≡ false
an_int j (int i) e = refl
an_int j (pointer t) e = refl
an_int j (array t n) e = cc
an_int j (structure n) e = refl
an_int j nothing e = refl

size_apart : (r : Ruled) (k : TypeOf) → kind_at (then_rule r as_size) ≡ Some k → constants.is_array k ≡ false
size_apart (allowed t) k e = an_int _ k e
size_apart unsettled k e = cc
size_apart (refused n) k e = cc

variable_apart : (p : Pos) (n : ℕ) (v : Option VariableShape) (s : State) → IsApart (named_variable p n v s).typing
variable_apart p n None s e = cc
variable_apart p n (Some v) s e = cc

parameter_apart : (p : Pos) (k : Option TypeOf) (s : State) → IsApart (named_parameter p k s).typing
parameter_apart p None s e = cc
parameter_apart p (Some t) s e = cc

name_apart : (p : Pos) (e : Option Entity) (s : State) → IsApart (named_entity p e s).typing
name_apart p (Some (entity.Variable n)) s = variable_apart p n (row s.tables.variables n) s
name_apart p (Some (entity.Parameter n)) s = parameter_apart p (row s.params n) s
name_apart p (Some (entity.Constant v)) s = λ e k f. an_int _ k f
name_apart p (Some entity.Unknown) s = λ e. cc
name_apart p (Some (entity.Function n)) s = λ e. cc
name_apart p (Some (entity.Builtin b)) s = λ e. cc
name_apart p None s = λ e. cc

row_apart : (p : Pos) (token : ℕ) (clean : Bool) (n : ℕ) (f : Option FunctionShape) (gs : _) (s : State) → IsApart (call_of p token clean n f gs s).typing
row_apart p token clean n None gs s e = cc
row_apart p token clean n (Some f) gs s e = cc

call_apart : (p : Pos) (token : ℕ) (clean : Bool) (f : Option ℕ) (gs : _) (s : State) → IsApart (typed_call p token clean f gs s).typing
call_apart p token clean None gs s = λ e. cc
call_apart p token clean (Some n) gs s = row_apart p token clean n (row s.tables.functions n) gs s

form_apart : (p o : Pos) (f : ExprShape) (s : State) → IsApart (type_form p o f s).typing
form_apart p o (leaf (number t)) s = λ e. cc
form_apart p o (leaf (char c)) s = λ e. cc
form_apart p o (leaf (str t)) s = λ e. cc
form_apart p o (leaf (name x)) s = name_apart p (find x s.names) s
form_apart p o (paren a) s = λ e. cc
form_apart p o (call x args) s =
    let c = called p x s in
    let t = type_arguments [] args (steps (opening args) c.state) in
    call_apart p s.at (is_clean c.state t.state) c.function t.given t.state
form_apart p o (prefix (unary u) a) s = λ e. cc
form_apart p o (prefix (before u) a) s = λ e. cc
form_apart p o (prefix size_of a) s = let t = type_node a (hushed (step s)) in λ e. size_apart (of_kind t.sort.kind (sized t.state.rooms))
form_apart p o (size_of_type y) s = let t = type_type y (steps 2 s) in λ e. size_apart (of_kind t.kind (whole t.state.rooms))
form_apart p o (cast y a) s = λ e. cc
form_apart p o (suffix a (index b)) s = λ e. cc
form_apart p o (suffix a (field g x q)) s = λ e. cc
form_apart p o (suffix a (behind u)) s = λ e. cc
form_apart p o (two (plain u) a b) s = λ e. cc
form_apart p o (two and a b) s = λ e. cc
form_apart p o (two or a b) s = λ e. cc
form_apart p o (two (assign u) a b) s = λ e. cc
form_apart p o (two comma a b) s = λ e. cc
form_apart p o (choose a b c) s = λ e. cc
form_apart p o (probe (simple u x) a) s = λ e. cc
form_apart p o (probe (select x cs) a) s = λ e. cc

-- ---- the note of a type

-- the node has that type
pub record HasType (k : TypeOf) (a : NodeShape) : Type 0 where
  pub type : type_at a ≡ k
  pub array : has_array a ≡ constants.is_array k

value_type : (p o : Pos) (f : ExprShape) (k : TypeOf) (c : Constant) → constants.is_array k ≡ false → HasType k (node p o (value_note k c) f)
value_type p o f k (Known j v) e = record { type = refl; array = sym e }
value_type p o f k No e = record { type = refl; array = refl }
value_type p o f k (Faulty j) e = record { type = refl; array = refl }
value_type p o f k Variable e = record { type = refl; array = refl }
value_type p o f k Part e = record { type = refl; array = refl }
value_type p o f k Address e = record { type = refl; array = refl }
value_type p o f k Literal e = record { type = refl; array = refl }

noted_type : (p o : Pos) (f : ExprShape) (k : TypeOf) (c : Constant) (n : Option ℕ) (v : Bool) → (v ≡ true → constants.is_array k ≡ false) → HasType k (node p o (note_of (Some k) c n v) f)
noted_type p o f k c n true g = value_type p o f k c (g refl)
noted_type p o f k c n false g = record { type = refl; array = refl }

some_type : (p o : Pos) (f : ExprShape) (x : Option TypeOf) (k : TypeOf) (c : Constant) (n : Option ℕ) (v : Bool) → x ≡ Some k → (v ≡ true → (j : TypeOf) → x ≡ Some j → constants.is_array j ≡ false) → HasType k (node p o (note_of x c n v) f)
some_type p o f None k c n v e g = cc
some_type p o f (Some j) k c n v e g =
    let same : j ≡ k = cc in
    record { type = (noted_type p o f j c n v (λ t. g t j refl)).type ∙ same; array = (noted_type p o f j c n v (λ t. g t j refl)).array ∙ ap constants.is_array same }

clear_type : (p o : Pos) (b : Bool) (t : Typing) (f : ExprShape) (k : TypeOf) → IsApart t → (cleared b t.sort).kind ≡ Some k → HasType k (node p o (note_of (cleared b t.sort).kind t.sort.constant t.names t.valued) f)
clear_type p o true t f k g e = some_type p o f t.sort.kind k t.sort.constant t.names t.valued e g
clear_type p o false t f k g e = cc

pub node_type : (a : NodeShape) (s : State) (k : TypeOf) → (type_node a s).sort.kind ≡ Some k → HasType k (type_node a s).node
node_type (node p o n f) s k e = let t = type_form p o f (entering f s) in clear_type p o (is_clean s t.state) t.typing t.form k (form_apart p o f (entering f s)) e
