-- How many rows typing adds to the tables: names, calls, operators, probes and tags.
use Rattle.std.proofs.Common.{◌≡◌, ℕ, zero, suc, ◌+◌, ◌-◌, ◌≤◌, List, [], ◌∷◌, ◌++◌, length, map, Option, Some, None, Bool, true, false, refl, arith, length-append}
use Rattle.std.specs.Prelude.{nat_eq, not, ◌&&◌, if◌then◌else◌}
use Rattle.c_base.specs.declared.place.Pos.{Pos}
use Rattle.c_syntax.specs.declared.text.Text.{Text}
use Rattle.c_syntax.specs.declared.tree.Named.{Named}
use Rattle.c_syntax.specs.Forms.{Form, nothing, is, at, starts, seq, kinds}
use Rattle.c_syntax.specs.Shape.{TypeOf, Infix, plain, and, or, assign, comma, Probing}
use Rattle.c_scopes.specs.Scoping.{named, find_here, find}
use Rattle.c_tables.specs.Tables.{FieldShape, StructShape, FunctionShape, VariableShape, TablesShape, changed_at, with_fields, with_definition}
use Rattle.c_tables.specs.Builtins.{builtin_name, builtin_result, builtin_params}
use Rattle.c_tables.specs.Rows.{row}
use Rattle.c_type_rules.specs.Verdicts.{fits_type, logical_type}
use Rattle.c_constants.specs.Probes.{probe_number_of}
use Rattle.c_tree.specs.declared.meaning.Entity.{Entity}
use Rattle.c_tree.specs.declared.meaning.Entity.TheVariants as entity
use Rattle.c_tree.specs.declared.meaning.Tag.{Tag}
use Rattle.c_tree.specs.declared.meaning.Tag.TheVariants as tag
use Rattle.c_tree.specs.State.{State, complain, demand, counts, is_set, function_number, numbered_or, pushed_function}
use Rattle.c_tree.specs.Rulings.{Ruled, allowed, unsettled, refused, by, rule, of_kind, whole}
use Rattle.c_tree.specs.Sorts.{Sort}
use Rattle.c_tree.specs.Operators.{named_variable, named_parameter, named_entity, called_entity, Given, fit_all, call_of, typed_call, typed_infix, plain_rule, assigned_rule, left_side, seen_of, claimed, claim}
use Rattle.c_tree.specs.Parts.{known_structure, listed_structure, Opened, opened, begun_at, closed, field_state, declared_at, enumeration, known_enumeration, listed_enumeration}
use Rattle.c_tree.specs.Declaring.{with_body, with_bodies}
use Rattle.c_counted.specs.Sizes.{field_count, row_count}

-- ---- tokens

-- how many tokens a form has
abbrev pub count : Form → ℕ
count nothing = 0
count (is k) = 1
count (at p k) = 1
count (starts p f) = count f
count (seq f g) = count f + count g

pub count_kinds : (f : Form) → length (kinds f) ≡ count f
count_kinds nothing = refl
count_kinds (is k) = refl
count_kinds (at p k) = refl
count_kinds (starts p f) = count_kinds f
count_kinds (seq f g) = omega (arith, length-append (kinds f) (kinds g), count_kinds f, count_kinds g)

-- ---- rows

-- at most so many rows came between the two
abbrev pub Adds : ℕ → State → State → Type 0
Adds k s t = row_count t.tables ≤ row_count s.tables + k

pub none : (s : State) → Adds 0 s s
none s = omega arith

length_changed : {R : Type 0} (f : R → R) (i : ℕ) (rows : List R) → length (changed_at f i rows) ≡ length rows
length_changed f i [] = refl
length_changed f zero (r ∷ rows) = refl
length_changed f (suc i) (r ∷ rows) = omega (arith, length_changed f i rows)

fields_changed : (fields : List FieldShape) (i : ℕ) (rows : List StructShape) → field_count (changed_at (λ s. record s { fields = fields }) i rows) ≤ field_count rows + length fields
fields_changed fields i [] = omega arith
fields_changed fields zero (r ∷ rows) = omega arith
fields_changed fields (suc i) (r ∷ rows) = omega (arith, fields_changed fields i rows)

fields_append : (rows : List StructShape) (s : StructShape) → field_count (rows ++ s ∷ []) ≡ field_count rows + length s.fields
fields_append [] s = omega arith
fields_append (r ∷ rows) s = omega (arith, fields_append rows s)

pub literal_row : (t : TablesShape) (x : Text) → row_count (record t { literals = t.literals ++ x ∷ [] }) ≤ row_count t + 1
unfolding row_count
literal_row t x = omega (arith, length-append t.literals (x ∷ []))

pub function_row : (t : TablesShape) (f : FunctionShape) → row_count (record t { functions = t.functions ++ f ∷ [] }) ≤ row_count t + 1
unfolding row_count
function_row t f = omega (arith, length-append t.functions (f ∷ []))

pub variable_row : (t : TablesShape) (v : VariableShape) → row_count (record t { variables = t.variables ++ v ∷ [] }) ≤ row_count t + 1
unfolding row_count
variable_row t v = omega (arith, length-append t.variables (v ∷ []))

structure_row : (t : TablesShape) (x : Option Text) → row_count (record t { structures = t.structures ++ record { tag = x; fields = [] } ∷ [] }) ≤ row_count t + 1
unfolding row_count
structure_row t x = omega (arith, length-append t.structures (record { tag = x; fields = [] } ∷ []), fields_append t.structures (record { tag = x; fields = [] }))

pub fields_rows : (t : TablesShape) (n : ℕ) (fields : List FieldShape) → row_count (with_fields n fields t) ≤ row_count t + length fields
unfolding row_count
fields_rows t n fields = omega (arith, length_changed (λ s. record s { fields = fields }) (n - 1) t.structures, fields_changed fields (n - 1) t.structures)

pub definition_rows : (t : TablesShape) (n : ℕ) (ps : List ℕ) → row_count (with_definition n ps t) ≤ row_count t + 0
unfolding row_count
definition_rows t n ps = omega (arith, length_changed (λ f. record f { defined = Some ps }) (n - 1) t.functions)

length_bodies : (x : Text) (fs : List FunctionShape) → length (map (with_body x) fs) ≡ length fs
length_bodies x [] = refl
length_bodies x (f ∷ fs) = omega (arith, length_bodies x fs)

pub bodies_rows : (t : TablesShape) (x : Text) → row_count (with_bodies x t) ≤ row_count t + 0
unfolding row_count
bodies_rows t x = omega (arith, length_bodies x t.functions)

-- ---- complaints

pub demand_adds : (b : Bool) (number token : ℕ) (p : Pos) (s : State) → Adds 0 s (demand b number token p s)
demand_adds true number token p s = none s
demand_adds false number token p s = none s

pub rule_adds : (r : Ruled) (token : ℕ) (p : Pos) (s : State) → Adds 0 s (rule r token p s)
rule_adds (allowed t) token p s = none s
rule_adds unsettled token p s = none s
rule_adds (refused number) token p s = none s

-- ---- names and strings

variable_adds : (p : Pos) (m : ℕ) (v : Option VariableShape) (s : State) → Adds 0 s (named_variable p m v s).state
variable_adds p m None s = none s
variable_adds p m (Some v) s = none s

parameter_adds : (p : Pos) (k : Option TypeOf) (s : State) → Adds 0 s (named_parameter p k s).state
parameter_adds p None s = none s
parameter_adds p (Some t) s = none s

pub entity_adds : (p : Pos) (e : Option Entity) (s : State) → Adds 0 s (named_entity p e s).state
entity_adds p (Some (entity.Variable m)) s = variable_adds p m (row s.tables.variables m) s
entity_adds p (Some (entity.Parameter m)) s = parameter_adds p (row s.params m) s
entity_adds p (Some (entity.Constant v)) s = none s
entity_adds p (Some entity.Unknown) s = none s
entity_adds p (Some (entity.Function m)) s = none s
entity_adds p (Some (entity.Builtin b)) s = none s
entity_adds p None s = none s

pub literal_adds : (b : Bool) (x : Text) (s : State) → Adds 1 s (if b then s else record s { tables = record s.tables { literals = s.tables.literals ++ x ∷ [] } })
literal_adds true x s = omega arith
literal_adds false x s = literal_row s.tables x

-- ---- calls

pub mention_adds : (x : Text) (k : TypeOf) (ks : List TypeOf) (m : Option ℕ) (s : State) → Adds 1 s (numbered_or m s (pushed_function x k ks s)).state
mention_adds x k ks (Some m) s = omega arith
mention_adds x k ks None s = function_row s.tables (record { name = x; result = k; params = ks; defined = None })

pub called_adds : (p : Pos) (e : Option Entity) (s : State) → Adds 1 s (called_entity p e s).state
called_adds p (Some (entity.Function m)) s = omega (arith, demand_adds (counts s.known m) 40 s.at p s)
called_adds p (Some (entity.Builtin b)) s =
    mention_adds (builtin_name b) (builtin_result b) (builtin_params b) (function_number (builtin_name b) (builtin_result b) (builtin_params b) s.tables.functions) s
called_adds p (Some entity.Unknown) s = omega arith
called_adds p (Some (entity.Variable m)) s = omega arith
called_adds p (Some (entity.Parameter m)) s = omega arith
called_adds p (Some (entity.Constant v)) s = omega arith
called_adds p None s = omega arith

fit_adds : (ts : List TypeOf) (gs : List Given) (s : State) → Adds 0 s (fit_all ts gs s)
fit_adds [] gs s = none s
fit_adds (t ∷ ts) [] s = none s
fit_adds (t ∷ ts) (g ∷ gs) s = let r = by 33 (fits_type (Some t) g.kind g.null) in omega (arith, rule_adds r g.token g.pos s, fit_adds ts gs (rule r g.token g.pos s))

pick_adds : (b : Bool) (s t u : State) → Adds 0 s t → Adds 0 s u → Adds 0 s (if b then t else u)
pick_adds true s t u p q = p
pick_adds false s t u p q = q

call_adds : (p : Pos) (token : ℕ) (clean : Bool) (m : ℕ) (f : Option FunctionShape) (gs : List Given) (s : State) → Adds 0 s (call_of p token clean m f gs s).state
call_adds p token clean m None gs s = none s
call_adds p token clean m (Some f) gs s = pick_adds (clean && not (nat_eq (length f.params) (length gs))) s (complain 34 token p s) (fit_all f.params gs s) (none s) (fit_adds f.params gs s)

pub typed_call_adds : (p : Pos) (token : ℕ) (clean : Bool) (f : Option ℕ) (gs : List Given) (s : State) → Adds 0 s (typed_call p token clean f gs s).state
typed_call_adds p token clean None gs s = none s
typed_call_adds p token clean (Some m) gs s = call_adds p token clean m (row s.tables.functions m) gs s

-- ---- operators and probes

pub two_rules : (r q : Ruled) (token : ℕ) (o : Pos) (first : ℕ) (p : Pos) (s : State) → Adds 0 s (rule r token o (rule q first p s))
two_rules r q token o first p s = omega (arith, rule_adds q first p s, rule_adds r token o (rule q first p s))

pub infix_adds : (token : ℕ) (o : Pos) (first : ℕ) (p : Pos) (u : Infix) (a b : Sort) (s : State) → Adds 0 s (typed_infix token o first p u a b s).state
infix_adds token o first p (plain u) a b s = rule_adds (plain_rule u s.rooms a b) token o s
infix_adds token o first p and a b s = rule_adds (by 33 (logical_type a.kind b.kind)) token o s
infix_adds token o first p or a b s = rule_adds (by 33 (logical_type a.kind b.kind)) token o s
infix_adds token o first p (assign u) a b s = two_rules (assigned_rule u s.rooms a b) (left_side a b) token o first p s
infix_adds token o first p comma a b s = none s

claimed_adds : (u : Probing) (x : Text) (token : ℕ) (p : Pos) (m k : Option ℕ) (s : State) → Adds 0 s (claimed u x token p m k s)
claimed_adds u x token p (Some m) None s = none s
claimed_adds u x token p (Some m) (Some k) s = none s
claimed_adds u x token p None k s = none s

pub claim_adds : (u : Probing) (x : Text) (token : ℕ) (p : Pos) (s : State) → Adds 0 s (claim u x token p s)
claim_adds u x token p s = claimed_adds u x token p (probe_number_of x) (named x (seen_of u s.seen)) s

-- ---- tags, fields and enumerators

known_adds : (p : Pos) (x : Text) (t : Option Tag) (s : State) → Adds 1 s (known_structure p x t s).state
known_adds p x None s = structure_row s.tables (Some x)
known_adds p x (Some (tag.Structure m)) s = omega arith
known_adds p x (Some tag.Enumeration) s = omega arith

pick_opened : (b : Bool) (s : State) (x y : Opened) → Adds 1 s x.state → Adds 1 s y.state → Adds 1 s (if b then x else y).state
pick_opened true s x y p q = p
pick_opened false s x y p q = q

listed_adds : (p : Pos) (x : Text) (t : Option Tag) (s : State) → Adds 1 s (listed_structure p x t s).state
listed_adds p x None s = structure_row s.tables (Some x)
listed_adds p x (Some (tag.Structure m)) s =
    pick_opened (is_set (row s.begun m)) s (record { number = None; state = complain 31 s.at p s }) (record { number = Some m; state = s }) (omega arith) (omega arith)
listed_adds p x (Some tag.Enumeration) s = omega arith

pub opened_adds : (alone list : Bool) (x : Option Named) (s : State) → Adds 1 s (opened alone list x s).state
opened_adds alone true None s = structure_row s.tables None
opened_adds alone true (Some x) s = listed_adds x.pos x.text (find_here x.text s.tags) s
opened_adds alone false None s = omega arith
opened_adds alone false (Some x) s = known_adds x.pos x.text (if alone then find_here x.text s.tags else find x.text s.tags) s

pub begun_adds : (m : Option ℕ) (s : State) → Adds 0 s (begun_at m s)
begun_adds None s = none s
begun_adds (Some m) s = none s

pub closed_adds : (m : Option ℕ) (fields : List FieldShape) (s : State) → Adds (length fields) s (closed m fields s)
closed_adds None fields s = omega arith
closed_adds (Some m) fields s = fields_rows s.tables m fields

pub field_adds : (token : ℕ) (p : Pos) (free : Bool) (k : Option TypeOf) (s : State) → Adds 0 s (field_state token p free k s)
field_adds token p free k s = omega (arith, demand_adds free 31 token p s, rule_adds (of_kind k (whole s.rooms)) token p (demand free 31 token p s))

pub declared_adds : (token : ℕ) (p : Pos) (x : Text) (e : Entity) (o : Option Entity) (s : State) → Adds 0 s (declared_at token p x e o s)
declared_adds token p x e None s = none s
declared_adds token p x e (Some other) s = none s

listed_enum_adds : (p : Pos) (x : Text) (t : Option Tag) (s : State) → Adds 0 s (listed_enumeration p x t s)
listed_enum_adds p x None s = none s
listed_enum_adds p x (Some t) s = none s

known_enum_adds : (p : Pos) (t : Option Tag) (s : State) → Adds 0 s (known_enumeration p t s)
known_enum_adds p (Some tag.Enumeration) s = none s
known_enum_adds p (Some (tag.Structure m)) s = none s
known_enum_adds p None s = none s

pub enumeration_adds : (list : Bool) (x : Option Named) (s : State) → Adds 0 s (enumeration list x s)
enumeration_adds true None s = none s
enumeration_adds false None s = none s
enumeration_adds true (Some x) s = listed_enum_adds x.pos x.text (find_here x.text s.tags) s
enumeration_adds false (Some x) s = known_enum_adds x.pos (find x.text s.tags) s
