-- How typing counts: names, calls, operators, probes and tags. Each complaint is where its token is.
use Rattle.std.proofs.Common.{ℕ, ◌+◌, List, [], ◌∷◌, ◌++◌, length, Option, Some, None, Bool, true, false, refl}
use Rattle.std.specs.Prelude.{nat_eq, not, ◌&&◌, if◌then◌else◌}
use Rattle.c_base.specs.declared.place.Pos.{Pos}
use Rattle.c_syntax.specs.declared.text.Text.{Text}
use Rattle.c_syntax.specs.declared.tree.Named.{Named}
use Rattle.c_syntax.specs.declared.tree.UnaryOp.{UnaryOp}
use Rattle.c_syntax.specs.Shape.{TypeOf, Infix, plain, and, or, assign, comma, Probing}
use Rattle.c_scopes.specs.Scoping.{named, find_here, find}
use Rattle.c_tables.specs.Tables.{FunctionShape, VariableShape, FieldShape}
use Rattle.c_tables.specs.Builtins.{builtin_name, builtin_result, builtin_params}
use Rattle.c_tables.specs.Rows.{row}
use Rattle.c_type_rules.specs.Verdicts.{fits_type, logical_type}
use Rattle.c_constants.specs.declared.constants.Constant.{Constant}
use Rattle.c_constants.specs.Probes.{probe_number_of}
use Rattle.c_tree.specs.declared.meaning.Entity.{Entity}
use Rattle.c_tree.specs.declared.meaning.Entity.TheVariants as entity
use Rattle.c_tree.specs.declared.meaning.Tag.{Tag}
use Rattle.c_tree.specs.declared.meaning.Tag.TheVariants as tag
use Rattle.c_tree.specs.State.{State, complain, demand, counts, is_set, function_number, numbered_or, pushed_function}
use Rattle.c_tree.specs.Rulings.{Ruled, by, rule, of_kind, whole}
use Rattle.c_tree.specs.Sorts.{Sort, changeable}
use Rattle.c_tree.specs.Operators.{named_variable, named_parameter, named_entity, called_entity, Given, fit_all, judged, call_of, typed_call, typed_infix, with_literal, plain_rule, assigned_rule, left_side, unary_rule, place_rule, typed_unary, step_rule, typed_step, held_field, seen_of, claimed, claim}
use Rattle.c_tree.specs.Parts.{known_structure, listed_structure, Opened, opened, begun_at, closed, field_state, declared_at, declare, enumeration, known_enumeration, listed_enumeration}
use Rattle.c_counted.proofs.Counting.{Held, same, stepped, complained, demanded, ruled}

-- ---- names and strings

variable_held : {P : ℕ → Pos → Type 0} (p : Pos) (m : ℕ) (v : Option VariableShape) (s : State) {n : ℕ} → P s.at p → Held P n s → Held P (n + 1) (named_variable p m v s).state
variable_held p m None s x h = stepped (complained 30 s.at p s x h)
variable_held p m (Some v) s x h = stepped h

parameter_held : {P : ℕ → Pos → Type 0} (p : Pos) (k : Option TypeOf) (s : State) {n : ℕ} → P s.at p → Held P n s → Held P (n + 1) (named_parameter p k s).state
parameter_held p None s x h = stepped (complained 30 s.at p s x h)
parameter_held p (Some t) s x h = stepped h

pub entity_held : {P : ℕ → Pos → Type 0} (p : Pos) (e : Option Entity) (s : State) {n : ℕ} → P s.at p → Held P n s → Held P (n + 1) (named_entity p e s).state
entity_held p (Some (entity.Variable m)) s x h = variable_held p m (row s.tables.variables m) s x h
entity_held p (Some (entity.Parameter m)) s x h = parameter_held p (row s.params m) s x h
entity_held p (Some (entity.Constant v)) s x h = stepped h
entity_held p (Some entity.Unknown) s x h = stepped h
entity_held p (Some (entity.Function m)) s x h = stepped (complained 30 s.at p s x h)
entity_held p (Some (entity.Builtin b)) s x h = stepped (complained 30 s.at p s x h)
entity_held p None s x h = stepped (complained 30 s.at p s x h)

literal_held : {P : ℕ → Pos → Type 0} (b : Bool) (x : Text) (s : State) {n : ℕ} → Held P n s → Held P n (if b then s else record s { tables = record s.tables { literals = s.tables.literals ++ x ∷ [] } })
literal_held true x s h = h
literal_held false x s h = same h refl refl

pub with_literal_held : {P : ℕ → Pos → Type 0} (x : Text) (s : State) {n : ℕ} → Held P n s → Held P n (with_literal x s)
with_literal_held x s h = literal_held s.quiet x s h

-- ---- calls

pub mention_held : {P : ℕ → Pos → Type 0} (x : Text) (k : TypeOf) (ks : List TypeOf) (m : Option ℕ) (s : State) {n : ℕ} → Held P n s → Held P n (numbered_or m s (pushed_function x k ks s)).state
mention_held x k ks (Some m) s h = h
mention_held x k ks None s h = same h refl refl

pub called_held : {P : ℕ → Pos → Type 0} (p : Pos) (e : Option Entity) (s : State) {n : ℕ} → P s.at p → Held P n s → Held P n (called_entity p e s).state
called_held p (Some (entity.Function m)) s x h = demanded (counts s.known m) 40 s.at p s x h
called_held p (Some (entity.Builtin b)) s x h =
    mention_held (builtin_name b) (builtin_result b) (builtin_params b) (function_number (builtin_name b) (builtin_result b) (builtin_params b) s.tables.functions) s h
called_held p (Some entity.Unknown) s x h = h
called_held p (Some (entity.Variable m)) s x h = complained 30 s.at p s x h
called_held p (Some (entity.Parameter m)) s x h = complained 30 s.at p s x h
called_held p (Some (entity.Constant v)) s x h = complained 30 s.at p s x h
called_held p None s x h = complained 30 s.at p s x h

-- the predicate holds of the place of each argument
abbrev pub AllGiven : (ℕ → Pos → Type 0) → List Given → Type 0
AllGiven P [] = Unit {0}
AllGiven P (g ∷ gs) = P g.token g.pos × AllGiven P gs

pub given_snoc : (P : ℕ → Pos → Type 0) (gs : List Given) (g : Given) → AllGiven P gs → P g.token g.pos → AllGiven P (gs ++ g ∷ [])
given_snoc P [] g h x = (x, tt)
given_snoc P (f ∷ gs) g h x = (h.0, given_snoc P gs g h.1 x)

fit_held : {P : ℕ → Pos → Type 0} (ts : List TypeOf) (gs : List Given) (s : State) {n : ℕ} → AllGiven P gs → Held P n s → Held P n (fit_all ts gs s)
fit_held [] gs s x h = h
fit_held (t ∷ ts) [] s x h = h
fit_held (t ∷ ts) (g ∷ gs) s x h =
    let r = by 33 (fits_type (Some t) g.kind g.null) in
    fit_held ts gs (rule r g.token g.pos s) x.1 (ruled r g.token g.pos s x.0 h)

pick_held : {P : ℕ → Pos → Type 0} (b : Bool) (s t : State) {n : ℕ} → Held P n s → Held P n t → Held P n (if b then s else t)
pick_held true s t g h = g
pick_held false s t g h = h

judged_held : {P : ℕ → Pos → Type 0} (token : ℕ) (p : Pos) (clean : Bool) (ts : List TypeOf) (gs : List Given) (s : State) {n : ℕ} → P token p → AllGiven P gs → Held P n s → Held P n (judged token p clean ts gs s)
judged_held token p clean ts gs s x y h =
    pick_held (clean && not (nat_eq (length ts) (length gs))) (complain 34 token p s) (fit_all ts gs s) (complained 34 token p s x h) (fit_held ts gs s y h)

call_held : {P : ℕ → Pos → Type 0} (p : Pos) (token : ℕ) (clean : Bool) (m : ℕ) (f : Option FunctionShape) (gs : List Given) (s : State) {n : ℕ} → P token p → AllGiven P gs → Held P n s → Held P (n + 1) (call_of p token clean m f gs s).state
call_held p token clean m None gs s x y h = stepped h
call_held p token clean m (Some f) gs s x y h = stepped (judged_held token p clean f.params gs s x y h)

pub typed_call_held : {P : ℕ → Pos → Type 0} (p : Pos) (token : ℕ) (clean : Bool) (f : Option ℕ) (gs : List Given) (s : State) {n : ℕ} → P token p → AllGiven P gs → Held P n s → Held P (n + 1) (typed_call p token clean f gs s).state
typed_call_held p token clean None gs s x y h = stepped h
typed_call_held p token clean (Some m) gs s x y h = call_held p token clean m (row s.tables.functions m) gs s x y h

-- ---- operators and probes

pub unary_held : {P : ℕ → Pos → Type 0} (token : ℕ) (o : Pos) (first : ℕ) (p : Pos) (u : UnaryOp) (a : Sort) (s : State) {n : ℕ} → P token o → P first p → Held P n s → Held P n (typed_unary token o first p u a s).state
unary_held token o first p u a s x y h = ruled (unary_rule u s.rooms a) token o (rule (place_rule u a) first p s) x (ruled (place_rule u a) first p s y h)

pub step_held : {P : ℕ → Pos → Type 0} (token : ℕ) (o : Pos) (first : ℕ) (p : Pos) (a : Sort) (s : State) {n : ℕ} → P token o → P first p → Held P n s → Held P n (typed_step token o first p a s).state
step_held token o first p a s x y h = ruled (step_rule s.rooms a) token o (rule (changeable a) first p s) x (ruled (changeable a) first p s y h)

pub infix_held : {P : ℕ → Pos → Type 0} (token : ℕ) (o : Pos) (first : ℕ) (p : Pos) (u : Infix) (a b : Sort) (s : State) {n : ℕ} → P token o → P first p → Held P n s → Held P n (typed_infix token o first p u a b s).state
infix_held token o first p (plain u) a b s x y h = ruled (plain_rule u s.rooms a b) token o s x h
infix_held token o first p and a b s x y h = ruled (by 33 (logical_type a.kind b.kind)) token o s x h
infix_held token o first p or a b s x y h = ruled (by 33 (logical_type a.kind b.kind)) token o s x h
infix_held token o first p (assign u) a b s x y h = ruled (assigned_rule u s.rooms a b) token o (rule (left_side a b) first p s) x (ruled (left_side a b) first p s y h)
infix_held token o first p comma a b s x y h = h

pub held_field_held : {P : ℕ → Pos → Type 0} (q : Pos) (f : Ruled) (c : Constant) (s : State) {n : ℕ} → P s.at q → Held P n s → Held P (n + 1) (held_field q f c s).state
held_field_held q f c s x h = stepped (ruled f s.at q s x h)

claimed_held : {P : ℕ → Pos → Type 0} (u : Probing) (x : Text) (token : ℕ) (p : Pos) (m k : Option ℕ) (s : State) {n : ℕ} → P token p → Held P n s → Held P n (claimed u x token p m k s)
claimed_held u x token p (Some m) None s y h = same h refl refl
claimed_held u x token p (Some m) (Some k) s y h = complained 37 token p s y h
claimed_held u x token p None k s y h = complained 37 token p s y h

pub claim_held : {P : ℕ → Pos → Type 0} (u : Probing) (x : Text) (token : ℕ) (p : Pos) (s : State) {n : ℕ} → P token p → Held P n s → Held P n (claim u x token p s)
claim_held u x token p s y h = claimed_held u x token p (probe_number_of x) (named x (seen_of u s.seen)) s y h

-- ---- tags, fields and enumerators

-- the predicate holds of the tag's place
abbrev pub TagAt : (ℕ → Pos → Type 0) → ℕ → Option Named → Type 0
TagAt P token None = Unit {0}
TagAt P token (Some x) = P token x.pos

known_held : {P : ℕ → Pos → Type 0} (p : Pos) (x : Text) (t : Option Tag) (s : State) {n : ℕ} → P s.at p → Held P n s → Held P n (known_structure p x t s).state
known_held p x None s y h = same h refl refl
known_held p x (Some (tag.Structure m)) s y h = h
known_held p x (Some tag.Enumeration) s y h = complained 31 s.at p s y h

pick_opened : {P : ℕ → Pos → Type 0} (b : Bool) (x y : Opened) {n : ℕ} → Held P n x.state → Held P n y.state → Held P n (if b then x else y).state
pick_opened true x y g h = g
pick_opened false x y g h = h

listed_held : {P : ℕ → Pos → Type 0} (p : Pos) (x : Text) (t : Option Tag) (s : State) {n : ℕ} → P s.at p → Held P n s → Held P n (listed_structure p x t s).state
listed_held p x None s y h = same h refl refl
listed_held p x (Some (tag.Structure m)) s y h =
    pick_opened (is_set (row s.begun m)) (record { number = None; state = complain 31 s.at p s }) (record { number = Some m; state = s }) (complained 31 s.at p s y h) h
listed_held p x (Some tag.Enumeration) s y h = complained 31 s.at p s y h

pub opened_held : {P : ℕ → Pos → Type 0} (alone list : Bool) (x : Option Named) (s : State) {n : ℕ} → TagAt P s.at x → Held P n s → Held P n (opened alone list x s).state
opened_held alone true None s y h = same h refl refl
opened_held alone true (Some x) s y h = listed_held x.pos x.text (find_here x.text s.tags) s y h
opened_held alone false None s y h = h
opened_held alone false (Some x) s y h = known_held x.pos x.text (if alone then find_here x.text s.tags else find x.text s.tags) s y h

pub begun_held : {P : ℕ → Pos → Type 0} (m : Option ℕ) (s : State) {n : ℕ} → Held P n s → Held P n (begun_at m s)
begun_held None s h = h
begun_held (Some m) s h = same h refl refl

pub closed_held : {P : ℕ → Pos → Type 0} (m : Option ℕ) (fields : List FieldShape) (s : State) {n : ℕ} → Held P n s → Held P n (closed m fields s)
closed_held None fields s h = h
closed_held (Some m) fields s h = same h refl refl

pub field_held : {P : ℕ → Pos → Type 0} (token : ℕ) (p : Pos) (free : Bool) (k : Option TypeOf) (s : State) {n : ℕ} → P token p → Held P n s → Held P n (field_state token p free k s)
field_held token p free k s x h = ruled (of_kind k (whole s.rooms)) token p (demand free 31 token p s) x (demanded free 31 token p s x h)

declared_held : {P : ℕ → Pos → Type 0} (token : ℕ) (p : Pos) (x : Text) (e : Entity) (o : Option Entity) (s : State) {n : ℕ} → P token p → Held P n s → Held P n (declared_at token p x e o s)
declared_held token p x e None s y h = same h refl refl
declared_held token p x e (Some other) s y h = complained 31 token p s y h

pub declare_held : {P : ℕ → Pos → Type 0} (token : ℕ) (p : Pos) (x : Text) (e : Entity) (s : State) {n : ℕ} → P token p → Held P n s → Held P n (declare token p x e s)
declare_held token p x e s y h = declared_held token p x e (find_here x s.names) s y h

listed_enum_held : {P : ℕ → Pos → Type 0} (p : Pos) (x : Text) (t : Option Tag) (s : State) {n : ℕ} → P s.at p → Held P n s → Held P n (listed_enumeration p x t s)
listed_enum_held p x None s y h = same h refl refl
listed_enum_held p x (Some t) s y h = complained 31 s.at p s y h

known_enum_held : {P : ℕ → Pos → Type 0} (p : Pos) (t : Option Tag) (s : State) {n : ℕ} → P s.at p → Held P n s → Held P n (known_enumeration p t s)
known_enum_held p (Some tag.Enumeration) s y h = h
known_enum_held p (Some (tag.Structure m)) s y h = complained 31 s.at p s y h
known_enum_held p None s y h = complained 30 s.at p s y h

pub enumeration_held : {P : ℕ → Pos → Type 0} (list : Bool) (x : Option Named) (s : State) {n : ℕ} → TagAt P s.at x → Held P n s → Held P n (enumeration list x s)
enumeration_held true None s y h = h
enumeration_held false None s y h = h
enumeration_held true (Some x) s y h = listed_enum_held x.pos x.text (find_here x.text s.tags) s y h
enumeration_held false (Some x) s y h = known_enum_held x.pos (find x.text s.tags) s y h
