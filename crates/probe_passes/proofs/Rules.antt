-- What constants, names, calls, operators and probes come to is the same in the first pass; of a call that holds where nothing is complained of it.
use Rattle.std.proofs.Common.{◌≡◌, ℕ, ℤ, ◌≤◌, List, [], ◌∷◌, ◌++◌, ◌&&◌, length, nat_eq, not, Option, Some, None, Bool, true, false, if◌then◌else◌, refl, ap, ◌∙◌, arith, length-append}
use Rattle.c_base.specs.declared.place.Pos.{Pos}
use Rattle.c_syntax.specs.declared.text.Text.{Text}
use Rattle.c_syntax.specs.declared.tree.UnaryOp.{UnaryOp}
use Rattle.c_syntax.specs.Shape.{TypeOf, int, pointer, array, structure, nothing, Infix, plain, and, or, assign, comma, Access, Probing}
use Rattle.c_constants.specs.Numbers.{number_of}
use Rattle.c_constants.specs.declared.constants.Constant.TheVariants.{No}
use Rattle.c_constants.specs.Probes.{probe_number_of}
use Rattle.c_type_rules.specs.Verdicts.{fits_type}
use Rattle.c_scopes.specs.Scoping.{find, named}
use Rattle.c_tables.specs.Builtins.{builtin_name, builtin_result, builtin_params}
use Rattle.c_tables.specs.Rows.{row}
use Rattle.c_tables.specs.Tables.{FunctionShape, VariableShape}
use Rattle.c_tree.specs.declared.meaning.Entity.{Entity}
use Rattle.c_tree.specs.declared.meaning.Entity.TheVariants as entity
use Rattle.c_tree.specs.declared.meaning.Side.{Side}
use Rattle.c_tree.specs.Complaints.{undefined, wrong_arg_count, wrong_type}
use Rattle.c_tree.specs.State.{State, step, complaint, complain, demand, Numbered, numbered_or, mention, function_number, pushed_function, counts}
use Rattle.c_tree.specs.Rulings.{Ruled, allowed, unsettled, refused, by, rule, kind_at, of_kind, whole}
use Rattle.c_tree.specs.Sorts.{Sort, a_value, a_place, Typing, plainly, naming, Outcome, comes_to}
use Rattle.c_tree.specs.Operators.{number_sort, has_value, typed_number, string_type, with_literal, typed_string, named_variable, named_parameter, named_entity, typed_name, Called, called_builtin, called_entity, called, Given, fit_all, judged, call_of, typed_call, typed_unary, typed_step, typed_size, typed_type_size, typed_cast, typed_infix, typed_choice, typed_index, holder, field_rule, field_constant, held_field, typed_field, seen_of, claimed, claim, typed_probe, typed_select}
use Rattle.probe_passes.specs.Passes.{first_pass}

-- nothing was complained of
abbrev pub IsClean : State → Type 0
IsClean s = length s.complaints ≤ 0

abbrev pub first_outcome : Outcome → Outcome
first_outcome o = record o { state = first_pass o.state }

abbrev pub first_called : Called → Called
first_called c = record c { state = first_pass c.state }

abbrev pub first_numbered : Numbered → Numbered
first_numbered n = record n { state = first_pass n.state }

-- ---- complaints

pub ruled : (r : Ruled) (token : ℕ) (p : Pos) (s : State) → rule r token p (first_pass s) ≡ first_pass (rule r token p s)
ruled (allowed t) token p s = refl
ruled unsettled token p s = refl
ruled (refused n) token p s = refl

pub demanded : (b : Bool) (n token : ℕ) (p : Pos) (s : State) → demand b n token p (first_pass s) ≡ first_pass (demand b n token p s)
demanded true n token p s = refl
demanded false n token p s = refl

-- what was complained of stays so
mended : (n token : ℕ) (p : Pos) (s : State) → IsClean (complain n token p s) → ⊥
mended n token p s c = let e = length-append s.complaints (complaint token n p ∷ []) in omega (arith, e, c)

-- what was demanded without complaint holds
fulfilled : (b : Bool) (n token : ℕ) (p : Pos) (s : State) → IsClean (demand b n token p s) → s ≡ demand b n token p s
fulfilled true n token p s c = refl
fulfilled false n token p s c = absurd (mended n token p s c)

-- of two ways, each in the first pass
either_way : (b : Bool) (x y v w : State) → v ≡ first_pass x → w ≡ first_pass y → (if b then v else w) ≡ first_pass (if b then x else y)
either_way true x y v w e f = e
either_way false x y v w e f = f

-- what is complained of an outcome
one_rule : (t : Typing) (r : Ruled) (token : ℕ) (o : Pos) (s : State) → comes_to t (rule r token o (first_pass s)) ≡ first_outcome (comes_to t (rule r token o s))
one_rule t r token o s = ap (comes_to t) (ruled r token o s)

rule_and_step : (t : Typing) (r : Ruled) (token : ℕ) (o : Pos) (s : State) → comes_to t (step (rule r token o (first_pass s))) ≡ first_outcome (comes_to t (step (rule r token o s)))
rule_and_step t r token o s = ap (λ u. comes_to t (step u)) (ruled r token o s)

two_rules : (t : Typing) (r q : Ruled) (token first : ℕ) (o p : Pos) (s : State) → comes_to t (rule r token o (rule q first p (first_pass s))) ≡ first_outcome (comes_to t (rule r token o (rule q first p s)))
two_rules t r q token first o p s = ap (λ u. comes_to t (rule r token o u)) (ruled q first p s) ∙ one_rule t r token o (rule q first p s)

-- ---- constants and names

pub numbered : (p : Pos) (t : Text) (s : State) → typed_number p t (first_pass s) ≡ first_outcome (typed_number p t s)
numbered p t s = ap (λ u. comes_to (plainly (number_sort (number_of t))) (step u)) (demanded (has_value (number_of t)) wrong_type s.at p s)

literal : (t : Text) (s : State) → with_literal t (first_pass s) ≡ first_pass (with_literal t s)
literal t s = either_way s.quiet s (record s { tables = record s.tables { literals = s.tables.literals ++ t ∷ [] } }) _ _ refl refl

pub stringed : (p : Pos) (t : Text) (s : State) → typed_string p t (first_pass s) ≡ first_outcome (typed_string p t s)
stringed p t s =
    let r = whole s.rooms (string_type t) in
    ap (λ u. comes_to (typed_string p t s).typing (step (rule r s.at p u))) (literal t s) ∙ rule_and_step (typed_string p t s).typing r s.at p (with_literal t s)

variable : (p : Pos) (n : ℕ) (v : Option VariableShape) (s : State) → named_variable p n v (first_pass s) ≡ first_outcome (named_variable p n v s)
variable p n None s = refl
variable p n (Some v) s = refl

parameter : (p : Pos) (k : Option TypeOf) (s : State) → named_parameter p k (first_pass s) ≡ first_outcome (named_parameter p k s)
parameter p None s = refl
parameter p (Some t) s = refl

entity_named : (p : Pos) (e : Option Entity) (s : State) → named_entity p e (first_pass s) ≡ first_outcome (named_entity p e s)
entity_named p (Some (entity.Variable n)) s = variable p n (row s.tables.variables n) s
entity_named p (Some (entity.Parameter n)) s = parameter p (row s.params n) s
entity_named p (Some (entity.Constant v)) s = refl
entity_named p (Some entity.Unknown) s = refl
entity_named p (Some (entity.Function n)) s = refl
entity_named p (Some (entity.Builtin b)) s = refl
entity_named p None s = refl

pub name_typed : (p : Pos) (x : Text) (s : State) → typed_name p x (first_pass s) ≡ first_outcome (typed_name p x s)
name_typed p x s = entity_named p (find x s.names) s

-- ---- calls

one_of : (o : Option ℕ) (s : State) (m : Numbered) → numbered_or o (first_pass s) (first_numbered m) ≡ first_numbered (numbered_or o s m)
one_of None s m = refl
one_of (Some n) s m = refl

pub mentioned : (x : Text) (k : TypeOf) (ps : List TypeOf) (s : State) → mention x k ps (first_pass s) ≡ first_numbered (mention x k ps s)
mentioned x k ps s = one_of (function_number x k ps s.tables.functions) s (pushed_function x k ps s)

-- the heart of it: a function that is called has a body, or the call is complained of in the second pass
entity_called : (p : Pos) (e : Option Entity) (s : State) → IsClean (called_entity p e s).state → called_entity p e (first_pass s) ≡ first_called (called_entity p e s)
entity_called p (Some (entity.Function n)) s c = ap (λ u. record { function = Some n; state = first_pass u }) (fulfilled (counts s.known n) undefined s.at p s c)
entity_called p (Some (entity.Builtin b)) s c = ap called_builtin (mentioned (builtin_name b) (builtin_result b) (builtin_params b) s)
entity_called p (Some entity.Unknown) s c = refl
entity_called p (Some (entity.Variable n)) s c = refl
entity_called p (Some (entity.Parameter n)) s c = refl
entity_called p (Some (entity.Constant v)) s c = refl
entity_called p None s c = refl

pub name_called : (p : Pos) (x : Text) (s : State) → IsClean (called p x s).state → called p x (first_pass s) ≡ first_called (called p x s)
name_called p x s c = entity_called p (find x s.names) s c

all_fit : (ts : List TypeOf) (gs : List Given) (s : State) → fit_all ts gs (first_pass s) ≡ first_pass (fit_all ts gs s)
all_fit [] gs s = refl
all_fit (t ∷ ts) [] s = refl
all_fit (t ∷ ts) (g ∷ gs) s =
    let r = by wrong_type (fits_type (Some t) g.kind g.null) in
    ap (fit_all ts gs) (ruled r g.token g.pos s) ∙ all_fit ts gs (rule r g.token g.pos s)

arguments_judged : (token : ℕ) (p : Pos) (clean : Bool) (ts : List TypeOf) (gs : List Given) (s : State) → judged token p clean ts gs (first_pass s) ≡ first_pass (judged token p clean ts gs s)
arguments_judged token p clean ts gs s = either_way (clean && not (nat_eq (length ts) (length gs))) (complain wrong_arg_count token p s) (fit_all ts gs s) _ _ refl (all_fit ts gs s)

row_called : (p : Pos) (token : ℕ) (clean : Bool) (n : ℕ) (f : Option FunctionShape) (gs : List Given) (s : State) → call_of p token clean n f gs (first_pass s) ≡ first_outcome (call_of p token clean n f gs s)
row_called p token clean n None gs s = refl
row_called p token clean n (Some f) gs s = ap (λ u. comes_to (naming (a_value (Some f.result) No) (Some n)) (step u)) (arguments_judged token p clean f.params gs s)

pub call_typed : (p : Pos) (token : ℕ) (clean : Bool) (n : Option ℕ) (gs : List Given) (s : State) → typed_call p token clean n gs (first_pass s) ≡ first_outcome (typed_call p token clean n gs s)
call_typed p token clean None gs s = refl
call_typed p token clean (Some n) gs s = row_called p token clean n (row s.tables.functions n) gs s

-- ---- operators

pub unary_typed : (token : ℕ) (o : Pos) (first : ℕ) (p : Pos) (u : UnaryOp) (a : Sort) (s : State) → typed_unary token o first p u a (first_pass s) ≡ first_outcome (typed_unary token o first p u a s)
unary_typed token o first p u a s = two_rules _ _ _ token first o p s

pub step_typed : (token : ℕ) (o : Pos) (first : ℕ) (p : Pos) (a : Sort) (s : State) → typed_step token o first p a (first_pass s) ≡ first_outcome (typed_step token o first p a s)
step_typed token o first p a s = two_rules _ _ _ token first o p s

pub size_typed : (token : ℕ) (o : Pos) (k : Option TypeOf) (s : State) → typed_size token o k (first_pass s) ≡ first_outcome (typed_size token o k s)
size_typed token o k s = one_rule _ _ token o s

pub type_size_typed : (token : ℕ) (o : Pos) (k : Option TypeOf) (s : State) → typed_type_size token o k (first_pass s) ≡ first_outcome (typed_type_size token o k s)
type_size_typed token o k s = one_rule _ _ token o (step s)

pub cast_typed : (token : ℕ) (o : Pos) (k : Option TypeOf) (a : Sort) (s : State) → typed_cast token o k a (first_pass s) ≡ first_outcome (typed_cast token o k a s)
cast_typed token o k a s = one_rule _ _ token o s

pub infix_typed : (token : ℕ) (o : Pos) (first : ℕ) (p : Pos) (u : Infix) (a b : Sort) (s : State) → typed_infix token o first p u a b (first_pass s) ≡ first_outcome (typed_infix token o first p u a b s)
infix_typed token o first p (plain u) a b s = one_rule _ _ token o s
infix_typed token o first p and a b s = one_rule _ _ token o s
infix_typed token o first p or a b s = one_rule _ _ token o s
infix_typed token o first p (assign u) a b s = two_rules _ _ _ token first o p s
infix_typed token o first p comma a b s = refl

pub choice_typed : (token : ℕ) (o : Pos) (a b c : Sort) (s : State) → typed_choice token o a b c (first_pass s) ≡ first_outcome (typed_choice token o a b c s)
choice_typed token o a b c s = one_rule _ _ token o s

pub index_typed : (token : ℕ) (o : Pos) (a b : Sort) (s : State) → typed_index token o a b (first_pass s) ≡ first_outcome (typed_index token o a b s)
index_typed token o a b s = rule_and_step _ _ token o s

field_of : (x : Text) (s : State) (t : TypeOf) → field_rule x (first_pass s) t ≡ field_rule x s t
field_of x s (structure n) = refl
field_of x s (int k) = refl
field_of x s (pointer t) = refl
field_of x s (array t n) = refl
field_of x s nothing = refl

field_in : (k : Option TypeOf) (x : Text) (s : State) → of_kind k (field_rule x (first_pass s)) ≡ of_kind k (field_rule x s)
field_in None x s = refl
field_in (Some t) x s = field_of x s t

pub field_typed : (token : ℕ) (o : Pos) (h : Access) (x : Text) (q : Pos) (a : Sort) (s : State) → typed_field token o h x q a (first_pass s) ≡ first_outcome (typed_field token o h x q a s)
field_typed token o h x q a s =
    let r = holder h s.rooms a.kind in
    let f = of_kind (kind_at r) (field_rule x s) in
    let c = field_constant h a.constant in
    let t = step (rule r token o s) in
    ap (λ g. held_field q g c (step (rule r token o (first_pass s)))) (field_in (kind_at r) x s)
    ∙ (ap (λ u. held_field q f c (step u)) (ruled r token o s) ∙ rule_and_step (plainly (a_place (kind_at f) c)) f t.at q t)

-- ---- probes

number_claimed : (u : Probing) (x : Text) (token : ℕ) (p : Pos) (n m : Option ℕ) (s : State) → claimed u x token p n m (first_pass s) ≡ first_pass (claimed u x token p n m s)
number_claimed u x token p (Some n) None s = refl
number_claimed u x token p (Some n) (Some m) s = refl
number_claimed u x token p None None s = refl
number_claimed u x token p None (Some m) s = refl

pub number_taken : (u : Probing) (x : Text) (token : ℕ) (p : Pos) (s : State) → claim u x token p (first_pass s) ≡ first_pass (claim u x token p s)
number_taken u x token p s = number_claimed u x token p (probe_number_of x) (named x (seen_of u s.seen)) s

pub probe_typed : (token : ℕ) (p : Pos) (u : Probing) (d : Side) (a : Sort) (s : State) → typed_probe token p u d a (first_pass s) ≡ first_outcome (typed_probe token p u d a s)
probe_typed token p u d a s = rule_and_step _ _ token p s

pub select_typed : (token : ℕ) (p : Pos) (clean : Bool) (vs : List (Option ℤ)) (a : Sort) (s : State) → typed_select token p clean vs a (first_pass s) ≡ first_outcome (typed_select token p clean vs a s)
select_typed token p clean vs a s = rule_and_step _ _ token p s
