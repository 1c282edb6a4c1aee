-- What constants, names, calls, operators and probes come to, and what is complained of them, depends on no place.
use Rattle.std.proofs.Common.{◌≡◌, ℕ, ℤ, List, [], ◌∷◌, ◌++◌, ◌&&◌, length, map, nat_eq, not, Option, Some, None, Bool, true, false, if◌then◌else◌, refl, sym, ap, ap₂, ◌∙◌}
use Rattle.std.proofs.lemmas.List.{map-append, length-map}
use Rattle.c_base.specs.declared.place.Pos.{Pos}
use Rattle.c_syntax.specs.declared.text.Text.{Text}
use Rattle.c_syntax.specs.declared.tree.UnaryOp.{UnaryOp}
use Rattle.c_syntax.specs.Start.{start}
use Rattle.c_syntax.specs.Shape.{TypeOf, int, pointer, array, structure, nothing, Infix, plain, and, or, assign, comma, Access, Probing}
use Rattle.c_constants.specs.Numbers.{number_of}
use Rattle.c_constants.specs.declared.constants.Constant.TheVariants.{No}
use Rattle.c_constants.specs.Probes.{probe_number_of}
use Rattle.c_type_rules.specs.Verdicts.{fits_type}
use Rattle.c_scopes.specs.Scoping.{find, named}
use Rattle.c_tables.specs.Builtins.{builtin_name, builtin_result, builtin_params}
use Rattle.c_tables.specs.Rows.{row}
use Rattle.c_tables.specs.Tables.{FunctionShape, VariableShape}
use Rattle.c_tree.specs.declared.meaning.Entity.{Entity}
use Rattle.c_tree.specs.declared.meaning.Entity.TheVariants as entity
use Rattle.c_tree.specs.declared.meaning.Side.{Side}
use Rattle.c_tree.specs.Complaints.{stray, undefined, unknown_name, wrong_arg_count, wrong_type}
use Rattle.c_tree.specs.State.{State, step, complaint, complain, demand, is_clean, Numbered, numbered_or, mention, function_number, pushed_function, counts}
use Rattle.c_tree.specs.Rulings.{Ruled, allowed, unsettled, refused, by, rule, kind_at, of_kind, whole}
use Rattle.c_tree.specs.Sorts.{Sort, no_sort, a_value, a_place, Typing, plainly, naming, Outcome, comes_to}
use Rattle.c_tree.specs.Operators.{number_sort, has_value, typed_number, string_type, with_literal, typed_string, named_variable, named_parameter, named_entity, typed_name, Called, called_builtin, called_entity, called, Given, fit_all, judged, call_of, typed_call, typed_unary, typed_step, typed_size, typed_type_size, typed_cast, typed_infix, typed_choice, typed_index, holder, field_rule, field_constant, held_field, typed_field, seen_of, claimed, claim, typed_probe, typed_select}
use Rattle.c_unplaced.specs.Unplaced.{unplaced_complaint, unplaced_state}

abbrev pub unplaced_outcome : Outcome → Outcome
unplaced_outcome o = record o { state = unplaced_state o.state }

abbrev pub unplaced_called : Called → Called
unplaced_called c = record c { state = unplaced_state c.state }

abbrev pub unplaced_numbered : Numbered → Numbered
unplaced_numbered n = record n { state = unplaced_state n.state }

abbrev pub unplaced_given : Given → Given
unplaced_given g = record g { pos = start }

-- ---- complaints

pub complained : (n token : ℕ) (p : Pos) (s : State) → complain n token start (unplaced_state s) ≡ unplaced_state (complain n token p s)
complained n token p s = ap (λ cs. record s { complaints = cs }) (sym (map-append unplaced_complaint s.complaints (complaint token n p ∷ [])))

pub ruled : (r : Ruled) (token : ℕ) (p : Pos) (s : State) → rule r token start (unplaced_state s) ≡ unplaced_state (rule r token p s)
ruled (allowed t) token p s = refl
ruled unsettled token p s = refl
ruled (refused n) token p s = complained n token p s

pub demanded : (b : Bool) (n token : ℕ) (p : Pos) (s : State) → demand b n token start (unplaced_state s) ≡ unplaced_state (demand b n token p s)
demanded true n token p s = refl
demanded false n token p s = complained n token p s

pub as_clean : (s t : State) → is_clean (unplaced_state s) (unplaced_state t) ≡ is_clean s t
as_clean s t = ap₂ nat_eq (length-map s.complaints unplaced_complaint) (length-map t.complaints unplaced_complaint)

-- of two ways, each without its places
pub either_way : (b : Bool) (x y v w : State) → v ≡ unplaced_state x → w ≡ unplaced_state y → (if b then v else w) ≡ unplaced_state (if b then x else y)
either_way true x y v w e f = e
either_way false x y v w e f = f

-- what is complained of an outcome
one_rule : (t : Typing) (r : Ruled) (token : ℕ) (o : Pos) (s : State) → comes_to t (rule r token start (unplaced_state s)) ≡ unplaced_outcome (comes_to t (rule r token o s))
one_rule t r token o s = ap (comes_to t) (ruled r token o s)

rule_and_step : (t : Typing) (r : Ruled) (token : ℕ) (o : Pos) (s : State) → comes_to t (step (rule r token start (unplaced_state s))) ≡ unplaced_outcome (comes_to t (step (rule r token o s)))
rule_and_step t r token o s = ap (λ u. comes_to t (step u)) (ruled r token o s)

two_rules : (t : Typing) (r q : Ruled) (token first : ℕ) (o p : Pos) (s : State) → comes_to t (rule r token start (rule q first start (unplaced_state s))) ≡ unplaced_outcome (comes_to t (rule r token o (rule q first p s)))
two_rules t r q token first o p s = ap (λ u. comes_to t (rule r token start u)) (ruled q first p s) ∙ one_rule t r token o (rule q first p s)

-- ---- constants and names

pub numbered : (p : Pos) (t : Text) (s : State) → typed_number start t (unplaced_state s) ≡ unplaced_outcome (typed_number p t s)
numbered p t s = ap (λ u. comes_to (plainly (number_sort (number_of t))) (step u)) (demanded (has_value (number_of t)) wrong_type s.at p s)

literal : (t : Text) (s : State) → with_literal t (unplaced_state s) ≡ unplaced_state (with_literal t s)
literal t s = either_way s.quiet s (record s { tables = record s.tables { literals = s.tables.literals ++ t ∷ [] } }) _ _ refl refl

pub stringed : (p : Pos) (t : Text) (s : State) → typed_string start t (unplaced_state s) ≡ unplaced_outcome (typed_string p t s)
stringed p t s =
    let r = whole s.rooms (string_type t) in
    ap (λ u. comes_to (typed_string p t s).typing (step (rule r s.at start u))) (literal t s) ∙ rule_and_step (typed_string p t s).typing r s.at p (with_literal t s)

unnamed : (p : Pos) (s : State) → comes_to (plainly no_sort) (step (complain unknown_name s.at start (unplaced_state s))) ≡ unplaced_outcome (comes_to (plainly no_sort) (step (complain unknown_name s.at p s)))
unnamed p s = ap (λ u. comes_to (plainly no_sort) (step u)) (complained unknown_name s.at p s)

variable : (p : Pos) (n : ℕ) (v : Option VariableShape) (s : State) → named_variable start n v (unplaced_state s) ≡ unplaced_outcome (named_variable p n v s)
variable p n None s = unnamed p s
variable p n (Some v) s = refl

parameter : (p : Pos) (k : Option TypeOf) (s : State) → named_parameter start k (unplaced_state s) ≡ unplaced_outcome (named_parameter p k s)
parameter p None s = unnamed p s
parameter p (Some t) s = refl

entity_named : (p : Pos) (e : Option Entity) (s : State) → named_entity start e (unplaced_state s) ≡ unplaced_outcome (named_entity p e s)
entity_named p (Some (entity.Variable n)) s = variable p n (row s.tables.variables n) s
entity_named p (Some (entity.Parameter n)) s = parameter p (row s.params n) s
entity_named p (Some (entity.Constant v)) s = refl
entity_named p (Some entity.Unknown) s = refl
entity_named p (Some (entity.Function n)) s = unnamed p s
entity_named p (Some (entity.Builtin b)) s = unnamed p s
entity_named p None s = unnamed p s

pub name_typed : (p : Pos) (x : Text) (s : State) → typed_name start x (unplaced_state s) ≡ unplaced_outcome (typed_name p x s)
name_typed p x s = entity_named p (find x s.names) s

-- ---- calls

one_of : (o : Option ℕ) (s : State) (m : Numbered) → numbered_or o (unplaced_state s) (unplaced_numbered m) ≡ unplaced_numbered (numbered_or o s m)
one_of None s m = refl
one_of (Some n) s m = refl

pub mentioned : (x : Text) (k : TypeOf) (ps : List TypeOf) (s : State) → mention x k ps (unplaced_state s) ≡ unplaced_numbered (mention x k ps s)
mentioned x k ps s = one_of (function_number x k ps s.tables.functions) s (pushed_function x k ps s)

not_called : (p : Pos) (s : State) → record { function = None; state = complain unknown_name s.at start (unplaced_state s) } ≡ unplaced_called (record { function = None; state = complain unknown_name s.at p s })
not_called p s = ap (λ u. record { function = None; state = u }) (complained unknown_name s.at p s)

entity_called : (p : Pos) (e : Option Entity) (s : State) → called_entity start e (unplaced_state s) ≡ unplaced_called (called_entity p e s)
entity_called p (Some (entity.Function n)) s = ap (λ u. record { function = Some n; state = u }) (demanded (counts s.known n) undefined s.at p s)
entity_called p (Some (entity.Builtin b)) s = ap called_builtin (mentioned (builtin_name b) (builtin_result b) (builtin_params b) s)
entity_called p (Some entity.Unknown) s = refl
entity_called p (Some (entity.Variable n)) s = not_called p s
entity_called p (Some (entity.Parameter n)) s = not_called p s
entity_called p (Some (entity.Constant v)) s = not_called p s
entity_called p None s = not_called p s

pub name_called : (p : Pos) (x : Text) (s : State) → called start x (unplaced_state s) ≡ unplaced_called (called p x s)
name_called p x s = entity_called p (find x s.names) s

all_fit : (ts : List TypeOf) (gs : List Given) (s : State) → fit_all ts (map unplaced_given gs) (unplaced_state s) ≡ unplaced_state (fit_all ts gs s)
all_fit [] gs s = refl
all_fit (t ∷ ts) [] s = refl
all_fit (t ∷ ts) (g ∷ gs) s =
    let r = by wrong_type (fits_type (Some t) g.kind g.null) in
    ap (fit_all ts (map unplaced_given gs)) (ruled r g.token g.pos s) ∙ all_fit ts gs (rule r g.token g.pos s)

arguments_judged : (token : ℕ) (p : Pos) (clean : Bool) (ts : List TypeOf) (gs : List Given) (s : State) → judged token start clean ts (map unplaced_given gs) (unplaced_state s) ≡ unplaced_state (judged token p clean ts gs s)
arguments_judged token p clean ts gs s =
    ap (λ n. if clean && not (nat_eq (length ts) n) then complain wrong_arg_count token start (unplaced_state s) else fit_all ts (map unplaced_given gs) (unplaced_state s)) (length-map gs unplaced_given)
    ∙ either_way (clean && not (nat_eq (length ts) (length gs))) (complain wrong_arg_count token p s) (fit_all ts gs s) _ _ (complained wrong_arg_count token p s) (all_fit ts gs s)

row_called : (p : Pos) (token : ℕ) (clean : Bool) (n : ℕ) (f : Option FunctionShape) (gs : List Given) (s : State) → call_of start token clean n f (map unplaced_given gs) (unplaced_state s) ≡ unplaced_outcome (call_of p token clean n f gs s)
row_called p token clean n None gs s = refl
row_called p token clean n (Some f) gs s = ap (λ u. comes_to (naming (a_value (Some f.result) No) (Some n)) (step u)) (arguments_judged token p clean f.params gs s)

pub call_typed : (p : Pos) (token : ℕ) (clean : Bool) (n : Option ℕ) (gs : List Given) (s : State) → typed_call start token clean n (map unplaced_given gs) (unplaced_state s) ≡ unplaced_outcome (typed_call p token clean n gs s)
call_typed p token clean None gs s = refl
call_typed p token clean (Some n) gs s = row_called p token clean n (row s.tables.functions n) gs s

-- ---- operators

pub unary_typed : (token : ℕ) (o : Pos) (first : ℕ) (p : Pos) (u : UnaryOp) (a : Sort) (s : State) → typed_unary token start first start u a (unplaced_state s) ≡ unplaced_outcome (typed_unary token o first p u a s)
unary_typed token o first p u a s = two_rules _ _ _ token first o p s

pub step_typed : (token : ℕ) (o : Pos) (first : ℕ) (p : Pos) (a : Sort) (s : State) → typed_step token start first start a (unplaced_state s) ≡ unplaced_outcome (typed_step token o first p a s)
step_typed token o first p a s = two_rules _ _ _ token first o p s

pub size_typed : (token : ℕ) (o : Pos) (k : Option TypeOf) (s : State) → typed_size token start k (unplaced_state s) ≡ unplaced_outcome (typed_size token o k s)
size_typed token o k s = one_rule _ _ token o s

pub type_size_typed : (token : ℕ) (o : Pos) (k : Option TypeOf) (s : State) → typed_type_size token start k (unplaced_state s) ≡ unplaced_outcome (typed_type_size token o k s)
type_size_typed token o k s = one_rule _ _ token o (step s)

pub cast_typed : (token : ℕ) (o : Pos) (k : Option TypeOf) (a : Sort) (s : State) → typed_cast token start k a (unplaced_state s) ≡ unplaced_outcome (typed_cast token o k a s)
cast_typed token o k a s = one_rule _ _ token o s

pub infix_typed : (token : ℕ) (o : Pos) (first : ℕ) (p : Pos) (u : Infix) (a b : Sort) (s : State) → typed_infix token start first start u a b (unplaced_state s) ≡ unplaced_outcome (typed_infix token o first p u a b s)
infix_typed token o first p (plain u) a b s = one_rule _ _ token o s
infix_typed token o first p and a b s = one_rule _ _ token o s
infix_typed token o first p or a b s = one_rule _ _ token o s
infix_typed token o first p (assign u) a b s = two_rules _ _ _ token first o p s
infix_typed token o first p comma a b s = refl

pub choice_typed : (token : ℕ) (o : Pos) (a b c : Sort) (s : State) → typed_choice token start a b c (unplaced_state s) ≡ unplaced_outcome (typed_choice token o a b c s)
choice_typed token o a b c s = one_rule _ _ token o s

pub index_typed : (token : ℕ) (o : Pos) (a b : Sort) (s : State) → typed_index token start a b (unplaced_state s) ≡ unplaced_outcome (typed_index token o a b s)
index_typed token o a b s = rule_and_step _ _ token o s

field_of : (x : Text) (s : State) (t : TypeOf) → field_rule x (unplaced_state s) t ≡ field_rule x s t
field_of x s (structure n) = refl
field_of x s (int k) = refl
field_of x s (pointer t) = refl
field_of x s (array t n) = refl
field_of x s nothing = refl

field_in : (k : Option TypeOf) (x : Text) (s : State) → of_kind k (field_rule x (unplaced_state s)) ≡ of_kind k (field_rule x s)
field_in None x s = refl
field_in (Some t) x s = field_of x s t

pub field_typed : (token : ℕ) (o : Pos) (h : Access) (x : Text) (q : Pos) (a : Sort) (s : State) → typed_field token start h x start a (unplaced_state s) ≡ unplaced_outcome (typed_field token o h x q a s)
field_typed token o h x q a s =
    let r = holder h s.rooms a.kind in
    let f = of_kind (kind_at r) (field_rule x s) in
    let c = field_constant h a.constant in
    let t = step (rule r token o s) in
    ap (λ g. held_field start g c (step (rule r token start (unplaced_state s)))) (field_in (kind_at r) x s)
    ∙ (ap (λ u. held_field start f c (step u)) (ruled r token o s) ∙ rule_and_step (plainly (a_place (kind_at f) c)) f t.at q t)

-- ---- probes

number_claimed : (u : Probing) (x : Text) (token : ℕ) (p : Pos) (n m : Option ℕ) (s : State) → claimed u x token start n m (unplaced_state s) ≡ unplaced_state (claimed u x token p n m s)
number_claimed u x token p (Some n) None s = refl
number_claimed u x token p (Some n) (Some m) s = complained stray token p s
number_claimed u x token p None None s = complained stray token p s
number_claimed u x token p None (Some m) s = complained stray token p s

pub number_taken : (u : Probing) (x : Text) (token : ℕ) (p : Pos) (s : State) → claim u x token start (unplaced_state s) ≡ unplaced_state (claim u x token p s)
number_taken u x token p s = number_claimed u x token p (probe_number_of x) (named x (seen_of u s.seen)) s

pub probe_typed : (token : ℕ) (p : Pos) (u : Probing) (d : Side) (a : Sort) (s : State) → typed_probe token start u d a (unplaced_state s) ≡ unplaced_outcome (typed_probe token p u d a s)
probe_typed token p u d a s = rule_and_step _ _ token p s

pub select_typed : (token : ℕ) (p : Pos) (clean : Bool) (vs : List (Option ℤ)) (a : Sort) (s : State) → typed_select token start clean vs a (unplaced_state s) ≡ unplaced_outcome (typed_select token p clean vs a s)
select_typed token p clean vs a s = rule_and_step _ _ token p s
