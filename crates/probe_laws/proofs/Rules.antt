-- Where each operand has a type and nothing is complained of, an expression has a type.
use Rattle.std.proofs.Common.{◌≡◌, ℕ, ℤ, ◌≤◌, List, Option, Some, None, arith, Bool, true, false}
use Rattle.c_base.specs.declared.place.Pos.{Pos}
use Rattle.c_syntax.specs.declared.text.Text.{Text}
use Rattle.c_syntax.specs.declared.tree.BinaryOp.{BinaryOp}
use Rattle.c_syntax.specs.declared.tree.UnaryOp.{UnaryOp}
use Rattle.c_syntax.specs.declared.tree.UnaryOp.TheVariants as front
use Rattle.c_syntax.specs.Shape.{TypeOf, int, pointer, array, structure, nothing, Infix, plain, and, or, assign, comma, Access, dot, arrow, Probing, block, test, used, def}
use Rattle.c_type_rules.specs.Kinds.{promote}
use Rattle.c_type_rules.specs.Layouts.{Measure}
use Rattle.c_type_rules.specs.Verdicts.{binary_type, truth_type, logical_type, conditional_type, assigned_type, compound_type, step_type, promoted_type, target_type, element_type, address_type, cast_type, probed_type}
use Rattle.c_constants.specs.declared.numbers.Number.{Number}
use Rattle.c_constants.specs.declared.constants.Constant.{Constant}
use Rattle.c_tree.specs.declared.meaning.Side.{Side}
use Rattle.c_tree.specs.State.{State, step, demand, field_type, fields_of}
use Rattle.c_tree.specs.Rulings.{Ruled, allowed, unsettled, refused, by, then_rule, kind_at, rule, of_kind, allowed_if, whole, object, moved, sized, as_size, comma_kind}
use Rattle.c_tree.specs.Sorts.{Sort, null, changeable}
use Rattle.c_tree.specs.Operators.{number_sort, has_value, unary_rule, unary_sort, place_rule, step_rule, plain_rule, left_side, assigned_rule, typed_infix, choice_rule, element_rule, holder, field_rule, found_field, is_copied, probe_rule, probe_sort, as_decayed, select_cases, differ, select_rule}
use Rattle.c_tree.proofs.Grows.{rule_grows}
use Rattle.probe_laws.proofs.Settled.{IsThere, IsClean, Settled, mended, type_there, by_told, then_settled, of_kind_settled, if_settled, whole_settled, object_settled, moved_settled, binary_told, test_told, logical_told, conditional_told, assigned_told, compound_told, step_told, promoted_told, target_told, element_told, address_told, cast_told, probed_told, IsStructure, dot_held, arrow_held, structure_there}

-- nothing was complained of before
pub back : {n m : ℕ} → n ≤ m → m ≡ 0 → n ≡ 0
back g h = omega (arith, g, h)

pub number_there : (n : Option Number) (token : ℕ) (p : Pos) (s : State) → IsClean (demand (has_value n) 33 token p s) → IsThere (number_sort n).kind
number_there None token p s h = mended 33 token p s h
number_there (Some n) token p s h = tt

-- ---- operators of one operand

changeable_settled : (a : Sort) → IsThere a.kind → Settled (changeable a)
changeable_settled a h = of_kind_settled a.kind (allowed_if a.place 32) h (λ t. if_settled a.place 32 t)

pub changeable_there : (r : Ruled) (a : Sort) (token : ℕ) (o : Pos) (head : ℕ) (p : Pos) (s : State) → IsThere a.kind → IsClean (rule r token o (rule (changeable a) head p s)) → IsThere (kind_at (changeable a))
changeable_there r a token o head p s h c = type_there (changeable a) head p s (changeable_settled a h) (back (rule_grows r token o (rule (changeable a) head p s)) c)

pub unary_there : (u : UnaryOp) (rooms : List Measure) (k : Constant) (a : Sort) (token : ℕ) (o : Pos) (head : ℕ) (p : Pos) (s : State) → IsThere a.kind
    → IsClean (rule (unary_rule u rooms a) token o (rule (place_rule u a) head p s)) → IsThere (unary_sort u (kind_at (unary_rule u rooms a)) k).kind
unary_there front.AddressOf rooms k a token o head p s h c =
    let r = unary_rule front.AddressOf rooms a in
    type_there r token o (rule (changeable a) head p s) (by_told 33 (address_type (kind_at (changeable a))) (address_told (kind_at (changeable a)) (changeable_there r a token o head p s h c))) c
unary_there front.Deref rooms k a token o head p s h c =
    type_there (unary_rule front.Deref rooms a) token o s (then_settled (by 33 (target_type a.kind)) (object rooms) (by_told 33 (target_type a.kind) (target_told a.kind h)) (object_settled rooms)) c
unary_there front.Not rooms k a token o head p s h c = type_there (by 33 (truth_type a.kind)) token o s (by_told 33 (truth_type a.kind) (test_told a.kind h)) c
unary_there front.Plus rooms k a token o head p s h c = type_there (by 33 (promoted_type a.kind)) token o s (by_told 33 (promoted_type a.kind) (promoted_told a.kind h)) c
unary_there front.Minus rooms k a token o head p s h c = type_there (by 33 (promoted_type a.kind)) token o s (by_told 33 (promoted_type a.kind) (promoted_told a.kind h)) c
unary_there front.Flip rooms k a token o head p s h c = type_there (by 33 (promoted_type a.kind)) token o s (by_told 33 (promoted_type a.kind) (promoted_told a.kind h)) c

pub step_there : (rooms : List Measure) (a : Sort) (token : ℕ) (o : Pos) (head : ℕ) (p : Pos) (s : State) → IsThere a.kind
    → IsClean (rule (step_rule rooms a) token o (rule (changeable a) head p s)) → IsThere (kind_at (step_rule rooms a))
step_there rooms a token o head p s h c =
    let k = kind_at (changeable a) in
    let is = changeable_there (step_rule rooms a) a token o head p s h c in
    type_there (step_rule rooms a) token o (rule (changeable a) head p s) (then_settled (by 33 (step_type k)) (moved rooms) (by_told 33 (step_type k) (step_told k is)) (moved_settled rooms)) c

sized_settled : (rooms : List Measure) (t : TypeOf) → Settled (sized rooms t)
sized_settled rooms nothing = tt
sized_settled rooms (int k) = whole_settled rooms (int k)
sized_settled rooms (pointer t) = whole_settled rooms (pointer t)
sized_settled rooms (array t n) = whole_settled rooms (array t n)
sized_settled rooms (structure n) = whole_settled rooms (structure n)

as_size_there : (r : Ruled) (token : ℕ) (o : Pos) (s : State) → Settled r → IsClean (rule r token o s) → IsThere (kind_at (then_rule r as_size))
as_size_there (allowed t) token o s h c = tt
as_size_there unsettled token o s h c = h
as_size_there (refused n) token o s h c = mended n token o s c

pub size_there : (rooms : List Measure) (k : Option TypeOf) (token : ℕ) (o : Pos) (s : State) → IsThere k → IsClean (rule (of_kind k (sized rooms)) token o s) → IsThere (kind_at (then_rule (of_kind k (sized rooms)) as_size))
size_there rooms k token o s h c = as_size_there (of_kind k (sized rooms)) token o s (of_kind_settled k (sized rooms) h (sized_settled rooms)) c

pub type_size_there : (rooms : List Measure) (k : Option TypeOf) (token : ℕ) (o : Pos) (s : State) → IsThere k → IsClean (rule (of_kind k (whole rooms)) token o s) → IsThere (kind_at (then_rule (of_kind k (whole rooms)) as_size))
type_size_there rooms k token o s h c = as_size_there (of_kind k (whole rooms)) token o s (of_kind_settled k (whole rooms) h (whole_settled rooms)) c

pub cast_there : (k a : Option TypeOf) (token : ℕ) (o : Pos) (s : State) → IsThere k → IsThere a → IsClean (rule (by 33 (cast_type k a)) token o s) → IsThere (kind_at (by 33 (cast_type k a)))
cast_there k a token o s h g c = type_there (by 33 (cast_type k a)) token o s (by_told 33 (cast_type k a) (cast_told k a h g)) c

-- ---- operators of two and three operands

left_settled : (a b : Sort) → IsThere a.kind → IsThere b.kind → Settled (left_side a b)
left_settled a b h g = of_kind_settled b.kind (λ t. changeable a) g (λ t. changeable_settled a h)

assigned_settled : (u : Option BinaryOp) (rooms : List Measure) (a b : Sort) → IsThere (kind_at (left_side a b)) → IsThere b.kind → Settled (assigned_rule u rooms a b)
assigned_settled None rooms a b h g = by_told 33 (assigned_type (kind_at (left_side a b)) b.kind (null b) b.place) (assigned_told (kind_at (left_side a b)) b.kind (null b) b.place h g)
assigned_settled (Some u) rooms a b h g =
    then_settled (by 33 (compound_type u (kind_at (left_side a b)) b.kind)) (moved rooms) (by_told 33 (compound_type u (kind_at (left_side a b)) b.kind) (compound_told u (kind_at (left_side a b)) b.kind h g)) (moved_settled rooms)

pub left_there : (u : Option BinaryOp) (rooms : List Measure) (a b : Sort) (token : ℕ) (o : Pos) (head : ℕ) (p : Pos) (s : State) → IsThere a.kind → IsThere b.kind
    → IsClean (rule (assigned_rule u rooms a b) token o (rule (left_side a b) head p s)) → IsThere (kind_at (left_side a b))
left_there u rooms a b token o head p s h g c = type_there (left_side a b) head p s (left_settled a b h g) (back (rule_grows (assigned_rule u rooms a b) token o (rule (left_side a b) head p s)) c)

comma_there : (a b : Option TypeOf) → IsThere a → IsThere b → IsThere (kind_at (comma_kind a b))
comma_there None b h g = h
comma_there (Some a) None h g = g
comma_there (Some a) (Some b) h g = tt

logical_there : (a b : Option TypeOf) (token : ℕ) (o : Pos) (s : State) → IsThere a → IsThere b → IsClean (rule (by 33 (logical_type a b)) token o s) → IsThere (kind_at (by 33 (logical_type a b)))
logical_there a b token o s h g c = type_there (by 33 (logical_type a b)) token o s (by_told 33 (logical_type a b) (logical_told a b h g)) c

pub infix_there : (token : ℕ) (o : Pos) (head : ℕ) (p : Pos) (u : Infix) (a b : Sort) (s : State) → IsThere a.kind → IsThere b.kind
    → IsClean (typed_infix token o head p u a b s).state → IsThere (typed_infix token o head p u a b s).typing.sort.kind
infix_there token o head p (plain u) a b s h g c =
    let v = binary_type u a.kind (null a) b.kind (null b) in
    type_there (plain_rule u s.rooms a b) token o s (then_settled (by 33 v) (moved s.rooms) (by_told 33 v (binary_told u a.kind (null a) b.kind (null b) h g)) (moved_settled s.rooms)) c
infix_there token o head p and a b s h g c = logical_there a.kind b.kind token o s h g c
infix_there token o head p or a b s h g c = logical_there a.kind b.kind token o s h g c
infix_there token o head p (assign u) a b s h g c =
    type_there (assigned_rule u s.rooms a b) token o (rule (left_side a b) head p s) (assigned_settled u s.rooms a b (left_there u s.rooms a b token o head p s h g c) g) c
infix_there token o head p comma a b s h g c = comma_there a.kind b.kind h g

pub choice_there : (a b d : Sort) (token : ℕ) (o : Pos) (s : State) → IsThere a.kind → IsThere b.kind → IsThere d.kind → IsClean (rule (choice_rule a b d) token o s) → IsThere (kind_at (choice_rule a b d))
choice_there a b d token o s h g k c =
    let v = conditional_type a.kind b.kind (null b) d.kind (null d) in
    type_there (choice_rule a b d) token o s (by_told 33 v (conditional_told a.kind b.kind (null b) d.kind (null d) h g k)) c

pub element_there : (rooms : List Measure) (a b : Sort) (token : ℕ) (o : Pos) (s : State) → IsThere a.kind → IsThere b.kind → IsClean (rule (element_rule rooms a b) token o s) → IsThere (kind_at (element_rule rooms a b))
element_there rooms a b token o s h g c =
    let v = element_type a.kind b.kind in
    type_there (element_rule rooms a b) token o s (then_settled (by 33 v) (object rooms) (by_told 33 v (element_told a.kind b.kind h g)) (object_settled rooms)) c

-- ---- fields

holder_there : (h : Access) (rooms : List Measure) (k : Option TypeOf) (token : ℕ) (o : Pos) (s : State) → IsThere k → IsClean (rule (holder h rooms k) token o s) → IsStructure (kind_at (holder h rooms k))
holder_there dot rooms k token o s h c = structure_there (holder dot rooms k) token o s (dot_held k h) c
holder_there arrow rooms k token o s h c = structure_there (holder arrow rooms k) token o s (arrow_held rooms k h) c

found_settled : (k : Option TypeOf) → Settled (found_field k)
found_settled None = tt
found_settled (Some t) = tt

field_settled : (x : Text) (s : State) (k : Option TypeOf) → IsStructure k → Settled (of_kind k (field_rule x s))
field_settled x s None h = h
field_settled x s (Some (structure n)) h = found_settled (field_type x (fields_of n s))
field_settled x s (Some (int k)) h = absurd h
field_settled x s (Some (pointer t)) h = absurd h
field_settled x s (Some (array t n)) h = absurd h
field_settled x s (Some nothing) h = absurd h

pub field_there : (h : Access) (x : Text) (a : Sort) (token : ℕ) (o q : Pos) (s : State) → IsThere a.kind
    → (let v = step (rule (holder h s.rooms a.kind) token o s) in let f = of_kind (kind_at (holder h s.rooms a.kind)) (field_rule x s) in IsClean (rule f v.at q v) → IsThere (kind_at f))
field_there h x a token o q s is c =
    let r = holder h s.rooms a.kind in
    let v = step (rule r token o s) in
    let f = of_kind (kind_at r) (field_rule x s) in
    type_there f v.at q v (field_settled x s (kind_at r) (holder_there h s.rooms a.kind token o s is (back (rule_grows f v.at q v) c))) c

-- ---- probes

decayed_settled : (a : Option TypeOf) → IsThere a → Settled (of_kind a as_decayed)
decayed_settled a h = of_kind_settled a as_decayed h (λ t. tt)

placed_settled : (copied : Bool) (a : Sort) → IsThere a.kind → Settled (then_rule (by 33 (probed_type copied a.kind)) (allowed_if a.place 33))
placed_settled copied a h = then_settled (by 33 (probed_type copied a.kind)) (allowed_if a.place 33) (by_told 33 (probed_type copied a.kind) (probed_told copied a.kind h)) (if_settled a.place 33)

pub probe_there : (u : Probing) (d : Side) (k : Constant) (a : Sort) (token : ℕ) (p : Pos) (s : State) → IsThere a.kind → IsClean (rule (probe_rule u d a) token p s) → IsThere (probe_sort u (kind_at (probe_rule u d a)) k).kind
probe_there block d k a token p s h c = type_there (probe_rule block d a) token p s (decayed_settled a.kind h) c
probe_there test d k a token p s h c =
    type_there (probe_rule test d a) token p s (then_settled (by 33 (truth_type a.kind)) (λ t. of_kind a.kind as_decayed) (by_told 33 (truth_type a.kind) (test_told a.kind h)) (λ t. decayed_settled a.kind h)) c
probe_there used d k a token p s h c = type_there (probe_rule used d a) token p s (placed_settled (is_copied used d) a h) c
probe_there def d k a token p s h c = type_there (probe_rule def d a) token p s (placed_settled (is_copied def d) a h) c

cases_settled : (vs : List (Option ℤ)) (k : Option TypeOf) → IsThere k → Settled (then_rule (by 33 (promoted_type k)) (select_cases vs))
cases_settled vs None h = h
cases_settled vs (Some (int k)) h = if_settled (differ (promote k) vs) 33 (int (promote k))
cases_settled vs (Some (pointer t)) h = tt
cases_settled vs (Some (array t n)) h = tt
cases_settled vs (Some (structure n)) h = tt
cases_settled vs (Some nothing) h = tt

pub select_there : (clean : Bool) (vs : List (Option ℤ)) (a : Sort) (token : ℕ) (p : Pos) (s : State) → clean ≡ true → IsThere a.kind → IsClean (rule (select_rule clean vs a) token p s) → IsThere (kind_at (select_rule clean vs a))
select_there false vs a token p s e h c = cc
select_there true vs a token p s e h c =
    type_there (select_rule true vs a) token p s (then_settled (then_rule (by 33 (promoted_type a.kind)) (select_cases vs)) (λ t. of_kind a.kind allowed) (cases_settled vs a.kind h) (λ t. of_kind_settled a.kind allowed h (λ u. tt))) c
