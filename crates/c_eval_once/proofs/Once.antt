-- What is taken at once.
use Rattle.std.proofs.Common.{◌≡◌, ℕ, ◌+◌, ◌*◌, ◌<◌, ◌≤◌, ◌^◌, zero, suc, List, [], ◌∷◌, Option, Some, None, Bool, true, false, Result, Ok, Err, refl, sym, ap, ◌∙◌, arith, take, drop, length}
use Rattle.std.specs.Prelude.{pos, nat_eq, nat_lt}
use Rattle.std.proofs.Math.Seq.{take-length, drop-length}
use Rattle.std.proofs.lemmas.Bool.{lt-ltb, eqb-true}
use Rattle.c_base.specs.declared.place.Pos.{Pos}
use Rattle.c_base.specs.declared.place.IntKind.{IntKind}
use Rattle.c_lex_pieces.specs.declared.bytes.ByteSet.TheVariants.{Digit}
use Rattle.c_lex_pieces.specs.Bytes.{digit_of, run}
use Rattle.c_lex_pieces.specs.Numbers.{value as worth, is_suffix}
use Rattle.c_type_rules.specs.declared.kinds.Radix.TheVariants.{Decimal}
use Rattle.c_constants.specs.Numbers.{number_of, number_in}
use Rattle.c_syntax.specs.declared.text.Text.{Text}
use Rattle.c_syntax.specs.declared.tree.Expr.{Expr}
use Rattle.c_syntax.specs.declared.tree.Expr.TheVariants.{Name}
use Rattle.c_syntax.specs.declared.tree.Note.{Note}
use Rattle.c_syntax.specs.declared.tree.Note.TheVariants.{Typed}
use Rattle.c_syntax.specs.declared.tree.CType.{CType}
use Rattle.c_syntax.specs.View.{note_shape, expr_shape, type_of}
use Rattle.c_syntax.specs.Shape.{TypeOf, int, pointer, array, node, leaf, name, typed}
use Rattle.c_store.specs.declared.value.Value.{Value}
use Rattle.c_store.specs.declared.value.Value.TheVariants.{Int, At}
use Rattle.c_store.specs.declared.value.Pointer.{Pointer}
use Rattle.c_store.specs.declared.value.Fault.{Fault}
use Rattle.c_store.specs.Cells.{read_of}
use Rattle.c_tables.specs.Tables.{TablesShape}
use Rattle.c_meaning.specs.State.{State, instance_of}
use Rattle.c_meaning.specs.Results.{Got, Gives, Stops, then_do, turn, present, settled, untyped}
use Rattle.c_meaning.specs.Places.{whole, object_at, variable_place, first_element}
use Rattle.c_meaning.specs.Knot.{Knot}
use Rattle.c_meaning.specs.Expressions.{gives, number_value}
use Rattle.c_events.specs.declared.events.Event.{Event}
use Rattle.c_world.specs.declared.world.World.{World}
use Rattle.c_world.specs.World.{state_of}
use Rattle.c_meaning.specs.declared.end.Stop.{Stop}
use Rattle.c_eval_once.specs.declared.reply.Answer.{Answer}
use Rattle.c_eval_once.specs.declared.reply.Answer.TheVariants as answer
use Rattle.c_eval_once.specs.declared.reply.Spot.{Spot}
use Rattle.c_eval_once.specs.Parts.{value, one_more}
use Rattle.c_eval_once.specs.Forms.{scalar_value, IsFewer, Meets, Loads, Stands}

-- ---- turns

-- where none is left, none are gone
pub no_turns : (v w : World) → ((h : List Event) → (v.turns ≡ 0) × (state_of w h ≡ state_of v h)) → w.turns ≤ v.turns
no_turns v w none = let e : w.turns ≡ v.turns = ap (λ s. s.turns) (none []).1 in omega (arith, e)

pub fewer : (a : Answer) (n m : ℕ) → n < m → IsFewer a n m
fewer (answer.Value v) n m lt = lt
fewer (answer.Stopped why) n m lt = tt
fewer answer.NoMemory n m lt = tt

-- ---- answers

pub meets_as : (a : Answer) (s : State) (g g' : Got (Option Value)) → g ≡ g' → Meets a s g' → Meets a s g
meets_as a s g g' e m = rw e m

pub loads_gives : (a : Answer) (s : State) (g : Got Value) → Loads a s g → Meets a s (then_do g gives)
loads_gives (answer.Value v) s g e = ap (λ g. then_do g gives) e
loads_gives (answer.Stopped why) s g e = ap (λ g. then_do g gives) e
loads_gives answer.NoMemory s g e = tt

pub stands_as : (a : Spot) (s : State) (g g' : Got Pointer) → g ≡ g' → Stands a s g' → Stands a s g
stands_as a s g g' e m = rw e m

-- ---- what is taken at once, for what waits for it

pub once_given : (r : Got (Option Value)) (v : Value) (s : State) (go : Option Value → State → Got (Option Value)) → r ≡ gives v s → go (Some v) s ≡ then_do r go
once_given r v s go e = rw e refl

pub once_stopped : (r : Got (Option Value)) (why : Stop) (s : State) (go : Option Value → State → Got (Option Value)) → r ≡ Stops why s → Stops why s ≡ then_do r go
once_stopped r why s go e = rw e refl

pub spot_given : (r : Got Pointer) (q : Pointer) (s : State) (go : Pointer → State → Got (Option Value)) → r ≡ Gives q s → go q s ≡ then_do r go
spot_given r q s go e = rw e refl

pub spot_stopped : (r : Got Pointer) (why : Stop) (s : State) (go : Pointer → State → Got (Option Value)) → r ≡ Stops why s → Stops why s ≡ then_do r go
spot_stopped r why s go e = rw e refl

-- ---- small numbers

decimal : (text : List ℕ) (n v : ℕ) (s : State) → run (Digit 10) text ≡ n → nat_lt 0 n ≡ true → worth 10 (take n text) ≡ v → v < 2 ^ 64 → is_suffix (drop n text) ≡ true → number_value (number_in Decimal text) s ≡ gives (Int (pos v)) s
decimal text n v s r z e lt f = rw (r, z, e, lt-ltb v (2 ^ 64) lt, f) refl

leading : (z : Bool) (a : ℕ) (behind : List ℕ) (v : ℕ) (s : State) → nat_eq a 48 ≡ z → (a ≡ 48 → behind ≡ []) → run (Digit 10) (a ∷ behind) ≡ length (a ∷ behind) → worth 10 (a ∷ behind) ≡ v → v < 2 ^ 64 → number_value (number_of (a ∷ behind)) s ≡ gives (Int (pos v)) s
leading true a behind v s z alone r e lt = let zero_is : a ≡ 48 = eqb-true a 48 z in rw (zero_is, alone zero_is, sym e) (rw (zero_is, alone zero_is) refl)
leading false a behind v s z alone r e lt =
    let text = a ∷ behind in
    rw z (decimal text (length text) v s r (lt-ltb 0 (length text) (omega arith)) (ap (worth 10) (take-length text) ∙ e) lt (ap is_suffix (drop-length text)))

-- decimal digits, of which the first is 0 only where it stands alone
pub decimal_alone : (text : List ℕ) (a : ℕ) (behind : List ℕ) (v : ℕ) (s : State) → text ≡ a ∷ behind → (a ≡ 48 → behind ≡ []) → run (Digit 10) text ≡ length text → worth 10 text ≡ v → v < 2 ^ 32 → number_value (number_of text) s ≡ gives (Int (pos v)) s
decimal_alone text a behind v s is alone r e lt = rw is (leading (nat_eq a 48) a behind v s refl alone (ap (run (Digit 10)) (sym is) ∙ r ∙ ap length is) (ap (worth 10) (sym is) ∙ e) (omega (arith, lt)))

-- ---- variables of scalar type

settled_gives : (r : Result Value Fault) (s : State) → then_do (then_do (settled r s) (λ v s. Gives v s)) (λ v s. Gives (Some v) s) ≡ then_do (settled r s) gives
settled_gives (Ok v) s = refl
settled_gives (Err fault) s = refl

read_gives : (i : Option ℕ) (s : State) → then_do (then_do (present i s) (object_at 1)) (λ q s. then_do (then_do (settled (read_of s.store q) s) (λ v s. Gives v s)) (λ v s. Gives (Some v) s)) ≡ then_do (then_do (present i s) (λ j s. settled (read_of s.store (whole j 1)) s)) gives
read_gives None s = refl
read_gives (Some j) s = settled_gives (read_of s.store (whole j 1)) s

int_of : (t : TablesShape) (k : Knot) (p o : Pos) (j : IntKind) (v n : ℕ) (x : Text) (s : State) → s.turns ≡ n → value t k (node p o (typed (int j) (Some v)) (leaf (name x))) s ≡ then_do (scalar_value v s) gives
int_of t k p o j v zero x s is = rw is refl
int_of t k p o j v (suc n) x s is = rw is (read_gives (instance_of v s) (record s { turns = n }))

pointer_of : (t : TablesShape) (k : Knot) (p o : Pos) (j : TypeOf) (v n : ℕ) (x : Text) (s : State) → s.turns ≡ n → value t k (node p o (typed (pointer j) (Some v)) (leaf (name x))) s ≡ then_do (scalar_value v s) gives
pointer_of t k p o j v zero x s is = rw is refl
pointer_of t k p o j v (suc n) x s is = rw is (read_gives (instance_of v s) (record s { turns = n }))

pub int_value : (t : TablesShape) (k : Knot) (p o : Pos) (j : IntKind) (v : ℕ) (x : Text) (s : State) → value t k (node p o (typed (int j) (Some v)) (leaf (name x))) s ≡ then_do (scalar_value v s) gives
int_value t k p o j v x s = int_of t k p o j v s.turns x s refl

pub pointer_value : (t : TablesShape) (k : Knot) (p o : Pos) (j : TypeOf) (v : ℕ) (x : Text) (s : State) → value t k (node p o (typed (pointer j) (Some v)) (leaf (name x))) s ≡ then_do (scalar_value v s) gives
pointer_value t k p o j v x s = pointer_of t k p o j v s.turns x s refl

pub no_scalar : (v : ℕ) (s s' : State) → s ≡ one_more s' → None ≡ instance_of v s' → scalar_value v s ≡ untyped s'
no_scalar v s s' e i = rw (e, sym i) refl

pub a_scalar : (v j : ℕ) (r : Result Value Fault) (s s' : State) → s ≡ one_more s' → Some j ≡ instance_of v s' → r ≡ read_of s'.store (whole j 1) → scalar_value v s ≡ settled r s'
a_scalar v j r s s' e i f = rw (e, sym i, sym f) refl

-- ---- variables that are arrays

pub array_is : (t : TablesShape) (k : Knot) (p o : Pos) (y e : TypeOf) (m v : ℕ) (x : Text) (s : State) → y ≡ array e m → value t k (node p o (typed y (Some v)) (leaf (name x))) s ≡ then_do (turn s (variable_place t y v)) (λ q s. then_do (first_element t e m q s) (λ q. gives (At q)))
array_is t k p o y e m v x s is = rw is refl

pub array_named : (t : TablesShape) (k : Knot) (p o : Pos) (n : Note) (f : Expr) (y : CType) (i : Option ℕ) (v : ℕ) (x : Text) (s s' : State) (a : Answer) → f ≡ Name x → n ≡ Typed y i → i ≡ Some v
    → ((p o : Pos) (x : Text) → Meets a s' (value t k (node p o (typed (type_of y) (Some v)) (leaf (name x))) s))
    → Meets a s' (value t k (node p o (note_shape n) (expr_shape f)) s)
array_named t k p o n f y i v x s s' a is noted same h = rw (is, noted, same) (h p o x)
