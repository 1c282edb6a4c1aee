-- What names stand for while nothing was complained of: each stands for something, the number of a function is that of a row, and parameters
-- are named in their own list alone.
use Rattle.std.proofs.Common.{◌≡◌, ℕ, zero, suc, ◌+◌, ◌-◌, ◌≤◌, ◌<◌, ◌++◌, List, [], ◌∷◌, length, Bool, true, false, Option, Some, None, cond, arith, length-append, slice_get}
use Rattle.std.specs.Prelude.{nat_eq, bytes_eq, if◌then◌else◌}
use Rattle.std.specs.Option.{option_or}
use Rattle.std.proofs.lemmas.Bool.Decides.{nat_tests}
use Rattle.c_base.specs.declared.place.Pos.{Pos}
use Rattle.c_syntax.specs.declared.text.Text.{Text}
use Rattle.c_syntax.specs.Shape.{TypeOf}
use Rattle.c_scopes.specs.Rows.{Scope, Scoped}
use Rattle.c_scopes.specs.Scoping.{named, find_outer, find_here, find, declared, entered, last_of, but_last, left}
use Rattle.c_tree.specs.declared.meaning.Entity.{Entity}
use Rattle.c_tree.specs.declared.meaning.Entity.TheVariants as entity
use Rattle.c_tree.specs.State.{State, demand, is_function, function_number, pushed_function, numbered_or, mention}
use Rattle.c_tables.specs.Rows.{row, number_from}
use Rattle.c_tree.specs.Rulings.{Ruled, allowed, unsettled, refused, rule}
use Rattle.probe_laws.proofs.Settled.{IsThere}

abbrev pub IsRow : ℕ → ℕ → Type 0
IsRow k n = (1 ≤ k) × (k ≤ n)

-- among so many functions, and with parameters or not
abbrev pub IsSure : Bool → ℕ → Entity → Type 0
IsSure b n (entity.Variable k) = Unit {0}
IsSure b n (entity.Parameter k) = b ≡ true
IsSure b n (entity.Function k) = IsRow k n
IsSure b n (entity.Builtin x) = Unit {0}
IsSure b n (entity.Constant v) = Unit {0}
IsSure b n entity.Unknown = ⊥

abbrev pub MaybeSure : Bool → ℕ → Option Entity → Type 0
MaybeSure b n None = Unit {0}
MaybeSure b n (Some e) = IsSure b n e

abbrev pub AllSure : Bool → ℕ → Scope Entity → Type 0
AllSure b n [] = Unit {0}
AllSure b n (x ∷ rest) = IsSure b n x.1 × AllSure b n rest

abbrev pub AllOuter : ℕ → List (Scope Entity) → Type 0
AllOuter n [] = Unit {0}
AllOuter n (s ∷ rest) = AllSure false n s × AllOuter n rest

abbrev pub HasOuter : Bool → List (Scope Entity) → Type 0
HasOuter false o = Unit {0}
HasOuter true [] = ⊥
HasOuter true (s ∷ rest) = Unit {0}

-- parameters stand in the innermost scope, which is that of their list
pub record Holds (b : Bool) (n : ℕ) (s : Scoped Entity) : Type 0 where
  pub sure : AllSure b n s.top
  pub around : AllOuter n s.outer
  pub inside : HasOuter b s.outer

abbrev pub Knows : Bool → State → Type 0
Knows b s = Holds b (length s.tables.functions) s.names

-- the later one knows all names, and has all functions
abbrev pub Goes : Bool → State → State → Type 0
Goes b s t = Knows b t × (length s.tables.functions ≤ length t.tables.functions)

-- ---- more functions

sure_more : (b : Bool) (n m : ℕ) (e : Entity) → n ≤ m → IsSure b n e → IsSure b m e
sure_more b n m (entity.Variable k) le h = tt
sure_more b n m (entity.Parameter k) le h = h
sure_more b n m (entity.Function k) le h = (h.0, omega (arith, le, h.1))
sure_more b n m (entity.Builtin x) le h = tt
sure_more b n m (entity.Constant v) le h = tt
sure_more b n m entity.Unknown le h = h

all_more : (b : Bool) (n m : ℕ) (s : Scope Entity) → n ≤ m → AllSure b n s → AllSure b m s
all_more b n m [] le h = tt
all_more b n m (x ∷ rest) le h = (sure_more b n m x.1 le h.0, all_more b n m rest le h.1)

outer_more : (n m : ℕ) (o : List (Scope Entity)) → n ≤ m → AllOuter n o → AllOuter m o
outer_more n m [] le h = tt
outer_more n m (s ∷ rest) le h = (all_more false n m s le h.0, outer_more n m rest le h.1)

pub holds_more : (b : Bool) (n m : ℕ) (s : Scoped Entity) → n ≤ m → Holds b n s → Holds b m s
holds_more b n m s le h = record { sure = all_more b n m s.top le h.sure; around = outer_more n m s.outer le h.around; inside = h.inside }

-- ---- what a name stands for

sure_here : (b : Bool) (n : ℕ) (e : Entity) → IsSure false n e → IsSure b n e
sure_here b n (entity.Variable k) h = tt
sure_here b n (entity.Parameter k) h = cc
sure_here b n (entity.Function k) h = h
sure_here b n (entity.Builtin x) h = tt
sure_here b n (entity.Constant v) h = tt
sure_here b n entity.Unknown h = h

maybe_here : (b : Bool) (n : ℕ) (e : Option Entity) → MaybeSure false n e → MaybeSure b n e
maybe_here b n None h = tt
maybe_here b n (Some e) h = sure_here b n e h

either_sure : (b : Bool) (n : ℕ) (t : Bool) (e : Entity) (o : Option Entity) → IsSure b n e → MaybeSure b n o → MaybeSure b n (cond t (Some e) o)
either_sure b n true e o h g = h
either_sure b n false e o h g = g

or_sure : (b : Bool) (n : ℕ) (e o : Option Entity) → MaybeSure b n e → MaybeSure b n o → MaybeSure b n (option_or e o)
or_sure b n None o h g = g
or_sure b n (Some e) o h g = h

named_sure : (b : Bool) (n : ℕ) (x : Text) (s : Scope Entity) → AllSure b n s → MaybeSure b n (named x s)
named_sure b n x [] h = tt
named_sure b n x (e ∷ rest) h = either_sure b n (bytes_eq x e.0) e.1 (named x rest) h.0 (named_sure b n x rest h.1)

outer_sure : (n : ℕ) (x : Text) (o : List (Scope Entity)) → AllOuter n o → MaybeSure false n (find_outer x o)
outer_sure n x [] h = tt
outer_sure n x (s ∷ rest) h = or_sure false n (find_outer x rest) (named x s) (outer_sure n x rest h.1) (named_sure false n x s h.0)

pub find_sure : (b : Bool) (n : ℕ) (x : Text) (s : Scoped Entity) → Holds b n s → MaybeSure b n (find x s)
find_sure b n x s h = or_sure b n (find_here x s) (find_outer x s.outer) (named_sure b n x s.top h.sure) (maybe_here b n (find_outer x s.outer) (outer_sure n x s.outer h.around))

-- ---- scopes

all_then : (b : Bool) (n : ℕ) (x : Text) (e : Entity) (s : Scope Entity) → AllSure b n s → IsSure b n e → AllSure b n (s ++ (x, e) ∷ [])
all_then b n x e [] h g = (g, tt)
all_then b n x e (y ∷ rest) h g = (h.0, all_then b n x e rest h.1 g)

pub declared_holds : (b : Bool) (n : ℕ) (x : Text) (e : Entity) (s : Scoped Entity) → IsSure b n e → Holds b n s → Holds b n (declared x e s)
declared_holds b n x e s g h = record { sure = all_then b n x e s.top h.sure g; around = h.around; inside = h.inside }

outer_then : (n : ℕ) (o : List (Scope Entity)) (s : Scope Entity) → AllOuter n o → AllSure false n s → AllOuter n (o ++ s ∷ [])
outer_then n [] s h g = (g, tt)
outer_then n (t ∷ rest) s h g = (h.0, outer_then n rest s h.1 g)

has_outer : (b : Bool) (o : List (Scope Entity)) (s : Scope Entity) → HasOuter b (o ++ s ∷ [])
has_outer false o s = tt
has_outer true [] s = tt
has_outer true (t ∷ o) s = tt

pub entered_holds : (b : Bool) (n : ℕ) (s : Scoped Entity) → Holds false n s → Holds b n (entered s)
entered_holds b n s h = record { sure = tt; around = outer_then n s.outer s.top h.around h.sure; inside = has_outer b s.outer s.top }

last_sure : (n : ℕ) (o : List (Scope Entity)) (s : Scope Entity) → AllSure false n s → AllOuter n o → AllSure false n (last_of o s)
last_sure n [] s h g = h
last_sure n (t ∷ rest) s h g = last_sure n rest t g.0 g.1

but_sure : (n : ℕ) (o : List (Scope Entity)) → AllOuter n o → AllOuter n (but_last o)
but_sure n [] h = tt
but_sure n (s ∷ []) h = tt
but_sure n (s ∷ t ∷ rest) h = (h.0, but_sure n (t ∷ rest) h.1)

top_sure : (b : Bool) (n : ℕ) (o : List (Scope Entity)) (s : Scope Entity) → AllSure b n s → AllOuter n o → HasOuter b o → AllSure false n (last_of o s)
top_sure false n o s h g i = last_sure n o s h g
top_sure true n [] s h g i = absurd i
top_sure true n (t ∷ rest) s h g i = last_sure n rest t g.0 g.1

pub left_holds : (b : Bool) (n : ℕ) (s : Scoped Entity) → Holds b n s → Holds false n (left s)
left_holds b n s h = record { sure = top_sure b n s.outer s.top h.sure h.around h.inside; around = but_sure n s.outer h.around; inside = tt }

-- ---- rows

-- a number from the first on, below the second
abbrev Within : ℕ → ℕ → Option ℕ → Type 0
Within n m None = Unit {0}
Within n m (Some k) = (n ≤ k) × (k < m)

within_further : (n m : ℕ) (o : Option ℕ) → Within (n + 1) m o → Within n m o
within_further n m None h = tt
within_further n m (Some k) h = (omega (arith, h.0), h.1)

within_if : (b : Bool) (n m : ℕ) (o : Option ℕ) → n < m → Within n m o → Within n m (if b then Some n else o)
within_if true n m o h g = (omega arith, h)
within_if false n m o h g = g

within_size : (n m k : ℕ) (o : Option ℕ) → m ≡ k → Within n m o → Within n k o
within_size n m k None e h = tt
within_size n m k (Some j) e h = (h.0, omega (arith, e, h.1))

module _ {R : Type 0} where
  slice_there : (rows : List R) (k : ℕ) → k < length rows → IsThere (slice_get rows k)
  slice_there [] k h = absurd (omega (arith, h))
  slice_there (r ∷ rows) zero h = tt
  slice_there (r ∷ rows) (suc k) h = slice_there rows k (omega (arith, h))

  row_or : (b : Bool) (o : Option R) → b ≡ false → IsThere o → IsThere (if b then None else o)
  row_or true o e h = cc
  row_or false o e h = h

  pub row_there : (rows : List R) (n : ℕ) → IsRow n (length rows) → IsThere (row rows n)
  row_there rows n h =
      let below = h.0 in
      let above = h.1 in
      row_or (nat_eq n 0) (slice_get rows (n - 1)) (grind (arith, nat_tests)) (slice_there rows (n - 1) (omega (arith, below, above)))

  number_within : (test : R → Bool) (n : ℕ) (rows : List R) → Within n (n + length rows) (number_from test n rows)
  number_within test n [] = tt
  number_within test n (r ∷ rows) =
      let rest = number_within test (n + 1) rows in
      within_if (test r) n (n + length (r ∷ rows)) (number_from test (n + 1) rows) (omega arith)
      (within_further n (n + length (r ∷ rows)) (number_from test (n + 1) rows) (within_size (n + 1) (n + 1 + length rows) (n + length (r ∷ rows)) (number_from test (n + 1) rows) (omega arith) rest))

-- ---- states

pub stays : {b : Bool} (s : State) → Knows b s → Goes b s s
stays s h = (h, omega arith)

infixl 5 ◌▹◌
pub ◌▹◌ : {A B : Type 0} {n m k : ℕ} → A × (n ≤ m) → B × (m ≤ k) → B × (n ≤ k)
p ▹ q = let m = p.1 in let n = q.1 in (q.0, omega (arith, m, n))

pub rule_goes : {b : Bool} (r : Ruled) (token : ℕ) (p : Pos) (s : State) → Knows b s → Goes b s (rule r token p s)
rule_goes (allowed t) token p s h = stays s h
rule_goes unsettled token p s h = stays s h
rule_goes (refused n) token p s h = stays s h

pub demand_goes : {b : Bool} (t : Bool) (n token : ℕ) (p : Pos) (s : State) → Knows b s → Goes b s (demand t n token p s)
demand_goes true n token p s h = stays s h
demand_goes false n token p s h = stays s h

named_goes : (b : Bool) (x : Text) (k : TypeOf) (ks : List TypeOf) (o : Option ℕ) (s : State) → Within 1 (1 + length s.tables.functions) o → Knows b s
    → Goes b s (numbered_or o s (pushed_function x k ks s)).state × IsRow (numbered_or o s (pushed_function x k ks s)).number (length (numbered_or o s (pushed_function x k ks s)).state.tables.functions)
named_goes b x k ks (Some n) s w h = let above = w.1 in (stays s h, (w.0, omega (arith, above)))
named_goes b x k ks None s w h =
    let n = length s.tables.functions in
    let e = length-append s.tables.functions (record { name = x; result = k; params = ks; defined = None } ∷ []) in
    let m = length (pushed_function x k ks s).state.tables.functions in
    ((holds_more b n m s.names (omega (arith, e)) h, omega (arith, e)), (omega arith, omega (arith, e)))

pub mention_goes : (b : Bool) (x : Text) (k : TypeOf) (ks : List TypeOf) (s : State) → Knows b s → Goes b s (mention x k ks s).state × IsRow (mention x k ks s).number (length (mention x k ks s).state.tables.functions)
mention_goes b x k ks s h = named_goes b x k ks (function_number x k ks s.tables.functions) s (number_within (is_function x k ks) 1 s.tables.functions) h
