-- The first function of each name, when a row is pushed or changed.
use Rattle.std.proofs.Common.{◌≡◌, ℕ, zero, suc, ◌+◌, ◌<◌, Result, Ok, Err, IsOk, is_ok, if◌then◌else◌, List, [], ◌∷◌, ◌++◌, length, map, get_or, cond, Option, Some, None, Bool, true, false, refl, sym, ap, ◌∙◌, arith, rules}
use Rattle.std.proofs.Math.ListN.{set}
use Rattle.std.specs.Prelude.{bytes_eq}
use Rattle.std.specs.Option.{option_or}
use Rattle.std.proofs.lemmas.Slice.Eq.{bytes_eq-Decides}
use Rattle.c_scopes.specs.Rows.{Scope}
use Rattle.c_scopes.specs.Scoping.{named}
use Rattle.c_tables.specs.declared.tables.FunctionRow.{FunctionRow}
use Rattle.c_base.specs.declared.numbers.NumberList.{NumberList}
use Rattle.c_tables.specs.Named.{named_from, kept_at, kept_first}
use Rattle.c_tables.specs.Rows.{number_from, has_name, first_named}
use Rattle.c_tables.specs.Tables.{function_shape}

abbrev Firsts : Scope ℕ → List FunctionRow → Type 0
Firsts s rows = (x : List ℕ) → named x s ≡ named_from x 1 rows

-- by the shapes
pub shapes_named : (x : List ℕ) (n : ℕ) (rows : List FunctionRow) → named_from x n rows ≡ number_from (has_name x) n (map function_shape rows)
shapes_named x n [] = refl
shapes_named x n (r ∷ rows) = ap (cond (bytes_eq x r.name) (Some n)) (shapes_named x (n + 1) rows)

pub found_first : (x : List ℕ) (s : Scope ℕ) (rows : List FunctionRow) → Firsts s rows → named x s ≡ first_named x (map function_shape rows)
found_first x s rows h = h x ∙ shapes_named x 1 rows

-- ---- a row is pushed

or_else : (b : Bool) (n : ℕ) (o p : Option ℕ) → cond b (Some n) (option_or o p) ≡ option_or (cond b (Some n) o) p
or_else true n o p = refl
or_else false n o p = refl

or_none : (o : Option ℕ) → option_or o None ≡ o
or_none None = refl
or_none (Some n) = refl

if_named : List ℕ → List ℕ → ℕ → Option ℕ
if_named x y n = cond (bytes_eq x y) (Some n) None

at_last : (x : List ℕ) (n m : ℕ) (rows : List FunctionRow) (r : FunctionRow) → m ≡ n + length rows → named_from x n (rows ++ r ∷ []) ≡ option_or (named_from x n rows) (if_named x r.name m)
unfolding if_named
at_last x n m [] r e = ap (λ k. cond (bytes_eq x r.name) (Some k) None) (omega (arith, e))
at_last x n m (q ∷ rows) r e = ap (cond (bytes_eq x q.name) (Some n)) (at_last x (n + 1) m rows r (omega (arith, e))) ∙ or_else (bytes_eq x q.name) n (named_from x (n + 1) rows) (if_named x r.name m)

scope_last : (x y : List ℕ) (n : ℕ) (s : Scope ℕ) → named x (s ++ (y, n) ∷ []) ≡ option_or (named x s) (if_named x y n)
unfolding if_named
scope_last x y n [] = refl
scope_last x y n (q ∷ s) = ap (cond (bytes_eq x q.0) (Some q.1)) (scope_last x y n s) ∙ or_else (bytes_eq x q.0) q.1 (named x s) (if_named x y n)

same_name : (x y : List ℕ) → bytes_eq x y ≡ true → x ≡ y
same_name x y e = let d = bytes_eq-Decides x y in search (rules, d, e)

-- one that has a number already keeps it
kept : (b : Bool) (x y : List ℕ) (n m : ℕ) (s : Scope ℕ) → bytes_eq x y ≡ b → named y s ≡ Some m → option_or (named x s) (cond b (Some n) None) ≡ named x s
kept true x y n m s e h = rw (same_name x y e, h) refl
kept false x y n m s e h = or_none (named x s)

pushed_at : (o : Option ℕ) (x : List ℕ) (n : ℕ) (s : Scope ℕ) (y : List ℕ) → named y s ≡ o → named x (kept_at y n o s) ≡ option_or (named x s) (if_named x y n)
unfolding if_named
pushed_at None x n s y h = scope_last x y n s
pushed_at (Some m) x n s y h = sym (kept (bytes_eq x y) x y n m s refl h)

pub firsts_pushed : (s t : Scope ℕ) (rows : List FunctionRow) (r : FunctionRow) (y : List ℕ) (n : ℕ) → Firsts s rows → y ≡ r.name → n ≡ length rows + 1 → t ≡ kept_first y n s → Firsts t (rows ++ r ∷ [])
firsts_pushed s t rows r y n h e k g = λ x.
    rw (g, e) (pushed_at (named r.name s) x n s r.name refl ∙ ap (λ o. option_or o (if_named x r.name n)) (h x) ∙ sym (at_last x 1 n rows r (omega (arith, k))))

-- ---- a row is changed, but for its name

changed_row : (x : List ℕ) (n i : ℕ) (rows : List FunctionRow) (old new : FunctionRow) → i < length rows → old ≡ get_or rows i old → new.name ≡ old.name → named_from x n (set rows i new) ≡ named_from x n rows
changed_row x n i [] old new h g e = refl
changed_row x n zero (r ∷ rows) old new h g e = ap (λ y. cond (bytes_eq x y) (Some n) (named_from x (n + 1) rows)) (e ∙ ap (λ (q : FunctionRow). q.name) g)
changed_row x n (suc i) (r ∷ rows) old new h g e = ap (cond (bytes_eq x r.name) (Some n)) (changed_row x (n + 1) i rows old new (omega (arith, h)) g e)

pub firsts_changed : (s : Scope ℕ) (rows : List FunctionRow) (i : ℕ) (old : FunctionRow) (params : Option NumberList) → i < length rows → old ≡ get_or rows i old → Firsts s rows → Firsts s (set rows i (record { name = old.name; result = old.result; params = old.params; defined = params }))
firsts_changed s rows i old params h g f = λ x. f x ∙ sym (changed_row x 1 i rows old _ h g refl)

-- the row is pushed where there is room for it
pub firsts_filled : {E : Type 0} (s t : Scope ℕ) (rows mid new : List FunctionRow) (r : FunctionRow) (y : List ℕ) (n : ℕ) (res : Result (Unit {0}) E) → IsOk res → mid ≡ rows → new ≡ (if is_ok res then mid ++ r ∷ [] else mid)
    → Firsts s rows → y ≡ r.name → n ≡ length mid + 1 → t ≡ kept_first y n s → Firsts t new
firsts_filled s t rows mid new r y n (Ok x) ok m e h f k g = rw (e, m) (firsts_pushed s t rows r y n h f (k ∙ ap (λ (l : List FunctionRow). length l + 1) m) g)
firsts_filled s t rows mid new r y n (Err x) ok m e h f k g = absurd (let b : false ≡ true = ok in cc)
