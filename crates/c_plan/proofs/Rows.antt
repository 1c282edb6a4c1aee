-- The rows of functions, and what stands at them.
use Rattle.std.proofs.Common.{◌≡◌, ℕ, suc, ◌+◌, ◌-◌, ◌≤◌, List, [], ◌∷◌, map, Option, Some, None, Bool, true, false, refl, sym, ap, ◌∙◌, arith, nat_eq}
use Rattle.std.proofs.lemmas.Option.{slice_get-map}
use Rattle.std.specs.Prelude.{get_or, slice_get, option_map, if◌then◌else◌}
use Rattle.c_syntax.specs.Shape.{ExternalShape, defined, declared, declarator}
use Rattle.c_syntax.specs.declared.tree.External.{External}
use Rattle.c_syntax.specs.View.{external_shape}
use Rattle.c_tables.specs.Tables.{TablesShape}
use Rattle.c_tables.specs.Rows.{text_of}
use Rattle.c_walk.specs.Units.{function_of}
use Rattle.c_meaning.specs.Firsts.{quiet}
use Rattle.c_meaning.specs.Counts.{external_variables}
use Rattle.c_meaning.specs.Calls.{Source, Routine, routine_in, routine}
use Rattle.c_meaning.specs.Runs.{silent}
use Rattle.c_plan.specs.declared.routines.Row.{Row}
use Rattle.c_plan.specs.Routines.{row_or, row_from, found_routine, row_routine, IsRouted}

pub first_of_rows : (a b c : Option Row) → row_or (row_or a b) c ≡ row_or a (row_or b c)
first_of_rows (Some r) b c = refl
first_of_rows None b c = refl

-- ---- what stands at a row

-- among the external declarations behind so many
abbrev placed : ℕ → List ExternalShape → Option Row → Option Routine
placed k es None = None
placed k es (Some r) = found_routine (slice_get es (r.index - k)) r.before

abbrev Behind : ℕ → Option Row → Type 0
Behind k None = Unit {0}
Behind k (Some r) = k ≤ r.index

further : (k : ℕ) (e : ExternalShape) (rest : List ExternalShape) (r : Option Row) → Behind (k + 1) r → placed (k + 1) rest r ≡ placed k (e ∷ rest) r
further k e rest None h = refl
further k e rest (Some r) h = let i : r.index - k ≡ suc (r.index - (k + 1)) = omega (arith, h) in rw i refl

nearer : (k : ℕ) (r : Option Row) → Behind (k + 1) r → Behind k r
nearer k None h = tt
nearer k (Some r) h = omega (arith, h)

record Stands (k : ℕ) (es : List ExternalShape) (q : Option Routine) (r : Option Row) : Type 0 where
  same : q ≡ placed k es r
  behind : Behind k r

stands_further : (k : ℕ) (e : ExternalShape) (rest : List ExternalShape) (q : Option Routine) (r : Option Row) → Stands (k + 1) rest q r → Stands k (e ∷ rest) q r
stands_further k e rest q r s = record { same = s.same ∙ further k e rest r s.behind; behind = nearer k r s.behind }

stands_here : (k n : ℕ) (e : ExternalShape) (rest : List ExternalShape) → Stands k (e ∷ rest) (found_routine (Some e) n) (Some (record { index = k; before = n }))
stands_here k n e rest = record { same = (let i : k - k ≡ 0 = omega arith in rw i refl); behind = omega arith }

stands_if : (b : Bool) (k n : ℕ) (e : ExternalShape) (rest : List ExternalShape) (q : Option Routine) (r : Option Row) → Stands (k + 1) rest q r → Stands k (e ∷ rest) (if b then found_routine (Some e) n else q) (row_or (if b then Some (record { index = k; before = n }) else None) r)
stands_if true k n e rest q r s = stands_here k n e rest
stands_if false k n e rest q r s = stands_further k e rest q r s

stands : (t : TablesShape) (f k n : ℕ) (es : List ExternalShape) → Stands k es (routine_in t f (quiet n) es) (row_from t f k n es)
stands t f k n [] = record { same = refl; behind = tt }
stands t f k n (declared d ∷ rest) = stands_further k (declared d) rest _ _ (stands t f (k + 1) (n + external_variables (declared d)) rest)
stands t f k n (defined specs (declarator stars x d i) ms c ∷ rest) =
    stands_if (nat_eq (function_of t (text_of x)) f) k n (defined specs (declarator stars x d i) ms c) rest _ _ (stands t f (k + 1) (n + external_variables (defined specs (declarator stars x d i) ms c)) rest)

from_first : (es : List ExternalShape) (r : Option Row) → placed 0 es r ≡ row_routine es r
from_first es None = refl
from_first es (Some r) = let i : r.index - 0 ≡ r.index = omega arith in rw i refl

-- the function of that number is that of its row
pub routed : (P : Source) (rows : List (Option Row)) (f : ℕ) → IsRouted P rows → row_routine P.unit.externals (get_or rows f None) ≡ routine P silent f
routed P rows f is = ap (λ r. row_routine P.unit.externals r) (is f) ∙ sym ((stands P.tables f 0 0 P.unit.externals).same ∙ from_first P.unit.externals (row_from P.tables f 0 0 P.unit.externals))

pub at_row : (P : Source) (rows xs : List (Option Row)) (f : ℕ) (r : Option Row) → IsRouted P rows → xs ≡ rows → r ≡ get_or xs f None → row_routine P.unit.externals r ≡ routine P silent f
at_row P rows xs f r is same e = ap (λ r. row_routine P.unit.externals r) (e ∙ ap (λ x. get_or x f None) same) ∙ routed P rows f is

pub at_index : (es xs : List External) (i n : ℕ) (o : Option External) → xs ≡ es → slice_get xs i ≡ o → found_routine (option_map external_shape o) n ≡ found_routine (slice_get (map external_shape es) i) n
at_index es xs i n o same e = ap (λ q. found_routine q n) (ap (λ o. option_map external_shape o) (sym e ∙ ap (λ x. slice_get x i) same) ∙ sym (slice_get-map external_shape es i))
