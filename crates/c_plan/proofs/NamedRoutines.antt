-- A function with a body is looked for from the first of its name on.
use Rattle.std.proofs.Common.{◌≡◌, ℕ, suc, ◌+◌, ◌-◌, ◌≤◌, List, [], ◌∷◌, drop, Option, Some, None, Bool, true, false, refl, ap, arith}
use Rattle.std.specs.Prelude.{bytes_eq, is_some, ◌&&◌, if◌then◌else◌}
use Rattle.c_tables.specs.Tables.{FunctionShape}
use Rattle.c_tables.specs.Rows.{number_from, has_name}
use Rattle.c_walk.specs.Units.{has_body}

-- no function of the name
none_at : (b d : Bool) (n : ℕ) (p q : Option ℕ) → (p ≡ None → q ≡ None) → (if b then Some n else p) ≡ None → (if b && d then Some n else q) ≡ None
none_at true d n p q on e = cc
none_at false d n p q on e = on e

pub no_body : (x : List ℕ) (n : ℕ) (rows : List FunctionShape) → number_from (has_name x) n rows ≡ None → number_from (has_body x) n rows ≡ None
no_body x n [] e = refl
no_body x n (r ∷ rows) e = none_at (bytes_eq x r.name) (is_some r.defined) n (number_from (has_name x) (n + 1) rows) (number_from (has_body x) (n + 1) rows) (no_body x (n + 1) rows) e

-- the first of the name
pub record From (x : List ℕ) (n f : ℕ) (rows : List FunctionShape) : Type 0 where
  pub least : n ≤ f
  pub same : number_from (has_body x) n rows ≡ number_from (has_body x) f (drop (f - n) rows)

from_here : (x : List ℕ) (n f : ℕ) (rows : List FunctionShape) → n ≡ f → From x n f rows
from_here x n f rows e = record { least = omega (arith, e); same = let k : f - n ≡ 0 = omega (arith, e) in rw k (ap (λ n. number_from (has_body x) n rows) e) }

from_next : (x : List ℕ) (n f : ℕ) (r : FunctionShape) (rows : List FunctionShape) → has_body x r ≡ false → From x (n + 1) f rows → From x n f (r ∷ rows)
from_next x n f r rows e next =
    let k : f - n ≡ suc (f - (n + 1)) = omega (arith, next.least) in
    record { least = omega (arith, next.least); same = rw (e, k) next.same }

from_at : (x : List ℕ) (n f : ℕ) (r : FunctionShape) (rows : List FunctionShape) → (number_from (has_name x) (n + 1) rows ≡ Some f → From x (n + 1) f rows) → (b : Bool) → bytes_eq x r.name ≡ b → (if b then Some n else number_from (has_name x) (n + 1) rows) ≡ Some f → From x n f (r ∷ rows)
from_at x n f r rows on true e is = from_here x n f (r ∷ rows) (cc)
from_at x n f r rows on false e is = from_next x n f r rows (ap (λ b. b && is_some r.defined) e) (on is)

pub from_named : (x : List ℕ) (n f : ℕ) (rows : List FunctionShape) → number_from (has_name x) n rows ≡ Some f → From x n f rows
from_named x n f [] e = cc
from_named x n f (r ∷ rows) e = from_at x n f r rows (from_named x (n + 1) f rows) (bytes_eq x r.name) refl e
