-- Rows of a scope and the entries of its map.
use Rattle.std.proofs.Common.{◌≡◌, ◌∙◌, Option, ℕ, List, [], ◌∷◌, ◌++◌, Some, None, Bool, true, false, refl, ap, cond, Vec, Global}
use Rattle.std.specs.Prelude.{bytes_eq}
use Rattle.std.specs.Map.{lookup}
use Rattle.indexmap.specs.IndexMap.{insert_entry}
use Rattle.c_scopes.specs.Rows.{Scope, rows_of}
use Rattle.c_scopes.specs.Scoping.{named}

-- the entry of a name has what the row has
same_name : {T : Type 0} (x : List ℕ) (es : List (Vec ℕ Global × T)) → lookup (λ (y : Vec ℕ Global). bytes_eq x y.items) es ≡ named x (rows_of es)
same_name x [] = refl
same_name x (e ∷ es) = ap (λ o. cond (bytes_eq x e.0.items) (Some e.1) o) (same_name x es)

new_at : {T : Type 0} (b : Bool) (k : Vec ℕ Global) (what : T) (e : Vec ℕ Global × T) (es more : List (Vec ℕ Global × T)) → cond b (Some e.1) (named k.items (rows_of es)) ≡ None → (named k.items (rows_of es) ≡ None → rows_of more ≡ rows_of es ++ (k.items, what) ∷ []) → rows_of (cond b ((e.0, what) ∷ es) (e ∷ more)) ≡ (e.0.items, e.1) ∷ (rows_of es ++ (k.items, what) ∷ [])
new_at true k what e es more h f = cc
new_at false k what e es more h f = ap (λ r. (e.0.items, e.1) ∷ r) (f h)

new_row : {T : Type 0} (k : Vec ℕ Global) (what : T) (es : List (Vec ℕ Global × T)) → named k.items (rows_of es) ≡ None → rows_of (insert_entry (λ (x y : Vec ℕ Global). bytes_eq x.items y.items) es k what) ≡ rows_of es ++ (k.items, what) ∷ []
new_row k what [] h = refl
new_row k what (e ∷ es) h = new_at (bytes_eq k.items e.0.items) k what e es (insert_entry (λ (x y : Vec ℕ Global). bytes_eq x.items y.items) es k what) h (new_row k what es)

-- the map finds what the rows have
pub found_in : {T : Type 0} (x : List ℕ) (es : List (Vec ℕ Global × T)) (rows : Scope T) (o : Option T) → rows_of es ≡ rows → o ≡ lookup (λ (y : Vec ℕ Global). bytes_eq x y.items) es → o ≡ named x rows
found_in x es rows o e h = h ∙ same_name x es ∙ ap (named x) e

-- an entry with a new name is the last row
pub last_in : {T : Type 0} (k : Vec ℕ Global) (what : T) (es more : List (Vec ℕ Global × T)) (rows : Scope T) → rows_of es ≡ rows → named k.items rows ≡ None → more ≡ insert_entry (λ (x y : Vec ℕ Global). bytes_eq x.items y.items) es k what → rows_of more ≡ rows ++ (k.items, what) ∷ []
last_in k what es more rows e n h = ap rows_of h ∙ new_row k what es (ap (named k.items) e ∙ n) ∙ ap (λ r. r ++ (k.items, what) ∷ []) e
