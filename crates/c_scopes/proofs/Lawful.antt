-- Laws of scopes.
use Rattle.std.proofs.Common.{◌≡◌, ◌≢◌, ℕ, List, [], ◌∷◌, ◌++◌, Option, Some, None, Bool, true, false, refl, ap, cond, rules, arith}
use Rattle.std.specs.Prelude.{bytes_eq}
use Rattle.std.specs.Option.{option_or}
use Rattle.std.proofs.lemmas.Slice.Eq.{bytes_eq-Decides}
use Rattle.c_scopes.specs.Rows.{Scope, Scoped}
use Rattle.c_scopes.specs.Scoping.{named, find, find_here, find_outer, declared, all_declared, entered, left}
use Rattle.c_scopes.proofs.Looking.{find_last, left_last}

same_bytes : (x : List ℕ) → bytes_eq x x ≡ true
same_bytes x = let d = bytes_eq-Decides x x in search (rules, d)

other_bytes : (x y : List ℕ) → y ≢ x → bytes_eq y x ≡ false
other_bytes x y n = let d = bytes_eq-Decides y x in grind (arith, d, n)

module _ {T : Type 0} where
  found_at : (b : Bool) (e : T) (o p : Option T) (what : T) → cond b (Some e) o ≡ None → (o ≡ None → p ≡ Some what) → cond b (Some e) p ≡ Some what
  found_at true e o p what h f = cc
  found_at false e o p what h f = f h

  -- the last row is found, where no other has its name
  new_found : (x : List ℕ) (what : T) (rows : Scope T) → named x rows ≡ None → named x (rows ++ (x, what) ∷ []) ≡ Some what
  new_found x what [] h = ap (λ b. cond b (Some what) None) (same_bytes x)
  new_found x what (r ∷ rows) h = found_at (bytes_eq x r.0) r.1 (named x rows) (named x (rows ++ (x, what) ∷ [])) what h (new_found x what rows)

  other_found : (x y : List ℕ) (what : T) (rows : Scope T) → y ≢ x → named y (rows ++ (x, what) ∷ []) ≡ named y rows
  other_found x y what [] n = ap (λ b. cond b (Some what) None) (other_bytes x y n)
  other_found x y what (r ∷ rows) n = ap (cond (bytes_eq y r.0) (Some r.1)) (other_found x y what rows n)

  pub declared_found : (x : List ℕ) (what : T) (s : Scoped T) → find_here x s ≡ None → find x (declared x what s) ≡ Some what
  declared_found x what s h = ap (λ o. option_or o (find_outer x s.outer)) (new_found x what s.top h)

  pub others_stay : (x y : List ℕ) (what : T) (s : Scoped T) → y ≢ x → find y (declared x what s) ≡ find y s
  others_stay x y what s n = ap (λ o. option_or o (find_outer y s.outer)) (other_found x y what s.top n)

  pub others_stay_here : (x y : List ℕ) (what : T) (s : Scoped T) → y ≢ x → find_here y (declared x what s) ≡ find_here y s
  others_stay_here x y what s n = other_found x y what s.top n

  left_any : (rows : Scope T) (ss : List (Scope T)) (s t : Scope T) → left (all_declared rows (record { outer = ss ++ s ∷ []; top = t })) ≡ record { outer = ss; top = s }
  left_any [] ss s t = left_last (ss ++ s ∷ []) ss s t refl
  left_any (r ∷ rows) ss s t = left_any rows ss s (t ++ (r.0, r.1) ∷ [])

  pub left_before : (rows : Scope T) (s : Scoped T) → left (all_declared rows (entered s)) ≡ s
  left_before rows s = left_any rows s.outer s.top []

  pub fresh_same : (x : List ℕ) (s : Scoped T) → find x (entered s) ≡ find x s
  fresh_same x s = find_last x s.outer s.top

  pub inner_found : (x : List ℕ) (what : T) (s : Scoped T) → find x (declared x what (entered s)) ≡ Some what
  inner_found x what s = declared_found x what (entered s) refl
