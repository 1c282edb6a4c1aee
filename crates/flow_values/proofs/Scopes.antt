-- One scope: a name that was declared stays declared, and names that differ stand for what they were declared as.
use Rattle.std.proofs.Common.{◌≡◌, List, [], ◌∷◌, ◌++◌, Bool, true, false, Option, Some, None, refl, ap, cond}
use Rattle.std.specs.Prelude.{ℕ, bytes_eq}
use Rattle.std.specs.List.{AllByRecursion}
use Rattle.std.proofs.lemmas.Slice.Eq.{bytes_eq-Decides}
use Rattle.c_scopes.specs.Rows.{Scope}
use Rattle.c_scopes.specs.Scoping.{named}

pub all_map : {X : Type 0} (P Q : X → Type 0) → ((x : X) → P x → Q x) → (xs : List X) → AllByRecursion P xs → AllByRecursion Q xs
all_map P Q f [] h = tt
all_map P Q f (x ∷ xs) h = (f x h.0, all_map P Q f xs h.1)

module _ {T : Type 0} where
  cond_stays : (b : Bool) (v e : T) (o p : Option T) → (o ≡ Some e → p ≡ Some e) → cond b (Some v) o ≡ Some e → cond b (Some v) p ≡ Some e
  cond_stays true v e o p f h = h
  cond_stays false v e o p f h = f h

  cond_new : (b : Bool) (v e : T) (o p : Option T) → (o ≡ None → p ≡ Some e) → cond b (Some v) o ≡ None → cond b (Some v) p ≡ Some e
  cond_new true v e o p f h = cc
  cond_new false v e o p f h = f h

  pub named_stays : (x : List ℕ) (e : T) (s more : Scope T) → named x s ≡ Some e → named x (s ++ more) ≡ Some e
  named_stays x e [] more h = cc
  named_stays x e (r ∷ s) more h = cond_stays (bytes_eq x r.0) r.1 e (named x s) (named x (s ++ more)) (named_stays x e s more) h

  pub named_new : (x : List ℕ) (e : T) (s : Scope T) → named x s ≡ None → named x (s ++ (x, e) ∷ []) ≡ Some e
  named_new x e [] h = rw ((bytes_eq-Decides x x).1 refl) refl
  named_new x e (r ∷ s) h = cond_new (bytes_eq x r.0) r.1 e (named x s) (named x (s ++ (x, e) ∷ [])) (named_new x e s) h

  pub named_beside : (x y : List ℕ) (e : T) (s : Scope T) → bytes_eq x y ≡ false → named x (s ++ (y, e) ∷ []) ≡ named x s
  named_beside x y e [] h = rw h refl
  named_beside x y e (r ∷ s) h = ap (cond (bytes_eq x r.0) (Some r.1)) (named_beside x y e s h)

  none_before : (o p : Option T) → ((e : T) → o ≡ Some e → p ≡ Some e) → p ≡ None → o ≡ None
  none_before None p f h = refl
  none_before (Some e) p f h = let g = f e refl in cc

  -- what is free in the later scope was free before
  pub free_before : (x : List ℕ) (s t : Scope T) → ((e : T) → named x s ≡ Some e → named x t ≡ Some e) → named x t ≡ None → named x s ≡ None
  free_before x s t f h = none_before (named x s) (named x t) f h

  pub different : (x y : List ℕ) (s : Scope T) → (named x s ≡ named y s → ⊥) → bytes_eq x y ≡ false
  different x y s f = by (bytes_eq x y) refl
    where
      by : (b : Bool) → bytes_eq x y ≡ b → b ≡ false
      by true e = absurd (f (ap (λ z. named z s) ((bytes_eq-Decides x y).0 e)))
      by false e = refl

  -- each of these rows says what its name stands for in the scope
  abbrev pub Stand : Scope T → Scope T → Type 0
  Stand s rows = AllByRecursion (λ (r : List ℕ × T). named r.0 s ≡ Some r.1) rows

  stand_and_one : (s rows : Scope T) (x : List ℕ) (e : T) → Stand s rows → named x s ≡ Some e → Stand s (rows ++ (x, e) ∷ [])
  stand_and_one s [] x e h g = (g, tt)
  stand_and_one s (r ∷ rows) x e h g = (h.0, stand_and_one s rows x e h.1 g)

  -- so it is where each name was free when it was declared
  pub stand_declared : (x : List ℕ) (e : T) (s : Scope T) → named x s ≡ None → Stand s s → Stand (s ++ (x, e) ∷ []) (s ++ (x, e) ∷ [])
  stand_declared x e s h g =
      let t = s ++ (x, e) ∷ [] in
      stand_and_one t s x e (all_map (λ (r : List ℕ × T). named r.0 s ≡ Some r.1) (λ (r : List ℕ × T). named r.0 t ≡ Some r.1) (λ r. named_stays r.0 r.1 s ((x, e) ∷ [])) s g) (named_new x e s h)
