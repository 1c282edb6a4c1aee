-- Cases: of a test, of two facts, of an answer, and of a list of one.
use Rattle.std.proofs.Common.{◌≡◌, zero, suc, [], ◌∷◌, Bool, true, false, Result, Ok, Err, refl, sym, ◌∙◌, arith, inl, inr}
use Rattle.std.specs.Prelude.{◌⊎◌, OnOk, OnErr}
use Rattle.std.specs.List.{Contains}

pub either : {A B C : Type 0} → (A → C) → (B → C) → A ⊎ B → C
either f g (inl a) = f a
either f g (inr b) = g b

pub by_test : {P : Type 0} (b : Bool) → (b ≡ true → P) → (b ≡ false → P) → P
by_test true f g = f refl
by_test false f g = g refl

pub not_true : (b : Bool) → b ≡ false → b ≡ true → ⊥
not_true b p q = let r : false ≡ true = sym p ∙ q in absurd (cc)

pub on_ok : {T E A B : Type 0} (r : Result T E) → (A → B) → OnOk r A → OnOk r B
on_ok (Ok x) f h = f h
on_ok (Err e) f h = tt

pub on_err : {T E A B : Type 0} (r : Result T E) → (A → B) → OnErr r A → OnErr r B
on_err (Ok x) f h = tt
on_err (Err e) f h = f h

pub only : {A : Type 0} (x y : A) → Contains (x ∷ []) y → y ≡ x
only x y (zero, h, e) = sym e
only x y (suc k, h, e) = absurd (omega arith)
