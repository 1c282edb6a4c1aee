-- The marks of definitions.
use Rattle.std.proofs.Common.{ℕ, zero, suc, ◌+◌, ◌≡◌, ◌⊎◌, ◌↔◌, inl, inr, List, [], ◌∷◌, ◌++◌, length, get_or, Option, Some, None, true, refl, ap, sym, subst, ◌∙◌, arith}
use Rattle.std.specs.Prelude.{slice_get, Contains}
use Rattle.std.proofs.lemmas.Bool.{cases_lt}
use Rattle.std.proofs.lemmas.List.{get_or_default}
use Rattle.std.proofs.lemmas.Option.{slice_get_read, slice_get_within}
use Rattle.c_sites.specs.declared.lists.DefSite.{DefSite}
use Rattle.c_sites.specs.declared.numbered.Sites.{Sites}
use Rattle.pair_list.specs.declared.marks.Mark.{Mark}
use Rattle.pair_list.specs.Sites.{IsDef, IsStrong}
use Rattle.pair_list.specs.Marks.{HasMark, AreMarks, AddsNames, AddsMarks}

pub some_is : {A : Type 0} → (x y : A) → Some x ≡ Some y → x ≡ y
some_is {A} x y e = ap or_else e
  where
    or_else : Option A → A
    or_else None = x
    or_else (Some t) = t

abbrev IsNothing : {A : Type 0} → Option A → Type 0
IsNothing None = Unit {0}
IsNothing (Some x) = ⊥

pub not_some : {A : Type 0} → (x : A) → None ≡ Some x → ⊥
not_some {A} x e = subst (IsNothing {A = A}) e tt

push_old : {A : Type 0} → (xs : List A) (x y : A) (i : ℕ) → slice_get xs i ≡ Some y → slice_get (xs ++ x ∷ []) i ≡ Some y
push_old [] x y i e = absurd (not_some y e)
push_old (z ∷ xs) x y zero e = e
push_old (z ∷ xs) x y (suc i) e = push_old xs x y i e

push_new : {A : Type 0} → (xs : List A) (x : A) → slice_get (xs ++ x ∷ []) (length xs) ≡ Some x
push_new [] x = refl
push_new (z ∷ xs) x = push_new xs x

push_cases : {A : Type 0} → (xs : List A) (x y : A) (i : ℕ) → slice_get (xs ++ x ∷ []) i ≡ Some y → (slice_get xs i ≡ Some y) ⊎ (x ≡ y)
push_cases [] x y zero e = inr (some_is x y e)
push_cases [] x y (suc i) e = absurd (not_some y e)
push_cases (z ∷ xs) x y zero e = inl e
push_cases (z ∷ xs) x y (suc i) e = push_cases xs x y i e

has_kept : (old new : List Mark) (d x n : ℕ) → ((i : ℕ) (m : Mark) → slice_get old i ≡ Some m → slice_get new i ≡ Some m) → HasMark old d x n → HasMark new d x n
has_kept old new d x n kept h = (h.0, h.1, kept h.0 h.1 h.2, h.3, h.4, h.5)

pub names_start : (s : Sites) (d x : ℕ) (names : List ℕ) (old : List Mark) → AddsNames s d x names old old 0
names_start s d x names old = record { kept = λ i m e. e; each = λ i m e. inl e; all = λ j lt. absurd (omega arith) }

pub names_more : (s : Sites) (d x n : ℕ) (names : List ℕ) (base old new : List Mark) (m : Mark) → AddsNames s d x names base old n → slice_get names n ≡ Some m.name → m.def ≡ d → m.variable ≡ x → ((m.strong ≡ true) ↔ IsStrong s m.name) → new ≡ old ++ m ∷ [] → AddsNames s d x names base new (n + 1)
names_more s d x n names base old new m a at is_d is_x strong e =
    let grown : (i : ℕ) (k : Mark) → slice_get old i ≡ Some k → slice_get new i ≡ Some k = λ i k h. subst (λ l. slice_get l i ≡ Some k) (sym e) (push_old old m k i h) in
    let within = slice_get_within names n m.name at in
    let here : get_or names n 0 ≡ m.name = some_is (get_or names n 0) m.name (sym (slice_get_read names (length names) n (get_or names n 0) refl within (sym (get_or_default names n (get_or names n 0) 0 within))) ∙ at) in
    record {
      kept = λ i k h. grown i k (a.kept i k h);
      each = λ i k h. elim (push_cases old m k i (subst (λ l. slice_get l i ≡ Some k) e h)) [
        | inl was ↦ a.each i k was
        | inr now ↦ inr (subst (λ k. (k.def ≡ d) × (k.variable ≡ x) × Contains names k.name × ((k.strong ≡ true) ↔ IsStrong s k.name)) now (is_d, is_x, (n, within, get_or_default names n m.name 0 within ∙ here), strong))
      ];
      all = λ j lt. elim (cases_lt j n) [
        | inl less ↦ has_kept old new d x (get_or names j 0) grown (a.all j less)
        | inr ge ↦ (let same : n ≡ j = omega arith in subst (λ j. HasMark new d x (get_or names j 0)) same (length old, m, subst (λ l. slice_get l (length old) ≡ Some m) (sym e) (push_new old m), is_d, is_x, sym here))
      ];
    }

-- the marks of one definition
pub one_def : (s : Sites) (d : ℕ) (a b : DefSite) → IsDef s d a → IsDef s d b → a ≡ b
one_def s d a b x y = some_is a b (sym x.1 ∙ y.1)

pub def_none : (s : Sites) (f d : ℕ) (def : DefSite) (old : List Mark) → IsDef s d def → ((x : ℕ) → def.function ≡ f → def.variable ≡ Some x → ⊥) → AddsMarks s f d old old
def_none s f d def old is none = record { kept = λ i m e. e; each = λ i m e. inl e; all = λ other x n is' fun var name. let same = one_def s d other def is' is in absurd (none x (subst (λ q. q.function ≡ f) same fun) (subst (λ q. q.variable ≡ Some x) same var)) }

pub def_some : (s : Sites) (f d x : ℕ) (def : DefSite) (old new : List Mark) → IsDef s d def → def.function ≡ f → def.variable ≡ Some x → AddsNames s d x def.names old new (length def.names) → AddsMarks s f d old new
def_some s f d x def old new is fun var a = record {
  kept = a.kept;
  each = λ i m e. elim (a.each i m e) [
    | inl was ↦ inl was
    | inr n ↦ inr (record { def = def; is_def = subst (λ k. IsDef s k def) (sym n.0) is; function = fun; variable = var ∙ ap Some (sym n.1); name = n.2; strong = n.3 }, n.0)
  ];
  all = λ other y n is' fun' var' name.
      let same = one_def s d other def is' is in
      let at : Contains def.names n = subst (λ q. Contains q.names n) same name in
      let y_is : y ≡ x = some_is y x (sym (subst (λ q. q.variable ≡ Some y) same var') ∙ var) in
      let h = a.all at.0 at.1 in
      (h.0, h.1, h.2, h.3, h.4 ∙ sym y_is, h.5 ∙ sym (get_or_default def.names at.0 n 0 at.1) ∙ at.2);
}

-- and of many
pub marks_start : (s : Sites) (f first : ℕ) → AreMarks s f first 0 []
marks_start s f first = record { each = λ i m e. absurd (not_some m e); all = λ d def x n le lt. absurd (omega arith) }

pub marks_more : (s : Sites) (f first n d : ℕ) (old new : List Mark) → d ≡ first + n → AreMarks s f first n old → AddsMarks s f d old new → AreMarks s f first (n + 1) new
marks_more s f first n d old new e are adds = record {
  each = λ i m h. elim (adds.each i m h) [
    | inl was ↦ (let p = are.each i m was in let lt = p.2 in (p.0, p.1, omega arith))
    | inr now ↦ (let q = now.1 in (now.0, omega arith, omega arith))
  ];
  all = λ k def x name le lt is fun var has. elim (cases_lt k (first + n)) [
    | inl less ↦ has_kept old new k x name adds.kept (are.all k def x name le less is fun var has)
    | inr ge ↦ (let same : d ≡ k = omega arith in subst (λ k. HasMark new k x name) same (adds.all def x name (subst (λ k. IsDef s k def) (sym same) is) fun var has))
  ];
}
