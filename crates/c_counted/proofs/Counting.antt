-- How typing counts: what holds of each place of a form, with the number of its token, holds of complaints there.
use Rattle.std.proofs.Common.{◌≡◌, ℕ, ◌+◌, ◌≤◌, List, [], ◌∷◌, ◌++◌, Bool, true, false, refl, sym, ap, ◌∙◌, subst, arith}
use Rattle.std.proofs.lemmas.Bool.{false≢true}
use Rattle.std.specs.Prelude.{min, ◌^◌, ◌-◌, ◌||◌}
use Rattle.c_base.specs.declared.place.Pos.{Pos}
use Rattle.c_syntax.specs.Forms.{Form, nothing, is, at, starts, seq}
use Rattle.c_tree.specs.declared.meaning.Complaint.{Complaint}
use Rattle.c_tree.specs.State.{State, steps, step, complain, demand}
use Rattle.c_tree.specs.Rulings.{Ruled, allowed, unsettled, refused, rule}

-- ---- forms

-- the number of the token behind a form that begins at that one
abbrev pub behind : ℕ → Form → ℕ
behind n nothing = n
behind n (is k) = n + 1
behind n (at p k) = n + 1
behind n (starts p f) = behind n f
behind n (seq f g) = behind (behind n f) g

-- numbers of tokens are kept up to the greatest of 32 bits
abbrev pub kept : ℕ → ℕ
kept n = min n (2 ^ 32 - 1)

-- the predicate holds of each place in the form and the number of its token
abbrev pub Stands : (ℕ → Pos → Type 0) → ℕ → Form → Type 0
Stands P n nothing = Unit {0}
Stands P n (is k) = Unit {0}
Stands P n (at p k) = P (kept n) p
Stands P n (starts p f) = (n + 1 ≤ behind n f → P (kept n) p) × Stands P n f
Stands P n (seq f g) = Stands P n f × Stands P (behind n f) g

pub no_fewer : (n : ℕ) (f : Form) → n ≤ behind n f
no_fewer n nothing = omega arith
no_fewer n (is k) = omega arith
no_fewer n (at p k) = omega arith
no_fewer n (starts p f) = no_fewer n f
no_fewer n (seq f g) = omega (arith, no_fewer n f, no_fewer (behind n f) g)

-- it has a token, whatever its parts are
abbrev pub begins : Form → Bool
begins nothing = false
begins (is k) = true
begins (at p k) = true
begins (starts p f) = begins f
begins (seq f g) = begins f || begins g

either_has : (n m k : ℕ) (b c : Bool) → (b ≡ true → n + 1 ≤ m) → n ≤ m → m ≤ k → (c ≡ true → m + 1 ≤ k) → (b || c) ≡ true → n + 1 ≤ k
either_has n m k true c x i j y e = omega (arith, x refl, j)
either_has n m k false c x i j y e = omega (arith, y e, i)

pub some_tokens : (n : ℕ) (f : Form) → begins f ≡ true → n + 1 ≤ behind n f
some_tokens n nothing e = absurd (false≢true e)
some_tokens n (is k) e = omega arith
some_tokens n (at p k) e = omega arith
some_tokens n (starts p f) e = some_tokens n f e
some_tokens n (seq f g) e = either_has n (behind n f) (behind (behind n f) g) (begins f) (begins g) (some_tokens n f) (no_fewer n f) (no_fewer (behind n f) g) (some_tokens (behind n f) g) e

-- ---- states

abbrev pub Fine : (ℕ → Pos → Type 0) → List Complaint → Type 0
Fine P [] = Unit {0}
Fine P (c ∷ cs) = P c.token c.pos × Fine P cs

-- so many tokens were read, and the predicate holds of each complaint
pub record Held (P : ℕ → Pos → Type 0) (n : ℕ) (s : State) : Type 0 where
  pub count : s.at ≡ kept n
  pub fine : Fine P s.complaints

fine_snoc : (P : ℕ → Pos → Type 0) (cs : List Complaint) (c : Complaint) → Fine P cs → P c.token c.pos → Fine P (cs ++ c ∷ [])
fine_snoc P [] c h p = (p, tt)
fine_snoc P (d ∷ cs) c h p = (h.0, fine_snoc P cs c h.1 p)

pub same : {P : ℕ → Pos → Type 0} {n : ℕ} {s t : State} → Held P n s → t.at ≡ s.at → t.complaints ≡ s.complaints → Held P n t
same {P} {n} {s} {t} h p q = record { count = p ∙ h.count; fine = subst (Fine P) (sym q) h.fine }

pub moved_to : {P : ℕ → Pos → Type 0} {n m : ℕ} {s : State} → n ≡ m → Held P n s → Held P m s
moved_to {P} {n} {m} {s} e h = record { count = h.count ∙ ap kept e; fine = h.fine }

pub here : {P : ℕ → Pos → Type 0} {n : ℕ} {p : Pos} {s : State} → Held P n s → P (kept n) p → P s.at p
here {P} {n} {p} {s} h x = subst (λ m. P m p) (sym h.count) x

pub stepped_by : {P : ℕ → Pos → Type 0} {n : ℕ} {s : State} (k : ℕ) → Held P n s → Held P (n + k) (steps k s)
stepped_by {P} {n} {s} k h = record { count = omega (arith, h.count); fine = h.fine }

pub stepped : {P : ℕ → Pos → Type 0} {n : ℕ} {s : State} → Held P n s → Held P (n + 1) (step s)
stepped h = stepped_by 1 h

pub stepped2 : {P : ℕ → Pos → Type 0} {n : ℕ} {s : State} → Held P n s → Held P (n + 1 + 1) (steps 2 s)
stepped2 {P} {n} {s} h = moved_to (omega arith) (stepped_by 2 h)

pub stepped3 : {P : ℕ → Pos → Type 0} {n : ℕ} {s : State} → Held P n s → Held P (n + 1 + 1 + 1) (steps 3 s)
stepped3 {P} {n} {s} h = moved_to (omega arith) (stepped_by 3 h)

pub stepped4 : {P : ℕ → Pos → Type 0} {n : ℕ} {s : State} → Held P n s → Held P (n + 1 + 1 + 1 + 1) (steps 4 s)
stepped4 {P} {n} {s} h = moved_to (omega arith) (stepped_by 4 h)

pub stepped5 : {P : ℕ → Pos → Type 0} {n : ℕ} {s : State} → Held P n s → Held P (n + 1 + 1 + 1 + 1 + 1) (steps 5 s)
stepped5 {P} {n} {s} h = moved_to (omega arith) (stepped_by 5 h)

pub complained : {P : ℕ → Pos → Type 0} {n : ℕ} (number token : ℕ) (p : Pos) (s : State) → P token p → Held P n s → Held P n (complain number token p s)
complained {P} {n} number token p s x h = record { count = h.count; fine = fine_snoc P s.complaints (record { token = token; number = number; pos = p }) h.fine x }

pub demanded : {P : ℕ → Pos → Type 0} {n : ℕ} (b : Bool) (number token : ℕ) (p : Pos) (s : State) → P token p → Held P n s → Held P n (demand b number token p s)
demanded true number token p s x h = h
demanded false number token p s x h = complained number token p s x h

pub ruled : {P : ℕ → Pos → Type 0} {n : ℕ} (r : Ruled) (token : ℕ) (p : Pos) (s : State) → P token p → Held P n s → Held P n (rule r token p s)
ruled (allowed t) token p s x h = h
ruled unsettled token p s x h = h
ruled (refused number) token p s x h = complained number token p s x h
