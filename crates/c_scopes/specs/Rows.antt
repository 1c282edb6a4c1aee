-- Scopes as lists of rows, a name and what it stands for.
use Rattle.std.specs.Prelude.{ℕ, List, map, Vec, refl}
use Rattle.std.specs.Global.{Global}
use Rattle.std.specs.Coded.{Coded, code_by, coded×, coded_ℕ, coded_list}

-- one scope: its names in the order in which they were declared
abbrev pub Scope : Type 0 → Type 0
Scope T = List (List ℕ × T)

-- the innermost scope, and those around it, the outermost first
pub record Scoped (T : Type 0) : Type 0 where
  pub outer : List (Scope T)
  pub top : Scope T

abbrev pub rows_of : {T : Type 0} → List (Vec ℕ Global × T) → Scope T
rows_of es = map (λ e. (e.0.items, e.1)) es

-- how they are stored
abbrev pub scope_code : {T : Type 0} → Coded T → Coded (Scope T)
scope_code code = coded_list (coded× (coded_list coded_ℕ) code)

abbrev pub scoped_code : {T : Type 0} → Coded T → Coded (Scoped T)
scoped_code {T} code =
    code_by (List (Scope T) × Scope T) (coded× (coded_list (scope_code code)) (scope_code code)) (λ s. (s.outer, s.top)) (λ p. record { outer = p.0; top = p.1 }) (λ _. refl)
