-- Arguments that run out.
use Rattle.std.proofs.Common.{◌≡◌, ℕ, ◌≤◌, List, [], ◌∷◌, length, map, drop, refl, ap, ◌∙◌}
use Rattle.std.proofs.lemmas.List.{drop_all}
use Rattle.c_syntax.specs.Shape.{TypeOf}
use Rattle.c_tree.specs.State.{State}
use Rattle.c_tree.specs.Operators.{fit_all}
use Rattle.c_checker.specs.declared.calls.Given.{Given}
use Rattle.c_checker.specs.CallView.{given_of}

none_left : (ts : List TypeOf) (s : State) → fit_all ts [] s ≡ s
none_left [] s = refl
none_left (t ∷ ts) s = refl

pub fit_end : (ts : List TypeOf) (gs : List Given) (i : ℕ) (s : State) → length gs ≤ i → fit_all ts (map given_of (drop i gs)) s ≡ s
fit_end ts gs i s h = ap (λ g. fit_all ts (map given_of g) s) (drop_all i gs h) ∙ none_left ts s
