-- The uses of a program that stand in the expression of a decision: the number of each, and that of the decision.
use Rattle.std.specs.Prelude.{◌≡◌, ℕ, ◌+◌, List, [], ◌∷◌, Some, None}
use Rattle.c_syntax.specs.declared.text.Text.{Text}
use Rattle.c_walk.specs.Items.{Item, used}
use Rattle.c_sites_probes.specs.Owned.{owned_in}
use Rattle.c_meaning.specs.Calls.{Source}
use Rattle.probe_rules.specs.Instrumented.{instrumented}
use Rattle.probe_rules.specs.Fitting.{HasFewItems}
use Rattle.probe_rules.specs.Simulation.{IsPlain, all_walked}

-- of items of which the first use has that number
abbrev pub owned_from : ℕ → List Item → List (ℕ × ℕ)
owned_from n [] = []
owned_from n (used p f d (Some k) ∷ items) = (n, k) ∷ owned_from (n + 1) items
owned_from n (used p f d None ∷ items) = owned_from (n + 1) items
owned_from n (i ∷ items) = owned_from n items

-- in a program with its probes the innermost test or select round a use probe is that of the decision that holds the use
abbrev pub InstrumentedOwns : Type 0
InstrumentedOwns = (digest : Text) (P : Source) → IsPlain P → HasFewItems (all_walked P) → owned_in (instrumented digest P).unit ≡ owned_from 1 (all_walked P).items
