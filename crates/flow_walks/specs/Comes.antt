-- What may come: sets of lists of what is met. A list is cut anywhere, so each front of a list that may come may come.
use Rattle.std.specs.Prelude.{◌≡◌, ℕ, zero, suc, ◌⊎◌, List, [], ◌∷◌, Bool, true, false}
use Rattle.flow_walks.specs.declared.action.Action.{Action}
use Rattle.flow_walks.specs.declared.action.Action.TheVariants.{Test}
use Rattle.c_walk.specs.Items.{Outcomes, both, only_true, only_false, cases}

-- an action; the function of that number is called, whose body is no part of the walk; the body is left by its end or a `return`
pub data Met : Type 0 where
  act : Action → Met
  enter : ℕ → Met
  leave : Met

abbrev pub Comes : Type 1
Comes = List Met → Type 0

-- nothing more comes
abbrev pub ends : Comes
ends [] = Unit {0}
ends (a ∷ w) = ⊥

-- this, and then what k allows; or the list was cut before it
abbrev pub emit : Met → Comes → Comes
emit a k [] = Unit {0}
emit a k (b ∷ w) = (b ≡ a) × k w

abbrev pub emit_if : Bool → Met → Comes → Comes
emit_if true a k = emit a k
emit_if false a k = k

-- the first where the test holds, else the second
abbrev pub choice : Bool → Comes → Comes → Comes
choice true j k = j
choice false j k = k

abbrev pub either : Comes → Comes → Comes
either j k w = j w ⊎ k w

-- at most that many turns of a loop
abbrev pub turns : ℕ → (Comes → Comes) → Comes
turns zero once = ends
turns (suc n) once = once (turns n once)

-- any number of turns
abbrev pub loop : (Comes → Comes) → Comes
loop once w = (n : ℕ) × turns n once w

-- ---- what comes behind an expression

-- behind its value; or, at the test position of the decision of that number, where it is true and where it is false
pub data Ways : Type 1 where
  value : (k : Comes) → Ways
  test : (decision : ℕ) (true_way false_way : Comes) → Ways

abbrev pub true_way : Ways → Comes
true_way (value k) = k
true_way (test d j k) = j

abbrev pub false_way : Ways → Comes
false_way (value k) = k
false_way (test d j k) = k

-- the outcomes of a decision: 1 is true, 2 is false, and a constant has its own alone
abbrev pub decided : Outcomes → ℕ → Comes → Comes → Comes
decided only_true d j k = emit (act (Test d 1)) j
decided only_false d j k = emit (act (Test d 2)) k
decided both d j k = either (emit (act (Test d 1)) j) (emit (act (Test d 2)) k)
decided (cases vs) d j k = either (emit (act (Test d 1)) j) (emit (act (Test d 2)) k)

-- an expression that may come to these outcomes has been evaluated
abbrev pub evaluated : Outcomes → Ways → Comes
evaluated o (value k) = k
evaluated o (test d j k) = decided o d j k
