-- The probe before a statement logs.
use Rattle.std.proofs.Common.{◌≡◌, ℕ, List, ◌∷◌, Some, map, ap, ◌∙◌}
use Rattle.c_events.specs.declared.events.Event.TheVariants.{Block}
use Rattle.c_syntax.specs.declared.text.Text.{Text}
use Rattle.c_syntax.specs.declared.tree.ProbeMark.{ProbeMark}
use Rattle.c_constants.specs.Probes.{probe_number_of}
use Rattle.c_meaning.specs.declared.end.Flow.{Flow}
use Rattle.c_meaning.specs.State.{State, logged}
use Rattle.c_meaning.specs.Results.{Got}
use Rattle.c_meaning.specs.Places.{logs_one, logs}
use Rattle.c_meaning.specs.Expressions.{log_block}
use Rattle.c_meaning.specs.Statements.{marks_log}

pub one_logged : (ms rest : List ProbeMark) (m : ProbeMark) (x : Text) (k : ℕ) (s s' : State) (go : State → Got Flow) → ms ≡ m ∷ rest → x ≡ m.number → Some k ≡ probe_number_of x → s' ≡ logged (Block k) s → marks_log rest s' go ≡ marks_log ms s go
one_logged ms rest m x k s s' go is same at e =
    rw (is, e) (ap (λ o. logs_one log_block o s (λ s. logs log_block (map (λ (m : ProbeMark). m.number) rest) s go)) (at ∙ ap probe_number_of same))
