-- What a run logs has numbers that a probe may have: each step of it keeps this.
use Rattle.std.proofs.Common.{List, [], ◌∷◌, ◌++◌, Option}
use Rattle.c_events.specs.declared.events.Event.{Event}
use Rattle.c_store.specs.declared.value.Value.{Value}
use Rattle.c_tables.specs.Tables.{TablesShape}
use Rattle.c_meaning.specs.State.{State, start}
use Rattle.c_meaning.specs.Results.{Got, Gives, Stops}
use Rattle.c_meaning.specs.Calls.{calls}
use Rattle.c_meaning.specs.Runs.{silent, main_called, outcome}
use Rattle.c_meaning.specs.Lasting.{IsTold, Lasts, Lasted}
use Rattle.c_meaning.proofs.SteadyRuns.{calls_keep, main_kept}
use Rattle.cover_sound.specs.Sound.{AreTold, LogsAreTold}

-- where all before was told, all behind is
abbrev StaysTold : State → State → Type 0
StaysTold s t = AreTold s.log → AreTold t.log

one_more : (es : List Event) (e : Event) → AreTold es → IsTold e → AreTold (es ++ e ∷ [])
one_more [] e h n = (n, tt)
one_more (x ∷ es) e h n = (h.0, one_more es e h.1 n)

told_lasts : Lasts StaysTold StaysTold StaysTold StaysTold
told_lasts = record {
  same = λ s h. h;
  further = λ s t u p q h. q (p h);
  turned = λ s n le h. h;
  kept_in = λ s c le h. h;
  read = λ s bs h. h;
  put = λ s bs h. h;
  done = λ s a h. h;
  told = λ s e n h. one_more s.log e h n;
  named = λ s bs h. h;
  scoped = λ s f h. h;
  whole = λ s f t p h. p h;
  called = λ s t p h. p h;
  stopped = λ s t p h. p h;
  further_stop = λ s t u p q h. q (p h);
  call_stop = λ s f t p h. p h;
  not_begun = λ s h. h;
  inside_stop = λ s t p h. p h;
}

at_end : (t : TablesShape) (limit : _) (s : State) (r : Got (Option Value)) → AreTold s.log → Lasted StaysTold StaysTold s r → AreTold (outcome t limit r).log
at_end t limit s (Gives v u) h p = p.holds h
at_end t limit s (Stops why u) h p = p.holds h

pub logs_are_told : LogsAreTold
logs_are_told P input limit =
    let s = start input limit in
    at_end P.tables limit s (main_called P silent (calls P silent) s) tt
    (main_kept StaysTold StaysTold StaysTold StaysTold told_lasts P silent (calls P silent) (calls_keep StaysTold StaysTold StaysTold StaysTold told_lasts P silent) s)
