-- The answers of the commands, as far as their steps have come.
use Rattle.std.proofs.Common.{◌≡◌, refl, ap, List, [], ◌∷◌, ◌++◌, ℕ, Bool, Option, None, Some}
use Rattle.c_meaning.specs.Calls.{Source}
use Rattle.atac_base.specs.Items.{ItemLists}
use Rattle.atac_words.specs.Words.{Command, Check, ListItems, Instrument, Cover, Run, RunInto, Merge, Tell, Pick, Watch}
use Rattle.atac_steps.specs.Ends.{End, IsDone, NotAccepted}
use Rattle.atac_programs.specs.Programs.{Counts, IsRecorded, counts_text, section, IsCovered, IsTaken, shown}
use Rattle.atac_commands.specs.Readings.{Reading, Refuses, Counted, Listed, Runs, Covers, Probes, Viewed, Merges, Records, Picks, Watches, Saying, IsUnderstood, view_text, runs_text}
use Rattle.atac_commands.specs.Answers.{Answer, asked, text, refused, covering, joining, keeping, old_given, gathering, marked_by, saying, input_most}
use Rattle.atac_steps.specs.Got.{gets, Got, Gets, Stops}
use Rattle.atac_commands.specs.Runs.{IsOfGot, AreRead, IsRunInto, ArePicked, Understands}
use Rattle.run_pick.specs.Lines.{pick_text}
use Rattle.sha2.specs.Sha256.{sha256}
use Rattle.trace_file.specs.declared.trace.Trace.{Trace}
use Rattle.atac_words.specs.declared.words.View.{View}
use Rattle.atac_traces.specs.Files.{Read, trace_most}

-- what stops at its program is not understood
stopped_got : (command : Command) (g : Got) (e : End) → g ≡ Stops e → IsOfGot command g (Refuses [])
stopped_got command (Stops end) e h = tt
stopped_got command (Gets source) e h = absurd (let k : Gets source ≡ Stops e = h in cc)

-- ---- the answer of `cover`

module _ (n : ℕ) (p : List ℕ) (is : List (List ℕ)) (fp : Option (List ℕ)) (fs : List (Option (List ℕ))) where
  pub cover_stopped_first : (e : End) → gets p 1048576 fp ≡ Stops e
      → Understands (Some (Cover n p is)) (fp ∷ fs) (Refuses []) × (asked (Some (Cover n p is)) (Refuses []) (fp ∷ fs) ≡ refused [] e)
  cover_stopped_first e h = ((stopped_got (Cover n p is) (gets p 1048576 fp) e h, tt), rw h)

  module _ (s : List ℕ) (h : gets p 1048576 fp ≡ Gets s) where
    pub cover_understands : (u : Reading) → IsUnderstood (Cover n p is) s u → Understands (Some (Cover n p is)) (fp ∷ fs) u
    cover_understands u is = (rw h is, tt)

    pub cover_refused : (said : List ℕ) → asked (Some (Cover n p is)) (Refuses said) (fp ∷ fs) ≡ refused [] (NotAccepted p said)
    cover_refused said = rw h

    pub cover_goes : (P : Source) (items : ItemLists) → asked (Some (Cover n p is)) (Covers P items) (fp ∷ fs) ≡ covering P items n is fs [] []
    cover_goes P items = rw h

-- ---- the answer of `run`

module _ (n : ℕ) (p i : List ℕ) (fp fi : Option (List ℕ)) where
  pub run_stopped_first : (e : End) → gets p 67108864 fp ≡ Stops e
      → Understands (Some (Run n p i)) (fp ∷ fi ∷ []) (Refuses []) × (asked (Some (Run n p i)) (Refuses []) (fp ∷ fi ∷ []) ≡ refused [] e)
  run_stopped_first e h = ((stopped_got (Run n p i) (gets p 67108864 fp) e h, tt), rw h)

  module _ (s : List ℕ) (h : gets p 67108864 fp ≡ Gets s) where
    pub run_understands : (u : Reading) → IsUnderstood (Run n p i) s u → Understands (Some (Run n p i)) (fp ∷ fi ∷ []) u
    run_understands u is = (rw h is, tt)

    pub run_refused : (said : List ℕ) → asked (Some (Run n p i)) (Refuses said) (fp ∷ fi ∷ []) ≡ refused [] (NotAccepted p said)
    run_refused said = rw h

    module _ (P : Source) where
      pub run_stopped : (e : End) → gets i input_most fi ≡ Stops e → asked (Some (Run n p i)) (Runs P) (fp ∷ fi ∷ []) ≡ refused [] e
      run_stopped e l = rw (h, l)

      pub run_done : (b : List ℕ) → gets i input_most fi ≡ Gets b
          → asked (Some (Run n p i)) (Runs P) (fp ∷ fi ∷ []) ≡ record { end = IsDone; sections = []; rest = section i P b n; kept = None }
      run_done b l = rw (h, l)

      pub run_text : (b : List ℕ) → gets i input_most fi ≡ Gets b → text (asked (Some (Run n p i)) (Runs P) (fp ∷ fi ∷ [])) ≡ section i P b n
      run_text b l = ap (λ (a : Answer). text a) (run_done b l)

-- ---- the answer of `check`

pub check_stopped : (p : List ℕ) (fp : Option (List ℕ)) (e : End) → gets p 1048576 fp ≡ Stops e
    → Understands (Some (Check p)) (fp ∷ []) (Refuses []) × (asked (Some (Check p)) (Refuses []) (fp ∷ []) ≡ refused [] e)
check_stopped p fp e h = ((stopped_got (Check p) (gets p 1048576 fp) e h, tt), rw h)

module _ (p : List ℕ) (fp : Option (List ℕ)) (s : List ℕ) (h : gets p 1048576 fp ≡ Gets s) where
  pub checked : (u : Reading) → IsUnderstood (Check p) s u → Understands (Some (Check p)) (fp ∷ []) u
  checked u is = (rw h is, tt)

  pub check_refused : (said : List ℕ) → asked (Some (Check p)) (Refuses said) (fp ∷ []) ≡ refused [] (NotAccepted p said)
  check_refused said = rw h

  pub check_done : (n : Counts) → asked (Some (Check p)) (Counted n) (fp ∷ []) ≡ record { end = IsDone; sections = []; rest = counts_text n; kept = None }
  check_done n = rw h

-- ---- the answer of `list`

pub list_stopped : (p : List ℕ) (fp : Option (List ℕ)) (e : End) → gets p 1048576 fp ≡ Stops e
    → Understands (Some (ListItems p)) (fp ∷ []) (Refuses []) × (asked (Some (ListItems p)) (Refuses []) (fp ∷ []) ≡ refused [] e)
list_stopped p fp e h = ((stopped_got (ListItems p) (gets p 1048576 fp) e h, tt), rw h)

module _ (p : List ℕ) (fp : Option (List ℕ)) (s : List ℕ) (h : gets p 1048576 fp ≡ Gets s) where
  pub listed : (u : Reading) → IsUnderstood (ListItems p) s u → Understands (Some (ListItems p)) (fp ∷ []) u
  listed u is = (rw h is, tt)

  pub list_refused : (said : List ℕ) → asked (Some (ListItems p)) (Refuses said) (fp ∷ []) ≡ refused [] (NotAccepted p said)
  list_refused said = rw h

  pub list_done : (items : List ℕ) → asked (Some (ListItems p)) (Listed items) (fp ∷ []) ≡ record { end = IsDone; sections = []; rest = items; kept = None }
  list_done items = rw h

-- ---- the answer of `instrument`

pub instrument_stopped : (p o : List ℕ) (fp : Option (List ℕ)) (e : End) → gets p 1048576 fp ≡ Stops e
    → Understands (Some (Instrument p o)) (fp ∷ []) (Refuses []) × (asked (Some (Instrument p o)) (Refuses []) (fp ∷ []) ≡ refused [] e)
instrument_stopped p o fp e h = ((stopped_got (Instrument p o) (gets p 1048576 fp) e h, tt), rw h)

module _ (p o : List ℕ) (fp : Option (List ℕ)) (s : List ℕ) (h : gets p 1048576 fp ≡ Gets s) where
  pub instrumented : (u : Reading) → IsUnderstood (Instrument p o) s u → Understands (Some (Instrument p o)) (fp ∷ []) u
  instrumented u is = (rw h is, tt)

  pub instrument_refused : (said : List ℕ) → asked (Some (Instrument p o)) (Refuses said) (fp ∷ []) ≡ refused [] (NotAccepted p said)
  instrument_refused said = rw h

  pub instrument_done : (text : List ℕ) → asked (Some (Instrument p o)) (Probes text) (fp ∷ []) ≡ record { end = IsDone; sections = []; rest = []; kept = Some (o, text) }
  instrument_done text = rw h

-- ---- the answer of `report`, `show` and `hits`

module _ (v : View) (p : List ℕ) (ts : List (List ℕ)) (fp : Option (List ℕ)) (fs : List (Option (List ℕ))) where
  pub tell_stopped : (e : End) → gets p 1048576 fp ≡ Stops e
      → Understands (Some (Tell v p ts)) (fp ∷ fs) (Refuses []) × (asked (Some (Tell v p ts)) (Refuses []) (fp ∷ fs) ≡ refused [] e)
  tell_stopped e h = ((stopped_got (Tell v p ts) (gets p 1048576 fp) e h, tt), rw h)

  module _ (s : List ℕ) (h : gets p 1048576 fp ≡ Gets s) where
    pub tell_not : (said : List ℕ) → IsUnderstood (Tell v p ts) s (Refuses said) → Understands (Some (Tell v p ts)) (fp ∷ fs) (Refuses said)
    tell_not said is = (rw h is, tt)

    pub tell_refused : (said : List ℕ) → asked (Some (Tell v p ts)) (Refuses said) (fp ∷ fs) ≡ refused [] (NotAccepted p said)
    tell_refused said = rw h

    pub tell_understands : (P : Source) (items : ItemLists) (reads : List Read) → IsUnderstood (Tell v p ts) s (Viewed P items reads) → AreRead (sha256 s) ts fs reads → Understands (Some (Tell v p ts)) (fp ∷ fs) (Viewed P items reads)
    tell_understands P items reads is read = (rw h is, rw h read)

    pub tell_goes : (P : Source) (items : ItemLists) (reads : List Read)
        → asked (Some (Tell v p ts)) (Viewed P items reads) (fp ∷ fs) ≡ joining ts fs reads [] (λ all. record { end = IsDone; sections = []; rest = view_text v s items all; kept = None })
    tell_goes P items reads = rw h

-- ---- the answer of `merge`

pub merge_goes : (o : List ℕ) (ts : List (List ℕ)) (fs : List (Option (List ℕ))) (reads : List Read) (sum : Option Trace) → asked (Some (Merge o ts)) (Merges reads sum) fs ≡ joining ts fs reads [] (λ all. keeping o sum runs_text)
merge_goes o ts fs reads sum = refl

-- ---- the answer of `run` into a trace

module _ (n : ℕ) (p i t : List ℕ) (fp fi ft : Option (List ℕ)) where
  pub into_stopped : (e : End) → gets p 67108864 fp ≡ Stops e
      → Understands (Some (RunInto n p i t)) (fp ∷ fi ∷ ft ∷ []) (Refuses []) × (asked (Some (RunInto n p i t)) (Refuses []) (fp ∷ fi ∷ ft ∷ []) ≡ refused [] e)
  into_stopped e h = ((stopped_got (RunInto n p i t) (gets p 67108864 fp) e h, tt), rw h)

  module _ (s : List ℕ) (h : gets p 67108864 fp ≡ Gets s) where
    pub into_not : (said : List ℕ) → IsUnderstood (RunInto n p i t) s (Refuses said) → Understands (Some (RunInto n p i t)) (fp ∷ fi ∷ ft ∷ []) (Refuses said)
    into_not said is = (rw h is, tt)

    pub into_refused : (said : List ℕ) → asked (Some (RunInto n p i t)) (Refuses said) (fp ∷ fi ∷ ft ∷ []) ≡ refused [] (NotAccepted p said)
    into_refused said = rw h

    module _ (P : Source) (old : Option Read) (new : Option Trace) where
      pub into_understands : IsRecorded s P → IsRunInto n P (gets i input_most fi) (gets t trace_most ft) old new → Understands (Some (RunInto n p i t)) (fp ∷ fi ∷ ft ∷ []) (Records P old new)
      into_understands is more = (rw h is, more)

      pub into_stops : (e : End) → gets i input_most fi ≡ Stops e → asked (Some (RunInto n p i t)) (Records P old new) (fp ∷ fi ∷ ft ∷ []) ≡ refused [] e
      into_stops e l = rw (h, l)

      pub into_goes : (b : List ℕ) → gets i input_most fi ≡ Gets b
          → asked (Some (RunInto n p i t)) (Records P old new) (fp ∷ fi ∷ ft ∷ []) ≡ old_given t (gets t trace_most ft) old (keeping t new (λ x. section i P b n))
      into_goes b l = rw (h, l)

-- ---- the answer of `pick`

module _ (n : ℕ) (p : List ℕ) (is : List (List ℕ)) (fp : Option (List ℕ)) (fs : List (Option (List ℕ))) where
  pub pick_stopped : (e : End) → gets p 1048576 fp ≡ Stops e
      → Understands (Some (Pick n p is)) (fp ∷ fs) (Refuses []) × (asked (Some (Pick n p is)) (Refuses []) (fp ∷ fs) ≡ refused [] e)
  pick_stopped e h = ((stopped_got (Pick n p is) (gets p 1048576 fp) e h, tt), rw h)

  module _ (s : List ℕ) (h : gets p 1048576 fp ≡ Gets s) where
    pub pick_not : (said : List ℕ) → IsUnderstood (Pick n p is) s (Refuses said) → Understands (Some (Pick n p is)) (fp ∷ fs) (Refuses said)
    pick_not said is = (rw h is, tt)

    pub pick_refused : (said : List ℕ) → asked (Some (Pick n p is)) (Refuses said) (fp ∷ fs) ≡ refused [] (NotAccepted p said)
    pick_refused said = rw h

    module _ (P : Source) (items : ItemLists) (marks : Option (List Bool)) where
      pub pick_understands : IsCovered s P items → ArePicked n P items is fs marks → Understands (Some (Pick n p is)) (fp ∷ fs) (Picks P items marks)
      pick_understands is picked = (rw h is, picked)

      pub pick_goes : asked (Some (Pick n p is)) (Picks P items marks) (fp ∷ fs) ≡ gathering is fs [] (λ all. marked_by marks (λ kept. record { end = IsDone; sections = []; rest = pick_text kept is items (shown P n all); kept = None }))
      pick_goes = rw h

-- ---- the answer of `watch`

module _ (n : ℕ) (p i w : List ℕ) (fp fi : Option (List ℕ)) where
  pub watch_stopped : (e : End) → gets p 1048576 fp ≡ Stops e
      → Understands (Some (Watch n p i w)) (fp ∷ fi ∷ []) (Refuses []) × (asked (Some (Watch n p i w)) (Refuses []) (fp ∷ fi ∷ []) ≡ refused [] e)
  watch_stopped e h = ((stopped_got (Watch n p i w) (gets p 1048576 fp) e h, tt), rw h)

  module _ (s : List ℕ) (h : gets p 1048576 fp ≡ Gets s) where
    pub watch_not : (said : List ℕ) → IsUnderstood (Watch n p i w) s (Refuses said) → Understands (Some (Watch n p i w)) (fp ∷ fi ∷ []) (Refuses said)
    watch_not said is = (rw h is, tt)

    pub watch_refused : (said : List ℕ) → asked (Some (Watch n p i w)) (Refuses said) (fp ∷ fi ∷ []) ≡ refused [] (NotAccepted p said)
    watch_refused said = rw h

    module _ (P : Source) (told : Saying) where
      pub watch_understands : IsTaken s P → Understands (Some (Watch n p i w)) (fp ∷ fi ∷ []) (Watches P told)
      watch_understands is = (rw h is, tt)

      pub watch_stops : (e : End) → gets i input_most fi ≡ Stops e → asked (Some (Watch n p i w)) (Watches P told) (fp ∷ fi ∷ []) ≡ refused [] e
      watch_stops e l = rw (h, l)

      pub watch_goes : (b : List ℕ) → gets i input_most fi ≡ Gets b
          → asked (Some (Watch n p i w)) (Watches P told) (fp ∷ fi ∷ []) ≡ saying w told (λ said. record { end = IsDone; sections = []; rest = section i P b n ++ said; kept = None })
      watch_goes b l = rw (h, l)
