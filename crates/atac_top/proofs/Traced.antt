-- What follows from a whole run of a command that makes or reads traces.
use Rattle.std.proofs.Common.{◌≡◌, ◌⊎◌, inl, inr, refl, ap, sym, ◌∙◌, subst, List, [], ◌∷◌, ◌++◌, map, length, ℕ, ◌≤◌, Bool, true, false, cond, leb, Option, None, Some, append_assoc, append-nil}
use Rattle.std.proofs.lemmas.Bool.{leb-true}
use Rattle.sha2.specs.Sha256.{sha256}
use Rattle.atac_base.specs.Items.{ItemLists}
use Rattle.atac_base.specs.Outside.{ShelfState, Said, Agrees}
use Rattle.c_meaning.specs.Calls.{Source}
use Rattle.c_tree.specs.Programs.{digest_in}
use Rattle.c_walk.specs.Units.{items_of}
use Rattle.c_sites.specs.declared.numbered.Sites.{Sites}
use Rattle.c_sites.specs.Refused.{AreNumbered}
use Rattle.pair_list.specs.Items.{AreTooMany}
use Rattle.probe_text.specs.Text.{text_in, Fits}
use Rattle.trace_file.specs.Layout.{bytes_of}
use Rattle.trace_file.specs.Reading.{Accepts}
use Rattle.trace_file.specs.declared.trace.Trace.{Trace}
use Rattle.atac_words.specs.Words.{Instrument, RunInto, Merge, Tell}
use Rattle.atac_words.specs.declared.words.View.{View}
use Rattle.atac_steps.specs.Ends.{End, IsDone, BadWords, NotHeld, NoTrace}
use Rattle.atac_steps.specs.Got.{Got, gets, Gets, Stops, AllAgree}
use Rattle.atac_steps.specs.declared.stop.TraceFault.{TraceFault}
use Rattle.atac_steps.specs.declared.stop.TraceFault.TheVariants.{NotATrace, Version, Length, Order, Damaged, OtherProgram, TooMuch}
use Rattle.atac_traces.specs.Files.{Read, Has, Bad, IsFaulty, trace_most}
use Rattle.atac_traces.specs.Totals.{IsSum}
use Rattle.atac_traces.proofs.One.{accepts_one, not_faulty}
use Rattle.atac_programs.specs.Programs.{IsAccepted, HasItems, IsProbed, IsRecorded, program_in, with_probes, not_plain, too_large, not_read, not_probed, section, met_by}
use Rattle.atac_commands.specs.Readings.{IsRunMore, Reading, Refuses, Counted, Listed, Runs, Covers, Probes, Viewed, Merges, Records, Picks, Watches, Sums, IsUnderstood, view_text, runs_text}
use Rattle.atac_commands.specs.Answers.{Answer, asked, names, text, refused, given, next_read, joining, keeping, old_read, old_given, input_most}
use Rattle.atac_commands.specs.Runs.{IsOfGot, IsReadIn, AreRead, AreToldOf, AreMerged, IsOwn, OldIs, IsRunInto, OfOthers, Understands, Keeps}
use Rattle.atac_commands.specs.Claims.{IsHeld, Passes, IsRunnable, HoldTraces, HoldsOld, IsFewBytes, KeptUnder}
use Rattle.atac_programs.proofs.Same.{same_source, not_rejected, not_unlisted, not_unread, one_probed, has_moved}
use Rattle.atac_commands.proofs.Sure.{IsSure, got}
use Rattle.atac_commands.proofs.Asked.{instrument_done, instrument_refused, tell_goes, tell_refused, into_goes}
use Rattle.atac_commands.proofs.Exits.{kept_answer}
use Rattle.atac_commands.proofs.Sums.{keeping_small}

-- what a call that is done keeps
pub kept_so : (name bytes : List ℕ) (kept : Option (List ℕ × List ℕ)) (shelf shelf' : ShelfState) → kept ≡ Some (name, bytes) → Keeps kept IsDone shelf shelf' → KeptUnder shelf shelf' name bytes
kept_so name bytes kept shelf shelf' is h = (subst (λ k. Keeps k IsDone shelf shelf') is h).1

-- a refused answer is not done
not_done : (a : Answer) (e : End) → a ≡ refused [] e → a.end ≡ IsDone → (e ≡ IsDone → ⊥) → ⊥
not_done a e is done not = not (sym (ap (λ (x : Answer). x.end) is) ∙ done)

bad_not_done : (a : Answer) → a.end ≡ BadWords → a.end ≡ IsDone → ⊥
bad_not_done a bad done = let e : BadWords ≡ IsDone = sym bad ∙ done in cc

-- ---- `instrument`

pub written_done : (program out : List ℕ) (p : Option (List ℕ)) (source : List ℕ) (u : Reading) → gets program 1048576 p ≡ Gets source → (a : IsAccepted source) → Fits (with_probes source (program_in a)).unit → IsUnderstood (Instrument program out) source u
    → (asked (Some (Instrument program out)) u (p ∷ [])).end ≡ IsDone
written_done program out p source (Refuses said) g a fits (not_plain r) = absurd (not_rejected source said a r)
written_done program out p source (Refuses said) g a fits (too_large b never is) = absurd (never (subst (λ (P : Source). Fits (with_probes source P).unit) (sym (same_source source a b)) fits))
written_done program out p source (Probes text) g a fits is = ap (λ (x : Answer). x.end) (instrument_done program out p source g text)
written_done program out p source (Counted n) g a fits is = absurd is
written_done program out p source (Listed text) g a fits is = absurd is
written_done program out p source (Runs P) g a fits is = absurd is
written_done program out p source (Covers P items) g a fits is = absurd is
written_done program out p source (Viewed P items reads) g a fits is = absurd is
written_done program out p source (Merges reads sum) g a fits is = absurd is
written_done program out p source (Records P old new) g a fits is = absurd is
written_done program out p source (Picks P items marks) g a fits is = absurd is
written_done program out p source (Watches P told) g a fits is = absurd is
written_done program out p source (Sums P items told) g a fits is = absurd is

written_so : (program out : List ℕ) (p : Option (List ℕ)) (source : List ℕ) (u : Reading) → gets program 1048576 p ≡ Gets source → (a : IsAccepted source) → IsUnderstood (Instrument program out) source u → (asked (Some (Instrument program out)) u (p ∷ [])).end ≡ IsDone
    → asked (Some (Instrument program out)) u (p ∷ []) ≡ kept_answer out (text_in (with_probes source (program_in a)).unit) []
written_so program out p source (Refuses said) g a is done = absurd (not_done _ _ (instrument_refused program out p source g said) done (λ e. cc))
written_so program out p source (Probes text) g a is done =
    instrument_done program out p source g text ∙ ap (λ t. kept_answer out t []) (is.is ∙ ap (λ (P : Source). text_in (with_probes source P).unit) (same_source source a is.accepted))
written_so program out p source (Counted n) g a is done = absurd is
written_so program out p source (Listed text) g a is done = absurd is
written_so program out p source (Runs P) g a is done = absurd is
written_so program out p source (Covers P items) g a is done = absurd is
written_so program out p source (Viewed P items reads) g a is done = absurd is
written_so program out p source (Merges reads sum) g a is done = absurd is
written_so program out p source (Records P old new) g a is done = absurd is
written_so program out p source (Picks P items marks) g a is done = absurd is
written_so program out p source (Watches P told) g a is done = absurd is
written_so program out p source (Sums P items told) g a is done = absurd is

pub written_answer : (program out : List ℕ) (says : List ℕ → Said) (found : List (Option (List ℕ))) (u : Reading) → AllAgree says (names (Some (Instrument program out))) found → Understands (Some (Instrument program out)) found u → (p : Passes (says program))
    → (asked (Some (Instrument program out)) u found).end ≡ IsDone → asked (Some (Instrument program out)) u found ≡ kept_answer out (text_in (with_probes p.held.bytes (program_in p.accepted)).unit) []
written_answer program out says (f ∷ []) u agrees is p done =
    let g = got program 1048576 _ f p.held agrees.0 in
    written_so program out f p.held.bytes u g p.accepted (subst (λ x. IsOfGot (Instrument program out) x u) g is.0) done
written_answer program out says [] u agrees is p done = absurd agrees
written_answer program out says (f ∷ h ∷ rest) u agrees is p done = absurd agrees.1

-- ---- traces that are held

-- where each is held, each is read as itself, or the answer is one that no call gives
joined_by : (digest : List ℕ) (says : List ℕ → Said) (traces : List (List ℕ)) (found : List (Option (List ℕ))) (reads : List Read) (ts before : List Trace) (go : List Trace → Answer)
    → AllAgree says traces found → HoldTraces digest says traces ts → AreRead digest traces found reads
    → ((joining traces found reads before go ≡ go (before ++ ts)) × (reads ≡ map Has ts)) ⊎ ((joining traces found reads before go).end ≡ BadWords)
joined_by digest says [] [] [] [] before go agrees held are = inl (ap go (sym (append-nil before)), refl)
joined_by digest says [] [] (r ∷ reads) [] before go agrees held are = absurd are
joined_by digest says [] [] reads (t ∷ ts) before go agrees held are = absurd held
joined_by digest says [] (f ∷ found) reads ts before go agrees held are = absurd agrees
joined_by digest says (n ∷ traces) [] reads ts before go agrees held are = absurd agrees
joined_by digest says (n ∷ traces) (f ∷ found) reads [] before go agrees held are = absurd held
joined_by digest says (n ∷ traces) (f ∷ found) [] (t ∷ ts) before go agrees held are =
    let g = got n trace_most (says n) f (record { bytes = held.0.0; is = held.0.1; short = held.0.2 }) agrees.0 in
    inr (ap (λ x. (given [] x (λ bytes. next_read n [] (λ u rest. joining traces found rest (before ++ u ∷ []) go))).end) g)
joined_by digest says (n ∷ traces) (f ∷ found) (Bad why ∷ reads) (t ∷ ts) before go agrees held are =
    let g = got n trace_most (says n) f (record { bytes = held.0.0; is = held.0.1; short = held.0.2 }) agrees.0 in
    absurd (not_faulty digest held.0.0 t why held.0.3 (subst (λ x. IsReadIn digest x (Bad why)) g are.0))
joined_by digest says (n ∷ traces) (f ∷ found) (Has u ∷ reads) (t ∷ ts) before go agrees held are =
    let g = got n trace_most (says n) f (record { bytes = held.0.0; is = held.0.1; short = held.0.2 }) agrees.0 in
    let same : u ≡ t = accepts_one held.0.0 u t (subst (λ x. IsReadIn digest x (Has u)) g are.0).0 held.0.3.0 in
    let step : joining (n ∷ traces) (f ∷ found) (Has u ∷ reads) before go ≡ joining traces found reads (before ++ t ∷ []) go =
    ap (λ x. given [] x (λ bytes. next_read n (Has u ∷ reads) (λ v rest. joining traces found rest (before ++ v ∷ []) go))) g ∙ ap (λ v. joining traces found reads (before ++ v ∷ []) go) same in
    by step same (joined_by digest says traces found reads ts (before ++ t ∷ []) go agrees.1 held.1 are.1)
  where
    by : joining (n ∷ traces) (f ∷ found) (Has u ∷ reads) before go ≡ joining traces found reads (before ++ t ∷ []) go → u ≡ t
        → ((joining traces found reads (before ++ t ∷ []) go ≡ go ((before ++ t ∷ []) ++ ts)) × (reads ≡ map Has ts)) ⊎ ((joining traces found reads (before ++ t ∷ []) go).end ≡ BadWords)
        → ((joining (n ∷ traces) (f ∷ found) (Has u ∷ reads) before go ≡ go (before ++ t ∷ ts)) × (Has u ∷ reads ≡ map Has (t ∷ ts))) ⊎ ((joining (n ∷ traces) (f ∷ found) (Has u ∷ reads) before go).end ≡ BadWords)
    by step same (inl h) = inl (step ∙ h.0 ∙ ap go (append_assoc before (t ∷ []) ts), ap (λ v. Has v ∷ reads) same ∙ ap (λ rest. Has t ∷ rest) h.1)
    by step same (inr h) = inr (ap (λ (a : Answer). a.end) step ∙ h)

-- ---- `report`, `show` and `hits`

module _ (v : View) (program : List ℕ) (traces : List (List ℕ)) (says : List ℕ → Said) (p : Option (List ℕ)) (found : List (Option (List ℕ))) (source : List ℕ) (g : gets program 1048576 p ≡ Gets source) (agrees : AllAgree says traces found) (ts : List Trace) (held : HoldTraces (sha256 source) says traces ts) where
  abbrev told : ItemLists → List Trace → Answer
  told items all = record { end = IsDone; sections = []; rest = view_text v source items all; kept = None }

  tells_by : (P : Source) (items : ItemLists) (reads : List Read) → OfOthers (Tell v program traces) (p ∷ found) (Viewed P items reads)
      → (asked (Some (Tell v program traces)) (Viewed P items reads) (p ∷ found) ≡ told items ts) ⊎ ((asked (Some (Tell v program traces)) (Viewed P items reads) (p ∷ found)).end ≡ BadWords)
  tells_by P items reads are = by (joined_by (sha256 source) says traces found reads ts [] (told items) agrees held (subst (λ x. AreToldOf x traces found reads) g are))
    where
      by : ((joining traces found reads [] (told items) ≡ told items ts) × (reads ≡ map Has ts)) ⊎ ((joining traces found reads [] (told items)).end ≡ BadWords)
          → (asked (Some (Tell v program traces)) (Viewed P items reads) (p ∷ found) ≡ told items ts) ⊎ ((asked (Some (Tell v program traces)) (Viewed P items reads) (p ∷ found)).end ≡ BadWords)
      by (inl h) = inl (tell_goes v program traces p found source g P items reads ∙ h.0)
      by (inr h) = inr (ap (λ (a : Answer). a.end) (tell_goes v program traces p found source g P items reads) ∙ h)

  sure_by : (P : Source) (items : ItemLists) (reads : List Read) → (asked (Some (Tell v program traces)) (Viewed P items reads) (p ∷ found) ≡ told items ts) ⊎ ((asked (Some (Tell v program traces)) (Viewed P items reads) (p ∷ found)).end ≡ BadWords)
      → IsSure (asked (Some (Tell v program traces)) (Viewed P items reads) (p ∷ found)).end
  sure_by P items reads (inl h) = inl (ap (λ (a : Answer). a.end) h)
  sure_by P items reads (inr h) = inr h

pub told_done : (v : View) (program : List ℕ) (traces : List (List ℕ)) (says : List ℕ → Said) (p : Option (List ℕ)) (found : List (Option (List ℕ))) (source : List ℕ) (u : Reading) → gets program 1048576 p ≡ Gets source → AllAgree says traces found
    → (ts : List Trace) → HoldTraces (sha256 source) says traces ts → (a : IsAccepted source) → ((s : Sites) → AreNumbered a.tables.structures (items_of a.tables a.unit) s → AreTooMany a.tables a.unit s → ⊥)
    → IsUnderstood (Tell v program traces) source u → OfOthers (Tell v program traces) (p ∷ found) u → IsSure (asked (Some (Tell v program traces)) u (p ∷ found)).end
told_done v program traces says p found source (Refuses said) g agrees ts held a few is are = absurd (not_unlisted source said a few is)
told_done v program traces says p found source (Viewed P items reads) g agrees ts held a few is are = sure_by v program traces says p found source g agrees ts held P items reads (tells_by v program traces says p found source g agrees ts held P items reads are)
told_done v program traces says p found source (Counted n) g agrees ts held a few is are = absurd is
told_done v program traces says p found source (Listed text) g agrees ts held a few is are = absurd is
told_done v program traces says p found source (Runs P) g agrees ts held a few is are = absurd is
told_done v program traces says p found source (Covers P items) g agrees ts held a few is are = absurd is
told_done v program traces says p found source (Probes text) g agrees ts held a few is are = absurd is
told_done v program traces says p found source (Merges reads sum) g agrees ts held a few is are = absurd is
told_done v program traces says p found source (Records P old new) g agrees ts held a few is are = absurd is
told_done v program traces says p found source (Picks P items marks) g agrees ts held a few is are = absurd is
told_done v program traces says p found source (Watches P told) g agrees ts held a few is are = absurd is
told_done v program traces says p found source (Sums P items told) g agrees ts held a few is are = absurd is

pub record IsTold (v : View) (source : List ℕ) (a : IsAccepted source) (ts : List Trace) (piece : List ℕ) : Type 0 where
  pub items : ItemLists
  pub has : HasItems a items
  pub is : piece ≡ view_text v source items ts

told_so : (v : View) (program : List ℕ) (traces : List (List ℕ)) (says : List ℕ → Said) (p : Option (List ℕ)) (found : List (Option (List ℕ))) (source : List ℕ) (u : Reading) → gets program 1048576 p ≡ Gets source → AllAgree says traces found
    → (ts : List Trace) → HoldTraces (sha256 source) says traces ts → (a : IsAccepted source) → IsUnderstood (Tell v program traces) source u → OfOthers (Tell v program traces) (p ∷ found) u
    → (asked (Some (Tell v program traces)) u (p ∷ found)).end ≡ IsDone → IsTold v source a ts (text (asked (Some (Tell v program traces)) u (p ∷ found)))
told_so v program traces says p found source (Refuses said) g agrees ts held a is are done = absurd (not_done _ _ (tell_refused v program traces p found source g said) done (λ e. cc))
told_so v program traces says p found source (Viewed P items reads) g agrees ts held a is are done = by (tells_by v program traces says p found source g agrees ts held P items reads are)
  where
    by : (asked (Some (Tell v program traces)) (Viewed P items reads) (p ∷ found) ≡ told v program traces says p found source g agrees ts held items ts) ⊎ ((asked (Some (Tell v program traces)) (Viewed P items reads) (p ∷ found)).end ≡ BadWords)
        → IsTold v source a ts (text (asked (Some (Tell v program traces)) (Viewed P items reads) (p ∷ found)))
    by (inl h) = record { items = items; has = has_moved source a is.accepted items is.has; is = ap (λ (x : Answer). text x) h }
    by (inr h) = absurd (bad_not_done (asked (Some (Tell v program traces)) (Viewed P items reads) (p ∷ found)) h done)
told_so v program traces says p found source (Counted n) g agrees ts held a is are done = absurd is
told_so v program traces says p found source (Listed text) g agrees ts held a is are done = absurd is
told_so v program traces says p found source (Runs P) g agrees ts held a is are done = absurd is
told_so v program traces says p found source (Covers P items) g agrees ts held a is are done = absurd is
told_so v program traces says p found source (Probes text) g agrees ts held a is are done = absurd is
told_so v program traces says p found source (Merges reads sum) g agrees ts held a is are done = absurd is
told_so v program traces says p found source (Records P old new) g agrees ts held a is are done = absurd is
told_so v program traces says p found source (Picks P items marks) g agrees ts held a is are done = absurd is
told_so v program traces says p found source (Watches P told) g agrees ts held a is are done = absurd is
told_so v program traces says p found source (Sums P items told) g agrees ts held a is are done = absurd is

pub told_text : (v : View) (program : List ℕ) (traces : List (List ℕ)) (says : List ℕ → Said) (found : List (Option (List ℕ))) (u : Reading) → AllAgree says (names (Some (Tell v program traces))) found → Understands (Some (Tell v program traces)) found u
    → (asked (Some (Tell v program traces)) u found).end ≡ IsDone → (p : Passes (says program)) (ts : List Trace) → HoldTraces (sha256 p.held.bytes) says traces ts → IsTold v p.held.bytes p.accepted ts (text (asked (Some (Tell v program traces)) u found))
told_text v program traces says [] u agrees is done p ts held = absurd agrees
told_text v program traces says (f ∷ found) u agrees is done p ts held =
    let g = got program 1048576 _ f p.held agrees.0 in
    told_so v program traces says f found p.held.bytes u g agrees.1 ts held p.accepted (subst (λ x. IsOfGot (Tell v program traces) x u) g is.0) is.1 done

-- ---- a trace that is kept

-- where the answer is done, the trace is kept
keeping_done : (name : List ℕ) (t : Trace) (rest : Trace → List ℕ) → (keeping name (Some t) rest).end ≡ IsDone → keeping name (Some t) rest ≡ kept_answer name (bytes_of t) (rest t)
keeping_done name t rest done = by (leb (length (bytes_of t)) trace_most) refl
  where
    by : (b : Bool) → leb (length (bytes_of t)) trace_most ≡ b → keeping name (Some t) rest ≡ kept_answer name (bytes_of t) (rest t)
    by true is = keeping_small name t rest (leb-true _ _ is)
    by false is =
        let e : keeping name (Some t) rest ≡ refused [] (NoTrace name TooMuch) = ap (λ b. cond b (kept_answer name (bytes_of t) (rest t)) (refused [] (NoTrace name TooMuch))) is in
        absurd (not_done _ _ e done (λ e. cc))

keeping_few : (name : List ℕ) (t : Trace) (rest : Trace → List ℕ) → (keeping name (Some t) rest).end ≡ IsDone → IsFewBytes t
keeping_few name t rest done = by (leb (length (bytes_of t)) trace_most) refl
  where
    by : (b : Bool) → leb (length (bytes_of t)) trace_most ≡ b → IsFewBytes t
    by true is = leb-true _ _ is
    by false is =
        let e : keeping name (Some t) rest ≡ refused [] (NoTrace name TooMuch) = ap (λ b. cond b (kept_answer name (bytes_of t) (rest t)) (refused [] (NoTrace name TooMuch))) is in
        absurd (not_done _ _ e done (λ e. cc))

-- ---- `merge`

same_traces : (a b : List Trace) → map Has a ≡ map Has b → a ≡ b
same_traces [] [] h = refl
same_traces [] (t ∷ b) h = absurd (let e : [] ≡ Has t ∷ map Has b = h in cc)
same_traces (u ∷ a) [] h = absurd (let e : Has u ∷ map Has a ≡ [] = h in cc)
same_traces (u ∷ a) (t ∷ b) h =
    let e : Has u ∷ map Has a ≡ Has t ∷ map Has b = h in
    let head : u ≡ t = cc in
    let tail : map Has a ≡ map Has b = cc in
    ap (λ x. x ∷ a) head ∙ ap (λ x. t ∷ x) (same_traces a b tail)

-- what is wrong with the first one is wrong whatever the program
own_fault : (digest bytes : List ℕ) (t : Trace) (why : TraceFault) (reads : List Read) → IsOwn (Bad why ∷ reads) → Accepts bytes t → IsFaulty digest bytes why → ⊥
own_fault digest bytes t NotATrace reads own h k = not_faulty t.digest bytes t NotATrace (h, refl) k
own_fault digest bytes t Version reads own h k = not_faulty t.digest bytes t Version (h, refl) k
own_fault digest bytes t Length reads own h k = not_faulty t.digest bytes t Length (h, refl) k
own_fault digest bytes t Order reads own h k = not_faulty t.digest bytes t Order (h, refl) k
own_fault digest bytes t Damaged reads own h k = not_faulty t.digest bytes t Damaged (h, refl) k
own_fault digest bytes t OtherProgram reads own h k = own
own_fault digest bytes t TooMuch reads own h k = k

-- the program of traces that are held is that of the first one
merged_program : (digest : List ℕ) (says : List ℕ → Said) (first : List ℕ) (rest : List (List ℕ)) (f : Option (List ℕ)) (found : List (Option (List ℕ))) (reads : List Read) (sum : Option Trace) (ts : List Trace)
    → AllAgree says (first ∷ rest) (f ∷ found) → HoldTraces digest says (first ∷ rest) ts → (m : AreMerged (first ∷ rest) (f ∷ found) reads sum) → (reads ≡ []) ⊎ (m.program ≡ digest)
merged_program digest says first rest f found [] sum ts agrees held m = inl refl
merged_program digest says first rest f found (r ∷ reads) sum [] agrees held m = absurd held
merged_program digest says first rest f found (Bad why ∷ reads) sum (t ∷ ts) agrees held m =
    let g = got first trace_most (says first) f (record { bytes = held.0.0; is = held.0.1; short = held.0.2 }) agrees.0 in
    absurd (own_fault m.program held.0.0 t why reads m.first held.0.3.0 (subst (λ x. IsReadIn m.program x (Bad why)) g m.are.0))
merged_program digest says first rest f found (Has u ∷ reads) sum (t ∷ ts) agrees held m =
    let g = got first trace_most (says first) f (record { bytes = held.0.0; is = held.0.1; short = held.0.2 }) agrees.0 in
    let is = subst (λ x. IsReadIn m.program x (Has u)) g m.are.0 in
    inr (sym is.1 ∙ (ap (λ (x : Trace). x.digest) (accepts_one held.0.0 u t is.0 held.0.3.0) ∙ held.0.3.1))

module _ (out first : List ℕ) (rest : List (List ℕ)) (says : List ℕ → Said) (f : Option (List ℕ)) (found : List (Option (List ℕ))) (reads : List Read) (sum : Option Trace) (agrees : AllAgree says (first ∷ rest) (f ∷ found))
    (digest : List ℕ) (ts : List Trace) (held : HoldTraces digest says (first ∷ rest) ts) (m : AreMerged (first ∷ rest) (f ∷ found) reads sum) where
  abbrev merged : Answer
  merged = asked (Some (Merge out (first ∷ rest))) (Merges reads sum) (f ∷ found)

  by_reads : (reads ≡ []) ⊎ (m.program ≡ digest) → ((merged ≡ keeping out sum runs_text) × (m.program ≡ digest) × (reads ≡ map Has ts)) ⊎ (merged.end ≡ BadWords)
  by_reads (inl none) =
      let g = got first trace_most (says first) f (record { bytes = (held_first ts held).0; is = (held_first ts held).1.0; short = (held_first ts held).1.1 }) agrees.0 in
      inr (ap (λ r. (joining (first ∷ rest) (f ∷ found) r [] (λ all. keeping out sum runs_text)).end) none ∙ ap (λ x. (given [] x (λ bytes. next_read first [] (λ u left. joining rest found left (u ∷ []) (λ all. keeping out sum runs_text)))).end) g)
    where
      held_first : (ts : List Trace) → HoldTraces digest says (first ∷ rest) ts → (bytes : List ℕ) × ((says first ≡ Some (Some bytes)) × (length bytes ≤ trace_most))
      held_first [] h = absurd h
      held_first (t ∷ ts) h = (h.0.0, (h.0.1, h.0.2))
  by_reads (inr same) = by (joined_by digest says (first ∷ rest) (f ∷ found) reads ts [] (λ all. keeping out sum runs_text) agrees held (subst (λ d. AreRead d (first ∷ rest) (f ∷ found) reads) same m.are))
    where
      by : ((merged ≡ keeping out sum runs_text) × (reads ≡ map Has ts)) ⊎ (merged.end ≡ BadWords) → ((merged ≡ keeping out sum runs_text) × (m.program ≡ digest) × (reads ≡ map Has ts)) ⊎ (merged.end ≡ BadWords)
      by (inl h) = inl (h.0, same, h.1)
      by (inr h) = inr h

  merged_by : ((merged ≡ keeping out sum runs_text) × (m.program ≡ digest) × (reads ≡ map Has ts)) ⊎ (merged.end ≡ BadWords)
  merged_by = by_reads (merged_program digest says first rest f found reads sum ts agrees held m)

-- the sum is that of the traces
sum_is : (names : List (List ℕ)) (found : List (Option (List ℕ))) (reads : List Read) (s : Trace) (m : AreMerged names found reads (Some s)) (digest : List ℕ) (ts : List Trace) → m.program ≡ digest → reads ≡ map Has ts → IsSum digest ts s
sum_is names found reads s m digest ts same are =
    subst (λ d. IsSum d ts s) same (subst (λ l. IsSum m.program l s) (same_traces m.sums.0 ts (sym m.sums.1 ∙ are)) m.sums.2)

pub record IsMergedSo (name : List ℕ) (digest : List ℕ) (ts : List Trace) (a : Answer) : Type 0 where
  pub sum : Trace
  pub is : IsSum digest ts sum
  pub few : IsFewBytes sum
  pub answer : a ≡ kept_answer name (bytes_of sum) (runs_text sum)

merged_sure : (out first : List ℕ) (rest : List (List ℕ)) (f : Option (List ℕ)) (found : List (Option (List ℕ))) (reads : List Read) (sum : Option Trace) (m : AreMerged (first ∷ rest) (f ∷ found) reads sum) (digest : List ℕ) (ts : List Trace) → ((s : Trace) → IsSum digest ts s → IsFewBytes s) → (a : Answer)
    → ((a ≡ keeping out sum runs_text) × (m.program ≡ digest) × (reads ≡ map Has ts)) ⊎ (a.end ≡ BadWords) → IsSure a.end
merged_sure out first rest f found reads sum m digest ts few a (inr h) = inr h
merged_sure out first rest f found reads None m digest ts few a (inl h) = inr (ap (λ (x : Answer). x.end) h.0)
merged_sure out first rest f found reads (Some s) m digest ts few a (inl h) =
    inl (ap (λ (x : Answer). x.end) (h.0 ∙ keeping_small out s runs_text (few s (sum_is (first ∷ rest) (f ∷ found) reads s m digest ts h.1 h.2))))

merged_so : (out first : List ℕ) (rest : List (List ℕ)) (f : Option (List ℕ)) (found : List (Option (List ℕ))) (reads : List Read) (sum : Option Trace) (m : AreMerged (first ∷ rest) (f ∷ found) reads sum) (digest : List ℕ) (ts : List Trace) (a : Answer)
    → a.end ≡ IsDone → ((a ≡ keeping out sum runs_text) × (m.program ≡ digest) × (reads ≡ map Has ts)) ⊎ (a.end ≡ BadWords) → IsMergedSo out digest ts a
merged_so out first rest f found reads sum m digest ts a done (inr h) = absurd (bad_not_done a h done)
merged_so out first rest f found reads None m digest ts a done (inl h) = absurd (bad_not_done a (ap (λ (x : Answer). x.end) h.0) done)
merged_so out first rest f found reads (Some s) m digest ts a done (inl h) =
    let ends = sym (ap (λ (x : Answer). x.end) h.0) ∙ done in
    record {
      sum = s;
      is = sum_is (first ∷ rest) (f ∷ found) reads s m digest ts h.1 h.2;
      few = keeping_few out s runs_text ends;
      answer = h.0 ∙ keeping_done out s runs_text ends;
    }

pub merged_done : (out first : List ℕ) (rest : List (List ℕ)) (says : List ℕ → Said) (found : List (Option (List ℕ))) (u : Reading) → AllAgree says (first ∷ rest) found → (digest : List ℕ) (ts : List Trace) → HoldTraces digest says (first ∷ rest) ts → ((s : Trace) → IsSum digest ts s → IsFewBytes s)
    → Understands (Some (Merge out (first ∷ rest))) found u → IsSure (asked (Some (Merge out (first ∷ rest))) u found).end
merged_done out first rest says [] u agrees digest ts held few is = absurd agrees
merged_done out first rest says (f ∷ found) (Merges reads sum) agrees digest ts held few is =
    merged_sure out first rest f found reads sum is digest ts few _ (merged_by out first rest says f found reads sum agrees digest ts held is)
merged_done out first rest says (f ∷ found) (Refuses said) agrees digest ts held few is = absurd is
merged_done out first rest says (f ∷ found) (Counted n) agrees digest ts held few is = absurd is
merged_done out first rest says (f ∷ found) (Listed text) agrees digest ts held few is = absurd is
merged_done out first rest says (f ∷ found) (Runs P) agrees digest ts held few is = absurd is
merged_done out first rest says (f ∷ found) (Covers P items) agrees digest ts held few is = absurd is
merged_done out first rest says (f ∷ found) (Probes text) agrees digest ts held few is = absurd is
merged_done out first rest says (f ∷ found) (Viewed P items reads) agrees digest ts held few is = absurd is
merged_done out first rest says (f ∷ found) (Records P old new) agrees digest ts held few is = absurd is
merged_done out first rest says (f ∷ found) (Picks P items marks) agrees digest ts held few is = absurd is
merged_done out first rest says (f ∷ found) (Watches P told) agrees digest ts held few is = absurd is
merged_done out first rest says (f ∷ found) (Sums P items told) agrees digest ts held few is = absurd is

pub merged_answer : (out first : List ℕ) (rest : List (List ℕ)) (says : List ℕ → Said) (found : List (Option (List ℕ))) (u : Reading) → AllAgree says (first ∷ rest) found → Understands (Some (Merge out (first ∷ rest))) found u → (asked (Some (Merge out (first ∷ rest))) u found).end ≡ IsDone
    → (digest : List ℕ) (ts : List Trace) → HoldTraces digest says (first ∷ rest) ts → IsMergedSo out digest ts (asked (Some (Merge out (first ∷ rest))) u found)
merged_answer out first rest says [] u agrees is done digest ts held = absurd agrees
merged_answer out first rest says (f ∷ found) (Merges reads sum) agrees is done digest ts held =
    merged_so out first rest f found reads sum is digest ts _ done (merged_by out first rest says f found reads sum agrees digest ts held is)
merged_answer out first rest says (f ∷ found) (Refuses said) agrees is done digest ts held = absurd is
merged_answer out first rest says (f ∷ found) (Counted n) agrees is done digest ts held = absurd is
merged_answer out first rest says (f ∷ found) (Listed text) agrees is done digest ts held = absurd is
merged_answer out first rest says (f ∷ found) (Runs P) agrees is done digest ts held = absurd is
merged_answer out first rest says (f ∷ found) (Covers P items) agrees is done digest ts held = absurd is
merged_answer out first rest says (f ∷ found) (Probes text) agrees is done digest ts held = absurd is
merged_answer out first rest says (f ∷ found) (Viewed P items reads) agrees is done digest ts held = absurd is
merged_answer out first rest says (f ∷ found) (Records P old new) agrees is done digest ts held = absurd is
merged_answer out first rest says (f ∷ found) (Picks P items marks) agrees is done digest ts held = absurd is
merged_answer out first rest says (f ∷ found) (Watches P told) agrees is done digest ts held = absurd is
merged_answer out first rest says (f ∷ found) (Sums P items told) agrees is done digest ts held = absurd is

-- ---- `run` into a trace

same_digest : (P Q : Source) (a b : List ℕ) → Q ≡ P → digest_in P.unit.line ≡ Some a → digest_in Q.unit.line ≡ Some b → b ≡ a
same_digest P Q a b same is_a is_b = let e : Some b ≡ Some a = sym is_b ∙ (ap (λ (x : Source). digest_in x.unit.line) same ∙ is_a) in cc

-- a program that is read is one with a program line
recorded_of : (n : ℕ) (program input trace source : List ℕ) (P : Source) (digest said : List ℕ) → IsProbed source P → digest_in P.unit.line ≡ Some digest → IsUnderstood (RunInto n program input trace) source (Refuses said) → ⊥
recorded_of n program input trace source P digest said read line (not_read r) = not_unread source said P read r
recorded_of n program input trace source P digest said read line (not_probed Q is none said_is) =
    let e : None ≡ Some digest = sym none ∙ (ap (λ (x : Source). digest_in x.unit.line) (one_probed source P Q read is) ∙ line) in
    cc

module _ (n : ℕ) (program input trace : List ℕ) (says : List ℕ → Said) (p i t : Option (List ℕ)) (source bytes : List ℕ) (g : gets program 67108864 p ≡ Gets source) (h : gets input input_most i ≡ Gets bytes) (agrees : Agrees (says trace) t)
    (P : Source) (read : IsProbed source P) (digest : List ℕ) (line : digest_in P.unit.line ≡ Some digest) (old : Trace) (holds : HoldsOld digest (says trace) old)
    (Q : Source) (found : Option Read) (new : Option Trace) (is : IsRecorded source Q) (into : IsRunInto n Q (gets input input_most i) (gets trace trace_most t) found new) where
  abbrev ran : Answer
  ran = asked (Some (RunInto n program input trace)) (Records Q found new) (p ∷ i ∷ t ∷ [])

  same : Q ≡ P
  same = one_probed source P Q read is.read

  digests : into.digest ≡ digest
  digests = same_digest P Q digest into.digest same line into.line

  abbrev kept : Answer
  kept = keeping trace new (λ x. section input Q bytes n)

  -- the old trace is the one that is held, or the answer is one that no call gives
  by_old : HoldsOld digest (says trace) old → (found : Option Read) → OldIs into.digest (gets trace trace_most t) found into.old → ((old_given trace (gets trace trace_most t) found kept ≡ kept) × (into.old ≡ old)) ⊎ ((old_given trace (gets trace trace_most t) found kept).end ≡ BadWords)
  by_old (inl none) found o =
      let e : t ≡ None = subst (λ (s : Said). Agrees s t) none.0 agrees in
      let gone : gets trace trace_most t ≡ Stops (NotHeld trace) = ap (gets trace trace_most) e in
      inl (
        ap (λ x. old_given trace x found kept) gone,
        subst (λ x. OldIs into.digest x found into.old) gone o ∙ (ap (λ d. record { digest = d; runs = 0; old_runs = 0; tally = [] }) digests ∙ sym none.1),
      )
  by_old (inr some) found o =
      let got_it : gets trace trace_most t ≡ Gets some.0 = got trace trace_most (says trace) t (record { bytes = some.0; is = some.1; short = some.2 }) agrees in
      by found (subst (λ x. OldIs into.digest x found into.old) got_it o) (ap (λ x. old_given trace x found kept) got_it)
    where
      by : (found : Option Read) → OldIs into.digest (Gets some.0) found into.old → old_given trace (gets trace trace_most t) found kept ≡ old_read trace found kept
          → ((old_given trace (gets trace trace_most t) found kept ≡ kept) × (into.old ≡ old)) ⊎ ((old_given trace (gets trace trace_most t) found kept).end ≡ BadWords)
      by None o e = inr (ap (λ (a : Answer). a.end) e)
      by (Some (Bad why)) o e = absurd (not_faulty into.digest some.0 old why (some.3.0, some.3.1 ∙ sym digests) o)
      by (Some (Has u)) o e = inl (e, o.1 ∙ accepts_one some.0 u old o.0.0 some.3.0)

  goes_on : ran ≡ old_given trace (gets trace trace_most t) found kept
  goes_on = into_goes n program input trace p i t source g Q found new bytes h

  ran_by : ((ran ≡ kept) × (into.old ≡ old)) ⊎ (ran.end ≡ BadWords)
  ran_by = by (by_old holds found into.is)
    where
      by : ((old_given trace (gets trace trace_most t) found kept ≡ kept) × (into.old ≡ old)) ⊎ ((old_given trace (gets trace trace_most t) found kept).end ≡ BadWords) → ((ran ≡ kept) × (into.old ≡ old)) ⊎ (ran.end ≡ BadWords)
      by (inl k) = inl (goes_on ∙ k.0, k.1)
      by (inr k) = inr (ap (λ (a : Answer). a.end) goes_on ∙ k)

same_gets : (a b : List ℕ) → Gets a ≡ Gets b → a ≡ b
same_gets a b h = let e : Gets a ≡ Gets b = h in cc

-- the new trace has one run more than the old one
run_more : (n : ℕ) (input : List ℕ) (i : Option (List ℕ)) (t : Got) (bytes : List ℕ) (P Q : Source) (found : Option Read) (old new : Trace) → Q ≡ P → gets input input_most i ≡ Gets bytes → (into : IsRunInto n Q (gets input input_most i) t found (Some new)) → into.old ≡ old
    → IsRunMore old new (met_by P n bytes)
run_more n input i t bytes P Q found old new same h into is =
    let b : into.more.0 ≡ bytes = same_gets into.more.0 bytes (sym into.more.1 ∙ h) in
    subst (λ (x : Source). IsRunMore old new (met_by x n bytes)) same (subst (λ x. IsRunMore old new (met_by Q n x)) b (subst (λ (x : Trace). IsRunMore x new (met_by Q n into.more.0)) is into.more.2))

pub record IsRanSo (n : ℕ) (input trace : List ℕ) (P : Source) (bytes : List ℕ) (old : Trace) (a : Answer) : Type 0 where
  pub new : Trace
  pub is : IsRunMore old new (met_by P n bytes)
  pub few : IsFewBytes new
  pub answer : a ≡ kept_answer trace (bytes_of new) (section input P bytes n)

ran_sure : (n : ℕ) (input trace : List ℕ) (i : Option (List ℕ)) (t : Got) (bytes : List ℕ) (P Q : Source) (found : Option Read) (old : Trace) (new : Option Trace) → Q ≡ P → gets input input_most i ≡ Gets bytes → (into : IsRunInto n Q (gets input input_most i) t found new)
    → ((m : Trace) → IsRunMore old m (met_by P n bytes) → IsFewBytes m) → (a : Answer) → ((a ≡ keeping trace new (λ x. section input Q bytes n)) × (into.old ≡ old)) ⊎ (a.end ≡ BadWords) → IsSure a.end
ran_sure n input trace i t bytes P Q found old new same h into few a (inr k) = inr k
ran_sure n input trace i t bytes P Q found old None same h into few a (inl k) = inr (ap (λ (x : Answer). x.end) k.0)
ran_sure n input trace i t bytes P Q found old (Some m) same h into few a (inl k) =
    inl (ap (λ (x : Answer). x.end) (k.0 ∙ keeping_small trace m (λ x. section input Q bytes n) (few m (run_more n input i t bytes P Q found old m same h into k.1))))

ran_so : (n : ℕ) (input trace : List ℕ) (i : Option (List ℕ)) (t : Got) (bytes : List ℕ) (P Q : Source) (found : Option Read) (old : Trace) (new : Option Trace) → Q ≡ P → gets input input_most i ≡ Gets bytes → (into : IsRunInto n Q (gets input input_most i) t found new)
    → (a : Answer) → a.end ≡ IsDone → ((a ≡ keeping trace new (λ x. section input Q bytes n)) × (into.old ≡ old)) ⊎ (a.end ≡ BadWords) → IsRanSo n input trace P bytes old a
ran_so n input trace i t bytes P Q found old new same h into a done (inr k) = absurd (bad_not_done a k done)
ran_so n input trace i t bytes P Q found old None same h into a done (inl k) = absurd (bad_not_done a (ap (λ (x : Answer). x.end) k.0) done)
ran_so n input trace i t bytes P Q found old (Some m) same h into a done (inl k) =
    record {
      new = m;
      is = run_more n input i t bytes P Q found old m same h into k.1;
      few = keeping_few trace m (λ x. section input Q bytes n) (sym (ap (λ (x : Answer). x.end) k.0) ∙ done);
      answer =
          k.0 ∙ keeping_done trace m (λ x. section input Q bytes n) (sym (ap (λ (x : Answer). x.end) k.0) ∙ done)
          ∙ ap (λ (x : Source). kept_answer trace (bytes_of m) (section input x bytes n)) same;
    }

pub into_done : (n : ℕ) (program input trace : List ℕ) (says : List ℕ → Said) (p i t : Option (List ℕ)) (source bytes : List ℕ) (u : Reading) → gets program 67108864 p ≡ Gets source → gets input input_most i ≡ Gets bytes → Agrees (says trace) t
    → (P : Source) → IsProbed source P → (digest : List ℕ) → digest_in P.unit.line ≡ Some digest → (old : Trace) → HoldsOld digest (says trace) old → ((m : Trace) → IsRunMore old m (met_by P n bytes) → IsFewBytes m)
    → IsUnderstood (RunInto n program input trace) source u → OfOthers (RunInto n program input trace) (p ∷ i ∷ t ∷ []) u → IsSure (asked (Some (RunInto n program input trace)) u (p ∷ i ∷ t ∷ [])).end
into_done n program input trace says p i t source bytes (Refuses said) g h agrees P read digest line old holds few is into = absurd (recorded_of n program input trace source P digest said read line is)
into_done n program input trace says p i t source bytes (Records Q found new) g h agrees P read digest line old holds few is into =
    ran_sure n input trace i _ bytes P Q found old new (one_probed source P Q read is.read) h into few _ (ran_by n program input trace says p i t source bytes g h agrees P read digest line old holds Q found new is into)
into_done n program input trace says p i t source bytes (Counted m) g h agrees P read digest line old holds few is into = absurd is
into_done n program input trace says p i t source bytes (Listed text) g h agrees P read digest line old holds few is into = absurd is
into_done n program input trace says p i t source bytes (Runs R) g h agrees P read digest line old holds few is into = absurd is
into_done n program input trace says p i t source bytes (Covers R items) g h agrees P read digest line old holds few is into = absurd is
into_done n program input trace says p i t source bytes (Probes text) g h agrees P read digest line old holds few is into = absurd is
into_done n program input trace says p i t source bytes (Viewed R items reads) g h agrees P read digest line old holds few is into = absurd is
into_done n program input trace says p i t source bytes (Merges reads sum) g h agrees P read digest line old holds few is into = absurd is
into_done n program input trace says p i t source bytes (Picks R items marks) g h agrees P read digest line old holds few is into = absurd is
into_done n program input trace says p i t source bytes (Watches R told) g h agrees P read digest line old holds few is into = absurd is
into_done n program input trace says p i t source bytes (Sums R items told) g h agrees P read digest line old holds few is into = absurd is

into_so : (n : ℕ) (program input trace : List ℕ) (says : List ℕ → Said) (p i t : Option (List ℕ)) (source bytes : List ℕ) (u : Reading) → gets program 67108864 p ≡ Gets source → gets input input_most i ≡ Gets bytes → Agrees (says trace) t
    → (P : Source) → IsProbed source P → (digest : List ℕ) → digest_in P.unit.line ≡ Some digest → (old : Trace) → HoldsOld digest (says trace) old
    → IsUnderstood (RunInto n program input trace) source u → OfOthers (RunInto n program input trace) (p ∷ i ∷ t ∷ []) u → (asked (Some (RunInto n program input trace)) u (p ∷ i ∷ t ∷ [])).end ≡ IsDone
    → IsRanSo n input trace P bytes old (asked (Some (RunInto n program input trace)) u (p ∷ i ∷ t ∷ []))
into_so n program input trace says p i t source bytes (Refuses said) g h agrees P read digest line old holds is into done = absurd (recorded_of n program input trace source P digest said read line is)
into_so n program input trace says p i t source bytes (Records Q found new) g h agrees P read digest line old holds is into done =
    ran_so n input trace i _ bytes P Q found old new (one_probed source P Q read is.read) h into _ done (ran_by n program input trace says p i t source bytes g h agrees P read digest line old holds Q found new is into)
into_so n program input trace says p i t source bytes (Counted m) g h agrees P read digest line old holds is into done = absurd is
into_so n program input trace says p i t source bytes (Listed text) g h agrees P read digest line old holds is into done = absurd is
into_so n program input trace says p i t source bytes (Runs R) g h agrees P read digest line old holds is into done = absurd is
into_so n program input trace says p i t source bytes (Covers R items) g h agrees P read digest line old holds is into done = absurd is
into_so n program input trace says p i t source bytes (Probes text) g h agrees P read digest line old holds is into done = absurd is
into_so n program input trace says p i t source bytes (Viewed R items reads) g h agrees P read digest line old holds is into done = absurd is
into_so n program input trace says p i t source bytes (Merges reads sum) g h agrees P read digest line old holds is into done = absurd is
into_so n program input trace says p i t source bytes (Picks R items marks) g h agrees P read digest line old holds is into done = absurd is
into_so n program input trace says p i t source bytes (Watches R told) g h agrees P read digest line old holds is into done = absurd is
into_so n program input trace says p i t source bytes (Sums R items told) g h agrees P read digest line old holds is into done = absurd is

pub into_answer : (n : ℕ) (program input trace : List ℕ) (says : List ℕ → Said) (found : List (Option (List ℕ))) (u : Reading) → AllAgree says (names (Some (RunInto n program input trace))) found → Understands (Some (RunInto n program input trace)) found u
    → (asked (Some (RunInto n program input trace)) u found).end ≡ IsDone → (p : IsRunnable (says program)) (i : IsHeld (says input) input_most) (digest : List ℕ) → digest_in p.program.unit.line ≡ Some digest → (old : Trace) → HoldsOld digest (says trace) old
    → IsRanSo n input trace p.program i.bytes old (asked (Some (RunInto n program input trace)) u found)
into_answer n program input trace says (f ∷ e ∷ t ∷ []) u agrees is done p i digest line old holds =
    let g = got program 67108864 _ f p.held agrees.0 in
    into_so n program input trace says f e t _ _ u g (got input input_most _ e i agrees.1.0) agrees.1.1.0 p.program p.read digest line old holds (subst (λ x. IsOfGot (RunInto n program input trace) x u) g is.0) is.1 done
into_answer n program input trace says [] u agrees is done p i digest line old holds = absurd agrees
into_answer n program input trace says (f ∷ []) u agrees is done p i digest line old holds = absurd agrees.1
into_answer n program input trace says (f ∷ e ∷ []) u agrees is done p i digest line old holds = absurd agrees.1.1
into_answer n program input trace says (f ∷ e ∷ t ∷ j ∷ rest) u agrees is done p i digest line old holds = absurd agrees.1.1.1
