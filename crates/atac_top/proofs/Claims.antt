-- What follows from a whole run.
use Rattle.std.proofs.Common.{◌≡◌, ◌⊎◌, inl, inr, refl, ap, sym, ◌∙◌, subst, List, [], ◌∷◌, ◌++◌, ℕ, Option, None, Some, append_assoc, append-nil}
use Rattle.std.specs.Io.KnownBytes.{append_known}
use Rattle.atac_base.specs.Outside.{ShelfState, SinkState, Said}
use Rattle.c_walk.specs.Units.{items_of}
use Rattle.c_sites.specs.declared.numbered.Sites.{Sites}
use Rattle.c_sites.specs.Refused.{AreNumbered}
use Rattle.pair_list.specs.Items.{AreTooMany}
use Rattle.atac_base.specs.Items.{ItemLists}
use Rattle.c_meaning.specs.Calls.{Source}
use Rattle.atac_words.specs.Words.{Command, Check, ListItems, Instrument, Cover, Run, RunInto, Merge, Tell, Pick, Watch, SelfCover}
use Rattle.atac_steps.specs.Ends.{End, IsDone, BadWords, NotAccepted, NotHeld, TooLong, NoTrace, ReadFailed, WriteFailed, KeepFailed, NotWatched, OutOfMemory, status_of}
use Rattle.atac_programs.specs.Programs.{IsAccepted, HasItems, IsProbed, IsListing, program_in, Counts, counts_of, counts_text, section, report, events, all_events}
use Rattle.atac_commands.specs.Readings.{Reading, Refuses, Counted, Listed, Runs, Covers, Probes, Viewed, Merges, Records, Picks, Watches, Sums, IsUnderstood, counter_name, summary}
use Rattle.atac_commands.specs.Answers.{Answer, asked, names, joined, text, refused, given, covering, input_most}
use Rattle.atac_steps.specs.Got.{gets, Gets, AllAgree}
use Rattle.atac_commands.specs.Runs.{Handed, IsOfGot, Understands, UnderstandsWith, Breaks, AnswersBy, Keeps, GoesBy, GoesWith}
use Rattle.atac_commands.specs.Runs as whole
use Rattle.atac_commands.specs.Claims.{IsHeld, AreHeld, Passes, IsRunnable, Supposes, IsWatched, sections, Shows, NoFault}
use Rattle.atac_steps.specs.declared.status.Status.{Status}
use Rattle.atac_steps.specs.declared.status.Status.TheVariants.{Done, Usage, NoMemory}
use Rattle.atac_programs.proofs.Same.{same_counts, same_source, not_rejected, not_unlisted, not_unread, one_probed, has_moved}
use Rattle.atac_commands.proofs.Sure.{IsSure, got}
use Rattle.atac_self.specs.Generation.{program_text, input_bytes}
use Rattle.atac_commands.proofs.Picked.{IsPickedSo, picked_done, picked_so}
use Rattle.atac_commands.proofs.Watched.{watched_done, watched_so, summed_done, summed_so}
use Rattle.atac_top.proofs.Traced.{written_done, written_answer, told_done, told_text, merged_done, merged_answer, into_done, into_answer, kept_so}
use Rattle.atac_commands.proofs.Asked.{cover_goes, cover_refused, run_done, run_text, check_done, list_done, list_refused}

module _ (U : List (Option (List ℕ)) → Reading → Type 0) (c : Option Command) (shelf shelf' : ShelfState) (out out' : SinkState) (found : List (Option (List ℕ))) (put : List ℕ) (fine : NoFault shelf shelf' out out') where
  -- where the call breaks off at its program, memory was wanted, or a count rose
  breaks_done : (end : End) → Breaks shelf shelf' (names c) end put → (status_of end ≡ Done) ⊎ (status_of end ≡ NoMemory)
  breaks_done OutOfMemory h = inr refl
  breaks_done (ReadFailed file) h = absurd (fine.read h.0)
  breaks_done IsDone h = absurd h
  breaks_done WriteFailed h = absurd h
  breaks_done BadWords h = absurd h
  breaks_done (NotAccepted file said) h = absurd h
  breaks_done (NotHeld file) h = absurd h
  breaks_done (TooLong file) h = absurd h
  breaks_done (NoTrace file why) h = absurd h
  breaks_done (KeepFailed file) h = absurd h
  breaks_done (NotWatched file) h = absurd h

  done_not : (e f : End) → e ≡ f → IsSure f → (IsSure e)
  done_not e f same (inl d) = inl (same ∙ d)
  done_not e f same (inr d) = inr (same ∙ d)

  -- where the answer is that it is done, the call is done, or memory was wanted, or a count rose
  answers_done : (end : End) → (status_of end ≡ Usage → ⊥) → (h : AnswersBy U c shelf shelf' out out' found end put) → IsSure (asked c h.understood found).end → (status_of end ≡ Done) ⊎ (status_of end ≡ NoMemory)
  answers_done IsDone usage h is = inl refl
  answers_done OutOfMemory usage h is = inr refl
  answers_done (ReadFailed file) usage h is = absurd (fine.read h.comes.0)
  answers_done WriteFailed usage h is = absurd (fine.put h.comes.0)
  answers_done (KeepFailed file) usage h is = absurd (fine.keep h.comes.0)
  answers_done BadWords usage h is = absurd (usage refl)
  answers_done (NotAccepted file said) usage h is = other (done_not _ _ h.comes.0 is)
    where
      other : IsSure (NotAccepted file said) → (status_of (NotAccepted file said) ≡ Done) ⊎ (status_of (NotAccepted file said) ≡ NoMemory)
      other (inl e) = absurd (cc)
      other (inr e) = absurd (cc)
  answers_done (NotWatched file) usage h is = other (done_not _ _ h.comes.0 is)
    where
      other : IsSure (NotWatched file) → (status_of (NotWatched file) ≡ Done) ⊎ (status_of (NotWatched file) ≡ NoMemory)
      other (inl e) = absurd (cc)
      other (inr e) = absurd (cc)
  answers_done (NotHeld file) usage h is = other (done_not _ _ h.comes.0 is)
    where
      other : IsSure (NotHeld file) → (status_of (NotHeld file) ≡ Done) ⊎ (status_of (NotHeld file) ≡ NoMemory)
      other (inl e) = absurd (cc)
      other (inr e) = absurd (cc)
  answers_done (TooLong file) usage h is = other (done_not _ _ h.comes.0 is)
    where
      other : IsSure (TooLong file) → (status_of (TooLong file) ≡ Done) ⊎ (status_of (TooLong file) ≡ NoMemory)
      other (inl e) = absurd (cc)
      other (inr e) = absurd (cc)
  answers_done (NoTrace file why) usage h is = other (done_not _ _ h.comes.0 is)
    where
      other : IsSure (NoTrace file why) → (status_of (NoTrace file why) ≡ Done) ⊎ (status_of (NoTrace file why) ≡ NoMemory)
      other (inl e) = absurd (cc)
      other (inr e) = absurd (cc)

  goes_done : (end : End) → (status_of end ≡ Usage → ⊥) → Breaks shelf shelf' (names c) end put ⊎ AnswersBy U c shelf shelf' out out' found end put → ((h : AnswersBy U c shelf shelf' out out' found end put) → IsSure (asked c h.understood found).end) → (status_of end ≡ Done) ⊎ (status_of end ≡ NoMemory)
  goes_done end usage (inl h) is = breaks_done end h
  goes_done end usage (inr h) is = answers_done end usage h (is h)

-- the answer that tells these counts
abbrev told : Counts → Answer
told n = record { end = IsDone; sections = []; rest = counts_text n; kept = None }

-- it is checked
checked_done : (program : List ℕ) (p : Option (List ℕ)) (source : List ℕ) (u : Reading) → gets program 1048576 p ≡ Gets source → (a : IsAccepted source) → IsUnderstood (Check program) source u
    → asked (Some (Check program)) u (p ∷ []) ≡ record { end = IsDone; sections = []; rest = counts_text (counts_of a.tables a.unit); kept = None }
checked_done program p source (Refuses said) g a is = absurd (not_rejected source said a is)
checked_done program p source (Counted n) g a is = check_done program p source g n ∙ ap told (is.counts ∙ same_counts source a is.accepted)
checked_done program p source (Listed text) g a is = absurd is
checked_done program p source (Runs P) g a is = absurd is
checked_done program p source (Covers P items) g a is = absurd is
checked_done program p source (Probes text) g a is = absurd is
checked_done program p source (Viewed P items reads) g a is = absurd is
checked_done program p source (Merges reads sum) g a is = absurd is
checked_done program p source (Records P old new) g a is = absurd is
checked_done program p source (Picks P items marks) g a is = absurd is
checked_done program p source (Watches P told) g a is = absurd is
checked_done program p source (Sums P items told) g a is = absurd is

-- it is listed
listed_done : (program : List ℕ) (p : Option (List ℕ)) (source : List ℕ) (u : Reading) → gets program 1048576 p ≡ Gets source → (a : IsAccepted source) → ((s : Sites) → AreNumbered a.tables.structures (items_of a.tables a.unit) s → AreTooMany a.tables a.unit s → ⊥)
    → IsUnderstood (ListItems program) source u → (asked (Some (ListItems program)) u (p ∷ [])).end ≡ IsDone
listed_done program p source (Refuses said) g a few is = absurd (not_unlisted source said a few is)
listed_done program p source (Listed text) g a few is = ap (λ (x : Answer). x.end) (list_done program p source g text)
listed_done program p source (Counted m) g a few is = absurd is
listed_done program p source (Runs R) g a few is = absurd is
listed_done program p source (Covers R items) g a few is = absurd is
listed_done program p source (Probes text) g a few is = absurd is
listed_done program p source (Viewed R items reads) g a few is = absurd is
listed_done program p source (Merges reads sum) g a few is = absurd is
listed_done program p source (Records R old new) g a few is = absurd is
listed_done program p source (Picks R items marks) g a few is = absurd is
listed_done program p source (Watches R told) g a few is = absurd is
listed_done program p source (Sums R items told) g a few is = absurd is

-- the answer that puts these sections, and the report of what the runs on these inputs show
abbrev covered_answer : Source → ItemLists → ℕ → List (List ℕ) → List (List ℕ) → Answer
covered_answer P items n done all = record { end = IsDone; sections = done; rest = report P items n all; kept = None }

covering_end : (P : Source) (items : ItemLists) (n : ℕ) (x y a b : List (List ℕ)) → x ≡ y → a ≡ b → covered_answer P items n x a ≡ covered_answer P items n y b
covering_end P items n x y a b e f = ap (λ z. covered_answer P items n z a) e ∙ ap (λ z. covered_answer P items n y z) f

-- where each input is held, its section is put, and the report is of all of them
covering_done : (P : Source) (items : ItemLists) (n : ℕ) (says : List ℕ → Said) (inputs : List (List ℕ)) (found : List (Option (List ℕ))) (all done so_far : List (List ℕ)) → AllAgree says inputs found → AreHeld says inputs all
    → covering P items n inputs found done so_far ≡ record { end = IsDone; sections = done ++ sections P n inputs all; rest = report P items n (so_far ++ all); kept = None }
covering_done P items n says [] [] [] done so_far agrees held = covering_end P items n done (done ++ []) so_far (so_far ++ []) (sym (append-nil done)) (sym (append-nil so_far))
covering_done P items n says [] [] (b ∷ all) done so_far agrees held = absurd held
covering_done P items n says [] (f ∷ found) all done so_far agrees held = absurd agrees
covering_done P items n says (i ∷ inputs) [] all done so_far agrees held = absurd agrees
covering_done P items n says (i ∷ inputs) (f ∷ found) [] done so_far agrees held = absurd held
covering_done P items n says (i ∷ inputs) (f ∷ found) (b ∷ all) done so_far agrees held =
    let g = got i input_most (says i) f (record { bytes = b; is = held.0; short = held.1.0 }) agrees.0 in
    ap (λ x. given done x (λ bytes. covering P items n inputs found (done ++ section i P bytes n ∷ []) (so_far ++ bytes ∷ []))) g
    ∙ covering_done P items n says inputs found all (done ++ section i P b n ∷ []) (so_far ++ b ∷ []) agrees.1 held.1.1
    ∙ ap (λ z. covered_answer P items n z ((so_far ++ b ∷ []) ++ all)) (append_assoc done (section i P b n ∷ []) (sections P n inputs all))
    ∙ ap (λ z. covered_answer P items n (done ++ sections P n (i ∷ inputs) (b ∷ all)) z) (append_assoc so_far (b ∷ []) all)

-- it is covered
record IsShown (n : ℕ) (program : List ℕ) (inputs : List (List ℕ)) (p : Option (List ℕ)) (found : List (Option (List ℕ))) (source : List ℕ) (u : Reading) (a : IsAccepted source) (all : List (List ℕ)) : Type 0 where
  items : ItemLists
  has : HasItems a items
  answer : asked (Some (Cover n program inputs)) u (p ∷ found) ≡ covered_answer (program_in a) items n (sections (program_in a) n inputs all) all

covered_done : (n : ℕ) (program : List ℕ) (inputs : List (List ℕ)) (says : List ℕ → Said) (p : Option (List ℕ)) (found : List (Option (List ℕ))) (source : List ℕ) (u : Reading) → gets program 1048576 p ≡ Gets source
    → AllAgree says inputs found → (all : List (List ℕ)) → AreHeld says inputs all → (a : IsAccepted source) → IsUnderstood (Cover n program inputs) source u → ((said : List ℕ) → u ≡ Refuses said → ⊥)
    → IsShown n program inputs p found source u a all
covered_done n program inputs says p found source (Refuses said) g agrees all held a is some = absurd (some said refl)
covered_done n program inputs says p found source (Counted m) g agrees all held a is some = absurd is
covered_done n program inputs says p found source (Listed text) g agrees all held a is some = absurd is
covered_done n program inputs says p found source (Runs R) g agrees all held a is some = absurd is
covered_done n program inputs says p found source (Probes text) g agrees all held a is some = absurd is
covered_done n program inputs says p found source (Viewed R items reads) g agrees all held a is some = absurd is
covered_done n program inputs says p found source (Merges reads sum) g agrees all held a is some = absurd is
covered_done n program inputs says p found source (Records R old new) g agrees all held a is some = absurd is
covered_done n program inputs says p found source (Picks R items marks) g agrees all held a is some = absurd is
covered_done n program inputs says p found source (Watches R told) g agrees all held a is some = absurd is
covered_done n program inputs says p found source (Sums R items told) g agrees all held a is some = absurd is
covered_done n program inputs says p found source (Covers R items) g agrees all held a is some = record {
  items = items;
  has = has_moved source a is.accepted items is.has;
  answer =
      cover_goes n program inputs p found source g R items
      ∙ covering_done R items n says inputs found all [] [] agrees held
      ∙ ap (λ (x : Source). covered_answer x items n (sections x n inputs all) all) (is.program ∙ same_source source a is.accepted);
}

-- it is run
ran_done : (n : ℕ) (program input : List ℕ) (p i : Option (List ℕ)) (source bytes : List ℕ) (P : Source) (u : Reading) → gets program 67108864 p ≡ Gets source → gets input input_most i ≡ Gets bytes
    → IsProbed source P → IsUnderstood (Run n program input) source u → (asked (Some (Run n program input)) u (p ∷ i ∷ [])).end ≡ IsDone
ran_done n program input p i source bytes P (Refuses said) g h read is = absurd (not_unread source said P read is)
ran_done n program input p i source bytes P (Counted m) g h read is = absurd is
ran_done n program input p i source bytes P (Listed text) g h read is = absurd is
ran_done n program input p i source bytes P (Covers R items) g h read is = absurd is
ran_done n program input p i source bytes P (Probes text) g h read is = absurd is
ran_done n program input p i source bytes P (Viewed R items reads) g h read is = absurd is
ran_done n program input p i source bytes P (Merges reads sum) g h read is = absurd is
ran_done n program input p i source bytes P (Records R old new) g h read is = absurd is
ran_done n program input p i source bytes P (Picks R items marks) g h read is = absurd is
ran_done n program input p i source bytes P (Watches R told) g h read is = absurd is
ran_done n program input p i source bytes P (Sums R items told) g h read is = absurd is
ran_done n program input p i source bytes P (Runs R) g h read is = ap (λ (a : Answer). a.end) (run_done n program input p i source g R bytes h)

supposed : (ws : Handed) (command : Command) (says : List ℕ → Said) (found : List (Option (List ℕ))) (u : Reading) → AllAgree says (names (Some command)) found → Supposes command says → IsWatched ws command → UnderstandsWith ws (Some command) found u → IsSure (asked (Some command) u found).end
supposed ws (Check program) says (p ∷ []) u agrees h w is =
    let g = got program 1048576 _ p h.held agrees.0 in
    inl (ap (λ (a : Answer). a.end) (checked_done program p _ u g h.accepted (subst (λ x. IsOfGot (Check program) x u) g is.0.0)))
supposed ws (Check program) says [] u agrees h w is = absurd agrees
supposed ws (Check program) says (p ∷ i ∷ rest) u agrees h w is = absurd agrees.1
supposed ws (ListItems program) says (p ∷ []) u agrees h w is =
    let g = got program 1048576 _ p h.passes.held agrees.0 in
    inl (listed_done program p _ u g h.passes.accepted h.few (subst (λ x. IsOfGot (ListItems program) x u) g is.0.0))
supposed ws (ListItems program) says [] u agrees h w is = absurd agrees
supposed ws (ListItems program) says (p ∷ i ∷ rest) u agrees h w is = absurd agrees.1
supposed ws (Cover n program inputs) says [] u agrees h w is = absurd agrees
supposed ws (Cover n program inputs) says (p ∷ found) u agrees h w is =
    let g = got program 1048576 _ p h.0.passes.held agrees.0 in
    let understood = subst (λ x. IsOfGot (Cover n program inputs) x u) g is.0.0 in
    inl (ap (λ (a : Answer). a.end)
    (covered_done n program inputs says p found _ u g agrees.1 h.1.0 h.1.1 h.0.passes.accepted understood
    (λ said e. not_unlisted _ said h.0.passes.accepted h.0.few (subst (λ r. IsUnderstood (Cover n program inputs) h.0.passes.held.bytes r) e understood))).answer)
supposed ws (Run n program input) says (p ∷ i ∷ []) u agrees h w is =
    let g = got program 67108864 _ p h.0.held agrees.0 in
    inl (ran_done n program input p i _ _ h.0.program u g (got input input_most _ i h.1 agrees.1.0) h.0.read (subst (λ x. IsOfGot (Run n program input) x u) g is.0.0))
supposed ws (Run n program input) says [] u agrees h w is = absurd agrees
supposed ws (Run n program input) says (p ∷ []) u agrees h w is = absurd agrees.1
supposed ws (Run n program input) says (p ∷ i ∷ j ∷ rest) u agrees h w is = absurd agrees.1.1
supposed ws (Instrument program out) says (p ∷ []) u agrees h w is =
    let g = got program 1048576 _ p h.passes.held agrees.0 in
    inl (written_done program out p _ u g h.passes.accepted h.fits (subst (λ x. IsOfGot (Instrument program out) x u) g is.0.0))
supposed ws (Instrument program out) says [] u agrees h w is = absurd agrees
supposed ws (Instrument program out) says (p ∷ i ∷ rest) u agrees h w is = absurd agrees.1
supposed ws (Tell v program traces) says [] u agrees h w is = absurd agrees
supposed ws (Tell v program traces) says (p ∷ found) u agrees h w is =
    let g = got program 1048576 _ p h.0.passes.held agrees.0 in
    told_done v program traces says p found _ u g agrees.1 h.1.0 h.1.1 h.0.passes.accepted h.0.few (subst (λ x. IsOfGot (Tell v program traces) x u) g is.0.0) is.0.1
supposed ws (Merge out []) says found u agrees h w is = absurd h
supposed ws (Merge out (first ∷ rest)) says found u agrees h w is = merged_done out first rest says found u agrees h.0 h.1.0 h.1.1 h.1.2 is.0
supposed ws (RunInto n program input trace) says (p ∷ i ∷ t ∷ []) u agrees h w is =
    let g = got program 67108864 _ p h.runs.held agrees.0 in
    into_done n program input trace says p i t _ _ u g (got input input_most _ i h.input agrees.1.0) agrees.1.1.0 h.runs.program h.runs.read h.digest h.line h.old h.holds h.few (subst (λ x. IsOfGot (RunInto n program input trace) x u) g is.0.0) is.0.1
supposed ws (RunInto n program input trace) says [] u agrees h w is = absurd agrees
supposed ws (RunInto n program input trace) says (p ∷ []) u agrees h w is = absurd agrees.1
supposed ws (RunInto n program input trace) says (p ∷ i ∷ []) u agrees h w is = absurd agrees.1.1
supposed ws (RunInto n program input trace) says (p ∷ i ∷ t ∷ j ∷ rest) u agrees h w is = absurd agrees.1.1.1
supposed ws (Pick n program inputs) says [] u agrees h w is = absurd agrees
supposed ws (Pick n program inputs) says (p ∷ found) u agrees h w is =
    let g = got program 1048576 _ p h.0.passes.held agrees.0 in
    picked_done n program inputs says p found _ g agrees.1 h.1.0 h.1.1 h.0.passes.accepted u (subst (λ x. IsOfGot (Pick n program inputs) x u) g is.0.0) h.0.few
supposed ws (Watch n program input name) says (p ∷ i ∷ []) u agrees h w is =
    let g = got program 1048576 _ p h.0.held agrees.0 in
    watched_done ws n program input name p i _ _ g (got input input_most _ i h.1 agrees.1.0) h.0.accepted u (subst (λ x. IsOfGot (Watch n program input name) x u) g is.0.0) is.1 w
supposed ws (Watch n program input name) says [] u agrees h w is = absurd agrees
supposed ws (Watch n program input name) says (p ∷ []) u agrees h w is = absurd agrees.1
supposed ws (Watch n program input name) says (p ∷ i ∷ j ∷ rest) u agrees h w is = absurd agrees.1.1
supposed ws (SelfCover n seed) says [] u agrees h w is = summed_done ws n seed h.accepted u is.0 is.1 h.few w
supposed ws (SelfCover n seed) says (p ∷ rest) u agrees h w is = absurd agrees

pub complete_for : (ws : Handed) (command : Command) (shelf shelf' : ShelfState) (out out' err err' : SinkState) (status : Status) → whole.Runs ws (Some command) shelf shelf' out out' err err' status
    → (status ≡ Usage → ⊥) → Supposes command shelf.says → IsWatched ws command → NoFault shelf shelf' out out' → (status ≡ Done) ⊎ (status ≡ NoMemory)
complete_for ws command shelf shelf' out out' err err' status h usage supposes watched fine =
    rw h.status_is (goes_done (UnderstandsWith ws (Some command)) (Some command) shelf shelf' out out' h.goes.found h.goes.put fine h.end (λ e. usage (h.status_is ∙ e)) h.goes.comes (λ a. supposed ws command shelf.says h.goes.found a.understood h.goes.agrees supposes watched a.is))

-- THE HEADLINE

-- one program a text
abbrev pub OneProgram : Type 0
OneProgram = (source : List ℕ) (a b : IsAccepted source) → program_in b ≡ program_in a

shown_text : (n : ℕ) (program : List ℕ) (inputs : List (List ℕ)) (says : List ℕ → Said) (found : List (Option (List ℕ))) (u : Reading) → AllAgree says (names (Some (Cover n program inputs))) found → Understands (Some (Cover n program inputs)) found u
    → (asked (Some (Cover n program inputs)) u found).end ≡ IsDone → (p : Passes (says program)) (all : List (List ℕ)) → AreHeld says inputs all
    → (items : ItemLists) × HasItems p.accepted items × (text (asked (Some (Cover n program inputs)) u found) ≡ joined (sections (program_in p.accepted) n inputs all) ++ report (program_in p.accepted) items n all)
shown_text n program inputs says [] u agrees is done p all held = absurd agrees
shown_text n program inputs says (f ∷ found) u agrees is done p all held =
    let g = got program 1048576 _ f p.held agrees.0 in
    let understood = subst (λ x. IsOfGot (Cover n program inputs) x u) g is.0 in
    let h = covered_done n program inputs says f found p.held.bytes u g agrees.1 all held p.accepted understood (λ said e. not_done said e) in
    (h.items, h.has, ap (λ (a : Answer). text a) h.answer)
  where
    not_done : (said : List ℕ) → u ≡ Refuses said → ⊥
    not_done said e =
        let g = got program 1048576 _ f p.held agrees.0 in
        let r : asked (Some (Cover n program inputs)) u (f ∷ found) ≡ refused [] (NotAccepted program said) = ap (λ x. asked (Some (Cover n program inputs)) x (f ∷ found)) e ∙ cover_refused n program inputs f found p.held.bytes g said in
        let k = sym (ap (λ (x : Answer). x.end) r) ∙ done in
        cc

ran_text : (n : ℕ) (program input : List ℕ) (p i : Option (List ℕ)) (source bytes : List ℕ) (P : Source) (u : Reading) → gets program 67108864 p ≡ Gets source → gets input input_most i ≡ Gets bytes
    → IsProbed source P → IsUnderstood (Run n program input) source u → text (asked (Some (Run n program input)) u (p ∷ i ∷ [])) ≡ section input P bytes n
ran_text n program input p i source bytes P (Refuses said) g h read is = absurd (not_unread source said P read is)
ran_text n program input p i source bytes P (Counted m) g h read is = absurd is
ran_text n program input p i source bytes P (Listed text) g h read is = absurd is
ran_text n program input p i source bytes P (Covers R items) g h read is = absurd is
ran_text n program input p i source bytes P (Probes text) g h read is = absurd is
ran_text n program input p i source bytes P (Viewed R items reads) g h read is = absurd is
ran_text n program input p i source bytes P (Merges reads sum) g h read is = absurd is
ran_text n program input p i source bytes P (Records R old new) g h read is = absurd is
ran_text n program input p i source bytes P (Picks R items marks) g h read is = absurd is
ran_text n program input p i source bytes P (Watches R told) g h read is = absurd is
ran_text n program input p i source bytes P (Sums R items told) g h read is = absurd is
ran_text n program input p i source bytes P (Runs R) g h read is = run_text n program input p i source g R bytes h ∙ ap (λ (x : Source). section input x bytes n) (one_probed source P R read is)

run_shown : (n : ℕ) (program input : List ℕ) (says : List ℕ → Said) (found : List (Option (List ℕ))) (u : Reading) → AllAgree says (names (Some (Run n program input))) found → Understands (Some (Run n program input)) found u
    → (p : IsRunnable (says program)) (i : IsHeld (says input) input_most) → text (asked (Some (Run n program input)) u found) ≡ section input p.program i.bytes n
run_shown n program input says (f ∷ g ∷ []) u agrees is p i =
    let got_source = got program 67108864 _ f p.held agrees.0 in
    ran_text n program input f g _ _ p.program u got_source (got input input_most _ g i agrees.1.0) p.read (subst (λ x. IsOfGot (Run n program input) x u) got_source is.0)
run_shown n program input says [] u agrees is p i = absurd agrees
run_shown n program input says (f ∷ []) u agrees is p i = absurd agrees.1
run_shown n program input says (f ∷ g ∷ k ∷ rest) u agrees is p i = absurd agrees.1.1

counted_text : (program : List ℕ) (says : List ℕ → Said) (found : List (Option (List ℕ))) (u : Reading) → AllAgree says (names (Some (Check program))) found → Understands (Some (Check program)) found u
    → (p : Passes (says program)) → text (asked (Some (Check program)) u found) ≡ counts_text (counts_of p.accepted.tables p.accepted.unit)
counted_text program says (f ∷ []) u agrees is p =
    let got_source = got program 1048576 _ f p.held agrees.0 in
    ap (λ (a : Answer). text a) (checked_done program f _ u got_source p.accepted (subst (λ x. IsOfGot (Check program) x u) got_source is.0))
counted_text program says [] u agrees is p = absurd agrees
counted_text program says (f ∷ g ∷ rest) u agrees is p = absurd agrees.1

listed_text : (program : List ℕ) (says : List ℕ → Said) (found : List (Option (List ℕ))) (u : Reading) → AllAgree says (names (Some (ListItems program))) found → Understands (Some (ListItems program)) found u
    → (p : Passes (says program)) → (asked (Some (ListItems program)) u found).end ≡ IsDone → IsListing p.held.bytes (text (asked (Some (ListItems program)) u found))
listed_text program says (f ∷ []) u agrees is p done =
    let got_source = got program 1048576 _ f p.held agrees.0 in
    shown u (subst (λ x. IsOfGot (ListItems program) x u) got_source is.0) done
  where
    shown : (u : Reading) → IsUnderstood (ListItems program) p.held.bytes u → (asked (Some (ListItems program)) u (f ∷ [])).end ≡ IsDone → IsListing p.held.bytes (text (asked (Some (ListItems program)) u (f ∷ [])))
    shown (Refuses said) is done =
        let got_source = got program 1048576 _ f p.held agrees.0 in
        absurd (let e = sym (ap (λ (x : Answer). x.end) (list_refused program f _ got_source said)) ∙ done in cc)
    shown (Listed items) is done =
        let got_source = got program 1048576 _ f p.held agrees.0 in
        subst (IsListing p.held.bytes) (sym (ap (λ (x : Answer). text x) (list_done program f _ got_source items))) is
    shown (Counted m) is done = absurd is
    shown (Runs R) is done = absurd is
    shown (Covers R items) is done = absurd is
    shown (Probes text) is done = absurd is
    shown (Viewed R items reads) is done = absurd is
    shown (Merges reads sum) is done = absurd is
    shown (Records R old new) is done = absurd is
    shown (Picks R items marks) is done = absurd is
    shown (Watches R told) is done = absurd is
    shown (Sums R items told) is done = absurd is
listed_text program says [] u agrees is p done = absurd agrees
listed_text program says (f ∷ g ∷ rest) u agrees is p done = absurd agrees.1

-- what a call that is done was asked, put and kept
record IsDoneSo (U : List (Option (List ℕ)) → Reading → Type 0) (c : Option Command) (shelf shelf' : ShelfState) (found : List (Option (List ℕ))) (piece : List ℕ) : Type 0 where
  reading : Reading
  understood : U found reading
  put : piece ≡ text (asked c reading found)
  end : (asked c reading found).end ≡ IsDone
  keeps : Keeps (asked c reading found).kept IsDone shelf shelf'

done_put : (U : List (Option (List ℕ)) → Reading → Type 0) (c : Option Command) (shelf shelf' : ShelfState) (out out' : SinkState) (end : End) (h : GoesBy U c shelf shelf' out out' end) → status_of end ≡ Done → IsDoneSo U c shelf shelf' h.found h.put
done_put U c shelf shelf' out out' IsDone h is = by_way h.comes
  where
    by_way : Breaks shelf shelf' (names c) IsDone h.put ⊎ AnswersBy U c shelf shelf' out out' h.found IsDone h.put → IsDoneSo U c shelf shelf' h.found h.put
    by_way (inl b) = absurd b
    by_way (inr a) = record { reading = a.understood; understood = a.is; put = a.comes.1; end = sym a.comes.0; keeps = a.keeps }
done_put U c shelf shelf' out out' OutOfMemory h is = absurd (cc)
done_put U c shelf shelf' out out' (ReadFailed file) h is = absurd (cc)
done_put U c shelf shelf' out out' WriteFailed h is = absurd (cc)
done_put U c shelf shelf' out out' BadWords h is = absurd (cc)
done_put U c shelf shelf' out out' (NotAccepted file said) h is = absurd (cc)
done_put U c shelf shelf' out out' (NotHeld file) h is = absurd (cc)
done_put U c shelf shelf' out out' (TooLong file) h is = absurd (cc)
done_put U c shelf shelf' out out' (NoTrace file why) h is = absurd (cc)
done_put U c shelf shelf' out out' (KeepFailed file) h is = absurd (cc)
done_put U c shelf shelf' out out' (NotWatched file) h is = absurd (cc)

picked_text : (n : ℕ) (program : List ℕ) (inputs : List (List ℕ)) (says : List ℕ → Said) (found : List (Option (List ℕ))) (u : Reading) → AllAgree says (names (Some (Pick n program inputs))) found → Understands (Some (Pick n program inputs)) found u
    → (asked (Some (Pick n program inputs)) u found).end ≡ IsDone → (p : Passes (says program)) (all : List (List ℕ)) → AreHeld says inputs all
    → IsPickedSo n inputs p.held.bytes p.accepted all (asked (Some (Pick n program inputs)) u found)
picked_text n program inputs says [] u agrees is done p all held = absurd agrees
picked_text n program inputs says (f ∷ found) u agrees is done p all held =
    let g = got program 1048576 _ f p.held agrees.0 in
    picked_so n program inputs says f found _ g agrees.1 all held p.accepted u (subst (λ x. IsOfGot (Pick n program inputs) x u) g is.0) is.1 done

watched_text : (ws : Handed) (n : ℕ) (program input name : List ℕ) (says : List ℕ → Said) (found : List (Option (List ℕ))) (u : Reading) → AllAgree says (names (Some (Watch n program input name))) found → UnderstandsWith ws (Some (Watch n program input name)) found u
    → (asked (Some (Watch n program input name)) u found).end ≡ IsDone → (p : Passes (says program)) (i : IsHeld (says input) input_most)
    → (said : List ℕ) × ws.says name (events (program_in p.accepted) n i.bytes) said × (text (asked (Some (Watch n program input name)) u found) ≡ section input (program_in p.accepted) i.bytes n ++ said)
watched_text ws n program input name says (f ∷ e ∷ []) u agrees is done p i =
    let g = got program 1048576 _ f p.held agrees.0 in
    let k = got input input_most _ e i agrees.1.0 in
    let t = watched_so ws n program input name f e _ _ g k p.accepted u (subst (λ x. IsOfGot (Watch n program input name) x u) g is.0.0) is.1 done in
    (t.said, t.says, ap (λ (x : Answer). text x) t.answer)
watched_text ws n program input name says [] u agrees is done p i = absurd agrees
watched_text ws n program input name says (f ∷ []) u agrees is done p i = absurd agrees.1
watched_text ws n program input name says (f ∷ e ∷ j ∷ rest) u agrees is done p i = absurd agrees.1.1

summed_text : (ws : Handed) (n seed : ℕ) (says : List ℕ → Said) (found : List (Option (List ℕ))) (u : Reading) → AllAgree says [] found → UnderstandsWith ws (Some (SelfCover n seed)) found u → (asked (Some (SelfCover n seed)) u found).end ≡ IsDone → (a : IsAccepted (program_text seed))
    → (items : ItemLists) × HasItems a items × ((said : List ℕ) × ws.says counter_name (all_events (program_in a) n (input_bytes seed)) said × (text (asked (Some (SelfCover n seed)) u found) ≡ summary (program_in a) items n (program_text seed) (input_bytes seed) said))
summed_text ws n seed says [] u agrees is done a =
    let t = summed_so ws n seed a u is.0 is.1 done in
    (t.items, t.has, (t.said, t.says, ap (λ (x : Answer). text x) t.answer))
summed_text ws n seed says (f ∷ found) u agrees is done a = absurd agrees

pub shows : (ws : Handed) (command : Command) (shelf shelf' : ShelfState) (out out' : SinkState) (end : End) → GoesWith ws (Some command) shelf shelf' out out' end → status_of end ≡ Done → Shows ws command shelf shelf' out out'
shows ws (Check program) shelf shelf' out out' end h is = λ p.
    let d = done_put _ (Some (Check program)) shelf shelf' out out' end h is in
    h.bytes ∙ ap (append_known out.bytes) (d.put ∙ counted_text program shelf.says h.found d.reading h.agrees d.understood.0 p)
shows ws (ListItems program) shelf shelf' out out' end h is = λ p.
    let d = done_put _ (Some (ListItems program)) shelf shelf' out out' end h is in
    (_, listed_text program shelf.says h.found d.reading h.agrees d.understood.0 p d.end, h.bytes ∙ ap (append_known out.bytes) d.put)
shows ws (Cover n program inputs) shelf shelf' out out' end h is = λ p all held.
    let d = done_put _ (Some (Cover n program inputs)) shelf shelf' out out' end h is in
    let t = shown_text n program inputs shelf.says h.found d.reading h.agrees d.understood.0 d.end p all held in
    (t.0, t.1, h.bytes ∙ ap (append_known out.bytes) (d.put ∙ t.2))
shows ws (Run n program input) shelf shelf' out out' end h is = λ p i.
    let d = done_put _ (Some (Run n program input)) shelf shelf' out out' end h is in
    h.bytes ∙ ap (append_known out.bytes) (d.put ∙ run_shown n program input shelf.says h.found d.reading h.agrees d.understood.0 p i)
shows ws (Instrument program name) shelf shelf' out out' end h is = λ p.
    let d = done_put _ (Some (Instrument program name)) shelf shelf' out out' end h is in
    let a = written_answer program name shelf.says h.found d.reading h.agrees d.understood.0 p d.end in
    (h.bytes ∙ ap (append_known out.bytes) (d.put ∙ ap (λ (x : Answer). text x) a), kept_so _ _ _ shelf shelf' (ap (λ (x : Answer). x.kept) a) d.keeps)
shows ws (Tell v program traces) shelf shelf' out out' end h is = λ p ts held.
    let d = done_put _ (Some (Tell v program traces)) shelf shelf' out out' end h is in
    let t = told_text v program traces shelf.says h.found d.reading h.agrees d.understood.0 d.end p ts held in
    (t.items, t.has, h.bytes ∙ ap (append_known out.bytes) (d.put ∙ t.is))
shows ws (Merge name []) shelf shelf' out out' end h is = tt
shows ws (Merge name (first ∷ rest)) shelf shelf' out out' end h is = λ digest ts held.
    let d = done_put _ (Some (Merge name (first ∷ rest))) shelf shelf' out out' end h is in
    let t = merged_answer name first rest shelf.says h.found d.reading h.agrees d.understood.0 d.end digest ts held in
    (t.sum, t.is, t.few, h.bytes ∙ ap (append_known out.bytes) (d.put ∙ ap (λ (x : Answer). text x) t.answer), kept_so _ _ _ shelf shelf' (ap (λ (x : Answer). x.kept) t.answer) d.keeps)
shows ws (RunInto n program input trace) shelf shelf' out out' end h is = λ p i digest line old holds.
    let d = done_put _ (Some (RunInto n program input trace)) shelf shelf' out out' end h is in
    let t = into_answer n program input trace shelf.says h.found d.reading h.agrees d.understood.0 d.end p i digest line old holds in
    (t.new, t.is, t.few, h.bytes ∙ ap (append_known out.bytes) (d.put ∙ ap (λ (x : Answer). text x) t.answer), kept_so _ _ _ shelf shelf' (ap (λ (x : Answer). x.kept) t.answer) d.keeps)
shows ws (Pick n program inputs) shelf shelf' out out' end h is = λ p all held.
    let d = done_put _ (Some (Pick n program inputs)) shelf shelf' out out' end h is in
    let t = picked_text n program inputs shelf.says h.found d.reading h.agrees d.understood.0 d.end p all held in
    (t.items, t.has, (t.marks, t.is, h.bytes ∙ ap (append_known out.bytes) (d.put ∙ ap (λ (x : Answer). text x) t.answer)))
shows ws (Watch n program input name) shelf shelf' out out' end h is = λ p i.
    let d = done_put _ (Some (Watch n program input name)) shelf shelf' out out' end h is in
    let t = watched_text ws n program input name shelf.says h.found d.reading h.agrees d.understood d.end p i in
    (t.0, t.1, h.bytes ∙ ap (append_known out.bytes) (d.put ∙ t.2))
shows ws (SelfCover n seed) shelf shelf' out out' end h is = λ a.
    let d = done_put _ (Some (SelfCover n seed)) shelf shelf' out out' end h is in
    let t = summed_text ws n seed shelf.says h.found d.reading h.agrees d.understood d.end a in
    (t.0, t.1, (t.2.0, t.2.1, h.bytes ∙ ap (append_known out.bytes) (d.put ∙ t.2.2)))
