-- Runs that are picked, as the command's answer has them, and what follows from a whole call.
use Rattle.std.proofs.Common.{◌≡◌, inl, inr, refl, ap, sym, ◌∙◌, subst, List, [], ◌∷◌, ◌++◌, ℕ, suc, ◌-◌, Option, None, Some, Bool, append_assoc, append-nil}
use Rattle.std.specs.Prelude.{Result}
use Rattle.atac_base.specs.Outside.{ShelfState, SinkState, Said, Agrees}
use Rattle.atac_base.specs.Items.{ItemLists}
use Rattle.c_walk.specs.Units.{items_of}
use Rattle.c_sites.specs.declared.numbered.Sites.{Sites}
use Rattle.c_sites.specs.Refused.{AreNumbered}
use Rattle.pair_list.specs.Items.{AreTooMany}
use Rattle.c_meaning.specs.Calls.{Source}
use Rattle.run_pick.specs.Lines.{pick_text}
use Rattle.atac_words.specs.Words.{Pick}
use Rattle.atac_steps.specs.Ends.{End, IsDone, BadWords, NotAccepted, NotHeld, TooLong, NoTrace, ReadFailed, WriteFailed, KeepFailed, NotWatched, OutOfMemory}
use Rattle.atac_steps.specs.Got.{Got, Gets, Stops, gets, AllAgree}
use Rattle.atac_steps.specs.Grows.{ShelfGrows}
use Rattle.atac_steps.specs.Steps.{Puts}
use Rattle.atac_steps.specs.Stops.{ended}
use Rattle.atac_steps.specs.declared.stop.Stop.{Stop}
use Rattle.atac_steps.proofs.Growing.{rose_since, sink_stays, shelf_goes_on}
use Rattle.atac_programs.specs.Programs.{IsAccepted, HasItems, IsCovered, program_in, shown}
use Rattle.atac_programs.proofs.Same.{same_source, not_unlisted, has_moved}
use Rattle.atac_commands.specs.Readings.{Reading, Refuses, Counted, Listed, Runs, Covers, Probes, Viewed, Merges, Records, Picks, Watches, Sums, IsUnderstood, IsPicked}
use Rattle.atac_commands.specs.Answers.{Answer, asked, names, text, joined, refused, given, gathering, marked_by, input_most}
use Rattle.atac_commands.specs.Runs.{Comes, Keeps, AreGot, ArePicked, OfOthers, Goes}
use Rattle.atac_commands.specs.Claims.{AreHeld}
use Rattle.atac_commands.specs.Gathering.{GatherStops}
use Rattle.atac_commands.proofs.Asked.{pick_understands, pick_refused, pick_goes}
use Rattle.atac_commands.proofs.Exits.{wants_memory, put_ends, known_nothing}
use Rattle.atac_commands.proofs.Joined.{take_none}
use Rattle.atac_commands.proofs.Sure.{IsSure, got}

-- all inputs are got
pub gathering_done : (names : List (List ℕ)) (found : List (Option (List ℕ))) (all before : List (List ℕ)) (go : List (List ℕ) → Answer) → AreGot names found all → gathering names found before go ≡ go (before ++ all)
gathering_done [] [] [] before go h = ap go (sym (append-nil before))
gathering_done [] [] (b ∷ all) before go h = absurd h
gathering_done [] (f ∷ found) all before go h = absurd h
gathering_done (name ∷ names) [] all before go h = absurd h
gathering_done (name ∷ names) (f ∷ found) [] before go h = absurd h
gathering_done (name ∷ names) (f ∷ found) (b ∷ all) before go h =
    ap (λ x. given [] x (λ bytes. gathering names found (before ++ bytes ∷ []) go)) h.0
    ∙ gathering_done names found all (before ++ b ∷ []) go h.1
    ∙ ap go (append_assoc before (b ∷ []) all)

given_plain : (g : Got) (go : List ℕ → Answer) → ((bytes : List ℕ) → (go bytes).sections ≡ []) → (given [] g go).sections ≡ []
given_plain (Gets bytes) go h = h bytes
given_plain (Stops end) go h = refl

pub gathering_plain : (names : List (List ℕ)) (found : List (Option (List ℕ))) (before : List (List ℕ)) (go : List (List ℕ) → Answer) → ((all : List (List ℕ)) → (go all).sections ≡ []) → (gathering names found before go).sections ≡ []
gathering_plain [] found before go h = h before
gathering_plain (name ∷ names) [] before go h = refl
gathering_plain (name ∷ names) (f ∷ found) before go h = given_plain (gets name input_most f) _ (λ bytes. gathering_plain names found (before ++ bytes ∷ []) go h)

-- what is put where runs are picked
abbrev pub picked_answer : List (List ℕ) → Source → ItemLists → ℕ → List (List ℕ) → List Bool → Answer
picked_answer inputs P items n all marks = record { end = IsDone; sections = []; rest = pick_text marks inputs items (shown P n all); kept = None }

marked_plain : (marks : Option (List Bool)) (go : List Bool → Answer) → ((kept : List Bool) → (go kept).sections ≡ []) → (marked_by marks go).sections ≡ []
marked_plain None go h = refl
marked_plain (Some marks) go h = h marks

module _ (n : ℕ) (p : List ℕ) (is : List (List ℕ)) (shelf mid shelf' : ShelfState) (out : SinkState) (fp : Option (List ℕ)) (agrees : Agrees (shelf.says p) fp) (s : List ℕ) (gives : gets p 1048576 fp ≡ Gets s)
    (P : Source) (items : ItemLists) (covered : IsCovered s P items) (same : mid.says ≡ shelf.says) (grows : ShelfGrows shelf mid)
    (found : List (Option (List ℕ))) (found_agree : AllAgree mid.says is found) (same' : shelf'.says ≡ mid.says) (grows' : ShelfGrows mid shelf') where
  all_agree : AllAgree shelf.says (names (Some (Pick n p is))) (fp ∷ found)
  all_agree = (agrees, subst (λ (says : List ℕ → Said). AllAgree says is found) same found_agree)

  answer_is : (marks : Option (List Bool)) → asked (Some (Pick n p is)) (Picks P items marks) (fp ∷ found) ≡ gathering is found [] (λ all. marked_by marks (λ kept. picked_answer is P items n all kept))
  answer_is marks = pick_goes n p is fp found s gives P items marks

  plain : (asked (Some (Pick n p is)) (Picks P items None) (fp ∷ found)).sections ≡ []
  plain = ap (λ (a : Answer). a.sections) (answer_is None) ∙ gathering_plain is found [] _ (λ all. refl)

  stopped : (e : End) → Comes shelf shelf' out out (names (Some (Pick n p is))) (asked (Some (Pick n p is)) (Picks P items None) (fp ∷ found)) e [] → Keeps (asked (Some (Pick n p is)) (Picks P items None) (fp ∷ found)).kept e shelf shelf' → Goes (Some (Pick n p is)) shelf shelf' out out e
  stopped e comes keeps = record {
    found = fp ∷ found;
    put = [];
    agrees = all_agree;
    comes = inr (record { understood = Picks P items None; is = pick_understands n p is fp found s gives P items None covered tt; comes = comes; keeps = keeps });
    bytes = known_nothing _;
    shelf_grows = shelf_goes_on _ _ _ grows grows';
    out_grows = sink_stays _;
  }

  pub pick_wants : Goes (Some (Pick n p is)) shelf shelf' out out OutOfMemory
  pick_wants = wants_memory _ (Some (Pick n p is)) shelf shelf' out out (fp ∷ found) all_agree (Picks P items None) (pick_understands n p is fp found s gives P items None covered tt) (same' ∙ same) (shelf_goes_on _ _ _ grows grows') (sink_stays _) 0 [] refl (known_nothing _)

  refused_at : (e : End) → ((before : List (List ℕ)) (go : List (List ℕ) → Answer) → gathering is found before go ≡ refused [] e) → asked (Some (Pick n p is)) (Picks P items None) (fp ∷ found) ≡ refused [] e
  refused_at e h = answer_is None ∙ h [] _

  -- the gathering stops
  pub pick_stops : (e : End) → GatherStops mid shelf' is found e → Goes (Some (Pick n p is)) shelf shelf' out out e
  pick_stops (NotHeld file) h = let r = refused_at (NotHeld file) h in stopped (NotHeld file) (sym (ap (λ (a : Answer). a.end) r), sym (ap (λ (a : Answer). text a) r)) (same' ∙ same)
  pick_stops (TooLong file) h = let r = refused_at (TooLong file) h in stopped (TooLong file) (sym (ap (λ (a : Answer). a.end) r), sym (ap (λ (a : Answer). text a) r)) (same' ∙ same)
  pick_stops (ReadFailed file) h =
      stopped (ReadFailed file) (rose_since _ _ _ grows.read_faults h.0, (suc h.1.0, h.1.1, sym (ap joined (take_none (suc h.1.0 - 1) _ plain)))) (same' ∙ same)
  pick_stops OutOfMemory h = pick_wants
  pick_stops IsDone h = absurd h
  pick_stops BadWords h = absurd h
  pick_stops (NotAccepted file said) h = absurd h
  pick_stops (NoTrace file why) h = absurd h
  pick_stops WriteFailed h = absurd h
  pick_stops (KeepFailed file) h = absurd h
  pick_stops (NotWatched name) h = absurd h

  -- the text is put
  module _ (all : List (List ℕ)) (got_all : AreGot is found all) (marks : List Bool) (picked : IsPicked P items n all marks) where
    whole : asked (Some (Pick n p is)) (Picks P items (Some marks)) (fp ∷ found) ≡ picked_answer is P items n all marks
    whole = answer_is (Some marks) ∙ gathering_done is found all [] _ got_all

    pub pick_ends : (out' : SinkState) (piece : List ℕ) (r : Result (Unit {0}) Stop) → Puts out out' piece r → piece ≡ pick_text marks is items (shown P n all) → Goes (Some (Pick n p is)) shelf shelf' out out' (ended r)
    pick_ends out' piece r put is_text =
        put_ends _ (Some (Pick n p is)) shelf shelf' out out' (fp ∷ found) all_agree (Picks P items (Some marks)) (pick_understands n p is fp found s gives P items (Some marks) covered (all, got_all, picked)) (same' ∙ same) (shelf_goes_on _ _ _ grows grows') put.grows
        out [] piece r put (ap (λ (a : Answer). a.end) whole) (ap (λ (a : Answer). a.kept) whole) (ap (λ (a : Answer). text a) whole ∙ sym is_text) (known_nothing _) (sink_stays _)

-- WHAT FOLLOWS FROM A WHOLE CALL

-- inputs that are held are got
inputs_got : (says : List ℕ → Said) (inputs : List (List ℕ)) (found : List (Option (List ℕ))) (all : List (List ℕ)) → AllAgree says inputs found → AreHeld says inputs all → AreGot inputs found all
inputs_got says [] [] [] agrees held = tt
inputs_got says [] [] (b ∷ all) agrees held = absurd held
inputs_got says [] (f ∷ found) all agrees held = absurd agrees
inputs_got says (i ∷ inputs) [] all agrees held = absurd agrees
inputs_got says (i ∷ inputs) (f ∷ found) [] agrees held = absurd held
inputs_got says (i ∷ inputs) (f ∷ found) (b ∷ all) agrees held =
    (got i input_most (says i) f (record { bytes = b; is = held.0; short = held.1.0 }) agrees.0, inputs_got says inputs found all agrees.1 held.1.1)

same_gets : (a b : List ℕ) → Gets a ≡ Gets b → a ≡ b
same_gets a b e = cc

-- with the same bytes, whenever they are got
got_once : (inputs : List (List ℕ)) (found : List (Option (List ℕ))) (a b : List (List ℕ)) → AreGot inputs found a → AreGot inputs found b → a ≡ b
got_once [] [] [] [] g h = refl
got_once [] [] [] (y ∷ b) g h = absurd h
got_once [] [] (x ∷ a) b g h = absurd g
got_once [] (f ∷ found) a b g h = absurd g
got_once (i ∷ inputs) [] a b g h = absurd g
got_once (i ∷ inputs) (f ∷ found) [] b g h = absurd g
got_once (i ∷ inputs) (f ∷ found) (x ∷ a) [] g h = absurd h
got_once (i ∷ inputs) (f ∷ found) (x ∷ a) (y ∷ b) g h =
    let e : x ≡ y = same_gets x y (sym g.0 ∙ h.0) in
    let k : a ≡ b = got_once inputs found a b g.1 h.1 in
    rw (e, k) refl

module _ (n : ℕ) (program : List ℕ) (inputs : List (List ℕ)) (says : List ℕ → Said) (p : Option (List ℕ)) (found : List (Option (List ℕ))) (source : List ℕ) (g : gets program 1048576 p ≡ Gets source)
    (agrees : AllAgree says inputs found) (all : List (List ℕ)) (held : AreHeld says inputs all) (a : IsAccepted source) where
  marked_sure : (marks : Option (List Bool)) (P : Source) (items : ItemLists) → IsSure (marked_by marks (λ kept. picked_answer inputs P items n all kept)).end
  marked_sure None P items = inr refl
  marked_sure (Some marks) P items = inl refl

  answer_of : (P : Source) (items : ItemLists) (marks : Option (List Bool)) → asked (Some (Pick n program inputs)) (Picks P items marks) (p ∷ found) ≡ marked_by marks (λ kept. picked_answer inputs P items n all kept)
  answer_of P items marks = pick_goes n program inputs p found source g P items marks ∙ gathering_done inputs found all [] _ (inputs_got says inputs found all agrees held)

  pub picked_done : (u : Reading) → IsUnderstood (Pick n program inputs) source u → ((s : Sites) → AreNumbered a.tables.structures (items_of a.tables a.unit) s → AreTooMany a.tables a.unit s → ⊥) → IsSure (asked (Some (Pick n program inputs)) u (p ∷ found)).end
  picked_done (Refuses said) is few = absurd (not_unlisted source said a few is)
  picked_done (Picks P items marks) is few = subst (λ (x : Answer). IsSure x.end) (sym (answer_of P items marks)) (marked_sure marks P items)
  picked_done (Counted m) is few = absurd is
  picked_done (Listed t) is few = absurd is
  picked_done (Runs R) is few = absurd is
  picked_done (Covers R items) is few = absurd is
  picked_done (Probes t) is few = absurd is
  picked_done (Viewed R items reads) is few = absurd is
  picked_done (Merges reads sum) is few = absurd is
  picked_done (Records R old new) is few = absurd is
  picked_done (Watches R told) is few = absurd is
  picked_done (Sums R items told) is few = absurd is

-- what was put, and by which marks
pub record IsPickedSo (n : ℕ) (inputs : List (List ℕ)) (source : List ℕ) (a : IsAccepted source) (all : List (List ℕ)) (x : Answer) : Type 0 where
  pub items : ItemLists
  pub has : HasItems a items
  pub marks : List Bool
  pub is : IsPicked (program_in a) items n all marks
  pub answer : x ≡ picked_answer inputs (program_in a) items n all marks

module _ (n : ℕ) (program : List ℕ) (inputs : List (List ℕ)) (says : List ℕ → Said) (p : Option (List ℕ)) (found : List (Option (List ℕ))) (source : List ℕ) (g : gets program 1048576 p ≡ Gets source)
    (agrees : AllAgree says inputs found) (all : List (List ℕ)) (held : AreHeld says inputs all) (a : IsAccepted source) where
  by_marks : (P : Source) (items : ItemLists) (marks : Option (List Bool)) → IsCovered source P items → ArePicked n P items inputs found marks → (asked (Some (Pick n program inputs)) (Picks P items marks) (p ∷ found)).end ≡ IsDone
      → IsPickedSo n inputs source a all (asked (Some (Pick n program inputs)) (Picks P items marks) (p ∷ found))
  by_marks P items None is picked done =
      absurd (let e = sym (ap (λ (x : Answer). x.end) (answer_of n program inputs says p found source g agrees all held a P items None)) ∙ done in cc)
  by_marks P items (Some marks) is picked done =
      let same : P ≡ program_in a = is.program ∙ same_source source a is.accepted in
      let once : picked.0 ≡ all = got_once inputs found picked.0 all picked.1 (inputs_got says inputs found all agrees held) in
      record {
        items = items;
        has = has_moved source a is.accepted items is.has;
        marks = marks;
        is = subst (λ (x : Source). IsPicked x items n all marks) same (subst (λ x. IsPicked P items n x marks) once picked.2);
        answer = answer_of n program inputs says p found source g agrees all held a P items (Some marks) ∙ ap (λ (x : Source). picked_answer inputs x items n all marks) same;
      }

  pub picked_so : (u : Reading) → IsUnderstood (Pick n program inputs) source u → OfOthers (Pick n program inputs) (p ∷ found) u → (asked (Some (Pick n program inputs)) u (p ∷ found)).end ≡ IsDone → IsPickedSo n inputs source a all (asked (Some (Pick n program inputs)) u (p ∷ found))
  picked_so (Refuses said) is picked done = absurd (let e = sym (ap (λ (x : Answer). x.end) (pick_refused n program inputs p found source g said)) ∙ done in cc)
  picked_so (Picks P items marks) is picked done = by_marks P items marks is picked done
  picked_so (Counted m) is picked done = absurd is
  picked_so (Listed t) is picked done = absurd is
  picked_so (Runs R) is picked done = absurd is
  picked_so (Covers R items) is picked done = absurd is
  picked_so (Probes t) is picked done = absurd is
  picked_so (Viewed R items reads) is picked done = absurd is
  picked_so (Merges reads sum) is picked done = absurd is
  picked_so (Records R old new) is picked done = absurd is
  picked_so (Watches R told) is picked done = absurd is
  picked_so (Sums R items told) is picked done = absurd is
