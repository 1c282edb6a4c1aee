-- A cover over several inputs, input by input.
use Rattle.std.proofs.Common.{◌≡◌, inl, inr, refl, ap, sym, ◌∙◌, subst, List, [], ◌∷◌, ◌++◌, length, map, take, drop, ℕ, ◌+◌, ◌-◌, ◌≤◌, ◌<◌, Option, Some, arith, append_assoc, append-nil, get_or, drop-cons, add-one}
use Rattle.std.proofs.lemmas.Grind.{common_steps}
use Rattle.std.proofs.lemmas.List.{at_drop_all}
use Rattle.std.specs.Prelude.{slice_get, Result}
use Rattle.std.specs.Io.KnownBytes.{append_known}
use Rattle.atac_base.specs.Items.{ItemLists}
use Rattle.atac_base.specs.Outside.{ShelfState, SinkState, Said, Agrees}
use Rattle.c_meaning.specs.Calls.{Source}
use Rattle.atac_words.specs.Words.{Command, Cover}
use Rattle.atac_steps.specs.Ends.{End, BadWords, OutOfMemory}
use Rattle.atac_programs.specs.Programs.{section, report}
use Rattle.atac_commands.specs.Readings.{Reading, Covers, IsUnderstood}
use Rattle.atac_commands.specs.Answers.{Answer, asked, names, joined, text, refused, given, covering, input_most}
use Rattle.atac_steps.specs.Got.{Got, gets, Gets, Stops, AllAgree}
use Rattle.atac_steps.specs.Grows.{ShelfGrows, SinkGrows}
use Rattle.atac_commands.specs.Runs.{Goes}
use Rattle.atac_steps.specs.Steps.{Puts}
use Rattle.atac_steps.specs.Stops.{ended}
use Rattle.atac_steps.specs.declared.stop.Stop.{Stop}
use Rattle.atac_commands.specs.Progress.{SectionStops, Came}
use Rattle.atac_commands.proofs.Asked.{cover_understands, cover_goes}
use Rattle.atac_commands.proofs.Exits.{wants_memory, fetch_stops, put_stops, put_ends, front_of, known_nothing, known_twice}
use Rattle.atac_steps.proofs.Found.{guess, guess_agrees}
use Rattle.atac_steps.proofs.Growing.{sink_stays, shelf_goes_on, sink_goes_on}

pub joined-append : (xs ys : List (List ℕ)) → joined (xs ++ ys) ≡ joined xs ++ joined ys
joined-append [] ys = refl
joined-append (x ∷ xs) ys = ap (λ zs. x ++ zs) (joined-append xs ys) ∙ sym (append_assoc x (joined xs) (joined ys))

joined_more : (xs : List (List ℕ)) (x : List ℕ) → joined (xs ++ x ∷ []) ≡ joined xs ++ x
joined_more xs x = joined-append xs (x ∷ []) ∙ ap (λ zs. joined xs ++ zs) (append-nil x)

-- what the shelf says of each name, or else that nothing is there
abbrev pub guesses : (List ℕ → Said) → List (List ℕ) → List (Option (List ℕ))
guesses says [] = []
guesses says (name ∷ names) = guess (says name) ∷ guesses says names

pub guesses_agree : (says : List ℕ → Said) (names : List (List ℕ)) → AllAgree says names (guesses says names)
guesses_agree says [] = tt
guesses_agree says (name ∷ names) = (guess_agrees (says name), guesses_agree says names)

pub at_length : (xs : List (List ℕ)) (y : List ℕ) (ys : List (List ℕ)) → slice_get (xs ++ y ∷ ys) (length xs) ≡ Some y
at_length [] y ys = refl
at_length (x ∷ xs) y ys = at_length xs y ys

take_front : (xs ys : List (List ℕ)) → take (length xs) (xs ++ ys) ≡ xs
take_front [] ys = refl
take_front (x ∷ xs) ys = ap (λ zs. x ∷ zs) (take_front xs ys)

-- what was put stays at the front
record Begins (done : List (List ℕ)) (a : Answer) : Type 0 where
  after : List ℕ
  is : text a ≡ joined done ++ after
  more : List (List ℕ)
  sections : a.sections ≡ done ++ more

begins_on : (done : List (List ℕ)) (x : List ℕ) (a : Answer) → Begins (done ++ x ∷ []) a → Begins done a
begins_on done x a h = record {
  after = x ++ h.after;
  is = h.is ∙ ap (λ zs. zs ++ h.after) (joined_more done x) ∙ append_assoc (joined done) x h.after;
  more = x ∷ h.more;
  sections = h.sections ∙ append_assoc done (x ∷ []) h.more;
}

refused_begins : (done : List (List ℕ)) (e : End) → Begins done (refused done e)
refused_begins done e = record { after = []; is = refl; more = []; sections = sym (append-nil done) }

given_begins : (done : List (List ℕ)) (got : Got) (go : List ℕ → Answer) → ((bytes : List ℕ) → Begins done (go bytes)) → Begins done (given done got go)
given_begins done (Gets bytes) go h = h bytes
given_begins done (Stops e) go h = refused_begins done e

begins_text : (done : List (List ℕ)) (x : List ℕ) (a : Answer) → Begins (done ++ x ∷ []) a → (after : List ℕ) × (text a ≡ joined done ++ (x ++ after))
begins_text done x a h = (h.after, h.is ∙ ap (λ zs. zs ++ h.after) (joined_more done x) ∙ append_assoc (joined done) x h.after)

take_all : (xs : List (List ℕ)) → take (length xs) xs ≡ xs
take_all [] = refl
take_all (x ∷ xs) = ap (λ zs. x ∷ zs) (take_all xs)

less_one : (n : ℕ) → (n + 1) - 1 ≡ n
less_one n = omega arith

module _ (P : Source) (items : ItemLists) (n : ℕ) where
  covering_begins : (inputs : List (List ℕ)) (found : List (Option (List ℕ))) (done got : List (List ℕ)) → Begins done (covering P items n inputs found done got)
  covering_begins [] found done got = record { after = report P items n got; is = refl; more = []; sections = sym (append-nil done) }
  covering_begins (i ∷ is) [] done got = refused_begins done BadWords
  covering_begins (i ∷ is) (f ∷ fs) done got =
      given_begins done (gets i input_most f) _ (λ bytes. begins_on done (section i P bytes n) _ (covering_begins is fs (done ++ section i P bytes n ∷ []) (got ++ bytes ∷ [])))

  -- what comes behind the bytes of an input
  abbrev behind : List ℕ → List (List ℕ) → List (Option (List ℕ)) → List (List ℕ) → List (List ℕ) → List ℕ → Answer
  behind i is fs done got bytes = covering P items n is fs (done ++ section i P bytes n ∷ []) (got ++ bytes ∷ [])

  pub came_first : (p : List ℕ) (is : List (List ℕ)) (s : List ℕ) (shelf shelf' : ShelfState) (out : SinkState) (f : Option (List ℕ))
      → Agrees (shelf.says p) f → gets p 1048576 f ≡ Gets s → IsUnderstood (Cover n p is) s (Covers P items) → shelf'.says ≡ shelf.says → ShelfGrows shelf shelf'
      → Came (Some (Cover n p is)) (Covers P items) shelf shelf' out out is (λ rest. covering P items n is rest [] []) []
  came_first p is s shelf shelf' out f agrees gives understood same grows = record {
    found = f ∷ [];
    agrees = λ rest h. (agrees, h);
    understands = λ rest. cover_understands n p is f rest s gives (Covers P items) understood;
    is = λ rest. cover_goes n p is f rest s gives P items;
    at = (p ∷ [], refl, refl);
    bytes = known_nothing out.bytes;
    says = same;
    shelf_grows = grows;
    out_grows = sink_stays out;
  }

  module _ (c : Option Command) (u : Reading) (shelf mid shelf' : ShelfState) (out between out' : SinkState) (i : List ℕ) (is : List (List ℕ)) (done got : List (List ℕ))
      (h : Came c u shelf mid out between (i ∷ is) (λ rest. covering P items n (i ∷ is) rest done got) done)
      (says : shelf'.says ≡ mid.says) (shelf_grows : ShelfGrows mid shelf') (out_grows : SinkGrows between out') where
    -- the section of the input was put
    pub came_on : (found : Option (List ℕ)) (bytes : List ℕ) → Agrees (mid.says i) found → gets i input_most found ≡ Gets bytes → out'.bytes ≡ append_known between.bytes (section i P bytes n)
        → Came c u shelf shelf' out out' is (λ rest. covering P items n is rest (done ++ section i P bytes n ∷ []) (got ++ bytes ∷ [])) (done ++ section i P bytes n ∷ [])
    came_on found bytes agrees gives put = record {
      found = h.found ++ found ∷ [];
      agrees = λ rest k. let said = subst (λ (says : List ℕ → Said). Agrees (says i) found) h.says agrees in rw (append_assoc h.found (found ∷ []) rest) (h.agrees (found ∷ rest) (said, k));
      understands = λ rest. rw (append_assoc h.found (found ∷ []) rest) (h.understands (found ∷ rest));
      is = λ rest. ap (λ fs. asked c u fs) (append_assoc h.found (found ∷ []) rest) ∙ h.is (found ∷ rest) ∙ ap (λ got_it. given done got_it (behind i is rest done got)) gives;
      at = (h.at.0 ++ i ∷ [], h.at.1 ∙ sym (append_assoc h.at.0 (i ∷ []) is), grind (arith, common_steps, h.at.2));
      bytes = put ∙ rw h.bytes (known_twice out.bytes (joined done) (section i P bytes n)) ∙ ap (λ zs. append_known out.bytes zs) (sym (joined_more done (section i P bytes n)));
      says = says ∙ h.says;
      shelf_grows = shelf_goes_on _ _ _ h.shelf_grows shelf_grows;
      out_grows = sink_goes_on _ _ _ h.out_grows out_grows;
    }

    -- the input stops the cover
    pub came_stops : (found : Option (List ℕ)) (e : End) → Agrees (mid.says i) found → SectionStops mid shelf' between out' i P n found e → Goes c shelf shelf' out out' e
    came_stops found e agrees (inl k) =
        let said = subst (λ (says : List ℕ → Said). Agrees (says i) found) h.says agrees in
        let fs = found ∷ guesses shelf.says is in
        let all = h.agrees fs (said, guesses_agree shelf.says is) in
        let a = h.is fs in
        let front = covering_begins (i ∷ is) fs done got in
        fetch_stops _ c shelf shelf' out out' (h.found ++ fs) all u (h.understands fs) (says ∙ h.says) (shelf_goes_on _ _ _ h.shelf_grows shelf_grows) (sink_goes_on _ _ _ h.out_grows out_grows)
        (length done + 1) i input_most found mid (joined done) e k.0
        (rw h.at.1 (rw (sym h.at.2) (at_length h.at.0 i is))) h.shelf_grows
        (λ stops.
        let is_stopped : asked c u (h.found ++ fs) ≡ refused done e = a ∙ ap (λ got_it. given done got_it (behind i is (guesses shelf.says is) done got)) stops in
        (sym (ap (λ (b : Answer). b.end) is_stopped), sym (ap (λ (b : Answer). text b) is_stopped ∙ append-nil (joined done))))
        (let t : take (length done) (asked c u (h.found ++ fs)).sections ≡ done = ap (λ (b : Answer). take (length done) b.sections) a ∙ ap (λ xs. take (length done) xs) front.sections ∙ take_front done front.more in
        sym (ap joined (ap (λ k. take k (asked c u (h.found ++ fs)).sections) (less_one (length done)) ∙ t)))
        (k.1 ∙ h.bytes)
    came_stops found e agrees (inr k) =
        let said = subst (λ (says : List ℕ → Said). Agrees (says i) found) h.says agrees in
        let fs = found ∷ guesses shelf.says is in
        let all = h.agrees fs (said, guesses_agree shelf.says is) in
        let after : Answer = behind i is (guesses shelf.says is) done got k.0 in
        let a : asked c u (h.found ++ fs) ≡ after = h.is fs ∙ ap (λ got_it. given done got_it (behind i is (guesses shelf.says is) done got)) k.1 in
        let begins = begins_text done (section i P k.0 n) after (covering_begins is (guesses shelf.says is) (done ++ section i P k.0 n ∷ []) (got ++ k.0 ∷ [])) in
        put_stops _ c shelf shelf' out out' (h.found ++ fs) all u (h.understands fs) (says ∙ h.says) (shelf_goes_on _ _ _ h.shelf_grows shelf_grows) (sink_goes_on _ _ _ h.out_grows out_grows)
        between (joined done) k.2.0 e k.3
        (front_of (joined done) (section i P k.0 n) begins.0 _ _ k.2.1 (ap (λ (b : Answer). text b) a ∙ begins.1)) h.bytes k.2.2 h.out_grows

  module _ (c : Option Command) (u : Reading) (shelf mid : ShelfState) (out between : SinkState) (done got : List (List ℕ))
      (h : Came c u shelf mid out between [] (λ rest. covering P items n [] rest done got) done) where
    -- memory was wanted for the report
    pub came_wants : Goes c shelf mid out between OutOfMemory
    came_wants =
        wants_memory _ c shelf mid out between (h.found ++ []) (h.agrees [] tt) u (h.understands []) h.says h.shelf_grows h.out_grows (length done) (joined done)
        (sym (ap joined (ap (λ (b : Answer). take (length done) b.sections) (h.is []) ∙ take_all done))) h.bytes

    -- the report, as the last step
    pub came_ends : (out' : SinkState) (piece : List ℕ) (r : Result (Unit {0}) Stop) → Puts between out' piece r → piece ≡ report P items n got → Goes c shelf mid out out' (ended r)
    came_ends out' piece r put is =
        put_ends _ c shelf mid out out' (h.found ++ []) (h.agrees [] tt) u (h.understands []) h.says h.shelf_grows (sink_goes_on _ _ _ h.out_grows put.grows)
        between (joined done) piece r put
        (ap (λ (b : Answer). b.end) (h.is [])) (ap (λ (b : Answer). b.kept) (h.is [])) (ap (λ (b : Answer). text b) (h.is []) ∙ ap (λ xs. joined done ++ xs) (sym is))
        h.bytes h.out_grows

  -- the same by another spelling of the names that are left
  pub came_by : (c : Option Command) (u : Reading) (shelf mid : ShelfState) (out between : SinkState) (done got left left' : List (List ℕ)) → left ≡ left'
      → Came c u shelf mid out between left (λ rest. covering P items n left rest done got) done → Came c u shelf mid out between left' (λ rest. covering P items n left' rest done got) done
  came_by c u shelf mid out between done got left left' e h = subst (λ (xs : List (List ℕ)). Came c u shelf mid out between xs (λ rest. covering P items n xs rest done got) done) e h

pub left_cons : {A : Type 0} (f : A → List ℕ) (xs : List A) (k : ℕ) (x : A) (word : List ℕ) → k < length xs → x ≡ get_or xs k x → word ≡ f x → map f (drop k xs) ≡ word ∷ map f (drop (k + 1) xs)
left_cons f xs k x word lt is same = ap (map f) (drop-cons xs k x lt) ∙ rw (← is, ← same, add-one) refl

pub left_none : {A : Type 0} (f : A → List ℕ) (xs : List A) (k : ℕ) → length xs ≤ k → map f (drop k xs) ≡ []
left_none f xs k le = at_drop_all (map f) xs k le
