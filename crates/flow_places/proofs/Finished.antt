-- Where all definitions are finished: nothing is done, an act is done behind, or a whole copy is told of.
use Rattle.std.proofs.Common.{ℕ, List, [], ◌∷◌, ◌++◌, map, ◌≡◌, inl, inr, refl, sym, subst, ap, ◌∙◌, append-nil, append_assoc, Option, Some, None, Bool, true, false}
use Rattle.std.proofs.lemmas.Bool.{false≢true}
use Rattle.c_events.specs.declared.events.Cell.{Cell}
use Rattle.c_events.specs.declared.events.Event.{Event}
use Rattle.c_events.specs.declared.events.Event.TheVariants as event
use Rattle.c_meaning.specs.State.{Act, tells, Deed}
use Rattle.flow_calls.specs.Placing.{Local, Sites, AreInPlace, HasOneName, further, IsFinished, AreFinished}
use Rattle.flow_calls.proofs.Lists.{heads, tails, longer}
use Rattle.flow_places.proofs.Bound.{deed}

-- a list that is cut at an element, and is two lists one behind the other: the element is in the first or in the second
data Split {A : Type 0} (xs ys p q : List A) (e : A) : Type 0 where
  front : (r : List A) (is : xs ≡ p ++ e ∷ r) (rest : q ≡ r ++ ys) → Split xs ys p q e
  back : (r : List A) (is : p ≡ xs ++ r) (rest : ys ≡ r ++ e ∷ q) → Split xs ys p q e

split_more : {A : Type 0} (x z : A) (xs ys p q : List A) (e : A) → x ≡ z → Split xs ys p q e → Split (x ∷ xs) ys (z ∷ p) q e
split_more x z xs ys p q e h (front r is rest) = front r (ap (λ a. a ∷ xs) h ∙ ap (λ l. z ∷ l) is) rest
split_more x z xs ys p q e h (back r is rest) = back r (ap (λ a. a ∷ p) (sym h) ∙ ap (λ l. x ∷ l) is) rest

split_at : {A : Type 0} (xs ys p q : List A) (e : A) → xs ++ ys ≡ p ++ e ∷ q → Split xs ys p q e
split_at [] ys p q e h = back p refl h
split_at (x ∷ xs) ys [] q e h = front xs (ap (λ a. a ∷ xs) (heads x e (xs ++ ys) q h)) (sym (tails x e (xs ++ ys) q h))
split_at (x ∷ xs) ys (z ∷ p) q e h = split_more x z xs ys p q e (heads x z (xs ++ ys) (p ++ e ∷ q) h) (split_at xs ys p q e (tails x z (xs ++ ys) (p ++ e ∷ q) h))

-- a further definition is none that is told first
abbrev is_first : Act → Bool
is_first (tells e) = true
is_first a = false

-- what an act tells of a definition
abbrev number_defined : Event → ℕ
number_defined (event.Def d c) = d
number_defined e = 0

abbrev number_told : Act → ℕ
number_told (tells e) = number_defined e
number_told a = 0

abbrev cell_defined : Event → Cell
cell_defined (event.Def d c) = c
cell_defined e = record { instance = 0; index = 0 }

abbrev cell_told : Act → Cell
cell_told (tells e) = cell_defined e
cell_told a = record { instance = 0; index = 0 }

no_first : (a d n : ℕ) (cells : List Cell) (r q : List Deed) (e : Event) → map (further a d) cells ≡ r ++ deed n (tells e) ∷ q → ⊥
no_first a d n [] r q e h = longer r q (deed n (tells e)) h
no_first a d n (c ∷ cells) [] q e h = false≢true (ap (λ (x : Deed). is_first x.act) (heads (further a d c) (deed n (tells e)) (map (further a d) cells) q h))
no_first a d n (c ∷ cells) (x ∷ r) q e h = no_first a d n cells r q e (tails (further a d c) x (map (further a d) cells) (r ++ deed n (tells e) ∷ q) h)

module _ (S : Sites) where
  -- all that was done is in place, and what it defines is finished
  abbrev pub AreRight : List Deed → Type 0
  AreRight ds = AreInPlace S ds × AreFinished S ds

  -- ---- an act that finishes by itself what it defines

  abbrev pub HasOne : List Deed → ℕ → Cell → Local → Bool → Type 0
  HasOne ds a c v true = Unit {0}
  HasOne ds a c v false = HasOneName S ds a v c

  abbrev pub IsOne : List Deed → ℕ → Cell → Option Local → Type 0
  IsOne ds a c None = Unit {0}
  IsOne ds a c (Some v) = HasOne ds a c v v.parameter

  abbrev pub ToldOne : List Deed → ℕ → Event → Type 0
  ToldOne ds a (event.Def d c) = IsOne ds a c (S.defined d)
  ToldOne ds a e = Unit {0}

  abbrev pub OneAt : List Deed → ℕ → Act → Type 0
  OneAt ds a (tells e) = ToldOne ds a e
  OneAt ds a b = Unit {0}

  -- ---- lists of deeds

  pub none_finished : AreFinished S []
  none_finished p q a d c v is h = absurd (longer p q (deed a (tells (event.Def d c))) is)

  -- behind more deeds
  longer_rest : (p r ys : List Deed) (a d : ℕ) (c : Cell) (v : Local) (b : Bool) → IsFinished S p r a d c v b → IsFinished S p (r ++ ys) a d c v b
  longer_rest p r ys a d c v true h = tt
  longer_rest p r ys a d c v false (inl h) = inl h
  longer_rest p r ys a d c v false (inr w) = inr (record { cells = w.cells; rest = w.rest ++ ys; is = ap (λ l. l ++ ys) w.is ∙ append_assoc (map (further a d) w.cells) w.rest ys; all = w.all })

  old_finished : (p q r ys : List Deed) (a d : ℕ) (c : Cell) (v : Local) → q ≡ r ++ ys → IsFinished S p r a d c v v.parameter → IsFinished S p q a d c v v.parameter
  old_finished p q r ys a d c v e h = subst (λ l. IsFinished S p l a d c v v.parameter) (sym e) (longer_rest p r ys a d c v v.parameter h)

  one_finished : (p q : List Deed) (a d : ℕ) (c : Cell) (v : Local) (b : Bool) → HasOne p a c v b → IsFinished S p q a d c v b
  one_finished p q a d c v true h = tt
  one_finished p q a d c v false h = inl h

  -- the last deed
  last_finished : (ds p q r : List Deed) (n a d : ℕ) (b : Act) (c : Cell) (v : Local) → p ≡ ds ++ r → deed n b ∷ [] ≡ r ++ deed a (tells (event.Def d c)) ∷ q → S.defined d ≡ Some v → OneAt ds n b → IsFinished S p q a d c v v.parameter
  last_finished ds p q [] n a d b c v is rest e h =
      let at : OneAt ds a (tells (event.Def d c)) = subst (λ (x : Deed). OneAt ds x.activation x.act) (heads (deed n b) (deed a (tells (event.Def d c))) [] q rest) h in
      let one : HasOne ds a c v v.parameter = subst (IsOne ds a c) e at in
      one_finished p q a d c v v.parameter (subst (λ l. HasOne l a c v v.parameter) (sym (is ∙ append-nil ds)) one)
  last_finished ds p q (x ∷ r) n a d b c v is rest e h = absurd (longer r q (deed a (tells (event.Def d c))) (tails (deed n b) x [] (r ++ deed a (tells (event.Def d c)) ∷ q) rest))

  more_by : (ds p q : List Deed) (n a d : ℕ) (b : Act) (c : Cell) (v : Local) → S.defined d ≡ Some v → OneAt ds n b → AreFinished S ds → Split ds (deed n b ∷ []) p q (deed a (tells (event.Def d c))) → IsFinished S p q a d c v v.parameter
  more_by ds p q n a d b c v e h f (front r cut rest) = old_finished p q r (deed n b ∷ []) a d c v rest (f p r a d c v cut e)
  more_by ds p q n a d b c v e h f (back r cut rest) = last_finished ds p q r n a d b c v cut rest e h

  pub finished_more : (ds : List Deed) (n : ℕ) (b : Act) → OneAt ds n b → AreFinished S ds → AreFinished S (ds ++ deed n b ∷ [])
  finished_more ds n b h f p q a d c v is e = more_by ds p q n a d b c v e h f (split_at ds (deed n b ∷ []) p q (deed a (tells (event.Def d c))) is)

  -- ---- a copy

  module _ (n k : ℕ) (cell : Cell) (cells : List Cell) where
    abbrev pub copy_deeds : List Deed
    copy_deeds = deed n (tells (event.Def k cell)) ∷ map (further n k) cells

    event_at : (ds p q : List Deed) (a d : ℕ) (c : Cell) (v : Local) → p ≡ ds → deed n (tells (event.Def k cell)) ≡ deed a (tells (event.Def d c)) → map (further n k) cells ≡ q → S.defined d ≡ Some v
        → ((v : Local) → S.defined k ≡ Some v → IsFinished S ds (map (further n k) cells) n k cell v v.parameter) → IsFinished S p q a d c v v.parameter
    event_at ds p q a d c v ep ex eq e h =
        let ea = ap (λ (x : Deed). x.activation) ex in
        let ed = ap (λ (x : Deed). number_told x.act) ex in
        let ec = ap (λ (x : Deed). cell_told x.act) ex in
        let one = h v (subst (λ (i : ℕ). S.defined i ≡ Some v) (sym ed) e) in
        subst (λ l. IsFinished S l q a d c v v.parameter) (sym ep) (subst (λ l. IsFinished S ds l a d c v v.parameter) eq (
        subst (λ (x : ℕ). IsFinished S ds (map (further n k) cells) x d c v v.parameter) ea (subst (λ (x : ℕ). IsFinished S ds (map (further n k) cells) n x c v v.parameter) ed (
        subst (λ (x : Cell). IsFinished S ds (map (further n k) cells) n k x v v.parameter) ec one))))

    copy_last : (ds p q r : List Deed) (a d : ℕ) (c : Cell) (v : Local) → p ≡ ds ++ r → copy_deeds ≡ r ++ deed a (tells (event.Def d c)) ∷ q → S.defined d ≡ Some v
        → ((v : Local) → S.defined k ≡ Some v → IsFinished S ds (map (further n k) cells) n k cell v v.parameter) → IsFinished S p q a d c v v.parameter
    copy_last ds p q [] a d c v cut rest e h =
        let x = deed n (tells (event.Def k cell)) in
        let y = deed a (tells (event.Def d c)) in
        event_at ds p q a d c v (cut ∙ append-nil ds) (heads x y (map (further n k) cells) q rest) (tails x y (map (further n k) cells) q rest) e h
    copy_last ds p q (x ∷ r) a d c v cut rest e h =
        absurd (no_first n k a cells r q (event.Def d c) (tails (deed n (tells (event.Def k cell))) x (map (further n k) cells) (r ++ deed a (tells (event.Def d c)) ∷ q) rest))

    copy_by : (ds p q : List Deed) (a d : ℕ) (c : Cell) (v : Local) → S.defined d ≡ Some v → ((v : Local) → S.defined k ≡ Some v → IsFinished S ds (map (further n k) cells) n k cell v v.parameter) → AreFinished S ds
        → Split ds copy_deeds p q (deed a (tells (event.Def d c))) → IsFinished S p q a d c v v.parameter
    copy_by ds p q a d c v e h f (front r cut rest) = old_finished p q r copy_deeds a d c v rest (f p r a d c v cut e)
    copy_by ds p q a d c v e h f (back r cut rest) = copy_last ds p q r a d c v cut rest e h

    -- a definition with its further ones, which it is finished by
    pub finished_copy : (ds : List Deed) → ((v : Local) → S.defined k ≡ Some v → IsFinished S ds (map (further n k) cells) n k cell v v.parameter) → AreFinished S ds → AreFinished S (ds ++ copy_deeds)
    finished_copy ds h f p q a d c v is e = copy_by ds p q a d c v e h f (split_at ds copy_deeds p q (deed a (tells (event.Def d c))) is)
