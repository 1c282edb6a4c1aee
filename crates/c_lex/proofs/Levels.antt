-- Enough levels are enough, and what a stack has left to do.
use Rattle.std.proofs.Common.{◌≡◌, ℕ, zero, suc, ◌<◌, ◌≤◌, List, [], ◌∷◌, ◌++◌, Option, Some, None, Bool, true, false, refl, ap, ◌∙◌, arith, cond, append_assoc, append-nil, subst, length, map}
use Rattle.std.specs.Prelude.{flat_map, option_and_then, slice_get, slice_set, reverse}
use Rattle.std.proofs.lemmas.List.{reverse-append}
use Rattle.std.proofs.lemmas.Grind.{flat_map-append}
use Rattle.c_lex.specs.declared.expand.Frame.{Frame}
use Rattle.c_lex.specs.declared.table.Piece.{Piece}
use Rattle.c_lex.specs.Macros.{Spelled, spelled, Row, found}
use Rattle.c_base.specs.declared.place.Pos.{Pos}
use Rattle.c_lex.specs.Output.{Made, is_word}
use Rattle.c_lex.specs.Expand.{is_closed, unless_open, macro_of, Step, replaced, gave, one_step, steps, closed_rows, expansion}
use Rattle.c_lex.specs.Replacing.{closed_in, closed_of, left_in, left_of, replace_one, spent}

-- opening a closed row leaves one closed row fewer
opened : (h : List Bool) (i : ℕ) → slice_get h i ≡ Some false → closed_rows (slice_set h i true) < closed_rows h
opened [] i e = cc
opened (true ∷ h) zero e = cc
opened (false ∷ h) zero e = omega arith
opened (true ∷ h) (suc i) e = opened h i e
opened (false ∷ h) (suc i) e = omega (arith, opened h i e)

-- opening a closed row and closing it again changes nothing
reclosed : (h : List Bool) (i : ℕ) → slice_get h i ≡ Some false → slice_set (slice_set h i true) i false ≡ h
reclosed [] i e = cc
reclosed (true ∷ h) zero e = cc
reclosed (false ∷ h) zero e = refl
reclosed (b ∷ h) (suc i) e = ap (λ l. b ∷ l) (reclosed h i e)

was_closed : (o : Option Bool) → is_closed o ≡ true → o ≡ Some false
was_closed None e = cc
was_closed (Some true) e = cc
was_closed (Some false) e = refl

closed_at : (b : Bool) (h : List Bool) (m n : ℕ × List Spelled) → is_closed (slice_get h m.0) ≡ b → cond b (Some m) None ≡ Some n → slice_get h n.0 ≡ Some false
closed_at true h m n e f = let q : m ≡ n = cc in subst (λ (w : ℕ × List Spelled). slice_get h w.0 ≡ Some false) q (was_closed (slice_get h m.0) e)
closed_at false h m n e f = cc

closed_there : (h : List Bool) (o : Option (ℕ × List Spelled)) (n : ℕ × List Spelled) → unless_open h o ≡ Some n → slice_get h n.0 ≡ Some false
closed_there h None n e = cc
closed_there h (Some m) n e = closed_at (is_closed (slice_get h m.0)) h m n refl e

closed_word : (b : Bool) (h : List Bool) (o : Option (ℕ × List Spelled)) (n : ℕ × List Spelled) → cond b (unless_open h o) None ≡ Some n → slice_get h n.0 ≡ Some false
closed_word true h o n e = closed_there h o n e
closed_word false h o n e = cc

-- a macro that is found is closed
pub macro_closed : (T : List Row) (h : List Bool) (t : Spelled) (m : ℕ × List Spelled) → macro_of T h t ≡ Some m → slice_get h m.0 ≡ Some false
macro_closed T h t m e = closed_word (is_word t.0) h (found t.1 T) m e

fewer : (T : List Row) (h : List Bool) (t : Spelled) (m : ℕ × List Spelled) → macro_of T h t ≡ Some m → closed_rows (slice_set h m.0 true) < closed_rows h
fewer T h t m e = opened h m.0 (macro_closed T h t m e)

-- ENOUGH LEVELS: two numbers of levels above the closed rows do the same
flat_same : (f g : Spelled → List Step) (ts : List Spelled) → ((t : Spelled) → f t ≡ g t) → flat_map f ts ≡ flat_map g ts
flat_same f g [] e = refl
flat_same f g (t ∷ ts) e = rw (e t, flat_same f g ts e) refl

levels_one : (j k : ℕ) (T : List Row) (h : List Bool) (t : Spelled) (o : Option (ℕ × List Spelled)) → ((m : ℕ × List Spelled) → o ≡ Some m → closed_rows (slice_set h m.0 true) < closed_rows h) → closed_rows h ≤ j → closed_rows h ≤ k → ((g : List Bool) (us : List Spelled) → closed_rows g < j → closed_rows g < k → steps j T g us ≡ steps k T g us) → one_step (steps j T) h t o ≡ one_step (steps k T) h t o
levels_one j k T h t None f p q r = refl
levels_one j k T h t (Some m) f p q r = let l = f m refl in ap (λ ss. replaced ∷ ss) (r (slice_set h m.0 true) m.1 (omega (arith, l, p)) (omega (arith, l, q)))

pub levels : (j k : ℕ) (T : List Row) (h : List Bool) (ts : List Spelled) → closed_rows h < j → closed_rows h < k → steps j T h ts ≡ steps k T h ts
levels zero k T h ts p q = absurd (omega (arith, p))
levels (suc j) zero T h ts p q = absurd (omega (arith, q))
levels (suc j) (suc k) T h ts p q = flat_same _ _ ts (λ t. levels_one j k T h t (macro_of T h t) (fewer T h t) (omega (arith, p)) (omega (arith, q)) (λ g us. levels j k T g us))

-- THE RULES OF REPLACEMENT, with no levels in them
pub expand_none : (T : List Row) (h : List Bool) → expansion T h [] ≡ []
unfolding expansion
expand_none T h = refl

pub expand_append : (T : List Row) (h : List Bool) (ts us : List Spelled) → expansion T h (ts ++ us) ≡ expansion T h ts ++ expansion T h us
unfolding expansion
expand_append T h ts us = flat_map-append _ ts us

pub expand_cons : (T : List Row) (h : List Bool) (t : Spelled) (ts : List Spelled) → expansion T h (t ∷ ts) ≡ expansion T h (t ∷ []) ++ expansion T h ts
expand_cons T h t ts = expand_append T h (t ∷ []) ts

pub expand_token : (T : List Row) (h : List Bool) (t : Spelled) → macro_of T h t ≡ None → expansion T h (t ∷ []) ≡ gave t ∷ []
unfolding expansion
expand_token T h t e = rw e refl

pub expand_macro : (T : List Row) (h : List Bool) (t : Spelled) (m : ℕ × List Spelled) → macro_of T h t ≡ Some m → expansion T h (t ∷ []) ≡ replaced ∷ expansion T (slice_set h m.0 true) m.1
unfolding expansion
expand_macro T h t m e = rw e (ap (λ ss. replaced ∷ (ss ++ [])) (levels (closed_rows h) (suc (closed_rows (slice_set h m.0 true))) T (slice_set h m.0 true) m.1 (fewer T h t m e) (omega arith)) ∙ ap (λ ss. replaced ∷ ss) (append-nil _))

-- THE STACK
last_first : (fs : List Frame) (f : Frame) → reverse (fs ++ f ∷ []) ≡ f ∷ reverse fs
last_first fs f = reverse-append fs (f ∷ [])

-- a token that is given
pub give : (T : List Row) (h : List Bool) (fs : List Frame) (t : Spelled) → macro_of T h t ≡ None → expansion T h (t ∷ []) ++ left_of T h fs ≡ gave t ∷ left_of T h fs
give T h fs t e = rw (expand_token T h t e) refl

-- a list that is opened
pub open_list : (T : List Row) (h : List Bool) (fs : List Frame) (f : Frame) (t : Spelled) (m : ℕ × List Spelled) → macro_of T h t ≡ Some m → f.row ≡ m.0 → map spelled f.rest.now ≡ m.1 → expansion T h (t ∷ []) ++ left_of T h fs ≡ replaced ∷ left_of T (slice_set h m.0 true) (fs ++ f ∷ [])
open_list T h fs f t m e p q =
    let again = reclosed h m.0 (macro_closed T h t m e) in
    rw (expand_macro T h t m e, last_first fs f, p, q, again) refl

pub open_marks : (T : List Row) (h : List Bool) (fs : List Frame) (f : Frame) (t : Spelled) (m : ℕ × List Spelled) → macro_of T h t ≡ Some m → f.row ≡ m.0 → closed_of (slice_set h m.0 true) (fs ++ f ∷ []) ≡ closed_of h fs
open_marks T h fs f t m e p =
    ap (λ l. closed_in (slice_set h m.0 true) l) (last_first fs f)
    ∙ ap (λ i. closed_in (slice_set (slice_set h m.0 true) i false) (reverse fs)) p
    ∙ ap (λ l. closed_in l (reverse fs)) (reclosed h m.0 (macro_closed T h t m e))

-- a token is taken from the innermost list
pub turn : (T : List Row) (h : List Bool) (fs : List Frame) (f g : Frame) (t : Piece) → g.row ≡ f.row → f.rest.now ≡ t ∷ g.rest.now → left_of T h (fs ++ f ∷ []) ≡ expansion T h (spelled t ∷ []) ++ left_of T h (fs ++ g ∷ [])
turn T h fs f g t p q =
    rw (last_first fs f, last_first fs g, p, q, expand_cons T h (spelled t) (map spelled g.rest.now))
    (append_assoc (expansion T h (spelled t ∷ [])) (expansion T h (map spelled g.rest.now)) (left_in T (slice_set h f.row false) (reverse fs)))

pub turn_marks : (h : List Bool) (fs : List Frame) (f g : Frame) → g.row ≡ f.row → closed_of h (fs ++ f ∷ []) ≡ closed_of h (fs ++ g ∷ [])
turn_marks h fs f g p = rw (last_first fs f, last_first fs g, p) refl

no_items : (l : List Piece) → length l ≡ 0 → l ≡ []
no_items [] h = refl
no_items (t ∷ l) h = absurd (omega (arith, h))

-- the innermost list is over
pub close_empty : (T : List Row) (h : List Bool) (fs : List Frame) (f : Frame) → length f.rest.now ≡ 0 → left_of T h (fs ++ f ∷ []) ≡ left_of T (slice_set h f.row false) fs
close_empty T h fs f q = rw (last_first fs f, no_items f.rest.now q, expand_none T h) refl

pub close_marks : (h : List Bool) (fs : List Frame) (f : Frame) → closed_of h (fs ++ f ∷ []) ≡ closed_of (slice_set h f.row false) fs
close_marks h fs f = rw (last_first fs f) refl

-- a macro that can't be replaced, and one that is
pub take_refused : (p : Pos) (n : Made) (T : List Row) (h : List Bool) (rest : List Step) (t : Spelled) (m : ℕ × List Spelled) → macro_of T h t ≡ Some m → replace_one n ≡ None → spent p n (expansion T h (t ∷ []) ++ rest) ≡ None
take_refused p n T h rest t m e r = rw (expand_macro T h t m e, r) refl

pub take_opened : (p : Pos) (n o : Made) (T : List Row) (h g : List Bool) (fs gs : List Frame) (f : Frame) (t : Spelled) (m : ℕ × List Spelled) → macro_of T h t ≡ Some m → f.row ≡ m.0 → map spelled f.rest.now ≡ m.1 → replace_one n ≡ Some o → g ≡ slice_set h m.0 true → gs ≡ fs ++ f ∷ [] → spent p n (expansion T h (t ∷ []) ++ left_of T h fs) ≡ spent p o (left_of T g gs)
take_opened p n o T h g fs gs f t m e q r s a b =
    ap (λ ss. spent p n ss) (open_list T h fs f t m e q r) ∙ ap (λ x. option_and_then (λ y. spent p y (left_of T (slice_set h m.0 true) (fs ++ f ∷ []))) x) s
    ∙ rw (a, b) refl
