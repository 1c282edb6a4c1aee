-- Where the bodies of functions begin.
use Rattle.std.proofs.Common.{◌≡◌, ℕ, suc, ◌+◌, ◌-◌, ◌<◌, ◌≤◌, List, [], ◌∷◌, ◌++◌, length, take, drop, get_or, Option, Some, None, Bool, true, false, nat_eq, refl, sym, ap, subst, ◌∙◌, arith, length-drop, append_assoc}
use Rattle.std.specs.Prelude.{if◌then◌else◌, option_map}
use Rattle.std.proofs.lemmas.List.{get_or_append_left, get_or_default, drop-append-le, drop-drop, append-nil}
use Rattle.std.proofs.Math.Seq.{get_or-append_seam, take-length}
use Rattle.std.proofs.lemmas.Bool.{eqb-true}
use borrow.Author.Count.{below_more}
use Rattle.c_syntax.specs.Shape.{ExternalShape, defined, declared, declarator}
use Rattle.c_tables.specs.Tables.{TablesShape}
use Rattle.c_tables.specs.Rows.{text_of, number_from}
use Rattle.c_walk.specs.Units.{number_or, function_of, has_body}
use Rattle.c_meaning.specs.Firsts.{First}
use Rattle.c_meaning.specs.Counts.{past_external, compound_variables}
use Rattle.c_meaning.specs.Calls.{Source, Routine, inside_function, routine_in, routine}
use Rattle.c_meaning.specs.Runs.{silent}
use Rattle.c_plan.specs.declared.routines.Routine as code
use Rattle.c_plan.specs.Routines.{routine_of}
use Rattle.c_plan.specs.declared.extent.Extent.{Extent}
use Rattle.c_plan.specs.declared.start.Start.{Start}
use Rattle.c_plan.specs.Extents.{compound_extents, body_extents, Begins}
use Rattle.c_plan.specs.Starts.{nowhere, IsStart, AreStarts, IsPlanned}
use Rattle.c_plan.proofs.Fronts.{begins_split, begins_made, begins_length, begins_right}

-- ---- at one of them

pub found : (P : Source) (starts : List Start) (all : List Extent) (f : ℕ) (r : Routine) (s : Start) → IsPlanned P starts all → routine P silent f ≡ Some r → s ≡ get_or starts f s → IsStart r s all
found P starts all f r s is h e = subst (λ s. IsStart r s all) (get_or_default starts f nowhere s (is f r h).0 ∙ sym e) (is f r h).1

pub within : (r : Routine) (s : Start) (all : List Extent) → IsStart r s all → s.at < length all
within r s all is = omega (arith, begins_length (body_extents r.body) (drop s.at all) is.2, length-drop s.at all)

pub body_listed : (r : Routine) (s : Start) (all now : List Extent) → now ≡ all → IsStart r s all → Begins (compound_extents r.body) (take (length now - (s.at + 1)) (drop (s.at + 1) now))
body_listed r s all now e is =
    let d : drop (s.at + 1) now ≡ drop 1 (drop s.at all) = ap (drop (s.at + 1)) e ∙ sym (drop-drop 1 s.at all) in
    rw (sym (length-drop (s.at + 1) now), take-length (drop (s.at + 1) now), d) (begins_right (record { statements = suc (length (compound_extents r.body)); variables = compound_variables r.body } ∷ []) (compound_extents r.body) (drop s.at all) 1 is.2 refl)

-- ---- when one is added

-- what begins in the extents still does when there are more of them
still : (xs all more : List Extent) (n : ℕ) → n ≤ length all → Begins all more → Begins xs (drop n all) → Begins xs (drop n more)
still xs all more n h b is =
    let zs = drop (length all) more in
    let e : drop n more ≡ drop n all ++ zs = ap (drop n) (begins_split all more b) ∙ drop-append-le n all zs h in
    begins_made xs (drop n more) (drop (length xs) (drop n all) ++ zs) (e ∙ ap (λ l. l ++ zs) (begins_split xs (drop n all) is) ∙ append_assoc xs _ zs)

start_still : (r : Routine) (s : Start) (all more : List Extent) → Begins all more → IsStart r s all → IsStart r s more
start_still r s all more b is = let lt = within r s all is in (is.0, is.1, still (body_extents r.body) all more s.at (omega arith) b is.2)

pub added : (P : Source) (n : ℕ) (starts new : List Start) (all more : List Extent) (s : Start) → length starts ≡ n → new ≡ starts ++ s ∷ [] → Begins all more → ((r : Routine) → routine P silent n ≡ Some r → IsStart r s more) → AreStarts P n starts all → AreStarts P (n + 1) new more
added P n starts new all more s len e b here below =
    let Q : ℕ → Type 0 = λ f. (r : Routine) → routine P silent f ≡ Some r → IsStart r (get_or new f nowhere) more in
    below_more Q n
    (λ f lt r h. subst (λ l. IsStart r (get_or l f nowhere) more) (sym e) (subst (λ s. IsStart r s more) (sym (get_or_append_left starts (s ∷ []) nowhere f (omega arith))) (start_still r (get_or starts f nowhere) all more b (below f lt r h))))
    (λ r h. subst (λ l. IsStart r (get_or l n nowhere) more) (sym e) (subst (λ k. IsStart r (get_or (starts ++ s ∷ []) k nowhere) more) len (subst (λ s. IsStart r s more) (sym (get_or-append_seam starts s [] nowhere)) (here r h))))

pub added_none : (P : Source) (n : ℕ) (found : Option code.Routine) (s : Start) (more : List Extent) → option_map routine_of found ≡ routine P silent n → found ≡ None → (r : Routine) → routine P silent n ≡ Some r → IsStart r s more
added_none P n found s more e is r h = let k : None ≡ Some r = ap (option_map routine_of) (sym is) ∙ e ∙ h in cc

pub added_some : (P : Source) (n : ℕ) (found : Option code.Routine) (q : code.Routine) (s : Start) (more : List Extent) → option_map routine_of found ≡ routine P silent n → found ≡ Some q → IsStart (routine_of q) s more → (r : Routine) → routine P silent n ≡ Some r → IsStart r s more
added_some P n found q s more e is at r h =
    let k : Some (routine_of q) ≡ Some r = ap (option_map routine_of) (sym is) ∙ e ∙ h in
    let j : routine_of q ≡ r = cc in
    subst (λ r. IsStart r s more) j at

-- ---- the numbers of functions

chosen : (b : Bool) (n m k : ℕ) → n < m → k < m → number_or (if b then Some n else Some k) < m
chosen true n m k h g = h
chosen false n m k h g = g

number_below : {R : Type 0} (test : R → Bool) (n : ℕ) (rows : List R) → 1 ≤ n → number_or (number_from test n rows) < n + length rows
number_below test n [] h = omega arith
number_below test n (r ∷ rows) h = below (test r) n (number_from test (n + 1) rows) (length rows) (number_below test (n + 1) rows (omega arith))
  where
    below : (b : Bool) (n : ℕ) (o : Option ℕ) (m : ℕ) → number_or o < (n + 1) + m → number_or (if b then Some n else o) < n + suc m
    below true n o m h = omega arith
    below false n o m h = omega arith

defined_below : (t : TablesShape) (f : ℕ) (b : Bool) (x : List ℕ) (q r : Routine) (o : Option Routine) → nat_eq (function_of t x) f ≡ b → (o ≡ Some r → f ≤ length t.functions) → (if b then Some q else o) ≡ Some r → f ≤ length t.functions
defined_below t f true x q r o e on h = omega (arith, eqb-true (function_of t x) f e, number_below (has_body x) 1 t.functions (omega arith))
defined_below t f false x q r o e on h = on h

routine_below : (t : TablesShape) (f : ℕ) (i : First) (es : List ExternalShape) (r : Routine) → routine_in t f i es ≡ Some r → f ≤ length t.functions
routine_below t f i [] r h = cc
routine_below t f i (declared d ∷ rest) r h = routine_below t f (past_external t (declared d) i) rest r h
routine_below t f i (defined specs (declarator stars x d e) ms c ∷ rest) r h =
    let next = past_external t (defined specs (declarator stars x d e) ms c) i in
    defined_below t f (nat_eq (function_of t (text_of x)) f) (text_of x) (record { params = d; marks = ms; body = c; first = inside_function f i }) r (routine_in t f next rest) refl (routine_below t f next rest r) h

pub all_planned : (P : Source) (n : ℕ) (starts : List Start) (all : List Extent) → length starts ≡ n + 1 → length P.tables.functions ≤ n → AreStarts P (n + 1) starts all → IsPlanned P starts all
all_planned P n starts all len few are = λ f r h. let b = routine_below P.tables f silent P.unit.externals r h in (omega (arith, b), are f (omega (arith, b)) r h)

pub begins_same : (xs ys : List Extent) → ys ≡ xs → Begins xs ys
begins_same xs ys e = begins_made xs ys [] (e ∙ sym (append-nil xs))
