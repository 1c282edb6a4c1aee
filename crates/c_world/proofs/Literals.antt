-- The literals are made one by one.
use Rattle.std.proofs.Common.{◌≡◌, ℕ, zero, suc, ◌+◌, ◌<◌, List, [], ◌∷◌, length, drop, Option, Some, None, refl, sym, ap, ◌∙◌, arith, true, false}
use Rattle.std.specs.Prelude.{slice_get}
use Rattle.std.specs.Option.{is_some}
use Rattle.std.proofs.lemmas.Bool.{false≢true}
use Rattle.c_syntax.specs.declared.text.Text.{Text}
use Rattle.c_store.specs.Cells.{made, literal_cells}
use Rattle.c_meaning.specs.declared.end.Flow.{Flow}
use Rattle.c_meaning.specs.declared.end.Flow.TheVariants.{Next}
use Rattle.c_meaning.specs.declared.end.Stop.{Stop}
use Rattle.c_meaning.specs.State.{State}
use Rattle.c_meaning.specs.Results.{Got, Gives, then_do}
use Rattle.c_meaning.specs.Declarations.{new_instance}
use Rattle.c_meaning.specs.Runs.{literals_made}
use Rattle.c_meaning.proofs.Steps.{then_then}
use Rattle.c_world.specs.Steps.{literal_made}
use Rattle.c_world.specs.World.{answered}

first : (xs : List Text) (i : ℕ) (s : State) → i < length xs → literals_made (drop i xs) s ≡ then_do (literal_made (slice_get xs i) s) (λ f. literals_made (drop (suc i) xs))
first [] i s h = absurd (omega arith)
first (x ∷ xs) zero s h = sym (then_then (new_instance (made s.store false (literal_cells x)) s) (λ j s. Gives Next s) (λ f. literals_made xs))
first (x ∷ xs) (suc i) s h = first xs i s (omega (arith, h))

stops : (o : Option Stop) (t : State) (g : Flow → State → Got Flow) → is_some o ≡ true → then_do (answered o t) g ≡ answered o t
stops None t g e = absurd (false≢true e)
stops (Some why) t g e = refl

goes_on : (o : Option Stop) (t : State) (g : Flow → State → Got Flow) → is_some o ≡ false → then_do (answered o t) g ≡ g Next t
goes_on None t g e = refl
goes_on (Some why) t g e = absurd (false≢true (sym e))

pub literals_stop : (xs ys : List Text) (i : ℕ) (o : Option Stop) (s t : State) → i < length xs → ys ≡ xs → literal_made (slice_get ys i) s ≡ answered o t → is_some o ≡ true → literals_made (drop i xs) s ≡ answered o t
literals_stop xs ys i o s t h e is some =
    first xs i s h ∙ ap (λ r. then_do r (λ f. literals_made (drop (suc i) xs))) (ap (λ xs. literal_made (slice_get xs i) s) (sym e) ∙ is) ∙ stops o t (λ f. literals_made (drop (suc i) xs)) some

pub literals_next : (xs ys : List Text) (i : ℕ) (o : Option Stop) (s t : State) → i < length xs → ys ≡ xs → literal_made (slice_get ys i) s ≡ answered o t → is_some o ≡ false → literals_made (drop (i + 1) xs) t ≡ literals_made (drop i xs) s
literals_next xs ys i o s t h e is none =
    let k : i + 1 ≡ suc i = omega arith in
    ap (λ k. literals_made (drop k xs) t) k ∙ sym (first xs i s h ∙ ap (λ r. then_do r (λ f. literals_made (drop (suc i) xs))) (ap (λ xs. literal_made (slice_get xs i) s) (sym e) ∙ is) ∙ goes_on o t (λ f. literals_made (drop (suc i) xs)) none)

pub within : (i n : ℕ) (xs ys : List Text) → i < n → n ≡ length ys → ys ≡ xs → i < length xs
within i n xs ys h e same = let k : length ys ≡ length xs = ap (λ x. length x) same in omega (arith, h, e, k)
