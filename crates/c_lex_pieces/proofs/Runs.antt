-- A run is the longest: its bytes are of the set, and the byte behind it isn't.
use Rattle.std.proofs.Common.{◌≡◌, ℕ, suc, List, [], ◌∷◌, ◌++◌, length, take, drop, refl, ap, ◌∙◌}
use Rattle.std.specs.Prelude.{Bool, true, false, cond}
use Rattle.c_lex_pieces.specs.declared.bytes.ByteSet.{ByteSet}
use Rattle.c_lex_pieces.specs.Bytes.{is_in, run, AllIn}

-- no byte of the set stands in front
abbrev pub IsPast : ByteSet → List ℕ → Type 0
IsPast set [] = Unit {0}
IsPast set (b ∷ bs) = is_in set b ≡ false

bytes_by : (set : ByteSet) (b : ℕ) (bs : List ℕ) (t : Bool) → is_in set b ≡ t → AllIn set (take (run set bs) bs) → AllIn set (take (cond t (suc (run set bs)) 0) (b ∷ bs))
bytes_by set b bs true is on = (is, on)
bytes_by set b bs false is on = tt

pub run_bytes : (set : ByteSet) (bs : List ℕ) → AllIn set (take (run set bs) bs)
run_bytes set [] = tt
run_bytes set (b ∷ bs) = bytes_by set b bs (is_in set b) refl (run_bytes set bs)

past_by : (set : ByteSet) (b : ℕ) (bs : List ℕ) (t : Bool) → is_in set b ≡ t → IsPast set (drop (run set bs) bs) → IsPast set (drop (cond t (suc (run set bs)) 0) (b ∷ bs))
past_by set b bs true is on = on
past_by set b bs false is on = is

pub run_past : (set : ByteSet) (bs : List ℕ) → IsPast set (drop (run set bs) bs)
run_past set [] = tt
run_past set (b ∷ bs) = past_by set b bs (is_in set b) refl (run_past set bs)

pub run_none : (set : ByteSet) (bs : List ℕ) → IsPast set bs → run set bs ≡ 0
run_none set [] past = refl
run_none set (b ∷ bs) past = ap (λ t. cond t (suc (run set bs)) 0) past

-- bytes of the set, and then none: the run is these bytes
pub run_whole : (set : ByteSet) (w rest : List ℕ) → AllIn set w → IsPast set rest → run set (w ++ rest) ≡ length w
run_whole set [] rest all past = run_none set rest past
run_whole set (b ∷ bs) rest all past = ap (λ t. cond t (suc (run set (bs ++ rest))) 0) (all.0) ∙ ap suc (run_whole set bs rest (all.1) past)
