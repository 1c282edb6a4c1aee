-- What digits are worth.
use Rattle.std.proofs.Common.{◌≡◌, ℕ, suc, ◌+◌, ◌*◌, ◌<◌, ◌≤◌, List, [], ◌∷◌, length, drop, get_or, ap, sym, ◌∙◌, arith}
use Rattle.std.proofs.Math.Seq.{drop-cons}
use Rattle.c_lex_pieces.specs.Bytes.{digit_of}
use Rattle.c_lex_pieces.specs.Numbers.{value, value_from}

more : (base before d : ℕ) → 1 ≤ base → before ≤ before * base + d
more base before d one = grind arith

-- further digits make no number smaller
pub value_grows : (base before : ℕ) (ds : List ℕ) → 1 ≤ base → before ≤ value_from base before ds
value_grows base before [] one = omega arith
value_grows base before (d ∷ ds) one = omega (arith, more base before (digit_of d) one, value_grows base (before * base + digit_of d) ds one)

pub value_at : (base before i : ℕ) (ds : List ℕ) → 1 ≤ base → i < length ds → value_from base before (drop i ds) ≡ value base ds → before * base + digit_of (get_or ds i 0) ≤ value base ds
value_at base before i ds one lt e =
    let whole : value_from base (before * base + digit_of (get_or ds i 0)) (drop (suc i) ds) ≡ value base ds = ap (value_from base before) (sym (drop-cons ds i 0 lt)) ∙ e in
    omega (arith, whole, value_grows base (before * base + digit_of (get_or ds i 0)) (drop (suc i) ds) one)
