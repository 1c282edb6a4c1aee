-- How many tokens a form has, part by part.
use Rattle.std.proofs.Common.{ℕ, ◌+◌, ◌≡◌, length, refl, arith}
use Rattle.std.proofs.lemmas.List.{length-append}
use Rattle.c_syntax.specs.Forms.{Form, nothing, is, at, starts, seq, kinds}

abbrev pub size : Form → ℕ
size nothing = 0
size (is k) = 1
size (at p k) = 1
size (starts p f) = size f
size (seq f g) = size f + size g

pub size_counts : (f : Form) → size f ≡ length (kinds f)
size_counts nothing = refl
size_counts (is k) = refl
size_counts (at p k) = refl
size_counts (starts p f) = size_counts f
size_counts (seq f g) =
    let a = size_counts f in
    let b = size_counts g in
    let e = length-append (kinds f) (kinds g) in
    omega (arith, a, b, e)
