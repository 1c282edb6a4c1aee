-- What is left to write, with its first part taken off.
use Rattle.std.proofs.Common.{◌≡◌, ℕ, ◌+◌, ◌-◌, ◌<◌, suc, ◌∷◌, arith}
use Rattle.c_syntax.specs.declared.token.TokenKind.TheVariants as kind
use Rattle.c_syntax.specs.declared.token.Key.TheVariants as k
use Rattle.c_syntax.specs.Forms.{kinds}
use Rattle.c_syntax.specs.Grammar.{consts_form}

pub next_const : (n i : ℕ) → i < n → kinds (consts_form (n - i)) ≡ kind.Key k.Const ∷ kinds (consts_form (n - (i + 1)))
next_const n i less =
    let e : n - i ≡ suc (n - (i + 1)) = omega arith in
    rw e
