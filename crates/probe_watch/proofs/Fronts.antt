-- A text that begins with another one.
use Rattle.std.proofs.Common.{◌≡◌, ℕ, List, [], ◌++◌, length, take, sym, ap, ◌∙◌, append_assoc, append-nil}
use Rattle.std.proofs.Math.Seq.{take-append_seam}
use Rattle.atac_base.specs.Outside.{IsFront}

pub front_same : (a b : List ℕ) → b ≡ a → IsFront a b
front_same a b e = ([], e ∙ sym (append-nil a))

pub front_more : (a b x : List ℕ) → b ≡ a ++ x → IsFront a b
front_more a b x e = (x, e)

pub front_on : (a b c : List ℕ) → IsFront a b → IsFront b c → IsFront a c
front_on a b c p q = (p.0 ++ q.0, q.1 ∙ ap (λ y. y ++ q.0) p.1 ∙ append_assoc a p.0 q.0)

-- what stands behind it can be taken off again
pub front_taken : (a b : List ℕ) → IsFront a b → take (length a) b ≡ a
front_taken a b p = ap (take (length a)) p.1 ∙ take-append_seam a p.0
