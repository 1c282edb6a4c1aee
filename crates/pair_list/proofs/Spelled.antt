-- Where `[]` stands in a name it stands in the name's text.
use Rattle.std.proofs.Common.{ℕ, zero, suc, ◌+◌, ◌++◌, ◌≡◌, List, [], ◌∷◌, Some, None, encode_utf8_all, refl, sym, subst, arith}
use Rattle.std.specs.Prelude.{slice_get}
use Rattle.std.specs.Char.{encode_utf8}
use Rattle.pair_list.specs.Sites.{HasIndex}

one_later : (i : ℕ) → suc (i + 1) ≡ suc i + 1
one_later i = omega arith

index_after : (front x : List ℕ) → HasIndex x → HasIndex (front ++ x)
index_after [] x h = h
index_after (b ∷ front) x h = let k = index_after front x h in (suc k.0, k.1, subst (λ (n : ℕ). slice_get (b ∷ (front ++ x)) n ≡ Some 93) (one_later k.0) k.2)

same_byte : (a b : ℕ) → Some a ≡ Some b → a ≡ b
same_byte a b e = cc

no_byte : (a : ℕ) → None ≡ Some a → ⊥
no_byte a e = cc

index_here : (a b : ℕ) (x : List ℕ) → a ≡ 91 → b ≡ 93 → HasIndex (encode_utf8 a ++ (encode_utf8 b ++ x))
unfolding encode_utf8
index_here a b x p q = subst (λ (c : ℕ). HasIndex (encode_utf8 c ++ (encode_utf8 b ++ x))) (sym p) (subst (λ (c : ℕ). HasIndex (encode_utf8 91 ++ (encode_utf8 c ++ x))) (sym q) (0, refl, refl))

pub spelled_index : (x : List ℕ) → HasIndex x → HasIndex (encode_utf8_all x)
spelled_index [] (i, p, q) = absurd (no_byte 91 p)
spelled_index (a ∷ x) (suc i, p, q) = index_after (encode_utf8 a) (encode_utf8_all x) (spelled_index x (i, p, subst (λ (n : ℕ). slice_get (a ∷ x) n ≡ Some 93) (sym (one_later i)) q))
spelled_index (a ∷ []) (zero, p, q) = absurd (no_byte 93 q)
spelled_index (a ∷ b ∷ x) (zero, p, q) = index_here a b (encode_utf8_all x) (same_byte a 91 p) (same_byte b 93 q)
