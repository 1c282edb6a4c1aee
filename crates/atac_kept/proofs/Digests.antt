-- A digest is bytes.
use Rattle.std.proofs.Common.{ℕ, zero, suc, ◌<◌, List, [], ◌∷◌, ◌++◌, arith}
use Rattle.std.specs.Prelude.{slice_index}
use Rattle.std.specs.Int.{w32, to_be_bytes}
use Rattle.sha2.specs.Sha256.{sha256, digest_bytes, final_hash, initial_hash_256}
use Rattle.hex.specs.Hex.{IsBytes}
use Rattle.c_lex_pieces.specs.Written.{AreBytes}

both_bytes : (xs ys : List ℕ) → AreBytes xs → AreBytes ys → AreBytes (xs ++ ys)
both_bytes [] ys h g = g
both_bytes (x ∷ xs) ys h g = (h.0, both_bytes xs ys h.1 g)

word_bytes : (x : ℕ) → AreBytes (to_be_bytes w32 x)
word_bytes x = (omega arith, (omega arith, (omega arith, (omega arith, tt))))

digest_so : (h : List ℕ) (n : ℕ) → AreBytes (digest_bytes h n)
unfolding digest_bytes
digest_so h zero = tt
digest_so h (suc n) = both_bytes (digest_bytes h n) (to_be_bytes w32 (slice_index h n)) (digest_so h n) (word_bytes (slice_index h n))

at_each : (xs : List ℕ) → AreBytes xs → IsBytes xs
at_each [] h i = omega arith
at_each (x ∷ xs) h zero = h.0
at_each (x ∷ xs) h (suc i) = at_each xs h.1 i

pub digest_bytes_so : (m : List ℕ) → IsBytes (sha256 m)
unfolding sha256
digest_bytes_so m = at_each (digest_bytes (final_hash initial_hash_256 m) 8) (digest_so (final_hash initial_hash_256 m) 8)
