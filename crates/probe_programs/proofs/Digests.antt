-- The digest of a program line is spelled in bytes.
use Rattle.std.proofs.Common.{◌≡◌, ℕ, ◌≤◌, ◌<◌, List, [], ◌∷◌, Option, Some, None, Bool, true, false, is_some, length, refl, arith}
use Rattle.std.specs.Prelude.{◌&&◌, ◌||◌, nat_eq, nat_le, if◌then◌else◌}
use Rattle.std.specs.List.{list_all}
use Rattle.std.proofs.lemmas.Bool.{and_parts, leb-true}
use Rattle.c_syntax.specs.declared.text.Text.{Text}
use Rattle.c_lex_pieces.specs.Bytes.{between}
use Rattle.c_lex_pieces.specs.Written.{AreBytes}
use Rattle.c_constants.specs.Probes.{is_lower_digit, is_digest, digest_of}
use Rattle.probe_programs.specs.Programs.{IsDigest}

either_byte : (digit letter : Bool) (b : ℕ) → between 48 57 b ≡ digit → between 97 102 b ≡ letter → (digit || letter) ≡ true → b < 256
either_byte true letter b d l h = let fits = leb-true b 57 (and_parts (nat_le 48 b) (nat_le b 57) d).1 in omega (arith, fits)
either_byte false true b d l h = let fits = leb-true b 102 (and_parts (nat_le 97 b) (nat_le b 102) l).1 in omega (arith, fits)
either_byte false false b d l h = cc

all_bytes : (text : List ℕ) → list_all is_lower_digit text ≡ true → AreBytes text
all_bytes [] h = tt
all_bytes (b ∷ rest) h =
    let parts = and_parts (is_lower_digit b) (list_all is_lower_digit rest) h in
    (either_byte (between 48 57 b) (between 97 102 b) b refl refl parts.0, all_bytes rest parts.1)

some_if : {A : Type 0} (b : Bool) (a : A) → is_some (if b then Some a else None) ≡ true → b ≡ true
some_if true a h = refl
some_if false a h = cc

pub digest_bytes : (digest : Text) → IsDigest digest → AreBytes digest
digest_bytes digest fits =
    let is = some_if (is_digest digest) _ fits in
    all_bytes digest (and_parts (nat_eq (length digest) 64) (list_all is_lower_digit digest) is).1
