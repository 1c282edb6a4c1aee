-- What digits are worth.
use Rattle.std.proofs.Common.{◌≡◌, ℕ, ◌+◌, ◌*◌, ◌<◌, ◌≤◌, List, length, drop, get_or}
use Rattle.c_lex_pieces.specs.Bytes.{digit_of}
use Rattle.c_lex_pieces.specs.Numbers.{value, value_from}
use Rattle.c_lex_pieces.proofs.Values as values

pub value_at : (base before i : ℕ) (ds : List ℕ) → 1 ≤ base → i < length ds → value_from base before (drop i ds) ≡ value base ds → before * base + digit_of (get_or ds i 0) ≤ value base ds
value_at = values.value_at
