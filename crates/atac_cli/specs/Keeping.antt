-- The names beside a name, under which a file is written before it is put in the place of another.
use Rattle.std.specs.Prelude.{ℕ, List, ◌++◌, codes, length, nat_lt, cond, Option, Some, None}
use Rattle.std.specs.Path.{path_file_name, path_with_file_name}
use Rattle.std.specs.Fmt.{decimal}

abbrev pub ending : ℕ → List ℕ
ending number = codes ".atac-" ++ decimal number

abbrev pub behind : List ℕ → ℕ → Option (List ℕ) → List ℕ
behind name number None = name ++ ending number
behind name number (Some last) = cond (nat_lt 240 (length last)) (path_with_file_name name (ending number)) (name ++ ending number)

-- the name with an ending, or the ending alone in its folder where its last part has more than 240 bytes
abbrev pub beside : List ℕ → ℕ → List ℕ
beside name number = behind name number (path_file_name name)
