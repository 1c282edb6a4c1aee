-- The numbers of the complaints, by name.
use Rattle.std.specs.Prelude.{ℕ}

-- a name that stands for nothing (C89, 3.1.2.1)
abbrev pub unknown_name : ℕ
unknown_name = 30

-- a name that is declared once more in its scope, or with another type (C89, 3.5)
abbrev pub declared_twice : ℕ
declared_twice = 31

-- an operand that is no place, where one is wanted (C89, 3.3.16)
abbrev pub not_a_left_side : ℕ
not_a_left_side = 32

-- a type that doesn't fit where it stands
abbrev pub wrong_type : ℕ
wrong_type = 33

-- more or fewer arguments than parameters (C89, 3.3.2.2)
abbrev pub wrong_arg_count : ℕ
wrong_arg_count = 34

-- no constant, or none in its range, where one is wanted (C89, 3.4)
abbrev pub not_constant : ℕ
not_constant = 35

-- a case that comes twice in a `switch` (C89, 3.6.4.2)
abbrev pub case_twice : ℕ
case_twice = 36

-- a label, jump, word or probe that may not stand there
abbrev pub stray : ℕ
stray = 37

-- no definition of `main` (C89, 2.1.2.2.1)
abbrev pub no_main : ℕ
no_main = 38

-- an incomplete type, where an object or value of it would be (C89, 3.1.2.5)
abbrev pub incomplete_type : ℕ
incomplete_type = 39

-- a call of a function that is defined nowhere
abbrev pub undefined : ℕ
undefined = 40

-- a field that the structure doesn't have (C89, 3.3.2.3)
abbrev pub unknown_field : ℕ
unknown_field = 41

-- a type with too many cells
abbrev pub too_large_type : ℕ
too_large_type = 42
