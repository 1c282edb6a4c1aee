-- The specifier words of a declaration, and the type that they mean together.
use Rattle.std.specs.Prelude.{List, [], ◌∷◌, Bool, true, false, ◌&&◌, if◌then◌else◌}
use Rattle.c_base.specs.declared.place.IntKind.TheVariants as kind
use Rattle.c_syntax.specs.declared.token.Key.{Key}
use Rattle.c_syntax.specs.declared.token.Key.TheVariants as key
use Rattle.c_constants.specs.declared.words.Count.{Count}
use Rattle.c_constants.specs.declared.words.Count.TheVariants.{Zero, One, More}
use Rattle.c_constants.specs.declared.words.Words.{Words}
use Rattle.c_constants.specs.declared.words.Base.{Base}
use Rattle.c_constants.specs.declared.words.Base.TheVariants.{Void, Int, Tagged, Wrong}

abbrev pub next : Count → Count
next Zero = One
next One = More
next More = More

abbrev pub none : Words
none = record { void = Zero; char = Zero; short = Zero; int = Zero; long = Zero; signed = Zero; unsigned = Zero; tagged = Zero }

-- the words of a type count, and no others
abbrev pub added : Words → Key → Words
added w key.Void = record w { void = next w.void }
added w key.Char = record w { char = next w.char }
added w key.Short = record w { short = next w.short }
added w key.Int = record w { int = next w.int }
added w key.Long = record w { long = next w.long }
added w key.Signed = record w { signed = next w.signed }
added w key.Unsigned = record w { unsigned = next w.unsigned }
added w _ = w

abbrev pub tagged : Words → Words
tagged w = record w { tagged = next w.tagged }

-- the words in order, behind those that came before
abbrev pub all_added : Words → List Key → Words
all_added w [] = w
all_added w (k ∷ ks) = all_added (added w k) ks

-- ---- what they mean

-- the words of each type, in any order
abbrev pub types : List (List Key × Base)
types =
    (key.Void ∷ [], Void)
    ∷ (key.Char ∷ [], Int kind.Char)
    ∷ (key.Signed ∷ key.Char ∷ [], Int kind.Char)
    ∷ (key.Unsigned ∷ key.Char ∷ [], Int kind.UChar)
    ∷ (key.Short ∷ [], Int kind.Short)
    ∷ (key.Signed ∷ key.Short ∷ [], Int kind.Short)
    ∷ (key.Short ∷ key.Int ∷ [], Int kind.Short)
    ∷ (key.Signed ∷ key.Short ∷ key.Int ∷ [], Int kind.Short)
    ∷ (key.Unsigned ∷ key.Short ∷ [], Int kind.UShort)
    ∷ (key.Unsigned ∷ key.Short ∷ key.Int ∷ [], Int kind.UShort)
    ∷ (key.Int ∷ [], Int kind.Int)
    ∷ (key.Signed ∷ [], Int kind.Int)
    ∷ (key.Signed ∷ key.Int ∷ [], Int kind.Int)
    ∷ (key.Unsigned ∷ [], Int kind.UInt)
    ∷ (key.Unsigned ∷ key.Int ∷ [], Int kind.UInt)
    ∷ (key.Long ∷ [], Int kind.Long)
    ∷ (key.Signed ∷ key.Long ∷ [], Int kind.Long)
    ∷ (key.Long ∷ key.Int ∷ [], Int kind.Long)
    ∷ (key.Signed ∷ key.Long ∷ key.Int ∷ [], Int kind.Long)
    ∷ (key.Unsigned ∷ key.Long ∷ [], Int kind.ULong)
    ∷ (key.Unsigned ∷ key.Long ∷ key.Int ∷ [], Int kind.ULong)
    ∷ []

abbrev pub same_count : Count → Count → Bool
same_count Zero Zero = true
same_count One One = true
same_count More More = true
same_count _ _ = false

-- the same words stand, each as often
abbrev pub same_words : Words → Words → Bool
same_words v w =
    same_count v.void w.void && (same_count v.char w.char && (same_count v.short w.short && (same_count v.int w.int && (same_count v.long w.long && (same_count v.signed w.signed && (same_count v.unsigned w.unsigned && same_count v.tagged w.tagged))))))

-- the type whose words they are
abbrev pub found : List (List Key × Base) → Words → Base
found [] w = Wrong
found (row ∷ rows) w = if same_words w (all_added none row.0) then row.1 else found rows w

-- one structure or enumeration and no word, or the words of a type
abbrev pub base_of : Words → Base
base_of w = if same_words w (tagged none) then Tagged else found types w
