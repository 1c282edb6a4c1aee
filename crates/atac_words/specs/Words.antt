-- How the words of the command line are read.
use Rattle.std.specs.Prelude.{ℕ, Bool, true, not, ◌==◌, ◌&&◌, leb, cond, List, [], ◌∷◌, length, Option, None, Some, option_and_then, option_map, bytes_eq, codes}
use Rattle.std.specs.Fmt.{decimal}
use Rattle.std.specs.Str.Parse.{digits_value}
use Rattle.atac_words.specs.declared.words.View.{View}
use Rattle.atac_words.specs.declared.words.View.TheVariants.{Report, Show, Hits, Json}

-- What the words ask for.
pub data Command : Type 0 where
  -- say whether the program is accepted, and count its sites
  Check : (program : List ℕ) → Command
  -- list the program's items
  ListItems : (program : List ℕ) → Command
  -- keep the program with its probes, under the name out
  Instrument : (program out : List ℕ) → Command
  -- run the program on the inputs, one after the other, each within so many turns, and report what was covered
  Cover : (limit : ℕ) (program : List ℕ) (inputs : List (List ℕ)) → Command
  -- run it on one input, with probes or without, and no more
  Run : (limit : ℕ) (program input : List ℕ) → Command
  -- run it on one input, and add this run to the trace under the name trace, or begin one there
  RunInto : (limit : ℕ) (program input trace : List ℕ) → Command
  -- keep the sum of the traces, under the name out
  Merge : (out : List ℕ) (traces : List (List ℕ)) → Command
  -- tell what the sum of the traces says of the program: as a report, in its source, as numbers of runs, or as JSON
  Tell : (view : View) (program : List ℕ) (traces : List (List ℕ)) → Command
  -- run the program on the inputs, one after the other, each within so many turns, and say which of these runs to keep
  Pick : (limit : ℕ) (program : List ℕ) (inputs : List (List ℕ)) → Command
  -- run it on one input, within so many turns, and say what the watcher of this name says of its events
  Watch : (limit : ℕ) (program input name : List ℕ) → Command
  -- make a program and three inputs from the number, cover them, each within so many turns, and sum that up
  SelfCover : (limit seed : ℕ) → Command

-- An operand doesn't begin with a dash.
abbrev pub is_operand : List ℕ → Bool
is_operand [] = true
is_operand (first ∷ rest) = not (first == 45)

-- The most turns of a run, where the words don't say; and the most that they may say.
abbrev pub turn_limit : ℕ
turn_limit = 1000000

abbrev pub turns_most : ℕ
turns_most = 100000000

-- The most turns of a run whose events a watcher is told.
abbrev pub watched_most : ℕ
watched_most = 2000000

-- A word that is the decimal text of a number from 1 on, with no zero in front.
abbrev pub is_number_in : ℕ → List ℕ → ℕ → Bool
is_number_in most word n = bytes_eq word (decimal n) && (leb 1 n && leb n most)

unfoldable pub number_in : ℕ → List ℕ → Option ℕ
number_in most word = cond (is_number_in most word (digits_value 10 word)) (Some (digits_value 10 word)) None

-- So is a number of turns.
abbrev pub limit_of : List ℕ → Option ℕ
limit_of word = number_in turns_most word

abbrev pub are_operands : List (List ℕ) → Bool
are_operands [] = true
are_operands (word ∷ words) = is_operand word && are_operands words

-- The most operands behind the first, in a call that takes a list of them.
abbrev pub others_most : ℕ
others_most = 1000

-- One operand, and behind it 1 to 1,000 others.
abbrev pub operand_list : List (List ℕ) → Option (List ℕ × List (List ℕ))
operand_list (first ∷ second ∷ others) =
    cond (leb (length (second ∷ others)) others_most && are_operands (first ∷ second ∷ others)) (Some (first, second ∷ others)) None
operand_list words = None

-- What each command makes of the words behind its own, and behind those of the turns.
abbrev pub check_words : List (List ℕ) → Option Command
check_words (program ∷ []) = cond (is_operand program) (Some (Check program)) None
check_words words = None

abbrev pub list_words : List (List ℕ) → Option Command
list_words (program ∷ []) = cond (is_operand program) (Some (ListItems program)) None
list_words words = None

abbrev pub instrument_words : List (List ℕ) → Option Command
instrument_words (program ∷ out ∷ []) = cond (is_operand program && is_operand out) (Some (Instrument program out)) None
instrument_words words = None

abbrev pub run_words : ℕ → List (List ℕ) → Option Command
run_words limit (program ∷ input ∷ []) = cond (is_operand program && is_operand input) (Some (Run limit program input)) None
run_words limit (program ∷ input ∷ trace ∷ []) =
    cond (is_operand program && (is_operand input && is_operand trace)) (Some (RunInto limit program input trace)) None
run_words limit words = None

abbrev pub cover_words : ℕ → List (List ℕ) → Option Command
cover_words limit words = option_map (λ operands. Cover limit operands.0 operands.1) (operand_list words)

abbrev pub merge_words : List (List ℕ) → Option Command
merge_words words = option_map (λ operands. Merge operands.0 operands.1) (operand_list words)

abbrev pub tell_words : View → List (List ℕ) → Option Command
tell_words view words = option_map (λ operands. Tell view operands.0 operands.1) (operand_list words)

abbrev pub pick_words : ℕ → List (List ℕ) → Option Command
pick_words limit words = option_map (λ operands. Pick limit operands.0 operands.1) (operand_list words)

-- One operand, and nothing behind it.
abbrev pub one_operand : List (List ℕ) → Option (List ℕ)
one_operand (word ∷ []) = cond (is_operand word) (Some word) None
one_operand words = None

abbrev pub watched_words : ℕ → List (List ℕ) → Option Command
watched_words limit (program ∷ input ∷ words) =
    cond (is_operand program && is_operand input) (option_map (λ name. Watch limit program input name) (one_operand words)) None
watched_words limit words = None

abbrev pub watch_words : ℕ → List (List ℕ) → Option Command
watch_words limit words = cond (leb limit watched_most) (watched_words limit words) None

-- The number that a program is made from: zero, or one of 64 bits in the same way.
abbrev pub seed_of : List ℕ → Option ℕ
seed_of word = cond (bytes_eq word (codes "0")) (Some 0) (number_in 18446744073709551615 word)

abbrev pub self_words : ℕ → List (List ℕ) → Option Command
self_words limit (seed ∷ []) = option_map (λ n. SelfCover limit n) (seed_of seed)
self_words limit words = None

-- How many turns the words allow, and the words behind that.
abbrev pub turns_first : List (List ℕ) → Option (ℕ × List (List ℕ))
turns_first (option ∷ turns ∷ words) =
    cond (bytes_eq option (codes "-t")) (option_map (λ limit. (limit, words)) (limit_of turns)) (Some (turn_limit, option ∷ turns ∷ words))
turns_first words = Some (turn_limit, words)

-- The last three of the commands, by their words.
abbrev pub more_words : List ℕ → List (List ℕ) → Option Command
more_words word words =
    cond (bytes_eq word (codes "pick")) (option_and_then (λ w. pick_words w.0 w.1) (turns_first words))
    (cond (bytes_eq word (codes "watch")) (option_and_then (λ w. watch_words w.0 w.1) (turns_first words))
    (cond (bytes_eq word (codes "self")) (option_and_then (λ w. self_words w.0 w.1) (turns_first words)) None))

-- The command that the words are, if they are one. All other words, and no words, are none.
abbrev pub reads : List (List ℕ) → Option Command
reads [] = None
reads (word ∷ words) =
    cond (bytes_eq word (codes "check")) (check_words words)
    (cond (bytes_eq word (codes "list")) (list_words words)
    (cond (bytes_eq word (codes "instrument")) (instrument_words words)
    (cond (bytes_eq word (codes "run")) (option_and_then (λ w. run_words w.0 w.1) (turns_first words))
    (cond (bytes_eq word (codes "cover")) (option_and_then (λ w. cover_words w.0 w.1) (turns_first words))
    (cond (bytes_eq word (codes "merge")) (merge_words words)
    (cond (bytes_eq word (codes "report")) (tell_words Report words)
    (cond (bytes_eq word (codes "show")) (tell_words Show words)
    (cond (bytes_eq word (codes "hits")) (tell_words Hits words)
    (cond (bytes_eq word (codes "json")) (tell_words Json words)
    (more_words word words))))))))))

-- The name of its program. A merge has none, nor has a program that is made from a number.
abbrev pub program_of : Command → List ℕ
program_of (Check program) = program
program_of (ListItems program) = program
program_of (Instrument program out) = program
program_of (Cover limit program inputs) = program
program_of (Run limit program input) = program
program_of (RunInto limit program input trace) = program
program_of (Merge out traces) = []
program_of (Tell view program traces) = program
program_of (Pick limit program inputs) = program
program_of (Watch limit program input name) = program
program_of (SelfCover limit seed) = []

-- The most bytes of its program, where it fetches one: a program with probes is longer.
abbrev pub program_most : Command → ℕ
program_most (Run limit program input) = 67108864
program_most (RunInto limit program input trace) = 67108864
program_most (Merge out traces) = 0
program_most (SelfCover limit seed) = 0
program_most command = 1048576

-- The names that a command fetches, in their order.
abbrev pub fetched : Command → List (List ℕ)
fetched (Check program) = program ∷ []
fetched (ListItems program) = program ∷ []
fetched (Instrument program out) = program ∷ []
fetched (Cover limit program inputs) = program ∷ inputs
fetched (Run limit program input) = program ∷ input ∷ []
fetched (RunInto limit program input trace) = program ∷ input ∷ trace ∷ []
fetched (Merge out traces) = traces
fetched (Tell view program traces) = program ∷ traces
fetched (Pick limit program inputs) = program ∷ inputs
fetched (Watch limit program input name) = program ∷ input ∷ []
fetched (SelfCover limit seed) = []

-- The name that a command keeps something under.
abbrev pub kept : Command → Option (List ℕ)
kept (Instrument program out) = Some out
kept (RunInto limit program input trace) = Some trace
kept (Merge out traces) = Some out
kept command = None
