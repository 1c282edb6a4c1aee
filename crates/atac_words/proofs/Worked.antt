-- Worked examples: words that are a command, and words that are none.
use Rattle.std.proofs.Common.{◌≡◌, ℕ, List, [], ◌∷◌, Some, None, refl}
use Rattle.std.specs.Prelude.{codes}
use Rattle.std.specs.Fmt.{digits}
use Rattle.atac_words.specs.declared.words.View.TheVariants.{Report, Show, Hits, Json}
use Rattle.atac_words.specs.Words.{Instrument, Run, RunInto, Merge, Tell, Pick, Watch, SelfCover, number_in, reads}

abbrev p : List ℕ
p = codes "p.c"

abbrev a : List ℕ
a = codes "a"

abbrev b : List ℕ
b = codes "b"

instrument_is : reads (codes "instrument" ∷ p ∷ a ∷ []) ≡ Some (Instrument p a)
instrument_is = refl

-- TWO OPERANDS OF A RUN, AND THREE, WITH TURNS IN FRONT OR WITHOUT

run_is : reads (codes "run" ∷ p ∷ a ∷ []) ≡ Some (Run 1000000 p a)
run_is = refl

run_into_is : reads (codes "run" ∷ p ∷ a ∷ b ∷ []) ≡ Some (RunInto 1000000 p a b)
run_into_is = refl

run_turns_is : reads (codes "run" ∷ codes "-t" ∷ codes "70" ∷ p ∷ a ∷ b ∷ []) ≡ Some (RunInto 70 p a b)
unfolding number_in digits
run_turns_is = refl

run_four : reads (codes "run" ∷ p ∷ a ∷ b ∷ b ∷ []) ≡ None
run_four = refl

-- TRACES

merge_is : reads (codes "merge" ∷ p ∷ a ∷ b ∷ []) ≡ Some (Merge p (a ∷ b ∷ []))
merge_is = refl

merge_none : reads (codes "merge" ∷ p ∷ []) ≡ None
merge_none = refl

report_is : reads (codes "report" ∷ p ∷ a ∷ []) ≡ Some (Tell Report p (a ∷ []))
report_is = refl

show_is : reads (codes "show" ∷ p ∷ a ∷ b ∷ []) ≡ Some (Tell Show p (a ∷ b ∷ []))
show_is = refl

-- turns are read for a run and a cover alone
hits_turns : reads (codes "hits" ∷ codes "-t" ∷ codes "70" ∷ p ∷ a ∷ []) ≡ None
hits_turns = refl

-- AN EMPTY OPERAND, AND ONE THAT BEGINS WITH A DASH

hits_empty : reads (codes "hits" ∷ p ∷ [] ∷ []) ≡ Some (Tell Hits p ([] ∷ []))
hits_empty = refl

hits_dash : reads (codes "hits" ∷ p ∷ a ∷ codes "-b" ∷ []) ≡ None
hits_dash = refl

-- A WATCHER, A NUMBER TO MAKE A PROGRAM FROM, RUNS TO KEEP, AND JSON

watch_is : reads (codes "watch" ∷ p ∷ a ∷ b ∷ []) ≡ Some (Watch 1000000 p a b)
watch_is = refl

watch_most : reads (codes "watch" ∷ codes "-t" ∷ codes "2000000" ∷ p ∷ a ∷ b ∷ []) ≡ Some (Watch 2000000 p a b)
unfolding number_in digits
watch_most = refl

watch_more : reads (codes "watch" ∷ codes "-t" ∷ codes "2000001" ∷ p ∷ a ∷ b ∷ []) ≡ None
unfolding number_in digits
watch_more = refl

watch_unnamed : reads (codes "watch" ∷ p ∷ a ∷ []) ≡ None
watch_unnamed = refl

self_zero : reads (codes "self" ∷ codes "0" ∷ []) ≡ Some (SelfCover 1000000 0)
self_zero = refl

self_most : reads (codes "self" ∷ codes "-t" ∷ codes "70" ∷ codes "18446744073709551615" ∷ []) ≡ Some (SelfCover 70 18446744073709551615)
unfolding number_in digits
self_most = refl

self_more : reads (codes "self" ∷ codes "18446744073709551616" ∷ []) ≡ None
unfolding number_in digits
self_more = refl

self_padded : reads (codes "self" ∷ codes "01" ∷ []) ≡ None
unfolding number_in digits
self_padded = refl

pick_is : reads (codes "pick" ∷ p ∷ a ∷ b ∷ []) ≡ Some (Pick 1000000 p (a ∷ b ∷ []))
pick_is = refl

json_is : reads (codes "json" ∷ p ∷ a ∷ []) ≡ Some (Tell Json p (a ∷ []))
json_is = refl
