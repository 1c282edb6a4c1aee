-- Line after line: the items on a line are put with it, and are on no line behind it.
use Rattle.std.proofs.Common.{◌≡◌, ℕ, suc, ◌+◌, ◌<◌, eqb, true, false, List, [], ◌∷◌, ◌++◌, map, refl, sym, ap, ◌∙◌, subst, arith, append_assoc, append-nil}
use Rattle.std.proofs.lemmas.Bool.{cond-true, cond-false}
use Rattle.std.proofs.lemmas.Bool.Decides.{nat_tests}
use Rattle.std.proofs.lemmas.List.Elements.{All-nil, All-cons, All-head, All-tail, filter-append}
use Rattle.std.specs.List.{All, filter}
use Rattle.atac_base.specs.Items.{ItemLists}
use Rattle.cover_report.specs.ItemTexts.{Item}
use Rattle.cover_show.specs.declared.missed.Missed.{Missed}
use Rattle.cover_show.specs.Shown.{on_line, shown_line, shown_behind}
use Rattle.cover_show.specs.Missed.{meant, IsPlaced, is_on, Rises}
use Rattle.cover_show.proofs.Gathering.{picked}

-- THE ITEMS BEFORE AND BEHIND A CUT

right : (items : ItemLists) (front back : List Missed) → All (IsPlaced items) (front ++ back) → All (IsPlaced items) back
right items [] back h = h
right items (m ∷ front) back h = right items front back (All-tail (IsPlaced items) m (front ++ back) h)

left : (items : ItemLists) (front back : List Missed) → All (IsPlaced items) (front ++ back) → All (IsPlaced items) front
left items [] back h = All-nil (IsPlaced items)
left items (m ∷ front) back h = All-cons (IsPlaced items) m front (All-head (IsPlaced items) m (front ++ back) h) (left items front back (All-tail (IsPlaced items) m (front ++ back) h))

pub placed_before : (items : ItemLists) (ms front back : List Missed) → ms ≡ front ++ back → All (IsPlaced items) ms → All (IsPlaced items) front
placed_before items ms front back parts h = let P : List Missed → Type 0 = λ xs. All (IsPlaced items) xs in left items front back (subst P parts h)

pub placed_behind : (items : ItemLists) (ms front back : List Missed) → ms ≡ front ++ back → All (IsPlaced items) ms → All (IsPlaced items) back
placed_behind items ms front back parts h = let P : List Missed → Type 0 = λ xs. All (IsPlaced items) xs in right items front back (subst P parts h)

-- WHICH OF THEM ARE ON A LINE

on : (m n : ℕ) → m ≡ n → eqb m n ≡ true
on m n e = grind (arith, nat_tests)

off : (m n : ℕ) → m < n → eqb m n ≡ false
off m n h = grind (arith, nat_tests)

off_above : (m n : ℕ) → n < m → eqb m n ≡ false
off_above m n h = grind (arith, nat_tests)

all_on : (n : ℕ) (ms : List Missed) → All (λ m. m.line ≡ n) ms → filter (is_on n) ms ≡ ms
all_on n [] h = refl
all_on n (m ∷ ms) h = cond-true _ _ _ (on m.line n (All-head (λ m. m.line ≡ n) m ms h)) ∙ ap (λ xs. m ∷ xs) (all_on n ms (All-tail (λ m. m.line ≡ n) m ms h))

none_later : (n j : ℕ) (ms : List Missed) → n < j → All (λ m. m.line ≡ n) ms → filter (is_on j) ms ≡ []
none_later n j [] l h = refl
none_later n j (m ∷ ms) l h =
    let here = All-head (λ m. m.line ≡ n) m ms h in
    cond-false _ _ _ (off m.line j (omega (arith, here))) ∙ none_later n j ms l (All-tail (λ m. m.line ≡ n) m ms h)

none_before : (n low : ℕ) (ms : List Missed) → n < low → Rises low ms → filter (is_on n) ms ≡ []
none_before n low [] l h = refl
none_before n low (m ∷ ms) l h =
    let here = h.0 in
    cond-false _ _ _ (off_above m.line n (omega (arith, here))) ∙ none_before n m.line ms (omega (arith, here)) h.1

-- of a list that is parted behind line n
on_it : (n : ℕ) (ms front back : List Missed) → ms ≡ front ++ back → All (λ m. m.line ≡ n) front → Rises (n + 1) back → filter (is_on n) ms ≡ front
on_it n ms front back parts here rest =
    ap (filter (is_on n)) parts ∙ filter-append (is_on n) front back ∙ ap (λ xs. xs ++ filter (is_on n) back) (all_on n front here)
    ∙ ap (λ xs. front ++ xs) (none_before n (n + 1) back (omega arith) rest) ∙ append-nil front

behind_it : (n j : ℕ) (ms front back : List Missed) → n < j → ms ≡ front ++ back → All (λ m. m.line ≡ n) front → filter (is_on j) ms ≡ filter (is_on j) back
behind_it n j ms front back l parts here =
    ap (filter (is_on j)) parts ∙ filter-append (is_on j) front back ∙ ap (λ xs. xs ++ filter (is_on j) back) (none_later n j front l here)

-- THE LINES

shown_same : (k : ℕ) (lines : List (List ℕ)) (xs ys : List Item) → ((n : ℕ) → k < n → on_line n xs ≡ on_line n ys) → shown_behind k lines xs ≡ shown_behind k lines ys
shown_same k [] xs ys same = refl
shown_same k (line ∷ lines) xs ys same =
    ap (λ items. shown_line (suc k) line items ++ shown_behind (suc k) lines xs) (same (suc k) (omega arith))
    ∙ ap (λ rest. shown_line (suc k) line (on_line (suc k) ys) ++ rest) (shown_same (suc k) lines xs ys (λ n l. same n (omega (arith, l))))

-- behind line n those on it count no more
passed : (items : ItemLists) (n : ℕ) (lines : List (List ℕ)) (ms front back : List Missed) → All (IsPlaced items) ms → ms ≡ front ++ back → All (λ m. m.line ≡ n) front → shown_behind n lines (map (meant items) ms) ≡ shown_behind n lines (map (meant items) back)
passed items n lines ms front back placed parts here =
    let placed_back = placed_behind items ms front back parts placed in
    shown_same n lines _ _ (λ j l. sym (picked items j ms placed) ∙ ap (map (meant items)) (behind_it n j ms front back l parts here) ∙ picked items j back placed_back)

-- at the start those on line 0 are passed over
pub start : (items : ItemLists) (lines : List (List ℕ)) (ms front back : List Missed) (t : List ℕ) → All (IsPlaced items) ms → ms ≡ front ++ back → All (λ m. m.line ≡ 0) front → t ++ shown_behind 0 lines (map (meant items) back) ≡ t ++ shown_behind 0 lines (map (meant items) ms)
start items lines ms front back t placed parts here = ap (λ s. t ++ s) (sym (passed items 0 lines ms front back placed parts here))

-- line n + 1 was put
pub step : (items : ItemLists) (n : ℕ) (line : List ℕ) (lines all_lines : List (List ℕ)) (ms front back : List Missed) (t u all : List ℕ) → All (IsPlaced items) ms → ms ≡ front ++ back → All (λ m. m.line ≡ n + 1) front → Rises (n + 1 + 1) back → all_lines ≡ line ∷ lines → u ≡ t ++ shown_line (n + 1) line (map (meant items) front) → t ++ shown_behind n all_lines (map (meant items) ms) ≡ all → u ++ shown_behind (n + 1) lines (map (meant items) back) ≡ all
step items n line lines all_lines ms front back t u all placed parts here rest cut put kept =
    let mine : map (meant items) front ≡ on_line (n + 1) (map (meant items) ms) = ap (map (meant items)) (sym (on_it (n + 1) ms front back parts here rest)) ∙ picked items (n + 1) ms placed in
    let one : n + 1 ≡ suc n = omega arith in
    let rests : shown_behind (n + 1) lines (map (meant items) back) ≡ shown_behind (n + 1) lines (map (meant items) ms) = sym (passed items (n + 1) lines ms front back placed parts here) in
    ap (λ s. s ++ shown_behind (n + 1) lines (map (meant items) back)) put
    ∙ append_assoc t (shown_line (n + 1) line (map (meant items) front)) (shown_behind (n + 1) lines (map (meant items) back))
    ∙ ap (λ s. t ++ (shown_line (n + 1) line (map (meant items) front) ++ s)) rests
    ∙ ap (λ s. t ++ (shown_line (n + 1) line s ++ shown_behind (n + 1) lines (map (meant items) ms))) mine
    ∙ ap (λ k. t ++ (shown_line k line (on_line k (map (meant items) ms)) ++ shown_behind k lines (map (meant items) ms))) one
    ∙ ap (λ ls. t ++ shown_behind n ls (map (meant items) ms)) (sym cut)
    ∙ kept

-- the lines of the sorted items, and then the totals
pub whole : (items : ItemLists) (lines : List (List ℕ)) (ms sorted : List Missed) (xs : List Item) (none out all first words bytes totals : List ℕ) → none ≡ [] → sorted ≡ ms → ((n : ℕ) → on_line n (map (meant items) ms) ≡ on_line n xs) → out ≡ none ++ shown_behind 0 lines (map (meant items) sorted) → first ≡ [] → words ≡ first ++ totals → bytes ≡ words → all ≡ out ++ bytes → all ≡ shown_behind 0 lines xs ++ totals
whole items lines ms sorted xs none out all first words bytes totals empty same kept shown cleared told read put =
    let lines_are : out ≡ shown_behind 0 lines xs =
    shown ∙ ap (λ s. s ++ shown_behind 0 lines (map (meant items) sorted)) empty ∙ ap (λ l. shown_behind 0 lines (map (meant items) l)) same
    ∙ shown_same 0 lines (map (meant items) ms) xs (λ n l. kept n) in
    let totals_are : bytes ≡ totals = read ∙ told ∙ ap (λ s. s ++ totals) cleared in
    put ∙ ap (λ s. s ++ bytes) lines_are ∙ ap (λ s. shown_behind 0 lines xs ++ s) totals_are
