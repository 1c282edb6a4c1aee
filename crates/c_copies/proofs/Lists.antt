-- What stands at a place of a list that was cut and put together.
use Rattle.std.proofs.Common.{◌≡◌, ℕ, zero, suc, ◌+◌, ◌-◌, ◌<◌, ◌≤◌, List, [], ◌∷◌, ◌++◌, length, take, drop, Option, Some, None, Bool, true, false, nat_lt, refl, sym, ap, ap₂, ◌∙◌, subst, arith}
use Rattle.std.specs.Prelude.{slice_get}
use Rattle.std.proofs.lemmas.List.{length-take, length-drop, length-append}
use Rattle.std.proofs.lemmas.Bool.Decides.{nat_tests}
use Rattle.c_store.specs.declared.value.Value.{Value}
use Rattle.c_store.specs.Copies.{with_part}

pub by_test : {P : Type 0} (b : Bool) → (b ≡ true → P) → (b ≡ false → P) → P
by_test true f g = f refl
by_test false f g = g refl

got_left : (xs ys : List (Option Value)) (i : ℕ) → i < length xs → slice_get (xs ++ ys) i ≡ slice_get xs i
got_left [] ys i h = absurd (omega arith)
got_left (x ∷ xs) ys zero h = refl
got_left (x ∷ xs) ys (suc i) h = got_left xs ys i (omega arith)

got_right : (xs ys : List (Option Value)) (i j : ℕ) → j ≡ length xs + i → slice_get (xs ++ ys) j ≡ slice_get ys i
got_right [] ys i j e = ap (slice_get ys) (omega arith)
got_right (x ∷ xs) ys i zero e = absurd (omega arith)
got_right (x ∷ xs) ys i (suc j) e = got_right xs ys i j (omega arith)

got_take : (n : ℕ) (xs : List (Option Value)) (i : ℕ) → i < n → slice_get (take n xs) i ≡ slice_get xs i
got_take zero xs i h = absurd (omega arith)
got_take (suc n) [] i h = refl
got_take (suc n) (x ∷ xs) zero h = refl
got_take (suc n) (x ∷ xs) (suc i) h = got_take n xs i (omega arith)

got_drop : (n : ℕ) (xs : List (Option Value)) (i j : ℕ) → j ≡ n + i → slice_get (drop n xs) i ≡ slice_get xs j
got_drop zero xs i j e = ap (slice_get xs) (omega arith)
got_drop (suc n) [] i j e = refl
got_drop (suc n) (x ∷ xs) i zero e = absurd (omega arith)
got_drop (suc n) (x ∷ xs) i (suc j) e = got_drop n xs i j (omega arith)

taken : (k : ℕ) (xs : List (Option Value)) → k ≤ length xs → length (take k xs) ≡ k
taken k xs h = rw length-take (omega arith)

-- the cells that are put in place of others, and those before and behind them
pub got_part : (cells part : List (Option Value)) (k i : ℕ) → k ≤ length cells → i < length part → slice_get (with_part cells k part) (k + i) ≡ slice_get part i
got_part cells part k i h g =
    got_left (take k cells ++ part) (drop (k + length part) cells) (k + i) (simp length-append (omega (arith, taken k cells h, g)))
    ∙ got_right (take k cells) part i (k + i) (omega (arith, taken k cells h))

pub got_before : (cells part : List (Option Value)) (k j : ℕ) → k ≤ length cells → j < k → slice_get (with_part cells k part) j ≡ slice_get cells j
got_before cells part k j h g =
    got_left (take k cells ++ part) (drop (k + length part) cells) j (simp length-append (omega (arith, taken k cells h, g)))
    ∙ (got_left (take k cells) part j (omega (arith, taken k cells h)) ∙ got_take k cells j g)

pub got_behind : (cells part : List (Option Value)) (k j : ℕ) → k ≤ length cells → k + length part ≤ j → slice_get (with_part cells k part) j ≡ slice_get cells j
got_behind cells part k j h g =
    let i : ℕ = j - (k + length part) in
    got_right (take k cells ++ part) (drop (k + length part) cells) i j (simp length-append (omega (arith, taken k cells h, g)))
    ∙ got_drop (k + length part) cells i j (omega arith)

-- the cells that are copied
pub got_cut : (cells : List (Option Value)) (n k i : ℕ) → i < n → slice_get (take n (drop k cells)) i ≡ slice_get cells (k + i)
got_cut cells n k i h = got_take n (drop k cells) i h ∙ got_drop k cells i (k + i) refl

pub cut_length : (cells : List (Option Value)) (n k : ℕ) → k + n ≤ length cells → length (take n (drop k cells)) ≡ n
cut_length cells n k h = rw (length-take, length-drop) (omega arith)

pub part_length : (cells part : List (Option Value)) (k : ℕ) → k + length part ≤ length cells → length (with_part cells k part) ≡ length cells
part_length cells part k h = simp (length-append, length-take, length-drop) (omega arith)

-- lists in which the same stands at each place
pub same_lists : (xs ys : List (Option Value)) → ((i : ℕ) → slice_get xs i ≡ slice_get ys i) → xs ≡ ys
same_lists [] [] h = refl
same_lists [] (y ∷ ys) h = absurd (let e : None ≡ Some y = h 0 in cc)
same_lists (x ∷ xs) [] h = absurd (let e : Some x ≡ None = h 0 in cc)
same_lists (x ∷ xs) (y ∷ ys) h =
    let e : Some x ≡ Some y = h 0 in
    let same : x ≡ y = cc in
    ap₂ (λ v l. v ∷ l) same (same_lists xs ys (λ i. h (suc i)))

-- a place before some cells, among them, or behind them
pub sided : {P : Type 0} (k n j : ℕ) → (j < k → P) → ((i : ℕ) → i < n → j ≡ k + i → P) → (k + n ≤ j → P) → P
sided k n j before among behind =
    by_test (nat_lt j k) (λ t. before (grind (arith, nat_tests)))
    (λ t. by_test (nat_lt j (k + n)) (λ u. among (j - k) (grind (arith, nat_tests)) (grind (arith, nat_tests))) (λ u. behind (grind (arith, nat_tests))))

-- what is put back where it was
pub put_back : (cells : List (Option Value)) (n k : ℕ) → k + n ≤ length cells → with_part cells k (take n (drop k cells)) ≡ cells
put_back cells n k h =
    let part : List (Option Value) = take n (drop k cells) in
    let size : length part ≡ n = cut_length cells n k h in
    same_lists (with_part cells k part) cells (λ j. sided k n j
    (λ b. got_before cells part k j (omega arith) b)
    (λ i b e. subst (λ m. slice_get (with_part cells k part) m ≡ slice_get cells m) (sym e) (got_part cells part k i (omega arith) (omega arith) ∙ got_cut cells n k i b))
    (λ b. got_behind cells part k j (omega arith) (omega arith)))
