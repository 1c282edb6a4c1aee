-- What holds a part, found on the way down: at each part the last one that holds it and how many came before are handed on.
use Rattle.std.proofs.Common.{◌≡◌, ℕ, suc, ◌+◌, ◌<◌, ◌&&◌, List, [], ◌∷◌, ◌++◌, map, length, flat_map, nat_eq, Bool, true, false, cond, Option, Some, None, if◌then◌else◌, refl, ap, ap₂, sym, ◌∙◌, arith, append_assoc, length-append}
use Rattle.std.proofs.lemmas.Bool.Decides.{nat_tests}
use Rattle.std.specs.List.{AllByRecursion}
use Rattle.c_ordered.specs.Trees.{Tree, tree, Trees, none, more, Path, Standing, below, preorder, preorder_from}
use Rattle.c_ordered.specs.Holders.{leads_into, or_else, last_into, passing}
use Rattle.c_ordered.proofs.Preorder.{IsFrom, all_from, all_on, all_any}

-- ---- options

pub or_none : {X : Type 0} (o : Option X) → or_else o None ≡ o
or_none None = refl
or_none (Some x) = refl

or_or : {X : Type 0} (a b c : Option X) → or_else (or_else a b) c ≡ or_else a (or_else b c)
or_or None b c = refl
or_or (Some x) b c = refl

same_number : (i : ℕ) → nat_eq i i ≡ true
same_number i = grind (arith, nat_tests)

other_number : (i j : ℕ) → i < j → nat_eq i j ≡ false
other_number i j h = grind (arith, nat_tests, h)

not_root : (q : Path) → IsFrom 0 q → leads_into q [] ≡ false
not_root [] h = absurd h
not_root (i ∷ q) h = refl

not_later : (i : ℕ) (p q : Path) → IsFrom (suc i) p → leads_into p (i ∷ q) ≡ false
not_later i [] q h = absurd h
not_later i (j ∷ p) q h = let e : nat_eq j i ≡ false = grind (arith, nat_tests, h) in ap (λ b. b && leads_into p q) e

-- ---- the last part that holds

module _ {A : Type 0} where
  last_both : (n : ℕ) (ss rs : List (Standing A)) (q : Path) → last_into n (ss ++ rs) q ≡ or_else (last_into (n + length ss) rs q) (last_into n ss q)
  last_both n [] rs q = let e : n ≡ n + 0 = omega arith in ap (λ k. last_into k rs q) e ∙ sym (or_none (last_into (n + 0) rs q))
  last_both n (s ∷ ss) rs q =
      let here : Option (ℕ × A) = if leads_into s.path q then Some (n, s.part) else None in
      let e : suc n + length ss ≡ n + suc (length ss) = omega arith in
      ap (λ o. or_else o here) (last_both (suc n) ss rs q) ∙ (or_or (last_into (suc n + length ss) rs q) (last_into (suc n) ss q) here ∙ ap (λ k. or_else (last_into k rs q) (or_else (last_into (suc n) ss q) here)) e)

  none_into : (n : ℕ) (ss : List (Standing A)) (q : Path) → AllByRecursion (λ s. leads_into s.path q ≡ false) ss → last_into n ss q ≡ None
  none_into n [] q h = refl
  none_into n (s ∷ ss) q h = ap₂ or_else (none_into (suc n) ss q h.1) (ap (λ b. if b then Some (n, s.part) else None) h.0)

  last_below : (n i : ℕ) (ss : List (Standing A)) (q : Path) → last_into n (map (below i) ss) (i ∷ q) ≡ last_into n ss q
  last_below n i [] q = refl
  last_below n i (s ∷ ss) q = ap₂ or_else (last_below (suc n) i ss q) (ap (λ b. if b && leads_into s.path q then Some (n, s.part) else None) (same_number i))

  as_many : (i : ℕ) (ss : List (Standing A)) → length (map (below i) ss) ≡ length ss
  as_many i [] = refl
  as_many i (s ∷ ss) = ap suc (as_many i ss)

  not_below : (i j : ℕ) (q : Path) (ss : List (Standing A)) → i < j → AllByRecursion (λ s. leads_into s.path (j ∷ q) ≡ false) (map (below i) ss)
  not_below i j q [] h = tt
  not_below i j q (s ∷ ss) h = (ap (λ b. b && leads_into s.path q) (other_number i j h), not_below i j q ss h)

  -- ---- those that pass a test

  passing_both : (test : A → Bool) (ss rs : List (Standing A)) → passing test (ss ++ rs) ≡ passing test ss ++ passing test rs
  passing_both test [] rs = refl
  passing_both test (s ∷ ss) rs = by (test s.part) (passing_both test ss rs)
    where
      by : (b : Bool) → passing test (ss ++ rs) ≡ passing test ss ++ passing test rs → cond b (s ∷ passing test (ss ++ rs)) (passing test (ss ++ rs)) ≡ cond b (s ∷ passing test ss) (passing test ss) ++ passing test rs
      by true h = ap (λ xs. s ∷ xs) h
      by false h = h

  passing_below : (test : A → Bool) (i : ℕ) (ss : List (Standing A)) → passing test (map (below i) ss) ≡ map (below i) (passing test ss)
  passing_below test i [] = refl
  passing_below test i (s ∷ ss) = by (test s.part) (passing_below test i ss)
    where
      by : (b : Bool) → passing test (map (below i) ss) ≡ map (below i) (passing test ss) → cond b (below i s ∷ passing test (map (below i) ss)) (passing test (map (below i) ss)) ≡ map (below i) (cond b (s ∷ passing test ss) (passing test ss))
      by true h = ap (λ xs. below i s ∷ xs) h
      by false h = h

  passing_all : (P : Standing A → Type 0) (test : A → Bool) (ss : List (Standing A)) → AllByRecursion P ss → AllByRecursion P (passing test ss)
  passing_all P test [] h = tt
  passing_all P test (s ∷ ss) h = by (test s.part) (passing_all P test ss h.1)
    where
      by : (b : Bool) → AllByRecursion P (passing test ss) → AllByRecursion P (cond b (s ∷ passing test ss) (passing test ss))
      by true k = (h.0, k)
      by false k = k

  abbrev pub count : (A → Bool) → List (Standing A) → ℕ
  count test ss = length (passing test ss)

-- ---- what is known on the way down

-- the last part so far that holds, with its number, and how many have passed
pub record Known (A : Type 0) : Type 0 where
  pub last : Option (ℕ × A)
  pub passed : ℕ

module _ {A : Type 0} where
  abbrev pub known_if : Bool → A → Known A → Known A
  known_if true x k = record { last = Some (suc k.passed, x); passed = suc k.passed }
  known_if false x k = k

  abbrev pub known_at : (A → Bool) → A → Known A → Known A
  known_at test x k = known_if (test x) x k

  abbrev pub known_behind : (A → Bool) → Tree A → Known A → Known A
  known_behind test t k = record k { passed = k.passed + count test (preorder t) }

  abbrev pub finds : (A → Bool) → Known A → List (Standing A) → Path → Option (ℕ × A)
  finds test k ss q = or_else (last_into (suc k.passed) (passing test ss) q) k.last

  finds_deeper : (test : A → Bool) (k : Known A) (x : A) (ts : Trees A) (q : Path) → finds test k (preorder (tree x ts)) q ≡ finds test (known_at test x k) (preorder_from 0 ts) q
  finds_deeper test k x ts q = by (test x)
    where
      by : (b : Bool) → or_else (last_into (suc k.passed) (cond b (record { path = []; part = x } ∷ passing test (preorder_from 0 ts)) (passing test (preorder_from 0 ts))) q) k.last ≡ finds test (known_if b x k) (preorder_from 0 ts) q
      by true = or_or (last_into (suc (suc k.passed)) (passing test (preorder_from 0 ts)) q) (Some (suc k.passed, x)) k.last
      by false = refl

  finds_root : (test : A → Bool) (k : Known A) (x : A) (ts : Trees A) → finds test k (preorder (tree x ts)) [] ≡ (known_at test x k).last
  finds_root test k x ts =
      finds_deeper test k x ts []
      ∙ ap (λ o. or_else o (known_at test x k).last)
      (none_into (suc (known_at test x k).passed) (passing test (preorder_from 0 ts)) [] (passing_all (λ s. leads_into s.path [] ≡ false) test (preorder_from 0 ts)
      (all_on (λ s. IsFrom 0 s.path) (λ s. leads_into s.path [] ≡ false) (preorder_from 0 ts) (λ s h. not_root s.path h) (all_from 0 ts))))

  cut : (test : A → Bool) (n i : ℕ) (t : Tree A) (ts : Trees A) (q : Path) → last_into n (passing test (preorder_from i (more t ts))) q ≡ or_else (last_into (n + count test (preorder t)) (passing test (preorder_from (suc i) ts)) q) (last_into n (map (below i) (passing test (preorder t))) q)
  cut test n i t ts q =
      let rest = passing test (preorder_from (suc i) ts) in
      let first = passing test (preorder t) in
      ap (λ ss. last_into n ss q) (passing_both test (map (below i) (preorder t)) (preorder_from (suc i) ts) ∙ ap (λ ss. ss ++ rest) (passing_below test i (preorder t)))
      ∙ (last_both n (map (below i) first) rest q ∙ ap (λ m. or_else (last_into (n + m) rest q) (last_into n (map (below i) first) q)) (as_many i first))

  finds_first : (test : A → Bool) (k : Known A) (i : ℕ) (t : Tree A) (ts : Trees A) (q : Path) → finds test k (preorder_from i (more t ts)) (i ∷ q) ≡ finds test k (preorder t) q
  finds_first test k i t ts q =
      let n = suc k.passed in
      let rest = passing test (preorder_from (suc i) ts) in
      let first = passing test (preorder t) in
      ap (λ o. or_else o k.last)
      (cut test n i t ts (i ∷ q)
      ∙ ap₂ or_else
      (none_into (n + count test (preorder t)) rest (i ∷ q) (passing_all (λ s. leads_into s.path (i ∷ q) ≡ false) test (preorder_from (suc i) ts)
      (all_on (λ s. IsFrom (suc i) s.path) (λ s. leads_into s.path (i ∷ q) ≡ false) (preorder_from (suc i) ts) (λ s h. not_later i s.path q h) (all_from (suc i) ts))))
      (last_below n i first q))

  finds_later : (test : A → Bool) (k : Known A) (i : ℕ) (t : Tree A) (ts : Trees A) (q : Path) → IsFrom (suc i) q → finds test k (preorder_from i (more t ts)) q ≡ finds test (known_behind test t k) (preorder_from (suc i) ts) q
  finds_later test k i t ts [] h = absurd h
  finds_later test k i t ts (j ∷ q) h =
      let n = suc k.passed in
      let rest = passing test (preorder_from (suc i) ts) in
      let first = passing test (preorder t) in
      let above : i < j = omega (arith, h) in
      let m = n + count test (preorder t) in
      let found = last_into m rest (j ∷ q) in
      let e : m ≡ suc (k.passed + count test (preorder t)) = omega arith in
      ap (λ o. or_else o k.last)
      (cut test n i t ts (j ∷ q)
      ∙ (ap (λ o. or_else found o) (none_into n (map (below i) first) (j ∷ q) (not_below i j q first above))
      ∙ (or_none found ∙ ap (λ l. last_into l rest (j ∷ q)) e)))

-- ---- what is made of each part and of what holds it, by three tests

module _ {A : Type 0} where
  -- how many of these and of the parts in them pass
  abbrev pub count_all : (A → Bool) → Trees A → ℕ
  count_all test none = 0
  count_all test (more a ts) = count test (preorder a) + count_all test ts

  count_both : (test : A → Bool) (ss rs : List (Standing A)) → count test (ss ++ rs) ≡ count test ss + count test rs
  count_both test ss rs = ap length (passing_both test ss rs) ∙ length-append (passing test ss) (passing test rs)

  count_from : (test : A → Bool) (i : ℕ) (ts : Trees A) → count test (preorder_from i ts) ≡ count_all test ts
  count_from test i none = refl
  count_from test i (more a ts) =
      count_both test (map (below i) (preorder a)) (preorder_from (suc i) ts)
      ∙ ap₂ ◌+◌ (ap length (passing_below test i (preorder a)) ∙ as_many i (passing test (preorder a))) (count_from test (suc i) ts)

  pub count_tree : (test : A → Bool) (x : A) (ts : Trees A) (k : Known A) → k.passed + count test (preorder (tree x ts)) ≡ (known_at test x k).passed + count_all test ts
  count_tree test x ts k = by (test x) ∙ ap (λ n. (known_at test x k).passed + n) (count_from test 0 ts)
    where
      by : (b : Bool) → k.passed + length (cond b (record { path = []; part = x } ∷ passing test (preorder_from 0 ts)) (passing test (preorder_from 0 ts))) ≡ (known_if b x k).passed + count test (preorder_from 0 ts)
      by true = omega arith
      by false = refl

module _ {A B : Type 0} where
  pub flat_same : (f g : A → List B) (xs : List A) → AllByRecursion (λ x. f x ≡ g x) xs → flat_map f xs ≡ flat_map g xs
  flat_same f g [] h = refl
  flat_same f g (x ∷ xs) h = ap₂ ◌++◌ h.0 (flat_same f g xs h.1)

  flat_both : (f : A → List B) (xs ys : List A) → flat_map f (xs ++ ys) ≡ flat_map f xs ++ flat_map f ys
  flat_both f [] ys = refl
  flat_both f (x ∷ xs) ys = ap (λ bs. f x ++ bs) (flat_both f xs ys) ∙ sym (append_assoc (f x) (flat_map f xs) (flat_map f ys))

module _ {A B : Type 0} where
  flat_below : (f : Standing A → List B) (i : ℕ) (ss : List (Standing A)) → flat_map f (map (below i) ss) ≡ flat_map (λ s. f (below i s)) ss
  flat_below f i [] = refl
  flat_below f i (s ∷ ss) = ap (λ bs. f (below i s) ++ bs) (flat_below f i ss)

abbrev pub Making : Type 0 → Type 0 → Type 0
Making A B = Option (ℕ × A) → Option (ℕ × A) → Option (ℕ × A) → A → List B

pub record Tests (A : Type 0) : Type 0 where
  pub one : A → Bool
  pub two : A → Bool
  pub three : A → Bool

pub record Knows (A : Type 0) : Type 0 where
  pub one : Known A
  pub two : Known A
  pub three : Known A

module _ {A : Type 0} where
  abbrev pub knows_at : Tests A → A → Knows A → Knows A
  knows_at t x k = record { one = known_at t.one x k.one; two = known_at t.two x k.two; three = known_at t.three x k.three }

  abbrev pub knows_behind : Tests A → Tree A → Knows A → Knows A
  knows_behind t a k = record { one = known_behind t.one a k.one; two = known_behind t.two a k.two; three = known_behind t.three a k.three }

module _ {A B : Type 0} where
  abbrev mutual
    pub told : Tests A → Making A B → Knows A → Tree A → List B
    told t f k (tree x ts) = let j = knows_at t x k in f j.one.last j.two.last j.three.last x ++ told_all t f j ts

    pub told_all : Tests A → Making A B → Knows A → Trees A → List B
    told_all t f k none = []
    told_all t f k (more a ts) = told t f k a ++ told_all t f (knows_behind t a k) ts

  -- the same, by what is found among the parts in preorder
  abbrev pub made_of : Tests A → Making A B → Knows A → List (Standing A) → Standing A → List B
  made_of t f k ss s = f (finds t.one k.one ss s.path) (finds t.two k.two ss s.path) (finds t.three k.three ss s.path) s.part

  pub alike : (f : Making A B) (a b c d e g : Option (ℕ × A)) (x : A) → a ≡ d → b ≡ e → c ≡ g → f a b c x ≡ f d e g x
  alike f a b c d e g x p q r = ap (λ o. f o b c x) p ∙ (ap (λ o. f d o c x) q ∙ ap (λ o. f d e o x) r)

  mutual
    pub told_found : (t : Tests A) (f : Making A B) (k : Knows A) (a : Tree A) → told t f k a ≡ flat_map (made_of t f k (preorder a)) (preorder a)
    told_found t f k (tree x ts) =
        let a = tree x ts in
        let j = knows_at t x k in
        let rest = preorder_from 0 ts in
        ap₂ ◌++◌
        (sym (alike f (finds t.one k.one (preorder a) []) (finds t.two k.two (preorder a) []) (finds t.three k.three (preorder a) []) j.one.last j.two.last j.three.last x
        (finds_root t.one k.one x ts) (finds_root t.two k.two x ts) (finds_root t.three k.three x ts)))
        (told_all_found t f j 0 ts
        ∙ sym (flat_same (made_of t f k (preorder a)) (made_of t f j rest) rest
        (all_any (λ s. made_of t f k (preorder a) s ≡ made_of t f j rest s) rest
        (λ s. alike f (finds t.one k.one (preorder a) s.path) (finds t.two k.two (preorder a) s.path) (finds t.three k.three (preorder a) s.path) (finds t.one j.one rest s.path) (finds t.two j.two rest s.path) (finds t.three j.three rest s.path) s.part
        (finds_deeper t.one k.one x ts s.path) (finds_deeper t.two k.two x ts s.path) (finds_deeper t.three k.three x ts s.path)))))

    told_all_found : (t : Tests A) (f : Making A B) (k : Knows A) (i : ℕ) (ts : Trees A) → told_all t f k ts ≡ flat_map (made_of t f k (preorder_from i ts)) (preorder_from i ts)
    told_all_found t f k i none = refl
    told_all_found t f k i (more a ts) =
        let all = preorder_from i (more a ts) in
        let j = knows_behind t a k in
        let rest = preorder_from (suc i) ts in
        let here = preorder a in
        sym (flat_both (made_of t f k all) (map (below i) here) rest
        ∙ ap₂ ◌++◌
        (flat_below (made_of t f k all) i here
        ∙ (flat_same (λ s. made_of t f k all (below i s)) (made_of t f k here) here
        (all_any (λ s. made_of t f k all (below i s) ≡ made_of t f k here s) here
        (λ s. alike f (finds t.one k.one all (i ∷ s.path)) (finds t.two k.two all (i ∷ s.path)) (finds t.three k.three all (i ∷ s.path)) (finds t.one k.one here s.path) (finds t.two k.two here s.path) (finds t.three k.three here s.path) s.part
        (finds_first t.one k.one i a ts s.path) (finds_first t.two k.two i a ts s.path) (finds_first t.three k.three i a ts s.path)))
        ∙ sym (told_found t f k a)))
        (flat_same (made_of t f k all) (made_of t f j rest) rest
        (all_on (λ s. IsFrom (suc i) s.path) (λ s. made_of t f k all s ≡ made_of t f j rest s) rest
        (λ s h. alike f (finds t.one k.one all s.path) (finds t.two k.two all s.path) (finds t.three k.three all s.path) (finds t.one j.one rest s.path) (finds t.two j.two rest s.path) (finds t.three j.three rest s.path) s.part
        (finds_later t.one k.one i a ts s.path h) (finds_later t.two k.two i a ts s.path h) (finds_later t.three k.three i a ts s.path h))
        (all_from (suc i) ts))
        ∙ sym (told_all_found t f j (suc i) ts)))
