-- Of any tree: the parts in preorder stand each where its path leads, each before all behind it, and no part is missing.
use Rattle.std.proofs.Common.{◌≡◌, ℕ, zero, suc, ◌+◌, ◌≤◌, List, [], ◌∷◌, ◌++◌, map, filter, flat_map, Bool, true, false, cond, Some, refl, ap, ap₂, sym, subst, ◌∙◌, inl, inr, arith, append_assoc, append-nil, unwrap_or}
use Rattle.std.specs.List.{AllByRecursion}
use Rattle.c_ordered.specs.Trees.{Tree, tree, Trees, none, more, Path, at, at_one, IsBefore, Standing, below, preorder, preorder_from, AreInOrder, IsIn}

-- ---- paths into parts of numbers

-- a path into a part that is numbered i or later
abbrev pub IsFrom : ℕ → Path → Type 0
IsFrom i [] = ⊥
IsFrom i (j ∷ q) = i ≤ j

later : (i : ℕ) (q : Path) → IsFrom (suc i) q → IsFrom i q
later i [] h = h
later i (j ∷ q) h = omega (arith, h)

before_later : (i : ℕ) (p q : Path) → IsFrom (suc i) q → IsBefore (i ∷ p) q
before_later i p [] h = absurd h
before_later i p (j ∷ q) h = inl (omega (arith, h))

root_first : (i : ℕ) (q : Path) → IsFrom i q → IsBefore [] q
root_first i [] h = absurd h
root_first i (j ∷ q) h = tt

module _ {A : Type 0} where
  -- ---- what all of them have

  all_below : (P : Standing A → Type 0) (i : ℕ) (ss : List (Standing A)) → AllByRecursion (λ s. P (below i s)) ss → AllByRecursion P (map (below i) ss)
  all_below P i [] h = tt
  all_below P i (s ∷ ss) h = (h.0, all_below P i ss h.1)

  all_both : (P : Standing A → Type 0) (ss rs : List (Standing A)) → AllByRecursion P ss → AllByRecursion P rs → AllByRecursion P (ss ++ rs)
  all_both P [] rs h k = k
  all_both P (s ∷ ss) rs h k = (h.0, all_both P ss rs h.1 k)

  pub all_on : (P Q : Standing A → Type 0) (ss : List (Standing A)) → ((s : Standing A) → P s → Q s) → AllByRecursion P ss → AllByRecursion Q ss
  all_on P Q [] f h = tt
  all_on P Q (s ∷ ss) f h = (f s h.0, all_on P Q ss f h.1)

  pub all_any : (P : Standing A → Type 0) (ss : List (Standing A)) → ((s : Standing A) → P s) → AllByRecursion P ss
  all_any P [] f = tt
  all_any P (s ∷ ss) f = (f s, all_any P ss f)

  -- ---- order

  pub all_from : (i : ℕ) (ts : Trees A) → AllByRecursion (λ s. IsFrom i s.path) (preorder_from i ts)
  all_from i none = tt
  all_from i (more t ts) =
      all_both (λ s. IsFrom i s.path) (map (below i) (preorder t)) (preorder_from (suc i) ts)
      (all_below (λ s. IsFrom i s.path) i (preorder t) (all_any (λ s. IsFrom i (i ∷ s.path)) (preorder t) (λ s. omega arith)))
      (all_on (λ s. IsFrom (suc i) s.path) (λ s. IsFrom i s.path) (preorder_from (suc i) ts) (λ s h. later i s.path h) (all_from (suc i) ts))

  ordered_below : (i : ℕ) (ss : List (Standing A)) → AreInOrder ss → AreInOrder (map (below i) ss)
  ordered_below i [] h = tt
  ordered_below i (s ∷ ss) h =
      (all_below (λ r. IsBefore (i ∷ s.path) r.path) i ss (all_on (λ r. IsBefore s.path r.path) (λ r. IsBefore (i ∷ s.path) (i ∷ r.path)) ss (λ r k. inr (refl, k)) h.0), ordered_below i ss h.1)

  ordered_both : (ss rs : List (Standing A)) → AreInOrder ss → AreInOrder rs → AllByRecursion (λ s. AllByRecursion (λ r. IsBefore s.path r.path) rs) ss → AreInOrder (ss ++ rs)
  ordered_both [] rs h k b = k
  ordered_both (s ∷ ss) rs h k b = (all_both (λ r. IsBefore s.path r.path) ss rs h.0 b.0, ordered_both ss rs h.1 k b.1)

  mutual
    pub in_order : (t : Tree A) → AreInOrder (preorder t)
    in_order (tree x ts) = (all_on (λ s. IsFrom 0 s.path) (λ s. IsBefore [] s.path) (preorder_from 0 ts) (λ s h. root_first 0 s.path h) (all_from 0 ts), in_order_from 0 ts)

    in_order_from : (i : ℕ) (ts : Trees A) → AreInOrder (preorder_from i ts)
    in_order_from i none = tt
    in_order_from i (more t ts) =
        ordered_both (map (below i) (preorder t)) (preorder_from (suc i) ts) (ordered_below i (preorder t) (in_order t)) (in_order_from (suc i) ts)
        (all_below (λ s. AllByRecursion (λ r. IsBefore s.path r.path) (preorder_from (suc i) ts)) i (preorder t)
        (all_any (λ s. AllByRecursion (λ r. IsBefore (i ∷ s.path) r.path) (preorder_from (suc i) ts)) (preorder t)
        (λ s. all_on (λ r. IsFrom (suc i) r.path) (λ r. IsBefore (i ∷ s.path) r.path) (preorder_from (suc i) ts) (λ r h. before_later i s.path r.path h) (all_from (suc i) ts))))

  -- ---- those that pass a test

  all_kept : (P : Standing A → Type 0) (test : Standing A → Bool) (ss : List (Standing A)) → AllByRecursion P ss → AllByRecursion P (filter test ss)
  all_kept P test [] h = tt
  all_kept P test (s ∷ ss) h = by (test s) (all_kept P test ss h.1)
    where
      by : (b : Bool) → AllByRecursion P (filter test ss) → AllByRecursion P (cond b (s ∷ filter test ss) (filter test ss))
      by true k = (h.0, k)
      by false k = k

  pub in_order_kept : (test : Standing A → Bool) (ss : List (Standing A)) → AreInOrder ss → AreInOrder (filter test ss)
  in_order_kept test [] h = tt
  in_order_kept test (s ∷ ss) h = by (test s) (in_order_kept test ss h.1)
    where
      by : (b : Bool) → AreInOrder (filter test ss) → AreInOrder (cond b (s ∷ filter test ss) (filter test ss))
      by true k = (all_kept (λ r. IsBefore s.path r.path) test ss h.0, k)
      by false k = k

  -- ---- paths

  -- it stands where its path leads, among parts numbered from i on
  abbrev LeadsFrom : ℕ → Trees A → Path → A → Type 0
  LeadsFrom i ts [] x = ⊥
  LeadsFrom i ts (j ∷ q) x = (k : ℕ) × (j ≡ i + k) × (at_one k q ts ≡ Some x)

  leads_later : (i : ℕ) (t : Tree A) (ts : Trees A) (p : Path) (x : A) → LeadsFrom (suc i) ts p x → LeadsFrom i (more t ts) p x
  leads_later i t ts [] x h = h
  leads_later i t ts (j ∷ q) x h = let e = h.1 in (suc h.0, omega (arith, e), h.2)

  leads_from_start : (ts : Trees A) (p : Path) (x y : A) → LeadsFrom 0 ts p x → at p (tree y ts) ≡ Some x
  leads_from_start ts [] x y h = absurd h
  leads_from_start ts (j ∷ q) x y h = let e = h.1 in let same : j ≡ h.0 = omega (arith, e) in subst (λ n. at_one n q ts ≡ Some x) (sym same) h.2

  mutual
    pub leads : (t : Tree A) → AllByRecursion (λ s. at s.path t ≡ Some s.part) (preorder t)
    leads (tree x ts) = (refl, all_on (λ s. LeadsFrom 0 ts s.path s.part) (λ s. at s.path (tree x ts) ≡ Some s.part) (preorder_from 0 ts) (λ s h. leads_from_start ts s.path s.part x h) (leads_from 0 ts))

    leads_from : (i : ℕ) (ts : Trees A) → AllByRecursion (λ s. LeadsFrom i ts s.path s.part) (preorder_from i ts)
    leads_from i none = tt
    leads_from i (more t ts) =
        all_both (λ s. LeadsFrom i (more t ts) s.path s.part) (map (below i) (preorder t)) (preorder_from (suc i) ts)
        (all_below (λ s. LeadsFrom i (more t ts) s.path s.part) i (preorder t)
        (all_on (λ s. at s.path t ≡ Some s.part) (λ s. LeadsFrom i (more t ts) (i ∷ s.path) s.part) (preorder t) (λ s h. (0, omega arith, h)) (leads t)))
        (all_on (λ s. LeadsFrom (suc i) ts s.path s.part) (λ s. LeadsFrom i (more t ts) s.path s.part) (preorder_from (suc i) ts) (λ s h. leads_later i t ts s.path s.part h) (leads_from (suc i) ts))

  -- ---- none is missing

  in_below : (i : ℕ) (s : Standing A) (ss : List (Standing A)) → IsIn s ss → IsIn (below i s) (map (below i) ss)
  in_below i s [] h = absurd h
  in_below i s (r ∷ ss) (inl h) = inl (ap (below i) h)
  in_below i s (r ∷ ss) (inr h) = inr (in_below i s ss h)

  in_first : (s : Standing A) (ss rs : List (Standing A)) → IsIn s ss → IsIn s (ss ++ rs)
  in_first s [] rs h = absurd h
  in_first s (r ∷ ss) rs (inl h) = inl h
  in_first s (r ∷ ss) rs (inr h) = inr (in_first s ss rs h)

  in_second : (s : Standing A) (ss rs : List (Standing A)) → IsIn s rs → IsIn s (ss ++ rs)
  in_second s [] rs h = h
  in_second s (r ∷ ss) rs h = inr (in_second s ss rs h)

  some_same : (x y : A) → Some x ≡ Some y → x ≡ y
  some_same x y h = ap (λ o. unwrap_or o x) h

  mutual
    pub listed : (p : Path) (t : Tree A) (x : A) → at p t ≡ Some x → IsIn (record { path = p; part = x }) (preorder t)
    listed [] (tree y ts) x h = inl (ap (λ z. record { path = []; part = z }) (some_same x y (sym h)))
    listed (i ∷ p) (tree y ts) x h = let e : 0 + i ≡ i = omega arith in inr (subst (λ j. IsIn (record { path = j ∷ p; part = x }) (preorder_from 0 ts)) e (listed_from 0 i p ts x h))

    listed_from : (i k : ℕ) (p : Path) (ts : Trees A) (x : A) → at_one k p ts ≡ Some x → IsIn (record { path = (i + k) ∷ p; part = x }) (preorder_from i ts)
    listed_from i k p none x h = cc
    listed_from i zero p (more t ts) x h =
        let all = map (below i) (preorder t) ++ preorder_from (suc i) ts in
        let e : i ≡ i + 0 = omega arith in
        subst (λ j. IsIn (record { path = j ∷ p; part = x }) all) e
        (in_first (record { path = i ∷ p; part = x }) (map (below i) (preorder t)) (preorder_from (suc i) ts) (in_below i (record { path = p; part = x }) (preorder t) (listed p t x h)))
    listed_from i (suc k) p (more t ts) x h =
        let all = map (below i) (preorder t) ++ preorder_from (suc i) ts in
        let e : suc i + k ≡ i + suc k = omega arith in
        subst (λ j. IsIn (record { path = j ∷ p; part = x }) all) e
        (in_second (record { path = (suc i + k) ∷ p; part = x }) (map (below i) (preorder t)) (preorder_from (suc i) ts) (listed_from (suc i) k p ts x h))
    -- ---- what is made of the parts, one after the other

module _ {A B : Type 0} where
  abbrev mutual
    pub in_tree : (A → List B) → Tree A → List B
    in_tree f (tree x ts) = f x ++ in_trees f ts

    pub in_trees : (A → List B) → Trees A → List B
    in_trees f none = []
    in_trees f (more t ts) = in_tree f t ++ in_trees f ts

  made_below : (f : A → List B) (i : ℕ) (ss : List (Standing A)) → flat_map (λ s. f s.part) (map (below i) ss) ≡ flat_map (λ s. f s.part) ss
  made_below f i [] = refl
  made_below f i (s ∷ ss) = ap (λ bs. f s.part ++ bs) (made_below f i ss)

  made_both : (f : A → List B) (ss rs : List (Standing A)) → flat_map (λ s. f s.part) (ss ++ rs) ≡ flat_map (λ s. f s.part) ss ++ flat_map (λ s. f s.part) rs
  made_both f [] rs = refl
  made_both f (s ∷ ss) rs = ap (λ bs. f s.part ++ bs) (made_both f ss rs) ∙ sym (append_assoc (f s.part) (flat_map (λ r. f r.part) ss) (flat_map (λ r. f r.part) rs))

  mutual
    pub made : (f : A → List B) (t : Tree A) → flat_map (λ s. f s.part) (preorder t) ≡ in_tree f t
    made f (tree x ts) = ap (λ bs. f x ++ bs) (made_from f 0 ts)

    made_from : (f : A → List B) (i : ℕ) (ts : Trees A) → flat_map (λ s. f s.part) (preorder_from i ts) ≡ in_trees f ts
    made_from f i none = refl
    made_from f i (more t ts) = made_both f (map (below i) (preorder t)) (preorder_from (suc i) ts) ∙ ap₂ ◌++◌ (made_below f i (preorder t) ∙ made f t) (made_from f (suc i) ts)

  -- the same in front of more
  abbrev mutual
    pub and_tree : (A → List B) → Tree A → List B → List B
    and_tree f (tree x ts) bs = f x ++ and_trees f ts bs

    pub and_trees : (A → List B) → Trees A → List B → List B
    and_trees f none bs = bs
    and_trees f (more t ts) bs = and_tree f t (and_trees f ts bs)

  mutual
    pub tree_first : (f : A → List B) (t : Tree A) (bs : List B) → and_tree f t bs ≡ in_tree f t ++ bs
    tree_first f (tree x ts) bs = ap (λ cs. f x ++ cs) (trees_first f ts bs) ∙ sym (append_assoc (f x) (in_trees f ts) bs)

    trees_first : (f : A → List B) (ts : Trees A) (bs : List B) → and_trees f ts bs ≡ in_trees f ts ++ bs
    trees_first f none bs = refl
    trees_first f (more t ts) bs = tree_first f t (and_trees f ts bs) ∙ (ap (λ cs. in_tree f t ++ cs) (trees_first f ts bs) ∙ sym (append_assoc (in_tree f t) (in_trees f ts) bs))

  pub made_first : (f : A → List B) (t : Tree A) → flat_map (λ s. f s.part) (preorder t) ≡ and_tree f t []
  made_first f t = made f t ∙ (sym (append-nil (in_tree f t)) ∙ sym (tree_first f t []))
