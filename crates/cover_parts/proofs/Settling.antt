-- What is noted at a test, and room for it.
use Rattle.std.proofs.Common.{◌≡◌, ◌+◌, ◌<◌, ◌≤◌, ℕ, zero, suc, List, [], ◌∷◌, ◌++◌, length, get_or, take, drop, true, false, Option, Some, refl, sym, ap, ◌∙◌, subst, arith, inl, inr, eq-eqb, ne_eqb}
use Rattle.std.specs.Prelude.{◌↔◌, ◌⊎◌, nat_eq}
use Rattle.std.specs.List.{Contains}
use Rattle.std.proofs.lemmas.List.{take_more}
use Rattle.std.proofs.lemmas.List.Elements.{Contains-append_cases, Contains-append_left, Contains-append_right}
use Rattle.atac_facts.specs.declared.fact.Fact.{Fact}
use Rattle.atac_facts.specs.declared.fact.Fact.TheVariants as fact
use Rattle.atac_facts.specs.Sets.{FactSet}
use Rattle.cover_parts.specs.Gaining.{Has, Gains, Same}
use Rattle.cover_parts.specs.declared.pending.Wait.{Wait}
use Rattle.cover_parts.specs.Settled.{puses, settled, Lacking, HasRoom, IsWait}
use Rattle.cover_parts.proofs.Cases.{either, by_test, only}

-- WAITS

same_wait : (w : Wait) (a k d u : ℕ) → w.activation ≡ a → w.decision ≡ k → w.definition ≡ d → w.user ≡ u → w ≡ record { activation = a; decision = k; definition = d; user = u }
same_wait w a k d u p q r s =
    let one : ◌≡◌ {A = Wait} w (record { activation = a; decision = w.decision; definition = w.definition; user = w.user }) = ap (λ (x : ℕ). record { activation = x; decision = w.decision; definition = w.definition; user = w.user }) p in
    let two : ◌≡◌ {A = Wait} (record { activation = a; decision = w.decision; definition = w.definition; user = w.user }) (record { activation = a; decision = k; definition = w.definition; user = w.user }) = ap (λ (x : ℕ). record { activation = a; decision = x; definition = w.definition; user = w.user }) q in
    let three : ◌≡◌ {A = Wait} (record { activation = a; decision = k; definition = w.definition; user = w.user }) (record { activation = a; decision = k; definition = d; user = w.user }) = ap (λ (x : ℕ). record { activation = a; decision = k; definition = x; user = w.user }) r in
    let four : ◌≡◌ {A = Wait} (record { activation = a; decision = k; definition = d; user = w.user }) (record { activation = a; decision = k; definition = d; user = u }) = ap (λ (x : ℕ). record { activation = a; decision = k; definition = d; user = x }) s in
    one ∙ two ∙ three ∙ four

same_number : (k j : ℕ) → ◌≡◌ {A = Option ℕ} (Some k) (Some j) → k ≡ j
same_number k j h = cc

pub wait_is : (owner : Option ℕ) (a k d u : ℕ) (w : Wait) → owner ≡ Some k → IsWait owner d u a w ↔ (w ≡ record { activation = a; decision = k; definition = d; user = u })
wait_is owner a k d u w e =
    (λ h. same_wait w a k d u h.1 (same_number w.decision k (sym h.0 ∙ e)) h.2 h.3, λ q. (e ∙ ap (λ (x : Wait). Some x.decision) (sym q), ap (λ (x : Wait). x.activation) q, ap (λ (x : Wait). x.definition) q, ap (λ (x : Wait). x.user) q))

pub waits_more : (owner : Option ℕ) (a k d u : ℕ) (old new : List Wait) → owner ≡ Some k → ((w : Wait) → Contains new w ↔ (Contains old w ⊎ (w ≡ record { activation = a; decision = k; definition = d; user = u }))) → (w : Wait) → Contains new w ↔ (Contains old w ⊎ IsWait owner d u a w)
waits_more owner a k d u old new e h w =
    let q = wait_is owner a k d u w e in
    (λ c. either (λ o. inl o) (λ n. inr (q.1 n)) ((h w).0 c), λ s. (h w).1 (either (λ o. inl o) (λ n. inr (q.0 n)) s))

-- COUNTING

pub lacking_one : (s : FactSet) (k o : ℕ) (w : Wait) (m : ℕ) (rest : List Wait) → w.decision ≡ k → (Has s (fact.PUse w.definition w.user o) → ⊥) → Lacking s (puses k o rest) m → Lacking s (puses k o (w ∷ rest)) (1 + m)
lacking_one s k o w m rest e n h = rw (eq-eqb w.decision k e) (inr (n, (m, omega arith, h)))

pub lacking_there : (s : FactSet) (k o : ℕ) (w : Wait) (m : ℕ) (rest : List Wait) → w.decision ≡ k → Has s (fact.PUse w.definition w.user o) → Lacking s (puses k o rest) m → Lacking s (puses k o (w ∷ rest)) (0 + m)
lacking_there s k o w m rest e n h = rw (eq-eqb w.decision k e) (inl (n, subst (λ j. Lacking s (puses k o rest) j) (omega arith) h))

pub lacking_other : (s : FactSet) (k o : ℕ) (w : Wait) (m : ℕ) (rest : List Wait) → (w.decision ≡ k → ⊥) → Lacking s (puses k o rest) m → Lacking s (puses k o (w ∷ rest)) (0 + m)
lacking_other s k o w m rest ne h = rw (ne_eqb w.decision k ne) (subst (λ j. Lacking s (puses k o rest) j) (omega arith) h)

next_suc : (xs : List Wait) (i : ℕ) (x : Wait) → i < length xs → x ≡ get_or xs i x → drop i xs ≡ x ∷ drop (suc i) xs
next_suc [] i x h e = absurd (omega arith)
next_suc (y ∷ xs) zero x h e = ap (λ (z : Wait). z ∷ xs) (sym e)
next_suc (y ∷ xs) (suc i) x h e = next_suc xs i x (omega arith) e

next : (xs : List Wait) (i : ℕ) (x : Wait) → i < length xs → x ≡ get_or xs i x → drop i xs ≡ x ∷ drop (i + 1) xs
next xs i x h e = let q : suc i ≡ i + 1 = omega arith in next_suc xs i x h e ∙ ap (λ j. x ∷ drop j xs) q

front : (xs : List Wait) (i : ℕ) (x : Wait) → i < length xs → x ≡ get_or xs i x → take (i + 1) xs ≡ take i xs ++ x ∷ []
front xs i x h e = take_more xs i x h ∙ ap (λ (y : Wait). take i xs ++ y ∷ []) (sym e)

pub read_same : (xs : List Wait) (i : ℕ) (d : Wait) → i < length xs → get_or xs i d ≡ get_or xs i (get_or xs i d)
read_same [] i d h = absurd (omega arith)
read_same (x ∷ xs) zero d h = refl
read_same (x ∷ xs) (suc i) d h = read_same xs i d (omega arith)

puses_append : (k o : ℕ) (xs ys : List Wait) → puses k o (xs ++ ys) ≡ puses k o xs ++ puses k o ys
puses_append k o [] ys = refl
puses_append k o (x ∷ xs) ys = by_test (nat_eq x.decision k) (λ t. rw t (ap (λ l. fact.PUse x.definition x.user o ∷ l) (puses_append k o xs ys))) (λ t. rw t (puses_append k o xs ys))

pub count_more : (s : FactSet) (k o : ℕ) (waits : List Wait) (i n r : ℕ) (x : Wait) → i < length waits → x ≡ get_or waits i x → ((m : ℕ) (rest : List Wait) → Lacking s (puses k o rest) m → Lacking s (puses k o (x ∷ rest)) (r + m)) → ((m : ℕ) → Lacking s (puses k o (drop i waits)) m → Lacking s (puses k o waits) (n + m)) → (m : ℕ) → Lacking s (puses k o (drop (i + 1) waits)) m → Lacking s (puses k o waits) (n + r + m)
count_more s k o waits i n r x h e one so m l =
    subst (λ j. Lacking s (puses k o waits) j) (omega arith) (so (r + m) (subst (λ ws. Lacking s (puses k o ws) (r + m)) (sym (next waits i x h e)) (one m (drop (i + 1) waits) l)))

pub lacking_zero : (s : FactSet) (facts : List Fact) → Lacking s facts 0 → (f : Fact) → Contains facts f → Has s f
lacking_zero s [] l f w = absurd (omega (arith, w.1))
lacking_zero s (g ∷ facts) l f w = either
    (λ p. either (λ c. subst (λ x. Has s x) (sym (only g f c)) p.0) (λ c. lacking_zero s facts p.1 f c) (Contains-append_cases (g ∷ []) facts f w))
    (λ p. absurd (omega (arith, p.1.1)))
    l

pub all_there : (s : FactSet) (facts : List Fact) (n : ℕ) → Lacking s facts n → ((f : Fact) → Contains facts f → Has s f) → n ≡ 0
all_there s [] n l h = l
all_there s (g ∷ facts) n l h = either (λ p. all_there s facts n p.1 (λ f c. h f (Contains-append_right (g ∷ []) facts f c))) (λ p. absurd (p.0 (h g (0, omega arith, refl)))) l

pub lacking_same : (s t : FactSet) (facts : List Fact) (n : ℕ) → Same s t → Lacking s facts n → Lacking t facts n
lacking_same s t [] n e l = l
lacking_same s t (g ∷ facts) n e l = either (λ p. inl ((e g).1 p.0, lacking_same s t facts n e p.1)) (λ p. inr (λ h. p.0 ((e g).0 h), (p.1.0, p.1.1, lacking_same s t facts p.1.0 e p.1.2))) l

-- NOTING

pub noted_none : (s : FactSet) (facts : List Fact) → Lacking s facts 0 → Gains s s (λ f. Contains facts f)
noted_none s facts l f = (λ h. inl h, λ h. either (λ a. a) (λ c. lacking_zero s facts l f c) h)

pub noted_same : (s t u : FactSet) (facts : List Fact) → Same s t → Gains t u (λ f. Contains facts f) → Gains s u (λ f. Contains facts f)
noted_same s t u facts e g f = (λ h. either (λ a. inl ((e f).0 a)) (λ c. inr c) ((g f).0 h), λ h. (g f).1 (either (λ a. inl ((e f).1 a)) (λ c. inr c) h))

pub noted_first : (s t : FactSet) (g : Fact) → Gains s t (λ f. f ≡ g) → Gains s t (λ f. Contains (g ∷ []) f)
noted_first s t g h f = (λ a. either (λ o. inl o) (λ e. inr (subst (λ x. Contains (g ∷ []) x) (sym e) (0, omega arith, refl))) ((h f).0 a), λ a. (h f).1 (either (λ o. inl o) (λ c. inr (only g f c)) a))

noted_join : (s t u : FactSet) (before after : List Fact) → Gains s t (λ f. Contains before f) → Gains t u (λ f. Contains after f) → Gains s u (λ f. Contains (before ++ after) f)
noted_join s t u before after g h f =
    (λ a. either (λ o. either (λ p. inl p) (λ c. inr (Contains-append_left before after f c)) ((g f).0 o)) (λ c. inr (Contains-append_right before after f c)) ((h f).0 a), λ a. (h f).1 (either (λ o. inl ((g f).1 (inl o))) (λ c. either (λ l. inl ((g f).1 (inr l))) (λ r. inr r) (Contains-append_cases before after f c)) a))

pub noted_more : (s t u : FactSet) (k o : ℕ) (waits : List Wait) (i : ℕ) (x : Wait) → i < length waits → x ≡ get_or waits i x → Gains s t (λ f. Contains (settled k o (take i waits)) f) → Gains t u (λ f. Contains (puses k o (x ∷ [])) f) → Gains s u (λ f. Contains (settled k o (take (i + 1) waits)) f)
noted_more s t u k o waits i x l e g h =
    let q : settled k o (take (i + 1) waits) ≡ settled k o (take i waits) ++ puses k o (x ∷ []) = ap (settled k o) (front waits i x l e) ∙ ap (λ l. fact.Outcome k o ∷ l) (puses_append k o (take i waits) (x ∷ [])) in
    subst (λ (l : List Fact). Gains s u (λ f. Contains l f)) (sym q) (noted_join s t u (settled k o (take i waits)) (puses k o (x ∷ [])) g h)

-- ROOM

pub room_first : (s : FactSet) (g : Fact) (facts : List Fact) (room : ℕ) → HasRoom s (g ∷ facts) room → Has s g ⊎ (0 < room)
room_first s g facts room r = either (λ p. inl p.0) (λ p. inr (omega (arith, r.enough, p.1.1))) r.lacking

pub room_rest : (s : FactSet) (g : Fact) (facts : List Fact) (room left : ℕ) → HasRoom s (g ∷ facts) room → (Has s g → room ≤ left) → room ≤ left + 1 → HasRoom s facts left
room_rest s g facts room left r kept less = either (λ p. record { count = r.count; lacking = p.1; enough = omega (arith, r.enough, kept p.0) }) (λ p. record { count = p.1.0; lacking = p.1.2; enough = omega (arith, r.enough, less, p.1.1) }) r.lacking

grown : (s t : FactSet) (facts : List Fact) (f : Fact) → Gains s t (λ f. Contains facts f) → Has s f → Has t f
grown s t facts f g h = (g f).1 (inl h)

pub room_at : (s t : FactSet) (done : List Fact) (k o : ℕ) (waits : List Wait) (i room : ℕ) (x : Wait) → i < length waits → x ≡ get_or waits i x → Gains s t (λ f. Contains done f) → HasRoom s (puses k o (drop i waits)) room → x.decision ≡ k → Has t (fact.PUse x.definition x.user o) ⊎ (0 < room)
room_at s t done k o waits i room x l e g r d =
    let r' : HasRoom s (puses k o (x ∷ drop (i + 1) waits)) room = subst (λ (ws : List Wait). HasRoom s (puses k o ws) room) (next waits i x l e) r in
    let r'' : HasRoom s (fact.PUse x.definition x.user o ∷ puses k o (drop (i + 1) waits)) room = rw (eq-eqb x.decision k d) at r' in
    either (λ h. inl (grown s t done (fact.PUse x.definition x.user o) g h)) (λ p. inr p) (room_first s (fact.PUse x.definition x.user o) (puses k o (drop (i + 1) waits)) room r'')

pub room_more : (s t : FactSet) (done : List Fact) (k o : ℕ) (waits : List Wait) (i room left : ℕ) (x : Wait) → i < length waits → x ≡ get_or waits i x → Gains s t (λ f. Contains done f) → HasRoom s (puses k o (drop i waits)) room → ((x.decision ≡ k → Has t (fact.PUse x.definition x.user o)) → room ≤ left) → room ≤ left + 1 → HasRoom s (puses k o (drop (i + 1) waits)) left
room_more s t done k o waits i room left x l e g r kept less =
    let r' : HasRoom s (puses k o (x ∷ drop (i + 1) waits)) room = subst (λ (ws : List Wait). HasRoom s (puses k o ws) room) (next waits i x l e) r in
    by_test (nat_eq x.decision k)
    (λ b. let r'' : HasRoom s (fact.PUse x.definition x.user o ∷ puses k o (drop (i + 1) waits)) room = rw b at r' in room_rest s (fact.PUse x.definition x.user o) (puses k o (drop (i + 1) waits)) room left r'' (λ h. kept (λ _. grown s t done (fact.PUse x.definition x.user o) g h)) less)
    (λ b. let r'' : HasRoom s (puses k o (drop (i + 1) waits)) room = rw b at r' in record { count = r''.count; lacking = r''.lacking; enough = omega (arith, r''.enough, kept (λ q. absurd (false_true (sym b ∙ eq-eqb x.decision k q)))) })
  where
    false_true : false ≡ true → ⊥
    false_true h = cc

-- THE COUNT AT THE END

pub count_all : (s : FactSet) (k o : ℕ) (waits : List Wait) (i n : ℕ) → length waits ≤ i → ((m : ℕ) → Lacking s (puses k o (drop i waits)) m → Lacking s (puses k o waits) (n + m)) → Lacking s (puses k o waits) n
count_all s k o waits i n h so =
    let q : n + 0 ≡ n = omega arith in
    let e : drop i waits ≡ [] = dropped waits i h in
    subst (λ j. Lacking s (puses k o waits) j) q (so 0 (subst (λ (ws : List Wait). Lacking s (puses k o ws) 0) (sym e) refl))
  where
    dropped : (xs : List Wait) (i : ℕ) → length xs ≤ i → drop i xs ≡ []
    dropped [] zero h = refl
    dropped [] (suc i) h = refl
    dropped (x ∷ xs) zero h = absurd (omega arith)
    dropped (x ∷ xs) (suc i) h = dropped xs i (omega arith)

pub taken_all : (xs : List Wait) (i : ℕ) → length xs ≤ i → take i xs ≡ xs
taken_all [] zero h = refl
taken_all [] (suc i) h = refl
taken_all (x ∷ xs) zero h = absurd (omega arith)
taken_all (x ∷ xs) (suc i) h = ap (λ l. x ∷ l) (taken_all xs i (omega arith))

pub outcome_lacks : (s : FactSet) (k o n : ℕ) (waits : List Wait) → (Has s (fact.Outcome k o) → ⊥) → Lacking s (puses k o waits) n → Lacking s (settled k o waits) (n + 1)
outcome_lacks s k o n waits ne h = inr (ne, (n, omega arith, h))

pub test_false : (P : Type 0) → (P → false ≡ true) → P → ⊥
test_false P f p = let h : false ≡ true = f p in absurd (cc)
