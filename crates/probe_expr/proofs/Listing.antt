-- Lists of any kind that are walked through, and made from their fronts.
use Rattle.std.proofs.Common.{◌≡◌, ℕ, ◌+◌, ◌<◌, ◌≤◌, refl, List, [], ◌∷◌, ◌++◌, length, get_or, drop, ap, sym, ◌∙◌}
use Rattle.std.proofs.lemmas.List.{drop_more, drop_all}
use Rattle.c_walk.specs.Walked.{Walked}

-- the list of shapes of a list of the code, what it is with its probes, and the walk over it, each by what they are at its first part; and
-- what the code knows of where the walk stands
pub record Listing (X S L V C : Type 0) : Type 0 where
  pub shape : X → S
  pub none : L
  pub more : S → L → L
  pub list : List X → L
  pub one : S → V → S
  pub step : S → V → V
  pub all : L → V → L
  pub walk : L → V → Walked
  pub known : V → C
  pub seen : V → Walked
  pub list_none : list [] ≡ none
  pub list_more : (x : X) (xs : List X) → list (x ∷ xs) ≡ more (shape x) (list xs)
  pub all_none : (v : V) → all none v ≡ none
  pub all_more : (s : S) (l : L) (v : V) → all (more s l) v ≡ more (one s v) (all l (step s v))
  pub walk_none : (v : V) → walk none v ≡ seen v
  pub walk_more : (s : S) (l : L) (v : V) → walk (more s l) v ≡ walk l (step s v)

module _ {X S L V C : Type 0} (k : Listing X S L V C) where
  -- the parts in front of those shapes
  abbrev pub onto : List X → L → L
  onto [] rest = rest
  onto (x ∷ xs) rest = k.more (k.shape x) (onto xs rest)

  onto_push : (xs : List X) (x : X) (rest : L) → onto (xs ++ x ∷ []) rest ≡ onto xs (k.more (k.shape x) rest)
  onto_push [] x rest = refl
  onto_push (y ∷ xs) x rest = ap (k.more (k.shape y)) (onto_push xs x rest)

  onto_none : (xs : List X) → onto xs k.none ≡ k.list xs
  onto_none [] = sym k.list_none
  onto_none (x ∷ xs) = ap (k.more (k.shape x)) (onto_none xs) ∙ sym (k.list_more x xs)

  -- where the walk has come, those that are made, in front of those to come, are all
  abbrev pub SoFar : C → List X → List X → List X → V → Type 0
  SoFar state made left whole start =
      (v : V) × (k.known v ≡ state) × (onto made (k.all (k.list left) v) ≡ k.all (k.list whole) start) × (k.walk (k.list left) v ≡ k.walk (k.list whole) start)

  pub begun : (state : C) (whole : List X) (start : V) → k.known start ≡ state → SoFar state [] whole whole start
  begun state whole start h = (start, h, refl, refl)

  pub one_more : (state next : C) (ms ns : List X) (y x : X) (whole : List X) (i : ℕ) (start : V) → ns ≡ ms ++ y ∷ [] → i < length whole → x ≡ get_or whole i x → ((v : V) → k.known v ≡ state → (k.shape y ≡ k.one (k.shape x) v) × (k.known (k.step (k.shape x) v) ≡ next)) → SoFar state ms (drop i whole) whole start → SoFar next ns (drop (i + 1) whole) whole start
  one_more state next ms ns y x whole i start put less is made p =
      let v = p.0 in
      let q = made v p.1 in
      let left = k.list (drop (i + 1) whole) in
      let split : k.list (drop i whole) ≡ k.more (k.shape x) left = ap k.list (drop_more whole i x less) ∙ k.list_more (get_or whole i x) (drop (i + 1) whole) ∙ ap (λ z. k.more (k.shape z) left) (sym is) in
      let u = k.step (k.shape x) v in
      let front : onto ns (k.all left u) ≡ onto ms (k.all (k.list (drop i whole)) v) =
      ap (λ zs. onto zs (k.all left u)) put ∙ onto_push ms y (k.all left u) ∙ ap (λ s. onto ms (k.more s (k.all left u))) q.0
      ∙ ap (onto ms) (sym (k.all_more (k.shape x) left v)) ∙ ap (λ l. onto ms (k.all l v)) (sym split) in
      (u, q.1, front ∙ p.2, sym (k.walk_more (k.shape x) left v) ∙ ap (λ l. k.walk l v) (sym split) ∙ p.3)

  -- at the end all are made
  abbrev pub Ended : C → List X → List X → V → Type 0
  Ended state made whole start = (v : V) × (k.known v ≡ state) × (k.list made ≡ k.all (k.list whole) start) × (k.walk (k.list whole) start ≡ k.seen v)

  pub ended : (state : C) (ms whole : List X) (i : ℕ) (start : V) → length whole ≤ i → SoFar state ms (drop i whole) whole start → Ended state ms whole start
  ended state ms whole i start past p =
      let v = p.0 in
      let none : k.list (drop i whole) ≡ k.none = ap k.list (drop_all i whole past) ∙ k.list_none in
      let all : k.all (k.list (drop i whole)) v ≡ k.none = ap (λ l. k.all l v) none ∙ k.all_none v in
      let walked : k.walk (k.list (drop i whole)) v ≡ k.seen v = ap (λ l. k.walk l v) none ∙ k.walk_none v in
      (v, p.1, sym (onto_none ms) ∙ sym (ap (onto ms) all) ∙ p.2, sym p.3 ∙ walked)
