-- The pairs that walks have are those that rows have.
use Rattle.std.proofs.Common.{ℕ, zero, suc, ◌≡◌, ◌⊎◌, ◌↔◌, inl, inr, List, [], ◌∷◌, ◌++◌, length, Option, Some, None, refl, ap, sym, subst, ◌∙◌, arith, append_assoc}
use Rattle.std.specs.Prelude.{slice_get, Contains}
use Rattle.std.proofs.lemmas.List.{append-nil}
use Rattle.std.proofs.lemmas.List.Elements.{Contains-append_right, Contains-push_cases}
use Rattle.flow_walks.specs.declared.action.Action.{Action}
use Rattle.flow_walks.specs.declared.action.Action.TheVariants.{Define, Use, Block, Test, Kill, Nothing}
use Rattle.c_sites.specs.declared.numbered.Sites.{Sites}
use Rattle.flow_marks.specs.declared.flow.FlowRow.{FlowRow}
use Rattle.flow_marks.specs.Paths.{action_of, action_at, IsStep, IsPath, put, spelled, Spells, Way, Leads, IsReached}
use Rattle.pair_list.specs.Listed.{Ends, IsPair}
use Rattle.pair_list.specs.Found.{IsFound}

-- an action is Nothing and left out, or stands first
put_cases : (a : Action) → ((a ≡ Nothing) × ((w : List Action) → put a w ≡ w)) ⊎ ((w : List Action) → put a w ≡ a ∷ w)
put_cases Nothing = inl (refl, λ w. refl)
put_cases (Define d) = inr (λ w. refl)
put_cases (Use u) = inr (λ w. refl)
put_cases (Block k) = inr (λ w. refl)
put_cases (Test k o) = inr (λ w. refl)
put_cases (Kill v) = inr (λ w. refl)

first_or : Action → List Action → Action
first_or d [] = d
first_or d (a ∷ w) = a

rest_of : List Action → List Action
rest_of [] = []
rest_of (a ∷ w) = w

first_same : (a b : Action) (v w : List Action) → a ∷ v ≡ b ∷ w → a ≡ b
unfolding first_or
first_same a b v w e = ap (first_or a) e

rest_same : (a b : Action) (v w : List Action) → a ∷ v ≡ b ∷ w → v ≡ w
unfolding rest_of
rest_same a b v w e = ap rest_of e

not_nothing : (pre : List Action) (a : Action) (v : List Action) → [] ≡ pre ++ a ∷ v → ⊥
not_nothing [] a v e = let l = ap length e in omega arith
not_nothing (b ∷ pre) a v e = let l = ap length e in omega arith

here_or_later : (b : Action) (w pre : List Action) (a : Action) (v : List Action) → b ∷ w ≡ pre ++ a ∷ v → ((pre ≡ []) × (b ≡ a) × (w ≡ v)) ⊎ ((pre' : List Action) × (pre ≡ b ∷ pre') × (w ≡ pre' ++ a ∷ v))
here_or_later b w [] a v e = inl (refl, first_same b a w v e, rest_same b a w v e)
here_or_later b w (c ∷ pre) a v e = inr (pre, ap (λ x. x ∷ pre) (sym (first_same b c w (pre ++ a ∷ v) e)), rest_same b c w (pre ++ a ∷ v) e)

module _ (g : List FlowRow) where
  -- these rows, one behind the other, lead to the row q
  abbrev Through : ℕ → List ℕ → ℕ → Type 0
  Through r [] q = r ≡ q
  Through r (t ∷ ts) q = IsStep g r t × Through t ts q

  -- what the rows before q spell
  abbrev told : ℕ → List ℕ → List Action
  told r [] = []
  told r (t ∷ ts) = put (action_at g r) (told t ts)

  -- what the rows after the first spell
  abbrev told_after : List ℕ → List Action
  told_after [] = []
  told_after (t ∷ ts) = spelled g t ts

  record Cut (r : ℕ) (pre : List Action) (a : Action) (v : List Action) : Type 0 where
    q : ℕ
    before : List ℕ
    through : Through r before q
    spells : told r before ≡ pre
    here : action_at g q ≡ a
    after : List ℕ
    path : IsPath g q after
    goes_on : told_after after ≡ v

  cut : (r : ℕ) (ts : List ℕ) → IsPath g r ts → (pre : List Action) (a : Action) (v : List Action) → spelled g r ts ≡ pre ++ a ∷ v → Cut r pre a v
  cut r [] p pre a v e = elim (put_cases (action_at g r)) [
    | inl none ↦ absurd (not_nothing pre a v (sym (none.1 []) ∙ e))
    | inr some ↦ elim (here_or_later (action_at g r) [] pre a v (sym (some []) ∙ e)) [
      | inl h ↦ record { q = r; before = []; through = refl; spells = sym h.0; here = h.1; after = []; path = p; goes_on = h.2 }
      | inr l ↦ absurd (not_nothing l.0 a v l.2)
    ]
  ]
  cut r (t ∷ ts) p pre a v e = elim (put_cases (action_at g r)) [
    | inl none ↦ (let f = cut t ts p.1 pre a v (sym (none.1 (spelled g t ts)) ∙ e) in
        record { q = f.q; before = t ∷ f.before; through = (p.0, f.through); spells = none.1 (told t f.before) ∙ f.spells; here = f.here; after = f.after; path = f.path; goes_on = f.goes_on })
    | inr some ↦ elim (here_or_later (action_at g r) (spelled g t ts) pre a v (sym (some (spelled g t ts)) ∙ e)) [
      | inl h ↦ record { q = r; before = []; through = refl; spells = sym h.0; here = h.1; after = t ∷ ts; path = p; goes_on = h.2 }
      | inr l ↦ (let f = cut t ts p.1 l.0 a v l.2 in
          record { q = f.q; before = t ∷ f.before; through = (p.0, f.through); spells = some (told t f.before) ∙ ap (λ x. action_at g r ∷ x) f.spells ∙ sym l.1; here = f.here; after = f.after; path = f.path; goes_on = f.goes_on })
    ]
  ]

  abbrev Free : (Action → Type 0) → List Action → Type 0
  Free P w = (a : Action) → Contains w a → P a → ⊥

  -- a row stops where its action is such a one
  abbrev at : (Action → Type 0) → ℕ → Type 0
  at P row = P (action_at g row)

  module _ (P : Action → Type 0) (quiet : P Nothing → ⊥) where
    free_first : (a : Action) (w : List Action) → Free P (put a w) → (P a → ⊥) × Free P w
    free_first a w f = elim (put_cases a) [
      | inl none ↦ ((λ p. quiet (subst P none.0 p)), subst (Free P) (none.1 w) f)
      | inr some ↦ (let f' : Free P (a ∷ w) = subst (Free P) (some w) f in ((λ p. f' a (0, omega arith, refl) p), (λ b c. f' b (Contains-append_right (a ∷ []) w b c))))
    ]

    extend : (a k t : ℕ) → Way g (at P) a t k → (ts : List ℕ) (q : ℕ) → Through t ts q → Free P (told t ts) → Leads g (at P) a q
    extend a k t way [] q l f = (k, subst (λ x. Way g (at P) a x k) l way)
    extend a k t way (u ∷ ts) q l f = (let h = free_first (action_at g t) (told u ts) f in extend a (suc k) u (t, way, h.0, l.0) ts q l.1 h.1)

    record Back (a : ℕ) (w : List Action) : Type 0 where
      rest : List ℕ
      mid : List Action
      path : IsPath g a rest
      spells : spelled g a rest ≡ put (action_at g a) (mid ++ w)
      free : Free P mid

    put_append : (a : Action) (mid w : List Action) → mid ++ put a w ≡ (mid ++ put a []) ++ w
    put_append a mid w = elim (put_cases a) [
      | inl none ↦ ap (λ x. mid ++ x) (none.1 w) ∙ ap (λ x. x ++ w) (sym (append-nil mid)) ∙ ap (λ x. (mid ++ x) ++ w) (sym (none.1 []))
      | inr some ↦ ap (λ x. mid ++ x) (some w) ∙ sym (append_assoc mid (a ∷ []) w) ∙ ap (λ x. (mid ++ x) ++ w) (sym (some []))
    ]

    free_more : (a : Action) (mid : List Action) → (P a → ⊥) → Free P mid → Free P (mid ++ put a [])
    free_more a mid never f = elim (put_cases a) [
      | inl none ↦ subst (Free P) (sym (append-nil mid) ∙ ap (λ x. mid ++ x) (sym (none.1 []))) f
      | inr some ↦ subst (Free P) (ap (λ x. mid ++ x) (sym (some []))) (λ b c p. elim (Contains-push_cases mid a b c) [ inl m ↦ f b m p | inr e ↦ never (subst P (sym e) p) ])
    ]

    back : (k a q : ℕ) → Way g (at P) a q k → (after : List ℕ) → IsPath g q after → (w : List Action) → spelled g q after ≡ w → Back a w
    back zero a q way after p w e = record { rest = q ∷ after; mid = []; path = (way, p); spells = ap (put (action_at g a)) e; free = λ b c. absurd (let lt = c.1 in omega arith) }
    back (suc k) a q way after p w e =
        let b = back k a way.0 way.1 (q ∷ after) (way.3, p) (put (action_at g way.0) w) (ap (put (action_at g way.0)) e) in
        record { rest = b.rest; mid = b.mid ++ put (action_at g way.0) []; path = b.path; spells = b.spells ∙ ap (put (action_at g a)) (put_append (action_at g way.0) b.mid w); free = free_more (action_at g way.0) b.mid way.2 b.free }

  ends_quiet : (s : Sites) (x n : ℕ) → Ends s x n Nothing → ⊥
  ends_quiet s x n p = p

  abbrev Never : Action → Type 0
  Never a = ⊥

  -- rows that row 0 leads to are reached, and the way back
  reached : (ts : List ℕ) (q : ℕ) → Through 0 ts q → IsReached g q
  reached [] q l = inl (sym l)
  reached (t ∷ ts) q l = inr (extend Never (λ x. x) 0 0 t l.0 ts q l.1 (λ a c x. x))

  from_entry : (q : ℕ) → IsReached g q → (after : List ℕ) → IsPath g q after → (w : List Action) → spelled g q after ≡ w → (pre : List Action) × Spells g 0 (pre ++ w)
  from_entry q (inl e) after p w f = ([], (after, subst (λ r. IsPath g r after) e p, subst (λ r. spelled g r after ≡ w) e f))
  from_entry q (inr l) after p w f =
      let b = back Never (λ x. x) l.0 0 q l.1 after p w f in
      (put (action_at g 0) b.mid, (b.rest, b.path, b.spells ∙ put_before (action_at g 0) b.mid w))
    where
      put_before : (a : Action) (mid w : List Action) → put a (mid ++ w) ≡ put a mid ++ w
      put_before a mid w = elim (put_cases a) [
        | inl none ↦ none.1 (mid ++ w) ∙ ap (λ x. x ++ w) (sym (none.1 mid))
        | inr some ↦ some (mid ++ w) ∙ ap (λ x. x ++ w) (sym (some mid))
      ]

  use_there : (q u : ℕ) → action_at g q ≡ Use u → (it : FlowRow) × (slice_get g q ≡ Some it)
  use_there q u e = by (slice_get g q) refl
    where
      is_use : Action → ℕ
      is_use (Use u) = 1
      is_use (Define d) = 0
      is_use (Block k) = 0
      is_use (Test k o) = 0
      is_use (Kill v) = 0
      is_use Nothing = 0

      by : (o : Option FlowRow) → slice_get g q ≡ o → (it : FlowRow) × (slice_get g q ≡ Some it)
      by (Some it) f = (it, f)
      by None f = absurd (let x : is_use Nothing ≡ is_use (Use u) = ap is_use (sym (ap action_of f) ∙ e) in omega arith)

  module _ (s : Sites) (f d u : ℕ) where
    pub found : IsPair (Spells g 0) s f d u → IsFound g s f d u
    found l =
        let c = cut 0 l.is_walk.0 l.is_walk.1 l.before (Define d) (l.between ++ Use u ∷ l.after) l.is_walk.2 in
        on c.q c.after c.path c.here (reached c.before c.q c.through) c.goes_on
      where
        on : (q : ℕ) (after : List ℕ) → IsPath g q after → action_at g q ≡ Define d → IsReached g q → told_after after ≡ l.between ++ Use u ∷ l.after → IsFound g s f d u
        on q [] p here r e = absurd (not_nothing l.between (Use u) l.after e)
        on q (t ∷ ts) p here r e =
            let c = cut t ts p.1 l.between (Use u) l.after e in
            record {
              variable = l.variable;
              name = l.name;
              sites = l.sites;
              from = q;
              to = c.q;
              reached = r;
              defines = here;
              uses = c.here;
              leads = extend (Ends s l.variable l.name) (ends_quiet s l.variable l.name) q 0 t p.0 c.before c.q c.through (subst (Free (Ends s l.variable l.name)) (sym c.spells) l.stands);
            }

    pub paired : IsFound g s f d u → IsPair (Spells g 0) s f d u
    paired l =
        let b = back (Ends s l.variable l.name) (ends_quiet s l.variable l.name) l.leads.0 l.from l.to l.leads.1 [] (use_there l.to u l.uses) (Use u ∷ []) (ap (λ a. put a []) l.uses) in
        let w = from_entry l.from l.reached b.rest b.path (Define d ∷ (b.mid ++ Use u ∷ [])) (b.spells ∙ ap (λ a. put a (b.mid ++ Use u ∷ [])) l.defines) in
        record { variable = l.variable; name = l.name; sites = l.sites; before = w.0; between = b.mid; after = []; is_walk = w.1; stands = b.free }

    -- by walks and by rows they are the same
    pub paired_found : IsPair (Spells g 0) s f d u ↔ IsFound g s f d u
    paired_found = (found, paired)

-- where the paths from row 0 spell the walks, by rows and by walks they are the same
pub found_walked : (g : List FlowRow) (walk : List Action → Type 0) → ((w : List Action) → Spells g 0 w ↔ walk w) → (s : Sites) (f d u : ℕ) → IsFound g s f d u ↔ IsPair walk s f d u
found_walked g walk same s f d u = (
  (λ l. let p = paired g s f d u l in record { variable = p.variable; name = p.name; sites = p.sites; before = p.before; between = p.between; after = p.after; is_walk = (same (p.before ++ Define d ∷ (p.between ++ Use u ∷ p.after))).0 p.is_walk; stands = p.stands }),
  (λ p. found g s f d u (record { variable = p.variable; name = p.name; sites = p.sites; before = p.before; between = p.between; after = p.after; is_walk = (same (p.before ++ Define d ∷ (p.between ++ Use u ∷ p.after))).1 p.is_walk; stands = p.stands })),
)

pub found_spelled : (g : List FlowRow) (s : Sites) (f d u : ℕ) → IsFound g s f d u ↔ IsPair (Spells g 0) s f d u
found_spelled g s f d u = (paired g s f d u, found g s f d u)
