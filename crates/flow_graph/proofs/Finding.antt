-- The graph of a function among external declarations, as far as they are walked.
use Rattle.std.proofs.Common.{ℕ, ◌+◌, ◌<◌, ◌≡◌, ◌⊎◌, inl, inr, List, [], ◌∷◌, ◌++◌, take, get_or, length, map, Bool, true, false, Option, Some, None, refl, sym, subst, ap, ◌∙◌, arith}
use Rattle.std.specs.Prelude.{nat_eq}
use Rattle.std.proofs.lemmas.List.{take_more}
use Rattle.std.proofs.lemmas.Bool.Decides.{nat_tests}
use Rattle.c_syntax.specs.declared.tree.External.{External}
use Rattle.c_syntax.specs.View.{external_shape}
use Rattle.c_syntax.specs.Shape.{declarator, ExternalShape, defined, declared}
use Rattle.c_tables.specs.Tables.{TablesShape}
use Rattle.c_walk.specs.Walked.{Walked}
use Rattle.c_walk.specs.Units.{walk_external, walk_externals, no_items}
use Rattle.flow_walks.specs.Comes.{Met, Comes}
use Rattle.flow_walks.specs.Walks.{function_goes, external_goes, externals_go}
use Rattle.flow_rows.specs.Counts.{counts}
use Rattle.flow_rows.specs.declared.numbers.Numbers.{Numbers}
use Rattle.flow_graph.specs.Graphs.{FlowGraph, walks_of, IsGraph, IsDeclared, IsLaid}
use Rattle.flow_graph.specs.Programs.{defines, IsFound}

same_graph : (j k : Comes) (g : FlowGraph) → ((w : List Met) → j w → k w) → ((w : List Met) → k w → j w) → IsGraph j g → IsGraph k g
same_graph j k g to from p = record {
  some = p.some;
  within = p.within;
  walks = λ w. (λ s. to w ((p.walks w).0 s), λ q. (p.walks w).1 (from w q));
  left = p.left;
  alone = p.alone;
}

same_found : (j k : Comes) (g : Option FlowGraph) → ((w : List Met) → j w → k w) → ((w : List Met) → k w → j w) → IsFound j g → IsFound k g
same_found j k None to from p = λ w q. p w (from w q)
same_found j k (Some g) to from p = same_graph j k g to from p

differs : (x y : ℕ) → nat_eq x y ≡ false → x ≡ y → ⊥
differs x y e f = grind (arith, nat_tests)

same : (x y : ℕ) → nat_eq x y ≡ true → x ≡ y
same x y e = grind (arith, nat_tests)

either_way : (b : Bool) → (b ≡ true) ⊎ (b ≡ false)
either_way true = inl refl
either_way false = inr refl

shapes_more : (xs : List External) (x : External) → map external_shape xs ++ external_shape x ∷ [] ≡ map external_shape (xs ++ x ∷ [])
shapes_more [] x = refl
shapes_more (y ∷ xs) x = ap (λ l. external_shape y ∷ l) (shapes_more xs x)

module _ (t : TablesShape) (f : ℕ) where
  more_to : (xs : List ExternalShape) (e : ExternalShape) (s : Walked) (w : List Met) → externals_go t f (xs ++ e ∷ []) s w → externals_go t f xs s w ⊎ external_goes t f e (walk_externals t xs s) w
  more_to [] e s w (inl p) = inr p
  more_to [] e s w (inr p) = absurd p
  more_to (x ∷ xs) e s w (inl p) = inl (inl p)
  more_to (x ∷ xs) e s w (inr p) = elim (more_to xs e (walk_external t x s) w p) [ inl q ↦ inl (inr q) | inr q ↦ inr q ]

  more_before : (xs : List ExternalShape) (e : ExternalShape) (s : Walked) (w : List Met) → externals_go t f xs s w → externals_go t f (xs ++ e ∷ []) s w
  more_before [] e s w p = absurd p
  more_before (x ∷ xs) e s w (inl p) = inl p
  more_before (x ∷ xs) e s w (inr p) = inr (more_before xs e (walk_external t x s) w p)

  more_last : (xs : List ExternalShape) (e : ExternalShape) (s : Walked) (w : List Met) → external_goes t f e (walk_externals t xs s) w → externals_go t f (xs ++ e ∷ []) s w
  more_last [] e s w p = inl p
  more_last (x ∷ xs) e s w p = inr (more_last xs e (walk_external t x s) w p)

  more_walk : (xs : List ExternalShape) (e : ExternalShape) (s : Walked) → walk_externals t (xs ++ e ∷ []) s ≡ walk_external t e (walk_externals t xs s)
  more_walk [] e s = refl
  more_walk (x ∷ xs) e s = more_walk xs e (walk_external t x s)

  -- it is a definition of the function, or isn't
  other_goes : (e : ExternalShape) (s : Walked) (w : List Met) → defines t f e ≡ false → external_goes t f e s w → ⊥
  other_goes (declared d) s w is p = p
  other_goes (defined specs (declarator stars x d i) marks c) s w is p = differs _ _ is p.0

  here_to : (e : ExternalShape) (s : Walked) (w : List Met) → defines t f e ≡ true → walks_of t e s w → external_goes t f e s w
  here_to (declared d) s w is p = absurd p
  here_to (defined specs (declarator stars x d i) marks c) s w is p = let e = same _ _ is in (e, subst (λ f. function_goes t f d c s w) e p)

  here_from : (e : ExternalShape) (s : Walked) (w : List Met) → external_goes t f e s w → walks_of t e s w
  here_from (declared d) s w p = p
  here_from (defined specs (declarator stars x d i) marks c) s w p = subst (λ f. function_goes t f d c s w) (sym p.0) p.1

  declared_goes : (e : ExternalShape) (s : Walked) (w : List Met) → IsDeclared e → walks_of t e s w → ⊥
  declared_goes (declared d) s w is p = p
  declared_goes (defined specs (declarator stars x d i) marks c) s w is p = is

  -- one external declaration more
  pub record FoundIn (n : Numbers) (xs : List ExternalShape) (found : Option FlowGraph) : Type 0 where
    pub counted : counts (walk_externals t xs no_items) ≡ n
    pub is_found : IsFound (externals_go t f xs no_items) found

  module _ (n m : Numbers) (xs : List ExternalShape) (e : ExternalShape) (old it new : Option FlowGraph) (b : Bool) (is : b ≡ defines t f e) (before : FoundIn n xs old)
      (counted : (w : Walked) → counts w ≡ n → counts (walk_external t e w) ≡ m) (laid : IsLaid t e n it) where
    found_skip : b ≡ false → new ≡ old → IsFound (externals_go t f (xs ++ e ∷ []) no_items) new
    found_skip no_it same_one = subst (IsFound (externals_go t f (xs ++ e ∷ []) no_items)) (sym same_one)
        (same_found _ _ old (more_before xs e no_items) (λ w p. elim (more_to xs e no_items w p) [ inl q ↦ q | inr q ↦ absurd (other_goes e _ w (sym is ∙ no_it) q) ]) before.is_found)

    laid_found : (it : Option FlowGraph) → IsLaid t e n it → defines t f e ≡ true → IsFound (walks_of t e (walk_externals t xs no_items)) it
    laid_found None l d = λ w p. declared_goes e _ w l p
    laid_found (Some g) l d = l (walk_externals t xs no_items) before.counted

    found_here : b ≡ true → old ≡ None → new ≡ it → IsFound (externals_go t f (xs ++ e ∷ []) no_items) new
    found_here it_is none new_one = subst (IsFound (externals_go t f (xs ++ e ∷ []) no_items)) (sym new_one)
        (same_found _ _ it (λ w p. more_last xs e no_items w (here_to e _ w (sym is ∙ it_is) p))
        (λ w p. elim (more_to xs e no_items w p) [ inl q ↦ absurd ((subst (IsFound (externals_go t f xs no_items)) none before.is_found) w q) | inr q ↦ here_from e _ w q ])
        (laid_found it laid (sym is ∙ it_is)))

    found_more : (b ≡ false → new ≡ old) → (b ≡ true → old ≡ None) → (b ≡ true → new ≡ it) → FoundIn m (xs ++ e ∷ []) new
    found_more kept none next = record {
      counted = ap counts (more_walk xs e no_items) ∙ counted (walk_externals t xs no_items) before.counted;
      is_found = elim (either_way b) [ inl y ↦ found_here y (none y) (next y) | inr z ↦ found_skip z (kept z) ];
    }

  pub found_next : (n m : Numbers) (all : List External) (o : ℕ) (x : External) (old it new : Option FlowGraph) (b : Bool) → o < length all → x ≡ get_or all o x → b ≡ defines t f (external_shape x) → FoundIn n (map external_shape (take o all)) old
      → ((w : Walked) → counts w ≡ n → counts (walk_external t (external_shape x) w) ≡ m) → IsLaid t (external_shape x) n it → (b ≡ false → new ≡ old) → (b ≡ true → old ≡ None) → (b ≡ true → new ≡ it)
      → FoundIn m (map external_shape (take (o + 1) all)) new
  found_next n m all o x old it new b lt is eq before counted laid kept none next =
      subst (λ xs. FoundIn m xs new) (shapes_more (take o all) x ∙ ap (map external_shape) (ap (λ y. take o all ++ y ∷ []) is ∙ sym (take_more all o x lt)))
      (found_more n m (map external_shape (take o all)) (external_shape x) old it new b eq before counted laid kept none next)
