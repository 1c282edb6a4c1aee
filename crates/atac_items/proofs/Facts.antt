-- The facts of a program's items fit: its sites aren't refused, and its decisions have few outcomes.
use Rattle.std.proofs.Common.{◌≡◌, ◌≤◌, ◌<◌, ◌+◌, ◌-◌, ◌++◌, ℕ, zero, suc, List, [], ◌∷◌, length, map, slice_get, Option, Some, None, true, refl, sym, ap, ◌∙◌, subst, arith}
use Rattle.std.proofs.lemmas.Bool.Decides.{nat_tests}
use Rattle.std.proofs.lemmas.List.{length-map}
use Rattle.c_base.specs.declared.place.Pos.{Pos}
use Rattle.c_base.specs.declared.labels.OutcomeLabel.{OutcomeLabel}
use Rattle.c_lex_pieces.specs.Written.{AreBytes}
use Rattle.c_lex.specs.declared.lexer.TextKind.TheVariants.{Plain}
use Rattle.c_lex.proofs.Soundness.{given_is_sound}
use Rattle.c_syntax.specs.Forms.{kinds_of}
use Rattle.c_syntax.specs.Grammar.{tokens_of}
use Rattle.c_syntax.specs.Shape.{UnitShape}
use Rattle.c_tables.specs.Tables.{StructShape}
use Rattle.c_tree.proofs.Programs.{typed_tokens, has_few}
use Rattle.c_walk.specs.Items.{Item, block, decision, def, used}
use Rattle.c_walk.specs.Units.{items_of}
use Rattle.c_outcomes.specs.Outcomes.{AreWithin, AllWithin}
use Rattle.c_outcomes.proofs.Within.{outcomes_are_few}
use Rattle.c_sites.specs.declared.lists.Decision.{Decision as CodeDecision}
use Rattle.c_sites.specs.declared.lists.DefSite.{DefSite}
use Rattle.c_sites.specs.declared.lists.UseSite.{UseSite}
use Rattle.c_sites.specs.declared.numbered.Sites.{Sites}
use Rattle.c_sites.specs.Few.{AreFew}
use Rattle.c_sites.specs.Kinds.{Decision, decisions}
use Rattle.c_sites.specs.ListsView.{decision_shape}
use Rattle.c_sites.specs.Limits.{excess, no_counts}
use Rattle.c_sites.specs.Numbers.{names_of}
use Rattle.c_sites.specs.Refused.{refusal_at}
use Rattle.c_sites.proofs.Few.{are_few}
use Rattle.c_sites_probes.specs.Marked.{unit_mark}
use Rattle.pair_list.specs.PairLists.{labels_of, labels_at}
use Rattle.pair_list.specs.Items.{label_rows, outcome_rows, pair_row, with_outcomes, c_use_of, p_uses_of, c_use_at, p_uses_at, c_use_rows, p_use_rows}
use Rattle.pair_list.specs.declared.pairs.Pair.{Pair}
use Rattle.atac_facts.specs.declared.fact.Fact.TheVariants as fact
use Rattle.atac_facts.specs.Facts.{fits}
use Rattle.atac_base.specs.declared.rows.PairRow.{PairRow}
use Rattle.atac_base.specs.Items.{ItemLists}
use Rattle.cover_report.specs.declared.kinds.Kind.TheVariants as kind
use Rattle.cover_report.specs.ItemTexts.{blocks_behind, outcome_of, of_kind}
use Rattle.cover_report.specs.ItemTexts as texts
use Rattle.atac_programs.specs.Programs.{IsAccepted, HasItems}
use Rattle.atac_items.specs.Fitting.{AllFit, ItemsFit}
use Rattle.atac_items.specs.Programs.{ItemsOfProgramsFit}

-- ---- numbers

block_fits : (k : ℕ) → k ≤ 16383 → fits (fact.Block k) ≡ true
block_fits k h = grind (arith, nat_tests)

outcome_fits : (k o : ℕ) → k ≤ 16383 → o ≤ 350000 → fits (fact.Outcome k o) ≡ true
outcome_fits k o h i = grind (arith, nat_tests)

pair_fits : (d u : ℕ) → d ≤ 16383 → u ≤ 16383 → fits (fact.Pair d u) ≡ true
pair_fits d u h i = grind (arith, nat_tests)

p_use_fits : (d u o : ℕ) → d ≤ 16383 → u ≤ 16383 → o ≤ 350000 → fits (fact.PUse d u o) ≡ true
p_use_fits d u o h i j = grind (arith, nat_tests)

there : {X : Type 0} (xs : List X) (i : ℕ) (x : X) → slice_get xs i ≡ Some x → i < length xs
there [] i x h = cc
there (y ∷ xs) zero x h = omega arith
there (y ∷ xs) (suc i) x h = let e = there xs i x h in omega (arith, e)

both_fit : (xs ys : List texts.Item) → AllFit xs → AllFit ys → AllFit (xs ++ ys)
both_fit [] ys h k = k
both_fit (x ∷ xs) ys h k = (h.0, both_fit xs ys h.1 k)

mapped : {X : Type 0} (f : X → texts.Item) (xs ys : List X) → AllFit (map f xs) → AllFit (map f ys) → AllFit (map f (xs ++ ys))
mapped f [] ys h k = k
mapped f (x ∷ xs) ys h k = (h.0, mapped f xs ys h.1 k)

-- ---- blocks and outcomes

blocks_fit : (k : ℕ) (ps : List Pos) → k + length ps ≤ 16383 → AllFit (blocks_behind k ps)
blocks_fit k [] h = tt
blocks_fit k (p ∷ ps) h = (block_fits (suc k) (omega (arith, h)), blocks_fit (suc k) ps (omega (arith, h)))

-- each decision has few outcomes
abbrev HaveFew : List CodeDecision → Type 0
HaveFew [] = Unit {0}
HaveFew (d ∷ ds) = AreWithin 350000 d.labels × HaveFew ds

abbrev ShapesHaveFew : List Decision → Type 0
ShapesHaveFew [] = Unit {0}
ShapesHaveFew (d ∷ ds) = AreWithin 350000 d.labels × ShapesHaveFew ds

walk_has_few : (is : List Item) → AllWithin 350000 is → ShapesHaveFew (decisions is)
walk_has_few [] h = tt
walk_has_few (block p ∷ is) h = walk_has_few is h.1
walk_has_few (decision p o ∷ is) h = (h.0, walk_has_few is h.1)
walk_has_few (def p f d ∷ is) h = walk_has_few is h.1
walk_has_few (used p f d o ∷ is) h = walk_has_few is h.1

shaped_has_few : (ds : List CodeDecision) → ShapesHaveFew (map decision_shape ds) → HaveFew ds
shaped_has_few [] h = tt
shaped_has_few (d ∷ ds) h = (h.0, shaped_has_few ds h.1)

labels_fit : (k : ℕ) (p : Pos) (ls : List (ℕ × OutcomeLabel)) → k ≤ 16383 → AreWithin 350000 ls → AllFit (map outcome_of (label_rows k p ls))
labels_fit k p [] h w = tt
labels_fit k p (l ∷ ls) h w = (outcome_fits k l.0 h w.0, labels_fit k p ls h w.1)

outcomes_fit : (k : ℕ) (ds : List CodeDecision) → k + length ds ≤ 16383 → HaveFew ds → AllFit (map outcome_of (outcome_rows k ds))
outcomes_fit k [] h w = tt
outcomes_fit k (d ∷ ds) h w =
    mapped outcome_of (label_rows (suc k) d.pos d.labels) (outcome_rows (suc k) ds)
    (labels_fit (suc k) d.pos d.labels (omega (arith, h)) w.0)
    (outcomes_fit (suc k) ds (omega (arith, h)) w.1)

-- ---- pairs

module _ (s : Sites) (names : List (List ℕ)) (few : AreFew s.lists) (have : HaveFew s.lists.decisions.items) where
  at_within : (ds : List CodeDecision) (k : ℕ) → HaveFew ds → AreWithin 350000 (labels_of (slice_get ds k))
  at_within [] k h = tt
  at_within (d ∷ ds) zero h = h.0
  at_within (d ∷ ds) (suc k) h = at_within ds k h.1

  labels_within : (k : ℕ) → AreWithin 350000 (labels_at s k)
  labels_within zero = tt
  labels_within (suc k) = at_within s.lists.decisions.items k have

  with_outcomes_fit : (row : PairRow) (ls : List (ℕ × OutcomeLabel)) → row.def ≤ 16383 → row.user ≤ 16383 → AreWithin 350000 ls → AllFit (map (texts.p_use_of names) (with_outcomes row ls))
  with_outcomes_fit row [] h i w = tt
  with_outcomes_fit row (l ∷ ls) h i w = (p_use_fits row.def row.user l.0 h i w.0, with_outcomes_fit row ls h i w.1)

  c_owned : (row : PairRow) (o : Option ℕ) → row.def ≤ 16383 → row.user ≤ 16383 → AllFit (map (texts.c_use_of names) (c_use_of row o))
  c_owned row None h i = (pair_fits row.def row.user h i, tt)
  c_owned row (Some k) h i = tt

  p_owned : (row : PairRow) (o : Option ℕ) → row.def ≤ 16383 → row.user ≤ 16383 → AllFit (map (texts.p_use_of names) (p_uses_of s row o))
  p_owned row None h i = tt
  p_owned row (Some k) h i = with_outcomes_fit row (labels_at s k) h i (labels_within k)

  number_few : {X : Type 0} (xs : List X) (n : ℕ) (x : X) → length xs ≤ 16383 → slice_get xs (n - 1) ≡ Some x → n ≤ 16383
  number_few xs n x h e = let t = there xs (n - 1) x e in omega (arith, h, t)

  c_at : (p : Pair) (d : Option DefSite) (u : Option UseSite) → slice_get s.lists.defs.items (p.def - 1) ≡ d → slice_get s.lists.uses.items (p.used - 1) ≡ u → AllFit (map (texts.c_use_of names) (c_use_at p d u))
  c_at p (Some d) (Some u) h i = c_owned (pair_row p d u) u.owner (number_few s.lists.defs.items p.def d few.defs h) (number_few s.lists.uses.items p.used u few.uses i)
  c_at p (Some d) None h i = tt
  c_at p None u h i = tt

  p_at : (p : Pair) (d : Option DefSite) (u : Option UseSite) → slice_get s.lists.defs.items (p.def - 1) ≡ d → slice_get s.lists.uses.items (p.used - 1) ≡ u → AllFit (map (texts.p_use_of names) (p_uses_at s p d u))
  p_at p (Some d) (Some u) h i = p_owned (pair_row p d u) u.owner (number_few s.lists.defs.items p.def d few.defs h) (number_few s.lists.uses.items p.used u few.uses i)
  p_at p (Some d) None h i = tt
  p_at p None u h i = tt

  c_uses_fit : (pairs : List Pair) → AllFit (map (texts.c_use_of names) (c_use_rows s pairs))
  c_uses_fit [] = tt
  c_uses_fit (p ∷ pairs) = mapped (texts.c_use_of names) (c_use_at p (slice_get s.lists.defs.items (p.def - 1)) (slice_get s.lists.uses.items (p.used - 1))) (c_use_rows s pairs) (c_at p _ _ refl refl) (c_uses_fit pairs)

  p_uses_fit : (pairs : List Pair) → AllFit (map (texts.p_use_of names) (p_use_rows s pairs))
  p_uses_fit [] = tt
  p_uses_fit (p ∷ pairs) = mapped (texts.p_use_of names) (p_uses_at s p (slice_get s.lists.defs.items (p.def - 1)) (slice_get s.lists.uses.items (p.used - 1))) (p_use_rows s pairs) (p_at p _ _ refl refl) (p_uses_fit pairs)

-- ---- an accepted program

unrefused : (p q : Option Pos) → refusal_at p q ≡ None → q ≡ None
unrefused None None h = refl
unrefused None (Some q) h = cc
unrefused (Some p) q h = cc

few_tokens : (source : List ℕ) → AreBytes source → (a : IsAccepted source) → length (tokens_of a.unit) ≤ 350000
few_tokens source bytes a =
    let given = a.read.written in
    let sound = given_is_sound Plain source given.tokens bytes given.given in
    let same = length-map given.tokens (λ t. t.kind) in
    let counts = sound.few in
    let few = has_few a.read.unit given.tokens given.placed (omega (arith, same, counts)) in
    subst (λ u. length (tokens_of u) ≤ 350000) (sym a.read.typed.unit) (subst (λ ks. length ks ≤ 350000) (sym (typed_tokens a.read.unit)) few)

module _ (source : List ℕ) (bytes : AreBytes source) (a : IsAccepted source) (items : ItemLists) (has : HasItems a items) where
  abbrev rows : List StructShape
  rows = a.tables.structures

  abbrev is : List Item
  is = items_of a.tables a.unit

  abbrev s : Sites
  s = has.sites

  few : AreFew s.lists
  few = are_few (names_of rows is) rows is s.lists (unrefused (unit_mark a.unit) (excess rows no_counts is) a.clean) has.numbered.lists

  have : HaveFew s.lists.decisions.items
  have = shaped_has_few s.lists.decisions.items (subst ShapesHaveFew (sym (ap (λ l. l.decisions) has.numbered.lists)) (walk_has_few is (outcomes_are_few a.tables a.unit 350000 (omega arith) (few_tokens source bytes a))))

  each_fits : ItemsFit items
  each_fits kind.Block = subst (λ l. AllFit (blocks_behind 0 l)) (sym has.are.blocks) (blocks_fit 0 s.lists.blocks.items (let h = few.blocks in omega (arith, h)))
  each_fits kind.Outcome = subst (λ l. AllFit (map outcome_of l)) (sym has.are.outcomes) (outcomes_fit 0 s.lists.decisions.items (let h = few.decisions in omega (arith, h)) have)
  each_fits kind.CUse = subst (λ l. AllFit (map (texts.c_use_of items.names) l)) (sym has.are.c_uses) (c_uses_fit s items.names few have has.are.pairs)
  each_fits kind.PUse = subst (λ l. AllFit (map (texts.p_use_of items.names) l)) (sym has.are.p_uses) (p_uses_fit s items.names few have has.are.pairs)

pub items_of_programs_fit : ItemsOfProgramsFit
items_of_programs_fit = each_fits
