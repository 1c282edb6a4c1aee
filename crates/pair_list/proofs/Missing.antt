-- A pair of direct sites of one local variable which walks have is one of the program's.
use Rattle.std.proofs.Common.{ℕ, zero, suc, ◌+◌, ◌-◌, ◌<◌, ◌≤◌, ◌≡◌, ◌⊎◌, inl, inr, List, [], ◌∷◌, ◌++◌, map, option_map, Option, Some, None, encode_utf8_all, refl, ap, sym, subst, ◌∙◌, arith}
use Rattle.std.specs.Prelude.{slice_get, Contains}
use Rattle.std.proofs.lemmas.List.Elements.{Contains-append_left, Contains-append_right}
use Rattle.std.proofs.lemmas.Option.{slice_get-map}
use Rattle.c_base.specs.declared.labels.OutcomeLabel.{OutcomeLabel}
use Rattle.c_syntax.specs.declared.text.Text.{Text}
use Rattle.c_sites.specs.declared.lists.Decision as code_decision
use Rattle.c_sites.specs.declared.lists.DefSite as code_def
use Rattle.c_sites.specs.declared.lists.UseSite as code_use
use Rattle.c_sites.specs.declared.numbered.Sites.{Sites}
use Rattle.c_sites.specs.Kinds.{Decision, DefSite, UseSite}
use Rattle.c_sites.specs.Lists.{Lists}
use Rattle.c_sites.specs.ListsView.{decision_shape, def_shape, use_shape}
use Rattle.c_sites.specs.Names as names
use Rattle.c_sites.specs.Names.{LeafName, leaf_name}
use Rattle.c_sites.specs.Numbers.{number_of}
use Rattle.c_sites.specs.Refused.{AreNumbered}
use Rattle.c_meaning.specs.Calls.{Source}
use Rattle.flow_walks.specs.declared.action.Action.{Action}
use Rattle.flow_walks.specs.declared.action.Action.TheVariants.{Define, Use, Block, Test, Kill, Nothing}
use Rattle.flow_calls.specs.Placing as misses_placing
use Rattle.flow_calls.specs.Placing.{Local}
use Rattle.flow_calls.specs.Pairs as misses
use Rattle.flow_owned.specs.Fields.{HaveApartFields}
use Rattle.flow_parts.specs.Parts.{parts_of}
use Rattle.flow_parts.proofs.Strong.{part_names_are_strong}
use Rattle.flow_parts.specs.Sites.{all_items, all_names, all_sites, IsAt, HasOutcome, StandsIn, IsInner, numbers_of, IsPart}
use Rattle.flow_parts.proofs.Walks.{walks_stand}
use Rattle.flow_parts.proofs.Lists.{none_there, mapped}
use Rattle.flow_parts.proofs.Named.{definitions_are_parts, uses_are_parts}
use Rattle.pair_list.specs.declared.pairs.Pair.{Pair}
use Rattle.pair_list.specs.Sites.{IsDef, IsUse, HasIndex, IsText}
use Rattle.pair_list.specs.Listed.{Ends, Share}
use Rattle.pair_list.specs.PairLists.{AreThose, with_uses, pairs_from, labels_of, labels_at}
use Rattle.pair_list.specs.Items.{IsListed}
use Rattle.pair_list.specs.Missing.{owner_in, owner_at, AreLocal}
use Rattle.pair_list.proofs.Spelled.{spelled_index}

-- ---- in lists

record Cut (xs : List Action) (x : Action) : Type 0 where
  front : List Action
  rest : List Action
  is : xs ≡ front ++ x ∷ rest

cut : (xs : List Action) (x : Action) → Contains xs x → Cut xs x
cut [] x c = absurd (none_there x c)
cut (y ∷ xs) x (zero, l, e) = record { front = []; rest = xs; is = ap (λ z. z ∷ xs) e }
cut (y ∷ xs) x (suc k, l, e) = let m = cut xs x (k, omega (arith, l), e) in record { front = y ∷ m.front; rest = m.rest; is = ap (λ z. y ∷ z) m.is }

map_there : {A B : Type 0} (f : A → B) (xs : List A) (x : A) → Contains xs x → Contains (map f xs) (f x)
map_there f [] x c = absurd (none_there x c)
map_there f (y ∷ xs) x (zero, l, e) = (0, omega arith, ap f e)
map_there f (y ∷ xs) x (suc k, l, e) = Contains-append_right (f y ∷ []) (map f xs) (f x) (map_there f xs x (k, omega (arith, l), e))

in_middle : (front rest : List Action) (x : Action) → Contains (front ++ x ∷ rest) x
in_middle front rest x = Contains-append_right front (x ∷ rest) x (0, omega arith, refl)

-- ---- pairs

abbrev pub pair_of : ℕ → ℕ → Pair
pair_of d u = record { def = d; used = u }

last : (n u first : ℕ) → first ≤ u → u < first + suc n → (u < first + n) ⊎ (first + n ≡ u)
last n u first a b = grind arith

use_there : (d first n u : ℕ) → first ≤ u → u < first + n → Contains (with_uses d first n) (pair_of d u)
use_there d first zero u a b = absurd (omega (arith, a, b))
use_there d first (suc n) u a b = elim (last n u first a b) [
  | inl lt ↦ Contains-append_left (with_uses d first n) (pair_of d (first + n) ∷ []) (pair_of d u) (use_there d first n u a lt)
  | inr e ↦ Contains-append_right (with_uses d first n) (pair_of d (first + n) ∷ []) (pair_of d u) (0, omega arith, ap (pair_of d) e)
]

pub pair_there : (uses first n d u : ℕ) → first ≤ d → d < first + n → 1 ≤ u → u < 1 + uses → Contains (pairs_from uses first n) (pair_of d u)
pair_there uses first zero d u a b l m = absurd (omega (arith, a, b))
pair_there uses first (suc n) d u a b l m = elim (last n d first a b) [
  | inl lt ↦ Contains-append_left (pairs_from uses first n) (with_uses (first + n) 1 uses) (pair_of d u) (pair_there uses first n d u a lt l m)
  | inr e ↦ Contains-append_right (pairs_from uses first n) (with_uses (first + n) 1 uses) (pair_of d u) (subst (λ (k : ℕ). Contains (with_uses k 1 uses) (pair_of d u)) (sym e) (use_there d 1 uses u l m))
]

pub those_there : (P : Pair → Type 0) (xs ys : List Pair) (p : Pair) → AreThose P xs ys → Contains xs p → P p → Contains ys p
those_there P [] ys p a c h = absurd (none_there p c)
those_there P (x ∷ xs) ys p (inl a) (zero, l, e) h = subst (λ zs. Contains zs p) (sym a.2) (0, omega arith, e)
those_there P (x ∷ xs) ys p (inl a) (suc k, l, e) h =
    subst (λ zs. Contains zs p) (sym a.2) (Contains-append_right (x ∷ []) a.0 p (those_there P xs a.0 p a.3 (k, omega (arith, l), e) h))
those_there P (x ∷ xs) ys p (inr a) (zero, l, e) h = absurd (a.0 (subst P (sym e) h))
those_there P (x ∷ xs) ys p (inr a) (suc k, l, e) h = those_there P xs ys p a.1 (k, omega (arith, l), e) h

-- ---- sites as the program has them

no_decision : (x : Decision) → None ≡ Some x → ⊥
no_decision x e = cc

decision_labels : (o : Option code_decision.Decision) (x : Decision) → option_map decision_shape o ≡ Some x → labels_of o ≡ x.labels
decision_labels None x e = absurd (no_decision x e)
decision_labels (Some y) x e = let z : decision_shape y ≡ x = cc in ap (λ (d : Decision). d.labels) z

same_def : (x y : DefSite) → Some x ≡ Some y → x ≡ y
same_def x y e = cc

same_use : (x y : UseSite) → Some x ≡ Some y → x ≡ y
same_use x y e = cc

same_text : (x y : List ℕ) → Some x ≡ Some y → x ≡ y
same_text x y e = cc

module _ (P : Source) (s : Sites) (numbered : AreNumbered P.tables.structures (all_items P) s) where
  def_at : (d : ℕ) (y : code_def.DefSite) → IsDef s d y → IsAt (all_sites P).defs d (def_shape y)
  def_at d y is = (is.0, sym (ap (λ (l : Lists). slice_get l.defs (d - 1)) numbered.lists) ∙ slice_get-map def_shape s.lists.defs.items (d - 1) ∙ ap (option_map def_shape) is.1)

  use_at : (u : ℕ) (y : code_use.UseSite) → IsUse s u y → IsAt (all_sites P).uses u (use_shape y)
  use_at u y is = (is.0, sym (ap (λ (l : Lists). slice_get l.uses (u - 1)) numbered.lists) ∙ slice_get-map use_shape s.lists.uses.items (u - 1) ∙ ap (option_map use_shape) is.1)

  pub labels_here : (k o : ℕ) → HasOutcome (all_sites P).decisions k o → (l : OutcomeLabel) × Contains (labels_at s k) (o, l)
  labels_here zero o h = absurd (omega (arith, h.1.0))
  labels_here (suc k) o h =
      let ds = s.lists.decisions.items in
      let n : suc k - 1 ≡ k = omega arith in
      let at = sym (slice_get-map decision_shape ds k) ∙ ap (λ (l : Lists). slice_get l.decisions k) numbered.lists ∙ sym (ap (slice_get (all_sites P).decisions) n) ∙ h.1.1 in
      (h.2.0, subst (λ ls. Contains ls (o, h.2.0)) (sym (decision_labels (slice_get ds k) h.0 at)) h.2.1)

  pub owner_is : (u : ℕ) (y : code_use.UseSite) → IsUse s u y → owner_at s u ≡ y.owner
  owner_is zero y is = absurd (omega (arith, is.0))
  owner_is (suc u) y is = let n : suc u - 1 ≡ u = omega arith in ap owner_in (sym (ap (slice_get s.lists.uses.items) n) ∙ is.1)

  -- ---- sites of local variables

  def_part : (d n : ℕ) (y : code_def.DefSite) → IsDef s d y → y.variable ≡ Some n → IsInner P n → IsPart P n (def_shape y).names ((parts_of P).defined d)
  def_part d n y is e i = definitions_are_parts P d n (def_shape y) (def_at d y is) e i

  module _ (d u : ℕ) (local : AreLocal P s d u) where
    abbrev x : ℕ
    x = local.variable

    pub the_definition : IsPart P x (def_shape local.def).names ((parts_of P).defined d)
    the_definition = def_part d x local.def local.is_def local.def_variable local.inner

    pub the_use : IsPart P x (use_shape local.used).names ((parts_of P).used u)
    the_use = uses_are_parts P u x (use_shape local.used) (use_at u local.used local.is_use) local.use_variable local.inner

    pub same : the_definition.site.variable ≡ the_use.site.variable
    same = the_definition.variable ∙ sym the_use.variable

    -- ---- a listed pair of such sites is one of the program's pairs

    module _ (fields : HaveApartFields P.tables) (f : ℕ) (l : misses.IsListed P (parts_of P) f d the_definition.site u the_use.site) where
      abbrev number_at : ℕ → Text → ℕ
      number_at n m = number_of (all_names P) (leaf_name n m)

      abbrev number : ℕ
      number = number_at x l.name

      -- a name of a site has its number among the site's
      numbered_there : (v : Local) (m : Text) → Contains v.names m → v.variable ≡ x → Contains (numbers_of P v) (number_at x m)
      numbered_there v m c e = subst (λ (n : ℕ). Contains (numbers_of P v) (number_at n m)) e (map_there (number_of (all_names P)) (map (leaf_name v.variable) v.names) (leaf_name v.variable m) (map_there (leaf_name v.variable) v.names m c))

      name_there : Contains (names.all_names P.tables.structures (all_items P)) (leaf_name x l.name)
      name_there = subst (λ (n : ℕ). Contains (names.all_names P.tables.structures (all_items P)) (leaf_name n l.name)) the_use.variable (the_use.named l.name l.in_use)

      -- and a number of a site is that of one of its names
      name_back : (e : ℕ) (y : code_def.DefSite) (q : IsPart P x (def_shape y).names ((parts_of P).defined e)) → Contains (def_shape y).names number → Contains q.site.names l.name
      name_back e y q c =
          let m = mapped (number_of (all_names P)) (map (leaf_name q.site.variable) q.site.names) number (subst (λ (ns : List ℕ). Contains ns number) q.numbered c) in
          let t = mapped (leaf_name q.site.variable) q.site.names m.from m.there in
          let there = subst (λ (z : LeafName). Contains (names.all_names P.tables.structures (all_items P)) z) t.is (q.named t.from t.there) in
          let same = numbered.apart m.from (leaf_name x l.name) there name_there m.is in
          subst (Contains q.site.names) (ap (λ (z : LeafName). z.text) (t.is ∙ same)) t.there

      strong_name : (y : List ℕ) → IsText s number y → (HasIndex y → ⊥) → misses_placing.IsStrong (parts_of P) the_use.site.variable l.name
      strong_name y is no_index =
          let text : y ≡ encode_utf8_all l.name = same_text y (encode_utf8_all l.name) (sym is.1 ∙ numbered.texts (leaf_name x l.name) name_there) in
          part_names_are_strong P fields the_use.site.variable l.name (λ h. no_index (subst HasIndex (sym text) (spelled_index l.name h)))

      abbrev walk : List Action
      walk = l.before ++ Define d ∷ (l.between ++ Use u ∷ l.behind)

      def_stands : StandsIn (all_sites P) f (Define d)
      def_stands = walks_stand P f walk (Define d) l.walk (in_middle l.before (l.between ++ Use u ∷ l.behind) (Define d))

      use_stands : StandsIn (all_sites P) f (Use u)
      use_stands = walks_stand P f walk (Use u) l.walk (Contains-append_right l.before (Define d ∷ (l.between ++ Use u ∷ l.behind)) (Use u) (Contains-append_right (Define d ∷ []) (l.between ++ Use u ∷ l.behind) (Use u) (in_middle l.between l.behind (Use u))))

      stands : (a : Action) → Contains l.between a → Ends s x number a → ⊥
      stands (Define e) c h =
          let m = cut l.between (Define e) c in
          let q = def_part e x h.0 h.1 h.2 local.inner in
          l.no_define m.front m.rest e q.site m.is q.is (q.variable ∙ sym the_use.variable) (name_back e h.0 q h.3) (strong_name h.4.0 h.4.1 h.4.2)
      stands (Kill y) c h = let m = cut l.between (Kill y) c in l.no_kill m.front m.rest (m.is ∙ ap (λ (n : ℕ). m.front ++ Kill n ∷ m.rest) (h ∙ sym the_use.variable))
      stands (Use w) c h = h
      stands (Block k) c h = h
      stands (Test k o) c h = h
      stands Nothing c h = h

      shared : Share s f x number d u
      shared =
          let own_def : def_shape local.def ≡ def_stands.0 = same_def (def_shape local.def) def_stands.0 (sym (def_at d local.def local.is_def).1 ∙ def_stands.1.1) in
          let own_use : use_shape local.used ≡ use_stands.0 = same_use (use_shape local.used) use_stands.0 (sym (use_at u local.used local.is_use).1 ∙ use_stands.1.1) in
          record {
            def = local.def;
            is_def = local.is_def;
            def_function = ap (λ (y : DefSite). y.function) own_def ∙ def_stands.2;
            def_variable = local.def_variable;
            def_name = subst (λ (ns : List ℕ). Contains ns number) (sym the_definition.numbered) (numbered_there the_definition.site l.name l.in_definition the_definition.variable);
            used = local.used;
            is_use = local.is_use;
            use_function = ap (λ (y : UseSite). y.function) own_use ∙ use_stands.2;
            use_variable = local.use_variable;
            use_name = subst (λ (ns : List ℕ). Contains ns number) (sym the_use.numbered) (numbered_there the_use.site l.name l.in_use the_use.variable);
          }

      pub listed : IsListed P.tables P.unit s (pair_of d u)
      listed = (f, record { variable = x; name = number; sites = shared; before = l.before; between = l.between; after = l.behind; is_walk = l.walk; stands = stands })
