-- Each site of an expression that is in a local variable stands where the walk counts it.
use Rattle.std.proofs.Common.{inl, inr, ℕ, suc, ◌≤◌, ◌<◌, ◌++◌, ◌≡◌, List, [], ◌∷◌, refl, sym, subst, ap, ◌∙◌, append_assoc, arith, Option, Some, None, Bool, true, false}
use Rattle.std.specs.Prelude.{◌⊎◌, length, if◌then◌else◌}
use Rattle.std.proofs.lemmas.Bool.{true≢false}
use Rattle.c_base.specs.declared.place.Pos.{Pos}
use Rattle.c_syntax.specs.declared.text.Text.{Text}
use Rattle.c_syntax.specs.declared.tree.UnaryOp.{UnaryOp}
use Rattle.c_syntax.specs.declared.tree.UnaryOp.TheVariants as front
use Rattle.c_syntax.specs.Shape.{TypeOf, int, pointer, array, structure, nothing, NoteShape, typed, name, unary, before, size_of, plain, and, or, assign, comma, dot, arrow, NodeShape, node, ExprShape, leaf, paren, call, prefix, size_of_type, cast, suffix, two, choose, probe, index, field, behind, NodeShapes, no_nodes, more_nodes, MaybeNode, no_node, one_node}
use Rattle.c_type_rules.specs.Kinds.{is_scalar}
use Rattle.c_tables.specs.Tables.{StructShape, VariableShape}
use Rattle.c_walk.specs.declared.around.Around.{Around}
use Rattle.c_walk.specs.declared.around.Taken.{Taken}
use Rattle.c_walk.specs.declared.around.Taken.TheVariants.{Read, Written, Changed, Copied, Addressed}
use Rattle.c_walk.specs.Items.{Direct, Item, def, used}
use Rattle.c_walk.specs.Places.{is_place, has_scalar, has_structure, has_array, named, with_part, direct, direct_form}
use Rattle.c_walk.specs.Walked.{Walked, with_item, is_used, is_written, operand_taken, right_taken, with_block, pos_of, inside_test, with_test, with_use, with_sites, with_site}
use Rattle.c_walk.specs.Counted.{def_count, next_def, next_use}
use Rattle.c_walk.specs.Walking.{walk_node, walk_form, walk_test, walk_arm, walk_nodes, walk_maybe, walk_maybe_test, walk_step}
use Rattle.c_walk.specs.Units as units
use Rattle.c_walk.specs.Units.{items_of}
use Rattle.c_sites.specs.Names.{leaves, depth_of}
use Rattle.c_meaning.specs.State.{Bound, found_in}
use Rattle.c_meaning.specs.Calls.{Source}
use Rattle.flow_walks.specs.Expressions.{holds_place, form_holds_place, holds_scalar, form_holds_scalar}
use Rattle.flow_calls.specs.Orderly.{is_copied, form_is_copied, IsOrderly, HasOrder, AreOrderly, IsOrderlyMaybe}
use Rattle.flow_calls.specs.Placing.{Local, Sites}
use Rattle.flow_places.specs.Sited.{variable_named, form_names, IsUse, IsDefinition, IsUsedAt, IsDefinedAt, IsUsedWhole, IsDefinedWhole, IsReadSite, IsUsedSite, IsDefinedSite, IsCopied, IsSited, IsFormSited, IsTestSited, IsArmSited, AreSited, IsMaybeSited, IsLoopTestSited, IsStepSited}
use Rattle.flow_initial.specs.Lengths.{AreFilled}
use Rattle.flow_leaves.specs.Kinded.{IsKinded, AreKinded, IsKindedMaybe}
use Rattle.flow_leaves.specs.CellNames.{AreLayered}
use Rattle.flow_leaves.specs.Leaves.{leaf_in}
use Rattle.flow_leaves.proofs.Leaves.{sites_may_be_told}
use Rattle.flow_leaves.proofs.Wholes.{wholes_may_be_told}
use Rattle.flow_parts.specs.Items.{def_at, use_at, outer_variables, is_among}
use Rattle.flow_owned.specs.Own.{IsOwnNode, HasOwnNames, AreOwnNodes, IsOwnMaybe}
use Rattle.flow_parts.specs.Parts.{site_of, part_of, parts_of}
use Rattle.flow_parts.proofs.More.{More, on_further, defs_both, more_defs, use_on, site_on, test_on, block_on, node_on, form_on, test_node_on, arm_on, nodes_on}
use Rattle.flow_parts.proofs.Found.{def_there, use_there, use_past, root_own}

if_first : (b x : Bool) → (if b then x else false) ≡ true → b ≡ true
if_first true x e = refl
if_first false x e = absurd (true≢false (sym e))

if_second : (b x : Bool) → (if b then x else false) ≡ true → x ≡ true
if_second true x e = e
if_second false x e = absurd (true≢false (sym e))

mutual
  -- a scalar's place is a place
  scalar_place : (a : NodeShape) → holds_scalar a ≡ true → holds_place a ≡ true
  scalar_place (node p o n f) e = form_scalar n f e

  form_scalar : (n : NoteShape) (f : ExprShape) → form_holds_scalar n f ≡ true → form_holds_place f ≡ true
  form_scalar n (paren a) e = scalar_place a e
  form_scalar n (probe u a) e = scalar_place a e
  form_scalar n (leaf l) e = if_first (is_place (leaf l)) (has_scalar n) e
  form_scalar n (call x args) e = absurd (true≢false (sym e))
  form_scalar n (prefix u a) e = if_first (is_place (prefix u a)) (has_scalar n) e
  form_scalar n (size_of_type y) e = absurd (true≢false (sym e))
  form_scalar n (cast y a) e = absurd (true≢false (sym e))
  form_scalar n (suffix a u) e = if_first (is_place (suffix a u)) (has_scalar n) e
  form_scalar n (two u a b) e = absurd (true≢false (sym e))
  form_scalar n (choose a b d) e = absurd (true≢false (sym e))

-- ---- scalars

-- a direct place that is there is a scalar
abbrev HasScalar : Option Direct → Type 0
HasScalar None = Unit {0}
HasScalar (Some d) = is_scalar d.kind ≡ true

part_scalar : (x : List ℕ) (n : NoteShape) (d : Option Direct) → has_scalar n ≡ true → HasScalar (with_part x n d)
part_scalar x (typed t k) None h = tt
part_scalar x (typed t k) (Some d) h = h
part_scalar x n d h = tt

named_scalar : (x : List ℕ) (n : NoteShape) → has_scalar n ≡ true → HasScalar (named x n)
named_scalar x (typed t (Some k)) h = h
named_scalar x (typed t None) h = tt
named_scalar x n h = tt

direct_scalar : (n : NoteShape) (f : ExprShape) → is_place f ≡ true → has_scalar n ≡ true → HasScalar (direct_form n f)
direct_scalar n (leaf (name x)) p h = named_scalar x n h
direct_scalar n (paren a) p h = absurd (true≢false (sym p))
direct_scalar n (suffix a (field dot x q)) p h = part_scalar _ n (direct a) h
direct_scalar n (suffix a (field arrow x q)) p h = tt
direct_scalar n (suffix a (index b)) p h = part_scalar _ n (if has_array a then direct a else if has_array b then direct b else None) h
direct_scalar n _ p h = tt

place_scalar : (n : NoteShape) (f : ExprShape) → (if is_place f then has_scalar n else false) ≡ true → HasScalar (direct_form n f)
place_scalar n f e = direct_scalar n f (if_first (is_place f) (has_scalar n) e) (if_second (is_place f) (has_scalar n) e)

mutual
  held_scalar : (a : NodeShape) → holds_scalar a ≡ true → HasScalar (direct a)
  held_scalar (node p o n f) e = form_held n f e

  form_held : (n : NoteShape) (f : ExprShape) → form_holds_scalar n f ≡ true → HasScalar (direct_form n f)
  form_held n (paren a) e = held_scalar a e
  form_held n (probe u a) e = tt
  form_held n (leaf l) e = place_scalar n (leaf l) e
  form_held n (call x args) e = place_scalar n (call x args) e
  form_held n (prefix u a) e = place_scalar n (prefix u a) e
  form_held n (size_of_type y) e = place_scalar n (size_of_type y) e
  form_held n (cast y a) e = place_scalar n (cast y a) e
  form_held n (suffix a u) e = place_scalar n (suffix a u) e
  form_held n (two u a b) e = place_scalar n (two u a b) e
  form_held n (choose a b d) e = place_scalar n (choose a b d) e

-- it has one leaf
scalar_leaf : (n : ℕ) (rows : List StructShape) (x : Text) (k : TypeOf) → is_scalar k ≡ true → leaves (suc n) rows x k ≡ x ∷ []
scalar_leaf n rows x (int j) e = refl
scalar_leaf n rows x (pointer t) e = refl
scalar_leaf n rows x (array t j) e = absurd (true≢false (sym e))
scalar_leaf n rows x (structure j) e = absurd (true≢false (sym e))
scalar_leaf n rows x nothing e = absurd (true≢false (sym e))

pub one_leaf : (rows : List StructShape) (x : Text) (k : TypeOf) → is_scalar k ≡ true → leaves (depth_of rows) rows x k ≡ x ∷ []
one_leaf rows x k e =
    let deep : depth_of rows ≡ suc (length rows) = omega arith in
    ap (λ (n : ℕ). leaves n rows x k) deep ∙ scalar_leaf (length rows) rows x k e

module _ (P : Source) (F : List Bound) where
  abbrev pub outside : List ℕ
  outside = outer_variables P.tables P.unit.externals units.no_items

  -- the variables of file scope are among those that are declared outside
  abbrev pub AreOutside : Type 0
  AreOutside = (x : ℕ) → is_among x outside ≡ false → found_in x F ≡ None

  abbrev pub S : Sites
  S = parts_of P

  abbrev pub all : List Item
  all = items_of P.tables P.unit

  abbrev pub R : List VariableShape
  R = P.tables.variables

  -- a body, from behind its parameters to its end
  pub record Body (start end : Walked) : Type 0 where
    pub defined_is : (k : ℕ) → def_count start.items < k → k ≤ def_count end.items → S.defined k ≡ part_of P.tables outside (def_at k all)
    pub rest : List Item
    pub front : all ≡ end.items ++ rest

  module _ (layered : AreLayered P.tables) (filled : AreFilled P.tables) (free : AreOutside) where
    -- a scalar in a local variable is found at cells of its leaf name
    used_if : (names : Option ℕ) (a : NodeShape) (d : Direct) (b : Bool) → is_among d.variable outside ≡ b → is_scalar d.kind ≡ true → IsKinded P.tables a → IsOwnNode R a → direct a ≡ Some d
        → IsUse S F names (if b then None else Some (site_of P.tables false d)) ⊎ IsUsedAt S F P.tables a (if b then None else Some (site_of P.tables false d))
    used_if names a d true e h k o is = inl tt
    used_if names a d false e h k o is =
        inr (sites_may_be_told P.tables layered S F a d (site_of P.tables false d) (record { kinded = k; is = is; scalar = h; local = free d.variable e }) refl (one_leaf P.tables.structures d.name d.kind h) (λ c. ap (λ x. leaf_in P.tables x d.variable c) (root_own R a o d is))).0

    used_told : (names : Option ℕ) (a : NodeShape) (o : Option Direct) → direct a ≡ o → HasScalar o → IsKinded P.tables a → IsOwnNode R a → IsUse S F names (part_of P.tables outside o) ⊎ IsUsedAt S F P.tables a (part_of P.tables outside o)
    used_told names a None e h k w = inl tt
    used_told names a (Some d) e h k w = used_if names a d (is_among d.variable outside) refl h k w e

    defined_if : (names : Option ℕ) (a : NodeShape) (d : Direct) (b : Bool) → is_among d.variable outside ≡ b → is_scalar d.kind ≡ true → IsKinded P.tables a → IsOwnNode R a → direct a ≡ Some d
        → IsDefinition S F names (if b then None else Some (site_of P.tables false d)) ⊎ IsDefinedAt S F P.tables a (if b then None else Some (site_of P.tables false d))
    defined_if names a d true e h k o is = inl tt
    defined_if names a d false e h k o is =
        inr ((sites_may_be_told P.tables layered S F a d (site_of P.tables false d) (record { kinded = k; is = is; scalar = h; local = free d.variable e }) refl (one_leaf P.tables.structures d.name d.kind h) (λ c. ap (λ x. leaf_in P.tables x d.variable c) (root_own R a o d is))).1 refl)

    defined_told : (names : Option ℕ) (a : NodeShape) (o : Option Direct) → direct a ≡ o → HasScalar o → IsKinded P.tables a → IsOwnNode R a → IsDefinition S F names (part_of P.tables outside o) ⊎ IsDefinedAt S F P.tables a (part_of P.tables outside o)
    defined_told names a None e h k w = inl tt
    defined_told names a (Some d) e h k w = defined_if names a d (is_among d.variable outside) refl h k w e

    -- a structure stands there as a whole
    whole_if : (a : NodeShape) (d : Direct) (b : Bool) → is_among d.variable outside ≡ b → IsKinded P.tables a → IsOwnNode R a → direct a ≡ Some d
        → IsUsedWhole S F P.tables a (if b then None else Some (site_of P.tables false d)) × IsDefinedWhole S F P.tables a (if b then None else Some (site_of P.tables false d))
    whole_if a d true e k o is = (tt, tt)
    whole_if a d false e k o is =
        let one = wholes_may_be_told P.tables layered filled S F a d (site_of P.tables false d) k is (free d.variable e) refl refl (λ c. ap (λ x. leaf_in P.tables x d.variable c) (root_own R a o d is)) in
        (one.0, one.1 refl)

    whole_told : (a : NodeShape) (o : Option Direct) → direct a ≡ o → IsKinded P.tables a → IsOwnNode R a → IsUsedWhole S F P.tables a (part_of P.tables outside o) × IsDefinedWhole S F P.tables a (part_of P.tables outside o)
    whole_told a None e k w = (tt, tt)
    whole_told a (Some d) e k w = whole_if a d (is_among d.variable outside) refl k w e

    module _ (start end : Walked) (body : Body start end) where
      -- ---- an item, and what stands behind it

      pub item_front : (i : Item) (w : Walked) → More (with_item i w) end → (rest : List Item) × (all ≡ w.items ++ i ∷ rest)
      item_front i w m = (m.rest ++ body.rest, body.front ∙ ap (λ l. l ++ body.rest) m.is ∙ append_assoc (w.items ++ i ∷ []) m.rest body.rest ∙ append_assoc w.items (i ∷ []) (m.rest ++ body.rest))

      use_value : (c : Around) (p : Pos) (d : Option Direct) (w : Walked) (b : Bool) → b ≡ true → More (with_use b c p d w) end → S.used (next_use w) ≡ part_of P.tables outside d
      use_value c p d w false e m = absurd (true≢false (sym e))
      use_value c p d w true e m =
          let r = item_front (used p c.function d c.owner) w m in
          ap (part_of P.tables outside) (ap (use_at (next_use w)) r.1 ∙ use_there w.items p c.function d c.owner r.0)

      pub def_value : (f : ℕ) (p : Pos) (d : Option Direct) (w : Walked) → More (with_item (def p f d) w) end → More start w → S.defined (next_def w) ≡ part_of P.tables outside d
      def_value f p d w m lo =
          let r = item_front (def p f d) w m in
          let a = more_defs start w lo in
          let b = more_defs (with_item (def p f d) w) end m in
          let e = defs_both w.items (def p f d ∷ []) in
          body.defined_is (next_def w) (omega (arith, a)) (omega (arith, b, e)) ∙ ap (part_of P.tables outside) (ap (def_at (next_def w)) r.1 ∙ def_there w.items p f d r.0)

      -- ---- where a place is read

      pick : (b : Bool) (u v : Walked) → b ≡ true → More (if b then u else v) end → More u end
      pick true u v e m = m
      pick false u v e m = absurd (true≢false (sym e))

      read_of : (p : Pos) (n : NoteShape) (f : ExprShape) (w : Walked) → HasScalar (direct_form n f) → IsKinded P.tables (node p p n f) → HasOwnNames R n f → S.used (next_use w) ≡ part_of P.tables outside (direct_form n f)
          → IsUse S F (form_names n f) (S.used (next_use w)) ⊎ IsUsedAt S F P.tables (node p p n f) (S.used (next_use w))
      read_of p n f w h k o e =
          subst (λ (x : Option Local). IsUse S F (form_names n f) x ⊎ IsUsedAt S F P.tables (node p p n f) x) (sym e) (used_told (form_names n f) (node p p n f) (direct_form n f) refl h k o)

      read_by : (c : Around) (r : Taken) (p : Pos) (n : NoteShape) (f : ExprShape) (w : Walked) → IsKinded P.tables (node p p n f) → HasOwnNames R n f → More (with_site c r p n f w) end → IsReadSite S F P.tables r p n f w
      read_by c Read p n f w k o m = λ h.
          read_of p n f w (place_scalar n f h) k o (use_value c p (direct_form n f) w (has_scalar n) (if_second (is_place f) (has_scalar n) h)
          (pick (is_place f) (with_sites c Read p (direct_form n f) (is_used Read n) w) w (if_first (is_place f) (has_scalar n) h) m))
      read_by c Copied p n f w k o m = tt
      read_by c Written p n f w k o m = tt
      read_by c Changed p n f w k o m = tt
      read_by c Addressed p n f w k o m = tt

      -- ---- where it is changed

      def_first : (c : Around) (r : Taken) (p : Pos) (d : Option Direct) (b : Bool) (w : Walked) → is_written r ≡ true → More (with_item (def p c.function d) w) (with_sites c r p d b w)
      def_first c Written p d b w e = use_on b c p d (with_item (def p c.function d) w)
      def_first c Changed p d b w e = use_on b c p d (with_item (def p c.function d) w)
      def_first c Read p d b w e = absurd (true≢false (sym e))
      def_first c Copied p d b w e = absurd (true≢false (sym e))
      def_first c Addressed p d b w e = absurd (true≢false (sym e))

      -- behind a place's own sites come those of its parts
      sites_in : (c : Around) (r : Taken) (p : Pos) (n : NoteShape) (f : ExprShape) (w : Walked) → is_place f ≡ true → More (walk_form c r f (with_site c r p n f w)) end → More (with_sites c r p (direct_form n f) (is_used r n) w) end
      sites_in c r p n f w e m = pick (is_place f) (with_sites c r p (direct_form n f) (is_used r n) w) w e (on_further (with_site c r p n f w) (walk_form c r f (with_site c r p n f w)) end (form_on c r f (with_site c r p n f w)) m)

      place_def : (c : Around) (r : Taken) (p : Pos) (n : NoteShape) (f : ExprShape) (w : Walked) → is_written r ≡ true → is_place f ≡ true → More start w → More (walk_form c r f (with_site c r p n f w)) end → S.defined (next_def w) ≡ part_of P.tables outside (direct_form n f)
      place_def c r p n f w k e lo m =
          let d = direct_form n f in
          let v = with_sites c r p d (is_used r n) w in
          def_value c.function p d w (on_further (with_item (def p c.function d) w) v end (def_first c r p d (is_used r n) w k) (sites_in c r p n f w e m)) lo

      mutual
        def_is : (c : Around) (r : Taken) (a : NodeShape) (w : Walked) → is_written r ≡ true → IsOrderly a → holds_place a ≡ true → More start w → More (walk_node c r a w) end → S.defined (next_def w) ≡ part_of P.tables outside (direct a)
        def_is c r (node p o n f) w k g e lo m = form_def c r p n f w k g e lo m

        form_def : (c : Around) (r : Taken) (p : Pos) (n : NoteShape) (f : ExprShape) (w : Walked) → is_written r ≡ true → HasOrder f → form_holds_place f ≡ true → More start w → More (walk_form c r f (with_site c r p n f w)) end → S.defined (next_def w) ≡ part_of P.tables outside (direct_form n f)
        form_def c r p n (paren a) w k g e lo m = def_is c r a w k g e lo m
        form_def c r p n (probe u a) w k g e lo m = absurd g
        form_def c r p n (leaf l) w k g e lo m = place_def c r p n (leaf l) w k e lo m
        form_def c r p n (call x args) w k g e lo m = place_def c r p n (call x args) w k e lo m
        form_def c r p n (prefix u a) w k g e lo m = place_def c r p n (prefix u a) w k e lo m
        form_def c r p n (size_of_type y) w k g e lo m = place_def c r p n (size_of_type y) w k e lo m
        form_def c r p n (cast y a) w k g e lo m = place_def c r p n (cast y a) w k e lo m
        form_def c r p n (suffix a u) w k g e lo m = place_def c r p n (suffix a u) w k e lo m
        form_def c r p n (two u a b) w k g e lo m = place_def c r p n (two u a b) w k e lo m
        form_def c r p n (choose a b d) w k g e lo m = place_def c r p n (choose a b d) w k e lo m

      place_use : (c : Around) (p : Pos) (n : NoteShape) (f : ExprShape) (w : Walked) → (if is_place f then has_scalar n else false) ≡ true → More (walk_form c Changed f (with_site c Changed p n f w)) end → S.used (next_use w) ≡ part_of P.tables outside (direct_form n f)
      place_use c p n f w e m =
          let d = direct_form n f in
          subst (λ (k : ℕ). S.used (suc k) ≡ part_of P.tables outside d) (use_past w.items p c.function d)
          (use_value c p d (with_item (def p c.function d) w) (has_scalar n) (if_second (is_place f) (has_scalar n) e) (sites_in c Changed p n f w (if_first (is_place f) (has_scalar n) e) m))

      mutual
        use_is : (c : Around) (a : NodeShape) (w : Walked) → IsOrderly a → holds_scalar a ≡ true → More (walk_node c Changed a w) end → S.used (next_use w) ≡ part_of P.tables outside (direct a)
        use_is c (node p o n f) w g e m = form_use c p n f w g e m

        form_use : (c : Around) (p : Pos) (n : NoteShape) (f : ExprShape) (w : Walked) → HasOrder f → form_holds_scalar n f ≡ true → More (walk_form c Changed f (with_site c Changed p n f w)) end → S.used (next_use w) ≡ part_of P.tables outside (direct_form n f)
        form_use c p n (paren a) w g e m = use_is c a w g e m
        form_use c p n (probe u a) w g e m = absurd g
        form_use c p n (leaf l) w g e m = place_use c p n (leaf l) w e m
        form_use c p n (call x args) w g e m = place_use c p n (call x args) w e m
        form_use c p n (prefix u a) w g e m = place_use c p n (prefix u a) w e m
        form_use c p n (size_of_type y) w g e m = place_use c p n (size_of_type y) w e m
        form_use c p n (cast y a) w g e m = place_use c p n (cast y a) w e m
        form_use c p n (suffix a u) w g e m = place_use c p n (suffix a u) w e m
        form_use c p n (two u a b) w g e m = place_use c p n (two u a b) w e m
        form_use c p n (choose a b d) w g e m = place_use c p n (choose a b d) w e m

      def_site : (c : Around) (r : Taken) (a : NodeShape) (w : Walked) → is_written r ≡ true → IsOrderly a → holds_scalar a ≡ true → IsKinded P.tables a → IsOwnNode R a → More start w → More (walk_node c r a w) end → IsDefinedSite S F P.tables a w
      def_site c r a w k g e t o lo m =
          subst (λ (x : Option Local). IsDefinition S F (variable_named a) x ⊎ IsDefinedAt S F P.tables a x) (sym (def_is c r a w k g (scalar_place a e) lo m)) (defined_told (variable_named a) a (direct a) refl (held_scalar a e) t o)

      use_site : (c : Around) (a : NodeShape) (w : Walked) → IsOrderly a → holds_scalar a ≡ true → IsKinded P.tables a → IsOwnNode R a → More (walk_node c Changed a w) end → IsUsedSite S F P.tables a w
      use_site c a w g e t o m = subst (λ (x : Option Local). IsUse S F (variable_named a) x ⊎ IsUsedAt S F P.tables a x) (sym (use_is c a w g e m)) (used_told (variable_named a) a (direct a) refl (held_scalar a e) t o)

      -- ---- where a structure is copied

      place_copied : (c : Around) (p : Pos) (n : NoteShape) (f : ExprShape) (w : Walked) → (if is_place f then has_structure n else false) ≡ true → More (walk_form c Copied f (with_site c Copied p n f w)) end → S.used (next_use w) ≡ part_of P.tables outside (direct_form n f)
      place_copied c p n f w e m =
          let d = direct_form n f in
          let place = if_first (is_place f) (has_structure n) e in
          let kind = if_second (is_place f) (has_structure n) e in
          use_value c p d w (has_structure n) kind (sites_in c Copied p n f w place m)

      mutual
        copied_use : (c : Around) (a : NodeShape) (w : Walked) → is_copied a ≡ true → More (walk_node c Copied a w) end → S.used (next_use w) ≡ part_of P.tables outside (direct a)
        copied_use c (node p o n f) w e m = form_copied_use c p n f w e m

        form_copied_use : (c : Around) (p : Pos) (n : NoteShape) (f : ExprShape) (w : Walked) → form_is_copied n f ≡ true → More (walk_form c Copied f (with_site c Copied p n f w)) end → S.used (next_use w) ≡ part_of P.tables outside (direct_form n f)
        form_copied_use c p n (paren a) w e m = copied_use c a w e m
        form_copied_use c p n (probe u a) w e m = absurd (true≢false (sym e))
        form_copied_use c p n (leaf l) w e m = place_copied c p n (leaf l) w e m
        form_copied_use c p n (call x args) w e m = place_copied c p n (call x args) w e m
        form_copied_use c p n (prefix u a) w e m = place_copied c p n (prefix u a) w e m
        form_copied_use c p n (size_of_type y) w e m = place_copied c p n (size_of_type y) w e m
        form_copied_use c p n (cast y a) w e m = place_copied c p n (cast y a) w e m
        form_copied_use c p n (suffix a u) w e m = place_copied c p n (suffix a u) w e m
        form_copied_use c p n (two u a b) w e m = place_copied c p n (two u a b) w e m
        form_copied_use c p n (choose a b d) w e m = place_copied c p n (choose a b d) w e m

      copied_sites : (c : Around) (a b : NodeShape) (w v : Walked) → IsOrderly a → holds_place a ≡ true → is_copied b ≡ true → IsKinded P.tables a → IsKinded P.tables b → IsOwnNode R a → IsOwnNode R b → More start w → More (walk_node c Written a w) end → More (walk_node c Copied b v) end
          → IsCopied S F P.tables a b w v
      copied_sites c a b w v g e copied k j o q lo m n = (
        subst (IsDefinedWhole S F P.tables a) (sym (def_is c Written a w refl g e lo m)) (whole_told a (direct a) refl k o).1,
        subst (IsUsedWhole S F P.tables b) (sym (copied_use c b v copied n)) (whole_told b (direct b) refl j q).0,
      )

      -- ---- expressions

      operand_orderly : (u : UnaryOp) (a : NodeShape) → HasOrder (prefix (unary u) a) → IsOrderly a
      operand_orderly front.AddressOf a g = g.0
      operand_orderly front.Deref a g = g
      operand_orderly front.Plus a g = g
      operand_orderly front.Minus a g = g
      operand_orderly front.Flip a g = g
      operand_orderly front.Not a g = g

      mutual
        pub sited : (c : Around) (r : Taken) (a : NodeShape) (w : Walked) → IsOrderly a → IsKinded P.tables a → IsOwnNode R a → More start w → More (walk_node c r a w) end → IsSited S F P.tables c r a w
        sited c r (node p o n f) w g k i lo m = form_sited c r p n f w g k i lo m

        form_sited : (c : Around) (r : Taken) (p : Pos) (n : NoteShape) (f : ExprShape) (w : Walked) → HasOrder f → IsKinded P.tables (node p p n f) → HasOwnNames R n f → More start w → More (walk_form c r f (with_site c r p n f w)) end → IsFormSited S F P.tables c r p n f w
        form_sited c r p n (leaf l) w g k i lo m = read_by c r p n (leaf l) w k i m
        form_sited c r p n (paren a) w g k i lo m = sited c r a w g k.1 i lo m
        form_sited c r p n (call x args) w g k i lo m = all_sited c args w g k.1 i lo m
        form_sited c r p n (prefix (unary u) a) w g k i lo m =
            let v = with_site c r p n (prefix (unary u) a) w in (
              read_by c r p n (prefix (unary u) a) w k i (on_further v (walk_node c (operand_taken u) a v) end (node_on c (operand_taken u) a v) m),
              sited c (operand_taken u) a v (operand_orderly u a g) k.1 i (on_further start w v lo (site_on c r p n (prefix (unary u) a) w)) m,
            )
        form_sited c r p n (prefix (before u) a) w g k i lo m = (sited c Changed a w g.0 k.1 i lo m, use_site c a w g.0 g.1 k.1 i m, def_site c Changed a w refl g.0 g.1 k.1 i lo m)
        form_sited c r p n (prefix size_of a) w g k i lo m = tt
        form_sited c r p n (size_of_type y) w g k i lo m = tt
        form_sited c r p n (cast y a) w g k i lo m = sited c Read a w g k.1 i lo m
        form_sited c r p n (suffix a (index b)) w g k i lo m =
            let v = with_site c r p n (suffix a (index b)) w in
            let u = walk_node c Read a v in
            let on = on_further start w v lo (site_on c r p n (suffix a (index b)) w) in
            let back = on_further u (walk_node c Read b u) end (node_on c Read b u) m in (
              read_by c r p n (suffix a (index b)) w k i (on_further v u end (node_on c Read a v) back),
              sited c Read a v g.0 k.1.0 i.0 on back,
              sited c Read b u g.1 k.1.1 i.1 (on_further start v u on (node_on c Read a v)) m,
            )
        form_sited c r p n (suffix a (field dot x q)) w g k i lo m =
            let v = with_site c r p n (suffix a (field dot x q)) w in
            (read_by c r p n (suffix a (field dot x q)) w k i (on_further v (walk_node c Read a v) end (node_on c Read a v) m), sited c Read a v g.0 k.1 i (on_further start w v lo (site_on c r p n (suffix a (field dot x q)) w)) m)
        form_sited c r p n (suffix a (field arrow x q)) w g k i lo m =
            let v = with_site c r p n (suffix a (field arrow x q)) w in
            (read_by c r p n (suffix a (field arrow x q)) w k i (on_further v (walk_node c Read a v) end (node_on c Read a v) m), sited c Read a v g k.1 i (on_further start w v lo (site_on c r p n (suffix a (field arrow x q)) w)) m)
        form_sited c r p n (suffix a (behind u)) w g k i lo m = (sited c Changed a w g.0 k.1 i lo m, use_site c a w g.0 g.1 k.1 i m, def_site c Changed a w refl g.0 g.1 k.1 i lo m)
        form_sited c r p n (two (plain u) a b) w g k i lo m =
            let v = walk_node c Read a w in
            (sited c Read a w g.0 k.1.0 i.0 lo (on_further v (walk_node c Read b v) end (node_on c Read b v) m), sited c Read b v g.1 k.1.1 i.1 (on_further start w v lo (node_on c Read a w)) m)
        form_sited c r p n (two comma a b) w g k i lo m =
            let v = walk_node c Read a w in
            (sited c Read a w g.0 k.1.0 i.0 lo (on_further v (walk_node c Read b v) end (node_on c Read b v) m), sited c Read b v g.1 k.1.1 i.1 (on_further start w v lo (node_on c Read a w)) m)
        form_sited c r p n (two and a b) w g k i lo m =
            let u = walk_test c a w in
            let v = with_block (pos_of b) u in
            let back = on_further v (walk_test c b v) end (test_node_on c b v) m in
            (test_sited c a w g.0 k.1.0 i.0 lo (on_further u v end (block_on (pos_of b) u) back), test_sited c b v g.1 k.1.1 i.1 (on_further start u v (on_further start w u lo (test_node_on c a w)) (block_on (pos_of b) u)) m)
        form_sited c r p n (two or a b) w g k i lo m =
            let u = walk_test c a w in
            let v = with_block (pos_of b) u in
            let back = on_further v (walk_test c b v) end (test_node_on c b v) m in
            (test_sited c a w g.0 k.1.0 i.0 lo (on_further u v end (block_on (pos_of b) u) back), test_sited c b v g.1 k.1.1 i.1 (on_further start u v (on_further start w u lo (test_node_on c a w)) (block_on (pos_of b) u)) m)
        form_sited c r p n (two (assign None) a b) w g k i lo m =
            let v = walk_node c Written a w in
            let z = right_taken None a in
            let back = on_further v (walk_node c z b v) end (node_on c z b v) m in (
              sited c Written a w g.0 k.1.0 i.0 lo back,
              λ e. def_site c Written a w refl g.0 (g.4 e) k.1.0 i.0 lo back,
              sited c z b v g.2 k.1.1 i.1 (on_further start w v lo (node_on c Written a w)) m,
              λ e. copied_sites c a b w v g.0 g.1 (g.3 e).1 k.1.0 k.1.1 i.0 i.1 lo back (subst (λ q. More (walk_node c (if q then Copied else Read) b v) end) e m),
            )
        form_sited c r p n (two (assign (Some u)) a b) w g k i lo m =
            let v = walk_node c Changed a w in
            let back = on_further v (walk_node c Read b v) end (node_on c Read b v) m in (
              sited c Changed a w g.0 k.1.0 i.0 lo back,
              use_site c a w g.0 g.1 k.1.0 i.0 back,
              def_site c Changed a w refl g.0 g.1 k.1.0 i.0 lo back,
              sited c Read b v g.2 k.1.1 i.1 (on_further start w v lo (node_on c Changed a w)) m,
            )
        form_sited c r p n (choose a b d) w g k i lo m =
            let u = walk_test c a w in
            let v = walk_arm c b u in
            let back = on_further v (walk_arm c d v) end (arm_on c d v) m in
            let on = on_further start w u lo (test_node_on c a w) in
            (test_sited c a w g.0 k.1.0 i.0 lo (on_further u v end (arm_on c b u) back), arm_sited c b u g.1 k.1.1 i.1.0 on back, arm_sited c d v g.2 k.1.2 i.1.1 (on_further start u v on (arm_on c b u)) m)
        form_sited c r p n (probe u a) w g k i lo m = g

        pub test_sited : (c : Around) (a : NodeShape) (w : Walked) → IsOrderly a → IsKinded P.tables a → IsOwnNode R a → More start w → More (walk_test c a w) end → IsTestSited S F P.tables c a w
        test_sited c (node p o n f) w g k i lo m = form_sited (inside_test c f w) Read p n f (with_test p f w) g k i (on_further start w (with_test p f w) lo (test_on p f w)) m

        pub arm_sited : (c : Around) (a : NodeShape) (w : Walked) → IsOrderly a → IsKinded P.tables a → IsOwnNode R a → More start w → More (walk_arm c a w) end → IsArmSited S F P.tables c a w
        arm_sited c (node p o n f) w g k i lo m = form_sited c Read p n f (with_block p w) g k i (on_further start w (with_block p w) lo (block_on p w)) m

        all_sited : (c : Around) (args : NodeShapes) (w : Walked) → AreOrderly args → AreKinded P.tables args → AreOwnNodes R args → More start w → More (walk_nodes c args w) end → AreSited S F P.tables c args w
        all_sited c no_nodes w g k i lo m = tt
        all_sited c (more_nodes a rest) w g k i lo m =
            let v = walk_node c Read a w in
            (sited c Read a w g.0 k.0 i.0 lo (on_further v (walk_nodes c rest v) end (nodes_on c rest v) m), all_sited c rest v g.1 k.1 i.1 (on_further start w v lo (node_on c Read a w)) m)

      pub maybe_sited : (c : Around) (e : MaybeNode) (w : Walked) → IsOrderlyMaybe e → IsKindedMaybe P.tables e → IsOwnMaybe R e → More start w → More (walk_maybe c e w) end → IsMaybeSited S F P.tables c e w
      maybe_sited c no_node w g k i lo m = tt
      maybe_sited c (one_node a) w g k i lo m = sited c Read a w g k i lo m

      pub loop_sited : (c : Around) (e : MaybeNode) (w : Walked) → IsOrderlyMaybe e → IsKindedMaybe P.tables e → IsOwnMaybe R e → More start w → More (walk_maybe_test c e w) end → IsLoopTestSited S F P.tables c e w
      loop_sited c no_node w g k i lo m = tt
      loop_sited c (one_node a) w g k i lo m = test_sited c a (with_block (pos_of a) w) g k i (on_further start w (with_block (pos_of a) w) lo (block_on (pos_of a) w)) m

      pub step_sited : (c : Around) (e : MaybeNode) (w : Walked) → IsOrderlyMaybe e → IsKindedMaybe P.tables e → IsOwnMaybe R e → More start w → More (walk_step c e w) end → IsStepSited S F P.tables c e w
      step_sited c no_node w g k i lo m = tt
      step_sited c (one_node a) w g k i lo m = arm_sited c a w g k i lo m
