-- Each definition, use and outcome of an expression is that of an item where it is counted.
use Rattle.std.proofs.Common.{◌≡◌, ℕ, suc, ◌++◌, List, [], ◌∷◌, Bool, true, false, Option, Some, None, if◌then◌else◌, refl, ap, sym, subst, ◌∙◌, arith, append_assoc}
use Rattle.std.specs.Prelude.{Contains}
use Rattle.std.proofs.lemmas.Bool.{true≢false}
use Rattle.c_base.specs.declared.place.Pos.{Pos}
use Rattle.c_base.specs.declared.labels.OutcomeLabel.{OutcomeLabel}
use Rattle.c_syntax.specs.declared.tree.Named.{Named}
use Rattle.c_syntax.specs.declared.tree.BinaryOp.{BinaryOp}
use Rattle.c_syntax.specs.Shape.{NoteShape, NodeShape, node, ExprShape, paren, probe}
use Rattle.c_tables.specs.Tables.{TablesShape}
use Rattle.c_tables.specs.Rows.{first_place, name_pos}
use Rattle.c_walk.specs.Items.{Direct, Outcomes, labels, Item, block, decision, def, used}
use Rattle.c_walk.specs.Places.{is_place, has_scalar, has_structure, direct_form}
use Rattle.c_walk.specs.declared.around.Around.{Around}
use Rattle.c_walk.specs.declared.around.Taken.{Taken}
use Rattle.c_walk.specs.declared.around.Taken.TheVariants.{Read, Written, Changed, Copied, Addressed}
use Rattle.c_walk.specs.Tests.{is_logical_form}
use Rattle.c_walk.specs.Counted.{def_count, use_count, next_def, next_use}
use Rattle.c_walk.specs.Walked.{Walked, left_taken, is_used, is_written, with_decision, with_item, with_def, with_use, with_sites, with_site, next_decision, inside, inside_test}
use Rattle.c_walk.specs.Walking.{walk_node, walk_form}
use Rattle.c_walk.specs.Stating.{whole, with_whole_def}
use Rattle.flow_walks.specs.Expressions.{holds_place, holds_scalar, form_holds_place, form_holds_scalar, reads}
use Rattle.flow_parts.proofs.Grown.{Grows, Counts, use_grows, form_grows}
use Rattle.flow_parts.proofs.Outcomes.{Tested}

if_first : (b x : Bool) → (if b then x else false) ≡ true → b ≡ true
if_first true x e = refl
if_first false x e = absurd (true≢false (sym e))

if_second : (b x : Bool) → (if b then x else false) ≡ true → x ≡ true
if_second true x e = e
if_second false x e = absurd (true≢false (sym e))

pub inside_own : (here : ℕ) (c : Around) (f : ExprShape) (s : Walked) → c.function ≡ here → (inside_test c f s).function ≡ here
inside_own here c f s own = by (is_logical_form f)
  where
    by : (b : Bool) → (if b then c else inside c s).function ≡ here
    by true = own
    by false = own

pub is_left : (q : Option BinaryOp) → is_written (left_taken q) ≡ true
is_left None = refl
is_left (Some u) = refl

uses_past : (is : List Item) (p : Pos) (f : ℕ) (d : Option Direct) → use_count (is ++ def p f d ∷ []) ≡ use_count is
uses_past [] p f d = refl
uses_past (block q ∷ is) p f d = uses_past is p f d
uses_past (decision q o ∷ is) p f d = uses_past is p f d
uses_past (def q g c ∷ is) p f d = uses_past is p f d
uses_past (used q g c k ∷ is) p f d = ap suc (uses_past is p f d)

-- ---- items where they are counted

module _ (all : List Item) (here : ℕ) where
  pub record Defined (d : ℕ) : Type 0 where
    pub pre : List Item
    pub place : Pos
    pub direct : Option Direct
    pub rest : List Item
    pub is : all ≡ pre ++ def place here direct ∷ rest
    pub number : d ≡ suc (def_count pre)

  pub record Used (u : ℕ) : Type 0 where
    pub pre : List Item
    pub place : Pos
    pub direct : Option Direct
    pub owner : Option ℕ
    pub rest : List Item
    pub is : all ≡ pre ++ used place here direct owner ∷ rest
    pub number : u ≡ suc (use_count pre)

  -- what was counted stands in front of all
  abbrev pub Front : Walked → Type 0
  Front s = (rest : List Item) × (all ≡ s.items ++ rest)

  pub sooner : {s t : Walked} → Grows s t → Front t → Front s
  sooner {s} {t} g f = (g.more ++ f.0, f.1 ∙ ap (λ l. l ++ f.0) g.items ∙ append_assoc s.items g.more f.0)

  item_front : (i : Item) (is rest : List Item) → all ≡ (is ++ i ∷ []) ++ rest → all ≡ is ++ i ∷ rest
  item_front i is rest e = e ∙ append_assoc is (i ∷ []) rest

  def_here : (p : Pos) (d : Option Direct) (s : Walked) → (rest : List Item) × (all ≡ (s.items ++ def p here d ∷ []) ++ rest) → Defined (next_def s)
  def_here p d s f = record { pre = s.items; place = p; direct = d; rest = f.0; is = item_front (def p here d) s.items f.0 f.1; number = refl }

  use_here : (p : Pos) (d : Option Direct) (o : Option ℕ) (s : Walked) → (rest : List Item) × (all ≡ (s.items ++ used p here d o ∷ []) ++ rest) → Used (next_use s)
  use_here p d o s f = record { pre = s.items; place = p; direct = d; owner = o; rest = f.0; is = item_front (used p here d o) s.items f.0 f.1; number = refl }

  pub test_here : (p : Pos) (q : Outcomes) (o : ℕ) (s : Walked) → Counts s → Front (with_decision p q s) → (l : OutcomeLabel) × Contains (labels q) (o, l) → Tested all (next_decision s) o
  test_here p q o s c f m = record { pre = s.items; place = p; outcomes = q; rest = f.0; is = item_front (decision p q) s.items f.0 f.1; number = omega (arith, c); label = m.0; listed = m.1 }

  -- ---- a place that is read, and one that is written

  used_if : (b : Bool) (c : Around) → c.function ≡ here → (p : Pos) (d : Option Direct) (s : Walked) → b ≡ true → Front (with_use b c p d s) → Used (next_use s)
  used_if true c own p d s e f = use_here p d c.owner s (subst (λ (h : ℕ). (rest : List Item) × (all ≡ (s.items ++ used p h d c.owner ∷ []) ++ rest)) own f)
  used_if false c own p d s e f = absurd (true≢false (sym e))

  defined_if : (b : Bool) (c : Around) → c.function ≡ here → (p : Pos) (d : Option Direct) (s : Walked) → b ≡ true → Front (with_def b c p d s) → Defined (next_def s)
  defined_if true c own p d s e f = def_here p d s (subst (λ (h : ℕ). (rest : List Item) × (all ≡ (s.items ++ def p h d ∷ []) ++ rest)) own f)
  defined_if false c own p d s e f = absurd (true≢false (sym e))

  picked : (b : Bool) (s t : Walked) → b ≡ true → Front (if b then s else t) → Front s
  picked true s t e f = f
  picked false s t e f = absurd (true≢false (sym e))

  site_front : (c : Around) (r : Taken) (p : Pos) (n : NoteShape) (f : ExprShape) (s : Walked) → is_place f ≡ true → Front (with_site c r p n f s) → Front (with_sites c r p (direct_form n f) (is_used r n) s)
  site_front c r p n f s e h = picked (is_place f) (with_sites c r p (direct_form n f) (is_used r n) s) s e h

  pub read_here : (c : Around) → c.function ≡ here → (r : Taken) (p : Pos) (n : NoteShape) (f : ExprShape) (s : Walked) → Front (with_site c r p n f s) → reads r n f ≡ true → Used (next_use s)
  read_here c own Read p n f s h e = used_if (has_scalar n) c own p (direct_form n f) s (if_second (is_place f) (has_scalar n) e) (site_front c Read p n f s (if_first (is_place f) (has_scalar n) e) h)
  read_here c own Copied p n f s h e = used_if (has_structure n) c own p (direct_form n f) s (if_second (is_place f) (has_structure n) e) (site_front c Copied p n f s (if_first (is_place f) (has_structure n) e) h)
  read_here c own Written p n f s h e = absurd (true≢false (sym e))
  read_here c own Changed p n f s h e = absurd (true≢false (sym e))
  read_here c own Addressed p n f s h e = absurd (true≢false (sym e))

  place_here : (c : Around) → c.function ≡ here → (r : Taken) (p : Pos) (n : NoteShape) (f : ExprShape) (s : Walked) → Front (walk_form c r f (with_site c r p n f s)) → is_written r ≡ true → is_place f ≡ true → Defined (next_def s)
  place_here c own r p n f s h w e =
      let d = direct_form n f in
      let t = with_def (is_written r) c p d s in
      defined_if (is_written r) c own p d s w (sooner (use_grows (is_used r n) c p d t) (site_front c r p n f s e (sooner (form_grows c r f (with_site c r p n f s)) h)))

  changed_place : (c : Around) → c.function ≡ here → (p : Pos) (n : NoteShape) (f : ExprShape) (s : Walked) → Front (walk_form c Changed f (with_site c Changed p n f s)) → (if is_place f then has_scalar n else false) ≡ true → Used (next_use s)
  changed_place c own p n f s h e =
      let d = direct_form n f in
      let t = with_item (def p c.function d) s in
      subst Used (ap suc (uses_past s.items p c.function d))
      (used_if (has_scalar n) c own p d t (if_second (is_place f) (has_scalar n) e) (site_front c Changed p n f s (if_first (is_place f) (has_scalar n) e) (sooner (form_grows c Changed f (with_site c Changed p n f s)) h)))

  mutual
    pub written_here : (c : Around) → c.function ≡ here → (r : Taken) (a : NodeShape) (s : Walked) → Front (walk_node c r a s) → is_written r ≡ true → holds_place a ≡ true → Defined (next_def s)
    written_here c own r (node p o n f) s h w e = form_written c own r p n f s h w e

    form_written : (c : Around) → c.function ≡ here → (r : Taken) (p : Pos) (n : NoteShape) (f : ExprShape) (s : Walked) → Front (walk_form c r f (with_site c r p n f s)) → is_written r ≡ true → form_holds_place f ≡ true → Defined (next_def s)
    form_written c own r p n (paren a) s h w e = written_here c own r a s h w e
    form_written c own r p n (probe u a) s h w e = written_here c own r a s h w e
    form_written c own r p n f s h w e = place_here c own r p n f s h w e

  mutual
    pub changed_here : (c : Around) → c.function ≡ here → (a : NodeShape) (s : Walked) → Front (walk_node c Changed a s) → holds_scalar a ≡ true → Used (next_use s)
    changed_here c own (node p o n f) s h e = form_changed c own p n f s h e

    form_changed : (c : Around) → c.function ≡ here → (p : Pos) (n : NoteShape) (f : ExprShape) (s : Walked) → Front (walk_form c Changed f (with_site c Changed p n f s)) → form_holds_scalar n f ≡ true → Used (next_use s)
    form_changed c own p n (paren a) s h e = changed_here c own a s h e
    form_changed c own p n (probe u a) s h e = changed_here c own a s h e
    form_changed c own p n f s h e = changed_place c own p n f s h e

  pub whole_here : (t : TablesShape) (f : ℕ) (x : Option Named) (s : Walked) → f ≡ here → Front (with_whole_def t f x s) → Defined (next_def s)
  whole_here t f x s e h = def_here (name_pos first_place x) (whole t s.variables) s (subst (λ (g : ℕ). (rest : List Item) × (all ≡ (s.items ++ def (name_pos first_place x) g (whole t s.variables) ∷ []) ++ rest)) e h)

  pub unlogical : (b : Bool) (s t : Walked) → b ≡ false → Front (if b then s else t) → Front t
  unlogical false s t e f = f
  unlogical true s t e f = absurd (true≢false e)
