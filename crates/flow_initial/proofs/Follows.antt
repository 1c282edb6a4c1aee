-- Typing leaves the fields of structures whose lists were begun as they are, and adds variables behind those that are there.
use Rattle.std.proofs.Common.{◌≡◌, ℕ, ◌+◌, ◌-◌, ◌≤◌, List, [], ◌∷◌, ◌++◌, length, length-append, append_assoc, nat_eq, Option, Some, None, Bool, true, false, refl, sym, ap, ◌∙◌, arith}
use Rattle.std.proofs.lemmas.Bool.{false≢true}
use Rattle.std.specs.Prelude.{slice_get, bytes_eq, cond, if◌then◌else◌}
use Rattle.std.specs.Map.{lookup}
use Rattle.std.specs.List.{AllByRecursion}
use Rattle.c_base.specs.declared.place.Pos.{Pos}
use Rattle.c_syntax.specs.declared.text.Text.{Text}
use Rattle.c_syntax.specs.declared.tree.Named.{Named}
use Rattle.c_syntax.specs.Shape.{TypeOf, DeclShapes}
use Rattle.c_scopes.specs.Rows.{Scope, Scoped}
use Rattle.c_scopes.specs.Scoping.{find_here, but_last, last_of}
use Rattle.c_tables.specs.Tables.{FieldShape, StructShape, VariableShape, changed_at}
use Rattle.c_tables.specs.Rows.{row, fields_in}
use Rattle.c_tables.proofs.Rows.{length_changed}
use Rattle.c_tree.specs.declared.meaning.Tag.{Tag}
use Rattle.c_tree.specs.declared.meaning.Tag.TheVariants as tag
use Rattle.c_tree.specs.State.{State, is_set, step, steps}
use Rattle.c_tree.specs.Parts.{with_structure, with_tag, new_structure, next_structure, listed_structure, twice, opened, begun_at, closed, listed_enumeration, tag_tokens, within}
use Rattle.c_tree.specs.Operators.{heard}
use Rattle.c_tree.specs.Typing.{type_lines}
use Rattle.c_tree.specs.Declaring.{with_row, opened_scope, closed_scope}
use Rattle.flow_initial.proofs.Filling.{all_and_one}
use Rattle.flow_initial.proofs.Cores.{Core, core, lines_of, Kept, KeptByAll, KeptByUnits}
use Rattle.flow_initial.proofs.Openings.{opened_keeps}
use Rattle.flow_initial.proofs.RowLists.{all_map, row_at, counted_from_one, where_set, where_unset, where_fields, set_in_front, unset_in_front, last_unset, set_stays, unset_before, set_there, fields_in_front, fields_apart}
use Rattle.flow_initial.proofs.KeepsNodes as nodes

-- ---- tags are numbers of structures

abbrev pub IsTag : ℕ → Tag → Type 0
IsTag n (tag.Structure m) = (1 ≤ m) × (m ≤ n)
IsTag n tag.Enumeration = Unit {0}

abbrev pub AreTags : ℕ → Scope Tag → Type 0
AreTags n rows = AllByRecursion (λ (r : List ℕ × Tag). IsTag n r.1) rows

-- in all scopes
abbrev pub HaveTags : ℕ → Scoped Tag → Type 0
HaveTags n s = AllByRecursion (AreTags n) s.outer × AreTags n s.top

tag_more : (n m : ℕ) → n ≤ m → (t : Tag) → IsTag n t → IsTag m t
tag_more n m le (tag.Structure k) h = (h.0, omega (arith, le, h.1))
tag_more n m le tag.Enumeration h = tt

scope_more : (n m : ℕ) → n ≤ m → (rows : Scope Tag) → AreTags n rows → AreTags m rows
scope_more n m le rows h = all_map (λ (r : List ℕ × Tag). IsTag n r.1) (λ (r : List ℕ × Tag). IsTag m r.1) (λ r g. tag_more n m le r.1 g) rows h

tags_more : (n m : ℕ) → n ≤ m → (s : Scoped Tag) → HaveTags n s → HaveTags m s
tags_more n m le s h = (all_map (AreTags n) (AreTags m) (scope_more n m le) s.outer h.0, scope_more n m le s.top h.1)

tags_and_one : (n : ℕ) (s : Scoped Tag) (x : List ℕ) (t : Tag) → HaveTags n s → IsTag n t → AreTags n (s.top ++ (x, t) ∷ [])
tags_and_one n s x t h g = all_and_one (λ (r : List ℕ × Tag). IsTag n r.1) s.top (x, t) h.1 g

abbrev FoundTag : ℕ → Option Tag → Type 0
FoundTag n None = Unit {0}
FoundTag n (Some t) = IsTag n t

found_either : (n : ℕ) (b : Bool) (t : Tag) (o : Option Tag) → IsTag n t → FoundTag n o → FoundTag n (cond b (Some t) o)
found_either n true t o h g = h
found_either n false t o h g = g

found_tag : (n : ℕ) (test : List ℕ → Bool) (rows : Scope Tag) → AreTags n rows → FoundTag n (lookup test rows)
found_tag n test [] h = tt
found_tag n test (r ∷ rows) h = found_either n (test r.0) r.1 (lookup test rows) h.0 (found_tag n test rows h.1)

all_but_last : {T : Type 0} (P : Scope T → Type 0) (xs : List (Scope T)) → AllByRecursion P xs → AllByRecursion P (but_last xs)
all_but_last P [] h = tt
all_but_last P (x ∷ []) h = tt
all_but_last P (x ∷ y ∷ xs) h = (h.0, all_but_last P (y ∷ xs) h.1)

last_is : {T : Type 0} (P : Scope T → Type 0) (xs : List (Scope T)) (top : Scope T) → AllByRecursion P xs → P top → P (last_of xs top)
last_is P [] top h g = g
last_is P (x ∷ xs) top h g = last_is P xs x h.1 h.0

-- ---- what holds at each token, and what follows on what

-- a structure whose list wasn't begun has no fields
pub record Sound (c : Core) : Type 0 where
  pub tags : HaveTags (length c.structures) c.tags
  pub even : length c.begun ≡ length c.structures
  pub bare : (n : ℕ) → is_set (row c.begun n) ≡ false → fields_in (row c.structures n) ≡ []

pub record Follows (a c : Core) : Type 0 where
  pub sound : Sound c
  pub begun : (n : ℕ) → is_set (row a.begun n) ≡ true → is_set (row c.begun n) ≡ true
  pub fields : (n : ℕ) → is_set (row a.begun n) ≡ true → fields_in (row c.structures n) ≡ fields_in (row a.structures n)
  pub more : List VariableShape
  pub added : c.variables ≡ a.variables ++ more

-- ---- a structure is begun, and stays so

abbrev pub HasBegun : ℕ → Core → Type 0
HasBegun n c = is_set (row c.begun n) ≡ true

begun_begun : (n : ℕ) (m : Option ℕ) (s : State) → HasBegun n (core s) → HasBegun n (core (begun_at m s))
begun_begun n None s h = h
begun_begun n (Some m) s h = where_set (nat_eq n 0) _ _ (set_stays (m - 1) (n - 1) s.begun) h

closed_begun : (n : ℕ) (m : Option ℕ) (fields : List FieldShape) (s : State) → HasBegun n (core s) → HasBegun n (core (closed m fields s))
closed_begun n None fields s h = h
closed_begun n (Some m) fields s h = h

listed_begun : (n : ℕ) (p : Pos) (x : Text) (t : Option Tag) (s : State) → HasBegun n (core s) → HasBegun n (core (listed_enumeration p x t s))
listed_begun n p x None s h = h
listed_begun n p x (Some t) s h = h

begun_kept : (n : ℕ) → Kept (HasBegun n)
begun_kept n = record {
  opening = opened_keeps (HasBegun n) (λ s h. where_set (nat_eq n 0) _ _ (set_in_front s.begun (n - 1)) h) (λ x s h. where_set (nat_eq n 0) _ _ (set_in_front s.begun (n - 1)) h);
  beginning = begun_begun n;
  closing = λ alone x ds s h g. closed_begun n (opened alone true x s).number (lines_of alone x ds s).fields (lines_of alone x ds s).state g;
  listing = listed_begun n;
  entering = λ s h. h;
  leaving = λ s h. h;
  hushing = λ s t f h. f h;
}

abbrev pub BegunAt : Option ℕ → Core → Type 0
BegunAt None c = Unit {0}
BegunAt (Some n) c = HasBegun n c

lines_begun : (n : Option ℕ) (ds : DeclShapes) (s : State) → BegunAt n (core s) → BegunAt n (core (type_lines ds [] s).state)
lines_begun None ds s h = tt
lines_begun (Some n) ds s h = nodes.lines_keep (HasBegun n) (begun_kept n) ds [] s h

-- ---- what a tag before a list opens wasn't begun

abbrev pub OpensAt : Option ℕ → Core → Type 0
OpensAt None c = Unit {0}
OpensAt (Some n) c = (1 ≤ n) × (n ≤ length c.begun) × (is_set (row c.begun n) ≡ false)

new_opens : (x : Option Text) (s : State) → Sound (core s) → OpensAt (Some (next_structure s)) (core (with_structure x s))
new_opens x s h =
    let n = length s.tables.structures + 1 in
    (omega arith, omega (arith, length-append s.begun (false ∷ []), h.even), ap is_set (row_at (s.begun ++ false ∷ []) n (omega arith)) ∙ last_unset s.begun (n - 1) (omega (arith, h.even)))

there_opens : (p : Pos) (n : ℕ) (s : State) (b : Bool) → is_set (row s.begun n) ≡ b → Sound (core s) → IsTag (length s.tables.structures) (tag.Structure n)
    → OpensAt (if b then twice p s else record { number = Some n; state = s }).number (core (if b then twice p s else record { number = Some n; state = s }).state)
there_opens p n s true e h g = tt
there_opens p n s false e h g = (g.0, omega (arith, g.1, h.even), e)

listed_opens : (p : Pos) (x : Text) (t : Option Tag) (s : State) → Sound (core s) → FoundTag (length s.tables.structures) t → OpensAt (listed_structure p x t s).number (core (listed_structure p x t s).state)
listed_opens p x None s h g = new_opens (Some x) s h
listed_opens p x (Some (tag.Structure n)) s h g = there_opens p n s (is_set (row s.begun n)) refl h g
listed_opens p x (Some tag.Enumeration) s h g = tt

pub opens : (alone : Bool) (x : Option Named) (s : State) → Sound (core s) → OpensAt (opened alone true x s).number (core (opened alone true x s).state)
opens alone None s h = new_opens None s h
opens alone (Some x) s h = listed_opens x.pos x.text (find_here x.text s.tags) s h (found_tag (length s.tables.structures) (bytes_eq x.text) s.tags.top h.tags.1)

pub begun_there : (n : Option ℕ) (s : State) → OpensAt n (core s) → BegunAt n (core (begun_at n s))
begun_there None s h = tt
begun_there (Some n) s h = ap is_set (row_at (changed_at (λ b. true) (n - 1) s.begun) n h.0) ∙ set_there (n - 1) s.begun (omega (arith, h.0, h.1))

-- ---- each step follows

module _ (a : Core) where
  new_follows : (x : Option Text) (s : State) → Follows a (core s) → Follows a (core (with_structure x s))
  new_follows x s h =
      let r : StructShape = record { tag = x; fields = [] } in
      let front = λ (n : ℕ). where_fields (nat_eq n 0) (slice_get (s.tables.structures ++ r ∷ []) (n - 1)) (slice_get s.tables.structures (n - 1)) (λ e. fields_in_front s.tables.structures x (n - 1)) in
      record {
        sound = record {
          tags = tags_more (length s.tables.structures) (length (s.tables.structures ++ r ∷ [])) (omega (arith, length-append s.tables.structures (r ∷ []))) s.tags h.sound.tags;
          even = omega (arith, h.sound.even, length-append s.begun (false ∷ []), length-append s.tables.structures (r ∷ []));
          bare = λ n e. front n ∙ h.sound.bare n (where_unset (nat_eq n 0) _ _ (unset_in_front s.begun (n - 1)) e);
        };
        begun = λ n e. where_set (nat_eq n 0) _ _ (set_in_front s.begun (n - 1)) (h.begun n e);
        fields = λ n e. front n ∙ h.fields n e;
        more = h.more;
        added = h.added;
      }

  tag_follows : (x : Text) (t : Tag) (s : State) → IsTag (length s.tables.structures) t → Follows a (core s) → Follows a (core (with_tag x t s))
  tag_follows x t s g h = record {
    sound = record { tags = (h.sound.tags.0, tags_and_one (length s.tables.structures) s.tags x t h.sound.tags g); even = h.sound.even; bare = h.sound.bare };
    begun = h.begun;
    fields = h.fields;
    more = h.more;
    added = h.added;
  }

  named_follows : (x : Text) (s : State) → Follows a (core s) → Follows a (core (new_structure x s).state)
  named_follows x s h =
      tag_follows x (tag.Structure (next_structure s)) (with_structure (Some x) s) (omega arith, omega (arith, length-append s.tables.structures (record { tag = Some x; fields = [] } ∷ [])))
      (new_follows (Some x) s h)

  begun_follows : (n : Option ℕ) (s : State) → Follows a (core s) → Follows a (core (begun_at n s))
  begun_follows None s h = h
  begun_follows (Some m) s h = record {
    sound = record {
      tags = h.sound.tags;
      even = length_changed (λ b. true) (m - 1) s.begun ∙ h.sound.even;
      bare = λ n e. h.sound.bare n (where_unset (nat_eq n 0) _ _ (unset_before (m - 1) (n - 1) s.begun) e);
    };
    begun = λ n e. where_set (nat_eq n 0) _ _ (set_stays (m - 1) (n - 1) s.begun) (h.begun n e);
    fields = h.fields;
    more = h.more;
    added = h.added;
  }

  -- another structure's fields stay
  apart : (fields : List FieldShape) (m n : ℕ) (rows : List StructShape) → 1 ≤ n → (m ≡ n → ⊥) → fields_in (row (changed_at (λ r. record r { fields = fields }) (n - 1) rows) m) ≡ fields_in (row rows m)
  apart fields m n rows h g = where_fields (nat_eq m 0) _ _ (λ e. fields_apart (λ r. record r { fields = fields }) (n - 1) (m - 1) rows (λ same. g (omega (arith, h, counted_from_one m e, same))))

  pub differ : (begun : List Bool) (m n : ℕ) → is_set (row begun m) ≡ false → is_set (row begun n) ≡ true → m ≡ n → ⊥
  differ begun m n e f same = false≢true (sym e ∙ ap (λ k. is_set (row begun k)) same ∙ f)

  closed_follows : (n : Option ℕ) (fields : List FieldShape) (s t : State) → OpensAt n (core s) → BegunAt n (core t) → Follows a (core s) → Follows a (core t) → Follows a (core (closed n fields t))
  closed_follows None fields s t o b f h = h
  closed_follows (Some n) fields s t o b f h =
      let change = λ (r : StructShape). record r { fields = fields } in
      let size = length_changed change (n - 1) t.tables.structures in
      record {
        sound = record {
          tags = tags_more (length t.tables.structures) (length (changed_at change (n - 1) t.tables.structures)) (omega (arith, size)) t.tags h.sound.tags;
          even = h.sound.even ∙ sym size;
          bare = λ m e. apart fields m n t.tables.structures o.0 (differ t.begun m n e b) ∙ h.sound.bare m e;
        };
        begun = h.begun;
        fields = λ m e. apart fields m n t.tables.structures o.0 (λ same. differ s.begun n m o.2 (f.begun m e) (sym same)) ∙ h.fields m e;
        more = h.more;
        added = h.added;
      }

  lines_follow : (alone : Bool) (x : Option Named) (ds : DeclShapes) (s : State) → Follows a (core s) → Follows a (core (lines_of alone x ds s).state)
      → Follows a (core (closed (opened alone true x s).number (lines_of alone x ds s).fields (lines_of alone x ds s).state))
  lines_follow alone x ds s h g =
      let o = opened alone true x s in
      let first = opens alone x s h.sound in
      closed_follows o.number (lines_of alone x ds s).fields o.state (lines_of alone x ds s).state first
      (lines_begun o.number ds (within (step (steps (tag_tokens x) (begun_at o.number o.state)))) (begun_there o.number o.state first)) (opened_keeps (Follows a) (new_follows None) named_follows alone true x s h) g

  listed_follows : (p : Pos) (x : Text) (t : Option Tag) (s : State) → Follows a (core s) → Follows a (core (listed_enumeration p x t s))
  listed_follows p x None s h = tag_follows x tag.Enumeration s tt h
  listed_follows p x (Some t) s h = h

  row_follows : (x : Text) (k : TypeOf) (s : State) → Follows a (core s) → Follows a (core (with_row x k s))
  row_follows x k s h =
      let v : VariableShape = record { name = x; kind = k; function = s.function } in
      record {
        sound = record { tags = h.sound.tags; even = h.sound.even; bare = h.sound.bare };
        begun = h.begun;
        fields = h.fields;
        more = h.more ++ v ∷ [];
        added = ap (λ vs. vs ++ v ∷ []) h.added ∙ append_assoc a.variables h.more (v ∷ []);
      }

  scope_follows : (s : State) → Follows a (core s) → Follows a (core (opened_scope s))
  scope_follows s h = record {
    sound = record { tags = (all_and_one (AreTags (length s.tables.structures)) s.tags.outer s.tags.top h.sound.tags.0 h.sound.tags.1, tt); even = h.sound.even; bare = h.sound.bare };
    begun = h.begun;
    fields = h.fields;
    more = h.more;
    added = h.added;
  }

  left_follows : (s : State) → Follows a (core s) → Follows a (core (closed_scope s))
  left_follows s h =
      let tags = h.sound.tags in
      let n = length s.tables.structures in
      record {
        sound = record { tags = (all_but_last (AreTags n) s.tags.outer tags.0, last_is (AreTags n) s.tags.outer s.tags.top tags.0 tags.1); even = h.sound.even; bare = h.sound.bare };
        begun = h.begun;
        fields = h.fields;
        more = h.more;
        added = h.added;
      }

  pub heard_follows : (quiet : Bool) (s : State) → Follows a (core s) → Follows a (core (heard quiet s))
  heard_follows quiet s h = record {
    sound = record { tags = h.sound.tags; even = h.sound.even; bare = h.sound.bare };
    begun = h.begun;
    fields = h.fields;
    more = h.more;
    added = h.added;
  }

  pub types_follow : Kept (Follows a)
  types_follow = record { opening = opened_keeps (Follows a) (new_follows None) named_follows; beginning = begun_follows; closing = lines_follow; listing = listed_follows; entering = scope_follows; leaving = left_follows; hushing = λ s t f h. heard_follows s.quiet t (f (heard_follows true s h)) }

  pub all_follow : KeptByAll (Follows a)
  all_follow = record { types = types_follow; declaring = λ x k s g h. row_follows x k s h }

  pub units_follow : KeptByUnits (Follows a)
  units_follow = record {
    all = all_follow;
    turning = λ n s h. record { sound = record { tags = h.sound.tags; even = h.sound.even; bare = h.sound.bare }; begun = h.begun; fields = h.fields; more = h.more; added = h.added };
  }
