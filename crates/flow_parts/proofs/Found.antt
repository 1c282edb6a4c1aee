-- Items by their numbers, and that a direct place begins with its variable's own name.
use Rattle.std.proofs.Common.{ℕ, suc, ◌++◌, ◌≡◌, List, [], ◌∷◌, refl, sym, ap, ◌∙◌, Option, Some, None, Bool, true, false}
use Rattle.std.specs.Prelude.{if◌then◌else◌}
use Rattle.c_base.specs.declared.place.Pos.{Pos}
use Rattle.c_syntax.specs.declared.text.Text.{Text}
use Rattle.c_syntax.specs.Shape.{NoteShape, bare, typed, known, number, char, str, name, dot, arrow, NodeShape, node, ExprShape, leaf, paren, call, prefix, size_of_type, cast, suffix, two, choose, probe, index, field, behind}
use Rattle.c_tables.specs.Tables.{VariableShape}
use Rattle.c_tables.specs.Rows.{row}
use Rattle.c_walk.specs.Items.{Direct, Item, block, decision, def, used}
use Rattle.c_walk.specs.Places.{has_array, direct, direct_form, with_part, element_text, field_text}
use Rattle.c_walk.specs.Counted.{def_count, use_count}
use Rattle.flow_leaves.specs.Standing.{root_of, form_root}
use Rattle.flow_parts.specs.Items.{def_at, use_at}
use Rattle.flow_owned.specs.Own.{name_in, IsOwnNode, HasOwnNames}

-- ---- items

pub def_there : (xs : List Item) (p : Pos) (f : ℕ) (d : Option Direct) (rest : List Item) → def_at (suc (def_count xs)) (xs ++ def p f d ∷ rest) ≡ d
def_there [] p f d rest = refl
def_there (block q ∷ xs) p f d rest = def_there xs p f d rest
def_there (decision q o ∷ xs) p f d rest = def_there xs p f d rest
def_there (used q g c k ∷ xs) p f d rest = def_there xs p f d rest
def_there (def q g c ∷ xs) p f d rest = def_there xs p f d rest

pub use_there : (xs : List Item) (p : Pos) (f : ℕ) (d : Option Direct) (o : Option ℕ) (rest : List Item) → use_at (suc (use_count xs)) (xs ++ used p f d o ∷ rest) ≡ d
use_there [] p f d o rest = refl
use_there (block q ∷ xs) p f d o rest = use_there xs p f d o rest
use_there (decision q k ∷ xs) p f d o rest = use_there xs p f d o rest
use_there (def q g c ∷ xs) p f d o rest = use_there xs p f d o rest
use_there (used q g c k ∷ xs) p f d o rest = use_there xs p f d o rest

pub use_past : (xs : List Item) (p : Pos) (f : ℕ) (d : Option Direct) → use_count (xs ++ def p f d ∷ []) ≡ use_count xs
use_past [] p f d = refl
use_past (block q ∷ xs) p f d = use_past xs p f d
use_past (decision q k ∷ xs) p f d = use_past xs p f d
use_past (def q g c ∷ xs) p f d = use_past xs p f d
use_past (used q g c k ∷ xs) p f d = ap suc (use_past xs p f d)

-- ---- names

abbrev pub variable_in : Option Direct → ℕ
variable_in None = 0
variable_in (Some d) = d.variable

pub some_direct : (d : Direct) → None ≡ Some d → ⊥
some_direct d e = cc

-- a part of a direct place is in the same variable
part_back : (x : Text) (n : NoteShape) (o : Option Direct) (d : Direct) → with_part x n o ≡ Some d → (c : Direct) × (o ≡ Some c) × (c.variable ≡ d.variable)
part_back x (typed t m) None d e = absurd (some_direct d e)
part_back x (typed t m) (Some c) d e = (c, refl, ap variable_in e)
part_back x (known t v) o d e = absurd (some_direct d e)
part_back x bare o d e = absurd (some_direct d e)

module _ (R : List VariableShape) where
  -- the variable of the place has that name
  abbrev Begins : Option Direct → Text → Type 0
  Begins o x = (d : Direct) → o ≡ Some d → name_in (row R d.variable) ≡ x

  part_begins : (x y : Text) (n : NoteShape) (o : Option Direct) → Begins o y → Begins (with_part x n o) y
  part_begins x y n o h d e =
      let b = part_back x n o d e in
      ap (λ (z : ℕ). name_in (row R z)) (sym b.2) ∙ h b.0 b.1

  either_begins : (p q : Bool) (a b : Option Direct) (x y : Text) → Begins a x → Begins b y → Begins (if p then a else if q then b else None) (if p then x else y)
  either_begins true q a b x y h k = h
  either_begins false true a b x y h k = k
  either_begins false false a b x y h k = λ d e. absurd (some_direct d e)

  mutual
    pub root_own : (a : NodeShape) → IsOwnNode R a → Begins (direct a) (root_of a)
    root_own (node p o n f) g d e = form_own n f g d e

    form_own : (n : NoteShape) (f : ExprShape) → HasOwnNames R n f → Begins (direct_form n f) (form_root f)
    form_own (typed t (Some m)) (leaf (name x)) g d e = ap (λ (z : ℕ). name_in (row R z)) (sym (ap variable_in e)) ∙ g
    form_own (typed t None) (leaf (name x)) g d e = absurd (some_direct d e)
    form_own (known t v) (leaf (name x)) g d e = absurd (some_direct d e)
    form_own bare (leaf (name x)) g d e = absurd (some_direct d e)
    form_own n (paren a) g d e = root_own a g d e
    form_own n (suffix a (field dot x q)) g d e = part_begins (field_text x) (root_of a) n (direct a) (λ c h. root_own a g c h) d e
    form_own n (suffix a (index b)) g d e =
        part_begins element_text (if has_array a then root_of a else root_of b) n (if has_array a then direct a else if has_array b then direct b else None)
        (either_begins (has_array a) (has_array b) (direct a) (direct b) (root_of a) (root_of b) (λ c h. root_own a g.0 c h) (λ c h. root_own b g.1 c h)) d e
    form_own n (suffix a (field arrow x q)) g d e = absurd (some_direct d e)
    form_own n (suffix a (behind u)) g d e = absurd (some_direct d e)
    form_own n (leaf (number x)) g d e = absurd (some_direct d e)
    form_own n (leaf (char x)) g d e = absurd (some_direct d e)
    form_own n (leaf (str x)) g d e = absurd (some_direct d e)
    form_own n (call x args) g d e = absurd (some_direct d e)
    form_own n (prefix u a) g d e = absurd (some_direct d e)
    form_own n (size_of_type y) g d e = absurd (some_direct d e)
    form_own n (cast y a) g d e = absurd (some_direct d e)
    form_own n (two u a b) g d e = absurd (some_direct d e)
    form_own n (choose a b c) g d e = absurd (some_direct d e)
    form_own n (probe u a) g d e = absurd (some_direct d e)
