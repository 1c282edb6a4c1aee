-- What an initialiser gives before a run, it gives with its probes.
use Rattle.std.proofs.Common.{◌≡◌, ℕ, List, [], ◌∷◌, Option, Bool, true, false, ◌∙◌, refl, ap, ap₂}
use Rattle.std.specs.Prelude.{option_map, if◌then◌else◌}
use Rattle.c_base.specs.declared.place.Pos.{Pos}
use Rattle.c_syntax.specs.declared.text.Text.{Text}
use Rattle.c_syntax.specs.declared.tree.UnaryOp.TheVariants as front
use Rattle.c_syntax.specs.Shape.{TypeOf, int, pointer, array, structure, nothing, NoteShape, bare, typed, known, number, char, str, name, unary, before, size_of, plain, and, or, assign, comma, dot, arrow, NodeShape, node, ExprShape, leaf, paren, call, prefix, size_of_type, cast, suffix, two, choose, probe, index, field, behind}
use Rattle.c_store.specs.declared.value.Value.{Value}
use Rattle.c_store.specs.declared.value.Value.TheVariants.{At}
use Rattle.c_tables.specs.Tables.{TablesShape}
use Rattle.c_walk.specs.declared.around.Around.{Around}
use Rattle.c_walk.specs.declared.around.Taken.{Taken}
use Rattle.c_walk.specs.declared.around.Taken.TheVariants.{Read, Addressed}
use Rattle.c_walk.specs.Places.{is_place, has_scalar, has_array}
use Rattle.c_walk.specs.Walked.{Walked, is_used, is_written, with_site}
use Rattle.c_walk.specs.Walking.{walk_node}
use Rattle.c_meaning.specs.State.{Bound}
use Rattle.c_meaning.specs.Layout.{part_in}
use Rattle.c_meaning.specs.Operators.{converted}
use Rattle.c_meaning.specs.Constants.{constant, type_at, element_in, field_in, place_in, integer_in, value_in, one_cells}
use Rattle.probe_rules.specs.Marks.{place_note, in_use, in_def}
use Rattle.probe_rules.specs.ProbedExpressions.{in_sites, probed_node, probed_form}
use Rattle.probe_rules.proofs.Ready.{IsReady}
use Rattle.probe_rules.proofs.Rounds.{same_type}
use Rattle.probe_rules.proofs.SameConstants.{same_constant}

-- ---- arrays

place_array : (p o : Pos) (n : NoteShape) (f g : ExprShape) → has_array (node p o (place_note n) f) ≡ has_array (node p o n g)
place_array p o (typed k j) f g = refl
place_array p o (known k v) f g = refl
place_array p o bare f g = refl

same_array_of : (p o : Pos) (n : NoteShape) (f g : ExprShape) → has_array (node p o n f) ≡ has_array (node p o n g)
same_array_of p o (typed k j) f g = refl
same_array_of p o (known k v) f g = refl
same_array_of p o bare f g = refl

use_array : (b : Bool) (w : Walked) (a : NodeShape) → has_array (in_use b w a) ≡ has_array a
use_array true w (node p o n f) = place_array p o n _ f
use_array false w a = refl

def_array : (b : Bool) (w : Walked) (a : NodeShape) → has_array (in_def b w a) ≡ has_array a
def_array true w (node p o n f) = place_array p o n _ f
def_array false w a = refl

pick_array : (b : Bool) (a d : NodeShape) → has_array a ≡ has_array d → has_array (if b then a else d) ≡ has_array d
pick_array true a d e = e
pick_array false a d e = refl

pub same_array : (c : Around) (r : Taken) (a : NodeShape) (w : Walked) → has_array (probed_node c r a w) ≡ has_array a
same_array c r (node p o n f) w =
    let b = is_used r n in
    let g = probed_form c r f (with_site c r p n f w) in
    let d = node p o n g in
    pick_array (is_place f) (in_sites r (is_used r n) w d) d (def_array (is_written r) w (in_use b w d) ∙ use_array b w d) ∙ same_array_of p o n g f

-- ---- places

module _ (t : TablesShape) (bs : List Bound) where
  use_in : (b : Bool) (w : Walked) (a : NodeShape) → place_in t bs (in_use b w a) ≡ place_in t bs a
  use_in true w (node p o n f) = refl
  use_in false w a = refl

  def_in : (b : Bool) (w : Walked) (a : NodeShape) → place_in t bs (in_def b w a) ≡ place_in t bs a
  def_in true w (node p o n f) = refl
  def_in false w a = refl

  sites_in : (r : Taken) (b : Bool) (w : Walked) (a : NodeShape) → place_in t bs (in_sites r b w a) ≡ place_in t bs a
  sites_in r b w a = def_in (is_written r) w (in_use b w a) ∙ use_in b w a

  pub same_place : (c : Around) (r : Taken) (a : NodeShape) (w : Walked) → IsReady r a → place_in t bs (probed_node c r a w) ≡ place_in t bs a
  same_place c r (node p o n (leaf (number x))) w clean = refl
  same_place c r (node p o n (leaf (char x))) w clean = refl
  same_place c r (node p o n (leaf (str x))) w clean = refl
  same_place c r (node p o n (leaf (name x))) w clean = sites_in r (is_used r n) w (node p o n (leaf (name x)))
  same_place c r (node p o n (paren a)) w clean = same_place c r a w clean.1
  same_place c r (node p o n (call x args)) w clean = refl
  same_place c r (node p o n (prefix (unary front.Deref) a)) w clean = sites_in r (is_used r n) w _
  same_place c r (node p o n (prefix (unary front.AddressOf) a)) w clean = refl
  same_place c r (node p o n (prefix (unary front.Plus) a)) w clean = refl
  same_place c r (node p o n (prefix (unary front.Minus) a)) w clean = refl
  same_place c r (node p o n (prefix (unary front.Flip) a)) w clean = refl
  same_place c r (node p o n (prefix (unary front.Not) a)) w clean = refl
  same_place c r (node p o n (prefix (before u) a)) w clean = refl
  same_place c r (node p o n (prefix size_of a)) w clean = refl
  same_place c r (node p o n (size_of_type y)) w clean = refl
  same_place c r (node p o n (cast y a)) w clean = refl
  same_place c r (node p o n (suffix a (index d))) w clean =
      let u = with_site c r p n (suffix a (index d)) w in
      let v = walk_node c Read a u in
      let x = probed_node c Read a u in
      let y = probed_node c Read d v in
      sites_in r (is_used r n) w (node p o n (suffix x (index y)))
      ∙ (ap₂ (λ b i. if b then element_in t (type_at x) i (place_in t bs x) else element_in t (type_at y) (constant x) (place_in t bs y)) (same_array c Read a u) (same_constant c Read d v clean.1.1)
      ∙ (ap₂ (λ j q. if has_array a then element_in t j (constant d) q else element_in t (type_at y) (constant x) (place_in t bs y)) (same_type c Read a u) (same_place c Read a u clean.1.0)
      ∙ (ap₂ (λ j i. if has_array a then element_in t (type_at a) (constant d) (place_in t bs a) else element_in t j i (place_in t bs y)) (same_type c Read d v) (same_constant c Read a u clean.1.0)
      ∙ ap (λ q. if has_array a then element_in t (type_at a) (constant d) (place_in t bs a) else element_in t (type_at d) (constant a) q) (same_place c Read d v clean.1.1))))
  same_place c r (node p o n (suffix a (field dot x q))) w clean =
      let u = with_site c r p n (suffix a (field dot x q)) w in
      sites_in r (is_used r n) w (node p o n (suffix (probed_node c Read a u) (field dot x q)))
      ∙ ap₂ (λ j z. field_in t (part_in t x j) z) (same_type c Read a u) (same_place c Read a u clean.1)
  same_place c r (node p o n (suffix a (field arrow x q))) w clean = sites_in r (is_used r n) w _
  same_place c r (node p o n (suffix a (behind u))) w clean = refl
  same_place c r (node p o n (two (plain u) a d)) w clean = refl
  same_place c r (node p o n (two and a d)) w clean = refl
  same_place c r (node p o n (two or a d)) w clean = refl
  same_place c r (node p o n (two (assign u) a d)) w clean = refl
  same_place c r (node p o n (two comma a d)) w clean = refl
  same_place c r (node p o n (choose a d e)) w clean = refl
  same_place c r (node p o n (probe u a)) w clean = absurd clean.1

  -- ---- values

  -- a place that is read has the value that is known of it
  read_in : (b : Bool) (w : Walked) (p o : Pos) (n : NoteShape) (g : ExprShape) → value_in t bs (node p o n g) ≡ integer_in (constant (node p o n g)) → value_in t bs (in_use b w (node p o n g)) ≡ integer_in (constant (in_use b w (node p o n g)))
  read_in true w p o n g is = refl
  read_in false w p o n g is = is

  name_in : (w : Walked) (p o : Pos) (n : NoteShape) (x : Text) → value_in t bs (in_use (has_scalar n) w (node p o n (leaf (name x)))) ≡ value_in t bs (node p o n (leaf (name x)))
  name_in w p o (typed (int k) j) x = refl
  name_in w p o (typed (pointer k) j) x = refl
  name_in w p o (typed (array k m) j) x = refl
  name_in w p o (typed (structure m) j) x = refl
  name_in w p o (typed nothing j) x = refl
  name_in w p o (known k v) x = refl
  name_in w p o bare x = refl

  pub same_value : (c : Around) (a : NodeShape) (w : Walked) → IsReady Read a → value_in t bs (probed_node c Read a w) ≡ value_in t bs a
  same_value c (node p o n (leaf (number x))) w clean = refl
  same_value c (node p o n (leaf (char x))) w clean = refl
  same_value c (node p o n (leaf (str x))) w clean = refl
  same_value c (node p o n (leaf (name x))) w clean = name_in w p o n x
  same_value c (node p o n (paren a)) w clean = same_value c a w clean.1
  same_value c (node p o n (call x args)) w clean = refl
  same_value c (node p o n (prefix (unary front.AddressOf) a)) w clean = ap (option_map At) (same_place c Addressed a w clean.1)
  same_value c (node p o n (prefix (unary front.Deref) a)) w clean = read_in (has_scalar n) w p o n _ refl ∙ ap integer_in (same_constant c Read (node p o n (prefix (unary front.Deref) a)) w clean)
  same_value c (node p o n (prefix (unary front.Plus) a)) w clean = ap integer_in (same_constant c Read (node p o n (prefix (unary front.Plus) a)) w clean)
  same_value c (node p o n (prefix (unary front.Minus) a)) w clean = ap integer_in (same_constant c Read (node p o n (prefix (unary front.Minus) a)) w clean)
  same_value c (node p o n (prefix (unary front.Flip) a)) w clean = ap integer_in (same_constant c Read (node p o n (prefix (unary front.Flip) a)) w clean)
  same_value c (node p o n (prefix (unary front.Not) a)) w clean = ap integer_in (same_constant c Read (node p o n (prefix (unary front.Not) a)) w clean)
  same_value c (node p o n (prefix (before u) a)) w clean = refl
  same_value c (node p o n (prefix size_of a)) w clean = refl
  same_value c (node p o n (size_of_type y)) w clean = refl
  same_value c (node p o n (cast y a)) w clean = ap integer_in (same_constant c Read (node p o n (cast y a)) w clean)
  same_value c (node p o n (suffix a (index b))) w clean = read_in (has_scalar n) w p o n _ refl ∙ ap integer_in (same_constant c Read (node p o n (suffix a (index b))) w clean)
  same_value c (node p o n (suffix a (field h x q))) w clean = read_in (has_scalar n) w p o n _ refl ∙ ap integer_in (same_constant c Read (node p o n (suffix a (field h x q))) w clean)
  same_value c (node p o n (suffix a (behind u))) w clean = refl
  same_value c (node p o n (two (plain u) a b)) w clean = ap integer_in (same_constant c Read (node p o n (two (plain u) a b)) w clean)
  same_value c (node p o n (two and a b)) w clean = ap integer_in (same_constant c Read (node p o n (two and a b)) w clean)
  same_value c (node p o n (two or a b)) w clean = ap integer_in (same_constant c Read (node p o n (two or a b)) w clean)
  same_value c (node p o n (two (assign u) a b)) w clean = refl
  same_value c (node p o n (two comma a b)) w clean = refl
  same_value c (node p o n (choose a b d)) w clean = ap integer_in (same_constant c Read (node p o n (choose a b d)) w clean)
  same_value c (node p o n (probe u a)) w clean = absurd clean.1

  -- ---- cells of an array

  abbrev cells_as : TypeOf → NodeShape → List (Option Value)
  cells_as k a = option_map (converted k) (value_in t bs a) ∷ []

  use_cells : (k : TypeOf) (m : ℕ) (b : Bool) (w : Walked) (p o : Pos) (n : NoteShape) (g : ExprShape) → one_cells t bs (array k m) (node p o n g) ≡ cells_as (array k m) (node p o n g) → one_cells t bs (array k m) (in_use b w (node p o n g)) ≡ cells_as (array k m) (in_use b w (node p o n g))
  use_cells k m true w p o n g is = refl
  use_cells k m false w p o n g is = is

  same_all : (k : TypeOf) (m : ℕ) {x y : Option Value} → x ≡ y → (option_map (converted (array k m)) x ∷ []) ≡ (option_map (converted (array k m)) y ∷ [])
  same_all k m e = ap (λ z. option_map (converted (array k m)) z ∷ []) e

  pub same_cells : (k : TypeOf) (m : ℕ) (c : Around) (a : NodeShape) (w : Walked) → IsReady Read a → one_cells t bs (array k m) (probed_node c Read a w) ≡ one_cells t bs (array k m) a
  same_cells k m c (node p o n (leaf (number x))) w clean = refl
  same_cells k m c (node p o n (leaf (char x))) w clean = refl
  same_cells k m c (node p o n (leaf (str x))) w clean = refl
  same_cells k m c (node p o n (leaf (name x))) w clean = use_cells k m (has_scalar n) w p o n _ refl ∙ same_all k m (same_value c (node p o n (leaf (name x))) w clean)
  same_cells k m c (node p o n (paren a)) w clean = same_all k m (same_value c (node p o n (paren a)) w clean)
  same_cells k m c (node p o n (call x args)) w clean = refl
  same_cells k m c (node p o n (prefix (unary front.Deref) a)) w clean = use_cells k m (has_scalar n) w p o n _ refl ∙ same_all k m (same_value c (node p o n (prefix (unary front.Deref) a)) w clean)
  same_cells k m c (node p o n (prefix (unary front.AddressOf) a)) w clean = same_all k m (same_value c (node p o n (prefix (unary front.AddressOf) a)) w clean)
  same_cells k m c (node p o n (prefix (unary front.Plus) a)) w clean = same_all k m (same_value c (node p o n (prefix (unary front.Plus) a)) w clean)
  same_cells k m c (node p o n (prefix (unary front.Minus) a)) w clean = same_all k m (same_value c (node p o n (prefix (unary front.Minus) a)) w clean)
  same_cells k m c (node p o n (prefix (unary front.Flip) a)) w clean = same_all k m (same_value c (node p o n (prefix (unary front.Flip) a)) w clean)
  same_cells k m c (node p o n (prefix (unary front.Not) a)) w clean = same_all k m (same_value c (node p o n (prefix (unary front.Not) a)) w clean)
  same_cells k m c (node p o n (prefix (before u) a)) w clean = refl
  same_cells k m c (node p o n (prefix size_of a)) w clean = refl
  same_cells k m c (node p o n (size_of_type y)) w clean = refl
  same_cells k m c (node p o n (cast y a)) w clean = same_all k m (same_value c (node p o n (cast y a)) w clean)
  same_cells k m c (node p o n (suffix a (index b))) w clean = use_cells k m (has_scalar n) w p o n _ refl ∙ same_all k m (same_value c (node p o n (suffix a (index b))) w clean)
  same_cells k m c (node p o n (suffix a (field h x q))) w clean = use_cells k m (has_scalar n) w p o n _ refl ∙ same_all k m (same_value c (node p o n (suffix a (field h x q))) w clean)
  same_cells k m c (node p o n (suffix a (behind u))) w clean = refl
  same_cells k m c (node p o n (two (plain u) a b)) w clean = same_all k m (same_value c (node p o n (two (plain u) a b)) w clean)
  same_cells k m c (node p o n (two and a b)) w clean = same_all k m (same_value c (node p o n (two and a b)) w clean)
  same_cells k m c (node p o n (two or a b)) w clean = same_all k m (same_value c (node p o n (two or a b)) w clean)
  same_cells k m c (node p o n (two (assign u) a b)) w clean = same_all k m (same_value c (node p o n (two (assign u) a b)) w clean)
  same_cells k m c (node p o n (two comma a b)) w clean = same_all k m (same_value c (node p o n (two comma a b)) w clean)
  same_cells k m c (node p o n (choose a b d)) w clean = same_all k m (same_value c (node p o n (choose a b d)) w clean)
  same_cells k m c (node p o n (probe u a)) w clean = absurd clean.1
