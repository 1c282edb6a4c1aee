-- Probes round a node: its type, its place, what it gives, and the probes of its sites.
use Rattle.std.proofs.Common.{◌≡◌, ℕ, ◌<◌, ◌++◌, [], ◌∷◌, Bool, true, false, ◌∙◌, refl, sym, ap, true≢false}
use Rattle.std.specs.Prelude.{if◌then◌else◌}
use Rattle.std.specs.Fmt.{decimal}
use Rattle.c_base.specs.declared.place.Pos.{Pos}
use Rattle.c_syntax.specs.declared.text.Text.{Text}
use Rattle.c_syntax.specs.Shape.{NoteShape, bare, typed, known, unary, before, size_of, plain, and, or, assign, comma, NodeShape, node, ExprShape, leaf, paren, call, prefix, size_of_type, cast, suffix, two, choose, probe, index, field, behind, simple, select, block, test, used, def, NodeShapes}
use Rattle.c_type_rules.specs.Kinds.{decay}
use Rattle.c_store.specs.declared.value.Pointer.{Pointer}
use Rattle.c_tables.specs.Tables.{TablesShape}
use Rattle.c_walk.specs.declared.around.Around.{Around}
use Rattle.c_walk.specs.declared.around.Taken.{Taken}
use Rattle.c_walk.specs.declared.around.Taken.TheVariants.{Read, Written, Changed, Copied}
use Rattle.c_walk.specs.Places.{is_place, has_scalar, has_structure, holds_structure}
use Rattle.c_walk.specs.Tests.{choosing}
use Rattle.c_walk.specs.Walked.{Walked, is_used, is_written, with_site}
use Rattle.c_walk.specs.Walking.{walk_node}
use Rattle.c_meaning.specs.State.{State}
use Rattle.c_meaning.specs.Results.{Got, then_do, needed}
use Rattle.c_meaning.specs.Operators.{is_true}
use Rattle.c_meaning.specs.Firsts.{First, quiet, heard, outcome}
use Rattle.c_walk.specs.Counted.{def_count, use_count}
use Rattle.c_meaning.specs.Places.{marks, marks_in, logs, fetched}
use Rattle.c_meaning.specs.Constants.{kind_noted, type_at, select_constants, chosen_among}
use Rattle.c_meaning.specs.Knot.{Knot}
use Rattle.c_meaning.specs.Expressions.{Meaning, as_place, gives, operand, meaning, form_meaning, log_block, log_test}
use Rattle.probe_rules.specs.Marks.{place_note, round_value, in_use, in_def}
use Rattle.c_walk.specs.Counted.{next_def, next_use}
use Rattle.probe_rules.specs.ProbedExpressions.{in_sites, sited, probed_node, probed_form}
use Rattle.probe_rules.specs.Fitting.{HasFewItems}
use Rattle.probe_rules.proofs.Ready.{IsReady}
use Rattle.probe_rules.proofs.Few.{few_before, form_before, few_written, few_changed, few_changed_use, few_copied}
use Rattle.probe_rules.proofs.Told.{as_log, with_log, sim_then, fetched_use, fetched_other}

-- ---- types

place_kind : (n : NoteShape) → kind_noted (place_note n) ≡ kind_noted n
place_kind (typed k j) = refl
place_kind (known k v) = refl
place_kind bare = refl

use_type : (b : Bool) (w : Walked) (a : NodeShape) → type_at (in_use b w a) ≡ type_at a
use_type true w (node p o n f) = place_kind n
use_type false w a = refl

def_type : (b : Bool) (w : Walked) (a : NodeShape) → type_at (in_def b w a) ≡ type_at a
def_type true w (node p o n f) = place_kind n
def_type false w a = refl

pick_type : (b : Bool) (a d : NodeShape) → type_at a ≡ type_at d → type_at (if b then a else d) ≡ type_at d
pick_type true a d e = e
pick_type false a d e = refl

pub same_type : (c : Around) (r : Taken) (a : NodeShape) (w : Walked) → type_at (probed_node c r a w) ≡ type_at a
same_type c r (node p o n f) w =
    let b = is_used r n in
    let d = node p o n (probed_form c r f (with_site c r p n f w)) in
    pick_type (is_place f) (in_sites r (is_used r n) w d) d (def_type (is_written r) w (in_use b w d) ∙ use_type b w d)

-- ---- structures

place_structure : (n : NoteShape) → has_structure (place_note n) ≡ has_structure n
place_structure (typed k j) = refl
place_structure (known k v) = refl
place_structure bare = refl

use_structure : (b : Bool) (w : Walked) (a : NodeShape) → holds_structure (in_use b w a) ≡ holds_structure a
use_structure true w (node p o n f) = place_structure n
use_structure false w a = refl

def_structure : (b : Bool) (w : Walked) (a : NodeShape) → holds_structure (in_def b w a) ≡ holds_structure a
def_structure true w (node p o n f) = place_structure n
def_structure false w a = refl

pick_structure : (b : Bool) (a d : NodeShape) → holds_structure a ≡ holds_structure d → holds_structure (if b then a else d) ≡ holds_structure d
pick_structure true a d e = e
pick_structure false a d e = refl

pub same_structure : (c : Around) (r : Taken) (a : NodeShape) (w : Walked) → holds_structure (probed_node c r a w) ≡ holds_structure a
same_structure c r (node p o n f) w =
    let b = is_used r n in
    let d = node p o n (probed_form c r f (with_site c r p n f w)) in
    pick_structure (is_place f) (in_sites r b w d) d (def_structure (is_written r) w (in_use b w d) ∙ use_structure b w d)

pub same_operand : (c : Around) (r : Taken) (a : NodeShape) (w : Walked) → operand (probed_node c r a w) ≡ operand a
same_operand c r a w = ap decay (same_type c r a w)

-- ---- places and values

module _ (t : TablesShape) (k : Knot) where
  use_place : (b : Bool) (w : Walked) (a : NodeShape) → (meaning t k (in_use b w a)).place ≡ (meaning t k a).place
  use_place true w (node p o n f) = refl
  use_place false w a = refl

  def_place : (b : Bool) (w : Walked) (a : NodeShape) → (meaning t k (in_def b w a)).place ≡ (meaning t k a).place
  def_place true w (node p o n f) = refl
  def_place false w a = refl

  pick_place : (b : Bool) (a d : NodeShape) → (meaning t k a).place ≡ (meaning t k d).place → (meaning t k (if b then a else d)).place ≡ (meaning t k d).place
  pick_place true a d e = e
  pick_place false a d e = refl

  -- a probed place is the place
  pub sited_place : (r : Taken) (p o : Pos) (n : NoteShape) (f g : ExprShape) (w : Walked) → (meaning t k (sited r p o n f g w)).place ≡ (form_meaning t k p n g).place
  sited_place r p o n f g w =
      let b = is_used r n in
      let d = node p o n g in
      pick_place (is_place f) (in_sites r (is_used r n) w d) d (def_place (is_written r) w (in_use b w d) ∙ use_place b w d)

  -- a block logs, and then its expression is evaluated
  pub block_value : (x : Text) (a : NodeShape) (i : First) (s : State) → (meaning t k (round_value (simple block x) a)).value i s ≡ logs log_block (x ∷ []) s ((meaning t k a).value i)
  block_value x (node p o n f) i s = refl

  -- a test logs what its expression comes to
  pub test_value : (x : Text) (a : NodeShape) (i : First) (s : State) → (meaning t k (round_value (simple test x) a)).value i s ≡ then_do (needed ((meaning t k a).value i s)) (λ v s. logs (log_test (outcome (is_true v))) (x ∷ []) s (gives v))
  test_value x (node p o n f) i s = refl

  -- a select logs which of its constants that is
  pub select_value : (x : Text) (cs : NodeShapes) (a : NodeShape) (i : First) (s : State) → (meaning t k (round_value (select x cs) a)).value i s ≡ then_do (needed ((meaning t k a).value i s)) (λ v s. logs (log_test (chosen_among (choosing a) v (select_constants (choosing a) cs))) (x ∷ []) s (gives v))
  select_value x cs (node p o n f) i s = refl

  -- a place that is read logs that, if it is one of a scalar
  read_of : (b : Bool) (m : ℕ) (c : Around) (w : Walked) (p o : Pos) (n : NoteShape) (g : ExprShape) (at here : Taken → First → State → Got Pointer) → has_scalar n ≡ b → form_meaning t k p n g ≡ as_place t n [] here → marks_in used g ≡ [] → ((s : State) → here Read (quiet m) (as_log s) ≡ with_log (at Read (heard c w) s)) → (has_scalar n ≡ true → use_count w.items < 16383) → (s : State) → (meaning t k (in_use b w (node p o n g))).value (quiet m) (as_log s) ≡ with_log ((as_place t n [] at).value (heard c w) s)
  read_of true m c w p o n g at here scalar is none go few s =
      ap (λ (z : Meaning). then_do (z.place Read (quiet m) (as_log s)) (fetched t (place_note n) (marks_in used g ++ decimal (next_use w) ∷ []) (quiet m))) is
      ∙ (ap (λ z. then_do (here Read (quiet m) (as_log s)) (fetched t (place_note n) (z ++ decimal (next_use w) ∷ []) (quiet m))) none
      ∙ sim_then _ _ _ _ (go s) (λ q s. fetched_use t n m c w q s scalar (few scalar)))
  read_of false m c w p o n g at here other is none go few s =
      ap (λ (z : Meaning). z.value (quiet m) (as_log s)) is ∙ sim_then _ _ _ _ (go s) (λ q s. fetched_other t n m c w q s other)

  pub read_sim : (m : ℕ) (c : Around) (w : Walked) (p o : Pos) (n : NoteShape) (g : ExprShape) (at here : Taken → First → State → Got Pointer) → form_meaning t k p n g ≡ as_place t n [] here → marks_in used g ≡ [] → ((s : State) → here Read (quiet m) (as_log s) ≡ with_log (at Read (heard c w) s)) → (has_scalar n ≡ true → use_count w.items < 16383) → (s : State) → (meaning t k (in_use (has_scalar n) w (node p o n g))).value (quiet m) (as_log s) ≡ with_log ((as_place t n [] at).value (heard c w) s)
  read_sim m c w p o n g at here is none go few s = read_of (has_scalar n) m c w p o n g at here refl is none go few s

-- ---- the probes of a site

-- a form has none itself
pub form_uses : (c : Around) (r : Taken) (f : ExprShape) (w : Walked) → is_place f ≡ true → marks_in used (probed_form c r f w) ≡ []
form_uses c r (leaf l) w place = refl
form_uses c r (paren a) w place = absurd (true≢false (sym place))
form_uses c r (call x args) w place = refl
form_uses c r (prefix (unary u) a) w place = refl
form_uses c r (prefix (before u) a) w place = refl
form_uses c r (prefix size_of a) w place = refl
form_uses c r (size_of_type y) w place = refl
form_uses c r (cast y a) w place = refl
form_uses c r (suffix a (index b)) w place = refl
form_uses c r (suffix a (field h x q)) w place = refl
form_uses c r (suffix a (behind u)) w place = refl
form_uses c r (two (assign u) a b) w place = refl
form_uses c r (two (plain u) a b) w place = refl
form_uses c r (two and a b) w place = refl
form_uses c r (two or a b) w place = refl
form_uses c r (two comma a b) w place = refl
form_uses c r (choose a b d) w place = refl
form_uses c r (probe u a) w place = absurd (true≢false (sym place))

pub form_defs : (c : Around) (r : Taken) (f : ExprShape) (w : Walked) → is_place f ≡ true → marks_in def (probed_form c r f w) ≡ []
form_defs c r (leaf l) w place = refl
form_defs c r (paren a) w place = absurd (true≢false (sym place))
form_defs c r (call x args) w place = refl
form_defs c r (prefix (unary u) a) w place = refl
form_defs c r (prefix (before u) a) w place = refl
form_defs c r (prefix size_of a) w place = refl
form_defs c r (size_of_type y) w place = refl
form_defs c r (cast y a) w place = refl
form_defs c r (suffix a (index b)) w place = refl
form_defs c r (suffix a (field h x q)) w place = refl
form_defs c r (suffix a (behind u)) w place = refl
form_defs c r (two (assign u) a b) w place = refl
form_defs c r (two (plain u) a b) w place = refl
form_defs c r (two and a b) w place = refl
form_defs c r (two or a b) w place = refl
form_defs c r (two comma a b) w place = refl
form_defs c r (choose a b d) w place = refl
form_defs c r (probe u a) w place = absurd (true≢false (sym place))

-- what is written has one definition, what is copied one use, and what is changed both
pub record IsWrittenAt (a : NodeShape) (w : Walked) : Type 0 where
  pub defs : marks def a ≡ decimal (next_def w) ∷ []
  pub few : def_count w.items < 16383

pub record IsCopiedAt (a : NodeShape) (w : Walked) : Type 0 where
  pub uses : marks used a ≡ decimal (next_use w) ∷ []
  pub few : use_count w.items < 16383

pub record IsChangedAt (a : NodeShape) (w : Walked) : Type 0 where
  pub defs : marks def a ≡ decimal (next_def w) ∷ []
  pub uses : marks used a ≡ decimal (next_use w) ∷ []
  pub few_defs : def_count w.items < 16383
  pub few_uses : use_count w.items < 16383

written_site : (c : Around) (p o : Pos) (n : NoteShape) (f : ExprShape) (w : Walked) → is_place f ≡ true → HasFewItems (walk_node c Written (node p o n f) w) → IsWrittenAt (probed_node c Written (node p o n f) w) w
written_site c p o n f w place few =
    let v = with_site c Written p n f w in
    let g = probed_form c Written f v in
    record {
      defs = ap (λ b. marks def (if b then in_sites Written false w (node p o n g) else node p o n g)) place ∙ ap (λ z. z ++ decimal (next_def w) ∷ []) (form_defs c Written f v place);
      few = few_written c p n f w place (few_before (form_before c Written f v) few);
    }

copied_site : (c : Around) (p o : Pos) (n : NoteShape) (f : ExprShape) (w : Walked) → is_place f ≡ true → has_structure n ≡ true → HasFewItems (walk_node c Copied (node p o n f) w) → IsCopiedAt (probed_node c Copied (node p o n f) w) w
copied_site c p o n f w place structure few =
    let v = with_site c Copied p n f w in
    let g = probed_form c Copied f v in
    let d = node p o n g in
    record {
      uses = ap (λ b. marks used (if b then in_sites Copied (has_structure n) w d else d)) place ∙ (ap (λ b. marks used (in_use b w d)) structure ∙ ap (λ z. z ++ decimal (next_use w) ∷ []) (form_uses c Copied f v place));
      few = few_copied c p n f w place structure (few_before (form_before c Copied f v) few);
    }

changed_site : (c : Around) (p o : Pos) (n : NoteShape) (f : ExprShape) (w : Walked) → is_place f ≡ true → has_scalar n ≡ true → HasFewItems (walk_node c Changed (node p o n f) w) → IsChangedAt (probed_node c Changed (node p o n f) w) w
changed_site c p o n f w place scalar few =
    let v = with_site c Changed p n f w in
    let g = probed_form c Changed f v in
    let d = node p o n g in
    let was = few_before (form_before c Changed f v) few in
    record {
      defs = ap (λ b. marks def (if b then in_sites Changed (has_scalar n) w d else d)) place ∙ (ap (λ b. marks def (in_def true w (in_use b w d))) scalar ∙ ap (λ z. z ++ decimal (next_def w) ∷ []) (form_defs c Changed f v place));
      uses = ap (λ b. marks used (if b then in_sites Changed (has_scalar n) w d else d)) place ∙ (ap (λ b. marks used (in_def true w (in_use b w d))) scalar ∙ ap (λ z. z ++ decimal (next_use w) ∷ []) (form_uses c Changed f v place));
      few_defs = few_changed c p n f w place was;
      few_uses = few_changed_use c p n f w place scalar was;
    }

pub written_at : (c : Around) (a : NodeShape) (w : Walked) → IsReady Written a → HasFewItems (walk_node c Written a w) → IsWrittenAt (probed_node c Written a w) w
written_at c (node p o n (paren a)) w clean few = let i = written_at c a w clean.1 few in record { defs = i.defs; few = i.few }
written_at c (node p o n (leaf l)) w clean few = written_site c p o n (leaf l) w clean.0 few
written_at c (node p o n (call x args)) w clean few = absurd (true≢false (sym clean.0))
written_at c (node p o n (prefix u a)) w clean few = written_site c p o n (prefix u a) w clean.0 few
written_at c (node p o n (size_of_type y)) w clean few = absurd (true≢false (sym clean.0))
written_at c (node p o n (cast y a)) w clean few = absurd (true≢false (sym clean.0))
written_at c (node p o n (suffix a u)) w clean few = written_site c p o n (suffix a u) w clean.0 few
written_at c (node p o n (two u a b)) w clean few = absurd (true≢false (sym clean.0))
written_at c (node p o n (choose a b d)) w clean few = absurd (true≢false (sym clean.0))
written_at c (node p o n (probe u a)) w clean few = absurd clean.1

pub copied_at : (c : Around) (a : NodeShape) (w : Walked) → IsReady Copied a → HasFewItems (walk_node c Copied a w) → IsCopiedAt (probed_node c Copied a w) w
copied_at c (node p o n (paren a)) w clean few = let i = copied_at c a w clean.1 few in record { uses = i.uses; few = i.few }
copied_at c (node p o n (leaf l)) w clean few = copied_site c p o n (leaf l) w clean.0.0 clean.0.1 few
copied_at c (node p o n (call x args)) w clean few = absurd (true≢false (sym clean.0.0))
copied_at c (node p o n (prefix u a)) w clean few = copied_site c p o n (prefix u a) w clean.0.0 clean.0.1 few
copied_at c (node p o n (size_of_type y)) w clean few = absurd (true≢false (sym clean.0.0))
copied_at c (node p o n (cast y a)) w clean few = absurd (true≢false (sym clean.0.0))
copied_at c (node p o n (suffix a u)) w clean few = copied_site c p o n (suffix a u) w clean.0.0 clean.0.1 few
copied_at c (node p o n (two u a b)) w clean few = absurd (true≢false (sym clean.0.0))
copied_at c (node p o n (choose a b d)) w clean few = absurd (true≢false (sym clean.0.0))
copied_at c (node p o n (probe u a)) w clean few = absurd clean.1

pub changed_at : (c : Around) (a : NodeShape) (w : Walked) → IsReady Changed a → HasFewItems (walk_node c Changed a w) → IsChangedAt (probed_node c Changed a w) w
changed_at c (node p o n (paren a)) w clean few = let i = changed_at c a w clean.1 few in record { defs = i.defs; uses = i.uses; few_defs = i.few_defs; few_uses = i.few_uses }
changed_at c (node p o n (leaf l)) w clean few = changed_site c p o n (leaf l) w clean.0.0 clean.0.1 few
changed_at c (node p o n (call x args)) w clean few = absurd (true≢false (sym clean.0.0))
changed_at c (node p o n (prefix u a)) w clean few = changed_site c p o n (prefix u a) w clean.0.0 clean.0.1 few
changed_at c (node p o n (size_of_type y)) w clean few = absurd (true≢false (sym clean.0.0))
changed_at c (node p o n (cast y a)) w clean few = absurd (true≢false (sym clean.0.0))
changed_at c (node p o n (suffix a u)) w clean few = changed_site c p o n (suffix a u) w clean.0.0 clean.0.1 few
changed_at c (node p o n (two u a b)) w clean few = absurd (true≢false (sym clean.0.0))
changed_at c (node p o n (choose a b d)) w clean few = absurd (true≢false (sym clean.0.0))
changed_at c (node p o n (probe u a)) w clean few = absurd clean.1

-- and a clean node has none
pub no_uses : (r : Taken) (a : NodeShape) → IsReady r a → marks used a ≡ []
no_uses r (node p o n (paren a)) clean = no_uses r a clean.1
no_uses r (node p o n (leaf l)) clean = refl
no_uses r (node p o n (call x args)) clean = refl
no_uses r (node p o n (prefix u a)) clean = refl
no_uses r (node p o n (size_of_type y)) clean = refl
no_uses r (node p o n (cast y a)) clean = refl
no_uses r (node p o n (suffix a u)) clean = refl
no_uses r (node p o n (two u a b)) clean = refl
no_uses r (node p o n (choose a b d)) clean = refl
no_uses r (node p o n (probe u a)) clean = absurd clean.1

pub no_defs : (r : Taken) (a : NodeShape) → IsReady r a → marks def a ≡ []
no_defs r (node p o n (paren a)) clean = no_defs r a clean.1
no_defs r (node p o n (leaf l)) clean = refl
no_defs r (node p o n (call x args)) clean = refl
no_defs r (node p o n (prefix u a)) clean = refl
no_defs r (node p o n (size_of_type y)) clean = refl
no_defs r (node p o n (cast y a)) clean = refl
no_defs r (node p o n (suffix a u)) clean = refl
no_defs r (node p o n (two u a b)) clean = refl
no_defs r (node p o n (choose a b d)) clean = refl
no_defs r (node p o n (probe u a)) clean = absurd clean.1
