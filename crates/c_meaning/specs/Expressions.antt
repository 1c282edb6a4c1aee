-- What expressions give (C89, 3.3), from left to right. Each but parentheses and probes takes a turn as it begins.
use Rattle.std.specs.Prelude.{ℕ, ◌+◌, nat_lt, pos, ◌++◌, List, [], ◌∷◌, length, drop, Bool, true, false, Option, Some, None, option_map, if◌then◌else◌}
use Rattle.c_base.specs.declared.place.Pos.{Pos}
use Rattle.c_base.specs.declared.place.IntKind.TheVariants.{Char}
use Rattle.c_events.specs.declared.events.Event.TheVariants.{Block, Test}
use Rattle.c_arith.specs.Arith.{wrap, truth}
use Rattle.c_syntax.specs.declared.text.Text.{Text}
use Rattle.c_syntax.specs.declared.tree.UnaryOp.TheVariants as front
use Rattle.c_syntax.specs.Shape.{TypeOf, nothing, NoteShape, typed, known, Leaf, number, char, str, name, Step, unary, before, size_of, plain, and, or, assign, comma, dot, arrow, NodeShape, node, ExprShape, leaf, paren, call, prefix, size_of_type, cast, suffix, two, choose, probe, index, field, behind, simple, select, block, test, used, def, NodeShapes, no_nodes, more_nodes}
use Rattle.c_type_rules.specs.Kinds.{decay}
use Rattle.c_constants.specs.declared.numbers.Number.{Number}
use Rattle.c_constants.specs.Numbers.{number_of}
use Rattle.c_store.specs.declared.value.Value.{Value}
use Rattle.c_store.specs.declared.value.Value.TheVariants.{Int, At}
use Rattle.c_store.specs.declared.value.Pointer.{Pointer}
use Rattle.c_tables.specs.Tables.{TablesShape}
use Rattle.c_walk.specs.declared.around.Taken.{Taken}
use Rattle.c_walk.specs.declared.around.Taken.TheVariants.{Read, Written, Changed, Copied, Addressed}
use Rattle.c_walk.specs.Places.{holds_structure}
use Rattle.c_walk.specs.Tests.{choosing}
use Rattle.c_meaning.specs.State.{tells, State, logged, activation}
use Rattle.c_meaning.specs.Results.{Got, Gives, then_do, turn, untyped, settled, needed}
use Rattle.c_meaning.specs.Operators.{converted, is_true, operated, stepped_by_one, element_pointer, of_one, target, pointed}
use Rattle.c_meaning.specs.Firsts as firsts
use Rattle.c_meaning.specs.Firsts.{First, within, at_test, behind_test, at_arm, behind_arm, noted_block, noted_test, outcome}
use Rattle.c_meaning.specs.Places.{room, first_cell, variable_place, field_place, logs, marks, loaded, stored, copied, fetched}
use Rattle.c_meaning.specs.Constants.{select_constants, chosen_among, kind_noted, type_at}
use Rattle.c_meaning.specs.Knot.{Knot}
use Rattle.c_meaning.specs.Builtins.{called, params_of, as_parameter}

-- an expression gives a value or none; and where it is a place, a pointer to it
pub record Meaning : Type 0 where
  pub value : First → State → Got (Option Value)
  pub place : Taken → First → State → Got Pointer

-- no place
abbrev pub as_value : (First → State → Got (Option Value)) → Meaning
as_value go = record { value = λ i s. turn s (go i); place = λ r i s. untyped s }

-- a place of that note, with these probes round it, whose value is fetched from it
abbrev pub as_place : TablesShape → NoteShape → List Text → (Taken → First → State → Got Pointer) → Meaning
as_place t n xs at = record { value = λ i s. then_do (at Read i s) (fetched t n xs i); place = at }

abbrev pub gives : Value → State → Got (Option Value)
gives v s = Gives (Some v) s

-- the type of an operand, in which an array is a pointer
abbrev pub operand : NodeShape → TypeOf
operand a = decay (type_at a)

-- ---- constants and names

abbrev pub number_value : Option Number → State → Got (Option Value)
number_value None s = untyped s
number_value (Some x) s = gives (Int (pos x.value)) s

abbrev pub literal_value : NoteShape → Text → State → Got (Option Value)
literal_value (typed k (Some j)) x s = if nat_lt (length x) room then gives (At (first_cell j (length x + 1))) s else untyped s
literal_value n x s = untyped s

-- an enumeration constant, and a sizeof, has its value in its note
abbrev pub noted_value : NoteShape → State → Got (Option Value)
noted_value (known k v) s = gives (Int v) s
noted_value n s = untyped s

abbrev pub name_meaning : TablesShape → NoteShape → Meaning
name_meaning t (typed k (Some v)) = as_place t (typed k (Some v)) [] (λ r i s. turn s (variable_place t k v))
name_meaning t n = as_value (λ i. noted_value n)

abbrev pub leaf_meaning : TablesShape → NoteShape → Leaf → Meaning
leaf_meaning t n (number x) = as_value (λ i. number_value (number_of x))
leaf_meaning t n (char c) = as_value (λ i. gives (Int (wrap Char (pos c))))
leaf_meaning t n (str x) = as_value (λ i. literal_value n x)
leaf_meaning t n (name x) = name_meaning t n

-- ---- parts of operators

-- what a cast makes of its operand: nothing is needed of one under a cast to void
abbrev pub cast_value : TypeOf → Got (Option Value) → Got (Option Value)
cast_value nothing r = then_do r (λ v s. Gives None s)
cast_value k r = then_do (needed r) (λ v. gives (converted k v))

-- at a test position
abbrev pub tested : NodeShape → Meaning → First → State → Got Bool
tested a m i s = then_do (needed (m.value (at_test a i) s)) (λ v s. Gives (is_true v) (noted_test a i (is_true v) s))

-- an expression that is a block: its event comes first
abbrev pub arm : {A : Type 0} → NodeShape → First → State → (First → State → Got A) → Got A
arm a i s go = go (at_arm a i) (noted_block true i s)

-- the right operand of `&&` and `||`: what it is true of is 1
abbrev pub last_test : NodeShape → Meaning → First → State → Got (Option Value)
last_test a m i s = arm a i s (λ j s. then_do (tested a m j s) (λ x. gives (Int (truth x))))

-- the value is converted to the type of what it is written to, and is then the assignment's
abbrev pub written : TypeOf → List Text → First → Pointer → Value → State → Got (Option Value)
written k xs i q v s = then_do (stored tells xs i q (converted k v) s) gives

-- the right side of `=`, and the write; or a structure's place, and its copy, which has no value
abbrev pub assigned : Bool → TypeOf → List Text → List Text → Meaning → First → First → Pointer → State → Got (Option Value)
assigned true k ds us m i j q s = then_do (m.place Copied j s) (copied ds us i j q)
assigned false k ds us m i j q s = then_do (needed (m.value j s)) (λ v. written k ds i q v)

-- the value before a step, or the one behind it
abbrev pub stepped_from : Bool → Value → Option Value → State → Got (Option Value)
stepped_from true x v s = Gives v s
stepped_from false x v s = gives x s

-- ++ and --, in front of their operand or behind it: the place is found once
abbrev pub step_value : Bool → Step → NodeShape → Meaning → First → State → Got (Option Value)
step_value front u a m i s =
    then_do (m.place Changed i s) (λ q s.
    then_do (loaded (marks used a) i q s) (λ x s.
    then_do (settled (stepped_by_one u (operand a) x) s) (λ v s.
    then_do (written (type_at a) (marks def a) i q v s) (stepped_from front x))))

-- ---- probes

abbrev pub log_block : ℕ → State → State
log_block k s = logged (Block k) s

abbrev pub log_test : ℕ → ℕ → State → State
log_test o k s = logged (Test k o (activation s)) s

-- ---- expressions

abbrev mutual
  pub meaning : TablesShape → Knot → NodeShape → Meaning
  meaning t k (node p o n f) = form_meaning t k p n f

  pub form_meaning : TablesShape → Knot → Pos → NoteShape → ExprShape → Meaning
  form_meaning t k p n (leaf l) = leaf_meaning t n l
  form_meaning t k p n (paren a) = meaning t k a
  form_meaning t k p n (call x args) = as_value (λ i s. then_do (arguments t k args (params_of t n) i s) (called t k n))
  form_meaning t k p n (prefix (unary front.AddressOf) a) = as_value (λ i s. then_do ((meaning t k a).place Addressed i s) (λ q. gives (At q)))
  form_meaning t k p n (prefix (unary front.Deref) a) = as_place t n [] (λ r i s. turn s (λ s.
      then_do (needed ((meaning t k a).value (within r p n (prefix (unary front.Deref) a) i) s)) (λ v s. settled (target v) s)))
  form_meaning t k p n (prefix (unary u) a) = as_value (λ i s.
      then_do (needed ((meaning t k a).value i s)) (λ v s. then_do (settled (of_one u (operand a) v) s) gives))
  form_meaning t k p n (prefix (before u) a) = as_value (step_value true u a (meaning t k a))
  form_meaning t k p n (prefix size_of a) = as_value (λ i. noted_value n)
  form_meaning t k p n (size_of_type y) = as_value (λ i. noted_value n)
  form_meaning t k p n (cast y a) = as_value (λ i s. cast_value (kind_noted n) ((meaning t k a).value i s))
  form_meaning t k p n (suffix a (index b)) = as_place t n [] (λ r i s. turn s (λ s.
      let j = within r p n (suffix a (index b)) i in
      then_do (needed ((meaning t k a).value j s)) (λ v s.
      then_do (needed ((meaning t k b).value (firsts.behind Read a j) s)) (λ w s.
      then_do (settled (element_pointer (operand a) (operand b) v w) s) (λ v s. settled (target v) s)))))
  form_meaning t k p n (suffix a (field dot x q)) = as_place t n [] (λ r i s. turn s (λ s.
      then_do ((meaning t k a).place Read (within r p n (suffix a (field dot x q)) i) s) (field_place t x (type_at a))))
  form_meaning t k p n (suffix a (field arrow x q)) = as_place t n [] (λ r i s. turn s (λ s.
      then_do (needed ((meaning t k a).value (within r p n (suffix a (field arrow x q)) i) s)) (λ v s.
      then_do (settled (target v) s) (field_place t x (pointed (operand a))))))
  form_meaning t k p n (suffix a (behind u)) = as_value (step_value false u a (meaning t k a))
  form_meaning t k p n (two (plain u) a b) = as_value (λ i s.
      then_do (needed ((meaning t k a).value i s)) (λ v s.
      then_do (needed ((meaning t k b).value (firsts.behind Read a i) s)) (λ w s.
      then_do (settled (operated u (operand a) (operand b) v w) s) gives)))
  form_meaning t k p n (two and a b) = as_value (λ i s.
      then_do (tested a (meaning t k a) i s) (λ x s. if x then last_test b (meaning t k b) (behind_test a i) s else gives (Int (pos 0)) s))
  form_meaning t k p n (two or a b) = as_value (λ i s.
      then_do (tested a (meaning t k a) i s) (λ x s. if x then gives (Int (pos 1)) s else last_test b (meaning t k b) (behind_test a i) s))
  form_meaning t k p n (two (assign None) a b) = as_value (λ i s.
      then_do ((meaning t k a).place Written i s) (assigned (holds_structure a) (type_at a) (marks def a) (marks used b) (meaning t k b) i (firsts.behind Written a i)))
  form_meaning t k p n (two (assign (Some u)) a b) = as_value (λ i s.
      then_do ((meaning t k a).place Changed i s) (λ q s.
      then_do (loaded (marks used a) i q s) (λ x s.
      then_do (needed ((meaning t k b).value (firsts.behind Changed a i) s)) (λ y s.
      then_do (settled (operated u (operand a) (operand b) x y) s) (λ v. written (type_at a) (marks def a) i q v)))))
  -- a comma is the place that its right side is
  form_meaning t k p n (two comma a b) = record {
    value = λ i s. turn s (λ s. then_do ((meaning t k a).value i s) (λ v. (meaning t k b).value (firsts.behind Read a i)));
    place = λ r i s. turn s (λ s. then_do ((meaning t k a).value i s) (λ v. (meaning t k b).place Read (firsts.behind Read a i)));
  }
  form_meaning t k p n (choose a b c) = as_value (λ i s.
      then_do (tested a (meaning t k a) i s) (λ x s.
      then_do (if x then arm b (behind_test a i) s (meaning t k b).value else arm c (behind_arm b (behind_test a i)) s (meaning t k c).value) (λ v. Gives (option_map (converted (kind_noted n)) v))))
  form_meaning t k p n (probe (simple block x) a) = record {
    value = λ i s. logs log_block (x ∷ []) s ((meaning t k a).value i);
    place = λ r i s. logs log_block (x ∷ []) s ((meaning t k a).place r i);
  }
  form_meaning t k p n (probe (simple test x) a) = record {
    value = λ i s. then_do (needed ((meaning t k a).value i s)) (λ v s. logs (log_test (outcome (is_true v))) (x ∷ []) s (gives v));
    place = λ r i s. untyped s;
  }
  form_meaning t k p n (probe (simple used x) a) = as_place t n (marks used a ++ x ∷ []) (meaning t k a).place
  form_meaning t k p n (probe (simple def x) a) = as_place t n (marks used a) (meaning t k a).place
  form_meaning t k p n (probe (select x cs) a) = record {
    value = λ i s. then_do (needed ((meaning t k a).value i s)) (λ v s. logs (log_test (chosen_among (choosing a) v (select_constants (choosing a) cs))) (x ∷ []) s (gives v));
    place = λ r i s. untyped s;
  }

  -- each is converted to the type of its parameter
  pub arguments : TablesShape → Knot → NodeShapes → List TypeOf → First → State → Got (List Value)
  arguments t k no_nodes ts i s = Gives [] s
  arguments t k (more_nodes a rest) ts i s =
      then_do (needed ((meaning t k a).value i s)) (λ v s.
      then_do (arguments t k rest (drop 1 ts) (firsts.behind Read a i) s) (λ vs. Gives (as_parameter ts v ∷ vs)))
