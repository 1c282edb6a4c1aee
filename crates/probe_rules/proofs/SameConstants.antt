-- What is known of an expression before a run is known of it with its probes.
use Rattle.std.proofs.Common.{◌≡◌, ℤ, pos, Option, Some, Bool, true, false, ◌∙◌, refl, ap, ap₂}
use Rattle.std.specs.Prelude.{option_map, option_and_then, if◌then◌else◌}
use Rattle.c_base.specs.declared.place.Pos.{Pos}
use Rattle.c_base.specs.declared.place.IntKind.{IntKind}
use Rattle.c_base.specs.declared.place.IntKind.TheVariants.{Int as AnInt}
use Rattle.c_arith.specs.Arith.{wrap}
use Rattle.c_syntax.specs.declared.tree.UnaryOp.TheVariants as front
use Rattle.c_syntax.specs.Shape.{NoteShape, bare, typed, known, number, char, str, name, unary, before, size_of, plain, and, or, assign, comma, NodeShape, node, ExprShape, leaf, paren, call, prefix, size_of_type, cast, suffix, two, choose, probe, index, field, behind}
use Rattle.c_type_rules.specs.Kinds.{meet}
use Rattle.c_constants.specs.declared.constants.Constant.{Constant}
use Rattle.c_constants.specs.declared.constants.Constant.TheVariants.{No, Faulty, Known, Variable, Part, Address, Literal}
use Rattle.c_constants.specs.Constants as constants
use Rattle.c_constants.specs.Constants.{kind_of, value, given, with_one, with_two, is_zero, truth_value}
use Rattle.c_walk.specs.declared.around.Around.{Around}
use Rattle.c_walk.specs.declared.around.Taken.{Taken}
use Rattle.c_walk.specs.declared.around.Taken.TheVariants.{Read, Addressed}
use Rattle.c_walk.specs.Tests.{is_logical_form, noted_constant, cast_to}
use Rattle.c_walk.specs.Walked.{Walked, is_used, is_written, pos_of, with_block, with_test, with_site, inside_test}
use Rattle.c_walk.specs.Walking.{walk_node, walk_test, walk_arm}
use Rattle.c_meaning.specs.Constants.{constant, constant_form}
use Rattle.probe_rules.specs.Marks.{value_note, place_note, in_block, in_test, in_use, in_def}
use Rattle.probe_rules.specs.ProbedExpressions.{probed_node, probed_test, probed_arm}
use Rattle.probe_rules.proofs.Ready.{IsReady}

-- ---- constants by what they are asked for

-- of the same type, and with the same value
pub record AreAlike (a b : Constant) : Type 0 where
  pub kinds : kind_of a ≡ kind_of b
  pub values : value a ≡ value b

alike_same : {a b : Constant} → a ≡ b → AreAlike a b
alike_same e = record { kinds = ap kind_of e; values = ap value e }

alike_further : {a b c : Constant} → AreAlike a b → AreAlike b c → AreAlike a c
alike_further p q = record { kinds = p.kinds ∙ q.kinds; values = p.values ∙ q.values }

probed_alike : (a : Constant) → AreAlike (constants.probed a) a
probed_alike No = record { kinds = refl; values = refl }
probed_alike (Faulty k) = record { kinds = refl; values = refl }
probed_alike (Known k v) = record { kinds = refl; values = refl }
probed_alike Variable = record { kinds = refl; values = refl }
probed_alike Part = record { kinds = refl; values = refl }
probed_alike Address = record { kinds = refl; values = refl }
probed_alike Literal = record { kinds = refl; values = refl }

both_alike : {a b c d : Constant} → AreAlike a b → AreAlike c d → constants.both a c ≡ constants.both b d
both_alike {a} {b} {c} {d} p q =
    let f : Option IntKind → Option IntKind → Option ℤ → Option ℤ → Constant = λ i j x y. with_two i j (λ j k. given AnInt (option_and_then (λ x. if is_zero x then Some (pos 0) else option_map truth_value y) x)) in
    ap₂ (λ i j. f i j (value a) (value c)) p.kinds q.kinds ∙ ap₂ (λ x y. f (kind_of b) (kind_of d) x y) p.values q.values

either_alike : {a b c d : Constant} → AreAlike a b → AreAlike c d → constants.either a c ≡ constants.either b d
either_alike {a} {b} {c} {d} p q =
    let f : Option IntKind → Option IntKind → Option ℤ → Option ℤ → Constant = λ i j x y. with_two i j (λ j k. given AnInt (option_and_then (λ x. if is_zero x then option_map truth_value y else Some (pos 1)) x)) in
    ap₂ (λ i j. f i j (value a) (value c)) p.kinds q.kinds ∙ ap₂ (λ x y. f (kind_of b) (kind_of d) x y) p.values q.values

choice_alike : {a b c d e f : Constant} → AreAlike a b → AreAlike c d → AreAlike e f → constants.choice a c e ≡ constants.choice b d f
choice_alike {a} {b} {c} {d} {e} {f} p q r =
    let g : Option IntKind → Option ℤ → Option IntKind → Option ℤ → Option IntKind → Option ℤ → Constant = λ h x i y j z. with_one h (λ i'. with_two i j (λ j k. given (meet j k) (option_and_then (λ x. option_map (wrap (meet j k)) (if is_zero x then z else y)) x))) in
    ap₂ (λ h x. g h x (kind_of c) (value c) (kind_of e) (value e)) p.kinds p.values
    ∙ (ap₂ (λ i y. g (kind_of b) (value b) i y (kind_of e) (value e)) q.kinds q.values ∙ ap₂ (λ j z. g (kind_of b) (value b) (kind_of d) (value d) j z) r.kinds r.values)

-- ---- probes round a node

value_noted : (n : NoteShape) (c : Constant) → noted_constant (value_note n) c ≡ c
value_noted (typed t j) c = refl
value_noted (known t v) c = refl
value_noted bare c = refl

block_alike : (w : Walked) (a : NodeShape) → AreAlike (constant (in_block w a)) (constant a)
block_alike w (node p o n f) = alike_further (alike_same (value_noted n (constants.probed (constant (node p o n f))))) (probed_alike (constant (node p o n f)))

test_alike : (b : Bool) (w : Walked) (a : NodeShape) → AreAlike (constant (in_test b w a)) (constant a)
test_alike true w a = alike_same refl
test_alike false w (node p o n f) = alike_further (alike_same (value_noted n (constants.probed (constant (node p o n f))))) (probed_alike (constant (node p o n f)))

place_noted : (n : NoteShape) → noted_constant (place_note n) No ≡ noted_constant n No
place_noted (typed t j) = refl
place_noted (known t v) = refl
place_noted bare = refl

-- of a place no more is known than its note says
site_constant : (d u : Bool) (w : Walked) (p o : Pos) (n : NoteShape) (g : ExprShape) → constant_form n g ≡ No → constant (in_def d w (in_use u w (node p o n g))) ≡ noted_constant n No
site_constant true true w p o n g none = place_noted (place_note n) ∙ place_noted n
site_constant true false w p o n g none = place_noted n
site_constant false true w p o n g none = place_noted n
site_constant false false w p o n g none = ap (noted_constant n) none

-- where it is so wherever the node stands, it is so of the node as a test, and as a block
abbrev Keeps : NodeShape → Type 0
Keeps a = (c : Around) (w : Walked) → constant (probed_node c Read a w) ≡ constant a

same_test : (c : Around) (a : NodeShape) (w : Walked) → Keeps a → AreAlike (constant (probed_test c a w)) (constant a)
same_test c (node p o n f) w keeps =
    let d = inside_test c f w in
    let v = with_test p f w in
    alike_further (test_alike (is_logical_form f) w (probed_node d Read (node p o n f) v)) (alike_same (keeps d v))

same_right : (c : Around) (a : NodeShape) (w : Walked) → Keeps a → AreAlike (constant (in_block w (probed_test c a (with_block (pos_of a) w)))) (constant a)
same_right c a w keeps = alike_further (block_alike w (probed_test c a (with_block (pos_of a) w))) (same_test c a (with_block (pos_of a) w) keeps)

same_arm : (c : Around) (a : NodeShape) (w : Walked) → Keeps a → AreAlike (constant (probed_arm c a w)) (constant a)
same_arm c (node p o n f) w keeps = alike_further (block_alike w (probed_node c Read (node p o n f) (with_block p w))) (alike_same (keeps c (with_block p w)))

-- ---- constants

pub same_constant : (c : Around) (r : Taken) (a : NodeShape) (w : Walked) → IsReady r a → constant (probed_node c r a w) ≡ constant a
same_constant c r (node p o n (leaf (number x))) w clean = refl
same_constant c r (node p o n (leaf (char x))) w clean = refl
same_constant c r (node p o n (leaf (str x))) w clean = refl
same_constant c r (node p o n (leaf (name x))) w clean = site_constant (is_written r) (is_used r n) w p o n (leaf (name x)) refl
same_constant c r (node p o n (paren a)) w clean = ap (noted_constant n) (same_constant c r a w clean.1)
same_constant c r (node p o n (call x args)) w clean = refl
same_constant c r (node p o n (prefix (unary front.Deref) a)) w clean =
    site_constant (is_written r) (is_used r n) w p o n (prefix (unary front.Deref) (probed_node c Read a (with_site c r p n (prefix (unary front.Deref) a) w))) refl
same_constant c r (node p o n (prefix (unary front.AddressOf) a)) w clean = ap (λ z. noted_constant n (constants.unary front.AddressOf z)) (same_constant c Addressed a w clean.1)
same_constant c r (node p o n (prefix (unary front.Plus) a)) w clean = ap (λ z. noted_constant n (constants.unary front.Plus z)) (same_constant c Read a w clean.1)
same_constant c r (node p o n (prefix (unary front.Minus) a)) w clean = ap (λ z. noted_constant n (constants.unary front.Minus z)) (same_constant c Read a w clean.1)
same_constant c r (node p o n (prefix (unary front.Flip) a)) w clean = ap (λ z. noted_constant n (constants.unary front.Flip z)) (same_constant c Read a w clean.1)
same_constant c r (node p o n (prefix (unary front.Not) a)) w clean = ap (λ z. noted_constant n (constants.unary front.Not z)) (same_constant c Read a w clean.1)
same_constant c r (node p o n (prefix (before u) a)) w clean = refl
same_constant c r (node p o n (prefix size_of a)) w clean = refl
same_constant c r (node p o n (size_of_type y)) w clean = refl
same_constant c r (node p o n (cast y a)) w clean = ap (λ z. noted_constant n (cast_to n z)) (same_constant c Read a w clean.1)
same_constant c r (node p o n (suffix a (index b))) w clean =
    let u = with_site c r p n (suffix a (index b)) w in
    site_constant (is_written r) (is_used r n) w p o n (suffix (probed_node c Read a u) (index (probed_node c Read b (walk_node c Read a u)))) refl
same_constant c r (node p o n (suffix a (field h x q))) w clean =
    site_constant (is_written r) (is_used r n) w p o n (suffix (probed_node c Read a (with_site c r p n (suffix a (field h x q)) w)) (field h x q)) refl
same_constant c r (node p o n (suffix a (behind u))) w clean = refl
same_constant c r (node p o n (two (plain u) a b)) w clean = ap₂ (λ y z. noted_constant n (constants.binary u y z)) (same_constant c Read a w clean.1.0) (same_constant c Read b (walk_node c Read a w) clean.1.1)
same_constant c r (node p o n (two and a b)) w clean = ap (noted_constant n) (both_alike (same_test c a w (λ d v. same_constant d Read a v clean.1.0)) (same_right c b (walk_test c a w) (λ d v. same_constant d Read b v clean.1.1)))
same_constant c r (node p o n (two or a b)) w clean = ap (noted_constant n) (either_alike (same_test c a w (λ d v. same_constant d Read a v clean.1.0)) (same_right c b (walk_test c a w) (λ d v. same_constant d Read b v clean.1.1)))
same_constant c r (node p o n (two (assign u) a b)) w clean = refl
same_constant c r (node p o n (two comma a b)) w clean = refl
same_constant c r (node p o n (choose a b d)) w clean =
    ap (noted_constant n) (choice_alike (same_test c a w (λ d v. same_constant d Read a v clean.1.0)) (same_arm c b (walk_test c a w) (λ d v. same_constant d Read b v clean.1.1)) (same_arm c d (walk_arm c b (walk_test c a w)) (λ e v. same_constant e Read d v clean.1.2)))
same_constant c r (node p o n (probe u a)) w clean = absurd clean.1
