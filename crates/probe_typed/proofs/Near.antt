-- Sorts that are near come to the same as tests, as operands of `&&` and `||`, and as the operands of `?:`.
use Rattle.std.proofs.Common.{◌≡◌, ℕ, ℤ, pos, Option, Some, None, Bool, true, false, ◌∙◌, refl, sym, ap, ap₂, subst}
use Rattle.std.specs.Prelude.{option_map, option_and_then, if◌then◌else◌}
use Rattle.c_base.specs.declared.place.Pos.{Pos}
use Rattle.c_base.specs.declared.place.IntKind.{IntKind}
use Rattle.c_base.specs.declared.place.IntKind.TheVariants.{Int as AnInt}
use Rattle.c_arith.specs.Arith.{wrap}
use Rattle.c_syntax.specs.Shape.{TypeOf, int, pointer, array, structure, nothing}
use Rattle.c_type_rules.specs.Kinds.{decay, meet}
use Rattle.c_type_rules.specs.Verdicts.{on, equality_type, branches_type, truth_type, logical_type, conditional_type}
use Rattle.c_constants.specs.declared.constants.Constant.{Constant}
use Rattle.c_constants.specs.declared.constants.Constant.TheVariants.{No, Faulty, Known, Variable, Part, Address, Literal}
use Rattle.c_constants.specs.Constants as constants
use Rattle.c_constants.specs.Constants.{kind_of, value, given, with_one, with_two, is_zero, truth_value}
use Rattle.c_tree.specs.State.{State}
use Rattle.c_tree.specs.Rulings.{by, rule, kind_at}
use Rattle.c_tree.specs.Sorts.{Sort, a_value, plainly, null, TypedNode, pos_in}
use Rattle.c_tree.specs.Operators.{typed_and, typed_or, typed_choice, choice_rule}
use Rattle.c_tree.specs.Stating.{tested}
use Rattle.c_walk.specs.Walked.{Walked}
use Rattle.probe_rules.proofs.Moved.{AlikeOutcome, rule_alike, ruled_alike}
use Rattle.probe_rules.proofs.Claims.{seen_at}
use Rattle.probe_rules.proofs.SameConstants.{AreAlike}
use Rattle.probe_typed.specs.Typed.{Follows, IsNear}

pub three : {A B C D : Type 0} (k : A → B → C → D) {a b : A} {c d : B} {e f : C} → a ≡ b → c ≡ d → e ≡ f → k a c e ≡ k b d f
three k {a} {b} {c} {d} {e} {f} p q r = ap (λ x. k x c e) p ∙ ap₂ (k b) q r

-- ---- constants

probed_alike : (a : Constant) → AreAlike (constants.probed a) a
probed_alike No = record { kinds = refl; values = refl }
probed_alike (Faulty k) = record { kinds = refl; values = refl }
probed_alike (Known k v) = record { kinds = refl; values = refl }
probed_alike Variable = record { kinds = refl; values = refl }
probed_alike Part = record { kinds = refl; values = refl }
probed_alike Address = record { kinds = refl; values = refl }
probed_alike Literal = record { kinds = refl; values = refl }

both_near : {a b c d : Constant} → AreAlike a b → AreAlike c d → constants.both a c ≡ constants.both b d
both_near {a} {b} {c} {d} p q =
    let f : Option IntKind → Option IntKind → Option ℤ → Option ℤ → Constant = λ i j x y. with_two i j (λ j k. given AnInt (option_and_then (λ x. if is_zero x then Some (pos 0) else option_map truth_value y) x)) in
    ap₂ (λ i j. f i j (value a) (value c)) p.kinds q.kinds ∙ ap₂ (λ x y. f (kind_of b) (kind_of d) x y) p.values q.values

either_near : {a b c d : Constant} → AreAlike a b → AreAlike c d → constants.either a c ≡ constants.either b d
either_near {a} {b} {c} {d} p q =
    let f : Option IntKind → Option IntKind → Option ℤ → Option ℤ → Constant = λ i j x y. with_two i j (λ j k. given AnInt (option_and_then (λ x. if is_zero x then option_map truth_value y else Some (pos 1)) x)) in
    ap₂ (λ i j. f i j (value a) (value c)) p.kinds q.kinds ∙ ap₂ (λ x y. f (kind_of b) (kind_of d) x y) p.values q.values

choice_near : {a b c d e f : Constant} → AreAlike a b → AreAlike c d → AreAlike e f → constants.choice a c e ≡ constants.choice b d f
choice_near {a} {b} {c} {d} {e} {f} p q r =
    let g : Option IntKind → Option ℤ → Option IntKind → Option ℤ → Option IntKind → Option ℤ → Constant = λ h x i y j z. with_one h (λ i'. with_two i j (λ j k. given (meet j k) (option_and_then (λ x. option_map (wrap (meet j k)) (if is_zero x then z else y)) x))) in
    ap₂ (λ h x. g h x (kind_of c) (value c) (kind_of e) (value e)) p.kinds p.values
    ∙ (ap₂ (λ i y. g (kind_of b) (value b) i y (kind_of e) (value e)) q.kinds q.values ∙ ap₂ (λ j z. g (kind_of b) (value b) (kind_of d) (value d) j z) r.kinds r.values)

abbrev null_in : Option ℤ → Bool
null_in (Some v) = is_zero v
null_in None = false

null_of : (c : Constant) → constants.is_null c ≡ null_in (value c)
null_of No = refl
null_of (Faulty k) = refl
null_of (Known k v) = refl
null_of Variable = refl
null_of Part = refl
null_of Address = refl
null_of Literal = refl

null_near : {a b : Sort} → IsNear a b → null b ≡ null a
null_near {a} {b} near = null_of b.constant ∙ (ap null_in near.constant.values ∙ sym (null_of a.constant))

-- ---- types

decay_twice : (t : TypeOf) → decay (decay t) ≡ decay t
decay_twice (int k) = refl
decay_twice (pointer t) = refl
decay_twice (array t n) = refl
decay_twice (structure n) = refl
decay_twice nothing = refl

kind_twice : (k : Option TypeOf) → option_map decay (option_map decay k) ≡ option_map decay k
kind_twice None = refl
kind_twice (Some t) = ap Some (decay_twice t)

truth_decayed : (k : Option TypeOf) → truth_type (option_map decay k) ≡ truth_type k
truth_decayed None = refl
truth_decayed (Some t) = ap (λ z. equality_type (int AnInt) true z false) (decay_twice t)

logical_decayed : (j k : Option TypeOf) → logical_type (option_map decay j) (option_map decay k) ≡ logical_type j k
logical_decayed None k = refl
logical_decayed (Some t) None = refl
logical_decayed (Some t) (Some u) = ap₂ (λ x y. on (equality_type (int AnInt) true x false) (λ z. equality_type (int AnInt) true y false)) (decay_twice t) (decay_twice u)

conditional_decayed : (i j k : Option TypeOf) (m n : Bool) → conditional_type (option_map decay i) (option_map decay j) m (option_map decay k) n ≡ conditional_type i j m k n
conditional_decayed None j k m n = refl
conditional_decayed (Some t) None k m n = refl
conditional_decayed (Some t) (Some u) None m n = refl
conditional_decayed (Some t) (Some u) (Some v) m n = three (λ x y z. on (equality_type (int AnInt) true x false) (λ i. branches_type y m z n)) (decay_twice t) (decay_twice u) (decay_twice v)

pub truth_near : {a b : Sort} → IsNear a b → truth_type b.kind ≡ truth_type a.kind
truth_near {a} {b} near = sym (truth_decayed b.kind) ∙ (ap truth_type near.kind ∙ truth_decayed a.kind)

logical_near : {a b c d : Sort} → IsNear a b → IsNear c d → logical_type b.kind d.kind ≡ logical_type a.kind c.kind
logical_near {a} {b} {c} {d} p q = sym (logical_decayed b.kind d.kind) ∙ (ap₂ logical_type p.kind q.kind ∙ logical_decayed a.kind c.kind)

rule_near : {a b c d e f : Sort} → IsNear a b → IsNear c d → IsNear e f → choice_rule b d f ≡ choice_rule a c e
rule_near {a} {b} {c} {d} {e} {f} p q r =
    ap (by 33)
    (ap₂ (λ m n. conditional_type b.kind d.kind m f.kind n) (null_near q) (null_near r)
    ∙ (sym (conditional_decayed b.kind d.kind f.kind (null c) (null e))
    ∙ (three (λ x y z. conditional_type x y (null c) z (null e)) p.kind q.kind r.kind ∙ conditional_decayed a.kind c.kind e.kind (null c) (null e))))

-- ---- sorts

pub near_same : {a b : Sort} → b ≡ a → IsNear a b
near_same e = record {
  kind = ap (λ (z : Sort). option_map decay z.kind) e;
  constant = record { kinds = ap (λ (z : Sort). kind_of z.constant) e; values = ap (λ (z : Sort). value z.constant) e };
}

-- what a block or a test round it comes to
abbrev pub as_value : Sort → Sort
as_value a = a_value (option_map decay a.kind) (constants.probed a.constant)

pub near_value : {a b : Sort} → IsNear a b → IsNear a (as_value b)
near_value {a} {b} near =
    let one = probed_alike b.constant in
    record { kind = kind_twice b.kind ∙ near.kind; constant = record { kinds = one.kinds ∙ near.constant.kinds; values = one.values ∙ near.constant.values } }

-- ---- operators

pub and_near : (v : Walked) (token token' : ℕ) (o : Pos) (a b c d : Sort) {s t : State} → IsNear a b → IsNear c d → Follows v s t → AlikeOutcome 0 0 (seen_at v) (typed_and token o a c s) (typed_and token' o b d t)
and_near v token token' o a b c d p q al =
    let e = logical_near p q in
    record {
      typing = ap₂ (λ k z. plainly (a_value (kind_at (by 33 k)) z)) e (both_near p.constant q.constant);
      state = ruled_alike 0 0 (seen_at v) (by 33 (logical_type a.kind c.kind)) (by 33 (logical_type b.kind d.kind)) token token' o (ap (by 33) e) al;
    }

pub or_near : (v : Walked) (token token' : ℕ) (o : Pos) (a b c d : Sort) {s t : State} → IsNear a b → IsNear c d → Follows v s t → AlikeOutcome 0 0 (seen_at v) (typed_or token o a c s) (typed_or token' o b d t)
or_near v token token' o a b c d p q al =
    let e = logical_near p q in
    record {
      typing = ap₂ (λ k z. plainly (a_value (kind_at (by 33 k)) z)) e (either_near p.constant q.constant);
      state = ruled_alike 0 0 (seen_at v) (by 33 (logical_type a.kind c.kind)) (by 33 (logical_type b.kind d.kind)) token token' o (ap (by 33) e) al;
    }

pub choice_typed : (v : Walked) (token token' : ℕ) (o : Pos) (a b c d e f : Sort) {s t : State} → IsNear a b → IsNear c d → IsNear e f → Follows v s t → AlikeOutcome 0 0 (seen_at v) (typed_choice token o a c e s) (typed_choice token' o b d f t)
choice_typed v token token' o a b c d e f p q r al =
    let g = rule_near p q r in
    record {
      typing = ap₂ (λ k z. plainly (a_value (kind_at k) z)) g (choice_near p.constant q.constant r.constant);
      state = ruled_alike 0 0 (seen_at v) (choice_rule a c e) (choice_rule b d f) token token' o g al;
    }

-- a test, judged where it stands
pub tested_follows : (v : Walked) (first last : ℕ) (x y : TypedNode) → IsNear x.sort y.sort → Follows v x.state y.state → Follows v (tested first x) (tested last y)
tested_follows v first last x y near al =
    subst (λ k. Follows v (tested first x) (rule (by 33 k) last (pos_in y.node) y.state)) (sym (truth_near near))
    (rule_alike 0 0 (seen_at v) (by 33 (truth_type x.sort.kind)) first last (pos_in x.node) (pos_in y.node) al)
