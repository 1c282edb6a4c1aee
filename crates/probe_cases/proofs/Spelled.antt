-- The constants of a select probe are typed as they stand, each as the integer that it spells.
use Rattle.std.proofs.Common.{◌≡◌, ℕ, zero, suc, ◌++◌, ℤ, pos, negsuc, List, [], ◌∷◌, map, length, nat_eq, Option, Some, None, Bool, true, refl, sym, ap, ap₂, subst, ◌∙◌, arith}
use Rattle.std.specs.Fmt.{decimal}
use Rattle.std.proofs.lemmas.Bool.Decides.{nat_tests}
use Rattle.c_base.specs.declared.place.Pos.{Pos}
use Rattle.c_base.specs.declared.place.IntKind.{IntKind}
use Rattle.c_arith.specs.Arith.{InRange}
use Rattle.c_syntax.specs.declared.tree.UnaryOp.TheVariants as front
use Rattle.c_syntax.specs.Shape.{int, number, unary, NodeShape, node, leaf, prefix, NodeShapes, more_nodes, Probing}
use Rattle.c_type_rules.specs.Kinds.{promote, constant_type}
use Rattle.c_type_rules.specs.declared.kinds.Radix.{Radix}
use Rattle.c_type_rules.specs.declared.kinds.Radix.TheVariants.{Octal, Decimal}
use Rattle.c_constants.specs.declared.constants.Constant.{Constant}
use Rattle.c_constants.specs.declared.constants.Constant.TheVariants.{No, Faulty, Known, Variable, Part, Address, Literal}
use Rattle.c_constants.specs.Numbers.{number_of, suffix}
use Rattle.c_constants.specs.Numbers as numbers
use Rattle.c_constants.specs.Constants as constants
use Rattle.c_tree.specs.Complaints.{not_constant, wrong_type}
use Rattle.c_tree.specs.State.{State, step, demand}
use Rattle.c_tree.specs.Rulings.{of_kind, allowed_if, rule}
use Rattle.c_tree.specs.Sorts.{a_value, TypedNode, Formed, formed, plainly, comes_to, note_of, cleared, noted, pos_in}
use Rattle.c_tree.specs.Operators.{number_sort, has_value, typed_unary, wrapped, is_there, sided, claim, claimed, seen_of}
use Rattle.c_tree.specs.Parts.{TypedCases, judged_constant}
use Rattle.c_tree.specs.Typing.{type_node, type_cases}
use Rattle.c_walk.specs.Tests.{number_constant, case_value}
use Rattle.probe_rules.specs.Marks.{decimal_kind, number_at, constant_at, constants_at}
use Rattle.probe_rules.proofs.ReadNumbers.{number_again, zero_again}
use Rattle.probe_rules.proofs.SelectConstants.{highest, lowest, constant_read}
use Rattle.probe_cases.specs.Cases.{IsFurther, IsTyped, AreInRange, ConstantsAreTyped, ListsAreTyped, AreTyped}
use Rattle.c_tree.specs.declared.meaning.Side.TheVariants.{Neither}
use Rattle.c_syntax.specs.declared.text.Text.{Text}
use Rattle.c_constants.specs.Probes.{probe_number_of}
use Rattle.c_scopes.specs.Scoping.{named}

-- ---- states

pub further_then : (s t u : State) → IsFurther s t → IsFurther t u → IsFurther s u
further_then s t u first next = next ∙ ap (λ (x : State). record x { at = u.at }) first

-- ---- nodes that are typed without complaint

-- a node, by whether no complaint came in its form
abbrev pub noted_if : Bool → Pos → Pos → Formed → TypedNode
noted_if b p o f = record {
  node = node p o (note_of (cleared b f.typing.sort).kind f.typing.sort.constant f.typing.names f.typing.valued) f.form;
  sort = cleared b f.typing.sort;
  state = f.state;
}

-- an integer constant
abbrev as_typed : NodeShape → IntKind → Constant → State → TypedNode
as_typed a j c s = record { node = a; sort = a_value (Some (int j)) c; state = s }

pub same_count : (n : ℕ) → nat_eq n n ≡ true
same_count n = grind (arith, nat_tests)

number_typed : (p o : Pos) (n : ℕ) (r : Radix) → number_of (decimal n) ≡ Some (numbers.typed n r (suffix [])) → constant_type n r (suffix []) ≡ decimal_kind n → (s : State)
    → type_node (number_at p o n) s ≡ as_typed (number_at p o n) (decimal_kind n) (Known (decimal_kind n) (pos n)) (step (sided Neither s))
number_typed p o n r spelled kind s =
    let v = sided Neither s in
    let g : IntKind → Formed = λ j. formed (leaf (number (decimal n))) (comes_to (plainly (a_value (Some (int j)) (Known j (pos n)))) (step v)) in
    ap (λ m. noted p o s (formed (leaf (number (decimal n))) (comes_to (plainly (number_sort m)) (step (demand (has_value m) wrong_type s.at p v))))) spelled
    ∙ (ap (λ j. noted p o s (g j)) kind ∙ ap (λ b. noted_if b p o (g (decimal_kind n))) (same_count (length s.complaints)))

minus_typed : (p o : Pos) (n : ℕ) → number_of (decimal (suc n)) ≡ Some (numbers.typed (suc n) Decimal (suffix [])) → (s : State)
    → type_node (constant_at p o (negsuc n)) s ≡ as_typed (constant_at p o (negsuc n)) (promote (decimal_kind (suc n))) (constants.unary front.Minus (Known (decimal_kind (suc n)) (pos (suc n)))) (step (step (sided Neither s)))
minus_typed p o n spelled s =
    let f : TypedNode → Formed = λ t. formed (prefix (unary front.Minus) t.node) (typed_unary s.at o (step s).at p front.Minus t.sort t.state) in
    let t = as_typed (number_at p o (suc n)) (decimal_kind (suc n)) (Known (decimal_kind (suc n)) (pos (suc n))) (step (step (sided Neither s))) in
    ap (λ t. noted p o s (f t)) (number_typed p o (suc n) Decimal spelled refl (step (sided Neither s))) ∙ ap (λ b. noted_if b p o (f t)) (same_count (length s.complaints))

-- ---- and their values

typed_so : (k : IntKind) (z : ℤ) (a : NodeShape) (s : State) (j : IntKind) (c : Constant) (u : State) {t : TypedNode} → t ≡ as_typed a j c u → wrapped k (constants.value c) ≡ Some z → IsFurther (sided Neither s) u → IsTyped k z a s t
typed_so k z a s j c u e is further = subst (IsTyped k z a s) (sym e) (record { node = refl; kind = (j, refl); value = is; state = further })

-- a constant that isn't 0 has its value
value_there : (k : IntKind) (n : ℕ) (c : Constant) → case_value (Some k) c ≡ negsuc n → wrapped k (constants.value c) ≡ Some (negsuc n)
value_there k n (Known j v) e = ap Some e
value_there k n No e = cc
value_there k n (Faulty j) e = cc
value_there k n Variable e = cc
value_there k n Part e = cc
value_there k n Address e = cc
value_there k n Literal e = cc

number_is : (k : IntKind) (n : ℕ) (r : Radix) → InRange k (pos n) → number_of (decimal n) ≡ Some (numbers.typed n r (suffix [])) → constant_type n r (suffix []) ≡ decimal_kind n → (p o : Pos) (s : State)
    → IsTyped k (pos n) (number_at p o n) s (type_node (number_at p o n) s)
number_is k n r range spelled kind p o s =
    typed_so k (pos n) (number_at p o n) s (decimal_kind n) (Known (decimal_kind n) (pos n)) (step (sided Neither s)) (number_typed p o n r spelled kind s)
    (ap Some (sym (ap (λ x. case_value (Some k) (number_constant x)) spelled) ∙ constant_read p o k (pos n) range)) refl

pub constants_are_typed : ConstantsAreTyped
constants_are_typed k (pos zero) range p o s = number_is k zero Octal range zero_again refl p o s
constants_are_typed k (pos (suc n)) range p o s = number_is k (suc n) Decimal range (number_again (suc n) (omega arith) (highest k (suc n) range)) refl p o s
constants_are_typed k (negsuc n) range p o s =
    let spelled = number_again (suc n) (omega arith) (lowest k n range) in
    let j = decimal_kind (suc n) in
    let c = constants.unary front.Minus (Known j (pos (suc n))) in
    typed_so k (negsuc n) (constant_at p o (negsuc n)) s (promote j) c (step (step (sided Neither s))) (minus_typed p o n spelled s)
    (value_there k n c (sym (ap (λ x. case_value (Some k) (constants.unary front.Minus (number_constant x))) spelled) ∙ constant_read p o k (negsuc n) range)) refl

-- ---- lists of them

there_so : (k : IntKind) (z : ℤ) (v : Option ℤ) → wrapped k v ≡ Some z → is_there v ≡ true
there_so k z None e = cc
there_so k z (Some v) e = refl

-- nothing is complained of an integer constant
judged_so : {k : IntKind} {z : ℤ} {a : NodeShape} {s : State} (token : ℕ) (p : Pos) (t : TypedNode) → IsTyped k z a s t → judged_constant token p t.sort t.state ≡ t.state
judged_so {k} {z} token p t is =
    let v = constants.value t.sort.constant in
    ap (λ x. rule (of_kind x (allowed_if (is_there v) not_constant)) token p t.state) is.kind.1 ∙ ap (λ b. rule (allowed_if b not_constant (int is.kind.0)) token p t.state) (there_so k z v is.value)

-- what stands on neither side of `=`
same_side : (s : State) → s.side ≡ Neither → sided Neither s ≡ s
same_side s beside = ap (λ d. sided d s) (sym beside)

pub claimed_side : (u : Probing) (x : Text) (token : ℕ) (p : Pos) (s : State) → (claim u x token p s).side ≡ s.side
claimed_side u x token p s = by_numbers (probe_number_of x) (named x (seen_of u s.seen))
  where
    by_numbers : (n m : Option ℕ) → (claimed u x token p n m s).side ≡ s.side
    by_numbers (Some n) None = refl
    by_numbers (Some n) (Some m) = refl
    by_numbers None m = refl

-- behind the values so far
record AreTypedBehind (k : IntKind) (vs : List (Option ℤ)) (zs : List ℤ) (cs : NodeShapes) (s : State) (t : TypedCases) : Type 0 where
  nodes : t.nodes ≡ cs
  values : map (wrapped k) t.values ≡ map (wrapped k) vs ++ map Some zs
  state : IsFurther s t.state

map_behind : (k : IntKind) (vs : List (Option ℤ)) (v : Option ℤ) (z : ℤ) (ws : List (Option ℤ)) → wrapped k v ≡ Some z → map (wrapped k) (vs ++ v ∷ []) ++ ws ≡ map (wrapped k) vs ++ Some z ∷ ws
map_behind k [] v z ws e = ap (λ x. x ∷ ws) e
map_behind k (w ∷ vs) v z ws e = ap (λ xs. wrapped k w ∷ xs) (map_behind k vs v z ws e)

cases_behind : (k : IntKind) (vs : List (Option ℤ)) (zs : List ℤ) → AreInRange k zs → (p o : Pos) (s : State) → s.side ≡ Neither → AreTypedBehind k vs zs (constants_at p o zs) s (type_cases vs (constants_at p o zs) s)
cases_behind k vs [] are p o s beside = record { nodes = refl; values = sym (nothing_behind (map (wrapped k) vs)); state = refl }
  where
    nothing_behind : (xs : List (Option ℤ)) → xs ++ [] ≡ xs
    nothing_behind [] = refl
    nothing_behind (x ∷ xs) = ap (λ ys. x ∷ ys) (nothing_behind xs)
cases_behind k vs (z ∷ zs) are p o s beside =
    let a = constant_at p o z in
    let t = type_node a (step s) in
    let is = constants_are_typed k z are.0 p o (step s) in
    let v = constants.value t.sort.constant in
    let u = judged_constant (step s).at (pos_in a) t.sort t.state in
    let here : IsFurther s u = subst (IsFurther s) (sym (judged_so (step s).at (pos_in a) t is)) (further_then s (step s) t.state refl (subst (λ v. IsFurther v t.state) (same_side (step s) beside) is.state)) in
    let rest = cases_behind k (vs ++ v ∷ []) zs are.1 p o u (ap (λ (v : State). v.side) here ∙ beside) in
    record {
      nodes = ap₂ more_nodes is.node rest.nodes;
      values = rest.values ∙ map_behind k vs v z (map Some zs) is.value;
      state = further_then s u (type_cases (vs ++ v ∷ []) (constants_at p o zs) u).state here rest.state;
    }

pub list_typed : (k : IntKind) (zs : List ℤ) → AreInRange k zs → (p o : Pos) (s : State) → s.side ≡ Neither → AreTyped k zs (constants_at p o zs) s (type_cases [] (constants_at p o zs) s)
list_typed k zs are p o s beside = let t = cases_behind k [] zs are p o s beside in record { nodes = t.nodes; values = t.values; state = t.state }

pub lists_are_typed : ListsAreTyped
lists_are_typed k zs are p o s = list_typed k zs are p o (sided Neither s) refl
