-- Initialisers and declared variables are typed alike in the first pass, where nothing is complained of.
use Rattle.std.proofs.Common.{◌≡◌, ℕ, List, [], ◌||◌, nat_eq, Option, Some, None, Bool, true, refl, ap, ◌∙◌}
use Rattle.std.specs.Prelude.{nat_le}
use Rattle.c_base.specs.declared.place.Pos.{Pos}
use Rattle.c_base.specs.declared.place.IntKind.TheVariants.{Char}
use Rattle.c_syntax.specs.declared.text.Text.{Text}
use Rattle.c_syntax.specs.declared.tree.Named.{Named}
use Rattle.c_syntax.specs.declared.tree.ProbeMark.{ProbeMark}
use Rattle.c_syntax.specs.declared.tree.Star.{Star}
use Rattle.c_syntax.specs.Shape.{TypeOf, int, pointer, array, structure, nothing, def, NodeShape, LengthShapes, declarator, arrays, MaybeInit, no_init, one_init, InitShape, one, listed, InitShapes, no_inits, more_inits}
use Rattle.c_scopes.specs.Scoping.{find_here}
use Rattle.c_tables.specs.Rows.{first_place, text_of, name_pos}
use Rattle.c_tree.specs.declared.meaning.Entity.{Entity}
use Rattle.c_tree.specs.Complaints.{stray, wrong_type}
use Rattle.c_tree.specs.State.{State, steps, step, demand}
use Rattle.c_tree.specs.Rulings.{rule, kind_at, of_kind, allowed_if}
use Rattle.c_tree.specs.Sorts.{TypedNode, pos_in}
use Rattle.c_tree.specs.Operators.{claim, heard, hushed}
use Rattle.c_tree.specs.Parts.{TypedLengths, pointed, star_tokens}
use Rattle.c_tree.specs.Typing.{type_node, type_lengths}
use Rattle.c_tree.specs.Initialisers.{lengths_with, TypedInit, chars_of, filled, form_in, string_init, constant_init, fits, value_init, one_init_of, Slots, slots_in, slots, list_rule, slot, slot_rule, further, init_pos, TypedInits, one_item, list_end, type_init, type_inits}
use Rattle.c_tree.specs.Declaring.{name_tokens, claim_mark, claim_name, token_of_name, with_variable, variable_at, declare_variable, variable_rule, has_init, TypedMaybeInit, an_init, type_maybe_init, TypedDeclarator, type_variable}
use Rattle.c_tree.proofs.Grows.{◌▸◌, rule_grows}
use Rattle.c_tree.proofs.GrowsUnits.{inits_grow, maybe_init_grows, variable_at_grows}
use Rattle.probe_passes.specs.Passes.{first_pass}
use Rattle.probe_passes.proofs.Rules.{IsClean, ruled, demanded, number_taken}
use Rattle.probe_passes.proofs.Nodes.{first_typed, node_typed, lengths_typed}

-- ---- what is typed, in the first pass

abbrev pub first_item : TypedInit → TypedInit
first_item t = record t { state = first_pass t.state }

abbrev pub first_list : TypedInits → TypedInits
first_list t = record t { state = first_pass t.state }

abbrev pub first_maybe_item : TypedMaybeInit → TypedMaybeInit
first_maybe_item t = record t { state = first_pass t.state }

abbrev pub first_variable : TypedDeclarator → TypedDeclarator
first_variable t = record t { state = first_pass t.state }

-- ---- initialisers

slots_of : (t : TypeOf) (s : State) → slots_in t (first_pass s) ≡ slots_in t s
slots_of (int k) s = refl
slots_of (pointer t) s = refl
slots_of (array t n) s = refl
slots_of (structure n) s = refl
slots_of nothing s = refl

slots_same : (k : Option TypeOf) (s : State) → slots k (first_pass s) ≡ slots k s
slots_same None s = refl
slots_same (Some t) s = slots_of t s

string_typed : (bytes elements : ℕ) (p : Pos) (token : ℕ) (quiet : Bool) (t : TypedNode) → string_init bytes elements p token quiet (first_typed t) ≡ first_item (string_init bytes elements p token quiet t)
string_typed bytes elements p token quiet t = ap (λ u. record { init = one t.node; state = u }) (ruled _ token p (heard quiet t.state))

value_typed : (c : Bool) (k : Option TypeOf) (token : ℕ) (p : Pos) (t : TypedNode) → value_init c k token p (first_typed t) ≡ first_item (value_init c k token p t)
value_typed c k token p t =
    ap (λ u. record { init = one t.node; state = rule (constant_init c t.sort) token p u }) (ruled (fits k t.sort) token p t.state)
    ∙ ap (λ u. record { init = one t.node; state = u }) (ruled (constant_init c t.sort) token p (rule (fits k t.sort) token p t.state))

one_typed : (o : Option (ℕ × ℕ)) (b : Bool) (k : Option TypeOf) (a : NodeShape) (s : State) → IsClean (one_init_of o b k a s).state → one_init_of o b k a (first_pass s) ≡ first_item (one_init_of o b k a s)
one_typed (Some (bytes, elements)) b k a s c =
    let t = type_node a (hushed s) in
    ap (string_init bytes elements (pos_in a) s.at s.quiet) (node_typed a (hushed s) (rule_grows (allowed_if (nat_le bytes elements) wrong_type (int Char)) s.at (pos_in a) (heard s.quiet t.state) ▸ c))
    ∙ string_typed bytes elements (pos_in a) s.at s.quiet t
one_typed None b k a s c =
    let t = type_node a s in
    let u = rule (fits k t.sort) s.at (pos_in a) t.state in
    ap (value_init b k s.at (pos_in a)) (node_typed a s (rule_grows (fits k t.sort) s.at (pos_in a) t.state ▸ (rule_grows (constant_init b t.sort) s.at (pos_in a) u ▸ c)))
    ∙ value_typed b k s.at (pos_in a) t

mutual
  init_typed : (b : Bool) (k : Option TypeOf) (i : InitShape) (s : State) → IsClean (type_init b k i s).state → type_init b k i (first_pass s) ≡ first_item (type_init b k i s)
  init_typed b k (one a) s c = one_typed (filled (chars_of k) (form_in a)) b k a s c
  init_typed b k (listed p list last) s c =
      let r = of_kind k list_rule in
      let u = step (rule r s.at p s) in
      ap (λ l. let t = type_inits l list (step (rule r s.at p (first_pass s))) in record { init = listed p t.inits last; state = steps (list_end last) t.state }) (slots_same k s)
      ∙ (ap (λ v. let t = type_inits (slots k s) list (step v) in record { init = listed p t.inits last; state = steps (list_end last) t.state }) (ruled r s.at p s)
      ∙ ap (λ t. record { init = listed p t.inits last; state = steps (list_end last) t.state }) (inits_typed (slots k s) list u c))

  inits_typed : (l : Slots) (list : InitShapes) (s : State) → IsClean (type_inits l list s).state → type_inits l list (first_pass s) ≡ first_list (type_inits l list s)
  inits_typed l no_inits s c = refl
  inits_typed l (more_inits i rest) s c =
      let u = rule (slot_rule l) s.at (init_pos i) s in
      let t = type_init true (slot l) i u in
      ap (λ v. let x = type_init true (slot l) i v in one_item x (type_inits (further l) rest (step x.state))) (ruled (slot_rule l) s.at (init_pos i) s)
      ∙ (ap (λ x. one_item x (type_inits (further l) rest (step x.state))) (init_typed true (slot l) i u (inits_grow (further l) rest (step t.state) ▸ c))
      ∙ ap (one_item t) (inits_typed (further l) rest (step t.state) c))

-- ---- declared names

pub token_same : (first : ℕ) (x : Option Named) (s : State) → token_of_name first x (first_pass s) ≡ token_of_name first x s
token_same first None s = refl
token_same first (Some x) s = refl

mark_claimed : (may : Bool) (m : Option ProbeMark) (s : State) → claim_mark may m (first_pass s) ≡ first_pass (claim_mark may m s)
mark_claimed may None s = refl
mark_claimed may (Some m) s = ap (demand may stray s.at m.pos) (number_taken def m.number s.at m.pos s) ∙ demanded may stray s.at m.pos (claim def m.number s.at m.pos s)

pub name_claimed : (may : Bool) (x : Option Named) (s : State) → claim_name may x (first_pass s) ≡ first_pass (claim_name may x s)
name_claimed may None s = refl
name_claimed may (Some x) s = mark_claimed may x.probe s

pub variable_made : (x : Text) (k : Option TypeOf) (s : State) → with_variable x k (first_pass s) ≡ first_pass (with_variable x k s)
variable_made x None s = refl
variable_made x (Some t) s = refl

variable_declared : (token : ℕ) (p : Pos) (x : Text) (k : Option TypeOf) (s : State) → declare_variable token p x k (first_pass s) ≡ first_pass (declare_variable token p x k s)
variable_declared token p x k s = at_it (find_here x s.names)
  where
    at_it : (o : Option Entity) → variable_at token p x k o (first_pass s) ≡ first_pass (variable_at token p x k o s)
    at_it None = variable_made x k s
    at_it (Some e) = refl

maybe_init_typed : (b : Bool) (k : Option TypeOf) (i : MaybeInit) (s : State) → IsClean (type_maybe_init b k i s).state → type_maybe_init b k i (first_pass s) ≡ first_maybe_item (type_maybe_init b k i s)
maybe_init_typed b k no_init s c = refl
maybe_init_typed b k (one_init i) s c = ap an_init (init_typed b k i (step s) c)

-- a variable, by its initialiser, and by its lengths
abbrev ended_with : List Star → Option Named → TypedLengths → TypedMaybeInit → TypedDeclarator
ended_with stars x l m = record { name = declarator stars x (arrays l.lengths) m.init; state = m.state }

abbrev variable_by : List Star → Option Named → MaybeInit → Bool → Option TypeOf → ℕ → TypedLengths → TypedDeclarator
variable_by stars x i b k token l =
    let p = name_pos first_place x in
    let r = variable_rule l.state.rooms (lengths_with i l.counts) k in
    ended_with stars x l (type_maybe_init b (kind_at r) i (declare_variable token p (text_of x) (kind_at r) (rule r token p l.state)))

pub variable_typed : (k : Option TypeOf) (stars : List Star) (x : Option Named) (ls : LengthShapes) (i : MaybeInit) (s : State) → IsClean (type_variable k stars x ls i s).state → type_variable k stars x ls i (first_pass s) ≡ first_variable (type_variable k stars x ls i s)
variable_typed k stars x ls i s c =
    let b = nat_eq s.function 0 in
    let begun = steps (star_tokens stars) s in
    let may = b || has_init i in
    let u = claim_name may x begun in
    let l = type_lengths [] ls (steps (name_tokens x) u) in
    let token = token_of_name begun.at x begun in
    let p = name_pos first_place x in
    let r = variable_rule l.state.rooms (lengths_with i l.counts) (pointed stars k) in
    let v = rule r token p l.state in
    let d = declare_variable token p (text_of x) (kind_at r) v in
    let late = rule_grows r token p l.state ▸ (variable_at_grows token p (text_of x) (kind_at r) (find_here (text_of x) v.names) v ▸ (maybe_init_grows b (kind_at r) i d ▸ c)) in
    ap (λ n. variable_by stars x i b (pointed stars k) n (type_lengths [] ls (steps (name_tokens x) (claim_name may x (first_pass begun))))) (token_same begun.at x begun)
    ∙ (ap (λ w. variable_by stars x i b (pointed stars k) token (type_lengths [] ls (steps (name_tokens x) w))) (name_claimed may x begun)
    ∙ (ap (variable_by stars x i b (pointed stars k) token) (lengths_typed [] ls (steps (name_tokens x) u) late)
    ∙ (ap (λ w. ended_with stars x l (type_maybe_init b (kind_at r) i (declare_variable token p (text_of x) (kind_at r) w))) (ruled r token p l.state)
    ∙ (ap (λ w. ended_with stars x l (type_maybe_init b (kind_at r) i w)) (variable_declared token p (text_of x) (kind_at r) v)
    ∙ ap (ended_with stars x l) (maybe_init_typed b (kind_at r) i d c)))))
