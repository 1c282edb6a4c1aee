-- Typing an expression without probes depends neither on how many tokens stand before it, nor on which probes were seen, nor on what was
-- complained of before.
use Rattle.std.proofs.Common.{◌≡◌, ℕ, ℤ, ◌+◌, List, [], ◌∷◌, ◌++◌, Option, Some, None, Bool, true, false, refl, sym, ap, ap₂, subst}
use Rattle.std.specs.Prelude.{pos, not, if◌then◌else◌}
use Rattle.c_base.specs.declared.place.Pos.{Pos}
use Rattle.c_syntax.specs.declared.tree.Named.{Named}
use Rattle.c_syntax.specs.Shape.{TypeOf, int, number, char, str, name, unary, before, size_of, NodeShape, node, ExprShape, leaf, paren, call, prefix, size_of_type, cast, suffix, two, choose, probe, index, field, behind, NodeShapes, no_nodes, more_nodes, MaybeNode, no_node, one_node, LengthShapes, no_lengths, more_lengths, TypeShape, type_name, SpecShapes, no_specs, more_specs, word, struct, enum, MaybeDecls, no_members, members, MaybeEnumers, no_rows, rows, EnumerShapes, no_enumers, more_enumers, decl, DeclShapes, no_decls, more_decls, declarator, DeclaratorShapes, no_declarators, more_declarators, arrays, function}
use Rattle.c_base.specs.declared.place.IntKind.TheVariants.{Int}
use Rattle.c_constants.specs.Numbers.{number_of}
use Rattle.c_constants.specs.Constants as constants
use Rattle.c_tables.specs.Tables.{FieldShape}
use Rattle.c_tree.specs.State.{Seen, State, step, steps, demand, counts, field_type}
use Rattle.c_tables.specs.Rows.{text_of, name_pos}
use Rattle.c_tree.specs.Rulings.{kind_at}
use Rattle.c_tree.specs.Sorts.{Sort, plainly, pos_in, null}
use Rattle.c_tree.specs.Operators.{has_value, given_at, Given, left_of, right_of, sided, entering}
use Rattle.c_tree.specs.Parts.{Length, left_out, length_of, length_rule, Spelled, unspelled, with_word, with_tagged, static_fits, spelled_rule, star_tokens, pointed, arrays_of, tag_tokens, structure_kind, kind_if, is_free, with_field, only_int, passes, value_rule, entity_of, after}
use Rattle.c_sites_probes.specs.Marked.{first, mark_in, name_mark, node_mark, form_mark, nodes_mark, maybe_mark, lengths_mark, type_mark, specs_mark, members_mark, rows_mark, enumers_mark, decls_mark, declarators_mark, params_mark, maybe_init_mark}
use Rattle.c_tree.specs.Typing.{opening, type_node, type_form, type_arguments, type_type, type_lengths, type_specs, type_struct, type_lines, type_fields, type_enum, rows_types, type_value}
use Rattle.probe_rules.proofs.ReadyUnits.{some_none, none_first, none_second}
use Rattle.probe_rules.proofs.Moved.{three, Alike, clean_alike, steps_alike, complain_alike, demand_alike, AlikeFormed, AlikeNode, formed_alike, noted_alike, name_alike, called_alike, AlikeGiven, given_then, string_alike, unary_alike, step_alike, size_alike, type_size_alike, cast_alike, infix_alike, choice_alike, index_alike, field_alike, opened_alike, begun_alike, closed_alike, outside_alike, quiet_alike, sided_alike, entering_alike, field_state_alike, declare_alike, enumeration_alike, AlikeNodes, AlikeType, AlikeLengths, AlikeSpec, AlikeSpecs, AlikeDecls, AlikeNames, AlikeRows, AlikeValued, judged_by, ruled_alike, file_alike, was_quiet, call_of_alike}

-- In the first run so many complaints stand before, in the second so many; and these probes were seen before.
module _ (n m : ℕ) (seen : Seen) where
  mutual
    pub node_alike : (a : NodeShape) → node_mark a ≡ None → {s t : State} → Alike n m seen s t → AlikeNode n m seen (type_node a s) (type_node a t)
    node_alike (node p o k f) none {s} {t} al = noted_alike n m seen p o s t (type_form p o f (entering f s)) (type_form p o f (entering f t)) al (form_alike p o f none (entering_alike n m seen f al))

    form_alike : (p o : Pos) (f : ExprShape) → form_mark p f ≡ None → {s t : State} → Alike n m seen s t → AlikeFormed n m seen (type_form p o f s) (type_form p o f t)
    form_alike p o (leaf (number x)) none {s} {t} al = formed_alike n m seen _ _ _ _ refl (record { typing = refl; state = steps_alike n m seen 1 (demand_alike n m seen (has_value (number_of x)) 33 s.at t.at p al) })
    form_alike p o (leaf (char c)) none al = formed_alike n m seen _ _ _ _ refl (record { typing = refl; state = steps_alike n m seen 1 al })
    form_alike p o (leaf (str x)) none al = formed_alike n m seen _ _ _ _ refl (string_alike n m seen p x al)
    form_alike p o (leaf (name x)) none al = formed_alike n m seen _ _ _ _ refl (name_alike n m seen p x al)
    form_alike p o (paren a) none al =
        let i = node_alike a none (steps_alike n m seen 1 al) in
        formed_alike n m seen _ _ _ _ (ap paren i.node) (record { typing = ap plainly i.sort; state = steps_alike n m seen 1 i.state })
    form_alike p o (call x args) none {s} {t} al =
        let c = called_alike n m seen p x al in
        let i = arguments_alike args none [] [] tt (steps_alike n m seen (opening args) c.state) in
        formed_alike n m seen _ _ _ _ (ap (call x) i.nodes) (call_of_alike n m seen p s.at t.at _ _ _ _ _ _ (clean_alike n m seen _ _ _ _ c.state i.state) c.function i.given i.state)
    form_alike p o (prefix (unary u) a) none {s} {t} al =
        let i = node_alike a none (steps_alike n m seen 1 al) in
        formed_alike n m seen _ _ _ _ (ap (prefix (unary u)) i.node) (unary_alike n m seen s.at t.at o (step s).at (step t).at (pos_in a) u _ _ i.sort i.state)
    form_alike p o (prefix (before u) a) none {s} {t} al =
        let i = node_alike a none (steps_alike n m seen 1 al) in
        formed_alike n m seen _ _ _ _ (ap (prefix (before u)) i.node) (step_alike n m seen s.at t.at o (step s).at (step t).at (pos_in a) _ _ i.sort i.state)
    form_alike p o (prefix size_of a) none {s} {t} al =
        let i = node_alike a none (quiet_alike n m seen true true refl (steps_alike n m seen 1 al)) in
        formed_alike n m seen _ _ _ _ (ap (prefix size_of) i.node) (size_alike n m seen s.at t.at o _ _ (ap (λ (z : Sort). z.kind) i.sort) (quiet_alike n m seen s.quiet t.quiet (was_quiet n m seen al) i.state))
    form_alike p o (size_of_type y) none {s} {t} al =
        let i = type_alike y none (steps_alike n m seen 2 al) in
        formed_alike n m seen _ _ _ _ (ap size_of_type i.type) (type_size_alike n m seen s.at t.at o _ _ i.kind i.state)
    form_alike p o (cast y a) none {s} {t} al =
        let i = type_alike y (none_first (type_mark y) (node_mark a) none) (steps_alike n m seen 1 al) in
        let j = node_alike a (none_second (type_mark y) (node_mark a) none) (steps_alike n m seen 1 i.state) in
        formed_alike n m seen _ _ _ _ (ap₂ cast i.type j.node) (cast_alike n m seen s.at t.at o _ _ _ _ i.kind j.sort j.state)
    form_alike p o (suffix a (index b)) none {s} {t} al =
        let i = node_alike a (none_first (node_mark a) (node_mark b) none) al in
        let j = node_alike b (none_second (node_mark a) (node_mark b) none) (steps_alike n m seen 1 i.state) in
        formed_alike n m seen _ _ _ _ (ap₂ (λ x y. suffix x (index y)) i.node j.node) (index_alike n m seen (type_node a s).state.at (type_node a t).state.at o _ _ _ _ i.sort j.sort j.state)
    form_alike p o (suffix a (field h x q)) none {s} {t} al =
        let i = node_alike a (none_first (node_mark a) None none) al in
        formed_alike n m seen _ _ _ _ (ap (λ z. suffix z (field h x q)) i.node) (field_alike n m seen (type_node a s).state.at (type_node a t).state.at o h x q _ _ i.sort i.state)
    form_alike p o (suffix a (behind u)) none {s} {t} al =
        let i = node_alike a (none_first (node_mark a) None none) al in
        formed_alike n m seen _ _ _ _ (ap (λ z. suffix z (behind u)) i.node) (step_alike n m seen (type_node a s).state.at (type_node a t).state.at o s.at t.at (pos_in a) _ _ i.sort (steps_alike n m seen 1 i.state))
    form_alike p o (two u a b) none {s} {t} al =
        let i = node_alike a (none_first (node_mark a) (node_mark b) none) (sided_alike n m seen (left_of u) (left_of u) refl al) in
        let j = node_alike b (none_second (node_mark a) (node_mark b) none) (sided_alike n m seen _ _ (ap (λ (z : Sort). right_of u z.kind) i.sort) (steps_alike n m seen 1 i.state)) in
        formed_alike n m seen _ _ _ _ (ap₂ (two u) i.node j.node) (infix_alike n m seen (type_node a (sided (left_of u) s)).state.at (type_node a (sided (left_of u) t)).state.at o s.at t.at (pos_in a) u _ _ _ _ i.sort j.sort j.state)
    form_alike p o (choose a b c) none {s} {t} al =
        let rest = none_second (node_mark a) (first (node_mark b) (node_mark c)) none in
        let i = node_alike a (none_first (node_mark a) (first (node_mark b) (node_mark c)) none) al in
        let j = node_alike b (none_first (node_mark b) (node_mark c) rest) (steps_alike n m seen 1 i.state) in
        let l = node_alike c (none_second (node_mark b) (node_mark c) rest) (steps_alike n m seen 1 j.state) in
        formed_alike n m seen _ _ _ _ (three choose i.node j.node l.node) (choice_alike n m seen (type_node a s).state.at (type_node a t).state.at o _ _ _ _ _ _ i.sort j.sort l.sort l.state)
    form_alike p o (probe u a) none al = absurd (some_none p none)

    arguments_alike : (es : NodeShapes) → nodes_mark es ≡ None → (gs hs : List Given) → AlikeGiven n m seen gs hs → {s t : State} → Alike n m seen s t → AlikeNodes n m seen (type_arguments gs es s) (type_arguments hs es t)
    arguments_alike no_nodes none gs hs same al = record { nodes = refl; given = same; state = al }
    arguments_alike (more_nodes a rest) none gs hs same {s} {t} al =
        let i = node_alike a (none_first (node_mark a) (nodes_mark rest) none) (steps_alike n m seen 1 al) in
        let x = type_node a (step s) in
        let y = type_node a (step t) in
        let j = arguments_alike rest (none_second (node_mark a) (nodes_mark rest) none) (gs ++ given_at (step s).at (pos_in a) x.sort ∷ []) (hs ++ given_at (step t).at (pos_in a) y.sort ∷ [])
        (given_then n m seen gs hs _ _ same (ap (λ (z : Sort). z.kind) i.sort) (ap null i.sort)) i.state in
        record { nodes = ap₂ more_nodes i.node j.nodes; given = j.given; state = j.state }

    pub type_alike : (y : TypeShape) → type_mark y ≡ None → {s t : State} → Alike n m seen s t → AlikeType n m seen (type_type y s) (type_type y t)
    type_alike (type_name p specs stars ls) none {s} {t} al =
        let i = specs_alike false specs (none_first (specs_mark specs) (lengths_mark ls) none) unspelled unspelled refl al in
        let r = ap spelled_rule i.spelled in
        let j = lengths_alike ls (none_second (specs_mark specs) (lengths_mark ls) none) [] [] refl (steps_alike n m seen (star_tokens stars) (ruled_alike n m seen _ _ s.at t.at p r i.state)) in
        record { type = ap₂ (λ x y. type_name p x stars y) i.specs j.lengths; kind = ap₂ (λ x y. arrays_of x (pointed stars (kind_at y))) j.counts r; state = j.state }

    pub lengths_alike : (l : LengthShapes) → lengths_mark l ≡ None → (ls ls' : List Length) → ls' ≡ ls → {s t : State} → Alike n m seen s t → AlikeLengths n m seen (type_lengths ls l s) (type_lengths ls' l t)
    lengths_alike no_lengths none ls ls' e al = record { lengths = refl; counts = e; state = al }
    lengths_alike (more_lengths no_node rest) none ls ls' e al =
        let i = lengths_alike rest none (ls ++ left_out ∷ []) (ls' ++ left_out ∷ []) (ap (λ z. z ++ left_out ∷ []) e) (steps_alike n m seen 2 al) in
        record { lengths = ap (more_lengths no_node) i.lengths; counts = i.counts; state = i.state }
    lengths_alike (more_lengths (one_node a) rest) none ls ls' e {s} {t} al =
        let x = type_node a (step s) in
        let y = type_node a (step t) in
        let i = node_alike a (none_first (node_mark a) (lengths_mark rest) none) (steps_alike n m seen 1 al) in
        let j = lengths_alike rest (none_second (node_mark a) (lengths_mark rest) none) (ls ++ length_of x.sort ∷ []) (ls' ++ length_of y.sort ∷ []) (ap₂ (λ u v. u ++ v ∷ []) e (ap length_of i.sort)) (steps_alike n m seen 1 (judged_by n m seen length_rule x y (step s).at (step t).at (pos_in a) i)) in
        record { lengths = ap₂ (λ u v. more_lengths (one_node u) v) i.node j.lengths; counts = j.counts; state = j.state }

    pub specs_alike : (alone : Bool) (x : SpecShapes) → specs_mark x ≡ None → (a a' : Spelled) → a' ≡ a → {s t : State} → Alike n m seen s t → AlikeSpecs n m seen (type_specs alone x a s) (type_specs alone x a' t)
    specs_alike alone no_specs none a a' e al = record { specs = refl; spelled = e; state = al }
    specs_alike alone (more_specs p (word k) rest) none a a' e {s} {t} al =
        let v = subst (λ z. Alike n m seen (demand (static_fits k s.file) 37 s.at p s) (demand (static_fits k z) 37 t.at p t)) (sym (file_alike n m seen al)) (demand_alike n m seen (static_fits k s.file) 37 s.at t.at p al) in
        let i = specs_alike alone rest none (with_word k a) (with_word k a') (ap (with_word k) e) (steps_alike n m seen 1 v) in
        record { specs = ap (more_specs p (word k)) i.specs; spelled = i.spelled; state = i.state }
    specs_alike alone (more_specs p (struct tag ds) rest) none a a' e al =
        let i = struct_alike alone tag ds (none_second (name_mark tag) (members_mark ds) (none_first (first (name_mark tag) (members_mark ds)) (specs_mark rest) none)) (steps_alike n m seen 1 al) in
        let j = specs_alike alone rest (none_second (first (name_mark tag) (members_mark ds)) (specs_mark rest) none) _ _ (ap₂ with_tagged i.kind e) i.state in
        record { specs = ap₂ (more_specs p) i.spec j.specs; spelled = j.spelled; state = j.state }
    specs_alike alone (more_specs p (enum tag es) rest) none a a' e al =
        let i = enum_alike tag es (none_second (name_mark tag) (rows_mark es) (none_first (first (name_mark tag) (rows_mark es)) (specs_mark rest) none)) (steps_alike n m seen 1 al) in
        let j = specs_alike alone rest (none_second (first (name_mark tag) (rows_mark es)) (specs_mark rest) none) _ _ (ap₂ with_tagged i.kind e) i.state in
        record { specs = ap₂ (more_specs p) i.spec j.specs; spelled = j.spelled; state = j.state }

    struct_alike : (alone : Bool) (x : Option Named) (ds : MaybeDecls) → members_mark ds ≡ None → {s t : State} → Alike n m seen s t → AlikeSpec n m seen (type_struct alone x ds s) (type_struct alone x ds t)
    struct_alike alone x no_members none al =
        let i = opened_alike n m seen alone false x al in
        record { spec = refl; kind = ap structure_kind i.number; state = steps_alike n m seen (tag_tokens x) i.state }
    struct_alike alone x (members ds) none {s} {t} al =
        let i = opened_alike n m seen alone true x al in
        let b = steps_alike n m seen 1 (steps_alike n m seen (tag_tokens x) (begun_alike n m seen _ _ i.number i.state)) in
        let j = lines_alike ds none [] [] refl (outside_alike n m seen false false refl b) in
        record {
          spec = ap (λ z. struct x (members z)) j.decls;
          kind = ap₂ (λ y z. kind_if y (structure_kind z)) (clean_alike n m seen s _ t _ al j.state) i.number;
          state = steps_alike n m seen 1 (outside_alike n m seen _ _ (file_alike n m seen b) (closed_alike n m seen _ _ _ _ i.number j.fields j.state));
        }

    lines_alike : (ds : DeclShapes) → decls_mark ds ≡ None → (fs fs' : List FieldShape) → fs' ≡ fs → {s t : State} → Alike n m seen s t → AlikeDecls n m seen (type_lines ds fs s) (type_lines ds fs' t)
    lines_alike no_decls none fs fs' e al = record { decls = refl; fields = e; state = al }
    lines_alike (more_decls (decl p specs names) rest) none fs fs' e {s} {t} al =
        let here = none_first (first (specs_mark specs) (declarators_mark names)) (decls_mark rest) none in
        let i = specs_alike false specs (none_first (specs_mark specs) (declarators_mark names) here) unspelled unspelled refl al in
        let r = ap spelled_rule i.spelled in
        let j = fields_alike p names (none_second (specs_mark specs) (declarators_mark names) here) _ _ (ap kind_at r) fs fs' e (ruled_alike n m seen _ _ s.at t.at p r i.state) in
        let l = lines_alike rest (none_second (first (specs_mark specs) (declarators_mark names)) (decls_mark rest) none) _ _ j.fields j.state in
        record { decls = three (λ x y z. more_decls (decl p x y) z) i.specs j.names l.decls; fields = l.fields; state = l.state }

    fields_alike : (p : Pos) (names : DeclaratorShapes) → declarators_mark names ≡ None → (k k' : Option TypeOf) → k' ≡ k → (fs fs' : List FieldShape) → fs' ≡ fs → {s t : State} → Alike n m seen s t → AlikeNames n m seen (type_fields p k names fs s) (type_fields p k' names fs' t)
    fields_alike p no_declarators none k k' d fs fs' e al = record { names = refl; fields = e; state = al }
    fields_alike p (more_declarators (declarator stars x (arrays ls) i) rest) none k k' d fs fs' e {s} {t} al =
        let here = none_first (first (name_mark x) (first (lengths_mark ls) (maybe_init_mark i))) (declarators_mark rest) none in
        let lengths = none_first (lengths_mark ls) (maybe_init_mark i) (none_second (name_mark x) (first (lengths_mark ls) (maybe_init_mark i)) here) in
        let b = steps_alike n m seen (star_tokens stars) al in
        let j = lengths_alike ls lengths [] [] refl (steps_alike n m seen 1 b) in
        let y = ap₂ (λ u v. arrays_of u (pointed stars v)) j.counts d in
        let z = ap (λ u. is_free (field_type (text_of x) u)) e in
        let v = field_state_alike n m seen (steps (star_tokens stars) s).at (steps (star_tokens stars) t).at (name_pos p x) _ _ _ _ z y j.state in
        let l = fields_alike p rest (none_second (first (name_mark x) (first (lengths_mark ls) (maybe_init_mark i))) (declarators_mark rest) none) k k' d _ _ (three (λ u v w. with_field u (text_of x) v w) z y e) (steps_alike n m seen 1 v) in
        record { names = ap₂ (λ u w. more_declarators (declarator stars x (arrays u) i) w) j.lengths l.names; fields = l.fields; state = l.state }
    fields_alike p (more_declarators (declarator stars x (function ps) i) rest) none k k' d fs fs' e {s} {t} al =
        let b = steps_alike n m seen (star_tokens stars) al in
        let l = fields_alike p rest (none_second (first (name_mark x) (first (params_mark ps) (maybe_init_mark i))) (declarators_mark rest) none) k k' d fs fs' e (complain_alike n m seen 33 (steps (star_tokens stars) s).at (steps (star_tokens stars) t).at (name_pos p x) (name_pos p x) (steps_alike n m seen 1 b)) in
        record { names = ap (more_declarators (declarator stars x (function ps) i)) l.names; fields = l.fields; state = l.state }

    enum_alike : (x : Option Named) (es : MaybeEnumers) → rows_mark es ≡ None → {s t : State} → Alike n m seen s t → AlikeSpec n m seen (type_enum x es s) (type_enum x es t)
    enum_alike x no_rows none {s} {t} al =
        let o = enumeration_alike n m seen false x al in
        record { spec = refl; kind = ap (λ b. kind_if b (Some (int Int))) (clean_alike n m seen s _ t _ al o); state = steps_alike n m seen (tag_tokens x) o }
    enum_alike x (rows es) none {s} {t} al =
        let i = rows_alike es none (Some (pos 0)) (Some (pos 0)) refl (steps_alike n m seen 1 (steps_alike n m seen (tag_tokens x) (enumeration_alike n m seen true x al))) in
        record { spec = ap (λ z. enum x (rows z)) i.rows; kind = ap (λ b. kind_if b (Some (int Int))) (clean_alike n m seen s _ t _ al i.state); state = i.state }

    rows_alike : (es : EnumerShapes) → enumers_mark es ≡ None → (v v' : Option ℤ) → v' ≡ v → {s t : State} → Alike n m seen s t → AlikeRows n m seen (rows_types v es s) (rows_types v' es t)
    rows_alike no_enumers none v v' e al = record { rows = refl; state = al }
    rows_alike (more_enumers x a rest) none v v' e {s} {t} al =
        let more = none_second (mark_in x.probe) (first (maybe_mark a) (enumers_mark rest)) none in
        let i = value_alike s.at t.at x.pos v v' e a (none_first (maybe_mark a) (enumers_mark rest) more) (steps_alike n m seen 1 al) in
        let j = rows_alike rest (none_second (maybe_mark a) (enumers_mark rest) more) _ _ (ap after i.value) (steps_alike n m seen 1 (declare_alike n m seen s.at t.at x.pos x.text _ _ (ap entity_of i.value) i.state)) in
        record { rows = ap₂ (more_enumers x) i.node j.rows; state = j.state }

    value_alike : (token token' : ℕ) (p : Pos) (v v' : Option ℤ) → v' ≡ v → (a : MaybeNode) → maybe_mark a ≡ None → {s t : State} → Alike n m seen s t → AlikeValued n m seen (type_value token p v a s) (type_value token' p v' a t)
    value_alike token token' p v v' e no_node none {s} {t} al = record { node = refl; value = ap only_int e; state = subst (λ z. Alike n m seen (demand (not (passes v)) 35 token p s) (demand (not (passes z)) 35 token' p t)) (sym e) (demand_alike n m seen (not (passes v)) 35 token token' p al) }
    value_alike token token' p v v' e (one_node a) none {s} {t} al =
        let i = node_alike a none (steps_alike n m seen 1 al) in
        record { node = ap one_node i.node; value = ap (λ (z : Sort). only_int (constants.value z.constant)) i.sort; state = judged_by n m seen value_rule (type_node a (step s)) (type_node a (step t)) (step s).at (step t).at (pos_in a) i }
