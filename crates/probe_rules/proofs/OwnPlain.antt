-- Where no probe stands, none has an owner.
use Rattle.std.proofs.Common.{◌≡◌, ℕ, List, [], ◌∷◌, Option, None, ◌∙◌, refl, ap}
use Rattle.c_base.specs.declared.place.Pos.{Pos}
use Rattle.c_syntax.specs.Shape.{NodeShape, node, ExprShape, leaf, paren, call, prefix, size_of_type, cast, suffix, two, choose, probe, SuffixShape, index, field, behind, NodeShapes, no_nodes, more_nodes, MaybeNode, no_node, one_node, LengthShapes, no_lengths, more_lengths, TypeShape, type_name, SpecShapes, no_specs, more_specs, SpecShape, word, struct, enum, MaybeDecls, no_members, members, MaybeEnumers, no_rows, rows, EnumerShapes, no_enumers, more_enumers, DeclShape, decl, DeclShapes, no_decls, more_decls, DeclaratorShape, declarator, DeclaratorShapes, no_declarators, more_declarators, DeclFormShape, arrays, function, ParamsShape, empty, void, params, MaybeInit, no_init, one_init, InitShape, one, listed, InitShapes, no_inits, more_inits, LabelShape, case, default}
use Rattle.c_sites_probes.specs.Marked.{first, mark_in, name_mark, node_mark, form_mark, suffix_mark, nodes_mark, maybe_mark, lengths_mark, type_mark, specs_mark, spec_mark, members_mark, rows_mark, enumers_mark, decls_mark, decl_mark, declarators_mark, declarator_mark, behind_mark, params_mark, maybe_init_mark, init_mark, inits_mark, labels_mark}
use Rattle.c_sites_probes.specs.Owned.{own_node, own_form, own_suffix, own_nodes, own_maybe, own_lengths, own_type, own_specs, own_spec, own_members, own_rows, own_enumers, own_decls, own_decl, own_declarators, own_declarator, own_behind, own_params, own_maybe_init, own_init, own_inits, own_labels}
use Rattle.probe_rules.proofs.ReadyUnits.{some_none, none_first, none_second}

-- one behind the other
both_none : {A : Type 0} (x y : Option Pos) (f g : A → A) (s : A) → first x y ≡ None → (x ≡ None → f s ≡ s) → (y ≡ None → g s ≡ s) → g (f s) ≡ s
both_none x y f g s none go next = ap g (go (none_first x y none)) ∙ next (none_second x y none)

module _ (o : Option ℕ) (s : List (ℕ × ℕ)) where
  mutual
    pub node_none : (a : NodeShape) → node_mark a ≡ None → own_node o a s ≡ s
    node_none (node p q n f) none = form_none p f none

    form_none : (p : Pos) (f : ExprShape) → form_mark p f ≡ None → own_form o f s ≡ s
    form_none p (leaf l) none = refl
    form_none p (paren a) none = node_none a none
    form_none p (call x args) none = nodes_none args none
    form_none p (prefix u a) none = node_none a none
    form_none p (size_of_type t) none = type_none t none
    form_none p (cast t a) none = both_none (type_mark t) (node_mark a) (own_type o t) (own_node o a) s none (λ e. type_none t e) (λ e. node_none a e)
    form_none p (suffix a b) none = both_none (node_mark a) (suffix_mark b) (own_node o a) (own_suffix o b) s none (λ e. node_none a e) (λ e. suffix_none b e)
    form_none p (two u a b) none = both_none (node_mark a) (node_mark b) (own_node o a) (own_node o b) s none (λ e. node_none a e) (λ e. node_none b e)
    form_none p (choose a b c) none =
        both_none (node_mark a) (first (node_mark b) (node_mark c)) (own_node o a) (λ s. own_node o c (own_node o b s)) s none (λ e. node_none a e) (λ e.
        both_none (node_mark b) (node_mark c) (own_node o b) (own_node o c) s e (λ e. node_none b e) (λ e. node_none c e))
    form_none p (probe u a) none = absurd (some_none p none)

    suffix_none : (b : SuffixShape) → suffix_mark b ≡ None → own_suffix o b s ≡ s
    suffix_none (index b) none = node_none b none
    suffix_none (field h x q) none = refl
    suffix_none (behind u) none = refl

    pub nodes_none : (es : NodeShapes) → nodes_mark es ≡ None → own_nodes o es s ≡ s
    nodes_none no_nodes none = refl
    nodes_none (more_nodes a rest) none = both_none (node_mark a) (nodes_mark rest) (own_node o a) (own_nodes o rest) s none (λ e. node_none a e) (λ e. nodes_none rest e)

    maybe_none : (e : MaybeNode) → maybe_mark e ≡ None → own_maybe o e s ≡ s
    maybe_none no_node none = refl
    maybe_none (one_node a) none = node_none a none

    pub lengths_none : (ls : LengthShapes) → lengths_mark ls ≡ None → own_lengths o ls s ≡ s
    lengths_none no_lengths none = refl
    lengths_none (more_lengths l rest) none = both_none (maybe_mark l) (lengths_mark rest) (own_maybe o l) (own_lengths o rest) s none (λ e. maybe_none l e) (λ e. lengths_none rest e)

    pub type_none : (t : TypeShape) → type_mark t ≡ None → own_type o t s ≡ s
    type_none (type_name p specs stars ls) none = both_none (specs_mark specs) (lengths_mark ls) (own_specs o specs) (own_lengths o ls) s none (λ e. specs_none specs e) (λ e. lengths_none ls e)

    pub specs_none : (x : SpecShapes) → specs_mark x ≡ None → own_specs o x s ≡ s
    specs_none no_specs none = refl
    specs_none (more_specs p x rest) none = both_none (spec_mark x) (specs_mark rest) (own_spec o x) (own_specs o rest) s none (λ e. spec_none x e) (λ e. specs_none rest e)

    spec_none : (x : SpecShape) → spec_mark x ≡ None → own_spec o x s ≡ s
    spec_none (word x) none = refl
    spec_none (struct tag ds) none = members_none ds (none_second (name_mark tag) (members_mark ds) none)
    spec_none (enum tag es) none = rows_none es (none_second (name_mark tag) (rows_mark es) none)

    members_none : (ds : MaybeDecls) → members_mark ds ≡ None → own_members o ds s ≡ s
    members_none no_members none = refl
    members_none (members ds) none = decls_none ds none

    rows_none : (es : MaybeEnumers) → rows_mark es ≡ None → own_rows o es s ≡ s
    rows_none no_rows none = refl
    rows_none (rows es) none = enumers_none es none

    enumers_none : (es : EnumerShapes) → enumers_mark es ≡ None → own_enumers o es s ≡ s
    enumers_none no_enumers none = refl
    enumers_none (more_enumers x v rest) none =
        both_none (maybe_mark v) (enumers_mark rest) (own_maybe o v) (own_enumers o rest) s (none_second (mark_in x.probe) (first (maybe_mark v) (enumers_mark rest)) none) (λ e. maybe_none v e) (λ e. enumers_none rest e)

    pub decls_none : (ds : DeclShapes) → decls_mark ds ≡ None → own_decls o ds s ≡ s
    decls_none no_decls none = refl
    decls_none (more_decls d rest) none = both_none (decl_mark d) (decls_mark rest) (own_decl o d) (own_decls o rest) s none (λ e. decl_none d e) (λ e. decls_none rest e)

    pub decl_none : (d : DeclShape) → decl_mark d ≡ None → own_decl o d s ≡ s
    decl_none (decl p specs ds) none = both_none (specs_mark specs) (declarators_mark ds) (own_specs o specs) (own_declarators o ds) s none (λ e. specs_none specs e) (λ e. declarators_none ds e)

    pub declarators_none : (ds : DeclaratorShapes) → declarators_mark ds ≡ None → own_declarators o ds s ≡ s
    declarators_none no_declarators none = refl
    declarators_none (more_declarators d rest) none = both_none (declarator_mark d) (declarators_mark rest) (own_declarator o d) (own_declarators o rest) s none (λ e. declarator_none d e) (λ e. declarators_none rest e)

    pub declarator_none : (d : DeclaratorShape) → declarator_mark d ≡ None → own_declarator o d s ≡ s
    declarator_none (declarator stars x f i) none =
        both_none (behind_mark f) (maybe_init_mark i) (own_behind o f) (own_maybe_init o i) s (none_second (name_mark x) (first (behind_mark f) (maybe_init_mark i)) none) (λ e. behind_none f e) (λ e. maybe_init_none i e)

    pub behind_none : (f : DeclFormShape) → behind_mark f ≡ None → own_behind o f s ≡ s
    behind_none (arrays ls) none = lengths_none ls none
    behind_none (function ps) none = params_none ps none

    pub params_none : (ps : ParamsShape) → params_mark ps ≡ None → own_params o ps s ≡ s
    params_none empty none = refl
    params_none void none = refl
    params_none (params ds) none = decls_none ds none

    pub maybe_init_none : (i : MaybeInit) → maybe_init_mark i ≡ None → own_maybe_init o i s ≡ s
    maybe_init_none no_init none = refl
    maybe_init_none (one_init i) none = init_none i none

    init_none : (i : InitShape) → init_mark i ≡ None → own_init o i s ≡ s
    init_none (one a) none = node_none a none
    init_none (listed p list last) none = inits_none list none

    pub inits_none : (is : InitShapes) → inits_mark is ≡ None → own_inits o is s ≡ s
    inits_none no_inits none = refl
    inits_none (more_inits i rest) none = both_none (init_mark i) (inits_mark rest) (own_init o i) (own_inits o rest) s none (λ e. init_none i e) (λ e. inits_none rest e)

pub labels_none : (ls : List LabelShape) (s : List (ℕ × ℕ)) → labels_mark ls ≡ None → own_labels ls s ≡ s
labels_none [] s none = refl
labels_none (case p a ∷ rest) s none = both_none (node_mark a) (labels_mark rest) (own_node None a) (own_labels rest) s none (λ e. node_none None s a e) (λ e. labels_none rest s e)
labels_none (default p ∷ rest) s none = labels_none rest s none
