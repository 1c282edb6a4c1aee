-- Lists of the code whose parts are what is left of the parts of others are what is left of those lists.
use Rattle.std.proofs.Common.{◌≡◌, refl, List, [], ◌∷◌, Option, map, ap, sym, ◌∙◌}
use Rattle.c_base.specs.declared.place.Pos.{Pos}
use Rattle.c_syntax.specs.declared.tree.Node.{Node}
use Rattle.c_syntax.specs.declared.tree.Spec.{Spec}
use Rattle.c_syntax.specs.declared.tree.Decl.{Decl}
use Rattle.c_syntax.specs.declared.tree.Declarator.{Declarator}
use Rattle.c_syntax.specs.declared.tree.Param.{Param}
use Rattle.c_syntax.specs.declared.tree.Init.{Init}
use Rattle.c_syntax.specs.declared.tree.Item.{Item}
use Rattle.c_syntax.specs.declared.tree.Named.{Named}
use Rattle.c_syntax.specs.declared.tree.Enumer.{Enumer, out-Enumer}
use Rattle.c_syntax.specs.Shape.{NodeShape, no_nodes, more_nodes, SpecShape, SpecShapes, no_specs, more_specs, DeclShape, no_decls, more_decls, DeclaratorShape, no_declarators, more_declarators, InitShape, no_inits, more_inits, MaybeNode, one_node, LengthShapes, no_lengths, more_lengths, EnumerShapes, no_enumers, more_enumers, LabelShape, StmtShape, ItemShapes, no_items, more_items}
use Rattle.c_syntax.specs.View.{node_shape, node_list, type_lengths_list, spec_shape, spec_list, decl_shape, decl_list, declarator_shape, declarator_list, param_shape, param_list, init_shape, init_list, maybe_node, lengths_list, enumer_list, label_shape, stmt_shape, item_list}
use Rattle.c_copy.proofs.Lists.{spec_pair, enumer_pair}
use Rattle.c_tree.specs.Erased.{erased_name, erased_node, erased_nodes, erased_maybe, erased_lengths, erased_spec, erased_specs, erased_enumers, erased_decl, erased_decls, erased_declarator, erased_declarators, erased_init, erased_inits, erased_label, erased_stmt, erased_items}

-- ---- what is left of a part

abbrev pub left_node : Node → NodeShape
left_node n = erased_node (node_shape n)

abbrev pub left_spec : Spec → Pos × SpecShape
left_spec s = (s.pos, erased_spec (spec_shape s.form))

abbrev pub left_enumer : Enumer → Named × MaybeNode
left_enumer e = (erased_name (out-Enumer e).name, erased_maybe (maybe_node (out-Enumer e).value))

abbrev pub left_decl : Decl → DeclShape
left_decl d = erased_decl (decl_shape d)

abbrev pub left_declarator : Declarator → DeclaratorShape
left_declarator d = erased_declarator (declarator_shape d)

abbrev pub left_param : Param → DeclShape
left_param p = erased_decl (param_shape p)

abbrev pub left_init : Init → InitShape
left_init i = erased_init (init_shape i)

abbrev pub left_length : Option Node → MaybeNode
left_length l = erased_maybe (maybe_node l)

-- a statement in a list, with its labels
abbrev pub item_pair : Item → List LabelShape × StmtShape
item_pair i = (map label_shape i.labels.items, stmt_shape i.stmt)

abbrev pub left_item : Item → List LabelShape × StmtShape
left_item i = (map erased_label (map label_shape i.labels.items), erased_stmt (stmt_shape i.stmt))

-- ---- lists

abbrev listed : {S L : Type 0} → L → (S → L → L) → List S → L
listed none more [] = none
listed none more (x ∷ rest) = more x (listed none more rest)

by_parts : {A S L : Type 0} (none : L) (more : S → L → L) (list : List A → L) (part : A → S) → list [] ≡ none → ((x : A) (xs : List A) → list (x ∷ xs) ≡ more (part x) (list xs)) → (xs : List A) → list xs ≡ listed none more (map part xs)
by_parts none more list part start next [] = start
by_parts none more list part start next (x ∷ xs) = next x xs ∙ ap (more (part x)) (by_parts none more list part start next xs)

-- lists that are made alike of the same parts are the same
same_list : {A S L : Type 0} (none : L) (more : S → L → L) (list other : List A → L) (part left : A → S) → list [] ≡ none → ((x : A) (xs : List A) → list (x ∷ xs) ≡ more (part x) (list xs)) → other [] ≡ none → ((x : A) (xs : List A) → other (x ∷ xs) ≡ more (left x) (other xs)) → (xs ys : List A) → map part xs ≡ map left ys → list xs ≡ other ys
same_list none more list other part left start next begin follow xs ys e =
    by_parts none more list part start next xs ∙ ap (listed none more) e ∙ sym (by_parts none more other left begin follow ys)

pub nodes_left : (xs ys : List Node) → map node_shape xs ≡ map left_node ys → node_list xs ≡ erased_nodes (node_list ys)
nodes_left xs ys e = same_list no_nodes more_nodes node_list (λ l. erased_nodes (node_list l)) node_shape left_node refl (λ x l. refl) refl (λ x l. refl) xs ys e

abbrev more_length : NodeShape → LengthShapes → LengthShapes
more_length n rest = more_lengths (one_node n) rest

pub type_lengths_left : (xs ys : List Node) → map node_shape xs ≡ map left_node ys → type_lengths_list xs ≡ erased_lengths (type_lengths_list ys)
type_lengths_left xs ys e = same_list no_lengths more_length type_lengths_list (λ l. erased_lengths (type_lengths_list l)) node_shape left_node refl (λ x l. refl) refl (λ x l. refl) xs ys e

abbrev more_spec : Pos × SpecShape → SpecShapes → SpecShapes
more_spec s rest = more_specs s.0 s.1 rest

pub specs_left : (xs ys : List Spec) → map spec_pair xs ≡ map left_spec ys → spec_list xs ≡ erased_specs (spec_list ys)
specs_left xs ys e = same_list no_specs more_spec spec_list (λ l. erased_specs (spec_list l)) spec_pair left_spec refl (λ x l. refl) refl (λ x l. refl) xs ys e

abbrev more_enumer : Named × MaybeNode → EnumerShapes → EnumerShapes
more_enumer e rest = more_enumers e.0 e.1 rest

pub enumers_left : (xs ys : List Enumer) → map enumer_pair xs ≡ map left_enumer ys → enumer_list xs ≡ erased_enumers (enumer_list ys)
enumers_left xs ys e = same_list no_enumers more_enumer enumer_list (λ l. erased_enumers (enumer_list l)) enumer_pair left_enumer refl (λ x l. refl) refl (λ x l. refl) xs ys e

pub decls_left : (xs ys : List Decl) → map decl_shape xs ≡ map left_decl ys → decl_list xs ≡ erased_decls (decl_list ys)
decls_left xs ys e = same_list no_decls more_decls decl_list (λ l. erased_decls (decl_list l)) decl_shape left_decl refl (λ x l. refl) refl (λ x l. refl) xs ys e

pub declarators_left : (xs ys : List Declarator) → map declarator_shape xs ≡ map left_declarator ys → declarator_list xs ≡ erased_declarators (declarator_list ys)
declarators_left xs ys e = same_list no_declarators more_declarators declarator_list (λ l. erased_declarators (declarator_list l)) declarator_shape left_declarator refl (λ x l. refl) refl (λ x l. refl) xs ys e

pub params_left : (xs ys : List Param) → map param_shape xs ≡ map left_param ys → param_list xs ≡ erased_decls (param_list ys)
params_left xs ys e = same_list no_decls more_decls param_list (λ l. erased_decls (param_list l)) param_shape left_param refl (λ x l. refl) refl (λ x l. refl) xs ys e

pub inits_left : (xs ys : List Init) → map init_shape xs ≡ map left_init ys → init_list xs ≡ erased_inits (init_list ys)
inits_left xs ys e = same_list no_inits more_inits init_list (λ l. erased_inits (init_list l)) init_shape left_init refl (λ x l. refl) refl (λ x l. refl) xs ys e

pub lengths_left : (xs ys : List (Option Node)) → map maybe_node xs ≡ map left_length ys → lengths_list xs ≡ erased_lengths (lengths_list ys)
lengths_left xs ys e = same_list no_lengths more_lengths lengths_list (λ l. erased_lengths (lengths_list l)) maybe_node left_length refl (λ x l. refl) refl (λ x l. refl) xs ys e

abbrev more_item : List LabelShape × StmtShape → ItemShapes → ItemShapes
more_item i rest = more_items i.0 i.1 rest

pub items_left : (xs ys : List Item) → map item_pair xs ≡ map left_item ys → item_list xs ≡ erased_items (item_list ys)
items_left xs ys e = same_list no_items more_item item_list (λ l. erased_items (item_list l)) item_pair left_item refl (λ x l. refl) refl (λ x l. refl) xs ys e
