-- Lists of the code whose parts have the same shapes are the same lists of shapes.
use Rattle.std.proofs.Common.{◌≡◌, refl, List, [], ◌∷◌, Option, map, ap, sym, ◌∙◌}
use Rattle.c_base.specs.declared.place.Pos.{Pos}
use Rattle.c_syntax.specs.declared.tree.Node.{Node}
use Rattle.c_syntax.specs.declared.tree.Spec.{Spec}
use Rattle.c_syntax.specs.declared.tree.Decl.{Decl}
use Rattle.c_syntax.specs.declared.tree.Declarator.{Declarator}
use Rattle.c_syntax.specs.declared.tree.Param.{Param}
use Rattle.c_syntax.specs.declared.tree.Init.{Init}
use Rattle.c_syntax.specs.declared.tree.Named.{Named}
use Rattle.c_syntax.specs.declared.tree.Enumer.{Enumer, out-Enumer}
use Rattle.c_syntax.specs.Shape.{NodeShape, NodeShapes, no_nodes, more_nodes, SpecShape, SpecShapes, no_specs, more_specs, DeclShape, DeclShapes, no_decls, more_decls, DeclaratorShape, DeclaratorShapes, no_declarators, more_declarators, InitShape, InitShapes, no_inits, more_inits, MaybeNode, one_node, LengthShapes, no_lengths, more_lengths, EnumerShapes, no_enumers, more_enumers}
use Rattle.c_syntax.specs.View.{node_shape, node_list, type_lengths_list, spec_shape, spec_list, decl_shape, decl_list, declarator_shape, declarator_list, param_shape, param_list, init_shape, init_list, maybe_node, lengths_list, enumer_list}

-- a specifier with its place, and an enumerator's name and value
abbrev pub spec_pair : Spec → Pos × SpecShape
spec_pair s = (s.pos, spec_shape s.form)

abbrev pub enumer_pair : Enumer → Named × MaybeNode
enumer_pair e = ((out-Enumer e).name, maybe_node (out-Enumer e).value)

abbrev nodes_of : List NodeShape → NodeShapes
nodes_of [] = no_nodes
nodes_of (x ∷ rest) = more_nodes x (nodes_of rest)

nodes_by : (xs : List Node) → node_list xs ≡ nodes_of (map node_shape xs)
nodes_by [] = refl
nodes_by (x ∷ xs) = ap (more_nodes (node_shape x)) (nodes_by xs)

pub same_nodes : (xs ys : List Node) → map node_shape xs ≡ map node_shape ys → node_list xs ≡ node_list ys
same_nodes xs ys e = nodes_by xs ∙ ap nodes_of e ∙ sym (nodes_by ys)

abbrev specs_of : List (Pos × SpecShape) → SpecShapes
specs_of [] = no_specs
specs_of (x ∷ rest) = more_specs x.0 x.1 (specs_of rest)

specs_by : (xs : List Spec) → spec_list xs ≡ specs_of (map spec_pair xs)
specs_by [] = refl
specs_by (x ∷ xs) = ap (more_specs x.pos (spec_shape x.form)) (specs_by xs)

pub same_specs : (xs ys : List Spec) → map spec_pair xs ≡ map spec_pair ys → spec_list xs ≡ spec_list ys
same_specs xs ys e = specs_by xs ∙ ap specs_of e ∙ sym (specs_by ys)

abbrev decls_of : List DeclShape → DeclShapes
decls_of [] = no_decls
decls_of (x ∷ rest) = more_decls x (decls_of rest)

decls_by : (xs : List Decl) → decl_list xs ≡ decls_of (map decl_shape xs)
decls_by [] = refl
decls_by (x ∷ xs) = ap (more_decls (decl_shape x)) (decls_by xs)

pub same_decls : (xs ys : List Decl) → map decl_shape xs ≡ map decl_shape ys → decl_list xs ≡ decl_list ys
same_decls xs ys e = decls_by xs ∙ ap decls_of e ∙ sym (decls_by ys)

abbrev declarators_of : List DeclaratorShape → DeclaratorShapes
declarators_of [] = no_declarators
declarators_of (x ∷ rest) = more_declarators x (declarators_of rest)

declarators_by : (xs : List Declarator) → declarator_list xs ≡ declarators_of (map declarator_shape xs)
declarators_by [] = refl
declarators_by (x ∷ xs) = ap (more_declarators (declarator_shape x)) (declarators_by xs)

pub same_declarators : (xs ys : List Declarator) → map declarator_shape xs ≡ map declarator_shape ys → declarator_list xs ≡ declarator_list ys
same_declarators xs ys e = declarators_by xs ∙ ap declarators_of e ∙ sym (declarators_by ys)

abbrev params_of : List DeclShape → DeclShapes
params_of [] = no_decls
params_of (x ∷ rest) = more_decls x (params_of rest)

params_by : (xs : List Param) → param_list xs ≡ params_of (map param_shape xs)
params_by [] = refl
params_by (x ∷ xs) = ap (more_decls (param_shape x)) (params_by xs)

pub same_params : (xs ys : List Param) → map param_shape xs ≡ map param_shape ys → param_list xs ≡ param_list ys
same_params xs ys e = params_by xs ∙ ap params_of e ∙ sym (params_by ys)

abbrev inits_of : List InitShape → InitShapes
inits_of [] = no_inits
inits_of (x ∷ rest) = more_inits x (inits_of rest)

inits_by : (xs : List Init) → init_list xs ≡ inits_of (map init_shape xs)
inits_by [] = refl
inits_by (x ∷ xs) = ap (more_inits (init_shape x)) (inits_by xs)

pub same_inits : (xs ys : List Init) → map init_shape xs ≡ map init_shape ys → init_list xs ≡ init_list ys
same_inits xs ys e = inits_by xs ∙ ap inits_of e ∙ sym (inits_by ys)

abbrev lengths_of : List MaybeNode → LengthShapes
lengths_of [] = no_lengths
lengths_of (x ∷ rest) = more_lengths x (lengths_of rest)

lengths_by : (xs : List (Option Node)) → lengths_list xs ≡ lengths_of (map maybe_node xs)
lengths_by [] = refl
lengths_by (x ∷ xs) = ap (more_lengths (maybe_node x)) (lengths_by xs)

pub same_lengths : (xs ys : List (Option Node)) → map maybe_node xs ≡ map maybe_node ys → lengths_list xs ≡ lengths_list ys
same_lengths xs ys e = lengths_by xs ∙ ap lengths_of e ∙ sym (lengths_by ys)

abbrev type_lengths_of : List NodeShape → LengthShapes
type_lengths_of [] = no_lengths
type_lengths_of (x ∷ rest) = more_lengths (one_node x) (type_lengths_of rest)

type_lengths_by : (xs : List Node) → type_lengths_list xs ≡ type_lengths_of (map node_shape xs)
type_lengths_by [] = refl
type_lengths_by (x ∷ xs) = ap (more_lengths (one_node (node_shape x))) (type_lengths_by xs)

pub same_type_lengths : (xs ys : List Node) → map node_shape xs ≡ map node_shape ys → type_lengths_list xs ≡ type_lengths_list ys
same_type_lengths xs ys e = type_lengths_by xs ∙ ap type_lengths_of e ∙ sym (type_lengths_by ys)

abbrev enumers_of : List (Named × MaybeNode) → EnumerShapes
enumers_of [] = no_enumers
enumers_of (x ∷ rest) = more_enumers x.0 x.1 (enumers_of rest)

enumers_by : (xs : List Enumer) → enumer_list xs ≡ enumers_of (map enumer_pair xs)
enumers_by [] = refl
enumers_by (x ∷ xs) = ap (more_enumers (out-Enumer x).name (maybe_node (out-Enumer x).value)) (enumers_by xs)

pub same_enumers : (xs ys : List Enumer) → map enumer_pair xs ≡ map enumer_pair ys → enumer_list xs ≡ enumer_list ys
same_enumers xs ys e = enumers_by xs ∙ ap enumers_of e ∙ sym (enumers_by ys)
