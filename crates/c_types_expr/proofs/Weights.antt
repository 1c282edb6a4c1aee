-- How much there is in a tree, for what ends: one more than its parts have.
use Rattle.std.specs.Prelude.{ℕ, ◌+◌}
use Rattle.c_syntax.specs.Shape.{NodeShape, node, ExprShape, leaf, paren, call, prefix, size_of_type, cast, suffix, two, choose, probe, SuffixShape, index, field, behind, ProbeShape, simple, select, NodeShapes, no_nodes, more_nodes, MaybeNode, no_node, one_node, LengthShapes, no_lengths, more_lengths, TypeShape, type_name, SpecShapes, no_specs, more_specs, SpecShape, word, struct, enum, MaybeDecls, no_members, members, MaybeEnumers, no_rows, rows, EnumerShapes, no_enumers, more_enumers, DeclShape, decl, DeclShapes, no_decls, more_decls, DeclaratorShape, declarator, DeclaratorShapes, no_declarators, more_declarators, DeclFormShape, arrays, function}

abbrev mutual
  pub node_weight : NodeShape → ℕ
  node_weight (node p o n f) = 1 + form_weight f

  pub form_weight : ExprShape → ℕ
  form_weight (leaf l) = 1
  form_weight (paren a) = 1 + node_weight a
  form_weight (call x args) = 1 + nodes_weight args
  form_weight (prefix u a) = 1 + node_weight a
  form_weight (size_of_type y) = 1 + type_weight y
  form_weight (cast y a) = 1 + type_weight y + node_weight a
  form_weight (suffix a u) = 1 + node_weight a + suffix_weight u
  form_weight (two u a b) = 1 + node_weight a + node_weight b
  form_weight (choose a b c) = 1 + node_weight a + node_weight b + node_weight c
  form_weight (probe u a) = 1 + probe_weight u + node_weight a

  pub suffix_weight : SuffixShape → ℕ
  suffix_weight (index b) = node_weight b
  suffix_weight (field h x q) = 1
  suffix_weight (behind u) = 1

  pub probe_weight : ProbeShape → ℕ
  probe_weight (simple u x) = 1
  probe_weight (select x cs) = 1 + nodes_weight cs

  pub nodes_weight : NodeShapes → ℕ
  nodes_weight no_nodes = 1
  nodes_weight (more_nodes a rest) = 1 + node_weight a + nodes_weight rest

  pub maybe_weight : MaybeNode → ℕ
  maybe_weight no_node = 1
  maybe_weight (one_node a) = 1 + node_weight a

  pub lengths_weight : LengthShapes → ℕ
  lengths_weight no_lengths = 1
  lengths_weight (more_lengths l rest) = 1 + maybe_weight l + lengths_weight rest

  pub type_weight : TypeShape → ℕ
  type_weight (type_name p specs stars ls) = 1 + specs_weight specs + lengths_weight ls

  pub specs_weight : SpecShapes → ℕ
  specs_weight no_specs = 1
  specs_weight (more_specs p f rest) = 1 + spec_weight f + specs_weight rest

  pub spec_weight : SpecShape → ℕ
  spec_weight (word k) = 1
  spec_weight (struct t ds) = 1 + members_weight ds
  spec_weight (enum t es) = 1 + rows_weight es

  pub members_weight : MaybeDecls → ℕ
  members_weight no_members = 1
  members_weight (members ds) = 1 + decls_weight ds

  pub rows_weight : MaybeEnumers → ℕ
  rows_weight no_rows = 1
  rows_weight (rows es) = 1 + enumers_weight es

  pub enumers_weight : EnumerShapes → ℕ
  enumers_weight no_enumers = 1
  enumers_weight (more_enumers x v rest) = 1 + maybe_weight v + enumers_weight rest

  pub decl_weight : DeclShape → ℕ
  decl_weight (decl p specs names) = 1 + specs_weight specs + declarators_weight names

  pub decls_weight : DeclShapes → ℕ
  decls_weight no_decls = 1
  decls_weight (more_decls d rest) = 1 + decl_weight d + decls_weight rest

  pub declarator_weight : DeclaratorShape → ℕ
  declarator_weight (declarator stars x f i) = 1 + decl_form_weight f

  pub declarators_weight : DeclaratorShapes → ℕ
  declarators_weight no_declarators = 1
  declarators_weight (more_declarators d rest) = 1 + declarator_weight d + declarators_weight rest

  pub decl_form_weight : DeclFormShape → ℕ
  decl_form_weight (arrays ls) = 1 + lengths_weight ls
  decl_form_weight (function ps) = 1
