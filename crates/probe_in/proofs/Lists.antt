-- The lists of declarations and statements, as they get their probes.
use Rattle.std.proofs.Common.{◌≡◌, ℕ, refl, List, [], ◌∷◌, map, Bool, false}
use Rattle.std.specs.Prelude.{◌||◌}
use Rattle.c_syntax.specs.declared.tree.Declarator.{Declarator}
use Rattle.c_syntax.specs.declared.tree.Decl.{Decl}
use Rattle.c_syntax.specs.declared.tree.Param.{Param}
use Rattle.c_syntax.specs.declared.tree.Item.{Item}
use Rattle.c_syntax.specs.declared.tree.External.{External}
use Rattle.c_syntax.specs.Shape.{DeclaratorShape, DeclaratorShapes, no_declarators, more_declarators, DeclShape, DeclShapes, no_decls, more_decls, LabelShape, StmtShape, ItemShapes, no_items, more_items, ExternalShape}
use Rattle.c_syntax.specs.View.{declarator_shape, declarator_list, decl_shape, decl_list, param_shape, param_list, label_shape, stmt_shape, item_list, external_shape}
use Rattle.c_tables.specs.Tables.{TablesShape}
use Rattle.c_walk.specs.declared.around.Around.{Around}
use Rattle.c_walk.specs.Walked.{Walked, with_block_if}
use Rattle.c_walk.specs.Stating.{walk_declarator, walk_declarators, walk_decl, walk_decls, pos_of_stmt, splits, is_labelled, walk_stmt, walk_items}
use Rattle.c_walk.specs.Units as units
use Rattle.c_walk.specs.Units.{define_declarator, define_declarators, define_decl, define_decls, walk_external, walk_externals}
use Rattle.probe_rules.specs.Instrumented.{defined_declarator, defined_declarators, defined_decl, defined_decls, probed_external, probed_externals}
use Rattle.probe_rules.specs.ProbedStatements.{probed_declarator, probed_declarators, probed_decl, probed_decls, probed_stmt, probed_items}
use Rattle.probe_expr.specs.declared.numbers.Numbers.{Numbers}
use Rattle.probe_expr.specs.Numbers.{counts}
use Rattle.probe_expr.proofs.Listing.{Listing, SoFar}

abbrev pub declarators : TablesShape → Around → Listing Declarator DeclaratorShape DeclaratorShapes Walked Numbers
declarators t c = record {
  shape = declarator_shape;
  none = no_declarators;
  more = more_declarators;
  list = declarator_list;
  one = probed_declarator t c;
  step = walk_declarator t c;
  all = probed_declarators t c;
  walk = walk_declarators t c;
  known = counts;
  seen = λ w. w;
  list_none = refl;
  list_more = λ x xs. refl;
  all_none = λ v. refl;
  all_more = λ s l v. refl;
  walk_none = λ v. refl;
  walk_more = λ s l v. refl;
}

abbrev pub decls : TablesShape → Around → Listing Decl DeclShape DeclShapes Walked Numbers
decls t c = record {
  shape = decl_shape;
  none = no_decls;
  more = more_decls;
  list = decl_list;
  one = probed_decl t c;
  step = walk_decl t c;
  all = probed_decls t c;
  walk = walk_decls t c;
  known = counts;
  seen = λ w. w;
  list_none = refl;
  list_more = λ x xs. refl;
  all_none = λ v. refl;
  all_more = λ s l v. refl;
  walk_none = λ v. refl;
  walk_more = λ s l v. refl;
}

-- statements, behind one that splits their list or not
abbrev pub items : TablesShape → Around → Listing Item (List LabelShape × StmtShape) ItemShapes (Bool × Walked) (Bool × Numbers)
items t c = record {
  shape = λ i. (map label_shape i.labels.items, stmt_shape i.stmt);
  none = no_items;
  more = λ s l. more_items s.0 s.1 l;
  list = item_list;
  one = λ s v. (s.0, probed_stmt t c (v.0 || is_labelled s.0) s.1 v.1);
  step = λ s v. (splits s.1, walk_stmt t c s.1 (with_block_if (v.0 || is_labelled s.0) (pos_of_stmt s.1) v.1));
  all = λ l v. probed_items t c v.0 l v.1;
  walk = λ l v. walk_items t c v.0 l v.1;
  known = λ v. (v.0, counts v.1);
  seen = λ v. v.1;
  list_none = refl;
  list_more = λ x xs. refl;
  all_none = λ v. refl;
  all_more = λ s l v. refl;
  walk_none = λ v. refl;
  walk_more = λ s l v. refl;
}

-- declarators that are defined at their names
abbrev pub defined_names : TablesShape → ℕ → Listing Declarator DeclaratorShape DeclaratorShapes Walked Numbers
defined_names t f = record {
  shape = declarator_shape;
  none = no_declarators;
  more = more_declarators;
  list = declarator_list;
  one = defined_declarator t f;
  step = define_declarator t f;
  all = defined_declarators t f;
  walk = define_declarators t f;
  known = counts;
  seen = λ w. w;
  list_none = refl;
  list_more = λ x xs. refl;
  all_none = λ v. refl;
  all_more = λ s l v. refl;
  walk_none = λ v. refl;
  walk_more = λ s l v. refl;
}

abbrev pub parameters : TablesShape → ℕ → Listing Param DeclShape DeclShapes Walked Numbers
parameters t f = record {
  shape = param_shape;
  none = no_decls;
  more = more_decls;
  list = param_list;
  one = defined_decl t f;
  step = define_decl t f;
  all = defined_decls t f;
  walk = define_decls t f;
  known = counts;
  seen = λ w. w;
  list_none = refl;
  list_more = λ x xs. refl;
  all_none = λ v. refl;
  all_more = λ s l v. refl;
  walk_none = λ v. refl;
  walk_more = λ s l v. refl;
}

abbrev pub externals : TablesShape → Listing External ExternalShape (List ExternalShape) Walked Numbers
externals t = record {
  shape = external_shape;
  none = [];
  more = λ e l. e ∷ l;
  list = map external_shape;
  one = probed_external t;
  step = walk_external t;
  all = probed_externals t;
  walk = walk_externals t;
  known = counts;
  seen = λ w. w;
  list_none = refl;
  list_more = λ x xs. refl;
  all_none = λ v. refl;
  all_more = λ s l v. refl;
  walk_none = λ v. refl;
  walk_more = λ s l v. refl;
}

-- ---- a list so far, wherever it stands behind a walk with the first numbers

abbrev pub DeclaratorsSoFar : Numbers → Numbers → List Declarator → List Declarator → List Declarator → Type 0
DeclaratorsSoFar n m made left whole = (t : TablesShape) (c : Around) (w : Walked) → counts w ≡ n → SoFar (declarators t c) m made left whole w

abbrev pub DeclsSoFar : Numbers → Numbers → List Decl → List Decl → List Decl → Type 0
DeclsSoFar n m made left whole = (t : TablesShape) (c : Around) (w : Walked) → counts w ≡ n → SoFar (decls t c) m made left whole w

abbrev pub ItemsSoFar : Numbers → Numbers → Bool → List Item → List Item → List Item → Type 0
ItemsSoFar n m after made left whole = (t : TablesShape) (c : Around) (w : Walked) → counts w ≡ n → SoFar (items t c) (after, m) made left whole (false, w)

abbrev pub DefinedSoFar : Numbers → Numbers → List Declarator → List Declarator → List Declarator → Type 0
DefinedSoFar n m made left whole = (t : TablesShape) (f : ℕ) (w : Walked) → counts w ≡ n → SoFar (defined_names t f) m made left whole w

abbrev pub ParametersSoFar : Numbers → Numbers → List Param → List Param → List Param → Type 0
ParametersSoFar n m made left whole = (t : TablesShape) (f : ℕ) (w : Walked) → counts w ≡ n → SoFar (parameters t f) m made left whole w

abbrev pub ExternalsSoFar : Numbers → List External → List External → List External → Type 0
ExternalsSoFar m made left whole = (t : TablesShape) → SoFar (externals t) m made left whole units.no_items
