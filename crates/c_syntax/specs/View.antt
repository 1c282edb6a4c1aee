-- The shape of a tree.
use Rattle.std.specs.Prelude.{List, [], ◌∷◌, Option, Some, None, map}
use Rattle.c_syntax.specs.declared.tree.Expr.{Expr, Row_of-Node, end_of-Node, more_of-Node}
use Rattle.c_syntax.specs.declared.tree.Expr.TheVariants.{Number, Char, Str, Name, Paren', Index', Member', Arrow', Call', Unary', Step', SizeOf', SizeOfType, Cast', Binary', And', Or', Cond', Assign', Comma', Probe'}
use Rattle.c_syntax.specs.declared.tree.ExprProbe.{ExprProbe}
use Rattle.c_syntax.specs.declared.tree.ExprProbe.TheVariants.{Block, Test, Select', Use, Def}
use Rattle.c_syntax.specs.declared.tree.StepOp.{StepOp}
use Rattle.c_syntax.specs.declared.tree.StepOp.TheVariants as way
use Rattle.c_syntax.specs.declared.tree.Node.{Node}
use Rattle.c_syntax.specs.declared.tree.Spec.{Spec}
use Rattle.c_syntax.specs.declared.tree.Declarator.{Declarator}
use Rattle.c_syntax.specs.declared.tree.TypeName.{TypeName, TypeName', Row_of-Spec, end_of-Spec, more_of-Spec}
use Rattle.c_syntax.specs.declared.tree.SpecForm.{SpecForm, Held-SpecForm-Struct-1, SpecForm-Struct-1-None', SpecForm-Struct-1-Some', Held-SpecForm-Enum-1, SpecForm-Enum-1-None', SpecForm-Enum-1-Some', Row_of-Decl, end_of-Decl, more_of-Decl, Row_of-Enumer, end_of-Enumer, more_of-Enumer}
use Rattle.c_syntax.specs.declared.tree.SpecForm.TheVariants as spec
use Rattle.c_syntax.specs.declared.tree.Decl.{Decl, Decl', Held-Declarator-init, Declarator-init-None', Declarator-init-Some', Row_of-Declarator, end_of-Declarator, more_of-Declarator}
use Rattle.c_syntax.specs.declared.tree.Enumer.{Enumer, Enumer', out-Enumer, Held-DeclForm-Arrays-0-1, DeclForm-Arrays-0-1-None', DeclForm-Arrays-0-1-Some'}
use Rattle.c_syntax.specs.declared.tree.DeclForm.{DeclForm, Row_of-DeclForm-Arrays-0-1, end_of-DeclForm-Arrays-0-1, more_of-DeclForm-Arrays-0-1}
use Rattle.c_syntax.specs.declared.tree.DeclForm.TheVariants.{Arrays', Function}
use Rattle.c_syntax.specs.declared.tree.Params.{Params, Row_of-Param, end_of-Param, more_of-Param}
use Rattle.c_syntax.specs.declared.tree.Params.TheVariants as ps
use Rattle.c_syntax.specs.declared.tree.Param.{Param, Param'}
use Rattle.c_syntax.specs.declared.tree.Init.{Init, Row_of-Init, end_of-Init, more_of-Init}
use Rattle.c_syntax.specs.declared.tree.Init.TheVariants as init
use Rattle.c_syntax.specs.declared.tree.CType.{CType}
use Rattle.c_syntax.specs.declared.tree.CType.TheVariants as ctype
use Rattle.c_syntax.specs.declared.tree.Note.{Note}
use Rattle.c_syntax.specs.declared.tree.Note.TheVariants as note
use Rattle.c_syntax.specs.declared.tree.Label.{Label}
use Rattle.c_syntax.specs.declared.tree.Label.TheVariants as label
use Rattle.c_syntax.specs.declared.tree.Stmt.{Stmt}
use Rattle.c_syntax.specs.declared.tree.StmtForm.{StmtForm, Held-StmtForm-If-2, None', Some', Row_of-Item, end_of-Item, more_of-Item}
use Rattle.c_syntax.specs.declared.tree.StmtForm.TheVariants as form
use Rattle.c_syntax.specs.declared.tree.Compound.{Compound, Compound'}
use Rattle.c_syntax.specs.declared.tree.Item.{Item}
use Rattle.c_syntax.specs.declared.tree.External.{External}
use Rattle.c_syntax.specs.declared.tree.External.TheVariants as external
use Rattle.c_syntax.specs.declared.tree.Unit as tree
use Rattle.c_syntax.specs.Shape.{TypeOf, int, pointer, array, structure, nothing, NoteShape, bare, typed, known, number, char, str, name, up, down, unary, before, size_of, plain, and, or, assign, comma, dot, arrow, block, test, used, def, NodeShape, node, ExprShape, leaf, paren, call, prefix, size_of_type, cast, suffix, two, choose, probe, index, field, behind, ProbeShape, simple, select, NodeShapes, no_nodes, more_nodes, MaybeNode, no_node, one_node, LengthShapes, no_lengths, more_lengths, TypeShape, type_name, SpecShapes, no_specs, more_specs, SpecShape, word, struct, enum, MaybeDecls, no_members, members, MaybeEnumers, no_rows, rows, EnumerShapes, no_enumers, more_enumers, DeclShape, decl, DeclShapes, no_decls, more_decls, DeclaratorShape, declarator, DeclaratorShapes, no_declarators, more_declarators, DeclFormShape, arrays, function, ParamsShape, empty, void, params, MaybeInit, no_init, one_init, InitShape, one, listed, InitShapes, no_inits, more_inits, LabelShape, case, default, StmtShape, stmt, FormShape, compound, simply, when, either, while, do_while, for, switch, break, continue, return, CompoundShape, braces, ItemShapes, no_items, more_items, ExternalShape, defined, declared, UnitShape}

abbrev pub type_of : CType → TypeOf
type_of (ctype.Int k) = int k
type_of (ctype.Pointer' _ t) = pointer (type_of t)
type_of (ctype.Array' _ t n) = array (type_of t) n
type_of (ctype.Struct n) = structure n
type_of ctype.Void = nothing

abbrev pub note_shape : Note → NoteShape
note_shape note.Bare = bare
note_shape (note.Typed t n) = typed (type_of t) n
note_shape (note.Known t n) = known (type_of t) n

-- a step stands in front of its operand, or behind it
abbrev pub step_shape : StepOp → NodeShape → ExprShape
step_shape way.PreInc a = prefix (before up) a
step_shape way.PreDec a = prefix (before down) a
step_shape way.PostInc a = suffix a (behind up)
step_shape way.PostDec a = suffix a (behind down)

abbrev mutual
  pub expr_shape : Expr → ExprShape
  expr_shape (Number t) = leaf (number t)
  expr_shape (Char c) = leaf (char c)
  expr_shape (Str t) = leaf (str t)
  expr_shape (Name t) = leaf (name t)
  expr_shape (Paren' _ p o n a) = paren (node p o (note_shape n) (expr_shape a))
  expr_shape (Index' _ p o n a _ p' o' n' b) = suffix (node p o (note_shape n) (expr_shape a)) (index (node p' o' (note_shape n') (expr_shape b)))
  expr_shape (Member' _ p o n a t q) = suffix (node p o (note_shape n) (expr_shape a)) (field dot t q)
  expr_shape (Arrow' _ p o n a t q) = suffix (node p o (note_shape n) (expr_shape a)) (field arrow t q)
  expr_shape (Call' t _ args) = call t (nodes_shape args)
  expr_shape (Unary' u _ p o n a) = prefix (unary u) (node p o (note_shape n) (expr_shape a))
  expr_shape (Step' u _ p o n a) = step_shape u (node p o (note_shape n) (expr_shape a))
  expr_shape (SizeOf' _ p o n a) = prefix size_of (node p o (note_shape n) (expr_shape a))
  expr_shape (SizeOfType t) = size_of_type (type_shape t)
  expr_shape (Cast' t _ p o n a) = cast (type_shape t) (node p o (note_shape n) (expr_shape a))
  expr_shape (Binary' u _ p o n a _ p' o' n' b) = two (plain u) (node p o (note_shape n) (expr_shape a)) (node p' o' (note_shape n') (expr_shape b))
  expr_shape (And' _ p o n a _ p' o' n' b) = two and (node p o (note_shape n) (expr_shape a)) (node p' o' (note_shape n') (expr_shape b))
  expr_shape (Or' _ p o n a _ p' o' n' b) = two or (node p o (note_shape n) (expr_shape a)) (node p' o' (note_shape n') (expr_shape b))
  expr_shape (Cond' _ p o n a _ p' o' n' b _ q r m c) = choose (node p o (note_shape n) (expr_shape a)) (node p' o' (note_shape n') (expr_shape b)) (node q r (note_shape m) (expr_shape c))
  expr_shape (Assign' u _ p o n a _ p' o' n' b) = two (assign u) (node p o (note_shape n) (expr_shape a)) (node p' o' (note_shape n') (expr_shape b))
  expr_shape (Comma' _ p o n a _ p' o' n' b) = two comma (node p o (note_shape n) (expr_shape a)) (node p' o' (note_shape n') (expr_shape b))
  expr_shape (Probe' u _ p o n a) = probe (probe_shape u) (node p o (note_shape n) (expr_shape a))

  pub probe_shape : ExprProbe → ProbeShape
  probe_shape (Block n) = simple block n
  probe_shape (Test n) = simple test n
  probe_shape (Select' n _ cases) = select n (nodes_shape cases)
  probe_shape (Use n) = simple used n
  probe_shape (Def n) = simple def n

  pub nodes_shape : {m : _} → Row_of-Node m → NodeShapes
  nodes_shape end_of-Node = no_nodes
  nodes_shape (more_of-Node p o n a rest) = more_nodes (node p o (note_shape n) (expr_shape a)) (nodes_shape rest)

  pub maybe_node_shape : Held-DeclForm-Arrays-0-1 → MaybeNode
  maybe_node_shape DeclForm-Arrays-0-1-None' = no_node
  maybe_node_shape (DeclForm-Arrays-0-1-Some' p o n a) = one_node (node p o (note_shape n) (expr_shape a))

  pub lengths_shape : {m : _} → Row_of-DeclForm-Arrays-0-1 m → LengthShapes
  lengths_shape end_of-DeclForm-Arrays-0-1 = no_lengths
  lengths_shape (more_of-DeclForm-Arrays-0-1 l rest) = more_lengths (maybe_node_shape l) (lengths_shape rest)

  pub type_shape : TypeName → TypeShape
  type_shape (TypeName' p _ specs stars _ lengths) = type_name p (specs_shape specs) stars.items (type_lengths_shape lengths)

  -- a type name has a length in each of its brackets
  pub type_lengths_shape : {m : _} → Row_of-Node m → LengthShapes
  type_lengths_shape end_of-Node = no_lengths
  type_lengths_shape (more_of-Node p o n a rest) = more_lengths (one_node (node p o (note_shape n) (expr_shape a))) (type_lengths_shape rest)

  pub specs_shape : {m : _} → Row_of-Spec m → SpecShapes
  specs_shape end_of-Spec = no_specs
  specs_shape (more_of-Spec p f rest) = more_specs p (spec_shape f) (specs_shape rest)

  pub spec_shape : SpecForm → SpecShape
  spec_shape (spec.Plain k) = word k
  spec_shape (spec.Struct' n m) = struct n (members_shape m)
  spec_shape (spec.Enum' n r) = enum n (rows_shape r)

  pub members_shape : Held-SpecForm-Struct-1 → MaybeDecls
  members_shape SpecForm-Struct-1-None' = no_members
  members_shape (SpecForm-Struct-1-Some' _ decls) = members (decls_shape decls)

  pub rows_shape : Held-SpecForm-Enum-1 → MaybeEnumers
  rows_shape SpecForm-Enum-1-None' = no_rows
  rows_shape (SpecForm-Enum-1-Some' _ r) = rows (enumers_shape r)

  pub enumers_shape : {m : _} → Row_of-Enumer m → EnumerShapes
  enumers_shape end_of-Enumer = no_enumers
  enumers_shape (more_of-Enumer (Enumer' n v) rest) = more_enumers n (maybe_node_shape v) (enumers_shape rest)

  pub decls_shape : {m : _} → Row_of-Decl m → DeclShapes
  decls_shape end_of-Decl = no_decls
  decls_shape (more_of-Decl d rest) = more_decls (decl_shape d) (decls_shape rest)

  pub decl_shape : Decl → DeclShape
  decl_shape (Decl' p _ specs _ names) = decl p (specs_shape specs) (declarators_shape names)

  pub declarators_shape : {m : _} → Row_of-Declarator m → DeclaratorShapes
  declarators_shape end_of-Declarator = no_declarators
  declarators_shape (more_of-Declarator stars n f i rest) = more_declarators (declarator stars.items n (decl_form_shape f) (maybe_init_shape i)) (declarators_shape rest)

  pub decl_form_shape : DeclForm → DeclFormShape
  decl_form_shape (Arrays' _ lengths) = arrays (lengths_shape lengths)
  decl_form_shape (Function list) = function (params_shape list)

  pub params_shape : Params → ParamsShape
  params_shape ps.Empty = empty
  params_shape ps.Void = void
  params_shape (ps.List' _ list) = params (param_rows_shape list)

  pub param_rows_shape : {m : _} → Row_of-Param m → DeclShapes
  param_rows_shape end_of-Param = no_decls
  param_rows_shape (more_of-Param p rest) = more_decls (param_shape p) (param_rows_shape rest)

  pub param_shape : Param → DeclShape
  param_shape (Param' p _ specs stars n f i) = decl p (specs_shape specs) (more_declarators (declarator stars.items n (decl_form_shape f) (maybe_init_shape i)) no_declarators)

  pub maybe_init_shape : Held-Declarator-init → MaybeInit
  maybe_init_shape Declarator-init-None' = no_init
  maybe_init_shape (Declarator-init-Some' i) = one_init (init_shape i)

  pub init_shape : Init → InitShape
  init_shape (init.One' p o n a) = one (node p o (note_shape n) (expr_shape a))
  init_shape (init.List' p _ r last) = listed p (inits_shape r) last

  pub inits_shape : {m : _} → Row_of-Init m → InitShapes
  inits_shape end_of-Init = no_inits
  inits_shape (more_of-Init i rest) = more_inits (init_shape i) (inits_shape rest)

abbrev pub node_shape : Node → NodeShape
node_shape n = node n.pos n.op (note_shape n.note) (expr_shape n.form)

-- LISTS OF THE CODE AS THE LISTS OF A SHAPE

abbrev pub node_list : List Node → NodeShapes
node_list [] = no_nodes
node_list (n ∷ rest) = more_nodes (node_shape n) (node_list rest)

abbrev pub maybe_node : Option Node → MaybeNode
maybe_node None = no_node
maybe_node (Some n) = one_node (node_shape n)

abbrev pub lengths_list : List (Option Node) → LengthShapes
lengths_list [] = no_lengths
lengths_list (l ∷ rest) = more_lengths (maybe_node l) (lengths_list rest)

abbrev pub type_lengths_list : List Node → LengthShapes
type_lengths_list [] = no_lengths
type_lengths_list (n ∷ rest) = more_lengths (one_node (node_shape n)) (type_lengths_list rest)

abbrev pub spec_list : List Spec → SpecShapes
spec_list [] = no_specs
spec_list (s ∷ rest) = more_specs s.pos (spec_shape s.form) (spec_list rest)

abbrev pub decl_list : List Decl → DeclShapes
decl_list [] = no_decls
decl_list (d ∷ rest) = more_decls (decl_shape d) (decl_list rest)

abbrev pub maybe_init : Option Init → MaybeInit
maybe_init None = no_init
maybe_init (Some i) = one_init (init_shape i)

abbrev pub declarator_shape : Declarator → DeclaratorShape
declarator_shape d = declarator d.stars.items d.name (decl_form_shape d.form) (maybe_init d.init)

abbrev pub declarator_list : List Declarator → DeclaratorShapes
declarator_list [] = no_declarators
declarator_list (d ∷ rest) = more_declarators (declarator_shape d) (declarator_list rest)

abbrev pub param_list : List Param → DeclShapes
param_list [] = no_decls
param_list (p ∷ rest) = more_decls (param_shape p) (param_list rest)

abbrev pub enumer_list : List Enumer → EnumerShapes
enumer_list [] = no_enumers
enumer_list (e ∷ rest) = more_enumers (out-Enumer e).name (maybe_node (out-Enumer e).value) (enumer_list rest)

abbrev pub init_list : List Init → InitShapes
init_list [] = no_inits
init_list (i ∷ rest) = more_inits (init_shape i) (init_list rest)

-- STATEMENTS AND UNITS

abbrev pub label_shape : Label → LabelShape
label_shape (label.Case p n) = case p (node_shape n)
label_shape (label.Default p) = default p

abbrev mutual
  pub form_shape : StmtForm → FormShape
  form_shape (form.Compound c) = compound (compound_shape c)
  form_shape (form.Plain e) = simply (maybe_node e)
  form_shape (form.If' n _ p marks q s other) = if_shape (node_shape n) (stmt p marks.items q (form_shape s)) other
  form_shape (form.While' n _ p marks q s) = while (node_shape n) (stmt p marks.items q (form_shape s))
  form_shape (form.Do' _ p marks q s n) = do_while (stmt p marks.items q (form_shape s)) (node_shape n)
  form_shape (form.For' a b c _ p marks q s) = for (maybe_node a) (maybe_node b) (maybe_node c) (stmt p marks.items q (form_shape s))
  form_shape (form.Switch' n _ items) = switch (node_shape n) (items_shape items)
  form_shape form.Break = break
  form_shape form.Continue = continue
  form_shape (form.Return e) = return (maybe_node e)

  pub if_shape : NodeShape → StmtShape → Held-StmtForm-If-2 → FormShape
  if_shape n s None' = when n s
  if_shape n s (Some' _ p marks q t) = either n s (stmt p marks.items q (form_shape t))

  pub items_shape : {m : _} → Row_of-Item m → ItemShapes
  items_shape end_of-Item = no_items
  items_shape (more_of-Item labels p marks q s rest) = more_items (map label_shape labels.items) (stmt p marks.items q (form_shape s)) (items_shape rest)

  pub compound_shape : Compound → CompoundShape
  compound_shape (Compound' p decls _ items) = braces p (decl_list decls.items) (items_shape items)

abbrev pub stmt_shape : Stmt → StmtShape
stmt_shape s = stmt s.pos s.probes.items s.at (form_shape s.form)

abbrev pub item_list : List Item → ItemShapes
item_list [] = no_items
item_list (i ∷ rest) = more_items (map label_shape i.labels.items) (stmt_shape i.stmt) (item_list rest)

abbrev pub external_shape : External → ExternalShape
external_shape (external.Function specs d marks c) = defined (spec_list specs.items) (declarator_shape d) marks.items (compound_shape c)
external_shape (external.Plain d) = declared (decl_shape d)

abbrev pub unit_shape : tree.Unit → UnitShape
unit_shape u = record { pos = u.pos; line = u.line; externals = map external_shape u.externals.items; last = u.last }
