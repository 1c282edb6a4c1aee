-- A plain program in which each part fits is one that the runs are compared under.
use Rattle.std.proofs.Common.{◌≡◌, List, [], ◌∷◌, Option, Some, None, refl, subst}
use Rattle.c_base.specs.declared.place.Pos.{Pos}
use Rattle.c_syntax.specs.declared.tree.Named.{Named}
use Rattle.c_syntax.specs.declared.tree.ProbeMark.{ProbeMark}
use Rattle.c_syntax.specs.Shape.{NoteShape, number, char, str, name, unary, before, size_of, plain, and, or, assign, comma, NodeShape, node, ExprShape, leaf, paren, call, prefix, size_of_type, cast, suffix, two, choose, probe, index, field, behind, NodeShapes, no_nodes, more_nodes, MaybeNode, no_node, one_node, DeclShape, decl, DeclShapes, no_decls, more_decls, DeclaratorShape, declarator, DeclaratorShapes, no_declarators, more_declarators, DeclFormShape, arrays, function, ParamsShape, empty, void, params, MaybeInit, no_init, one_init, InitShape, one, listed, LabelShape, case, default, StmtShape, stmt, FormShape, compound, simply, when, either, while, do_while, for, switch, break, continue, return, CompoundShape, braces, ItemShapes, no_items, more_items, ExternalShape, defined, declared, UnitShape}
use Rattle.c_walk.specs.declared.around.Taken.{Taken}
use Rattle.c_walk.specs.declared.around.Taken.TheVariants.{Read, Changed}
use Rattle.c_walk.specs.Walked.{operand_taken, left_taken, right_taken}
use Rattle.c_sites_probes.specs.Marked.{first, mark_in, name_mark, mark_among, node_mark, form_mark, nodes_mark, maybe_mark, decls_mark, decl_mark, declarators_mark, declarator_mark, behind_mark, params_mark, maybe_init_mark, init_mark, labels_mark, stmt_mark, body_mark, compound_mark, items_mark, external_mark, externals_mark, unit_mark, line_mark, type_mark, specs_mark, lengths_mark}
use Rattle.probe_rules.specs.Fitting as fit
use Rattle.probe_rules.proofs.Ready.{IsReady, HasReadyParts, AreReady, IsReadyMaybe, HasNoProbe, IsNamed, IsReadyInit, IsReadyVariable, IsReadyDeclarator, AreReadyDeclarators, IsReadyDecl, AreReadyDecls, IsDefined, AreDefined, IsDefining, AreDefining, AreReadyParams, IsReadySignature, HasNoMarks, AreReadyLabels, IsReadyStmt, IsReadyBody, IsReadyCompound, AreReadyItems, IsReadyExternal, AreReadyExternals, IsReadyUnit}

abbrev IsThere : Option Pos → Type 0
IsThere (Some p) = Unit {0}
IsThere None = ⊥

pub some_none : (p : Pos) → Some p ≡ None → ⊥
some_none p e = subst IsThere e tt

pub none_first : (a b : Option Pos) → first a b ≡ None → a ≡ None
none_first None b e = refl
none_first (Some p) b e = e

pub none_second : (a b : Option Pos) → first a b ≡ None → b ≡ None
none_second None b e = e
none_second (Some p) b e = absurd (some_none p e)

-- ---- expressions

mutual
  pub node_ready : (r : Taken) (a : NodeShape) → node_mark a ≡ None → fit.IsFit r a → IsReady r a
  node_ready r (node p o n f) none is = form_ready r p n f none is

  form_ready : (r : Taken) (p : Pos) (n : NoteShape) (f : ExprShape) → form_mark p f ≡ None → fit.Suits r n f × fit.HasFitParts r n f → fit.Suits r n f × HasReadyParts r n f
  form_ready r p n (leaf (number x)) none is = is
  form_ready r p n (leaf (char x)) none is = is
  form_ready r p n (leaf (str x)) none is = is
  form_ready r p n (leaf (name x)) none is = is
  form_ready r p n (paren a) none is = (is.0, node_ready r a none is.1)
  form_ready r p n (call x args) none is = (is.0, nodes_ready args none is.1)
  form_ready r p n (prefix (unary u) a) none is = (is.0, node_ready (operand_taken u) a none is.1)
  form_ready r p n (prefix (before u) a) none is = (is.0, node_ready Changed a none is.1)
  form_ready r p n (prefix size_of a) none is = is
  form_ready r p n (size_of_type y) none is = is
  form_ready r p n (cast y a) none is = (is.0, node_ready Read a (none_second (type_mark y) (node_mark a) none) is.1)
  form_ready r p n (suffix a (index b)) none is = (is.0, (node_ready Read a (none_first (node_mark a) (node_mark b) none) is.1.0, node_ready Read b (none_second (node_mark a) (node_mark b) none) is.1.1))
  form_ready r p n (suffix a (field h x q)) none is = (is.0, node_ready Read a (none_first (node_mark a) None none) is.1)
  form_ready r p n (suffix a (behind u)) none is = (is.0, node_ready Changed a (none_first (node_mark a) None none) is.1)
  form_ready r p n (two (assign u) a b) none is = (is.0, (node_ready (left_taken u) a (none_first (node_mark a) (node_mark b) none) is.1.0, node_ready (right_taken u a) b (none_second (node_mark a) (node_mark b) none) is.1.1))
  form_ready r p n (two (plain u) a b) none is = (is.0, (node_ready Read a (none_first (node_mark a) (node_mark b) none) is.1.0, node_ready Read b (none_second (node_mark a) (node_mark b) none) is.1.1))
  form_ready r p n (two and a b) none is = (is.0, (node_ready Read a (none_first (node_mark a) (node_mark b) none) is.1.0, node_ready Read b (none_second (node_mark a) (node_mark b) none) is.1.1))
  form_ready r p n (two or a b) none is = (is.0, (node_ready Read a (none_first (node_mark a) (node_mark b) none) is.1.0, node_ready Read b (none_second (node_mark a) (node_mark b) none) is.1.1))
  form_ready r p n (two comma a b) none is = (is.0, (node_ready Read a (none_first (node_mark a) (node_mark b) none) is.1.0, node_ready Read b (none_second (node_mark a) (node_mark b) none) is.1.1))
  form_ready r p n (choose a b c) none is =
      let rest = none_second (node_mark a) (first (node_mark b) (node_mark c)) none in
      (is.0, (node_ready Read a (none_first (node_mark a) (first (node_mark b) (node_mark c)) none) is.1.0, node_ready Read b (none_first (node_mark b) (node_mark c) rest) is.1.1, node_ready Read c (none_second (node_mark b) (node_mark c) rest) is.1.2))
  form_ready r p n (probe u a) none is = absurd (some_none p none)

  nodes_ready : (es : NodeShapes) → nodes_mark es ≡ None → fit.AreFit es → AreReady es
  nodes_ready no_nodes none is = tt
  nodes_ready (more_nodes a rest) none is = (node_ready Read a (none_first (node_mark a) (nodes_mark rest) none) is.0, nodes_ready rest (none_second (node_mark a) (nodes_mark rest) none) is.1)

maybe_ready : (e : MaybeNode) → maybe_mark e ≡ None → fit.IsFitMaybe e → IsReadyMaybe e
maybe_ready no_node none is = tt
maybe_ready (one_node a) none is = node_ready Read a none is

-- ---- declarations

no_probe : (m : Option ProbeMark) → mark_in m ≡ None → HasNoProbe m
no_probe None none = tt
no_probe (Some m) none = absurd (some_none m.pos none)

name_ready : (x : Option Named) → name_mark x ≡ None → fit.IsNamed x → IsNamed x
name_ready None none is = is
name_ready (Some x) none is = no_probe x.probe none

init_ready : (i : InitShape) → init_mark i ≡ None → fit.IsFitInit i → IsReadyInit i
init_ready (one a) none is = node_ready Read a none is
init_ready (listed p items last) none is = tt

variable_ready : (x : Option Named) (i : MaybeInit) → name_mark x ≡ None → maybe_init_mark i ≡ None → fit.IsFitVariable x i → IsReadyVariable x i
variable_ready x no_init named none is = tt
variable_ready x (one_init i) named none is = (name_ready x named is.0, init_ready i none is.1)

declarator_ready : (d : DeclaratorShape) → declarator_mark d ≡ None → fit.IsFitDeclarator d → IsReadyDeclarator d
declarator_ready (declarator stars x (arrays ls) i) none is =
    variable_ready x i (none_first (name_mark x) (first (lengths_mark ls) (maybe_init_mark i)) none) (none_second (lengths_mark ls) (maybe_init_mark i) (none_second (name_mark x) (first (lengths_mark ls) (maybe_init_mark i)) none)) is
declarator_ready (declarator stars x (function ps) i) none is = tt

declarators_ready : (ds : DeclaratorShapes) → declarators_mark ds ≡ None → fit.AreFitDeclarators ds → AreReadyDeclarators ds
declarators_ready no_declarators none is = tt
declarators_ready (more_declarators d rest) none is = (declarator_ready d (none_first (declarator_mark d) (declarators_mark rest) none) is.0, declarators_ready rest (none_second (declarator_mark d) (declarators_mark rest) none) is.1)

decl_ready : (d : DeclShape) → decl_mark d ≡ None → fit.IsFitDecl d → IsReadyDecl d
decl_ready (decl p specs names) none is = declarators_ready names (none_second (specs_mark specs) (declarators_mark names) none) is

decls_ready : (ds : DeclShapes) → decls_mark ds ≡ None → fit.AreFitDecls ds → AreReadyDecls ds
decls_ready no_decls none is = tt
decls_ready (more_decls d rest) none is = (decl_ready d (none_first (decl_mark d) (decls_mark rest) none) is.0, decls_ready rest (none_second (decl_mark d) (decls_mark rest) none) is.1)

defined_ready : (d : DeclaratorShape) → declarator_mark d ≡ None → fit.IsDefined d → IsDefined d
defined_ready (declarator stars x (arrays ls) i) none is = name_ready x (none_first (name_mark x) (first (lengths_mark ls) (maybe_init_mark i)) none) is
defined_ready (declarator stars x (function ps) i) none is = tt

all_defined_ready : (ds : DeclaratorShapes) → declarators_mark ds ≡ None → fit.AreDefined ds → AreDefined ds
all_defined_ready no_declarators none is = tt
all_defined_ready (more_declarators d rest) none is = (defined_ready d (none_first (declarator_mark d) (declarators_mark rest) none) is.0, all_defined_ready rest (none_second (declarator_mark d) (declarators_mark rest) none) is.1)

defining_ready : (d : DeclShape) → decl_mark d ≡ None → fit.IsDefining d → IsDefining d
defining_ready (decl p specs names) none is = all_defined_ready names (none_second (specs_mark specs) (declarators_mark names) none) is

all_defining_ready : (ds : DeclShapes) → decls_mark ds ≡ None → fit.AreDefining ds → AreDefining ds
all_defining_ready no_decls none is = tt
all_defining_ready (more_decls d rest) none is = (defining_ready d (none_first (decl_mark d) (decls_mark rest) none) is.0, all_defining_ready rest (none_second (decl_mark d) (decls_mark rest) none) is.1)

params_ready : (ps : ParamsShape) → params_mark ps ≡ None → fit.AreFitParams ps → AreReadyParams ps
params_ready (params ds) none is = all_defining_ready ds none is
params_ready empty none is = tt
params_ready void none is = tt

signature_ready : (d : DeclFormShape) → behind_mark d ≡ None → fit.IsFitSignature d → IsReadySignature d
signature_ready (function ps) none is = params_ready ps none is
signature_ready (arrays ls) none is = tt

-- ---- statements

no_marks : (ms : List ProbeMark) → mark_among ms ≡ None → HasNoMarks ms
no_marks [] none = tt
no_marks (m ∷ ms) none = absurd (some_none m.pos none)

labels_ready : (ls : List LabelShape) → labels_mark ls ≡ None → fit.AreFitLabels ls → AreReadyLabels ls
labels_ready [] none is = tt
labels_ready (case p a ∷ rest) none is = (node_ready Read a (none_first (node_mark a) (labels_mark rest) none) is.0, labels_ready rest (none_second (node_mark a) (labels_mark rest) none) is.1)
labels_ready (default p ∷ rest) none is = labels_ready rest none is

mutual
  stmt_ready : (a : StmtShape) → stmt_mark a ≡ None → fit.IsFitStmt a → IsReadyStmt a
  stmt_ready (stmt p ms q f) none is = (no_marks ms (none_first (mark_among ms) (body_mark f) none), body_ready f (none_second (mark_among ms) (body_mark f) none) is)

  body_ready : (f : FormShape) → body_mark f ≡ None → fit.IsFitBody f → IsReadyBody f
  body_ready (compound c) none is = compound_ready c none is
  body_ready (simply e) none is = maybe_ready e none is
  body_ready (when e a) none is = (node_ready Read e (none_first (node_mark e) (stmt_mark a) none) is.0, stmt_ready a (none_second (node_mark e) (stmt_mark a) none) is.1)
  body_ready (either e a b) none is =
      let rest = none_second (node_mark e) (first (stmt_mark a) (stmt_mark b)) none in
      (node_ready Read e (none_first (node_mark e) (first (stmt_mark a) (stmt_mark b)) none) is.0, stmt_ready a (none_first (stmt_mark a) (stmt_mark b) rest) is.1, stmt_ready b (none_second (stmt_mark a) (stmt_mark b) rest) is.2)
  body_ready (while e a) none is = (node_ready Read e (none_first (node_mark e) (stmt_mark a) none) is.0, stmt_ready a (none_second (node_mark e) (stmt_mark a) none) is.1)
  body_ready (do_while a e) none is = (stmt_ready a (none_first (stmt_mark a) (node_mark e) none) is.0, node_ready Read e (none_second (stmt_mark a) (node_mark e) none) is.1)
  body_ready (for e f g a) none is =
      let rest = none_second (maybe_mark e) (first (maybe_mark f) (first (maybe_mark g) (stmt_mark a))) none in
      let last = none_second (maybe_mark f) (first (maybe_mark g) (stmt_mark a)) rest in (
        maybe_ready e (none_first (maybe_mark e) (first (maybe_mark f) (first (maybe_mark g) (stmt_mark a))) none) is.0,
        maybe_ready f (none_first (maybe_mark f) (first (maybe_mark g) (stmt_mark a)) rest) is.1,
        maybe_ready g (none_first (maybe_mark g) (stmt_mark a) last) is.2,
        stmt_ready a (none_second (maybe_mark g) (stmt_mark a) last) is.3,
      )
  body_ready (switch e items) none is = (node_ready Read e (none_first (node_mark e) (items_mark items) none) is.0, items_ready items (none_second (node_mark e) (items_mark items) none) is.1)
  body_ready break none is = tt
  body_ready continue none is = tt
  body_ready (return e) none is = maybe_ready e none is

  compound_ready : (c : CompoundShape) → compound_mark c ≡ None → fit.IsFitCompound c → IsReadyCompound c
  compound_ready (braces p ds items) none is = (decls_ready ds (none_first (decls_mark ds) (items_mark items) none) is.0, items_ready items (none_second (decls_mark ds) (items_mark items) none) is.1)

  items_ready : (items : ItemShapes) → items_mark items ≡ None → fit.AreFitItems items → AreReadyItems items
  items_ready no_items none is = tt
  items_ready (more_items labels a rest) none is =
      let more = none_second (labels_mark labels) (first (stmt_mark a) (items_mark rest)) none in
      (labels_ready labels (none_first (labels_mark labels) (first (stmt_mark a) (items_mark rest)) none) is.0, stmt_ready a (none_first (stmt_mark a) (items_mark rest) more) is.1, items_ready rest (none_second (stmt_mark a) (items_mark rest) more) is.2)

-- ---- programs

external_ready : (e : ExternalShape) → external_mark e ≡ None → fit.IsFitExternal e → IsReadyExternal e
external_ready (declared d) none is = defining_ready d none is
external_ready (defined specs (declarator stars x d i) ms c) none is =
    let b = declarator_mark (declarator stars x d i) in
    let more = none_second (specs_mark specs) (first b (first (mark_among ms) (compound_mark c))) none in
    let name = none_second (name_mark x) (first (behind_mark d) (maybe_init_mark i)) (none_first b (first (mark_among ms) (compound_mark c)) more) in
    let last = none_second b (first (mark_among ms) (compound_mark c)) more in
    (signature_ready d (none_first (behind_mark d) (maybe_init_mark i) name) is.0, no_marks ms (none_first (mark_among ms) (compound_mark c) last), compound_ready c (none_second (mark_among ms) (compound_mark c) last) is.1)

externals_ready : (es : List ExternalShape) → externals_mark es ≡ None → fit.AreFitExternals es → AreReadyExternals es
externals_ready [] none is = tt
externals_ready (e ∷ rest) none is = (external_ready e (none_first (external_mark e) (externals_mark rest) none) is.0, externals_ready rest (none_second (external_mark e) (externals_mark rest) none) is.1)

pub unit_ready : (u : UnitShape) → unit_mark u ≡ None → fit.IsFitUnit u → IsReadyUnit u
unit_ready u none is = externals_ready u.externals (none_second (line_mark u.line) (externals_mark u.externals) none) is
