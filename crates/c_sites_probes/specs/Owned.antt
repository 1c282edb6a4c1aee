-- The use probes of a program, and the innermost test or select probe around each: the numbers of both, in the order of tokens.
use Rattle.std.specs.Prelude.{ℕ, ◌++◌, List, [], ◌∷◌, nat_eq, Option, Some, None, if◌then◌else◌}
use Rattle.c_syntax.specs.Shape.{NodeShape, node, ExprShape, leaf, paren, call, prefix, size_of_type, cast, suffix, two, choose, probe, test, used, ProbeShape, simple, select, SuffixShape, index, field, behind, NodeShapes, no_nodes, more_nodes, MaybeNode, no_node, one_node, LengthShapes, no_lengths, more_lengths, TypeShape, type_name, SpecShapes, no_specs, more_specs, SpecShape, word, struct, enum, MaybeDecls, no_members, members, MaybeEnumers, no_rows, rows, EnumerShapes, no_enumers, more_enumers, DeclShape, decl, DeclShapes, no_decls, more_decls, DeclaratorShape, declarator, DeclaratorShapes, no_declarators, more_declarators, DeclFormShape, arrays, function, ParamsShape, empty, void, params, MaybeInit, no_init, one_init, InitShape, one, listed, InitShapes, no_inits, more_inits, LabelShape, case, default, StmtShape, stmt, FormShape, compound, simply, when, either, while, do_while, for, switch, break, continue, return, CompoundShape, braces, ItemShapes, no_items, more_items, ExternalShape, defined, declared, UnitShape}
use Rattle.c_constants.specs.Probes.{probe_number_of}

-- the owner that is found first for the use probe with that number
abbrev pub owner_of : ℕ → List (ℕ × ℕ) → Option ℕ
owner_of u [] = None
owner_of u (p ∷ ps) = if nat_eq u p.0 then Some p.1 else owner_of u ps

-- ---- one probe

-- inside a test or select probe that one is the innermost, inside another probe the one around it
abbrev pub within : Option ℕ → ProbeShape → Option ℕ
within o (simple test x) = probe_number_of x
within o (simple u x) = o
within o (select x cs) = probe_number_of x

-- a use probe with its owner, where there is one
abbrev pub with_owner : Option ℕ → Option ℕ → List (ℕ × ℕ) → List (ℕ × ℕ)
with_owner (Some u) (Some k) s = s ++ (u, k) ∷ []
with_owner _ _ s = s

abbrev pub own_probe : Option ℕ → ProbeShape → List (ℕ × ℕ) → List (ℕ × ℕ)
own_probe o (simple used x) s = with_owner (probe_number_of x) o s
own_probe o (simple u x) s = s
own_probe o (select x cs) s = s

-- ---- expressions and the types in them, behind what is found before them

abbrev mutual
  pub own_node : Option ℕ → NodeShape → List (ℕ × ℕ) → List (ℕ × ℕ)
  own_node o (node p q n f) s = own_form o f s

  pub own_form : Option ℕ → ExprShape → List (ℕ × ℕ) → List (ℕ × ℕ)
  own_form o (leaf l) s = s
  own_form o (paren a) s = own_node o a s
  own_form o (call x args) s = own_nodes o args s
  own_form o (prefix u a) s = own_node o a s
  own_form o (size_of_type t) s = own_type o t s
  own_form o (cast t a) s = own_node o a (own_type o t s)
  own_form o (suffix a b) s = own_suffix o b (own_node o a s)
  own_form o (two u a b) s = own_node o b (own_node o a s)
  own_form o (choose a b c) s = own_node o c (own_node o b (own_node o a s))
  own_form o (probe u a) s = own_node (within o u) a (own_constants (within o u) u (own_probe o u s))

  -- the constants of a select stand inside it
  pub own_constants : Option ℕ → ProbeShape → List (ℕ × ℕ) → List (ℕ × ℕ)
  own_constants o (simple u x) s = s
  own_constants o (select x cs) s = own_nodes o cs s

  pub own_suffix : Option ℕ → SuffixShape → List (ℕ × ℕ) → List (ℕ × ℕ)
  own_suffix o (index b) s = own_node o b s
  own_suffix o (field h x p) s = s
  own_suffix o (behind u) s = s

  pub own_nodes : Option ℕ → NodeShapes → List (ℕ × ℕ) → List (ℕ × ℕ)
  own_nodes o no_nodes s = s
  own_nodes o (more_nodes a rest) s = own_nodes o rest (own_node o a s)

  pub own_maybe : Option ℕ → MaybeNode → List (ℕ × ℕ) → List (ℕ × ℕ)
  own_maybe o no_node s = s
  own_maybe o (one_node a) s = own_node o a s

  pub own_lengths : Option ℕ → LengthShapes → List (ℕ × ℕ) → List (ℕ × ℕ)
  own_lengths o no_lengths s = s
  own_lengths o (more_lengths l rest) s = own_lengths o rest (own_maybe o l s)

  pub own_type : Option ℕ → TypeShape → List (ℕ × ℕ) → List (ℕ × ℕ)
  own_type o (type_name p specs stars lengths) s = own_lengths o lengths (own_specs o specs s)

  pub own_specs : Option ℕ → SpecShapes → List (ℕ × ℕ) → List (ℕ × ℕ)
  own_specs o no_specs s = s
  own_specs o (more_specs p x rest) s = own_specs o rest (own_spec o x s)

  pub own_spec : Option ℕ → SpecShape → List (ℕ × ℕ) → List (ℕ × ℕ)
  own_spec o (word x) s = s
  own_spec o (struct tag ds) s = own_members o ds s
  own_spec o (enum tag es) s = own_rows o es s

  pub own_members : Option ℕ → MaybeDecls → List (ℕ × ℕ) → List (ℕ × ℕ)
  own_members o no_members s = s
  own_members o (members ds) s = own_decls o ds s

  pub own_rows : Option ℕ → MaybeEnumers → List (ℕ × ℕ) → List (ℕ × ℕ)
  own_rows o no_rows s = s
  own_rows o (rows es) s = own_enumers o es s

  pub own_enumers : Option ℕ → EnumerShapes → List (ℕ × ℕ) → List (ℕ × ℕ)
  own_enumers o no_enumers s = s
  own_enumers o (more_enumers x v rest) s = own_enumers o rest (own_maybe o v s)

  pub own_decls : Option ℕ → DeclShapes → List (ℕ × ℕ) → List (ℕ × ℕ)
  own_decls o no_decls s = s
  own_decls o (more_decls d rest) s = own_decls o rest (own_decl o d s)

  pub own_decl : Option ℕ → DeclShape → List (ℕ × ℕ) → List (ℕ × ℕ)
  own_decl o (decl p specs ds) s = own_declarators o ds (own_specs o specs s)

  pub own_declarators : Option ℕ → DeclaratorShapes → List (ℕ × ℕ) → List (ℕ × ℕ)
  own_declarators o no_declarators s = s
  own_declarators o (more_declarators d rest) s = own_declarators o rest (own_declarator o d s)

  pub own_declarator : Option ℕ → DeclaratorShape → List (ℕ × ℕ) → List (ℕ × ℕ)
  own_declarator o (declarator stars x f i) s = own_maybe_init o i (own_behind o f s)

  pub own_behind : Option ℕ → DeclFormShape → List (ℕ × ℕ) → List (ℕ × ℕ)
  own_behind o (arrays lengths) s = own_lengths o lengths s
  own_behind o (function list) s = own_params o list s

  pub own_params : Option ℕ → ParamsShape → List (ℕ × ℕ) → List (ℕ × ℕ)
  own_params o empty s = s
  own_params o void s = s
  own_params o (params list) s = own_decls o list s

  pub own_maybe_init : Option ℕ → MaybeInit → List (ℕ × ℕ) → List (ℕ × ℕ)
  own_maybe_init o no_init s = s
  own_maybe_init o (one_init i) s = own_init o i s

  pub own_init : Option ℕ → InitShape → List (ℕ × ℕ) → List (ℕ × ℕ)
  own_init o (one a) s = own_node o a s
  own_init o (listed p list last) s = own_inits o list s

  pub own_inits : Option ℕ → InitShapes → List (ℕ × ℕ) → List (ℕ × ℕ)
  own_inits o no_inits s = s
  own_inits o (more_inits i rest) s = own_inits o rest (own_init o i s)

-- ---- statements and units, which stand inside no such probe

abbrev pub own_labels : List LabelShape → List (ℕ × ℕ) → List (ℕ × ℕ)
own_labels [] s = s
own_labels (case p a ∷ rest) s = own_labels rest (own_node None a s)
own_labels (default p ∷ rest) s = own_labels rest s

abbrev mutual
  pub own_stmt : StmtShape → List (ℕ × ℕ) → List (ℕ × ℕ)
  own_stmt (stmt p marks q f) s = own_body f s

  pub own_body : FormShape → List (ℕ × ℕ) → List (ℕ × ℕ)
  own_body (compound c) s = own_compound c s
  own_body (simply e) s = own_maybe None e s
  own_body (when e a) s = own_stmt a (own_node None e s)
  own_body (either e a b) s = own_stmt b (own_stmt a (own_node None e s))
  own_body (while e a) s = own_stmt a (own_node None e s)
  own_body (do_while a e) s = own_node None e (own_stmt a s)
  own_body (for e f g a) s = own_stmt a (own_maybe None g (own_maybe None f (own_maybe None e s)))
  own_body (switch e items) s = own_items items (own_node None e s)
  own_body break s = s
  own_body continue s = s
  own_body (return e) s = own_maybe None e s

  pub own_compound : CompoundShape → List (ℕ × ℕ) → List (ℕ × ℕ)
  own_compound (braces p ds items) s = own_items items (own_decls None ds s)

  pub own_items : ItemShapes → List (ℕ × ℕ) → List (ℕ × ℕ)
  own_items no_items s = s
  own_items (more_items labels a rest) s = own_items rest (own_stmt a (own_labels labels s))

abbrev pub own_external : ExternalShape → List (ℕ × ℕ) → List (ℕ × ℕ)
own_external (defined specs d marks c) s = own_compound c (own_declarator None d (own_specs None specs s))
own_external (declared d) s = own_decl None d s

abbrev pub own_externals : List ExternalShape → List (ℕ × ℕ) → List (ℕ × ℕ)
own_externals [] s = s
own_externals (e ∷ rest) s = own_externals rest (own_external e s)

-- those of a unit
abbrev pub owned_in : UnitShape → List (ℕ × ℕ)
owned_in u = own_externals u.externals []
