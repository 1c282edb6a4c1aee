-- Every expression, type and declaration that the grammar allows is found in the tokens that write it.
use Rattle.std.proofs.Common.{◌≡◌, ℕ, ◌+◌, ◌≤◌, List, None, refl, ap, arith}
use Rattle.c_syntax.specs.declared.token.Mark.{Mark}
use Rattle.c_syntax.specs.declared.token.Mark.TheVariants as marks
use Rattle.c_syntax.specs.declared.token.Token.{Token}
use Rattle.c_syntax.specs.declared.token.TokenKind.TheVariants as kind
use Rattle.c_syntax.specs.Forms.{head, a_token, Written}
use Rattle.c_syntax.specs.Shape.{NodeShape, node, leaf, paren, call, prefix, size_of_type, cast, suffix, two, choose, probe, index, field, behind, simple, select, NodeShapes, no_nodes, more_nodes, MaybeNode, no_node, one_node, LengthShapes, no_lengths, more_lengths, TypeShape, type_name, SpecShapes, no_specs, more_specs, SpecShape, word, struct, enum, no_members, members, no_rows, rows, EnumerShapes, no_enumers, more_enumers, DeclShape, decl, DeclShapes, no_decls, more_decls, DeclaratorShape, declarator, DeclaratorShapes, no_declarators, more_declarators, DeclFormShape, arrays, function, ParamsShape, empty, void, params, MaybeInit, no_init, one_init, InitShape, one, listed, InitShapes, no_inits, more_inits}
use Rattle.c_syntax.specs.Grammar.{node_form, specs_form, decls_form, declarator_form, led_declarators_form}
use Rattle.c_syntax.specs.Levels.{height, specs_height, decls_height, declarator_height, declarators_height}
use Rattle.c_syntax.specs.Shaped.{level, in_members, in_names, Shaped, SomeSpecs, ShapedDecls, ShapedDeclarator, ShapedDeclarators}
use Rattle.c_grammar.specs.Look.{got, Finds, after, after_head}
use Rattle.c_grammar.specs.Starts.{no_sign, sign_head, sign, no_spec, spec_head}
use Rattle.c_grammar.specs.Reader.{reads, reads_decls, reads_declarator, reads_declarators, reads_some}
use Rattle.c_grammar.proofs.Looking.{got_eq, same_answer}
use Rattle.c_grammar.proofs.TypeSteps.{some_found}
use Rattle.c_grammar.proofs.CompleteExpr.{CompleteNode, CompleteLed, CompleteType, ended_node, mark_ends, leaf_case, paren_case, no_nodes_case, more_nodes_case, call_none_case, call_some_case, prefix_case, size_case, cast_case, index_case, field_case, step_case, two_case, choose_case, simple_case, select_case}
use Rattle.c_grammar.proofs.CompleteDecl.{CompleteLengths, CompleteSpecs, CompleteSpec, CompleteValue, CompleteEnumers, CompleteDecls, specs_begin, all_specs, no_lengths_case, open_length_case, length_case, type_begins, type_case, no_specs_case, more_specs_case, word_case, struct_plain_case, struct_case, no_value_case, value_case, no_enumers_case, more_enumers_case, enum_plain_case, enum_case}
use Rattle.c_grammar.proofs.CompleteNames.{Ends, ends_semicolon, CompleteDecl, CompleteDeclarators, CompleteDeclarator, CompleteBehind, CompleteInitOf, CompleteParams, CompleteParamList, CompleteParam, CompleteInit, CompleteInits, init_one_case, init_list_case, no_inits_case, more_inits_case, no_init_case, init_of_case, arrays_case, function_case, declarator_case, no_declarators_case, more_declarators_case, decl_plain_case, decl_case, decls_begin, no_decls_case, more_decls_case, param_case, no_params_case, more_params_case, empty_case, void_case, params_case}

mutual
  pub complete : (t : NodeShape) → CompleteNode t
  complete (node p o m (leaf l)) = leaf_case p o m l
  complete (node p o m (paren a)) = paren_case p o m a (complete a)
  complete (node p o m (call v no_nodes)) = call_none_case p o m v
  complete (node p o m (call v (more_nodes a rest))) = call_some_case p o m v a rest (complete a) (complete_led rest)
  complete (node p o m (prefix u a)) = prefix_case p o m u a (complete a)
  complete (node p o m (size_of_type t)) = size_case p o m t (type_begins t) (complete_type t)
  complete (node p o m (cast t a)) = cast_case p o m t a (type_begins t) (complete_type t) (complete a)
  complete (node p o m (suffix a (index b))) = index_case p o m a b (complete a) (complete b)
  complete (node p o m (suffix a (field h x q))) = field_case p o m a h x q (complete a)
  complete (node p o m (suffix a (behind s))) = step_case p o m a s (complete a)
  complete (node p o m (two u a b)) = two_case p o m u a b (complete a) (complete b)
  complete (node p o m (choose a b c)) = choose_case p o m a b c (complete a) (complete b) (complete c)
  complete (node p o m (probe (simple u v) a)) = simple_case p o m u v a (complete a)
  complete (node p o m (probe (select v cs) a)) = select_case p o m v cs a (complete_led cs) (complete a)

  pub complete_led : (as' : NodeShapes) → CompleteLed as'
  complete_led no_nodes = no_nodes_case
  complete_led (more_nodes a rest) = more_nodes_case a rest (complete a) (complete_led rest)

  pub complete_lengths : (ls : LengthShapes) → CompleteLengths ls
  complete_lengths no_lengths = no_lengths_case
  complete_lengths (more_lengths no_node rest) = open_length_case rest (complete_lengths rest)
  complete_lengths (more_lengths (one_node a) rest) = length_case a rest (complete a) (complete_lengths rest)

  pub complete_type : (t : TypeShape) → CompleteType t
  complete_type (type_name p specs ss ls) = type_case p specs ss ls (complete_specs specs) (complete_lengths ls)

  pub complete_specs : (ss : SpecShapes) → CompleteSpecs ss
  complete_specs no_specs = no_specs_case
  complete_specs (more_specs p k rest) = more_specs_case p k rest (complete_spec k) (complete_specs rest)

  pub complete_spec : (k : SpecShape) → CompleteSpec k
  complete_spec (word x) = word_case x
  complete_spec (struct n no_members) = struct_plain_case n
  complete_spec (struct n (members no_decls)) = λ p rest d g ts y x s e w low few b f. absurd s.2
  complete_spec (struct n (members (more_decls t ds))) = struct_case n t ds (decls_begin in_members t ds) (complete_decls (more_decls t ds))
  complete_spec (enum n no_rows) = enum_plain_case n
  complete_spec (enum n (rows no_enumers)) = λ p rest d g ts y x s e w low few b f. absurd s.2
  complete_spec (enum n (rows (more_enumers m v es))) = enum_case n m v es (complete_value v) (complete_enumers es)

  pub complete_value : (v : MaybeNode) → CompleteValue v
  complete_value no_node = no_value_case
  complete_value (one_node a) = value_case a (complete a)

  pub complete_enumers : (es : EnumerShapes) → CompleteEnumers es
  complete_enumers no_enumers = no_enumers_case
  complete_enumers (more_enumers n v rest) = more_enumers_case n v rest (complete_value v) (complete_enumers rest)

  pub complete_decls : (ds : DeclShapes) → CompleteDecls ds
  complete_decls no_decls = no_decls_case
  complete_decls (more_decls t rest) = more_decls_case t rest (complete_decl t) (complete_decls rest)

  pub complete_decl : (t : DeclShape) → CompleteDecl t
  complete_decl (decl p specs no_declarators) = decl_plain_case p specs (complete_specs specs)
  complete_decl (decl p specs (more_declarators t rest)) = decl_case p specs t rest (complete_specs specs) (complete_declarator t) (complete_declarators rest)

  pub complete_declarators : (ds : DeclaratorShapes) → CompleteDeclarators ds
  complete_declarators no_declarators = no_declarators_case
  complete_declarators (more_declarators t rest) = more_declarators_case t rest (complete_declarator t) (complete_declarators rest)

  pub complete_declarator : (t : DeclaratorShape) → CompleteDeclarator t
  complete_declarator (declarator ss n f i) = declarator_case ss n f i (complete_behind f) (complete_init_of i)

  pub complete_behind : (f : DeclFormShape) → CompleteBehind f
  complete_behind (arrays ls) = arrays_case ls (complete_lengths ls)
  complete_behind (function ps) = function_case ps (complete_params ps)

  pub complete_params : (ps : ParamsShape) → CompleteParams ps
  complete_params empty = empty_case
  complete_params void = void_case
  complete_params (params no_decls) = λ d g ts y x sh w low few h. absurd sh
  complete_params (params (more_decls t rest)) = params_case t rest (complete_param t) (complete_param_list rest)

  pub complete_param_list : (ds : DeclShapes) → CompleteParamList ds
  complete_param_list no_decls = no_params_case
  complete_param_list (more_decls t rest) = more_params_case t rest (complete_param t) (complete_param_list rest)

  pub complete_param : (t : DeclShape) → CompleteParam t
  complete_param (decl p specs no_declarators) = λ d g ts x sh w low few e b. absurd sh
  complete_param (decl p specs (more_declarators t no_declarators)) = param_case p specs t (complete_specs specs) (complete_declarator t)
  complete_param (decl p specs (more_declarators t (more_declarators u rest))) = λ d g ts x sh w low few e b. absurd sh

  pub complete_init_of : (i : MaybeInit) → CompleteInitOf i
  complete_init_of no_init = no_init_case
  complete_init_of (one_init i) = init_of_case i (complete_init i)

  pub complete_init : (i : InitShape) → CompleteInit i
  complete_init (one a) = init_one_case a (complete a)
  complete_init (listed p no_inits last) = λ d g ts x sh w low few st. absurd sh
  complete_init (listed p (more_inits i rest) last) = init_list_case p i rest last (complete_init i) (complete_inits rest)

  pub complete_inits : (is' : InitShapes) → CompleteInits is'
  complete_inits no_inits = no_inits_case
  complete_inits (more_inits i rest) = more_inits_case i rest (complete_init i) (complete_inits rest)

-- WITH NO PROBE ROUND IT

-- an expression behind which no operator stands
pub complete_node : (t : NodeShape) (n d : ℕ) (ts x : List Token) → Shaped t → Written (node_form t) ts x → n ≤ level t → height t + d ≤ 400 → sign x ≡ no_sign → Finds (reads n d 0) ts (got t x)
complete_node t n d ts x s w le low e = ended_node t (complete t) n d 0 ts x s w le low (omega (arith, low)) e

-- the same before a mark that is no operator
pub complete_before : (t : NodeShape) (n d : ℕ) (ts x r : List Token) (m : Mark) → Shaped t → Written (node_form t) ts x → n ≤ level t → height t + d ≤ 400 → head x ≡ a_token (kind.Mark m) r → sign_head (a_token (kind.Mark m) r) ≡ no_sign → Finds (reads n d 0) ts (got t x)
complete_before t n d ts x r m s w le low h e = complete_node t n d ts x s w le low (mark_ends m x r h e)

pub complete_declarations : (ds : DeclShapes) (d : ℕ) (ts x : List Token) → ShapedDecls in_names ds → Written (decls_form ds) ts x → decls_height ds + d ≤ 400 → spec_head x ≡ no_spec → Finds (reads_decls in_names d 0) ts (got ds x)
complete_declarations ds d ts x s w low e = complete_decls ds in_names d 0 ts x refl s w low (omega (arith, low)) e

-- specifiers, before what is neither a specifier nor a brace
pub complete_some : (ss : SpecShapes) (d : ℕ) (ts x : List Token) → SomeSpecs ss → Written (specs_form ss) ts x → specs_height ss + d ≤ 400 → spec_head x ≡ no_spec → after marks.LeftBrace x ≡ None → Finds (reads_some d 0) ts (got ss x)
complete_some ss d ts x s w low e b =
    some_found d 0 ts (got ss x) (specs_begin ss ts x s w) (complete_specs ss d 0 ts x (all_specs ss s) w low (omega (arith, low)) e b)

pub complete_first : (t : DeclaratorShape) (d : ℕ) (ts x : List Token) → ShapedDeclarator in_names t → Written (declarator_form t) ts x → declarator_height t + d ≤ 400 → Ends x → Finds (reads_declarator in_names d 0) ts (got t x)
complete_first t d ts x s w low e = complete_declarator t in_names d 0 ts x s w low (omega (arith, low)) e

-- further declarators and the semicolon behind them
pub complete_further : (ds : DeclaratorShapes) (d : ℕ) (ts x r : List Token) → ShapedDeclarators in_names ds → Written (led_declarators_form ds) ts x → declarators_height ds + d ≤ 400 → head x ≡ a_token (kind.Mark marks.Semicolon) r → Finds (reads_declarators in_names d 0) ts (got ds x)
complete_further ds d ts x r s w low h = complete_declarators ds in_names d 0 ts x s w low (omega (arith, low)) (ends_semicolon x r h) (ap (after_head marks.Comma) h)

-- ONE TREE

-- the tokens of an expression are those of no other
pub one_expression : (s t : NodeShape) (n d : ℕ) (ts x y : List Token) → Shaped s → Shaped t → Written (node_form s) ts x → Written (node_form t) ts y → n ≤ level s → n ≤ level t → height s + d ≤ 400 → height t + d ≤ 400 → sign x ≡ no_sign → sign y ≡ no_sign → (s ≡ t) × (x ≡ y)
one_expression s t n d ts x y hs ht ws wt ns nt ls lt es et =
    got_eq s t x y (same_answer (reads n d 0) ts (got s x) (got t y) (complete_node s n d ts x hs ws ns ls es) (complete_node t n d ts y ht wt nt lt et))

pub one_declarations : (s t : DeclShapes) (d : ℕ) (ts x y : List Token) → ShapedDecls in_names s → ShapedDecls in_names t → Written (decls_form s) ts x → Written (decls_form t) ts y → decls_height s + d ≤ 400 → decls_height t + d ≤ 400 → spec_head x ≡ no_spec → spec_head y ≡ no_spec → (s ≡ t) × (x ≡ y)
one_declarations s t d ts x y hs ht ws wt ls lt es et =
    got_eq s t x y (same_answer (reads_decls in_names d 0) ts (got s x) (got t y) (complete_declarations s d ts x hs ws ls es) (complete_declarations t d ts y ht wt lt et))
