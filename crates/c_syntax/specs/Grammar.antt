-- How each part of a program is written (C89, 3.3, 3.5, 3.6 and 3.7, in the subset of docs/LANGUAGE.md).
use Rattle.std.specs.Prelude.{◌≡◌, ℕ, zero, suc, Bool, true, false, List, [], ◌∷◌, Option, Some, None}
use Rattle.c_base.specs.declared.place.Pos.{Pos}
use Rattle.c_syntax.specs.declared.text.Text.{Text}
use Rattle.c_syntax.specs.declared.token.TokenKind.{TokenKind}
use Rattle.c_syntax.specs.declared.token.TokenKind.TheVariants as kind
use Rattle.c_syntax.specs.declared.token.Mark.{Mark}
use Rattle.c_syntax.specs.declared.token.Mark.TheVariants as m
use Rattle.c_syntax.specs.declared.token.Key.TheVariants as k
use Rattle.c_syntax.specs.declared.token.ProbeWord.{ProbeWord}
use Rattle.c_syntax.specs.declared.token.ProbeWord.TheVariants as w
use Rattle.c_syntax.specs.declared.token.Token.{Token}
use Rattle.c_syntax.specs.declared.tree.UnaryOp.{UnaryOp}
use Rattle.c_syntax.specs.declared.tree.UnaryOp.TheVariants as unary_op
use Rattle.c_syntax.specs.declared.tree.BinaryOp.{BinaryOp}
use Rattle.c_syntax.specs.declared.tree.BinaryOp.TheVariants as op
use Rattle.c_syntax.specs.declared.tree.Star.{Star}
use Rattle.c_syntax.specs.declared.tree.Named.{Named}
use Rattle.c_syntax.specs.declared.tree.ProbeMark.{ProbeMark}
use Rattle.c_syntax.specs.declared.tree.ProgramLine.{ProgramLine}
use Rattle.c_syntax.specs.Forms.{Form, nothing, is, at, starts, ◌▷◌, mark, mark_at, key, key_at, probe_at, kinds, Written, last_place}
use Rattle.c_syntax.specs.Shape.{Leaf, number, char, str, name, Step, up, down, Prefix, unary, before, size_of, Infix, plain, and, or, assign, comma, Access, dot, arrow, Probing, block, test, used, def, NodeShape, node, ExprShape, leaf, paren, call, prefix, size_of_type, cast, suffix, two, choose, probe, SuffixShape, index, field, behind, ProbeShape, simple, select, NodeShapes, no_nodes, more_nodes, MaybeNode, no_node, one_node, LengthShapes, no_lengths, more_lengths, TypeShape, type_name, SpecShapes, no_specs, more_specs, SpecShape, word, struct, enum, MaybeDecls, no_members, members, MaybeEnumers, no_rows, rows, EnumerShapes, no_enumers, more_enumers, DeclShape, decl, DeclShapes, no_decls, more_decls, DeclaratorShape, declarator, DeclaratorShapes, no_declarators, more_declarators, DeclFormShape, arrays, function, ParamsShape, empty, void, params, MaybeInit, no_init, one_init, InitShape, one, listed, InitShapes, no_inits, more_inits, LabelShape, case, default, StmtShape, stmt, FormShape, compound, simply, when, either, while, do_while, for, switch, break, continue, return, CompoundShape, braces, ItemShapes, no_items, more_items, ExternalShape, defined, declared, UnitShape}

-- TOKENS

abbrev pub leaf_kind : Leaf → TokenKind
leaf_kind (number t) = kind.Number t
leaf_kind (char c) = kind.Char c
leaf_kind (str t) = kind.Str t
leaf_kind (name t) = kind.Word t

abbrev pub unary_mark : UnaryOp → Mark
unary_mark unary_op.AddressOf = m.Ampersand
unary_mark unary_op.Deref = m.Star
unary_mark unary_op.Plus = m.Plus
unary_mark unary_op.Minus = m.Minus
unary_mark unary_op.Flip = m.Tilde
unary_mark unary_op.Not = m.Bang

abbrev pub step_mark : Step → Mark
step_mark up = m.PlusPlus
step_mark down = m.MinusMinus

abbrev pub prefix_kind : Prefix → TokenKind
prefix_kind (unary u) = kind.Mark (unary_mark u)
prefix_kind (before s) = kind.Mark (step_mark s)
prefix_kind size_of = kind.Key k.Sizeof

abbrev pub binary_mark : BinaryOp → Mark
binary_mark op.Mul = m.Star
binary_mark op.Div = m.Slash
binary_mark op.Rem = m.Percent
binary_mark op.Add = m.Plus
binary_mark op.Sub = m.Minus
binary_mark op.Shl = m.ShiftLeft
binary_mark op.Shr = m.ShiftRight
binary_mark op.Lt = m.Less
binary_mark op.Gt = m.Greater
binary_mark op.Le = m.LessEqual
binary_mark op.Ge = m.GreaterEqual
binary_mark op.Eq = m.EqualEqual
binary_mark op.Ne = m.NotEqual
binary_mark op.BitAnd = m.Ampersand
binary_mark op.BitXor = m.Caret
binary_mark op.BitOr = m.Bar

-- `+=` and its like; a comparison has no such mark, and stands in no assignment of a tree that the grammar allows
abbrev pub assign_mark : Option BinaryOp → Mark
assign_mark None = m.Equal
assign_mark (Some op.Mul) = m.StarEqual
assign_mark (Some op.Div) = m.SlashEqual
assign_mark (Some op.Rem) = m.PercentEqual
assign_mark (Some op.Add) = m.PlusEqual
assign_mark (Some op.Sub) = m.MinusEqual
assign_mark (Some op.Shl) = m.LeftEqual
assign_mark (Some op.Shr) = m.RightEqual
assign_mark (Some op.BitAnd) = m.AndEqual
assign_mark (Some op.BitXor) = m.CaretEqual
assign_mark (Some op.BitOr) = m.BarEqual
assign_mark (Some op.Lt) = m.Equal
assign_mark (Some op.Gt) = m.Equal
assign_mark (Some op.Le) = m.Equal
assign_mark (Some op.Ge) = m.Equal
assign_mark (Some op.Eq) = m.Equal
assign_mark (Some op.Ne) = m.Equal

abbrev pub infix_mark : Infix → Mark
infix_mark (plain o) = binary_mark o
infix_mark and = m.AndAnd
infix_mark or = m.OrOr
infix_mark (assign o) = assign_mark o
infix_mark comma = m.Comma

abbrev pub access_mark : Access → Mark
access_mark dot = m.Dot
access_mark arrow = m.Arrow

abbrev pub probing_word : Probing → ProbeWord
probing_word block = w.Block
probing_word test = w.Test
probing_word used = w.Use
probing_word def = w.Def

abbrev pub in_parens : Form → Form
in_parens f = mark m.LeftParen ▷ f ▷ mark m.RightParen

-- NAMES AND STARS

-- a declared name, and the probe round it
abbrev pub named_as : Pos → Text → Option ProbeMark → Form
named_as p x None = at p (kind.Word x)
named_as p x (Some d) = probe_at d.pos w.Def ▷ in_parens (is (kind.Number d.number) ▷ mark m.Comma ▷ at p (kind.Word x))

abbrev pub named_form : Named → Form
named_form n = named_as n.pos n.text n.probe

abbrev pub maybe_named_form : Option Named → Form
maybe_named_form None = nothing
maybe_named_form (Some n) = named_form n

abbrev pub consts_form : ℕ → Form
consts_form zero = nothing
consts_form (suc n) = key k.Const ▷ consts_form n

abbrev pub stars_form : List Star → Form
stars_form [] = nothing
stars_form (s ∷ rest) = mark_at s.pos m.Star ▷ consts_form s.consts ▷ stars_form rest

abbrev pub comma_form : Bool → Form
comma_form true = mark m.Comma
comma_form false = nothing

-- EXPRESSIONS, TYPES AND DECLARATIONS

abbrev mutual
  pub node_form : NodeShape → Form
  node_form (node p o n f) = starts p (expr_form o f)

  -- a form whose operator, or first token where it has none, stands at o
  pub expr_form : Pos → ExprShape → Form
  expr_form o (leaf l) = at o (leaf_kind l)
  expr_form o (paren a) = mark_at o m.LeftParen ▷ node_form a ▷ mark m.RightParen
  expr_form o (call x args) = at o (kind.Word x) ▷ mark m.LeftParen ▷ nodes_form args ▷ mark m.RightParen
  expr_form o (prefix u a) = at o (prefix_kind u) ▷ node_form a
  expr_form o (size_of_type t) = key_at o k.Sizeof ▷ in_parens (type_form t)
  expr_form o (cast t a) = mark_at o m.LeftParen ▷ type_form t ▷ mark m.RightParen ▷ node_form a
  expr_form o (suffix a s) = node_form a ▷ suffix_form o s
  expr_form o (two u a b) = node_form a ▷ mark_at o (infix_mark u) ▷ node_form b
  expr_form o (choose a b c) = node_form a ▷ mark_at o m.Question ▷ node_form b ▷ mark m.Colon ▷ node_form c
  expr_form o (probe u a) = probe_form o u (node_form a)

  pub suffix_form : Pos → SuffixShape → Form
  suffix_form o (index b) = mark_at o m.LeftBracket ▷ node_form b ▷ mark m.RightBracket
  suffix_form o (field h x p) = mark_at o (access_mark h) ▷ at p (kind.Word x)
  suffix_form o (behind s) = mark_at o (step_mark s)

  pub probe_form : Pos → ProbeShape → Form → Form
  probe_form o (simple u n) a = probe_at o (probing_word u) ▷ in_parens (is (kind.Number n) ▷ mark m.Comma ▷ a)
  probe_form o (select n cases) a = probe_at o w.Select ▷ in_parens (is (kind.Number n) ▷ led_nodes_form cases ▷ mark m.Semicolon ▷ a)

  pub nodes_form : NodeShapes → Form
  nodes_form no_nodes = nothing
  nodes_form (more_nodes a rest) = node_form a ▷ led_nodes_form rest

  -- each with a comma in front
  pub led_nodes_form : NodeShapes → Form
  led_nodes_form no_nodes = nothing
  led_nodes_form (more_nodes a rest) = mark m.Comma ▷ node_form a ▷ led_nodes_form rest

  pub maybe_node_form : MaybeNode → Form
  maybe_node_form no_node = nothing
  maybe_node_form (one_node a) = node_form a

  pub lengths_form : LengthShapes → Form
  lengths_form no_lengths = nothing
  lengths_form (more_lengths l rest) = mark m.LeftBracket ▷ maybe_node_form l ▷ mark m.RightBracket ▷ lengths_form rest

  pub type_form : TypeShape → Form
  type_form (type_name p specs stars lengths) = starts p (specs_form specs ▷ stars_form stars ▷ lengths_form lengths)

  pub specs_form : SpecShapes → Form
  specs_form no_specs = nothing
  specs_form (more_specs p s rest) = starts p (spec_form s) ▷ specs_form rest

  pub spec_form : SpecShape → Form
  spec_form (word x) = key x
  spec_form (struct tag ds) = key k.Struct ▷ maybe_named_form tag ▷ members_form ds
  spec_form (enum tag es) = key k.Enum ▷ maybe_named_form tag ▷ rows_form es

  pub members_form : MaybeDecls → Form
  members_form no_members = nothing
  members_form (members ds) = mark m.LeftBrace ▷ decls_form ds ▷ mark m.RightBrace

  pub rows_form : MaybeEnumers → Form
  rows_form no_rows = nothing
  rows_form (rows es) = mark m.LeftBrace ▷ enumers_form es ▷ mark m.RightBrace

  pub enumers_form : EnumerShapes → Form
  enumers_form no_enumers = nothing
  enumers_form (more_enumers n v rest) = named_form n ▷ value_form v ▷ led_enumers_form rest

  pub led_enumers_form : EnumerShapes → Form
  led_enumers_form no_enumers = nothing
  led_enumers_form (more_enumers n v rest) = mark m.Comma ▷ named_form n ▷ value_form v ▷ led_enumers_form rest

  pub value_form : MaybeNode → Form
  value_form no_node = nothing
  value_form (one_node a) = mark m.Equal ▷ node_form a

  pub decls_form : DeclShapes → Form
  decls_form no_decls = nothing
  decls_form (more_decls d rest) = decl_form d ▷ decls_form rest

  pub decl_form : DeclShape → Form
  decl_form (decl p specs ds) = starts p (specs_form specs ▷ declarators_form ds ▷ mark m.Semicolon)

  pub declarators_form : DeclaratorShapes → Form
  declarators_form no_declarators = nothing
  declarators_form (more_declarators d rest) = declarator_form d ▷ led_declarators_form rest

  pub led_declarators_form : DeclaratorShapes → Form
  led_declarators_form no_declarators = nothing
  led_declarators_form (more_declarators d rest) = mark m.Comma ▷ declarator_form d ▷ led_declarators_form rest

  pub declarator_form : DeclaratorShape → Form
  declarator_form (declarator stars n f i) = stars_form stars ▷ maybe_named_form n ▷ behind_form f ▷ maybe_init_form i

  -- what stands behind a declared name
  pub behind_form : DeclFormShape → Form
  behind_form (arrays lengths) = lengths_form lengths
  behind_form (function list) = in_parens (params_form list)

  pub params_form : ParamsShape → Form
  params_form empty = nothing
  params_form void = key k.Void
  params_form (params list) = param_list_form list

  pub param_list_form : DeclShapes → Form
  param_list_form no_decls = nothing
  param_list_form (more_decls d rest) = param_form d ▷ led_params_form rest

  pub led_params_form : DeclShapes → Form
  led_params_form no_decls = nothing
  led_params_form (more_decls d rest) = mark m.Comma ▷ param_form d ▷ led_params_form rest

  pub param_form : DeclShape → Form
  param_form (decl p specs ds) = starts p (specs_form specs ▷ declarators_form ds)

  pub maybe_init_form : MaybeInit → Form
  maybe_init_form no_init = nothing
  maybe_init_form (one_init i) = mark m.Equal ▷ init_form i

  pub init_form : InitShape → Form
  init_form (one a) = node_form a
  init_form (listed p list last) = mark_at p m.LeftBrace ▷ inits_form list ▷ comma_form last ▷ mark m.RightBrace

  pub inits_form : InitShapes → Form
  inits_form no_inits = nothing
  inits_form (more_inits i rest) = init_form i ▷ led_inits_form rest

  pub led_inits_form : InitShapes → Form
  led_inits_form no_inits = nothing
  led_inits_form (more_inits i rest) = mark m.Comma ▷ init_form i ▷ led_inits_form rest

-- STATEMENTS

abbrev pub marks_form : List ProbeMark → Form
marks_form [] = nothing
marks_form (b ∷ rest) = probe_at b.pos w.Block ▷ in_parens (is (kind.Number b.number)) ▷ mark m.Colon ▷ marks_form rest

abbrev pub labels_form : List LabelShape → Form
labels_form [] = nothing
labels_form (case p e ∷ rest) = key_at p k.Case ▷ node_form e ▷ mark m.Colon ▷ labels_form rest
labels_form (default p ∷ rest) = key_at p k.Default ▷ mark m.Colon ▷ labels_form rest

abbrev pub ended : Form → Form
ended f = f ▷ mark m.Semicolon

abbrev mutual
  pub stmt_form : StmtShape → Form
  stmt_form (stmt p marks q f) = starts p (marks_form marks ▷ starts q (body_form f))

  pub body_form : FormShape → Form
  body_form (compound c) = compound_form c
  body_form (simply e) = ended (maybe_node_form e)
  body_form (when e s) = key k.If ▷ in_parens (node_form e) ▷ stmt_form s
  body_form (either e s t) = key k.If ▷ in_parens (node_form e) ▷ stmt_form s ▷ key k.Else ▷ stmt_form t
  body_form (while e s) = key k.While ▷ in_parens (node_form e) ▷ stmt_form s
  body_form (do_while s e) = key k.Do ▷ stmt_form s ▷ key k.While ▷ ended (in_parens (node_form e))
  body_form (for a b c s) = key k.For ▷ in_parens (ended (maybe_node_form a) ▷ ended (maybe_node_form b) ▷ maybe_node_form c) ▷ stmt_form s
  body_form (switch e items) = key k.Switch ▷ in_parens (node_form e) ▷ mark m.LeftBrace ▷ items_form items ▷ mark m.RightBrace
  body_form break = ended (key k.Break)
  body_form continue = ended (key k.Continue)
  body_form (return e) = ended (key k.Return ▷ maybe_node_form e)

  pub compound_form : CompoundShape → Form
  compound_form (braces p ds items) = mark_at p m.LeftBrace ▷ decls_form ds ▷ items_form items ▷ mark m.RightBrace

  pub items_form : ItemShapes → Form
  items_form no_items = nothing
  items_form (more_items labels s rest) = labels_form labels ▷ stmt_form s ▷ items_form rest

-- UNITS

abbrev pub line_form : ProgramLine → Form
line_form l = probe_at l.pos w.Program ▷ in_parens (is (kind.Str l.digest)) ▷ mark m.Semicolon

abbrev pub maybe_line_form : Option ProgramLine → Form
maybe_line_form None = nothing
maybe_line_form (Some l) = line_form l

abbrev pub external_form : ExternalShape → Form
external_form (defined specs d marks c) = specs_form specs ▷ declarator_form d ▷ marks_form marks ▷ compound_form c
external_form (declared d) = decl_form d

abbrev pub externals_form : List ExternalShape → Form
externals_form [] = nothing
externals_form (e ∷ rest) = external_form e ▷ externals_form rest

abbrev pub unit_form : UnitShape → Form
unit_form u = starts u.pos (maybe_line_form u.line ▷ externals_form u.externals)

-- a unit written back as tokens
abbrev pub tokens_of : UnitShape → List TokenKind
tokens_of u = kinds (unit_form u)

-- these are the unit's tokens, and each place in it is that of its own token
pub record Placed (u : UnitShape) (ts : List Token) : Type 0 where
  pub written : Written (unit_form u) ts []
  pub last : u.last ≡ last_place ts
