-- The shapes of trees: the same variants, numbers, bytes, places and lists, wherever the parts lie in memory. Every definition speaks of
-- shapes. What is written alike is one form here: the operators between two operands, those in front of one, what stands behind one.
use Rattle.std.specs.Prelude.{ℕ, ℤ, Bool, List, Option}
use Rattle.c_base.specs.declared.place.Pos.{Pos}
use Rattle.c_base.specs.declared.place.IntKind.{IntKind}
use Rattle.c_syntax.specs.declared.text.Text.{Text}
use Rattle.c_syntax.specs.declared.token.Key.{Key}
use Rattle.c_syntax.specs.declared.tree.UnaryOp.{UnaryOp}
use Rattle.c_syntax.specs.declared.tree.BinaryOp.{BinaryOp}
use Rattle.c_syntax.specs.declared.tree.Star.{Star}
use Rattle.c_syntax.specs.declared.tree.Named.{Named}
use Rattle.c_syntax.specs.declared.tree.ProbeMark.{ProbeMark}
use Rattle.c_syntax.specs.declared.tree.ProgramLine.{ProgramLine}

-- TYPES AND NOTES

pub data TypeOf : Type 0 where
  int : IntKind → TypeOf
  pointer : TypeOf → TypeOf
  array : TypeOf → ℕ → TypeOf
  structure : ℕ → TypeOf
  nothing : TypeOf

pub data NoteShape : Type 0 where
  bare : NoteShape
  typed : TypeOf → Option ℕ → NoteShape
  known : TypeOf → ℤ → NoteShape

-- OPERATORS

pub data Leaf : Type 0 where
  number : Text → Leaf
  char : ℕ → Leaf
  str : Text → Leaf
  name : Text → Leaf

pub data Step : Type 0 where
  up : Step
  down : Step

-- in front of an operand
pub data Prefix : Type 0 where
  unary : UnaryOp → Prefix
  before : Step → Prefix
  size_of : Prefix

-- between two operands
pub data Infix : Type 0 where
  plain : BinaryOp → Infix
  and : Infix
  or : Infix
  assign : Option BinaryOp → Infix
  comma : Infix

pub data Access : Type 0 where
  dot : Access
  arrow : Access

-- the probes with no case constants
pub data Probing : Type 0 where
  block : Probing
  test : Probing
  used : Probing
  def : Probing

-- EXPRESSIONS, TYPES AND DECLARATIONS

mutual
  -- the place of its first token, that of its operator, what is known of it, and its form
  pub data NodeShape : Type 0 where
    node : Pos → Pos → NoteShape → ExprShape → NodeShape

  pub data ExprShape : Type 0 where
    leaf : Leaf → ExprShape
    paren : NodeShape → ExprShape
    call : Text → NodeShapes → ExprShape
    prefix : Prefix → NodeShape → ExprShape
    size_of_type : TypeShape → ExprShape
    cast : TypeShape → NodeShape → ExprShape
    suffix : NodeShape → SuffixShape → ExprShape
    two : Infix → NodeShape → NodeShape → ExprShape
    choose : NodeShape → NodeShape → NodeShape → ExprShape
    probe : ProbeShape → NodeShape → ExprShape

  -- behind an operand
  pub data SuffixShape : Type 0 where
    index : NodeShape → SuffixShape
    field : Access → Text → Pos → SuffixShape
    behind : Step → SuffixShape

  pub data ProbeShape : Type 0 where
    simple : Probing → Text → ProbeShape
    select : Text → NodeShapes → ProbeShape

  pub data NodeShapes : Type 0 where
    no_nodes : NodeShapes
    more_nodes : NodeShape → NodeShapes → NodeShapes

  pub data MaybeNode : Type 0 where
    no_node : MaybeNode
    one_node : NodeShape → MaybeNode

  -- array lengths
  pub data LengthShapes : Type 0 where
    no_lengths : LengthShapes
    more_lengths : MaybeNode → LengthShapes → LengthShapes

  pub data TypeShape : Type 0 where
    type_name : Pos → SpecShapes → List Star → LengthShapes → TypeShape

  pub data SpecShapes : Type 0 where
    no_specs : SpecShapes
    more_specs : Pos → SpecShape → SpecShapes → SpecShapes

  pub data SpecShape : Type 0 where
    word : Key → SpecShape
    struct : Option Named → MaybeDecls → SpecShape
    enum : Option Named → MaybeEnumers → SpecShape

  pub data MaybeDecls : Type 0 where
    no_members : MaybeDecls
    members : DeclShapes → MaybeDecls

  pub data MaybeEnumers : Type 0 where
    no_rows : MaybeEnumers
    rows : EnumerShapes → MaybeEnumers

  pub data EnumerShapes : Type 0 where
    no_enumers : EnumerShapes
    more_enumers : Named → MaybeNode → EnumerShapes → EnumerShapes

  -- a declaration, a line of a member list, or a parameter, which has one declarator
  pub data DeclShape : Type 0 where
    decl : Pos → SpecShapes → DeclaratorShapes → DeclShape

  pub data DeclShapes : Type 0 where
    no_decls : DeclShapes
    more_decls : DeclShape → DeclShapes → DeclShapes

  pub data DeclaratorShape : Type 0 where
    declarator : List Star → Option Named → DeclFormShape → MaybeInit → DeclaratorShape

  pub data DeclaratorShapes : Type 0 where
    no_declarators : DeclaratorShapes
    more_declarators : DeclaratorShape → DeclaratorShapes → DeclaratorShapes

  pub data DeclFormShape : Type 0 where
    arrays : LengthShapes → DeclFormShape
    function : ParamsShape → DeclFormShape

  pub data ParamsShape : Type 0 where
    empty : ParamsShape
    void : ParamsShape
    params : DeclShapes → ParamsShape

  pub data MaybeInit : Type 0 where
    no_init : MaybeInit
    one_init : InitShape → MaybeInit

  -- an expression; or a list in braces, and whether a comma stands before its closing brace
  pub data InitShape : Type 0 where
    one : NodeShape → InitShape
    listed : Pos → InitShapes → Bool → InitShape

  pub data InitShapes : Type 0 where
    no_inits : InitShapes
    more_inits : InitShape → InitShapes → InitShapes

-- STATEMENTS

pub data LabelShape : Type 0 where
  case : Pos → NodeShape → LabelShape
  default : Pos → LabelShape

mutual
  -- the place of its first token, its block probes, the place of the first token behind them, and its form
  pub data StmtShape : Type 0 where
    stmt : Pos → List ProbeMark → Pos → FormShape → StmtShape

  pub data FormShape : Type 0 where
    compound : CompoundShape → FormShape
    simply : MaybeNode → FormShape
    when : NodeShape → StmtShape → FormShape
    either : NodeShape → StmtShape → StmtShape → FormShape
    while : NodeShape → StmtShape → FormShape
    do_while : StmtShape → NodeShape → FormShape
    for : MaybeNode → MaybeNode → MaybeNode → StmtShape → FormShape
    switch : NodeShape → ItemShapes → FormShape
    break : FormShape
    continue : FormShape
    return : MaybeNode → FormShape

  pub data CompoundShape : Type 0 where
    braces : Pos → DeclShapes → ItemShapes → CompoundShape

  pub data ItemShapes : Type 0 where
    no_items : ItemShapes
    more_items : List LabelShape → StmtShape → ItemShapes → ItemShapes

-- UNITS

pub data ExternalShape : Type 0 where
  defined : SpecShapes → DeclaratorShape → List ProbeMark → CompoundShape → ExternalShape
  declared : DeclShape → ExternalShape

pub record UnitShape : Type 0 where
  pub pos : Pos
  pub line : Option ProgramLine
  pub externals : List ExternalShape
  pub last : Pos
