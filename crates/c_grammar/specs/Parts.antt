-- What the parts of the code read, in the words of the reader.
use Rattle.std.specs.Prelude.{◌≡◌, ℕ, suc, List, [], ◌∷◌, ◌++◌, Option, Bool, nat_lt}
use Rattle.c_syntax.specs.declared.tree.Declarator.{Declarator}
use Rattle.c_syntax.specs.View.{declarator_list}
use Rattle.c_base.specs.declared.place.Pos.{Pos}
use Rattle.c_syntax.specs.declared.token.Mark.{Mark}
use Rattle.c_syntax.specs.declared.token.Mark.TheVariants as marks
use Rattle.c_syntax.specs.declared.token.Token.{Token}
use Rattle.c_syntax.specs.declared.tree.Star.{Star}
use Rattle.c_syntax.specs.declared.tree.Named.{Named}
use Rattle.c_syntax.specs.declared.tree.Node.{Node}
use Rattle.c_syntax.specs.Shape.{NodeShape, ProbeShape, NodeShapes, MaybeNode, TypeShape, SpecShapes, SpecShape, EnumerShapes, DeclShape, DeclShapes, DeclaratorShape, DeclaratorShapes, DeclFormShape, InitShapes}
use Rattle.c_syntax.specs.Shaped.{Standing, in_members}
use Rattle.c_grammar.specs.Look.{Got, got, then_go, expect, Finds}
use Rattle.c_grammar.specs.Starts.{Oper}
use Rattle.c_grammar.specs.Reader.{behind_from, declarator_init, decl_first, decl_more, init_more, reads, reads_led, reads_type, reads_decls, reads_enumers, reads_declarators, reads_param, reads_params, reads_init, reads_inits, below, lists, behinds}
use Rattle.c_grammar.specs.ExprReader.{one_more, args, probe_at, grow, length_from, tag, struct_tag, enum_tag, enumer_from, value_from}
use Rattle.c_grammar.specs.Leads.{Leads, node_cons}

-- a reader and a mark behind what it reads
abbrev pub closed : {A : Type 0} → Mark → (ℕ → List Token → Got A) → ℕ → List Token → Got A
closed m f k l = then_go (f k l) (expect m)

-- the tree so far with one operator more, which stands at q
abbrev pub grown : ℕ → ℕ → NodeShape → Pos → Oper → ℕ → List Token → Got NodeShape
grown d g a q o k r = grow (below d g k) (λ b l. got b l) a q r o

-- a whole expression one level below
abbrev pub whole : ℕ → ℕ → ℕ → List Token → Got NodeShape
whole d g k l = reads 0 (suc d) g k l

-- arguments and the closing parenthesis
abbrev pub arguments : ℕ → ℕ → ℕ → List Token → Got NodeShapes
arguments d g k l = args (λ r. reads 1 (suc d) g k r) (λ r. reads_led 1 (suc d) g k r) l

-- one and those behind it
abbrev pub listing : ℕ → ℕ → ℕ → ℕ → List Token → Got NodeShapes
listing n d g k l = then_go (reads n d g k l) (one_more (λ r. reads_led n d g k r))

-- a type name and the closing parenthesis
abbrev pub typed : ℕ → ℕ → ℕ → List Token → Got TypeShape
typed d g k l = then_go (reads_type (suc d) g k l) (expect marks.RightParen)

-- a probe's expression, the closing parenthesis, and the probe round it
abbrev pub probed : ℕ → ℕ → ℕ → Pos → ProbeShape → ℕ → List Token → Got NodeShape
probed n d g p u k l = then_go (then_go (reads n d (suc g) k l) (expect marks.RightParen)) (probe_at p u)

-- it binds at least as tightly as n
abbrev pub inner : ℕ → ℕ → ℕ → ℕ → List Token → Got NodeShape
inner n d g k l = reads n d (suc g) k l

-- the case constants of a select
abbrev pub constants : ℕ → ℕ → ℕ → List Token → Got NodeShapes
constants d g k l = reads_led 2 d (suc g) k l

-- one length and the closing bracket
abbrev pub one_length : Bool → ℕ → ℕ → ℕ → List Token → Got MaybeNode
one_length free d g k l = length_from free (λ r. reads 2 (suc d) g k r) l

-- what stands behind `struct`, and behind `enum`
abbrev pub structure : ℕ → ℕ → ℕ → List Token → Got SpecShape
structure d g k l = then_go (tag l) (struct_tag (lists d g k) d)

abbrev pub enumeration : ℕ → ℕ → ℕ → List Token → Got SpecShape
enumeration d g k l = then_go (tag l) (enum_tag (lists d g k))

-- a member list behind its brace
abbrev pub fields : ℕ → ℕ → ℕ → List Token → Got DeclShapes
fields d g k l = reads_decls in_members (suc d) g k l

-- enumerators, the first of which has no comma in front
abbrev pub enumerators : ℕ → ℕ → ℕ → List Token → Got EnumerShapes
enumerators d g k l = enumer_from (λ r. reads 2 d g k r) (λ r. reads_enumers d g k r) l

-- an enumerator's value
abbrev pub value : ℕ → ℕ → ℕ → List Token → Got MaybeNode
value d g k l = value_from (λ r. reads 2 d g k r) l

-- what stands behind a name, with c stars in front of it
abbrev pub behind : Standing → ℕ → ℕ → ℕ → ℕ → List Token → Got DeclFormShape
behind s d g c k l = behind_from s (behinds s d g k) c l

-- a declarator from its initialiser on
abbrev pub ending : Standing → ℕ → ℕ → List Star → Option Named → DeclFormShape → ℕ → List Token → Got DeclaratorShape
ending s d g ss n f k l = declarator_init s (behinds s d g k) ss n f l

-- a declaration from its first declarator on
abbrev pub declaring : Standing → ℕ → ℕ → Pos → SpecShapes → DeclaratorShape → ℕ → List Token → Got DeclShape
declaring s d g p specs t k l = decl_first (λ r. reads_declarators s d g k r) p specs t l

-- a list of parameters, the first of which has no comma in front
abbrev pub params_of : ℕ → ℕ → ℕ → List Token → Got DeclShapes
params_of d g k l = then_go (reads_param d g k l) (decl_more (λ r. reads_params d g k r))

-- the items of a list in braces
abbrev pub inits_of : ℕ → ℕ → ℕ → List Token → Got InitShapes
inits_of d g k l = then_go (reads_init (suc d) g k l) (init_more (λ r. reads_inits (suc d) g k r))

-- a list of expressions that is being read from ts on by R
abbrev pub LedFrom : ℕ → ℕ → ℕ → (ℕ → List Token → Got NodeShapes) → List Node → List Token → List Token → Type 0
LedFrom n d g R l ts rest = Leads node_cons R (reads_led n d g) l ts rest

-- the declarators behind those of `before` were read, and `all` holds both
pub record DeclaratorsRead (s : Standing) (d g : ℕ) (before all : List Declarator) (ts rest : List Token) : Type 0 where
  pub further : List Declarator
  pub joined : all ≡ before ++ further
  pub finds : Finds (reads_declarators s d g) ts (got (declarator_list further) rest)
