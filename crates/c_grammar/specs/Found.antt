-- What a reader found, with its levels as the code counts them.
use Rattle.std.specs.Prelude.{◌≡◌, ℕ, List, None, Some, ◌++◌, nat_lt}
use Rattle.c_base.specs.declared.place.Pos.{Pos}
use Rattle.c_syntax.specs.declared.token.Token.{Token}
use Rattle.c_syntax.specs.declared.tree.Node.{Node}
use Rattle.c_syntax.specs.Shape.{bare, NodeShape, node, probe, ProbeShape, NodeShapes, SpecShape, word, DeclShapes, DeclaratorShape}
use Rattle.c_syntax.specs.Levels.{height, nodes_height, cases_height, chain, nodes_chain, cases_chain, maybe_height, declarators_height}
use Rattle.c_grammar.specs.declared.size.Size.{Size}
use Rattle.c_grammar.specs.Look.{Got, got, Finds, a_word, where_true}
use Rattle.c_grammar.specs.Starts.{is_spec, spec_head}
use Rattle.c_grammar.specs.Parts.{LedFrom, constants, probed, closed, structure, enumeration, fields, value}
use Rattle.c_grammar.specs.Reader.{declarator_name, behinds, reads_declarators}
use Rattle.c_grammar.specs.ExprReader.{plain_name}
use Rattle.c_grammar.specs.declared.look.SpecStart.{SpecStart}
use Rattle.c_grammar.specs.declared.look.SpecStart.TheVariants as spec_starts
use Rattle.c_syntax.specs.declared.text.Text.{Text}
use Rattle.c_syntax.specs.declared.token.Mark.TheVariants as marks
use Rattle.c_syntax.specs.declared.tree.Enumer.{Enumer, out-Enumer}
use Rattle.c_syntax.specs.declared.tree.Declarator.{Declarator}
use Rattle.c_syntax.specs.declared.tree.Star.{Star}
use Rattle.c_syntax.specs.Forms.{place}
use Rattle.c_syntax.specs.Shaped.{Standing}
use Rattle.c_syntax.specs.View.{maybe_node, declarator_list}

-- s is how deep the expression is
pub record Measured (a : NodeShape) (s : Size) : Type 0 where
  pub levels : s.levels ≡ height a
  pub chain : s.probes ≡ chain a

-- the reader f finds this expression at the front of ts, and s is how deep it is
pub record NodeFound (f : ℕ → List Token → Got NodeShape) (ts : List Token) (a : NodeShape) (s : Size) (rest : List Token) : Type 0 where
  pub finds : Finds f ts (got a rest)
  pub size : Measured a s

-- the reader f finds this part at the front of ts, and h counts its levels
pub record Found {A : Type 0} (f : ℕ → List Token → Got A) (levels_of : A → ℕ) (ts : List Token) (a : A) (h : ℕ) (rest : List Token) : Type 0 where
  pub finds : Finds f ts (got a rest)
  pub levels : h ≡ levels_of a

-- s is how deep the deepest of these is
pub record AllMeasured (l : NodeShapes) (s : Size) : Type 0 where
  pub levels : s.levels ≡ nodes_height l
  pub chain : s.probes ≡ nodes_chain l

-- behind the expressions of `before`, further ones are found, and l are all of them
pub record LedFound (n d g : ℕ) (before : List Node) (ts : List Token) (l : NodeShapes) (s : Size) (rest : List Token) : Type 0 where
  pub finds : (R : ℕ → List Token → Got NodeShapes) (t : List Token) → LedFrom n d g R before t ts → Finds R t (got l rest)
  pub size : AllMeasured l s

-- behind the expressions of `before`, one can't be read
pub record LedFails (n d g : ℕ) (before : List Node) (ts : List Token) : Type 0 where
  pub finds : (R : ℕ → List Token → Got NodeShapes) (t : List Token) → LedFrom n d g R before t ts → Finds R t None

-- s is how deep the deepest case constant of the probe is
pub record CasesMeasured (u : ProbeShape) (s : Size) : Type 0 where
  pub levels : s.levels ≡ cases_height u
  pub chain : s.probes ≡ cases_chain u

-- what stands inside a probe at ts, and how deep the probe is: of whatever probe with case constants as deep as c
pub record InsideFound (n d g : ℕ) (c : Size) (ts : List Token) (a : NodeShape) (s : Size) (rest : List Token) : Type 0 where
  pub on : (p : Pos) (u : ProbeShape) → CasesMeasured u c → NodeFound (probed n d g p u) ts (node p p bare (probe u a)) s rest

-- no such probe goes on at ts
pub record InsideFails (n d g : ℕ) (c : Size) (ts : List Token) : Type 0 where
  pub on : (p : Pos) (u : ProbeShape) → CasesMeasured u c → Finds (probed n d g p u) ts None

-- the case constants at the front of ts
pub record CasesFound (d g : ℕ) (ts : List Token) (l : NodeShapes) (s : Size) (rest : List Token) : Type 0 where
  pub finds : Finds (constants d g) ts (got l rest)
  pub size : AllMeasured l s

-- one specifier behind its first token
abbrev pub spec_behind : SpecStart → ℕ → ℕ → ℕ → List Token → Got SpecShape
spec_behind (spec_starts.Word x) = λ d g k l. got (word x) l
spec_behind spec_starts.Struct = structure
spec_behind spec_starts.Enum = enumeration

-- a member list behind its brace, and the closing brace
abbrev pub braced_fields : ℕ → ℕ → ℕ → List Token → Got DeclShapes
braced_fields d g k l = where_true (nat_lt d 400) (where_true (is_spec (spec_head l)) (closed marks.RightBrace (fields d g) k l))

-- an enumerator at the front of ts, and h counts the levels of its value
pub record EnumerFound (d g : ℕ) (ts : List Token) (e : Enumer) (h : ℕ) (rest : List Token) : Type 0 where
  pub word : Text
  pub behind : List Token
  pub found : a_word ts ≡ Some (word, behind)
  pub named : (out-Enumer e).name ≡ plain_name (place ts) word
  pub finds : Finds (value d g) behind (got (maybe_node (out-Enumer e).value) rest)
  pub levels : h ≡ maybe_height (maybe_node (out-Enumer e).value)

-- the declarators behind those of `before` are read from ts on, `all` holds both, and h counts the levels of those that are read
pub record FurtherFound (s : Standing) (d g : ℕ) (before all : List Declarator) (ts : List Token) (h : ℕ) (rest : List Token) : Type 0 where
  pub further : List Declarator
  pub joined : all ≡ before ++ further
  pub finds : Finds (reads_declarators s d g) ts (got (declarator_list further) rest)
  pub levels : h ≡ declarators_height (declarator_list further)

-- a declarator behind its stars
abbrev pub named_behind : Standing → ℕ → ℕ → List Star → ℕ → List Token → Got DeclaratorShape
named_behind s d g ss k l = declarator_name s (behinds s d g k) ss l
