-- What the parts of the code read of statements and units, in the words of the reader.
use Rattle.std.specs.Prelude.{◌≡◌, ◌≢◌, ◌⊎◌, ℕ, suc, ◌≤◌, List, [], ◌∷◌, map, length, Bool, ◌||◌, is_some}
use Rattle.c_base.specs.declared.place.Pos.{Pos}
use Rattle.c_syntax.specs.declared.token.Mark.{Mark}
use Rattle.c_syntax.specs.declared.token.Mark.TheVariants as marks
use Rattle.c_syntax.specs.declared.token.Key.TheVariants as keys
use Rattle.c_syntax.specs.declared.token.Token.{Token}
use Rattle.c_syntax.specs.declared.tree.ProbeMark.{ProbeMark}
use Rattle.c_syntax.specs.declared.tree.Label.{Label}
use Rattle.c_syntax.specs.declared.tree.Item.{Item}
use Rattle.c_syntax.specs.declared.tree.External.{External}
use Rattle.c_syntax.specs.declared.tree.ProgramLine.{ProgramLine}
use Rattle.c_syntax.specs.Forms.{Then, Written, place}
use Rattle.c_syntax.specs.Grammar.{line_form, unit_form, Placed}
use Rattle.c_syntax.specs.Shaped.{ShapedUnit}
use Rattle.c_syntax.specs.Shape.{NodeShape, MaybeNode, SpecShapes, DeclaratorShape, LabelShape, case, default, FormShape, ItemShapes, more_items, ExternalShape, UnitShape}
use Rattle.c_syntax.specs.View.{label_shape, stmt_shape, external_shape}
use Rattle.c_grammar.specs.Look.{Got, got, then_go, go_after, either_way, Finds, after_key, expect}
use Rattle.c_grammar.specs.Reader.{reads}
use Rattle.c_grammar_stmt.specs.StmtReader.{in_parens, maybe_before, compound_got, if_from, while_from, do_from, for_from, switch_from, return_got, simply_got, reads_marks, reads_labels, reads_stmt, reads_items, reads_compound, inside, external_specs, external_first, external_body, reads_external}
use Rattle.c_grammar.specs.Leads.{Leads}

-- an expression in parentheses, with d levels above it
abbrev pub parens : ℕ → ℕ → List Token → Got NodeShape
parens d k l = in_parens (λ r. reads 0 d 0 k r) l

-- an expression, or none, before a mark
abbrev pub optional : Mark → ℕ → ℕ → List Token → Got MaybeNode
optional m d k l = maybe_before m (λ r. reads 0 d 0 k r) l

-- THE FORM OF A STATEMENT THAT HAS d LEVELS ABOVE IT, behind its keyword

abbrev pub if_parts : ℕ → ℕ → List Token → Got FormShape
if_parts d k l = then_go (parens (suc d) k l) (if_from (inside d k))

abbrev pub while_parts : ℕ → ℕ → List Token → Got FormShape
while_parts d k l = then_go (parens (suc d) k l) (while_from (inside d k))

abbrev pub do_parts : ℕ → ℕ → List Token → Got FormShape
do_parts d k l = then_go (reads_stmt (suc d) k l) (do_from (inside d k))

abbrev pub for_parts : ℕ → ℕ → List Token → Got FormShape
for_parts d k l = for_from (inside d k) l

abbrev pub switch_parts : ℕ → ℕ → List Token → Got FormShape
switch_parts d k l = then_go (parens (suc d) k l) (switch_from (inside d k))

abbrev pub return_parts : ℕ → ℕ → List Token → Got FormShape
return_parts d k l = then_go (optional marks.Semicolon (suc d) k l) return_got

-- a statement of an expression, or of none
abbrev pub simple_parts : ℕ → ℕ → List Token → Got FormShape
simple_parts d k l = then_go (optional marks.Semicolon (suc d) k l) simply_got

-- a compound behind its brace, which stands at p
abbrev pub compound_parts : ℕ → Pos → ℕ → List Token → Got FormShape
compound_parts d p k l = then_go (reads_compound (suc d) p k l) compound_got

-- LABELS

-- a label begins here
abbrev pub label_there : List Token → Bool
label_there ts = is_some (after_key keys.Case ts) || is_some (after_key keys.Default ts)

abbrev pub case_got : Pos → NodeShape → List Token → Got LabelShape
case_got p e ts = expect marks.Colon (case p e) ts

-- one label of an item that has d levels above it
abbrev pub one_label : ℕ → ℕ → List Token → Got LabelShape
one_label d k ts = either_way (after_key keys.Case ts) (λ r. then_go (reads 2 (suc d) 0 k r) (case_got (place ts))) (go_after (after_key keys.Default ts) (expect marks.Colon (default (place ts))))

-- EXTERNAL DECLARATIONS that begin at p

-- behind the specifiers
abbrev pub external_parts : Pos → SpecShapes → ℕ → List Token → Got ExternalShape
external_parts p specs k l = external_specs k p specs l

-- behind the first declarator
abbrev pub external_rest : Pos → SpecShapes → DeclaratorShape → ℕ → List Token → Got ExternalShape
external_rest p specs t k l = external_first k p specs t l

-- a function's body and the probes before it
abbrev pub function_parts : SpecShapes → DeclaratorShape → ℕ → List Token → Got ExternalShape
function_parts specs t k l = then_go (reads_marks k l) (external_body k specs t)

-- LISTS THAT ARE BEING READ

abbrev pub mark_cons : ProbeMark → List ProbeMark → List ProbeMark
mark_cons a s = a ∷ s

abbrev pub label_cons : Label → List LabelShape → List LabelShape
label_cons a s = label_shape a ∷ s

abbrev pub item_cons : Item → ItemShapes → ItemShapes
item_cons i s = more_items (map label_shape i.labels.items) (stmt_shape i.stmt) s

abbrev pub MarksFrom : List ProbeMark → List Token → List Token → Type 0
MarksFrom l ts rest = Leads mark_cons reads_marks reads_marks l ts rest

pub record LabelsFrom (d : ℕ) (l : List Label) (ts rest : List Token) : Type 0 where
  pub read : Leads label_cons (reads_labels d) (reads_labels d) l ts rest

pub record ItemsFrom (d : ℕ) (l : List Item) (ts rest : List Token) : Type 0 where
  pub read : Leads item_cons (reads_items d) (reads_items d) l ts rest

-- these external declarations were read one behind the other, from ts up to rest
abbrev pub ReadExternals : List ExternalShape → List Token → List Token → Type 0
ReadExternals [] ts rest = ts ≡ rest
ReadExternals (e ∷ es) ts rest = Then (λ l r. Finds reads_external l (got e r)) (ReadExternals es) ts rest

pub record ExternalsFrom (l : List External) (ts rest : List Token) : Type 0 where
  pub read : ReadExternals (map external_shape l) ts rest

-- WHERE TOKENS ARE NO UNIT

-- the tokens before `rest` are none, or a program line, or those of some unit that the grammar allows
abbrev pub Front : List Token → List Token → Type 0
Front ts rest = (ts ≡ rest) ⊎ (((l : ProgramLine) × Written (line_form l) ts rest) ⊎ ((u : UnitShape) × ShapedUnit u × Written (unit_form u) ts rest))

-- p is the place of the token that follows the longest of these fronts that isn't all of the tokens
pub record BehindLongest (ts : List Token) (p : Pos) : Type 0 where
  pub rest : List Token
  pub front : Front ts rest
  pub proper : rest ≢ []
  pub longest : (other : List Token) → Front ts other → other ≢ [] → length rest ≤ length other
  pub at' : p ≡ place rest

-- where a syntax error stands: at 1:1 where there is no token
abbrev pub SyntaxAt : List Token → Pos → Type 0
SyntaxAt [] p = p ≡ record { line = 1; col = 1 }
SyntaxAt (t ∷ ts) p = BehindLongest (t ∷ ts) p

-- these tokens are no unit that the grammar allows
abbrev pub NoUnit : List Token → Type 0
NoUnit ts = (u : UnitShape) → ShapedUnit u → Placed u ts → ⊥
