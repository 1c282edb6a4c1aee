-- A reader of statements and units.
use Rattle.std.specs.Prelude.{ℕ, zero, suc, List, [], ◌∷◌, Option, Some, None, Bool, true, false, ◌&&◌, ◌||◌, nat_lt, is_some}
use Rattle.c_base.specs.declared.place.Pos.{Pos}
use Rattle.c_syntax.specs.declared.text.Text.{Text}
use Rattle.c_syntax.specs.declared.token.Mark.{Mark}
use Rattle.c_syntax.specs.declared.token.Mark.TheVariants as marks
use Rattle.c_syntax.specs.declared.token.Key.TheVariants as keys
use Rattle.c_syntax.specs.declared.token.ProbeWord.TheVariants as words
use Rattle.c_syntax.specs.declared.token.Token.{Token}
use Rattle.c_syntax.specs.declared.tree.ProbeMark.{ProbeMark}
use Rattle.c_syntax.specs.declared.tree.ProgramLine.{ProgramLine}
use Rattle.c_syntax.specs.Forms.{place, last_place}
use Rattle.c_syntax.specs.Shape.{NodeShape, MaybeNode, no_node, SpecShapes, DeclShape, decl, DeclShapes, DeclaratorShape, declarator, no_declarators, arrays, function, LabelShape, case, default, StmtShape, stmt, FormShape, compound, simply, when, either, while, do_while, for, switch, break, continue, return, CompoundShape, braces, ItemShapes, no_items, more_items, ExternalShape, defined, declared, UnitShape}
use Rattle.c_syntax.specs.Shaped.{in_names}
use Rattle.c_grammar.specs.Look.{Got, got, then_go, go_after, either_way, where_true, if_so, after, after_key, after_probe, expect, a_string}
use Rattle.c_grammar.specs.Reader.{reads, reads_decls, reads_declarator, reads_declarators, reads_some, decl_first}
use Rattle.c_grammar.specs.ExprReader.{numbered, one_got}

-- BLOCK PROBES

abbrev pub colon_behind : Text → Option (List Token) → Got Text
colon_behind n None = None
colon_behind n (Some ts) = expect marks.Colon n ts

abbrev pub mark_closed : Text → List Token → Got Text
mark_closed n ts = colon_behind n (after marks.RightParen ts)

-- the number of a block probe in front of a statement
abbrev pub mark_ahead : List Token → Got Text
mark_ahead ts = go_after (after_probe words.Block ts) (λ r. then_go (numbered r) mark_closed)

abbrev pub mark_onto : Pos → Text → List ProbeMark → List Token → Got (List ProbeMark)
mark_onto p n ms ts = Some (record { pos = p; number = n } ∷ ms, ts)

abbrev pub marks_from : (List Token → Got (List ProbeMark)) → List Token → Got Text → Got (List ProbeMark)
marks_from more ts None = got [] ts
marks_from more ts (Some p) = then_go (more p.1) (mark_onto (place ts) p.0)

abbrev pub reads_marks : ℕ → List Token → Got (List ProbeMark)
reads_marks zero ts = None
reads_marks (suc k) ts = marks_from (reads_marks k) ts (mark_ahead ts)

-- STATEMENTS

-- the readers of what stands below a statement
pub record Inside : Type 0 where
  pub expression : List Token → Got NodeShape
  pub statement : List Token → Got StmtShape
  -- the items of a switch
  pub items : List Token → Got ItemShapes
  -- a compound behind its brace, whose place is this
  pub braced : Pos → List Token → Got CompoundShape

abbrev pub in_parens : (List Token → Got NodeShape) → List Token → Got NodeShape
in_parens e ts = go_after (after marks.LeftParen ts) (λ r. then_go (e r) (expect marks.RightParen))

-- an expression, or none, before this mark
abbrev pub maybe_before : Mark → (List Token → Got NodeShape) → List Token → Got MaybeNode
maybe_before m e ts = either_way (after m ts) (got no_node) (then_go (then_go (e ts) one_got) (expect m))

abbrev pub compound_got : CompoundShape → List Token → Got FormShape
compound_got c ts = Some (compound c, ts)

abbrev pub either_made : NodeShape → StmtShape → StmtShape → List Token → Got FormShape
either_made c s t ts = Some (either c s t, ts)

abbrev pub if_then : Inside → NodeShape → StmtShape → List Token → Got FormShape
if_then S c s ts = either_way (after_key keys.Else ts) (λ r. then_go (S.statement r) (either_made c s)) (got (when c s) ts)

abbrev pub if_from : Inside → NodeShape → List Token → Got FormShape
if_from S c ts = then_go (S.statement ts) (if_then S c)

abbrev pub while_made : NodeShape → StmtShape → List Token → Got FormShape
while_made c s ts = Some (while c s, ts)

abbrev pub while_from : Inside → NodeShape → List Token → Got FormShape
while_from S c ts = then_go (S.statement ts) (while_made c)

abbrev pub do_end : StmtShape → NodeShape → List Token → Got FormShape
do_end s c ts = expect marks.Semicolon (do_while s c) ts

abbrev pub do_from : Inside → StmtShape → List Token → Got FormShape
do_from S s ts = go_after (after_key keys.While ts) (λ r. then_go (in_parens S.expression r) (do_end s))

abbrev pub for_made : MaybeNode → MaybeNode → MaybeNode → StmtShape → List Token → Got FormShape
for_made a b c s ts = Some (for a b c s, ts)

abbrev pub for_third : Inside → MaybeNode → MaybeNode → MaybeNode → List Token → Got FormShape
for_third S a b c ts = then_go (S.statement ts) (for_made a b c)

abbrev pub for_second : Inside → MaybeNode → MaybeNode → List Token → Got FormShape
for_second S a b ts = then_go (maybe_before marks.RightParen S.expression ts) (for_third S a b)

abbrev pub for_first : Inside → MaybeNode → List Token → Got FormShape
for_first S a ts = then_go (maybe_before marks.Semicolon S.expression ts) (for_second S a)

abbrev pub for_from : Inside → List Token → Got FormShape
for_from S ts = go_after (after marks.LeftParen ts) (λ r. then_go (maybe_before marks.Semicolon S.expression r) (for_first S))

abbrev pub switch_made : NodeShape → ItemShapes → List Token → Got FormShape
switch_made c is' ts = Some (switch c is', ts)

abbrev pub switch_from : Inside → NodeShape → List Token → Got FormShape
switch_from S c ts = go_after (after marks.LeftBrace ts) (λ r. then_go (then_go (S.items r) (expect marks.RightBrace)) (switch_made c))

abbrev pub return_got : MaybeNode → List Token → Got FormShape
return_got e ts = Some (return e, ts)

abbrev pub simply_got : MaybeNode → List Token → Got FormShape
simply_got e ts = Some (simply e, ts)

abbrev pub body_from : Inside → List Token → Got FormShape
body_from S ts =
    either_way (after marks.LeftBrace ts) (λ r. then_go (S.braced (place ts) r) compound_got)
    (either_way (after_key keys.If ts) (λ r. then_go (in_parens S.expression r) (if_from S))
    (either_way (after_key keys.While ts) (λ r. then_go (in_parens S.expression r) (while_from S))
    (either_way (after_key keys.Do ts) (λ r. then_go (S.statement r) (do_from S))
    (either_way (after_key keys.For ts) (for_from S)
    (either_way (after_key keys.Switch ts) (λ r. then_go (in_parens S.expression r) (switch_from S))
    (either_way (after_key keys.Break ts) (expect marks.Semicolon break)
    (either_way (after_key keys.Continue ts) (expect marks.Semicolon continue)
    (either_way (after_key keys.Return ts) (λ r. then_go (maybe_before marks.Semicolon S.expression r) return_got)
    (then_go (maybe_before marks.Semicolon S.expression ts) simply_got)))))))))

abbrev pub stmt_made : Pos → List ProbeMark → Pos → FormShape → List Token → Got StmtShape
stmt_made p ms q f ts = Some (stmt p ms q f, ts)

abbrev pub stmt_body : Inside → Pos → List ProbeMark → List Token → Got StmtShape
stmt_body S p ms ts = then_go (body_from S ts) (stmt_made p ms (place ts))

-- LISTS OF STATEMENTS

abbrev pub label_onto : LabelShape → List LabelShape → List Token → Got (List LabelShape)
label_onto l ls ts = Some (l ∷ ls, ts)

abbrev pub case_more : (List Token → Got (List LabelShape)) → Pos → NodeShape → List Token → Got (List LabelShape)
case_more more p e ts = go_after (after marks.Colon ts) (λ r. then_go (more r) (label_onto (case p e)))

abbrev pub labels_from : (List Token → Got NodeShape) → (List Token → Got (List LabelShape)) → List Token → Got (List LabelShape)
labels_from e more ts =
    either_way (after_key keys.Case ts) (λ r. then_go (e r) (case_more more (place ts)))
    (either_way (after_key keys.Default ts) (λ r. go_after (after marks.Colon r) (λ l. then_go (more l) (label_onto (default (place ts)))))
    (got [] ts))

-- labels of an item that has d levels above it
abbrev pub reads_labels : ℕ → ℕ → List Token → Got (List LabelShape)
reads_labels d zero ts = None
reads_labels d (suc k) ts = labels_from (λ l. reads 2 (suc d) 0 k l) (λ l. reads_labels d k l) ts

-- labels take a level
abbrev pub depth_behind : ℕ → List LabelShape → ℕ
depth_behind d [] = d
depth_behind d (l ∷ ls) = suc d

abbrev pub item_onto : List LabelShape → StmtShape → ItemShapes → List Token → Got ItemShapes
item_onto ls s is' ts = Some (more_items ls s is', ts)

abbrev pub item_more : (List Token → Got ItemShapes) → List LabelShape → StmtShape → List Token → Got ItemShapes
item_more more ls s ts = then_go (more ts) (item_onto ls s)

abbrev pub item_stmt : (ℕ → List Token → Got StmtShape) → (List Token → Got ItemShapes) → ℕ → List LabelShape → List Token → Got ItemShapes
item_stmt one more d ls ts = then_go (one (depth_behind d ls) ts) (item_more more ls)

abbrev pub compound_end : Pos → DeclShapes → ItemShapes → List Token → Got CompoundShape
compound_end p ds is' ts = expect marks.RightBrace (braces p ds is') ts

abbrev pub compound_items : (List Token → Got ItemShapes) → Pos → DeclShapes → List Token → Got CompoundShape
compound_items items p ds ts = then_go (items ts) (compound_end p ds)

-- a compound behind its brace, with d levels above it
abbrev pub compound_from : (List Token → Got DeclShapes) → (List Token → Got ItemShapes) → ℕ → Pos → List Token → Got CompoundShape
compound_from decls items d p ts = where_true (nat_lt d 400) (then_go (decls ts) (compound_items items p))

abbrev mutual
  pub reads_stmt : ℕ → ℕ → List Token → Got StmtShape
  reads_stmt d zero ts = None
  reads_stmt d (suc k) ts =
      where_true (nat_lt d 400) (then_go (reads_marks k ts) (stmt_body (record {
        expression = λ l. reads 0 (suc d) 0 k l;
        statement = λ l. reads_stmt (suc d) k l;
        items = λ l. reads_items (suc d) k l;
        braced = λ p l. compound_from (λ r. reads_decls in_names (suc (suc d)) 0 k r) (λ r. reads_items (suc (suc d)) k r) (suc d) p l;
      }) (place ts)))

  -- up to a closing brace
  pub reads_items : ℕ → ℕ → List Token → Got ItemShapes
  reads_items d zero ts = None
  reads_items d (suc k) ts =
      either_way (after marks.RightBrace ts) (λ r. got no_items ts) (then_go (reads_labels d k ts) (item_stmt (λ e l. reads_stmt e k l) (λ l. reads_items d k l) d))

abbrev pub reads_compound : ℕ → Pos → ℕ → List Token → Got CompoundShape
reads_compound d p k ts = compound_from (λ r. reads_decls in_names (suc d) 0 k r) (λ r. reads_items (suc d) k r) d p ts

abbrev pub inside : ℕ → ℕ → Inside
inside d k = record {
  expression = λ l. reads 0 (suc d) 0 k l;
  statement = λ l. reads_stmt (suc d) k l;
  items = λ l. reads_items (suc d) k l;
  braced = λ p l. reads_compound (suc d) p k l;
}

abbrev pub reads_form : ℕ → ℕ → List Token → Got FormShape
reads_form d k ts = body_from (inside d k) ts

-- UNITS

abbrev pub is_function : DeclaratorShape → Bool
is_function (declarator ss n (arrays ls) i) = false
is_function (declarator ss n (function ps) i) = true

-- a function's body begins, or a probe before it
abbrev pub body_ahead : List Token → Bool
body_ahead ts = is_some (after marks.LeftBrace ts) || is_some (after_probe words.Block ts)

abbrev pub defined_got : SpecShapes → DeclaratorShape → List ProbeMark → CompoundShape → List Token → Got ExternalShape
defined_got specs d ms c ts = Some (defined specs d ms c, ts)

abbrev pub declared_got : DeclShape → List Token → Got ExternalShape
declared_got d ts = Some (declared d, ts)

abbrev pub external_body : ℕ → SpecShapes → DeclaratorShape → List ProbeMark → List Token → Got ExternalShape
external_body k specs d ms ts = go_after (after marks.LeftBrace ts) (λ r. then_go (reads_compound 1 (place ts) k r) (defined_got specs d ms))

abbrev pub external_first : ℕ → Pos → SpecShapes → DeclaratorShape → List Token → Got ExternalShape
external_first k p specs d ts =
    if_so (is_function d && body_ahead ts)
    (then_go (reads_marks k ts) (external_body k specs d))
    (then_go (decl_first (λ l. reads_declarators in_names 1 0 k l) p specs d ts) declared_got)

abbrev pub external_specs : ℕ → Pos → SpecShapes → List Token → Got ExternalShape
external_specs k p specs ts =
    either_way (after marks.Semicolon ts) (got (declared (decl p specs no_declarators))) (then_go (reads_declarator in_names 1 0 k ts) (external_first k p specs))

-- one external declaration, which is the first level
abbrev pub reads_external : ℕ → List Token → Got ExternalShape
reads_external k ts = then_go (reads_some 1 0 k ts) (external_specs k (place ts))

abbrev pub external_onto : ExternalShape → List ExternalShape → List Token → Got (List ExternalShape)
external_onto e es ts = Some (e ∷ es, ts)

abbrev pub external_more : (List Token → Got (List ExternalShape)) → ExternalShape → List Token → Got (List ExternalShape)
external_more more e ts = then_go (more ts) (external_onto e)

-- external declarations up to the end of the tokens
abbrev pub reads_externals : ℕ → List Token → Got (List ExternalShape)
reads_externals zero ts = None
reads_externals (suc k) [] = got [] []
reads_externals (suc k) (t ∷ ts) = then_go (reads_external k (t ∷ ts)) (external_more (λ l. reads_externals k l))

abbrev pub line_end : Pos → Text → List Token → Got ProgramLine
line_end p x ts = expect marks.Semicolon (record { pos = p; digest = x }) ts

abbrev pub line_closed : Pos → Text → List Token → Got ProgramLine
line_closed p x ts = go_after (after marks.RightParen ts) (line_end p x)

-- a program line behind its word
abbrev pub line_from : Pos → List Token → Got ProgramLine
line_from p ts = go_after (after marks.LeftParen ts) (λ r. then_go (a_string r) (line_closed p))

abbrev pub line_got : ProgramLine → List Token → Got (Option ProgramLine)
line_got l ts = Some (Some l, ts)

-- a program line, where there is one
abbrev pub reads_line : List Token → Got (Option ProgramLine)
reads_line ts = either_way (after_probe words.Program ts) (λ r. then_go (line_from (place ts) r) line_got) (got None ts)

abbrev pub unit_at : List Token → Option ProgramLine → List ExternalShape → UnitShape
unit_at ts l es = record { pos = place ts; line = l; externals = es; last = last_place ts }
