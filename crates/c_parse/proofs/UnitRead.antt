-- What the code of units reads: one step for each way that reading goes.
use Rattle.std.proofs.Common.{◌≡◌, ℕ, suc, ◌+◌, ◌≤◌, ◌<◌, List, [], ◌∷◌, ◌++◌, length, Option, Some, None, Bool, true, false, refl, sym, ap, ◌∙◌, subst, arith}
use Rattle.std.specs.Prelude.{map, ◌&&◌}
use Rattle.std.specs.declared.vec.Vec.{Vec}
use Rattle.std.specs.declared.alloc.Global.{Global}
use Rattle.c_base.specs.declared.place.Pos.{Pos}
use Rattle.c_syntax.specs.declared.token.Mark.TheVariants as marks
use Rattle.c_syntax.specs.declared.token.Token.{Token}
use Rattle.c_syntax.specs.declared.token.TokenKind.TheVariants as kind
use Rattle.c_syntax.specs.declared.tree.ProgramLine.{ProgramLine}
use Rattle.c_syntax.specs.declared.tree.ProbeMark.{ProbeMark}
use Rattle.c_syntax.specs.declared.tree.Spec.{Spec}
use Rattle.c_syntax.specs.declared.tree.Decl.{roll-Decl}
use Rattle.c_syntax.specs.declared.tree.Declarator.{Declarator}
use Rattle.c_syntax.specs.declared.tree.External.{External}
use Rattle.c_syntax.specs.Forms.{Form, is, ◌▷◌, mark, Written, place, last_place}
use Rattle.c_syntax.specs.Grammar.{specs_form, declarator_form, declarators_form, marks_form, decls_form, items_form, external_form, Placed}
use Rattle.c_syntax.specs.Levels.{type_height, specs_height, declarator_height, decl_height, compound_height}
use Rattle.c_syntax.specs.Shape.{SpecShapes, DeclShape, decl, DeclaratorShape, no_declarators, CompoundShape, braces, ExternalShape, defined, declared, UnitShape}
use Rattle.c_syntax.specs.Shaped.{ShapedUnit, in_names}
use Rattle.c_syntax.specs.View.{spec_list, decl_shape, declarator_list, external_shape}
use Rattle.c_syntax.proofs.Made.{decl_made}
use Rattle.c_grammar.specs.Look.{Got, got, Finds, after}
use Rattle.c_grammar.specs.Reader.{reads_some, reads_declarator}
use Rattle.c_grammar.specs.Parts.{declaring}
use Rattle.c_grammar.specs.Found.{Found}
use Rattle.c_parse.specs.declared.refusal.ParseRefusal.{ParseRefusal}
use Rattle.c_parse.specs.declared.refusal.ParseRefusal.TheVariants as refusals
use Rattle.c_grammar_stmt.specs.StmtReader.{reads_marks, reads_compound, is_function, body_ahead, reads_external, reads_line}
use Rattle.c_grammar_stmt.specs.StmtParts.{external_parts, external_rest, function_parts, ReadExternals, ExternalsFrom, NoUnit, SyntaxAt}
use Rattle.c_parse.specs.Refused.{ExternalsRead, BrokenAt, BrokenBy, Refused}
use Rattle.c_grammar_stmt.proofs.StmtSteps.{external_found, external_plain, external_named, external_declared, function_found, function_fails, external_list_start, external_list_more}
use Rattle.c_grammar_stmt.proofs.StmtSound.{external_sound}
use Rattle.c_parse.proofs.UnitWhole.{no_longer, shorter_by_one, unit_placed, unit_shaped, unit_only, syntax_line, syntax_bare, syntax_external, no_unit_line, no_unit_bare, no_unit_external}

-- EXTERNAL DECLARATIONS

pub nameless_made : (p : Pos) (specs : Vec Spec Global) (names : Vec Declarator Global) → names.items ≡ [] → decl_shape (roll-Decl record { pos = p; specs = specs; names = names }) ≡ decl p (spec_list specs.items) no_declarators
nameless_made p specs names e = decl_made p specs names ∙ ap (λ l. decl p (spec_list specs.items) (declarator_list l)) e

pub function_read : (q : Pos) (specs : SpecShapes) (t : DeclaratorShape) (ms : List ProbeMark) (c : CompoundShape) (h : ℕ) (ts x y z : List Token) → Finds reads_marks ts (Some (ms, x)) → after marks.LeftBrace x ≡ Some y → q ≡ place x → Found (reads_compound 1 q) compound_height y c h z → Finds (function_parts specs t) ts (Some (defined specs t ms c, z))
function_read q specs t ms c h ts x y z p e at' f = function_found specs t ms c ts x y z p e (subst (λ q. Finds (reads_compound 1 q) y (got c z)) at' f.finds)

pub function_unread : (q : Pos) (specs : SpecShapes) (t : DeclaratorShape) (ms : List ProbeMark) (ts x y : List Token) → Finds reads_marks ts (Some (ms, x)) → after marks.LeftBrace x ≡ Some y → q ≡ place x → Finds (reads_compound 1 q) y None → Finds (function_parts specs t) ts None
function_unread q specs t ms ts x y p e at' f = function_fails specs t ms ts x y p e (subst (λ q. Finds (reads_compound 1 q) y None) at' f)

pub declared_read : (p : Pos) (specs : SpecShapes) (t : DeclaratorShape) (c : DeclShape) (h : ℕ) (ts x : List Token) → (is_function t && body_ahead ts) ≡ false → Found (declaring in_names 1 0 p specs t) decl_height ts c h x → Finds (external_rest p specs t) ts (Some (declared c, x))
declared_read p specs t c h ts x e f = external_declared p specs t c ts x e f.finds

pub plain_read : (p : Pos) (specs : SpecShapes) (d : DeclShape) (ts r : List Token) → after marks.Semicolon ts ≡ Some r → d ≡ decl p specs no_declarators → Finds (external_parts p specs) ts (Some (declared d, r))
plain_read p specs d ts r e same = subst (λ d. Finds (external_parts p specs) ts (got (declared d) r)) (sym same) (external_plain p specs ts r e)

pub named_read : (p : Pos) (specs : SpecShapes) (t : DeclaratorShape) (e : ExternalShape) (h : ℕ) (ts x y : List Token) → after marks.Semicolon ts ≡ None → Found (reads_declarator in_names 1 0) declarator_height ts t h x → Finds (external_rest p specs t) x (Some (e, y)) → Finds (external_parts p specs) ts (Some (e, y))
named_read p specs t e h ts x y n f q = external_named p specs t ts x (got e y) n f.finds q

pub named_unread : (p : Pos) (specs : SpecShapes) (t : DeclaratorShape) (h : ℕ) (ts x : List Token) → after marks.Semicolon ts ≡ None → Found (reads_declarator in_names 1 0) declarator_height ts t h x → Finds (external_rest p specs t) x None → Finds (external_parts p specs) ts None
named_unread p specs t h ts x n f q = external_named p specs t ts x None n f.finds q

pub external_read : (specs : SpecShapes) (e : ExternalShape) (h : ℕ) (ts x y : List Token) → Found (reads_some 1 0) specs_height ts specs h x → Finds (external_parts (place ts) specs) x (Some (e, y)) → Finds reads_external ts (Some (e, y))
external_read specs e h ts x y f q = external_found specs ts x (got e y) f.finds q

pub external_unread : (q : Pos) (specs : SpecShapes) (h : ℕ) (ts x : List Token) → Found (reads_some 1 0) specs_height ts specs h x → q ≡ place ts → Finds (external_parts q specs) x None → Finds reads_external ts None
external_unread q specs h ts x f at' p = external_found specs ts x None f.finds (subst (λ q. Finds (external_parts q specs) x None) at' p)

-- an external declaration has a token
form_shorter : (e : ExternalShape) (ts rest : List Token) → Written (external_form e) ts rest → length rest < length ts
form_shorter (defined specs d ms (braces p ds items)) ts rest w =
    let a = no_longer (specs_form specs) ts w.middle w.first in
    let b = no_longer (declarator_form d) w.middle w.second.middle w.second.first in
    let c = no_longer (marks_form ms) w.second.middle w.second.second.middle w.second.second.first in
    let v = w.second.second.second in
    let i = shorter_by_one w.second.second.middle v.middle (kind.Mark marks.LeftBrace) v.first.1 in
    let j = no_longer (decls_form ds ▷ items_form items ▷ mark marks.RightBrace) v.middle rest v.second in
    omega (arith, a, b, c, i, j)
form_shorter (declared (decl p specs ds)) ts rest w =
    let v = w.1 in
    let a = no_longer (specs_form specs) ts v.middle v.first in
    let b = no_longer (declarators_form ds) v.middle v.second.middle v.second.first in
    let i = shorter_by_one v.second.middle rest (kind.Mark marks.Semicolon) v.second.second in
    omega (arith, a, b, i)

pub external_longer : (e : ExternalShape) (ts rest : List Token) → Finds reads_external ts (Some (e, rest)) → length rest < length ts
external_longer e ts rest p = form_shorter e ts rest (external_sound p.from ts e rest (p.holds p.from (omega arith))).written

pub external_shorter : (specs : SpecShapes) (e : ExternalShape) (h : ℕ) (ts x y : List Token) → Found (reads_some 1 0) specs_height ts specs h x → Finds (external_parts (place ts) specs) x (Some (e, y)) → length y < length ts
external_shorter specs e h ts x y f q = external_longer e ts y (external_read specs e h ts x y f q)

-- ALL EXTERNAL DECLARATIONS

pub externals_started : (l : List External) (ts : List Token) → l ≡ [] → ExternalsFrom l ts ts
externals_started l ts e = subst (λ l. ExternalsFrom l ts ts) (sym e) (external_list_start ts)

pub externals_further : (l' l : List External) (a : External) (ts rest x : List Token) → ExternalsFrom l ts rest → Finds reads_external rest (Some (external_shape a, x)) → l' ≡ l ++ a ∷ [] → ExternalsFrom l' ts x
externals_further l' l a ts rest x p q same = external_list_more l' l a ts rest x p q same

pub externals_ended : (l : List External) (ts rest : List Token) → ExternalsFrom l ts rest → length rest ≡ 0 → ExternalsRead l ts
externals_ended l ts rest p e = record { rest = rest; read = p; end' = e }

pub externals_broken : (l : List External) (ts rest : List Token) (p : Pos) → ExternalsFrom l ts rest → (length rest ≡ 0 → ⊥) → Finds reads_external rest None → p ≡ place rest → BrokenAt ts p
externals_broken l ts rest p f n q e = record { list = l; rest = rest; read = f; more = n; none = q; at' = e }

-- UNITS

some_read : (list : List External) (ts rest : List Token) → ExternalsFrom list ts rest → length rest ≡ 0 → (length ts ≡ 0 → ⊥) → length list ≡ 0 → ⊥
some_read [] ts rest p e n h = n (ap length p.read ∙ e)
some_read (a ∷ list) ts rest p e n h = omega (arith, h)

pub unit_is_shaped : (p q : Pos) (l : Option ProgramLine) (list : List External) (ts x : List Token) → reads_line ts ≡ Some (l, x) → ExternalsRead list x → (length x ≡ 0 → ⊥) → ShapedUnit (record { pos = p; line = l; externals = map external_shape list; last = q })
unit_is_shaped p q l list ts x e r n = unit_shaped (record { pos = p; line = l; externals = map external_shape list; last = q }) list x r.rest r.read (some_read list x r.rest r.read r.end' n) refl

pub unit_is_placed : (p q : Pos) (l : Option ProgramLine) (list : List External) (ts x : List Token) → reads_line ts ≡ Some (l, x) → ExternalsRead list x → p ≡ place ts → q ≡ last_place ts → Placed (record { pos = p; line = l; externals = map external_shape list; last = q }) ts
unit_is_placed p q l list ts x e r first last = unit_placed (record { pos = p; line = l; externals = map external_shape list; last = q }) list ts x r.rest e r.read r.end' refl first last

pub unit_is_only : (p q : Pos) (l : Option ProgramLine) (list : List External) (ts x : List Token) → reads_line ts ≡ Some (l, x) → ExternalsRead list x → (length x ≡ 0 → ⊥) → p ≡ place ts → q ≡ last_place ts → (v : UnitShape) → ShapedUnit v → Placed v ts → v ≡ record { pos = p; line = l; externals = map external_shape list; last = q }
unit_is_only p q l list ts x e r n first last = unit_only (record { pos = p; line = l; externals = map external_shape list; last = q }) list ts x r.rest e r.read r.end' (some_read list x r.rest r.read r.end' n) refl first last

pub lineless : (ts : List Token) (p : Pos) → reads_line ts ≡ None → p ≡ place ts → NoUnit ts × SyntaxAt ts p
lineless ts p e at' = (no_unit_line ts e, subst (SyntaxAt ts) (sym at') (syntax_line ts e))

pub bare : (l : Option ProgramLine) (ts x : List Token) (p : Pos) → reads_line ts ≡ Some (l, x) → length x ≡ 0 → p ≡ place ts → NoUnit ts × SyntaxAt ts p
bare l ts x p e n at' = (no_unit_bare l ts x e n, subst (SyntaxAt ts) (sym at') (syntax_bare l ts x e n))

pub broken : (l : Option ProgramLine) (r : ParseRefusal) (ts x : List Token) → reads_line ts ≡ Some (l, x) → BrokenBy r x → Refused r ts
broken l (refusals.Syntax p) ts x e b = (no_unit_external l b.list ts x b.rest e b.read b.more b.none, subst (SyntaxAt ts) (sym b.at') (syntax_external l b.list ts x b.rest e b.read b.more b.none))
broken l refusals.NoMemory ts x e b = tt

last_behind : (xs : List Token) (t : Token) → last_place (xs ++ t ∷ []) ≡ t.pos
last_behind [] t = refl
last_behind (x ∷ []) t = refl
last_behind (x ∷ y ∷ xs) t = last_behind (y ∷ xs) t

pub last_of : (xs ts : List Token) (t : Token) → ts ≡ xs ++ t ∷ [] → last_place ts ≡ t.pos
last_of xs ts t e = ap last_place e ∙ last_behind xs t
