-- Declarators, declarations, parameters and initialisers that the grammar allows are found: a case for each form, by what is found of its parts.
use Rattle.std.proofs.Common.{◌≡◌, ℕ, suc, ◌+◌, ◌*◌, ◌≤◌, List, [], ◌∷◌, ◌++◌, length, Option, Some, None, Bool, true, false, refl, sym, ap, ◌∙◌, subst, arith}
use Rattle.std.specs.Prelude.{max}
use Rattle.c_base.specs.declared.place.Pos.{Pos}
use Rattle.c_syntax.specs.declared.text.Text.{Text}
use Rattle.c_syntax.specs.declared.token.Mark.{Mark}
use Rattle.c_syntax.specs.declared.token.Mark.TheVariants as marks
use Rattle.c_syntax.specs.declared.token.Key.{Key}
use Rattle.c_syntax.specs.declared.token.Key.TheVariants as keys
use Rattle.c_syntax.specs.declared.token.ProbeWord.TheVariants as words
use Rattle.c_syntax.specs.declared.token.Token.{Token}
use Rattle.c_syntax.specs.declared.token.TokenKind.{TokenKind}
use Rattle.c_syntax.specs.declared.token.TokenKind.TheVariants as kind
use Rattle.c_syntax.specs.declared.tree.BinaryOp.TheVariants as op
use Rattle.c_syntax.specs.declared.tree.Star.{Star}
use Rattle.c_syntax.specs.declared.tree.Named.{Named}
use Rattle.c_syntax.specs.declared.tree.ProbeMark.{ProbeMark}
use Rattle.c_syntax.specs.Forms.{Head, a_token, head, place, Form, ◌▷◌, kinds, Written}
use Rattle.c_syntax.specs.Shape.{plain, comma, NodeShape, LengthShapes, no_lengths, more_lengths, SpecShapes, no_specs, more_specs, SpecShape, word, struct, enum, DeclShape, decl, DeclShapes, no_decls, more_decls, DeclaratorShape, declarator, DeclaratorShapes, no_declarators, more_declarators, DeclFormShape, arrays, function, ParamsShape, empty, void, params, MaybeInit, no_init, one_init, InitShape, one, listed, InitShapes, no_inits, more_inits}
use Rattle.c_syntax.specs.Grammar.{named_as, maybe_named_form, stars_form, lengths_form, specs_form, decls_form, decl_form, declarators_form, led_declarators_form, declarator_form, behind_form, params_form, param_list_form, led_params_form, param_form, maybe_init_form, init_form, led_inits_form, comma_form}
use Rattle.c_syntax.specs.Levels.{decls_height, decl_height, declarators_height, declarator_height, behind_height, params_height, init_of_height, init_height, inits_height}
use Rattle.c_syntax.specs.Shaped.{Standing, in_params, name_fits, may_be_open, is_there, may_begin, AllSpecs, ShapedDecls, ShapedDecl, ShapedDeclarators, ShapedDeclarator, ShapedBehind, ShapedInitOf, ShapedParams, ShapedParamList, ShapedParam, ShapedInit, ShapedInits}
use Rattle.c_grammar.specs.Look.{got, Finds, after, after_head, after_key, after_key_head, after_probe, after_probe_head, a_word, word_head}
use Rattle.c_grammar.specs.Starts.{infix_oper, bracket, open_paren, no_sign, sign_head, sign, no_spec, spec_of_head, spec_head, is_spec}
use Rattle.c_grammar.specs.Reader.{closing, void_ahead, unless_closed, unless_last, further, listed_end, reads_decls, reads_declarators, reads_declarator, reads_params, reads_init, reads_inits, reads_param, reads_parameters, reads_decl}
use Rattle.c_grammar.proofs.Looking.{apart, after_is, after_of, after_key_is, after_key_of}
use Rattle.c_grammar.proofs.DeclSteps.{behind, behind_arrays, behind_params, ending, ending_plain, ending_init, declarator_found, declarators_end, declarators_on, declaring_found, decl_plain, decl_found, decls_end, decls_on, param_found, params_stop, params_on, param_list_found, params_empty, params_void, params_listed, init_one, init_listed, list_found, listed_comma, listed_plain, inits_end, inits_on}
use Rattle.c_grammar.proofs.TypeSteps.{some_found}
use Rattle.c_grammar.proofs.CompleteLooking.{StopsAt, stops_none, stops_by, none_if, no_mark, node_begins, no_comma}
use Rattle.c_grammar.proofs.CompleteExpr.{CompleteNode, listed_node}
use Rattle.c_grammar.proofs.CompleteDecl.{CompleteLengths, CompleteSpecs, CompleteDecls, stops_no_mark, no_equal, spec_no_mark, through_stars, through_lengths, through_name, spec_begins, specs_begin, all_specs, stars_found, named_found}

-- WHAT IS TO BE SHOWN OF EACH PART

-- what may follow a declarator or a parameter: at most a comma of the operators, and nothing that a declarator begins with
pub record Ends (x : List Token) : Type 0 where
  pub stops : StopsAt 1 (sign x)
  pub wordless : a_word x ≡ None
  pub unprobed : after_probe words.Def x ≡ None
  pub specless : spec_head x ≡ no_spec
  pub constless : after_key keys.Const x ≡ None

abbrev pub CompleteDecl : DeclShape → Type 0
CompleteDecl t = (s : Standing) (d g : ℕ) (ts x : List Token) → name_fits s None ≡ false → ShapedDecl s t → Written (decl_form t) ts x → decl_height t + d ≤ 400 → g + 4 * decl_height t ≤ 1600 → Finds (reads_decl s d g) ts (got t x)

abbrev pub CompleteDeclarators : DeclaratorShapes → Type 0
CompleteDeclarators ds = (s : Standing) (d g : ℕ) (ts x : List Token) → ShapedDeclarators s ds → Written (led_declarators_form ds) ts x → declarators_height ds + d ≤ 400 → g + 4 * declarators_height ds ≤ 1600 → Ends x → after marks.Comma x ≡ None → Finds (reads_declarators s d g) ts (got ds x)

abbrev pub CompleteDeclarator : DeclaratorShape → Type 0
CompleteDeclarator t = (s : Standing) (d g : ℕ) (ts x : List Token) → ShapedDeclarator s t → Written (declarator_form t) ts x → declarator_height t + d ≤ 400 → g + 4 * declarator_height t ≤ 1600 → Ends x → Finds (reads_declarator s d g) ts (got t x)

-- what stands behind a name, with these stars in front of it
abbrev pub CompleteBehind : DeclFormShape → Type 0
CompleteBehind f = (s : Standing) (ss : List Star) (d g : ℕ) (ts x : List Token) → ShapedBehind s f → Written (behind_form f) ts x → behind_height ss f + suc d ≤ 400 → g + 4 * behind_height ss f ≤ 1600 → after marks.LeftParen x ≡ None → after marks.LeftBracket x ≡ None → Finds (behind s d g (length ss)) ts (got f x)

abbrev pub CompleteInitOf : MaybeInit → Type 0
CompleteInitOf i = (s : Standing) (ss : List Star) (n : Option Named) (f : DeclFormShape) (d g : ℕ) (ts x : List Token) → ShapedInitOf (may_begin s f) i → Written (maybe_init_form i) ts x → init_of_height i + suc d ≤ 400 → g + 4 * init_of_height i ≤ 1600 → StopsAt 1 (sign x) → Finds (ending s d g ss n f) ts (got (declarator ss n f i) x)

abbrev pub CompleteParams : ParamsShape → Type 0
CompleteParams ps = (d g : ℕ) (ts y x : List Token) → ShapedParams ps → Written (params_form ps) ts y → params_height ps + d ≤ 400 → g + 4 * params_height ps ≤ 1600 → head y ≡ a_token (kind.Mark marks.RightParen) x → Finds (reads_parameters d g) ts (got ps x)

abbrev pub CompleteParamList : DeclShapes → Type 0
CompleteParamList ds = (d g : ℕ) (ts x r : List Token) → ShapedParamList ds → Written (led_params_form ds) ts x → decls_height ds + d ≤ 400 → g + 4 * decls_height ds ≤ 1600 → head x ≡ a_token (kind.Mark marks.RightParen) r → Finds (reads_params d g) ts (got ds x)

abbrev pub CompleteParam : DeclShape → Type 0
CompleteParam t = (d g : ℕ) (ts x : List Token) → ShapedParam t → Written (param_form t) ts x → decl_height t + d ≤ 400 → g + 4 * decl_height t ≤ 1600 → Ends x → after marks.LeftBrace x ≡ None → Finds (reads_param d g) ts (got t x)

abbrev pub CompleteInit : InitShape → Type 0
CompleteInit i = (d g : ℕ) (ts x : List Token) → ShapedInit i → Written (init_form i) ts x → init_height i + d ≤ 400 → g + 4 * init_height i ≤ 1600 → StopsAt 1 (sign x) → Finds (reads_init d g) ts (got i x)

abbrev pub CompleteInits : InitShapes → Type 0
CompleteInits is' = (d g : ℕ) (ts x : List Token) → ShapedInits is' → Written (led_inits_form is') ts x → inits_height is' + d ≤ 400 → g + 4 * inits_height is' ≤ 1600 → StopsAt 1 (sign x) → further x ≡ None → Finds (reads_inits d g) ts (got is' x)

-- ENDS

pub ends_mark : (m : Mark) (x r : List Token) → head x ≡ a_token (kind.Mark m) r → StopsAt 1 (sign_head (a_token (kind.Mark m) r)) → Ends x
ends_mark m x r h st = record {
  stops = subst (StopsAt 1) (sym (ap sign_head h)) st;
  wordless = ap word_head h;
  unprobed = ap (after_probe_head words.Def) h;
  specless = ap spec_of_head h;
  constless = ap (after_key_head keys.Const) h;
}

pub ends_comma : (x r : List Token) → head x ≡ a_token (kind.Mark marks.Comma) r → Ends x
ends_comma x r h = ends_mark marks.Comma x r h (omega arith)

pub ends_semicolon : (x r : List Token) → head x ≡ a_token (kind.Mark marks.Semicolon) r → Ends x
ends_semicolon x r h = ends_mark marks.Semicolon x r h tt

pub ends_paren : (x r : List Token) → head x ≡ a_token (kind.Mark marks.RightParen) r → Ends x
ends_paren x r h = ends_mark marks.RightParen x r h tt

-- a function's body follows, or a block probe in front of it
pub ends_brace : (x r : List Token) → head x ≡ a_token (kind.Mark marks.LeftBrace) r → Ends x
ends_brace x r h = ends_mark marks.LeftBrace x r h tt

pub ends_block : (x r : List Token) → head x ≡ a_token (kind.Probe words.Block) r → Ends x
ends_block x r h = record {
  stops = subst (StopsAt 1) (sym (ap sign_head h)) tt;
  wordless = ap word_head h;
  unprobed = ap (after_probe_head words.Def) h;
  specless = ap spec_of_head h;
  constless = ap (after_key_head keys.Const) h;
}

pub moved_ends : (x y : List Token) → x ≡ y → Ends y → Ends x
moved_ends x y e h = subst Ends (sym e) h

no_left_paren : (x : List Token) → StopsAt 1 (sign x) → after marks.LeftParen x ≡ None
no_left_paren x st = stops_no_mark marks.LeftParen open_paren x st (λ r. refl) (omega arith)

no_left_bracket : (x : List Token) → StopsAt 1 (sign x) → after marks.LeftBracket x ≡ None
no_left_bracket x st = stops_no_mark marks.LeftBracket bracket x st (λ r. refl) (omega arith)

no_star : (x : List Token) → StopsAt 1 (sign x) → after marks.Star x ≡ None
no_star x st = stops_no_mark marks.Star (infix_oper (plain op.Mul)) x st (λ r. refl) (omega arith)

-- FIRST TOKENS

through_behind : {A : Type 0} (v : Head → A) (a : A) (f : DeclFormShape) (ts x : List Token) → Written (behind_form f) ts x → ((r : List Token) → v (a_token (kind.Mark marks.LeftBracket) r) ≡ a) → ((r : List Token) → v (a_token (kind.Mark marks.LeftParen) r) ≡ a) → v (head x) ≡ a → v (head ts) ≡ a
through_behind v a (arrays ls) ts x w h k e = through_lengths v a ls ts x w h e
through_behind v a (function list) ts x w h k e = ap v w.first ∙ k w.middle

through_init : {A : Type 0} (v : Head → A) (a : A) (i : MaybeInit) (ts x : List Token) → Written (maybe_init_form i) ts x → ((r : List Token) → v (a_token (kind.Mark marks.Equal) r) ≡ a) → v (head x) ≡ a → v (head ts) ≡ a
through_init v a no_init ts x w h e = ap (λ l. v (head l)) w ∙ e
through_init v a (one_init i) ts x w h e = ap v w.first ∙ h w.middle

-- a view that sees none of the tokens that a declarator begins with
pub record Blind {A : Type 0} (v : Head → A) (a : A) : Type 0 where
  pub star : (r : List Token) → v (a_token (kind.Mark marks.Star) r) ≡ a
  pub word : (t : Text) (r : List Token) → v (a_token (kind.Word t) r) ≡ a
  pub probe : (r : List Token) → v (a_token (kind.Probe words.Def) r) ≡ a
  pub left : (r : List Token) → v (a_token (kind.Mark marks.LeftBracket) r) ≡ a
  pub paren : (r : List Token) → v (a_token (kind.Mark marks.LeftParen) r) ≡ a
  pub equal : (r : List Token) → v (a_token (kind.Mark marks.Equal) r) ≡ a

pub spec_blind : Blind spec_of_head no_spec
spec_blind = record { star = λ r. refl; word = λ t r. refl; probe = λ r. refl; left = λ r. refl; paren = λ r. refl; equal = λ r. refl }

pub brace_blind : Blind (after_head marks.LeftBrace) None
brace_blind = record { star = λ r. refl; word = λ t r. refl; probe = λ r. refl; left = λ r. refl; paren = λ r. refl; equal = λ r. refl }

pub semicolon_blind : Blind (after_head marks.Semicolon) None
semicolon_blind = record { star = λ r. refl; word = λ t r. refl; probe = λ r. refl; left = λ r. refl; paren = λ r. refl; equal = λ r. refl }

through_declarator : {A : Type 0} (v : Head → A) (a : A) (t : DeclaratorShape) (ts x : List Token) → Blind v a → Written (declarator_form t) ts x → v (head x) ≡ a → v (head ts) ≡ a
through_declarator v a (declarator ss n f i) ts x b w e =
    let h = w.second in
    let j = h.second in
    through_stars v a ss ts w.middle w.first b.star
    (through_name v a n w.middle h.middle h.first b.word b.probe (λ o. through_behind v a f h.middle j.middle j.first b.left b.paren (through_init v a i j.middle x j.second b.equal e)))

there : (s : Standing) (n : Option Named) → name_fits s None ≡ false → name_fits s n ≡ true → is_there n ≡ true
there s None e f = apart (sym f ∙ e)
there s (Some n) e f = refl

-- a declarator that has a name begins with none of what a view doesn't see
pub through_named : {A : Type 0} (v : Head → A) (a : A) (t : DeclaratorShape) (s : Standing) (ts x : List Token) → name_fits s None ≡ false → ShapedDeclarator s t → Blind v a → Written (declarator_form t) ts x → v (head ts) ≡ a
through_named v a (declarator ss n f i) s ts x e sh b w =
    let h = w.second in
    through_stars v a ss ts w.middle w.first b.star
    (through_name v a n w.middle h.middle h.first b.word b.probe (λ o. apart (sym (there s n e sh.0) ∙ o)))

-- INITIALISERS

init_no_brace : (i : InitShape) (ts x : List Token) → Written (init_form i) ts x → after marks.RightBrace ts ≡ None
init_no_brace (one a) ts x w = no_mark marks.RightBrace ts (node_begins a ts x w) (λ r. refl)
init_no_brace (listed p is' last) ts x w = ap (after_head marks.RightBrace) w.first.1

led_inits_stop : (is' : InitShapes) (ts x : List Token) → Written (led_inits_form is') ts x → StopsAt 1 (sign x) → StopsAt 1 (sign ts)
led_inits_stop no_inits ts x w st = subst (λ l. StopsAt 1 (sign l)) (sym w) st
led_inits_stop (more_inits i rest) ts x w st = stops_by 1 ts w.middle (infix_oper comma) (ap sign_head w.first) (omega arith)

pub init_one_case : (a : NodeShape) → CompleteNode a → CompleteInit (one a)
init_one_case a c d g ts x s w low few st =
    init_one d g a ts x (omega (arith, low)) (no_mark marks.LeftBrace ts (node_begins a ts x w) (λ r. refl))
    (listed_node a c 1 (suc d) g ts x (omega arith) s.1 w s.0 (omega (arith, low)) (omega (arith, few)) st)

-- the end of a list in braces
record ListEnds (p : Pos) (is' : InitShapes) (last : Bool) (ts x : List Token) : Type 0 where
  stops : StopsAt 1 (sign ts)
  over : further ts ≡ None
  closes : listed_end p is' ts ≡ got (listed p is' last) x

list_ends : (p : Pos) (is' : InitShapes) (last : Bool) (ts y x : List Token) → Written (comma_form last) ts y → head y ≡ a_token (kind.Mark marks.RightBrace) x → ListEnds p is' last ts x
list_ends p is' true ts y x w h =
    let c = after_of marks.Comma ts y w in
    let b = after_of marks.RightBrace y x h in
    record { stops = stops_by 1 ts y (infix_oper comma) (ap sign_head w) (omega arith); over = ap unless_last c ∙ ap (unless_closed y) b; closes = listed_comma p is' ts y x c b }
list_ends p is' false ts y x w h =
    let e : sign ts ≡ no_sign = ap sign w ∙ ap sign_head h in
    let c = no_comma ts e in
    record { stops = stops_none 1 ts e; over = ap unless_last c; closes = listed_plain p is' ts x c (ap (after marks.RightBrace) w ∙ after_of marks.RightBrace y x h) }

pub init_list_case : (p : Pos) (i : InitShape) (rest : InitShapes) (last : Bool) → CompleteInit i → CompleteInits rest → CompleteInit (listed p (more_inits i rest) last)
init_list_case p i rest last ci cr d g ts x s w low few st =
    let h = w.second in
    let j = h.second in
    let l = h.first in
    let e = list_ends (place ts) (more_inits i rest) last h.middle j.middle x j.first j.second in
    subst (λ p. Finds (reads_init d g) ts (got (listed p (more_inits i rest) last) x)) (sym w.first.0)
    (init_listed d g (more_inits i rest) ts w.middle h.middle (got (listed (place ts) (more_inits i rest) last) x) (omega (arith, low)) (after_of marks.LeftBrace ts w.middle w.first.1)
    (list_found d g i w.middle l.middle (got rest h.middle)
    (ci (suc d) g w.middle l.middle s.0 l.first (omega (arith, low)) (omega (arith, few)) (led_inits_stop rest l.middle h.middle l.second e.stops))
    (cr (suc d) g l.middle h.middle s.1 l.second (omega (arith, low)) (omega (arith, few)) e.stops e.over))
    e.closes)

pub no_inits_case : CompleteInits no_inits
no_inits_case d g ts x s w low few st o = subst (λ y. Finds (reads_inits d g) ts (got no_inits y)) w (inits_end d g ts (ap further w ∙ o))

pub more_inits_case : (i : InitShape) (rest : InitShapes) → CompleteInit i → CompleteInits rest → CompleteInits (more_inits i rest)
more_inits_case i rest ci cr d g ts x s w low few st o =
    let h = w.second in
    inits_on d g i ts w.middle h.middle (got rest x)
    (ap unless_last (after_of marks.Comma ts w.middle w.first) ∙ ap (unless_closed w.middle) (init_no_brace i w.middle h.middle h.first))
    (ci d g w.middle h.middle s.0 h.first (omega (arith, low)) (omega (arith, few)) (led_inits_stop rest h.middle x h.second st))
    (cr d g h.middle x s.1 h.second (omega (arith, low)) (omega (arith, few)) st o)

pub no_init_case : CompleteInitOf no_init
no_init_case s ss n f d g ts x sh w low few st =
    subst (λ y. Finds (ending s d g ss n f) ts (got (declarator ss n f no_init) y)) w (ending_plain s d g ss n f ts (ap (after marks.Equal) w ∙ no_equal x st))

pub init_of_case : (i : InitShape) → CompleteInit i → CompleteInitOf (one_init i)
init_of_case i c s ss n f d g ts x sh w low few st =
    ending_init s d g ss n f i ts w.middle x (after_of marks.Equal ts w.middle w.first) sh.0 (c (suc d) g w.middle x sh.1 w.second low few st)

-- DECLARATORS

pub arrays_case : (ls : LengthShapes) → CompleteLengths ls → CompleteBehind (arrays ls)
arrays_case ls c s ss d g ts x sh w low few p b =
    behind_arrays s d g (length ss) ts x ls (through_lengths (after_head marks.LeftParen) None ls ts x w (λ r. refl) p)
    (c (may_be_open s) (length ss + suc d) g ts x sh w (omega (arith, low)) (omega (arith, few)) b)

pub function_case : (ps : ParamsShape) → CompleteParams ps → CompleteBehind (function ps)
function_case ps c s ss d g ts x sh w low few p b =
    let h = w.second in
    behind_params s d g (length ss) ts w.middle x ps (after_of marks.LeftParen ts w.middle w.first) sh.0
    (c (suc d) g w.middle h.middle x sh.1 h.first (omega (arith, low)) (omega (arith, few)) h.second)

stars_low : (ss : List Star) (f : DeclFormShape) → length ss ≤ behind_height ss f
stars_low ss (arrays ls) = omega arith
stars_low ss (function list) = omega arith

pub declarator_case : (ss : List Star) (n : Option Named) (f : DeclFormShape) (i : MaybeInit) → CompleteBehind f → CompleteInitOf i → CompleteDeclarator (declarator ss n f i)
declarator_case ss n f i cf ci s d g ts x sh w low few e =
    let h = w.second in
    let j = h.second in
    let low' : suc (max (behind_height ss f) (init_of_height i)) + d ≤ 400 = low in
    let few' : g + 4 * suc (max (behind_height ss f) (init_of_height i)) ≤ 1600 = few in
    let stars : length ss ≤ behind_height ss f = stars_low ss f in
    let word : a_word j.middle ≡ None = through_init word_head None i j.middle x j.second (λ r. refl) e.wordless in
    let probe : after_probe words.Def j.middle ≡ None = through_init (after_probe_head words.Def) None i j.middle x j.second (λ r. refl) e.unprobed in
    declarator_found s d g ts w.middle h.middle j.middle ss n f (got (declarator ss n f i) x) (omega (arith, low'))
    (stars_found ss (suc d) ts w.middle w.first (omega (arith, low', stars))
    (through_name (after_head marks.Star) None n w.middle h.middle h.first (λ t r. refl) (λ r. refl) (λ o. through_behind (after_head marks.Star) None f h.middle j.middle j.first (λ r. refl) (λ r. refl) (through_init (after_head marks.Star) None i j.middle x j.second (λ r. refl) (no_star x e.stops))))
    (through_name (after_key_head keys.Const) None n w.middle h.middle h.first (λ t r. refl) (λ r. refl) (λ o. through_behind (after_key_head keys.Const) None f h.middle j.middle j.first (λ r. refl) (λ r. refl) (through_init (after_key_head keys.Const) None i j.middle x j.second (λ r. refl) e.constless))))
    (named_found n w.middle h.middle h.first (λ o. (through_behind word_head None f h.middle j.middle j.first (λ r. refl) (λ r. refl) word, through_behind (after_probe_head words.Def) None f h.middle j.middle j.first (λ r. refl) (λ r. refl) probe)))
    sh.0
    (cf s ss d g h.middle j.middle sh.1 j.first (omega (arith, low')) (omega (arith, few')) (through_init (after_head marks.LeftParen) None i j.middle x j.second (λ r. refl) (no_left_paren x e.stops)) (through_init (after_head marks.LeftBracket) None i j.middle x j.second (λ r. refl) (no_left_bracket x e.stops)))
    (ci s ss n f d g j.middle x sh.2 j.second (omega (arith, low')) (omega (arith, few')) e.stops)

pub led_declarators_end : (ds : DeclaratorShapes) (ts x : List Token) → Written (led_declarators_form ds) ts x → Ends x → Ends ts
led_declarators_end no_declarators ts x w e = moved_ends ts x w e
led_declarators_end (more_declarators t rest) ts x w e = ends_comma ts w.middle w.first

pub no_declarators_case : CompleteDeclarators no_declarators
no_declarators_case s d g ts x sh w low few e c = subst (λ y. Finds (reads_declarators s d g) ts (got no_declarators y)) w (declarators_end s d g ts (ap (after marks.Comma) w ∙ c))

pub more_declarators_case : (t : DeclaratorShape) (rest : DeclaratorShapes) → CompleteDeclarator t → CompleteDeclarators rest → CompleteDeclarators (more_declarators t rest)
more_declarators_case t rest ct cr s d g ts x sh w low few e c =
    let h = w.second in
    declarators_on s d g t ts w.middle h.middle (got rest x) (after_of marks.Comma ts w.middle w.first)
    (ct s d g w.middle h.middle sh.0 h.first (omega (arith, low)) (omega (arith, few)) (led_declarators_end rest h.middle x h.second e))
    (cr s d g h.middle x sh.1 h.second (omega (arith, low)) (omega (arith, few)) e c)

-- DECLARATIONS

pub decl_plain_case : (p : Pos) (specs : SpecShapes) → CompleteSpecs specs → CompleteDecl (decl p specs no_declarators)
decl_plain_case p specs c s d g ts x n sh w low few =
    let h = w.1 in
    let i = h.second in
    let semicolon : head h.middle ≡ a_token (kind.Mark marks.Semicolon) x = ap head i.first ∙ i.second in
    subst (λ p. Finds (reads_decl s d g) ts (got (decl p specs no_declarators) x)) (sym w.0)
    (decl_plain s d g ts h.middle x specs
    (c d g ts h.middle (all_specs specs sh.1) h.first (omega (arith, low)) (omega (arith, few)) (ap spec_of_head semicolon) (ap (after_head marks.LeftBrace) semicolon))
    (after_of marks.Semicolon h.middle x semicolon) sh.0)

pub decl_case : (p : Pos) (specs : SpecShapes) (t : DeclaratorShape) (rest : DeclaratorShapes) → CompleteSpecs specs → CompleteDeclarator t → CompleteDeclarators rest → CompleteDecl (decl p specs (more_declarators t rest))
decl_case p specs t rest cs ct cr s d g ts x n sh w low few =
    let h = w.1 in
    let i = h.second in
    let j = i.first in
    let e = ends_semicolon i.middle x i.second in
    subst (λ p. Finds (reads_decl s d g) ts (got (decl p specs (more_declarators t rest)) x)) (sym w.0)
    (decl_found s d g ts h.middle j.middle specs t (got (decl (place ts) specs (more_declarators t rest)) x)
    (cs d g ts h.middle (all_specs specs sh.0) h.first (omega (arith, low)) (omega (arith, few)) (through_named spec_of_head no_spec t s h.middle j.middle n sh.1 spec_blind j.first) (through_named (after_head marks.LeftBrace) None t s h.middle j.middle n sh.1 brace_blind j.first))
    (through_named (after_head marks.Semicolon) None t s h.middle j.middle n sh.1 semicolon_blind j.first)
    (ct s d g h.middle j.middle sh.1 j.first (omega (arith, low)) (omega (arith, few)) (led_declarators_end rest j.middle i.middle j.second e))
    (declaring_found s d g (place ts) specs t j.middle i.middle x rest
    (cr s d g j.middle i.middle sh.2 j.second (omega (arith, low)) (omega (arith, few)) e (ap (after_head marks.Comma) i.second))
    (after_of marks.Semicolon i.middle x i.second)))

decl_begins : (s : Standing) (t : DeclShape) (ts x : List Token) → ShapedDecl s t → Written (decl_form t) ts x → is_spec (spec_head ts) ≡ true
decl_begins s (decl p specs no_declarators) ts x sh w = specs_begin specs ts w.1.middle sh.1 w.1.first
decl_begins s (decl p specs (more_declarators t rest)) ts x sh w = specs_begin specs ts w.1.middle sh.0 w.1.first

pub decls_begin : (s : Standing) (t : DeclShape) (ds : DeclShapes) (ts x : List Token) → ShapedDecls s (more_decls t ds) → Written (decls_form (more_decls t ds)) ts x → is_spec (spec_head ts) ≡ true
decls_begin s t ds ts x sh w = decl_begins s t ts w.middle sh.0 w.first

pub no_decls_case : CompleteDecls no_decls
no_decls_case s d g ts x n sh w low few e = subst (λ y. Finds (reads_decls s d g) ts (got no_decls y)) w (decls_end s d g ts (ap (λ l. is_spec (spec_head l)) w ∙ ap is_spec e))

pub more_decls_case : (t : DeclShape) (rest : DeclShapes) → CompleteDecl t → CompleteDecls rest → CompleteDecls (more_decls t rest)
more_decls_case t rest ct cr s d g ts x n sh w low few e =
    decls_on s d g t ts w.middle (got rest x) (decl_begins s t ts w.middle sh.0 w.first)
    (ct s d g ts w.middle n sh.0 w.first (omega (arith, low)) (omega (arith, few)))
    (cr s d g w.middle x n sh.1 w.second (omega (arith, low)) (omega (arith, few)) e)

-- PARAMETERS

pub param_case : (p : Pos) (specs : SpecShapes) (t : DeclaratorShape) → CompleteSpecs specs → CompleteDeclarator t → CompleteParam (decl p specs (more_declarators t no_declarators))
param_case p specs t cs ct d g ts x sh w low few e b =
    let h = w.1 in
    let i = h.second in
    let e' = moved_ends i.middle x i.second e in
    subst (λ p. Finds (reads_param d g) ts (got (decl p specs (more_declarators t no_declarators)) x)) (sym w.0)
    (subst (λ y. Finds (reads_param d g) ts (got (decl (place ts) specs (more_declarators t no_declarators)) y)) i.second
    (param_found d g ts h.middle i.middle specs t
    (some_found d g ts (got specs h.middle) (specs_begin specs ts h.middle sh.0 h.first)
    (cs d g ts h.middle (all_specs specs sh.0) h.first (omega (arith, low)) (omega (arith, few)) (through_declarator spec_of_head no_spec t h.middle i.middle spec_blind i.first e'.specless) (through_declarator (after_head marks.LeftBrace) None t h.middle i.middle brace_blind i.first (ap (after marks.LeftBrace) i.second ∙ b))))
    (ct in_params d g h.middle i.middle sh.1 i.first (omega (arith, low)) (omega (arith, few)) e')))

-- what follows a parameter
record ParamEnds (x : List Token) : Type 0 where
  ends : Ends x
  brace : after marks.LeftBrace x ≡ None

led_params_end : (ds : DeclShapes) (ts x r : List Token) → Written (led_params_form ds) ts x → head x ≡ a_token (kind.Mark marks.RightParen) r → ParamEnds ts
led_params_end no_decls ts x r w h = record { ends = moved_ends ts x w (ends_paren x r h); brace = ap (after marks.LeftBrace) w ∙ ap (after_head marks.LeftBrace) h }
led_params_end (more_decls t rest) ts x r w h = record { ends = ends_comma ts w.middle w.first; brace = ap (after_head marks.LeftBrace) w.first }

pub no_params_case : CompleteParamList no_decls
no_params_case d g ts x r sh w low few h = subst (λ y. Finds (reads_params d g) ts (got no_decls y)) w (params_stop d g ts (ap (after marks.Comma) w ∙ ap (after_head marks.Comma) h))

pub more_params_case : (t : DeclShape) (rest : DeclShapes) → CompleteParam t → CompleteParamList rest → CompleteParamList (more_decls t rest)
more_params_case t rest ct cr d g ts x r sh w low few h =
    let i = w.second in
    let e = led_params_end rest i.middle x r i.second h in
    params_on d g t ts w.middle i.middle (got rest x) (after_of marks.Comma ts w.middle w.first)
    (ct d g w.middle i.middle sh.0 i.first (omega (arith, low)) (omega (arith, few)) e.ends e.brace)
    (cr d g i.middle x r sh.1 i.second (omega (arith, low)) (omega (arith, few)) h)

pub empty_case : CompleteParams empty
empty_case d g ts y x sh w low few h = params_empty d g ts x (ap (after marks.RightParen) w ∙ after_of marks.RightParen y x h)

pub void_case : CompleteParams void
void_case d g ts y x sh w low few h = params_void d g ts x (ap (after_head marks.RightParen) w) (ap closing (after_key_of keys.Void ts y w) ∙ after_of marks.RightParen y x h)

-- `( void )`: where a closing parenthesis follows at once, nothing is written before it

abbrev Closes : List Token → List Token → Type 0
Closes ts q = head ts ≡ a_token (kind.Mark marks.RightParen) q

-- what is written before a closing parenthesis is nothing
abbrev Void : Form → Type 0
Void f = (ts x q : List Token) → Written f ts x → Closes ts q → (kinds f ≡ []) × Closes x q

both_void : (f g : Form) → Void f → Void g → Void (f ▷ g)
both_void f g a b ts x q w h =
    let i = a ts w.middle q w.first h in
    let j = b w.middle x q w.second i.1 in
    (ap (λ l. l ++ kinds g) i.0 ∙ j.0, j.1)

unclosed : {P : Type 0} (k : TokenKind) (ts r q : List Token) → head ts ≡ a_token k r → Closes ts q → after_head marks.RightParen (a_token k r) ≡ None → P
unclosed k ts r q a b n = absurd (let e : None ≡ Some q = sym n ∙ ap (after_head marks.RightParen) (sym a ∙ b) in cc)

stars_void : (ss : List Star) → Void (stars_form ss)
stars_void [] ts x q w h = (refl, ap head (sym w) ∙ h)
stars_void (s ∷ ss) ts x q w h = unclosed (kind.Mark marks.Star) ts w.middle q w.first.1 h refl

lengths_void : (ls : LengthShapes) → Void (lengths_form ls)
lengths_void no_lengths ts x q w h = (refl, ap head (sym w) ∙ h)
lengths_void (more_lengths l ls) ts x q w h = unclosed (kind.Mark marks.LeftBracket) ts w.middle q w.first h refl

named_void : (p : Pos) (t : Text) (o : Option ProbeMark) → Void (named_as p t o)
named_void p t None ts x q w h = unclosed (kind.Word t) ts x q w.1 h refl
named_void p t (Some d) ts x q w h = unclosed (kind.Probe words.Def) ts w.middle q w.first.1 h refl

maybe_named_void : (n : Option Named) → Void (maybe_named_form n)
maybe_named_void None ts x q w h = (refl, ap head (sym w) ∙ h)
maybe_named_void (Some n) ts x q w h = named_void n.pos n.text n.probe ts x q w h

behind_void : (f : DeclFormShape) → Void (behind_form f)
behind_void (arrays ls) ts x q w h = lengths_void ls ts x q w h
behind_void (function list) ts x q w h = unclosed (kind.Mark marks.LeftParen) ts w.middle q w.first h refl

init_of_void : (i : MaybeInit) → Void (maybe_init_form i)
init_of_void no_init ts x q w h = (refl, ap head (sym w) ∙ h)
init_of_void (one_init i) ts x q w h = unclosed (kind.Mark marks.Equal) ts w.middle q w.first h refl

declarator_void : (t : DeclaratorShape) → Void (declarator_form t)
declarator_void (declarator ss n f i) =
    both_void (stars_form ss) (maybe_named_form n ▷ behind_form f ▷ maybe_init_form i) (stars_void ss)
    (both_void (maybe_named_form n) (behind_form f ▷ maybe_init_form i) (maybe_named_void n) (both_void (behind_form f) (maybe_init_form i) (behind_void f) (init_of_void i)))

led_declarators_void : (ds : DeclaratorShapes) → Void (led_declarators_form ds)
led_declarators_void no_declarators ts x q w h = (refl, ap head (sym w) ∙ h)
led_declarators_void (more_declarators t ds) ts x q w h = unclosed (kind.Mark marks.Comma) ts w.middle q w.first h refl

declarators_void : (ds : DeclaratorShapes) → Void (declarators_form ds)
declarators_void no_declarators ts x q w h = (refl, ap head (sym w) ∙ h)
declarators_void (more_declarators t ds) ts x q w h = both_void (declarator_form t) (led_declarators_form ds) (declarator_void t) (led_declarators_void ds) ts x q w h

led_params_void : (ds : DeclShapes) → Void (led_params_form ds)
led_params_void no_decls ts x q w h = (refl, ap head (sym w) ∙ h)
led_params_void (more_decls t ds) ts x q w h = unclosed (kind.Mark marks.Comma) ts w.middle q w.first h refl

specs_void : (ss : SpecShapes) → AllSpecs ss → Void (specs_form ss)
specs_void no_specs s ts x q w h = (refl, ap head (sym w) ∙ h)
specs_void (more_specs p k ss) s ts x q w h = apart (sym (spec_begins k ts w.middle s.0 w.first.1) ∙ ap (λ z. is_spec (spec_of_head z)) h)

key_in : (v : Key) (m r : List Token) → a_token (kind.Key v) m ≡ a_token (kind.Key keys.Void) r → (v ≡ keys.Void) × (m ≡ r)
key_in v m r e = (cc, cc)

no_void : {P : Type 0} (k : Key) (ts m r : List Token) → head ts ≡ a_token (kind.Key k) m → head ts ≡ a_token (kind.Key keys.Void) r → after_key_head keys.Void (a_token (kind.Key k) m) ≡ None → P
no_void k ts m r a b n = absurd (let e : None ≡ Some r = sym n ∙ ap (after_key_head keys.Void) (sym a ∙ b) in cc)

-- a list of parameters that begins as `void )` is `void` alone
void_alone : (p i : Pos) (k : SpecShape) (rest : SpecShapes) (ds : DeclaratorShapes) (more : DeclShapes) (ts y r q : List Token) → AllSpecs rest → Written (param_list_form (more_decls (decl p (more_specs i k rest) ds) more)) ts y → head ts ≡ a_token (kind.Key keys.Void) r → Closes r q → kinds (param_list_form (more_decls (decl p (more_specs i k rest) ds) more)) ≡ kind.Key keys.Void ∷ []
void_alone p i (struct n m) rest ds more ts y r q s w a c = no_void keys.Struct ts w.first.1.first.first.1.middle r w.first.1.first.first.1.first a refl
void_alone p i (enum n m) rest ds more ts y r q s w a c = no_void keys.Enum ts w.first.1.first.first.1.middle r w.first.1.first.first.1.first a refl
void_alone p i (word v) rest ds more ts y r q s w a c =
    let h = w.first.1 in
    let j = h.first in
    let e = key_in v j.middle r (sym j.first.1 ∙ a) in
    let behind = both_void (specs_form rest ▷ declarators_form ds) (led_params_form more) (both_void (specs_form rest) (declarators_form ds) (specs_void rest s) (declarators_void ds)) (led_params_void more)
    j.middle y q (record { middle = w.middle; first = record { middle = h.middle; first = j.second; second = h.second }; second = w.second }) (ap head e.1 ∙ c) in
    ap (λ l. kind.Key v ∷ l) behind.0 ∙ ap (λ z. kind.Key z ∷ []) e.0

closing_is : (o : Option (List Token)) (q : List Token) → closing o ≡ Some q → (r : List Token) × (o ≡ Some r) × (after marks.RightParen r ≡ Some q)
closing_is None q e = absurd (let z : None ≡ Some q = e in cc)
closing_is (Some r) q e = (r, refl, e)

no_void_list : (t : DeclShape) (rest : DeclShapes) (ts y : List Token) → ShapedParams (params (more_decls t rest)) → Written (param_list_form (more_decls t rest)) ts y → void_ahead ts ≡ None
no_void_list (decl p specs no_declarators) rest ts y sh w = absurd sh.0
no_void_list (decl p specs (more_declarators t (more_declarators e l))) rest ts y sh w = absurd sh.0
no_void_list (decl p no_specs (more_declarators t no_declarators)) rest ts y sh w = absurd sh.0.0
no_void_list (decl p (more_specs i k ss) (more_declarators t no_declarators)) rest ts y sh w =
    none_if (void_ahead ts) (λ q e. (
    let c = closing_is (after_key keys.Void ts) q e in
    sh.2 (void_alone p i k ss (more_declarators t no_declarators) rest ts y c.0 q sh.0.0.1 w (after_key_is keys.Void ts c.0 c.1) (after_is marks.RightParen c.0 q c.2))))

param_begins : (t : DeclShape) (ts x : List Token) → ShapedParam t → Written (param_form t) ts x → is_spec (spec_head ts) ≡ true
param_begins (decl p specs no_declarators) ts x sh w = absurd sh
param_begins (decl p specs (more_declarators t no_declarators)) ts x sh w = specs_begin specs ts w.1.middle sh.0 w.1.first
param_begins (decl p specs (more_declarators t (more_declarators e l))) ts x sh w = absurd sh

pub params_case : (t : DeclShape) (rest : DeclShapes) → CompleteParam t → CompleteParamList rest → CompleteParams (params (more_decls t rest))
params_case t rest ct cr d g ts y x sh w low few h =
    let e = led_params_end rest w.middle y x w.second h in
    params_listed d g ts y x (more_decls t rest) (spec_no_mark marks.RightParen ts (param_begins t ts w.middle sh.0 w.first)) (no_void_list t rest ts y sh w)
    (param_list_found d g t ts w.middle (got rest y)
    (ct d g ts w.middle sh.0 w.first (omega (arith, low)) (omega (arith, few)) e.ends e.brace)
    (cr d g w.middle y x sh.1 w.second (omega (arith, low)) (omega (arith, few)) h))
    (after_of marks.RightParen y x h)
