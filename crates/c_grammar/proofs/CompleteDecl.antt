-- Types and specifiers that the grammar allows are found: a case for each form, by what is found of its parts.
use Rattle.std.proofs.Common.{◌≡◌, ℕ, zero, suc, ◌+◌, ◌*◌, ◌≤◌, List, [], ◌∷◌, length, Option, Some, None, Bool, true, false, refl, sym, ap, ◌∙◌, subst, arith}
use Rattle.std.specs.Prelude.{is_none, ◌||◌}
use Rattle.c_base.specs.declared.place.Pos.{Pos}
use Rattle.c_syntax.specs.declared.text.Text.{Text}
use Rattle.c_syntax.specs.declared.token.Mark.{Mark}
use Rattle.c_syntax.specs.declared.token.Mark.TheVariants as marks
use Rattle.c_syntax.specs.declared.token.Key.{Key}
use Rattle.c_syntax.specs.declared.token.Key.TheVariants as keys
use Rattle.c_syntax.specs.declared.token.ProbeWord.TheVariants as words
use Rattle.c_syntax.specs.declared.token.Token.{Token}
use Rattle.c_syntax.specs.declared.token.TokenKind.TheVariants as kind
use Rattle.c_syntax.specs.declared.tree.Star.{Star}
use Rattle.c_syntax.specs.declared.tree.Named.{Named}
use Rattle.c_syntax.specs.declared.tree.ProbeMark.{ProbeMark}
use Rattle.c_syntax.specs.Forms.{Head, a_token, head, place, Written}
use Rattle.c_syntax.specs.Shape.{assign, comma, NodeShape, MaybeNode, no_node, one_node, LengthShapes, no_lengths, more_lengths, TypeShape, type_name, SpecShapes, no_specs, more_specs, SpecShape, word, struct, enum, no_members, members, no_rows, rows, EnumerShapes, no_enumers, more_enumers, DeclShape, DeclShapes, more_decls}
use Rattle.c_syntax.specs.Grammar.{named_as, named_form, maybe_named_form, consts_form, stars_form, lengths_form, specs_form, spec_form, enumers_form, led_enumers_form, value_form, decls_form}
use Rattle.c_syntax.specs.Levels.{maybe_height, lengths_height, specs_height, spec_height, enumers_height, decls_height}
use Rattle.c_syntax.specs.Shaped.{Standing, in_members, unprobed, is_there, name_fits, ShapedMaybe, ShapedLengths, SomeSpecs, AllSpecs, ShapedSpec, ShapedEnumers, ShapedDecls}
use Rattle.c_grammar.specs.Look.{got, Finds, after, after_head, after_key, after_key_head, after_probe, after_probe_head, a_word, word_head}
use Rattle.c_grammar.specs.Starts.{Oper, infix_oper, a_sign, no_sign, sign_head, sign, oper_level, no_spec, spec_of_head, spec_head, is_spec}
use Rattle.c_grammar.specs.Reader.{reads_lengths, reads_specs, reads_enumers, reads_decls, reads_type}
use Rattle.c_grammar.specs.ExprReader.{reads_consts, reads_stars, plain_name, tag, maybe_named}
use Rattle.c_grammar.proofs.Looking.{apart, after_is, after_of, after_key_of, after_probe_of}
use Rattle.c_grammar.proofs.Starting.{spec_word_key}
use Rattle.c_grammar.proofs.TypeSteps.{length_none, length_there, lengths_end, lengths_on, consts_end, consts_on, stars_end, stars_on, type_found, some_found, specs_end, structure, enumeration, specs_word, specs_struct, specs_enum, struct_plain, struct_found, enumerators, enum_plain, enum_found, value, value_none, value_some, enumer_on, enumers_end, enumers_on, tag_some, tag_none, named_plain, named_probe}
use Rattle.c_grammar.proofs.CompleteLooking.{StopsAt, stops_none, stops_by, none_if, no_mark, node_begins, no_comma}
use Rattle.c_grammar.proofs.CompleteExpr.{CompleteNode, CompleteType, ended_node, listed_node, mark_ends, TypeBegins, numbered_of}

-- WHAT IS TO BE SHOWN OF EACH PART

abbrev pub CompleteLengths : LengthShapes → Type 0
CompleteLengths ls = (free : Bool) (d g : ℕ) (ts x : List Token) → ShapedLengths free ls → Written (lengths_form ls) ts x → lengths_height ls + d ≤ 400 → g + 4 * lengths_height ls ≤ 1600 → after marks.LeftBracket x ≡ None → Finds (reads_lengths free d g) ts (got ls x)

-- no specifier follows, and no brace
abbrev pub CompleteSpecs : SpecShapes → Type 0
CompleteSpecs ss = (d g : ℕ) (ts x : List Token) → AllSpecs ss → Written (specs_form ss) ts x → specs_height ss + d ≤ 400 → g + 4 * specs_height ss ≤ 1600 → spec_head x ≡ no_spec → after marks.LeftBrace x ≡ None → Finds (reads_specs d g) ts (got ss x)

-- one specifier in front of others
abbrev pub CompleteSpec : SpecShape → Type 0
CompleteSpec s = (p : Pos) (rest : SpecShapes) (d g : ℕ) (ts y x : List Token) → ShapedSpec s → p ≡ place ts → Written (spec_form s) ts y → spec_height s + d ≤ 400 → g + 4 * spec_height s ≤ 1600 → after marks.LeftBrace y ≡ None → Finds (reads_specs d g) y (got rest x) → Finds (reads_specs d g) ts (got (more_specs p s rest) x)

-- an enumerator's value
abbrev pub CompleteValue : MaybeNode → Type 0
CompleteValue v = (d g : ℕ) (ts x : List Token) → ShapedMaybe 2 v → Written (value_form v) ts x → maybe_height v + d ≤ 400 → g + 4 * maybe_height v ≤ 1600 → StopsAt 1 (sign x) → Finds (value d g) ts (got v x)

abbrev pub CompleteEnumers : EnumerShapes → Type 0
CompleteEnumers es = (d g : ℕ) (ts x : List Token) → ShapedEnumers es → Written (led_enumers_form es) ts x → enumers_height es + d ≤ 400 → g + 4 * enumers_height es ≤ 1600 → sign x ≡ no_sign → Finds (reads_enumers d g) ts (got es x)

-- where a declarator needs a name
abbrev pub CompleteDecls : DeclShapes → Type 0
CompleteDecls ds = (s : Standing) (d g : ℕ) (ts x : List Token) → name_fits s None ≡ false → ShapedDecls s ds → Written (decls_form ds) ts x → decls_height ds + d ≤ 400 → g + 4 * decls_height ds ≤ 1600 → spec_head x ≡ no_spec → Finds (reads_decls s d g) ts (got ds x)

-- FIRST TOKENS

-- a mark that is an operator doesn't follow where at most a comma does
pub stops_no_mark : (m : Mark) (o : Oper) (x : List Token) → StopsAt 1 (sign x) → ((r : List Token) → sign_head (a_token (kind.Mark m) r) ≡ a_sign o r) → 1 ≤ oper_level o → after m x ≡ None
stops_no_mark m o x st h one = none_if (after m x) (λ r e. (let q : StopsAt 1 (a_sign o r) = subst (StopsAt 1) (ap sign_head (after_is m x r e) ∙ h r) st in omega (arith, q, one)))

pub no_equal : (x : List Token) → StopsAt 1 (sign x) → after marks.Equal x ≡ None
no_equal x st = stops_no_mark marks.Equal (infix_oper (assign None)) x st (λ r. refl) (omega arith)

-- specifiers begin with no mark
pub spec_no_mark : (m : Mark) (ts : List Token) → is_spec (spec_head ts) ≡ true → after m ts ≡ None
spec_no_mark m ts b = none_if (after m ts) (λ r e. apart (sym b ∙ ap (λ h. is_spec (spec_of_head h)) (after_is m ts r e)))

pub through_stars : {A : Type 0} (v : Head → A) (a : A) (ss : List Star) (ts x : List Token) → Written (stars_form ss) ts x → ((r : List Token) → v (a_token (kind.Mark marks.Star) r) ≡ a) → v (head x) ≡ a → v (head ts) ≡ a
through_stars v a [] ts x w h e = ap (λ l. v (head l)) w ∙ e
through_stars v a (s ∷ ss) ts x w h e = ap v w.first.1 ∙ h w.middle

pub through_lengths : {A : Type 0} (v : Head → A) (a : A) (ls : LengthShapes) (ts x : List Token) → Written (lengths_form ls) ts x → ((r : List Token) → v (a_token (kind.Mark marks.LeftBracket) r) ≡ a) → v (head x) ≡ a → v (head ts) ≡ a
through_lengths v a no_lengths ts x w h e = ap (λ l. v (head l)) w ∙ e
through_lengths v a (more_lengths l ls) ts x w h e = ap v w.first ∙ h w.middle

named_heads : {A : Type 0} (v : Head → A) (a : A) (p : Pos) (t : Text) (o : Option ProbeMark) (ts x : List Token) → Written (named_as p t o) ts x → ((t : Text) (r : List Token) → v (a_token (kind.Word t) r) ≡ a) → ((r : List Token) → v (a_token (kind.Probe words.Def) r) ≡ a) → v (head ts) ≡ a
named_heads v a p t None ts x w h k = ap v w.1 ∙ h t x
named_heads v a p t (Some d) ts x w h k = ap v w.first.1 ∙ k w.middle

pub through_name : {A : Type 0} (v : Head → A) (a : A) (n : Option Named) (ts x : List Token) → Written (maybe_named_form n) ts x → ((t : Text) (r : List Token) → v (a_token (kind.Word t) r) ≡ a) → ((r : List Token) → v (a_token (kind.Probe words.Def) r) ≡ a) → (is_there n ≡ false → v (head x) ≡ a) → v (head ts) ≡ a
through_name v a None ts x w h k e = ap (λ l. v (head l)) w ∙ e refl
through_name v a (Some n) ts x w h k e = named_heads v a n.pos n.text n.probe ts x w h k

pub spec_begins : (s : SpecShape) (ts x : List Token) → ShapedSpec s → Written (spec_form s) ts x → is_spec (spec_head ts) ≡ true
spec_begins (word k) ts x s w = ap (λ h. is_spec (spec_of_head h)) w ∙ ap is_spec (spec_word_key k x s)
spec_begins (struct n ds) ts x s w = ap (λ h. is_spec (spec_of_head h)) w.first
spec_begins (enum n es) ts x s w = ap (λ h. is_spec (spec_of_head h)) w.first

pub specs_begin : (ss : SpecShapes) (ts x : List Token) → SomeSpecs ss → Written (specs_form ss) ts x → is_spec (spec_head ts) ≡ true
specs_begin no_specs ts x s w = absurd s
specs_begin (more_specs p k rest) ts x s w = spec_begins k ts w.middle s.0 w.first.1

pub all_specs : (ss : SpecShapes) → SomeSpecs ss → AllSpecs ss
all_specs no_specs s = absurd s
all_specs (more_specs p k rest) s = s

specs_no_brace : (ss : SpecShapes) (ts x : List Token) → AllSpecs ss → Written (specs_form ss) ts x → after marks.LeftBrace x ≡ None → after marks.LeftBrace ts ≡ None
specs_no_brace no_specs ts x s w e = ap (after marks.LeftBrace) w ∙ e
specs_no_brace (more_specs p k rest) ts x s w e = spec_no_mark marks.LeftBrace ts (spec_begins k ts w.middle s.0 w.first.1)

-- LENGTHS

pub no_lengths_case : CompleteLengths no_lengths
no_lengths_case free d g ts x s w low few e =
    subst (λ y. Finds (reads_lengths free d g) ts (got no_lengths y)) w (lengths_end free d g ts (ap (after marks.LeftBracket) w ∙ e))

pub open_length_case : (rest : LengthShapes) → CompleteLengths rest → CompleteLengths (more_lengths no_node rest)
open_length_case rest c free d g ts x s w low few e =
    let r = w.middle in
    let i = w.second.second in
    lengths_on free d g no_node ts r i.middle (got rest x) (after_of marks.LeftBracket ts r w.first) (omega (arith, low))
    (length_none free d g r i.middle (ap (after marks.RightBracket) w.second.first ∙ after_of marks.RightBracket w.second.middle i.middle i.first) s.0)
    (c free (suc d) g i.middle x s.1 i.second (omega (arith, low)) (omega (arith, few)) e)

pub length_case : (a : NodeShape) (rest : LengthShapes) → CompleteNode a → CompleteLengths rest → CompleteLengths (more_lengths (one_node a) rest)
length_case a rest ca c free d g ts x s w low few e =
    let r = w.middle in
    let h = w.second in
    let i = h.second in
    lengths_on free d g (one_node a) ts r i.middle (got rest x) (after_of marks.LeftBracket ts r w.first) (omega (arith, low))
    (length_there free d g a r h.middle i.middle (no_mark marks.RightBracket r (node_begins a r h.middle h.first) (λ l. refl))
    (ended_node a ca 2 (suc d) g r h.middle s.1 h.first s.0 (omega (arith, low)) (omega (arith, few)) (mark_ends marks.RightBracket h.middle i.middle i.first refl))
    (after_of marks.RightBracket h.middle i.middle i.first))
    (c free (suc d) g i.middle x s.2 i.second (omega (arith, low)) (omega (arith, few)) e)

-- STARS

consts_found : (n : ℕ) (ts x : List Token) → Written (consts_form n) ts x → after_key keys.Const x ≡ None → Finds reads_consts ts (got n x)
consts_found zero ts x w e = subst (λ y. Finds reads_consts ts (got 0 y)) w (consts_end ts (ap (after_key keys.Const) w ∙ e))
consts_found (suc n) ts x w e = consts_on ts w.middle (got n x) (after_key_of keys.Const ts w.middle w.first) (consts_found n w.middle x w.second e)

pub stars_found : (ss : List Star) (d : ℕ) (ts x : List Token) → Written (stars_form ss) ts x → length ss + d ≤ 400 → after marks.Star x ≡ None → after_key keys.Const x ≡ None → Finds (reads_stars d) ts (got ss x)
stars_found [] d ts x w low e f = subst (λ y. Finds (reads_stars d) ts (got [] y)) w (stars_end d ts (ap (after marks.Star) w ∙ e))
stars_found (s ∷ ss) d ts x w low e f =
    let i = w.second in
    subst (λ p. Finds (reads_stars d) ts (got (record { pos = p; consts = s.consts } ∷ ss) x)) (sym w.first.0)
    (stars_on d s.consts ts w.middle i.middle (got ss x) (after_of marks.Star ts w.middle w.first.1) (omega (arith, low))
    (consts_found s.consts w.middle i.middle i.first (through_stars (after_key_head keys.Const) None ss i.middle x i.second (λ r. refl) f))
    (stars_found ss (suc d) i.middle x i.second (omega (arith, low)) e f))

-- TYPE NAMES

pub type_begins : (t : TypeShape) → TypeBegins t
type_begins (type_name p specs ss ls) ts x s w = specs_begin specs ts w.1.middle s.0 w.1.first

pub type_case : (p : Pos) (specs : SpecShapes) (ss : List Star) (ls : LengthShapes) → CompleteSpecs specs → CompleteLengths ls → CompleteType (type_name p specs ss ls)
type_case p specs ss ls cs cl d g ts x r s w low few e =
    let h = w.1 in
    let i = h.second in
    subst (λ p. Finds (reads_type d g) ts (got (type_name p specs ss ls) x)) (sym w.0)
    (type_found d g ts h.middle i.middle x specs ss ls
    (some_found d g ts (got specs h.middle) (specs_begin specs ts h.middle s.0 h.first)
    (cs d g ts h.middle (all_specs specs s.0) h.first (omega (arith, low)) (omega (arith, few))
    (through_stars spec_of_head no_spec ss h.middle i.middle i.first (λ r. refl) (through_lengths spec_of_head no_spec ls i.middle x i.second (λ r. refl) (ap spec_of_head e)))
    (through_stars (after_head marks.LeftBrace) None ss h.middle i.middle i.first (λ r. refl) (through_lengths (after_head marks.LeftBrace) None ls i.middle x i.second (λ r. refl) (ap (after_head marks.LeftBrace) e)))))
    (stars_found ss d h.middle i.middle i.first (omega (arith, low)) (through_lengths (after_head marks.Star) None ls i.middle x i.second (λ r. refl) (ap (after_head marks.Star) e)) (through_lengths (after_key_head keys.Const) None ls i.middle x i.second (λ r. refl) (ap (after_key_head keys.Const) e)))
    (cl false (length ss + d) g i.middle x s.1 i.second (omega (arith, low)) (omega (arith, few)) (ap (after_head marks.LeftBracket) e)))

-- NAMES

pub no_probe : (o : Option ProbeMark) → is_none o ≡ true → o ≡ None
no_probe None e = refl
no_probe (Some d) e = apart (sym e)

abbrev a_name : Pos → Text → Option ProbeMark → Named
a_name p t o = record { pos = p; text = t; probe = o }

-- a name with no probe round it
pub plain_named : (n : Named) (ts x : List Token) → n.probe ≡ None → Written (named_form n) ts x → (a_word ts ≡ Some (n.text, x)) × (n ≡ plain_name (place ts) n.text)
plain_named n ts x e w =
    let v : Written (named_as n.pos n.text None) ts x = subst (λ o. Written (named_as n.pos n.text o) ts x) e w in
    (ap word_head v.1, ap (λ o. a_name n.pos n.text o) e ∙ ap (λ p. plain_name p n.text) v.0)

pub tag_found : (n : Option Named) (ts x : List Token) → unprobed n ≡ true → Written (maybe_named_form n) ts x → (is_there n ≡ false → a_word x ≡ None) → tag ts ≡ got n x
tag_found None ts x u w e = tag_none ts (ap a_word w ∙ e refl) ∙ ap (λ l. got None l) w
tag_found (Some n) ts x u w e =
    let p = plain_named n ts x (no_probe n.probe u) w in
    tag_some ts x n.text p.0 ∙ ap (λ m. got (Some m) x) (sym p.1)

named_some : (p : Pos) (t : Text) (o : Option ProbeMark) (ts x : List Token) → Written (named_as p t o) ts x → maybe_named ts ≡ got (Some (a_name p t o)) x
named_some p t None ts x w =
    named_plain ts (got (Some (a_name p t None)) x) (ap (after_probe_head words.Def) w.1) (tag_some ts x t (ap word_head w.1) ∙ ap (λ q. got (Some (a_name q t None)) x) (sym w.0))
named_some p t (Some d) ts x w =
    let i = w.second in
    let j = i.second in
    let k = j.first in
    let l = k.second in
    named_probe ts w.middle k.middle l.middle j.middle x d.number t (after_probe_of words.Def ts w.middle w.first.1) (numbered_of d.number w.middle i.middle k.middle i.first k.first) (after_of marks.Comma k.middle l.middle l.first) (ap word_head l.second.1) (after_of marks.RightParen j.middle x j.second)
    ∙ ap (λ q. got (Some (a_name q t (Some (record { pos = place ts; number = d.number })))) x) (sym l.second.0)
    ∙ ap (λ q. got (Some (a_name p t (Some (record { pos = q; number = d.number })))) x) (sym w.first.0)

pub named_found : (n : Option Named) (ts x : List Token) → Written (maybe_named_form n) ts x → (is_there n ≡ false → (a_word x ≡ None) × (after_probe words.Def x ≡ None)) → maybe_named ts ≡ got n x
named_found None ts x w e = named_plain ts (got None x) (ap (after_probe words.Def) w ∙ (e refl).1) (tag_none ts (ap a_word w ∙ (e refl).0) ∙ ap (λ l. got None l) w)
named_found (Some n) ts x w e = named_some n.pos n.text n.probe ts x w

-- SPECIFIERS

pub no_specs_case : CompleteSpecs no_specs
no_specs_case d g ts x s w low few e b = subst (λ y. Finds (reads_specs d g) ts (got no_specs y)) w (specs_end d g ts (ap spec_head w ∙ e))

pub more_specs_case : (p : Pos) (k : SpecShape) (rest : SpecShapes) → CompleteSpec k → CompleteSpecs rest → CompleteSpecs (more_specs p k rest)
more_specs_case p k rest ck cr d g ts x s w low few e b =
    ck p rest d g ts w.middle x s.0 w.first.0 w.first.1 (omega (arith, low)) (omega (arith, few)) (specs_no_brace rest w.middle x s.1 w.second b)
    (cr d g w.middle x s.1 w.second (omega (arith, low)) (omega (arith, few)) e b)

spec_placed : (p : Pos) (k : SpecShape) (rest : SpecShapes) (d g : ℕ) (ts x : List Token) → p ≡ place ts → Finds (reads_specs d g) ts (got (more_specs (place ts) k rest) x) → Finds (reads_specs d g) ts (got (more_specs p k rest) x)
spec_placed p k rest d g ts x e f = subst (λ p. Finds (reads_specs d g) ts (got (more_specs p k rest) x)) (sym e) f

pub word_case : (k : Key) → CompleteSpec (word k)
word_case k p rest d g ts y x s e w low few b f = spec_placed p (word k) rest d g ts x e (specs_word d g ts y k (got rest x) (ap spec_of_head w ∙ spec_word_key k y s) f)

there_of : (n : Option Named) → (is_there n || false) ≡ true → is_there n ≡ true
there_of None e = e
there_of (Some n) e = refl

pub struct_plain_case : (n : Option Named) → CompleteSpec (struct n no_members)
struct_plain_case n p rest d g ts y x s e w low few b f =
    let h = w.second in
    let there : is_there n ≡ true = there_of n s.1 in
    let brace : after marks.LeftBrace h.middle ≡ None = ap (after marks.LeftBrace) h.second ∙ b in
    spec_placed p (struct n no_members) rest d g ts x e
    (specs_struct d g ts w.middle y (struct n no_members) (got rest x) (ap spec_of_head w.first)
    (subst (λ l. Finds (structure d g) w.middle (got (struct n no_members) l)) h.second
    (struct_plain d g w.middle h.middle n (tag_found n w.middle h.middle s.0 h.first (λ o. apart (sym there ∙ o))) brace there)) f)

pub struct_case : (n : Option Named) (t : DeclShape) (ds : DeclShapes) → ((ts x : List Token) → ShapedDecls in_members (more_decls t ds) → Written (decls_form (more_decls t ds)) ts x → is_spec (spec_head ts) ≡ true) → CompleteDecls (more_decls t ds) → CompleteSpec (struct n (members (more_decls t ds)))
struct_case n t ds begins c p rest d g ts y x s e w low few b f =
    let h = w.second in
    let i = h.second in
    let j = i.second in
    spec_placed p (struct n (members (more_decls t ds))) rest d g ts x e
    (specs_struct d g ts w.middle y (struct n (members (more_decls t ds))) (got rest x) (ap spec_of_head w.first)
    (struct_found d g w.middle h.middle i.middle j.middle y n (more_decls t ds) (tag_found n w.middle h.middle s.0 h.first (λ o. ap word_head i.first)) (after_of marks.LeftBrace h.middle i.middle i.first) (omega (arith, low)) (begins i.middle j.middle s.2 j.first)
    (c in_members (suc d) g i.middle j.middle refl s.2 j.first (omega (arith, low)) (omega (arith, few)) (ap spec_of_head j.second))
    (after_of marks.RightBrace j.middle y j.second)) f)

-- ENUMERATORS

pub no_value_case : CompleteValue no_node
no_value_case d g ts x s w low few st =
    subst (λ y. Finds (value d g) ts (got no_node y)) w (value_none d g ts (ap (after marks.Equal) w ∙ no_equal x st))

pub value_case : (a : NodeShape) → CompleteNode a → CompleteValue (one_node a)
value_case a c d g ts x s w low few st =
    value_some d g a ts w.middle x (after_of marks.Equal ts w.middle w.first) (listed_node a c 2 d g w.middle x (omega arith) s.1 w.second s.0 low few st)

led_enumers_stop : (es : EnumerShapes) (ts x : List Token) → Written (led_enumers_form es) ts x → sign x ≡ no_sign → StopsAt 1 (sign ts)
led_enumers_stop no_enumers ts x w e = stops_none 1 ts (ap sign w ∙ e)
led_enumers_stop (more_enumers n v rest) ts x w e = stops_by 1 ts w.middle (infix_oper comma) (ap sign_head w.first) (omega arith)

-- an enumerator and those behind it
enumerator_found : (n : Named) (v : MaybeNode) (rest : EnumerShapes) → CompleteValue v → CompleteEnumers rest → (d g : ℕ) (ts x : List Token) → ShapedEnumers (more_enumers n v rest) → Written (enumers_form (more_enumers n v rest)) ts x → enumers_height (more_enumers n v rest) + d ≤ 400 → g + 4 * enumers_height (more_enumers n v rest) ≤ 1600 → sign x ≡ no_sign → Finds (enumerators d g) ts (got (more_enumers n v rest) x)
enumerator_found n v rest cv cr d g ts x s w low few e =
    let i = w.second in
    let p = plain_named n ts w.middle s.0 w.first in
    subst (λ m. Finds (enumerators d g) ts (got (more_enumers m v rest) x)) (sym p.1)
    (enumer_on d g ts w.middle i.middle n.text v (got rest x) p.0
    (cv d g w.middle i.middle s.1 i.first (omega (arith, low)) (omega (arith, few)) (led_enumers_stop rest i.middle x i.second e))
    (cr d g i.middle x s.2 i.second (omega (arith, low)) (omega (arith, few)) e))

pub no_enumers_case : CompleteEnumers no_enumers
no_enumers_case d g ts x s w low few e = subst (λ y. Finds (reads_enumers d g) ts (got no_enumers y)) w (enumers_end d g ts (no_comma ts (ap sign w ∙ e)))

pub more_enumers_case : (n : Named) (v : MaybeNode) (rest : EnumerShapes) → CompleteValue v → CompleteEnumers rest → CompleteEnumers (more_enumers n v rest)
more_enumers_case n v rest cv cr d g ts x s w low few e =
    enumers_on d g ts w.middle (got (more_enumers n v rest) x) (after_of marks.Comma ts w.middle w.first) (enumerator_found n v rest cv cr d g w.middle x s w.second low few e)

pub enum_plain_case : (n : Option Named) → CompleteSpec (enum n no_rows)
enum_plain_case n p rest d g ts y x s e w low few b f =
    let h = w.second in
    let there : is_there n ≡ true = there_of n s.1 in
    let brace : after marks.LeftBrace h.middle ≡ None = ap (after marks.LeftBrace) h.second ∙ b in
    spec_placed p (enum n no_rows) rest d g ts x e
    (specs_enum d g ts w.middle y (enum n no_rows) (got rest x) (ap spec_of_head w.first)
    (subst (λ l. Finds (enumeration d g) w.middle (got (enum n no_rows) l)) h.second
    (enum_plain d g w.middle h.middle n (tag_found n w.middle h.middle s.0 h.first (λ o. apart (sym there ∙ o))) brace there)) f)

pub enum_case : (n : Option Named) (m : Named) (v : MaybeNode) (es : EnumerShapes) → CompleteValue v → CompleteEnumers es → CompleteSpec (enum n (rows (more_enumers m v es)))
enum_case n m v es cv cr p rest d g ts y x s e w low few b f =
    let h = w.second in
    let i = h.second in
    let j = i.second in
    spec_placed p (enum n (rows (more_enumers m v es))) rest d g ts x e
    (specs_enum d g ts w.middle y (enum n (rows (more_enumers m v es))) (got rest x) (ap spec_of_head w.first)
    (enum_found d g w.middle h.middle i.middle j.middle y n (more_enumers m v es) (tag_found n w.middle h.middle s.0 h.first (λ o. ap word_head i.first)) (after_of marks.LeftBrace h.middle i.middle i.first)
    (enumerator_found m v es cv cr d g i.middle j.middle s.2 j.first low few (mark_ends marks.RightBrace j.middle y j.second refl))
    (after_of marks.RightBrace j.middle y j.second)) f)
