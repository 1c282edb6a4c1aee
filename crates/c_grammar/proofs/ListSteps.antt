-- Lists of expressions and of declarations, one item more.
pub use Rattle.c_grammar.specs.Parts.{LedFrom}
use Rattle.std.proofs.Common.{◌≡◌, ℕ, zero, suc, ◌+◌, ◌≤◌, ◌<◌, List, [], ◌∷◌, ◌++◌, length, Option, Some, None, Bool, true, false, refl, sym, ap, ◌∙◌, subst, arith}
use Rattle.std.proofs.lemmas.List.{length-append}
use Rattle.std.specs.Prelude.{max}
use Rattle.c_base.specs.declared.place.Pos.{Pos}
use Rattle.c_syntax.specs.declared.text.Text.{Text}
use Rattle.c_syntax.specs.declared.token.Mark.TheVariants as marks
use Rattle.c_syntax.specs.declared.token.Key.{Key}
use Rattle.c_syntax.specs.declared.token.Key.TheVariants as keys
use Rattle.c_syntax.specs.declared.token.Token.{Token}
use Rattle.c_syntax.specs.declared.tree.Star.{Star}
use Rattle.c_syntax.specs.declared.tree.Node.{Node}
use Rattle.c_syntax.specs.declared.tree.Spec.{Spec}
use Rattle.c_syntax.specs.declared.tree.Enumer.{Enumer, out-Enumer}
use Rattle.c_syntax.specs.declared.tree.Decl.{Decl}
use Rattle.c_syntax.specs.declared.tree.Declarator.{Declarator}
use Rattle.c_syntax.specs.declared.tree.Param.{Param}
use Rattle.c_syntax.specs.declared.tree.Init.{Init}
use Rattle.c_syntax.specs.Forms.{place}
use Rattle.c_syntax.specs.Shape.{NodeShapes, no_nodes, MaybeNode, one_node, more_specs, more_enumers, LengthShapes, no_lengths, SpecShapes, no_specs, word, EnumerShapes, no_enumers, DeclShapes, no_decls, DeclaratorShapes, no_declarators, InitShapes, no_inits}
use Rattle.c_syntax.specs.View.{node_shape, maybe_node, spec_shape, decl_shape, declarator_shape, param_shape, init_shape, node_list, lengths_list, type_lengths_list, spec_list, enumer_list, decl_list, declarator_list, param_list, init_list}
use Rattle.c_syntax.specs.Levels.{height, maybe_height, nodes_height, lengths_height, specs_height, spec_height, enumers_height, decls_height, decl_height, declarators_height, declarator_height, inits_height, init_height}
use Rattle.c_syntax.specs.Levels.{chain, nodes_chain}
use Rattle.c_syntax.specs.Shaped.{Standing}
use Rattle.c_grammar.specs.Look.{Got, got, then_go, Finds, after, after_key, a_word}
use Rattle.c_grammar.specs.Starts.{spec_head, is_spec, a_spec_word, a_struct, an_enum, no_spec}
use Rattle.c_grammar.specs.Reader.{reads, reads_led, reads_lengths, reads_specs, reads_enumers, reads_decls, reads_decl, reads_declarators, reads_declarator, reads_params, reads_param, reads_init, reads_inits, further}
use Rattle.c_grammar.specs.ExprReader.{reads_stars, reads_consts, plain_name}
use Rattle.c_grammar.specs.Leads.{onto_got, Leads, node_cons, length_cons, type_length_cons, star_cons, spec_cons, enumer_cons, decl_cons, declarator_cons, param_cons, init_cons}
use Rattle.c_grammar.proofs.Leading.{Builds, leads_more, leads_end, leads_fail}
use Rattle.c_grammar.proofs.ExprSteps.{listing, listing_found, led_on, led_end, led_fails}
use Rattle.c_grammar.proofs.DeclSteps.{params_of, inits_of, decls_on, decls_end, decls_fail, declarators_on, declarators_end, declarators_fail, param_list_found, params_on, params_stop, params_fail, list_found, inits_on, inits_end, inits_fail}
use Rattle.c_grammar.proofs.TypeSteps.{consts_on, consts_end, one_length, lengths_on, lengths_end, lengths_fail, lengths_deep, stars_on, stars_end, stars_deep, structure, enumeration, specs_word, specs_struct, specs_struct_fails, specs_enum, specs_enum_fails, specs_end, value, enumerators, enumer_on, enumer_nameless, enumer_fails, enumers_on, enumers_end}

-- HEIGHTS

pub nodes_higher : (l : List Node) (a : Node) → nodes_height (node_list (l ++ a ∷ [])) ≡ max (nodes_height (node_list l)) (height (node_shape a))
nodes_higher [] a = omega arith
nodes_higher (b ∷ l) a = ap (max (height (node_shape b))) (nodes_higher l a) ∙ omega arith

pub chains_longer : (l : List Node) (a : Node) → nodes_chain (node_list (l ++ a ∷ [])) ≡ max (nodes_chain (node_list l)) (chain (node_shape a))
chains_longer [] a = omega arith
chains_longer (b ∷ l) a = ap (max (chain (node_shape b))) (chains_longer l a) ∙ omega arith

pub lengths_higher : (l : List (Option Node)) (a : Option Node) → lengths_height (lengths_list (l ++ a ∷ [])) ≡ max (lengths_height (lengths_list l)) (length l + suc (maybe_height (maybe_node a)))
lengths_higher [] a = omega arith
lengths_higher (b ∷ l) a = ap (λ h. suc (max (maybe_height (maybe_node b)) h)) (lengths_higher l a) ∙ omega arith

pub type_lengths_higher : (l : List Node) (a : Node) → lengths_height (type_lengths_list (l ++ a ∷ [])) ≡ max (lengths_height (type_lengths_list l)) (length l + suc (height (node_shape a)))
type_lengths_higher [] a = omega arith
type_lengths_higher (b ∷ l) a = ap (λ h. suc (max (height (node_shape b)) h)) (type_lengths_higher l a) ∙ omega arith

pub specs_higher : (l : List Spec) (a : Spec) → specs_height (spec_list (l ++ a ∷ [])) ≡ max (specs_height (spec_list l)) (spec_height (spec_shape a.form))
specs_higher [] a = omega arith
specs_higher (b ∷ l) a = ap (max (spec_height (spec_shape b.form))) (specs_higher l a) ∙ omega arith

pub enumers_higher : (l : List Enumer) (a : Enumer) → enumers_height (enumer_list (l ++ a ∷ [])) ≡ max (enumers_height (enumer_list l)) (maybe_height (maybe_node (out-Enumer a).value))
enumers_higher [] a = omega arith
enumers_higher (b ∷ l) a = ap (max (maybe_height (maybe_node (out-Enumer b).value))) (enumers_higher l a) ∙ omega arith

pub decls_higher : (l : List Decl) (a : Decl) → decls_height (decl_list (l ++ a ∷ [])) ≡ max (decls_height (decl_list l)) (decl_height (decl_shape a))
decls_higher [] a = omega arith
decls_higher (b ∷ l) a = ap (max (decl_height (decl_shape b))) (decls_higher l a) ∙ omega arith

pub declarators_higher : (l : List Declarator) (a : Declarator) → declarators_height (declarator_list (l ++ a ∷ [])) ≡ max (declarators_height (declarator_list l)) (declarator_height (declarator_shape a))
declarators_higher [] a = omega arith
declarators_higher (b ∷ l) a = ap (max (declarator_height (declarator_shape b))) (declarators_higher l a) ∙ omega arith

pub params_higher : (l : List Param) (a : Param) → decls_height (param_list (l ++ a ∷ [])) ≡ max (decls_height (param_list l)) (decl_height (param_shape a))
params_higher [] a = omega arith
params_higher (b ∷ l) a = ap (max (decl_height (param_shape b))) (params_higher l a) ∙ omega arith

pub inits_higher : (l : List Init) (a : Init) → inits_height (init_list (l ++ a ∷ [])) ≡ max (inits_height (init_list l)) (init_height (init_shape a))
inits_higher [] a = omega arith
inits_higher (b ∷ l) a = ap (max (init_height (init_shape b))) (inits_higher l a) ∙ omega arith

-- EXPRESSIONS

node_builds : Builds node_cons no_nodes node_list
node_builds = record { empty = refl; more = λ a l. refl }

pub led_start : (n d g : ℕ) (ts : List Token) → LedFrom n d g (reads_led n d g) [] ts ts
led_start n d g ts = record { on = λ z p. p }

pub listing_start : (n d g : ℕ) (a : Node) (ts x : List Token) → Finds (reads n d g) ts (Some (node_shape a, x)) → LedFrom n d g (listing n d g) (a ∷ []) ts x
listing_start n d g a ts x p = record { on = λ z q. listing_found n d g (node_shape a) ts x z p q }

at_led_more : (n d g : ℕ) (R : ℕ → List Token → Got NodeShapes) (l : List Node) (a : Node) (ts rest r x : List Token) → LedFrom n d g R l ts rest → after marks.Comma rest ≡ Some r → Finds (reads n d g) r (Some (node_shape a, x)) → LedFrom n d g R (l ++ a ∷ []) ts x
at_led_more n d g R l a ts rest r x p e q = leads_more node_cons R (reads_led n d g) (reads_led n d g) l a ts rest x p (λ z h. led_on n d g (node_shape a) rest r x z e q h)

pub led_more : (l' : List Node) (n d g : ℕ) (R : ℕ → List Token → Got NodeShapes) (l : List Node) (a : Node) (ts rest r x : List Token) → LedFrom n d g R l ts rest → after marks.Comma rest ≡ Some r → Finds (reads n d g) r (Some (node_shape a, x)) → l' ≡ l ++ a ∷ [] → LedFrom n d g R l' ts x
led_more l' n d g R l a ts rest r x p e q same = subst (λ l'. LedFrom n d g R l' ts x) (sym same) (at_led_more n d g R l a ts rest r x p e q)

pub led_done : (n d g : ℕ) (R : ℕ → List Token → Got NodeShapes) (l : List Node) (ts rest : List Token) → LedFrom n d g R l ts rest → after marks.Comma rest ≡ None → Finds R ts (Some (node_list l, rest))
led_done n d g R l ts rest p e = leads_end node_cons no_nodes node_list node_builds R (reads_led n d g) l ts rest rest p (led_end n d g rest e)

pub led_failed : (n d g : ℕ) (R : ℕ → List Token → Got NodeShapes) (l : List Node) (ts rest r : List Token) → LedFrom n d g R l ts rest → after marks.Comma rest ≡ Some r → Finds (reads n d g) r None → Finds R ts None
led_failed n d g R l ts rest r p e q = leads_fail node_cons R (reads_led n d g) l ts rest p (led_fails n d g rest r e q)

-- ARRAY LENGTHS

length_builds : Builds length_cons no_lengths lengths_list
length_builds = record { empty = refl; more = λ a l. refl }

type_length_builds : Builds type_length_cons no_lengths type_lengths_list
type_length_builds = record { empty = refl; more = λ a l. refl }

abbrev pub LengthsFrom : Bool → ℕ → ℕ → List (Option Node) → List Token → List Token → Type 0
LengthsFrom free d g l ts rest = Leads length_cons (reads_lengths free d g) (reads_lengths free (length l + d) g) l ts rest

abbrev pub TypeLengthsFrom : ℕ → ℕ → List Node → List Token → List Token → Type 0
TypeLengthsFrom d g l ts rest = Leads type_length_cons (reads_lengths false d g) (reads_lengths false (length l + d) g) l ts rest

one_longer : {A : Type 0} (l : List A) (a : A) (d : ℕ) → suc (length l + d) ≡ length (l ++ a ∷ []) + d
one_longer l a d = omega (arith, length-append l (a ∷ []))

at_lengths_more : (free : Bool) (d g : ℕ) (l : List (Option Node)) (a : Option Node) (ts rest r x : List Token) → LengthsFrom free d g l ts rest → after marks.LeftBracket rest ≡ Some r → length l + d < 400 → Finds (one_length free (length l + d) g) r (Some (maybe_node a, x)) → LengthsFrom free d g (l ++ a ∷ []) ts x
at_lengths_more free d g l a ts rest r x p e low q =
    leads_more length_cons (reads_lengths free d g) (reads_lengths free (length l + d) g) (reads_lengths free (length (l ++ a ∷ []) + d) g) l a ts rest x p (λ z h.
    lengths_on free (length l + d) g (maybe_node a) rest r x z e low q (subst (λ n. Finds (reads_lengths free n g) x z) (sym (one_longer l a d)) h))

pub lengths_more : (l' : List (Option Node)) (free : Bool) (d g : ℕ) (l : List (Option Node)) (a : Option Node) (ts rest r x : List Token) → LengthsFrom free d g l ts rest → after marks.LeftBracket rest ≡ Some r → length l + d < 400 → Finds (one_length free (length l + d) g) r (Some (maybe_node a, x)) → l' ≡ l ++ a ∷ [] → LengthsFrom free d g l' ts x
lengths_more l' free d g l a ts rest r x p e low q same = subst (λ l'. LengthsFrom free d g l' ts x) (sym same) (at_lengths_more free d g l a ts rest r x p e low q)

pub lengths_done : (free : Bool) (d g : ℕ) (l : List (Option Node)) (ts rest : List Token) → LengthsFrom free d g l ts rest → after marks.LeftBracket rest ≡ None → Finds (reads_lengths free d g) ts (Some (lengths_list l, rest))
lengths_done free d g l ts rest p e = leads_end length_cons no_lengths lengths_list length_builds (reads_lengths free d g) (reads_lengths free (length l + d) g) l ts rest rest p (lengths_end free (length l + d) g rest e)

pub lengths_failed : (free : Bool) (d g : ℕ) (l : List (Option Node)) (ts rest r : List Token) → LengthsFrom free d g l ts rest → after marks.LeftBracket rest ≡ Some r → length l + d < 400 → Finds (one_length free (length l + d) g) r None → Finds (reads_lengths free d g) ts None
lengths_failed free d g l ts rest r p e low q = leads_fail length_cons (reads_lengths free d g) (reads_lengths free (length l + d) g) l ts rest p (lengths_fail free (length l + d) g rest r e low q)

pub lengths_too_deep : (free : Bool) (d g : ℕ) (l : List (Option Node)) (ts rest r : List Token) → LengthsFrom free d g l ts rest → after marks.LeftBracket rest ≡ Some r → 400 ≤ length l + d → Finds (reads_lengths free d g) ts None
lengths_too_deep free d g l ts rest r p e high = leads_fail length_cons (reads_lengths free d g) (reads_lengths free (length l + d) g) l ts rest p (lengths_deep free (length l + d) g rest r e high)

at_type_lengths_more : (d g : ℕ) (l : List Node) (a : Node) (ts rest r x : List Token) → TypeLengthsFrom d g l ts rest → after marks.LeftBracket rest ≡ Some r → length l + d < 400 → Finds (one_length false (length l + d) g) r (Some (one_node (node_shape a), x)) → TypeLengthsFrom d g (l ++ a ∷ []) ts x
at_type_lengths_more d g l a ts rest r x p e low q =
    leads_more type_length_cons (reads_lengths false d g) (reads_lengths false (length l + d) g) (reads_lengths false (length (l ++ a ∷ []) + d) g) l a ts rest x p (λ z h.
    lengths_on false (length l + d) g (one_node (node_shape a)) rest r x z e low q (subst (λ n. Finds (reads_lengths false n g) x z) (sym (one_longer l a d)) h))

pub type_lengths_more : (l' : List Node) (d g : ℕ) (l : List Node) (a : Node) (ts rest r x : List Token) → TypeLengthsFrom d g l ts rest → after marks.LeftBracket rest ≡ Some r → length l + d < 400 → Finds (one_length false (length l + d) g) r (Some (one_node (node_shape a), x)) → l' ≡ l ++ a ∷ [] → TypeLengthsFrom d g l' ts x
type_lengths_more l' d g l a ts rest r x p e low q same = subst (λ l'. TypeLengthsFrom d g l' ts x) (sym same) (at_type_lengths_more d g l a ts rest r x p e low q)

pub type_lengths_done : (d g : ℕ) (l : List Node) (ts rest : List Token) → TypeLengthsFrom d g l ts rest → after marks.LeftBracket rest ≡ None → Finds (reads_lengths false d g) ts (Some (type_lengths_list l, rest))
type_lengths_done d g l ts rest p e = leads_end type_length_cons no_lengths type_lengths_list type_length_builds (reads_lengths false d g) (reads_lengths false (length l + d) g) l ts rest rest p (lengths_end false (length l + d) g rest e)

pub type_lengths_failed : (d g : ℕ) (l : List Node) (ts rest r : List Token) → TypeLengthsFrom d g l ts rest → after marks.LeftBracket rest ≡ Some r → length l + d < 400 → Finds (one_length false (length l + d) g) r None → Finds (reads_lengths false d g) ts None
type_lengths_failed d g l ts rest r p e low q = leads_fail type_length_cons (reads_lengths false d g) (reads_lengths false (length l + d) g) l ts rest p (lengths_fail false (length l + d) g rest r e low q)

pub type_lengths_too_deep : (d g : ℕ) (l : List Node) (ts rest r : List Token) → TypeLengthsFrom d g l ts rest → after marks.LeftBracket rest ≡ Some r → 400 ≤ length l + d → Finds (reads_lengths false d g) ts None
type_lengths_too_deep d g l ts rest r p e high = leads_fail type_length_cons (reads_lengths false d g) (reads_lengths false (length l + d) g) l ts rest p (lengths_deep false (length l + d) g rest r e high)

-- STARS

abbrev same_stars : List Star → List Star
same_stars l = l

star_builds : Builds star_cons [] same_stars
star_builds = record { empty = refl; more = λ a l. refl }

abbrev pub StarsFrom : ℕ → List Star → List Token → List Token → Type 0
StarsFrom d l ts rest = Leads star_cons (reads_stars d) (reads_stars (length l + d)) l ts rest

pub stars_more : (l' : List Star) (d : ℕ) (l : List Star) (a : Star) (ts rest r x : List Token) → StarsFrom d l ts rest → after marks.Star rest ≡ Some r → length l + d < 400 → Finds reads_consts r (Some (a.consts, x)) → a.pos ≡ place rest → l' ≡ l ++ a ∷ [] → StarsFrom d l' ts x
stars_more l' d l a ts rest r x p e low q at' same =
    subst (λ l'. StarsFrom d l' ts x) (sym same) (leads_more star_cons (reads_stars d) (reads_stars (length l + d)) (reads_stars (length (l ++ a ∷ []) + d)) l a ts rest x p (λ z h.
    subst (λ w. Finds (reads_stars (length l + d)) rest (then_go z (λ s y. got (record { pos = w; consts = a.consts } ∷ s) y))) (sym at') (stars_on (length l + d) a.consts rest r x z e low q (subst (λ m. Finds (reads_stars m) x z) (sym (one_longer l a d)) h))))

pub stars_done : (d : ℕ) (l : List Star) (ts rest : List Token) → StarsFrom d l ts rest → after marks.Star rest ≡ None → Finds (reads_stars d) ts (Some (l, rest))
stars_done d l ts rest p e = leads_end star_cons [] same_stars star_builds (reads_stars d) (reads_stars (length l + d)) l ts rest rest p (stars_end (length l + d) rest e)

pub stars_too_deep : (d : ℕ) (l : List Star) (ts rest r : List Token) → StarsFrom d l ts rest → after marks.Star rest ≡ Some r → 400 ≤ length l + d → Finds (reads_stars d) ts None
stars_too_deep d l ts rest r p e high = leads_fail star_cons (reads_stars d) (reads_stars (length l + d)) l ts rest p (stars_deep (length l + d) rest r e high)

-- SPECIFIERS

spec_builds : Builds spec_cons no_specs spec_list
spec_builds = record { empty = refl; more = λ a l. refl }

abbrev pub SpecsFrom : ℕ → ℕ → List Spec → List Token → List Token → Type 0
SpecsFrom d g l ts rest = Leads spec_cons (reads_specs d g) (reads_specs d g) l ts rest

at_specs_more_word : (d g : ℕ) (l : List Spec) (a : Spec) (x : Key) (ts rest r : List Token) → SpecsFrom d g l ts rest → spec_head rest ≡ a_spec_word x r → a.pos ≡ place rest → spec_shape a.form ≡ word x → SpecsFrom d g (l ++ a ∷ []) ts r
at_specs_more_word d g l a x ts rest r p e at' same =
    leads_more spec_cons (reads_specs d g) (reads_specs d g) (reads_specs d g) l a ts rest r p (λ z h.
    subst (λ q. Finds (reads_specs d g) rest (then_go z (λ s y. got (more_specs q (spec_shape a.form) s) y))) (sym at') (subst (λ q. Finds (reads_specs d g) rest (then_go z (λ s y. got (more_specs (place rest) q s) y))) (sym same) (specs_word d g rest r x z e h)))

pub specs_more_word : (l' : List Spec) (d g : ℕ) (l : List Spec) (a : Spec) (x : Key) (ts rest r : List Token) → SpecsFrom d g l ts rest → spec_head rest ≡ a_spec_word x r → a.pos ≡ place rest → spec_shape a.form ≡ word x → l' ≡ l ++ a ∷ [] → SpecsFrom d g l' ts r
specs_more_word l' d g l a x ts rest r p e at' alike same = subst (λ l'. SpecsFrom d g l' ts r) (sym same) (at_specs_more_word d g l a x ts rest r p e at' alike)

at_specs_more_struct : (d g : ℕ) (l : List Spec) (a : Spec) (ts rest r x : List Token) → SpecsFrom d g l ts rest → spec_head rest ≡ a_struct r → a.pos ≡ place rest → Finds (structure d g) r (Some (spec_shape a.form, x)) → SpecsFrom d g (l ++ a ∷ []) ts x
at_specs_more_struct d g l a ts rest r x p e at' q =
    leads_more spec_cons (reads_specs d g) (reads_specs d g) (reads_specs d g) l a ts rest x p (λ z h.
    subst (λ w. Finds (reads_specs d g) rest (then_go z (λ s y. got (more_specs w (spec_shape a.form) s) y))) (sym at') (specs_struct d g rest r x (spec_shape a.form) z e q h))

pub specs_more_struct : (l' : List Spec) (d g : ℕ) (l : List Spec) (a : Spec) (ts rest r x : List Token) → SpecsFrom d g l ts rest → spec_head rest ≡ a_struct r → a.pos ≡ place rest → Finds (structure d g) r (Some (spec_shape a.form, x)) → l' ≡ l ++ a ∷ [] → SpecsFrom d g l' ts x
specs_more_struct l' d g l a ts rest r x p e at' q same = subst (λ l'. SpecsFrom d g l' ts x) (sym same) (at_specs_more_struct d g l a ts rest r x p e at' q)

at_specs_more_enum : (d g : ℕ) (l : List Spec) (a : Spec) (ts rest r x : List Token) → SpecsFrom d g l ts rest → spec_head rest ≡ an_enum r → a.pos ≡ place rest → Finds (enumeration d g) r (Some (spec_shape a.form, x)) → SpecsFrom d g (l ++ a ∷ []) ts x
at_specs_more_enum d g l a ts rest r x p e at' q =
    leads_more spec_cons (reads_specs d g) (reads_specs d g) (reads_specs d g) l a ts rest x p (λ z h.
    subst (λ w. Finds (reads_specs d g) rest (then_go z (λ s y. got (more_specs w (spec_shape a.form) s) y))) (sym at') (specs_enum d g rest r x (spec_shape a.form) z e q h))

pub specs_more_enum : (l' : List Spec) (d g : ℕ) (l : List Spec) (a : Spec) (ts rest r x : List Token) → SpecsFrom d g l ts rest → spec_head rest ≡ an_enum r → a.pos ≡ place rest → Finds (enumeration d g) r (Some (spec_shape a.form, x)) → l' ≡ l ++ a ∷ [] → SpecsFrom d g l' ts x
specs_more_enum l' d g l a ts rest r x p e at' q same = subst (λ l'. SpecsFrom d g l' ts x) (sym same) (at_specs_more_enum d g l a ts rest r x p e at' q)

pub specs_done : (d g : ℕ) (l : List Spec) (ts rest : List Token) → SpecsFrom d g l ts rest → spec_head rest ≡ no_spec → Finds (reads_specs d g) ts (Some (spec_list l, rest))
specs_done d g l ts rest p e = leads_end spec_cons no_specs spec_list spec_builds (reads_specs d g) (reads_specs d g) l ts rest rest p (specs_end d g rest e)

pub specs_struct_failed : (d g : ℕ) (l : List Spec) (ts rest r : List Token) → SpecsFrom d g l ts rest → spec_head rest ≡ a_struct r → Finds (structure d g) r None → Finds (reads_specs d g) ts None
specs_struct_failed d g l ts rest r p e q = leads_fail spec_cons (reads_specs d g) (reads_specs d g) l ts rest p (specs_struct_fails d g rest r e q)

pub specs_enum_failed : (d g : ℕ) (l : List Spec) (ts rest r : List Token) → SpecsFrom d g l ts rest → spec_head rest ≡ an_enum r → Finds (enumeration d g) r None → Finds (reads_specs d g) ts None
specs_enum_failed d g l ts rest r p e q = leads_fail spec_cons (reads_specs d g) (reads_specs d g) l ts rest p (specs_enum_fails d g rest r e q)

-- ENUMERATORS

enumer_builds : Builds enumer_cons no_enumers enumer_list
enumer_builds = record { empty = refl; more = λ a l. refl }

-- behind some enumerators, either at the start or behind a comma
abbrev pub EnumersFrom : ℕ → ℕ → (ℕ → List Token → Got EnumerShapes) → List Enumer → List Token → List Token → Type 0
EnumersFrom d g R l ts rest = Leads enumer_cons (enumerators d g) R l ts rest

pub enumers_start : (d g : ℕ) (ts : List Token) → EnumersFrom d g (enumerators d g) [] ts ts
enumers_start d g ts = record { on = λ z p. p }

pub enumers_comma : (d g : ℕ) (l : List Enumer) (ts rest r : List Token) → EnumersFrom d g (reads_enumers d g) l ts rest → after marks.Comma rest ≡ Some r → EnumersFrom d g (enumerators d g) l ts r
enumers_comma d g l ts rest r p e = record { on = λ z h. p.on z (enumers_on d g rest r z e h) }

at_enumers_more : (d g : ℕ) (l : List Enumer) (a : Enumer) (x : Text) (ts rest r y : List Token) → EnumersFrom d g (enumerators d g) l ts rest → a_word rest ≡ Some (x, r) → Finds (value d g) r (Some (maybe_node (out-Enumer a).value, y)) → (out-Enumer a).name ≡ plain_name (place rest) x → EnumersFrom d g (reads_enumers d g) (l ++ a ∷ []) ts y
at_enumers_more d g l a x ts rest r y p e q same =
    leads_more enumer_cons (enumerators d g) (enumerators d g) (reads_enumers d g) l a ts rest y p (λ z h.
    subst (λ n. Finds (enumerators d g) rest (then_go z (λ s w. got (more_enumers n (maybe_node (out-Enumer a).value) s) w))) (sym same) (enumer_on d g rest r y x (maybe_node (out-Enumer a).value) z e q h))

pub enumers_more : (l' : List Enumer) (d g : ℕ) (l : List Enumer) (a : Enumer) (x : Text) (ts rest r y : List Token) → EnumersFrom d g (enumerators d g) l ts rest → a_word rest ≡ Some (x, r) → Finds (value d g) r (Some (maybe_node (out-Enumer a).value, y)) → (out-Enumer a).name ≡ plain_name (place rest) x → l' ≡ l ++ a ∷ [] → EnumersFrom d g (reads_enumers d g) l' ts y
enumers_more l' d g l a x ts rest r y p e q alike same = subst (λ l'. EnumersFrom d g (reads_enumers d g) l' ts y) (sym same) (at_enumers_more d g l a x ts rest r y p e q alike)

pub enumers_done : (d g : ℕ) (l : List Enumer) (ts rest : List Token) → EnumersFrom d g (reads_enumers d g) l ts rest → after marks.Comma rest ≡ None → Finds (enumerators d g) ts (Some (enumer_list l, rest))
enumers_done d g l ts rest p e = leads_end enumer_cons no_enumers enumer_list enumer_builds (enumerators d g) (reads_enumers d g) l ts rest rest p (enumers_end d g rest e)

-- DECLARATIONS AND DECLARATORS

decl_builds : Builds decl_cons no_decls decl_list
decl_builds = record { empty = refl; more = λ a l. refl }

abbrev pub DeclsFrom : Standing → ℕ → ℕ → List Decl → List Token → List Token → Type 0
DeclsFrom s d g l ts rest = Leads decl_cons (reads_decls s d g) (reads_decls s d g) l ts rest

at_decls_more : (s : Standing) (d g : ℕ) (l : List Decl) (a : Decl) (ts rest x : List Token) → DeclsFrom s d g l ts rest → is_spec (spec_head rest) ≡ true → Finds (reads_decl s d g) rest (Some (decl_shape a, x)) → DeclsFrom s d g (l ++ a ∷ []) ts x
at_decls_more s d g l a ts rest x p e q = leads_more decl_cons (reads_decls s d g) (reads_decls s d g) (reads_decls s d g) l a ts rest x p (λ z h. decls_on s d g (decl_shape a) rest x z e q h)

pub decls_more : (l' : List Decl) (s : Standing) (d g : ℕ) (l : List Decl) (a : Decl) (ts rest x : List Token) → DeclsFrom s d g l ts rest → is_spec (spec_head rest) ≡ true → Finds (reads_decl s d g) rest (Some (decl_shape a, x)) → l' ≡ l ++ a ∷ [] → DeclsFrom s d g l' ts x
decls_more l' s d g l a ts rest x p e q same = subst (λ l'. DeclsFrom s d g l' ts x) (sym same) (at_decls_more s d g l a ts rest x p e q)

pub decls_done : (s : Standing) (d g : ℕ) (l : List Decl) (ts rest : List Token) → DeclsFrom s d g l ts rest → is_spec (spec_head rest) ≡ false → Finds (reads_decls s d g) ts (Some (decl_list l, rest))
decls_done s d g l ts rest p e = leads_end decl_cons no_decls decl_list decl_builds (reads_decls s d g) (reads_decls s d g) l ts rest rest p (decls_end s d g rest e)

pub decls_failed : (s : Standing) (d g : ℕ) (l : List Decl) (ts rest : List Token) → DeclsFrom s d g l ts rest → is_spec (spec_head rest) ≡ true → Finds (reads_decl s d g) rest None → Finds (reads_decls s d g) ts None
decls_failed s d g l ts rest p e q = leads_fail decl_cons (reads_decls s d g) (reads_decls s d g) l ts rest p (decls_fail s d g rest e q)

declarator_builds : Builds declarator_cons no_declarators declarator_list
declarator_builds = record { empty = refl; more = λ a l. refl }

abbrev pub DeclaratorsFrom : Standing → ℕ → ℕ → List Declarator → List Token → List Token → Type 0
DeclaratorsFrom s d g l ts rest = Leads declarator_cons (reads_declarators s d g) (reads_declarators s d g) l ts rest

at_declarators_more : (s : Standing) (d g : ℕ) (l : List Declarator) (a : Declarator) (ts rest r x : List Token) → DeclaratorsFrom s d g l ts rest → after marks.Comma rest ≡ Some r → Finds (reads_declarator s d g) r (Some (declarator_shape a, x)) → DeclaratorsFrom s d g (l ++ a ∷ []) ts x
at_declarators_more s d g l a ts rest r x p e q = leads_more declarator_cons (reads_declarators s d g) (reads_declarators s d g) (reads_declarators s d g) l a ts rest x p (λ z h. declarators_on s d g (declarator_shape a) rest r x z e q h)

pub declarators_more : (l' : List Declarator) (s : Standing) (d g : ℕ) (l : List Declarator) (a : Declarator) (ts rest r x : List Token) → DeclaratorsFrom s d g l ts rest → after marks.Comma rest ≡ Some r → Finds (reads_declarator s d g) r (Some (declarator_shape a, x)) → l' ≡ l ++ a ∷ [] → DeclaratorsFrom s d g l' ts x
declarators_more l' s d g l a ts rest r x p e q same = subst (λ l'. DeclaratorsFrom s d g l' ts x) (sym same) (at_declarators_more s d g l a ts rest r x p e q)

pub declarators_done : (s : Standing) (d g : ℕ) (l : List Declarator) (ts rest : List Token) → DeclaratorsFrom s d g l ts rest → after marks.Comma rest ≡ None → Finds (reads_declarators s d g) ts (Some (declarator_list l, rest))
declarators_done s d g l ts rest p e = leads_end declarator_cons no_declarators declarator_list declarator_builds (reads_declarators s d g) (reads_declarators s d g) l ts rest rest p (declarators_end s d g rest e)

pub declarators_failed : (s : Standing) (d g : ℕ) (l : List Declarator) (ts rest r : List Token) → DeclaratorsFrom s d g l ts rest → after marks.Comma rest ≡ Some r → Finds (reads_declarator s d g) r None → Finds (reads_declarators s d g) ts None
declarators_failed s d g l ts rest r p e q = leads_fail declarator_cons (reads_declarators s d g) (reads_declarators s d g) l ts rest p (declarators_fail s d g rest r e q)

-- PARAMETERS

param_builds : Builds param_cons no_decls param_list
param_builds = record { empty = refl; more = λ a l. refl }

abbrev pub ParamsFrom : ℕ → ℕ → List Param → List Token → List Token → Type 0
ParamsFrom d g l ts rest = Leads param_cons (params_of d g) (reads_params d g) l ts rest

pub params_start : (d g : ℕ) (a : Param) (ts x : List Token) → Finds (reads_param d g) ts (Some (param_shape a, x)) → ParamsFrom d g (a ∷ []) ts x
params_start d g a ts x p = record { on = λ z q. param_list_found d g (param_shape a) ts x z p q }

at_params_more : (d g : ℕ) (l : List Param) (a : Param) (ts rest r x : List Token) → ParamsFrom d g l ts rest → after marks.Comma rest ≡ Some r → Finds (reads_param d g) r (Some (param_shape a, x)) → ParamsFrom d g (l ++ a ∷ []) ts x
at_params_more d g l a ts rest r x p e q = leads_more param_cons (params_of d g) (reads_params d g) (reads_params d g) l a ts rest x p (λ z h. params_on d g (param_shape a) rest r x z e q h)

pub params_more : (l' : List Param) (d g : ℕ) (l : List Param) (a : Param) (ts rest r x : List Token) → ParamsFrom d g l ts rest → after marks.Comma rest ≡ Some r → Finds (reads_param d g) r (Some (param_shape a, x)) → l' ≡ l ++ a ∷ [] → ParamsFrom d g l' ts x
params_more l' d g l a ts rest r x p e q same = subst (λ l'. ParamsFrom d g l' ts x) (sym same) (at_params_more d g l a ts rest r x p e q)

pub params_done : (d g : ℕ) (l : List Param) (ts rest : List Token) → ParamsFrom d g l ts rest → after marks.Comma rest ≡ None → Finds (params_of d g) ts (Some (param_list l, rest))
params_done d g l ts rest p e = leads_end param_cons no_decls param_list param_builds (params_of d g) (reads_params d g) l ts rest rest p (params_stop d g rest e)

pub params_failed : (d g : ℕ) (l : List Param) (ts rest r : List Token) → ParamsFrom d g l ts rest → after marks.Comma rest ≡ Some r → Finds (reads_param d g) r None → Finds (params_of d g) ts None
params_failed d g l ts rest r p e q = leads_fail param_cons (params_of d g) (reads_params d g) l ts rest p (params_fail d g rest r e q)

-- INITIALISERS

init_builds : Builds init_cons no_inits init_list
init_builds = record { empty = refl; more = λ a l. refl }

abbrev pub InitsFrom : ℕ → ℕ → List Init → List Token → List Token → Type 0
InitsFrom d g l ts rest = Leads init_cons (inits_of d g) (reads_inits (suc d) g) l ts rest

pub inits_start : (d g : ℕ) (a : Init) (ts x : List Token) → Finds (reads_init (suc d) g) ts (Some (init_shape a, x)) → InitsFrom d g (a ∷ []) ts x
inits_start d g a ts x p = record { on = λ z q. list_found d g (init_shape a) ts x z p q }

at_inits_more : (d g : ℕ) (l : List Init) (a : Init) (ts rest r x : List Token) → InitsFrom d g l ts rest → further rest ≡ Some r → Finds (reads_init (suc d) g) r (Some (init_shape a, x)) → InitsFrom d g (l ++ a ∷ []) ts x
at_inits_more d g l a ts rest r x p e q = leads_more init_cons (inits_of d g) (reads_inits (suc d) g) (reads_inits (suc d) g) l a ts rest x p (λ z h. inits_on (suc d) g (init_shape a) rest r x z e q h)

pub inits_more : (l' : List Init) (d g : ℕ) (l : List Init) (a : Init) (ts rest r x : List Token) → InitsFrom d g l ts rest → further rest ≡ Some r → Finds (reads_init (suc d) g) r (Some (init_shape a, x)) → l' ≡ l ++ a ∷ [] → InitsFrom d g l' ts x
inits_more l' d g l a ts rest r x p e q same = subst (λ l'. InitsFrom d g l' ts x) (sym same) (at_inits_more d g l a ts rest r x p e q)

pub inits_done : (d g : ℕ) (l : List Init) (ts rest : List Token) → InitsFrom d g l ts rest → further rest ≡ None → Finds (inits_of d g) ts (Some (init_list l, rest))
inits_done d g l ts rest p e = leads_end init_cons no_inits init_list init_builds (inits_of d g) (reads_inits (suc d) g) l ts rest rest p (inits_end (suc d) g rest e)

pub inits_failed : (d g : ℕ) (l : List Init) (ts rest r : List Token) → InitsFrom d g l ts rest → further rest ≡ Some r → Finds (reads_init (suc d) g) r None → Finds (inits_of d g) ts None
inits_failed d g l ts rest r p e q = leads_fail init_cons (inits_of d g) (reads_inits (suc d) g) l ts rest p (inits_fail (suc d) g rest r e q)

-- LISTS OF WHICH NOTHING IS READ YET

none_longer : (d : ℕ) → d ≡ 0 + d
none_longer d = omega arith

pub lengths_start : (free : Bool) (d g : ℕ) (ts : List Token) → LengthsFrom free d g [] ts ts
lengths_start free d g ts = record { on = λ z p. subst (λ n. Finds (reads_lengths free n g) ts z) (sym (none_longer d)) p }

pub type_lengths_start : (d g : ℕ) (ts : List Token) → TypeLengthsFrom d g [] ts ts
type_lengths_start d g ts = record { on = λ z p. subst (λ n. Finds (reads_lengths false n g) ts z) (sym (none_longer d)) p }

pub stars_start : (d : ℕ) (ts : List Token) → StarsFrom d [] ts ts
stars_start d ts = record { on = λ z p. subst (λ n. Finds (reads_stars n) ts z) (sym (none_longer d)) p }

pub specs_start : (d g : ℕ) (ts : List Token) → SpecsFrom d g [] ts ts
specs_start d g ts = record { on = λ z p. p }

pub decls_start : (s : Standing) (d g : ℕ) (ts : List Token) → DeclsFrom s d g [] ts ts
decls_start s d g ts = record { on = λ z p. p }

pub declarators_start : (s : Standing) (d g : ℕ) (ts : List Token) → DeclaratorsFrom s d g [] ts ts
declarators_start s d g ts = record { on = λ z p. p }

-- CONSTS

pub record ConstsFrom (n : ℕ) (ts rest : List Token) : Type 0 where
  pub on : (m : ℕ) (x : List Token) → Finds reads_consts rest (got m x) → Finds reads_consts ts (got (n + m) x)

pub consts_start : (ts : List Token) → ConstsFrom 0 ts ts
consts_start ts = record { on = λ m x p. subst (λ n. Finds reads_consts ts (got n x)) (none_longer m) p }

pub consts_more : (n : ℕ) (ts rest r : List Token) → ConstsFrom n ts rest → after_key keys.Const rest ≡ Some r → ConstsFrom (n + 1) ts r
consts_more n ts rest r c e = record { on = λ m x p. subst (λ q. Finds reads_consts ts (got q x)) (let h : n + suc m ≡ (n + 1) + m = omega arith in h) (c.on (suc m) x (consts_on rest r (got m x) e p)) }

pub consts_done : (n : ℕ) (ts rest : List Token) → ConstsFrom n ts rest → after_key keys.Const rest ≡ None → Finds reads_consts ts (Some (n, rest))
consts_done n ts rest c e = subst (λ q. Finds reads_consts ts (got q rest)) (let h : n + 0 ≡ n = omega arith in h) (c.on 0 rest (consts_end rest e))

pub one_item_more : {A : Type 0} (l' l : List A) (a : A) → l' ≡ l ++ a ∷ [] → length l' ≡ length l + 1
one_item_more l' l a same = ap length same ∙ length-append l (a ∷ [])

-- HEIGHTS OF A LIST WITH ONE ITEM MORE

pub nodes_now : (l' l : List Node) (a : Node) (h k : ℕ) → h ≡ nodes_height (node_list l) → k ≡ height (node_shape a) → l' ≡ l ++ a ∷ [] → max h k ≡ nodes_height (node_list l')
nodes_now l' l a h k p q same = omega (arith, p, q, nodes_higher l a, ap (λ z. nodes_height (node_list z)) same)

pub chains_now : (l' l : List Node) (a : Node) (h k : ℕ) → h ≡ nodes_chain (node_list l) → k ≡ chain (node_shape a) → l' ≡ l ++ a ∷ [] → max h k ≡ nodes_chain (node_list l')
chains_now l' l a h k p q same = omega (arith, p, q, chains_longer l a, ap (λ z. nodes_chain (node_list z)) same)

pub lengths_now : (l' l : List (Option Node)) (a : Option Node) (h k n : ℕ) → h ≡ lengths_height (lengths_list l) → k ≡ maybe_height (maybe_node a) → n ≡ length l → l' ≡ l ++ a ∷ [] → max h (n + 1 + k) ≡ lengths_height (lengths_list l')
lengths_now l' l a h k n p q r same = omega (arith, p, q, r, lengths_higher l a, ap (λ z. lengths_height (lengths_list z)) same)

pub type_lengths_now : (l' l : List Node) (a : Node) (h k n : ℕ) → h ≡ lengths_height (type_lengths_list l) → k ≡ height (node_shape a) → n ≡ length l → l' ≡ l ++ a ∷ [] → max h (n + 1 + k) ≡ lengths_height (type_lengths_list l')
type_lengths_now l' l a h k n p q r same = omega (arith, p, q, r, type_lengths_higher l a, ap (λ z. lengths_height (type_lengths_list z)) same)

pub specs_now : (l' l : List Spec) (a : Spec) (h k : ℕ) → h ≡ specs_height (spec_list l) → k ≡ spec_height (spec_shape a.form) → l' ≡ l ++ a ∷ [] → max h k ≡ specs_height (spec_list l')
specs_now l' l a h k p q same = omega (arith, p, q, specs_higher l a, ap (λ z. specs_height (spec_list z)) same)

pub enumers_now : (l' l : List Enumer) (a : Enumer) (h k : ℕ) → h ≡ enumers_height (enumer_list l) → k ≡ maybe_height (maybe_node (out-Enumer a).value) → l' ≡ l ++ a ∷ [] → max h k ≡ enumers_height (enumer_list l')
enumers_now l' l a h k p q same = omega (arith, p, q, enumers_higher l a, ap (λ z. enumers_height (enumer_list z)) same)

pub decls_now : (l' l : List Decl) (a : Decl) (h k : ℕ) → h ≡ decls_height (decl_list l) → k ≡ decl_height (decl_shape a) → l' ≡ l ++ a ∷ [] → max h k ≡ decls_height (decl_list l')
decls_now l' l a h k p q same = omega (arith, p, q, decls_higher l a, ap (λ z. decls_height (decl_list z)) same)

pub declarators_now : (l' l : List Declarator) (a : Declarator) (h k : ℕ) → h ≡ declarators_height (declarator_list l) → k ≡ declarator_height (declarator_shape a) → l' ≡ l ++ a ∷ [] → max h k ≡ declarators_height (declarator_list l')
declarators_now l' l a h k p q same = omega (arith, p, q, declarators_higher l a, ap (λ z. declarators_height (declarator_list z)) same)

pub params_now : (l' l : List Param) (a : Param) (h k : ℕ) → h ≡ decls_height (param_list l) → k ≡ decl_height (param_shape a) → l' ≡ l ++ a ∷ [] → max h k ≡ decls_height (param_list l')
params_now l' l a h k p q same = omega (arith, p, q, params_higher l a, ap (λ z. decls_height (param_list z)) same)

pub inits_now : (l' l : List Init) (a : Init) (h k : ℕ) → h ≡ inits_height (init_list l) → k ≡ init_height (init_shape a) → l' ≡ l ++ a ∷ [] → max h k ≡ inits_height (init_list l')
inits_now l' l a h k p q same = omega (arith, p, q, inits_higher l a, ap (λ z. inits_height (init_list z)) same)
