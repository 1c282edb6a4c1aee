-- The steps of the reader of declarators, declarations and initialisers: one for each way that reading goes.
pub use Rattle.c_grammar.specs.Parts.{behind, ending, declaring, params_of, inits_of}
use Rattle.std.proofs.Common.{◌≡◌, ℕ, suc, ◌+◌, ◌≤◌, ◌<◌, List, length, Option, Some, None, Bool, true, false, ap, ◌∙◌, arith}
use Rattle.c_base.specs.declared.place.Pos.{Pos}
use Rattle.c_syntax.specs.declared.token.Mark.TheVariants as marks
use Rattle.c_syntax.specs.declared.token.Token.{Token}
use Rattle.c_syntax.specs.declared.tree.Star.{Star}
use Rattle.c_syntax.specs.declared.tree.Named.{Named}
use Rattle.c_syntax.specs.Forms.{place}
use Rattle.c_syntax.specs.Shape.{NodeShape, LengthShapes, SpecShapes, DeclShape, decl, DeclShapes, no_decls, DeclaratorShape, declarator, DeclaratorShapes, no_declarators, more_declarators, DeclFormShape, arrays, function, ParamsShape, empty, void, params, no_init, one_init, InitShape, one, listed, InitShapes, no_inits}
use Rattle.c_syntax.specs.Shaped.{Standing, in_params, name_fits, may_be_open, is_in_names, may_begin}
use Rattle.c_grammar.specs.Look.{Got, got, then_go, either_way, where_true, if_so, Finds, after, wanted, expect}
use Rattle.c_grammar.specs.Starts.{spec_head, is_spec}
use Rattle.c_grammar.specs.Reader.{function_got, arrays_got, declarator_made, declarator_init, declarator_behind, declarator_name, declarator_onto, declarator_more, decl_onto, decl_more, decl_end, decl_first, decl_specs, param_made, param_specs, void_ahead, params_end, init_got, init_onto, init_more, listed_end, further, reads, reads_lengths, reads_specs, reads_decls, reads_declarators, reads_declarator, reads_params, reads_init, reads_inits, reads_some, reads_param, reads_parameters, behinds, reads_decl}
use Rattle.c_grammar.specs.ExprReader.{reads_stars, maybe_named}
use Rattle.c_grammar.proofs.Looking.{find_from}
use Rattle.c_grammar.proofs.ExprSteps.{low_go, high_none, then_found, then_fails}

-- DECLARATORS

abbrev listed_params : Standing → ℕ → ℕ → ℕ → List Token → Got DeclFormShape
listed_params s d g k r = where_true (is_in_names s) (then_go (reads_parameters (suc d) g k r) function_got)

pub behind_arrays : (s : Standing) (d g c : ℕ) (ts x : List Token) (ls : LengthShapes) → after marks.LeftParen ts ≡ None → Finds (reads_lengths (may_be_open s) (c + suc d) g) ts (Some (ls, x)) → Finds (behind s d g c) ts (Some (arrays ls, x))
behind_arrays s d g c ts x ls e p = record { from = p.from; holds = λ k h. ap (λ o. either_way o (listed_params s d g k) (then_go (reads_lengths (may_be_open s) (c + suc d) g k ts) arrays_got)) e ∙ ap (λ f. then_go f arrays_got) (p.holds k h) }

pub behind_arrays_fail : (s : Standing) (d g c : ℕ) (ts : List Token) → after marks.LeftParen ts ≡ None → Finds (reads_lengths (may_be_open s) (c + suc d) g) ts None → Finds (behind s d g c) ts None
behind_arrays_fail s d g c ts e p = record { from = p.from; holds = λ k h. ap (λ o. either_way o (listed_params s d g k) (then_go (reads_lengths (may_be_open s) (c + suc d) g k ts) arrays_got)) e ∙ ap (λ f. then_go f arrays_got) (p.holds k h) }

to_params : (s : Standing) (d g c : ℕ) (ts r : List Token) (z : Got DeclFormShape) → after marks.LeftParen ts ≡ Some r → Finds (listed_params s d g) r z → Finds (behind s d g c) ts z
to_params s d g c ts r z e p = record { from = p.from; holds = λ k h. ap (λ o. either_way o (listed_params s d g k) (then_go (reads_lengths (may_be_open s) (c + suc d) g k ts) arrays_got)) e ∙ p.holds k h }

pub behind_params : (s : Standing) (d g c : ℕ) (ts r x : List Token) (ps : ParamsShape) → after marks.LeftParen ts ≡ Some r → is_in_names s ≡ true → Finds (reads_parameters (suc d) g) r (Some (ps, x)) → Finds (behind s d g c) ts (Some (function ps, x))
behind_params s d g c ts r x ps e b p = to_params s d g c ts r (got (function ps) x) e (record { from = p.from; holds = λ k h. ap (λ b. where_true b (then_go (reads_parameters (suc d) g k r) function_got)) b ∙ ap (λ f. then_go f function_got) (p.holds k h) })

pub behind_params_fail : (s : Standing) (d g c : ℕ) (ts r : List Token) → after marks.LeftParen ts ≡ Some r → is_in_names s ≡ true → Finds (reads_parameters (suc d) g) r None → Finds (behind s d g c) ts None
behind_params_fail s d g c ts r e b p = to_params s d g c ts r None e (record { from = p.from; holds = λ k h. ap (λ b. where_true b (then_go (reads_parameters (suc d) g k r) function_got)) b ∙ ap (λ f. then_go f function_got) (p.holds k h) })

pub behind_no_function : (s : Standing) (d g c : ℕ) (ts r : List Token) → after marks.LeftParen ts ≡ Some r → is_in_names s ≡ false → Finds (behind s d g c) ts None
behind_no_function s d g c ts r e b = to_params s d g c ts r None e (record { from = 0; holds = λ k h. ap (λ b. where_true b (then_go (reads_parameters (suc d) g k r) function_got)) b })

abbrev with_init : Standing → ℕ → ℕ → List Star → Option Named → DeclFormShape → ℕ → List Token → Got DeclaratorShape
with_init s d g ss n f k r = where_true (may_begin s f) (then_go (reads_init (suc d) g k r) (declarator_made ss n f))

pub ending_plain : (s : Standing) (d g : ℕ) (ss : List Star) (n : Option Named) (f : DeclFormShape) (ts : List Token) → after marks.Equal ts ≡ None → Finds (ending s d g ss n f) ts (Some (declarator ss n f no_init, ts))
ending_plain s d g ss n f ts e = record { from = 0; holds = λ k h. ap (λ o. either_way o (with_init s d g ss n f k) (got (declarator ss n f no_init) ts)) e }

to_init : (s : Standing) (d g : ℕ) (ss : List Star) (n : Option Named) (f : DeclFormShape) (ts r : List Token) (z : Got DeclaratorShape) → after marks.Equal ts ≡ Some r → Finds (with_init s d g ss n f) r z → Finds (ending s d g ss n f) ts z
to_init s d g ss n f ts r z e p = record { from = p.from; holds = λ k h. ap (λ o. either_way o (with_init s d g ss n f k) (got (declarator ss n f no_init) ts)) e ∙ p.holds k h }

pub ending_init : (s : Standing) (d g : ℕ) (ss : List Star) (n : Option Named) (f : DeclFormShape) (i : InitShape) (ts r x : List Token) → after marks.Equal ts ≡ Some r → may_begin s f ≡ true → Finds (reads_init (suc d) g) r (Some (i, x)) → Finds (ending s d g ss n f) ts (Some (declarator ss n f (one_init i), x))
ending_init s d g ss n f i ts r x e b p =
    to_init s d g ss n f ts r (got (declarator ss n f (one_init i)) x) e (record { from = p.from; holds = λ k h. ap (λ b. where_true b (then_go (reads_init (suc d) g k r) (declarator_made ss n f))) b ∙ ap (λ q. then_go q (declarator_made ss n f)) (p.holds k h) })

pub ending_fails : (s : Standing) (d g : ℕ) (ss : List Star) (n : Option Named) (f : DeclFormShape) (ts r : List Token) → after marks.Equal ts ≡ Some r → may_begin s f ≡ true → Finds (reads_init (suc d) g) r None → Finds (ending s d g ss n f) ts None
ending_fails s d g ss n f ts r e b p =
    to_init s d g ss n f ts r None e (record { from = p.from; holds = λ k h. ap (λ b. where_true b (then_go (reads_init (suc d) g k r) (declarator_made ss n f))) b ∙ ap (λ q. then_go q (declarator_made ss n f)) (p.holds k h) })

pub ending_no_init : (s : Standing) (d g : ℕ) (ss : List Star) (n : Option Named) (f : DeclFormShape) (ts r : List Token) → after marks.Equal ts ≡ Some r → may_begin s f ≡ false → Finds (ending s d g ss n f) ts None
ending_no_init s d g ss n f ts r e b = to_init s d g ss n f ts r None e (record { from = 0; holds = λ k h. ap (λ b. where_true b (then_go (reads_init (suc d) g k r) (declarator_made ss n f))) b })

pub declarator_deep : (s : Standing) (d g : ℕ) (ts : List Token) → 400 ≤ d → Finds (reads_declarator s d g) ts None
declarator_deep s d g ts high = find_from (reads_declarator s d g) ts None 0 (λ j h. high_none d 400 (then_go (reads_stars (suc d) j ts) (declarator_name s (behinds s d g j))) high)

from_stars : (s : Standing) (d g : ℕ) (ts x : List Token) (ss : List Star) (z : Got DeclaratorShape) → d < 400 → Finds (reads_stars (suc d)) ts (Some (ss, x)) → Finds (λ k l. declarator_name s (behinds s d g k) ss l) x z → Finds (reads_declarator s d g) ts z
from_stars s d g ts x ss z low p q =
    find_from (reads_declarator s d g) ts z (p.from + q.from) (λ j h.
    low_go d 400 (then_go (reads_stars (suc d) j ts) (declarator_name s (behinds s d g j))) low ∙ ap (λ f. then_go f (declarator_name s (behinds s d g j))) (p.holds j (omega (arith, h))) ∙ q.holds j (omega (arith, h)))

pub declarator_stars_fail : (s : Standing) (d g : ℕ) (ts : List Token) → d < 400 → Finds (reads_stars (suc d)) ts None → Finds (reads_declarator s d g) ts None
declarator_stars_fail s d g ts low p =
    find_from (reads_declarator s d g) ts None p.from (λ j h. low_go d 400 (then_go (reads_stars (suc d) j ts) (declarator_name s (behinds s d g j))) low ∙ ap (λ f. then_go f (declarator_name s (behinds s d g j))) (p.holds j h))

pub declarator_found : (s : Standing) (d g : ℕ) (ts x y w : List Token) (ss : List Star) (n : Option Named) (f : DeclFormShape) (z : Got DeclaratorShape) → d < 400 → Finds (reads_stars (suc d)) ts (Some (ss, x)) → maybe_named x ≡ Some (n, y) → name_fits s n ≡ true → Finds (behind s d g (length ss)) y (Some (f, w)) → Finds (ending s d g ss n f) w z → Finds (reads_declarator s d g) ts z
declarator_found s d g ts x y w ss n f z low p e b q r =
    from_stars s d g ts x ss z low p (record {
      from = q.from + r.from;
      holds = λ k h.
          ap (λ f. then_go f (declarator_behind s (behinds s d g k) ss)) e
          ∙ ap (λ b. where_true b (then_go (behind s d g (length ss) k y) (declarator_init s (behinds s d g k) ss n))) b
          ∙ ap (λ f. then_go f (declarator_init s (behinds s d g k) ss n)) (q.holds k (omega (arith, h)))
          ∙ r.holds k (omega (arith, h));
    })

pub declarators_end : (s : Standing) (d g : ℕ) (ts : List Token) → after marks.Comma ts ≡ None → Finds (reads_declarators s d g) ts (Some (no_declarators, ts))
declarators_end s d g ts e = find_from (reads_declarators s d g) ts (got no_declarators ts) 0 (λ j h. ap (λ o. either_way o (λ r. then_go (reads_declarator s d g j r) (declarator_more (λ l. reads_declarators s d g j l))) (got no_declarators ts)) e)

pub declarators_on : (s : Standing) (d g : ℕ) (t : DeclaratorShape) (ts r x : List Token) (z : Got DeclaratorShapes) → after marks.Comma ts ≡ Some r → Finds (reads_declarator s d g) r (Some (t, x)) → Finds (reads_declarators s d g) x z → Finds (reads_declarators s d g) ts (then_go z (declarator_onto t))
declarators_on s d g t ts r x z e p q =
    find_from (reads_declarators s d g) ts (then_go z (declarator_onto t)) (p.from + q.from) (λ j h.
    ap (λ o. either_way o (λ r. then_go (reads_declarator s d g j r) (declarator_more (λ l. reads_declarators s d g j l))) (got no_declarators ts)) e
    ∙ ap (λ f. then_go f (declarator_more (λ l. reads_declarators s d g j l))) (p.holds j (omega (arith, h)))
    ∙ ap (λ f. then_go f (declarator_onto t)) (q.holds j (omega (arith, h))))

pub declarators_fail : (s : Standing) (d g : ℕ) (ts r : List Token) → after marks.Comma ts ≡ Some r → Finds (reads_declarator s d g) r None → Finds (reads_declarators s d g) ts None
declarators_fail s d g ts r e p =
    find_from (reads_declarators s d g) ts None p.from (λ j h.
    ap (λ o. either_way o (λ r. then_go (reads_declarator s d g j r) (declarator_more (λ l. reads_declarators s d g j l))) (got no_declarators ts)) e ∙ ap (λ f. then_go f (declarator_more (λ l. reads_declarators s d g j l))) (p.holds j h))

-- DECLARATIONS

abbrev one_of : Standing → ℕ → ℕ → ℕ → List Token → Got DeclaratorShape
one_of s d g k l = reads_declarator s d g k l

abbrev further_of : Standing → ℕ → ℕ → ℕ → List Token → Got DeclaratorShapes
further_of s d g k l = reads_declarators s d g k l

pub declaring_found : (s : Standing) (d g : ℕ) (p : Pos) (specs : SpecShapes) (t : DeclaratorShape) (ts x y : List Token) (ds : DeclaratorShapes) → Finds (reads_declarators s d g) ts (Some (ds, x)) → after marks.Semicolon x ≡ Some y → Finds (declaring s d g p specs t) ts (Some (decl p specs (more_declarators t ds), y))
declaring_found s d g p specs t ts x y ds q c = record { from = q.from; holds = λ k h. ap (λ f. then_go f (decl_end p specs t)) (q.holds k h) ∙ ap (wanted (decl p specs (more_declarators t ds))) c }

pub declaring_fails : (s : Standing) (d g : ℕ) (p : Pos) (specs : SpecShapes) (t : DeclaratorShape) (ts : List Token) → Finds (reads_declarators s d g) ts None → Finds (declaring s d g p specs t) ts None
declaring_fails s d g p specs t ts q = record { from = q.from; holds = λ k h. ap (λ f. then_go f (decl_end p specs t)) (q.holds k h) }

pub declaring_open : (s : Standing) (d g : ℕ) (p : Pos) (specs : SpecShapes) (t : DeclaratorShape) (ts x : List Token) (ds : DeclaratorShapes) → Finds (reads_declarators s d g) ts (Some (ds, x)) → after marks.Semicolon x ≡ None → Finds (declaring s d g p specs t) ts None
declaring_open s d g p specs t ts x ds q c = record { from = q.from; holds = λ k h. ap (λ f. then_go f (decl_end p specs t)) (q.holds k h) ∙ ap (wanted (decl p specs (more_declarators t ds))) c }

abbrev named_none : Standing → Pos → SpecShapes → List Token → Got DeclShape
named_none s p specs r = where_true (is_in_names s) (got (decl p specs no_declarators) r)

to_specs : (s : Standing) (d g : ℕ) (ts x : List Token) (specs : SpecShapes) (o : Option (List Token)) (z : Got DeclShape) → Finds (reads_specs d g) ts (Some (specs, x)) → after marks.Semicolon x ≡ o → Finds (λ k l. either_way o (named_none s (place ts) specs) (then_go (reads_declarator s d g k x) (decl_first (further_of s d g k) (place ts) specs))) x z → Finds (reads_decl s d g) ts z
to_specs s d g ts x specs o z p e q = record {
  from = p.from + q.from;
  holds = λ k h.
      ap (λ f. then_go f (decl_specs s (one_of s d g k) (further_of s d g k) (place ts))) (p.holds k (omega (arith, h)))
      ∙ ap (λ o. either_way o (named_none s (place ts) specs) (then_go (reads_declarator s d g k x) (decl_first (further_of s d g k) (place ts) specs))) e
      ∙ q.holds k (omega (arith, h));
}

pub decl_fails : (s : Standing) (d g : ℕ) (ts : List Token) → Finds (reads_specs d g) ts None → Finds (reads_decl s d g) ts None
decl_fails s d g ts p = record { from = p.from; holds = λ k h. ap (λ f. then_go f (decl_specs s (one_of s d g k) (further_of s d g k) (place ts))) (p.holds k h) }

pub decl_plain : (s : Standing) (d g : ℕ) (ts x y : List Token) (specs : SpecShapes) → Finds (reads_specs d g) ts (Some (specs, x)) → after marks.Semicolon x ≡ Some y → is_in_names s ≡ true → Finds (reads_decl s d g) ts (Some (decl (place ts) specs no_declarators, y))
decl_plain s d g ts x y specs p e b = to_specs s d g ts x specs (Some y) (got (decl (place ts) specs no_declarators) y) p e (record { from = 0; holds = λ k h. ap (λ b. where_true b (got (decl (place ts) specs no_declarators) y)) b })

pub decl_fieldless : (s : Standing) (d g : ℕ) (ts x y : List Token) (specs : SpecShapes) → Finds (reads_specs d g) ts (Some (specs, x)) → after marks.Semicolon x ≡ Some y → is_in_names s ≡ false → Finds (reads_decl s d g) ts None
decl_fieldless s d g ts x y specs p e b = to_specs s d g ts x specs (Some y) None p e (record { from = 0; holds = λ k h. ap (λ b. where_true b (got (decl (place ts) specs no_declarators) y)) b })

pub decl_found : (s : Standing) (d g : ℕ) (ts x y : List Token) (specs : SpecShapes) (t : DeclaratorShape) (z : Got DeclShape) → Finds (reads_specs d g) ts (Some (specs, x)) → after marks.Semicolon x ≡ None → Finds (reads_declarator s d g) x (Some (t, y)) → Finds (declaring s d g (place ts) specs t) y z → Finds (reads_decl s d g) ts z
decl_found s d g ts x y specs t z p e q r = to_specs s d g ts x specs None z p e (record { from = q.from + r.from; holds = λ k h. ap (λ f. then_go f (decl_first (further_of s d g k) (place ts) specs)) (q.holds k (omega (arith, h))) ∙ r.holds k (omega (arith, h)) })

pub decl_first_fails : (s : Standing) (d g : ℕ) (ts x : List Token) (specs : SpecShapes) → Finds (reads_specs d g) ts (Some (specs, x)) → after marks.Semicolon x ≡ None → Finds (reads_declarator s d g) x None → Finds (reads_decl s d g) ts None
decl_first_fails s d g ts x specs p e q = to_specs s d g ts x specs None None p e (record { from = q.from; holds = λ k h. ap (λ f. then_go f (decl_first (further_of s d g k) (place ts) specs)) (q.holds k h) })

abbrev decls_if : Standing → ℕ → ℕ → ℕ → List Token → Bool → Got DeclShapes
decls_if s d g k ts b = if_so b (then_go (reads_decl s d g k ts) (decl_more (λ l. reads_decls s d g k l))) (got no_decls ts)

pub decls_end : (s : Standing) (d g : ℕ) (ts : List Token) → is_spec (spec_head ts) ≡ false → Finds (reads_decls s d g) ts (Some (no_decls, ts))
decls_end s d g ts e = find_from (reads_decls s d g) ts (got no_decls ts) 0 (λ j h. ap (decls_if s d g j ts) e)

pub decls_on : (s : Standing) (d g : ℕ) (t : DeclShape) (ts x : List Token) (z : Got DeclShapes) → is_spec (spec_head ts) ≡ true → Finds (reads_decl s d g) ts (Some (t, x)) → Finds (reads_decls s d g) x z → Finds (reads_decls s d g) ts (then_go z (decl_onto t))
decls_on s d g t ts x z e p q =
    find_from (reads_decls s d g) ts (then_go z (decl_onto t)) (p.from + q.from) (λ j h.
    ap (decls_if s d g j ts) e ∙ ap (λ f. then_go f (decl_more (λ l. reads_decls s d g j l))) (p.holds j (omega (arith, h))) ∙ ap (λ f. then_go f (decl_onto t)) (q.holds j (omega (arith, h))))

pub decls_fail : (s : Standing) (d g : ℕ) (ts : List Token) → is_spec (spec_head ts) ≡ true → Finds (reads_decl s d g) ts None → Finds (reads_decls s d g) ts None
decls_fail s d g ts e p = find_from (reads_decls s d g) ts None p.from (λ j h. ap (decls_if s d g j ts) e ∙ ap (λ f. then_go f (decl_more (λ l. reads_decls s d g j l))) (p.holds j h))

-- PARAMETERS

pub param_found : (d g : ℕ) (ts x y : List Token) (specs : SpecShapes) (t : DeclaratorShape) → Finds (reads_some d g) ts (Some (specs, x)) → Finds (reads_declarator in_params d g) x (Some (t, y)) → Finds (reads_param d g) ts (Some (decl (place ts) specs (more_declarators t no_declarators), y))
param_found d g ts x y specs t p q = record {
  from = p.from + q.from;
  holds = λ k h. ap (λ f. then_go f (param_specs (one_of in_params d g k) (place ts))) (p.holds k (omega (arith, h))) ∙ ap (λ f. then_go f (param_made (place ts) specs)) (q.holds k (omega (arith, h)));
}

pub param_fails : (d g : ℕ) (ts : List Token) → Finds (reads_some d g) ts None → Finds (reads_param d g) ts None
param_fails d g ts p = record { from = p.from; holds = λ k h. ap (λ f. then_go f (param_specs (one_of in_params d g k) (place ts))) (p.holds k h) }

pub param_first_fails : (d g : ℕ) (ts x : List Token) (specs : SpecShapes) → Finds (reads_some d g) ts (Some (specs, x)) → Finds (reads_declarator in_params d g) x None → Finds (reads_param d g) ts None
param_first_fails d g ts x specs p q = record {
  from = p.from + q.from;
  holds = λ k h. ap (λ f. then_go f (param_specs (one_of in_params d g k) (place ts))) (p.holds k (omega (arith, h))) ∙ ap (λ f. then_go f (param_made (place ts) specs)) (q.holds k (omega (arith, h)));
}

pub params_stop : (d g : ℕ) (ts : List Token) → after marks.Comma ts ≡ None → Finds (reads_params d g) ts (Some (no_decls, ts))
params_stop d g ts e = find_from (reads_params d g) ts (got no_decls ts) 0 (λ j h. ap (λ o. either_way o (λ r. then_go (reads_param d g j r) (decl_more (λ l. reads_params d g j l))) (got no_decls ts)) e)

pub params_on : (d g : ℕ) (t : DeclShape) (ts r x : List Token) (z : Got DeclShapes) → after marks.Comma ts ≡ Some r → Finds (reads_param d g) r (Some (t, x)) → Finds (reads_params d g) x z → Finds (reads_params d g) ts (then_go z (decl_onto t))
params_on d g t ts r x z e p q =
    find_from (reads_params d g) ts (then_go z (decl_onto t)) (p.from + q.from) (λ j h.
    ap (λ o. either_way o (λ r. then_go (reads_param d g j r) (decl_more (λ l. reads_params d g j l))) (got no_decls ts)) e ∙ ap (λ f. then_go f (decl_more (λ l. reads_params d g j l))) (p.holds j (omega (arith, h))) ∙ ap (λ f. then_go f (decl_onto t)) (q.holds j (omega (arith, h))))

pub params_fail : (d g : ℕ) (ts r : List Token) → after marks.Comma ts ≡ Some r → Finds (reads_param d g) r None → Finds (reads_params d g) ts None
params_fail d g ts r e p =
    find_from (reads_params d g) ts None p.from (λ j h. ap (λ o. either_way o (λ r. then_go (reads_param d g j r) (decl_more (λ l. reads_params d g j l))) (got no_decls ts)) e ∙ ap (λ f. then_go f (decl_more (λ l. reads_params d g j l))) (p.holds j h))

pub param_list_found : (d g : ℕ) (t : DeclShape) (ts x : List Token) (z : Got DeclShapes) → Finds (reads_param d g) ts (Some (t, x)) → Finds (reads_params d g) x z → Finds (params_of d g) ts (then_go z (decl_onto t))
param_list_found d g t ts x z p q = then_found (reads_param d g) (λ k. decl_more (λ r. reads_params d g k r)) ts t x (then_go z (decl_onto t)) p (record { from = q.from; holds = λ k h. ap (λ f. then_go f (decl_onto t)) (q.holds k h) })

pub param_list_fails : (d g : ℕ) (ts : List Token) → Finds (reads_param d g) ts None → Finds (params_of d g) ts None
param_list_fails d g ts p = then_fails (reads_param d g) (λ k. decl_more (λ r. reads_params d g k r)) ts p

abbrev void_or : ℕ → ℕ → ℕ → List Token → Option (List Token) → Got ParamsShape
void_or d g k ts o = either_way o (got void) (then_go (params_of d g k ts) params_end)

pub params_empty : (d g : ℕ) (ts r : List Token) → after marks.RightParen ts ≡ Some r → Finds (reads_parameters d g) ts (Some (empty, r))
params_empty d g ts r e = record { from = 0; holds = λ k h. ap (λ o. either_way o (got empty) (void_or d g k ts (void_ahead ts))) e }

pub params_void : (d g : ℕ) (ts r : List Token) → after marks.RightParen ts ≡ None → void_ahead ts ≡ Some r → Finds (reads_parameters d g) ts (Some (void, r))
params_void d g ts r e v = record { from = 0; holds = λ k h. ap (λ o. either_way o (got empty) (void_or d g k ts (void_ahead ts))) e ∙ ap (void_or d g k ts) v }

pub params_listed : (d g : ℕ) (ts x y : List Token) (ds : DeclShapes) → after marks.RightParen ts ≡ None → void_ahead ts ≡ None → Finds (params_of d g) ts (Some (ds, x)) → after marks.RightParen x ≡ Some y → Finds (reads_parameters d g) ts (Some (params ds, y))
params_listed d g ts x y ds e v p c = record {
  from = p.from;
  holds = λ k h. ap (λ o. either_way o (got empty) (void_or d g k ts (void_ahead ts))) e ∙ ap (void_or d g k ts) v ∙ ap (λ f. then_go f params_end) (p.holds k h) ∙ ap (wanted (params ds)) c;
}

pub params_list_fails : (d g : ℕ) (ts : List Token) → after marks.RightParen ts ≡ None → void_ahead ts ≡ None → Finds (params_of d g) ts None → Finds (reads_parameters d g) ts None
params_list_fails d g ts e v p = record { from = p.from; holds = λ k h. ap (λ o. either_way o (got empty) (void_or d g k ts (void_ahead ts))) e ∙ ap (void_or d g k ts) v ∙ ap (λ f. then_go f params_end) (p.holds k h) }

pub params_open : (d g : ℕ) (ts x : List Token) (ds : DeclShapes) → after marks.RightParen ts ≡ None → void_ahead ts ≡ None → Finds (params_of d g) ts (Some (ds, x)) → after marks.RightParen x ≡ None → Finds (reads_parameters d g) ts None
params_open d g ts x ds e v p c = record {
  from = p.from;
  holds = λ k h. ap (λ o. either_way o (got empty) (void_or d g k ts (void_ahead ts))) e ∙ ap (void_or d g k ts) v ∙ ap (λ f. then_go f params_end) (p.holds k h) ∙ ap (wanted (params ds)) c;
}

-- INITIALISERS

abbrev init_either : ℕ → ℕ → ℕ → List Token → Option (List Token) → Got InitShape
init_either d g k ts o = either_way o (λ r. then_go (inits_of d g k r) (listed_end (place ts))) (then_go (reads 1 (suc d) g k ts) init_got)

pub init_deep : (d g : ℕ) (ts : List Token) → 400 ≤ d → Finds (reads_init d g) ts None
init_deep d g ts high = find_from (reads_init d g) ts None 0 (λ j h. high_none d 400 (init_either d g j ts (after marks.LeftBrace ts)) high)

init_at : (d g : ℕ) (ts : List Token) (o : Option (List Token)) → after marks.LeftBrace ts ≡ o → d < 400 → (j : ℕ) → reads_init d g (suc j) ts ≡ init_either d g j ts o
init_at d g ts o e low j = low_go d 400 (init_either d g j ts (after marks.LeftBrace ts)) low ∙ ap (init_either d g j ts) e

pub init_one : (d g : ℕ) (a : NodeShape) (ts x : List Token) → d < 400 → after marks.LeftBrace ts ≡ None → Finds (reads 1 (suc d) g) ts (Some (a, x)) → Finds (reads_init d g) ts (Some (one a, x))
init_one d g a ts x low e p = find_from (reads_init d g) ts (got (one a) x) p.from (λ j h. init_at d g ts None e low j ∙ ap (λ f. then_go f init_got) (p.holds j h))

pub init_one_fails : (d g : ℕ) (ts : List Token) → d < 400 → after marks.LeftBrace ts ≡ None → Finds (reads 1 (suc d) g) ts None → Finds (reads_init d g) ts None
init_one_fails d g ts low e p = find_from (reads_init d g) ts None p.from (λ j h. init_at d g ts None e low j ∙ ap (λ f. then_go f init_got) (p.holds j h))

pub init_listed : (d g : ℕ) (is' : InitShapes) (ts r x : List Token) (z : Got InitShape) → d < 400 → after marks.LeftBrace ts ≡ Some r → Finds (inits_of d g) r (Some (is', x)) → listed_end (place ts) is' x ≡ z → Finds (reads_init d g) ts z
init_listed d g is' ts r x z low e p q = find_from (reads_init d g) ts z p.from (λ j h. init_at d g ts (Some r) e low j ∙ ap (λ f. then_go f (listed_end (place ts))) (p.holds j h) ∙ q)

pub init_list_fails : (d g : ℕ) (ts r : List Token) → d < 400 → after marks.LeftBrace ts ≡ Some r → Finds (inits_of d g) r None → Finds (reads_init d g) ts None
init_list_fails d g ts r low e p = find_from (reads_init d g) ts None p.from (λ j h. init_at d g ts (Some r) e low j ∙ ap (λ f. then_go f (listed_end (place ts))) (p.holds j h))

pub list_found : (d g : ℕ) (i : InitShape) (ts x : List Token) (z : Got InitShapes) → Finds (reads_init (suc d) g) ts (Some (i, x)) → Finds (reads_inits (suc d) g) x z → Finds (inits_of d g) ts (then_go z (init_onto i))
list_found d g i ts x z p q = then_found (reads_init (suc d) g) (λ k. init_more (λ r. reads_inits (suc d) g k r)) ts i x (then_go z (init_onto i)) p (record { from = q.from; holds = λ k h. ap (λ f. then_go f (init_onto i)) (q.holds k h) })

pub list_fails : (d g : ℕ) (ts : List Token) → Finds (reads_init (suc d) g) ts None → Finds (inits_of d g) ts None
list_fails d g ts p = then_fails (reads_init (suc d) g) (λ k. init_more (λ r. reads_inits (suc d) g k r)) ts p

pub listed_comma : (p : Pos) (is' : InitShapes) (ts r x : List Token) → after marks.Comma ts ≡ Some r → after marks.RightBrace r ≡ Some x → listed_end p is' ts ≡ Some (listed p is' true, x)
listed_comma p is' ts r x e c = ap (λ o. either_way o (expect marks.RightBrace (listed p is' true)) (expect marks.RightBrace (listed p is' false) ts)) e ∙ ap (wanted (listed p is' true)) c

pub listed_comma_open : (p : Pos) (is' : InitShapes) (ts r : List Token) → after marks.Comma ts ≡ Some r → after marks.RightBrace r ≡ None → listed_end p is' ts ≡ None
listed_comma_open p is' ts r e c = ap (λ o. either_way o (expect marks.RightBrace (listed p is' true)) (expect marks.RightBrace (listed p is' false) ts)) e ∙ ap (wanted (listed p is' true)) c

pub listed_plain : (p : Pos) (is' : InitShapes) (ts x : List Token) → after marks.Comma ts ≡ None → after marks.RightBrace ts ≡ Some x → listed_end p is' ts ≡ Some (listed p is' false, x)
listed_plain p is' ts x e c = ap (λ o. either_way o (expect marks.RightBrace (listed p is' true)) (expect marks.RightBrace (listed p is' false) ts)) e ∙ ap (wanted (listed p is' false)) c

pub listed_open : (p : Pos) (is' : InitShapes) (ts : List Token) → after marks.Comma ts ≡ None → after marks.RightBrace ts ≡ None → listed_end p is' ts ≡ None
listed_open p is' ts e c = ap (λ o. either_way o (expect marks.RightBrace (listed p is' true)) (expect marks.RightBrace (listed p is' false) ts)) e ∙ ap (wanted (listed p is' false)) c

pub inits_end : (d g : ℕ) (ts : List Token) → further ts ≡ None → Finds (reads_inits d g) ts (Some (no_inits, ts))
inits_end d g ts e = find_from (reads_inits d g) ts (got no_inits ts) 0 (λ j h. ap (λ o. either_way o (λ r. then_go (reads_init d g j r) (init_more (λ l. reads_inits d g j l))) (got no_inits ts)) e)

pub inits_on : (d g : ℕ) (i : InitShape) (ts r x : List Token) (z : Got InitShapes) → further ts ≡ Some r → Finds (reads_init d g) r (Some (i, x)) → Finds (reads_inits d g) x z → Finds (reads_inits d g) ts (then_go z (init_onto i))
inits_on d g i ts r x z e p q =
    find_from (reads_inits d g) ts (then_go z (init_onto i)) (p.from + q.from) (λ j h.
    ap (λ o. either_way o (λ r. then_go (reads_init d g j r) (init_more (λ l. reads_inits d g j l))) (got no_inits ts)) e ∙ ap (λ f. then_go f (init_more (λ l. reads_inits d g j l))) (p.holds j (omega (arith, h))) ∙ ap (λ f. then_go f (init_onto i)) (q.holds j (omega (arith, h))))

pub inits_fail : (d g : ℕ) (ts r : List Token) → further ts ≡ Some r → Finds (reads_init d g) r None → Finds (reads_inits d g) ts None
inits_fail d g ts r e p =
    find_from (reads_inits d g) ts None p.from (λ j h. ap (λ o. either_way o (λ r. then_go (reads_init d g j r) (init_more (λ l. reads_inits d g j l))) (got no_inits ts)) e ∙ ap (λ f. then_go f (init_more (λ l. reads_inits d g j l))) (p.holds j h))

pub end_comma : (ts r x : List Token) → after marks.Comma ts ≡ Some r → after marks.RightBrace r ≡ Some x → (p : Pos) (l : InitShapes) → listed_end p l ts ≡ Some (listed p l true, x)
end_comma ts r x e c p l = listed_comma p l ts r x e c

pub end_comma_open : (ts r : List Token) → after marks.Comma ts ≡ Some r → after marks.RightBrace r ≡ None → (p : Pos) (l : InitShapes) → listed_end p l ts ≡ None
end_comma_open ts r e c p l = listed_comma_open p l ts r e c

pub end_plain : (ts x : List Token) → after marks.Comma ts ≡ None → after marks.RightBrace ts ≡ Some x → (p : Pos) (l : InitShapes) → listed_end p l ts ≡ Some (listed p l false, x)
end_plain ts x e c p l = listed_plain p l ts x e c

pub end_open : (ts : List Token) → after marks.Comma ts ≡ None → after marks.RightBrace ts ≡ None → (p : Pos) (l : InitShapes) → listed_end p l ts ≡ None
end_open ts e c p l = listed_open p l ts e c
