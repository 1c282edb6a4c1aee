-- What the code of declarations reads, and how many levels it has: one step for each way that reading goes.
use Rattle.std.proofs.Common.{◌≡◌, ℕ, suc, ◌+◌, ◌<◌, List, [], ◌∷◌, ◌++◌, length, Option, Some, None, Bool, true, false, refl, sym, ap, ◌∙◌, subst, arith, append_assoc, append-nil}
use Rattle.std.specs.Prelude.{max}
use Rattle.c_base.specs.declared.place.Pos.{Pos}
use Rattle.c_syntax.specs.declared.token.Mark.TheVariants as marks
use Rattle.c_syntax.specs.declared.token.Token.{Token}
use Rattle.c_syntax.specs.declared.tree.Star.{Star}
use Rattle.c_syntax.specs.declared.tree.Named.{Named}
use Rattle.c_syntax.specs.declared.tree.Decl.{Decl}
use Rattle.c_syntax.specs.declared.tree.Declarator.{Declarator}
use Rattle.c_syntax.specs.declared.tree.Param.{Param}
use Rattle.c_syntax.specs.declared.tree.Init.{Init}
use Rattle.c_syntax.specs.Forms.{place}
use Rattle.c_syntax.specs.Shape.{NodeShape, LengthShapes, SpecShapes, DeclShape, decl, DeclShapes, DeclaratorShape, declarator, no_declarators, more_declarators, DeclFormShape, arrays, function, ParamsShape, empty, void, params, no_init, one_init, InitShape, one, listed, InitShapes}
use Rattle.c_syntax.specs.Shaped.{Standing, in_params, name_fits, may_be_open, is_in_names, may_begin}
use Rattle.c_syntax.specs.View.{decl_shape, decl_list, declarator_shape, declarator_list, param_shape, param_list, init_shape, init_list}
use Rattle.c_syntax.specs.Levels.{lengths_height, specs_height, decls_height, decl_height, declarators_height, declarator_height, behind_height, params_height, init_height, inits_height}
use Rattle.c_grammar.specs.declared.size.Size.{Size}
use Rattle.c_grammar.specs.Look.{Got, got, then_go, where_true, Finds, after}
use Rattle.c_grammar.specs.Starts.{is_spec, spec_head}
use Rattle.c_grammar.specs.Reader.{declarator_behind, declarator_init, declarator_name, void_ahead, listed_end, further, behinds, reads, reads_lengths, reads_specs, reads_some, reads_decl, reads_decls, reads_declarator, reads_declarators, reads_param, reads_parameters, reads_init}
use Rattle.c_grammar.specs.ExprReader.{maybe_named, reads_stars}
use Rattle.c_grammar.specs.Parts.{behind, ending, declaring, params_of, inits_of}
use Rattle.c_grammar.specs.Found.{NodeFound, Found, FurtherFound, named_behind}
use Rattle.c_grammar.proofs.Looking.{find_from}
use Rattle.c_grammar.proofs.ExprSteps.{low_go}
use Rattle.c_grammar.proofs.DeclSteps.{behind_arrays, behind_arrays_fail, behind_params, behind_params_fail, ending_plain, ending_init, ending_fails, declarator_stars_fail, declaring_found, declaring_open, decl_plain, decl_fieldless, decl_found, decl_first_fails, param_found, param_first_fails, params_empty, params_void, params_listed, params_open, init_one, init_one_fails, init_listed, listed_comma, listed_comma_open, listed_plain, listed_open}
use Rattle.c_grammar.proofs.ListSteps.{DeclsFrom, decls_more, decls_done, decls_now, DeclaratorsFrom, declarators_start, declarators_more, declarators_done, declarators_failed, declarators_now, ParamsFrom, params_start, params_more, params_done, params_now, InitsFrom, inits_start, inits_more, inits_done, inits_now}

found_as : {A : Type 0} (f : ℕ → List Token → Got A) (levels_of : A → ℕ) (ts : List Token) (a c : A) (h : ℕ) (y : List Token) → c ≡ a → Finds f ts (got a y) → h ≡ levels_of a → Found f levels_of ts c h y
found_as f levels_of ts a c h y same p l = record { finds = subst (λ x. Finds f ts (got x y)) (sym same) p; levels = l ∙ ap levels_of (sym same) }

below : (e d : ℕ) → e ≡ d + 1 → e ≡ suc d
below e d same = omega (arith, same)

-- BEHIND A NAME

lengths_below : (n c d z : ℕ) → c ≡ z → n ≡ c + d + 1 → n ≡ z + suc d
lengths_below n c d z e same = omega (arith, e, same)

lengths_there : (s : Standing) (b : Bool) (n d g c : ℕ) (ss : List Star) (ts : List Token) (z : Got LengthShapes) → Finds (reads_lengths b n g) ts z → b ≡ may_be_open s → c ≡ length ss → n ≡ c + d + 1 → Finds (reads_lengths (may_be_open s) (length ss + suc d) g) ts z
lengths_there s b n d g c ss ts z p o e same = subst (λ n. Finds (reads_lengths (may_be_open s) n g) ts z) (lengths_below n c d (length ss) e same) (subst (λ b. Finds (reads_lengths b n g) ts z) o p)

pub arrays_read : (s : Standing) (b : Bool) (n d g c h v : ℕ) (ss : List Star) (f : DeclFormShape) (ls : LengthShapes) (ts x : List Token) → after marks.LeftParen ts ≡ None → Found (reads_lengths b n g) lengths_height ts ls h x → b ≡ may_be_open s → c ≡ length ss → n ≡ c + d + 1 → f ≡ arrays ls → v ≡ c + h → Found (behind s d g (length ss)) (behind_height ss) ts f v x
arrays_read s b n d g c h v ss f ls ts x e p o m same alike q =
    found_as (behind s d g (length ss)) (behind_height ss) ts (arrays ls) f v x alike (behind_arrays s d g (length ss) ts x ls e (lengths_there s b n d g c ss ts (got ls x) p.finds o m same)) (rw (q, m, p.levels))

pub arrays_unread : (s : Standing) (b : Bool) (n d g c : ℕ) (ss : List Star) (ts : List Token) → after marks.LeftParen ts ≡ None → Finds (reads_lengths b n g) ts None → b ≡ may_be_open s → c ≡ length ss → n ≡ c + d + 1 → Finds (behind s d g (length ss)) ts None
arrays_unread s b n d g c ss ts e p o m same = behind_arrays_fail s d g (length ss) ts e (lengths_there s b n d g c ss ts None p o m same)

pub function_read : (s : Standing) (d e g c h v : ℕ) (ss : List Star) (f : DeclFormShape) (ps : ParamsShape) (ts r x : List Token) → after marks.LeftParen ts ≡ Some r → is_in_names s ≡ true → Found (reads_parameters e g) params_height r ps h x → e ≡ d + 1 → c ≡ length ss → f ≡ function ps → v ≡ max c h → Found (behind s d g (length ss)) (behind_height ss) ts f v x
function_read s d e g c h v ss f ps ts r x a b p low m alike q =
    let k : Finds (reads_parameters (suc d) g) r (got ps x) = subst (λ e. Finds (reads_parameters e g) r (got ps x)) (below e d low) p.finds in
    found_as (behind s d g (length ss)) (behind_height ss) ts (function ps) f v x alike (behind_params s d g (length ss) ts r x ps a b k) (rw (q, m, p.levels))

pub function_unread : (s : Standing) (d e g : ℕ) (ss : List Star) (ts r : List Token) → after marks.LeftParen ts ≡ Some r → is_in_names s ≡ true → Finds (reads_parameters e g) r None → e ≡ d + 1 → Finds (behind s d g (length ss)) ts None
function_unread s d e g ss ts r a b p low = behind_params_fail s d g (length ss) ts r a b (subst (λ e. Finds (reads_parameters e g) r None) (below e d low) p)

-- INITIALISERS OF DECLARATORS

pub ending_left_out : (s : Standing) (d g h v : ℕ) (ss : List Star) (n : Option Named) (f : DeclFormShape) (c : DeclaratorShape) (ts : List Token) → after marks.Equal ts ≡ None → h ≡ behind_height ss f → c ≡ declarator ss n f no_init → v ≡ h + 1 → Found (ending s d g ss n f) declarator_height ts c v ts
ending_left_out s d g h v ss n f c ts e m same q = found_as (ending s d g ss n f) declarator_height ts (declarator ss n f no_init) c v ts same (ending_plain s d g ss n f ts e) (omega (arith, q, m))

pub ending_read : (s : Standing) (d e g h k m v : ℕ) (ss : List Star) (n : Option Named) (f : DeclFormShape) (i : InitShape) (c : DeclaratorShape) (ts r x : List Token) → after marks.Equal ts ≡ Some r → may_begin s f ≡ true → Found (reads_init e g) init_height r i k x → e ≡ d + 1 → h ≡ behind_height ss f → c ≡ declarator ss n f (one_init i) → m ≡ max h k → v ≡ m + 1 → Found (ending s d g ss n f) declarator_height ts c v x
ending_read s d e g h k m v ss n f i c ts r x a b p low l same q w =
    let j : Finds (reads_init (suc d) g) r (got i x) = subst (λ e. Finds (reads_init e g) r (got i x)) (below e d low) p.finds in
    found_as (ending s d g ss n f) declarator_height ts (declarator ss n f (one_init i)) c v x same (ending_init s d g ss n f i ts r x a b j) (rw (w, q, l, p.levels) (omega arith))

pub ending_unread : (s : Standing) (d e g : ℕ) (ss : List Star) (n : Option Named) (f : DeclFormShape) (ts r : List Token) → after marks.Equal ts ≡ Some r → may_begin s f ≡ true → Finds (reads_init e g) r None → e ≡ d + 1 → Finds (ending s d g ss n f) ts None
ending_unread s d e g ss n f ts r a b p low = ending_fails s d g ss n f ts r a b (subst (λ e. Finds (reads_init e g) r None) (below e d low) p)

-- DECLARATORS

behind_stars : (s : Standing) (d e g : ℕ) (ss : List Star) (z : Got DeclaratorShape) (ts x : List Token) → d < 400 → Finds (reads_stars e) ts (Some (ss, x)) → e ≡ d + 1 → Finds (named_behind s d g ss) x z → Finds (reads_declarator s d g) ts z
behind_stars s d e g ss z ts x low q same p =
    let r : Finds (reads_stars (suc d)) ts (got ss x) = subst (λ e. Finds (reads_stars e) ts (got ss x)) (below e d same) q in
    find_from (reads_declarator s d g) ts z (r.from + p.from) (λ j h.
    low_go d 400 (then_go (reads_stars (suc d) j ts) (declarator_name s (behinds s d g j))) low ∙ ap (λ f. then_go f (declarator_name s (behinds s d g j))) (r.holds j (omega (arith, h))) ∙ p.holds j (omega (arith, h)))

pub declarator_read : (s : Standing) (d e g h : ℕ) (ss : List Star) (c : DeclaratorShape) (ts x y : List Token) → d < 400 → Finds (reads_stars e) ts (Some (ss, x)) → e ≡ d + 1 → Found (named_behind s d g ss) declarator_height x c h y → Found (reads_declarator s d g) declarator_height ts c h y
declarator_read s d e g h ss c ts x y low q same f = record { finds = behind_stars s d e g ss (got c y) ts x low q same f.finds; levels = f.levels }

pub declarator_unread : (s : Standing) (d e g : ℕ) (ss : List Star) (ts x : List Token) → d < 400 → Finds (reads_stars e) ts (Some (ss, x)) → e ≡ d + 1 → Finds (named_behind s d g ss) x None → Finds (reads_declarator s d g) ts None
declarator_unread s d e g ss ts x low q same p = behind_stars s d e g ss None ts x low q same p

pub declarator_starless : (s : Standing) (d e g : ℕ) (ts : List Token) → d < 400 → Finds (reads_stars e) ts None → e ≡ d + 1 → Finds (reads_declarator s d g) ts None
declarator_starless s d e g ts low q same = declarator_stars_fail s d g ts low (subst (λ e. Finds (reads_stars e) ts None) (below e d same) q)

abbrev fitting : Standing → ℕ → ℕ → List Star → Option Named → ℕ → List Token → Got DeclaratorShape
fitting s d g ss n k l = then_go (behind s d g (length ss) k l) (declarator_init s (behinds s d g k) ss n)

by_name : (s : Standing) (d g : ℕ) (ss : List Star) (n : Option Named) (z : Got DeclaratorShape) (ts x : List Token) → maybe_named ts ≡ Some (n, x) → name_fits s n ≡ true → Finds (fitting s d g ss n) x z → Finds (named_behind s d g ss) ts z
by_name s d g ss n z ts x e b p = record { from = p.from; holds = λ k h. ap (λ f. then_go f (declarator_behind s (behinds s d g k) ss)) e ∙ ap (λ b. where_true b (fitting s d g ss n k x)) b ∙ p.holds k h }

fitted : (s : Standing) (d g : ℕ) (ss : List Star) (n : Option Named) (f : DeclFormShape) (z : Got DeclaratorShape) (x w : List Token) → Finds (behind s d g (length ss)) x (got f w) → Finds (ending s d g ss n f) w z → Finds (fitting s d g ss n) x z
fitted s d g ss n f z x w p q = record { from = p.from + q.from; holds = λ k h. ap (λ f. then_go f (declarator_init s (behinds s d g k) ss n)) (p.holds k (omega (arith, h))) ∙ q.holds k (omega (arith, h)) }

pub named_read : (s : Standing) (d g h v : ℕ) (ss : List Star) (n : Option Named) (f : DeclFormShape) (c : DeclaratorShape) (ts x w y : List Token) → maybe_named ts ≡ Some (n, x) → name_fits s n ≡ true → Found (behind s d g (length ss)) (behind_height ss) x f h w → Found (ending s d g ss n f) declarator_height w c v y → Found (named_behind s d g ss) declarator_height ts c v y
named_read s d g h v ss n f c ts x w y e b p q = record { finds = by_name s d g ss n (got c y) ts x e b (fitted s d g ss n f (got c y) x w p.finds q.finds); levels = q.levels }

pub named_broken : (s : Standing) (d g : ℕ) (ss : List Star) (ts : List Token) → maybe_named ts ≡ None → Finds (named_behind s d g ss) ts None
named_broken s d g ss ts e = record { from = 0; holds = λ k h. ap (λ f. then_go f (declarator_behind s (behinds s d g k) ss)) e }

pub named_unfit : (s : Standing) (d g : ℕ) (ss : List Star) (n : Option Named) (ts x : List Token) → maybe_named ts ≡ Some (n, x) → name_fits s n ≡ false → Finds (named_behind s d g ss) ts None
named_unfit s d g ss n ts x e b = record { from = 0; holds = λ k h. ap (λ f. then_go f (declarator_behind s (behinds s d g k) ss)) e ∙ ap (λ b. where_true b (fitting s d g ss n k x)) b }

pub named_unread : (s : Standing) (d g : ℕ) (ss : List Star) (n : Option Named) (ts x : List Token) → maybe_named ts ≡ Some (n, x) → name_fits s n ≡ true → Finds (behind s d g (length ss)) x None → Finds (named_behind s d g ss) ts None
named_unread s d g ss n ts x e b p = by_name s d g ss n None ts x e b (record { from = p.from; holds = λ k h. ap (λ f. then_go f (declarator_init s (behinds s d g k) ss n)) (p.holds k h) })

pub named_unended : (s : Standing) (d g h : ℕ) (ss : List Star) (n : Option Named) (f : DeclFormShape) (ts x w : List Token) → maybe_named ts ≡ Some (n, x) → name_fits s n ≡ true → Found (behind s d g (length ss)) (behind_height ss) x f h w → Finds (ending s d g ss n f) w None → Finds (named_behind s d g ss) ts None
named_unended s d g h ss n f ts x w e b p q = by_name s d g ss n None ts x e b (fitted s d g ss n f None x w p.finds q)

-- DECLARATORS BEHIND THE FIRST

-- those that were read so far behind `before`, and h counts their levels
pub record FurtherSoFar (s : Standing) (d g : ℕ) (before now : List Declarator) (ts : List Token) (h : ℕ) (rest : List Token) : Type 0 where
  pub further : List Declarator
  pub joined : now ≡ before ++ further
  pub leads : DeclaratorsFrom s d g further ts rest
  pub levels : h ≡ declarators_height (declarator_list further)

pub further_none : (s : Standing) (d g : ℕ) (before : List Declarator) (ts : List Token) → FurtherSoFar s d g before before ts 0 ts
further_none s d g before ts = record { further = []; joined = sym (append-nil before); leads = declarators_start s d g ts; levels = refl }

pub further_on : (now' : List Declarator) (s : Standing) (d g h k v : ℕ) (before now : List Declarator) (a : Declarator) (ts rest r x : List Token) → FurtherSoFar s d g before now ts h rest → after marks.Comma rest ≡ Some r → Found (reads_declarator s d g) declarator_height r (declarator_shape a) k x → now' ≡ now ++ a ∷ [] → v ≡ max h k → FurtherSoFar s d g before now' ts v x
further_on now' s d g h k v before now a ts rest r x p e f same m = record {
  further = p.further ++ a ∷ [];
  joined = same ∙ ap (λ l. l ++ a ∷ []) p.joined ∙ append_assoc before p.further (a ∷ []);
  leads = declarators_more (p.further ++ a ∷ []) s d g p.further a ts rest r x p.leads e f.finds refl;
  levels = m ∙ declarators_now (p.further ++ a ∷ []) p.further a h k p.levels f.levels refl;
}

pub further_read : (s : Standing) (d g h : ℕ) (before now : List Declarator) (ts rest : List Token) → FurtherSoFar s d g before now ts h rest → after marks.Comma rest ≡ None → FurtherFound s d g before now ts h rest
further_read s d g h before now ts rest p e = record { further = p.further; joined = p.joined; finds = declarators_done s d g p.further ts rest p.leads e; levels = p.levels }

pub further_unread : (s : Standing) (d g h : ℕ) (before now : List Declarator) (ts rest r : List Token) → FurtherSoFar s d g before now ts h rest → after marks.Comma rest ≡ Some r → Finds (reads_declarator s d g) r None → Finds (reads_declarators s d g) ts None
further_unread s d g h before now ts rest r p e q = declarators_failed s d g p.further ts rest r p.leads e q

-- DECLARATIONS

pub declaring_measured : (f : ℕ → List Token → Got SpecShapes) (k : ℕ → List Token → Got DeclaratorShape) (m n v : ℕ) (specs : SpecShapes) (t : DeclaratorShape) (ts x y z : List Token) → Found f specs_height ts specs m x → Found k declarator_height y t n z → v ≡ max m n → v ≡ max (specs_height specs) (declarator_height t)
declaring_measured f k m n v specs t ts x y z p q e = rw (e, p.levels, q.levels)

deepest : (s a b k v : ℕ) (h : ℕ) → h ≡ max s a → k ≡ b → v ≡ max h k → v ≡ max s (max a b)
deepest s a b k v h p q r = omega (arith, p, q, r)

pub declaring_read : (s : Standing) (d g h k v : ℕ) (p : Pos) (specs : SpecShapes) (c : DeclShape) (a : Declarator) (l l' all : List Declarator) (ts x y : List Token) → l ≡ [] → l' ≡ l ++ a ∷ [] → FurtherFound s d g l' all ts k x → after marks.Semicolon x ≡ Some y → c ≡ decl p specs (declarator_list all) → h ≡ max (specs_height specs) (declarator_height (declarator_shape a)) → v ≡ max h k → Found (declaring s d g p specs (declarator_shape a)) decl_height ts c v y
declaring_read s d g h k v p specs c a l l' all ts x y none same f e alike m q =
    let first : l' ≡ a ∷ [] = same ∙ ap (λ l. l ++ a ∷ []) none in
    let these : all ≡ a ∷ f.further = f.joined ∙ ap (λ l. l ++ f.further) first in
    found_as (declaring s d g p specs (declarator_shape a)) decl_height ts (decl p specs (more_declarators (declarator_shape a) (declarator_list f.further))) c v y (alike ∙ ap (λ l. decl p specs (declarator_list l)) these) (declaring_found s d g p specs (declarator_shape a) ts x y (declarator_list f.further) f.finds e) (deepest (specs_height specs) (declarator_height (declarator_shape a)) (declarators_height (declarator_list f.further)) k v h m f.levels q)

pub declaring_unclosed : (s : Standing) (d g k : ℕ) (p : Pos) (specs : SpecShapes) (t : DeclaratorShape) (l all : List Declarator) (ts x : List Token) → FurtherFound s d g l all ts k x → after marks.Semicolon x ≡ None → Finds (declaring s d g p specs t) ts None
declaring_unclosed s d g k p specs t l all ts x f e = declaring_open s d g p specs t ts x (declarator_list f.further) f.finds e

pub bare_decl_read : (s : Standing) (d g h : ℕ) (specs : SpecShapes) (c : DeclShape) (ts x y : List Token) → Found (reads_specs d g) specs_height ts specs h x → after marks.Semicolon x ≡ Some y → is_in_names s ≡ true → c ≡ decl (place ts) specs no_declarators → Found (reads_decl s d g) decl_height ts c h y
bare_decl_read s d g h specs c ts x y f e b same = found_as (reads_decl s d g) decl_height ts (decl (place ts) specs no_declarators) c h y same (decl_plain s d g ts x y specs f.finds e b) (omega (arith, f.levels))

pub decl_nameless : (s : Standing) (d g h : ℕ) (specs : SpecShapes) (ts x y : List Token) → Found (reads_specs d g) specs_height ts specs h x → after marks.Semicolon x ≡ Some y → is_in_names s ≡ false → Finds (reads_decl s d g) ts None
decl_nameless s d g h specs ts x y f e b = decl_fieldless s d g ts x y specs f.finds e b

pub decl_read : (s : Standing) (d g h k v : ℕ) (specs : SpecShapes) (t : DeclaratorShape) (c : DeclShape) (ts x y z : List Token) → Found (reads_specs d g) specs_height ts specs h x → after marks.Semicolon x ≡ None → Found (reads_declarator s d g) declarator_height x t k y → Found (declaring s d g (place ts) specs t) decl_height y c v z → Found (reads_decl s d g) decl_height ts c v z
decl_read s d g h k v specs t c ts x y z f e p q = record { finds = decl_found s d g ts x y specs t (got c z) f.finds e p.finds q.finds; levels = q.levels }

pub decl_unread : (s : Standing) (d g h : ℕ) (specs : SpecShapes) (ts x : List Token) → Found (reads_specs d g) specs_height ts specs h x → after marks.Semicolon x ≡ None → Finds (reads_declarator s d g) x None → Finds (reads_decl s d g) ts None
decl_unread s d g h specs ts x f e p = decl_first_fails s d g ts x specs f.finds e p

pub decl_unended : (s : Standing) (d g h k : ℕ) (specs : SpecShapes) (t : DeclaratorShape) (ts x y : List Token) → Found (reads_specs d g) specs_height ts specs h x → after marks.Semicolon x ≡ None → Found (reads_declarator s d g) declarator_height x t k y → Finds (declaring s d g (place ts) specs t) y None → Finds (reads_decl s d g) ts None
decl_unended s d g h k specs t ts x y f e p q = decl_found s d g ts x y specs t None f.finds e p.finds q

pub decls_further : (l' : List Decl) (s : Standing) (d g k : ℕ) (l : List Decl) (a : Decl) (ts rest x : List Token) → DeclsFrom s d g l ts rest → is_spec (spec_head rest) ≡ true → Found (reads_decl s d g) decl_height rest (decl_shape a) k x → l' ≡ l ++ a ∷ [] → DeclsFrom s d g l' ts x
decls_further l' s d g k l a ts rest x p e f same = decls_more l' s d g l a ts rest x p e f.finds same

pub decls_measured : (l' : List Decl) (s : Standing) (d g h k v : ℕ) (l : List Decl) (a : Decl) (r x : List Token) → Found (reads_decl s d g) decl_height r (decl_shape a) k x → h ≡ decls_height (decl_list l) → l' ≡ l ++ a ∷ [] → v ≡ max h k → v ≡ decls_height (decl_list l')
decls_measured l' s d g h k v l a r x f m same e = e ∙ decls_now l' l a h k m f.levels same

pub decls_read : (s : Standing) (d g h : ℕ) (l : List Decl) (ts rest : List Token) → DeclsFrom s d g l ts rest → is_spec (spec_head rest) ≡ false → h ≡ decls_height (decl_list l) → Found (reads_decls s d g) decls_height ts (decl_list l) h rest
decls_read s d g h l ts rest p e m = record { finds = decls_done s d g l ts rest p e; levels = m }

-- PARAMETERS

pub empty_read : (d g : ℕ) (ts r : List Token) → after marks.RightParen ts ≡ Some r → Found (reads_parameters d g) params_height ts empty 0 r
empty_read d g ts r e = record { finds = params_empty d g ts r e; levels = refl }

pub void_read : (d g : ℕ) (ts r : List Token) → after marks.RightParen ts ≡ None → void_ahead ts ≡ Some r → Found (reads_parameters d g) params_height ts void 0 r
void_read d g ts r e v = record { finds = params_void d g ts r e v; levels = refl }

pub parameters_read : (d g h : ℕ) (c : ParamsShape) (ds : DeclShapes) (ts x y : List Token) → after marks.RightParen ts ≡ None → void_ahead ts ≡ None → Found (params_of d g) decls_height ts ds h x → after marks.RightParen x ≡ Some y → c ≡ params ds → Found (reads_parameters d g) params_height ts c h y
parameters_read d g h c ds ts x y e v f m same = found_as (reads_parameters d g) params_height ts (params ds) c h y same (params_listed d g ts x y ds e v f.finds m) f.levels

pub parameters_unclosed : (d g h : ℕ) (ds : DeclShapes) (ts x : List Token) → after marks.RightParen ts ≡ None → void_ahead ts ≡ None → Found (params_of d g) decls_height ts ds h x → after marks.RightParen x ≡ None → Finds (reads_parameters d g) ts None
parameters_unclosed d g h ds ts x e v f m = params_open d g ts x ds e v f.finds m

pub params_first : (l' l : List Param) (d g h : ℕ) (a : Param) (ts x : List Token) → Found (reads_param d g) decl_height ts (param_shape a) h x → l ≡ [] → l' ≡ l ++ a ∷ [] → ParamsFrom d g l' ts x
params_first l' l d g h a ts x f e same = subst (λ l. ParamsFrom d g l ts x) (sym (same ∙ ap (λ l. l ++ a ∷ []) e)) (params_start d g a ts x f.finds)

pub params_first_measured : (l' l : List Param) (d g h : ℕ) (a : Param) (ts x : List Token) → Found (reads_param d g) decl_height ts (param_shape a) h x → l ≡ [] → l' ≡ l ++ a ∷ [] → h ≡ decls_height (param_list l')
params_first_measured l' l d g h a ts x f e same =
    let n : max 0 h ≡ decls_height (param_list l') = params_now l' [] a 0 h refl f.levels (same ∙ ap (λ l. l ++ a ∷ []) e) in
    omega (arith, n)

pub params_further : (l' : List Param) (d g k : ℕ) (l : List Param) (a : Param) (ts rest r x : List Token) → ParamsFrom d g l ts rest → after marks.Comma rest ≡ Some r → Found (reads_param d g) decl_height r (param_shape a) k x → l' ≡ l ++ a ∷ [] → ParamsFrom d g l' ts x
params_further l' d g k l a ts rest r x p e f same = params_more l' d g l a ts rest r x p e f.finds same

pub params_measured : (l' : List Param) (d g h k v : ℕ) (l : List Param) (a : Param) (r x : List Token) → Found (reads_param d g) decl_height r (param_shape a) k x → h ≡ decls_height (param_list l) → l' ≡ l ++ a ∷ [] → v ≡ max h k → v ≡ decls_height (param_list l')
params_measured l' d g h k v l a r x f m same e = e ∙ params_now l' l a h k m f.levels same

pub params_read : (d g h : ℕ) (l : List Param) (ts rest : List Token) → ParamsFrom d g l ts rest → after marks.Comma rest ≡ None → h ≡ decls_height (param_list l) → Found (params_of d g) decls_height ts (param_list l) h rest
params_read d g h l ts rest p e m = record { finds = params_done d g l ts rest p e; levels = m }

pub param_read : (d g h k v : ℕ) (specs : SpecShapes) (t : DeclaratorShape) (c : DeclShape) (ts x y : List Token) → Found (reads_some d g) specs_height ts specs h x → Found (reads_declarator in_params d g) declarator_height x t k y → c ≡ decl (place ts) specs (more_declarators t no_declarators) → v ≡ max h k → Found (reads_param d g) decl_height ts c v y
param_read d g h k v specs t c ts x y f p same m =
    found_as (reads_param d g) decl_height ts (decl (place ts) specs (more_declarators t no_declarators)) c v y same (param_found d g ts x y specs t f.finds p.finds) (omega (arith, m, f.levels, p.levels))

pub param_unread : (d g h : ℕ) (specs : SpecShapes) (ts x : List Token) → Found (reads_some d g) specs_height ts specs h x → Finds (reads_declarator in_params d g) x None → Finds (reads_param d g) ts None
param_unread d g h specs ts x f p = param_first_fails d g ts x specs f.finds p

-- INITIALISERS

pub one_read : (d e g v : ℕ) (a : NodeShape) (c : InitShape) (s : Size) (ts x : List Token) → d < 400 → after marks.LeftBrace ts ≡ None → NodeFound (reads 1 e g) ts a s x → e ≡ d + 1 → c ≡ one a → v ≡ s.levels + 1 → Found (reads_init d g) init_height ts c v x
one_read d e g v a c s ts x low m f same alike q =
    found_as (reads_init d g) init_height ts (one a) c v x alike (init_one d g a ts x low m (subst (λ e. Finds (reads 1 e g) ts (got a x)) (below e d same) f.finds)) (omega (arith, q, f.size.levels))

pub one_unread : (d e g : ℕ) (ts : List Token) → d < 400 → after marks.LeftBrace ts ≡ None → Finds (reads 1 e g) ts None → e ≡ d + 1 → Finds (reads_init d g) ts None
one_unread d e g ts low m p same = init_one_fails d g ts low m (subst (λ e. Finds (reads 1 e g) ts None) (below e d same) p)

pub list_read : (d g h v : ℕ) (l : InitShapes) (b : Bool) (c : InitShape) (ts r x y : List Token) → d < 400 → after marks.LeftBrace ts ≡ Some r → Found (inits_of d g) inits_height r l h x → ((p : Pos) (l : InitShapes) → listed_end p l x ≡ Some (listed p l b, y)) → c ≡ listed (place ts) l b → v ≡ h + 1 → Found (reads_init d g) init_height ts c v y
list_read d g h v l b c ts r x y low m f e alike q = found_as (reads_init d g) init_height ts (listed (place ts) l b) c v y alike (init_listed d g l ts r x (got (listed (place ts) l b) y) low m f.finds (e (place ts) l)) (omega (arith, q, f.levels))

pub list_unclosed : (d g h : ℕ) (l : InitShapes) (ts r x : List Token) → d < 400 → after marks.LeftBrace ts ≡ Some r → Found (inits_of d g) inits_height r l h x → ((p : Pos) (l : InitShapes) → listed_end p l x ≡ None) → Finds (reads_init d g) ts None
list_unclosed d g h l ts r x low m f e = init_listed d g l ts r x None low m f.finds (e (place ts) l)

pub inits_first : (l' l : List Init) (d e g h : ℕ) (a : Init) (ts x : List Token) → Found (reads_init e g) init_height ts (init_shape a) h x → e ≡ d + 1 → l ≡ [] → l' ≡ l ++ a ∷ [] → InitsFrom d g l' ts x
inits_first l' l d e g h a ts x f low n same =
    let p : Finds (reads_init (suc d) g) ts (got (init_shape a) x) = subst (λ e. Finds (reads_init e g) ts (got (init_shape a) x)) (below e d low) f.finds in
    subst (λ l. InitsFrom d g l ts x) (sym (same ∙ ap (λ l. l ++ a ∷ []) n)) (inits_start d g a ts x p)

pub inits_first_measured : (l' l : List Init) (e g h : ℕ) (a : Init) (ts x : List Token) → Found (reads_init e g) init_height ts (init_shape a) h x → l ≡ [] → l' ≡ l ++ a ∷ [] → h ≡ inits_height (init_list l')
inits_first_measured l' l e g h a ts x f none same =
    let n : max 0 h ≡ inits_height (init_list l') = inits_now l' [] a 0 h refl f.levels (same ∙ ap (λ l. l ++ a ∷ []) none) in
    omega (arith, n)

pub inits_further : (l' : List Init) (d e g k : ℕ) (l : List Init) (a : Init) (ts rest r x : List Token) → InitsFrom d g l ts rest → further rest ≡ Some r → Found (reads_init e g) init_height r (init_shape a) k x → e ≡ d + 1 → l' ≡ l ++ a ∷ [] → InitsFrom d g l' ts x
inits_further l' d e g k l a ts rest r x p m f low same = inits_more l' d g l a ts rest r x p m (subst (λ e. Finds (reads_init e g) r (got (init_shape a) x)) (below e d low) f.finds) same

pub inits_measured : (l' : List Init) (e g h k v : ℕ) (l : List Init) (a : Init) (r x : List Token) → Found (reads_init e g) init_height r (init_shape a) k x → h ≡ inits_height (init_list l) → l' ≡ l ++ a ∷ [] → v ≡ max h k → v ≡ inits_height (init_list l')
inits_measured l' e g h k v l a r x f m same q = q ∙ inits_now l' l a h k m f.levels same

pub inits_read : (d g h : ℕ) (l : List Init) (ts rest : List Token) → InitsFrom d g l ts rest → further rest ≡ None → h ≡ inits_height (init_list l) → Found (inits_of d g) inits_height ts (init_list l) h rest
inits_read d g h l ts rest p e m = record { finds = inits_done d g l ts rest p e; levels = m }
