-- A reader of expressions, types and declarations. It takes the number of levels above what it reads, the number of probes round it, and a
-- number of steps.
use Rattle.std.specs.Prelude.{ℕ, zero, suc, ◌+◌, List, length, Option, Some, None, Bool, true, false, nat_lt, nat_le}
use Rattle.c_base.specs.declared.place.Pos.{Pos}
use Rattle.c_syntax.specs.declared.token.Mark.TheVariants as marks
use Rattle.c_syntax.specs.declared.token.Key.TheVariants as keys
use Rattle.c_syntax.specs.declared.token.Token.{Token}
use Rattle.c_syntax.specs.declared.tree.Star.{Star}
use Rattle.c_syntax.specs.declared.tree.Named.{Named}
use Rattle.c_syntax.specs.Forms.{place}
use Rattle.c_syntax.specs.Shape.{NodeShape, NodeShapes, no_nodes, LengthShapes, no_lengths, TypeShape, SpecShapes, EnumerShapes, no_enumers, DeclShape, decl, DeclShapes, no_decls, more_decls, DeclaratorShape, declarator, DeclaratorShapes, no_declarators, more_declarators, DeclFormShape, arrays, function, ParamsShape, empty, void, params, no_init, one_init, InitShape, one, listed, InitShapes, no_inits, more_inits}
use Rattle.c_syntax.specs.Shaped.{level, Standing, in_members, in_params, name_fits, may_be_open, is_in_names, may_begin}
use Rattle.c_grammar.specs.Look.{Got, got, then_go, either_way, where_true, if_so, after, after_key, expect}
use Rattle.c_grammar.specs.Starts.{sign, start, spec_head, is_spec}
use Rattle.c_grammar.specs.ExprReader.{Below, one_more, front, next, length_more, length_from, reads_stars, type_from, maybe_named, Lists, enumer_from, spec_list, some_from}

-- DECLARATORS

abbrev pub function_got : ParamsShape → List Token → Got DeclFormShape
function_got ps ts = Some (function ps, ts)

abbrev pub arrays_got : LengthShapes → List Token → Got DeclFormShape
arrays_got ls ts = Some (arrays ls, ts)

-- the readers of what stands behind a declared name
pub record Behind : Type 0 where
  -- array lengths behind so many stars
  pub lengths : ℕ → List Token → Got LengthShapes
  -- parameters and the closing parenthesis
  pub parameters : List Token → Got ParamsShape
  pub initialiser : List Token → Got InitShape

abbrev pub behind_from : Standing → Behind → ℕ → List Token → Got DeclFormShape
behind_from s R c ts = either_way (after marks.LeftParen ts) (λ r. where_true (is_in_names s) (then_go (R.parameters r) function_got)) (then_go (R.lengths c ts) arrays_got)

abbrev pub declarator_made : List Star → Option Named → DeclFormShape → InitShape → List Token → Got DeclaratorShape
declarator_made ss n f i ts = Some (declarator ss n f (one_init i), ts)

abbrev pub declarator_init : Standing → Behind → List Star → Option Named → DeclFormShape → List Token → Got DeclaratorShape
declarator_init s R ss n f ts = either_way (after marks.Equal ts) (λ r. where_true (may_begin s f) (then_go (R.initialiser r) (declarator_made ss n f))) (got (declarator ss n f no_init) ts)

abbrev pub declarator_behind : Standing → Behind → List Star → Option Named → List Token → Got DeclaratorShape
declarator_behind s R ss n ts = where_true (name_fits s n) (then_go (behind_from s R (length ss) ts) (declarator_init s R ss n))

abbrev pub declarator_name : Standing → Behind → List Star → List Token → Got DeclaratorShape
declarator_name s R ss ts = then_go (maybe_named ts) (declarator_behind s R ss)

abbrev pub declarator_onto : DeclaratorShape → DeclaratorShapes → List Token → Got DeclaratorShapes
declarator_onto d ds ts = Some (more_declarators d ds, ts)

abbrev pub declarator_more : (List Token → Got DeclaratorShapes) → DeclaratorShape → List Token → Got DeclaratorShapes
declarator_more more d ts = then_go (more ts) (declarator_onto d)

-- DECLARATIONS AND PARAMETERS

abbrev pub decl_onto : DeclShape → DeclShapes → List Token → Got DeclShapes
decl_onto d ds ts = Some (more_decls d ds, ts)

abbrev pub decl_more : (List Token → Got DeclShapes) → DeclShape → List Token → Got DeclShapes
decl_more more d ts = then_go (more ts) (decl_onto d)

abbrev pub decl_end : Pos → SpecShapes → DeclaratorShape → DeclaratorShapes → List Token → Got DeclShape
decl_end p specs d ds ts = expect marks.Semicolon (decl p specs (more_declarators d ds)) ts

abbrev pub decl_first : (List Token → Got DeclaratorShapes) → Pos → SpecShapes → DeclaratorShape → List Token → Got DeclShape
decl_first more p specs d ts = then_go (more ts) (decl_end p specs d)

abbrev pub decl_specs : Standing → (List Token → Got DeclaratorShape) → (List Token → Got DeclaratorShapes) → Pos → SpecShapes → List Token → Got DeclShape
decl_specs s first more p specs ts =
    either_way (after marks.Semicolon ts) (λ r. where_true (is_in_names s) (got (decl p specs no_declarators) r)) (then_go (first ts) (decl_first more p specs))

abbrev pub decl_from : Standing → (List Token → Got SpecShapes) → (List Token → Got DeclaratorShape) → (List Token → Got DeclaratorShapes) → List Token → Got DeclShape
decl_from s specs first more ts = then_go (specs ts) (decl_specs s first more (place ts))

abbrev pub param_made : Pos → SpecShapes → DeclaratorShape → List Token → Got DeclShape
param_made p specs d ts = Some (decl p specs (more_declarators d no_declarators), ts)

abbrev pub param_specs : (List Token → Got DeclaratorShape) → Pos → SpecShapes → List Token → Got DeclShape
param_specs first p specs ts = then_go (first ts) (param_made p specs)

abbrev pub param_from : (List Token → Got SpecShapes) → (List Token → Got DeclaratorShape) → List Token → Got DeclShape
param_from specs first ts = then_go (specs ts) (param_specs first (place ts))

abbrev pub closing : Option (List Token) → Option (List Token)
closing None = None
closing (Some ts) = after marks.RightParen ts

-- behind `void )`
abbrev pub void_ahead : List Token → Option (List Token)
void_ahead ts = closing (after_key keys.Void ts)

abbrev pub params_end : DeclShapes → List Token → Got ParamsShape
params_end ds ts = expect marks.RightParen (params ds) ts

abbrev pub params_from : (List Token → Got DeclShape) → (List Token → Got DeclShapes) → List Token → Got ParamsShape
params_from first more ts =
    either_way (after marks.RightParen ts) (got empty) (either_way (void_ahead ts) (got void) (then_go (then_go (first ts) (decl_more more)) params_end))

-- INITIALISERS

abbrev pub init_got : NodeShape → List Token → Got InitShape
init_got a ts = Some (one a, ts)

abbrev pub init_onto : InitShape → InitShapes → List Token → Got InitShapes
init_onto i is' ts = Some (more_inits i is', ts)

abbrev pub init_more : (List Token → Got InitShapes) → InitShape → List Token → Got InitShapes
init_more more i ts = then_go (more ts) (init_onto i)

-- the end of a list in braces, with a comma before it or not
abbrev pub listed_end : Pos → InitShapes → List Token → Got InitShape
listed_end p is' ts = either_way (after marks.Comma ts) (expect marks.RightBrace (listed p is' true)) (expect marks.RightBrace (listed p is' false) ts)

abbrev pub unless_closed : List Token → Option (List Token) → Option (List Token)
unless_closed ts None = Some ts
unless_closed ts (Some r) = None

abbrev pub unless_last : Option (List Token) → Option (List Token)
unless_last None = None
unless_last (Some ts) = unless_closed ts (after marks.RightBrace ts)

-- behind a comma that isn't the last one
abbrev pub further : List Token → Option (List Token)
further ts = unless_last (after marks.Comma ts)

-- THE READER

abbrev mutual
  -- an expression that binds at least as tightly as n
  pub reads : ℕ → ℕ → ℕ → ℕ → List Token → Got NodeShape
  reads n d g zero ts = None
  reads n d g (suc k) ts =
      where_true (nat_lt d 400) (then_go
      (front (record {
        operand = λ l r. reads l (suc d) g k r;
        inner = λ l r. reads l d (suc g) k r;
        listed = λ r. reads_led 1 (suc d) g k r;
        cases = λ r. reads_led 2 d (suc g) k r;
        type = λ r. type_from (some_from (λ l. reads_specs (suc d) g k l)) (reads_stars (suc d) k) (λ c l. reads_lengths false (c + suc d) g k l) r;
      }) g ts (start ts))
      (λ a r. where_true (nat_le n (level a)) (climbs n d g a k r)))

  -- on from the tree so far
  pub climbs : ℕ → ℕ → ℕ → NodeShape → ℕ → List Token → Got NodeShape
  climbs n d g a zero ts = None
  climbs n d g a (suc k) ts =
      next (record {
        operand = λ l r. reads l (suc d) g k r;
        inner = λ l r. reads l d (suc g) k r;
        listed = λ r. reads_led 1 (suc d) g k r;
        cases = λ r. reads_led 2 d (suc g) k r;
        type = λ r. type_from (some_from (λ l. reads_specs (suc d) g k l)) (reads_stars (suc d) k) (λ c l. reads_lengths false (c + suc d) g k l) r;
      }) (λ b r. climbs n d g b k r) n d a ts (sign ts)

  -- expressions with a comma in front of each
  pub reads_led : ℕ → ℕ → ℕ → ℕ → List Token → Got NodeShapes
  reads_led n d g zero ts = None
  reads_led n d g (suc k) ts = either_way (after marks.Comma ts) (λ r. then_go (reads n d g k r) (one_more (λ l. reads_led n d g k l))) (got no_nodes ts)

  -- array lengths, with d levels above the first bracket
  pub reads_lengths : Bool → ℕ → ℕ → ℕ → List Token → Got LengthShapes
  reads_lengths free d g zero ts = None
  reads_lengths free d g (suc k) ts =
      either_way (after marks.LeftBracket ts)
      (λ r. where_true (nat_lt d 400) (then_go (length_from free (λ l. reads 2 (suc d) g k l) r) (length_more (λ l. reads_lengths free (suc d) g k l))))
      (got no_lengths ts)

  -- specifiers, with d levels above what stands in braces
  pub reads_specs : ℕ → ℕ → ℕ → List Token → Got SpecShapes
  reads_specs d g zero ts = None
  reads_specs d g (suc k) ts =
      spec_list (record {
        fields = λ r. reads_decls in_members (suc d) g k r;
        value = λ r. reads 2 d g k r;
        constants = λ r. reads_enumers d g k r;
      }) d (λ r. reads_specs d g k r) ts (spec_head ts)

  -- enumerators with a comma in front of each
  pub reads_enumers : ℕ → ℕ → ℕ → List Token → Got EnumerShapes
  reads_enumers d g zero ts = None
  reads_enumers d g (suc k) ts = either_way (after marks.Comma ts) (enumer_from (λ l. reads 2 d g k l) (λ l. reads_enumers d g k l)) (got no_enumers ts)

  -- declarations, or the lines of a member list
  pub reads_decls : Standing → ℕ → ℕ → ℕ → List Token → Got DeclShapes
  reads_decls s d g zero ts = None
  reads_decls s d g (suc k) ts =
      if_so (is_spec (spec_head ts))
      (then_go (decl_from s (λ l. reads_specs d g k l) (λ l. reads_declarator s d g k l) (λ l. reads_declarators s d g k l) ts) (decl_more (λ l. reads_decls s d g k l)))
      (got no_decls ts)

  -- declarators with a comma in front of each
  pub reads_declarators : Standing → ℕ → ℕ → ℕ → List Token → Got DeclaratorShapes
  reads_declarators s d g zero ts = None
  reads_declarators s d g (suc k) ts =
      either_way (after marks.Comma ts) (λ r. then_go (reads_declarator s d g k r) (declarator_more (λ l. reads_declarators s d g k l))) (got no_declarators ts)

  pub reads_declarator : Standing → ℕ → ℕ → ℕ → List Token → Got DeclaratorShape
  reads_declarator s d g zero ts = None
  reads_declarator s d g (suc k) ts =
      where_true (nat_lt d 400) (then_go (reads_stars (suc d) k ts) (declarator_name s (record {
        lengths = λ c l. reads_lengths (may_be_open s) (c + suc d) g k l;
        parameters = λ l. params_from (param_from (some_from (λ r. reads_specs (suc d) g k r)) (λ r. reads_declarator in_params (suc d) g k r)) (λ r. reads_params (suc d) g k r) l;
        initialiser = λ l. reads_init (suc d) g k l;
      })))

  -- parameters with a comma in front of each
  pub reads_params : ℕ → ℕ → ℕ → List Token → Got DeclShapes
  reads_params d g zero ts = None
  reads_params d g (suc k) ts =
      either_way (after marks.Comma ts)
      (λ r. then_go (param_from (some_from (λ l. reads_specs d g k l)) (λ l. reads_declarator in_params d g k l) r) (decl_more (λ l. reads_params d g k l)))
      (got no_decls ts)

  pub reads_init : ℕ → ℕ → ℕ → List Token → Got InitShape
  reads_init d g zero ts = None
  reads_init d g (suc k) ts =
      where_true (nat_lt d 400) (either_way (after marks.LeftBrace ts)
      (λ r. then_go (then_go (reads_init (suc d) g k r) (init_more (λ l. reads_inits (suc d) g k l))) (listed_end (place ts)))
      (then_go (reads 1 (suc d) g k ts) init_got))

  -- initialisers with a comma in front of each
  pub reads_inits : ℕ → ℕ → ℕ → List Token → Got InitShapes
  reads_inits d g zero ts = None
  reads_inits d g (suc k) ts = either_way (further ts) (λ r. then_go (reads_init d g k r) (init_more (λ l. reads_inits d g k l))) (got no_inits ts)

-- WHAT ITS PARTS READ

abbrev pub reads_some : ℕ → ℕ → ℕ → List Token → Got SpecShapes
reads_some d g k ts = some_from (λ l. reads_specs d g k l) ts

-- a type name, with d levels above its first star
abbrev pub reads_type : ℕ → ℕ → ℕ → List Token → Got TypeShape
reads_type d g k ts = type_from (some_from (λ l. reads_specs d g k l)) (reads_stars d k) (λ c l. reads_lengths false (c + d) g k l) ts

-- what stands below an expression that has d levels above it
abbrev pub below : ℕ → ℕ → ℕ → Below
below d g k = record {
  operand = λ l r. reads l (suc d) g k r;
  inner = λ l r. reads l d (suc g) k r;
  listed = λ r. reads_led 1 (suc d) g k r;
  cases = λ r. reads_led 2 d (suc g) k r;
  type = λ r. reads_type (suc d) g k r;
}

abbrev pub fronts : ℕ → ℕ → ℕ → List Token → Got NodeShape
fronts d g k ts = front (below d g k) g ts (start ts)

abbrev pub lists : ℕ → ℕ → ℕ → Lists
lists d g k = record {
  fields = λ r. reads_decls in_members (suc d) g k r;
  value = λ r. reads 2 d g k r;
  constants = λ r. reads_enumers d g k r;
}

abbrev pub reads_param : ℕ → ℕ → ℕ → List Token → Got DeclShape
reads_param d g k ts = param_from (some_from (λ l. reads_specs d g k l)) (λ l. reads_declarator in_params d g k l) ts

-- parameters and the closing parenthesis
abbrev pub reads_parameters : ℕ → ℕ → ℕ → List Token → Got ParamsShape
reads_parameters d g k ts = params_from (param_from (some_from (λ r. reads_specs d g k r)) (λ r. reads_declarator in_params d g k r)) (λ r. reads_params d g k r) ts

abbrev pub behinds : Standing → ℕ → ℕ → ℕ → Behind
behinds s d g k = record {
  lengths = λ c l. reads_lengths (may_be_open s) (c + suc d) g k l;
  parameters = λ l. reads_parameters (suc d) g k l;
  initialiser = λ l. reads_init (suc d) g k l;
}

abbrev pub reads_decl : Standing → ℕ → ℕ → ℕ → List Token → Got DeclShape
reads_decl s d g k ts = decl_from s (λ l. reads_specs d g k l) (λ l. reads_declarator s d g k l) (λ l. reads_declarators s d g k l) ts
