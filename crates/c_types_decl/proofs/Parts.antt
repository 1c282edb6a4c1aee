-- Steps that are made of others.
use Rattle.std.proofs.Common.{◌≡◌, ℕ, Bool, true, false, if◌then◌else◌, List, ◌++◌, Option, Some, None, refl}
use Rattle.c_base.specs.declared.place.Pos.{Pos}
use Rattle.c_syntax.specs.declared.text.Text.{Text}
use Rattle.c_syntax.specs.declared.tree.Named.{Named}
use Rattle.c_syntax.specs.declared.tree.Star.{Star}
use Rattle.c_syntax.specs.Shape.{TypeOf, SpecShapes, DeclShape, decl, declarator, DeclaratorShapes, no_declarators, more_declarators, DeclFormShape, MaybeInit}
use Rattle.c_scopes.specs.Scoping.{find_here}
use Rattle.c_tree.specs.State.{State, steps, mention}
use Rattle.c_tree.specs.Rulings.{kind_at, rule}
use Rattle.c_tree.specs.Parts.{unspelled, spelled_rule}
use Rattle.c_tree.specs.Typing.{type_specs}
use Rattle.c_tree.specs.Declaring.{none_declared, semicolon, type_declarators, type_decl, Signature, is_builtin, function_entity, function_at, declare_function}
use Rattle.c_tree.specs.declared.meaning.Entity.{Entity}
use Rattle.c_tables.specs.declared.builtins.Builtin.{Builtin}
use Rattle.c_tree.specs.declared.meaning.Entity.TheVariants as entity
use Rattle.c_tables.specs.declared.builtins.Builtin.TheVariants.{GetChar, PutChar, Exit}
use Rattle.c_types_decl.specs.Entities.{signature, builtin_of, entity_or}
use Rattle.c_types_decl.specs.Steps.{type_form, type_item}

-- a declaration: its specifiers, and its declarators
module _ (p : Pos) (specs : SpecShapes) (names : DeclaratorShapes) (b : Bool) (k : Option TypeOf) (s t : State) (a : b ≡ none_declared names)
    (e : k ≡ kind_at (spelled_rule (type_specs b specs unspelled s).spelled)) (f : t ≡ rule (spelled_rule (type_specs b specs unspelled s).spelled) s.at p (type_specs b specs unspelled s).state) where
  pub decl_tree : (specs' : SpecShapes) (names' : DeclaratorShapes) → specs' ≡ (type_specs b specs unspelled s).specs → names' ≡ (type_declarators k names (steps (semicolon names) t)).names → decl p specs' names' ≡ (type_decl (decl p specs names) s).decl
  decl_tree specs' names' g h = rw (g, h, f, e, a) refl

  pub decl_state : (u : State) → u ≡ (type_declarators k names (steps (semicolon names) t)).state → u ≡ (type_decl (decl p specs names) s).state
  decl_state u h = rw (h, f, e, a) refl

-- a declaration of a parameter list, of its parts
module _ (b : Bool) (d : DeclShape) (p : Pos) (specs : SpecShapes) (stars stars' : List Star) (x : Option Named) (f : DeclFormShape) (i : MaybeInit) (s : State)
    (o : d ≡ decl p specs (more_declarators (declarator stars x f i) no_declarators)) (e : stars' ≡ stars) where
  pub item_tree : (specs' : SpecShapes) (f' : DeclFormShape) → specs' ≡ (type_form b p specs stars' x f s).specs → f' ≡ (type_form b p specs stars' x f s).form → decl p specs' (more_declarators (declarator stars x f' i) no_declarators) ≡ (type_item b d s).param
  item_tree specs' f' g h = rw (g, h, e, o) refl

  pub item_given : (gs gs' : List (Text × Option TypeOf)) → gs' ≡ gs ++ (type_form b p specs stars' x f s).given → gs' ≡ gs ++ (type_item b d s).given
  item_given gs gs' g = rw (g, e, o) refl

  pub item_state : (t : State) → t ≡ (type_form b p specs stars' x f s).state → t ≡ (type_item b d s).state
  item_state t g = rw (g, e, o) refl

-- a function is the built-in one of its name and type, or the one with its number
entity_is : (x : Text) (f : Signature) (n : ℕ) → function_entity x f n ≡ entity_or (builtin_of x f) n
entity_is x f n = by_tests (is_builtin GetChar x f) (is_builtin PutChar x f) (is_builtin Exit x f)
  where
    by_tests : (a b c : Bool) →
        (if a then entity.Builtin GetChar else if b then entity.Builtin PutChar else if c then entity.Builtin Exit else entity.Function n) ≡
        entity_or (if a then Some GetChar else if b then Some PutChar else if c then Some Exit else None) n
    by_tests true b c = refl
    by_tests false true c = refl
    by_tests false false true = refl
    by_tests false false false = refl

pub known_state : (b : Bool) (token : ℕ) (p : Pos) (x x' : Text) (k : TypeOf) (ts ts' : List TypeOf) (o : Option Builtin) (e : Entity) (n : ℕ) (s t u : State) →
    x' ≡ x → ts' ≡ ts → o ≡ builtin_of x' (signature k ts') → n ≡ (mention x' k ts s).number → t ≡ (mention x' k ts s).state → e ≡ entity_or o n →
    u ≡ function_at b token p x' e (find_here x' t.names) t → u ≡ (declare_function b token p x (Some (signature k ts)) s).state
known_state b token p x x' k ts ts' o e n s t u h g q m r w v =
    rw (v, w, q, g, m, r, h, ← entity_is x (signature k ts) (mention x k ts s).number) refl
