-- A property of the innermost scope that is kept where a free name is declared is kept by a list of parameters.
use Rattle.std.specs.Prelude.{◌≡◌, ℕ, List, [], ◌∷◌, ◌++◌, true, Option, Some, None}
use Rattle.c_base.specs.declared.place.Pos.{Pos}
use Rattle.c_syntax.specs.declared.text.Text.{Text}
use Rattle.c_scopes.specs.Rows.{Scope}
use Rattle.c_scopes.specs.Scoping.{named}
use Rattle.c_tables.specs.Tables.{FieldShape}
use Rattle.c_tree.specs.declared.meaning.Entity.{Entity}
use Rattle.c_tree.specs.declared.meaning.Tag.{Tag}
use Rattle.c_tree.specs.State.{State}
use Rattle.c_tree.specs.Parts.{begun_at, closed, listed_enumeration, opened}
use Rattle.flow_initial.proofs.Cores.{KeptInside, lines_of}
use Rattle.flow_initial.proofs.Openings.{opened_at}
use Rattle.flow_values.proofs.Scopes.{named_stays, Stand, stand_declared}

abbrev pub Naming : (Scope Entity → Type 0) → Type 0
Naming J = (x : Text) (e : Entity) (s : Scope Entity) → named x s ≡ None → J s → J (s ++ (x, e) ∷ [])

module _ (J : Scope Entity → Type 0) where
  begun_names : (n : Option ℕ) (s : State) → J s.names.top → J (begun_at n s).names.top
  begun_names None s h = h
  begun_names (Some n) s h = h

  closed_names : (n : Option ℕ) (fields : List FieldShape) (s : State) → J s.names.top → J (closed n fields s).names.top
  closed_names None fields s h = h
  closed_names (Some n) fields s h = h

  listed_names : (p : Pos) (x : Text) (t : Option Tag) (s : State) → J s.names.top → J (listed_enumeration p x t s).names.top
  listed_names p x None s h = h
  listed_names p x (Some t) s h = h

  pub names_kept : Naming J → KeptInside (λ c names. J names)
  names_kept naming = record {
    opening = opened_at (λ c names. J names) (λ s h. h) (λ x s h. h);
    beginning = begun_names;
    closing = λ alone x ds s h g. closed_names (opened alone true x s).number (lines_of alone x ds s).fields (lines_of alone x ds s).state g;
    listing = listed_names;
    hushing = λ s t f h. f h;
    naming = λ x e s free h. naming x e s.names.top free h;
  }

-- what a name stands for, and that each row is what its name stands for
pub meaning_kept : (x : Text) (e : Entity) → KeptInside (λ c names. named x names ≡ Some e)
meaning_kept x e = names_kept (λ t. named x t ≡ Some e) (λ y f t free h. named_stays x e t ((y, f) ∷ []) h)

pub standing_kept : KeptInside (λ c names. Stand names names)
standing_kept = names_kept (λ t. Stand t t) stand_declared
