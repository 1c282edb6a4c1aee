-- A tag opens a new structure or one that is there.
use Rattle.std.specs.Prelude.{Bool, true, false, Option, Some, None, if◌then◌else◌}
use Rattle.c_base.specs.declared.place.Pos.{Pos}
use Rattle.c_syntax.specs.declared.text.Text.{Text}
use Rattle.c_syntax.specs.declared.tree.Named.{Named}
use Rattle.c_scopes.specs.Rows.{Scope}
use Rattle.c_scopes.specs.Scoping.{find_here, find}
use Rattle.c_tables.specs.Rows.{row}
use Rattle.c_tree.specs.declared.meaning.Entity.{Entity}
use Rattle.c_tree.specs.declared.meaning.Tag.{Tag}
use Rattle.c_tree.specs.declared.meaning.Tag.TheVariants as tag
use Rattle.c_tree.specs.State.{State, is_set}
use Rattle.c_tree.specs.Parts.{with_structure, new_structure, twice, known_structure, listed_structure, Opened, opened}
use Rattle.flow_initial.proofs.Cores.{Core, core, At}

module _ (J : Core → Scope Entity → Type 0) (unnamed : (s : State) → At J s → At J (with_structure None s)) (named : (x : Text) (s : State) → At J s → At J (new_structure x s).state) where
  known_keeps : (p : Pos) (x : Text) (t : Option Tag) (s : State) → At J s → At J (known_structure p x t s).state
  known_keeps p x None s h = named x s h
  known_keeps p x (Some (tag.Structure n)) s h = h
  known_keeps p x (Some tag.Enumeration) s h = h

  either_keeps : (b : Bool) (y z : Opened) → At J y.state → At J z.state → At J (if b then y else z).state
  either_keeps true y z h g = h
  either_keeps false y z h g = g

  listed_keeps : (p : Pos) (x : Text) (t : Option Tag) (s : State) → At J s → At J (listed_structure p x t s).state
  listed_keeps p x None s h = named x s h
  listed_keeps p x (Some (tag.Structure n)) s h = either_keeps (is_set (row s.begun n)) (twice p s) (record { number = Some n; state = s }) h h
  listed_keeps p x (Some tag.Enumeration) s h = h

  pub opened_at : (alone list : Bool) (x : Option Named) (s : State) → At J s → At J (opened alone list x s).state
  opened_at alone true None s h = unnamed s h
  opened_at alone true (Some x) s h = listed_keeps x.pos x.text (find_here x.text s.tags) s h
  opened_at alone false None s h = h
  opened_at alone false (Some x) s h = known_keeps x.pos x.text (if alone then find_here x.text s.tags else find x.text s.tags) s h

-- a property of no scope
pub opened_keeps : (J : Core → Type 0) → ((s : State) → J (core s) → J (core (with_structure None s))) → ((x : Text) (s : State) → J (core s) → J (core (new_structure x s).state))
    → (alone list : Bool) (x : Option Named) (s : State) → J (core s) → J (core (opened alone list x s).state)
opened_keeps J unnamed named = opened_at (λ c names. J c) unnamed named
