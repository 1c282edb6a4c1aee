-- What the collector's parts say of the events so far.
use Rattle.std.specs.Prelude.{◌≡◌, ◌↔◌, ℕ, ◌≤◌, List, Option, Some}
use Rattle.std.specs.List.{Contains}
use Rattle.c_events.specs.declared.events.Event.{Event}
use Rattle.atac_facts.specs.declared.fact.Fact.{Fact}
use Rattle.atac_facts.specs.Sets.{FactSet}
use Rattle.atac_base.specs.Telling.{IsOf}
use Rattle.c_events.specs.declared.events.Cell.{Cell}
use Rattle.cover_parts.specs.declared.pending.Wait.{Wait}
use Rattle.cover_parts.specs.Covered.{At, Covered, IsPending, LastIs}
use Rattle.cover_parts.specs.Gaining.{Has}
use Rattle.cover_parts.specs.Rows.{Table, word_of}
use Rattle.cover_parts.specs.Lives.{lives}
use Rattle.cover_core.specs.declared.collector.Collector.{Collector}

-- the facts and the pairs that wait are those of the events; the words are the cells' last definitions; and no event has a
-- cell of an instance above the greatest so far
pub record StandsFor (owner : ℕ → Option ℕ) (facts : FactSet) (waits : List Wait) (rows : Table) (h : List Event) : Type 0 where
  pub covered : (f : Fact) → Has facts f ↔ Covered owner h f
  pub pending : (w : Wait) → Contains waits w ↔ IsPending owner h w.decision w.activation w.definition w.user
  pub last : (c : Cell) (word : Option ℕ) → word_of rows.live c ≡ Some word → LastIs h c word
  pub below : (i : ℕ) (e : Event) → At h i e → IsOf (λ c. c.instance ≤ rows.top) e

-- the owner of each use, by the use's number
abbrev pub owners_of : Collector → List (Option ℕ)
owners_of c = c.owners

-- the instances that were made and haven't ended, each with how many cells it has
abbrev pub lives_in : Collector → List (ℕ × ℕ)
lives_in c = lives c.rows.live
