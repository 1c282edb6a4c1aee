-- One input of a cover: its section, and what stands behind it.
use Rattle.std.proofs.Common.{◌≡◌, ap, ◌∙◌, subst, inr, List, [], ◌∷◌, ◌++◌, ℕ, Option}
use Rattle.std.specs.Prelude.{Bool, Result, Ok, Err}
use Rattle.std.specs.Io.KnownBytes.{append_known}
use Rattle.atac_facts.specs.declared.fact.Fact.{Fact}
use Rattle.atac_base.specs.Items.{ItemLists}
use Rattle.atac_base.specs.Outside.{ShelfState, SinkState, IsFront}
use Rattle.c_meaning.specs.Calls.{Source}
use Rattle.atac_programs.specs.Programs.{section, shown}
use Rattle.atac_commands.specs.Answers.{input_most}
use Rattle.atac_steps.specs.Got.{gets, Gets}
use Rattle.atac_steps.specs.Steps.{Puts}
use Rattle.atac_programs.specs.Programs.{with_run}
use Rattle.atac_commands.specs.Progress.{Stands, SectionGives}
use Rattle.atac_steps.specs.declared.stop.Stop.{Stop}
use Rattle.atac_commands.specs.declared.covering.Covering.{Covering}
use Rattle.atac_programs.proofs.Running.{shown_more}

module _ (shelf shelf' : ShelfState) (out out' : SinkState) (input : List ℕ) (P : Source) (items : ItemLists) (limit : ℕ) (has : Fact → Bool) (c : Covering) (found : Option (List ℕ)) (bytes given piece : List ℕ) where
  -- the section was put, or a front of it
  pub section_gives : (r : Result (Unit {0}) Stop) → given ≡ bytes → gets input input_most found ≡ Gets bytes → Puts out out' piece r → piece ≡ section input P given limit → Stands P items (with_run P limit given has) c
      → SectionGives shelf shelf' out out' input P items limit has c found r
  section_gives (Ok x) same got put is stands =
      (bytes, got, put.gives ∙ ap (append_known out.bytes) (is ∙ ap (λ b. section input P b limit) same), subst (λ b. Stands P items (with_run P limit b has) c) same stands)
  section_gives (Err stop) same got put is stands =
      let whole : piece ≡ section input P bytes limit = is ∙ ap (λ b. section input P b limit) same in
      inr (bytes, got, (put.gives.0.0, subst (λ p. IsFront put.gives.0.0 p) whole put.gives.0.1, put.gives.0.2), put.gives.1)

-- the facts are those of one run more
pub stands_on : (P : Source) (items : ItemLists) (limit : ℕ) (got : List (List ℕ)) (bytes : List ℕ) (c : Covering) → Stands P items (with_run P limit bytes (shown P limit got)) c → Stands P items (shown P limit (got ++ bytes ∷ [])) c
stands_on P items limit got bytes c s = record { simulates = s.simulates; owners = s.owners; listed = s.listed; facts = λ f. s.facts f ∙ shown_more P limit got bytes f }
