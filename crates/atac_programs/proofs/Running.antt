-- The run of the program with its probes, as the program's own, and what it covers.
use Rattle.std.proofs.Common.{◌≡◌, sym, ap, ◌∙◌, refl, List, [], ◌∷◌, ◌++◌, ℕ, Option, Bool, true, false}
use Rattle.std.specs.Prelude.{◌↔◌, ◌||◌, IsTrue}
use Rattle.std.specs.List.{flat_map}
use Rattle.c_events.specs.declared.events.Event.{Event}
use Rattle.c_events.specs.Owners.{owner_in}
use Rattle.atac_facts.specs.declared.fact.Fact.{Fact}
use Rattle.atac_facts.specs.Sets.{FactSet, holds}
use Rattle.c_meaning.specs.declared.end.RunEnd.{RunEnd}
use Rattle.c_meaning.specs.Calls.{Source}
use Rattle.c_meaning.specs.Deeds.{told}
use Rattle.c_meaning.specs.Runs.{Outcome, run, run_heard}
use Rattle.c_meaning.proofs.QuietCalls.{run_is_quiet}
use Rattle.c_machine.specs.Run.{outcome_of}
use Rattle.probe_rules.specs.Simulation.{Simulates, as_logged}
use Rattle.probe_laws.specs.Owners.{owner_in_program}
use Rattle.cover_parts.specs.Covered.{Covered}
use Rattle.cover_parts.specs.Gaining.{Has}
use Rattle.cover_law.specs.Covers.{covers}
use Rattle.cover_law.proofs.Covering.{covered_law, same_owners}
use Rattle.atac_programs.specs.Sections.{section_text, end_line_text}
use Rattle.atac_programs.specs.Programs.{section, shown, with_run, events, all_events, end_lines}

module _ (P Q : Source) (input : List ℕ) (limit : ℕ) (r : RunEnd) (log : List Event) (simulates : Simulates Q P) (ran : run Q input limit ≡ outcome_of r log) where
  same_run : as_logged (run_heard P input limit) ≡ outcome_of r log
  same_run = sym (simulates input limit) ∙ ran

  pub same_log : log ≡ told (run_heard P input limit).deeds
  same_log = sym (ap (λ (o : Outcome). o.log) same_run)

  pub same_section : (name : List ℕ) → section_text name (outcome_of r log) ≡ section name P input limit
  same_section name = ap (section_text name) (sym same_run) ∙ sym (ap (section_text name) (run_is_quiet P input limit))

no_truth : IsTrue false → ⊥
no_truth h = let e : false ≡ true = h in cc

-- two tests that hold of the same are the same
tests_agree : (a b : Bool) → (IsTrue a → IsTrue b) → (IsTrue b → IsTrue a) → a ≡ b
tests_agree true b f g = sym (f refl)
tests_agree false true f g = absurd (no_truth (g refl))
tests_agree false false f g = refl

-- a set with the facts of the log has what the test says, by owners that are the same
pub collected_by : (owner : ℕ → Option ℕ) (owners : List (Option ℕ)) (log : List Event) (s : FactSet) (f : Fact) → ((n : ℕ) → owner_in owners n ≡ owner n)
    → (Has s f ↔ Covered (owner_in owners) log f) → holds s f ≡ covers owner log f
unfolding Has
collected_by owner owners log s f same h =
    tests_agree (holds s f) (covers (owner_in owners) log f) (λ x. (covered_law (owner_in owners) log f).1 (h.0 x)) (λ x. h.1 ((covered_law (owner_in owners) log f).0 x))
    ∙ same_owners (owner_in owners) owner same log f

-- where they are the program's
pub collected : (P : Source) (owners : List (Option ℕ)) (log : List Event) (s : FactSet) (f : Fact) → ((n : ℕ) → owner_in owners n ≡ owner_in_program P n)
    → (Has s f ↔ Covered (owner_in owners) log f) → holds s f ≡ covers (owner_in_program P) log f
collected P owners log s f same h = collected_by (owner_in_program P) owners log s f same h

or_nothing : (a : Bool) → (a || false) ≡ a
or_nothing true = refl
or_nothing false = refl

or_assoc : (a b c : Bool) → ((a || b) || c) ≡ (a || (b || c))
or_assoc true b c = refl
or_assoc false b c = refl

or_commutes : (a b : Bool) → (a || b) ≡ (b || a)
or_commutes true true = refl
or_commutes true false = refl
or_commutes false true = refl
or_commutes false false = refl

-- one run more
pub shown_more : (P : Source) (limit : ℕ) (all : List (List ℕ)) (bytes : List ℕ) (f : Fact) → with_run P limit bytes (shown P limit all) f ≡ shown P limit (all ++ bytes ∷ []) f
shown_more P limit [] bytes f = or_commutes false (covers (owner_in_program P) (told (run_heard P bytes limit).deeds) f)
shown_more P limit (b ∷ all) bytes f =
    or_assoc (covers (owner_in_program P) (told (run_heard P b limit).deeds) f) (shown P limit all f) (covers (owner_in_program P) (told (run_heard P bytes limit).deeds) f)
    ∙ ap (λ x. covers (owner_in_program P) (told (run_heard P b limit).deeds) f || x) (shown_more P limit all bytes f)

-- ---- runs of which no event was collected

module _ (P Q : Source) (limit : ℕ) (simulates : Simulates Q P) where
  pub probed_section : (name input : List ℕ) → section_text name (run Q input limit) ≡ section name P input limit
  probed_section name input = ap (section_text name) (simulates input limit) ∙ sym (ap (section_text name) (run_is_quiet P input limit))

  pub probed_log : (input : List ℕ) → (run Q input limit).log ≡ events P limit input
  probed_log input = ap (λ (o : Outcome). o.log) (simulates input limit)

  pub probed_logs : (inputs : List (List ℕ)) → flat_map (λ input. (run Q input limit).log) inputs ≡ all_events P limit inputs
  probed_logs [] = refl
  probed_logs (i ∷ inputs) = ap (λ l. l ++ flat_map (λ input. (run Q input limit).log) inputs) (probed_log i) ∙ ap (λ l. events P limit i ++ l) (probed_logs inputs)

  probed_line : (input : List ℕ) → end_line_text (run Q input limit) ≡ end_line_text (run P input limit)
  probed_line input = ap end_line_text (simulates input limit) ∙ sym (ap end_line_text (run_is_quiet P input limit))

  pub probed_lines : (inputs : List (List ℕ)) → flat_map (λ input. end_line_text (run Q input limit)) inputs ≡ end_lines P limit inputs
  probed_lines [] = refl
  probed_lines (i ∷ inputs) = ap (λ l. l ++ flat_map (λ input. end_line_text (run Q input limit)) inputs) (probed_line i) ∙ ap (λ l. end_line_text (run P i limit) ++ l) (probed_lines inputs)
