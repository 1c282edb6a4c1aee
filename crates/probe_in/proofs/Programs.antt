-- Programs of the checker, with their probes.
use Rattle.std.proofs.Common.{◌≡◌, ℕ, List, Some, None, is_some, sym, ap, ◌∙◌, subst}
use Rattle.std.proofs.Props.{props}
use Rattle.std.proofs.Math.Logic.{∥∥₁_elim, ∥∥₁_map}
use Rattle.c_syntax.specs.declared.text.Text.{Text}
use Rattle.c_syntax.specs.Shape.{UnitShape}
use Rattle.c_tables.specs.Tables.{TablesShape}
use Rattle.c_tree.specs.Erased.{erased_unit}
use Rattle.c_constants.specs.Probes.{digest_of}
use Rattle.c_tree.specs.Programs.{IsProgram, HasFewTokens, IsLimited, itself, without_probes, HoldsProgram, digest_in}
use Rattle.c_sites_probes.specs.Marked.{unit_mark}
use Rattle.c_sites_probes.specs.Owned.{owner_of, owned_in}
use Rattle.c_meaning.specs.Calls.{Source}
use Rattle.probe_rules.specs.Instrumented.{instrumented}
use Rattle.probe_rules.specs.Simulation.{Simulates}
use Rattle.probe_rules.proofs.ErasedPlain.{plain_erased}
use Rattle.probe_rules.proofs.ErasedUnits.{instrumented_erased}
use Rattle.probe_laws.specs.Laws.{IsTaken}
use Rattle.probe_laws.specs.Owners.{owner_in_program}
use Rattle.probe_laws.proofs.Laws.{taken_is_plain, taken_is_few, program_simulates}
use Rattle.probe_laws.proofs.Owners.{program_owns}
use Rattle.probe_programs.specs.Programs.{IsDigest}
use Rattle.probe_programs.proofs.Whole.{probed_is_program}

abbrev pub source : UnitShape → TablesShape → Source
source u t = record { unit = u; tables = t }

-- ---- what is held

few_plain : (u : UnitShape) (t : TablesShape) → unit_mark u ≡ None → IsLimited u t → HasFewTokens u
few_plain u t plain (itself few) = few
few_plain u t plain (without_probes p few) = subst HasFewTokens (plain_erased u plain) few

with_probes : (digest : Text) (P : Source) → IsDigest digest → IsTaken P → HoldsProgram P.unit P.tables → HoldsProgram (instrumented digest P).unit P.tables
with_probes digest P fits taken h =
    let plain = taken_is_plain P taken in
    let same : erased_unit (instrumented digest P).unit ≡ P.unit = instrumented_erased digest P plain in
    record {
      program = probed_is_program digest P fits (record { program = h.program; plain = plain; few = taken_is_few P taken });
      limited = without_probes (subst (λ v. IsProgram v P.tables) (sym same) h.program) (subst HasFewTokens (sym same) (few_plain P.unit P.tables plain h.limited));
    }

-- with its probes it is a program, and what it was without them
pub probed_held : (digest : Text) (P : Source) (u : UnitShape) (t : TablesShape) (bytes : List ℕ) → IsTaken P → digest_of digest ≡ Some bytes → u ≡ (instrumented digest P).unit → t ≡ P.tables → ∥ HoldsProgram P.unit P.tables ∥₁ → ∥ HoldsProgram u t ∥₁
probed_held digest P u t bytes taken fits e f holds =
    ∥∥₁_map holds (λ h. subst (λ v. HoldsProgram v t) (sym e) (subst (λ s. HoldsProgram (instrumented digest P).unit s) (sym f) (with_probes digest P (ap is_some fits) taken h)))

simulates_prop : (Q P : Source) → IsProp (Simulates Q P)
simulates_prop Q P = hlevel props

pub probed_simulates : (digest : Text) (P Q : Source) → IsTaken P → ∥ HoldsProgram P.unit P.tables ∥₁ → Q ≡ instrumented digest P → Simulates Q P
probed_simulates digest P Q taken holds e =
    ∥∥₁_elim holds (simulates_prop Q P) (λ h. subst (λ s. Simulates s P) (sym e) (program_simulates P h.program taken digest))

-- the unit with its probes and the same tables are the program with its probes, however its digest is said
pub made : (digest spelled : Text) (P : Source) (u : UnitShape) (t : TablesShape) → u ≡ (instrumented digest P).unit → t ≡ P.tables → digest ≡ spelled → source u t ≡ instrumented spelled P
made digest spelled P u t e f g = ap (λ v. source v t) e ∙ ap (λ s. source (instrumented digest P).unit s) f ∙ ap (λ d. instrumented d P) g

-- its line has the digest
pub lined : (digest : Text) (P : Source) (u : UnitShape) (bytes : List ℕ) → u ≡ (instrumented digest P).unit → digest_of digest ≡ Some bytes → digest_in u.line ≡ Some bytes
lined digest P u bytes e f = ap (λ (v : UnitShape). digest_in v.line) e ∙ f

-- without its probes it is the program
pub erased_again : (digest : Text) (P : Source) (u : UnitShape) → IsTaken P → u ≡ (instrumented digest P).unit → erased_unit u ≡ P.unit
erased_again digest P u taken e = ap erased_unit e ∙ instrumented_erased digest P (taken_is_plain P taken)

-- its use probes belong to the decisions of the uses
pub owned_again : (digest : Text) (P : Source) (u : UnitShape) → IsTaken P → u ≡ (instrumented digest P).unit → (n : ℕ) → owner_of n (owned_in u) ≡ owner_in_program P n
owned_again digest P u taken e n = ap (λ v. owner_of n (owned_in v)) e ∙ program_owns P taken digest n
