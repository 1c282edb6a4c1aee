-- What the text that `instrument` keeps of an accepted program is.
use Rattle.std.specs.Prelude.{◌≡◌, ℕ, List, Some}
use Rattle.c_lex_pieces.specs.Written.{AreBytes}
use Rattle.c_tree.specs.Programs.{digest_in}
use Rattle.c_meaning.specs.Calls.{Source}
use Rattle.c_meaning.specs.Runs.{run}
use Rattle.sha2.specs.Sha256.{sha256}
use Rattle.atac_facts.specs.declared.fact.Fact.{Fact}
use Rattle.atac_programs.specs.Programs.{IsInstrumented, IsProbed, program_in, section, events, shown_by, met_by}

-- the text is one program with probes alone, behind a line with that digest, with the sections, the events and the facts of the
-- program's own runs
pub record IsKeptOf (P : Source) (digest text : List ℕ) : Type 0 where
  pub program : Source
  pub read : IsProbed text program
  pub alone : (other : Source) → IsProbed text other → other ≡ program
  pub line : digest_in program.unit.line ≡ Some digest
  pub same : (input bytes : List ℕ) (limit : ℕ) → section input program bytes limit ≡ section input P bytes limit
  pub log : (bytes : List ℕ) (limit : ℕ) → (run program bytes limit).log ≡ events P limit bytes
  pub met : (bytes : List ℕ) (limit : ℕ) (f : Fact) → met_by program limit bytes f ≡ shown_by P limit bytes f

-- so is each text that is made of an accepted text and its digest
abbrev pub KeptTextsRunAsPrograms : Type 0
KeptTextsRunAsPrograms = (source text : List ℕ) → AreBytes source → (k : IsInstrumented source text) → IsKeptOf (program_in k.accepted) (sha256 source) text
