-- A kept text is read as its program with probes but for places, which runs as the program.
use Rattle.std.specs.Prelude.{cond, nat_lt}
use Rattle.std.proofs.Common.{◌≡◌, ℕ, List, length, Option, Some, None, Bool, true, false, is_some, option_map, ◌∙◌, refl, sym, ap, ap₂, subst, arith}
use Rattle.std.proofs.lemmas.Bool.Decides.{nat_tests}
use Rattle.c_lex_pieces.specs.Written.{AreBytes}
use Rattle.c_lex.specs.declared.lexer.TextKind.TheVariants.{Plain}
use Rattle.c_lex.proofs.Soundness.{given_is_sound}
use Rattle.c_syntax.specs.declared.tree.ProgramLine.{ProgramLine}
use Rattle.c_syntax.specs.Shape.{UnitShape}
use Rattle.c_placing.specs.Unplaced.{unplaced_line, EqualButForPlaces}
use Rattle.c_sites_probes.specs.Owned.{owner_of, owned_in}
use Rattle.c_syntax.specs.Forms.{kinds_of}
use Rattle.c_tree.specs.Lexed.{AreLexed}
use Rattle.c_tree.specs.Programs.{IsProgram, digest_in}
use Rattle.c_tree.proofs.Programs.{program_typed, is_sound}
use Rattle.c_tree.specs.Units.{typed_unit}
use Rattle.c_front.specs.Front.{program}
use Rattle.c_meaning.specs.Calls.{Source}
use Rattle.c_meaning.specs.Runs.{Outcome}
use Rattle.c_meaning.proofs.QuietCalls.{run_is_quiet}
use Rattle.atac_facts.specs.declared.fact.Fact.{Fact}
use Rattle.cover_law.specs.Covers.{covers}
use Rattle.cover_law.proofs.Covering.{same_owners}
use Rattle.sha2.specs.Sha256.{sha256}
use Rattle.hex.specs.Hex.{encode_lower}
use Rattle.trace_file.proofs.Digest.{length-sha256}
use Rattle.probe_in.proofs.Digests.{read_back}
use Rattle.probe_laws.specs.Laws.{IsTaken}
use Rattle.probe_laws.specs.Owners.{owner_in_program}
use Rattle.probe_laws.proofs.Laws.{taken_is_plain, taken_is_few}
use Rattle.probe_laws.proofs.Owners.{program_owns, program_owns_few}
use Rattle.probe_text.specs.Text.{text_in}
use Rattle.probe_programs.specs.Programs.{IsDigest, IsPlainProgram}
use Rattle.probe_kept.specs.ReadBack.{ReadsAs}
use Rattle.probe_kept.proofs.ReadBack.{written_reads_back}
use Rattle.probe_kept.specs.Kept.{RunsAs}
use Rattle.probe_kept.proofs.Kept.{kept_runs}
use Rattle.atac_programs.specs.Programs.{IsAccepted, IsInstrumented, IsProbed, program_in, with_probes, events, shown_by, met_by, owner_in_probed}
use Rattle.atac_programs.specs.Sections.{section_text}
use Rattle.atac_kept.specs.Kept.{KeptTextsRunAsPrograms}
use Rattle.atac_kept.proofs.Digests.{digest_bytes_so}
use Rattle.atac_kept.proofs.Owned.{owned_same}

-- ---- an accepted program

program_so : (source : List ℕ) → AreBytes source → (a : IsAccepted source) → IsProgram a.unit a.tables
program_so source bytes a =
    let u = a.read.unit in
    let given = a.read.written in
    let sound = given_is_sound Plain source given.tokens bytes given.given in
    let lexed : AreLexed (kinds_of given.tokens) = record { tokens = sound.tokens; kept = sound.kept; apart = sound.apart } in
    let is = program_typed u (is_sound u given.tokens given.shaped given.placed lexed) a.read.typed.clean in
    subst (λ v. IsProgram v a.tables) (sym a.read.typed.unit) (subst (λ t. IsProgram (typed_unit u).unit t) (sym a.read.typed.tables) is)

plain_so : (source : List ℕ) → AreBytes source → (a : IsAccepted source) → IsPlainProgram (program_in a)
plain_so source bytes a = record {
  program = program_so source bytes a;
  plain = taken_is_plain (program_in a) a.clean;
  few = taken_is_few (program_in a) a.clean;
}

digest_so : (source : List ℕ) → IsDigest (encode_lower (sha256 source))
digest_so source = ap is_some (read_back (sha256 source) (length-sha256 source) (digest_bytes_so source))

-- ---- its text with probes

same_source : (other Q : Source) → program other.unit other.tables ≡ program Q.unit Q.tables → other ≡ Q
same_source other Q e =
    let unit : other.unit ≡ Q.unit = cc in
    let tables : other.tables ≡ Q.tables = cc in
    ap₂ (λ u t. record { unit = u; tables = t }) unit tables

-- ---- its digest and its owners

line_same : (l : Option ProgramLine) → digest_in (option_map unplaced_line l) ≡ digest_in l
line_same None = refl
line_same (Some l) = refl

lines_alike : (u v : UnitShape) → EqualButForPlaces u v → digest_in u.line ≡ digest_in v.line
lines_alike u v e = sym (line_same u.line) ∙ (ap (λ (w : UnitShape). digest_in w.line) e ∙ line_same v.line)

owner_at : (Q P : Source) (source : List ℕ) (u : ℕ) → EqualButForPlaces Q.unit (with_probes source P).unit → IsTaken P → owner_in_probed Q u ≡ owner_in_program P u
owner_at Q P source u e taken = below (nat_lt u 65536) refl
  where
    below : (b : Bool) → nat_lt u 65536 ≡ b → cond b (owner_of u (owned_in Q.unit)) None ≡ owner_in_program P u
    below true is = ap (owner_of u) (owned_same Q.unit (with_probes source P).unit e) ∙ program_owns P taken (encode_lower (sha256 source)) u
    below false is = sym (program_owns_few P taken u (grind (arith, nat_tests)))

pub kept_texts_run : KeptTextsRunAsPrograms
kept_texts_run source text bytes k =
    let a = k.accepted in
    let P = program_in a in
    let digest = encode_lower (sha256 source) in
    let is = plain_so source bytes a in
    let r : RunsAs (text_in (with_probes source P).unit) P = kept_runs digest P (digest_so source) is k.fits in
    let w : ReadsAs (text_in (with_probes source P).unit) (with_probes source P).unit P.tables = written_reads_back digest P (digest_so source) is k.fits in
    let Q : Source = record { unit = r.unit; tables = P.tables } in
    let one : program w.unit P.tables ≡ program r.unit P.tables = r.alone (program w.unit P.tables) w.read in
    let unit : w.unit ≡ r.unit = cc in
    let equal : EqualButForPlaces r.unit (with_probes source P).unit = subst (λ v. EqualButForPlaces v (with_probes source P).unit) unit w.equal in
    record {
      program = Q;
      read = subst (λ t. IsProbed t Q) (sym k.is) r.read;
      alone = λ other h. same_source other Q (r.alone (program other.unit other.tables) (subst (λ t. IsProbed t other) k.is h));
      line = lines_alike r.unit (with_probes source P).unit equal ∙ read_back (sha256 source) (length-sha256 source) (digest_bytes_so source);
      same = λ input given limit. ap (section_text input) (r.runs given limit) ∙ sym (ap (section_text input) (run_is_quiet P given limit));
      log = λ given limit. ap (λ (o : Outcome). o.log) (r.runs given limit);
      met = λ given limit f.
          ap (λ log. covers (owner_in_probed Q) log f) (ap (λ (o : Outcome). o.log) (r.runs given limit))
          ∙ same_owners (owner_in_probed Q) (owner_in_program P) (λ u. owner_at Q P source u equal a.clean) (events P limit given) f;
    }
