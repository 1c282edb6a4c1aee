-- Bytes are read in one way.
use Rattle.std.proofs.Common.{◌≡◌, ◌≢◌, refl, ap, sym, ◌∙◌, subst, List, ℕ}
use Rattle.trace_file.specs.Sound.{IsSound}
use Rattle.trace_file.specs.Reading.{Accepts, Refuses, counted_at, trace_at}
use Rattle.trace_file.specs.declared.trace.Trace.{Trace}
use Rattle.trace_file.specs.declared.refusal.DecodeRefusal.{DecodeRefusal}
use Rattle.trace_file.specs.declared.refusal.DecodeRefusal.TheVariants as decode
use Rattle.trace_file.proofs.Parts.{same_some}
use Rattle.atac_steps.specs.declared.stop.TraceFault.{TraceFault}
use Rattle.atac_steps.specs.declared.stop.TraceFault.TheVariants.{NotATrace, Version, Length, Order, Damaged, OtherProgram, TooMuch}
use Rattle.atac_traces.specs.Files.{IsFaulty, IsTraceOf}

pub accepts_one : (bytes : List ℕ) (u t : Trace) → Accepts bytes u → Accepts bytes t → u ≡ t
accepts_one bytes u t h k =
    let same : h.0 ≡ k.0 = same_some _ _ (sym h.1.1 ∙ k.1.1) in
    h.2 ∙ ap (trace_at (counted_at bytes) bytes) same ∙ sym k.2

pub not_refused : (bytes : List ℕ) (e : DecodeRefusal) (t : Trace) → e ≢ decode.NoMemory → Accepts bytes t → Refuses bytes e → ⊥
not_refused bytes decode.NoMemory t some h refuses = some refl
not_refused bytes decode.NotATrace t some h refuses = refuses h.1.0.0
not_refused bytes decode.Version t some h refuses = h.1.0.1 refuses.1
not_refused bytes decode.Length t some h refuses = let e = sym refuses.1 ∙ h.1.1 in absurd cc
not_refused bytes decode.Order t some h refuses =
    let same : h.0 ≡ refuses.0 = same_some _ _ (sym h.1.1 ∙ refuses.1.1) in
    refuses.2 (subst IsSound (h.2 ∙ ap (trace_at (counted_at bytes) bytes) same) h.3)
not_refused bytes decode.Damaged t some h refuses = refuses.3 h.4

-- a trace of the program is not faulty
pub not_faulty : (digest bytes : List ℕ) (t : Trace) (why : TraceFault) → IsTraceOf digest bytes t → IsFaulty digest bytes why → ⊥
not_faulty digest bytes t NotATrace h k = not_refused bytes decode.NotATrace t (λ e. cc) h.0 k
not_faulty digest bytes t Version h k = not_refused bytes decode.Version t (λ e. cc) h.0 k
not_faulty digest bytes t Length h k = not_refused bytes decode.Length t (λ e. cc) h.0 k
not_faulty digest bytes t Order h k = not_refused bytes decode.Order t (λ e. cc) h.0 k
not_faulty digest bytes t Damaged h k = not_refused bytes decode.Damaged t (λ e. cc) h.0 k
not_faulty digest bytes t OtherProgram h k = k.2 (ap (λ (x : Trace). x.digest) (accepts_one bytes k.0 t k.1 h.0) ∙ h.1)
not_faulty digest bytes t TooMuch h k = k

-- what is of another program, whatever the program, is no trace
pub not_other : (bytes : List ℕ) → ((digest : List ℕ) → IsFaulty digest bytes OtherProgram) → (digest : List ℕ) → ⊥
not_other bytes h digest =
    let k = h digest in
    not_faulty k.0.digest bytes k.0 OtherProgram (k.1, refl) (h k.0.digest)
