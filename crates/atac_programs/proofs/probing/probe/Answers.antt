-- A text that is not accepted; its text with probes; and one that passes the limits.
use Rattle.std.proofs.Common.{refl, ap, sym, ◌∙◌, subst}
use Rattle.std.specs.Prelude.{Err}
use Rattle.c_meaning.specs.Calls.{Source}
use Rattle.probe_text.specs.Text.{text_in, Fits}
use Rattle.atac_programs.specs.Programs.{not_plain, too_large}
use Rattle.atac_programs.proofs.Reading.{check_refused, check_accepts, probed_same}
use Rattle.atac_programs.proofs.probing.probe.Goals as goal

pub returns-in-Refuses : goal.returns-in-Refuses
returns-in-Refuses c = not_plain (check_refused _ c.in-Refuses.said _ _ c.in-Refuses.is refl c.in_ok-said.ensures)

pub returns-in-Ok : goal.returns-in-Ok
returns-in-Ok c =
    let h = check_accepts _ c.in-Accepts.program c.in-Accepts.sites _ _ c.in-Accepts.is refl c.in_ok-said.ensures in
    let same = probed_same c.args.text.now c.digest_of.result c.in-Accepts.program c.in_ok-probed.probed c.in-Accepts.sites h c.digest_of.ensures c.in_ok-probed.ensures.program in
    record {
      accepted = h.accepted;
      is = c.in-Ok.ensures.text ∙ ap (λ (P : Source). text_in P.unit) same;
      fits = subst (λ (P : Source). Fits P.unit) same c.in-Ok.ensures.fits;
    }

pub returns-in-Err-TooLarge : goal.returns-in-Err-TooLarge
returns-in-Err-TooLarge c =
    let h = check_accepts _ c.in-Accepts.program c.in-Accepts.sites _ _ c.in-Accepts.is refl c.in_ok-said.ensures in
    let same = probed_same c.args.text.now c.digest_of.result c.in-Accepts.program c.in_ok-probed.probed c.in-Accepts.sites h c.digest_of.ensures c.in_ok-probed.ensures.program in
    too_large h.accepted (λ fits. c.in-Err-TooLarge.ensures.too_large (ap Err c.in-Err-TooLarge.field-0-is) (subst (λ (P : Source). Fits P.unit) (sym same) fits)) c.in_ok-said-in-Err-TooLarge.ensures
