use Rattle.std.proofs.Common.{length, ap, ◌∙◌, arith}
use Rattle.hex.specs.Hex.{encode_lower, lower_digits}
use Rattle.hex.proofs.HexLemmas.{length-encode_with}
use Rattle.probe_in.proofs.Digests.{text_reads}
use Rattle.probe_in.proofs.program.digest_text.Goals as goal

pub from_bytes-requires : goal.from_bytes-requires
from_bytes-requires c =
    let long = ap length (c.as_bytes.ensures.value ∙ c.in-Ok.ensures ∙ ap encode_lower c.as_slice.ensures) ∙ length-encode_with lower_digits c.args.digest.now in
    omega (arith, c.told-digest)

pub returns-in-Ok-clause-read : goal.returns-in-Ok-clause-read
returns-in-Ok-clause-read c = text_reads c.from_bytes.result c.args.digest.now _ c.from_bytes.ensures (c.as_bytes.ensures.value ∙ c.in-Ok.ensures ∙ ap encode_lower c.as_slice.ensures) c.told-digest c.fits-digest
