use Rattle.std.proofs.Common.{ℕ, Vec, Global, sym, ap, ◌∙◌, subst}
use Rattle.std.proofs.lemmas.Str.{IsUtf8-from_ascii, encodes-IsAscii}
use Rattle.std.specs.Str.{IsAscii}
use Rattle.c_sites.proofs.names.spelled.Goals as goal

pub unwrap-requires : goal.unwrap-requires
unwrap-requires c =
    let ascii : IsAscii c.args.bytes.items = subst IsAscii c.deref.ensures.value c.if-not-is_ascii.ensures.cases in
    c.from_utf8.ensures.succeeds (IsUtf8-from_ascii c.args.bytes.items ascii)

pub returns : goal.returns
returns c =
    let ascii : IsAscii c.args.bytes.items = subst IsAscii c.deref.ensures.value c.if-not-is_ascii.ensures.cases in
    let same = rw c.unwrap.ensures at c.from_utf8.ensures.ok in
    ap (λ (v : Vec ℕ Global). v.items) same ∙ sym (encodes-IsAscii c.args.bytes.items ascii)
