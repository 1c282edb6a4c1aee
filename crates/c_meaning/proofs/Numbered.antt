-- What a probe logs has numbers that a probe may have.
use Rattle.std.proofs.Common.{◌≡◌, ℕ, suc, ℤ, ◌≤◌, List, [], ◌∷◌, Option, Some, None, Bool, true, false, refl, arith}
use Rattle.std.specs.Prelude.{◌&&◌, nat_le, if◌then◌else◌}
use Rattle.std.specs.Ordering.{int_eq}
use Rattle.std.proofs.lemmas.Bool.{and_parts, leb-true}
use Rattle.c_base.specs.declared.place.IntKind.{IntKind}
use Rattle.c_syntax.specs.declared.text.Text.{Text}
use Rattle.c_lex_pieces.specs.Bytes.{between}
use Rattle.c_lex_pieces.specs.Numbers.{value}
use Rattle.c_constants.specs.Probes.{is_plain, probe_number_of}
use Rattle.c_store.specs.declared.value.Value.{Value}
use Rattle.c_store.specs.declared.value.Value.TheVariants.{Int, Null, At}
use Rattle.c_arith.specs.Arith.{wrap}
use Rattle.c_meaning.specs.Constants.{number_among, chosen_among}
use Rattle.c_meaning.specs.Firsts.{outcome}
use Rattle.c_meaning.specs.Lasting.{IsProbeNumber}

abbrev pub AllProbeNumbers : Option ℕ → Type 0
AllProbeNumbers None = Unit {0}
AllProbeNumbers (Some n) = IsProbeNumber n

numbered_if : (plain fits : Bool) (n : ℕ) → between 1 16383 n ≡ fits → AllProbeNumbers (if plain && fits then Some n else None)
numbered_if false fits n e = tt
numbered_if true false n e = tt
numbered_if true true n e =
    let parts = and_parts (nat_le 1 n) (nat_le n 16383) e in
    (leb-true 1 n parts.0, leb-true n 16383 parts.1)

-- a text of a probe's number gives one, or none
pub probe_numbered : (x : Text) → AllProbeNumbers (probe_number_of x)
probe_numbered x = numbered_if (is_plain x) (between 1 16383 (value 10 x)) (value 10 x) refl

-- ---- outcomes

pub outcome_counts : (b : Bool) → 1 ≤ outcome b
outcome_counts true = omega arith
outcome_counts false = omega arith

if_counts : (b : Bool) (n : ℕ) → 1 ≤ (if b then 1 else suc n)
if_counts true n = omega arith
if_counts false n = omega arith

among_counts : (v : ℤ) (cs : List ℤ) → 1 ≤ number_among v cs
among_counts v [] = omega arith
among_counts v (c ∷ cs) = if_counts (int_eq v c) (number_among v cs)

pub chosen_counts : (k : Option IntKind) (v : Value) (cs : List ℤ) → 1 ≤ chosen_among k v cs
chosen_counts (Some k) (Int z) cs = among_counts (wrap k z) cs
chosen_counts (Some k) Null cs = omega arith
chosen_counts (Some k) (At q) cs = omega arith
chosen_counts None v cs = omega arith
