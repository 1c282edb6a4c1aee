-- Worked examples: the text of a block alone, and of one item of each kind.
use Rattle.std.proofs.Common.{◌≡◌, ℕ, ◌==◌, Bool, true, false, [], ◌∷◌, ◌++◌, refl, pos}
use Rattle.std.specs.Prelude.{codes}
use Rattle.std.specs.Fmt.{digits}
use Rattle.c_base.specs.declared.place.Pos.{Pos}
use Rattle.c_base.specs.declared.labels.OutcomeLabel.TheVariants.{True, Case}
use Rattle.atac_facts.specs.declared.fact.Fact.{Fact}
use Rattle.atac_facts.specs.declared.fact.Fact.TheVariants.{Block, Outcome, Pair, PUse}
use Rattle.atac_base.specs.declared.rows.PairRow.{PairRow}
use Rattle.atac_base.specs.Items.{ItemLists}
use Rattle.serde_json.specs.Written.{compact_text}
use Rattle.serde_json.proofs.OnLiterals.{serde_json_on_literals}
use Rattle.json_out.specs.Json.{json_of}

abbrev at : ℕ → Pos
at col = record { line = 1; col = col }

abbrev block : ItemLists
block = record { blocks = at 15 ∷ []; outcomes = []; c_uses = []; p_uses = []; names = [] }

block_is : compact_text (json_of block (λ fact. true)) ≡ codes "{\"blocks\":[{\"col\":15,\"covered\":true,\"line\":1,\"number\":1}],\"c-uses\":[],\"decisions\":[],\"p-uses\":[]}"
unfolding digits serde_json_on_literals
block_is = refl

abbrev pair : ℕ → ℕ → ℕ → ℕ → PairRow
pair d d_col u u_col = record { def = d; def_pos = at d_col; user = u; use_pos = at u_col; name = 0 }

abbrev each : ItemLists
each = record {
  blocks = at 15 ∷ [];
  outcomes = record { decision = 1; outcome = 1; pos = at 30; label = True } ∷ record { decision = 2; outcome = 3; pos = at 40; label = Case (pos 7) } ∷ [];
  c_uses = pair 1 20 2 36 ∷ [];
  p_uses = record { pair = pair 1 20 1 30; outcome = 1; label = True } ∷ [];
  names = codes "x" ∷ [];
}

abbrev covers : Fact → Bool
covers (Block k) = true
covers (Outcome k o) = k == 1
covers (Pair d u) = false
covers (PUse d u o) = true

each_is : compact_text (json_of each covers) ≡ codes "{\"blocks\":[{\"col\":15,\"covered\":true,\"line\":1,\"number\":1}],"
    ++ (codes "\"c-uses\":[{\"covered\":false,\"def\":{\"col\":20,\"line\":1,\"number\":1},\"name\":\"x\",\"use\":{\"col\":36,\"line\":1,\"number\":2}}],"
    ++ (codes "\"decisions\":[{\"col\":30,\"covered\":true,\"line\":1,\"number\":1,\"outcome\":\"true\"},{\"col\":40,\"covered\":false,\"line\":1,\"number\":2,\"outcome\":\"case 7\"}],"
    ++ codes "\"p-uses\":[{\"covered\":true,\"def\":{\"col\":20,\"line\":1,\"number\":1},\"name\":\"x\",\"outcome\":\"true\",\"use\":{\"col\":30,\"line\":1,\"number\":1}}]}"))
unfolding digits serde_json_on_literals
each_is = refl
