-- The text of a value that was sent: it has no float.
use Rattle.std.proofs.Common.{◌≡◌, ℕ, suc, Bool, false, List, [], ◌∷◌, Some, refl}
use Rattle.c_base.specs.declared.place.Pos.{Pos}
use Rattle.atac_facts.specs.declared.fact.Fact.{Fact}
use Rattle.atac_base.specs.Items.{ItemLists}
use Rattle.serde.specs.Event.{Log}
use Rattle.serde_json.specs.Data.{Data}
use Rattle.serde_json.specs.Events.{SendsValue}
use Rattle.serde_json.specs.Sent.{IsTextOf}
use Rattle.serde_json.specs.Written.{has_float, items_have_float, compact_text}
use Rattle.serde_json.proofs.FreeTexts.{text_of_value}
use Rattle.json_out.specs.Json.{blocks_json, each_json, json_of}

blocks_whole : (covers : Fact → Bool) (k : ℕ) (ps : List Pos) → items_have_float (blocks_json covers k ps) ≡ false
blocks_whole covers k [] = refl
blocks_whole covers k (p ∷ ps) = blocks_whole covers (suc k) ps

each_whole : {X : Type 0} (f : X → Data) → ((x : X) → has_float (f x) ≡ false) → (xs : List X) → items_have_float (each_json f xs) ≡ false
each_whole f whole [] = refl
each_whole f whole (x ∷ xs) = rw (whole x) (each_whole f whole xs)

pub text_is : (items : ItemLists) (covers : Fact → Bool) (log : Log) (text : List ℕ) → SendsValue (json_of items covers) (Some []) log → IsTextOf log text → text ≡ compact_text (json_of items covers)
text_is items covers log text sent is =
    text_of_value (json_of items covers) log text sent is
    (rw (blocks_whole covers 0 items.blocks, each_whole _ (λ x. refl) items.c_uses, each_whole _ (λ x. refl) items.outcomes, each_whole _ (λ x. refl) items.p_uses) refl)
