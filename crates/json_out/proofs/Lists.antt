-- Lists, from the events of their items.
use Rattle.std.proofs.Common.{◌≡◌, ℕ, zero, suc, ◌+◌, Bool, List, [], ◌∷◌, length, drop, Some, slice_get, refl, sym, ap, ◌∙◌, subst, add-one}
use Rattle.c_base.specs.declared.place.Pos.{Pos}
use Rattle.atac_facts.specs.declared.fact.Fact.{Fact}
use Rattle.serde.specs.Event.{Log, Logs, seq_begins, seq_ends}
use Rattle.serde_json.specs.Data.{Data, array, Items, no_items, item}
use Rattle.serde_json.specs.Events.{items_len, SendsValue, SendsItems}
use Rattle.json_out.specs.Json.{block_json, blocks_json, each_json}

drop_get : {X : Type 0} (xs : List X) (i : ℕ) (x : X) → slice_get xs i ≡ Some x → drop i xs ≡ x ∷ drop (suc i) xs
drop_get [] i x e = cc
drop_get (y ∷ xs) zero x e = cc
drop_get (y ∷ xs) (suc i) x e = drop_get xs i x e

-- whatever ends the rest of a list well from here ends the whole list well from its start
pub record Ends (rest whole : Items) (start last : Log) : Type 0 where
  pub ends : (end : Log) → SendsItems rest last end → SendsItems whole start end

-- one item more
one_more : (value : Data) (rest all whole : Items) (start last mid : Log) → all ≡ item value rest → SendsValue value last mid → Ends all whole start last → Ends rest whole start mid
one_more value rest all whole start last mid e sent so_far = record {
  ends = λ end behind. so_far.ends end (subst (λ ds. SendsItems ds last end) (sym e) (mid, sent, behind));
}

pub one_each : {X : Type 0} (f : X → Data) (xs : List X) (i : ℕ) (x : X) (whole : Items) (start last mid : Log) → slice_get xs i ≡ Some x → SendsValue (f x) last mid → Ends (each_json f (drop i xs)) whole start last → Ends (each_json f (drop (i + 1) xs)) whole start mid
one_each f xs i x whole start last mid at sent ends =
    one_more (f x) (each_json f (drop (i + 1) xs)) (each_json f (drop i xs)) whole start last mid
    (ap (each_json f) (drop_get xs i x at) ∙ ap (λ k. item (f x) (each_json f (drop k xs))) (sym (add-one i))) sent ends

pub one_block : (covers : Fact → Bool) (ps : List Pos) (i : ℕ) (p : Pos) (whole : Items) (start last mid : Log) → slice_get ps i ≡ Some p → SendsValue (block_json covers (i + 1) p) last mid → Ends (blocks_json covers i (drop i ps)) whole start last → Ends (blocks_json covers (i + 1) (drop (i + 1) ps)) whole start mid
one_block covers ps i p whole start last mid at sent ends =
    one_more (block_json covers (i + 1) p) (blocks_json covers (i + 1) (drop (i + 1) ps)) (blocks_json covers i (drop i ps)) whole start last mid
    (ap (blocks_json covers i) (drop_get ps i p at) ∙ ap (λ k. item (block_json covers k p) (blocks_json covers k (drop k ps))) (sym (add-one i))) sent ends

len_each : {X : Type 0} (f : X → Data) (xs : List X) → items_len (each_json f xs) ≡ length xs
len_each f [] = refl
len_each f (x ∷ xs) = ap suc (len_each f xs)

len_blocks : (covers : Fact → Bool) (k : ℕ) (ps : List Pos) → items_len (blocks_json covers k ps) ≡ length ps
len_blocks covers k [] = refl
len_blocks covers k (p ∷ ps) = ap suc (len_blocks covers (suc k) ps)

-- the whole list
whole_list : (ds rest : Items) (n : ℕ) (old begun last new : Log) → n ≡ items_len ds → rest ≡ no_items → Logs old begun (seq_begins (Some n)) → Ends rest ds begun last → Logs last new seq_ends → SendsValue (array ds) old new
whole_list ds rest n old begun last new len none begins ends ended =
    (begun, subst (λ m. Logs old begun (seq_begins (Some m))) len begins, ends.ends new (subst (λ r. SendsItems r last new) (sym none) ended))

pub all_each : {X : Type 0} (f : X → Data) (xs rest : List X) (n : ℕ) (old begun last new : Log) → n ≡ length xs → rest ≡ [] → Logs old begun (seq_begins (Some n)) → Ends (each_json f rest) (each_json f xs) begun last → Logs last new seq_ends → SendsValue (array (each_json f xs)) old new
all_each f xs rest n old begun last new len none = whole_list _ _ n old begun last new (len ∙ sym (len_each f xs)) (ap (each_json f) none)

pub all_blocks : (covers : Fact → Bool) (ps rest : List Pos) (k n : ℕ) (old begun last new : Log) → n ≡ length ps → rest ≡ [] → Logs old begun (seq_begins (Some n)) → Ends (blocks_json covers k rest) (blocks_json covers 0 ps) begun last → Logs last new seq_ends → SendsValue (array (blocks_json covers 0 ps)) old new
all_blocks covers ps rest k n old begun last new len none = whole_list _ _ n old begun last new (len ∙ sym (len_blocks covers 0 ps)) (ap (blocks_json covers k) none)
