-- Where the numbers of probes are claimed in the order of the walk, each is new, and is claimed from then on.
use Rattle.std.proofs.Common.{◌≡◌, ℕ, zero, suc, ◌≤◌, ◌<◌, ◌++◌, List, [], ◌∷◌, Option, Some, None, Bool, true, false, ◌∙◌, refl, ap, ap₂, subst, arith}
use Rattle.std.specs.Prelude.{bytes_eq, cond}
use Rattle.std.specs.Map.{lookup}
use Rattle.std.specs.Fmt.{decimal}
use Rattle.std.proofs.lemmas.Bool.{false_from_ne_true}
use Rattle.std.proofs.lemmas.Fmt.{decimal_injective}
use Rattle.std.proofs.lemmas.Slice.Eq.{bytes_eq-Decides}
use Rattle.c_base.specs.declared.place.Pos.{Pos}
use Rattle.c_syntax.specs.Shape.{Probing, block, test, used, def}
use Rattle.c_scopes.specs.Rows.{Scope}
use Rattle.c_scopes.specs.Scoping.{named}
use Rattle.c_tree.specs.State.{Seen, State}
use Rattle.c_tree.specs.Operators.{seen_of, with_seen, claimed, claim}
use Rattle.c_walk.specs.Items.{Direct, Outcomes, block as a_block, decision, def as a_def, used as a_use}
use Rattle.c_walk.specs.Walked.{Walked, with_item, with_block, with_decision, next_decision}
use Rattle.c_walk.specs.Counted.{block_count, def_count, use_count}
use Rattle.c_walk.specs.Counted.{next_block, next_def, next_use}
use Rattle.probe_rules.proofs.ReadNumbers.{number_read}
use Rattle.probe_rules.proofs.Few.{blocks_then, defs_then, uses_then}
use Rattle.probe_rules.proofs.Moved.{moved, Alike}

-- the numbers up to that one, in order
abbrev pub numbered : ℕ → Scope ℕ
numbered zero = []
numbered (suc k) = numbered k ++ (decimal (suc k), suc k) ∷ []

abbrev IsThere : Option ℕ → Type 0
IsThere (Some k) = Unit {0}
IsThere None = ⊥

behind_one : (b : Bool) (j : ℕ) (o q : Option ℕ) → cond b (Some j) o ≡ None → (o ≡ None → q ≡ None) → cond b (Some j) q ≡ None
behind_one true j o q none go = absurd (subst IsThere none tt)
behind_one false j o q none go = go none

lookup_then : (pass : List ℕ → Bool) (rows : Scope ℕ) (x : List ℕ) (k : ℕ) → lookup pass rows ≡ None → pass x ≡ false → lookup pass (rows ++ (x, k) ∷ []) ≡ None
lookup_then pass [] x k none other = ap (λ b. cond b (Some k) None) other
lookup_then pass (row ∷ rows) x k none other = behind_one (pass row.0) row.1 (lookup pass rows) (lookup pass (rows ++ (x, k) ∷ [])) none (λ e. lookup_then pass rows x k e other)

-- a greater number is none of them
unseen : (k j : ℕ) → k < j → j ≤ 16383 → named (decimal j) (numbered k) ≡ None
unseen zero j lt few = refl
unseen (suc k) j lt few =
    lookup_then (bytes_eq (decimal j)) (numbered k) (decimal (suc k)) (suc k) (unseen k j (omega arith) few)
    (false_from_ne_true (bytes_eq (decimal j) (decimal (suc k))) (λ e. omega (arith, decimal_injective j (suc k) (omega arith) (omega arith) ((bytes_eq-Decides (decimal j) (decimal (suc k))).0 e))))

-- so the next one is claimed
claim_next : (u : Probing) (k token : ℕ) (p : Pos) (s : State) → k < 16383 → seen_of u s.seen ≡ numbered k → claim u (decimal (suc k)) token p s ≡ record s { seen = with_seen u (decimal (suc k)) (suc k) s.seen }
claim_next u k token p s few is = ap₂ (λ i j. claimed u (decimal (suc k)) token p i j s) (number_read (suc k) (omega arith) (omega arith)) (ap (named (decimal (suc k))) is ∙ unseen k (suc k) (omega arith) (omega arith))

-- ---- what the walk has counted is what is claimed

abbrev pub seen_at : Walked → Seen
seen_at w = record { blocks = numbered (block_count w.items); tests = numbered w.decisions; uses = numbered (use_count w.items); defs = numbered (def_count w.items) }

abbrev counted : ℕ → ℕ → ℕ → ℕ → Seen
counted b t u d = record { blocks = numbered b; tests = numbered t; uses = numbered u; defs = numbered d }

four : (a b c d a' b' c' d' : ℕ) → a ≡ a' → b ≡ b' → c ≡ c' → d ≡ d' → counted a b c d ≡ counted a' b' c' d'
four a b c d a' b' c' d' p q r s = ap₂ (λ x y. counted x y c d) p q ∙ ap₂ (λ x y. counted a' b' x y) r s

block_seen : (p : Pos) (w : Walked) → with_seen block (decimal (next_block w)) (next_block w) (seen_at w) ≡ seen_at (with_block p w)
block_seen p w = let v = with_block p w in four (next_block w) w.decisions (use_count w.items) (def_count w.items) (block_count v.items) v.decisions (use_count v.items) (def_count v.items) (omega (arith, blocks_then w.items (a_block p))) refl (omega (arith, uses_then w.items (a_block p))) (omega (arith, defs_then w.items (a_block p)))

use_seen : (p : Pos) (f : ℕ) (d : Option Direct) (o : Option ℕ) (w : Walked) → with_seen used (decimal (next_use w)) (next_use w) (seen_at w) ≡ seen_at (with_item (a_use p f d o) w)
use_seen p f d o w = let v = with_item (a_use p f d o) w in four (block_count w.items) w.decisions (next_use w) (def_count w.items) (block_count v.items) v.decisions (use_count v.items) (def_count v.items) (omega (arith, blocks_then w.items (a_use p f d o))) refl (omega (arith, uses_then w.items (a_use p f d o))) (omega (arith, defs_then w.items (a_use p f d o)))

def_seen : (p : Pos) (f : ℕ) (d : Option Direct) (w : Walked) → with_seen def (decimal (next_def w)) (next_def w) (seen_at w) ≡ seen_at (with_item (a_def p f d) w)
def_seen p f d w = let v = with_item (a_def p f d) w in four (block_count w.items) w.decisions (use_count w.items) (next_def w) (block_count v.items) v.decisions (use_count v.items) (def_count v.items) (omega (arith, blocks_then w.items (a_def p f d))) refl (omega (arith, uses_then w.items (a_def p f d))) (omega (arith, defs_then w.items (a_def p f d)))

test_seen : (p : Pos) (o : Outcomes) (w : Walked) → with_seen test (decimal (suc w.decisions)) (suc w.decisions) (seen_at w) ≡ seen_at (with_decision p o w)
test_seen p o w = let v = with_decision p o w in four (block_count w.items) (suc w.decisions) (use_count w.items) (def_count w.items) (block_count v.items) v.decisions (use_count v.items) (def_count v.items) (omega (arith, blocks_then w.items (decision p o))) (omega arith) (omega (arith, uses_then w.items (decision p o))) (omega (arith, defs_then w.items (decision p o)))

module _ (n m : ℕ) where
  -- behind a claim the one run goes on as before, and the other has one more number
  claim_alike : (u : Probing) (k token : ℕ) (p : Pos) (w v : Walked) {s t : State} → k < 16383 → seen_of u (seen_at w) ≡ numbered k → with_seen u (decimal (suc k)) (suc k) (seen_at w) ≡ seen_at v → Alike n m (seen_at w) s t → Alike n m (seen_at v) s (claim u (decimal (suc k)) token p t)
  claim_alike u k token p w v {s} {t} few is next al = record {
    at = al.at;
    complaints = al.complaints;
    is = ap (claim u (decimal (suc k)) token p) al.is
        ∙ (claim_next u k token p (moved al.at (seen_at w) al.complaints s) few is ∙ ap (λ z. moved al.at z al.complaints s) next);
    count = al.count;
  }

  pub block_claimed : (token : ℕ) (p q : Pos) (w : Walked) {s t : State} → block_count w.items < 16383 → Alike n m (seen_at w) s t → Alike n m (seen_at (with_block q w)) s (claim block (decimal (next_block w)) token p t)
  block_claimed token p q w few al = claim_alike block (block_count w.items) token p w (with_block q w) few refl (block_seen q w) al

  pub use_claimed : (token : ℕ) (p q : Pos) (f : ℕ) (d : Option Direct) (o : Option ℕ) (w : Walked) {s t : State} → use_count w.items < 16383 → Alike n m (seen_at w) s t → Alike n m (seen_at (with_item (a_use q f d o) w)) s (claim used (decimal (next_use w)) token p t)
  use_claimed token p q f d o w few al = claim_alike used (use_count w.items) token p w (with_item (a_use q f d o) w) few refl (use_seen q f d o w) al

  pub def_claimed : (token : ℕ) (p q : Pos) (f : ℕ) (d : Option Direct) (w : Walked) {s t : State} → def_count w.items < 16383 → Alike n m (seen_at w) s t → Alike n m (seen_at (with_item (a_def q f d) w)) s (claim def (decimal (next_def w)) token p t)
  def_claimed token p q f d w few al = claim_alike def (def_count w.items) token p w (with_item (a_def q f d) w) few refl (def_seen q f d w) al

  pub test_claimed : (token : ℕ) (p q : Pos) (o : Outcomes) (w : Walked) {s t : State} → next_decision w ≤ 16383 → Alike n m (seen_at w) s t → Alike n m (seen_at (with_decision q o w)) s (claim test (decimal (next_decision w)) token p t)
  test_claimed token p q o w {s} {t} few al =
      subst (λ j. Alike n m (seen_at (with_decision q o w)) s (claim test (decimal j) token p t)) (omega arith) (claim_alike test w.decisions token p w (with_decision q o w) (omega arith) refl (test_seen q o w) al)
