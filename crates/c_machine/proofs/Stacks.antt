-- One thing more waits.
use Rattle.std.proofs.Common.{◌≡◌, ℕ, ◌+◌, List, [], ◌∷◌, ◌++◌, ◌<◌, length, length-append, refl, sym, ap, ◌∙◌, arith}
use Rattle.c_tables.specs.Tables.{TablesShape}
use Rattle.c_meaning.specs.Knot.{Knot}
use Rattle.c_machine.specs.declared.parts.Waiting.{Waiting}
use Rattle.c_machine.specs.Todo.{Leaver, waits, all_wait, scopes_with, scopes_on, open_scopes, weight, all_weights}

pub waits_push : (t : TablesShape) (k : Knot) (ws : List Waiting) (w : Waiting) (go : Leaver) → all_wait t k (ws ++ w ∷ []) go ≡ waits t k w (all_wait t k ws go)
waits_push t k [] w go = refl
waits_push t k (v ∷ ws) w go = waits_push t k ws w (waits t k v go)

pub scopes_push : (ws : List Waiting) (w : Waiting) (ns : List ℕ) → scopes_on (ws ++ w ∷ []) ns ≡ scopes_with w (scopes_on ws ns)
scopes_push [] w ns = refl
scopes_push (v ∷ ws) w ns = scopes_push ws w (scopes_with v ns)

pub weights_push : (ws : List Waiting) (w : Waiting) → all_weights (ws ++ w ∷ []) ≡ weight w + all_weights ws
weights_push [] w = refl
weights_push (v ∷ ws) w = omega (arith, weights_push ws w)

-- ---- one thing less waits

pub waits_pop : (t : TablesShape) (k : Knot) (ws rest : List Waiting) (w : Waiting) (go : Leaver) → ws ≡ rest ++ w ∷ [] → waits t k w (all_wait t k rest go) ≡ all_wait t k ws go
waits_pop t k ws rest w go e = sym (ap (λ ws. all_wait t k ws go) e ∙ waits_push t k rest w go)

pub scopes_pop : (ws rest : List Waiting) (w : Waiting) → ws ≡ rest ++ w ∷ [] → open_scopes ws ≡ scopes_with w (open_scopes rest)
scopes_pop ws rest w e = ap (λ ws. open_scopes ws) e ∙ scopes_push rest w (1 ∷ [])

pub weights_pop : (ws rest : List Waiting) (w : Waiting) → ws ≡ rest ++ w ∷ [] → all_weights ws ≡ weight w + all_weights rest
weights_pop ws rest w e = ap (λ ws. all_weights ws) e ∙ weights_push rest w

-- and so fewer things
pub fewer_pop : (ws rest : List Waiting) (w : Waiting) → ws ≡ rest ++ w ∷ [] → length rest < length ws
fewer_pop ws rest w e = omega (arith, ap (λ ws. length ws) e, length-append rest (w ∷ []))
