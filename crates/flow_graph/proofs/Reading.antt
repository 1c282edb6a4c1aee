-- The rows that come next are rows.
use Rattle.std.proofs.Common.{ℕ, zero, suc, ◌<◌, ◌≡◌, List, [], ◌∷◌, map, get_or, length, Some, sym, subst, ap, arith}
use Rattle.std.specs.Prelude.{slice_get, Contains}
use Rattle.flow_rows.specs.View.{row_of}
use Rattle.flow_rows.specs.declared.row.GraphRow.{GraphRow}
use Rattle.flow_graph.specs.Graphs.{FlowGraph, flow_graph, HasRows}

row_at : (rows : List GraphRow) (r : ℕ) (x : GraphRow) → r < length (map row_of rows) → x ≡ get_or rows r x → slice_get (map row_of rows) r ≡ Some (row_of x)
row_at [] r x lt e = absurd (omega arith)
row_at (y ∷ rows) zero x lt e = ap (λ z. Some (row_of z)) (sym e)
row_at (y ∷ rows) (suc r) x lt e = row_at rows r x (omega arith) e

pub next_within : (g : FlowGraph) (rows : List GraphRow) (l r : ℕ) (x : GraphRow) (ts : List ℕ) → flow_graph (map row_of rows) l ≡ g → r < length g.rows → x ≡ get_or rows r x → ts ≡ x.next.items → HasRows (flow_graph (map row_of rows) l)
    → (t : ℕ) → Contains ts t → t < length g.rows
next_within g rows l r x ts is lt e p h t c =
    subst (λ (g : FlowGraph). t < length g.rows) is
    (h.within r t (row_of x) (row_at rows r x (subst (λ (g : FlowGraph). r < length g.rows) (sym is) lt) e) (subst (λ us. Contains us t) p c))
