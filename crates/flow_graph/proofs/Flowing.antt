-- The rows for marks spell what the rows of the graph do, without calls and the leaving of the body.
use Rattle.std.proofs.Common.{ℕ, zero, suc, ◌<◌, ◌^◌, ◌≡◌, ◌↔◌, List, [], ◌∷◌, ◌++◌, map, Option, Some, None, refl, sym, subst, ap, ◌∙◌, arith, length}
use Rattle.std.specs.Prelude.{slice_get, Contains, reverse}
use Rattle.std.proofs.lemmas.List.{reverse-append, reverse-reverse}
use Rattle.flow_walks.specs.declared.action.Action.{Action}
use Rattle.flow_walks.specs.declared.action.Action.TheVariants.{Define, Use, Block, Test, Kill, Nothing}
use Rattle.flow_walks.specs.Comes.{Met}
use Rattle.flow_walks.specs.Walks.{actions}
use Rattle.flow_rows.specs.Paths.{Row, IsPath, put, met_at, spelled}
use Rattle.flow_rows.specs.View.{met_of, row_of}
use Rattle.flow_rows.specs.declared.row.Step.{Step}
use Rattle.flow_rows.specs.declared.row.Step.TheVariants.{Act, Enter, Leave}
use Rattle.flow_rows.specs.declared.row.GraphRow.{GraphRow}
use Rattle.flow_marks.specs.declared.flow.FlowRow.{FlowRow}
use Rattle.flow_marks.specs.Paths as marks
use Rattle.flow_graph.specs.Graphs.{action_of, call_of, next_of, HasRows, flow_graph}
use Rattle.flow_graph.specs.Flow.{flow_row, SpellsActions}

-- ---- what is met

pub action_met : (a : Action) → action_of (met_of (Act a)) ≡ a
action_met (Define d) = refl
action_met (Use u) = refl
action_met (Block k) = refl
action_met (Test k o) = refl
action_met (Kill v) = refl
action_met Nothing = refl

pub call_met : (a : Action) → call_of (met_of (Act a)) ≡ None
call_met (Define d) = refl
call_met (Use u) = refl
call_met (Block k) = refl
call_met (Test k o) = refl
call_met (Kill v) = refl
call_met Nothing = refl

put_met : (s : Step) (w : List Met) → actions (put (met_of s) w) ≡ marks.put (action_of (met_of s)) (actions w)
put_met (Act (Define d)) w = refl
put_met (Act (Use u)) w = refl
put_met (Act (Block k)) w = refl
put_met (Act (Test k o)) w = refl
put_met (Act (Kill v)) w = refl
put_met (Act Nothing) w = refl
put_met (Enter f) w = refl
put_met Leave w = refl

-- ---- rows

put_at : (rows : List GraphRow) (r : ℕ) (w : List Met) → actions (put (met_at (slice_get (map row_of rows) r)) w) ≡ marks.put (marks.action_at (map flow_row rows) r) (actions w)
put_at [] r w = refl
put_at (x ∷ rows) zero w = put_met x.met w
put_at (x ∷ rows) (suc r) w = put_at rows r w

next_is : (rows : List GraphRow) (r : ℕ) → next_of (slice_get (map row_of rows) r) ≡ marks.next_of (slice_get (map flow_row rows) r)
next_is [] r = refl
next_is (x ∷ rows) zero = refl
next_is (x ∷ rows) (suc r) = next_is rows r

record There {X : Type 0} (xs : List X) (r : ℕ) : Type 0 where
  it : X
  is : slice_get xs r ≡ Some it

row_there : (rows : List GraphRow) (r : ℕ) (row : Row) → slice_get (map row_of rows) r ≡ Some row → There (map flow_row rows) r
row_there [] r row e = absurd (cc)
row_there (x ∷ rows) zero row e = record { it = flow_row x; is = refl }
row_there (x ∷ rows) (suc r) row e = let t = row_there rows r row e in record { it = t.it; is = t.is }

flow_there : (rows : List GraphRow) (r : ℕ) (row : FlowRow) → slice_get (map flow_row rows) r ≡ Some row → There (map row_of rows) r
flow_there [] r row e = absurd (cc)
flow_there (x ∷ rows) zero row e = record { it = row_of x; is = refl }
flow_there (x ∷ rows) (suc r) row e = let t = flow_there rows r row e in record { it = t.it; is = t.is }

-- a row that has that next one
record Next (o : Option Row) (t : ℕ) : Type 0 where
  row : Row
  is : o ≡ Some row
  holds : Contains row.next t

next_there : (o : Option Row) (t : ℕ) → Contains (next_of o) t → Next o t
next_there None t c = absurd (let lt = c.1 in omega arith)
next_there (Some row) t c = record { row = row; is = refl; holds = c }

step_next : (rows : List GraphRow) (r t : ℕ) → marks.IsStep (map flow_row rows) r t → Next (slice_get (map row_of rows) r) t
step_next rows r t c = next_there _ t (subst (λ l. Contains l t) (sym (next_is rows r)) c)

-- ---- paths

path_to : (rows : List GraphRow) (r : ℕ) (ts : List ℕ) → IsPath (map row_of rows) r ts → marks.IsPath (map flow_row rows) r ts
path_to rows r [] p = let t = row_there rows r p.0 p.1 in (t.it, t.is)
path_to rows r (t ∷ ts) p = (subst (λ l. Contains l t) (sym (ap next_of p.1) ∙ next_is rows r) p.2, path_to rows t ts p.3)

path_back : (rows : List GraphRow) (r : ℕ) (ts : List ℕ) → marks.IsPath (map flow_row rows) r ts → IsPath (map row_of rows) r ts
path_back rows r [] p = let t = flow_there rows r p.0 p.1 in (t.it, t.is)
path_back rows r (t ∷ ts) p = let n = step_next rows r t p.0 in (n.row, n.is, n.holds, path_back rows t ts p.1)

spelled_is : (rows : List GraphRow) (r : ℕ) (ts : List ℕ) → actions (spelled (map row_of rows) r ts) ≡ marks.spelled (map flow_row rows) r ts
spelled_is rows r [] = put_at rows r []
spelled_is rows r (t ∷ ts) = put_at rows r (spelled (map row_of rows) t ts) ∙ ap (marks.put (marks.action_at (map flow_row rows) r)) (spelled_is rows t ts)

pub flow_spells : (rows : List GraphRow) (v : List Action) → marks.Spells (map flow_row rows) 0 v ↔ SpellsActions (map row_of rows) v
flow_spells rows v = (
  λ s. (spelled (map row_of rows) 0 s.0, (s.0, path_back rows 0 s.0 s.1, refl), spelled_is rows 0 s.0 ∙ s.2),
  λ p. (p.1.0, path_to rows 0 p.1.0 p.1.1, sym (spelled_is rows 0 p.1.0) ∙ ap actions p.1.2 ∙ p.2),
)

-- ---- how many rows

same_length : (rows : List GraphRow) → length (map row_of rows) ≡ length (map flow_row rows)
same_length [] = refl
same_length (x ∷ rows) = ap suc (same_length rows)

pub flow_some : (rows : List GraphRow) (l : ℕ) → HasRows (flow_graph (map row_of rows) l) → 0 < length (map flow_row rows)
flow_some rows l h = let e = same_length rows in let lt = h.some in omega arith

pub flow_few : (rows : List GraphRow) (l : ℕ) → HasRows (flow_graph (map row_of rows) l) → length (map flow_row rows) < 2 ^ 32
flow_few rows l h = subst (λ n. n < 2 ^ 32) (same_length rows) h.few

pub flow_within : (rows : List GraphRow) (l : ℕ) → HasRows (flow_graph (map row_of rows) l) → (r t : ℕ) → marks.IsStep (map flow_row rows) r t → t < length (map flow_row rows)
flow_within rows l h r t c =
    let n = step_next rows r t c in
    subst (λ m. t < m) (same_length rows) (h.within r t n.row n.is n.holds)

-- ---- the rows in turn, kept from their end on

pub begin_flow : (all rest : List GraphRow) (out : List FlowRow) → rest ≡ reverse all → out ≡ [] → out ++ map flow_row (reverse rest) ≡ map flow_row all
begin_flow all rest out e f = rw (e, f, reverse-reverse) refl

behind : (out rest : List FlowRow) (x : FlowRow) → out ++ x ∷ rest ≡ (out ++ x ∷ []) ++ rest
behind [] rest x = refl
behind (y ∷ out) rest x = ap (λ l. y ∷ l) (behind out rest x)

pub next_flow : (out : List FlowRow) (rest : List GraphRow) (x : GraphRow) → out ++ map flow_row (reverse (rest ++ x ∷ [])) ≡ (out ++ flow_row x ∷ []) ++ map flow_row (reverse rest)
next_flow out rest x = ap (λ l. out ++ map flow_row l) (reverse-append rest (x ∷ [])) ∙ behind out (map flow_row (reverse rest)) (flow_row x)
