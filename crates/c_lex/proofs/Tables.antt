-- Rows of the table and the entries of its map.
use Rattle.std.proofs.Common.{◌≡◌, ℕ, List, [], ◌∷◌, length, map, Option, Some, None, Bool, true, false, refl, sym, ap, not, ◌+◌, ◌∙◌, cond, Vec, Global, nat_lt}
use Rattle.std.specs.Prelude.{bytes_eq, position, slice_get, option_map}
use Rattle.std.specs.List.{position_or_len}
use Rattle.std.specs.Borrow.{Bor}
use Rattle.std.proofs.lemmas.Option.{slice_get-map}
use Rattle.std.proofs.lemmas.List.{length-map}
use Rattle.indexmap.specs.IndexMap.{insert_entry}
use Rattle.c_lex.specs.declared.table.Piece.{Piece}
use Rattle.c_lex.specs.Macros.{Spelled, spelled, Row, row_of, rows_of, numbered, in_row, found, set_row}

abbrev pub pair : ℕ → List Spelled → ℕ × List Spelled
pair i b = (i, b)

abbrev pub Entry : Type 0
Entry = Bor (List ℕ) × Option (Vec Piece Global)

first_row : (name : List ℕ) (es : List Entry) → position_or_len (λ (y : Bor (List ℕ)). bytes_eq name y.now) (map (λ (e : Entry). e.0) es) ≡ position_or_len (λ (r : Row). bytes_eq name r.0) (rows_of es)
first_row name [] = refl
first_row name (e ∷ es) = ap (λ n. cond (not (bytes_eq name e.0.now)) (1 + n) 0) (first_row name es)

position_rows : (name : List ℕ) (es : List Entry) → position (λ (y : Bor (List ℕ)). bytes_eq name y.now) (map (λ (e : Entry). e.0) es) ≡ position (λ (r : Row). bytes_eq name r.0) (rows_of es)
position_rows name es =
    let n : length (map (λ (e : Entry). e.0) es) ≡ length (rows_of es) = simp length-map in
    ap (λ i. cond (nat_lt i (length (map (λ (e : Entry). e.0) es))) (Some i) None) (first_row name es)
    ∙ ap (λ m. cond (nat_lt (position_or_len (λ (r : Row). bytes_eq name r.0) (rows_of es)) m) (Some (position_or_len (λ (r : Row). bytes_eq name r.0) (rows_of es))) None) n

-- the name has this entry
pub found_at : (name : List ℕ) (es : List Entry) (i : ℕ) (k : Bor (List ℕ)) (v : Option (Vec Piece Global)) → position (λ (y : Bor (List ℕ)). bytes_eq name y.now) (map (λ (e : Entry). e.0) es) ≡ Some i → slice_get es i ≡ Some (k, v) → found name (rows_of es) ≡ option_map (λ (w : Vec Piece Global). pair i (map spelled w.items)) v
found_at name es i k v p g =
    ap (in_row (rows_of es)) (sym (position_rows name es) ∙ p) ∙ ap (numbered i) (slice_get-map row_of es i ∙ ap (option_map row_of) g) ∙ twice i v
  where
    twice : (i : ℕ) (v : Option (Vec Piece Global)) → option_map (λ (body : List Spelled). pair i body) (option_map (λ (w : Vec Piece Global). map spelled w.items) v) ≡ option_map (λ (w : Vec Piece Global). pair i (map spelled w.items)) v
    twice i None = refl
    twice i (Some w) = refl

-- the name has no entry
pub found_not : (name : List ℕ) (es : List Entry) → position (λ (y : Bor (List ℕ)). bytes_eq name y.now) (map (λ (e : Entry). e.0) es) ≡ None → found name (rows_of es) ≡ None
found_not name es p = ap (in_row (rows_of es)) (sym (position_rows name es) ∙ p)

set_at : (b : Bool) (k : Bor (List ℕ)) (v : Option (Vec Piece Global)) (e : Entry) (es : List Entry) (more : List Entry) → rows_of more ≡ set_row k.now (option_map (λ w. map spelled w.items) v) (rows_of es) → rows_of (cond b ((e.0, v) ∷ es) (e ∷ more)) ≡ cond b ((e.0.now, option_map (λ w. map spelled w.items) v) ∷ rows_of es) (row_of e ∷ set_row k.now (option_map (λ w. map spelled w.items) v) (rows_of es))
set_at true k v e es more h = refl
set_at false k v e es more h = ap (λ r. row_of e ∷ r) h

-- an entry that is put into the map is a row of the table
pub set_entry : (k : Bor (List ℕ)) (v : Option (Vec Piece Global)) (es : List Entry) → rows_of (insert_entry (λ (x y : Bor (List ℕ)). bytes_eq x.now y.now) es k v) ≡ set_row k.now (option_map (λ w. map spelled w.items) v) (rows_of es)
set_entry k v [] = refl
set_entry k v (e ∷ es) = set_at (bytes_eq k.now e.0.now) k v e es (insert_entry (λ (x y : Bor (List ℕ)). bytes_eq x.now y.now) es k v) (set_entry k v es)
