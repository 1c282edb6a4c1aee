-- Lists of the code in front of a list of shapes.
use Rattle.std.specs.Prelude.{List, [], ◌∷◌}

abbrev pub in_front : {T S L : Type 0} → (T → S) → (S → L → L) → List T → L → L
in_front shape more [] r = r
in_front shape more (x ∷ xs) r = more (shape x) (in_front shape more xs r)
