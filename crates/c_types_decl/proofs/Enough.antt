-- As many of a structure's fields as a list has items are enough.
use Rattle.std.proofs.Common.{◌≡◌, ℕ, zero, suc, min, List, [], ◌∷◌, length, map, take, Option, Some, None, refl, ap, arith}
use Rattle.c_syntax.specs.declared.tree.Init.{Init}
use Rattle.c_syntax.specs.Shape.{TypeOf, int, pointer, array, structure, nothing}
use Rattle.c_syntax.specs.View.{init_list}
use Rattle.c_tree.specs.State.{State}
use Rattle.c_tables.specs.Tables.{field_shape}
use Rattle.c_tables.specs.declared.tables.FieldRow.{FieldRow}
use Rattle.c_tree.specs.Initialisers.{these, slots, type_inits}
use Rattle.c_types_decl.specs.SlotsView.{field_types, slots_with}

-- items meet no further types than there are items
these_enough : (ts : List TypeOf) (items : List Init) (s : State) → type_inits (these (take (length items) ts)) (init_list items) s ≡ type_inits (these ts) (init_list items) s
these_enough ts [] s = refl
these_enough [] (i ∷ items) s = refl
these_enough (t ∷ ts) (i ∷ items) s = rw (these_enough ts items) refl

-- the same of a list for any type
pub fields_enough : (k : Option TypeOf) (items : List Init) (before s : State) → type_inits (slots_with k (take (length items) (field_types k before))) (init_list items) s ≡ type_inits (slots k before) (init_list items) s
fields_enough None items before s = refl
fields_enough (Some (int k)) items before s = refl
fields_enough (Some (pointer t)) items before s = refl
fields_enough (Some (array t n)) items before s = refl
fields_enough (Some (structure n)) items before s = these_enough (field_types (Some (structure n)) before) items s
fields_enough (Some nothing) items before s = refl

-- the first fields, counted in the code
pub first_taken : (most i : ℕ) (fields : List FieldRow) → i ≡ min (length fields) most → map (λ f. f.kind) (map field_shape (take i fields)) ≡ take most (map (λ f. f.kind) (map field_shape fields))
first_taken zero i fields e = let none : i ≡ 0 = omega (arith, e) in rw none refl
first_taken (suc most) zero [] e = refl
first_taken (suc most) (suc i) [] e = refl
first_taken (suc most) zero (f ∷ fields) e = absurd (omega (arith, e))
first_taken (suc most) (suc i) (f ∷ fields) e = ap (λ ts. (field_shape f).kind ∷ ts) (first_taken most i fields (omega (arith, e)))
