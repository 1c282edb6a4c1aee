-- Worked leaf names and their numbers.
use Rattle.std.proofs.Common.{◌≡◌, ℕ, List, [], ◌∷◌, Option, Some, None, refl}
use Rattle.c_base.specs.declared.place.Pos.{Pos}
use Rattle.c_base.specs.declared.place.IntKind.TheVariants.{Int}
use Rattle.c_syntax.specs.declared.text.Text.{Text}
use Rattle.c_syntax.specs.Shape.{int, array, structure}
use Rattle.c_tables.specs.Tables.{StructShape}
use Rattle.c_walk.specs.Items.{Direct, both, Item, block, decision, def, used}
use Rattle.c_sites.specs.Names.{leaf_name, site_leaves}
use Rattle.c_sites.specs.Numbers.{names_of}
use Rattle.c_sites.specs.Kinds.{defs, uses}

abbrev at : ℕ → Pos
at k = record { line = 1; col = k }

abbrev v_text : Text
v_text = 118 ∷ []

abbrev v_f_text : Text
v_f_text = 118 ∷ 46 ∷ 102 ∷ []

abbrev v_g_text : Text
v_g_text = 118 ∷ 46 ∷ 103 ∷ 91 ∷ 93 ∷ []

-- struct{int f;int g[2];}
abbrev structures : List StructShape
structures = record { tag = None; fields = record { name = 102 ∷ []; kind = int Int } ∷ record { name = 103 ∷ []; kind = array (int Int) 2 } ∷ [] } ∷ []

-- a variable v of that type, with that number
abbrev v : ℕ → Option Direct
v n = Some (record { variable = n; name = v_text; kind = structure 1 })

abbrev v_g : ℕ → Option Direct
v_g n = Some (record { variable = n; name = v_g_text; kind = int Int })

-- it has the leaf names v.f and v.g[]
leaves_of_v : site_leaves structures (v 2) ≡ v_f_text ∷ v_g_text ∷ []
leaves_of_v = refl

-- a definition of v.g[], one of v, a use of v.g[] in a decision, one of what a pointer points to, and a definition of another v
abbrev items : List Item
items = def (at 1) 1 (v_g 2) ∷ def (at 2) 1 (v 2) ∷ block (at 3) ∷ decision (at 3) both ∷ used (at 3) 1 (v_g 2) (Some 1) ∷ used (at 4) 1 None None ∷ def (at 5) 2 (v 3) ∷ []

names : names_of structures items ≡ leaf_name 2 v_g_text ∷ leaf_name 2 v_f_text ∷ leaf_name 3 v_f_text ∷ leaf_name 3 v_g_text ∷ []
names = refl

numbers_of_definitions : defs (names_of structures items) structures items
    ≡ record { pos = at 1; function = 1; variable = Some 2; names = 1 ∷ [] } ∷ record { pos = at 2; function = 1; variable = Some 2; names = 2 ∷ 1 ∷ [] }
    ∷ record { pos = at 5; function = 2; variable = Some 3; names = 3 ∷ 4 ∷ [] } ∷ []
numbers_of_definitions = refl

numbers_of_uses : uses (names_of structures items) structures items
    ≡ record { pos = at 3; function = 1; variable = Some 2; name = 1; names = 1 ∷ []; owner = Some 1 } ∷ record { pos = at 4; function = 1; variable = None; name = 0; names = []; owner = None } ∷ []
numbers_of_uses = refl
