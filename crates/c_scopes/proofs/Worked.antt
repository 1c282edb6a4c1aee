-- Worked rows: a and b are declared outside, a once more inside.
use Rattle.std.proofs.Common.{◌≡◌, ℕ, List, [], ◌∷◌, Some, None, false, refl}
use Rattle.c_scopes.specs.Rows.{Scoped}
use Rattle.c_scopes.specs.Scoping.{find, find_here, declared, entered, left, outermost}

abbrev a : List ℕ
a = 97 ∷ []

abbrev b : List ℕ
b = 98 ∷ []

abbrev outside : Scoped ℕ
outside = declared b 2 (declared a 1 (record { outer = []; top = [] }))

abbrev inside : Scoped ℕ
inside = declared a 3 (entered outside)

inner_is_found : find a inside ≡ Some 3
inner_is_found = refl

outer_is_seen : find b inside ≡ Some 2
outer_is_seen = refl

outer_is_not_here : find_here b inside ≡ None
outer_is_not_here = refl

outer_is_back : find a (left inside) ≡ Some 1
outer_is_back = refl

-- a name is found whole, and not by its beginning
longer_is_another : find (97 ∷ 98 ∷ []) inside ≡ None
longer_is_another = refl

two_are_open : outermost inside ≡ false
two_are_open = refl

-- the outermost scope isn't left
outermost_stays : left outside ≡ outside
outermost_stays = refl
