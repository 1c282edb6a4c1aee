-- What is chosen by case constants.
use Rattle.std.proofs.Common.{◌≡◌, suc, ℤ, List, [], ◌∷◌, length, Option, None, refl, ap}
use Rattle.c_base.specs.declared.place.IntKind.{IntKind}
use Rattle.c_syntax.specs.declared.tree.Node.{Node}
use Rattle.c_syntax.specs.View.{node_list}
use Rattle.c_store.specs.declared.value.Value.{Value}
use Rattle.c_store.specs.declared.value.Value.TheVariants.{Int, Null, At}
use Rattle.c_meaning.specs.Constants.{select_constants, chosen_among}

-- nothing is chosen where there is no type
pub not_chosen : (v : Value) (cs : List ℤ) → chosen_among None v cs ≡ suc (length cs)
not_chosen (Int z) cs = refl
not_chosen Null cs = refl
not_chosen (At p) cs = refl

pub select_length : (k : Option IntKind) (ns : List Node) → length (select_constants k (node_list ns)) ≡ length ns
select_length k [] = refl
select_length k (n ∷ ns) = ap suc (select_length k ns)
