-- How many items a list has.
use Rattle.std.proofs.Common.{◌≡◌, List, [], ◌∷◌, length, Bool, refl, ap, ◌∙◌, arith}
use Rattle.std.specs.declared.vec.Vec.{Vec}
use Rattle.std.specs.declared.alloc.Global.{Global}
use Rattle.c_base.specs.declared.place.Pos.{Pos}
use Rattle.c_syntax.specs.declared.tree.Init.{Init}
use Rattle.c_syntax.specs.declared.tree.Init.TheVariants as init
use Rattle.c_syntax.specs.View.{init_shape, init_list}
use Rattle.c_syntax.proofs.Open.{inits_open}
use Rattle.c_tree.specs.Initialisers.{count_items, kept, length_in}

-- the items of the code and those of the shape
count_is : (items : List Init) → count_items (init_list items) ≡ length items
count_is [] = refl
count_is (i ∷ rest) = omega (arith, count_is rest)

-- a list gives its items
pub length_in_list : (i : Init) (p : Pos) (v : Vec Init Global) (last : Bool) → i ≡ init.List p v last → length_in (init_shape i) ≡ kept (length v.items)
length_in_list i p v last is = ap (λ j. length_in (init_shape j)) is ∙ ap length_in (inits_open p v last) ∙ ap kept (count_is v.items)
