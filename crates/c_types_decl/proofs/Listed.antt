-- A list in braces.
use Rattle.std.proofs.Common.{◌≡◌, ℕ, List, length, take, Bool, Option, ap, sym, ◌∙◌}
use Rattle.std.specs.declared.vec.Vec.{Vec}
use Rattle.std.specs.declared.alloc.Global.{Global}
use Rattle.c_base.specs.declared.place.Pos.{Pos}
use Rattle.c_syntax.specs.declared.tree.Init.{Init}
use Rattle.c_syntax.specs.declared.tree.Init.TheVariants as init
use Rattle.c_syntax.specs.Shape.{TypeOf, listed}
use Rattle.c_syntax.specs.View.{init_shape, init_list, inits_shape}
use Rattle.c_syntax.specs.declared.tree.DeclForm.TheBlock.{hidden-the_row-Init-2}
use Rattle.c_syntax.proofs.Open.{inits_open}
use Rattle.c_syntax.proofs.Made.{inits_made}
use Rattle.c_tree.specs.State.{State, step, steps}
use Rattle.c_tree.specs.Rulings.{rule, of_kind}
use Rattle.c_tree.specs.Initialisers.{Slots, list_rule, list_end, TypedInit, type_init, type_inits}
use Rattle.c_types_decl.specs.SlotsView.{field_types, slots_with}
use Rattle.c_types_decl.specs.Braces.{in_braces}
use Rattle.c_types_decl.proofs.Enough.{fields_enough}

-- what typing makes of it
pub list_typed : (c : Bool) (k : Option TypeOf) (i : Init) (p : Pos) (v : Vec Init Global) (last : Bool) (s : State) → i ≡ init.List p v last → type_init c k (init_shape i) s ≡ record { init = listed p (in_braces k p (init_list v.items) s).inits last; state = steps (list_end last) (in_braces k p (init_list v.items) s).state }
list_typed c k i p v last s is = ap (λ j. type_init c k (init_shape j) s) is ∙ ap (λ j. type_init c k j s) (inits_open p v last)

-- its items were typed in place
pub list_in_place : (c : Bool) (k : Option TypeOf) (i : Init) (p q : Pos) (v w : Vec Init Global) (last comma : Bool) (s : State) → i ≡ init.List p v last → q ≡ p → comma ≡ last → init_list w.items ≡ (in_braces k p (init_list v.items) s).inits → listed q (inits_shape (hidden-the_row-Init-2 w)) comma ≡ (type_init c k (init_shape i) s).init
list_in_place c k i p q v w last comma s is at end e =
    rw (inits_made w, e, at, end) (ap (λ (t : TypedInit). t.init) (sym (list_typed c k i p v last s is)))

-- the items behind the brace, for as many of a structure's fields as there are items
pub behind_brace : (k : Option TypeOf) (ts : List TypeOf) (n : ℕ) (items : List Init) (p : Pos) (l : Slots) (s t u : State) → n ≡ length items → ts ≡ take n (field_types k s) → t ≡ rule (of_kind k list_rule) s.at p s → u ≡ step t → l ≡ slots_with k ts → type_inits l (init_list items) u ≡ in_braces k p (init_list items) s
behind_brace k ts n items p l s t u len types judged stepped is = rw (is, types, len, stepped, judged) (fields_enough k items s _)
