-- A compound statement whose parts were typed in place.
use Rattle.std.proofs.Common.{◌≡◌, ◌+◌, None, refl, add-one, one-add, ap, ◌∙◌}
use Rattle.std.specs.declared.vec.Vec.{Vec}
use Rattle.std.specs.declared.alloc.Global.{Global}
use Rattle.c_syntax.specs.declared.tree.Decl.{Decl}
use Rattle.c_syntax.specs.declared.tree.Item.{Item}
use Rattle.c_syntax.specs.declared.tree.Compound.{Compound, out-Compound, roll-Compound, out-roll-Compound}
use Rattle.c_syntax.specs.View.{decl_list, item_list, compound_shape}
use Rattle.c_syntax.proofs.Open.{compound_open}
use Rattle.c_syntax.proofs.Made.{compound_made}
use Rattle.c_tree.specs.State.{State, step}
use Rattle.c_tree.specs.Declaring.{type_decls}
use Rattle.c_tree.specs.Stating.{Surroundings, TypedItems, type_items, type_compound}
use Rattle.c_types.proofs.Weights.{compound_weight, items_weight}

-- its declarations alone were typed
abbrev pub half : Compound → Vec Decl Global → Compound
half b ds = roll-Compound record { pos = (out-Compound b).pos; decls = ds; items = (out-Compound b).items }

half_items : (b : Compound) (ds : Vec Decl Global) → item_list (out-Compound (half b ds)).items.items ≡ item_list (out-Compound b).items.items
half_items b ds = rw (out-roll-Compound record { pos = (out-Compound b).pos; decls = ds; items = (out-Compound b).items }) refl

pub half_weight : (b : Compound) (ds : Vec Decl Global) → items_weight (item_list (out-Compound (half b ds)).items.items) + 1 ≡ compound_weight (compound_shape b)
half_weight b ds = rw (compound_open b, half_items b ds, add-one, one-add) refl

module _ (c : Surroundings) (b : Compound) (ds : Vec Decl Global) (items : Vec Item Global) (s r t u : State) (g : r ≡ step s)
    (d : decl_list ds.items ≡ (type_decls (decl_list (out-Compound b).decls.items) r).decls)
    (e : t ≡ (type_decls (decl_list (out-Compound b).decls.items) r).state) where
  whole : TypedItems
  whole = type_items c None (item_list (out-Compound b).items.items) (type_decls (decl_list (out-Compound b).decls.items) (step s)).state

  whole_is : type_items c None (item_list (out-Compound (half b ds)).items.items) t ≡ whole
  unfolding whole
  whole_is = rw (half_items b ds, e, g) refl

  pub compound_tree : item_list items.items ≡ (type_items c None (item_list (out-Compound (half b ds)).items.items) t).items → compound_shape (roll-Compound record { pos = (out-Compound (half b ds)).pos; decls = (out-Compound (half b ds)).decls; items = items }) ≡ (type_compound c (compound_shape b) s).compound
  unfolding whole
  compound_tree i =
      compound_made (out-Compound (half b ds)).pos (out-Compound (half b ds)).decls items
      ∙ rw (out-roll-Compound record { pos = (out-Compound b).pos; decls = ds; items = (out-Compound b).items }, compound_open b, d, g, i ∙ ap (λ (x : TypedItems). x.items) whole_is) refl

  pub compound_state : u ≡ (type_items c None (item_list (out-Compound (half b ds)).items.items) t).state → step u ≡ (type_compound c (compound_shape b) s).state
  unfolding whole
  compound_state f = rw (compound_open b, f ∙ ap (λ (x : TypedItems). x.state) whole_is) refl
