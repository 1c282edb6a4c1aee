-- Extents at the front of a list.
use Rattle.std.proofs.Common.{◌≡◌, ℕ, suc, ◌+◌, ◌-◌, ◌<◌, ◌≤◌, List, [], ◌∷◌, ◌++◌, length, take, drop, get_or, refl, sym, ap, subst, ◌∙◌, arith, length-append, length-drop, append_assoc, add-one, drop-cons}
use Rattle.std.proofs.Math.ListN.{set}
use Rattle.std.proofs.Math.Seq.{set-append_seam, take-append_seam, drop-append_seam, take-length}
use Rattle.std.proofs.lemmas.List.{take-append-drop}
use Rattle.c_plan.specs.declared.extent.Extent.{Extent}
use Rattle.c_syntax.specs.declared.tree.Item.{Item}
use Rattle.c_syntax.specs.Shape.{StmtShape, stmt}
use Rattle.c_syntax.specs.View.{stmt_shape, item_list}
use Rattle.c_meaning.specs.Counts.{stmt_variables, items_variables}
use Rattle.c_plan.specs.Extents.{around, stmt_extents, items_extents, Begins}

-- the extent of what is complete is written at its place
pub placed_end : (all front inner : List Extent) (e : Extent) (i n : ℕ) → all ≡ front ++ e ∷ inner → i ≡ length front → set all i (record { statements = length all - i; variables = n }) ≡ front ++ around inner n
placed_end all front inner e i n h k =
    rw (h, k) (set-append_seam front e inner _ ∙ ap (λ m. front ++ record { statements = m; variables = n } ∷ inner) (simp length-append (omega arith)))

-- ---- fronts

pub begins_split : (xs ys : List Extent) → Begins xs ys → ys ≡ xs ++ drop (length xs) ys
begins_split xs ys h = sym (take-append-drop (length xs) ys) ∙ ap (λ l. l ++ drop (length xs) ys) h

pub begins_made : (xs ys zs : List Extent) → ys ≡ xs ++ zs → Begins xs ys
begins_made xs ys zs h = rw h (take-append_seam xs zs)

-- of two fronts, one behind the other
pub begins_left : (xs zs ys : List Extent) → Begins (xs ++ zs) ys → Begins xs ys
begins_left xs zs ys h = begins_made xs ys (zs ++ drop (length (xs ++ zs)) ys) (begins_split (xs ++ zs) ys h ∙ append_assoc xs zs _)

pub begins_right : (xs zs ys : List Extent) (n : ℕ) → Begins (xs ++ zs) ys → n ≡ length xs → Begins zs (drop n ys)
begins_right xs zs ys n h e =
    let s : ys ≡ xs ++ (zs ++ drop (length (xs ++ zs)) ys) = begins_split (xs ++ zs) ys h ∙ append_assoc xs zs _ in
    begins_made zs (drop n ys) (drop (length (xs ++ zs)) ys) (rw e (ap (drop (length xs)) s ∙ drop-append_seam xs _))

pub begins_length : (xs ys : List Extent) → Begins xs ys → length xs ≤ length ys
begins_length xs ys h = omega (arith, ap length (begins_split xs ys h), length-append xs (drop (length xs) ys))

-- the first of them
pub begins_first : (x d : Extent) (xs ys : List Extent) → Begins (x ∷ xs) ys → get_or ys 0 d ≡ x
begins_first x d xs ys h = rw (begins_split (x ∷ xs) ys h) refl

-- behind so many
pub begins_after : (xs zs ys : List Extent) (n : ℕ) → Begins (xs ++ zs) ys → n ≡ length xs → Begins zs (take (length ys - n) (drop n ys))
begins_after xs zs ys n h e = rw (sym (length-drop n ys), take-length (drop n ys)) (begins_right xs zs ys n h e)

-- ---- a statement at the front

-- its own extent
pub own_extent : (a : StmtShape) (ys zs : List Extent) (d : Extent) → Begins (stmt_extents a ++ zs) ys → get_or ys 0 d ≡ record { statements = length (stmt_extents a); variables = stmt_variables a }
own_extent (stmt p ms q f) ys zs d h = begins_first _ d _ ys h

-- a list from an index on
pub item_at : (i : ℕ) (all now : List Item) (x : Item) → now ≡ all → i < length now → x ≡ get_or now i x → drop i all ≡ x ∷ drop (i + 1) all
item_at i all now x e h g = rw (sym e, add-one) (drop-cons now i x h ∙ ap (λ y. y ∷ drop (suc i) now) (sym g))

-- the first statement of a list, and the others
pub first_listed : (items others : List Item) (i : Item) (ys : List Extent) → items ≡ i ∷ others → Begins (items_extents (item_list items)) ys → Begins (stmt_extents (stmt_shape i.stmt)) ys
first_listed items others i ys e h = begins_left (stmt_extents (stmt_shape i.stmt)) (items_extents (item_list others)) ys (subst (λ l. Begins (items_extents (item_list l)) ys) e h)

pub first_fits : (items others : List Item) (i : Item) (n : ℕ) → items ≡ i ∷ others → n + items_variables (item_list items) ≤ 4294967295 → n + stmt_variables (stmt_shape i.stmt) ≤ 4294967295
first_fits items others i n e h = let g : n + items_variables (item_list (i ∷ others)) ≤ 4294967295 = subst (λ l. n + items_variables (item_list l) ≤ 4294967295) e h in omega arith

pub item_extent : (items others : List Item) (i : Item) (ys : List Extent) (d : Extent) → items ≡ i ∷ others → Begins (items_extents (item_list items)) ys → get_or ys 0 d ≡ record { statements = length (stmt_extents (stmt_shape i.stmt)); variables = stmt_variables (stmt_shape i.stmt) }
item_extent items others i ys d e h = own_extent (stmt_shape i.stmt) ys (items_extents (item_list others)) d (subst (λ l. Begins (items_extents (item_list l)) ys) e h)

pub rest_listed : (items others : List Item) (i : Item) (ys : List Extent) (d : Extent) → items ≡ i ∷ others → Begins (items_extents (item_list items)) ys → Begins (items_extents (item_list others)) (take (length ys - (get_or ys 0 d).statements) (drop (get_or ys 0 d).statements ys))
rest_listed items others i ys d e h =
    begins_after (stmt_extents (stmt_shape i.stmt)) (items_extents (item_list others)) ys _ (subst (λ l. Begins (items_extents (item_list l)) ys) e h) (ap (λ (x : Extent). x.statements) (item_extent items others i ys d e h))

pub rest_fits : (items others : List Item) (i : Item) (ys : List Extent) (d : Extent) (n : ℕ) → items ≡ i ∷ others → Begins (items_extents (item_list items)) ys → n + items_variables (item_list items) ≤ 4294967295 → (n + (get_or ys 0 d).variables) + items_variables (item_list others) ≤ 4294967295
rest_fits items others i ys d n e h g =
    let v : (get_or ys 0 d).variables ≡ stmt_variables (stmt_shape i.stmt) = ap (λ (x : Extent). x.variables) (item_extent items others i ys d e h) in
    let g : n + items_variables (item_list (i ∷ others)) ≤ 4294967295 = subst (λ l. n + items_variables (item_list l) ≤ 4294967295) e g in
    omega arith
