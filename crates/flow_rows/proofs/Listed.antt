-- Statements of a list, laid in turn.
use Rattle.std.proofs.Common.{ℕ, ◌+◌, ◌<◌, List, ◌∷◌, [], ◌++◌, take, get_or, length, Bool, true, false, ◌≡◌, refl, sym, subst, ap, ◌∙◌}
use Rattle.std.proofs.lemmas.List.{take_more}
use Rattle.c_syntax.specs.declared.tree.Item.{Item}
use Rattle.c_syntax.specs.View.{stmt_shape, item_list}
use Rattle.c_tables.specs.Tables.{TablesShape}
use Rattle.c_walk.specs.declared.around.Around.{Around}
use Rattle.c_walk.specs.Walked.{Walked, with_block_if}
use Rattle.c_walk.specs.Counted.{next_block}
use Rattle.c_walk.specs.Stating.{splits, pos_of_stmt, walk_stmt, walk_part, walk_items}
use Rattle.flow_walks.specs.declared.action.Action.TheVariants.{Block}
use Rattle.flow_walks.specs.Comes.{Comes, act, emit_if}
use Rattle.flow_walks.specs.Statements.{Exits, then_goes, stmt_goes, part_goes, items_go}
use Rattle.flow_walks.proofs.More.{under_then, items_in}
use Rattle.flow_rows.specs.Paths.{Graph}
use Rattle.flow_rows.specs.Laying.{Placed, exits, then_targets}
use Rattle.flow_rows.specs.Listed.{begins, item_goes, walk_item}
use Rattle.flow_rows.specs.declared.numbers.Numbers.{Numbers}
use Rattle.flow_rows.specs.declared.targets.Targets.{Targets}
use Rattle.flow_rows.proofs.Runs.{Run}
use Rattle.flow_rows.proofs.Stated.{under_exits}

-- whether the last statement splits the list
abbrev pub after_of : Bool → List Item → Bool
after_of b [] = b
after_of b (i ∷ rest) = after_of (splits (stmt_shape i.stmt)) rest

pub after_more : (b : Bool) (xs : List Item) (x : Item) → after_of b (xs ++ x ∷ []) ≡ splits (stmt_shape x.stmt)
after_more b [] x = refl
after_more b (y ∷ ys) x = after_more (splits (stmt_shape y.stmt)) ys x

pub after_next : (all : List Item) (o : ℕ) (x : Item) (b : Bool) → o < length all → x ≡ get_or all o x → b ≡ splits (stmt_shape x.stmt) → b ≡ after_of false (take (o + 1) all)
after_next all o x b lt is p =
    subst (λ xs. b ≡ after_of false xs) (ap (λ y. take o all ++ y ∷ []) is ∙ sym (take_more all o x lt)) (p ∙ sym (after_more false (take o all) x))

module _ (t : TablesShape) where
  pub items_more : (c : Around) (b : Bool) (xs : List Item) (x : Item) (w : Walked) (y : Exits) → items_go t c b (item_list (xs ++ x ∷ [])) w y ≡ items_go t c b (item_list xs) w (then_goes (item_goes t c (after_of b xs) x (walk_items t c b (item_list xs) w) y) y)
  items_more c b [] x w y = refl
  items_more c b (z ∷ zs) x w y =
      ap (λ (k : Comes). item_goes t c b z w (then_goes k y)) (items_more c (splits (stmt_shape z.stmt)) zs x (walk_item t c b z w) y)

  pub items_walk : (c : Around) (b : Bool) (xs : List Item) (x : Item) (w : Walked) → walk_items t c b (item_list (xs ++ x ∷ [])) w ≡ walk_item t c (after_of b xs) x (walk_items t c b (item_list xs) w)
  items_walk c b [] x w = refl
  items_walk c b (z ∷ zs) x w = items_walk c (splits (stmt_shape z.stmt)) zs x (walk_item t c b z w)

  module _ (e : Targets) where
    abbrev pub items_run : Run Item
    items_run = record {
      goes = λ c xs w k j. items_go t c false (item_list xs) w (then_goes j (exits k e));
      walk = λ c xs w. walk_items t c false (item_list xs) w;
      one = λ c xs x w k j. item_goes t c (after_of false xs) x w (then_goes j (exits k e));
      step = λ c xs x w. walk_item t c (after_of false xs) x w;
      none_goes = λ c w k j. refl;
      none_walk = λ c w. refl;
      more_goes = λ c xs x w k j. items_more c false xs x w (then_goes j (exits k e));
      more_walk = λ c xs x w. items_walk c false xs x w;
      goes_in = λ c xs w k i j h. items_in t c false (item_list xs) w _ _ (under_then i j (exits k e) (exits k e) h (under_exits e k k (λ r s z. z)));
    }

    -- one that is a block, and one that isn't
    abbrev BeginsPlaced : Item → Graph → Graph → Numbers → Numbers → ℕ → Bool → Type 0
    BeginsPlaced i g h n m at b = Placed g h n m at (λ c w k. emit_if b (act (Block (next_block w))) (stmt_goes t c (stmt_shape i.stmt) (with_block_if b (pos_of_stmt (stmt_shape i.stmt)) w) (exits k e))) (λ c w. walk_stmt t c (stmt_shape i.stmt) (with_block_if b (pos_of_stmt (stmt_shape i.stmt)) w))

    pub block_item : (i : Item) (g h : Graph) (n m : Numbers) (at : ℕ) (after b : Bool) → b ≡ begins after i → b ≡ true
        → Placed g h n m at (λ c w k. part_goes t c (stmt_shape i.stmt) w (exits k e)) (λ c w. walk_part t c (stmt_shape i.stmt) w)
        → Placed g h n m at (λ c w k. item_goes t c after i w (exits k e)) (λ c w. walk_item t c after i w)
    block_item i g h n m at after b is p part = subst (BeginsPlaced i g h n m at) (sym p ∙ is) part

    pub plain_item : (i : Item) (g h : Graph) (n m : Numbers) (at : ℕ) (after b : Bool) → b ≡ begins after i → b ≡ false
        → Placed g h n m at (λ c w k. stmt_goes t c (stmt_shape i.stmt) w (exits k e)) (λ c w. walk_stmt t c (stmt_shape i.stmt) w)
        → Placed g h n m at (λ c w k. item_goes t c after i w (exits k e)) (λ c w. walk_item t c after i w)
    plain_item i g h n m at after b is p part = subst (BeginsPlaced i g h n m at) (sym p ∙ is) part

    -- one of the list, which leads to the row of the next one
    pub item_next : (i : Item) (g h : Graph) (n m : Numbers) (at next : ℕ) (b after : Bool) (y : Targets) → b ≡ after → y ≡ then_targets next e
        → Placed g h n m at (λ c w k. item_goes t c b i w (exits k y)) (λ c w. walk_item t c b i w)
        → Placed g h n m at (λ c w k. item_goes t c after i w (then_goes (k next) (exits k e))) (λ c w. walk_item t c after i w)
    item_next i g h n m at next b after y p q part =
        subst (λ b. Placed g h n m at (λ c w k. item_goes t c b i w (then_goes (k next) (exits k e))) (λ c w. walk_item t c b i w)) p
        (subst (λ y. Placed g h n m at (λ c w k. item_goes t c b i w (exits k y)) (λ c w. walk_item t c b i w)) q part)
