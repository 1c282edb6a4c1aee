use Rattle.std.proofs.Common.{◌≡◌, ◌++◌, drop}
use Rattle.c_syntax.specs.Forms.{kinds}
use Rattle.c_syntax.specs.View.{item_list}
use Rattle.c_syntax.specs.Grammar.{items_form}
use Rattle.c_syntax.proofs.sentences.+statement.Given as goal

abbrev pub invariant-put_items-loop-item : goal.invariant-put_items-loop-item
invariant-put_items-loop-item l = l.out ++ kinds (items_form (item_list (drop l.item-index l.items))) ≡ l.initial.out ++ kinds (items_form (item_list l.items))
