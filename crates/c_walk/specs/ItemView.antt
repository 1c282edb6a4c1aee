-- The items, wherever their parts lie in memory.
use Rattle.std.specs.Prelude.{Option, option_map}
use Rattle.c_syntax.specs.View.{type_of}
use Rattle.c_walk.specs.declared.items.Direct as code_direct
use Rattle.c_walk.specs.declared.items.Outcomes as code_outcomes
use Rattle.c_walk.specs.declared.items.Outcomes.TheVariants as may
use Rattle.c_walk.specs.declared.items.Item as code_item
use Rattle.c_walk.specs.declared.items.Item.TheVariants as an
use Rattle.c_walk.specs.Items.{Direct, Outcomes, both, only_true, only_false, cases, Item, block, decision, def, used}

abbrev pub direct_shape : code_direct.Direct → Direct
direct_shape d = record { variable = d.variable; name = d.name.items; kind = type_of d.kind }

abbrev pub place_shape : Option code_direct.Direct → Option Direct
place_shape d = option_map direct_shape d

abbrev pub outcomes_shape : code_outcomes.Outcomes → Outcomes
outcomes_shape may.Both = both
outcomes_shape may.OnlyTrue = only_true
outcomes_shape may.OnlyFalse = only_false
outcomes_shape (may.Cases vs) = cases vs.items

abbrev pub item_shape : code_item.Item → Item
item_shape (an.Block p) = block p
item_shape (an.Decision p o) = decision p (outcomes_shape o)
item_shape (an.Def p f d) = def p f (place_shape d)
item_shape (an.Used p f d o) = used p f (place_shape d) o
