-- Items whose facts fit, as those of all items do that the code meets.
use Rattle.std.specs.Prelude.{Bool, List}
use Rattle.std.specs.List.{list_all}
use Rattle.atac_facts.specs.Facts.{fits}
use Rattle.cover_report.specs.ItemTexts.{Item}

abbrev pub all_fit : List Item → Bool
all_fit items = list_all (λ item. fits item.fact) items
