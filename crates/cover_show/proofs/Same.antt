-- The text depends on which facts cover alone.
use Rattle.std.proofs.Common.{◌≡◌, ℕ, Bool, List, ap}
use mathlib.Core.Path.{fun_ext}
use Rattle.atac_facts.specs.declared.fact.Fact.{Fact}
use Rattle.atac_base.specs.Items.{ItemLists}
use Rattle.cover_show.specs.Shown.{show_text}

pub show_same : (f g : Fact → Bool) → ((fact : Fact) → f fact ≡ g fact) → (text : List ℕ) (items : ItemLists) → show_text text items f ≡ show_text text items g
show_same f g same text items = ap (show_text text items) (fun_ext same)
