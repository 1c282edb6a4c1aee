-- The texts depend on which facts cover alone.
use Rattle.std.proofs.Common.{◌≡◌, Bool, ap}
use mathlib.Core.Path.{fun_ext}
use Rattle.atac_facts.specs.declared.fact.Fact.{Fact}
use Rattle.atac_base.specs.Items.{ItemLists}
use Rattle.cover_report.specs.Texts.{totals_text, report_text}

pub totals_same : (f g : Fact → Bool) → ((fact : Fact) → f fact ≡ g fact) → (items : ItemLists) → totals_text items f ≡ totals_text items g
totals_same f g same items = ap (totals_text items) (fun_ext same)

pub report_same : (f g : Fact → Bool) → ((fact : Fact) → f fact ≡ g fact) → (items : ItemLists) → report_text items f ≡ report_text items g
report_same f g same items = ap (report_text items) (fun_ext same)
