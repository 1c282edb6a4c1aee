-- Items whose facts have numbers that fit their types; texts of two tests that agree on such facts are one.
use Rattle.std.specs.Prelude.{◌≡◌, ℕ, Bool, true, List, [], ◌∷◌}
use Rattle.atac_facts.specs.declared.fact.Fact.{Fact}
use Rattle.atac_facts.specs.Facts.{fits}
use Rattle.atac_base.specs.Items.{ItemLists}
use Rattle.cover_report.specs.declared.kinds.Kind.{Kind}
use Rattle.cover_report.specs.ItemTexts.{Item, of_kind}
use Rattle.cover_report.specs.Texts.{report_text}
use Rattle.cover_show.specs.Shown.{show_text}
use Rattle.cover_hits.specs.Hits.{hits_text}
use Rattle.json_out.specs.Json.{json_of}

abbrev pub AllFit : List Item → Type 0
AllFit [] = Unit {0}
AllFit (i ∷ is) = (fits i.fact ≡ true) × AllFit is

-- of each kind
abbrev pub ItemsFit : ItemLists → Type 0
ItemsFit items = (k : Kind) → AllFit (of_kind items k)

-- on facts that fit
abbrev pub Agree : {A : Type 0} → (Fact → A) → (Fact → A) → Type 0
Agree f g = (x : Fact) → fits x ≡ true → f x ≡ g x

-- no text of such items tells tests apart that agree on facts that fit
pub record HasOneText (source : List ℕ) (items : ItemLists) (f g : Fact → Bool) : Type 0 where
  pub report : report_text items f ≡ report_text items g
  pub show : show_text source items f ≡ show_text source items g
  pub json : json_of items f ≡ json_of items g

abbrev pub TestsHaveOneText : Type 0
TestsHaveOneText = (source : List ℕ) (items : ItemLists) (f g : Fact → Bool) → ItemsFit items → Agree f g → HasOneText source items f g

abbrev pub CountsHaveOneText : Type 0
CountsHaveOneText = (exact : Bool) (items : ItemLists) (f g : Fact → ℕ) → ItemsFit items → Agree f g → hits_text exact items f ≡ hits_text exact items g
