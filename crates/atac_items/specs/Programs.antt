-- The items of an accepted program have facts whose numbers fit their types.
use Rattle.std.specs.Prelude.{ℕ, List}
use Rattle.c_lex_pieces.specs.Written.{AreBytes}
use Rattle.atac_base.specs.Items.{ItemLists}
use Rattle.atac_programs.specs.Programs.{IsAccepted, HasItems}
use Rattle.atac_items.specs.Fitting.{ItemsFit}

abbrev pub ItemsOfProgramsFit : Type 0
ItemsOfProgramsFit = (source : List ℕ) → AreBytes source → (a : IsAccepted source) (items : ItemLists) → HasItems a items → ItemsFit items
