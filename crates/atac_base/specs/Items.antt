-- What is listed and reported: each kind of item in a list of its own, in the order of its numbers.
use Rattle.std.specs.Prelude.{◌≡◌, ℕ, ◌<◌, ◌≤◌, List, length, slice_get, Some}
use Rattle.c_base.specs.declared.place.Pos.{Pos}
use Rattle.atac_base.specs.declared.rows.OutcomeRow.{OutcomeRow}
use Rattle.atac_base.specs.declared.rows.PairRow.{PairRow}
use Rattle.atac_base.specs.declared.rows.PUseRow.{PUseRow}

-- a row of a pair has its leaf name by its index among the names
pub record ItemLists : Type 0 where
  pub blocks : List Pos
  pub outcomes : List OutcomeRow
  pub c_uses : List PairRow
  pub p_uses : List PUseRow
  pub names : List (List ℕ)

-- the lists are short, and each row's name is one of so many
pub record AreRows (blocks : List Pos) (outcomes : List OutcomeRow) (c_uses : List PairRow) (p_uses : List PUseRow) (names : ℕ) : Type 0 where
  pub few_blocks : length blocks ≤ 65535
  pub few_outcomes : length outcomes ≤ 4294967295
  pub few_c_uses : length c_uses ≤ 4294967295
  pub few_p_uses : length p_uses ≤ 4294967295
  pub few_names : names ≤ 4294967295
  pub c_named : (k : ℕ) (row : PairRow) → slice_get c_uses k ≡ Some row → row.name < names
  pub p_named : (k : ℕ) (row : PUseRow) → slice_get p_uses k ≡ Some row → row.pair.name < names
