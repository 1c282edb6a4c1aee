-- In each program of the checker names of variables are their rows' own, and the fields of a structure have names of their own.
use Rattle.std.proofs.Common.{◌≡◌, ℕ, zero, suc, ◌-◌, List, [], ◌∷◌, Option, Some, None, Bool, true, false, nat_eq, sym, subst, ap, ◌∙◌}
use Rattle.std.specs.Prelude.{slice_get, if◌then◌else◌}
use Rattle.c_syntax.specs.Shape.{UnitShape}
use Rattle.c_syntax.specs.Grammar.{unit_form}
use Rattle.c_tables.specs.Tables.{StructShape, TablesShape}
use Rattle.c_tables.specs.Rows.{fields_in}
use Rattle.c_tree.specs.Units.{TypedUnit, bodies, typed_unit}
use Rattle.c_tree.proofs.Programs.{typed_again}
use Rattle.flow_owned.specs.Own.{AreOwnExternals}
use Rattle.flow_owned.specs.Fields.{AreApart, HaveApartFields}
use Rattle.flow_owned.specs.Laws.{ProgramsOwnTheirNames, ProgramsHaveApartFields}
use Rattle.flow_owned.proofs.OwnUnits.{typed_own}
use Rattle.flow_owned.proofs.Words.{tokens_plain}
use Rattle.flow_owned.proofs.ApartNodes.{AllApart}
use Rattle.flow_owned.proofs.ApartUnits.{unit_apart}

-- typed once more, a unit has the same tables
pub same_tables : (u v : UnitShape) → v ≡ (typed_unit u).unit → (typed_unit v).state.tables ≡ (typed_unit u).state.tables
same_tables u v e = ap (λ (w : UnitShape). (typed_unit w).state.tables) e ∙ ap (λ (t : TypedUnit). t.state.tables) (typed_again u)

pub programs_own_their_names : ProgramsOwnTheirNames
programs_own_their_names v t is =
    let u = is.source in
    let tables : (typed_unit u).state.tables ≡ t = sym (same_tables u v is.typed) ∙ is.tables in
    let own = subst (λ (t : TablesShape). AreOwnExternals t.variables (typed_unit u).unit.externals) tables (typed_own u is.sound.shaped.all) in
    subst (λ (w : UnitShape). AreOwnExternals t.variables w.externals) (sym is.typed) own

-- ---- fields

one_apart : (rows : List StructShape) (i : ℕ) → AllApart rows → AreApart (fields_in (slice_get rows i))
one_apart [] i h = tt
one_apart (r ∷ rows) zero h = h.0
one_apart (r ∷ rows) (suc i) h = one_apart rows i h.1

row_apart : (b : Bool) (o : Option StructShape) → AreApart (fields_in o) → AreApart (fields_in (if b then None else o))
row_apart true o h = tt
row_apart false o h = h

rows_apart : (t : TablesShape) → AllApart t.structures → HaveApartFields t
rows_apart t h n = row_apart (nat_eq n 0) (slice_get t.structures (n - 1)) (one_apart t.structures (n - 1) h)

pub programs_have_apart_fields : ProgramsHaveApartFields
programs_have_apart_fields v t is =
    let u = is.source in
    let tables : (typed_unit u).state.tables ≡ t = sym (same_tables u v is.typed) ∙ is.tables in
    rows_apart t (subst (λ (x : TablesShape). AllApart x.structures) tables (unit_apart (Some (bodies u)) u (tokens_plain (unit_form u) is.sound.lexed.tokens)))
