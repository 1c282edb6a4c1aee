use Rattle.std.proofs.Common.{ap, ◌∙◌}
use Rattle.c_syntax.specs.View.{unit_shape}
use Rattle.c_tables.specs.Tables.{tables_shape}
use Rattle.c_meaning.specs.Sources.{source_of}
use Rattle.hex.specs.Hex.{encode_lower}
use Rattle.probe_rules.specs.Instrumented.{instrumented_unit}
use Rattle.probe_in.proofs.Programs.{probed_held, made, lined, probed_simulates, erased_again, owned_again}
use Rattle.probe_in.proofs.program.instrument.Goals as goal

pub from_typed-requires : goal.from_typed-requires
from_typed-requires c =
    let t = tables_shape c.args.program.now.tables in
    let unit = c.in_ok-unit.ensures t ∙ ap (λ u. instrumented_unit c.in_ok-digits.digits t (unit_shape u)) c.unit.ensures.unit in
    probed_held c.in_ok-digits.digits (source_of c.args.program.now) (unit_shape c.in_ok-unit.unit) (tables_shape c.in_ok-tables.tables) c.args.digest.now c.requires.clean c.in_ok-digits.ensures.read unit (c.in_ok-tables.ensures ∙ ap tables_shape c.tables.ensures.tables) c.args.program.now.typed

pub returns-clause-digest : goal.returns-clause-digest
returns-clause-digest c =
    let t = tables_shape c.args.program.now.tables in
    let unit = ap unit_shape c.from_typed.ensures.unit ∙ c.in_ok-unit.ensures t ∙ ap (λ u. instrumented_unit c.in_ok-digits.digits t (unit_shape u)) c.unit.ensures.unit in
    lined c.in_ok-digits.digits (source_of c.args.program.now) (unit_shape c.from_typed.result.unit) c.args.digest.now unit c.in_ok-digits.ensures.read

pub returns-clause-simulates : goal.returns-clause-simulates
returns-clause-simulates c =
    let t = tables_shape c.args.program.now.tables in
    let unit = ap unit_shape c.from_typed.ensures.unit ∙ c.in_ok-unit.ensures t ∙ ap (λ u. instrumented_unit c.in_ok-digits.digits t (unit_shape u)) c.unit.ensures.unit in
    let tables = ap tables_shape c.from_typed.ensures.tables ∙ c.in_ok-tables.ensures ∙ ap tables_shape c.tables.ensures.tables in
    let same = made c.in_ok-digits.digits (encode_lower c.args.digest.now) (source_of c.args.program.now) (unit_shape c.from_typed.result.unit) (tables_shape c.from_typed.result.tables) unit tables c.in_ok-digits.ensures.spelled in
    probed_simulates (encode_lower c.args.digest.now) (source_of c.args.program.now) (source_of c.from_typed.result) c.requires.clean c.args.program.now.typed same

pub returns-clause-erased : goal.returns-clause-erased
returns-clause-erased c =
    let t = tables_shape c.args.program.now.tables in
    let unit = ap unit_shape c.from_typed.ensures.unit ∙ c.in_ok-unit.ensures t ∙ ap (λ u. instrumented_unit c.in_ok-digits.digits t (unit_shape u)) c.unit.ensures.unit in
    erased_again c.in_ok-digits.digits (source_of c.args.program.now) (unit_shape c.from_typed.result.unit) c.requires.clean unit

pub returns-clause-owns : goal.returns-clause-owns
returns-clause-owns c n =
    let t = tables_shape c.args.program.now.tables in
    let unit = ap unit_shape c.from_typed.ensures.unit ∙ c.in_ok-unit.ensures t ∙ ap (λ u. instrumented_unit c.in_ok-digits.digits t (unit_shape u)) c.unit.ensures.unit in
    owned_again c.in_ok-digits.digits (source_of c.args.program.now) (unit_shape c.from_typed.result.unit) c.requires.clean unit n
