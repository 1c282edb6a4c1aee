use Rattle.std.proofs.Common.{None, ap₂}
use Rattle.c_tables.specs.Tables.{tables_shape}
use Rattle.c_walk.specs.ItemView.{place_shape}
use Rattle.c_sites.specs.Kinds.{UseSite}
use Rattle.c_sites.proofs.Numbering.{use_named}
use Rattle.c_sites.proofs.lists.use_site.Goals as goal

pub returns : goal.returns
returns c =
    use_named c.args.names.now c.own_numbers.new.names c.site_numbers.new.names (tables_shape c.args.tables.now).structures c.args.pos c.args.function (place_shape c.args.place) c.in_ok-own.own c.in_ok-numbers.numbers _ c.in_ok-own.ensures c.in_ok-numbers.ensures
    (ap₂ (λ v n. record { pos = c.args.pos; function = c.args.function; variable = v; name = n; names = c.in_ok-numbers.numbers; owner = None }) c.variable_of-variable.ensures c.first_number-name.ensures)
