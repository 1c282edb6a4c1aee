-- What came of a directive, as the code says it.
use Rattle.std.specs.Prelude.{List}
use Rattle.c_lex.specs.declared.obey.Outcome.{Outcome}
use Rattle.c_lex.specs.declared.obey.Outcome.TheVariants.{Done, AtHash, AtStop, AtName}
use Rattle.c_lex.specs.Macros.{Row}
use Rattle.c_lex.specs.Scan.{Effect, leaves, at_hash, at_stop, at_name}

abbrev pub effect_of : Outcome → List Row → Effect
effect_of Done T = leaves T
effect_of AtHash T = at_hash
effect_of (AtStop r) T = at_stop r
effect_of AtName T = at_name
