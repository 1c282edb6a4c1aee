-- Whether a value may initialise an object outside of functions.
use Rattle.std.specs.Prelude.{Bool, true, Option, Some, None}
use Rattle.c_syntax.specs.Shape.{TypeOf}
use Rattle.c_constants.specs.declared.constants.Constant.{Constant}
use Rattle.c_constants.specs.Constants as constants
use Rattle.c_tree.specs.Sorts.{Sort}

abbrev pub initialises_type : Option TypeOf → Constant → Bool
initialises_type None c = true
initialises_type (Some t) c = constants.initialises t c

abbrev pub initialises : Sort → Bool
initialises a = initialises_type a.kind a.constant
