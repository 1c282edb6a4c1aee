-- What the code sees at the front of tokens, in the words of the reader.
use Rattle.std.specs.Prelude.{List}
use Rattle.c_syntax.specs.declared.token.Token.{Token}
use Rattle.c_syntax.specs.Shape as shape
use Rattle.c_syntax.specs.Shaped as place
use Rattle.c_grammar.specs.declared.look.Standing.{Standing}
use Rattle.c_grammar.specs.declared.look.Standing.TheVariants as standings
use Rattle.c_grammar.specs.declared.look.Step.{Step}
use Rattle.c_grammar.specs.declared.look.Step.TheVariants as steps
use Rattle.c_grammar.specs.declared.look.Prefix.{Prefix}
use Rattle.c_grammar.specs.declared.look.Prefix.TheVariants as prefixes
use Rattle.c_grammar.specs.declared.look.Infix.{Infix}
use Rattle.c_grammar.specs.declared.look.Infix.TheVariants as infixes
use Rattle.c_grammar.specs.declared.look.Access.{Access}
use Rattle.c_grammar.specs.declared.look.Access.TheVariants as accesses
use Rattle.c_grammar.specs.declared.look.Operator.{Operator}
use Rattle.c_grammar.specs.declared.look.Operator.TheVariants as operators
use Rattle.c_grammar.specs.declared.look.Probing.{Probing}
use Rattle.c_grammar.specs.declared.look.Probing.TheVariants as probings
use Rattle.c_grammar.specs.declared.look.Start as code
use Rattle.c_grammar.specs.declared.look.Start.TheVariants as starts
use Rattle.c_syntax.specs.declared.token.Key.{Key}
use Rattle.c_grammar.specs.declared.look.SpecStart.{SpecStart}
use Rattle.c_grammar.specs.declared.look.SpecStart.TheVariants as spec_starts
use Rattle.c_grammar.specs.Starts.{SpecHead, a_spec_word, a_struct, an_enum, Oper, infix_oper, question, bracket, access, step, open_paren, Start, at_leaf, at_prefix, at_paren, at_simple, at_select}

abbrev pub step_of : Step → shape.Step
step_of steps.Up = shape.up
step_of steps.Down = shape.down

abbrev pub prefix_of : Prefix → shape.Prefix
prefix_of (prefixes.Unary o) = shape.unary o
prefix_of (prefixes.Before s) = shape.before (step_of s)
prefix_of prefixes.SizeOf = shape.size_of

abbrev pub infix_of : Infix → shape.Infix
infix_of (infixes.Plain o) = shape.plain o
infix_of infixes.And = shape.and
infix_of infixes.Or = shape.or
infix_of (infixes.Assign o) = shape.assign o
infix_of infixes.Comma = shape.comma

abbrev pub access_of : Access → shape.Access
access_of accesses.Dot = shape.dot
access_of accesses.Arrow = shape.arrow

abbrev pub oper_of : Operator → Oper
oper_of (operators.Infix u) = infix_oper (infix_of u)
oper_of operators.Question = question
oper_of operators.Bracket = bracket
oper_of (operators.Field h) = access (access_of h)
oper_of (operators.Step s) = step (step_of s)
oper_of operators.Paren = open_paren

abbrev pub probing_of : Probing → shape.Probing
probing_of probings.Block = shape.block
probing_of probings.Test = shape.test
probing_of probings.Use = shape.used
probing_of probings.Def = shape.def

abbrev pub start_of : code.Start → List Token → Start
start_of (starts.Number t) ts = at_leaf (shape.number t.now) ts
start_of (starts.Char c) ts = at_leaf (shape.char c) ts
start_of (starts.Str t) ts = at_leaf (shape.str t.now) ts
start_of (starts.Name t) ts = at_leaf (shape.name t.now) ts
start_of (starts.Prefix u) ts = at_prefix (prefix_of u) ts
start_of starts.Paren ts = at_paren ts
start_of (starts.Simple u) ts = at_simple (probing_of u) ts
start_of starts.Select ts = at_select ts

abbrev pub spec_start_of : SpecStart → List Token → SpecHead
spec_start_of (spec_starts.Word k) ts = a_spec_word k ts
spec_start_of spec_starts.Struct ts = a_struct ts
spec_start_of spec_starts.Enum ts = an_enum ts

abbrev pub standing_of : Standing → place.Standing
standing_of standings.Members = place.in_members
standing_of standings.Names = place.in_names
standing_of standings.Params = place.in_params
