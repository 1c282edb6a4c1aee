-- What stands in front of a probe's expression.
use Rattle.c_syntax.specs.declared.token.TokenKind.TheVariants as kind
use Rattle.c_syntax.specs.declared.token.Mark.TheVariants as m
use Rattle.c_syntax.specs.declared.token.ProbeWord.TheVariants as w
use Rattle.c_syntax.specs.Forms.{Form, is, mark, ◌▷◌}
use Rattle.c_syntax.specs.Shape.{ProbeShape, simple, select}
use Rattle.c_syntax.specs.Grammar.{probing_word, led_nodes_form}

abbrev pub front_form : ProbeShape → Form
front_form (simple u n) = is (kind.Probe (probing_word u)) ▷ mark m.LeftParen ▷ is (kind.Number n) ▷ mark m.Comma
front_form (select n cases) = is (kind.Probe w.Select) ▷ mark m.LeftParen ▷ is (kind.Number n) ▷ led_nodes_form cases ▷ mark m.Semicolon
