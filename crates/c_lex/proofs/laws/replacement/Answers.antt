use Rattle.c_lex.proofs.Levels.{expand_none, expand_append, expand_token, expand_macro}
use Rattle.c_lex.proofs.laws.replacement.Goals as goal

pub returns : goal.returns
returns c = record { none = expand_none; each = expand_append; given = expand_token; replaced = expand_macro }
