-- Tokens made of kinds alone stand at line 1, column 1.
use Rattle.std.proofs.Common.{◌≡◌, refl, List, map}
use Rattle.std.proofs.lemmas.List.Elements.{All-same, All-map}
use Rattle.c_syntax.specs.declared.token.Token.{Token}
use Rattle.c_syntax.specs.Forms.{kinds_of}
use Rattle.c_syntax.specs.Start.{start, at_start, AllAtStart}

pub all_at_start : (ts : List Token) → ts ≡ map at_start (kinds_of ts) → AllAtStart ts
all_at_start ts e = All-same (λ t. t.pos ≡ start) ts (map at_start (kinds_of ts)) e (All-map (λ t. t.pos ≡ start) at_start (kinds_of ts) (λ k d l. refl))
