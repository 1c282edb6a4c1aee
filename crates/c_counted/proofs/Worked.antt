-- Worked places: of a name that stands for nothing, and of the end of a unit without `main`.
use Rattle.std.proofs.Common.{◌≡◌, ℕ, List, [], ◌∷◌, Option, Some, None, refl}
use Rattle.c_base.specs.declared.place.Pos.{Pos}
use Rattle.c_syntax.specs.declared.text.Text.{Text}
use Rattle.c_syntax.specs.declared.token.Key.TheVariants as key
use Rattle.c_syntax.specs.declared.token.Mark.TheVariants as mark
use Rattle.c_syntax.specs.declared.token.Token.{Token}
use Rattle.c_syntax.specs.declared.token.TokenKind.{TokenKind}
use Rattle.c_syntax.specs.declared.token.TokenKind.TheVariants as kind
use Rattle.c_syntax.specs.declared.tree.Named.{Named}
use Rattle.c_syntax.specs.Shape.{bare, name, node, leaf, one_node, SpecShapes, no_specs, more_specs, word, no_lengths, decl, no_decls, declarator, no_declarators, more_declarators, arrays, function, void, no_init, stmt, return, braces, no_items, more_items, ExternalShape, defined, declared, UnitShape}
use Rattle.c_tree.specs.State.{complaint}
use Rattle.c_tree.specs.Units.{complaints}
use Rattle.c_counted.specs.Places.{place_of_token}

-- a column of the first line
abbrev c : ℕ → Pos
c n = record { line = 1; col = n }

abbrev t : ℕ → TokenKind → Token
t n k = record { kind = k; pos = c n }

abbrev x : Text
x = 120 ∷ []

abbrev main : Text
main = 109 ∷ 97 ∷ 105 ∷ 110 ∷ []

abbrev named : ℕ → Text → Option Named
named n y = Some (record { pos = c n; text = y; probe = None })

abbrev int : SpecShapes
int = more_specs (c 1) (word key.Int) no_specs

abbrev of : ExternalShape → ℕ → UnitShape
of e n = record { pos = c 1; line = None; externals = e ∷ []; last = c n }

-- int main(void) { return x; }
abbrev unknown : UnitShape
unknown =
    of (defined int (declarator [] (named 5 main) (function void) no_init) [] (braces (c 16) no_decls (more_items [] (stmt (c 18) [] (c 18) (return (one_node (node (c 25) (c 25) bare (leaf (name x)))))) no_items))) 28

abbrev unknown_tokens : List Token
unknown_tokens =
    t 1 (kind.Key key.Int) ∷ t 5 (kind.Word main) ∷ t 9 (kind.Mark mark.LeftParen) ∷ t 10 (kind.Key key.Void) ∷ t 14 (kind.Mark mark.RightParen)
    ∷ t 16 (kind.Mark mark.LeftBrace) ∷ t 18 (kind.Key key.Return) ∷ t 25 (kind.Word x) ∷ t 26 (kind.Mark mark.Semicolon) ∷ t 28 (kind.Mark mark.RightBrace) ∷ []

-- seven tokens stand before the name
name_is_unknown : complaints unknown ≡ complaint 7 30 (c 25) ∷ []
name_is_unknown = refl

name_stands_there : place_of_token unknown_tokens 7 ≡ Some (c 25)
name_stands_there = refl

-- int x;
abbrev without_main : UnitShape
without_main = of (declared (decl (c 1) int (more_declarators (declarator [] (named 5 x) (arrays no_lengths) no_init) no_declarators))) 6

abbrev without_main_tokens : List Token
without_main_tokens = t 1 (kind.Key key.Int) ∷ t 5 (kind.Word x) ∷ t 6 (kind.Mark mark.Semicolon) ∷ []

-- that is said at the last token
end_is_complained_of : complaints without_main ≡ complaint 2 38 (c 6) ∷ []
end_is_complained_of = refl

end_stands_there : place_of_token without_main_tokens 2 ≡ Some (c 6)
end_stands_there = refl
