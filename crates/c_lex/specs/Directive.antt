-- Directives (C89, 3.8), by the pieces of their line behind the `#`.
use Rattle.std.specs.Prelude.{ℕ, ◌&&◌, ◌||◌, List, [], ◌∷◌, Option, Some, None, Bool, true, false, not, cond, nat_eq, bytes_eq, codes, filter, map}
use Rattle.c_lex_pieces.specs.declared.front.Class.{Class}
use Rattle.c_lex_pieces.specs.declared.front.Class.TheVariants as class
use Rattle.c_lex.specs.declared.line.End.{End}
use Rattle.c_lex.specs.declared.line.End.TheVariants as ends
use Rattle.c_lex.specs.declared.directive.Header.{Header}
use Rattle.c_lex.specs.declared.directive.Header.TheVariants as header
use Rattle.c_lex.specs.declared.directive.Directive as made_type
use Rattle.c_lex.specs.declared.directive.Directive.TheVariants as made
use Rattle.c_lex.specs.Macros.{Spelled, spelled}
use Rattle.c_lex.specs.Output.{is_word}

-- what a directive does; or it isn't one, or what stands behind its pieces is refused by this number
pub data Directive : Type 0 where
  nothing : Directive
  defines : List ℕ → List Spelled → Directive
  undefines : List ℕ → Directive
  includes : Header → Directive
  unknown : Directive
  stops : ℕ → Directive

-- blanks and comments
abbrev pub is_gap : Class → Bool
is_gap class.Space = true
is_gap class.Newline = false
is_gap class.Comment = true
is_gap class.Word = false
is_gap class.Number = false
is_gap class.Char = false
is_gap class.Str = false
is_gap (class.Mark m) = false
is_gap class.Hash = false

abbrev pub behind_gaps : List Spelled → List Spelled
behind_gaps [] = []
behind_gaps (p ∷ ps) = cond (is_gap p.0) (behind_gaps ps) (p ∷ ps)

abbrev pub tokens_in : List Spelled → List Spelled
tokens_in ps = filter (λ p. not (is_gap p.0)) ps

abbrev pub is_probe_word : List ℕ → Bool
is_probe_word w = bytes_eq w (codes "__atac_program") || (bytes_eq w (codes "__atac_block") || (bytes_eq w (codes "__atac_test") || (bytes_eq w (codes "__atac_select") || (bytes_eq w (codes "__atac_use") || bytes_eq w (codes "__atac_def")))))

-- any word or key; the words of probes stand for themselves for good
abbrev pub is_name : Spelled → Bool
is_name p = is_word p.0 && not (is_probe_word p.1)

-- no piece is left, and a comment may come here, but no other token: only a comment without end is refused as such
abbrev pub at_end : Directive → End → Directive
at_end d ends.Whole = d
at_end d (ends.Refused r) = cond (nat_eq r 2) (stops 2) unknown

abbrev pub only : Directive → List Spelled → End → Directive
only d [] e = at_end d e
only d (p ∷ ps) e = unknown

-- `#define NAME`, and then tokens, each of which may be refused
abbrev pub with_body : Directive → End → Directive
with_body d ends.Whole = d
with_body d (ends.Refused r) = stops r

abbrev pub define_as : List ℕ → List Spelled → End → Directive
define_as name [] e = at_end (defines name []) e
define_as name (p ∷ ps) e = cond (is_gap p.0) (with_body (defines name (tokens_in ps)) e) unknown

abbrev pub define : List Spelled → End → Directive
define [] e = at_end unknown e
define (p ∷ ps) e = cond (is_name p) (define_as p.1 ps e) unknown

abbrev pub undefine : List Spelled → End → Directive
undefine [] e = at_end unknown e
undefine (p ∷ ps) e = cond (is_name p) (only (undefines p.1) (behind_gaps ps) e) unknown

-- `<stdio.h>` and `<stdlib.h>`
abbrev pub header_named : List ℕ → Option Header
header_named w = cond (bytes_eq w (codes "stdio")) (Some header.Stdio) (cond (bytes_eq w (codes "stdlib")) (Some header.Stdlib) None)

abbrev pub include_of : Option Header → List Spelled → End → Directive
include_of None ps e = unknown
include_of (Some h) ps e = only (includes h) (behind_gaps ps) e

abbrev pub include : List Spelled → End → Directive
include [] e = at_end unknown e
include (a ∷ b ∷ c ∷ d ∷ f ∷ ps) e =
    cond (bytes_eq a.1 (codes "<") && (bytes_eq c.1 (codes ".") && (bytes_eq d.1 (codes "h") && bytes_eq f.1 (codes ">"))))
    (include_of (header_named b.1) ps e) unknown
include ps e = unknown

abbrev pub by_word : List ℕ → List Spelled → End → Directive
by_word w ps e =
    cond (bytes_eq w (codes "define")) (define ps e)
    (cond (bytes_eq w (codes "undef")) (undefine ps e)
    (cond (bytes_eq w (codes "include")) (include ps e) unknown))

abbrev pub by_first : List Spelled → End → Directive
by_first [] e = at_end nothing e
by_first (p ∷ ps) e = cond (is_word p.0) (by_word p.1 (behind_gaps ps) e) unknown

-- the directive of a line
unfoldable pub directive : List Spelled → End → Directive
directive ps e = by_first (behind_gaps ps) e

abbrev pub does : made_type.Directive → Directive
does made.Nothing = nothing
does (made.Defines n b) = defines n.now (map spelled b.items)
does (made.Undefines n) = undefines n.now
does (made.Includes h) = includes h
does made.Unknown = unknown
does (made.Stops r) = stops r
