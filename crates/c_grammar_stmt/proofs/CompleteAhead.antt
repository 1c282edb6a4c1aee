-- How expressions and declarators don't begin: what tells statements, labels and declarations from them.
use Rattle.std.proofs.Common.{◌≡◌, List, None, true, false, refl, sym, ap, ◌∙◌}
use Rattle.std.specs.Prelude.{◌≢◌, ◌||◌, is_some}
use Rattle.c_syntax.specs.declared.token.Mark.{Mark}
use Rattle.c_syntax.specs.declared.token.Mark.TheVariants as marks
use Rattle.c_syntax.specs.declared.token.Key.{Key}
use Rattle.c_syntax.specs.declared.token.Key.TheVariants as keys
use Rattle.c_syntax.specs.declared.token.ProbeWord.TheVariants as words
use Rattle.c_syntax.specs.declared.token.Token.{Token}
use Rattle.c_syntax.specs.declared.token.TokenKind.TheVariants as kind
use Rattle.c_syntax.specs.Forms.{a_token, head, Written}
use Rattle.c_syntax.specs.Shape.{name, size_of, block, test, used, def, NodeShape, node, leaf, paren, call, prefix, size_of_type, cast, suffix, two, choose, probe, simple, select, DeclaratorShape, declarator, DeclaratorShapes, no_declarators, more_declarators, arrays, function}
use Rattle.c_syntax.specs.Grammar.{node_form, declarator_form, led_declarators_form}
use Rattle.c_syntax.specs.Shaped.{in_names, ShapedDeclarator, IsFunction}
use Rattle.c_grammar.specs.Look.{then_go, go_after, after, after_head, after_key, after_probe, after_probe_head}
use Rattle.c_grammar.specs.Starts.{Start, at_leaf, at_prefix, at_paren, at_simple, at_select, no_start, start_mark, start_key, start_head, start, no_spec, spec_of_head, spec_head}
use Rattle.c_grammar.specs.ExprReader.{numbered}
use Rattle.c_grammar_stmt.specs.StmtReader.{colon_behind, mark_closed, mark_ahead, is_function, body_ahead}
use Rattle.c_grammar.proofs.Looking.{after_probe_is, after_probe_of}
use Rattle.c_grammar.proofs.CompleteLooking.{none_if, no_mark, no_key, no_spec_there, leaf_start, prefix_start, paren_start, simple_start, select_start, node_begins}
use Rattle.c_grammar.proofs.CompleteExpr.{numbered_of}
use Rattle.c_grammar.proofs.CompleteNames.{spec_blind, brace_blind, semicolon_blind, through_named}

-- EXPRESSIONS

-- no expression begins with this mark, or this keyword
pub node_not_mark : (m : Mark) (t : NodeShape) (ts x : List Token) → Written (node_form t) ts x → ((r : List Token) → start_mark m r ≡ no_start) → after m ts ≡ None
node_not_mark m t ts x w h = no_mark m ts (node_begins t ts x w) h

unblocked : (s : Start) (ts : List Token) → start ts ≡ s → ((r : List Token) → s ≢ at_simple block r) → mark_ahead ts ≡ None
unblocked s ts e n =
    ap (λ o. go_after o (λ r. then_go (numbered r) mark_closed))
    (none_if (after_probe words.Block ts) (λ r q. n r (sym e ∙ ap start_head (after_probe_is words.Block ts r q))))

-- an expression isn't taken for a block probe in front of a statement: behind the number stands a comma
pub node_unmarked : (t : NodeShape) (ts x : List Token) → Written (node_form t) ts x → mark_ahead ts ≡ None
node_unmarked (node p o n (leaf l)) ts x w = unblocked (at_leaf l x) ts (leaf_start l ts x w.1.1) (λ r e. (let q : at_leaf l x ≡ at_simple block r = e in cc))
node_unmarked (node p o n (paren a)) ts x w = let m = w.1.middle in unblocked (at_paren m) ts (paren_start ts m w.1.first.1) (λ r e. (let q : at_paren m ≡ at_simple block r = e in cc))
node_unmarked (node p o n (call v args)) ts x w = let m = w.1.middle in unblocked (at_leaf (name v) m) ts (leaf_start (name v) ts m w.1.first.1) (λ r e. (let q : at_leaf (name v) m ≡ at_simple block r = e in cc))
node_unmarked (node p o n (prefix u a)) ts x w = let m = w.1.middle in unblocked (at_prefix u m) ts (prefix_start u ts m w.1.first.1) (λ r e. (let q : at_prefix u m ≡ at_simple block r = e in cc))
node_unmarked (node p o n (size_of_type t)) ts x w = let m = w.1.middle in unblocked (at_prefix size_of m) ts (prefix_start size_of ts m w.1.first.1) (λ r e. (let q : at_prefix size_of m ≡ at_simple block r = e in cc))
node_unmarked (node p o n (cast t a)) ts x w = let m = w.1.middle in unblocked (at_paren m) ts (paren_start ts m w.1.first.1) (λ r e. (let q : at_paren m ≡ at_simple block r = e in cc))
node_unmarked (node p o n (suffix a s)) ts x w = node_unmarked a ts w.1.middle w.1.first
node_unmarked (node p o n (two u a b)) ts x w = node_unmarked a ts w.1.middle w.1.first
node_unmarked (node p o n (choose a b c)) ts x w = node_unmarked a ts w.1.middle w.1.first
node_unmarked (node p o n (probe (simple block v) a)) ts x w =
    let h = w.1 in
    let i = h.second in
    let k = i.second.first in
    ap (λ o. go_after o (λ r. then_go (numbered r) mark_closed)) (after_probe_of words.Block ts h.middle h.first.1)
    ∙ ap (λ q. then_go q mark_closed) (numbered_of v h.middle i.middle k.middle i.first k.first)
    ∙ ap (colon_behind v) (ap (after_head marks.RightParen) k.second.first)
node_unmarked (node p o n (probe (simple test v) a)) ts x w = let m = w.1.middle in unblocked (at_simple test m) ts (simple_start test ts m w.1.first.1) (λ r e. (let q : at_simple test m ≡ at_simple block r = e in cc))
node_unmarked (node p o n (probe (simple used v) a)) ts x w = let m = w.1.middle in unblocked (at_simple used m) ts (simple_start used ts m w.1.first.1) (λ r e. (let q : at_simple used m ≡ at_simple block r = e in cc))
node_unmarked (node p o n (probe (simple def v) a)) ts x w = let m = w.1.middle in unblocked (at_simple def m) ts (simple_start def ts m w.1.first.1) (λ r e. (let q : at_simple def m ≡ at_simple block r = e in cc))
node_unmarked (node p o n (probe (select v cs) a)) ts x w = let m = w.1.middle in unblocked (at_select m) ts (select_start ts m w.1.first.1) (λ r e. (let q : at_select m ≡ at_simple block r = e in cc))

-- what the tokens of an expression don't begin with
pub record NodeAhead (ts : List Token) : Type 0 where
  pub no_specifier : spec_head ts ≡ no_spec
  pub no_block_probe : mark_ahead ts ≡ None
  pub no_semicolon : after marks.Semicolon ts ≡ None
  pub no_right_paren : after marks.RightParen ts ≡ None
  pub no_left_brace : after marks.LeftBrace ts ≡ None
  pub no_right_brace : after marks.RightBrace ts ≡ None
  pub no_if : after_key keys.If ts ≡ None
  pub no_while : after_key keys.While ts ≡ None
  pub no_do : after_key keys.Do ts ≡ None
  pub no_for : after_key keys.For ts ≡ None
  pub no_switch : after_key keys.Switch ts ≡ None
  pub no_break : after_key keys.Break ts ≡ None
  pub no_continue : after_key keys.Continue ts ≡ None
  pub no_return : after_key keys.Return ts ≡ None
  pub no_case : after_key keys.Case ts ≡ None
  pub no_default : after_key keys.Default ts ≡ None
  pub no_else : after_key keys.Else ts ≡ None

pub node_ahead : (t : NodeShape) (ts x : List Token) → Written (node_form t) ts x → NodeAhead ts
node_ahead t ts x w =
    let b = node_begins t ts x w in
    record {
      no_specifier = no_spec_there ts b;
      no_block_probe = node_unmarked t ts x w;
      no_semicolon = no_mark marks.Semicolon ts b (λ r. refl);
      no_right_paren = no_mark marks.RightParen ts b (λ r. refl);
      no_left_brace = no_mark marks.LeftBrace ts b (λ r. refl);
      no_right_brace = no_mark marks.RightBrace ts b (λ r. refl);
      no_if = no_key keys.If ts b (λ r. refl);
      no_while = no_key keys.While ts b (λ r. refl);
      no_do = no_key keys.Do ts b (λ r. refl);
      no_for = no_key keys.For ts b (λ r. refl);
      no_switch = no_key keys.Switch ts b (λ r. refl);
      no_break = no_key keys.Break ts b (λ r. refl);
      no_continue = no_key keys.Continue ts b (λ r. refl);
      no_return = no_key keys.Return ts b (λ r. refl);
      no_case = no_key keys.Case ts b (λ r. refl);
      no_default = no_key keys.Default ts b (λ r. refl);
      no_else = no_key keys.Else ts b (λ r. refl);
    }

-- DECLARATORS

-- what the tokens of a declarator that has a name don't begin with
pub record DeclaratorAhead (ts : List Token) : Type 0 where
  pub no_specifier : spec_head ts ≡ no_spec
  pub no_left_brace : after marks.LeftBrace ts ≡ None
  pub no_semicolon : after marks.Semicolon ts ≡ None

pub declarator_ahead : (t : DeclaratorShape) (ts x : List Token) → ShapedDeclarator in_names t → Written (declarator_form t) ts x → DeclaratorAhead ts
declarator_ahead t ts x s w = record {
  no_specifier = through_named spec_of_head no_spec t in_names ts x refl s spec_blind w;
  no_left_brace = through_named (after_head marks.LeftBrace) None t in_names ts x refl s brace_blind w;
  no_semicolon = through_named (after_head marks.Semicolon) None t in_names ts x refl s semicolon_blind w;
}

pub function_there : (t : DeclaratorShape) → IsFunction t → is_function t ≡ true
function_there (declarator ss n (arrays ls) i) f = absurd f
function_there (declarator ss n (function ps) i) f = refl

-- behind a declarator of a declaration no body begins
pub no_body : (ds : DeclaratorShapes) (ts x r : List Token) → Written (led_declarators_form ds) ts x → head x ≡ a_token (kind.Mark marks.Semicolon) r → body_ahead ts ≡ false
no_body no_declarators ts x r w h =
    let e : head ts ≡ a_token (kind.Mark marks.Semicolon) r = ap head w ∙ h in
    ap (λ o. is_some o || is_some (after_probe words.Block ts)) (ap (after_head marks.LeftBrace) e) ∙ ap is_some (ap (after_probe_head words.Block) e)
no_body (more_declarators t rest) ts x r w h =
    ap (λ o. is_some o || is_some (after_probe words.Block ts)) (ap (after_head marks.LeftBrace) w.first) ∙ ap is_some (ap (after_probe_head words.Block) w.first)
