-- What the code of statements found, in the words of the reader.
use Rattle.std.specs.Prelude.{◌≡◌, ℕ, suc, max, List, map, Option, Some, None, Bool, is_some}
use Rattle.std.specs.declared.alloc.Global.{Global}
use Rattle.std.specs.declared.boxed.Box.{Box}
use Rattle.c_syntax.specs.declared.token.Mark.TheVariants as marks
use Rattle.c_syntax.specs.declared.token.Key.TheVariants as keys
use Rattle.c_syntax.specs.declared.token.Token.{Token}
use Rattle.c_syntax.specs.declared.tree.Item.{Item}
use Rattle.c_syntax.specs.declared.tree.Node.{Node}
use Rattle.c_syntax.specs.Shape.{MaybeNode, no_node, one_node, StmtShape, ItemShapes}
use Rattle.c_syntax.specs.View.{node_shape, label_shape, stmt_shape}
use Rattle.c_syntax.specs.Levels.{maybe_height, item_height, stmt_height}
use Rattle.c_grammar.specs.Look.{Got, then_go, Finds, after, after_key}
use Rattle.c_grammar_stmt.specs.StmtReader.{for_made, item_onto, reads_items, reads_stmt}
use Rattle.c_grammar_stmt.specs.StmtParts.{for_parts}

-- an expression in a box, which may be left out
abbrev pub maybe_inner : Option (Box Node Global) → MaybeNode
maybe_inner None = no_node
maybe_inner (Some b) = one_node (node_shape b.value)

-- a closing brace stands at the front
abbrev pub brace_there : List Token → Bool
brace_there ts = is_some (after marks.RightBrace ts)

-- no form that holds statements begins here
pub record NoNest (ts : List Token) : Type 0 where
  pub no_brace : after marks.LeftBrace ts ≡ None
  pub no_if : after_key keys.If ts ≡ None
  pub no_while : after_key keys.While ts ≡ None
  pub no_do : after_key keys.Do ts ≡ None
  pub no_for : after_key keys.For ts ≡ None
  pub no_switch : after_key keys.Switch ts ≡ None

-- the three parts in the parentheses of a `for` that has d levels above it, up to its statement; h counts their levels
pub record HeadFound (d : ℕ) (ts : List Token) (a b c : MaybeNode) (h : ℕ) (rest : List Token) : Type 0 where
  pub on : (z : Got StmtShape) → Finds (reads_stmt (suc d)) rest z → Finds (for_parts d) ts (then_go z (for_made a b c))
  pub levels : h ≡ max (maybe_height a) (max (maybe_height b) (maybe_height c))

-- an item that has d levels above it; h counts its levels
pub record ItemFound (d : ℕ) (ts : List Token) (i : Item) (h : ℕ) (rest : List Token) : Type 0 where
  pub on : (z : Got ItemShapes) → Finds (reads_items d) rest z → Finds (reads_items d) ts (then_go z (item_onto (map label_shape i.labels.items) (stmt_shape i.stmt)))
  pub levels : h ≡ item_height (map label_shape i.labels.items) (stmt_height (stmt_shape i.stmt))
