-- A list that is being read.
use Rattle.std.specs.Prelude.{◌≡◌, ℕ, List, [], ◌∷◌, ◌++◌, Option}
use Rattle.c_syntax.specs.declared.tree.Star.{Star}
use Rattle.c_syntax.specs.declared.tree.Node.{Node}
use Rattle.c_syntax.specs.declared.tree.Spec.{Spec}
use Rattle.c_syntax.specs.declared.tree.Enumer.{Enumer, out-Enumer}
use Rattle.c_syntax.specs.declared.tree.Decl.{Decl}
use Rattle.c_syntax.specs.declared.tree.Declarator.{Declarator}
use Rattle.c_syntax.specs.declared.tree.Param.{Param}
use Rattle.c_syntax.specs.declared.tree.Init.{Init}
use Rattle.c_syntax.specs.Shape.{NodeShapes, more_nodes, LengthShapes, one_node, more_lengths, SpecShapes, more_specs, EnumerShapes, more_enumers, DeclShapes, more_decls, DeclaratorShapes, more_declarators, InitShapes, more_inits}
use Rattle.c_syntax.specs.View.{node_shape, maybe_node, spec_shape, decl_shape, declarator_shape, param_shape, init_shape}
use Rattle.c_syntax.specs.declared.token.Token.{Token}
use Rattle.c_grammar.specs.Look.{Got, got, then_go, Finds}

abbrev pub onto_got : {A S : Type 0} → (A → S → S) → A → S → List Token → Got S
onto_got cons a s ts = got (cons a s) ts

-- these in front of what is found
abbrev pub all_onto : {A S : Type 0} → (A → S → S) → List A → Got S → Got S
all_onto cons [] z = z
all_onto cons (a ∷ more) z = then_go (all_onto cons more z) (onto_got cons a)

-- from ts the reader R read the items of `list`, and R' reads on behind them
pub record Leads {A S : Type 0} (cons : A → S → S) (R R' : ℕ → List Token → Got S) (list : List A) (ts rest : List Token) : Type 0 where
  pub on : (z : Got S) → Finds R' rest z → Finds R ts (all_onto cons list z)

-- ONE ITEM IN FRONT OF A LIST

abbrev pub node_cons : Node → NodeShapes → NodeShapes
node_cons a s = more_nodes (node_shape a) s

abbrev pub length_cons : Option Node → LengthShapes → LengthShapes
length_cons l s = more_lengths (maybe_node l) s

abbrev pub type_length_cons : Node → LengthShapes → LengthShapes
type_length_cons a s = more_lengths (one_node (node_shape a)) s

abbrev pub star_cons : Star → List Star → List Star
star_cons a s = a ∷ s

abbrev pub spec_cons : Spec → SpecShapes → SpecShapes
spec_cons a s = more_specs a.pos (spec_shape a.form) s

abbrev pub enumer_cons : Enumer → EnumerShapes → EnumerShapes
enumer_cons e s = more_enumers (out-Enumer e).name (maybe_node (out-Enumer e).value) s

abbrev pub decl_cons : Decl → DeclShapes → DeclShapes
decl_cons d s = more_decls (decl_shape d) s

abbrev pub declarator_cons : Declarator → DeclaratorShapes → DeclaratorShapes
declarator_cons d s = more_declarators (declarator_shape d) s

abbrev pub param_cons : Param → DeclShapes → DeclShapes
param_cons p s = more_decls (param_shape p) s

abbrev pub init_cons : Init → InitShapes → InitShapes
init_cons i s = more_inits (init_shape i) s
