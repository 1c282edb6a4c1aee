-- Initialisers of which nothing is complained leave names known.
use Rattle.std.proofs.Common.{ℕ, Bool, true, Option, Some, None}
use Rattle.std.specs.Prelude.{nat_le}
use Rattle.c_base.specs.declared.place.Pos.{Pos}
use Rattle.c_base.specs.declared.place.IntKind.TheVariants.{Char}
use Rattle.c_syntax.specs.Shape.{TypeOf, int, NodeShape, MaybeInit, no_init, one_init, InitShape, one, listed, InitShapes, no_inits, more_inits}
use Rattle.c_syntax.specs.Shaped.{Shaped, ShapedInit, ShapedInits, ShapedInitOf}
use Rattle.c_tree.specs.State.{State, step}
use Rattle.c_tree.specs.Rulings.{rule, of_kind, allowed_if}
use Rattle.c_tree.specs.Sorts.{pos_in}
use Rattle.c_tree.specs.Operators.{hushed, heard}
use Rattle.c_tree.specs.Typing.{type_node}
use Rattle.c_tree.specs.Initialisers.{form_in, chars_of, filled, constant_init, fits, one_init_of, list_rule, slots, Slots, slot, slot_rule, further, init_pos, type_init, type_inits}
use Rattle.c_tree.specs.Declaring.{type_maybe_init}
use Rattle.c_tree.proofs.Grows.{rule_grows}
use Rattle.c_tree.proofs.GrowsUnits.{inits_grow}
use Rattle.probe_laws.proofs.Settled.{IsClean}
use Rattle.probe_laws.proofs.Rules.{back}
use Rattle.probe_laws.proofs.Known.{Knows, Goes, stays, ◌▹◌, rule_goes}
use Rattle.probe_laws.proofs.KnownNodes.{node_knows}

pub list_shaped : (p : Pos) (is : InitShapes) (last : Bool) → ShapedInit (listed p is last) → ShapedInits is
list_shaped p no_inits last is = absurd is
list_shaped p (more_inits i rest) last is = is

one_knows : {b : Bool} (c : Bool) (k : Option TypeOf) (o : Option (ℕ × ℕ)) (a : NodeShape) (s : State) → Shaped a → Knows b s → IsClean (one_init_of o c k a s).state → Goes b s (one_init_of o c k a s).state
one_knows c k (Some (bytes, elements)) a s is h c' =
    let t = type_node a (hushed s) in
    let r = allowed_if (nat_le bytes elements) 33 (int Char) in
    let first = node_knows a (hushed s) is h (back (rule_grows r s.at (pos_in a) (heard s.quiet t.state)) c') in
    first.1 ▹ rule_goes r s.at (pos_in a) (heard s.quiet t.state) first.1.0
one_knows c k None a s is h c' =
    let t = type_node a s in
    let v = rule (fits k t.sort) s.at (pos_in a) t.state in
    let first = node_knows a s is h (back (rule_grows (fits k t.sort) s.at (pos_in a) t.state) (back (rule_grows (constant_init c t.sort) s.at (pos_in a) v) c')) in
    let second = rule_goes (fits k t.sort) s.at (pos_in a) t.state first.1.0 in
    first.1 ▹ second ▹ rule_goes (constant_init c t.sort) s.at (pos_in a) v second.0

mutual
  pub init_knows : {b : Bool} (c : Bool) (k : Option TypeOf) (i : InitShape) (s : State) → ShapedInit i → Knows b s → IsClean (type_init c k i s).state → Goes b s (type_init c k i s).state
  init_knows c k (one a) s is h c' = one_knows c k (filled (chars_of k) (form_in a)) a s is.1 h c'
  init_knows c k (listed p items last) s is h c' =
      let v = rule (of_kind k list_rule) s.at p s in
      let first = rule_goes (of_kind k list_rule) s.at p s h in
      first ▹ inits_know (slots k s) items (step v) (list_shaped p items last is) first.0 c'

  inits_know : {b : Bool} (l : Slots) (items : InitShapes) (s : State) → ShapedInits items → Knows b s → IsClean (type_inits l items s).state → Goes b s (type_inits l items s).state
  inits_know l no_inits s is h c = stays s h
  inits_know l (more_inits i rest) s is h c =
      let v = rule (slot_rule l) s.at (init_pos i) s in
      let t = type_init true (slot l) i v in
      let first = rule_goes (slot_rule l) s.at (init_pos i) s h in
      let second = init_knows true (slot l) i v is.0 first.0 (back (inits_grow (further l) rest (step t.state)) c) in
      first ▹ second ▹ inits_know (further l) rest (step t.state) is.1 second.0 c

pub maybe_init_knows : {b : Bool} (may c : Bool) (k : Option TypeOf) (i : MaybeInit) (s : State) → ShapedInitOf may i → Knows b s → IsClean (type_maybe_init c k i s).state → Goes b s (type_maybe_init c k i s).state
maybe_init_knows may c k no_init s is h clean = stays s h
maybe_init_knows may c k (one_init i) s is h clean = init_knows c k i (step s) is.1 h clean
