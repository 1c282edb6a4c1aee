-- Each array among the variables and the fields of a unit has an element.
use Rattle.std.proofs.Common.{ℕ, zero, suc, ◌-◌, List, [], ◌∷◌, Option, Some, None, Bool, true}
use Rattle.std.specs.Prelude.{is_some}
use Rattle.std.specs.List.{AllByRecursion}
use Rattle.c_base.specs.declared.place.Pos.{Pos}
use Rattle.c_syntax.specs.declared.text.Text.{Text}
use Rattle.c_syntax.specs.declared.tree.ProgramLine.{ProgramLine}
use Rattle.c_syntax.specs.Shape.{UnitShape}
use Rattle.c_syntax.specs.Shaped.{ShapedUnit}
use Rattle.c_constants.specs.Probes.{digest_of}
use Rattle.c_tables.specs.Tables.{FieldShape, VariableShape, changed_at}
use Rattle.c_tree.specs.declared.meaning.Tag.{Tag}
use Rattle.c_tree.specs.State.{State, step, steps}
use Rattle.c_tree.specs.Parts.{begun_at, closed, listed_enumeration, opened, tag_tokens, within}
use Rattle.c_tree.specs.Units.{start, type_line, type_externals, any_main, type_unit, bodies}
use Rattle.flow_initial.specs.Lengths.{IsFilled, HasFilledFields, ArraysAreFilled}
use Rattle.flow_initial.proofs.Filling.{AreFields, all_and_one, lines_filled}
use Rattle.flow_initial.proofs.Cores.{Core, core, lines_of, Kept, KeptByAll, KeptByUnits}
use Rattle.flow_initial.proofs.Openings.{opened_keeps}
use Rattle.flow_initial.proofs.KeepsNodes as nodes
use Rattle.flow_initial.proofs.KeepsUnits as units

abbrev pub HasFilled : Core → Type 0
HasFilled c = AllByRecursion HasFilledFields c.structures × AllByRecursion (λ (v : VariableShape). IsFilled v.kind) c.variables

all_changed : {X : Type 0} (P : X → Type 0) (f : X → X) → ((x : X) → P (f x)) → (i : ℕ) (xs : List X) → AllByRecursion P xs → AllByRecursion P (changed_at f i xs)
all_changed P f g i [] h = h
all_changed P f g zero (x ∷ xs) h = (g x, h.1)
all_changed P f g (suc i) (x ∷ xs) h = (h.0, all_changed P f g i xs h.1)

begun_filled : (n : Option ℕ) (s : State) → HasFilled (core s) → HasFilled (core (begun_at n s))
begun_filled None s h = h
begun_filled (Some n) s h = h

closed_filled : (n : Option ℕ) (fields : List FieldShape) (s : State) → AreFields fields → HasFilled (core s) → HasFilled (core (closed n fields s))
closed_filled None fields s g h = h
closed_filled (Some n) fields s g h = (all_changed HasFilledFields (λ r. record r { fields = fields }) (λ r. g) (n - 1) s.tables.structures h.0, h.1)

listed_filled : (p : Pos) (x : Text) (t : Option Tag) (s : State) → HasFilled (core s) → HasFilled (core (listed_enumeration p x t s))
listed_filled p x None s h = h
listed_filled p x (Some t) s h = h

pub types_filled : Kept HasFilled
types_filled = record {
  opening = opened_keeps HasFilled (λ s h. (all_and_one HasFilledFields s.tables.structures (record { tag = None; fields = [] }) h.0 tt, h.1)) (λ x s h. (all_and_one HasFilledFields s.tables.structures (record { tag = Some x; fields = [] }) h.0 tt, h.1));
  beginning = begun_filled;
  closing = λ alone x ds s h g. let o = opened alone true x s in
      closed_filled o.number (lines_of alone x ds s).fields (lines_of alone x ds s).state (lines_filled ds [] (within (step (steps (tag_tokens x) (begun_at o.number o.state)))) tt) g;
  listing = listed_filled;
  entering = λ s h. h;
  leaving = λ s h. h;
  hushing = λ s t f h. f h;
}

pub all_filled : KeptByAll HasFilled
all_filled = record {
  types = types_filled;
  declaring = λ x k s g h. (h.0, all_and_one (λ (v : VariableShape). IsFilled v.kind) s.tables.variables (record { name = x; kind = k; function = s.function }) h.1 g);
}

pub units_filled : KeptByUnits HasFilled
units_filled = record { all = all_filled; turning = λ n s h. h }

line_filled : (l : Option ProgramLine) (s : State) → HasFilled (core s) → HasFilled (core (type_line l s))
line_filled None s h = h
line_filled (Some l) s h = nodes.demand_keeps HasFilled types_filled (is_some (digest_of l.digest)) 37 s.at l.pos s h

unit_filled : (known : Option (List Bool)) (u : UnitShape) → ShapedUnit u → HasFilled (core (type_unit known u).state)
unit_filled known u is =
    let v = type_line u.line (start known) in
    let t = type_externals u.externals v in
    nodes.demand_keeps HasFilled types_filled (any_main t.state.tables.functions) 38 (t.state.at - 1) u.last t.state (units.externals_keep HasFilled units_filled u.externals v is.all (line_filled u.line (start known) (tt, tt)))

pub arrays_are_filled : ArraysAreFilled
arrays_are_filled u is = unit_filled (Some (bodies u)) u is
