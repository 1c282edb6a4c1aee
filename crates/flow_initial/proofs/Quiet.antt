-- Typing leaves it as it was whether a string is an object: behind a sizeof it is one as before.
use Rattle.std.specs.Prelude.{◌≡◌, ℕ, List, Bool, true, Option, Some, None}
use Rattle.c_base.specs.declared.place.Pos.{Pos}
use Rattle.c_syntax.specs.declared.text.Text.{Text}
use Rattle.c_tables.specs.Tables.{FieldShape}
use Rattle.c_tree.specs.declared.meaning.Tag.{Tag}
use Rattle.c_tree.specs.State.{State}
use Rattle.c_tree.specs.Parts.{begun_at, closed, listed_enumeration, opened}
use Rattle.flow_initial.proofs.Cores.{Core, core, lines_of, Kept, KeptByAll, KeptByUnits}
use Rattle.flow_initial.proofs.Openings.{opened_keeps}

abbrev pub IsQuiet : Bool → Core → Type 0
IsQuiet q c = c.quiet ≡ q

begun_quiet : (q : Bool) (n : Option ℕ) (s : State) → IsQuiet q (core s) → IsQuiet q (core (begun_at n s))
begun_quiet q None s h = h
begun_quiet q (Some n) s h = h

closed_quiet : (q : Bool) (n : Option ℕ) (fields : List FieldShape) (s : State) → IsQuiet q (core s) → IsQuiet q (core (closed n fields s))
closed_quiet q None fields s h = h
closed_quiet q (Some n) fields s h = h

listed_quiet : (q : Bool) (p : Pos) (x : Text) (t : Option Tag) (s : State) → IsQuiet q (core s) → IsQuiet q (core (listed_enumeration p x t s))
listed_quiet q p x None s h = h
listed_quiet q p x (Some t) s h = h

pub types_quiet : (q : Bool) → Kept (IsQuiet q)
types_quiet q = record {
  opening = opened_keeps (IsQuiet q) (λ s h. h) (λ x s h. h);
  beginning = begun_quiet q;
  closing = λ alone x ds s h g. closed_quiet q (opened alone true x s).number (lines_of alone x ds s).fields (lines_of alone x ds s).state g;
  listing = listed_quiet q;
  entering = λ s h. h;
  leaving = λ s h. h;
  hushing = λ s t f h. h;
}

pub all_quiet : (q : Bool) → KeptByAll (IsQuiet q)
all_quiet q = record { types = types_quiet q; declaring = λ x k s g h. h }

pub units_quiet : (q : Bool) → KeptByUnits (IsQuiet q)
units_quiet q = record { all = all_quiet q; turning = λ n s h. h }
