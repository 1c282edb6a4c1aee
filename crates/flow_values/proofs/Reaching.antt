-- What typing ends with holds the rows that each state before it had.
use Rattle.std.proofs.Common.{◌≡◌, ℕ, zero, suc, ◌-◌, List, [], ◌∷◌, ◌++◌, length, append-nil, append_assoc, Option, Some, None, true, false, refl, sym, ap, ◌∙◌, arith}
use Rattle.std.specs.Prelude.{slice_get}
use Rattle.c_base.specs.declared.place.Pos.{Pos}
use Rattle.c_syntax.specs.declared.text.Text.{Text}
use Rattle.c_tables.specs.Tables.{FieldShape, VariableShape, TablesShape}
use Rattle.c_tables.specs.Rows.{row}
use Rattle.c_tree.specs.declared.meaning.Tag.{Tag}
use Rattle.c_tree.specs.State.{State}
use Rattle.c_tree.specs.Parts.{begun_at, closed, listed_enumeration, opened}
use Rattle.flow_initial.proofs.Cores.{Core, core, lines_of, Kept, KeptByAll, KeptByUnits}
use Rattle.flow_initial.proofs.Openings.{opened_keeps}
use Rattle.flow_initial.proofs.Arrays.{HasFilled, types_filled, all_filled, units_filled}
use Rattle.flow_initial.proofs.Follows.{Follows, types_follow, all_follow, units_follow, heard_follows}
use Rattle.flow_initial.proofs.Quiet.{IsQuiet, types_quiet, all_quiet, units_quiet}
use Rattle.flow_initial.proofs.RowLists.{row_at}
use Rattle.flow_values.specs.Bodies.{Good, Reaches}

-- ---- both: what follows, and arrays with elements

abbrev pub Both : Core → Core → Type 0
Both a c = Follows a c × HasFilled c

pub types_both : (a : Core) → Kept (Both a)
types_both a =
    let f = types_follow a in
    record {
      opening = λ alone list x s h. (f.opening alone list x s h.0, types_filled.opening alone list x s h.1);
      beginning = λ n s h. (f.beginning n s h.0, types_filled.beginning n s h.1);
      closing = λ alone x ds s h g. (f.closing alone x ds s h.0 g.0, types_filled.closing alone x ds s h.1 g.1);
      listing = λ p x t s h. (f.listing p x t s h.0, types_filled.listing p x t s h.1);
      entering = λ s h. (f.entering s h.0, types_filled.entering s h.1);
      leaving = λ s h. (f.leaving s h.0, types_filled.leaving s h.1);
      hushing = λ s t f h. let one = f (heard_follows a true s h.0, h.1) in (heard_follows a s.quiet t one.0, one.1);
    }

pub all_both : (a : Core) → KeptByAll (Both a)
all_both a = record { types = types_both a; declaring = λ x k s g h. ((all_follow a).declaring x k s g h.0, all_filled.declaring x k s g h.1) }

pub units_both : (a : Core) → KeptByUnits (Both a)
units_both a = record { all = all_both a; turning = λ n s h. ((units_follow a).turning n s h.0, units_filled.turning n s h.1) }

pub itself : (c : Core) → Good c → Both c c
itself c h = (record { sound = h.0; begun = λ n e. e; fields = λ n e. refl; more = []; added = sym (append-nil c.variables) }, h.1)

-- what is kept by all is kept between the two
pub passed : (s u : State) → ((J : Core → Type 0) → KeptByAll J → J (core s) → J (core u)) → Good (core s) → Both (core s) (core u) × Good (core u)
passed s u f g = let one = f (Both (core s)) (all_both (core s)) (itself (core s) g) in (one, (one.0.sound, one.1, f (IsQuiet false) (all_quiet false) g.2))

-- and what is kept by units
pub passed_units : (s u : State) → ((J : Core → Type 0) → KeptByUnits J → J (core s) → J (core u)) → Good (core s) → Both (core s) (core u) × Good (core u)
passed_units s u f g = let one = f (Both (core s)) (units_both (core s)) (itself (core s) g) in (one, (one.0.sound, one.1, f (IsQuiet false) (units_quiet false) g.2))

-- ---- the tables at the end

pub before : (t : TablesShape) (a c : Core) → Both a c → Reaches t c → Reaches t a
before t a c h r = record {
  fields = λ n e. r.fields n (h.0.begun n e) ∙ h.0.fields n e;
  more = h.0.more ++ r.more;
  added = r.added ∙ ap (λ vs. vs ++ r.more) h.0.added ∙ append_assoc a.variables h.0.more r.more;
}

at_end : (vs : List VariableShape) (v : VariableShape) (more : List VariableShape) (n : ℕ) → n ≡ length vs → slice_get ((vs ++ v ∷ []) ++ more) n ≡ Some v
at_end [] v more zero e = refl
at_end [] v more (suc n) e = absurd (omega (arith, e))
at_end (x ∷ vs) v more zero e = absurd (omega (arith, e))
at_end (x ∷ vs) v more (suc n) e = at_end vs v more n (omega (arith, e))

-- the row behind so many others
pub next_row : (vs : List VariableShape) (v : VariableShape) (more : List VariableShape) (n : ℕ) → n ≡ length vs → row ((vs ++ v ∷ []) ++ more) (suc n) ≡ Some v
next_row vs v more n e = row_at ((vs ++ v ∷ []) ++ more) (suc n) (omega arith) ∙ at_end vs v more (suc n - 1) (omega (arith, e))

-- ---- types and scopes add no variable

abbrev pub Variables : List VariableShape → Core → Type 0
Variables vs c = c.variables ≡ vs

begun_same : (vs : List VariableShape) (n : Option ℕ) (s : State) → Variables vs (core s) → Variables vs (core (begun_at n s))
begun_same vs None s h = h
begun_same vs (Some n) s h = h

closed_same : (vs : List VariableShape) (n : Option ℕ) (fields : List FieldShape) (s : State) → Variables vs (core s) → Variables vs (core (closed n fields s))
closed_same vs None fields s h = h
closed_same vs (Some n) fields s h = h

listed_same : (vs : List VariableShape) (p : Pos) (x : Text) (t : Option Tag) (s : State) → Variables vs (core s) → Variables vs (core (listed_enumeration p x t s))
listed_same vs p x None s h = h
listed_same vs p x (Some t) s h = h

pub none_added : (vs : List VariableShape) → Kept (Variables vs)
none_added vs = record {
  opening = opened_keeps (Variables vs) (λ s h. h) (λ x s h. h);
  beginning = begun_same vs;
  closing = λ alone x ds s h g. closed_same vs (opened alone true x s).number (lines_of alone x ds s).fields (lines_of alone x ds s).state g;
  listing = listed_same vs;
  entering = λ s h. h;
  leaving = λ s h. h;
  hushing = λ s t f h. f h;
}

-- what types keep is kept, and no row is added
pub by_types : (s u : State) → ((J : Core → Type 0) → Kept J → J (core s) → J (core u)) → Good (core s) → Good (core u) × (length s.tables.variables ≡ length u.tables.variables)
by_types s u f g =
    let vs = s.tables.variables in
    let one = f (Both (core s)) (types_both (core s)) (itself (core s) g) in
    ((one.0.sound, one.1, f (IsQuiet false) (types_quiet false) g.2), sym (ap length (f (Variables vs) (none_added vs) refl)))
