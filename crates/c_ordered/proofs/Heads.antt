-- What the walk adds for one part by itself: a block, a decision, the sites of an expression, a declared name.
use Rattle.std.proofs.Common.{◌≡◌, ℕ, suc, ◌+◌, ◌++◌, ◌&&◌, ◌||◌, List, [], ◌∷◌, map, not, is_some, Bool, true, false, Option, Some, None, if◌then◌else◌, refl, ap, ap₂, sym, ◌∙◌, arith, append_assoc, append-nil}
use Rattle.c_base.specs.declared.place.Pos.{Pos}
use Rattle.c_syntax.specs.declared.tree.Named.{Named}
use Rattle.c_syntax.specs.Shape.{node, NoteShape, ExprShape, DeclShape, LabelShape, stmt, braces, ItemShapes, UnitShape}
use Rattle.c_tables.specs.Tables.{TablesShape}
use Rattle.c_tables.specs.Rows.{first_place, name_pos, text_of}
use Rattle.c_walk.specs.Items as walk
use Rattle.c_walk.specs.Items.{Direct, Outcomes, Item, cases}
use Rattle.c_walk.specs.Places.{is_place, direct_form}
use Rattle.c_walk.specs.Tests.{is_logical_form, outcomes_of_form, choosing, case_values}
use Rattle.c_walk.specs.declared.around.Around.{Around}
use Rattle.c_walk.specs.declared.around.Taken.{Taken}
use Rattle.c_walk.specs.declared.around.Taken.TheVariants.{Read}
use Rattle.c_walk.specs.Walked.{Walked, with_block, with_block_if, with_decision, with_test, with_def, with_use, with_sites, with_site, inside, inside_test, is_written, is_used}
use Rattle.c_walk.specs.Stating.{whole, with_variable, with_whole_def, is_labelled}
use Rattle.c_walk.specs.Units.{function_of, in_function}
use Rattle.c_ordered.specs.Parts.{What, expression, statement, body, name, declaration, definition, Role, operand, tested, tested_apart, apart, chosen_by, controlled, listed, other, Part, Kind, block, decision, def, used, kind_if, kind_of_decision, has_label}
use Rattle.c_ordered.specs.Parts as parts
use Rattle.c_ordered.specs.Ordered.{function_in, owner_in, item}
use Rattle.c_ordered.proofs.Holding.{Knows, known_if}
use Rattle.c_ordered.proofs.Adding.{Fits, Heads}

-- ---- sites

abbrev site_kinds : Taken → NoteShape → ExprShape → List Kind
site_kinds r n f = kind_if (is_place f && is_written r) def ++ kind_if (is_place f && is_used r n) used

sites : (b w : Bool) (c : Around) (p : Pos) (d : Option Direct) (s : Walked) → (with_use b c p d (with_def w c p d s)).items ≡ s.items ++ map (item p c.function c.owner d) (kind_if w def ++ kind_if b used)
sites true true c p d s = append_assoc s.items (walk.def p c.function d ∷ []) (walk.used p c.function d c.owner ∷ [])
sites false true c p d s = refl
sites true false c p d s = refl
sites false false c p d s = sym (append-nil s.items)

site : (c : Around) (r : Taken) (p : Pos) (n : NoteShape) (f : ExprShape) (s : Walked) → (with_site c r p n f s).items ≡ s.items ++ map (item p c.function c.owner (direct_form n f)) (site_kinds r n f)
site c r p n f s = by (is_place f)
  where
    by : (b : Bool) → (if b then with_sites c r p (direct_form n f) (is_used r n) s else s).items ≡ s.items ++ map (item p c.function c.owner (direct_form n f)) (kind_if (b && is_written r) def ++ kind_if (b && is_used r n) used)
    by true = sites (is_used r n) (is_written r) c p (direct_form n f) s
    by false = sym (append-nil s.items)

sites_decisions : (b w : Bool) (c : Around) (p : Pos) (d : Option Direct) (s : Walked) → (with_use b c p d (with_def w c p d s)).decisions ≡ s.decisions
sites_decisions true true c p d s = refl
sites_decisions false true c p d s = refl
sites_decisions true false c p d s = refl
sites_decisions false false c p d s = refl

sites_variables : (b w : Bool) (c : Around) (p : Pos) (d : Option Direct) (s : Walked) → (with_use b c p d (with_def w c p d s)).variables ≡ s.variables
sites_variables true true c p d s = refl
sites_variables false true c p d s = refl
sites_variables true false c p d s = refl
sites_variables false false c p d s = refl

site_decisions : (c : Around) (r : Taken) (p : Pos) (n : NoteShape) (f : ExprShape) (s : Walked) → (with_site c r p n f s).decisions ≡ s.decisions
site_decisions c r p n f s = by (is_place f)
  where
    by : (b : Bool) → (if b then with_sites c r p (direct_form n f) (is_used r n) s else s).decisions ≡ s.decisions
    by true = sites_decisions (is_used r n) (is_written r) c p (direct_form n f) s
    by false = refl

site_variables : (c : Around) (r : Taken) (p : Pos) (n : NoteShape) (f : ExprShape) (s : Walked) → (with_site c r p n f s).variables ≡ s.variables
site_variables c r p n f s = by (is_place f)
  where
    by : (b : Bool) → (if b then with_sites c r p (direct_form n f) (is_used r n) s else s).variables ≡ s.variables
    by true = sites_variables (is_used r n) (is_written r) c p (direct_form n f) s
    by false = refl

-- as it fits what is known
site_known : (t : TablesShape) (c : Around) (r : Taken) (p : Pos) (n : NoteShape) (f : ExprShape) (s : Walked) (k : Knows Part) → Fits t c s k → (with_site c r p n f s).items ≡ s.items ++ map (item p (function_in t k.one.last) (owner_in k.two.last) (direct_form n f)) (site_kinds r n f)
site_known t c r p n f s k h = site c r p n f s ∙ ap₂ (λ g o. s.items ++ map (item p g o (direct_form n f)) (site_kinds r n f)) h.function h.owner

site_fits : (t : TablesShape) (c : Around) (r : Taken) (p : Pos) (n : NoteShape) (f : ExprShape) (s : Walked) (k : Knows Part) → Fits t c s k → Fits t c (with_site c r p n f s) k
site_fits t c r p n f s k h = record {
  function = h.function;
  owner = h.owner;
  decisions = site_decisions c r p n f s ∙ h.decisions;
  variables = site_variables c r p n f s ∙ h.variables;
}

abbrev expr : Role → Pos → Pos → NoteShape → ExprShape → Part
expr r p o n f = record { role = r; what = expression (node p o n f) }

pub operand_heads : (t : TablesShape) (c : Around) (r : Taken) (p o : Pos) (n : NoteShape) (f : ExprShape) (s : Walked) → Heads t (expr (operand r) p o n f) c c s (with_site c r p n f s)
operand_heads t c r p o n f s = record { items = λ k h. site_known t c r p n f s k h; fits = λ k h. site_fits t c r p n f s k h }

-- ---- blocks

block_fits : (t : TablesShape) (c : Around) (p : Pos) (s : Walked) (k : Knows Part) → Fits t c s k → Fits t c (with_block p s) k
block_fits t c p s k h = record { function = h.function; owner = h.owner; decisions = h.decisions; variables = h.variables }

-- a block in front
block_first : (p : Pos) (s u : Walked) (is : List Item) → u.items ≡ (with_block p s).items ++ is → u.items ≡ s.items ++ walk.block p ∷ is
block_first p s u is e = e ∙ append_assoc s.items (walk.block p ∷ []) is

pub arm_heads : (t : TablesShape) (c : Around) (p o : Pos) (n : NoteShape) (f : ExprShape) (s : Walked) → Heads t (expr apart p o n f) c c s (with_site c Read p n f (with_block p s))
arm_heads t c p o n f s =
    let v = with_block p s in
    record {
      items = λ k h. block_first p s (with_site c Read p n f v) _ (site_known t c Read p n f v k (block_fits t c p s k h));
      fits = λ k h. site_fits t c Read p n f v k (block_fits t c p s k h);
    }

-- ---- decisions

decision_fits : (t : TablesShape) (c : Around) (p : Pos) (o : Outcomes) (s : Walked) (x : Part) (k : Knows Part) → Fits t c s k → Fits t (inside c s) (with_decision p o s) (record k { two = known_if true x k.two })
decision_fits t c p o s x k h =
    let e = h.decisions in
    let m : s.decisions + 1 ≡ suc k.two.passed = omega (arith, e) in
    record { function = h.function; owner = ap (λ n. Some n) m; decisions = m; variables = h.variables }

-- a decision in front of the sites in it
decided_known : (t : TablesShape) (c : Around) (r : Taken) (p : Pos) (o : Outcomes) (n : NoteShape) (f : ExprShape) (s : Walked) (x : Part) (k : Knows Part) → Fits t c s k →
    let j = record k { two = known_if true x k.two } in
    (with_site (inside c s) r p n f (with_decision p o s)).items ≡ s.items ++ walk.decision p o ∷ map (item p (function_in t j.one.last) (owner_in j.two.last) (direct_form n f)) (site_kinds r n f)
decided_known t c r p o n f s x k h =
    let j = record k { two = known_if true x k.two } in
    site_known t (inside c s) r p n f (with_decision p o s) j (decision_fits t c p o s x k h)
    ∙ append_assoc s.items (walk.decision p o ∷ []) (map (item p (function_in t j.one.last) (owner_in j.two.last) (direct_form n f)) (site_kinds r n f))

abbrev decided_if : Bool → ExprShape → Option Outcomes
decided_if b f = if not b then Some (outcomes_of_form f) else None

-- what is tested, whichever part it is
tested_known : (t : TablesShape) (c : Around) (p : Pos) (n : NoteShape) (f : ExprShape) (s : Walked) (x : Part) (k : Knows Part) → Fits t c s k →
    let j = record k { two = known_if (is_some (decided_if (is_logical_form f) f)) x k.two } in
    let d = inside_test c f s in
    let u = with_site d Read p n f (with_test p f s) in
    (u.items ≡ s.items ++ map (item p (function_in t j.one.last) (owner_in j.two.last) (direct_form n f)) (kind_of_decision (decided_if (is_logical_form f) f) ++ site_kinds Read n f)) × Fits t d u j
tested_known t c p n f s x k h = by (is_logical_form f)
  where
    by : (b : Bool) →
        let j = record k { two = known_if (is_some (decided_if b f)) x k.two } in
        let d = if b then c else inside c s in
        let u = with_site d Read p n f (if b then s else with_decision p (outcomes_of_form f) s) in
        (u.items ≡ s.items ++ map (item p (function_in t j.one.last) (owner_in j.two.last) (direct_form n f)) (kind_of_decision (decided_if b f) ++ site_kinds Read n f)) × Fits t d u j
    by true = (site_known t c Read p n f s k h, site_fits t c Read p n f s k h)
    by false = (decided_known t c Read p (outcomes_of_form f) n f s x k h, site_fits t (inside c s) Read p n f (with_decision p (outcomes_of_form f) s) (record k { two = known_if true x k.two }) (decision_fits t c p (outcomes_of_form f) s x k h))

pub tested_heads : (t : TablesShape) (c : Around) (p o : Pos) (n : NoteShape) (f : ExprShape) (s : Walked) → Heads t (expr tested p o n f) c (inside_test c f s) s (with_site (inside_test c f s) Read p n f (with_test p f s))
tested_heads t c p o n f s = record { items = λ k h. (tested_known t c p n f s (expr tested p o n f) k h).0; fits = λ k h. (tested_known t c p n f s (expr tested p o n f) k h).1 }

pub apart_test_heads : (t : TablesShape) (c : Around) (p o : Pos) (n : NoteShape) (f : ExprShape) (s : Walked) → let v = with_block p s in Heads t (expr tested_apart p o n f) c (inside_test c f v) s (with_site (inside_test c f v) Read p n f (with_test p f v))
apart_test_heads t c p o n f s =
    let v = with_block p s in
    let x = expr tested_apart p o n f in
    record {
      items = λ k h. block_first p s (with_site (inside_test c f v) Read p n f (with_test p f v)) _ (tested_known t c p n f v x k (block_fits t c p s k h)).0;
      fits = λ k h. (tested_known t c p n f v x k (block_fits t c p s k h)).1;
    }

pub choice_heads : (t : TablesShape) (c : Around) (items : ItemShapes) (p o : Pos) (n : NoteShape) (f : ExprShape) (s : Walked) → let m = cases (case_values (choosing (node p o n f)) items) in Heads t (expr (chosen_by items) p o n f) c (inside c s) s (with_site (inside c s) Read p n f (with_decision p m s))
choice_heads t c items p o n f s =
    let m = cases (case_values (choosing (node p o n f)) items) in
    let x = expr (chosen_by items) p o n f in
    record {
      items = λ k h. decided_known t c Read p m n f s x k h;
      fits = λ k h. site_fits t (inside c s) Read p n f (with_decision p m s) (record k { two = known_if true x k.two }) (decision_fits t c p m s x k h);
    }

-- ---- statements

pub controlled_heads : (t : TablesShape) (c : Around) (p : Pos) (marks : _) (q : Pos) (f : _) (s : Walked) → Heads t (record { role = controlled; what = statement (stmt p marks q f) }) c c s (with_block p s)
controlled_heads t c p marks q f s = record { items = λ k h. refl; fits = λ k h. block_fits t c p s k h }

pub body_heads : (t : TablesShape) (c : Around) (p : Pos) (ds : _) (items : _) (s : Walked) → Heads t (record { role = controlled; what = body (braces p ds items) }) c c s (with_block p s)
body_heads t c p ds items s = record { items = λ k h. refl; fits = λ k h. block_fits t c p s k h }

labels_same : (ls : List LabelShape) → is_labelled ls ≡ has_label ls
labels_same [] = refl
labels_same (l ∷ ls) = refl

block_if : (b : Bool) (p : Pos) (s : Walked) (f : ℕ) (o : Option ℕ) (d : Option Direct) → (with_block_if b p s).items ≡ s.items ++ map (item p f o d) (kind_if b block ++ [])
block_if true p s f o d = refl
block_if false p s f o d = sym (append-nil s.items)

block_if_fits : (b : Bool) (t : TablesShape) (c : Around) (p : Pos) (s : Walked) (k : Knows Part) → Fits t c s k → Fits t c (with_block_if b p s) k
block_if_fits true t c p s k h = block_fits t c p s k h
block_if_fits false t c p s k h = h

pub listed_heads : (t : TablesShape) (c : Around) (after : Bool) (labels : List LabelShape) (p : Pos) (marks : _) (q : Pos) (f : _) (s : Walked) → Heads t (record { role = listed after labels; what = statement (stmt p marks q f) }) c c s (with_block_if (after || is_labelled labels) p s)
listed_heads t c after labels p marks q f s = record {
  items = λ k h. block_if (after || is_labelled labels) p s (function_in t k.one.last) (owner_in k.two.last) None ∙ ap (λ b. s.items ++ map (item p (function_in t k.one.last) (owner_in k.two.last) None) (kind_if (after || b) block ++ [])) (labels_same labels);
  fits = λ k h. block_if_fits (after || is_labelled labels) t c p s k h;
}

-- ---- declarations

pub declaration_heads : (t : TablesShape) (c : Around) (d : DeclShape) (s : Walked) → Heads t (record { role = other; what = declaration d }) c c s s
declaration_heads t c d s = record { items = λ k h. sym (append-nil s.items); fits = λ k h. h }

variable_fits : (t : TablesShape) (c : Around) (x : Part) (s : Walked) (k : Knows Part) → Fits t c s k → Fits t c (with_variable s) (record k { three = known_if true x k.three })
variable_fits t c x s k h = let e = h.variables in record { function = h.function; owner = h.owner; decisions = h.decisions; variables = omega (arith, e) }

pub name_heads : (t : TablesShape) (c : Around) (x : Option Named) (s : Walked) → Heads t (record { role = other; what = name x }) c c s (with_variable s)
name_heads t c x s = record { items = λ k h. sym (append-nil s.items); fits = λ k h. variable_fits t c (record { role = other; what = name x }) s k h }

pub valued_heads : (t : TablesShape) (c : Around) (x : Option Named) (s : Walked) → Heads t (record { role = parts.defined; what = name x }) c c s (with_whole_def t c.function x (with_variable s))
valued_heads t c x s = record {
  items = λ k h.
      let e = h.variables in
      let m : s.variables + 1 ≡ suc k.three.passed = omega (arith, e) in
      ap₂ (λ g v. s.items ++ walk.def (name_pos first_place x) g (whole t v) ∷ []) h.function m;
  fits = λ k h. let v = variable_fits t c (record { role = parts.defined; what = name x }) s k h in record { function = v.function; owner = v.owner; decisions = v.decisions; variables = v.variables };
}

pub definition_heads : (t : TablesShape) (x : Option Named) (s : Walked) → Heads t (record { role = other; what = definition x }) (in_function 0) (in_function (function_of t (text_of x))) s s
definition_heads t x s = record { items = λ k h. sym (append-nil s.items); fits = λ k h. record { function = refl; owner = h.owner; decisions = h.decisions; variables = h.variables } }

pub whole_heads : (t : TablesShape) (u : UnitShape) (c : Around) (s : Walked) → Heads t (record { role = other; what = parts.whole u }) c c s s
whole_heads t u c s = record { items = λ k h. sym (append-nil s.items); fits = λ k h. h }
