-- What the walk adds to the items, against what is told of parts on the way down their tree: of no part, of one behind another, of one with its own parts.
use Rattle.std.proofs.Common.{◌≡◌, ℕ, ◌+◌, ◌++◌, List, ap, sym, ◌∙◌, arith, append_assoc, append-nil}
use Rattle.c_tables.specs.Tables.{TablesShape}
use Rattle.c_walk.specs.Items.{Item}
use Rattle.c_walk.specs.declared.around.Around.{Around}
use Rattle.c_walk.specs.Walked.{Walked}
use Rattle.c_ordered.specs.Trees.{tree, none, more, preorder}
use Rattle.c_ordered.specs.Parts.{Part, is_decision, is_variable, is_definition}
use Rattle.c_ordered.specs.Outlines.{Outline, Outlines}
use Rattle.c_ordered.specs.Ordered.{function_in, owner_in, items_with}
use Rattle.c_ordered.proofs.Holding.{Knows, Tests, count, count_all, count_tree, knows_at, knows_behind, told, told_all}

-- one: the function that is defined, two: the decision, three: the variable
abbrev pub tests : Tests Part
tests = record { one = is_definition; two = is_decision; three = is_variable }

-- what is known on the way down is what the walk knows
pub record Fits (t : TablesShape) (c : Around) (s : Walked) (k : Knows Part) : Type 0 where
  pub function : c.function ≡ function_in t k.one.last
  pub owner : c.owner ≡ owner_in k.two.last
  pub decisions : s.decisions ≡ k.two.passed
  pub variables : s.variables ≡ k.three.passed

-- from s to u come these items, and so many decisions and variables
pub record Adds (s u : Walked) (is : List Item) (d v : ℕ) : Type 0 where
  pub items : u.items ≡ s.items ++ is
  pub decisions : u.decisions ≡ s.decisions + d
  pub variables : u.variables ≡ s.variables + v

-- from s to u the walk adds what is told of a tree, in these surroundings
pub record Says (t : TablesShape) (c : Around) (s u : Walked) (a : Outline) : Type 0 where
  pub told : (k : Knows Part) → Fits t c s k → Adds s u (told tests (items_with t) k a) (count is_decision (preorder a)) (count is_variable (preorder a))

pub record SaysAll (t : TablesShape) (c : Around) (s u : Walked) (ts : Outlines) : Type 0 where
  pub told : (k : Knows Part) → Fits t c s k → Adds s u (told_all tests (items_with t) k ts) (count_all is_decision ts) (count_all is_variable ts)

-- from s to u it adds the items of one part by itself, and d are the surroundings of its own parts
pub record Heads (t : TablesShape) (x : Part) (c d : Around) (s u : Walked) : Type 0 where
  pub items : (k : Knows Part) → Fits t c s k → let j = knows_at tests x k in u.items ≡ s.items ++ items_with t j.one.last j.two.last j.three.last x
  pub fits : (k : Knows Part) → Fits t c s k → Fits t d u (knows_at tests x k)

pub nothing : {t : TablesShape} {c : Around} {s : Walked} → SaysAll t c s s none
nothing {t} {c} {s} = record { told = λ k h. record { items = sym (append-nil s.items); decisions = omega arith; variables = omega arith } }

fits_behind : (t : TablesShape) (c : Around) (s u : Walked) (k : Knows Part) (a : Outline) (is : List Item) → Fits t c s k → Adds s u is (count is_decision (preorder a)) (count is_variable (preorder a)) → Fits t c u (knows_behind tests a k)
fits_behind t c s u k a is h e = record {
  function = h.function;
  owner = h.owner;
  decisions = e.decisions ∙ ap (λ n. n + count is_decision (preorder a)) h.decisions;
  variables = e.variables ∙ ap (λ n. n + count is_variable (preorder a)) h.variables;
}

behind : (s u v : Walked) (is js : List Item) (d e m n : ℕ) → Adds s u is d m → Adds u v js e n → Adds s v (is ++ js) (d + e) (m + n)
behind s u v is js d e m n a b =
    let p = a.decisions in
    let q = b.decisions in
    let x = a.variables in
    let y = b.variables in
    record { items = b.items ∙ (ap (λ xs. xs ++ js) a.items ∙ append_assoc s.items is js); decisions = omega (arith, p, q); variables = omega (arith, x, y) }

pub next : {t : TablesShape} {c : Around} {s u v : Walked} {a : Outline} {ts : Outlines} → Says t c s u a → SaysAll t c u v ts → SaysAll t c s v (more a ts)
next {t} {c} {s} {u} {v} {a} {ts} x y = record {
  told = λ k h.
      let first = x.told k h in
      let j = knows_behind tests a k in
      behind s u v (told tests (items_with t) k a) (told_all tests (items_with t) j ts) (count is_decision (preorder a)) (count_all is_decision ts) (count is_variable (preorder a)) (count_all is_variable ts)
      first (y.told j (fits_behind t c s u k a (told tests (items_with t) k a) h first));
}

pub within : {t : TablesShape} {x : Part} {c d : Around} {s u v : Walked} {ts : Outlines} → Heads t x c d s u → SaysAll t d u v ts → Says t c s v (tree x ts)
within {t} {x} {c} {d} {s} {u} {v} {ts} a b = record {
  told = λ k h.
      let j = knows_at tests x k in
      let f = a.fits k h in
      let rest = b.told j f in
      let own = items_with t j.one.last j.two.last j.three.last x in
      let p = rest.decisions in
      let q = f.decisions in
      let r = h.decisions in
      let n = count_tree is_decision x ts k.two in
      let y = rest.variables in
      let z = f.variables in
      let w = h.variables in
      let m = count_tree is_variable x ts k.three in
      record {
        items = rest.items ∙ (ap (λ xs. xs ++ told_all tests (items_with t) j ts) (a.items k h) ∙ append_assoc s.items own (told_all tests (items_with t) j ts));
        decisions = omega (arith, p, q, r, n);
        variables = omega (arith, y, z, w, m);
      };
}
