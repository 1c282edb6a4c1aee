-- Each label has a token of its own, so no switch has more labels than tokens.
use Rattle.std.proofs.Common.{ℕ, ◌≤◌, List, [], ◌∷◌, length, arith}
use Rattle.std.specs.List.{AllByRecursion}
use Rattle.c_syntax.specs.Grammar.{labels_form, stmt_form, body_form, compound_form, items_form, external_form, externals_form, unit_form, tokens_of}
use Rattle.c_syntax.specs.Shape.{LabelShape, case, default, StmtShape, stmt, FormShape, compound, simply, when, either, while, do_while, for, switch, break, continue, return, CompoundShape, braces, ItemShapes, no_items, more_items, ExternalShape, defined, declared, UnitShape}
use Rattle.c_counted.specs.Labels.{label_count, Switches, FormSwitches, BraceSwitches, ItemSwitches, ExternalSwitches, AllSwitches}
use Rattle.c_counted.proofs.Adding.{count, count_kinds}

labels_have : (ls : List LabelShape) → length ls ≤ count (labels_form ls)
labels_have [] = omega arith
labels_have (case p a ∷ rest) = omega (arith, labels_have rest)
labels_have (default p ∷ rest) = omega (arith, labels_have rest)

items_have : (items : ItemShapes) → label_count items ≤ count (items_form items)
items_have no_items = omega arith
items_have (more_items labels a rest) = omega (arith, labels_have labels, items_have rest)

abbrev UpTo : ℕ → ItemShapes → Type 0
UpTo k items = label_count items ≤ k

mutual
  stmt_has : (k : ℕ) (a : StmtShape) → count (stmt_form a) ≤ k → Switches (UpTo k) a
  stmt_has k (stmt p ms q f) h = form_has k f (omega (arith, h))

  form_has : (k : ℕ) (f : FormShape) → count (body_form f) ≤ k → FormSwitches (UpTo k) f
  form_has k (compound c) h = braces_have k c h
  form_has k (simply e) h = tt
  form_has k (when e a) h = stmt_has k a (omega (arith, h))
  form_has k (either e a b) h = (stmt_has k a (omega (arith, h)), stmt_has k b (omega (arith, h)))
  form_has k (while e a) h = stmt_has k a (omega (arith, h))
  form_has k (do_while a e) h = stmt_has k a (omega (arith, h))
  form_has k (for e f g a) h = stmt_has k a (omega (arith, h))
  form_has k (switch e items) h = (omega (arith, h, items_have items), switches_have k items (omega (arith, h)))
  form_has k break h = tt
  form_has k continue h = tt
  form_has k (return e) h = tt

  braces_have : (k : ℕ) (c : CompoundShape) → count (compound_form c) ≤ k → BraceSwitches (UpTo k) c
  braces_have k (braces p ds items) h = switches_have k items (omega (arith, h))

  switches_have : (k : ℕ) (items : ItemShapes) → count (items_form items) ≤ k → ItemSwitches (UpTo k) items
  switches_have k no_items h = tt
  switches_have k (more_items labels a rest) h = (stmt_has k a (omega (arith, h)), switches_have k rest (omega (arith, h)))

external_has : (k : ℕ) (e : ExternalShape) → count (external_form e) ≤ k → ExternalSwitches (UpTo k) e
external_has k (defined specs d ms c) h = braces_have k c (omega (arith, h))
external_has k (declared d) h = tt

externals_have : (k : ℕ) (es : List ExternalShape) → count (externals_form es) ≤ k → AllByRecursion (ExternalSwitches (UpTo k)) es
externals_have k [] h = tt
externals_have k (e ∷ rest) h = (external_has k e (omega (arith, h)), externals_have k rest (omega (arith, h)))

pub labels_are_no_more : (u : UnitShape) → AllSwitches (λ items. label_count items ≤ length (tokens_of u)) u
labels_are_no_more u = externals_have (length (tokens_of u)) u.externals (omega (arith, count_kinds (unit_form u)))
