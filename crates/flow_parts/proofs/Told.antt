-- Each definition of a variable that is declared in a function is one of the program's parts, by its number.
use Rattle.std.proofs.Common.{◌≡◌, ℕ, ◌≤◌, ◌<◌, ◌++◌, List, [], ◌∷◌, Option, Some, None, Bool, true, false, refl, ap, sym, ◌∙◌, arith, append_assoc}
use Rattle.std.specs.Prelude.{nat_eq, nat_le, ◌||◌, if◌then◌else◌}
use Rattle.std.proofs.lemmas.Bool.{true≢false, or_parts}
use Rattle.std.proofs.lemmas.Bool.Decides.{nat_tests}
use Rattle.c_syntax.specs.Shape.{decl, declarator, DeclFormShape, CompoundShape, braces, ExternalShape, defined, declared}
use Rattle.c_tables.specs.Rows.{text_of}
use Rattle.c_walk.specs.Items.{Direct, Item}
use Rattle.c_walk.specs.Counted.{def_count}
use Rattle.c_walk.specs.Walked.{Walked, with_block}
use Rattle.c_walk.specs.Units as units
use Rattle.c_walk.specs.Units.{function_of, in_function, define_declarators, define_parameters, walk_function, walk_external, walk_externals}
use Rattle.c_meaning.specs.Calls.{Source}
use Rattle.flow_calls.specs.Placing.{Local}
use Rattle.flow_parts.specs.Items.{def_at, outer_names, outer_variables, is_among}
use Rattle.flow_parts.specs.Parts.{site_of, part_of, parameter_of, defined_in}
use Rattle.flow_parts.specs.Sites.{all_items}
use Rattle.flow_parts.proofs.Grown.{Grows, grows_on, block_grows, compound_grows, externals_grow}
use Rattle.flow_parts.proofs.Whole.{def_front, names_outer}

le_is : (m n : ℕ) → nat_le m n ≡ true → m ≤ n
le_is m n h = grind (arith, nat_tests)

le_not : (m n : ℕ) → nat_le m n ≡ false → n < m
le_not m n h = grind (arith, nat_tests)

among_parts : (x : ℕ) (xs ys : List ℕ) → is_among x (xs ++ ys) ≡ false → (is_among x xs ≡ false) × (is_among x ys ≡ false)
among_parts x [] ys h = (refl, h)
among_parts x (y ∷ xs) ys h = let p = or_parts (nat_eq y x) (is_among x (xs ++ ys)) h in let q = among_parts x xs ys p.1 in (ap (λ b. b || is_among x xs) p.0 ∙ q.0, q.1)

module _ (P : Source) where
  abbrev all : List Item
  all = all_items P

  abbrev pub outside : List ℕ
  outside = outer_variables P.tables P.unit.externals units.no_items

  -- what was counted stands in front of all
  abbrev Front : Walked → Type 0
  Front w = (rest : List Item) × (all ≡ w.items ++ rest)

  front_back : (v w : Walked) → Grows v w → Front w → Front v
  front_back v w g f = (g.more ++ f.0, f.1 ∙ ap (λ l. l ++ f.0) g.items ∙ append_assoc v.items g.more f.0)

  front_at : (w : Walked) (k : ℕ) (o : Option Direct) → Front w → 1 ≤ k → k ≤ def_count w.items → def_at k all ≡ o → def_at k w.items ≡ o
  front_at w k o f a b e = sym (ap (def_at k) f.1 ∙ def_front k w.items f.0 a b) ∙ e

  function_past : (f : ℕ) (d : DeclFormShape) (a : CompoundShape) (w : Walked) → Grows (define_parameters P.tables f d w) (walk_function P.tables f d a w)
  function_past f d (braces p ds items) w =
      let j = define_parameters P.tables f d w in
      grows_on (block_grows p j) (compound_grows P.tables (in_function f) (braces p ds items) (with_block p j))

  -- ---- a definition of such a variable

  pub record Site (d : Direct) (o : Option Local) : Type 0 where
    pub is_parameter : Bool
    pub is : o ≡ Some (site_of P.tables is_parameter d)

  on_either : (k n : ℕ) (d : Direct) (b : Bool) → nat_le k n ≡ b → (x y : Option Local) → (k ≤ n → Site d x) → (n < k → Site d y) → Site d (if b then x else y)
  on_either k n d true t x y f g = f (le_is k n t)
  on_either k n d false t x y f g = g (le_not k n t)

  pub part_site : (d : Direct) → is_among d.variable outside ≡ false → part_of P.tables outside (Some d) ≡ Some (site_of P.tables false d)
  part_site d e = ap (λ b. if b then None else Some (site_of P.tables false d)) e

  module _ (k : ℕ) (d : Direct) (at : def_at k all ≡ Some d) (free : is_among d.variable outside ≡ false) where
    pub told : (es : List ExternalShape) (w : Walked) → Front (walk_externals P.tables es w) → def_count w.items < k → k ≤ def_count (walk_externals P.tables es w).items → is_among d.variable (outer_variables P.tables es w) ≡ false
        → Site d (defined_in P.tables all outside es w k)
    told [] w f lt le h = absurd (omega (arith, lt, le))
    told (declared (decl p specs names) ∷ rest) w f lt le h =
        let u = walk_external P.tables (declared (decl p specs names)) w in
        let q = among_parts d.variable (outer_names P.tables names w) (outer_variables P.tables rest u) h in
        let here = front_back u (walk_externals P.tables rest u) (externals_grow P.tables rest u) f in
        on_either k (def_count u.items) d (nat_le k (def_count u.items)) refl None (defined_in P.tables all outside rest u k)
        (λ low. absurd (true≢false (sym (names_outer P.tables names w k d lt low (front_at u k (Some d) here (omega (arith, lt)) low at)) ∙ q.0)))
        (λ above. told rest u f above le q.1)
    told (defined specs (declarator stars x y i) ms a ∷ rest) w f lt le h =
        let n = function_of P.tables (text_of x) in
        let j = define_parameters P.tables n y w in
        let u = walk_external P.tables (defined specs (declarator stars x y i) ms a) w in
        on_either k (def_count j.items) d (nat_le k (def_count j.items)) refl (parameter_of P.tables (def_at k all)) (if nat_le k (def_count u.items) then part_of P.tables outside (def_at k all) else defined_in P.tables all outside rest u k)
        (λ low. record { is_parameter = true; is = ap (parameter_of P.tables) at })
        (λ past. on_either k (def_count u.items) d (nat_le k (def_count u.items)) refl (part_of P.tables outside (def_at k all)) (defined_in P.tables all outside rest u k)
        (λ low. record { is_parameter = false; is = ap (part_of P.tables outside) at ∙ part_site d free })
        (λ above. told rest u f above le h))
