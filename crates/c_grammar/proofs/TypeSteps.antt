-- The steps of the reader of type names, specifiers and declared names: one for each way that reading goes.
pub use Rattle.c_grammar.specs.Parts.{one_length, structure, enumeration, fields, enumerators, value}
use Rattle.std.proofs.Common.{◌≡◌, ℕ, suc, ◌+◌, ◌≤◌, ◌<◌, List, [], length, Option, Some, None, Bool, true, false, refl, ap, ◌∙◌, arith}
use Rattle.std.specs.Prelude.{nat_lt}
use Rattle.c_base.specs.declared.place.Pos.{Pos}
use Rattle.c_syntax.specs.declared.text.Text.{Text}
use Rattle.c_syntax.specs.declared.token.Mark.TheVariants as marks
use Rattle.c_syntax.specs.declared.token.Key.{Key}
use Rattle.c_syntax.specs.declared.token.Key.TheVariants as keys
use Rattle.c_syntax.specs.declared.token.ProbeWord.TheVariants as words
use Rattle.c_syntax.specs.declared.token.Token.{Token}
use Rattle.c_syntax.specs.declared.tree.Star.{Star}
use Rattle.c_syntax.specs.declared.tree.Named.{Named}
use Rattle.c_syntax.specs.Forms.{place}
use Rattle.c_syntax.specs.Shape.{NodeShape, MaybeNode, no_node, one_node, LengthShapes, no_lengths, type_name, SpecShapes, no_specs, SpecShape, word, struct, enum, no_members, members, no_rows, rows, EnumerShapes, no_enumers, DeclShapes}
use Rattle.c_syntax.specs.Shaped.{is_there}
use Rattle.c_grammar.specs.Look.{Got, got, then_go, go_after, either_way, where_true, Finds, after, after_key, after_probe, wanted, a_word}
use Rattle.c_grammar.specs.Starts.{SpecHead, a_spec_word, a_struct, an_enum, no_spec, spec_head, is_spec}
use Rattle.c_grammar.specs.Reader.{reads, reads_lengths, reads_specs, reads_enumers, reads_some, reads_type, lists}
use Rattle.c_grammar.specs.ExprReader.{one_got, length_onto, length_more, const_more, reads_consts, star_onto, star_more, reads_stars, type_made, type_lengths, type_stars, plain_name, tag_from, tag, probed_name, named_in, named_word, named_number, maybe_named, numbered, struct_made, struct_list, struct_tag, enum_made, enumer_onto, enumer_more, enumer_value, enum_list, enum_tag, spec_onto, spec_more, spec_list}
use Rattle.c_grammar.proofs.Looking.{find_from}
use Rattle.c_grammar.proofs.ExprSteps.{low_go, high_none, then_found, then_fails, closed, closed_found, closed_fails, closed_open}

-- ARRAY LENGTHS

abbrev with_length : ℕ → ℕ → ℕ → List Token → Got MaybeNode
with_length d g k l = then_go (reads 2 (suc d) g k l) one_got

pub length_none : (free : Bool) (d g : ℕ) (ts r : List Token) → after marks.RightBracket ts ≡ Some r → free ≡ true → Finds (one_length free d g) ts (Some (no_node, r))
length_none free d g ts r e f = record { from = 0; holds = λ k h. ap (λ o. either_way o (λ r. where_true free (got no_node r)) (closed marks.RightBracket (with_length d g) k ts)) e ∙ ap (λ b. where_true b (got no_node r)) f }

pub length_missing : (free : Bool) (d g : ℕ) (ts r : List Token) → after marks.RightBracket ts ≡ Some r → free ≡ false → Finds (one_length free d g) ts None
length_missing free d g ts r e f = record { from = 0; holds = λ k h. ap (λ o. either_way o (λ r. where_true free (got no_node r)) (closed marks.RightBracket (with_length d g) k ts)) e ∙ ap (λ b. where_true b (got no_node r)) f }

some_length : (free : Bool) (d g : ℕ) (ts : List Token) (z : Got MaybeNode) → after marks.RightBracket ts ≡ None → Finds (closed marks.RightBracket (with_length d g)) ts z → Finds (one_length free d g) ts z
some_length free d g ts z e p = record { from = p.from; holds = λ k h. ap (λ o. either_way o (λ r. where_true free (got no_node r)) (closed marks.RightBracket (with_length d g) k ts)) e ∙ p.holds k h }

length_one : (d g : ℕ) (a : NodeShape) (ts x : List Token) → Finds (reads 2 (suc d) g) ts (got a x) → Finds (with_length d g) ts (got (one_node a) x)
length_one d g a ts x p = then_found (reads 2 (suc d) g) (λ k. one_got) ts a x (got (one_node a) x) p (record { from = 0; holds = λ k h. refl })

pub length_there : (free : Bool) (d g : ℕ) (a : NodeShape) (ts x y : List Token) → after marks.RightBracket ts ≡ None → Finds (reads 2 (suc d) g) ts (Some (a, x)) → after marks.RightBracket x ≡ Some y → Finds (one_length free d g) ts (Some (one_node a, y))
length_there free d g a ts x y e p c = some_length free d g ts (got (one_node a) y) e (closed_found marks.RightBracket (with_length d g) ts (one_node a) x y (length_one d g a ts x p) c)

pub length_fails : (free : Bool) (d g : ℕ) (ts : List Token) → after marks.RightBracket ts ≡ None → Finds (reads 2 (suc d) g) ts None → Finds (one_length free d g) ts None
length_fails free d g ts e p = some_length free d g ts None e (closed_fails marks.RightBracket (with_length d g) ts (then_fails (reads 2 (suc d) g) (λ k. one_got) ts p))

pub length_open : (free : Bool) (d g : ℕ) (a : NodeShape) (ts x : List Token) → after marks.RightBracket ts ≡ None → Finds (reads 2 (suc d) g) ts (Some (a, x)) → after marks.RightBracket x ≡ None → Finds (one_length free d g) ts None
length_open free d g a ts x e p c = some_length free d g ts None e (closed_open marks.RightBracket (with_length d g) ts (one_node a) x (length_one d g a ts x p) c)

abbrev lengths_behind : Bool → ℕ → ℕ → ℕ → List Token → Got LengthShapes
lengths_behind free d g k r = where_true (nat_lt d 400) (then_go (one_length free d g k r) (length_more (λ l. reads_lengths free (suc d) g k l)))

pub lengths_end : (free : Bool) (d g : ℕ) (ts : List Token) → after marks.LeftBracket ts ≡ None → Finds (reads_lengths free d g) ts (Some (no_lengths, ts))
lengths_end free d g ts e = find_from (reads_lengths free d g) ts (got no_lengths ts) 0 (λ j h. ap (λ o. either_way o (lengths_behind free d g j) (got no_lengths ts)) e)

pub lengths_deep : (free : Bool) (d g : ℕ) (ts r : List Token) → after marks.LeftBracket ts ≡ Some r → 400 ≤ d → Finds (reads_lengths free d g) ts None
lengths_deep free d g ts r e high =
    find_from (reads_lengths free d g) ts None 0 (λ j h. ap (λ o. either_way o (lengths_behind free d g j) (got no_lengths ts)) e ∙ high_none d 400 (then_go (one_length free d g j r) (length_more (λ l. reads_lengths free (suc d) g j l))) high)

lengths_at : (free : Bool) (d g : ℕ) (ts r : List Token) → after marks.LeftBracket ts ≡ Some r → d < 400 → (j : ℕ) → reads_lengths free d g (suc j) ts ≡ then_go (one_length free d g j r) (length_more (λ l. reads_lengths free (suc d) g j l))
lengths_at free d g ts r e low j = ap (λ o. either_way o (lengths_behind free d g j) (got no_lengths ts)) e ∙ low_go d 400 (then_go (one_length free d g j r) (length_more (λ l. reads_lengths free (suc d) g j l))) low

pub lengths_on : (free : Bool) (d g : ℕ) (a : MaybeNode) (ts r x : List Token) (z : Got LengthShapes) → after marks.LeftBracket ts ≡ Some r → d < 400 → Finds (one_length free d g) r (Some (a, x)) → Finds (reads_lengths free (suc d) g) x z → Finds (reads_lengths free d g) ts (then_go z (length_onto a))
lengths_on free d g a ts r x z e low p q =
    find_from (reads_lengths free d g) ts (then_go z (length_onto a)) (p.from + q.from) (λ j h.
    lengths_at free d g ts r e low j ∙ ap (λ f. then_go f (length_more (λ l. reads_lengths free (suc d) g j l))) (p.holds j (omega (arith, h))) ∙ ap (λ f. then_go f (length_onto a)) (q.holds j (omega (arith, h))))

pub lengths_fail : (free : Bool) (d g : ℕ) (ts r : List Token) → after marks.LeftBracket ts ≡ Some r → d < 400 → Finds (one_length free d g) r None → Finds (reads_lengths free d g) ts None
lengths_fail free d g ts r e low p =
    find_from (reads_lengths free d g) ts None p.from (λ j h. lengths_at free d g ts r e low j ∙ ap (λ f. then_go f (length_more (λ l. reads_lengths free (suc d) g j l))) (p.holds j h))

-- STARS

pub consts_end : (ts : List Token) → after_key keys.Const ts ≡ None → Finds reads_consts ts (Some (0, ts))
consts_end ts e = find_from reads_consts ts (got 0 ts) 0 (λ j h. ap (λ o. either_way o (λ r. then_go (reads_consts j r) const_more) (got 0 ts)) e)

pub consts_on : (ts r : List Token) (z : Got ℕ) → after_key keys.Const ts ≡ Some r → Finds reads_consts r z → Finds reads_consts ts (then_go z const_more)
consts_on ts r z e p = find_from reads_consts ts (then_go z const_more) p.from (λ j h. ap (λ o. either_way o (λ r. then_go (reads_consts j r) const_more) (got 0 ts)) e ∙ ap (λ f. then_go f const_more) (p.holds j h))

abbrev stars_behind : ℕ → ℕ → List Token → List Token → Got (List Star)
stars_behind d k ts r = where_true (nat_lt d 400) (then_go (reads_consts k r) (star_more (λ l. reads_stars (suc d) k l) (place ts)))

pub stars_end : (d : ℕ) (ts : List Token) → after marks.Star ts ≡ None → Finds (reads_stars d) ts (Some ([], ts))
stars_end d ts e = find_from (reads_stars d) ts (got [] ts) 0 (λ j h. ap (λ o. either_way o (stars_behind d j ts) (got [] ts)) e)

pub stars_deep : (d : ℕ) (ts r : List Token) → after marks.Star ts ≡ Some r → 400 ≤ d → Finds (reads_stars d) ts None
stars_deep d ts r e high =
    find_from (reads_stars d) ts None 0 (λ j h. ap (λ o. either_way o (stars_behind d j ts) (got [] ts)) e ∙ high_none d 400 (then_go (reads_consts j r) (star_more (λ l. reads_stars (suc d) j l) (place ts))) high)

pub stars_on : (d n : ℕ) (ts r x : List Token) (z : Got (List Star)) → after marks.Star ts ≡ Some r → d < 400 → Finds reads_consts r (Some (n, x)) → Finds (reads_stars (suc d)) x z → Finds (reads_stars d) ts (then_go z (star_onto (place ts) n))
stars_on d n ts r x z e low p q =
    find_from (reads_stars d) ts (then_go z (star_onto (place ts) n)) (p.from + q.from) (λ j h.
    ap (λ o. either_way o (stars_behind d j ts) (got [] ts)) e
    ∙ low_go d 400 (then_go (reads_consts j r) (star_more (λ l. reads_stars (suc d) j l) (place ts))) low
    ∙ ap (λ f. then_go f (star_more (λ l. reads_stars (suc d) j l) (place ts))) (p.holds j (omega (arith, h)))
    ∙ ap (λ f. then_go f (star_onto (place ts) n)) (q.holds j (omega (arith, h))))

-- TYPE NAMES

pub type_found : (d g : ℕ) (ts x y z : List Token) (specs : SpecShapes) (ss : List Star) (ls : LengthShapes) → Finds (reads_some d g) ts (Some (specs, x)) → Finds (reads_stars d) x (Some (ss, y)) → Finds (reads_lengths false (length ss + d) g) y (Some (ls, z)) → Finds (reads_type d g) ts (Some (type_name (place ts) specs ss ls, z))
type_found d g ts x y z specs ss ls p q r = record {
  from = p.from + (q.from + r.from);
  holds = λ k h.
      ap (λ f. then_go f (type_stars (reads_stars d k) (λ c l. reads_lengths false (c + d) g k l) (place ts))) (p.holds k (omega (arith, h)))
      ∙ ap (λ f. then_go f (type_lengths (λ c l. reads_lengths false (c + d) g k l) (place ts) specs)) (q.holds k (omega (arith, h)))
      ∙ ap (λ f. then_go f (type_made (place ts) specs ss)) (r.holds k (omega (arith, h)));
}

pub type_fails : (d g : ℕ) (ts : List Token) → Finds (reads_some d g) ts None → Finds (reads_type d g) ts None
type_fails d g ts p = record { from = p.from; holds = λ k h. ap (λ f. then_go f (type_stars (reads_stars d k) (λ c l. reads_lengths false (c + d) g k l) (place ts))) (p.holds k h) }

pub type_stars_fail : (d g : ℕ) (ts x : List Token) (specs : SpecShapes) → Finds (reads_some d g) ts (Some (specs, x)) → Finds (reads_stars d) x None → Finds (reads_type d g) ts None
type_stars_fail d g ts x specs p q = record {
  from = p.from + q.from;
  holds = λ k h.
      ap (λ f. then_go f (type_stars (reads_stars d k) (λ c l. reads_lengths false (c + d) g k l) (place ts))) (p.holds k (omega (arith, h)))
      ∙ ap (λ f. then_go f (type_lengths (λ c l. reads_lengths false (c + d) g k l) (place ts) specs)) (q.holds k (omega (arith, h)));
}

pub type_lengths_fail : (d g : ℕ) (ts x y : List Token) (specs : SpecShapes) (ss : List Star) → Finds (reads_some d g) ts (Some (specs, x)) → Finds (reads_stars d) x (Some (ss, y)) → Finds (reads_lengths false (length ss + d) g) y None → Finds (reads_type d g) ts None
type_lengths_fail d g ts x y specs ss p q r = record {
  from = p.from + (q.from + r.from);
  holds = λ k h.
      ap (λ f. then_go f (type_stars (reads_stars d k) (λ c l. reads_lengths false (c + d) g k l) (place ts))) (p.holds k (omega (arith, h)))
      ∙ ap (λ f. then_go f (type_lengths (λ c l. reads_lengths false (c + d) g k l) (place ts) specs)) (q.holds k (omega (arith, h)))
      ∙ ap (λ f. then_go f (type_made (place ts) specs ss)) (r.holds k (omega (arith, h)));
}

-- SPECIFIERS

-- specifiers, the first of which is there
pub some_found : (d g : ℕ) (ts : List Token) (z : Got SpecShapes) → is_spec (spec_head ts) ≡ true → Finds (reads_specs d g) ts z → Finds (reads_some d g) ts z
some_found d g ts z e p = record { from = p.from; holds = λ k h. ap (λ b. where_true b (reads_specs d g k ts)) e ∙ p.holds k h }

pub some_none : (d g : ℕ) (ts : List Token) → is_spec (spec_head ts) ≡ false → Finds (reads_some d g) ts None
some_none d g ts e = record { from = 0; holds = λ k h. ap (λ b. where_true b (reads_specs d g k ts)) e }

specs_at : (d g : ℕ) (ts : List Token) (s : SpecHead) → spec_head ts ≡ s → (j : ℕ) → reads_specs d g (suc j) ts ≡ spec_list (lists d g j) d (λ r. reads_specs d g j r) ts s
specs_at d g ts s e j = ap (spec_list (lists d g j) d (λ r. reads_specs d g j r) ts) e

pub specs_end : (d g : ℕ) (ts : List Token) → spec_head ts ≡ no_spec → Finds (reads_specs d g) ts (Some (no_specs, ts))
specs_end d g ts e = find_from (reads_specs d g) ts (got no_specs ts) 0 (λ j h. specs_at d g ts no_spec e j)

pub specs_word : (d g : ℕ) (ts r : List Token) (x : Key) (z : Got SpecShapes) → spec_head ts ≡ a_spec_word x r → Finds (reads_specs d g) r z → Finds (reads_specs d g) ts (then_go z (spec_onto (place ts) (word x)))
specs_word d g ts r x z e p =
    find_from (reads_specs d g) ts (then_go z (spec_onto (place ts) (word x))) p.from (λ j h. specs_at d g ts (a_spec_word x r) e j ∙ ap (λ f. then_go f (spec_onto (place ts) (word x))) (p.holds j h))

pub specs_struct : (d g : ℕ) (ts r x : List Token) (s : SpecShape) (z : Got SpecShapes) → spec_head ts ≡ a_struct r → Finds (structure d g) r (Some (s, x)) → Finds (reads_specs d g) x z → Finds (reads_specs d g) ts (then_go z (spec_onto (place ts) s))
specs_struct d g ts r x s z e p q =
    find_from (reads_specs d g) ts (then_go z (spec_onto (place ts) s)) (p.from + q.from) (λ j h.
    specs_at d g ts (a_struct r) e j ∙ ap (λ f. then_go f (spec_more (λ r. reads_specs d g j r) (place ts))) (p.holds j (omega (arith, h))) ∙ ap (λ f. then_go f (spec_onto (place ts) s)) (q.holds j (omega (arith, h))))

pub specs_struct_fails : (d g : ℕ) (ts r : List Token) → spec_head ts ≡ a_struct r → Finds (structure d g) r None → Finds (reads_specs d g) ts None
specs_struct_fails d g ts r e p =
    find_from (reads_specs d g) ts None p.from (λ j h. specs_at d g ts (a_struct r) e j ∙ ap (λ f. then_go f (spec_more (λ r. reads_specs d g j r) (place ts))) (p.holds j h))

pub specs_enum : (d g : ℕ) (ts r x : List Token) (s : SpecShape) (z : Got SpecShapes) → spec_head ts ≡ an_enum r → Finds (enumeration d g) r (Some (s, x)) → Finds (reads_specs d g) x z → Finds (reads_specs d g) ts (then_go z (spec_onto (place ts) s))
specs_enum d g ts r x s z e p q =
    find_from (reads_specs d g) ts (then_go z (spec_onto (place ts) s)) (p.from + q.from) (λ j h.
    specs_at d g ts (an_enum r) e j ∙ ap (λ f. then_go f (spec_more (λ r. reads_specs d g j r) (place ts))) (p.holds j (omega (arith, h))) ∙ ap (λ f. then_go f (spec_onto (place ts) s)) (q.holds j (omega (arith, h))))

pub specs_enum_fails : (d g : ℕ) (ts r : List Token) → spec_head ts ≡ an_enum r → Finds (enumeration d g) r None → Finds (reads_specs d g) ts None
specs_enum_fails d g ts r e p =
    find_from (reads_specs d g) ts None p.from (λ j h. specs_at d g ts (an_enum r) e j ∙ ap (λ f. then_go f (spec_more (λ r. reads_specs d g j r) (place ts))) (p.holds j h))

by_tag : {A : Type 0} (f : ℕ → Option Named → List Token → Got A) (ts x : List Token) (n : Option Named) (z : Got A) → tag ts ≡ got n x → Finds (λ k l. f k n l) x z → Finds (λ k l. then_go (tag l) (f k)) ts z
by_tag f ts x n z e p = record { from = p.from; holds = λ k h. ap (λ q. then_go q (f k)) e ∙ p.holds k h }

pub struct_plain : (d g : ℕ) (ts x : List Token) (n : Option Named) → tag ts ≡ Some (n, x) → after marks.LeftBrace x ≡ None → is_there n ≡ true → Finds (structure d g) ts (Some (struct n no_members, x))
struct_plain d g ts x n e b t =
    by_tag (λ k. struct_tag (lists d g k) d) ts x n (got (struct n no_members) x) e (record { from = 0; holds = λ k h. ap (λ o. either_way o (struct_list (lists d g k) d n) (where_true (is_there n) (got (struct n no_members) x))) b ∙ ap (λ c. where_true c (got (struct n no_members) x)) t })

pub struct_nothing : (d g : ℕ) (ts x : List Token) (n : Option Named) → tag ts ≡ Some (n, x) → after marks.LeftBrace x ≡ None → is_there n ≡ false → Finds (structure d g) ts None
struct_nothing d g ts x n e b t =
    by_tag (λ k. struct_tag (lists d g k) d) ts x n None e (record { from = 0; holds = λ k h. ap (λ o. either_way o (struct_list (lists d g k) d n) (where_true (is_there n) (got (struct n no_members) x))) b ∙ ap (λ c. where_true c (got (struct n no_members) x)) t })

to_list : (d g : ℕ) (ts x y : List Token) (n : Option Named) (z : Got SpecShape) → tag ts ≡ Some (n, x) → after marks.LeftBrace x ≡ Some y → Finds (λ k l. struct_list (lists d g k) d n l) y z → Finds (structure d g) ts z
to_list d g ts x y n z e b p =
    by_tag (λ k. struct_tag (lists d g k) d) ts x n z e (record { from = p.from; holds = λ k h. ap (λ o. either_way o (struct_list (lists d g k) d n) (where_true (is_there n) (got (struct n no_members) x))) b ∙ p.holds k h })

abbrev listed_fields : ℕ → ℕ → ℕ → Option Named → List Token → Got SpecShape
listed_fields d g k n l = where_true (is_spec (spec_head l)) (then_go (closed marks.RightBrace (fields d g) k l) (struct_made n))

with_fields : (d g : ℕ) (ts x y : List Token) (n : Option Named) (z : Got DeclShapes) → tag ts ≡ Some (n, x) → after marks.LeftBrace x ≡ Some y → d < 400 → is_spec (spec_head y) ≡ true → Finds (closed marks.RightBrace (fields d g)) y z → Finds (structure d g) ts (then_go z (struct_made n))
with_fields d g ts x y n z e b low f p =
    to_list d g ts x y n (then_go z (struct_made n)) e b (record {
      from = p.from;
      holds = λ k h. low_go d 400 (listed_fields d g k n y) low ∙ ap (λ c. where_true c (then_go (closed marks.RightBrace (fields d g) k y) (struct_made n))) f ∙ ap (λ q. then_go q (struct_made n)) (p.holds k h);
    })

pub struct_found : (d g : ℕ) (ts x y z w : List Token) (n : Option Named) (ds : DeclShapes) → tag ts ≡ Some (n, x) → after marks.LeftBrace x ≡ Some y → d < 400 → is_spec (spec_head y) ≡ true → Finds (fields d g) y (Some (ds, z)) → after marks.RightBrace z ≡ Some w → Finds (structure d g) ts (Some (struct n (members ds), w))
struct_found d g ts x y z w n ds e b low f p c = with_fields d g ts x y n (got ds w) e b low f (closed_found marks.RightBrace (fields d g) y ds z w p c)

pub struct_open : (d g : ℕ) (ts x y z : List Token) (n : Option Named) (ds : DeclShapes) → tag ts ≡ Some (n, x) → after marks.LeftBrace x ≡ Some y → d < 400 → is_spec (spec_head y) ≡ true → Finds (fields d g) y (Some (ds, z)) → after marks.RightBrace z ≡ None → Finds (structure d g) ts None
struct_open d g ts x y z n ds e b low f p c = with_fields d g ts x y n None e b low f (closed_open marks.RightBrace (fields d g) y ds z p c)

pub enum_plain : (d g : ℕ) (ts x : List Token) (n : Option Named) → tag ts ≡ Some (n, x) → after marks.LeftBrace x ≡ None → is_there n ≡ true → Finds (enumeration d g) ts (Some (enum n no_rows, x))
enum_plain d g ts x n e b t =
    by_tag (λ k. enum_tag (lists d g k)) ts x n (got (enum n no_rows) x) e (record { from = 0; holds = λ k h. ap (λ o. either_way o (enum_list (lists d g k) n) (where_true (is_there n) (got (enum n no_rows) x))) b ∙ ap (λ c. where_true c (got (enum n no_rows) x)) t })

pub enum_nothing : (d g : ℕ) (ts x : List Token) (n : Option Named) → tag ts ≡ Some (n, x) → after marks.LeftBrace x ≡ None → is_there n ≡ false → Finds (enumeration d g) ts None
enum_nothing d g ts x n e b t =
    by_tag (λ k. enum_tag (lists d g k)) ts x n None e (record { from = 0; holds = λ k h. ap (λ o. either_way o (enum_list (lists d g k) n) (where_true (is_there n) (got (enum n no_rows) x))) b ∙ ap (λ c. where_true c (got (enum n no_rows) x)) t })

with_rows : (d g : ℕ) (ts x y : List Token) (n : Option Named) (z : Got EnumerShapes) → tag ts ≡ Some (n, x) → after marks.LeftBrace x ≡ Some y → Finds (closed marks.RightBrace (enumerators d g)) y z → Finds (enumeration d g) ts (then_go z (enum_made n))
with_rows d g ts x y n z e b p =
    by_tag (λ k. enum_tag (lists d g k)) ts x n (then_go z (enum_made n)) e (record { from = p.from; holds = λ k h. ap (λ o. either_way o (enum_list (lists d g k) n) (where_true (is_there n) (got (enum n no_rows) x))) b ∙ ap (λ q. then_go q (enum_made n)) (p.holds k h) })

pub enum_found : (d g : ℕ) (ts x y z w : List Token) (n : Option Named) (es : EnumerShapes) → tag ts ≡ Some (n, x) → after marks.LeftBrace x ≡ Some y → Finds (enumerators d g) y (Some (es, z)) → after marks.RightBrace z ≡ Some w → Finds (enumeration d g) ts (Some (enum n (rows es), w))
enum_found d g ts x y z w n es e b p c = with_rows d g ts x y n (got es w) e b (closed_found marks.RightBrace (enumerators d g) y es z w p c)

pub enum_open : (d g : ℕ) (ts x y z : List Token) (n : Option Named) (es : EnumerShapes) → tag ts ≡ Some (n, x) → after marks.LeftBrace x ≡ Some y → Finds (enumerators d g) y (Some (es, z)) → after marks.RightBrace z ≡ None → Finds (enumeration d g) ts None
enum_open d g ts x y z n es e b p c = with_rows d g ts x y n None e b (closed_open marks.RightBrace (enumerators d g) y es z p c)

pub value_none : (d g : ℕ) (ts : List Token) → after marks.Equal ts ≡ None → Finds (value d g) ts (Some (no_node, ts))
value_none d g ts e = record { from = 0; holds = λ k h. ap (λ o. either_way o (λ r. then_go (reads 2 d g k r) one_got) (got no_node ts)) e }

pub value_some : (d g : ℕ) (a : NodeShape) (ts r x : List Token) → after marks.Equal ts ≡ Some r → Finds (reads 2 d g) r (Some (a, x)) → Finds (value d g) ts (Some (one_node a, x))
value_some d g a ts r x e p = record { from = p.from; holds = λ k h. ap (λ o. either_way o (λ r. then_go (reads 2 d g k r) one_got) (got no_node ts)) e ∙ ap (λ f. then_go f one_got) (p.holds k h) }

pub value_fails : (d g : ℕ) (ts r : List Token) → after marks.Equal ts ≡ Some r → Finds (reads 2 d g) r None → Finds (value d g) ts None
value_fails d g ts r e p = record { from = p.from; holds = λ k h. ap (λ o. either_way o (λ r. then_go (reads 2 d g k r) one_got) (got no_node ts)) e ∙ ap (λ f. then_go f one_got) (p.holds k h) }

abbrev value_then : ℕ → ℕ → ℕ → Pos → Text → List Token → Got EnumerShapes
value_then d g k p x l = enumer_value (λ r. reads 2 d g k r) (λ r. reads_enumers d g k r) p x l

pub enumer_on : (d g : ℕ) (ts r y : List Token) (x : Text) (v : MaybeNode) (z : Got EnumerShapes) → a_word ts ≡ Some (x, r) → Finds (value d g) r (Some (v, y)) → Finds (reads_enumers d g) y z → Finds (enumerators d g) ts (then_go z (enumer_onto (plain_name (place ts) x) v))
enumer_on d g ts r y x v z e p q = record {
  from = p.from + q.from;
  holds = λ k h.
      ap (λ f. then_go f (value_then d g k (place ts))) e
      ∙ ap (λ f. then_go f (enumer_more (λ r. reads_enumers d g k r) (plain_name (place ts) x))) (p.holds k (omega (arith, h)))
      ∙ ap (λ f. then_go f (enumer_onto (plain_name (place ts) x) v)) (q.holds k (omega (arith, h)));
}

pub enumer_nameless : (d g : ℕ) (ts : List Token) → a_word ts ≡ None → Finds (enumerators d g) ts None
enumer_nameless d g ts e = record { from = 0; holds = λ k h. ap (λ f. then_go f (value_then d g k (place ts))) e }

pub enumer_fails : (d g : ℕ) (ts r : List Token) (x : Text) → a_word ts ≡ Some (x, r) → Finds (value d g) r None → Finds (enumerators d g) ts None
enumer_fails d g ts r x e p = record { from = p.from; holds = λ k h. ap (λ f. then_go f (value_then d g k (place ts))) e ∙ ap (λ f. then_go f (enumer_more (λ r. reads_enumers d g k r) (plain_name (place ts) x))) (p.holds k h) }

pub enumers_end : (d g : ℕ) (ts : List Token) → after marks.Comma ts ≡ None → Finds (reads_enumers d g) ts (Some (no_enumers, ts))
enumers_end d g ts e = find_from (reads_enumers d g) ts (got no_enumers ts) 0 (λ j h. ap (λ o. either_way o (enumerators d g j) (got no_enumers ts)) e)

pub enumers_on : (d g : ℕ) (ts r : List Token) (z : Got EnumerShapes) → after marks.Comma ts ≡ Some r → Finds (enumerators d g) r z → Finds (reads_enumers d g) ts z
enumers_on d g ts r z e p = find_from (reads_enumers d g) ts z p.from (λ j h. ap (λ o. either_way o (enumerators d g j) (got no_enumers ts)) e ∙ p.holds j h)

-- NAMES

pub tag_some : (ts r : List Token) (x : Text) → a_word ts ≡ Some (x, r) → tag ts ≡ Some (Some (plain_name (place ts) x), r)
tag_some ts r x e = ap (tag_from (place ts) ts) e

pub tag_none : (ts : List Token) → a_word ts ≡ None → tag ts ≡ Some (None, ts)
tag_none ts e = ap (tag_from (place ts) ts) e

abbrev in_probe : List Token → List Token → Got (Option Named)
in_probe ts r = then_go (numbered r) (named_number (place ts))

pub named_plain : (ts : List Token) (z : Got (Option Named)) → after_probe words.Def ts ≡ None → tag ts ≡ z → maybe_named ts ≡ z
named_plain ts z e t = ap (λ o. either_way o (in_probe ts) (tag ts)) e ∙ t

pub named_probe : (ts r x y z w : List Token) (n v : Text) → after_probe words.Def ts ≡ Some r → numbered r ≡ Some (n, x) → after marks.Comma x ≡ Some y → a_word y ≡ Some (v, z) → after marks.RightParen z ≡ Some w → maybe_named ts ≡ Some (probed_name (place ts) n (place y) v, w)
named_probe ts r x y z w n v e m c a b =
    ap (λ o. either_way o (in_probe ts) (tag ts)) e
    ∙ ap (λ f. then_go f (named_number (place ts))) m
    ∙ ap (λ o. go_after o (named_word (place ts) n)) c
    ∙ ap (λ f. then_go f (named_in (place ts) n (place y))) a
    ∙ ap (wanted (probed_name (place ts) n (place y) v)) b

pub named_unnumbered : (ts r : List Token) → after_probe words.Def ts ≡ Some r → numbered r ≡ None → maybe_named ts ≡ None
named_unnumbered ts r e m = ap (λ o. either_way o (in_probe ts) (tag ts)) e ∙ ap (λ f. then_go f (named_number (place ts))) m

pub named_alone : (ts r x : List Token) (n : Text) → after_probe words.Def ts ≡ Some r → numbered r ≡ Some (n, x) → after marks.Comma x ≡ None → maybe_named ts ≡ None
named_alone ts r x n e m c = ap (λ o. either_way o (in_probe ts) (tag ts)) e ∙ ap (λ f. then_go f (named_number (place ts))) m ∙ ap (λ o. go_after o (named_word (place ts) n)) c

pub named_nameless : (ts r x y : List Token) (n : Text) → after_probe words.Def ts ≡ Some r → numbered r ≡ Some (n, x) → after marks.Comma x ≡ Some y → a_word y ≡ None → maybe_named ts ≡ None
named_nameless ts r x y n e m c a =
    ap (λ o. either_way o (in_probe ts) (tag ts)) e ∙ ap (λ f. then_go f (named_number (place ts))) m ∙ ap (λ o. go_after o (named_word (place ts) n)) c ∙ ap (λ f. then_go f (named_in (place ts) n (place y))) a

pub named_open : (ts r x y z : List Token) (n v : Text) → after_probe words.Def ts ≡ Some r → numbered r ≡ Some (n, x) → after marks.Comma x ≡ Some y → a_word y ≡ Some (v, z) → after marks.RightParen z ≡ None → maybe_named ts ≡ None
named_open ts r x y z n v e m c a b =
    ap (λ o. either_way o (in_probe ts) (tag ts)) e
    ∙ ap (λ f. then_go f (named_number (place ts))) m
    ∙ ap (λ o. go_after o (named_word (place ts) n)) c
    ∙ ap (λ f. then_go f (named_in (place ts) n (place y))) a
    ∙ ap (wanted (probed_name (place ts) n (place y) v)) b
