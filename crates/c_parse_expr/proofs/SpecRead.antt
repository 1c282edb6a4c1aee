-- What the code of type names and specifiers reads, and how many levels it has: one step for each way that reading goes.
use Rattle.std.proofs.Common.{◌≡◌, ℕ, suc, ◌+◌, ◌≤◌, ◌<◌, List, [], ◌∷◌, ◌++◌, length, Option, Some, None, Bool, true, false, refl, sym, ap, ◌∙◌, subst, arith}
use Rattle.std.specs.Prelude.{max, nat_lt}
use Rattle.c_syntax.specs.declared.text.Text.{Text}
use Rattle.c_syntax.specs.declared.token.Key.{Key}
use Rattle.c_syntax.specs.declared.token.Mark.TheVariants as marks
use Rattle.c_syntax.specs.declared.token.Token.{Token}
use Rattle.c_syntax.specs.declared.tree.Star.{Star}
use Rattle.c_syntax.specs.declared.tree.Named.{Named}
use Rattle.c_syntax.specs.declared.tree.Node.{Node}
use Rattle.c_syntax.specs.declared.tree.Spec.{Spec}
use Rattle.c_syntax.specs.declared.tree.Enumer.{Enumer, out-Enumer}
use Rattle.c_syntax.specs.Forms.{place}
use Rattle.c_syntax.specs.Shape.{NodeShape, MaybeNode, no_node, one_node, LengthShapes, TypeShape, type_name, SpecShapes, SpecShape, word, struct, enum, no_members, members, no_rows, rows, EnumerShapes, DeclShapes}
use Rattle.c_syntax.specs.Shaped.{in_members, is_there}
use Rattle.c_syntax.specs.View.{node_shape, maybe_node, lengths_list, type_lengths_list, spec_shape, spec_list, enumer_list}
use Rattle.c_syntax.specs.Levels.{maybe_height, lengths_height, type_height, specs_height, spec_height, enumers_height, decls_height}
use Rattle.c_grammar.specs.declared.size.Size.{Size}
use Rattle.c_grammar.specs.declared.look.SpecStart.{SpecStart}
use Rattle.c_grammar.specs.declared.look.SpecStart.TheVariants as spec_starts
use Rattle.c_grammar.specs.CodeView.{spec_start_of}
use Rattle.c_grammar.specs.Look.{Got, got, then_go, either_way, where_true, Finds, expect, after, a_word}
use Rattle.c_grammar.specs.Starts.{no_spec, spec_head, is_spec}
use Rattle.c_grammar.specs.Reader.{lists, reads, reads_lengths, reads_specs, reads_some, reads_type, reads_decls, reads_enumers}
use Rattle.c_grammar.specs.ExprReader.{one_got, tag, plain_name, struct_made, struct_list, struct_tag, enum_made, enum_list, enum_tag, reads_stars}
use Rattle.c_grammar.specs.Parts.{closed, one_length, structure, enumeration, fields, enumerators, value}
use Rattle.c_grammar.specs.Found.{NodeFound, Found, spec_behind, braced_fields, EnumerFound}
use Rattle.c_grammar.proofs.Looking.{got_eq}
use Rattle.c_grammar.proofs.ExprSteps.{low_go, high_none, closed_found, closed_fails, closed_open}
use Rattle.c_grammar.proofs.TypeSteps.{length_none, length_there, length_fails, length_open, type_found, type_stars_fail, type_lengths_fail, some_found, struct_plain, enum_plain, value_none, value_some}
use Rattle.c_grammar.proofs.Leading.{leads_fail}
use Rattle.c_grammar.proofs.ListSteps.{LengthsFrom, TypeLengthsFrom, SpecsFrom, EnumersFrom, lengths_done, type_lengths_done, lengths_now, type_lengths_now, specs_more_word, specs_more_struct, specs_more_enum, specs_done, specs_struct_failed, specs_enum_failed, specs_now, enumers_start, enumers_comma, enumers_more, enumers_done, enumers_now}
use Rattle.c_grammar.proofs.CodeSteps.{lengths_next, type_lengths_next}

found_as : {A : Type 0} (f : ℕ → List Token → Got A) (levels_of : A → ℕ) (ts : List Token) (a c : A) (h : ℕ) (y : List Token) → c ≡ a → Finds f ts (got a y) → h ≡ levels_of a → Found f levels_of ts c h y
found_as f levels_of ts a c h y same p l = record { finds = subst (λ x. Finds f ts (got x y)) (sym same) p; levels = l ∙ ap levels_of (sym same) }

-- ARRAY LENGTHS

pub given_read : (d g : ℕ) (a : NodeShape) (s : Size) (ts x y : List Token) → after marks.RightBracket ts ≡ None → NodeFound (reads 2 (suc d) g) ts a s x → after marks.RightBracket x ≡ Some y → Found (one_length false d g) maybe_height ts (one_node a) s.levels y
given_read d g a s ts x y e f c = record { finds = length_there false d g a ts x y e f.finds c; levels = f.size.levels }

pub given_unread : (d g : ℕ) (ts : List Token) → after marks.RightBracket ts ≡ None → Finds (reads 2 (suc d) g) ts None → Finds (one_length false d g) ts None
given_unread d g ts e p = length_fails false d g ts e p

pub given_unclosed : (d g : ℕ) (a : NodeShape) (s : Size) (ts x : List Token) → after marks.RightBracket ts ≡ None → NodeFound (reads 2 (suc d) g) ts a s x → after marks.RightBracket x ≡ None → Finds (one_length false d g) ts None
given_unclosed d g a s ts x e f c = length_open false d g a ts x e f.finds c

abbrev a_length : Bool → ℕ → ℕ → ℕ → List Token → Option (List Token) → Got MaybeNode
a_length free d g k ts o = either_way o (λ r. where_true free (got no_node r)) (then_go (then_go (reads 2 (suc d) g k ts) one_got) (expect marks.RightBracket))

any_length : (free : Bool) (d g : ℕ) (ts : List Token) (z : Got MaybeNode) → after marks.RightBracket ts ≡ None → Finds (one_length false d g) ts z → Finds (one_length free d g) ts z
any_length free d g ts z e p = record { from = p.from; holds = λ k h. ap (a_length free d g k ts) e ∙ sym (ap (a_length false d g k ts) e) ∙ p.holds k h }

pub length_given : (free : Bool) (d g h : ℕ) (a : MaybeNode) (ts y : List Token) → after marks.RightBracket ts ≡ None → Found (one_length false d g) maybe_height ts a h y → Found (one_length free d g) maybe_height ts a h y
length_given free d g h a ts y e f = record { finds = any_length free d g ts (got a y) e f.finds; levels = f.levels }

pub length_ungiven : (free : Bool) (d g : ℕ) (ts : List Token) → after marks.RightBracket ts ≡ None → Finds (one_length false d g) ts None → Finds (one_length free d g) ts None
length_ungiven free d g ts e p = any_length free d g ts None e p

pub length_left_out : (free : Bool) (d g : ℕ) (ts r : List Token) → after marks.RightBracket ts ≡ Some r → free ≡ true → Found (one_length free d g) maybe_height ts no_node 0 r
length_left_out free d g ts r e f = record { finds = length_none free d g ts r e f; levels = refl }

pub lengths_further : (l' : List (Option Node)) (free : Bool) (d g k n : ℕ) (l : List (Option Node)) (a : Option Node) (ts rest r x : List Token) → LengthsFrom free d g l ts rest → n ≡ length l → after marks.LeftBracket rest ≡ Some r → n + d < 400 → Found (one_length free (n + d) g) maybe_height r (maybe_node a) k x → l' ≡ l ++ a ∷ [] → LengthsFrom free d g l' ts x
lengths_further l' free d g k n l a ts rest r x p c e low f same = lengths_next l' free d g n l a ts rest r x p c e low f.finds same

pub lengths_measured : (l' : List (Option Node)) (free : Bool) (d g h k n v : ℕ) (l : List (Option Node)) (a : Option Node) (r x : List Token) → Found (one_length free d g) maybe_height r (maybe_node a) k x → h ≡ lengths_height (lengths_list l) → n ≡ length l → l' ≡ l ++ a ∷ [] → v ≡ max h (n + 1 + k) → v ≡ lengths_height (lengths_list l')
lengths_measured l' free d g h k n v l a r x f m c same e = e ∙ lengths_now l' l a h k n m f.levels c same

pub lengths_read : (free : Bool) (d g h : ℕ) (l : List (Option Node)) (ts rest : List Token) → LengthsFrom free d g l ts rest → after marks.LeftBracket rest ≡ None → h ≡ lengths_height (lengths_list l) → Found (reads_lengths free d g) lengths_height ts (lengths_list l) h rest
lengths_read free d g h l ts rest p e m = record { finds = lengths_done free d g l ts rest p e; levels = m }

pub type_lengths_further : (l' : List Node) (d g k n : ℕ) (l : List Node) (a : Node) (ts rest r x : List Token) → TypeLengthsFrom d g l ts rest → n ≡ length l → after marks.LeftBracket rest ≡ Some r → n + d < 400 → Found (one_length false (n + d) g) maybe_height r (one_node (node_shape a)) k x → l' ≡ l ++ a ∷ [] → TypeLengthsFrom d g l' ts x
type_lengths_further l' d g k n l a ts rest r x p c e low f same = type_lengths_next l' d g n l a ts rest r x p c e low f.finds same

pub type_lengths_measured : (l' : List Node) (d g h k n v : ℕ) (l : List Node) (a : Node) (r x : List Token) → Found (one_length false d g) maybe_height r (one_node (node_shape a)) k x → h ≡ lengths_height (type_lengths_list l) → n ≡ length l → l' ≡ l ++ a ∷ [] → v ≡ max h (n + 1 + k) → v ≡ lengths_height (type_lengths_list l')
type_lengths_measured l' d g h k n v l a r x f m c same e = e ∙ type_lengths_now l' l a h k n m f.levels c same

pub type_lengths_read : (d g h : ℕ) (l : List Node) (ts rest : List Token) → TypeLengthsFrom d g l ts rest → after marks.LeftBracket rest ≡ None → h ≡ lengths_height (type_lengths_list l) → Found (reads_lengths false d g) lengths_height ts (type_lengths_list l) h rest
type_lengths_read d g h l ts rest p e m = record { finds = type_lengths_done d g l ts rest p e; levels = m }

-- TYPE NAMES

pub type_read : (d g h k n v : ℕ) (t : TypeShape) (specs : SpecShapes) (ss : List Star) (ls : LengthShapes) (ts x y z : List Token) → Found (reads_some d g) specs_height ts specs h x → Finds (reads_stars d) x (Some (ss, y)) → n ≡ length ss → Found (reads_lengths false (n + d) g) lengths_height y ls k z → t ≡ type_name (place ts) specs ss ls → v ≡ max h (n + k) → Found (reads_type d g) type_height ts t v z
type_read d g h k n v t specs ss ls ts x y z f p c q same m =
    found_as (reads_type d g) type_height ts (type_name (place ts) specs ss ls) t v z same (type_found d g ts x y z specs ss ls f.finds p (subst (λ n. Finds (reads_lengths false (n + d) g) y (got ls z)) c q.finds)) (rw (m, f.levels, q.levels, c))

pub type_starless : (d g h : ℕ) (specs : SpecShapes) (ts x : List Token) → Found (reads_some d g) specs_height ts specs h x → Finds (reads_stars d) x None → Finds (reads_type d g) ts None
type_starless d g h specs ts x f p = type_stars_fail d g ts x specs f.finds p

pub type_unended : (d g h n : ℕ) (specs : SpecShapes) (ss : List Star) (ts x y : List Token) → Found (reads_some d g) specs_height ts specs h x → Finds (reads_stars d) x (Some (ss, y)) → n ≡ length ss → Finds (reads_lengths false (n + d) g) y None → Finds (reads_type d g) ts None
type_unended d g h n specs ss ts x y f p c q = type_lengths_fail d g ts x y specs ss f.finds p (subst (λ n. Finds (reads_lengths false (n + d) g) y None) c q)

-- SPECIFIERS

pub some_read : (d g h : ℕ) (l : SpecShapes) (ts x : List Token) → is_spec (spec_head ts) ≡ true → Found (reads_specs d g) specs_height ts l h x → Found (reads_some d g) specs_height ts l h x
some_read d g h l ts x e f = record { finds = some_found d g ts (got l x) e f.finds; levels = f.levels }

pub some_unread : (d g : ℕ) (ts : List Token) → is_spec (spec_head ts) ≡ true → Finds (reads_specs d g) ts None → Finds (reads_some d g) ts None
some_unread d g ts e p = some_found d g ts None e p

word_gone : (d g : ℕ) (x : Key) (r y : List Token) (a : SpecShape) → Finds (spec_behind (spec_starts.Word x) d g) r (got a y) → (a ≡ word x) × (y ≡ r)
word_gone d g x r y a p =
    let e = got_eq (word x) a r y (p.holds p.from (omega arith)) in
    (sym e.0, sym e.1)

pub specs_further : (l' : List Spec) (b : SpecStart) (d g k : ℕ) (l : List Spec) (a : Spec) (ts rest r x : List Token) → SpecsFrom d g l ts rest → spec_head rest ≡ spec_start_of b r → Found (spec_behind b d g) spec_height r (spec_shape a.form) k x → a.pos ≡ place rest → l' ≡ l ++ a ∷ [] → SpecsFrom d g l' ts x
specs_further l' (spec_starts.Word w) d g k l a ts rest r x p e f at' same =
    let q = word_gone d g w r x (spec_shape a.form) f.finds in
    subst (λ x. SpecsFrom d g l' ts x) (sym q.1) (specs_more_word l' d g l a w ts rest r p e at' q.0 same)
specs_further l' spec_starts.Struct d g k l a ts rest r x p e f at' same = specs_more_struct l' d g l a ts rest r x p e at' f.finds same
specs_further l' spec_starts.Enum d g k l a ts rest r x p e f at' same = specs_more_enum l' d g l a ts rest r x p e at' f.finds same

pub specs_measured : (l' : List Spec) (b : SpecStart) (d g h k v : ℕ) (l : List Spec) (a : Spec) (r x : List Token) → Found (spec_behind b d g) spec_height r (spec_shape a.form) k x → h ≡ specs_height (spec_list l) → l' ≡ l ++ a ∷ [] → v ≡ max h k → v ≡ specs_height (spec_list l')
specs_measured l' b d g h k v l a r x f m same e = e ∙ specs_now l' l a h k m f.levels same

pub specs_read : (d g h : ℕ) (l : List Spec) (ts rest : List Token) → SpecsFrom d g l ts rest → spec_head rest ≡ no_spec → h ≡ specs_height (spec_list l) → Found (reads_specs d g) specs_height ts (spec_list l) h rest
specs_read d g h l ts rest p e m = record { finds = specs_done d g l ts rest p e; levels = m }

pub specs_unread : (b : SpecStart) (d g : ℕ) (l : List Spec) (ts rest r : List Token) → SpecsFrom d g l ts rest → spec_head rest ≡ spec_start_of b r → Finds (spec_behind b d g) r None → Finds (reads_specs d g) ts None
specs_unread (spec_starts.Word w) d g l ts rest r p e q = absurd (let h : got (word w) r ≡ None = q.holds q.from (omega arith) in cc)
specs_unread spec_starts.Struct d g l ts rest r p e q = specs_struct_failed d g l ts rest r p e q
specs_unread spec_starts.Enum d g l ts rest r p e q = specs_enum_failed d g l ts rest r p e q

pub word_read : (d g : ℕ) (x : Key) (ts : List Token) → Found (spec_behind (spec_starts.Word x) d g) spec_height ts (word x) 0 ts
word_read d g x ts = record { finds = record { from = 0; holds = λ k h. refl }; levels = refl }

-- STRUCTURES

pub bare_struct_read : (d g : ℕ) (c : SpecShape) (n : Option Named) (ts x : List Token) → tag ts ≡ Some (n, x) → after marks.LeftBrace x ≡ None → is_there n ≡ true → c ≡ struct n no_members → Found (structure d g) spec_height ts c 0 x
bare_struct_read d g c n ts x e b t same = found_as (structure d g) spec_height ts (struct n no_members) c 0 x same (struct_plain d g ts x n e b t) refl

pulled : {A B : Type 0} (b c : Bool) (q : Got A) (f : A → List Token → Got B) → where_true b (where_true c (then_go q f)) ≡ then_go (where_true b (where_true c q)) f
pulled true true q f = refl
pulled true false q f = refl
pulled false c q f = refl

struct_listed : (d g : ℕ) (n : Option Named) (ts x y : List Token) (z : Got DeclShapes) → tag ts ≡ Some (n, x) → after marks.LeftBrace x ≡ Some y → Finds (braced_fields d g) y z → Finds (structure d g) ts (then_go z (struct_made n))
struct_listed d g n ts x y z e b p = record {
  from = p.from;
  holds = λ k h.
      ap (λ q. then_go q (struct_tag (lists d g k) d)) e
      ∙ ap (λ o. either_way o (struct_list (lists d g k) d n) (where_true (is_there n) (got (struct n no_members) x))) b
      ∙ pulled (nat_lt d 400) (is_spec (spec_head y)) (closed marks.RightBrace (fields d g) k y) (struct_made n)
      ∙ ap (λ q. then_go q (struct_made n)) (p.holds k h);
}

pub struct_read : (d g h v : ℕ) (c : SpecShape) (n : Option Named) (ds : DeclShapes) (ts x y z : List Token) → tag ts ≡ Some (n, x) → after marks.LeftBrace x ≡ Some y → Found (braced_fields d g) decls_height y ds h z → c ≡ struct n (members ds) → v ≡ h + 1 → Found (structure d g) spec_height ts c v z
struct_read d g h v c n ds ts x y z e b f same m =
    found_as (structure d g) spec_height ts (struct n (members ds)) c v z same (struct_listed d g n ts x y (got ds z) e b f.finds) (omega (arith, m, f.levels))

pub struct_unread : (d g : ℕ) (n : Option Named) (ts x y : List Token) → tag ts ≡ Some (n, x) → after marks.LeftBrace x ≡ Some y → Finds (braced_fields d g) y None → Finds (structure d g) ts None
struct_unread d g n ts x y e b p = struct_listed d g n ts x y None e b p

field_list : (d g : ℕ) (ts : List Token) (z : Got DeclShapes) → d < 400 → is_spec (spec_head ts) ≡ true → Finds (closed marks.RightBrace (fields d g)) ts z → Finds (braced_fields d g) ts z
field_list d g ts z low e p = record {
  from = p.from;
  holds = λ k h.
      low_go d 400 (where_true (is_spec (spec_head ts)) (closed marks.RightBrace (fields d g) k ts)) low ∙ ap (λ b. where_true b (closed marks.RightBrace (fields d g) k ts)) e ∙ p.holds k h;
}

pub fields_read : (d g h : ℕ) (ds : DeclShapes) (ts x y : List Token) → d < 400 → is_spec (spec_head ts) ≡ true → Found (reads_decls in_members (suc d) g) decls_height ts ds h x → after marks.RightBrace x ≡ Some y → Found (braced_fields d g) decls_height ts ds h y
fields_read d g h ds ts x y low e f c = record { finds = field_list d g ts (got ds y) low e (closed_found marks.RightBrace (fields d g) ts ds x y f.finds c); levels = f.levels }

pub fields_deep : (d g : ℕ) (ts : List Token) → 400 ≤ d → Finds (braced_fields d g) ts None
fields_deep d g ts high = record { from = 0; holds = λ k h. high_none d 400 (where_true (is_spec (spec_head ts)) (closed marks.RightBrace (fields d g) k ts)) high }

pub fields_bare : (d g : ℕ) (ts : List Token) → d < 400 → is_spec (spec_head ts) ≡ false → Finds (braced_fields d g) ts None
fields_bare d g ts low e = record { from = 0; holds = λ k h. low_go d 400 (where_true (is_spec (spec_head ts)) (closed marks.RightBrace (fields d g) k ts)) low ∙ ap (λ b. where_true b (closed marks.RightBrace (fields d g) k ts)) e }

pub fields_unread : (d g : ℕ) (ts : List Token) → d < 400 → is_spec (spec_head ts) ≡ true → Finds (reads_decls in_members (suc d) g) ts None → Finds (braced_fields d g) ts None
fields_unread d g ts low e p = field_list d g ts None low e (closed_fails marks.RightBrace (fields d g) ts p)

pub fields_unclosed : (d g h : ℕ) (ds : DeclShapes) (ts x : List Token) → d < 400 → is_spec (spec_head ts) ≡ true → Found (reads_decls in_members (suc d) g) decls_height ts ds h x → after marks.RightBrace x ≡ None → Finds (braced_fields d g) ts None
fields_unclosed d g h ds ts x low e f c = field_list d g ts None low e (closed_open marks.RightBrace (fields d g) ts ds x f.finds c)

-- ENUMERATIONS

pub bare_enum_read : (d g : ℕ) (c : SpecShape) (n : Option Named) (ts x : List Token) → tag ts ≡ Some (n, x) → after marks.LeftBrace x ≡ None → is_there n ≡ true → c ≡ enum n no_rows → Found (enumeration d g) spec_height ts c 0 x
bare_enum_read d g c n ts x e b t same = found_as (enumeration d g) spec_height ts (enum n no_rows) c 0 x same (enum_plain d g ts x n e b t) refl

enum_listed : (d g : ℕ) (n : Option Named) (ts x y : List Token) (z : Got EnumerShapes) → tag ts ≡ Some (n, x) → after marks.LeftBrace x ≡ Some y → Finds (closed marks.RightBrace (enumerators d g)) y z → Finds (enumeration d g) ts (then_go z (enum_made n))
enum_listed d g n ts x y z e b p = record {
  from = p.from;
  holds = λ k h.
      ap (λ q. then_go q (enum_tag (lists d g k))) e ∙ ap (λ o. either_way o (enum_list (lists d g k) n) (where_true (is_there n) (got (enum n no_rows) x))) b ∙ ap (λ q. then_go q (enum_made n)) (p.holds k h);
}

pub enum_read : (d g h : ℕ) (c : SpecShape) (n : Option Named) (es : EnumerShapes) (ts x y z : List Token) → tag ts ≡ Some (n, x) → after marks.LeftBrace x ≡ Some y → Found (closed marks.RightBrace (enumerators d g)) enumers_height y es h z → c ≡ enum n (rows es) → Found (enumeration d g) spec_height ts c h z
enum_read d g h c n es ts x y z e b f same = found_as (enumeration d g) spec_height ts (enum n (rows es)) c h z same (enum_listed d g n ts x y (got es z) e b f.finds) f.levels

pub enum_unread : (d g : ℕ) (n : Option Named) (ts x y : List Token) → tag ts ≡ Some (n, x) → after marks.LeftBrace x ≡ Some y → Finds (closed marks.RightBrace (enumerators d g)) y None → Finds (enumeration d g) ts None
enum_unread d g n ts x y e b p = enum_listed d g n ts x y None e b p

pub rows_read : (d g h : ℕ) (es : EnumerShapes) (ts x y : List Token) → Found (enumerators d g) enumers_height ts es h x → after marks.RightBrace x ≡ Some y → Found (closed marks.RightBrace (enumerators d g)) enumers_height ts es h y
rows_read d g h es ts x y f c = record { finds = closed_found marks.RightBrace (enumerators d g) ts es x y f.finds c; levels = f.levels }

pub rows_unread : (d g : ℕ) (ts : List Token) → Finds (enumerators d g) ts None → Finds (closed marks.RightBrace (enumerators d g)) ts None
rows_unread d g ts p = closed_fails marks.RightBrace (enumerators d g) ts p

pub rows_unclosed : (d g h : ℕ) (es : EnumerShapes) (ts x : List Token) → Found (enumerators d g) enumers_height ts es h x → after marks.RightBrace x ≡ None → Finds (closed marks.RightBrace (enumerators d g)) ts None
rows_unclosed d g h es ts x f c = closed_open marks.RightBrace (enumerators d g) ts es x f.finds c

pub value_left_out : (d g : ℕ) (ts : List Token) → after marks.Equal ts ≡ None → Found (value d g) maybe_height ts no_node 0 ts
value_left_out d g ts e = record { finds = value_none d g ts e; levels = refl }

pub value_read : (d g : ℕ) (a : NodeShape) (s : Size) (ts r x : List Token) → after marks.Equal ts ≡ Some r → NodeFound (reads 2 d g) r a s x → Found (value d g) maybe_height ts (one_node a) s.levels x
value_read d g a s ts r x e f = record { finds = value_some d g a ts r x e f.finds; levels = f.size.levels }

pub enumer_read : (d g h : ℕ) (c : Enumer) (v : Option Node) (w : Text) (ts r x : List Token) → a_word ts ≡ Some (w, r) → Found (value d g) maybe_height r (maybe_node v) h x → (out-Enumer c).name ≡ plain_name (place ts) w → (out-Enumer c).value ≡ v → EnumerFound d g ts c h x
enumer_read d g h c v w ts r x e f named same = record {
  word = w;
  behind = r;
  found = e;
  named = named;
  finds = subst (λ v. Finds (value d g) r (got (maybe_node v) x)) (sym same) f.finds;
  levels = f.levels ∙ ap (λ v. maybe_height (maybe_node v)) (sym same);
}

pub enumers_first : (l' l : List Enumer) (d g h : ℕ) (a : Enumer) (ts x : List Token) → EnumerFound d g ts a h x → l ≡ [] → l' ≡ l ++ a ∷ [] → EnumersFrom d g (reads_enumers d g) l' ts x
enumers_first l' l d g h a ts x f e same = enumers_more l' d g [] a f.word ts ts f.behind x (enumers_start d g ts) f.found f.finds f.named (same ∙ ap (λ l. l ++ a ∷ []) e)

pub enumers_first_measured : (l' l : List Enumer) (d g h : ℕ) (a : Enumer) (ts x : List Token) → EnumerFound d g ts a h x → l ≡ [] → l' ≡ l ++ a ∷ [] → h ≡ enumers_height (enumer_list l')
enumers_first_measured l' l d g h a ts x f e same =
    let n : max 0 h ≡ enumers_height (enumer_list l') = enumers_now l' [] a 0 h refl f.levels (same ∙ ap (λ l. l ++ a ∷ []) e) in
    omega (arith, n)

pub enumers_further : (l' : List Enumer) (d g k : ℕ) (l : List Enumer) (a : Enumer) (ts rest r x : List Token) → EnumersFrom d g (reads_enumers d g) l ts rest → after marks.Comma rest ≡ Some r → EnumerFound d g r a k x → l' ≡ l ++ a ∷ [] → EnumersFrom d g (reads_enumers d g) l' ts x
enumers_further l' d g k l a ts rest r x p e f same = enumers_more l' d g l a f.word ts r f.behind x (enumers_comma d g l ts rest r p e) f.found f.finds f.named same

pub enumers_measured : (l' : List Enumer) (d g h k v : ℕ) (l : List Enumer) (a : Enumer) (r x : List Token) → EnumerFound d g r a k x → h ≡ enumers_height (enumer_list l) → l' ≡ l ++ a ∷ [] → v ≡ max h k → v ≡ enumers_height (enumer_list l')
enumers_measured l' d g h k v l a r x f m same e = e ∙ enumers_now l' l a h k m f.levels same

pub enumers_read : (d g h : ℕ) (l : List Enumer) (ts rest : List Token) → EnumersFrom d g (reads_enumers d g) l ts rest → after marks.Comma rest ≡ None → h ≡ enumers_height (enumer_list l) → Found (enumerators d g) enumers_height ts (enumer_list l) h rest
enumers_read d g h l ts rest p e m = record { finds = enumers_done d g l ts rest p e; levels = m }

enumers_end_there : (d g : ℕ) (l : List Enumer) (ts r : List Token) → EnumersFrom d g (enumerators d g) l ts r → Finds (enumerators d g) r None → Finds (enumerators d g) ts None
enumers_end_there d g l ts r p q = leads_fail _ (enumerators d g) (enumerators d g) l ts r p q

pub enumers_unread : (d g : ℕ) (l : List Enumer) (ts rest r : List Token) → EnumersFrom d g (reads_enumers d g) l ts rest → after marks.Comma rest ≡ Some r → Finds (enumerators d g) r None → Finds (enumerators d g) ts None
enumers_unread d g l ts rest r p e q = enumers_end_there d g l ts r (enumers_comma d g l ts rest r p e) q
