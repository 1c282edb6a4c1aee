-- The parts of expressions and types, where nothing is complained of: each name stands for something, each part that has a type has it, and names
-- are known as before.
use Rattle.std.proofs.Common.{◌≡◌, ℕ, ℤ, ◌≤◌, ◌++◌, ◌⊎◌, inl, inr, List, [], ◌∷◌, length, Bool, true, false, Option, Some, None, refl, sym, ap, ◌∙◌, subst, arith}
use Rattle.std.specs.Prelude.{not, ◌&&◌, ◌||◌, nat_eq, if◌then◌else◌, option_map}
use Rattle.c_base.specs.declared.place.Pos.{Pos}
use Rattle.c_base.specs.declared.place.IntKind.TheVariants.{Int}
use Rattle.c_arith.specs.Arith.{in_range}
use Rattle.c_syntax.specs.declared.text.Text.{Text}
use Rattle.c_syntax.specs.declared.token.Key.{Key}
use Rattle.c_syntax.specs.declared.token.Key.TheVariants as key
use Rattle.c_syntax.specs.declared.tree.Named.{Named}
use Rattle.c_syntax.specs.declared.tree.Star.{Star}
use Rattle.c_syntax.specs.Shape.{TypeOf, pointer, array, Probing}
use Rattle.c_syntax.specs.Shaped.{is_there}
use Rattle.c_type_rules.specs.Verdicts.{fits_type}
use Rattle.c_constants.specs.Constants as constants
use Rattle.c_constants.specs.Probes.{probe_number_of}
use Rattle.c_constants.specs.declared.words.Count.TheVariants.{Zero, One}
use Rattle.c_constants.specs.declared.words.Words.{Words}
use Rattle.c_constants.specs.declared.words.Base.{Base}
use Rattle.c_constants.specs.declared.words.Base.TheVariants as base
use Rattle.c_constants.specs.Words as words
use Rattle.c_scopes.specs.Scoping.{named, find_here, find}
use Rattle.c_tables.specs.Tables.{FunctionShape, VariableShape, FieldShape}
use Rattle.c_tables.specs.Builtins.{builtin_name, builtin_result, builtin_params}
use Rattle.c_tree.specs.declared.meaning.Entity.{Entity}
use Rattle.c_tree.specs.declared.meaning.Entity.TheVariants as entity
use Rattle.c_tree.specs.declared.meaning.Tag.{Tag}
use Rattle.c_tree.specs.declared.meaning.Tag.TheVariants as tag
use Rattle.c_tree.specs.State.{State, complain, demand, counts, is_set, is_clean}
use Rattle.c_tables.specs.Rows.{row}
use Rattle.c_tree.specs.Rulings.{by, rule, of_kind, allowed_if, whole}
use Rattle.c_tree.specs.Sorts.{Sort}
use Rattle.c_tree.specs.Operators.{named_variable, named_parameter, named_entity, called_entity, Given, fit_all, call_of, typed_call, seen_of, claimed, claim}
use Rattle.c_tree.specs.Parts.{Length, counted, left_out, unclear, is_count, length_of, length_rule, pointed, arrays_of, Spelled, with_word, with_tagged, base_rule, spelled_rule, Opened, twice, known_structure, listed_structure, opened, begun_at, closed, structure_kind, kind_if, field_state, entity_of, declared_at, listed_enumeration, known_enumeration, enumeration, in_int, only_int, passes, after, value_rule}
use Rattle.probe_laws.proofs.Settled.{IsThere, IsClean, Settled, mended}
use Rattle.probe_laws.proofs.Known.{IsRow, IsSure, MaybeSure, Knows, Goes, declared_holds, row_there, stays, ◌▹◌, rule_goes, demand_goes, mention_goes}

-- ---- names

variable_knows : {b : Bool} (p : Pos) (n : ℕ) (v : Option VariableShape) (s : State) → Knows b s → IsClean (named_variable p n v s).state → IsThere (named_variable p n v s).typing.sort.kind × Goes b s (named_variable p n v s).state
variable_knows p n None s h c = absurd (mended 30 s.at p s c)
variable_knows p n (Some v) s h c = (tt, stays s h)

parameter_knows : {b : Bool} (p : Pos) (k : Option TypeOf) (s : State) → Knows b s → IsClean (named_parameter p k s).state → IsThere (named_parameter p k s).typing.sort.kind × Goes b s (named_parameter p k s).state
parameter_knows p None s h c = absurd (mended 30 s.at p s c)
parameter_knows p (Some t) s h c = (tt, stays s h)

pub entity_knows : (b : Bool) (p : Pos) (e : Option Entity) (s : State) → MaybeSure b (length s.tables.functions) e → Knows b s → IsClean (named_entity p e s).state
    → IsThere (named_entity p e s).typing.sort.kind × Goes b s (named_entity p e s).state
entity_knows b p (Some (entity.Variable n)) s is h c = variable_knows p n (row s.tables.variables n) s h c
entity_knows b p (Some (entity.Parameter n)) s is h c = parameter_knows p (row s.params n) s h c
entity_knows b p (Some (entity.Constant v)) s is h c = (tt, stays s h)
entity_knows b p (Some entity.Unknown) s is h c = absurd is
entity_knows b p (Some (entity.Function n)) s is h c = absurd (mended 30 s.at p s c)
entity_knows b p (Some (entity.Builtin x)) s is h c = absurd (mended 30 s.at p s c)
entity_knows b p None s is h c = absurd (mended 30 s.at p s c)

-- ---- calls

abbrev pub IsCalled : Option ℕ → ℕ → Type 0
IsCalled None n = ⊥
IsCalled (Some k) n = IsRow k n

pub called_after : (f : Option ℕ) (n m : ℕ) → n ≤ m → IsCalled f n → IsCalled f m
called_after None n m le h = h
called_after (Some k) n m le h = let above = h.1 in (h.0, omega (arith, le, above))

pub called_knows : (b : Bool) (p : Pos) (e : Option Entity) (s : State) → MaybeSure b (length s.tables.functions) e → Knows b s → IsClean (called_entity p e s).state
    → Goes b s (called_entity p e s).state × IsCalled (called_entity p e s).function (length (called_entity p e s).state.tables.functions)
called_knows b p (Some (entity.Function n)) s is h c =
    let g = demand_goes (counts s.known n) 40 s.at p s h in
    (g, called_after (Some n) (length s.tables.functions) (length (demand (counts s.known n) 40 s.at p s).tables.functions) g.1 is)
called_knows b p (Some (entity.Builtin x)) s is h c = mention_goes b (builtin_name x) (builtin_result x) (builtin_params x) s h
called_knows b p (Some entity.Unknown) s is h c = absurd is
called_knows b p (Some (entity.Variable n)) s is h c = absurd (mended 30 s.at p s c)
called_knows b p (Some (entity.Parameter n)) s is h c = absurd (mended 30 s.at p s c)
called_knows b p (Some (entity.Constant v)) s is h c = absurd (mended 30 s.at p s c)
called_knows b p None s is h c = absurd (mended 30 s.at p s c)

fit_goes : {b : Bool} (ts : List TypeOf) (gs : List Given) (s : State) → Knows b s → Goes b s (fit_all ts gs s)
fit_goes [] gs s h = stays s h
fit_goes (t ∷ ts) [] s h = stays s h
fit_goes (t ∷ ts) (g ∷ gs) s h = let r = by 33 (fits_type (Some t) g.kind g.null) in let first = rule_goes r g.token g.pos s h in first ▹ fit_goes ts gs (rule r g.token g.pos s) first.0

pick_goes : {b : Bool} (x : Bool) (s t u : State) → Goes b s t → Goes b s u → Goes b s (if x then t else u)
pick_goes true s t u p q = p
pick_goes false s t u p q = q

call_row : {b : Bool} (p : Pos) (token : ℕ) (clean : Bool) (n : ℕ) (f : Option FunctionShape) (gs : List Given) (s : State) → IsThere f → Knows b s → IsThere (call_of p token clean n f gs s).typing.sort.kind × Goes b s (call_of p token clean n f gs s).state
call_row p token clean n None gs s is h = absurd is
call_row p token clean n (Some f) gs s is h = (tt, pick_goes (clean && not (nat_eq (length f.params) (length gs))) s (complain 34 token p s) (fit_all f.params gs s) (stays s h) (fit_goes f.params gs s h))

pub call_knows : {b : Bool} (p : Pos) (token : ℕ) (clean : Bool) (f : Option ℕ) (gs : List Given) (s : State) → IsCalled f (length s.tables.functions) → Knows b s
    → IsThere (typed_call p token clean f gs s).typing.sort.kind × Goes b s (typed_call p token clean f gs s).state
call_knows p token clean None gs s is h = absurd is
call_knows p token clean (Some n) gs s is h = call_row p token clean n (row s.tables.functions n) gs s (row_there s.tables.functions n is) h

-- ---- strings and probes

pub literal_goes : {b : Bool} (q : Bool) (x : Text) (s : State) → Knows b s → Goes b s (if q then s else record s { tables = record s.tables { literals = s.tables.literals ++ x ∷ [] } })
literal_goes true x s h = stays s h
literal_goes false x s h = stays s h

claimed_goes : {b : Bool} (u : Probing) (x : Text) (token : ℕ) (p : Pos) (n m : Option ℕ) (s : State) → Knows b s → Goes b s (claimed u x token p n m s)
claimed_goes u x token p (Some n) None s h = stays s h
claimed_goes u x token p (Some n) (Some m) s h = stays s h
claimed_goes u x token p None m s h = stays s h

pub claim_goes : {b : Bool} (u : Probing) (x : Text) (token : ℕ) (p : Pos) (s : State) → Knows b s → Goes b s (claim u x token p s)
claim_goes u x token p s h = claimed_goes u x token p (probe_number_of x) (named x (seen_of u s.seen)) s h

-- ---- lengths

-- where lengths may be left out, or not
abbrev pub IsClear : Bool → Length → Type 0
IsClear free (counted n) = Unit {0}
IsClear free left_out = free ≡ true
IsClear free unclear = ⊥

abbrev pub AreClear : Bool → List Length → Type 0
AreClear free [] = Unit {0}
AreClear free (l ∷ ls) = IsClear free l × AreClear free ls

pub clear_then : (free : Bool) (ls : List Length) (l : Length) → AreClear free ls → IsClear free l → AreClear free (ls ++ l ∷ [])
clear_then free [] l h g = (g, tt)
clear_then free (k ∷ ls) l h g = (h.0, clear_then free ls l h.1 g)

count_clear : (free : Bool) (k : Option TypeOf) (l : Length) (token : ℕ) (p : Pos) (s : State) → IsThere k → IsClean (rule (of_kind k (allowed_if (is_count l) 35)) token p s) → IsClear free l
count_clear free None l token p s is c = absurd is
count_clear free (Some t) (counted n) token p s is c = tt
count_clear free (Some t) left_out token p s is c = absurd (mended 35 token p s c)
count_clear free (Some t) unclear token p s is c = absurd (mended 35 token p s c)

pub length_clear : (free : Bool) (a : Sort) (token : ℕ) (p : Pos) (s : State) → IsThere a.kind → IsClean (rule (length_rule a) token p s) → IsClear free (length_of a)
length_clear free a token p s is c = count_clear free a.kind (length_of a) token p s is c

pub map_there : {A B : Type 0} (f : A → B) (o : Option A) → IsThere o → IsThere (option_map f o)
map_there f None h = h
map_there f (Some x) h = tt

pub arrays_there : (ls : List Length) (k : Option TypeOf) → AreClear false ls → IsThere k → IsThere (arrays_of ls k)
arrays_there [] k h g = g
arrays_there (counted n ∷ ls) k h g = map_there (λ t. array t n) (arrays_of ls k) (arrays_there ls k h.1 g)
arrays_there (left_out ∷ ls) k h g = let e = h.0 in cc
arrays_there (unclear ∷ ls) k h g = absurd h.0

pub pointed_there : (stars : List Star) (k : Option TypeOf) → IsThere k → IsThere (pointed stars k)
pointed_there [] k h = h
pointed_there (x ∷ xs) k h = pointed_there xs (option_map pointer k) (map_there pointer k h)

-- ---- specifiers

-- the structure or enumeration that was counted has a type
abbrev pub IsTagged : Spelled → Type 0
IsTagged a = (a.words.tagged ≡ Zero) ⊎ (IsThere a.tagged)

word_tagged : (w : Words) (k : Key) → (words.added w k).tagged ≡ w.tagged
word_tagged w key.Void = refl
word_tagged w key.Char = refl
word_tagged w key.Short = refl
word_tagged w key.Int = refl
word_tagged w key.Long = refl
word_tagged w key.Signed = refl
word_tagged w key.Unsigned = refl
word_tagged w k = refl

either_tagged : (a : Spelled) (k : Key) → IsTagged a → IsTagged (with_word k a)
either_tagged a k (inl e) = inl (word_tagged a.words k ∙ e)
either_tagged a k (inr h) = inr h

pub word_goes : (a : Spelled) (k : Key) → IsTagged a → IsTagged (with_word k a)
word_goes a k h = either_tagged a k h

pub tag_goes : (a : Spelled) (k : Option TypeOf) → IsThere k → IsTagged (with_tagged k a)
tag_goes a k h = inr h

abbrev IsWord : Base → Type 0
IsWord base.Tagged = ⊥
IsWord base.Void = Unit {0}
IsWord (base.Int i) = Unit {0}
IsWord base.Wrong = Unit {0}

abbrev AreWords : List (List Key × Base) → Type 0
AreWords [] = Unit {0}
AreWords (row ∷ rows) = IsWord row.1 × AreWords rows

either_word : (b : Bool) (x y : Base) → IsWord x → IsWord y → IsWord (if b then x else y)
either_word true x y h g = h
either_word false x y h g = g

found_word : (rows : List (List Key × Base)) (w : Words) → AreWords rows → IsWord (words.found rows w)
found_word [] w h = tt
found_word (row ∷ rows) w h = either_word (words.same_words w (words.all_added words.none row.0)) row.1 (words.found rows w) h.0 (found_word rows w h.1)

all_words : AreWords words.types
all_words = (tt, (tt, (tt, (tt, (tt, (tt, (tt, (tt, (tt, (tt, (tt, (tt, (tt, (tt, (tt, (tt, (tt, (tt, (tt, (tt, (tt, tt)))))))))))))))))))))

word_settled : (x : Base) (k : Option TypeOf) → IsWord x → Settled (base_rule x k)
word_settled base.Void k h = tt
word_settled (base.Int i) k h = tt
word_settled base.Tagged k h = absurd h
word_settled base.Wrong k h = tt

there_settled : (x : Base) (k : Option TypeOf) → IsThere k → Settled (base_rule x k)
there_settled base.Void k h = tt
there_settled (base.Int i) k h = tt
there_settled base.Tagged None h = h
there_settled base.Tagged (Some t) h = tt
there_settled base.Wrong k h = tt

none_too : (a b : Bool) → b ≡ false → (a && b) ≡ false
none_too true b e = e
none_too false b e = refl

-- words without a structure or enumeration aren't those of one
untagged : (w : Words) → w.tagged ≡ Zero → words.same_words w (words.tagged words.none) ≡ false
untagged w e =
    let last : words.same_count w.tagged One ≡ false = ap (λ t. words.same_count t One) e in
    none_too (words.same_count w.void Zero) _ (none_too (words.same_count w.char Zero) _ (none_too (words.same_count w.short Zero) _ (none_too (words.same_count w.int Zero) _
    (none_too (words.same_count w.long Zero) _ (none_too (words.same_count w.signed Zero) _ (none_too (words.same_count w.unsigned Zero) (words.same_count w.tagged One) last))))))

word_base : (w : Words) → w.tagged ≡ Zero → IsWord (words.base_of w)
word_base w e = subst (λ b. IsWord (if b then base.Tagged else words.found words.types w)) (sym (untagged w e)) (found_word words.types w all_words)

either_settled : (a : Spelled) → IsTagged a → Settled (spelled_rule a)
either_settled a (inl e) = word_settled (words.base_of a.words) a.tagged (word_base a.words e)
either_settled a (inr h) = there_settled (words.base_of a.words) a.tagged h

pub spelled_settled : (a : Spelled) → IsTagged a → Settled (spelled_rule a)
spelled_settled a h = either_settled a h

-- ---- structures

abbrev pub Opens : Bool → State → Opened → Type 0
Opens b s o = IsThere o.number × Goes b s o.state

known_opens : {b : Bool} (p : Pos) (x : Text) (t : Option Tag) (s : State) → Knows b s → IsClean (known_structure p x t s).state → Opens b s (known_structure p x t s)
known_opens p x None s h c = (tt, stays s h)
known_opens p x (Some (tag.Structure n)) s h c = (tt, stays s h)
known_opens p x (Some tag.Enumeration) s h c = absurd (mended 31 s.at p s c)

either_opens : {b : Bool} (x : Bool) (s : State) (o q : Opened) → (IsClean o.state → ⊥) → Opens b s q → IsClean (if x then o else q).state → Opens b s (if x then o else q)
either_opens true s o q n h c = absurd (n c)
either_opens false s o q n h c = h

listed_opens : {b : Bool} (p : Pos) (x : Text) (t : Option Tag) (s : State) → Knows b s → IsClean (listed_structure p x t s).state → Opens b s (listed_structure p x t s)
listed_opens p x None s h c = (tt, stays s h)
listed_opens p x (Some (tag.Structure n)) s h c = either_opens (is_set (row s.begun n)) s (twice p s) (record { number = Some n; state = s }) (mended 31 s.at p s) (tt, stays s h) c
listed_opens p x (Some tag.Enumeration) s h c = absurd (mended 31 s.at p s c)

pub opened_goes : {b : Bool} (alone list : Bool) (x : Option Named) (s : State) → (is_there x || list) ≡ true → Knows b s → IsClean (opened alone list x s).state → Opens b s (opened alone list x s)
opened_goes alone true None s is h c = (tt, stays s h)
opened_goes alone true (Some x) s is h c = listed_opens x.pos x.text (find_here x.text s.tags) s h c
opened_goes alone false None s is h c = cc
opened_goes alone false (Some x) s is h c = known_opens x.pos x.text (if alone then find_here x.text s.tags else find x.text s.tags) s h c

pub begun_goes : {b : Bool} (n : Option ℕ) (s : State) → Knows b s → Goes b s (begun_at n s)
begun_goes None s h = stays s h
begun_goes (Some n) s h = stays s h

pub closed_goes : {b : Bool} (n : Option ℕ) (fields : List FieldShape) (s : State) → Knows b s → Goes b s (closed n fields s)
closed_goes None fields s h = stays s h
closed_goes (Some n) fields s h = stays s h

pub number_there : (n : Option ℕ) → IsThere n → IsThere (structure_kind n)
number_there None h = h
number_there (Some n) h = tt

clean_at : (n m : ℕ) → n ≡ 0 → m ≡ 0 → nat_eq n m ≡ true
clean_at n m e f = rw (e, f) refl

-- between two states without complaint none came
pub is_still_clean : (s t : State) → IsClean s → IsClean t → is_clean s t ≡ true
is_still_clean s t c d = clean_at (length s.complaints) (length t.complaints) c d

pub kept_if : (b : Bool) (k : Option TypeOf) → b ≡ true → IsThere k → IsThere (kind_if b k)
kept_if true k e h = h
kept_if false k e h = cc

pub field_goes : {b : Bool} (token : ℕ) (p : Pos) (free : Bool) (k : Option TypeOf) (s : State) → Knows b s → Goes b s (field_state token p free k s)
field_goes token p free k s h = let first = demand_goes free 31 token p s h in first ▹ rule_goes (of_kind k (whole s.rooms)) token p (demand free 31 token p s) first.0

-- ---- enumerations

pub declared_goes : {b : Bool} (token : ℕ) (p : Pos) (x : Text) (e : Entity) (o : Option Entity) (s : State) → IsSure b (length s.tables.functions) e → Knows b s → Goes b s (declared_at token p x e o s)
declared_goes {b} token p x e None s is h = (declared_holds b (length s.tables.functions) x e s.names is h, omega arith)
declared_goes token p x e (Some other) s is h = stays s h

pub entity_sure : (b : Bool) (n : ℕ) (v : Option ℤ) → IsThere v → IsSure b n (entity_of v)
entity_sure b n None h = absurd h
entity_sure b n (Some v) h = tt

listed_goes : {b : Bool} (p : Pos) (x : Text) (t : Option Tag) (s : State) → Knows b s → Goes b s (listed_enumeration p x t s)
listed_goes p x None s h = stays s h
listed_goes p x (Some t) s h = stays s h

known_goes : {b : Bool} (p : Pos) (t : Option Tag) (s : State) → Knows b s → Goes b s (known_enumeration p t s)
known_goes p (Some tag.Enumeration) s h = stays s h
known_goes p (Some (tag.Structure n)) s h = stays s h
known_goes p None s h = stays s h

pub enumeration_goes : {b : Bool} (list : Bool) (x : Option Named) (s : State) → Knows b s → Goes b s (enumeration list x s)
enumeration_goes true None s h = stays s h
enumeration_goes false None s h = stays s h
enumeration_goes true (Some x) s h = listed_goes x.pos x.text (find_here x.text s.tags) s h
enumeration_goes false (Some x) s h = known_goes x.pos (find x.text s.tags) s h

-- ---- the values of enumerators

in_int_there : (b : Bool) (v : Option ℤ) → b ≡ true → IsThere v → IsThere (if b then v else None)
in_int_there true v e h = h
in_int_there false v e h = cc

value_in : (v : Option ℤ) → in_int v ≡ true → IsThere (only_int v)
value_in None e = cc
value_in (Some v) e = in_int_there (in_range Int v) (Some v) e tt

demanded : (b : Bool) (n token : ℕ) (p : Pos) (s : State) → IsClean (demand b n token p s) → b ≡ true
demanded true n token p s c = refl
demanded false n token p s c = absurd (mended n token p s c)

not_passed : (b : Bool) → not (not b) ≡ true → b ≡ true
not_passed true e = refl
not_passed false e = cc

pub next_there : (token : ℕ) (p : Pos) (v : Option ℤ) (s : State) → IsThere v → IsClean (demand (not (passes v)) 35 token p s) → IsThere (only_int v)
next_there token p None s h c = h
next_there token p (Some v) s h c = value_in (Some v) (not_passed (in_range Int v) (demanded (not (passes (Some v))) 35 token p s c))

given_at : (k : Option TypeOf) (v : Option ℤ) (token : ℕ) (p : Pos) (s : State) → IsThere k → IsClean (rule (of_kind k (allowed_if (in_int v) 35)) token p s) → IsThere (only_int v)
given_at None v token p s is c = absurd is
given_at (Some t) v token p s is c = by (in_int v) refl c
  where
    by : (b : Bool) → in_int v ≡ b → IsClean (rule (allowed_if b 35 t) token p s) → IsThere (only_int v)
    by true e c = value_in v e
    by false e c = absurd (mended 35 token p s c)

pub given_there : (a : Sort) (token : ℕ) (p : Pos) (s : State) → IsThere a.kind → IsClean (rule (value_rule a) token p s) → IsThere (only_int (constants.value a.constant))
given_there a token p s is c = given_at a.kind (constants.value a.constant) token p s is c

pub after_there : (v : Option ℤ) → IsThere v → IsThere (after v)
after_there None h = h
after_there (Some v) h = tt
