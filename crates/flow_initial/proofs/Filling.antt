-- Types that declarations spell: each array among them has an element.
use Rattle.std.proofs.Common.{ℕ, zero, suc, ◌+◌, ◌-◌, ◌^◌, ◌≤◌, ℤ, min, List, [], ◌∷◌, ◌++◌, length, Option, Some, None, Bool, true, false, arith}
use Rattle.std.specs.Prelude.{pos, negsuc, int_le, option_map, if◌then◌else◌}
use Rattle.std.specs.List.{AllByRecursion}
use Rattle.c_base.specs.declared.place.Pos.{Pos}
use Rattle.c_base.specs.declared.place.IntKind.TheVariants.{Int}
use Rattle.c_syntax.specs.declared.text.Text.{Text}
use Rattle.c_syntax.specs.declared.tree.Named.{Named}
use Rattle.c_syntax.specs.declared.tree.Star.{Star}
use Rattle.c_syntax.specs.Shape.{TypeOf, int, pointer, array, structure, nothing, str, node, ExprShape, leaf, no_node, one_node, LengthShapes, no_lengths, more_lengths, SpecShapes, no_specs, more_specs, word, struct, enum, MaybeDecls, no_members, members, MaybeEnumers, no_rows, rows, decl, DeclShapes, no_decls, more_decls, declarator, DeclaratorShapes, no_declarators, more_declarators, arrays, function, MaybeInit, no_init, one_init, InitShape, one, listed, no_inits, more_inits}
use Rattle.c_syntax.specs.Shaped.{ShapedInit, ShapedInitOf}
use Rattle.c_type_rules.specs.Kinds.{decay, is_scalar}
use Rattle.c_type_rules.specs.Layouts.{Measure, known, incomplete, too_large, measure}
use Rattle.c_type_rules.specs.Verdicts.{fine_if}
use Rattle.c_constants.specs.Constants as constants
use Rattle.c_constants.specs.declared.words.Base.{Base}
use Rattle.c_constants.specs.declared.words.Base.TheVariants as base
use Rattle.c_constants.specs.Words as words
use Rattle.c_tables.specs.Tables.{FieldShape}
use Rattle.c_tables.specs.Rows.{text_of, name_pos}
use Rattle.c_tree.specs.State.{State, step, steps, demand, complain, field_type}
use Rattle.c_tree.specs.Rulings.{Ruled, allowed, unsettled, refused, by, by_room, kind_at, rule, of_kind}
use Rattle.c_tree.specs.Sorts.{pos_in}
use Rattle.c_tree.specs.Parts.{Length, counted, left_out, unclear, count_of, length_of, judged_length, array_of, arrays_of, pointed, star_tokens, Spelled, unspelled, with_word, with_tagged, base_rule, spelled_rule, static_fits, structure_kind, kind_if, opened, is_free, with_field, field_state}
use Rattle.c_tree.specs.Typing.{type_node, type_lengths, type_specs, type_struct, type_lines, type_fields, type_enum}
use Rattle.c_tree.specs.Initialisers.{count_items, length_in_form, length_in, lengths_with}
use Rattle.c_tree.specs.Declaring.{any_unclear, any_left_out, with_lengths, room_rule, variable_rule, scalar_rule, element_lengths, parameter_rule}
use Rattle.flow_initial.specs.Lengths.{IsFilled}

-- the type, if there is one
abbrev pub Filled : Option TypeOf → Type 0
Filled None = Unit {0}
Filled (Some t) = IsFilled t

abbrev pub AreFields : List FieldShape → Type 0
AreFields fields = AllByRecursion (λ (f : FieldShape). IsFilled f.kind) fields

pub all_and_one : {X : Type 0} (P : X → Type 0) (xs : List X) (x : X) → AllByRecursion P xs → P x → AllByRecursion P (xs ++ x ∷ [])
all_and_one P [] x h g = (g, tt)
all_and_one P (y ∷ xs) x h g = (h.0, all_and_one P xs x h.1 g)

-- ---- lengths

abbrev pub IsCounted : Length → Type 0
IsCounted (counted n) = 1 ≤ n
IsCounted left_out = Unit {0}
IsCounted unclear = Unit {0}

abbrev pub AreCounted : List Length → Type 0
AreCounted ls = AllByRecursion IsCounted ls

if_counted : (b : Bool) (n : ℕ) → 1 ≤ n → IsCounted (if b then counted n else unclear)
if_counted true n h = h
if_counted false n h = tt

kept_counted : (n : ℕ) → 1 ≤ n → 1 ≤ min n (2 ^ 32 - 1)
kept_counted n h = omega (arith, h)

count_counted : (v : Option ℤ) → IsCounted (count_of v)
count_counted None = tt
count_counted (Some (pos zero)) = tt
count_counted (Some (pos (suc n))) = if_counted (int_le (pos 1) (pos (suc n))) (min (suc n) (2 ^ 32 - 1)) (kept_counted (suc n) (omega arith))
count_counted (Some (negsuc n)) = tt

pub lengths_counted : (ls : List Length) (l : LengthShapes) (s : State) → AreCounted ls → AreCounted (type_lengths ls l s).counts
lengths_counted ls no_lengths s h = h
lengths_counted ls (more_lengths no_node rest) s h = lengths_counted (ls ++ left_out ∷ []) rest (steps 2 s) (all_and_one IsCounted ls left_out h tt)
lengths_counted ls (more_lengths (one_node a) rest) s h =
    let t = type_node a (step s) in
    lengths_counted (ls ++ length_of t.sort ∷ []) rest (step (judged_length (step s).at (pos_in a) t.sort t.state)) (all_and_one IsCounted ls (length_of t.sort) h (count_counted (constants.value t.sort.constant)))

form_counted : (f : ExprShape) → IsCounted (length_in_form f)
form_counted (leaf (str t)) = kept_counted (length t + 1) (omega arith)
form_counted f = tt

init_counted : (i : InitShape) → ShapedInit i → IsCounted (length_in i)
init_counted (one (node p o n f)) h = form_counted f
init_counted (listed p no_inits last) h = absurd h
init_counted (listed p (more_inits i rest) last) h = kept_counted (1 + count_items rest) (omega arith)

pub with_counted : (may : Bool) (i : MaybeInit) (ls : List Length) → ShapedInitOf may i → AreCounted ls → AreCounted (lengths_with i ls)
with_counted may no_init ls g h = h
with_counted may (one_init i) [] g h = h
with_counted may (one_init i) (counted n ∷ ls) g h = h
with_counted may (one_init i) (left_out ∷ ls) g h = (init_counted i g.1, h.1)
with_counted may (one_init i) (unclear ∷ ls) g h = h

-- ---- types

one_array : (l : Length) (k : Option TypeOf) → IsCounted l → Filled k → Filled (array_of l k)
one_array (counted n) None h g = tt
one_array (counted n) (Some t) h g = (h, g)
one_array left_out k h g = tt
one_array unclear k h g = tt

pub arrays_filled : (ls : List Length) (k : Option TypeOf) → AreCounted ls → Filled k → Filled (arrays_of ls k)
arrays_filled [] k h g = g
arrays_filled (l ∷ ls) k h g = one_array l (arrays_of ls k) h.0 (arrays_filled ls k h.1 g)

one_pointer : (k : Option TypeOf) → Filled (option_map pointer k)
one_pointer None = tt
one_pointer (Some t) = tt

pub pointed_filled : (stars : List Star) (k : Option TypeOf) → Filled k → Filled (pointed stars k)
pointed_filled [] k h = h
pointed_filled (x ∷ xs) k h = pointed_filled xs (option_map pointer k) (one_pointer k)

-- ---- specifiers

structure_filled : (n : Option ℕ) → Filled (structure_kind n)
structure_filled None = tt
structure_filled (Some n) = tt

if_filled : (b : Bool) (k : Option TypeOf) → Filled k → Filled (kind_if b k)
if_filled true k h = h
if_filled false k h = tt

struct_filled : (alone : Bool) (t : Option Named) (ds : MaybeDecls) (s : State) → Filled (type_struct alone t ds s).kind
struct_filled alone t no_members s = structure_filled (opened alone false t s).number
struct_filled alone t (members ds) s = if_filled _ (structure_kind (opened alone true t s).number) (structure_filled (opened alone true t s).number)

enum_filled : (t : Option Named) (es : MaybeEnumers) (s : State) → Filled (type_enum t es s).kind
enum_filled t no_rows s = if_filled _ (Some (int Int)) tt
enum_filled t (rows es) s = if_filled _ (Some (int Int)) tt

tags_filled : (alone : Bool) (x : SpecShapes) (a : Spelled) (s : State) → Filled a.tagged → Filled (type_specs alone x a s).spelled.tagged
tags_filled alone no_specs a s h = h
tags_filled alone (more_specs p (word k) rest) a s h = tags_filled alone rest (with_word k a) (step (demand (static_fits k s.file) 37 s.at p s)) h
tags_filled alone (more_specs p (struct t ds) rest) a s h = let r = type_struct alone t ds (step s) in tags_filled alone rest (with_tagged r.kind a) r.state (struct_filled alone t ds (step s))
tags_filled alone (more_specs p (enum t es) rest) a s h = let r = type_enum t es (step s) in tags_filled alone rest (with_tagged r.kind a) r.state (enum_filled t es (step s))

tagged_filled : (k : Option TypeOf) → Filled k → Filled (kind_at (of_kind k allowed))
tagged_filled None h = tt
tagged_filled (Some t) h = h

base_filled : (b : Base) (k : Option TypeOf) → Filled k → Filled (kind_at (base_rule b k))
base_filled base.Void k h = tt
base_filled (base.Int i) k h = tt
base_filled base.Tagged k h = tagged_filled k h
base_filled base.Wrong k h = tt

-- what specifiers spell
pub specs_filled : (alone : Bool) (x : SpecShapes) (s : State) → Filled (kind_at (spelled_rule (type_specs alone x unspelled s).spelled))
specs_filled alone x s = let a = (type_specs alone x unspelled s).spelled in base_filled (words.base_of a.words) a.tagged (tags_filled alone x unspelled s tt)

-- ---- fields

one_field : (free : Bool) (x : Text) (k : Option TypeOf) (fields : List FieldShape) → Filled k → AreFields fields → AreFields (with_field free x k fields)
one_field true x (Some t) fields g h = all_and_one _ fields (record { name = x; kind = t }) h g
one_field true x None fields g h = h
one_field false x k fields g h = h

fields_filled : (p : Pos) (k : Option TypeOf) (names : DeclaratorShapes) (fields : List FieldShape) (s : State) → Filled k → AreFields fields → AreFields (type_fields p k names fields s).fields
fields_filled p k no_declarators fields s g h = h
fields_filled p k (more_declarators (declarator stars x (arrays ls) i) rest) fields s g h =
    let b = steps (star_tokens stars) s in
    let l = type_lengths [] ls (step b) in
    let t = arrays_of l.counts (pointed stars k) in
    let free = is_free (field_type (text_of x) fields) in
    fields_filled p k rest (with_field free (text_of x) t fields) (step (field_state b.at (name_pos p x) free t l.state)) g
    (one_field free (text_of x) t fields (arrays_filled l.counts (pointed stars k) (lengths_counted [] ls (step b) tt) (pointed_filled stars k g)) h)
fields_filled p k (more_declarators (declarator stars x (function ps) i) rest) fields s g h =
    let b = steps (star_tokens stars) s in
    fields_filled p k rest fields (complain 33 b.at (name_pos p x) (step b)) g h

pub lines_filled : (ds : DeclShapes) (fields : List FieldShape) (s : State) → AreFields fields → AreFields (type_lines ds fields s).fields
lines_filled no_decls fields s h = h
lines_filled (more_decls (decl p specs names) rest) fields s h =
    let t = type_specs false specs unspelled s in
    let r = spelled_rule t.spelled in
    let v = rule r s.at p t.state in
    let n = type_fields p (kind_at r) names fields v in
    lines_filled rest n.fields n.state (fields_filled p (kind_at r) names fields v (specs_filled false specs s) h)

-- ---- variables and parameters

lengths_filled : (x y : Bool) (k : Option TypeOf) → Filled k → Filled (kind_at (if x then unsettled else if y then refused 39 else of_kind k allowed))
lengths_filled true y k h = tt
lengths_filled false true k h = tt
lengths_filled false false k h = tagged_filled k h

with_filled : (ls : List Length) (k : Option TypeOf) → AreCounted ls → Filled k → Filled (kind_at (of_kind k (with_lengths ls)))
with_filled ls None h g = tt
with_filled ls (Some t) h g = lengths_filled (any_unclear ls) (any_left_out ls) (arrays_of ls (Some t)) (arrays_filled ls (Some t) h g)

by_filled : (m : Measure) (t : TypeOf) → IsFilled t → Filled (kind_at (by_room m t))
by_filled (known e) t h = h
by_filled incomplete t h = tt
by_filled too_large t h = tt

room_filled : (rooms : List Measure) (r : Ruled) → Filled (kind_at r) → Filled (kind_at (room_rule rooms r))
room_filled rooms (allowed t) h = by_filled (measure rooms t) t h
room_filled rooms unsettled h = tt
room_filled rooms (refused n) h = tt

-- the type of a variable
pub variable_filled : (rooms : List Measure) (ls : List Length) (k : Option TypeOf) → AreCounted ls → Filled k → Filled (kind_at (variable_rule rooms ls k))
variable_filled rooms ls k h g = room_filled rooms (of_kind k (with_lengths ls)) (with_filled ls k h g)

decay_filled : (t : TypeOf) → IsFilled (decay t)
decay_filled (int k) = tt
decay_filled (pointer t) = tt
decay_filled (array t n) = tt
decay_filled (structure n) = tt
decay_filled nothing = tt

fine_filled : (b : Bool) (t : TypeOf) → IsFilled t → Filled (kind_at (by 33 (fine_if b t)))
fine_filled true t h = h
fine_filled false t h = tt

scalar_filled : (r : Ruled) → Filled (kind_at (scalar_rule r))
scalar_filled (allowed t) = fine_filled (is_scalar (decay t)) (decay t) (decay_filled t)
scalar_filled unsettled = tt
scalar_filled (refused n) = tt

-- that of a parameter
pub parameter_filled : (rooms : List Measure) (ls : List Length) (k : Option TypeOf) → Filled (kind_at (parameter_rule rooms ls k))
parameter_filled rooms ls k = scalar_filled (of_kind k (element_lengths rooms ls))
