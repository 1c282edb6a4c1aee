-- The fields of a member list have different plain names: one is added where its name is new.
use Rattle.std.proofs.Common.{◌≡◌, List, [], ◌∷◌, ◌++◌, Option, Some, None, Bool, true, false, refl, sym}
use Rattle.std.specs.Prelude.{bytes_eq, if◌then◌else◌}
use Rattle.std.specs.List.{AllByRecursion}
use Rattle.std.proofs.lemmas.Slice.Eq.{bytes_eq-Decides}
use Rattle.c_base.specs.declared.place.Pos.{Pos}
use Rattle.c_syntax.specs.declared.text.Text.{Text}
use Rattle.c_syntax.specs.Grammar.{led_declarators_form, decls_form}
use Rattle.c_syntax.specs.Shape.{TypeOf, decl, DeclShapes, no_decls, more_decls, declarator, DeclaratorShapes, no_declarators, more_declarators, arrays, function}
use Rattle.c_tables.specs.Tables.{FieldShape}
use Rattle.c_tables.specs.Rows.{text_of, name_pos}
use Rattle.c_tree.specs.State.{State, step, steps, complain, field_type}
use Rattle.c_tree.specs.Rulings.{kind_at, rule}
use Rattle.c_tree.specs.Parts.{unspelled, spelled_rule, star_tokens, arrays_of, pointed, is_free, with_field, field_state}
use Rattle.c_tree.specs.Typing.{type_specs, type_lengths, type_lines, type_fields}
use Rattle.flow_owned.specs.Fields.{is_plain, AreApart}
use Rattle.flow_owned.proofs.Words.{HasPlainWords, name_plain, led_declarators}

-- the first field of a list has another name, and so have the others, where none is found
not_first : (x y : Text) (k : TypeOf) (o : Option TypeOf) (b : Bool) → bytes_eq x y ≡ b → is_free (if b then Some k else o) ≡ true → (y ≡ x → ⊥) × (is_free o ≡ true)
not_first x y k o true e h = absurd (none_free h)
  where
    none_free : false ≡ true → ⊥
    none_free f = cc
not_first x y k o false e h = (λ same. other e ((bytes_eq-Decides x y).1 (sym same)), h)
  where
    other : bytes_eq x y ≡ false → bytes_eq x y ≡ true → ⊥
    other f t = cc

-- a field of a new name behind the others
more_apart : (x : Text) (k : TypeOf) (fields : List FieldShape) → is_free (field_type x fields) ≡ true → is_plain x ≡ true → AreApart fields → AreApart (fields ++ record { name = x; kind = k } ∷ [])
more_apart x k [] free p h = (p, tt, tt)
more_apart x k (f ∷ fs) free p h =
    let n = not_first x f.name f.kind (field_type x fs) (bytes_eq x f.name) refl free in
    (h.0, more f.name fs h.1 n.0, more_apart x k fs n.1 p h.2)
  where
    more : (y : Text) (gs : List FieldShape) → AllByRecursion (λ (g : FieldShape). y ≡ g.name → ⊥) gs → (y ≡ x → ⊥) → AllByRecursion (λ (g : FieldShape). y ≡ g.name → ⊥) (gs ++ record { name = x; kind = k } ∷ [])
    more y [] all n = (n, tt)
    more y (g ∷ gs) all n = (all.0, more y gs all.1 n)

field_apart : (free : Bool) (x : Text) (k : Option TypeOf) (fields : List FieldShape) → is_free (field_type x fields) ≡ free → is_plain x ≡ true → AreApart fields → AreApart (with_field free x k fields)
field_apart true x (Some t) fields e p h = more_apart x t fields e p h
field_apart true x None fields e p h = h
field_apart false x k fields e p h = h

fields_apart : (p : Pos) (k : Option TypeOf) (names : DeclaratorShapes) (fields : List FieldShape) (s : State) → HasPlainWords (led_declarators_form names) → AreApart fields → AreApart (type_fields p k names fields s).fields
fields_apart p k no_declarators fields s w h = h
fields_apart p k (more_declarators (declarator stars x (arrays ls) i) rest) fields s w h =
    let b = steps (star_tokens stars) s in
    let l = type_lengths [] ls (step b) in
    let t = arrays_of l.counts (pointed stars k) in
    let free = is_free (field_type (text_of x) fields) in
    fields_apart p k rest (with_field free (text_of x) t fields) (step (field_state b.at (name_pos p x) free t l.state)) w.1.1 (field_apart free (text_of x) t fields refl (name_plain x w.1.0.1.0) h)
fields_apart p k (more_declarators (declarator stars x (function ps) i) rest) fields s w h =
    let b = steps (star_tokens stars) s in
    fields_apart p k rest fields (complain 33 b.at (name_pos p x) (step b)) w.1.1 h

pub lines_apart : (ds : DeclShapes) (fields : List FieldShape) (s : State) → HasPlainWords (decls_form ds) → AreApart fields → AreApart (type_lines ds fields s).fields
lines_apart no_decls fields s w h = h
lines_apart (more_decls (decl p specs names) rest) fields s w h =
    let t = type_specs false specs unspelled s in
    let r = spelled_rule t.spelled in
    let n = type_fields p (kind_at r) names fields (rule r s.at p t.state) in
    lines_apart rest n.fields n.state w.1 (fields_apart p (kind_at r) names fields (rule r s.at p t.state) (led_declarators names w.0.1.0) h)
