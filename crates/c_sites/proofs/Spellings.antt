-- Leaf names of a site in turn.
use Rattle.std.proofs.Common.{◌≡◌, ℕ, ◌+◌, ◌-◌, ◌<◌, ◌++◌, List, [], ◌∷◌, map, length, take, get_or, add-one, refl, sym, ap, ◌∙◌, subst, append-nil}
use Rattle.std.proofs.Math.Seq.{take-suc}
use Rattle.std.proofs.lemmas.List.{map-append}
use Rattle.c_syntax.specs.declared.text.Text.{Text}
use Rattle.c_syntax.specs.Shape.{TypeOf}
use Rattle.c_tables.specs.declared.tables.FieldRow.{FieldRow}
use Rattle.c_tables.specs.Tables.{StructShape, FieldShape, field_shape}
use Rattle.c_walk.specs.Places.{field_text}
use Rattle.c_sites.specs.declared.naming.Spelling.{Spelling}
use Rattle.c_sites.specs.Names.{LeafName, leaf_name, field_leaves, leaves}
use Rattle.c_sites.specs.Elements.{element, elements_text, element_leaves}
use Rattle.c_sites.specs.Numbers.{with_name}
use Rattle.c_sites.specs.Spelled.{IsNumber, AreNamed}
use Rattle.c_sites.specs.SpellingView.{IsNamed}
use Rattle.c_sites.proofs.Elements.{leaves_deep, fields_more, elements_taken}
use Rattle.c_sites.proofs.Numbering.{named_none, named_one, named_both}

pub spelled_none : (ns : List LeafName) (s : Spelling) → IsNamed ns ns s s []
spelled_none ns s = record { variable = refl; text = refl; named = named_none ns s.numbers }

pub spelled_one : (n m : List LeafName) (s t : Spelling) (k : ℕ) → m ≡ with_name n (leaf_name s.variable s.text.items) → IsNumber m (leaf_name s.variable s.text.items) k
    → t ≡ record s { numbers = s.numbers ++ k ∷ [] } → IsNamed n m s t (s.text.items ∷ [])
spelled_one n m s t k e h r = record {
  variable = ap (λ t. t.variable) r;
  text = ap (λ t. t.text.items) r;
  named = named_one n m (leaf_name s.variable s.text.items) k s.numbers t.numbers e h (ap (λ t. t.numbers) r);
}

pub spelled_both : (n m o : List LeafName) (s t u : Spelling) (xs ys : List Text) → IsNamed n m s t xs → IsNamed m o t u ys → IsNamed n o s u (xs ++ ys)
spelled_both n m o s t u xs ys first second =
    let behind : AreNamed m o (map (leaf_name s.variable) ys) t.numbers u.numbers = subst (λ v. AreNamed m o (map (leaf_name v) ys) t.numbers u.numbers) first.variable second.named in
    let both = named_both n m o (map (leaf_name s.variable) xs) (map (leaf_name s.variable) ys) s.numbers t.numbers u.numbers first.named behind in
    record {
      variable = second.variable ∙ first.variable;
      text = second.text ∙ first.text;
      named = subst (λ l. AreNamed n o l s.numbers u.numbers) (sym (map-append (leaf_name s.variable) xs ys)) both;
    }

-- of a part: its text stands behind that of the whole, and is taken away afterwards
pub spelled_part : (n m : List LeafName) (s p q t : Spelling) (xs : List Text) → p.variable ≡ s.variable → p.numbers ≡ s.numbers → IsNamed n m p q xs
    → t.variable ≡ q.variable → t.numbers ≡ q.numbers → t.text.items ≡ s.text.items → IsNamed n m s t xs
spelled_part n m s p q t xs v k h w j e = record {
  variable = w ∙ h.variable ∙ v;
  text = e;
  named =
      let a = subst (λ v. AreNamed n m (map (leaf_name v) xs) p.numbers q.numbers) v h.named in
      let b = subst (λ a. AreNamed n m (map (leaf_name s.variable) xs) a q.numbers) k a in
      subst (λ b. AreNamed n m (map (leaf_name s.variable) xs) s.numbers b) (sym j) b;
}

-- one field more
pub fields_named : (n m o : List LeafName) (s t u : Spelling) (inner : Text → TypeOf → List Text) (fs : List FieldShape) (f : FieldShape) → IsNamed n m s t (field_leaves inner s.text.items fs)
    → IsNamed m o t u (inner (t.text.items ++ field_text f.name) f.kind) → IsNamed n o s u (field_leaves inner s.text.items (fs ++ f ∷ []))
fields_named n m o s t u inner fs f first second =
    let x = s.text.items in
    let own = inner (x ++ field_text f.name) f.kind in
    let here : IsNamed m o t u own = subst (λ x. IsNamed m o t u (inner (x ++ field_text f.name) f.kind)) first.text second in
    let all : field_leaves inner x fs ++ own ≡ field_leaves inner x (fs ++ f ∷ []) = ap (λ l. field_leaves inner x fs ++ l) (sym (append-nil own)) ∙ sym (fields_more inner x fs (f ∷ [])) in
    subst (IsNamed n o s u) all (spelled_both n m o s t u (field_leaves inner x fs) own first here)

pub fields_taken : (rows : List FieldRow) (i : ℕ) (r : FieldRow) → i < length rows → r ≡ get_or rows i r → map field_shape (take (i + 1) rows) ≡ map field_shape (take i rows) ++ field_shape r ∷ []
fields_taken rows i r h e =
    ap (λ k. map field_shape (take k rows)) (add-one i) ∙ ap (map field_shape) (take-suc rows i r h ∙ ap (λ x. take i rows ++ x ∷ []) (sym e))
    ∙ map-append field_shape (take i rows) (r ∷ [])

-- of the elements of a part, whose text is taken away afterwards
pub deep_named : (n m : List LeafName) (s p q t : Spelling) (depth : ℕ) (rows : List StructShape) (k e : TypeOf) → 0 < depth → p.variable ≡ s.variable → p.numbers ≡ s.numbers
    → p.text.items ≡ elements_text s.text.items k → e ≡ element k → IsNamed n m p q (element_leaves (leaves (depth - 1) rows) rows p.text.items e)
    → t.variable ≡ q.variable → t.numbers ≡ q.numbers → t.text.items ≡ take (length s.text.items) q.text.items → IsNamed n m s t (leaves depth rows s.text.items k)
deep_named n m s p q t depth rows k e h v a x i named w j taken =
    let inner = leaves (depth - 1) rows in
    let own = s.text.items in
    let whole : element_leaves inner rows p.text.items e ≡ leaves depth rows own k = ap (λ x. element_leaves inner rows x e) x ∙ ap (element_leaves inner rows (elements_text own k)) i ∙ sym (leaves_deep depth rows own k h) in
    let text : t.text.items ≡ own = taken ∙ ap (take (length own)) (named.text ∙ x) ∙ elements_taken own k in
    spelled_part n m s p q t (leaves depth rows own k) v a (subst (IsNamed n m p q) whole named) w j text
