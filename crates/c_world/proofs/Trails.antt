-- The trail and the table of bindings.
use Rattle.std.proofs.Common.{append-nil, ◌≡◌, ℕ, zero, suc, ◌<◌, ◌≤◌, List, [], ◌∷◌, ◌++◌, length, length-append, get_or, Option, Some, None, refl, sym, ap, ◌∙◌, subst, arith, eq-eqb, ne_eqb, nat_eq, if◌then◌else◌, Bool, true, false}
use Rattle.std.proofs.lemmas.Bool.{eqb-true, eqb-false, false≢true}
use Rattle.std.specs.Prelude.{slice_set, reverse, option_to_list, IsSome}
use Rattle.std.proofs.lemmas.List.{reverse-append, get_or-set_other, get_or-set_same, set-get_or, set-append_left, set-set, length-set}
use Rattle.c_meaning.specs.State.{Bound, Call, activation_in, found_in, found_among, found_within, function_in, or_else, with_bound, in_call, opened, top_of, tail_of}
use Rattle.c_world.specs.declared.names.Standing.{Standing}
use Rattle.c_world.specs.declared.names.Entry.{Entry}
use Rattle.c_world.specs.declared.names.Entry.TheVariants as entry
use Rattle.c_world.specs.Names.{Naming, Undone, IsActive, standing_of, scopes_in, calls_of, called, nowhere, Sound, bound_in}

pub newest : {A : Type 0} (xs : List A) (x : A) → reverse (xs ++ x ∷ []) ≡ x ∷ reverse xs
newest xs x = reverse-append xs (x ∷ [])

-- ---- activations

active_call : (f : List (List Bound) → List (List Bound)) (cs : List Call) → activation_in (in_call f cs) ≡ activation_in cs
active_call f [] = refl
active_call f (c ∷ cs) = refl

positive : (es : List Entry) (t : List Standing) → Sound es t → IsActive (calls_of es) → 1 ≤ activation_in (calls_of es)
positive [] t s a = absurd a
positive (entry.Call f n o ∷ es) t s a = omega (arith, s.0)
positive (entry.Scope ∷ es) t s a = rw (active_call opened (calls_of es)) (positive es t s.1 s.0)
positive (entry.Name v j b ∷ es) t s a = rw (active_call (with_bound (record { variable = v; instance = j })) (calls_of es)) (positive es (slice_set t v b) s.3 s.0)

-- ---- look-up

nowhere_found : (s : Standing) → s ≡ nowhere → bound_in s 0 ≡ None
nowhere_found s e = rw e refl

elsewhere : (s : Standing) (a : ℕ) → s.activation < a → bound_in s a ≡ None
elsewhere s a h = rw (ne_eqb s.activation a (λ e. absurd (omega (arith, e, h)))) refl

here : (s : Standing) (j a : ℕ) → s ≡ record { instance = j; activation = a } → 1 ≤ a → bound_in s a ≡ Some j
here s j a e h = rw e (rw (eq-eqb a a refl) (rw (ne_eqb a 0 (λ e. absurd (omega (arith, e, h)))) refl))

over : (b : Bool) (j : ℕ) (x y : Option ℕ) → or_else (if b then Some j else x) y ≡ (if b then Some j else or_else x y)
over true j x y = refl
over false j x y = refl

over_none : (b : Bool) (j : ℕ) (y : Option ℕ) → or_else (if b then Some j else None) y ≡ (if b then Some j else y)
over_none true j y = refl
over_none false j y = refl

-- what the entry of another variable changes
other : (t : List Standing) (v w : ℕ) (b : Standing) → nat_eq w v ≡ false → get_or t v nowhere ≡ get_or (slice_set t w b) v nowhere
other t v w b e = sym (get_or-set_other t w v b nowhere (λ f. eqb-false w v e (sym f)))

below_name : (t : List Standing) (v w j a : ℕ) (b : Standing) → get_or t w nowhere ≡ record { instance = j; activation = a } → (get_or (slice_set t w b) v nowhere).activation ≤ a → (same : Bool) → nat_eq w v ≡ same → (get_or t v nowhere).activation ≤ a
below_name t v w j a b got before true e =
    let P : ℕ → Type 0 = λ v. (get_or t v nowhere).activation ≤ a in
    let k : (get_or t w nowhere).activation ≡ a = ap (λ (s : Standing). s.activation) got in
    subst P (eqb-true w v e) (omega (arith, k))
below_name t v w j a b got before false e = let P : Standing → Type 0 = λ s. s.activation ≤ a in subst P (sym (other t v w b e)) before

-- no place has a later activation than the active one
pub below : (es : List Entry) (t : List Standing) (v : ℕ) → Sound es t → (get_or t v nowhere).activation ≤ activation_in (calls_of es)
below [] t v s = let k : (get_or t v nowhere).activation ≡ 0 = ap (λ (s : Standing). s.activation) (s v) in omega (arith, k)
below (entry.Call f a o ∷ es) t v s = let b = below es t v s.2 in omega (arith, b, s.0)
below (entry.Scope ∷ es) t v s = rw (active_call opened (calls_of es)) (below es t v s.1)
below (entry.Name w j b ∷ es) t v s =
    rw (active_call (with_bound (record { variable = w; instance = j })) (calls_of es))
    (below_name t v w j (activation_in (calls_of es)) b s.2 (below es (slice_set t w b) v s.3) (nat_eq w v) refl)

found_bound : (v w j : ℕ) (scopes : List (List Bound)) → found_among v (with_bound (record { variable = w; instance = j }) scopes) ≡ (if nat_eq w v then Some j else found_among v scopes)
found_bound v w j [] = over_none (nat_eq w v) j None
found_bound v w j (scope ∷ rest) = over (nat_eq w v) j (found_in v scope) (found_among v rest)

found_name : (t : List Standing) (v w j a : ℕ) (b : Standing) (scopes : List (List Bound)) → get_or t w nowhere ≡ record { instance = j; activation = a } → 1 ≤ a → found_among v scopes ≡ bound_in (get_or (slice_set t w b) v nowhere) a → (same : Bool) → nat_eq w v ≡ same → found_among v (with_bound (record { variable = w; instance = j }) scopes) ≡ bound_in (get_or t v nowhere) a
found_name t v w j a b scopes got some before true e =
    let P : ℕ → Type 0 = λ v. Some j ≡ bound_in (get_or t v nowhere) a in
    found_bound v w j scopes ∙ rw e (subst P (eqb-true w v e) (sym (here (get_or t w nowhere) j a got some)))
found_name t v w j a b scopes got some before false e =
    found_bound v w j scopes ∙ rw e (before ∙ ap (λ s. bound_in s a) (sym (other t v w b e)))

name_found : (cs : List Call) (t : List Standing) (v w j : ℕ) (b : Standing) → IsActive cs → get_or t w nowhere ≡ record { instance = j; activation = activation_in cs } → 1 ≤ activation_in cs → found_within v cs ≡ bound_in (get_or (slice_set t w b) v nowhere) (activation_in cs) → found_within v (in_call (with_bound (record { variable = w; instance = j })) cs) ≡ bound_in (get_or t v nowhere) (activation_in (in_call (with_bound (record { variable = w; instance = j })) cs))
name_found [] t v w j b is got some before = absurd is
name_found (c ∷ cs) t v w j b is got some before = found_name t v w j c.activation b c.scopes got some before (nat_eq w v) refl

scope_found : (cs : List Call) (v : ℕ) (s : Standing) → found_within v cs ≡ bound_in s (activation_in cs) → found_within v (in_call opened cs) ≡ bound_in s (activation_in (in_call opened cs))
scope_found [] v s before = before
scope_found (c ∷ cs) v s before = before

-- the table has what the scopes have
pub looked_up : (es : List Entry) (t : List Standing) (v : ℕ) → Sound es t → found_within v (calls_of es) ≡ bound_in (get_or t v nowhere) (activation_in (calls_of es))
looked_up [] t v s = sym (nowhere_found (get_or t v nowhere) (s v))
looked_up (entry.Call f a o ∷ es) t v s = let b = below es t v s.2 in sym (elsewhere (get_or t v nowhere) a (omega (arith, b, s.0)))
looked_up (entry.Scope ∷ es) t v s = scope_found (calls_of es) v (get_or t v nowhere) (looked_up es t v s.1)
looked_up (entry.Name w j b ∷ es) t v s =
    name_found (calls_of es) t v w j b s.0 s.2 (positive es (slice_set t w b) s.3 s.0) (looked_up es (slice_set t w b) v s.3)

-- ---- a longer table

grown_same : {A : Type 0} (t : List A) (d : A) (v : ℕ) → get_or (t ++ d ∷ []) v d ≡ get_or t v d
grown_same [] d zero = refl
grown_same [] d (suc v) = refl
grown_same (x ∷ t) d zero = refl
grown_same (x ∷ t) d (suc v) = grown_same t d v

pub grown : (es : List Entry) (t : List Standing) → Sound es t → Sound es (t ++ nowhere ∷ [])
grown [] t s = λ v. grown_same t nowhere v ∙ s v
grown (entry.Call f a o ∷ es) t s = (s.0, s.1, grown es t s.2)
grown (entry.Scope ∷ es) t s = (s.0, grown es t s.1)
grown (entry.Name v j b ∷ es) t s =
    let longer : v < length (t ++ nowhere ∷ []) = rw length-append (omega (arith, s.1)) in
    (s.0, longer, grown_same t nowhere v ∙ s.2, rw (set-append_left t (nowhere ∷ []) v b s.1) (grown es (slice_set t v b) s.3))

-- ---- what a last entry says

scope_more : (cs : List Call) → IsActive cs → 1 ≤ length (scopes_in (in_call opened cs))
scope_more [] a = absurd a
scope_more (c ∷ cs) a = omega arith

with_more : (b : Bound) (scopes : List (List Bound)) → 1 ≤ length (with_bound b scopes)
with_more b [] = omega arith
with_more b (scope ∷ rest) = omega arith

name_more : (cs : List Call) (v j : ℕ) → IsActive cs → 1 ≤ length (scopes_in (in_call (with_bound (record { variable = v; instance = j })) cs))
name_more [] v j a = absurd a
name_more (c ∷ cs) v j a = with_more (record { variable = v; instance = j }) c.scopes

-- the active call has a scope
pub some_scope : (es : List Entry) (t : List Standing) → Sound es t → IsActive (calls_of es) → 1 ≤ length (scopes_in (calls_of es))
some_scope [] t s a = absurd a
some_scope (entry.Call f n o ∷ es) t s a = omega arith
some_scope (entry.Scope ∷ es) t s a = scope_more (calls_of es) s.0
some_scope (entry.Name v j b ∷ es) t s a = name_more (calls_of es) v j s.0

pub closed : (cs : List Call) → in_call tail_of (in_call opened cs) ≡ cs
closed [] = refl
closed (c ∷ cs) = refl

-- ---- what the code finds

pub stands_local : (n : Naming) (b : List Bound) (es : List Entry) (t : List Standing) (s : Standing) (v a j : ℕ) (r : Option ℕ) → record { file = b; calls = calls_of es } ≡ n → Sound es t → a ≡ activation_in (calls_of es) → s ≡ get_or t v nowhere → r ≡ bound_in s a → r ≡ Some j → Some j ≡ standing_of v n
stands_local n b es t s v a j r view sound at got bound is =
    let f : found_within v (calls_of es) ≡ Some j = looked_up es t v sound ∙ ap (λ x. bound_in x (activation_in (calls_of es))) (sym got) ∙ ap (λ x. bound_in s x) (sym at) ∙ sym bound ∙ is in
    subst (λ n. Some j ≡ standing_of v n) view (ap (λ x. or_else x (found_in v b)) (sym f))

pub stands_filed : (n : Naming) (b : List Bound) (es : List Entry) (t : List Standing) (s : Standing) (v a : ℕ) (r q : Option ℕ) → record { file = b; calls = calls_of es } ≡ n → Sound es t → a ≡ activation_in (calls_of es) → s ≡ get_or t v nowhere → r ≡ bound_in s a → r ≡ None → q ≡ found_in v b → q ≡ standing_of v n
stands_filed n b es t s v a r q view sound at got bound is out =
    let f : found_within v (calls_of es) ≡ None = looked_up es t v sound ∙ ap (λ x. bound_in x (activation_in (calls_of es))) (sym got) ∙ ap (λ x. bound_in s x) (sym at) ∙ sym bound ∙ is in
    subst (λ n. q ≡ standing_of v n) view (out ∙ ap (λ x. or_else x (found_in v b)) (sym f))

-- ---- the end of a call

two_scopes : (cs : List Call) → 1 ≤ length (scopes_in cs) → scopes_in (in_call opened cs) ≡ [] ∷ [] → ⊥
two_scopes [] h e = absurd (omega arith)
two_scopes (c ∷ cs) h e = let k : suc (length c.scopes) ≡ 1 = ap (λ x. length x) e in absurd (omega (arith, h, k))

no_name : (b : Bound) (scopes : List (List Bound)) → with_bound b scopes ≡ [] ∷ [] → ⊥
no_name b [] e = let k : 1 ≡ 0 = ap (λ x. length (top_of x)) e in absurd (omega (arith, k))
no_name b (scope ∷ rest) e = let k : suc (length scope) ≡ 0 = ap (λ x. length (top_of x)) e in absurd (omega (arith, k))

no_name_in : (b : Bound) (cs : List Call) → scopes_in (in_call (with_bound b) cs) ≡ [] ∷ [] → ⊥
no_name_in b [] e = let k : 0 ≡ 1 = ap (λ x. length x) e in absurd (omega (arith, k))
no_name_in b (c ∷ cs) e = no_name b c.scopes e

closing_at : (e : Entry) (es : List Entry) (t : List Standing) → Sound (e ∷ es) t → scopes_in (calls_of (e ∷ es)) ≡ [] ∷ [] → calls_of es ≡ tail_of (calls_of (e ∷ es))
closing_at (entry.Call f a o) es t s one = refl
closing_at entry.Scope es t s one = absurd (two_scopes (calls_of es) (some_scope es t s.1 s.0) one)
closing_at (entry.Name v j b) es t s one = absurd (no_name_in (record { variable = v; instance = j }) (calls_of es) one)

pub closing : (n : Naming) (b : List Bound) (es new : List Entry) (t : List Standing) (r : Option Entry) → record { file = b; calls = calls_of (reverse es) } ≡ n → es ≡ new ++ option_to_list r → Sound (reverse es) t → scopes_in n.calls ≡ [] ∷ [] → (0 < length es → IsSome r) → record { file = b; calls = calls_of (reverse new) } ≡ record n { calls = tail_of n.calls }
closing n b es new t (Some e) view items sound one some =
    let back : reverse es ≡ e ∷ reverse new = ap reverse items ∙ newest new e in
    let one : scopes_in (calls_of (e ∷ reverse new)) ≡ [] ∷ [] = ap (λ x. scopes_in (calls_of x)) (sym back) ∙ ap (λ (x : Naming). scopes_in x.calls) view ∙ one in
    let same : calls_of (reverse new) ≡ tail_of (calls_of (reverse es)) = closing_at e (reverse new) t (subst (λ x. Sound x t) back sound) one ∙ ap (λ x. tail_of (calls_of x)) (sym back) in
    ap (λ x. record { file = b; calls = x }) same ∙ ap (λ (x : Naming). record x { calls = tail_of x.calls }) view
closing n b [] new t None view items sound one some = let k : 0 ≡ 1 = ap (λ (x : Naming). length (scopes_in x.calls)) view ∙ ap (λ x. length x) one in absurd (omega (arith, k))
closing n b (x ∷ es) new t None view items sound one some = absurd (false≢true (some (omega arith)))

-- ---- a binding

pub record Bindings (n : Naming) (es : List Entry) (t : List Standing) (a d : ℕ) : Type 0 where
  pub sound : Sound es t
  pub active : a ≡ activation_in (calls_of es)
  pub deep : d ≡ length (calls_of es)

deep_call : (f : List (List Bound) → List (List Bound)) (cs : List Call) → length (in_call f cs) ≡ length cs
deep_call f [] = refl
deep_call f (c ∷ cs) = refl

pub bound_here : (n : Naming) (b : List Bound) (es new : List Entry) (t : List Standing) (v j a d : ℕ) (before : Standing) → record { file = b; calls = calls_of (reverse es) } ≡ n → IsActive n.calls → Sound (reverse es) t → a ≡ activation_in (calls_of (reverse es)) → d ≡ length (calls_of (reverse es)) → v < length t → before ≡ get_or t v nowhere → new ≡ es ++ entry.Name v j before ∷ [] → Bindings n (reverse new) (slice_set t v (record { instance = j; activation = a })) a d
bound_here n b es new t v j a d before view is sound at deep in_table was pushed =
    let here : Standing = record { instance = j; activation = a } in
    let back : reverse new ≡ entry.Name v j before ∷ reverse es = ap reverse pushed ∙ newest es (entry.Name v j before) in
    let is : IsActive (calls_of (reverse es)) = subst (λ (x : Naming). IsActive x.calls) (sym view) is in
    let again : slice_set (slice_set t v here) v before ≡ t = set-set t v here before ∙ ap (λ x. slice_set t v x) was ∙ set-get_or t v nowhere in
    let got : get_or (slice_set t v here) v nowhere ≡ record { instance = j; activation = activation_in (calls_of (reverse es)) } = get_or-set_same t v here nowhere in_table ∙ ap (λ (x : ℕ). record { instance = j; activation = x }) at in
    let inside : v < length (slice_set t v here) = rw (length-set t v here) in_table in
    let sound : Sound (entry.Name v j before ∷ reverse es) (slice_set t v here) = (is, inside, got, subst (λ x. Sound (reverse es) x) (sym again) sound) in
    record {
      sound = subst (λ x. Sound x (slice_set t v here)) (sym back) sound;
      active = at ∙ sym (active_call (with_bound (record { variable = v; instance = j })) (calls_of (reverse es))) ∙ ap (λ x. activation_in (calls_of x)) (sym back);
      deep = deep ∙ sym (deep_call (with_bound (record { variable = v; instance = j })) (calls_of (reverse es))) ∙ ap (λ x. length (calls_of x)) (sym back);
    }

pub undone_here : (n : Naming) (b : List Bound) (es new : List Entry) (t : List Standing) (v j : ℕ) (before : Standing) → record { file = b; calls = calls_of (reverse es) } ≡ n → Sound (reverse es) t → es ≡ new ++ entry.Name v j before ∷ [] → Undone (Some j) n (record { file = b; calls = calls_of (reverse new) })
undone_here n b es new t v j before view sound items =
    let back : reverse es ≡ entry.Name v j before ∷ reverse new = ap reverse items ∙ newest new (entry.Name v j before) in
    let s : Sound (entry.Name v j before ∷ reverse new) t = subst (λ x. Sound x t) back sound in
    (v, sym view ∙ ap (λ x. record { file = b; calls = calls_of x }) back, s.0, some_scope (reverse new) (slice_set t v before) s.3 s.0)

earlier_at : (e : Entry) (es : List Entry) (t : List Standing) → Sound (e ∷ es) t → activation_in (calls_of es) ≤ activation_in (calls_of (e ∷ es))
earlier_at (entry.Call f a o) es t s = omega (arith, s.0)
earlier_at entry.Scope es t s = rw (active_call opened (calls_of es)) (omega arith)
earlier_at (entry.Name v j b) es t s = rw (active_call (with_bound (record { variable = v; instance = j })) (calls_of es)) (omega arith)

pub earlier : (n : Naming) (b : List Bound) (es new : List Entry) (t : List Standing) (r : Option Entry) → record { file = b; calls = calls_of (reverse es) } ≡ n → es ≡ new ++ option_to_list r → Sound (reverse es) t → activation_in (calls_of (reverse new)) ≤ activation_in n.calls
earlier n b es new t (Some e) view items sound =
    let back : reverse es ≡ e ∷ reverse new = ap reverse items ∙ newest new e in
    subst (λ (x : Naming). activation_in (calls_of (reverse new)) ≤ activation_in x.calls) view (subst (λ x. activation_in (calls_of (reverse new)) ≤ activation_in (calls_of x)) (sym back) (earlier_at e (reverse new) t (subst (λ x. Sound x t) back sound)))
earlier n b es new t None view items sound =
    subst (λ (x : Naming). activation_in (calls_of (reverse new)) ≤ activation_in x.calls) view (subst (λ x. activation_in (calls_of (reverse new)) ≤ activation_in (calls_of (reverse x))) (sym (items ∙ append-nil new)) (omega arith))

-- ---- the active function

same_function : (f : List (List Bound) → List (List Bound)) (cs : List Call) → function_in (in_call f cs) ≡ function_in cs
same_function f [] = refl
same_function f (c ∷ cs) = refl

call_first : (x : Entry) (es : List Entry) (f : ℕ) → called x ≡ Some f → function_in (calls_of (x ∷ es)) ≡ f
call_first (entry.Call f a o) es g e = cc
call_first entry.Scope es g e = cc
call_first (entry.Name v j b) es g e = cc

no_call_first : (x : Entry) (es : List Entry) → called x ≡ None → function_in (calls_of (x ∷ es)) ≡ function_in (calls_of es)
no_call_first (entry.Call f a o) es e = cc
no_call_first entry.Scope es e = same_function opened (calls_of es)
no_call_first (entry.Name v j b) es e = same_function (with_bound (record { variable = v; instance = j })) (calls_of es)

pub some_call : (es rest : List Entry) (x : Entry) (f : ℕ) → es ≡ rest ++ x ∷ [] → called x ≡ Some f → function_in (calls_of (reverse es)) ≡ f
some_call es rest x f e is = ap (λ x. function_in (calls_of (reverse x))) e ∙ ap (λ x. function_in (calls_of x)) (newest rest x) ∙ call_first x (reverse rest) f is

pub no_call : (es rest : List Entry) (x : Entry) → es ≡ rest ++ x ∷ [] → called x ≡ None → function_in (calls_of (reverse es)) ≡ function_in (calls_of (reverse rest))
no_call es rest x e is = ap (λ x. function_in (calls_of (reverse x))) e ∙ ap (λ x. function_in (calls_of x)) (newest rest x) ∙ no_call_first x (reverse rest) is
