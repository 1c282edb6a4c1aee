-- An instance is made, and what lived lives on.
use Rattle.std.proofs.Common.{◌≡◌, ℕ, suc, ◌+◌, ◌≤◌, List, [], ◌∷◌, ◌++◌, length, Option, Some, Result, Ok, Err, refl, sym, ap, ◌∙◌, subst, arith, eq-eqb, nat_eq, nat_le, if◌then◌else◌, Bool, true, false, OnOk, OnErr}
use Rattle.std.specs.Prelude.{IsSome}
use Rattle.std.proofs.lemmas.Bool.{false≢true}
use Rattle.c_base.specs.declared.place.NoMemory.{NoMemory}
use Rattle.c_store.specs.declared.value.Value.{Value}
use Rattle.c_store.specs.declared.value.MakeErr.{MakeErr}
use Rattle.c_store.specs.declared.value.MakeErr.TheVariants.{Room}
use Rattle.c_store.specs.Cells.{Cells, Slot, find, made, cell_count, IsLive}
use Rattle.c_meaning.specs.State.{Bound, Call, activation_in, with_bound, in_call}
use Rattle.c_world.specs.Names.{Naming, IsActive, with_name}
use Rattle.c_world.specs.Lives.{Living, call_instances}
use Rattle.c_world.proofs.Scopes.{Gone, with_instances, lower}

abbrev the : Cells → Result Cells MakeErr → Cells
the d (Ok c) = c
the d (Err e) = d

abbrev was_made : Result Cells MakeErr → Bool
was_made (Ok c) = true
was_made (Err e) = false

chosen : (b : Bool) (c d : Cells) → (if b then Ok c else Err Room) ≡ Ok d → c ≡ d
chosen true c d e = ap (λ x. the c x) e
chosen false c d e = absurd (false≢true (ap was_made e))

-- ---- look-up in a longer list

longer_at : (n : ℕ) (s : Slot) (rest more : List Slot) → (IsSome (find n rest) → IsSome (find n (rest ++ more))) → (b : Bool) → IsSome (if b then Some s else find n rest) → IsSome (if b then Some s else find n (rest ++ more))
longer_at n s rest more on true h = refl
longer_at n s rest more on false h = on h

longer : (n : ℕ) (live more : List Slot) → IsSome (find n live) → IsSome (find n (live ++ more))
longer n [] more h = absurd (false≢true h)
longer n (s ∷ rest) more h = longer_at n s rest more (longer n rest more) (nat_eq s.number n) h

last_at : (n : ℕ) (s t : Slot) (rest : List Slot) → IsSome (find n (rest ++ t ∷ [])) → (b : Bool) → IsSome (if b then Some s else find n (rest ++ t ∷ []))
last_at n s t rest h true = refl
last_at n s t rest h false = h

last : (n : ℕ) (live : List Slot) (t : Slot) → t.number ≡ n → IsSome (find n (live ++ t ∷ []))
last n [] t e = rw (eq-eqb t.number n e) refl
last n (s ∷ rest) t e = last_at n s t rest (last n rest t e) (nat_eq s.number n)

-- ---- the store

pub record Larger (c d : Cells) : Type 0 where
  pub most : d.most ≡ c.most
  pub count : d.count ≡ suc c.count
  pub live : (n : ℕ) → IsLive n c → IsLive n d
  pub new : IsLive d.count d

pub larger : (c d : Cells) (w : Bool) (vs : List (Option Value)) → made c w vs ≡ Ok d → Larger c d
larger c d w vs e =
    let n : Cells = record { most = c.most; count = suc c.count; live = c.live ++ record { number = suc c.count; writable = w; cells = vs } ∷ [] } in
    let k : n ≡ d = chosen (nat_le (cell_count c.live + length vs) c.most) n d e in
    subst (λ d. Larger c d) k (record {
      most = refl;
      count = refl;
      live = λ i h. longer i c.live (record { number = suc c.count; writable = w; cells = vs } ∷ []) h;
      new = last (suc c.count) c.live (record { number = suc c.count; writable = w; cells = vs }) refl;
    })

pub living_on : (above : ℕ) (js : List ℕ) (c d : Cells) → ((n : ℕ) → IsLive n c → IsLive n d) → Living above js c → Living above js d
living_on above [] c d on l = l
living_on above (j ∷ js) c d on l = (l.0, (on j l.1.0, living_on j js c d on l.1.1))

active_same : (f : List (List Bound) → List (List Bound)) (cs : List Call) → activation_in (in_call f cs) ≡ activation_in cs
active_same f [] = refl
active_same f (c ∷ cs) = refl

pub placed_on : (old new : Naming) (c d : Cells) (w : Bool) (vs : List (Option Value)) (v j last : ℕ) (r : Result (Unit {0}) NoMemory) → Living (suc c.count) (call_instances old.calls) c → c.most ≡ 1048576 → activation_in old.calls ≤ last → IsActive old.calls → made c w vs ≡ Ok d → j ≡ d.count → OnOk r (new ≡ with_name (record { variable = v; instance = j }) old) → OnErr r (new ≡ old) → Gone old new c d j last
placed_on old new c d w vs v j last (Ok u) living most active is e number bound kept =
    let g = larger c d w vs e in
    let on : Living (suc c.count) (call_instances old.calls) d = living_on (suc c.count) (call_instances old.calls) c d g.live living in
    let first : Living (suc d.count) (j ∷ call_instances old.calls) d = (omega (arith, number), (subst (λ n. IsLive n d) (sym number) g.new, lower (suc c.count) j (call_instances old.calls) d (omega (arith, number, g.count)) on)) in
    let same : j ∷ call_instances old.calls ≡ call_instances new.calls = sym (ap (λ (n : Naming). call_instances n.calls) bound ∙ with_instances v j old.calls is) in
    let act : activation_in new.calls ≡ activation_in old.calls = ap (λ (n : Naming). activation_in n.calls) bound ∙ active_same (with_bound (record { variable = v; instance = j })) old.calls in
    record { living = subst (λ js. Living (suc d.count) js d) same first; counted = number; most = g.most ∙ most; active = omega (arith, act, active) }
placed_on old new c d w vs v j last (Err u) living most active is e number bound kept =
    let g = larger c d w vs e in
    let on : Living (suc c.count) (call_instances old.calls) d = living_on (suc c.count) (call_instances old.calls) c d g.live living in
    let up : Living (suc d.count) (call_instances old.calls) d = lower (suc c.count) (suc d.count) (call_instances old.calls) d (omega (arith, g.count)) on in
    subst (λ n. Gone old n c d j last) (sym kept) (record { living = up; counted = number; most = g.most ∙ most; active = active })

pub made_on : (n : Naming) (c d : Cells) (w : Bool) (vs : List (Option Value)) (j last : ℕ) → Living (suc c.count) (call_instances n.calls) c → c.most ≡ 1048576 → activation_in n.calls ≤ last → made c w vs ≡ Ok d → j ≡ d.count → Gone n n c d j last
made_on n c d w vs j last living most active e number =
    let g = larger c d w vs e in
    let on : Living (suc c.count) (call_instances n.calls) d = living_on (suc c.count) (call_instances n.calls) c d g.live living in
    record { living = lower (suc c.count) (suc d.count) (call_instances n.calls) d (omega (arith, g.count)) on; counted = number; most = g.most ∙ most; active = active }

gone_alike : (old mid new : Naming) (c d : Cells) (made last : ℕ) → mid.calls ≡ new.calls → Gone old mid c d made last → Gone old new c d made last
gone_alike old mid new c d made last e g =
    let same : call_instances mid.calls ≡ call_instances new.calls = ap call_instances e in
    let act : activation_in mid.calls ≡ activation_in new.calls = ap activation_in e in
    record { living = subst (λ js. Living (suc d.count) js d) same g.living; counted = g.counted; most = g.most; active = omega (arith, act, g.active) }

pub filed_on : (old new : Naming) (c d : Cells) (vs : List (Option Value)) (v j last : ℕ) (r : Result (Unit {0}) NoMemory) → Living (suc c.count) (call_instances old.calls) c → c.most ≡ 1048576 → activation_in old.calls ≤ last → made c true vs ≡ Ok d → j ≡ d.count → OnOk r (new ≡ record old { file = record { variable = v; instance = j } ∷ old.file }) → OnErr r (new ≡ old) → Gone old new c d j last
filed_on old new c d vs v j last (Ok u) living most active e number bound kept = gone_alike old old new c d j last (sym (ap (λ (n : Naming). n.calls) bound)) (made_on old c d true vs j last living most active e number)
filed_on old new c d vs v j last (Err u) living most active e number bound kept = gone_alike old old new c d j last (sym (ap (λ (n : Naming). n.calls) kept)) (made_on old c d true vs j last living most active e number)
