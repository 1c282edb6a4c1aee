-- Instances that live, and end with their scopes.
use Rattle.std.proofs.Common.{◌≡◌, ℕ, suc, ◌<◌, ◌≤◌, List, [], ◌∷◌, ◌++◌, length, Some, None, refl, sym, ap, ◌∙◌, subst, arith, ne_eqb, nat_eq, if◌then◌else◌, Bool, true, false}
use Rattle.std.specs.Prelude.{IsSome}
use Rattle.std.proofs.lemmas.Bool.{eqb-true}
use Rattle.c_store.specs.Cells.{Cells, Slot, find, without, ended, IsLive}
use Rattle.c_meaning.specs.State.{Bound, Call, activation_in, with_bound, in_call, tail_of, top_of, top_within}
use Rattle.c_meaning.specs.Statements.{ended_all}
use Rattle.c_world.specs.Names.{Naming, IsActive, Undone, scopes_in}
use Rattle.c_world.specs.Lives.{Living, bound_instances, scope_instances, call_instances, Emptying, Emptied}

-- ---- one ends, and the others live on

find_without_at : (n j : ℕ) (s : Slot) (rest : List Slot) → (n ≡ j → ⊥) → find n (without j rest) ≡ find n rest → (b : Bool) → nat_eq s.number j ≡ b → find n (if b then rest else s ∷ without j rest) ≡ find n (s ∷ rest)
find_without_at n j s rest ne before true e = sym (rw (ne_eqb s.number n (λ k. ne (sym k ∙ eqb-true s.number j e))) refl)
find_without_at n j s rest ne before false e = ap (λ x. if nat_eq s.number n then Some s else x) before

find_without : (n j : ℕ) (live : List Slot) → (n ≡ j → ⊥) → find n (without j live) ≡ find n live
find_without n j [] ne = refl
find_without n j (s ∷ rest) ne = find_without_at n j s rest ne (find_without n j rest ne) (nat_eq s.number j) refl

still_live : (n j : ℕ) (c : Cells) → n < j → IsLive n c → IsLive n (ended c j)
still_live n j c h live = subst (λ x. IsSome x) (sym (find_without n j c.live (λ e. absurd (omega (arith, e, h))))) live

still_living : (above j : ℕ) (js : List ℕ) (c : Cells) → above ≤ j → Living above js c → Living above js (ended c j)
still_living above j [] c h l = l
still_living above j (i ∷ js) c h l = (l.0, (still_live i j c (omega (arith, h, l.0)) l.1.0, still_living i j js c (omega (arith, h, l.0)) l.1.1))

pub lower : (a b : ℕ) (js : List ℕ) (c : Cells) → a ≤ b → Living a js c → Living b js c
lower a b [] c h l = l
lower a b (j ∷ js) c h l = (omega (arith, h, l.0), l.1)

-- ---- a binding

with_in : (v j : ℕ) (scopes : List (List Bound)) (js : List ℕ) → scope_instances (with_bound (record { variable = v; instance = j }) scopes) ++ js ≡ j ∷ (scope_instances scopes ++ js)
with_in v j [] js = refl
with_in v j (scope ∷ rest) js = refl

with_tail_of : (b : Bound) (scopes : List (List Bound)) → tail_of (with_bound b scopes) ≡ tail_of scopes
with_tail_of b [] = refl
with_tail_of b (scope ∷ rest) = refl

with_top_of : (b : Bound) (scopes : List (List Bound)) → top_of (with_bound b scopes) ≡ b ∷ top_of scopes
with_top_of b [] = refl
with_top_of b (scope ∷ rest) = refl

with_length_of : (b : Bound) (scopes : List (List Bound)) → 1 ≤ length scopes → length (with_bound b scopes) ≡ length scopes
with_length_of b [] h = absurd (omega (arith, h))
with_length_of b (scope ∷ rest) h = refl

pub with_instances : (v j : ℕ) (cs : List Call) → IsActive cs → call_instances (in_call (with_bound (record { variable = v; instance = j })) cs) ≡ j ∷ call_instances cs
with_instances v j [] a = absurd a
with_instances v j (c ∷ cs) a = with_in v j c.scopes (call_instances cs)

with_tail : (b : Bound) (cs : List Call) → in_call tail_of (in_call (with_bound b) cs) ≡ in_call tail_of cs
with_tail b [] = refl
with_tail b (c ∷ cs) = ap (λ x. record c { scopes = x } ∷ cs) (with_tail_of b c.scopes)

with_top : (b : Bound) (cs : List Call) → IsActive cs → top_within (in_call (with_bound b) cs) ≡ b ∷ top_within cs
with_top b [] a = absurd a
with_top b (c ∷ cs) a = with_top_of b c.scopes

with_length : (b : Bound) (cs : List Call) → 1 ≤ length (scopes_in cs) → length (scopes_in (in_call (with_bound b) cs)) ≡ length (scopes_in cs)
with_length b [] h = refl
with_length b (c ∷ cs) h = with_length_of b c.scopes h

with_living : (old now : List Call) (d : Cells) (v j : ℕ) → now ≡ in_call (with_bound (record { variable = v; instance = j })) old → IsActive old → (above : ℕ) → Living above (call_instances now) d → Living above (j ∷ call_instances old) d
with_living old now d v j e is above l = subst (λ x. Living above x d) (ap call_instances e ∙ with_instances v j old is) l

after_living : (above j : ℕ) (js : List ℕ) (d : Cells) → Living above (j ∷ js) d → Living above js (ended d j)
after_living above j js d l = lower j above js (ended d j) (omega (arith, l.0)) (still_living j j js d (omega arith) l.1.1)

pub one_ended : (old now new : Naming) (c d : Cells) (j : ℕ) → Emptying old now c d → Undone (Some j) now new → Emptying old new c (ended d j)
one_ended old now new c d j e u =
    let b : Bound = record { variable = u.0; instance = j } in
    let calls : now.calls ≡ in_call (with_bound b) new.calls = ap (λ (n : Naming). n.calls) u.1 in
    record {
      file = sym (ap (λ (n : Naming). n.file) u.1) ∙ e.file;
      rest = sym (ap (λ x. in_call tail_of x) calls ∙ with_tail b new.calls) ∙ e.rest;
      scopes = sym (ap (λ x. length (scopes_in x)) calls ∙ with_length b new.calls u.3) ∙ e.scopes;
      ended = sym (ap (λ x. ended_all (top_within x) d) calls ∙ ap (λ x. ended_all x d) (with_top b new.calls u.2)) ∙ e.ended;
      living = λ above l. after_living above j (call_instances new.calls) d (with_living new.calls now.calls d u.0 j calls u.2 above (e.living above l));
    }

pub none_ended : (old : Naming) (c : Cells) → Emptying old old c c
none_ended old c = record { file = refl; rest = refl; scopes = refl; ended = refl; living = λ above l. l }

pub all_ended : (old now new : Naming) (c d : Cells) → Emptying old now c d → Undone None now new → Emptied old new c d
all_ended old now new c d e u = subst (λ n. Emptied old n c d) (sym u.0) (record { file = e.file; rest = e.rest; empty = u.1; scopes = e.scopes; ended = ap (λ x. ended_all x d) (sym u.1) ∙ e.ended; living = e.living })

pub fewer : (now new : Naming) (j : ℕ) → Undone (Some j) now new → length (top_within new.calls) < length (top_within now.calls)
fewer now new j u =
    let b : Bound = record { variable = u.0; instance = j } in
    let k : length (top_within now.calls) ≡ suc (length (top_within new.calls)) = ap (λ (n : Naming). length (top_within n.calls)) u.1 ∙ ap (λ x. length x) (with_top b new.calls u.2) in
    omega (arith, k)

-- ---- the ends of scopes and calls

ended_count : (bs : List Bound) (c : Cells) → (ended_all bs c).count ≡ c.count
ended_count [] c = refl
ended_count (b ∷ bs) c = ended_count bs (ended c b.instance)

ended_most : (bs : List Bound) (c : Cells) → (ended_all bs c).most ≡ c.most
ended_most [] c = refl
ended_most (b ∷ bs) c = ended_most bs (ended c b.instance)

-- what is left when the scope has gone
pub record Gone (old new : Naming) (c d : Cells) (made last : ℕ) : Type 0 where
  pub living : Living (suc d.count) (call_instances new.calls) d
  pub counted : made ≡ d.count
  pub most : d.most ≡ 1048576
  pub active : activation_in new.calls ≤ last

record Closed (was closed : List Call) : Type 0 where
  instances : call_instances closed ≡ call_instances was
  earlier : activation_in closed ≤ activation_in was

gone : (old emptied new : Naming) (c d : Cells) (made last : ℕ) → Living (suc c.count) (call_instances old.calls) c → made ≡ c.count → c.most ≡ 1048576 → activation_in emptied.calls ≤ last → Emptied old emptied c d → Closed emptied.calls new.calls → Gone old new c d made last
gone old emptied new c d made last living counted most active e closed =
    let count : d.count ≡ c.count = ap (λ (x : Cells). x.count) e.ended ∙ ended_count (top_within old.calls) c in
    let most' : d.most ≡ c.most = ap (λ (x : Cells). x.most) e.ended ∙ ended_most (top_within old.calls) c in
    record {
      living = subst (λ n. Living (suc n) (call_instances new.calls) d) (sym count) (subst (λ js. Living (suc c.count) js d) (sym closed.instances) (e.living (suc c.count) living));
      counted = counted ∙ sym count;
      most = most' ∙ most;
      active = omega (arith, active, closed.earlier);
    }

tail_instances : (scopes : List (List Bound)) → top_of scopes ≡ [] → scope_instances (tail_of scopes) ≡ scope_instances scopes
tail_instances [] e = refl
tail_instances (scope ∷ rest) e = ap (λ x. bound_instances x ++ scope_instances rest) (sym e)

closed_scope : (cs : List Call) → top_within cs ≡ [] → Closed cs (in_call tail_of cs)
closed_scope [] e = record { instances = refl; earlier = omega arith }
closed_scope (c ∷ cs) e = record { instances = ap (λ x. x ++ call_instances cs) (tail_instances c.scopes e); earlier = omega arith }

active_tail : (cs : List Call) → activation_in (in_call tail_of cs) ≡ activation_in cs
active_tail [] = refl
active_tail (c ∷ cs) = refl

active_rest : (old new : List Call) → in_call tail_of new ≡ in_call tail_of old → activation_in new ≡ activation_in old
active_rest old new e = sym (active_tail new) ∙ ap activation_in e ∙ active_tail old

pub scope_gone : (old emptied new : Naming) (c d : Cells) (made last : ℕ) → Living (suc c.count) (call_instances old.calls) c → made ≡ c.count → c.most ≡ 1048576 → activation_in old.calls ≤ last → Emptied old emptied c d → new ≡ record emptied { calls = in_call tail_of emptied.calls } → Gone old new c d made last
scope_gone old emptied new c d made last living counted most active e is =
    let a : activation_in emptied.calls ≡ activation_in old.calls = active_rest old.calls emptied.calls e.rest in
    subst (λ n. Gone old n c d made last) (sym is) (gone old emptied (record emptied { calls = in_call tail_of emptied.calls }) c d made last living counted most (omega (arith, active, a)) e (closed_scope emptied.calls e.empty))

call_closed : (cs : List Call) → scopes_in cs ≡ [] ∷ [] → call_instances (tail_of cs) ≡ call_instances cs
call_closed [] e = refl
call_closed (c ∷ cs) e = ap (λ x. scope_instances x ++ call_instances cs) (sym e)

pub call_gone : (old emptied new : Naming) (c d : Cells) (made last : ℕ) → Living (suc c.count) (call_instances old.calls) c → made ≡ c.count → c.most ≡ 1048576 → activation_in old.calls ≤ last → Emptied old emptied c d → scopes_in emptied.calls ≡ [] ∷ [] → new ≡ record emptied { calls = tail_of emptied.calls } → activation_in new.calls ≤ activation_in emptied.calls → Gone old new c d made last
call_gone old emptied new c d made last living counted most active e one is earlier =
    let a : activation_in emptied.calls ≡ activation_in old.calls = active_rest old.calls emptied.calls e.rest in
    let same : call_instances new.calls ≡ call_instances emptied.calls = ap (λ (n : Naming). call_instances n.calls) is ∙ call_closed emptied.calls one in
    gone old emptied new c d made last living counted most (omega (arith, active, a)) e (record { instances = same; earlier = earlier })

one_empty : (scopes : List (List Bound)) → top_of scopes ≡ [] → length scopes ≡ 1 → scopes ≡ [] ∷ []
one_empty [] e n = absurd (omega (arith, n))
one_empty (scope ∷ []) e n = ap (λ x. x ∷ []) e
one_empty (scope ∷ x ∷ rest) e n = absurd (omega (arith, n))

one_empty_in : (cs : List Call) → top_within cs ≡ [] → length (scopes_in cs) ≡ 1 → scopes_in cs ≡ [] ∷ []
one_empty_in [] e n = absurd (omega (arith, n))
one_empty_in (c ∷ cs) e n = one_empty c.scopes e n

pub one_left : (old emptied : Naming) (c d : Cells) → Emptied old emptied c d → length (scopes_in old.calls) ≡ 1 → scopes_in emptied.calls ≡ [] ∷ []
one_left old emptied c d e n = one_empty_in emptied.calls e.empty (e.scopes ∙ n)
