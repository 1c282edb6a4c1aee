-- How many scopes the calls have.
use Rattle.std.proofs.Common.{◌≡◌, ℕ, ◌-◌, ◌≤◌, List, [], ◌∷◌, ◌++◌, length, refl, sym, ap, ◌∙◌, subst, arith}
use Rattle.std.specs.Prelude.{reverse}
use Rattle.c_store.specs.Cells.{Cells}
use Rattle.c_meaning.specs.State.{Bound, Call, with_bound, in_call, opened, tail_of}
use Rattle.c_world.specs.Names.{Naming, IsActive, scopes_in, scope_counts, one_more, one_less, calls_of, Sound}
use Rattle.c_world.specs.declared.names.Standing.{Standing}
use Rattle.c_world.specs.declared.names.Entry.{Entry}
use Rattle.c_world.specs.declared.names.Entry.TheVariants as entry
use Rattle.c_world.specs.Lives.{Emptied}
use Rattle.c_world.proofs.Trails.{newest, some_scope}

-- a binding
bound_length : (b : Bound) (scopes : List (List Bound)) → 1 ≤ length scopes → length (with_bound b scopes) ≡ length scopes
bound_length b [] h = absurd (omega (arith, h))
bound_length b (scope ∷ rest) h = refl

pub bound_counts : (b : Bound) (cs : List Call) → 1 ≤ length (scopes_in cs) → scope_counts (in_call (with_bound b) cs) ≡ scope_counts cs
bound_counts b [] h = refl
bound_counts b (c ∷ cs) h = ap (λ n. n ∷ scope_counts cs) (bound_length b c.scopes h)

pub bind_counts : (n : Naming) (file : List Bound) (es new : List Entry) (t : List Standing) (v j : ℕ) (before : Standing) → record { file = file; calls = calls_of (reverse es) } ≡ n → Sound (reverse es) t → IsActive n.calls → new ≡ es ++ entry.Name v j before ∷ [] → scope_counts (calls_of (reverse new)) ≡ scope_counts n.calls
bind_counts n file es new t v j before view sound active e =
    let P : Naming → Type 0 = λ n. IsActive n.calls in
    ap (λ x. scope_counts (calls_of (reverse x))) e ∙ ap (λ x. scope_counts (calls_of x)) (newest es (entry.Name v j before)) ∙
    bound_counts (record { variable = v; instance = j }) (calls_of (reverse es)) (some_scope (reverse es) t sound (subst P (sym view) active)) ∙
    ap (λ (n : Naming). scope_counts n.calls) view

-- a scope
opened_in : (cs : List Call) → scope_counts (in_call opened cs) ≡ one_more (scope_counts cs)
opened_in [] = refl
opened_in (c ∷ cs) = refl

pub opened_counts : (old new : Naming) → new ≡ record old { calls = in_call opened old.calls } → scope_counts new.calls ≡ one_more (scope_counts old.calls)
opened_counts old new e = ap (λ (n : Naming). scope_counts n.calls) e ∙ opened_in old.calls

tail_length : (scopes : List (List Bound)) → length (tail_of scopes) ≡ length scopes - 1
tail_length [] = refl
tail_length (scope ∷ rest) = omega arith

closed_in : (cs : List Call) → scope_counts (in_call tail_of cs) ≡ one_less (scope_counts cs)
closed_in [] = refl
closed_in (c ∷ cs) = ap (λ n. n ∷ scope_counts cs) (tail_length c.scopes)

pub closed_counts : (old emptied new : Naming) (c d : Cells) → Emptied old emptied c d → new ≡ record emptied { calls = in_call tail_of emptied.calls } → scope_counts new.calls ≡ one_less (scope_counts old.calls)
closed_counts old emptied new c d e is = ap (λ (n : Naming). scope_counts n.calls) is ∙ ap scope_counts e.rest ∙ closed_in old.calls

-- a call
tail_in : (cs : List Call) → tail_of (in_call tail_of cs) ≡ tail_of cs
tail_in [] = refl
tail_in (c ∷ cs) = refl

left_in : (cs : List Call) → scope_counts (tail_of cs) ≡ tail_of (scope_counts cs)
left_in [] = refl
left_in (c ∷ cs) = refl

pub left_counts : (old emptied new : Naming) (c d : Cells) → Emptied old emptied c d → new ≡ record emptied { calls = tail_of emptied.calls } → scope_counts new.calls ≡ tail_of (scope_counts old.calls)
left_counts old emptied new c d e is = ap (λ (n : Naming). scope_counts n.calls) is ∙ ap scope_counts (sym (tail_in emptied.calls) ∙ ap (λ x. tail_of x) e.rest ∙ tail_in old.calls) ∙ left_in old.calls

-- ---- what is known by the counts
