-- Worked lists of events.
use Rattle.std.proofs.Common.{◌≡◌, ℕ, ◌<◌, zero, suc, List, [], ◌∷◌, Option, Some, None, refl, ap, subst, arith, if◌then◌else◌}
use Rattle.std.specs.Prelude.{nat_eq}
use Rattle.c_events.specs.declared.events.Cell.{Cell}
use Rattle.c_events.specs.declared.events.Event.{Event}
use Rattle.c_events.specs.declared.events.Event.TheVariants as event
use Rattle.atac_facts.specs.declared.fact.Fact.TheVariants as fact
use Rattle.cover_parts.specs.Covered.{At, Reaches, IsPair, Covered, IsPending}

abbrev cell : Cell
cell = record { instance = 1; index = 0 }

-- another cell of the same instance
abbrev beside : Cell
beside = record { instance = 1; index = 1 }

-- use 2 belongs to decision 5
abbrev owner : ℕ → Option ℕ
owner u = if nat_eq u 2 then Some 5 else None

-- A PAIR

abbrev pair : List Event
pair = event.Def 1 cell ∷ event.Use 2 cell 7 ∷ []

in_pair : Reaches pair 1 2 cell 7 0 1
in_pair = record { before = omega arith; defined = refl; used = refl; kept = λ j e g l at. absurd (omega (arith, g, l)) }

is_pair : IsPair pair 1 2
is_pair = (cell, 7, 0, 1, in_pair)

-- A DEFINITION BETWEEN

abbrev between : List Event
between = event.Def 1 cell ∷ event.Def 3 cell ∷ event.Use 2 cell 7 ∷ []

first_defined : (c : Cell) (h : ℕ) → At between h (event.Def 1 c) → (h ≡ 0) × (cell ≡ c)
first_defined c zero at = (refl, cc)
first_defined c (suc zero) at = let n : ◌≡◌ {A = ℕ} 3 1 = cc in absurd (omega (arith, n))
first_defined c (suc (suc zero)) at = absurd (cc)
first_defined c (suc (suc (suc h))) at = absurd (cc)

last_used : (c : Cell) (a i : ℕ) → At between i (event.Use 2 c a) → i ≡ 2
last_used c a zero at = absurd (cc)
last_used c a (suc zero) at = absurd (cc)
last_used c a (suc (suc zero)) at = refl
last_used c a (suc (suc (suc i))) at = absurd (cc)

is_no_pair : IsPair between 1 2 → ⊥
is_no_pair p =
    let d = first_defined p.0 p.2 p.4.defined in
    let second : At between 1 (event.Def 3 p.0) = subst (λ (c : Cell). At between 1 (event.Def 3 c)) d.1 refl in
    p.4.kept 1 3 (omega (arith, d.0)) (omega (arith, last_used p.0 p.1 p.3 p.4.used)) second

is_later_pair : IsPair between 3 2
is_later_pair = (cell, 7, 1, 2, record { before = omega arith; defined = refl; used = refl; kept = λ j e g l at. absurd (omega (arith, g, l)) })

-- a definition of another cell between, though of the same instance
abbrev aside : List Event
aside = event.Def 1 cell ∷ event.Def 3 beside ∷ event.Use 2 cell 7 ∷ []

not_cell : (j e : ℕ) → 0 < j → j < 2 → At aside j (event.Def e cell) → ⊥
not_cell zero e g l at = absurd (omega (arith, g))
not_cell (suc zero) e g l at = let q : beside ≡ cell = cc in let n : ◌≡◌ {A = ℕ} 1 0 = ap (λ (c : Cell). c.index) q in absurd (omega (arith, n))
not_cell (suc (suc j)) e g l at = absurd (omega (arith, l))

is_still_pair : IsPair aside 1 2
is_still_pair = (cell, 7, 0, 2, record { before = omega arith; defined = refl; used = refl; kept = not_cell })

-- A DECISION THAT ENDS

abbrev ended : List Event
ended = event.Def 1 cell ∷ event.Use 2 cell 7 ∷ event.Test 5 1 7 ∷ event.Test 5 2 7 ∷ []

in_ended : Reaches ended 1 2 cell 7 0 1
in_ended = record { before = omega arith; defined = refl; used = refl; kept = λ j e g l at. absurd (omega (arith, g, l)) }

is_puse : Covered owner ended (fact.PUse 1 2 1)
is_puse = (5, refl, (cell, 7, 0, 1, 2, in_ended, omega arith, refl, λ m o g l at. absurd (omega (arith, g, l))))

-- ONE THAT NEVER ENDS

abbrev unended : List Event
unended = event.Def 1 cell ∷ event.Use 2 cell 7 ∷ event.Block 4 ∷ []

no_test : (k o a j : ℕ) → At unended j (event.Test k o a) → ⊥
no_test k o a zero at = absurd (cc)
no_test k o a (suc zero) at = absurd (cc)
no_test k o a (suc (suc zero)) at = absurd (cc)
no_test k o a (suc (suc (suc j))) at = absurd (cc)

is_no_puse : (o : ℕ) → Covered owner unended (fact.PUse 1 2 o) → ⊥
is_no_puse o p = no_test p.0 o p.2.1 p.2.4 p.2.7

in_unended : Reaches unended 1 2 cell 7 0 1
in_unended = record { before = omega arith; defined = refl; used = refl; kept = λ j e g l at. absurd (omega (arith, g, l)) }

still_waits : IsPending owner unended 5 7 1 2
still_waits = (refl, (cell, 0, 1, in_unended, λ m o g l at. no_test 5 o 7 m at))

-- ONE THAT ENDS IN ANOTHER ACTIVATION

abbrev elsewhere : List Event
elsewhere = event.Def 1 cell ∷ event.Use 2 cell 7 ∷ event.Test 5 1 8 ∷ []

used_in : (c : Cell) (a i : ℕ) → At elsewhere i (event.Use 2 c a) → a ≡ 7
used_in c a zero at = absurd (cc)
used_in c a (suc zero) at = cc
used_in c a (suc (suc zero)) at = absurd (cc)
used_in c a (suc (suc (suc i))) at = absurd (cc)

tested_in : (k o a j : ℕ) → At elsewhere j (event.Test k o a) → a ≡ 8
tested_in k o a zero at = absurd (cc)
tested_in k o a (suc zero) at = absurd (cc)
tested_in k o a (suc (suc zero)) at = cc
tested_in k o a (suc (suc (suc j))) at = absurd (cc)

is_not_its_test : (o : ℕ) → Covered owner elsewhere (fact.PUse 1 2 o) → ⊥
is_not_its_test o p =
    let x = used_in p.2.0 p.2.1 p.2.3 p.2.5.used in
    let y = tested_in p.0 o p.2.1 p.2.4 p.2.7 in
    absurd (omega (arith, x, y))

in_elsewhere : Reaches elsewhere 1 2 cell 7 0 1
in_elsewhere = record { before = omega arith; defined = refl; used = refl; kept = λ j e g l at. absurd (omega (arith, g, l)) }

waits_on : IsPending owner elsewhere 5 7 1 2
waits_on = (refl, (cell, 0, 1, in_elsewhere, λ m o g l at. let n : ◌≡◌ {A = ℕ} 7 8 = tested_in 5 o 7 m at in absurd (omega (arith, n))))
