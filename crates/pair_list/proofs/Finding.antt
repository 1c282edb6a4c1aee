-- What passes find are the pairs that rows have.
use Rattle.std.proofs.Common.{ℕ, zero, suc, ◌+◌, ◌-◌, ◌*◌, ◌<◌, ◌≤◌, ◌≡◌, ◌⊎◌, ◌↔◌, inl, inr, List, [], ◌∷◌, ◌++◌, length, get_or, set, get_or-set_same, get_or-set_other, Some, Bool, true, false, refl, ap, sym, subst, ◌∙◌, arith}
use Rattle.std.specs.Prelude.{slice_get, Contains}
use Rattle.std.specs.Int.{bit_at}
use Rattle.std.proofs.lemmas.Bool.{cases_lt}
use Rattle.std.proofs.lemmas.Nat.Bits.{bit_at-zero, bit_at-pow_other}
use Rattle.std.proofs.lemmas.List.{get_or_past, length-append}
use Rattle.std.proofs.lemmas.Option.{slice_get_past, slice_get_read, slice_get_within}
use Rattle.flow_walks.specs.declared.action.Action.{Action}
use Rattle.flow_walks.specs.declared.action.Action.TheVariants.{Define, Use, Block, Test, Kill, Nothing}
use Rattle.flow_marks.specs.declared.flow.FlowRow.{FlowRow}
use Rattle.flow_marks.specs.Paths.{action_of, action_at, Way, Leads, IsReached}
use Rattle.flow_marks.specs.Words.{HasBit, Arrives}
use Rattle.flow_marks.proofs.Passing.{same_or_not}
use Rattle.c_sites.specs.declared.numbered.Sites.{Sites}
use Rattle.pair_list.specs.declared.marks.Mark.{Mark}
use Rattle.pair_list.specs.Sites.{IsDef}
use Rattle.pair_list.specs.Listed.{Ends}
use Rattle.pair_list.specs.Found.{IsFound}
use Rattle.pair_list.specs.Marks.{IsMark, AreMarks, EndsMark, Finds}
use Rattle.pair_list.specs.Masks.{MarkAt, IsMask, AreReached, AreGiven, AreStopped, IsEntry}
use Rattle.pair_list.specs.Hits.{SomeHits, FindsOne, FindsAny, AddsBits}
use Rattle.pair_list.proofs.Making.{some_is}
use Rattle.pair_list.proofs.Masking.{mask_same}
use Rattle.pair_list.proofs.Meeting.{adds_same, adds_then}

pub act_read : (g : List FlowRow) (i : ℕ) (row : FlowRow) → i < length g → row ≡ get_or g i row → (get_or g i row).action ≡ action_at g i
act_read g i row lt is = sym (subst (λ r. action_at g i ≡ r.action) is (ap action_of (slice_get_read g (length g) i row refl lt is)))

-- what is read of each row, one row more
push_read : {A : Type 0} (d : A) (xs : List A) (x : A) (i : ℕ) → i < length xs → get_or (xs ++ x ∷ []) i d ≡ get_or xs i d
push_read d [] x i lt = absurd (omega arith)
push_read d (y ∷ xs) x zero lt = refl
push_read d (y ∷ xs) x (suc i) lt = push_read d xs x i (omega arith)

push_last : {A : Type 0} (d : A) (xs : List A) (x : A) → get_or (xs ++ x ∷ []) (length xs) d ≡ x
push_last d [] x = refl
push_last d (y ∷ xs) x = push_last d xs x

pub rows_more : {A : Type 0} (d : A) (R : ℕ → A → Type 0) (old new : List A) (n : ℕ) (x : A) → length old ≡ n → new ≡ old ++ x ∷ [] → ((row : ℕ) → row < n → R row (get_or old row d)) → R n x → (length new ≡ n + 1) × ((row : ℕ) → row < n + 1 → R row (get_or new row d))
rows_more d R old new n x size e each here = (
  omega (arith, ap length e, length-append old (x ∷ [])),
  (λ row lt. elim (cases_lt row n) [
    | inl less ↦ subst (R row) (sym (ap (λ l. get_or l row d) e ∙ push_read d old x row (omega arith))) (each row less)
    | inr ge ↦ (let at : length old ≡ row = omega arith in let same : n ≡ row = omega arith in
        subst (R row) (sym (ap (λ l. get_or l row d) e ∙ subst (λ i. get_or (old ++ x ∷ []) i d ≡ x) at (push_last d old x))) (subst (λ r. R r x) same here))
  ]),
)

pub size_more : (old new : List ℕ) (n x : ℕ) → length old ≡ n → new ≡ old ++ x ∷ [] → length new ≡ n + 1
size_more old new n x size e = omega (arith, ap length e, length-append old (x ∷ []))

pub given_at : (g : List FlowRow) (marks : List Mark) (start row word : ℕ) (flags : List Bool) (flag : Bool) (a : Action) → AreReached g flags → row < length g → get_or flags row false ≡ flag → a ≡ action_at g row → IsMask marks start (λ m. (flag ≡ true) × (a ≡ Define m.def)) word → IsMask marks start (λ m. IsReached g row × (action_at g row ≡ Define m.def)) word
given_at g marks start row word flags flag a r lt is act mask = mask_same marks start (λ m. (flag ≡ true) × (a ≡ Define m.def)) (λ m. IsReached g row × (action_at g row ≡ Define m.def)) word
    (λ m. ((λ h. ((r.flagged row lt).0 (is ∙ h.0), sym act ∙ h.1)), (λ h. (sym is ∙ (r.flagged row lt).1 h.0, act ∙ h.1)))) mask

pub stopped_at : (g : List FlowRow) (s : Sites) (marks : List Mark) (start row word : ℕ) (a : Action) → a ≡ action_at g row → IsMask marks start (λ m. EndsMark s m a) word → IsMask marks start (λ m. EndsMark s m (action_at g row)) word
stopped_at g s marks start row word a act mask = subst (λ a. IsMask marks start (λ m. EndsMark s m a) word) act mask

-- ways under another stop
way_same : (g : List FlowRow) (P Q : ℕ → Type 0) → ((row : ℕ) → Q row → P row) → (from n to : ℕ) → Way g P from to n → Way g Q from to n
way_same g P Q f from zero to w = w
way_same g P Q f from (suc n) to w = (w.0, way_same g P Q f from n w.0 w.1, (λ q. w.2 (f w.0 q)), w.3)

leads_same : (g : List FlowRow) (P Q : ℕ → Type 0) → ((row : ℕ) → Q row → P row) → (from to : ℕ) → Leads g P from to → Leads g Q from to
leads_same g P Q f from to l = (l.0, way_same g P Q f from l.0 to l.1)

no_bit_past : (words : List ℕ) (row i : ℕ) → length words ≤ row → HasBit words row i → ⊥
no_bit_past words row i le h = let z : bit_at (get_or words row 0) i ≡ 0 = ap (λ w. bit_at w i) (get_or_past words row 0 le) ∙ bit_at-zero i in omega arith

past_quiet : (g : List FlowRow) (s : Sites) (m : Mark) (row : ℕ) → length g ≤ row → EndsMark s m (action_at g row) → ⊥
past_quiet g s m row le e = subst (EndsMark s m) (ap action_of (slice_get_past g row le)) e

is_define : Action → ℕ
is_define (Define d) = 1
is_define _ = 0

define_there : (g : List FlowRow) (row d : ℕ) → action_at g row ≡ Define d → row < length g
unfolding is_define
define_there g row d e = elim (cases_lt row (length g)) [ inl lt ↦ lt | inr ge ↦ absurd (let q : 0 ≡ 1 = ap is_define (sym (ap action_of (slice_get_past g row ge)) ∙ e) in omega arith) ]

is_use : Action → ℕ
is_use (Use u) = 1
is_use _ = 0

use_there : (g : List FlowRow) (row u : ℕ) → action_at g row ≡ Use u → row < length g
unfolding is_use
use_there g row u e = elim (cases_lt row (length g)) [ inl lt ↦ lt | inr ge ↦ absurd (let q : 0 ≡ 1 = ap is_use (sym (ap action_of (slice_get_past g row ge)) ∙ e) in omega arith) ]

-- one pass
module _ (g : List FlowRow) (s : Sites) (f : ℕ) (marks : List Mark) (start first : ℕ) (gives stops came : List ℕ) (size_g : length gives ≡ length g) (size_s : length stops ≡ length g) (given : AreGiven g marks start gives) (stopped : AreStopped g s marks start stops)
    (sound : (row i : ℕ) → HasBit came row i → Arrives g gives stops row i) (complete : (row i : ℕ) → Arrives g gives stops row i → HasBit came row i) where
  module _ (i : ℕ) (lt : i < 64) (m : Mark) (at : slice_get marks (start + i) ≡ Some m) where
    stops_ends : (row : ℕ) → HasBit stops row i → EndsMark s m (action_at g row)
    stops_ends row h = elim (cases_lt row (length g)) [
      | inr ge ↦ absurd (no_bit_past stops row i (omega arith) h)
      | inl l ↦ (let p = (stopped row l i).0 h in subst (λ m. EndsMark s m (action_at g row)) (some_is p.1.0 m (sym p.1.1 ∙ at)) p.1.2)
    ]

    ends_stops : (row : ℕ) → EndsMark s m (action_at g row) → HasBit stops row i
    ends_stops row e = elim (cases_lt row (length g)) [
      | inr ge ↦ absurd (past_quiet g s m row ge e)
      | inl l ↦ (stopped row l i).1 (lt, (m, at, e))
    ]

    gives_from : (row : ℕ) → HasBit gives row i → IsReached g row × (action_at g row ≡ Define m.def)
    gives_from row h = elim (cases_lt row (length g)) [
      | inr ge ↦ absurd (no_bit_past gives row i (omega arith) h)
      | inl l ↦ (let p = (given row l i).0 h in subst (λ m. IsReached g row × (action_at g row ≡ Define m.def)) (some_is p.1.0 m (sym p.1.1 ∙ at)) p.1.2)
    ]

  pub hits_find : (u j : ℕ) → SomeHits g s f marks start first came (length g) u j → FindsOne g s f marks start first u j
  hits_find u j h =
      let k = h.hits.1 in
      let o = k.meets in
      let m = o.3.0 in
      let at = o.3.1 in
      let a = sound h.row o.0 o.2 in
      let from = gives_from o.0 o.1 m at a.0 a.1 in (
        o.0,
        o.1,
        (
          m,
          at,
          (
            record {
              used = k.used;
              is_use = k.is_use;
              function = k.function;
              meets = o.3.2.0;
              from = a.0;
              to = h.row;
              reached = from.0;
              defines = from.1;
              uses = h.hits.0;
              leads = leads_same g (λ r. HasBit stops r o.0) (λ row. EndsMark s m (action_at g row)) (ends_stops o.0 o.1 m at) a.0 h.row a.2;
            },
            o.3.2.1,
          ),
        ),
      )

  pub finds_hit : (u j : ℕ) → FindsOne g s f marks start first u j → SomeHits g s f marks start first came (length g) u j
  finds_hit u j o =
      let m = o.2.0 in
      let at = o.2.1 in
      let h = o.2.2.0 in
      let there = define_there g h.from m.def h.defines in
      record {
        row = h.to;
        below = use_there g h.to u h.uses;
        hits = (
          h.uses,
          record {
            used = h.used;
            is_use = h.is_use;
            function = h.function;
            meets = (o.0, o.1, complete h.to o.0 (h.from, (given h.from there o.0).1 (o.1, (m, at, (h.reached, h.defines))), leads_same g (λ row. EndsMark s m (action_at g row)) (λ r. HasBit stops r o.0) (stops_ends o.0 o.1 m at) h.from h.to h.leads), (m, at, (h.meets, o.2.2.1)));
          },
        );
      }

  pub pass_adds : (low : ℕ) (old new : List ℕ) → AddsBits (λ k j. SomeHits g s f marks start first came (length g) (low + k) j) old new → AddsBits (λ k j. FindsOne g s f marks start first (low + k) j) old new
  pass_adds low old new a = adds_same (λ k j. SomeHits g s f marks start first came (length g) (low + k) j) (λ k j. FindsOne g s f marks start first (low + k) j) old new (λ k j. (hits_find (low + k) j, finds_hit (low + k) j)) a

-- all passes
pub any_start : (g : List FlowRow) (s : Sites) (f : ℕ) (marks : List Mark) (first low : ℕ) (old : List ℕ) → AddsBits (λ k j. FindsAny g s f marks (0 * 64) first (low + k) j) old old
any_start g s f marks first low old = record { size = refl; kept = λ k j h. h; here = λ k j lt p. absurd (let l = p.1 in omega arith); only = λ k j h. inl h }

pub any_more : (g : List FlowRow) (s : Sites) (f : ℕ) (marks : List Mark) (first low n start : ℕ) (a b c : List ℕ) → start ≡ n * 64 → AddsBits (λ k j. FindsAny g s f marks (n * 64) first (low + k) j) a b → AddsBits (λ k j. FindsOne g s f marks start first (low + k) j) b c → AddsBits (λ k j. FindsAny g s f marks ((n + 1) * 64) first (low + k) j) a c
any_more g s f marks first low n start a b c e p q = adds_then (λ k j. FindsAny g s f marks (n * 64) first (low + k) j) (λ k j. FindsOne g s f marks start first (low + k) j) (λ k j. FindsAny g s f marks ((n + 1) * 64) first (low + k) j) a b c
    (λ k j h. elim (cases_lt h.0 (n * 64)) [
      | inl less ↦ inl (h.0, less, h.2)
      | inr ge ↦ (let lt = h.1 in inr (at_least h.0 start (λ i. MarkAt marks i (λ m. Finds g s f m (low + k) × (m.def ≡ first + j))) (omega arith) (omega arith) h.2))
    ])
    (λ k j h. let lt = h.1 in (h.0, omega arith, h.2))
    (λ k j h. let lt = h.1 in (start + h.0, omega arith, h.2))
    p q
  where
    at_least : (i start : ℕ) (P : ℕ → Type 0) → start ≤ i → i < start + 64 → P i → (k : ℕ) × (k < 64) × P (start + k)
    at_least i start P le lt h = let e : i ≡ start + (i - start) = omega arith in (i - start, omega arith, subst P e h)

pub any_all : (g : List FlowRow) (s : Sites) (f : ℕ) (marks : List Mark) (first low n : ℕ) (a b : List ℕ) → length marks ≤ n * 64 → AddsBits (λ k j. FindsAny g s f marks (n * 64) first (low + k) j) a b → AddsBits (λ k j. FindsAny g s f marks (length marks) first (low + k) j) a b
any_all g s f marks first low n a b le p = adds_same (λ k j. FindsAny g s f marks (n * 64) first (low + k) j) (λ k j. FindsAny g s f marks (length marks) first (low + k) j) a b
    (λ k j. ((λ h. (h.0, slice_get_within marks h.0 h.2.0 h.2.1, h.2)), (λ h. let lt = h.1 in (h.0, omega arith, h.2)))) p

-- a mark ends where its name does
pub ends_same : (s : Sites) (f : ℕ) (m : Mark) → IsMark s f m → (a : Action) → Ends s m.variable m.name a ↔ EndsMark s m a
ends_same s f m is (Define d) = ((λ e. (e.0, e.1, e.2, e.3, is.strong.1 e.4)), (λ e. (e.0, e.1, e.2, e.3, is.strong.0 e.4)))
ends_same s f m is (Kill v) = ((λ e. e), (λ e. e))
ends_same s f m is (Use u) = ((λ e. e), (λ e. e))
ends_same s f m is (Block k) = ((λ e. e), (λ e. e))
ends_same s f m is (Test k o) = ((λ e. e), (λ e. e))
ends_same s f m is Nothing = ((λ e. e), (λ e. e))

module _ (g : List FlowRow) (s : Sites) (f first count : ℕ) (marks : List Mark) (are : AreMarks s f first count marks) where
  pub any_found : (u j : ℕ) → FindsAny g s f marks (length marks) first u j → IsFound g s f (first + j) u
  any_found u j h =
      let m = h.2.0 in
      let is = (are.each h.0 m h.2.1).0 in
      let k = h.2.2.0 in
      let e = h.2.2.1 in
      record {
        variable = m.variable;
        name = m.name;
        sites = record { def = is.def; is_def = subst (λ d. IsDef s d is.def) e is.is_def; def_function = is.function; def_variable = is.variable; def_name = is.name; used = k.used; is_use = k.is_use; use_function = k.function; use_variable = k.meets.0; use_name = k.meets.1 };
        from = k.from;
        to = k.to;
        reached = k.reached;
        defines = k.defines ∙ ap Define e;
        uses = k.uses;
        leads = leads_same g (λ row. EndsMark s m (action_at g row)) (λ row. Ends s m.variable m.name (action_at g row)) (λ row x. (ends_same s f m is (action_at g row)).0 x) k.from k.to k.leads;
      }

  pub found_any : (u j : ℕ) → j < count → IsFound g s f (first + j) u → FindsAny g s f marks (length marks) first u j
  found_any u j lt l =
      let t = l.sites in
      let h = are.all (first + j) t.def l.variable l.name (omega arith) (omega arith) t.is_def t.def_function t.def_variable t.def_name in
      let m = h.1 in
      let is = (are.each h.0 m h.2).0 in (
        h.0,
        slice_get_within marks h.0 m h.2,
        (
          m,
          h.2,
          (
            record {
              used = t.used;
              is_use = t.is_use;
              function = t.use_function;
              meets = (t.use_variable ∙ ap Some (sym h.4), subst (Contains t.used.names) (sym h.5) t.use_name);
              from = l.from;
              to = l.to;
              reached = l.reached;
              defines = l.defines ∙ ap Define (sym h.3);
              uses = l.uses;
              leads = leads_same g (λ row. Ends s l.variable l.name (action_at g row)) (λ row. EndsMark s m (action_at g row)) (λ row x. subst (λ n. Ends s l.variable n (action_at g row)) h.5 (subst (λ v. Ends s v m.name (action_at g row)) h.4 ((ends_same s f m is (action_at g row)).1 x))) l.from l.to l.leads;
            },
            h.3,
          ),
        ),
      )

  pub found_bits : (low uses : ℕ) (none hits : List ℕ) → length none ≡ uses → ((k : ℕ) → get_or none k 0 ≡ 0) → AddsBits (λ k j. FindsAny g s f marks (length marks) first (low + k) j) none hits → (k j : ℕ) → k < uses → j < count → HasBit hits k j ↔ IsFound g s f (first + j) (low + k)
  found_bits low uses none hits size blank a k j lk lj = (
    (λ h. elim (a.only k j h) [
      | inl was ↦ absurd (let z : bit_at (get_or none k 0) j ≡ 0 = ap (λ w. bit_at w j) (blank k) ∙ bit_at-zero j in omega arith)
      | inr x ↦ any_found (low + k) j x
    ]),
    (λ l. a.here k j (omega arith) (found_any (low + k) j lj l)),
  )

-- the rows to which row 0 leads
pub reached_iff : (g : List FlowRow) (gives stops come : List ℕ) → IsEntry gives → ((row : ℕ) → get_or stops row 0 ≡ 0) → ((row i : ℕ) → HasBit come row i → Arrives g gives stops row i) → ((row i : ℕ) → Arrives g gives stops row i → HasBit come row i) → (row : ℕ) → ((row ≡ 0) ⊎ (bit_at (get_or come row 0) 0 ≡ 1)) ↔ IsReached g row
reached_iff g gives stops come is none sound complete row = (
  (λ h. elim h [
    | inl e ↦ inl e
    | inr b ↦ (let a = sound row 0 b in
        inr (subst (λ r. Leads g (λ _. ⊥) r row) ((is a.0 0).0 a.1).0 (leads_same g (λ r. HasBit stops r 0) (λ _. ⊥) (λ r x. absurd x) a.0 row a.2)))
  ]),
  (λ h. elim h [
    | inl e ↦ inl e
    | inr l ↦ inr (complete row 0 (0, (is 0 0).1 (refl, refl), leads_same g (λ _. ⊥) (λ r. HasBit stops r 0) (λ r b. let z : bit_at (get_or stops r 0) 0 ≡ 0 = ap (λ w. bit_at w 0) (none r) ∙ bit_at-zero 0 in omega arith) 0 row l))
  ]),
)

pub entry_is : (words : List ℕ) → 0 < length words → ((row : ℕ) → get_or words row 0 ≡ 0) → IsEntry (set words 0 1)
entry_is words some none zero i = (
  (λ h. (refl, one i (subst (λ w. bit_at w i ≡ 1) (get_or-set_same words 0 1 0 some) h))),
  (λ h. subst (λ w. bit_at w i ≡ 1) (sym (get_or-set_same words 0 1 0 some)) (subst (λ i. bit_at 1 i ≡ 1) (sym h.1) refl)),
)
  where
    one : (i : ℕ) → bit_at 1 i ≡ 1 → i ≡ 0
    one i h = elim (same_or_not i 0) [ inl e ↦ e | inr ne ↦ absurd (let z : bit_at 1 i ≡ 0 = bit_at-pow_other 0 i ne in omega arith) ]
entry_is words some none (suc row) i = (
  (λ h. absurd (let z : bit_at (get_or (set words 0 1) (suc row) 0) i ≡ 0 = ap (λ w. bit_at w i) (get_or-set_other words 0 (suc row) 1 0 (λ e. omega arith) ∙ none (suc row)) ∙ bit_at-zero i in omega arith)),
  (λ h. absurd (let e = h.0 in omega arith)),
)

pub iff_then : {A B C : Type 0} → A ↔ B → B ↔ C → A ↔ C
iff_then p q = ((λ a. q.0 (p.0 a)), (λ c. p.1 (q.1 c)))
