-- The four lists that are read are those that were written.
use Rattle.std.proofs.Common.{◌≡◌, ℕ, ◌*◌, ◌^◌, ◌<◌, ◌≤◌, Bool, true, false, cond, ltb, eqb, List, [], ◌++◌, length, take, drop, Option, Some, None, refl, sym, ap, subst, ◌∙◌, append_assoc, arith}
use Rattle.std.specs.List.{filter, flat_map, AllByRecursion}
use Rattle.std.proofs.lemmas.Bool.{ltb-false, le-ltb, eqb-true, eq-eqb}
use Rattle.std.proofs.lemmas.List.{append-nil, length-append, length-take, take_at, drop_at, take_all, take-append-drop}
use Rattle.std.proofs.lemmas.List.Elements.{filter-append}
use Rattle.byteorder.specs.Endian.{big_bytes, big_number}
use Rattle.atac_facts.specs.declared.tally.Counted.{Counted}
use Rattle.trace_file.specs.declared.kind.Kind.{Kind}
use Rattle.trace_file.specs.declared.kind.Kind.TheVariants.{Blocks, Outcomes, Pairs, PUses}
use Rattle.trace_file.specs.Layout.{kind_of, same_kind, record_of, size, rows_in, lists_of, ListsFit}
use Rattle.trace_file.specs.Reading.{rows_at, rows_of, Listed, FourLists, ◌>>=◌, part_at, parts_of, opening_size}
use Rattle.trace_file.proofs.Records.{IsBytes, IsBytes-take, IsBytes-drop, back4, below4, again4}
use Rattle.trace_file.proofs.Lists.{length-rows_at, rows_back, len_rows, rows_in-rows_at, Fits}

pub bind_some : {A B : Type 0} (o : Option A) (f : A → Option B) (y : B) → (o >>= f) ≡ Some y → (x : A) × (o ≡ Some x) × (f x ≡ Some y)
bind_some (Some x) f y e = (x, refl, e)
bind_some None f y e = absurd cc

-- a test that let it through
guard_on : {A : Type 0} (b : Bool) (o : Option A) (y : A) → cond b None o ≡ Some y → (b ≡ false) × (o ≡ Some y)
guard_on true o y e = absurd cc
guard_on false o y e = (refl, e)

guard_in : {A : Type 0} (b : Bool) (o : Option A) (y : A) → cond b o None ≡ Some y → (b ≡ true) × (o ≡ Some y)
guard_in true o y e = (refl, e)
guard_in false o y e = absurd cc

abbrev some : {A : Type 0} → A → Option A
some x = Some x

pub same_some : {A : Type 0} (x y : A) → some x ≡ some y → x ≡ y
same_some x y e = cc

-- ---- one list

abbrev pub written : Bool → List Counted → List ℕ
written counted rows = big_bytes 4 (length rows) ++ flat_map (record_of counted) rows

-- what was read for a list is written so
pub record Takes (counted : Bool) (kind : Kind) (bytes : List ℕ) (part : Listed) : Type 0 where
  pub whole : bytes ≡ written counted (rows_at counted kind part.count part.records) ++ part.rest
  pub rest_fits : IsBytes part.rest
  pub few : part.count < 2 ^ 32

pub part_takes : (counted : Bool) (kind : Kind) (bytes : List ℕ) (part : Listed) → IsBytes bytes → part_at counted kind bytes ≡ Some part → Takes counted kind bytes part
part_takes counted kind bytes part fits e =
    let count = big_number 4 bytes in
    let after = drop 4 bytes in
    let len = count * size counted kind in
    let made : Listed = record { count = count; records = take len after; rest = drop len after } in
    let a = guard_on (ltb (length bytes) 4) (cond (ltb (length after) len) None (some made)) part e in
    let b = guard_on (ltb (length after) len) (some made) part a.1 in
    let long : 4 ≤ length bytes = ltb-false _ _ a.0 in
    let room : len ≤ length after = ltb-false _ _ b.0 in
    let after_fits = IsBytes-drop 4 bytes fits in
    let records_fit = IsBytes-take len after after_fits in
    let enough : count * size counted kind ≤ length (take len after) = omega (arith, length-take len after) in
    let rows = rows_at counted kind count (take len after) in
    let spelled : flat_map (record_of counted) rows ≡ take len after = rows_back counted kind count (take len after) records_fit enough ∙ take_all len (take len after) (omega (arith, length-take len after)) in
    let front : written counted rows ≡ take 4 bytes ++ take len after =
    ap (λ (n : ℕ). big_bytes 4 n ++ flat_map (record_of counted) rows) (length-rows_at counted kind count (take len after))
    ∙ ap (λ (x : List ℕ). x ++ flat_map (record_of counted) rows) (back4 bytes fits long) ∙ ap (λ (x : List ℕ). take 4 bytes ++ x) spelled in
    let whole : bytes ≡ written counted rows ++ drop len after =
    sym (take-append-drop 4 bytes) ∙ ap (λ (x : List ℕ). take 4 bytes ++ x) (sym (take-append-drop len after)) ∙ sym (append_assoc (take 4 bytes) (take len after) (drop len after)) ∙ ap (λ (x : List ℕ). x ++ drop len after) (sym front) in
    subst (Takes counted kind bytes) (same_some made part b.1) (record { whole = whole; rest_fits = IsBytes-drop len after after_fits; few = below4 bytes fits })

-- what is read of a list that was written
abbrev pub listed : Bool → List Counted → List ℕ → Listed
listed counted rows rest = record { count = length rows; records = flat_map (record_of counted) rows; rest = rest }

pub part_again : (counted : Bool) (kind : Kind) (rows : List Counted) (rest : List ℕ) → AllByRecursion (Fits counted kind) rows → length rows < 2 ^ 32 → part_at counted kind (written counted rows ++ rest) ≡ some (listed counted rows rest)
part_again counted kind rows rest fits few =
    let records = flat_map (record_of counted) rows in
    let bytes = big_bytes 4 (length rows) ++ (records ++ rest) in
    let regrouped : written counted rows ++ rest ≡ bytes = append_assoc (big_bytes 4 (length rows)) records rest in
    let count-is : big_number 4 bytes ≡ length rows = again4 (length rows) (records ++ rest) few in
    let len : length records ≡ length rows * size counted kind = len_rows counted kind rows fits in
    let both = length-append records rest in
    let room : ltb (length (records ++ rest)) (length rows * size counted kind) ≡ false = le-ltb _ _ (omega arith) in
    let made : ℕ → Option Listed = λ count. cond (ltb (length (records ++ rest)) (count * size counted kind)) None (Some (record { count = count; records = take (count * size counted kind) (records ++ rest); rest = drop (count * size counted kind) (records ++ rest) })) in
    let first : part_at counted kind bytes ≡ made (big_number 4 bytes) = ap (λ (b : Bool). cond b None (made (big_number 4 bytes))) (le-ltb (length bytes) 4 (omega (arith, length-append (big_bytes 4 (length rows)) (records ++ rest)))) in
    let second : made (length rows) ≡ some (listed counted rows rest) = rw (room, take_at records rest (length rows * size counted kind) len, drop_at records rest (length rows * size counted kind) len) refl in
    ap (part_at counted kind) regrouped ∙ first ∙ ap made count-is ∙ second

-- ---- all four

picked : (k : Kind) (a b c d : List Counted) → rows_in k (a ++ (b ++ (c ++ d))) ≡ rows_in k a ++ (rows_in k b ++ (rows_in k c ++ rows_in k d))
picked k a b c d =
    let p : Counted → Bool = λ row. same_kind (kind_of row.fact) k in
    filter-append p a (b ++ (c ++ d)) ∙ ap (λ (x : List Counted). filter p a ++ x) (filter-append p b (c ++ d)) ∙ ap (λ (x : List Counted). filter p a ++ (filter p b ++ x)) (filter-append p c d)

-- the lists of all rows are those that were read
abbrev rows_read : Bool → Kind → FourLists → List Counted
rows_read counted Blocks parts = rows_at counted Blocks parts.blocks.count parts.blocks.records
rows_read counted Outcomes parts = rows_at counted Outcomes parts.outcomes.count parts.outcomes.records
rows_read counted Pairs parts = rows_at counted Pairs parts.pairs.count parts.pairs.records
rows_read counted PUses parts = rows_at counted PUses parts.p_uses.count parts.p_uses.records

chosen : (counted : Bool) (k : Kind) (parts : FourLists) → cond (same_kind Blocks k) (rows_read counted Blocks parts) [] ++ (cond (same_kind Outcomes k) (rows_read counted Outcomes parts) []
    ++ (cond (same_kind Pairs k) (rows_read counted Pairs parts) [] ++ cond (same_kind PUses k) (rows_read counted PUses parts) [])) ≡ rows_read counted k parts
chosen counted Blocks parts = append-nil (rows_read counted Blocks parts)
chosen counted Outcomes parts = append-nil (rows_read counted Outcomes parts)
chosen counted Pairs parts = append-nil (rows_read counted Pairs parts)
chosen counted PUses parts = refl

in_list : (counted : Bool) (k : Kind) (parts : FourLists) → rows_in k (rows_of counted parts) ≡ rows_read counted k parts
in_list counted k parts =
    let a = rows_read counted Blocks parts in
    let b = rows_read counted Outcomes parts in
    let c = rows_read counted Pairs parts in
    let d = rows_read counted PUses parts in
    let p = rows_in-rows_at counted Blocks k parts.blocks.count parts.blocks.records in
    let q = rows_in-rows_at counted Outcomes k parts.outcomes.count parts.outcomes.records in
    let r = rows_in-rows_at counted Pairs k parts.pairs.count parts.pairs.records in
    let s = rows_in-rows_at counted PUses k parts.p_uses.count parts.p_uses.records in
    picked k a b c d ∙ rw (p, q, r, s) (chosen counted k parts)

abbrev pub glued : Bool → List Counted → List Counted → List Counted → List Counted → List ℕ
glued counted a b c d = written counted a ++ (written counted b ++ (written counted c ++ written counted d))

glued_same : (counted : Bool) (a b c d p q r s : List Counted) → a ≡ p → b ≡ q → c ≡ r → d ≡ s → glued counted a b c d ≡ glued counted p q r s
glued_same counted a b c d p q r s e1 e2 e3 e4 =
    ap (λ (x : List Counted). glued counted x b c d) e1 ∙ ap (λ (x : List Counted). glued counted p x c d) e2 ∙ ap (λ (x : List Counted). glued counted p q x d) e3 ∙ ap (glued counted p q r) e4

lists_read : (counted : Bool) (parts : FourLists) → lists_of counted (rows_of counted parts) ≡ glued counted (rows_read counted Blocks parts) (rows_read counted Outcomes parts) (rows_read counted Pairs parts) (rows_read counted PUses parts)
lists_read counted parts =
    glued_same counted _ _ _ _ _ _ _ _ (in_list counted Blocks parts) (in_list counted Outcomes parts) (in_list counted Pairs parts) (in_list counted PUses parts)

few_read : (counted : Bool) (parts : FourLists) → parts.blocks.count < 2 ^ 32 → parts.outcomes.count < 2 ^ 32 → parts.pairs.count < 2 ^ 32 → parts.p_uses.count < 2 ^ 32 → (k : Kind) → length (rows_read counted k parts) < 2 ^ 32
few_read counted parts a b c d Blocks = let e = length-rows_at counted Blocks parts.blocks.count parts.blocks.records in omega arith
few_read counted parts a b c d Outcomes = let e = length-rows_at counted Outcomes parts.outcomes.count parts.outcomes.records in omega arith
few_read counted parts a b c d Pairs = let e = length-rows_at counted Pairs parts.pairs.count parts.pairs.records in omega arith
few_read counted parts a b c d PUses = let e = length-rows_at counted PUses parts.p_uses.count parts.p_uses.records in omega arith

abbrev last_step : Listed → Listed → Listed → Listed → Option FourLists
last_step a b c d = cond (eqb (length d.rest) 32) (some (record { blocks = a; outcomes = b; pairs = c; p_uses = d })) None

abbrev third_step : Bool → Listed → Listed → Listed → Option FourLists
third_step counted a b c = part_at counted PUses c.rest >>= last_step a b c

abbrev second_step : Bool → Listed → Listed → Option FourLists
second_step counted a b = part_at counted Pairs b.rest >>= third_step counted a b

abbrev first_step : Bool → Listed → Option FourLists
first_step counted a = part_at counted Outcomes a.rest >>= second_step counted a

pub record PartsTake (counted : Bool) (bytes : List ℕ) (parts : FourLists) : Type 0 where
  pub long : opening_size counted ≤ length bytes
  pub whole : drop (opening_size counted) bytes ≡ lists_of counted (rows_of counted parts) ++ parts.p_uses.rest
  pub trailer : length parts.p_uses.rest ≡ 32
  pub few : ListsFit (rows_of counted parts)

regrouped : (a b c d z : List ℕ) → a ++ (b ++ (c ++ (d ++ z))) ≡ (a ++ (b ++ (c ++ d))) ++ z
regrouped a b c d z = simp append_assoc

pub parts_take : (counted : Bool) (bytes : List ℕ) (parts : FourLists) → IsBytes bytes → parts_of counted bytes ≡ Some parts → PartsTake counted bytes parts
unfolding parts_of
parts_take counted bytes parts fits e =
    let n = opening_size counted in
    let start = drop n bytes in
    let g = guard_on (ltb (length bytes) n) (part_at counted Blocks start >>= first_step counted) parts e in
    let a = bind_some (part_at counted Blocks start) (first_step counted) parts g.1 in
    let b = bind_some (part_at counted Outcomes a.0.rest) (second_step counted a.0) parts a.2 in
    let c = bind_some (part_at counted Pairs b.0.rest) (third_step counted a.0 b.0) parts b.2 in
    let d = bind_some (part_at counted PUses c.0.rest) (last_step a.0 b.0 c.0) parts c.2 in
    let made : FourLists = record { blocks = a.0; outcomes = b.0; pairs = c.0; p_uses = d.0 } in
    let h = guard_in (eqb (length d.0.rest) 32) (some made) parts d.2 in
    let ta = part_takes counted Blocks start a.0 (IsBytes-drop n bytes fits) a.1 in
    let tb = part_takes counted Outcomes a.0.rest b.0 ta.rest_fits b.1 in
    let tc = part_takes counted Pairs b.0.rest c.0 tb.rest_fits c.1 in
    let td = part_takes counted PUses c.0.rest d.0 tc.rest_fits d.1 in
    let w : Kind → List ℕ = λ k. written counted (rows_read counted k made) in
    let chain : start ≡ w Blocks ++ (w Outcomes ++ (w Pairs ++ (w PUses ++ d.0.rest))) =
    ta.whole ∙ ap (λ (x : List ℕ). w Blocks ++ x) (tb.whole ∙ ap (λ (x : List ℕ). w Outcomes ++ x) (tc.whole ∙ ap (λ (x : List ℕ). w Pairs ++ x) td.whole)) in
    let whole : start ≡ lists_of counted (rows_of counted made) ++ d.0.rest =
    chain ∙ regrouped (w Blocks) (w Outcomes) (w Pairs) (w PUses) d.0.rest ∙ ap (λ (x : List ℕ). x ++ d.0.rest) (sym (lists_read counted made)) in
    let few : (k : Kind) → length (rows_read counted k made) < 2 ^ 32 = few_read counted made ta.few tb.few tc.few td.few in
    subst (PartsTake counted bytes) (same_some made parts h.1) (record {
      long = ltb-false _ _ g.0;
      whole = whole;
      trailer = eqb-true _ _ h.0;
      few = λ k. subst (λ (rows : List Counted). length rows < 2 ^ 32) (sym (in_list counted k made)) (few k);
    })

-- ---- what was written is read again

abbrev pub read_back : Bool → List Counted → List Counted → List Counted → List Counted → List ℕ → FourLists
read_back counted a b c d trailer = record {
  blocks = listed counted a (written counted b ++ (written counted c ++ (written counted d ++ trailer)));
  outcomes = listed counted b (written counted c ++ (written counted d ++ trailer));
  pairs = listed counted c (written counted d ++ trailer);
  p_uses = listed counted d trailer;
}

four_again : (counted : Bool) (a b c d : List Counted) (trailer : List ℕ)
    → AllByRecursion (Fits counted Blocks) a → AllByRecursion (Fits counted Outcomes) b → AllByRecursion (Fits counted Pairs) c → AllByRecursion (Fits counted PUses) d
    → length a < 2 ^ 32 → length b < 2 ^ 32 → length c < 2 ^ 32 → length d < 2 ^ 32 → length trailer ≡ 32
    → (part_at counted Blocks (written counted a ++ (written counted b ++ (written counted c ++ (written counted d ++ trailer)))) >>= first_step counted) ≡ some (read_back counted a b c d trailer)
four_again counted a b c d trailer fa fb fc fd la lb lc ld len =
    let td = written counted d ++ trailer in
    let tc = written counted c ++ td in
    let tb = written counted b ++ tc in
    let pa = listed counted a tb in
    let pb = listed counted b tc in
    let pc = listed counted c td in
    let pd = listed counted d trailer in
    ap (λ (o : Option Listed). o >>= first_step counted) (part_again counted Blocks a tb fa la)
    ∙ ap (λ (o : Option Listed). o >>= second_step counted pa) (part_again counted Outcomes b tc fb lb)
    ∙ ap (λ (o : Option Listed). o >>= third_step counted pa pb) (part_again counted Pairs c td fc lc)
    ∙ ap (λ (o : Option Listed). o >>= last_step pa pb pc) (part_again counted PUses d trailer fd ld)
    ∙ ap (λ (t : Bool). cond t (some (read_back counted a b c d trailer)) None) (eq-eqb (length trailer) 32 len)

pub parts_again : (counted : Bool) (opening : List ℕ) (a b c d : List Counted) (trailer : List ℕ) → length opening ≡ opening_size counted
    → AllByRecursion (Fits counted Blocks) a → AllByRecursion (Fits counted Outcomes) b → AllByRecursion (Fits counted Pairs) c → AllByRecursion (Fits counted PUses) d
    → length a < 2 ^ 32 → length b < 2 ^ 32 → length c < 2 ^ 32 → length d < 2 ^ 32 → length trailer ≡ 32
    → parts_of counted ((opening ++ glued counted a b c d) ++ trailer) ≡ Some (read_back counted a b c d trailer)
unfolding parts_of
parts_again counted opening a b c d trailer long fa fb fc fd la lb lc ld len =
    let lists = glued counted a b c d in
    let bytes = (opening ++ lists) ++ trailer in
    let split : bytes ≡ opening ++ (lists ++ trailer) = append_assoc opening lists trailer in
    let enough : opening_size counted ≤ length bytes = omega (arith, ap length split, length-append opening (lists ++ trailer)) in
    let start : drop (opening_size counted) bytes ≡ written counted a ++ (written counted b ++ (written counted c ++ (written counted d ++ trailer))) =
    ap (drop (opening_size counted)) split ∙ drop_at opening (lists ++ trailer) (opening_size counted) long ∙ sym (regrouped (written counted a) (written counted b) (written counted c) (written counted d) trailer) in
    ap (λ (t : Bool). cond t None (part_at counted Blocks (drop (opening_size counted) bytes) >>= first_step counted)) (le-ltb (length bytes) (opening_size counted) enough)
    ∙ ap (λ (x : List ℕ). part_at counted Blocks x >>= first_step counted) start
    ∙ four_again counted a b c d trailer fa fb fc fd la lb lc ld len
