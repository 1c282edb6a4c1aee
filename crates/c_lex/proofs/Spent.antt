-- Counting step by step passes a limit exactly where the whole expansion does.
use Rattle.std.proofs.Common.{◌≡◌, ℕ, suc, ◌+◌, ◌-◌, List, [], ◌∷◌, ◌++◌, Some, None, Bool, true, false, refl, sym, ap, ◌∙◌, arith, cond, append_assoc, append-nil, length, nat_lt}
use Rattle.std.specs.Prelude.{flat_map, option_and_then, ◌&&◌, ◌||◌, nat_le}
use Rattle.std.specs.List.{list_any}
use Rattle.std.proofs.lemmas.Bool.Decides.{nat_tests}
use Rattle.c_base.specs.declared.place.Pos.{Pos}
use Rattle.c_syntax.specs.declared.token.Token.{Token}
use Rattle.c_lex_pieces.specs.Kinds.{kind}
use Rattle.c_lex.specs.declared.output.Room.{Room}
use Rattle.c_lex.specs.Macros.{Spelled, bytes_of}
use Rattle.c_lex.specs.Output.{Made, is_left_out, tokens_at}
use Rattle.c_lex.specs.Expand.{Step, replaced, gave, gives, replacements, fits, all_given}
use Rattle.c_lex.specs.Replacing.{spent}

room_at : ℕ → ℕ → ℕ → Room
room_at a b c = record { tokens = a; bytes = b; replacements = c }

made_at : List Token → Room → Bool → Made
made_at ts r l = record { tokens = ts; room = r; left_out = l }

same_made : (ts us : List Token) (a b c d e f : ℕ) (l m : Bool) → ts ≡ us → a ≡ d → b ≡ e → c ≡ f → l ≡ m → made_at ts (room_at a b c) l ≡ made_at us (room_at d e f) m
unfolding made_at room_at
same_made ts us a b c d e f l m p q r s t = cc

or_nothing : (b : Bool) → (b || false) ≡ b
or_nothing true = refl
or_nothing false = refl

or_more : (a b c : Bool) → ((a || b) || c) ≡ (a || (b || c))
or_more true b c = refl
or_more false true c = refl
or_more false false c = refl

le_zero : (n : ℕ) → nat_le 0 n ≡ true
le_zero n = grind (arith, nat_tests)

-- one more of something
le_more : (n k : ℕ) → nat_le (1 + k) n ≡ (nat_lt 0 n && nat_le k (n - 1))
le_more n k = grind (arith, nat_tests)

le_many : (m n k : ℕ) → nat_le (m + k) n ≡ (nat_le m n && nat_le k (n - m))
le_many m n k = grind (arith, nat_tests)

le_suc : (n k : ℕ) → nat_le (suc k) n ≡ (nat_lt 0 n && nat_le k (n - 1))
le_suc n k = grind (arith, nat_tests)

and_false : (x : Bool) → (x && false) ≡ false
and_false true = refl
and_false false = refl

-- one choice is another
same_choice : (a b : Bool) (m n : Made) → a ≡ b → m ≡ n → cond a (Some m) None ≡ cond b (Some n) None
same_choice a b m n e f = ap (λ c. cond c (Some m) None) e ∙ ap (λ k. cond b (Some k) None) f

none_fits : (a : Bool) (m : Made) → a ≡ false → None ≡ cond a (Some m) None
none_fits a m e = sym (ap (λ c. cond c (Some m) None) e)

after : Pos → Made → List Step → Made
after p m ss = record {
  tokens = m.tokens ++ flat_map (λ t. tokens_at p (kind t.0 t.1)) (gives ss);
  room = record { tokens = m.room.tokens - length (gives ss); bytes = m.room.bytes - bytes_of (gives ss); replacements = m.room.replacements - replacements ss };
  left_out = m.left_out || list_any is_left_out (gives ss);
}

nothing_spent : (p : Pos) (m : Made) → Some m ≡ all_given p m []
unfolding after made_at room_at
nothing_spent p m =
    let t = le_zero m.room.tokens in
    let b = le_zero m.room.bytes in
    let r = le_zero m.room.replacements in
    let all : fits m.room [] ≡ true = ap (λ x. x && (nat_le 0 m.room.bytes && nat_le 0 m.room.replacements)) t ∙ ap (λ x. x && nat_le 0 m.room.replacements) b ∙ r in
    same_choice true (fits m.room []) m (after p m []) (sym all)
    (same_made m.tokens (m.tokens ++ []) m.room.tokens m.room.bytes m.room.replacements (m.room.tokens - 0) (m.room.bytes - 0) (m.room.replacements - 0) m.left_out (m.left_out || false)
    (sym (append-nil m.tokens)) (omega arith) (omega arith) (omega arith) (sym (or_nothing m.left_out)))

one_replaced : Made → Made
one_replaced m = record m { room = record { tokens = m.room.tokens; bytes = m.room.bytes; replacements = m.room.replacements - 1 } }

replaced_step : (b : Bool) (p : Pos) (m : Made) (ss : List Step) → nat_lt 0 m.room.replacements ≡ b → spent p (one_replaced m) ss ≡ all_given p (one_replaced m) ss → option_and_then (λ n. spent p n ss) (cond b (Some (one_replaced m)) None) ≡ all_given p m (replaced ∷ ss)
unfolding one_replaced after made_at room_at
replaced_step true p m ss e ih =
    let r : nat_le (1 + replacements ss) m.room.replacements ≡ nat_le (replacements ss) (m.room.replacements - 1) = le_more m.room.replacements (replacements ss) ∙ ap (λ x. x && nat_le (replacements ss) (m.room.replacements - 1)) e in
    ih
    ∙ same_choice (fits (one_replaced m).room ss) (fits m.room (replaced ∷ ss)) (after p (one_replaced m) ss) (after p m (replaced ∷ ss))
    (ap (λ x. nat_le (length (gives ss)) m.room.tokens && (nat_le (bytes_of (gives ss)) m.room.bytes && x)) (sym r))
    (same_made _ _ _ _ _ _ _ _ _ _ refl refl refl (omega arith) refl)
replaced_step false p m ss e ih =
    let r : nat_le (1 + replacements ss) m.room.replacements ≡ false = le_more m.room.replacements (replacements ss) ∙ ap (λ x. x && nat_le (replacements ss) (m.room.replacements - 1)) e in
    none_fits (fits m.room (replaced ∷ ss)) (after p m (replaced ∷ ss))
    (ap (λ x. nat_le (length (gives ss)) m.room.tokens && (nat_le (bytes_of (gives ss)) m.room.bytes && x)) r
    ∙ ap (λ x. nat_le (length (gives ss)) m.room.tokens && x) (and_false (nat_le (bytes_of (gives ss)) m.room.bytes)) ∙ and_false (nat_le (length (gives ss)) m.room.tokens))

one_put : Pos → Spelled → Made → Made
one_put p t m = record {
  tokens = m.tokens ++ tokens_at p (kind t.0 t.1);
  room = record { tokens = m.room.tokens - 1; bytes = m.room.bytes - length t.1; replacements = m.room.replacements };
  left_out = m.left_out || is_left_out t;
}

gave_step : (a b : Bool) (p : Pos) (t : Spelled) (m : Made) (ss : List Step) → nat_lt 0 m.room.tokens ≡ a → nat_le (length t.1) m.room.bytes ≡ b → spent p (one_put p t m) ss ≡ all_given p (one_put p t m) ss → option_and_then (λ n. spent p n ss) (cond (a && b) (Some (one_put p t m)) None) ≡ all_given p m (gave t ∷ ss)
unfolding one_put after made_at room_at
gave_step true true p t m ss e f ih =
    let c : nat_le (suc (length (gives ss))) m.room.tokens ≡ nat_le (length (gives ss)) (m.room.tokens - 1) = le_suc m.room.tokens (length (gives ss)) ∙ ap (λ x. x && nat_le (length (gives ss)) (m.room.tokens - 1)) e in
    let d : nat_le (length t.1 + bytes_of (gives ss)) m.room.bytes ≡ nat_le (bytes_of (gives ss)) (m.room.bytes - length t.1) = le_many (length t.1) m.room.bytes (bytes_of (gives ss)) ∙ ap (λ x. x && nat_le (bytes_of (gives ss)) (m.room.bytes - length t.1)) f in
    ih
    ∙ same_choice (fits (one_put p t m).room ss) (fits m.room (gave t ∷ ss)) (after p (one_put p t m) ss) (after p m (gave t ∷ ss))
    (ap (λ x. x && (nat_le (bytes_of (gives ss)) (m.room.bytes - length t.1) && nat_le (replacements ss) m.room.replacements)) (sym c)
    ∙ ap (λ x. nat_le (suc (length (gives ss))) m.room.tokens && (x && nat_le (replacements ss) m.room.replacements)) (sym d))
    (same_made _ _ _ _ _ _ _ _ _ _ (append_assoc m.tokens (tokens_at p (kind t.0 t.1)) (flat_map (λ (u : Spelled). tokens_at p (kind u.0 u.1)) (gives ss))) (omega arith) (omega arith) refl (or_more m.left_out (is_left_out t) (list_any is_left_out (gives ss))))
gave_step true false p t m ss e f ih =
    let d : nat_le (length t.1 + bytes_of (gives ss)) m.room.bytes ≡ false = le_many (length t.1) m.room.bytes (bytes_of (gives ss)) ∙ ap (λ x. x && nat_le (bytes_of (gives ss)) (m.room.bytes - length t.1)) f in
    none_fits (fits m.room (gave t ∷ ss)) (after p m (gave t ∷ ss))
    (ap (λ x. nat_le (suc (length (gives ss))) m.room.tokens && (x && nat_le (replacements ss) m.room.replacements)) d ∙ and_false (nat_le (suc (length (gives ss))) m.room.tokens))
gave_step false b p t m ss e f ih =
    let c : nat_le (suc (length (gives ss))) m.room.tokens ≡ false = le_suc m.room.tokens (length (gives ss)) ∙ ap (λ x. x && nat_le (length (gives ss)) (m.room.tokens - 1)) e in
    none_fits (fits m.room (gave t ∷ ss)) (after p m (gave t ∷ ss))
    (ap (λ x. x && (nat_le (length t.1 + bytes_of (gives ss)) m.room.bytes && nat_le (replacements ss) m.room.replacements)) c)

-- the steps come to the whole
pub spent_all : (p : Pos) (m : Made) (ss : List Step) → spent p m ss ≡ all_given p m ss
unfolding one_put one_replaced
spent_all p m [] = nothing_spent p m
spent_all p m (replaced ∷ ss) = replaced_step (nat_lt 0 m.room.replacements) p m ss refl (spent_all p (one_replaced m) ss)
spent_all p m (gave t ∷ ss) = gave_step (nat_lt 0 m.room.tokens) (nat_le (length t.1) m.room.bytes) p t m ss refl refl (spent_all p (one_put p t m) ss)
