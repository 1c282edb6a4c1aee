-- The steps of cutting a line.
use Rattle.std.proofs.Common.{◌≡◌, ℕ, zero, suc, ◌+◌, ◌<◌, ◌≤◌, List, [], ◌∷◌, ◌++◌, length, take, drop, map, Some, None, true, false, refl, ap, ◌∙◌, arith, length-drop}
use Rattle.std.specs.Prelude.{◌==◌}
use Rattle.std.proofs.lemmas.List.{map-append}
use Rattle.c_lex_pieces.specs.declared.front.Class.{Class}
use Rattle.c_lex_pieces.specs.declared.front.Front.{Front}
use Rattle.c_lex_pieces.specs.declared.front.Front.TheVariants as front_is
use Rattle.c_lex_pieces.specs.Front.{front}
use Rattle.c_lex.specs.declared.line.End.{End}
use Rattle.c_lex.specs.declared.line.End.TheVariants as ends
use Rattle.c_lex.specs.declared.table.Piece.{Piece}
use Rattle.c_lex.specs.Macros.{Spelled, bytes_of, spelled}
use Rattle.c_lex.specs.Line.{LineCut, end_at, line_to, line_piece, line_front, line_in, line_of, Lines}

pub spelled_more : (ps : List Piece) (p : Piece) → map spelled (ps ++ p ∷ []) ≡ map spelled ps ++ spelled p ∷ []
spelled_more ps p = map-append spelled ps (p ∷ [])

pub bytes_more : (ps : List Spelled) (p : Spelled) → bytes_of (ps ++ p ∷ []) ≡ bytes_of ps + length p.1
bytes_more [] p = omega arith
bytes_more (q ∷ ps) p = omega (arith, bytes_more ps p)

pub empty_true : (text : List ℕ) → length text ≡ 0 → (length text == 0) ≡ true
empty_true [] h = refl
empty_true (b ∷ bs) h = absurd (omega (arith, h))

pub empty_false : (text : List ℕ) → 0 < length text → (length text == 0) ≡ false
empty_false [] h = absurd (omega (arith, h))
empty_false (b ∷ bs) h = search arith

end_in : (k : ℕ) (text : List ℕ) (ps : List Spelled) (n : ℕ) → length text ≡ 0 → length text < k → line_in k text ps n ≡ line_to ps n ends.Whole
end_in zero text ps n h lt = refl
end_in (suc k) text ps n h lt = rw (empty_true text h) refl

pub line_end : (text : List ℕ) (ps : List Spelled) (n : ℕ) → length text ≡ 0 → Lines text ps n (line_to ps n ends.Whole)
line_end text ps n h = record { holds = λ k lt. end_in k text ps n h lt }

step_in : (k : ℕ) (text : List ℕ) (ps : List Spelled) (n : ℕ) (f : Front) (r : LineCut) → 0 < length text → front text ≡ f → ((k : ℕ) → length text ≤ k → line_front (line_in k) f text ps n ≡ r) → length text < k → line_in k text ps n ≡ r
step_in zero text ps n f r h e g lt = absurd (omega (arith, lt))
step_in (suc k) text ps n f r h e g lt = rw (empty_false text h) (ap (λ x. line_front (line_in k) x text ps n) e ∙ g k (omega (arith, lt)))

step : (text : List ℕ) (ps : List Spelled) (n : ℕ) (f : Front) (r : LineCut) → 0 < length text → front text ≡ f → ((k : ℕ) → length text ≤ k → line_front (line_in k) f text ps n ≡ r) → Lines text ps n r
step text ps n f r h e g = record { holds = λ k lt. step_in k text ps n f r h e g lt }

pub line_refused : (text : List ℕ) (ps : List Spelled) (n r : ℕ) → 0 < length text → front text ≡ front_is.Refused r → Lines text ps n (line_to ps n (ends.Refused r))
line_refused text ps n r h e = step text ps n _ _ h e (λ k lt. refl)

pub line_stop : (text : List ℕ) (ps : List Spelled) (n : ℕ) (c : Class) (m : ℕ) (d : End) → 0 < length text → front text ≡ front_is.Piece c m → end_at c ≡ Some d → Lines text ps n (line_to ps n d)
line_stop text ps n c m d h e f = step text ps n _ _ h e (λ k lt. ap (λ x. line_piece (line_in k) x c m text ps n) f)

pub line_on : (text : List ℕ) (ps : List Spelled) (n : ℕ) (c : Class) (m : ℕ) (r : LineCut) → 0 < length text → front text ≡ front_is.Piece c m → end_at c ≡ None → 1 ≤ m → Lines (drop m text) (ps ++ (c, take m text) ∷ []) (n + m) r → Lines text ps n r
line_on text ps n c m r h e f one q = step text ps n _ _ h e (λ k lt. ap (λ x. line_piece (line_in k) x c m text ps n) f ∙ q.holds k (omega (arith, length-drop m text, one, h, lt)))

pub line_whole : (text : List ℕ) (r : LineCut) → Lines text [] 0 r → line_of text ≡ r
unfolding line_of
line_whole text r q = q.holds (suc (length text)) (omega arith)
