-- The steps of scanning.
use Rattle.std.proofs.Common.{◌≡◌, ℕ, zero, suc, ◌<◌, ◌≤◌, List, length, drop, refl, sym, ap, ◌∙◌, arith, length-drop}
use Rattle.c_base.specs.declared.place.Pos.{Pos}
use Rattle.c_lex_pieces.specs.declared.front.Front.{Front}
use Rattle.c_lex_pieces.specs.Front.{front}
use Rattle.c_lex.specs.declared.lexer.TextKind.{TextKind}
use Rattle.c_lex.specs.declared.scan.LexRefusal.{LexRefusal}
use Rattle.c_lex.specs.declared.scan.LexRefusal.TheVariants.{At, NoMemory}
use Rattle.c_lex.specs.Scanner.{IsRefusal}
use Rattle.c_lex.specs.Scan.{State, Taken, goes, refuses, taken, Scanned, scanned, refused, behind, scan_in, Scans}
use Rattle.c_lex.specs.Given.{begin, scan, join_scanned, given, Refuses}
use Rattle.c_lex.proofs.Lines.{empty_true, empty_false}

end_in : (k : ℕ) (text : List ℕ) (s : State) → length text ≡ 0 → scan_in k text s ≡ scanned s.made.tokens
end_in zero text s h = refl
end_in (suc k) text s h = rw (empty_true text h) refl

pub scan_end : (text : List ℕ) (s : State) → length text ≡ 0 → Scans text s (scanned s.made.tokens)
scan_end text s h = record { holds = λ k lt. end_in k text s h }

step_in : (k : ℕ) (text : List ℕ) (s : State) (t : Taken) (r : Scanned) → 0 < length text → taken (front text) text s ≡ t → ((k : ℕ) → length text ≤ k → behind (scan_in k) t text ≡ r) → length text < k → scan_in k text s ≡ r
step_in zero text s t r h e g lt = absurd (omega (arith, lt))
step_in (suc k) text s t r h e g lt = rw (empty_false text h) (ap (λ x. behind (scan_in k) x text) e ∙ g k (omega (arith, lt)))

pub scan_refused : (text : List ℕ) (s : State) (n : ℕ) (p : Pos) → 0 < length text → taken (front text) text s ≡ refuses n p → Scans text s (refused n p)
scan_refused text s n p h e = record { holds = λ k lt. step_in k text s _ _ h e (λ k lt. refl) lt }

pub refused_at : (e : LexRefusal) (f : Front) (text all : List ℕ) (s start : State) → 0 < length text → f ≡ front text → IsRefusal e (taken f text s) → ((r : Scanned) → Scans text s r → Scans all start r) → Refuses e all start
refused_at (At n p) f text all s start h e q on = on (refused n p) (scan_refused text s n p h (ap (λ x. taken x text s) (sym e) ∙ q))
refused_at NoMemory f text all s start h e q on = tt

pub scan_on : (text : List ℕ) (s more : State) (n : ℕ) (r : Scanned) → 0 < length text → taken (front text) text s ≡ goes n more → 1 ≤ n → Scans (drop n text) more r → Scans text s r
scan_on text s more n r h e one q = record { holds = λ k lt. step_in k text s _ _ h e (λ k lt. q.holds k (omega (arith, length-drop n text, one, h, lt))) lt }

pub whole : (kind : TextKind) (text : List ℕ) (r : Scanned) → Scans text (begin kind) r → given kind text ≡ join_scanned r
unfolding scan
whole kind text r q = ap join_scanned (q.holds (suc (length text)) (omega arith))
