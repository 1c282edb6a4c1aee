-- Strings: one outside of a sizeof is an object, of no more chars than may live.
use Rattle.std.proofs.Common.{◌≡◌, ℕ, ◌+◌, ◌*◌, ◌≤◌, length, Bool, true, false, Some, None, refl, subst, sym, arith}
use Rattle.std.specs.Prelude.{nat_le, nat_lt, is_some, if◌then◌else◌}
use Rattle.std.proofs.lemmas.Bool.Decides.{nat_tests}
use Rattle.c_syntax.specs.declared.text.Text.{Text}
use Rattle.c_syntax.specs.Shape.{TypeOf}
use Rattle.c_type_rules.specs.Layouts.{Extent, known, too_large}
use Rattle.c_constants.specs.declared.constants.Constant.TheVariants.{Literal}
use Rattle.c_tree.specs.State.{State}
use Rattle.c_tree.specs.Rulings.{kind_at, by_room, whole}
use Rattle.c_tree.specs.Sorts.{note_of}
use Rattle.c_tree.specs.Operators.{string_type, literal_number}
use Rattle.c_meaning.specs.Places.{room}
use Rattle.c_meaning.specs.Constants.{literal_in}
use Rattle.probe_laws.proofs.Settled.{IsThere}

some_if : {A : Type 0} (b : Bool) (v : A) → b ≡ true → is_some (if b then Some v else None) ≡ true
some_if true v e = refl
some_if false v e = cc

few_chars : (n : ℕ) → nat_le ((n + 1) * 1) 1048576 ≡ true → nat_lt n 1048576 ≡ true
few_chars n e = let h : (n + 1) * 1 ≤ 1048576 = grind (arith, nat_tests) in let g : n + 1 ≤ 1048576 = omega arith in grind (arith, nat_tests)

within_room : (t : TypeOf) (x : Text) (e : Extent) (n : ℕ) (b : Bool) → nat_le ((length x + 1) * 1) 1048576 ≡ b → IsThere (kind_at (by_room (if b then known e else too_large) t))
    → is_some (literal_in (note_of (kind_at (by_room (if b then known e else too_large) t)) Literal (Some n) false) x) ≡ true
within_room t x e n true le h = some_if (nat_lt (length x) room) _ (few_chars (length x) le)
within_room t x e n false le h = absurd h

numbered : (q : Bool) (n : ℕ) → q ≡ false → (if q then None else Some n) ≡ Some n
numbered true n e = cc
numbered false n e = refl

pub string_some : (x : Text) (s : State) → s.quiet ≡ false → IsThere (kind_at (whole s.rooms (string_type x)))
    → is_some (literal_in (note_of (kind_at (whole s.rooms (string_type x))) Literal (literal_number s) false) x) ≡ true
string_some x s loud h =
    subst (λ o. is_some (literal_in (note_of (kind_at (whole s.rooms (string_type x))) Literal o false) x) ≡ true) (sym (numbered s.quiet (length s.tables.literals + 1) loud))
    (within_room (string_type x) x _ (length s.tables.literals + 1) (nat_le ((length x + 1) * 1) 1048576) refl h)
