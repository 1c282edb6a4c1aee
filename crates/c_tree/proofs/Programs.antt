-- What typing makes of a unit without complaint is a program, whose line, if there is one, has a digest.
use Rattle.std.proofs.Common.{◌≡◌, ◌≤◌, ℕ, List, [], length, Option, Some, None, Bool, true, false, is_some, refl, sym, ap, ◌∙◌, map, append-nil, length-append, subst, ◌∷◌, ◌-◌, arith}
use Rattle.std.proofs.Props.{props}
use Rattle.std.proofs.Math.Logic.{∥∥₁_elim}
use Rattle.std.proofs.lemmas.List.{length-map}
use Rattle.c_base.specs.declared.place.Pos.{Pos}
use Rattle.c_syntax.specs.Shape.{UnitShape}
use Rattle.c_syntax.specs.declared.token.Token.{Token}
use Rattle.c_syntax.specs.declared.tree.ProgramLine.{ProgramLine}
use Rattle.c_syntax.specs.Shaped.{ShapedUnit}
use Rattle.c_syntax.specs.Forms.{kinds_of}
use Rattle.c_syntax.specs.Grammar.{Placed, unit_form, tokens_of}
use Rattle.c_syntax.proofs.Written.{written_kinds}
use Rattle.c_constants.specs.Probes.{digest_of}
use Rattle.c_tables.specs.Tables.{TablesShape}
use Rattle.c_tree.specs.Lexed.{AreLexed}
use Rattle.c_tree.specs.State.{State, complain, demand}
use Rattle.c_tree.specs.Units.{TypedUnit, start, type_line, type_externals, any_main, type_unit, bodies, typed_unit, complaints}
use Rattle.c_tree.specs.Programs.{IsSound, IsProgram, HasFewTokens, itself, HoldsProgram, digest_in}
use Rattle.c_tree.proofs.AgainUnits.{unit_again}
use Rattle.c_tree.proofs.Bare.{unit_bare}
use Rattle.c_tree.proofs.BareForms.{tokens_same}
use Rattle.c_tree.proofs.Grows.{demand_grows}
use Rattle.c_tree.proofs.GrowsUnits.{externals_grow}

-- ---- typing once more

bodies_again : (k : Option (List Bool)) (u : UnitShape) → bodies (type_unit k u).unit ≡ bodies u
bodies_again k u = ap (λ (t : TypedUnit). map (λ f. is_some f.defined) t.state.tables.functions) (unit_again k None u)

pub typed_again : (u : UnitShape) → typed_unit (typed_unit u).unit ≡ typed_unit u
typed_again u = ap (λ b. type_unit (Some b) (typed_unit u).unit) (bodies_again (Some (bodies u)) u) ∙ unit_again (Some (bodies u)) (Some (bodies u)) u

pub program_typed : (u : UnitShape) → IsSound u → complaints u ≡ [] → IsProgram (typed_unit u).unit (typed_unit u).state.tables
program_typed u sound clean = record {
  source = u;
  sound = sound;
  typed = refl;
  noted = ap (λ (t : TypedUnit). t.unit) (typed_again u);
  tables = ap (λ (t : TypedUnit). t.state.tables) (typed_again u);
  clean = ap (λ (t : TypedUnit). t.state.complaints) (typed_again u) ∙ clean;
}

-- ---- its tokens

-- typing changes no token
pub typed_tokens : (u : UnitShape) → tokens_of (typed_unit u).unit ≡ tokens_of u
typed_tokens u = sym (tokens_same (typed_unit u).unit) ∙ (ap tokens_of (unit_bare (Some (bodies u)) u) ∙ tokens_same u)

pub program_lexed : (u : UnitShape) (t : TablesShape) → IsProgram u t → AreLexed (tokens_of u)
program_lexed u t is = subst AreLexed (sym (ap tokens_of is.typed ∙ typed_tokens is.source)) is.sound.lexed

pub program_held : (u : UnitShape) → IsSound u → HasFewTokens u → complaints u ≡ [] → HoldsProgram (typed_unit u).unit (typed_unit u).state.tables
program_held u sound few clean = record {
  program = program_typed u sound clean;
  limited = itself (subst (λ ks. length ks ≤ 350000) (sym (typed_tokens u)) few);
}

-- ---- a unit that was read

placed_kinds : (u : UnitShape) (ts : List Token) → Placed u ts → tokens_of u ≡ kinds_of ts
placed_kinds u ts placed = sym (written_kinds (unit_form u) ts [] placed.written ∙ append-nil (tokens_of u))

-- from tokens that a text gives: it is sound
pub is_sound : (u : UnitShape) (ts : List Token) → ShapedUnit u → Placed u ts → AreLexed (kinds_of ts) → IsSound u
is_sound u ts shaped placed lexed = record { shaped = shaped; lexed = subst AreLexed (sym (placed_kinds u ts placed)) lexed }

-- from few tokens: it has few
pub has_few : (u : UnitShape) (ts : List Token) → Placed u ts → length ts ≤ 350000 → HasFewTokens u
has_few u ts placed few =
    let same : length (tokens_of u) ≡ length ts = ap length (placed_kinds u ts placed) ∙ length-map ts _ in
    omega (arith, same, few)

-- ---- the program line

abbrev HasDigest : Option ProgramLine → Type 0
HasDigest l = is_some (digest_in l) ≡ is_some l

mended : (n token : ℕ) (p : Pos) (s : State) → length (complain n token p s).complaints ≡ 0 → ⊥
mended n token p s h = let e = length-append s.complaints (record { token = token; number = n; pos = p } ∷ []) in omega (arith, e, h)

demanded : (b : Bool) (n token : ℕ) (p : Pos) (s : State) → length (demand b n token p s).complaints ≡ 0 → b ≡ true
demanded true n token p s h = refl
demanded false n token p s h = absurd (mended n token p s h)

line_read : (l : Option ProgramLine) (s : State) → length (type_line l s).complaints ≡ 0 → HasDigest l
line_read None s h = refl
line_read (Some l) s h = demanded (is_some (digest_of l.digest)) 37 s.at l.pos s h

no_more : (m n k : ℕ) → m ≤ n → n ≤ k → k ≡ 0 → m ≡ 0
no_more m n k p q e = omega (arith, p, q, e)

-- nothing is complained of, so the line's digest is one
pub clean_line : (u : UnitShape) → complaints u ≡ [] → HasDigest u.line
clean_line u clean =
    let v = type_line u.line (start (Some (bodies u))) in
    let t = type_externals u.externals v in
    let last = demand_grows (any_main t.state.tables.functions) 38 (t.state.at - 1) u.last t.state in
    line_read u.line (start (Some (bodies u))) (no_more _ _ _ (externals_grow u.externals v) last (ap length clean))

same_prop : (a b : Bool) → IsProp (a ≡ b)
same_prop a b = hlevel props

pub held_line : (u : UnitShape) (t : TablesShape) → ∥ HoldsProgram u t ∥₁ → HasDigest u.line
held_line u t holds = ∥∥₁_elim holds (same_prop _ _) (λ h. clean_line u h.program.clean)
