-- How typing counts: stars, tags and declared names with the probes round them.
use Rattle.std.proofs.Common.{◌≡◌, ℕ, zero, suc, ◌+◌, List, [], ◌∷◌, Option, Some, None, Bool, true, refl, sym, ◌∙◌, arith}
use Rattle.std.proofs.lemmas.Bool.{false≢true}
use Rattle.std.specs.Prelude.{is_none}
use Rattle.c_base.specs.declared.place.Pos.{Pos}
use Rattle.c_syntax.specs.declared.text.Text.{Text}
use Rattle.c_syntax.specs.declared.tree.Named.{Named}
use Rattle.c_syntax.specs.declared.tree.ProbeMark.{ProbeMark}
use Rattle.c_syntax.specs.declared.tree.Star.{Star}
use Rattle.c_syntax.specs.Grammar.{named_as, named_form, maybe_named_form, consts_form, stars_form}
use Rattle.c_syntax.specs.Shape.{def}
use Rattle.c_syntax.specs.Shaped.{unprobed, in_names, name_fits}
use Rattle.c_tables.specs.Rows.{first_place, name_pos}
use Rattle.c_tree.specs.State.{State, step, steps}
use Rattle.c_tree.specs.Operators.{claim}
use Rattle.c_tree.specs.Parts.{star_tokens, tag_tokens}
use Rattle.c_tree.specs.Declaring.{probe_tokens, name_tokens, claim_mark, claim_name, token_of_name}
use Rattle.c_counted.proofs.Counting.{behind, kept, Stands, Held, moved_to, here, stepped_by, stepped, stepped4, demanded}
use Rattle.c_counted.proofs.Judging.{claim_held, TagAt}

-- ---- stars

consts_behind : (n c : ℕ) → behind n (consts_form c) ≡ n + c
consts_behind n zero = omega arith
consts_behind n (suc c) = consts_behind (n + 1) c ∙ omega arith

stars_behind : (n : ℕ) (stars : List Star) → behind n (stars_form stars) ≡ n + star_tokens stars
stars_behind n [] = omega arith
stars_behind n (x ∷ xs) = omega (arith, stars_behind (behind (n + 1) (consts_form x.consts)) xs, consts_behind (n + 1) x.consts)

pub stars_held : {P : ℕ → Pos → Type 0} (stars : List Star) (s : State) {n : ℕ} → Held P n s → Held P (behind n (stars_form stars)) (steps (star_tokens stars) s)
stars_held stars s {n} h = moved_to (sym (stars_behind n stars)) (stepped_by (star_tokens stars) h)

-- ---- names without probes

plain_place : (P : ℕ → Pos → Type 0) (n : ℕ) (p : Pos) (x : Text) (o : Option ProbeMark) → is_none o ≡ true → Stands P n (named_as p x o) → P (kept n) p
plain_place P n p x None e w = w
plain_place P n p x (Some d) e w = absurd (false≢true e)

plain_behind : (n : ℕ) (p : Pos) (x : Text) (o : Option ProbeMark) → is_none o ≡ true → behind n (named_as p x o) ≡ n + 1
plain_behind n p x None e = refl
plain_behind n p x (Some d) e = absurd (false≢true e)

pub plain_at : {P : ℕ → Pos → Type 0} (x : Named) (s : State) {n : ℕ} → is_none x.probe ≡ true → Stands P n (named_form x) → Held P n s → P s.at x.pos
plain_at {P} x s {n} e w h = here h (plain_place P n x.pos x.text x.probe e w)

pub plain_held : {P : ℕ → Pos → Type 0} (x : Named) (s : State) {n : ℕ} → is_none x.probe ≡ true → Held P n s → Held P (behind n (named_form x)) (step s)
plain_held x s {n} e h = moved_to (sym (plain_behind n x.pos x.text x.probe e)) (stepped h)

pub tag_at : {P : ℕ → Pos → Type 0} (t : Option Named) (s : State) {n : ℕ} → unprobed t ≡ true → Stands P n (maybe_named_form t) → Held P n s → TagAt P s.at t
tag_at None s e w h = tt
tag_at (Some x) s e w h = plain_at x s e w h

pub tag_held : {P : ℕ → Pos → Type 0} (t : Option Named) (s : State) {n : ℕ} → unprobed t ≡ true → Held P n s → Held P (behind n (maybe_named_form t)) (steps (tag_tokens t) s)
tag_held None s e h = moved_to (omega arith) (stepped_by 0 h)
tag_held (Some x) s e h = plain_held x s e h

-- ---- names and the probes round them

name_behind : (n : ℕ) (p : Pos) (x : Text) (o : Option ProbeMark) → behind n (named_as p x o) ≡ n + (1 + probe_tokens 5 o)
name_behind n p x None = omega arith
name_behind n p x (Some d) = omega arith

pub name_held : {P : ℕ → Pos → Type 0} (x : Option Named) (s : State) {n : ℕ} → Held P n s → Held P (behind n (maybe_named_form x)) (steps (name_tokens x) s)
name_held None s h = moved_to (omega arith) (stepped_by 0 h)
name_held (Some x) s {n} h = moved_to (sym (name_behind n x.pos x.text x.probe)) (stepped_by (1 + probe_tokens 5 x.probe) h)

word_at : {P : ℕ → Pos → Type 0} (p : Pos) (x : Text) (o : Option ProbeMark) (s : State) {n : ℕ} → Stands P n (named_as p x o) → Held P n s → P (steps (probe_tokens 4 o) s).at p
word_at p x None s w h = here (moved_to (omega arith) (stepped_by 0 h)) w
word_at p x (Some d) s w h = here (stepped4 h) w.1.1.0.1.1

-- a name that is there stands at its word
pub name_at : {P : ℕ → Pos → Type 0} (first : ℕ) (x : Option Named) (s : State) {n : ℕ} → name_fits in_names x ≡ true → Stands P n (maybe_named_form x) → Held P n s → P (token_of_name first x s) (name_pos first_place x)
name_at first None s e w h = absurd (false≢true e)
name_at first (Some x) s e w h = word_at x.pos x.text x.probe s w h

-- where there is none, something else stands for it
pub name_or : {P : ℕ → Pos → Type 0} (first : ℕ) (p : Pos) (x : Option Named) (s : State) {n : ℕ} → P first p → Stands P n (maybe_named_form x) → Held P n s → P (token_of_name first x s) (name_pos p x)
name_or first p None s y w h = y
name_or first p (Some x) s y w h = word_at x.pos x.text x.probe s w h

mark_held : {P : ℕ → Pos → Type 0} (fit : Bool) (p : Pos) (x : Text) (o : Option ProbeMark) (s : State) {n : ℕ} → Stands P n (named_as p x o) → Held P n s → Held P n (claim_mark fit o s)
mark_held fit p x None s w h = h
mark_held fit p x (Some m) s w h = demanded fit 37 s.at m.pos (claim def m.number s.at m.pos s) (here h w.0) (claim_held def m.number s.at m.pos s (here h w.0) h)

pub claim_name_held : {P : ℕ → Pos → Type 0} (fit : Bool) (x : Option Named) (s : State) {n : ℕ} → Stands P n (maybe_named_form x) → Held P n s → Held P n (claim_name fit x s)
claim_name_held fit None s w h = h
claim_name_held fit (Some x) s w h = mark_held fit x.pos x.text x.probe s w h
