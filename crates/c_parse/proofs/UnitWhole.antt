-- Units: what is read is one that the grammar allows, it is the only one, and where none can be read.
use Rattle.std.proofs.Common.{◌≡◌, ℕ, zero, suc, ◌+◌, ◌≤◌, ◌<◌, List, [], ◌∷◌, length, Option, Some, None, true, false, refl, sym, ap, ◌∙◌, subst, arith, inl, inr}
use Rattle.std.specs.Prelude.{◌≢◌, map}
use Rattle.c_base.specs.declared.place.Pos.{Pos}
use Rattle.c_syntax.specs.declared.text.Text.{Text}
use Rattle.c_syntax.specs.declared.token.Mark.TheVariants as marks
use Rattle.c_syntax.specs.declared.token.ProbeWord.TheVariants as words
use Rattle.c_syntax.specs.declared.token.Token.{Token}
use Rattle.c_syntax.specs.declared.token.TokenKind.{TokenKind}
use Rattle.c_syntax.specs.declared.token.TokenKind.TheVariants as kind
use Rattle.c_syntax.specs.declared.tree.ProgramLine.{ProgramLine}
use Rattle.c_syntax.specs.declared.tree.External.{External}
use Rattle.c_syntax.specs.Forms.{Form, nothing, is, at, starts, seq, ◌▷◌, Written, head, a_token, no_token, place, last_place}
use Rattle.c_syntax.specs.Shape.{decl, no_declarators, more_declarators, ExternalShape, defined, declared, UnitShape}
use Rattle.c_syntax.specs.Grammar.{line_form, maybe_line_form, external_form, externals_form, unit_form, Placed}
use Rattle.c_syntax.specs.Levels.{external_height, externals_height}
use Rattle.c_syntax.specs.Shaped.{ShapedExternal, ShapedExternals, ShapedUnit}
use Rattle.c_syntax.specs.View.{external_shape}
use Rattle.c_grammar.specs.Look.{got, then_go, either_way, Finds, after, after_probe, string_head, a_string}
use Rattle.c_grammar.specs.Starts.{is_spec, spec_of_head, spec_head}
use Rattle.c_grammar_stmt.specs.StmtReader.{line_end, line_closed, line_from, line_got, reads_line, external_onto, external_more, reads_external, reads_externals, unit_at}
use Rattle.c_grammar_stmt.specs.StmtParts.{ReadExternals, ExternalsFrom, Front, BehindLongest, SyntaxAt, NoUnit}
use Rattle.c_grammar.proofs.Looking.{got_eq, not_got, went, opened, same_answer, after_is, after_of, after_probe_is, after_probe_of, expect_is, string_is}
use Rattle.c_grammar.proofs.ExprSound.{moved}
use Rattle.c_grammar.proofs.CompleteDecl.{specs_begin}
use Rattle.c_grammar_stmt.proofs.StmtSteps.{line_none, line_found, nothing_external, externals_read}
use Rattle.c_grammar_stmt.proofs.StmtSound.{external_sound}
use Rattle.c_grammar_stmt.proofs.StmtComplete.{complete_external}

-- LENGTHS

token_eq : (t : Token) (ts rest : List Token) (k : TokenKind) → head (t ∷ ts) ≡ a_token k rest → ts ≡ rest
token_eq t ts rest k e = (let h : a_token t.kind ts ≡ a_token k rest = e in cc)

pub shorter_by_one : (ts rest : List Token) (k : TokenKind) → head ts ≡ a_token k rest → length rest < length ts
shorter_by_one [] rest k e = absurd (let h : no_token ≡ a_token k rest = e in cc)
shorter_by_one (t ∷ ts) rest k e = subst (λ l. length l < suc (length ts)) (token_eq t ts rest k e) (omega arith)

-- what is written in front only leaves less
pub no_longer : (f : Form) (ts rest : List Token) → Written f ts rest → length rest ≤ length ts
no_longer nothing ts rest w = subst (λ l. length l ≤ length ts) w (omega arith)
no_longer (is k) ts rest w = let h = shorter_by_one ts rest k w in omega (arith, h)
no_longer (at p k) ts rest w = let h = shorter_by_one ts rest k w.1 in omega (arith, h)
no_longer (starts p f) ts rest w = no_longer f ts rest w.1
no_longer (seq f g) ts rest w =
    let h = no_longer f ts w.middle w.first in
    let i = no_longer g w.middle rest w.second in
    omega (arith, h, i)

no_tokens : (ts : List Token) → length ts ≡ 0 → ts ≡ []
no_tokens [] e = refl
no_tokens (t ∷ ts) e = absurd (omega (arith, e))

no_length : (ts : List Token) → ts ≡ [] → length ts ≡ 0
no_length ts e = ap length e

-- PROGRAM LINES

line_closed_sound : (p : Pos) (t : Text) (l : ProgramLine) (ts rest : List Token) → line_closed p t ts ≡ got l rest → (r : List Token) × (head ts ≡ a_token (kind.Mark marks.RightParen) r) × (record { pos = p; digest = t } ≡ l) × (head r ≡ a_token (kind.Mark marks.Semicolon) rest)
line_closed_sound p t l ts rest e =
    let o = opened (after marks.RightParen ts) (line_end p t) l rest e in
    let c = expect_is marks.Semicolon (record { pos = p; digest = t }) l o.0 rest o.2 in
    (o.0, after_is marks.RightParen ts o.0 o.1, c.0, c.1)

line_from_sound : (l : ProgramLine) (ts r rest : List Token) → head ts ≡ a_token (kind.Probe words.Program) r → line_from (place ts) r ≡ got l rest → Written (line_form l) ts rest
line_from_sound l ts r rest h e =
    let o = opened (after marks.LeftParen r) (λ x. then_go (a_string x) (line_closed (place ts))) l rest e in
    let v = went (a_string o.0) (line_closed (place ts)) l rest o.2 in
    let c = line_closed_sound (place ts) v.0 l v.1 rest v.3 in
    subst (λ (m : ProgramLine). Written (line_form m) ts rest) c.2 (record {
      middle = r;
      first = (refl, h);
      second = record { middle = c.0; first = record { middle = o.0; first = after_is marks.LeftParen r o.0 o.1; second = record { middle = v.1; first = string_is o.0 v.0 v.1 v.2; second = c.1 } }; second = c.3 };
    })

line_by : (ts : List Token) (o : Option (List Token)) (l : Option ProgramLine) (rest : List Token) → after_probe words.Program ts ≡ o → either_way o (λ r. then_go (line_from (place ts) r) line_got) (got None ts) ≡ got l rest → Written (maybe_line_form l) ts rest
line_by ts None l rest b e = moved (λ (m : Option ProgramLine) y. Written (maybe_line_form m) ts y) None l ts rest e refl
line_by ts (Some r) l rest b e =
    let v = went (line_from (place ts) r) line_got l rest e in
    moved (λ (m : Option ProgramLine) y. Written (maybe_line_form m) ts y) (Some v.0) l v.1 rest v.3 (line_from_sound v.0 ts r v.1 (after_probe_is words.Program ts r b) v.2)

pub line_sound : (ts : List Token) (l : Option ProgramLine) (rest : List Token) → reads_line ts ≡ got l rest → Written (maybe_line_form l) ts rest
line_sound ts l rest e = line_by ts (after_probe words.Program ts) l rest refl e

pub complete_line : (l : ProgramLine) (ts rest : List Token) → Written (line_form l) ts rest → reads_line ts ≡ got (Some l) rest
complete_line l ts rest w =
    let r = w.middle in
    let i = w.second in
    let j = i.first in
    let k = j.second in
    subst (λ p. reads_line ts ≡ got (Some (record { pos = p; digest = l.digest })) rest) (sym w.first.0)
    (line_found l.digest ts r j.middle k.middle i.middle rest (after_probe_of words.Program ts r w.first.1) (after_of marks.LeftParen r j.middle j.first) (ap string_head k.first) (after_of marks.RightParen k.middle i.middle k.second) (after_of marks.Semicolon i.middle rest i.second))

-- EXTERNAL DECLARATIONS

external_begins : (e : ExternalShape) (ts x : List Token) → ShapedExternal e → Written (external_form e) ts x → is_spec (spec_head ts) ≡ true
external_begins (defined specs d ms c) ts x s w = specs_begin specs ts w.middle s.0 w.first
external_begins (declared (decl p specs no_declarators)) ts x s w = specs_begin specs ts w.1.middle s.1 w.1.first
external_begins (declared (decl p specs (more_declarators t rest))) ts x s w = specs_begin specs ts w.1.middle s.0 w.1.first

unlined : (ts : List Token) (o : Option (List Token)) → after_probe words.Program ts ≡ o → is_spec (spec_head ts) ≡ true → after_probe words.Program ts ≡ None
unlined ts None b e = b
unlined ts (Some r) b e = absurd (let h : false ≡ true = sym (ap (λ h. is_spec (spec_of_head h)) (after_probe_is words.Program ts r b)) ∙ e in cc)

-- what was read is written, and allowed
pub record ExternalsFit (es : List ExternalShape) (ts rest : List Token) : Type 0 where
  pub written : Written (externals_form es) ts rest
  pub shaped : ShapedExternals es
  pub low : externals_height es ≤ 400

one_fits : (e : ExternalShape) (es : List ExternalShape) (ts x rest : List Token) (k : ℕ) → reads_external k ts ≡ got e x → ExternalsFit es x rest → ExternalsFit (e ∷ es) ts rest
one_fits e es ts x rest k q f =
    let g = external_sound k ts e x q in
    let low : external_height e + 0 ≤ 400 = g.low in
    let lows : externals_height es ≤ 400 = f.low in
    record { written = record { middle = x; first = g.written; second = f.written }; shaped = (g.shaped, f.shaped); low = omega (arith, low, lows) }

pub read_fits : (es : List ExternalShape) (ts rest : List Token) → ReadExternals es ts rest → ExternalsFit es ts rest
read_fits [] ts rest p = record { written = p; shaped = tt; low = omega arith }
read_fits (e ∷ es) ts rest p = one_fits e es ts p.middle rest p.first.from (p.first.holds p.first.from (omega arith)) (read_fits es p.middle rest p.second)

-- what is written, and allowed, is read
pub written_read : (es : List ExternalShape) (ts rest : List Token) → ShapedExternals es → Written (externals_form es) ts rest → externals_height es ≤ 400 → ReadExternals es ts rest
written_read [] ts rest s w low = w
written_read (e ∷ es) ts rest s w low = record { middle = w.middle; first = complete_external e ts w.middle s.0 w.first (omega (arith, low)); second = written_read es w.middle rest s.1 w.second (omega (arith, low)) }

externals_sound : (k : ℕ) (ts : List Token) (es : List ExternalShape) (rest : List Token) → reads_externals k ts ≡ got es rest → ExternalsFit es ts [] × (rest ≡ [])
externals_sound zero ts es rest e = not_got es rest e
externals_sound (suc k) [] es rest e = moved (λ (l : List ExternalShape) y. ExternalsFit l [] [] × (y ≡ [])) [] es [] rest e (record { written = refl; shaped = tt; low = omega arith }, refl)
externals_sound (suc k) (t ∷ ts) es rest e =
    let v = went (reads_external k (t ∷ ts)) (external_more (λ l. reads_externals k l)) es rest e in
    let w = went (reads_externals k v.1) (external_onto v.0) es rest v.3 in
    let f = externals_sound k v.1 w.0 w.1 w.2 in
    moved (λ (l : List ExternalShape) y. ExternalsFit l (t ∷ ts) [] × (y ≡ [])) (v.0 ∷ w.0) es w.1 rest w.3 (one_fits v.0 w.0 (t ∷ ts) v.1 [] k v.2 f.0, f.1)

pub externals_found_fit : (ts : List Token) (es : List ExternalShape) (rest : List Token) → Finds reads_externals ts (Some (es, rest)) → ExternalsFit es ts []
externals_found_fit ts es rest p = (externals_sound p.from ts es rest (p.holds p.from (omega arith))).0

never : {A : Type 0} {P : Type 0} (a : A) (x : List Token) → None ≡ got a x → P
never {A} a x e = absurd (let h : None ≡ got a x = e in cc)

-- two readings of all tokens are one
read_once : (es fs : List ExternalShape) (ts : List Token) → ReadExternals es ts [] → ReadExternals fs ts [] → es ≡ fs
read_once [] [] ts p q = refl
read_once [] (f ∷ fs) ts p q = absurd (nothing_external f q.middle (subst (λ l. Finds reads_external l (got f q.middle)) p q.first))
read_once (e ∷ es) [] ts p q = absurd (nothing_external e p.middle (subst (λ l. Finds reads_external l (got e p.middle)) q p.first))
read_once (e ∷ es) (f ∷ fs) ts p q =
    let g = got_eq e f p.middle q.middle (same_answer reads_external ts (got e p.middle) (got f q.middle) p.first q.first) in
    ap (λ a. a ∷ es) g.0 ∙ ap (λ l. f ∷ l) (read_once es fs p.middle p.second (subst (λ l. ReadExternals fs l []) (sym g.1) q.second))

read_longer : (es : List ExternalShape) (ts rest : List Token) → ReadExternals es ts rest → length rest ≤ length ts
read_longer es ts rest p = no_longer (externals_form es) ts rest (read_fits es ts rest p).written

-- where nothing further can be read, no other reading comes further
farthest : (es fs : List ExternalShape) (ts rest other : List Token) → ReadExternals es ts rest → Finds reads_external rest None → ReadExternals fs ts other → length rest ≤ length other
farthest es [] ts rest other p n q = subst (λ l. length rest ≤ length l) q (read_longer es ts rest p)
farthest [] (f ∷ fs) ts rest other p n q = never f q.middle (same_answer reads_external ts None (got f q.middle) (subst (λ l. Finds reads_external l None) (sym p) n) q.first)
farthest (e ∷ es) (f ∷ fs) ts rest other p n q =
    let g = got_eq e f p.middle q.middle (same_answer reads_external ts (got e p.middle) (got f q.middle) p.first q.first) in
    farthest es fs p.middle rest other p.second n (subst (λ l. ReadExternals fs l other) (sym g.1) q.second)

-- UNITS

-- how a unit is read
record UnitRead (l : Option ProgramLine) (es : List ExternalShape) (ts rest : List Token) : Type 0 where
  behind : List Token
  line : reads_line ts ≡ got l behind
  externals : ReadExternals es behind rest

parts_read : (l : Option ProgramLine) (es : List ExternalShape) (ts rest : List Token) → es ≢ [] → ShapedExternals es → externals_height es ≤ 400 → Written (maybe_line_form l ▷ externals_form es) ts rest → UnitRead l es ts rest
parts_read (Some l) es ts rest n s low w = record { behind = w.middle; line = complete_line l ts w.middle w.first; externals = written_read es w.middle rest s w.second low }
parts_read None [] ts rest n s low w = absurd (n refl)
parts_read None (e ∷ es) ts rest n s low w =
    let i = w.second in
    let b = subst (λ l. is_spec (spec_head l) ≡ true) (sym w.first) (external_begins e w.middle i.middle s.0 i.first) in
    record {
      behind = w.middle;
      line = line_none ts (unlined ts (after_probe words.Program ts) refl b) ∙ ap (λ y. got None y) w.first;
      externals = written_read (e ∷ es) w.middle rest s w.second low;
    }

unit_read : (u : UnitShape) (ts rest : List Token) → ShapedUnit u → Written (unit_form u) ts rest → UnitRead u.line u.externals ts rest
unit_read u ts rest s w = parts_read u.line u.externals ts rest s.some s.all s.low w.1

pub unit_placed : (u : UnitShape) (list : List External) (ts x rest : List Token) → reads_line ts ≡ Some (u.line, x) → ExternalsFrom list x rest → length rest ≡ 0 → u.externals ≡ map external_shape list → u.pos ≡ place ts → u.last ≡ last_place ts → Placed u ts
unit_placed u list ts x rest e p none same first last =
    let f = read_fits (map external_shape list) x rest p.read in
    let w = subst (λ l. Written (externals_form (map external_shape list)) x l) (no_tokens rest none) f.written in
    record { written = (first, record { middle = x; first = line_sound ts u.line x e; second = subst (λ (l : List ExternalShape). Written (externals_form l) x []) (sym same) w }); last = last }

-- the same of all external declarations at once
pub unit_found : (l : Option ProgramLine) (es : List ExternalShape) (ts x rest : List Token) → reads_line ts ≡ Some (l, x) → Finds reads_externals x (Some (es, rest)) → es ≢ [] → Placed (unit_at ts l es) ts × ShapedUnit (unit_at ts l es)
unit_found l es ts x rest e p n =
    let f = externals_found_fit x es rest p in
    (record { written = (refl, record { middle = x; first = line_sound ts l x e; second = f.written }); last = refl }, record { some = n; all = f.shaped; low = f.low })

-- every unit is found
pub complete_unit : (u : UnitShape) (ts : List Token) → ShapedUnit u → Placed u ts → (x : List Token) × (reads_line ts ≡ got u.line x) × Finds reads_externals x (got u.externals [])
complete_unit u ts s p = let i = unit_read u ts [] s p.written in (i.behind, i.line, externals_read u.externals i.behind [] i.externals refl)

-- where external declarations aren't found up to the end
pub no_unit_externals : (l : Option ProgramLine) (ts x : List Token) → reads_line ts ≡ Some (l, x) → Finds reads_externals x None → NoUnit ts
no_unit_externals l ts x e p u s w =
    let c = complete_unit u ts s w in
    let g = got_eq l u.line x c.0 (sym e ∙ c.1) in
    never u.externals [] (same_answer reads_externals x None (got u.externals []) p (subst (λ y. Finds reads_externals y (got u.externals [])) (sym g.1) c.2))

some_listed : (list : List External) → (length list ≡ 0 → ⊥) → map external_shape list ≢ []
some_listed [] n e = n refl
some_listed (a ∷ list) n e = (let h : external_shape a ∷ map external_shape list ≡ [] = e in absurd cc)

pub unit_shaped : (u : UnitShape) (list : List External) (x rest : List Token) → ExternalsFrom list x rest → (length list ≡ 0 → ⊥) → u.externals ≡ map external_shape list → ShapedUnit u
unit_shaped u list x rest p n same =
    let f = read_fits (map external_shape list) x rest p.read in
    record {
      some = subst (λ (l : List ExternalShape). l ≢ []) (sym same) (some_listed list n);
      all = subst ShapedExternals (sym same) f.shaped;
      low = subst (λ l. externals_height l ≤ 400) (sym same) f.low;
    }

same_unit : (u v : UnitShape) → u.pos ≡ v.pos → u.line ≡ v.line → u.externals ≡ v.externals → u.last ≡ v.last → u ≡ v
same_unit u v a b c d =
    ap (λ z. record { pos = z; line = u.line; externals = u.externals; last = u.last }) a
    ∙ ap (λ z. record { pos = v.pos; line = z; externals = u.externals; last = u.last }) b
    ∙ ap (λ z. record { pos = v.pos; line = v.line; externals = z; last = u.last }) c
    ∙ ap (λ z. record { pos = v.pos; line = v.line; externals = v.externals; last = z }) d

-- the tokens of a unit are those of no other
pub one_unit : (u v : UnitShape) (ts : List Token) → ShapedUnit u → Placed u ts → ShapedUnit v → Placed v ts → u ≡ v
one_unit u v ts su pu sv pv =
    let a = unit_read u ts [] su pu.written in
    let b = unit_read v ts [] sv pv.written in
    let g = got_eq u.line v.line a.behind b.behind (sym a.line ∙ b.line) in
    same_unit u v (pu.written.0 ∙ sym pv.written.0) g.0 (read_once u.externals v.externals a.behind a.externals (subst (λ l. ReadExternals v.externals l []) (sym g.1) b.externals)) (pu.last ∙ sym pv.last)

-- the unit that was read is the only one
pub unit_only : (u : UnitShape) (list : List External) (ts x rest : List Token) → reads_line ts ≡ Some (u.line, x) → ExternalsFrom list x rest → length rest ≡ 0 → (length list ≡ 0 → ⊥) → u.externals ≡ map external_shape list → u.pos ≡ place ts → u.last ≡ last_place ts → (v : UnitShape) → ShapedUnit v → Placed v ts → v ≡ u
unit_only u list ts x rest e p none n same first last v s w = one_unit v u ts s w (unit_shaped u list x rest p n same) (unit_placed u list ts x rest e p none same first last)

-- WHERE NO UNIT CAN BE READ

-- nowhere else: fronts begin as the tokens are read

syntax_from : (ts : List Token) (p : Pos) → (ts ≡ [] → p ≡ place ts) → (ts ≢ [] → BehindLongest ts p) → SyntaxAt ts p
syntax_from [] p e b = e refl
syntax_from (t ∷ ts) p e b = b (λ h. (let q : t ∷ ts ≡ [] = h in cc))

-- a program line that is broken

broken_front : (ts other : List Token) → reads_line ts ≡ None → Front ts other → ts ≡ other
broken_front ts other e (inl h) = h
broken_front ts other e (inr (inl w)) = never (Some w.0) other (sym e ∙ complete_line w.0 ts other w.1)
broken_front ts other e (inr (inr w)) = let i = unit_read w.0 ts other w.1 w.2 in never w.0.line i.behind (sym e ∙ i.line)

-- where every front is the empty one
only_empty : (ts : List Token) → ts ≢ [] → ((other : List Token) → Front ts other → other ≢ [] → ts ≡ other) → BehindLongest ts (place ts)
only_empty ts n f = record { rest = ts; front = inl refl; proper = n; longest = λ other g m. subst (λ l. length ts ≤ length l) (f other g m) (omega arith); at' = refl }

pub syntax_line : (ts : List Token) → reads_line ts ≡ None → SyntaxAt ts (place ts)
syntax_line ts e = syntax_from ts (place ts) (λ h. refl) (λ n. only_empty ts n (λ other f m. broken_front ts other e f))

pub no_unit_line : (ts : List Token) → reads_line ts ≡ None → NoUnit ts
no_unit_line ts e u s p = let i = unit_read u ts [] s p.written in never u.line i.behind (sym e ∙ i.line)

-- nothing behind the program line, or nothing at all

nothing_read : (es : List ExternalShape) (x other : List Token) → es ≢ [] → x ≡ [] → ReadExternals es x other → ⊥
nothing_read [] x other n e p = n refl
nothing_read (a ∷ es) x other n e p = nothing_external a p.middle (subst (λ l. Finds reads_external l (got a p.middle)) e p.first)

bare_front : (l : Option ProgramLine) (ts x other : List Token) → reads_line ts ≡ got l x → x ≡ [] → Front ts other → other ≢ [] → ts ≡ other
bare_front l ts x other e h (inl q) m = q
bare_front l ts x other e h (inr (inl w)) m = absurd (m (sym (got_eq l (Some w.0) x other (sym e ∙ complete_line w.0 ts other w.1)).1 ∙ h))
bare_front l ts x other e h (inr (inr w)) m =
    let i = unit_read w.0 ts other w.1 w.2 in
    let g = got_eq l w.0.line x i.behind (sym e ∙ i.line) in
    absurd (nothing_read w.0.externals i.behind other w.1.some (sym g.1 ∙ h) i.externals)

pub syntax_bare : (l : Option ProgramLine) (ts x : List Token) → reads_line ts ≡ Some (l, x) → length x ≡ 0 → SyntaxAt ts (place ts)
syntax_bare l ts x e h = syntax_from ts (place ts) (λ q. refl) (λ n. only_empty ts n (λ other f m. bare_front l ts x other e (no_tokens x h) f m))

pub no_unit_bare : (l : Option ProgramLine) (ts x : List Token) → reads_line ts ≡ Some (l, x) → length x ≡ 0 → NoUnit ts
no_unit_bare l ts x e h u s p =
    let i = unit_read u ts [] s p.written in
    let g = got_eq l u.line x i.behind (sym e ∙ i.line) in
    nothing_read u.externals i.behind [] s.some (sym g.1 ∙ no_tokens x h) i.externals

-- an external declaration that can't be read

line_front : (l : Option ProgramLine) (ts x : List Token) → reads_line ts ≡ got l x → Front ts x
line_front None ts x e = inl (line_sound ts None x e)
line_front (Some l) ts x e = inr (inl (l, line_sound ts (Some l) x e))

read_front : (l : Option ProgramLine) (es : List ExternalShape) (ts x rest : List Token) → reads_line ts ≡ got l x → ReadExternals es x rest → Front ts rest
read_front l [] ts x rest e p = subst (Front ts) p (line_front l ts x e)
read_front l (a ∷ es) ts x rest e p =
    let f = read_fits (a ∷ es) x rest p in
    inr (inr (record { pos = place ts; line = l; externals = a ∷ es; last = place ts }, record { some = λ h. (let q : a ∷ es ≡ [] = h in cc); all = f.shaped; low = f.low }, (refl, record { middle = x; first = line_sound ts l x e; second = f.written })))

line_longer : (l : Option ProgramLine) (es : List ExternalShape) (ts x rest : List Token) → reads_line ts ≡ got l x → ReadExternals es x rest → length rest ≤ length ts
line_longer l es ts x rest e p =
    let a = no_longer (maybe_line_form l) ts x (line_sound ts l x e) in
    let b = read_longer es x rest p in
    omega (arith, a, b)

no_front_farther : (l : Option ProgramLine) (es : List ExternalShape) (ts x rest other : List Token) → reads_line ts ≡ got l x → ReadExternals es x rest → Finds reads_external rest None → Front ts other → length rest ≤ length other
no_front_farther l es ts x rest other e p n (inl q) = subst (λ y. length rest ≤ length y) q (line_longer l es ts x rest e p)
no_front_farther l es ts x rest other e p n (inr (inl w)) = subst (λ y. length rest ≤ length y) (got_eq l (Some w.0) x other (sym e ∙ complete_line w.0 ts other w.1)).1 (read_longer es x rest p)
no_front_farther l es ts x rest other e p n (inr (inr w)) =
    let i = unit_read w.0 ts other w.1 w.2 in
    let g = got_eq l w.0.line x i.behind (sym e ∙ i.line) in
    farthest es w.0.externals x rest other p n (subst (λ y. ReadExternals w.0.externals y other) (sym g.1) i.externals)

no_rest : (l : Option ProgramLine) (es : List ExternalShape) (ts x rest : List Token) → reads_line ts ≡ got l x → ReadExternals es x rest → (length rest ≡ 0 → ⊥) → ts ≡ [] → ⊥
no_rest l es ts x rest e p n h = let a = line_longer l es ts x rest e p in let b = no_length ts h in n (omega (arith, a, b))

pub syntax_external : (l : Option ProgramLine) (list : List External) (ts x rest : List Token) → reads_line ts ≡ Some (l, x) → ExternalsFrom list x rest → (length rest ≡ 0 → ⊥) → Finds reads_external rest None → SyntaxAt ts (place rest)
syntax_external l list ts x rest e p n q =
    syntax_from ts (place rest) (λ h. absurd (no_rest l (map external_shape list) ts x rest e p.read n h)) (λ m. record {
      rest = rest;
      front = read_front l (map external_shape list) ts x rest e p.read;
      proper = λ h. n (no_length rest h);
      longest = λ other f k. no_front_farther l (map external_shape list) ts x rest other e p.read q f;
      at' = refl;
    })

pub no_unit_external : (l : Option ProgramLine) (list : List External) (ts x rest : List Token) → reads_line ts ≡ Some (l, x) → ExternalsFrom list x rest → (length rest ≡ 0 → ⊥) → Finds reads_external rest None → NoUnit ts
no_unit_external l list ts x rest e p n q u s w =
    let i = unit_read u ts [] s w.written in
    let g = got_eq l u.line x i.behind (sym e ∙ i.line) in
    let h : length rest ≤ 0 = farthest (map external_shape list) u.externals x rest [] p.read q (subst (λ y. ReadExternals u.externals y []) (sym g.1) i.externals) in
    n (omega (arith, h))
