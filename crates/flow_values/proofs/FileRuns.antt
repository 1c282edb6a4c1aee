-- Before main is called each variable of file scope comes to stand for an instance.
use Rattle.std.proofs.Common.{◌≡◌, ℕ, suc, ◌+◌, ◌<◌, ◌≤◌, List, [], ◌∷◌, nat_eq, refl, sym, ap, ◌∙◌, subst, arith, Bool, Option, Some, None, Result, Ok, Err, true, false}
use Rattle.std.specs.Prelude.{replicate, is_some, nat_le, if◌then◌else◌}
use Rattle.std.proofs.lemmas.Bool.Decides.{nat_tests}
use Rattle.c_events.specs.declared.events.Event.{Event}
use Rattle.c_syntax.specs.declared.text.Text.{Text}
use Rattle.c_syntax.specs.declared.tree.Named.{Named}
use Rattle.c_syntax.specs.Shape.{TypeOf, DeclShape, decl, DeclaratorShape, declarator, DeclaratorShapes, no_declarators, more_declarators, arrays, function, MaybeInit, ExternalShape, defined, declared}
use Rattle.c_constants.specs.Probes.{probe_number_of}
use Rattle.c_store.specs.declared.value.Value.{Value}
use Rattle.c_store.specs.declared.value.Pointer.{Pointer}
use Rattle.c_store.specs.declared.value.Fault.{Fault}
use Rattle.c_store.specs.declared.value.MakeErr.{MakeErr}
use Rattle.c_store.specs.Cells.{Cells, write_of, made, literal_cells}
use Rattle.c_tables.specs.Tables.{TablesShape}
use Rattle.c_meaning.specs.State.{Act, tells, repeats, Bound, found_in, State}
use Rattle.c_meaning.specs.Results.{Got, Gives, Stops, then_do, settled, present}
use Rattle.c_meaning.specs.Layout.{cells, variable_kind}
use Rattle.c_meaning.specs.Firsts.{First, variables_before, quiet, heard, noted_def}
use Rattle.c_meaning.specs.Places.{first_cell, next_cell, logs_one, logs, log_def, stored}
use Rattle.c_meaning.specs.Counts.{variables_of, variables_among, decl_variables, external_variables, past_name, past_defined, past_external}
use Rattle.c_meaning.specs.Declarations.{new_instance, bind_file, next_variable, name_marks, filled, file_cells, file_variable, file_name, file_names, file_decl}
use Rattle.c_meaning.specs.Calls.{Source}
use Rattle.c_meaning.specs.Runs.{literals_made, externals_made, all_made}
use Rattle.c_meaning.proofs.Declared.{defined_count, external_count}
use Rattle.flow_values.proofs.FileUnits.{IsBoundTo, AreCounted}

-- what holds of the state in which it gives something
abbrev pub Leads : {A : Type 0} → (State → Type 0) → Got A → Type 0
Leads P (Gives a t) = P t
Leads P (Stops why t) = Unit {0}

then_leads : {A B : Type 0} (P Q : State → Type 0) (r : Got A) (go : A → State → Got B) → Leads P r → ((a : A) (t : State) → P t → Leads Q (go a t)) → Leads Q (then_do r go)
then_leads P Q (Gives a t) go e f = f a t e
then_leads P Q (Stops why t) go e f = tt

leads_further : {A : Type 0} (P Q : State → Type 0) → ((s : State) → P s → Q s) → (r : Got A) → Leads P r → Leads Q r
leads_further P Q f (Gives a t) h = f t h
leads_further P Q f (Stops why t) h = tt

-- ---- steps that bind nothing

abbrev Same : List Bound → State → Type 0
Same b s = s.file ≡ b

module _ (b : List Bound) where
  settled_same : {A : Type 0} (r : Result A Fault) (s : State) → Same b s → Leads (Same b) (settled r s)
  settled_same (Ok a) s e = e
  settled_same (Err why) s e = tt

  present_same : {A : Type 0} (r : Option A) (s : State) → Same b s → Leads (Same b) (present r s)
  present_same (Some a) s e = e
  present_same None s e = tt

  def_same : (way : Event → Act) (i : First) (q : Pointer) (s : State) → Same b s → Same b (noted_def way i q s)
  def_same way (quiet n) q s e = e
  def_same way (heard c w) q s e = e

  one_same : {A : Type 0} (q : Pointer) (x : Option ℕ) (s : State) (go : State → Got A) → Same b s → ((t : State) → Same b t → Leads (Same b) (go t)) → Leads (Same b) (logs_one (log_def q) x s go)
  one_same q None s go e f = tt
  one_same q (Some m) s go e f = f _ e

  logs_same : {A : Type 0} (q : Pointer) (xs : List Text) (s : State) (go : State → Got A) → Same b s → ((t : State) → Same b t → Leads (Same b) (go t)) → Leads (Same b) (logs (log_def q) xs s go)
  logs_same q [] s go e f = f s e
  logs_same q (x ∷ xs) s go e f = one_same q (probe_number_of x) s _ e (λ t d. logs_same q xs t go d f)

  stored_same : (way : Event → Act) (xs : List Text) (i : First) (q : Pointer) (v : Value) (s : State) → Same b s → Leads (Same b) (stored way xs i q v s)
  stored_same way xs i q v s e = then_leads (Same b) (Same b) (settled (write_of s.store q v) s) _ (settled_same (write_of s.store q v) s e) (λ m t d.
      let u : State = record t { store = m } in
      logs_same q xs (noted_def way i q u) (λ s. Gives v s) (def_same way i q u d) (λ t g. g))

  filled_same : (way : Event → Act) (xs : List Text) (i : First) (q : Pointer) (vs : List (Option Value)) (s : State) → Same b s → Leads (Same b) (filled way xs i q vs s)
  filled_same way xs i q [] s e = e
  filled_same way xs i q (None ∷ vs) s e = filled_same way xs i (next_cell q) vs s e
  filled_same way xs i q (Some v ∷ vs) s e = then_leads (Same b) (Same b) (stored way xs i q v s) _ (stored_same way xs i q v s e) (λ v t d. filled_same repeats xs i (next_cell q) vs t d)

  new_same : (r : Result Cells MakeErr) (s : State) → Same b s → Leads (Same b) (new_instance r s)
  new_same (Ok m) s e = e
  new_same (Err why) s e = tt

  literals_same : (xs : List Text) (s : State) → Same b s → Leads (Same b) (literals_made xs s)
  literals_same [] s e = e
  literals_same (x ∷ xs) s e = then_leads (Same b) (Same b) _ _ (new_same (made s.store false (literal_cells x)) s e) (λ j t d. literals_same xs t d)

-- ---- what is bound stays so

abbrev pub Keeps : List Bound → List Bound → Type 0
Keeps b c = (n : ℕ) → is_some (found_in n b) ≡ true → is_some (found_in n c) ≡ true

-- what was found is found, and so are these numbers
abbrev pub Finds : List Bound → ℕ → ℕ → List Bound → Type 0
Finds b p m c = Keeps b c × IsBoundTo c p m

still_found : (is : Bool) (j : ℕ) (o : Option ℕ) → is_some o ≡ true → is_some (if is then Some j else o) ≡ true
still_found true j o e = refl
still_found false j o e = e

first_found : (is : Bool) (j : ℕ) (o : Option ℕ) → is ≡ true → is_some (if is then Some j else o) ≡ true
first_found true j o e = refl
first_found false j o e = cc

bind_finds : (v j : ℕ) (b : List Bound) → Finds b v 1 (record { variable = suc v; instance = j } ∷ b)
bind_finds v j b = (λ n e. still_found (nat_eq (suc v) n) j (found_in n b) e, λ n low high. first_found (nat_eq (suc v) n) j (found_in n b) (grind (arith, nat_tests)))

none_finds : (b : List Bound) (p : ℕ) → Finds b p 0 b
none_finds b p = (λ n e. e, λ n low high. absurd (omega (arith, low, high)))

-- one behind the other
both_find : (b c d : List Bound) (p q m k : ℕ) → q ≡ p + m → Finds b p m c → Finds c q k d → Finds b p (m + k) d
both_find b c d p q m k e f g = (λ n h. g.0 n (f.0 n h), λ n low high. by n low high (nat_le n (p + m)) refl)
  where
    by : (n : ℕ) → p < n → n ≤ p + (m + k) → (is : Bool) → nat_le n (p + m) ≡ is → is_some (found_in n d) ≡ true
    by n low high true h = g.0 n (f.1 n low (grind (arith, nat_tests)))
    by n low high false h = let past : p + m < n = grind (arith, nat_tests) in g.1 n (omega (arith, past, e)) (omega (arith, high, e))

-- ---- declarations

variable_finds : (t : TablesShape) (x : Option Named) (init : MaybeInit) (i : First) (y : TypeOf) (s : State) → Leads (λ u. Finds s.file (variables_before i) 1 u.file) (file_variable t x init i y s)
variable_finds t x init i y s = then_leads (Same s.file) (λ u. Finds s.file (variables_before i) 1 u.file) _ _ (new_same s.file (made s.store true (replicate (cells t y) None)) s refl) (λ j u d.
    let b = bind_file (next_variable i) j u in
    leads_further (Same b.file) (λ v. Finds s.file (variables_before i) 1 v.file)
    (λ v e. subst (Finds s.file (variables_before i) 1) (sym (e ∙ ap (λ bs. record { variable = next_variable i; instance = j } ∷ bs) d)) (bind_finds (variables_before i) j s.file))
    _ (filled_same b.file tells (name_marks x) (past_name i) (first_cell j (cells t y)) (file_cells t b.file y init) b refl))

name_finds : (t : TablesShape) (d : DeclaratorShape) (i : First) (s : State) → Leads (λ u. Finds s.file (variables_before i) (variables_of d) u.file) (file_name t d i s)
name_finds t (declarator stars x (arrays ls) init) i s =
    then_leads (Same s.file) (λ u. Finds s.file (variables_before i) 1 u.file) _ _ (present_same s.file (variable_kind t (next_variable i)) s refl) (λ y u d.
    subst (λ b. Leads (λ v. Finds b (variables_before i) 1 v.file) (file_variable t x init i y u)) d (variable_finds t x init i y u))
name_finds t (declarator stars x (function ps) init) i s = none_finds s.file (variables_before i)

before_defined : (t : TablesShape) (d : DeclaratorShape) (i : First) → variables_before (past_defined t d i) ≡ variables_before i + variables_of d
before_defined t d (quiet n) = refl
before_defined t d (heard c w) = defined_count t c.function d w

names_find : (t : TablesShape) (ds : DeclaratorShapes) (i : First) (s : State) → Leads (λ u. Finds s.file (variables_before i) (variables_among ds) u.file) (file_names t ds i s)
names_find t no_declarators i s = none_finds s.file (variables_before i)
names_find t (more_declarators d rest) i s =
    let p = variables_before i in
    let q = variables_before (past_defined t d i) in
    then_leads (λ u. Finds s.file p (variables_of d) u.file) (λ v. Finds s.file p (variables_of d + variables_among rest) v.file) (file_name t d i s) _ (name_finds t d i s) (λ f u g.
    leads_further (λ v. Finds u.file q (variables_among rest) v.file) (λ v. Finds s.file p (variables_of d + variables_among rest) v.file)
    (λ v h. both_find s.file u.file v.file p q (variables_of d) (variables_among rest) (before_defined t d i) g h) _ (names_find t rest (past_defined t d i) u))

decl_finds : (t : TablesShape) (d : DeclShape) (i : First) (s : State) → Leads (λ u. Finds s.file (variables_before i) (decl_variables d) u.file) (file_decl t d i s)
decl_finds t (decl p specs names) i s = names_find t names i s

before_external : (t : TablesShape) (e : ExternalShape) (i : First) → variables_before (past_external t e i) ≡ variables_before i + external_variables e
before_external t e (quiet n) = refl
before_external t e (heard c w) = external_count t e w

externals_find : (t : TablesShape) (es : List ExternalShape) (i : First) (s : State) → Leads (λ u. Keeps s.file u.file × AreCounted u.file (variables_before i) es) (externals_made t es i s)
externals_find t [] i s = (λ n e. e, tt)
externals_find t (declared d ∷ rest) i s =
    let p = variables_before i in
    let next = past_external t (declared d) i in
    then_leads (λ u. Finds s.file p (decl_variables d) u.file) (λ v. Keeps s.file v.file × AreCounted v.file p (declared d ∷ rest)) (file_decl t d i s) _ (decl_finds t d i s) (λ f u g.
    leads_further (λ v. Keeps u.file v.file × AreCounted v.file (variables_before next) rest) (λ v. Keeps s.file v.file × AreCounted v.file p (declared d ∷ rest))
    (λ v h. (λ n e. h.0 n (g.0 n e), (λ n low high. h.0 n (g.1 n low high), subst (λ q. AreCounted v.file q rest) (before_external t (declared d) i) h.1))) _ (externals_find t rest next u))
externals_find t (defined specs d ms c ∷ rest) i s =
    let e = defined specs d ms c in
    leads_further (λ v. Keeps s.file v.file × AreCounted v.file (variables_before (past_external t e i)) rest) (λ v. Keeps s.file v.file × AreCounted v.file (variables_before i) (e ∷ rest))
    (λ v h. (h.0, subst (λ q. AreCounted v.file q rest) (before_external t e i) h.1)) _ (externals_find t rest (past_external t e i) s)

-- once all are made, each number that is counted is bound
pub made_finds : (P : Source) (i : First) (s : State) → Leads (λ u. AreCounted u.file (variables_before i) P.unit.externals) (all_made P i s)
made_finds P i s = then_leads (Same s.file) (λ u. AreCounted u.file (variables_before i) P.unit.externals) (literals_made P.tables.literals s) _ (literals_same s.file P.tables.literals s refl) (λ f u d.
    leads_further (λ v. Keeps u.file v.file × AreCounted v.file (variables_before i) P.unit.externals) (λ v. AreCounted v.file (variables_before i) P.unit.externals) (λ v h. h.1) _ (externals_find P.tables P.unit.externals i u))
