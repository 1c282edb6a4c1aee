-- What declarations and statements change of what is known, they change alike of states that are alike.
use Rattle.std.proofs.Common.{◌≡◌, ℕ, ◌+◌, List, [], ◌∷◌, length, Option, Some, None, Bool, true, false, refl, sym, ap, ap₂, subst, ◌∙◌}
use Rattle.std.specs.Prelude.{not, min, is_some, ◌&&◌, ◌^◌, ◌-◌}
use Rattle.c_base.specs.declared.place.Pos.{Pos}
use Rattle.c_syntax.specs.declared.text.Text.{Text}
use Rattle.c_syntax.specs.declared.tree.Named.{Named}
use Rattle.c_syntax.specs.declared.tree.ProbeMark.{ProbeMark}
use Rattle.c_syntax.specs.declared.tree.ProgramLine.{ProgramLine}
use Rattle.c_syntax.specs.Shape.{TypeOf, int, pointer, array, structure, nothing}
use Rattle.c_type_rules.specs.Verdicts.{result_type}
use Rattle.c_constants.specs.Probes.{digest_of}
use Rattle.c_scopes.specs.Scoping.{find_here, entered}
use Rattle.c_tables.specs.Tables.{TablesShape, with_definition}
use Rattle.c_tables.specs.Rows.{name_pos}
use Rattle.c_tree.specs.declared.meaning.Complaint.{Complaint}
use Rattle.c_tree.specs.declared.meaning.Entity.{Entity}
use Rattle.c_tree.specs.declared.meaning.Entity.TheVariants as entity
use Rattle.c_tree.specs.State.{Seen, State, steps, demand, Numbered, numbered_or, pushed_function, mention, function_number}
use Rattle.c_tree.specs.Rulings.{by, rule, kind_at}
use Rattle.c_tree.specs.Parts.{Length, outside, with_name}
use Rattle.c_tree.specs.Initialisers.{slots}
use Rattle.c_tree.specs.Declaring.{next_variable, with_constants, claim_mark, claim_name, with_variable, variable_at, declare_variable, variable_rule, with_parameter, parameter_at, declare_parameter, parameter_rule, name_demand, opened_scope, closed_scope, closed_params, all_kinds, Signature, signature_of, function_entity, same_function, names_function, is_defined, function_at, unclear_at, bodied, mentioned, declare_function, TypedFunction}
use Rattle.c_tree.specs.Units.{variable_of, with_variables, numbers_from, begun_function, ended_function, type_line}
use Rattle.c_sites_probes.specs.Marked.{mark_in, name_mark}
use Rattle.probe_rules.proofs.ReadyUnits.{some_none}
use Rattle.probe_rules.proofs.Moved.{moved, Alike, Counts, moves, on_moved, complain_alike, demand_alike, ruled_alike, outside_alike}

-- a variable and a parameter, behind their lengths, and a function, behind its parentheses
abbrev pub judged_variable : ℕ → Pos → Text → List Length → Option TypeOf → State → State
judged_variable token p x cs k s = let r = variable_rule s.rooms cs k in declare_variable token p x (kind_at r) (rule r token p s)

abbrev pub judged_parameter : Bool → Pos → Option Named → ℕ → ℕ → List Length → Option TypeOf → State → State
judged_parameter defining p x head token cs k s =
    let r = parameter_rule s.rooms cs k in
    declare_parameter token x (kind_at r) (rule r token (name_pos p x) (name_demand defining x head p s))

abbrev pub judged_function : Bool → ℕ → Pos → Text → Option TypeOf → List (Text × Option TypeOf) → Bool → State → Numbered
judged_function defining token p x k given file s =
    let r = by 33 (result_type k) in
    declare_function defining token p x (signature_of (kind_at r) (all_kinds given)) (outside file (rule r token p s))

mark_unclaimed : (may : Bool) (o : Option ProbeMark) → mark_in o ≡ None → (s : State) → claim_mark may o s ≡ s
mark_unclaimed may None none s = refl
mark_unclaimed may (Some x) none s = absurd (some_none x.pos none)

-- a name without a probe claims nothing
pub unclaimed : (may : Bool) (x : Option Named) → name_mark x ≡ None → (s : State) → claim_name may x s ≡ s
unclaimed may None none s = refl
unclaimed may (Some x) none s = mark_unclaimed may x.probe none s

module _ (n m : ℕ) (seen : Seen) where
  -- ---- what is the same in both states

  pub names_same : {s t : State} → Alike n m seen s t → t.names ≡ s.names
  names_same al = ap (λ (z : State). z.names) al.is

  pub tables_same : {s t : State} → Alike n m seen s t → t.tables ≡ s.tables
  tables_same al = ap (λ (z : State). z.tables) al.is

  pub rooms_same : {s t : State} → Alike n m seen s t → t.rooms ≡ s.rooms
  rooms_same al = ap (λ (z : State). z.rooms) al.is

  pub file_same : {s t : State} → Alike n m seen s t → t.file ≡ s.file
  file_same al = ap (λ (z : State). z.file) al.is

  pub quiet_same : {s t : State} → Alike n m seen s t → t.quiet ≡ s.quiet
  quiet_same al = ap (λ (z : State). z.quiet) al.is

  pub function_same : {s t : State} → Alike n m seen s t → t.function ≡ s.function
  function_same al = ap (λ (z : State). z.function) al.is

  -- what a list may hold
  slots_moved : (k : Option TypeOf) (s : State) (a : ℕ) (cs : List Complaint) → slots k (moved a seen cs s) ≡ slots k s
  slots_moved None s a cs = refl
  slots_moved (Some (int k)) s a cs = refl
  slots_moved (Some (pointer k)) s a cs = refl
  slots_moved (Some (array k j)) s a cs = refl
  slots_moved (Some (structure j)) s a cs = refl
  slots_moved (Some nothing) s a cs = refl

  pub slots_same : (k : Option TypeOf) {s t : State} → Alike n m seen s t → slots k t ≡ slots k s
  slots_same k {s} al = ap (slots k) al.is ∙ slots_moved k s al.at al.complaints

  -- ---- tokens

  -- further tokens of the second run alone
  pub further_alike : (k : ℕ) {s t : State} → Alike n m seen s t → Alike n m seen s (steps k t)
  further_alike k al = record { at = min (al.at + k) (2 ^ 32 - 1); complaints = al.complaints; is = ap (steps k) al.is; count = al.count }

  -- further tokens of both, as many or not
  pub tokens_alike : (k k' : ℕ) {s t : State} → Alike n m seen s t → Alike n m seen (steps k s) (steps k' t)
  tokens_alike k k' al = record { at = min (al.at + k') (2 ^ 32 - 1); complaints = al.complaints; is = ap (steps k') al.is; count = al.count }

  -- what is demanded in the second run alone, and holds
  pub met_alike : (b : Bool) (k token : ℕ) (p : Pos) → b ≡ true → {s t : State} → Alike n m seen s t → Alike n m seen s (demand b k token p t)
  met_alike b k token p e {s} {t} al = subst (λ z. Alike n m seen s (demand z k token p t)) (sym e) al

  -- the program line of the second run alone
  pub line_alike : (l : ProgramLine) → is_some (digest_of l.digest) ≡ true → {s t : State} → Alike n m seen s t → Alike n m seen s (type_line (Some l) t)
  line_alike l e {s} {t} al = further_alike 5 (met_alike (is_some (digest_of l.digest)) 37 t.at l.pos e al)

  -- ---- declared names

  -- a name without a probe
  pub claim_name_alike : (may may' : Bool) (x : Option Named) → name_mark x ≡ None → {s t : State} → Alike n m seen s t → Alike n m seen (claim_name may x s) (claim_name may' x t)
  claim_name_alike may may' x none {s} {t} al = subst (λ z. Alike n m seen z (claim_name may' x t)) (sym (unclaimed may x none s)) (subst (λ z. Alike n m seen s z) (sym (unclaimed may' x none t)) al)

  pub with_name_alike : (x : Text) (e : Entity) {s t : State} → Alike n m seen s t → Alike n m seen (with_name x e s) (with_name x e t)
  with_name_alike x e al = record { at = al.at; complaints = al.complaints; is = ap (with_name x e) al.is; count = al.count }

  -- ---- variables

  pub with_variable_alike : (x : Text) (k : Option TypeOf) {s t : State} → Alike n m seen s t → Alike n m seen (with_variable x k s) (with_variable x k t)
  with_variable_alike x None al = with_name_alike x entity.Unknown al
  with_variable_alike x (Some k) al = record { at = al.at; complaints = al.complaints; is = ap (with_variable x (Some k)) al.is; count = al.count }

  variable_at_alike : (token token' : ℕ) (p : Pos) (x : Text) (k : Option TypeOf) (o : Option Entity) {s t : State} → Alike n m seen s t → Alike n m seen (variable_at token p x k o s) (variable_at token' p x k o t)
  variable_at_alike token token' p x k None al = with_variable_alike x k al
  variable_at_alike token token' p x k (Some e) al = complain_alike n m seen 31 token token' p p al

  pub declare_variable_alike : (token token' : ℕ) (p : Pos) (x : Text) (k k' : Option TypeOf) → k' ≡ k → {s t : State} → Alike n m seen s t → Alike n m seen (declare_variable token p x k s) (declare_variable token' p x k' t)
  declare_variable_alike token token' p x k k' e {s} {t} al =
      subst (λ z. Alike n m seen (declare_variable token p x k s) (declare_variable token' p x z t)) (sym e)
      (subst (λ z. Alike n m seen (declare_variable token p x k s) (variable_at token' p x k (find_here x z) t)) (sym (names_same al)) (variable_at_alike token token' p x k (find_here x s.names) al))

  pub variable_rule_same : (cs cs' : List Length) (k k' : Option TypeOf) → cs' ≡ cs → k' ≡ k → {s t : State} → Alike n m seen s t → variable_rule t.rooms cs' k' ≡ variable_rule s.rooms cs k
  variable_rule_same cs cs' k k' e d {s} {t} al = ap (λ z. variable_rule z cs' k') (rooms_same al) ∙ ap₂ (variable_rule s.rooms) e d

  -- a variable, behind its lengths
  pub judged_variable_alike : (token token' : ℕ) (p : Pos) (x : Text) (cs cs' : List Length) (k k' : Option TypeOf) → cs' ≡ cs → k' ≡ k → {s t : State} → Alike n m seen s t →
      Alike n m seen (judged_variable token p x cs k s) (judged_variable token' p x cs' k' t)
  judged_variable_alike token token' p x cs cs' k k' e d al =
      let r = variable_rule_same cs cs' k k' e d al in
      declare_variable_alike token token' p x _ _ (ap kind_at r) (ruled_alike n m seen _ _ token token' p r al)

  -- ---- parameters

  pub no_params_alike : {s t : State} → Alike n m seen s t → Alike n m seen (record s { params = [] }) (record t { params = [] })
  no_params_alike al = record { at = al.at; complaints = al.complaints; is = ap (λ (z : State). record z { params = [] }) al.is; count = al.count }

  with_parameter_alike : (x : Text) (k : Option TypeOf) {s t : State} → Alike n m seen s t → Alike n m seen (with_parameter x k s) (with_parameter x k t)
  with_parameter_alike x None al = with_name_alike x entity.Unknown al
  with_parameter_alike x (Some k) al = record { at = al.at; complaints = al.complaints; is = ap (with_parameter x (Some k)) al.is; count = al.count }

  parameter_at_alike : (token token' : ℕ) (p : Pos) (x : Text) (k : Option TypeOf) (o : Option Entity) {s t : State} → Alike n m seen s t → Alike n m seen (parameter_at token p x k o s) (parameter_at token' p x k o t)
  parameter_at_alike token token' p x k None al = with_parameter_alike x k al
  parameter_at_alike token token' p x k (Some e) al = complain_alike n m seen 31 token token' p p al

  pub declare_parameter_alike : (token token' : ℕ) (x : Option Named) (k k' : Option TypeOf) → k' ≡ k → {s t : State} → Alike n m seen s t → Alike n m seen (declare_parameter token x k s) (declare_parameter token' x k' t)
  declare_parameter_alike token token' None k k' e al = al
  declare_parameter_alike token token' (Some x) k k' e {s} {t} al =
      subst (λ z. Alike n m seen (declare_parameter token (Some x) k s) (declare_parameter token' (Some x) z t)) (sym e)
      (subst (λ z. Alike n m seen (declare_parameter token (Some x) k s) (parameter_at token' x.pos x.text k (find_here x.text z) t)) (sym (names_same al)) (parameter_at_alike token token' x.pos x.text k (find_here x.text s.names) al))

  pub name_demand_alike : (defining : Bool) (x : Option Named) (head head' : ℕ) (p : Pos) {s t : State} → Alike n m seen s t → Alike n m seen (name_demand defining x head p s) (name_demand defining x head' p t)
  name_demand_alike true None head head' p al = complain_alike n m seen 37 head head' p p al
  name_demand_alike true (Some x) head head' p al = al
  name_demand_alike false x head head' p al = al

  pub parameter_rule_same : (cs cs' : List Length) (k k' : Option TypeOf) → cs' ≡ cs → k' ≡ k → {s t : State} → Alike n m seen s t → parameter_rule t.rooms cs' k' ≡ parameter_rule s.rooms cs k
  parameter_rule_same cs cs' k k' e d {s} {t} al = ap (λ z. parameter_rule z cs' k') (rooms_same al) ∙ ap₂ (parameter_rule s.rooms) e d

  -- a parameter, behind its lengths
  pub judged_parameter_alike : (defining : Bool) (p : Pos) (x : Option Named) (head head' token token' : ℕ) (cs cs' : List Length) (k k' : Option TypeOf) → cs' ≡ cs → k' ≡ k → {s t : State} → Alike n m seen s t →
      Alike n m seen (judged_parameter defining p x head token cs k s) (judged_parameter defining p x head' token' cs' k' t)
  judged_parameter_alike defining p x head head' token token' cs cs' k k' e d al =
      let r = parameter_rule_same cs cs' k k' e d al in
      declare_parameter_alike token token' x _ _ (ap kind_at r) (ruled_alike n m seen _ _ token token' (name_pos p x) r (name_demand_alike defining x head head' p al))

  -- ---- scopes

  pub opened_scope_alike : {s t : State} → Alike n m seen s t → Alike n m seen (opened_scope s) (opened_scope t)
  opened_scope_alike al = record { at = al.at; complaints = al.complaints; is = ap opened_scope al.is; count = al.count }

  pub closed_scope_alike : {s t : State} → Alike n m seen s t → Alike n m seen (closed_scope s) (closed_scope t)
  closed_scope_alike al = record { at = al.at; complaints = al.complaints; is = ap closed_scope al.is; count = al.count }

  pub closed_params_alike : (defining : Bool) {s t : State} → Alike n m seen s t → Alike n m seen (closed_params defining s) (closed_params defining t)
  closed_params_alike true al = record { at = al.at; complaints = al.complaints; is = ap (closed_params true) al.is; count = al.count }
  closed_params_alike false al = closed_scope_alike al

  -- ---- functions

  pub record AlikeNumbered (x y : Numbered) : Type 0 where
    pub number : y.number ≡ x.number
    pub state : Alike n m seen x.state y.state

  bodied_alike : (defining : Bool) (x : Text) {s t : State} → Alike n m seen s t → Alike n m seen (bodied defining x s) (bodied defining x t)
  bodied_alike true x al = record { at = al.at; complaints = al.complaints; is = ap (bodied true x) al.is; count = al.count }
  bodied_alike false x al = al

  defined_moved : (e : Entity) (s : State) (a : ℕ) (cs : List Complaint) → is_defined e (moved a seen cs s) ≡ is_defined e s
  defined_moved (entity.Function j) s a cs = refl
  defined_moved (entity.Builtin b) s a cs = refl
  defined_moved entity.Unknown s a cs = refl
  defined_moved (entity.Variable j) s a cs = refl
  defined_moved (entity.Parameter j) s a cs = refl
  defined_moved (entity.Constant v) s a cs = refl

  defined_same : (e : Entity) {s t : State} → Alike n m seen s t → is_defined e t ≡ is_defined e s
  defined_same e {s} al = ap (is_defined e) al.is ∙ defined_moved e s al.at al.complaints

  -- a demand by what is the same in both states
  pub demanded_alike : (b b' : Bool) (k token token' : ℕ) (p : Pos) → b' ≡ b → {s t : State} → Alike n m seen s t → Alike n m seen (demand b k token p s) (demand b' k token' p t)
  demanded_alike b b' k token token' p e {s} {t} al = subst (λ z. Alike n m seen (demand b k token p s) (demand z k token' p t)) (sym e) (demand_alike n m seen b k token token' p al)

  function_at_alike : (defining : Bool) (token token' : ℕ) (p : Pos) (x : Text) (e : Entity) (o : Option Entity) {s t : State} → Alike n m seen s t → Alike n m seen (function_at defining token p x e o s) (function_at defining token' p x e o t)
  function_at_alike defining token token' p x e None al = with_name_alike x e al
  function_at_alike defining token token' p x e (Some o) al = demanded_alike _ _ 31 token token' p (ap (λ b. same_function e o && not (defining && b)) (defined_same e al)) al

  unclear_at_alike : (defining : Bool) (token token' : ℕ) (p : Pos) (x : Text) (o : Option Entity) {s t : State} → Alike n m seen s t → Alike n m seen (unclear_at defining token p x o s) (unclear_at defining token' p x o t)
  unclear_at_alike defining token token' p x None al = with_name_alike x entity.Unknown al
  unclear_at_alike defining token token' p x (Some o) al = demanded_alike _ _ 31 token token' p (ap (λ b. names_function o && not (defining && b)) (defined_same o al)) al

  mention_moved : (x : Text) (k : TypeOf) (ks : List TypeOf) (o : Option ℕ) (s : State) (a : ℕ) (cs : List Complaint) → Counts n m seen s cs → AlikeNumbered (numbered_or o s (pushed_function x k ks s)) (numbered_or o (moved a seen cs s) (pushed_function x k ks (moved a seen cs s)))
  mention_moved x k ks (Some j) s a cs i = record { number = refl; state = moves n m seen s a cs i }
  mention_moved x k ks None s a cs i = record { number = refl; state = record { at = a; complaints = cs; is = refl; count = i } }

  pub mention_alike : (x : Text) (k : TypeOf) (ks : List TypeOf) {s t : State} → Alike n m seen s t → AlikeNumbered (mention x k ks s) (mention x k ks t)
  mention_alike x k ks {s} al = on_moved n m seen (λ z. AlikeNumbered (mention x k ks s) (mention x k ks z)) al (λ a cs i. mention_moved x k ks (function_number x k ks s.tables.functions) s a cs i)

  mentioned_alike : (defining : Bool) (token token' : ℕ) (p : Pos) (x : Text) (f : Signature) (y z : Numbered) → AlikeNumbered y z → AlikeNumbered (mentioned defining token p x f y) (mentioned defining token' p x f z)
  mentioned_alike defining token token' p x f y z al = record {
    number = al.number;
    state = subst (λ j. Alike n m seen (mentioned defining token p x f y).state (function_at defining token' p x (function_entity x f j) (find_here x z.state.names) z.state)) (sym al.number)
        (subst (λ w. Alike n m seen (mentioned defining token p x f y).state (function_at defining token' p x (function_entity x f y.number) (find_here x w) z.state)) (sym (names_same al.state))
        (function_at_alike defining token token' p x (function_entity x f y.number) (find_here x y.state.names) al.state));
  }

  signature_alike : (defining : Bool) (token token' : ℕ) (p : Pos) (x : Text) (f : Option Signature) {s t : State} → Alike n m seen s t → AlikeNumbered (declare_function defining token p x f s) (declare_function defining token' p x f t)
  signature_alike defining token token' p x None {s} {t} al = record {
    number = ap (λ (z : TablesShape). length z.functions + 1) (tables_same al);
    state = bodied_alike defining x (subst (λ w. Alike n m seen (unclear_at defining token p x (find_here x s.names) s) (unclear_at defining token' p x (find_here x w) t)) (sym (names_same al))
        (unclear_at_alike defining token token' p x (find_here x s.names) al));
  }
  signature_alike defining token token' p x (Some f) al = mentioned_alike defining token token' p x f _ _ (mention_alike x f.result f.params al)

  pub declare_function_alike : (defining : Bool) (token token' : ℕ) (p : Pos) (x : Text) (f f' : Option Signature) → f' ≡ f → {s t : State} → Alike n m seen s t → AlikeNumbered (declare_function defining token p x f s) (declare_function defining token' p x f' t)
  declare_function_alike defining token token' p x f f' e {s} {t} al = subst (λ z. AlikeNumbered (declare_function defining token p x f s) (declare_function defining token' p x z t)) (sym e) (signature_alike defining token token' p x f al)

  -- a function, behind its parentheses
  pub judged_function_alike : (defining : Bool) (token token' : ℕ) (p : Pos) (x : Text) (k k' : Option TypeOf) (given given' : List (Text × Option TypeOf)) (file file' : Bool) → k' ≡ k → given' ≡ given → file' ≡ file → {s t : State} → Alike n m seen s t →
      AlikeNumbered (judged_function defining token p x k given file s) (judged_function defining token' p x k' given' file' t)
  judged_function_alike defining token token' p x k k' given given' file file' e d f al =
      let r = ap (λ z. by 33 (result_type z)) e in
      declare_function_alike defining token token' p x _ _ (ap₂ (λ y z. signature_of (kind_at y) (all_kinds z)) r d) (outside_alike n m seen file file' f (ruled_alike n m seen _ _ token token' p r al))

  -- ---- bodies

  variable_of_alike : (x : Text) (k : Option TypeOf) (o : Option Entity) {s t : State} → Alike n m seen s t → Alike n m seen (variable_of x k o s) (variable_of x k o t)
  variable_of_alike x k None al = with_variable_alike x k al
  variable_of_alike x k (Some e) al = al

  with_variables_alike : (xs : List (Text × Option TypeOf)) {s t : State} → Alike n m seen s t → Alike n m seen (with_variables xs s) (with_variables xs t)
  with_variables_alike [] al = al
  with_variables_alike ((x, k) ∷ rest) {s} {t} al =
      with_variables_alike rest (subst (λ w. Alike n m seen (variable_of x k (find_here x s.names) s) (variable_of x k (find_here x w) t)) (sym (names_same al)) (variable_of_alike x k (find_here x s.names) al))

  abbrev entered_function : ℕ → List (Text × Option TypeOf) → State → State
  entered_function j given s = record s {
    names = with_constants s.listed (entered s.names);
    tables = with_definition j (numbers_from (next_variable s) given) s.tables;
    function = j;
    file = false;
  }

  pub begun_function_alike : (f f' : TypedFunction) → f'.number ≡ f.number → f'.given ≡ f.given → {s t : State} → Alike n m seen s t → Alike n m seen (begun_function f s) (begun_function f' t)
  begun_function_alike f f' e d {s} {t} al =
      subst (λ j. Alike n m seen (begun_function f s) (with_variables f'.given (entered_function j f'.given t))) (sym e)
      (subst (λ g. Alike n m seen (begun_function f s) (with_variables g (entered_function f.number g t))) (sym d)
      (with_variables_alike f.given (record { at = al.at; complaints = al.complaints; is = ap (entered_function f.number f.given) al.is; count = al.count })))

  pub ended_function_alike : {s t : State} → Alike n m seen s t → Alike n m seen (ended_function s) (ended_function t)
  ended_function_alike al = record { at = al.at; complaints = al.complaints; is = ap ended_function al.is; count = al.count }
