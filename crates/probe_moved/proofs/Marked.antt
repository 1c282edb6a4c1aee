-- Variables and parameters with probes round their names are typed as those without, once the probe's number is claimed.
use Rattle.std.proofs.Common.{◌≡◌, ℕ, List, [], Option, Some, None, Bool, true, false, refl, sym, ap, subst, ◌∙◌}
use Rattle.std.specs.Prelude.{nat_eq, ◌||◌}
use Rattle.c_base.specs.declared.place.Pos.{Pos}
use Rattle.c_syntax.specs.declared.tree.Named.{Named}
use Rattle.c_syntax.specs.declared.tree.ProbeMark.{ProbeMark}
use Rattle.c_syntax.specs.declared.tree.Star.{Star}
use Rattle.c_syntax.specs.Shape.{TypeOf, def, LengthShapes, SpecShapes, MaybeInit}
use Rattle.c_tree.specs.State.{Seen, State, steps}
use Rattle.c_tree.specs.Rulings.{kind_at}
use Rattle.c_tree.specs.Operators.{claim}
use Rattle.c_tree.specs.Parts.{Length, TypedLengths, pointed, star_tokens, unspelled, spelled_rule}
use Rattle.c_tree.specs.Typing.{type_specs, type_lengths}
use Rattle.c_tree.specs.Initialisers.{lengths_with}
use Rattle.c_tree.specs.Declaring.{name_tokens, claim_name, token_of_name, variable_rule, has_init, type_param}
use Rattle.c_sites_probes.specs.Marked.{name_mark, lengths_mark}
use Rattle.probe_rules.proofs.Moved.{Alike}
use Rattle.probe_rules.proofs.MovedNodes.{lengths_alike}
use Rattle.probe_moved.specs.Moved.{marked, behind_stars}
use Rattle.probe_moved.proofs.States.{tokens_alike, met_alike, unclaimed, variable_rule_same, judged_variable, judged_variable_alike, parameter_rule_same, judged_parameter_alike}

-- the lengths of a variable, its type, and what is known before its initialiser
abbrev pub variable_lengths : List Star → Option Named → LengthShapes → MaybeInit → State → TypedLengths
variable_lengths stars x ls i s = type_lengths [] ls (steps (name_tokens x) (claim_name (nat_eq s.function 0 || has_init i) x (steps (star_tokens stars) s)))

abbrev pub variable_kind : Option TypeOf → List Star → Option Named → LengthShapes → MaybeInit → State → Option TypeOf
variable_kind k stars x ls i s = let l = variable_lengths stars x ls i s in kind_at (variable_rule l.state.rooms (lengths_with i l.counts) (pointed stars k))

abbrev pub variable_state : Option TypeOf → List Star → Named → LengthShapes → MaybeInit → State → State
variable_state k stars y ls i s =
    let begun = steps (star_tokens stars) s in
    let l = variable_lengths stars (Some y) ls i s in
    judged_variable (token_of_name begun.at (Some y) begun) y.pos y.text (lengths_with i l.counts) (pointed stars k) l.state

module _ (n m : ℕ) (seen : Seen) where
  -- behind the name, in the second run with its probe, whose number was claimed and may stand there
  pub name_marked : (may may' : Bool) (y : Named) (g : ProbeMark) → name_mark (Some y) ≡ None → may' ≡ true → (s t : State) → Alike n m seen s (claim def g.number t.at g.pos t) →
      Alike n m seen (steps (name_tokens (Some y)) (claim_name may (Some y) s)) (steps (name_tokens (Some (marked g y))) (claim_name may' (Some (marked g y)) t))
  name_marked may may' y g none e s t al =
      tokens_alike n m seen (name_tokens (Some y)) (name_tokens (Some (marked g y)))
      (subst (λ z. Alike n m seen z (claim_name may' (Some (marked g y)) t)) (sym (unclaimed may (Some y) none s)) (met_alike n m seen may' 37 t.at g.pos e al))

  pub record AlikeVariable (k k' : Option TypeOf) (stars : List Star) (y : Named) (g : ProbeMark) (ls : LengthShapes) (i i' : MaybeInit) (s t : State) : Type 0 where
    pub lengths : (variable_lengths stars (Some (marked g y)) ls i' t).lengths ≡ (variable_lengths stars (Some y) ls i s).lengths
    pub kind : variable_kind k' stars (Some (marked g y)) ls i' t ≡ variable_kind k stars (Some y) ls i s
    pub state : Alike n m seen (variable_state k stars y ls i s) (variable_state k' stars (marked g y) ls i' t)

  -- a variable up to its initialisers, which give the same lengths
  pub variable_marked : (k k' : Option TypeOf) (stars : List Star) (y : Named) (g : ProbeMark) (ls : LengthShapes) (i i' : MaybeInit) → k' ≡ k → name_mark (Some y) ≡ None → lengths_mark ls ≡ None → ((cs : List Length) → lengths_with i' cs ≡ lengths_with i cs) →
      (s t : State) → (nat_eq t.function 0 || has_init i') ≡ true → (let b = steps (star_tokens stars) t in Alike n m seen (steps (star_tokens stars) s) (claim def g.number b.at g.pos b)) → AlikeVariable k k' stars y g ls i i' s t
  variable_marked k k' stars y g ls i i' e none none_long same s t may al =
      let v = name_marked (nat_eq s.function 0 || has_init i) (nat_eq t.function 0 || has_init i') y g none may (steps (star_tokens stars) s) (steps (star_tokens stars) t) al in
      let l = lengths_alike n m seen ls none_long [] [] refl v in
      let counts = same (variable_lengths stars (Some (marked g y)) ls i' t).counts ∙ ap (lengths_with i) l.counts in
      let d = ap (pointed stars) e in
      record {
        lengths = l.lengths;
        kind = ap kind_at (variable_rule_same n m seen _ _ _ _ counts d l.state);
        state = judged_variable_alike n m seen _ _ y.pos y.text _ _ _ _ counts d l.state;
      }

-- the lengths of a parameter
abbrev pub param_lengths : Pos → SpecShapes → List Star → Option Named → LengthShapes → State → TypedLengths
param_lengths p specs stars x ls s = type_lengths [] ls (steps (name_tokens x) (claim_name true x (behind_stars p specs stars s)))

module _ (n m : ℕ) (seen : Seen) where
  pub record AlikeParameter (p : Pos) (specs : SpecShapes) (stars : List Star) (y : Named) (g : ProbeMark) (ls : LengthShapes) (i : MaybeInit) (s t : State) : Type 0 where
    pub lengths : (param_lengths p specs stars (Some (marked g y)) ls t).lengths ≡ (param_lengths p specs stars (Some y) ls s).lengths
    pub kind : (type_param true p specs stars (Some (marked g y)) ls i t).kind ≡ (type_param true p specs stars (Some y) ls i s).kind
    pub state : Alike n m seen (type_param true p specs stars (Some y) ls i s).state (type_param true p specs stars (Some (marked g y)) ls i t).state

  -- a parameter of a definition, whose specifiers are the same type
  pub param_marked : (p : Pos) (specs : SpecShapes) (stars : List Star) (y : Named) (g : ProbeMark) (ls : LengthShapes) (i : MaybeInit) → name_mark (Some y) ≡ None → lengths_mark ls ≡ None →
      (s t : State) → (type_specs false specs unspelled t).spelled ≡ (type_specs false specs unspelled s).spelled → (let b = behind_stars p specs stars t in Alike n m seen (behind_stars p specs stars s) (claim def g.number b.at g.pos b)) → AlikeParameter p specs stars y g ls i s t
  param_marked p specs stars y g ls i none none_long s t e al =
      let l = lengths_alike n m seen ls none_long [] [] refl (name_marked n m seen true true y g none refl (behind_stars p specs stars s) (behind_stars p specs stars t) al) in
      let k = ap (λ z. pointed stars (kind_at (spelled_rule z))) e in
      record {
        lengths = l.lengths;
        kind = ap kind_at (parameter_rule_same n m seen _ _ _ _ l.counts k l.state);
        state = judged_parameter_alike n m seen true p (Some y) s.at t.at _ _ _ _ _ _ l.counts k l.state;
      }
