-- Steps of the reader in the form in which the code takes them.
use Rattle.std.proofs.Common.{◌≡◌, ℕ, suc, ◌+◌, ◌≤◌, ◌<◌, List, [], ◌∷◌, ◌++◌, length, Option, Some, None, Bool, true, false, refl, sym, ap, ◌∙◌, subst, append_assoc, append-nil}
use Rattle.c_base.specs.declared.place.Pos.{Pos}
use Rattle.c_syntax.specs.declared.tree.Declarator.{Declarator}
use Rattle.c_syntax.specs.declared.tree.Enumer.{Enumer, out-Enumer}
use Rattle.c_syntax.specs.declared.tree.Param.{Param}
use Rattle.c_syntax.specs.declared.tree.Init.{Init}
use Rattle.c_syntax.specs.Shaped.{Standing}
use Rattle.c_syntax.specs.declared.text.Text.{Text}
use Rattle.c_syntax.specs.declared.token.Mark.TheVariants as marks
use Rattle.c_syntax.specs.declared.token.Token.{Token}
use Rattle.c_syntax.specs.declared.tree.Node.{Node}
use Rattle.c_syntax.specs.Shape.{NodeShapes, no_nodes, TypeShape, SpecShapes, DeclaratorShape, decl, one_node}
use Rattle.c_syntax.specs.View.{node_shape, node_list, declarator_shape, declarator_list, param_shape, init_shape, maybe_node, enumer_list}
use Rattle.c_grammar.specs.Look.{Got, got, Finds, after, a_word}
use Rattle.c_grammar.specs.Starts.{start, at_select}
use Rattle.c_syntax.specs.Forms.{place}
use Rattle.c_grammar.specs.Reader.{reads, reads_led, reads_type, fronts, reads_declarator, reads_declarators, reads_param, reads_init, reads_lengths}
use Rattle.c_grammar.specs.ExprReader.{most_probes, numbered, one_more, plain_name}
use Rattle.c_grammar.specs.Parts.{declaring, DeclaratorsRead, enumerators, value, one_length}
use Rattle.c_grammar.proofs.ExprSteps.{then_fails, closed_found, closed_fails, closed_open, listing, typed, constants, front_select_fails}
use Rattle.c_grammar.proofs.DeclSteps.{declaring_found, declaring_open}
use Rattle.c_grammar.proofs.ListSteps.{LedFrom, led_start, listing_start, DeclaratorsFrom, declarators_start, declarators_more, declarators_done, declarators_failed, ParamsFrom, params_start, InitsFrom, inits_start, EnumersFrom, enumers_comma, enumers_more, enumers_done, LengthsFrom, lengths_more, lengths_failed, lengths_too_deep, TypeLengthsFrom, type_lengths_more, type_lengths_failed, type_lengths_too_deep}

-- a list of expressions, by its first one and what is read behind it

pub listing_fails : (n d g : ℕ) (ts : List Token) → Finds (reads n d g) ts None → Finds (listing n d g) ts None
listing_fails n d g ts p = then_fails (reads n d g) (λ k. one_more (λ r. reads_led n d g k r)) ts p

-- a type name and the closing parenthesis

abbrev type_below : ℕ → ℕ → ℕ → List Token → Got TypeShape
type_below d g k l = reads_type (suc d) g k l

pub typed_found : (d g : ℕ) (ts x y : List Token) (t : TypeShape) → Finds (reads_type (suc d) g) ts (Some (t, x)) → after marks.RightParen x ≡ Some y → Finds (typed d g) ts (Some (t, y))
typed_found d g ts x y t p e = closed_found marks.RightParen (type_below d g) ts t x y p e

pub typed_fails : (d g : ℕ) (ts : List Token) → Finds (reads_type (suc d) g) ts None → Finds (typed d g) ts None
typed_fails d g ts p = closed_fails marks.RightParen (type_below d g) ts p

pub typed_open : (d g : ℕ) (ts x : List Token) (t : TypeShape) → Finds (reads_type (suc d) g) ts (Some (t, x)) → after marks.RightParen x ≡ None → Finds (typed d g) ts None
typed_open d g ts x t p e = closed_open marks.RightParen (type_below d g) ts t x p e

-- DECLARATORS BEHIND THE FIRST

-- those that were read so far, behind `before`
pub record DeclaratorsSoFar (s : Standing) (d g : ℕ) (before now : List Declarator) (ts rest : List Token) : Type 0 where
  pub further : List Declarator
  pub joined : now ≡ before ++ further
  pub leads : DeclaratorsFrom s d g further ts rest

pub declarators_none : (s : Standing) (d g : ℕ) (before : List Declarator) (ts : List Token) → DeclaratorsSoFar s d g before before ts ts
declarators_none s d g before ts = record { further = []; joined = sym (append-nil before); leads = declarators_start s d g ts }

pub declarators_on : (now' : List Declarator) (s : Standing) (d g : ℕ) (before now : List Declarator) (a : Declarator) (ts rest r x : List Token) → DeclaratorsSoFar s d g before now ts rest → after marks.Comma rest ≡ Some r → Finds (reads_declarator s d g) r (Some (declarator_shape a, x)) → now' ≡ now ++ a ∷ [] → DeclaratorsSoFar s d g before now' ts x
declarators_on now' s d g before now a ts rest r x p e q same = record {
  further = p.further ++ a ∷ [];
  joined = same ∙ ap (λ l. l ++ a ∷ []) p.joined ∙ append_assoc before p.further (a ∷ []);
  leads = declarators_more (p.further ++ a ∷ []) s d g p.further a ts rest r x p.leads e q refl;
}

pub declaring_unclosed : (s : Standing) (d g : ℕ) (p : Pos) (specs : SpecShapes) (t : DeclaratorShape) (before now : List Declarator) (ts x : List Token) → DeclaratorsRead s d g before now ts x → after marks.Semicolon x ≡ None → Finds (declaring s d g p specs t) ts None
declaring_unclosed s d g p specs t before now ts x r e = declaring_open s d g p specs t ts x (declarator_list r.further) r.finds e

-- FIRST ITEMS

pub params_first : (l : List Param) (d g : ℕ) (a : Param) (ts x : List Token) → Finds (reads_param d g) ts (Some (param_shape a, x)) → l ≡ a ∷ [] → ParamsFrom d g l ts x
params_first l d g a ts x p same = subst (λ l. ParamsFrom d g l ts x) (sym same) (params_start d g a ts x p)

pub inits_first : (l : List Init) (d g : ℕ) (a : Init) (ts x : List Token) → Finds (reads_init (suc d) g) ts (Some (init_shape a, x)) → l ≡ a ∷ [] → InitsFrom d g l ts x
inits_first l d g a ts x p same = subst (λ l. InitsFrom d g l ts x) (sym same) (inits_start d g a ts x p)

-- ENUMERATORS

-- ARRAY LENGTHS, by a count of them

pub lengths_next : (l' : List (Option Node)) (free : Bool) (d g n : ℕ) (l : List (Option Node)) (a : Option Node) (ts rest r x : List Token) → LengthsFrom free d g l ts rest → n ≡ length l → after marks.LeftBracket rest ≡ Some r → n + d < 400 → Finds (one_length free (n + d) g) r (Some (maybe_node a, x)) → l' ≡ l ++ a ∷ [] → LengthsFrom free d g l' ts x
lengths_next l' free d g n l a ts rest r x p c e low q same =
    lengths_more l' free d g l a ts rest r x p e (subst (λ m. m + d < 400) c low) (subst (λ m. Finds (one_length free (m + d) g) r (got (maybe_node a) x)) c q) same

pub lengths_stopped : (free : Bool) (d g n : ℕ) (l : List (Option Node)) (ts rest r : List Token) → LengthsFrom free d g l ts rest → n ≡ length l → after marks.LeftBracket rest ≡ Some r → n + d < 400 → Finds (one_length free (n + d) g) r None → Finds (reads_lengths free d g) ts None
lengths_stopped free d g n l ts rest r p c e low q = lengths_failed free d g l ts rest r p e (subst (λ m. m + d < 400) c low) (subst (λ m. Finds (one_length free (m + d) g) r None) c q)

pub lengths_many : (free : Bool) (d g n : ℕ) (l : List (Option Node)) (ts rest r : List Token) → LengthsFrom free d g l ts rest → n ≡ length l → after marks.LeftBracket rest ≡ Some r → 400 ≤ n + d → Finds (reads_lengths free d g) ts None
lengths_many free d g n l ts rest r p c e high = lengths_too_deep free d g l ts rest r p e (subst (λ m. 400 ≤ m + d) c high)

pub type_lengths_next : (l' : List Node) (d g n : ℕ) (l : List Node) (a : Node) (ts rest r x : List Token) → TypeLengthsFrom d g l ts rest → n ≡ length l → after marks.LeftBracket rest ≡ Some r → n + d < 400 → Finds (one_length false (n + d) g) r (Some (one_node (node_shape a), x)) → l' ≡ l ++ a ∷ [] → TypeLengthsFrom d g l' ts x
type_lengths_next l' d g n l a ts rest r x p c e low q same =
    type_lengths_more l' d g l a ts rest r x p e (subst (λ m. m + d < 400) c low) (subst (λ m. Finds (one_length false (m + d) g) r (got (one_node (node_shape a)) x)) c q) same

pub type_lengths_stopped : (d g n : ℕ) (l : List Node) (ts rest r : List Token) → TypeLengthsFrom d g l ts rest → n ≡ length l → after marks.LeftBracket rest ≡ Some r → n + d < 400 → Finds (one_length false (n + d) g) r None → Finds (reads_lengths false d g) ts None
type_lengths_stopped d g n l ts rest r p c e low q = type_lengths_failed d g l ts rest r p e (subst (λ m. m + d < 400) c low) (subst (λ m. Finds (one_length false (m + d) g) r None) c q)

pub type_lengths_many : (d g n : ℕ) (l : List Node) (ts rest r : List Token) → TypeLengthsFrom d g l ts rest → n ≡ length l → after marks.LeftBracket rest ≡ Some r → 400 ≤ n + d → Finds (reads_lengths false d g) ts None
type_lengths_many d g n l ts rest r p c e high = type_lengths_too_deep d g l ts rest r p e (subst (λ m. 400 ≤ m + d) c high)
