-- Lists that are being read: one item more, and the end.
use Rattle.std.proofs.Common.{◌≡◌, ℕ, zero, suc, ◌+◌, ◌≤◌, List, [], ◌∷◌, ◌++◌, length, Option, Some, None, refl, sym, ap, ◌∙◌, subst, arith}
use Rattle.std.specs.Prelude.{max}
use Rattle.c_syntax.specs.declared.token.Token.{Token}
use Rattle.c_grammar.specs.Look.{Got, got, then_go, Finds}
use Rattle.c_grammar.specs.Leads.{onto_got, all_onto, Leads}

onto_more : {A S : Type 0} (cons : A → S → S) (list : List A) (a : A) (z : Got S) → all_onto cons (list ++ a ∷ []) z ≡ all_onto cons list (then_go z (onto_got cons a))
onto_more cons [] a z = refl
onto_more cons (b ∷ list) a z = ap (λ q. then_go q (onto_got cons b)) (onto_more cons list a z)

pub leads_more : {A S : Type 0} (cons : A → S → S) (R R' R'' : ℕ → List Token → Got S) (list : List A) (a : A) (ts rest x : List Token) → Leads cons R R' list ts rest → ((z : Got S) → Finds R'' x z → Finds R' rest (then_go z (onto_got cons a))) → Leads cons R R'' (list ++ a ∷ []) ts x
leads_more cons R R' R'' list a ts rest x l f = record { on = λ z p. subst (Finds R ts) (sym (onto_more cons list a z)) (l.on (then_go z (onto_got cons a)) (f z p)) }

onto_none : {A S : Type 0} (cons : A → S → S) (list : List A) → all_onto cons list None ≡ None
onto_none cons [] = refl
onto_none cons (a ∷ list) = ap (λ q. then_go q (onto_got cons a)) (onto_none cons list)

pub leads_fail : {A S : Type 0} (cons : A → S → S) (R R' : ℕ → List Token → Got S) (list : List A) (ts rest : List Token) → Leads cons R R' list ts rest → Finds R' rest None → Finds R ts None
leads_fail cons R R' list ts rest l p = subst (Finds R ts) (onto_none cons list) (l.on None p)

-- a function that puts a list together item by item
pub record Builds {A S : Type 0} (cons : A → S → S) (nil : S) (build : List A → S) : Type 0 where
  pub empty : build [] ≡ nil
  pub more : (a : A) (list : List A) → build (a ∷ list) ≡ cons a (build list)

onto_built : {A S : Type 0} (cons : A → S → S) (nil : S) (build : List A → S) → Builds cons nil build → (list : List A) (x : List Token) → all_onto cons list (got nil x) ≡ got (build list) x
onto_built cons nil build b [] x = ap (λ s. got s x) (sym b.empty)
onto_built cons nil build b (a ∷ list) x = ap (λ q. then_go q (onto_got cons a)) (onto_built cons nil build b list x) ∙ ap (λ s. got s x) (sym (b.more a list))

pub leads_end : {A S : Type 0} (cons : A → S → S) (nil : S) (build : List A → S) → Builds cons nil build → (R R' : ℕ → List Token → Got S) (list : List A) (ts rest x : List Token) → Leads cons R R' list ts rest → Finds R' rest (got nil x) → Finds R ts (got (build list) x)
leads_end cons nil build b R R' list ts rest x l p = subst (Finds R ts) (onto_built cons nil build b list x) (l.on (got nil x) p)
