-- The declarators of declarations declare as many variables as the declarations.
use Rattle.std.proofs.Common.{◌≡◌, ◌+◌, refl, sym, ap, ◌∙◌, arith, add_assoc, zero-add, List, [], ◌∷◌, length}
use Rattle.c_syntax.specs.declared.tree.Decl.{Decl, out-Decl}
use Rattle.c_syntax.specs.declared.tree.Declarator.{Declarator}
use Rattle.c_syntax.specs.Shape.{decl, DeclShapes, no_decls, more_decls, DeclaratorShapes, no_declarators, more_declarators}
use Rattle.c_syntax.specs.View.{declarator_list, decl_list}
use Rattle.c_syntax.proofs.Open.{decl_open}
use Rattle.c_meaning.specs.Counts.{variables_of, variables_among, decls_variables}
use Rattle.c_plan.specs.Names.{joined, names_in, names_of}

pub variables_joined : (xs ys : DeclaratorShapes) → variables_among (joined xs ys) ≡ variables_among xs + variables_among ys
variables_joined no_declarators ys = sym (zero-add (variables_among ys))
variables_joined (more_declarators d rest) ys = ap (λ n. variables_of d + n) (variables_joined rest ys) ∙ sym (add_assoc (variables_of d) (variables_among rest) (variables_among ys))

pub variables_named : (ds : DeclShapes) → variables_among (names_of ds) ≡ decls_variables ds
variables_named no_decls = refl
variables_named (more_decls (decl p specs names) rest) = variables_joined names (names_of rest) ∙ ap (λ n. variables_among names + n) (variables_named rest)

-- the first declaration is opened, where no declarator is left
pub next_decl : (names : List Declarator) (decls others : List Decl) (d : Decl) (new : List Declarator) → length names ≡ 0 → decls ≡ d ∷ others → new ≡ (out-Decl d).names.items
    → joined (declarator_list new) (names_of (decl_list others)) ≡ joined (declarator_list names) (names_of (decl_list decls))
next_decl [] decls others d new h e g = rw (e, g) (sym (ap (λ x. joined (names_in x) (names_of (decl_list others))) (decl_open d)))
next_decl (n ∷ names) decls others d new h e g = absurd (omega arith)
