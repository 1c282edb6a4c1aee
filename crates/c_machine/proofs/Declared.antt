-- Declarators, one behind the other.
use Rattle.std.proofs.Common.{◌≡◌, ℕ, suc, ◌+◌, refl, sym, ap, ◌∙◌, arith, add_assoc, false}
use Rattle.c_base.specs.declared.place.Pos.{Pos}
use Rattle.c_syntax.specs.Shape.{NodeShape, decl, DeclShapes, no_decls, more_decls, DeclaratorShape, DeclaratorShapes, no_declarators, more_declarators, ItemShapes, braces}
use Rattle.c_tables.specs.Tables.{TablesShape}
use Rattle.c_meaning.specs.State.{State}
use Rattle.c_meaning.specs.Results.{then_do}
use Rattle.c_meaning.specs.Firsts.{quiet}
use Rattle.c_meaning.specs.Counts.{variables_of, variables_among, decls_variables}
use Rattle.c_meaning.specs.Knot.{Knot}
use Rattle.c_meaning.specs.Declarations.{declared_name, declared_names, declared_all}
use Rattle.c_meaning.specs.Statements.{here, items_flow, compound_flow}
use Rattle.c_meaning.proofs.Steps.{then_then, then_same}
use Rattle.c_eval_once.specs.Parts.{value}
use Rattle.c_plan.specs.Names.{joined, names_of}
use Rattle.c_plan.proofs.Named.{variables_named}
use Rattle.c_machine.specs.declared.parts.Use.{Use}
use Rattle.c_machine.specs.Todo.{Leaver, block_flow, use_flow, uses}

abbrev pub name_total : DeclaratorShapes → ℕ
name_total no_declarators = 0
name_total (more_declarators d rest) = suc (name_total rest)

-- a declarator, and the rest of its block
block_first : (t : TablesShape) (k : Knot) (d : DeclaratorShape) (rest : DeclaratorShapes) (items : ItemShapes) (n : ℕ) (s : State)
    → then_do (declared_name t k d (quiet n) s) (λ f. block_flow t k rest items (n + variables_of d)) ≡ block_flow t k (more_declarators d rest) items n s
block_first t k d rest items n s =
    ap (λ m. then_do (declared_name t k d (quiet n) s) (λ f s. then_do (declared_names t k rest (quiet (n + variables_of d)) s) (λ f. items_flow t k here false items (quiet m)))) (add_assoc n (variables_of d) (variables_among rest))
    ∙ sym (then_then (declared_name t k d (quiet n) s) (λ f. declared_names t k rest (quiet (n + variables_of d))) (λ f. items_flow t k here false items (quiet (n + variables_among (more_declarators d rest)))))

-- a value is wanted
pub block_wants : (t : TablesShape) (k : Knot) (names : DeclaratorShapes) (d : DeclaratorShape) (rest : DeclaratorShapes) (items : ItemShapes) (n m : ℕ) (s s' : State) (e : NodeShape) (u : Use) (go : Leaver) → names ≡ more_declarators d rest → m ≡ n + variables_of d → then_do (value t k e s') (use_flow t k u) ≡ declared_name t k d (quiet n) s
    → then_do (value t k e s') (uses t k u (λ f s. then_do (block_flow t k rest items m s) go)) ≡ then_do (block_flow t k names items n s) go
block_wants t k names d rest items n m s s' e u go is h g =
    rw (is, h) (sym (then_then (value t k e s') (use_flow t k u) (λ f s. then_do (block_flow t k rest items (n + variables_of d) s) go))
    ∙ sym (then_then (then_do (value t k e s') (use_flow t k u)) (λ f. block_flow t k rest items (n + variables_of d)) go)
    ∙ ap (λ r. then_do (then_do r (λ f. block_flow t k rest items (n + variables_of d))) go) g ∙ ap (λ r. then_do r go) (block_first t k d rest items n s))

-- ---- compound statements

joined_names : (t : TablesShape) (k : Knot) (xs ys : DeclaratorShapes) (n : ℕ) (s : State) → then_do (declared_names t k xs (quiet n) s) (λ f. declared_names t k ys (quiet (n + variables_among xs))) ≡ declared_names t k (joined xs ys) (quiet n) s
joined_names t k no_declarators ys n s = ap (λ m. declared_names t k ys (quiet m) s) (omega arith)
joined_names t k (more_declarators d rest) ys n s =
    then_then (declared_name t k d (quiet n) s) (λ f. declared_names t k rest (quiet (n + variables_of d))) (λ f. declared_names t k ys (quiet (n + (variables_of d + variables_among rest))))
    ∙ then_same (declared_name t k d (quiet n) s) _ _ (λ f s. ap (λ m. then_do (declared_names t k rest (quiet (n + variables_of d)) s) (λ f. declared_names t k ys (quiet m))) (sym (add_assoc n (variables_of d) (variables_among rest))) ∙ joined_names t k rest ys (n + variables_of d) s)

all_names : (t : TablesShape) (k : Knot) (ds : DeclShapes) (n : ℕ) (s : State) → declared_all t k ds (quiet n) s ≡ declared_names t k (names_of ds) (quiet n) s
all_names t k no_decls n s = refl
all_names t k (more_decls (decl p specs names) rest) n s =
    then_same (declared_names t k names (quiet n) s) _ _ (λ f s. all_names t k rest (n + variables_among names) s) ∙ joined_names t k names (names_of rest) n s

pub compound_opens : (t : TablesShape) (k : Knot) (p : Pos) (ds : DeclShapes) (items : ItemShapes) (n : ℕ) (s : State) → block_flow t k (names_of ds) items n s ≡ compound_flow t k (braces p ds items) (quiet n) s
compound_opens t k p ds items n s =
    ap (λ m. then_do (declared_names t k (names_of ds) (quiet n) s) (λ f. items_flow t k here false items (quiet (n + m)))) (variables_named ds)
    ∙ ap (λ r. then_do r (λ f. items_flow t k here false items (quiet (n + decls_variables ds)))) (sym (all_names t k ds n s))
