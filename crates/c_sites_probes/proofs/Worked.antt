-- Worked owners of use probes.
use Rattle.std.proofs.Common.{◌≡◌, ℕ, ◌+◌, List, [], ◌∷◌, Some, None, refl}
use Rattle.c_base.specs.declared.place.Pos.{Pos}
use Rattle.c_syntax.specs.declared.text.Text.{Text}
use Rattle.c_syntax.specs.declared.tree.BinaryOp.TheVariants as op
use Rattle.c_syntax.specs.Shape.{bare, name, plain, block, test, used, NodeShape, node, ExprShape, leaf, two, probe, simple, select, no_nodes}
use Rattle.c_sites_probes.specs.Owned.{owner_of, own_node}

abbrev at : Pos
at = record { line = 1; col = 1 }

abbrev e : ExprShape → NodeShape
e f = node at at bare f

abbrev i : NodeShape
i = e (leaf (name (105 ∷ [])))

abbrev digit : ℕ → Text
digit n = (48 + n) ∷ []

abbrev use_of : ℕ → NodeShape
use_of n = e (probe (simple used (digit n)) i)

-- __atac_test(3, __atac_use(1, i) + __atac_block(7, __atac_select(4, ; __atac_use(2, i)))) + __atac_use(5, i)
abbrev found : List (ℕ × ℕ)
found = own_node None (e (two (plain op.Add)
    (e (probe (simple test (digit 3)) (e (two (plain op.Add) (use_of 1) (e (probe (simple block (digit 7)) (e (probe (select (digit 4) no_nodes) (use_of 2)))))))))
    (use_of 5))) []

innermost : found ≡ (1, 3) ∷ (2, 4) ∷ []
innermost = refl

outside : owner_of 5 found ≡ None
outside = refl

inside : owner_of 2 found ≡ Some 4
inside = refl
