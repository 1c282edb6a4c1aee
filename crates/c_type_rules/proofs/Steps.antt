-- What a compound assignment makes of its left side.
use Rattle.std.proofs.Common.{◌≡◌, Bool, true, false, Option, Some, None, refl, ap}
use Rattle.c_base.specs.declared.place.IntKind.{IntKind}
use Rattle.c_base.specs.declared.place.IntKind.TheVariants.{Int, Long}
use Rattle.c_syntax.specs.Shape.{TypeOf, int, pointer, array, structure, nothing}
use Rattle.c_syntax.specs.declared.tree.BinaryOp.{BinaryOp}
use Rattle.c_syntax.specs.declared.tree.BinaryOp.TheVariants as op
use Rattle.c_type_rules.specs.Kinds.{same_type}
use Rattle.c_type_rules.specs.Verdicts.{wrong, on, fine_if, moves, stored_type, changed_type, step_type, scalar_type}
use Rattle.c_type_rules.proofs.Same.{same_refl}

-- an integer doesn't go into a pointer
lost : (t : TypeOf) (k : IntKind) (x : Bool) → on (fine_if x (int k)) (λ u. stored_type (pointer t) u false) ≡ wrong
lost t k true = refl
lost t k false = refl

pub changed_pointer : (o : BinaryOp) (t b : TypeOf) → changed_type o (pointer t) b ≡ fine_if (moves o b) (pointer t)
changed_pointer op.Add t (int k) = ap (λ x. fine_if x (pointer t)) (same_refl t)
changed_pointer op.Sub t (int k) = ap (λ x. fine_if x (pointer t)) (same_refl t)
changed_pointer op.Sub t (pointer s) = lost t Long (same_type t s)
changed_pointer op.Sub t (array s n) = lost t Long (same_type t s)
changed_pointer op.Lt t (pointer s) = lost t Int (same_type t s)
changed_pointer op.Lt t (array s n) = lost t Int (same_type t s)
changed_pointer op.Gt t (pointer s) = lost t Int (same_type t s)
changed_pointer op.Gt t (array s n) = lost t Int (same_type t s)
changed_pointer op.Le t (pointer s) = lost t Int (same_type t s)
changed_pointer op.Le t (array s n) = lost t Int (same_type t s)
changed_pointer op.Ge t (pointer s) = lost t Int (same_type t s)
changed_pointer op.Ge t (array s n) = lost t Int (same_type t s)
changed_pointer op.Eq t (pointer s) = lost t Int (same_type t s)
changed_pointer op.Eq t (array s n) = lost t Int (same_type t s)
changed_pointer op.Ne t (pointer s) = lost t Int (same_type t s)
changed_pointer op.Ne t (array s n) = lost t Int (same_type t s)
changed_pointer _ t _ = refl

pub stepped_scalar : (a : Option TypeOf) → step_type a ≡ scalar_type a
stepped_scalar None = refl
stepped_scalar (Some (int k)) = refl
stepped_scalar (Some (pointer t)) = changed_pointer op.Add t (int Int)
stepped_scalar (Some (array t n)) = refl
stepped_scalar (Some (structure n)) = refl
stepped_scalar (Some nothing) = refl
