-- A constant is demanded where a value must be one.
use Rattle.std.proofs.Common.{◌≡◌, ℕ, Bool, true, false, not, ◌||◌, Option, Some, None, refl}
use Rattle.c_base.specs.declared.place.Pos.{Pos}
use Rattle.c_syntax.specs.Shape.{TypeOf}
use Rattle.c_constants.specs.declared.constants.Constant.{Constant}
use Rattle.c_constants.specs.Constants as constants
use Rattle.c_tree.specs.State.{State, demand}
use Rattle.c_tree.specs.Rulings.{rule, of_kind, allowed_if}
use Rattle.c_tree.specs.Sorts.{Sort}
use Rattle.c_tree.specs.Initialisers.{constant_init}
use Rattle.c_types_decl.specs.ValueView.{initialises, initialises_type}
use Rattle.c_tree.specs.Complaints.{not_constant}

-- of a type, if it is known
as_rule : (b : Bool) (t : TypeOf) (token : ℕ) (p : Pos) (s : State) → demand b not_constant token p s ≡ rule (allowed_if b not_constant t) token p s
as_rule true t token p s = refl
as_rule false t token p s = refl

of_known : (k : Option TypeOf) (a : Constant) (token : ℕ) (p : Pos) (s : State) → demand (initialises_type k a) not_constant token p s ≡ rule (of_kind k (λ t. allowed_if (constants.initialises t a) not_constant t)) token p s
of_known None a token p s = refl
of_known (Some t) a token p s = as_rule (constants.initialises t a) t token p s

-- where it need not be one, nothing is demanded
pub constant_demanded : (c : Bool) (a : Sort) (token : ℕ) (p : Pos) (s : State) → demand (not c || initialises a) not_constant token p s ≡ rule (constant_init c a) token p s
constant_demanded false a token p s = refl
constant_demanded true a token p s = of_known a.kind a.constant token p s
