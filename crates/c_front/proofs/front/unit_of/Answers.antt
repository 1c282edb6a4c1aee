use Rattle.std.proofs.Common.{◌≡◌, List, length, ap, sym, subst, arith}
use Rattle.c_syntax.specs.Forms.{kinds_of}
use Rattle.c_syntax.specs.View.{unit_shape}
use Rattle.c_tree.specs.Lexed.{AreLexed}
use Rattle.c_tree.proofs.Programs.{is_sound, has_few}
use Rattle.c_front.proofs.front.unit_of.Goals as goal

-- src/front.rt:45:1
pub returns-in-Ok-clause-sound : goal.returns-in-Ok-clause-sound
returns-in-Ok-clause-sound c =
    is_sound (unit_shape c.in-Ok.unit) c.as_slice.result.now c.in-Ok.ensures.shaped c.in-Ok.ensures.placed (subst (λ ts. AreLexed (kinds_of ts)) (sym c.as_slice.ensures.value) c.in_ok-tokens.ensures.lexed)

pub returns-in-Ok-clause-few : goal.returns-in-Ok-clause-few
returns-in-Ok-clause-few c =
    let same = ap (λ (ts : List _). length ts) c.as_slice.ensures.value in
    has_few (unit_shape c.in-Ok.unit) c.as_slice.result.now c.in-Ok.ensures.placed (omega (arith, same, c.in_ok-tokens.ensures.few))
