use Rattle.std.proofs.Common.{◌∙◌, ap}
use Rattle.c_syntax.specs.View.{type_of}
use Rattle.c_store.specs.declared.value.Value.TheVariants.{At}
use Rattle.c_store.specs.declared.value.Pointer.{Pointer}
use Rattle.c_tables.specs.Tables.{tables_shape}
use Rattle.c_meaning.specs.Results.{Got, then_do}
use Rattle.c_meaning.specs.Places.{first_element}
use Rattle.c_meaning.specs.Expressions.{gives}
use Rattle.c_world.specs.World.{state_of}
use Rattle.c_eval_once.proofs.Once.{array_is}
use Rattle.c_eval_once.proofs.at_once.array_value.Goals as goal

pub returns-in-Err-clause-is : goal.returns-in-Err-clause-is
returns-in-Err-clause-is c = λ k p o x h.
    let t = tables_shape c.args.tables.now in
    let e = type_of c.args.of.now in
    array_is t k p o (type_of c.args.kind.now) e c.args.length c.args.number x (state_of c.args.world.now h) c.requires
    ∙ ap (λ (r : Got Pointer). then_do r (λ q s. then_do (first_element t e c.args.length q s) (λ q. gives (At q)))) (c.in-Err.ensures.is h)
