use Rattle.std.proofs.Common.{◌≡◌, ap, ◌∙◌}
use Rattle.c_syntax.specs.Shape.{arrays}
use Rattle.c_syntax.specs.View.{decl_form_shape, lengths_list}
use Rattle.c_syntax.proofs.Open.{arrays_open}
use Rattle.c_walk.specs.Stating.{with_variable}
use Rattle.probe_in.proofs.declarations.probed_declarator.Goals as goal

pub returns-in_ok-made-in-Arrays : goal.returns-in_ok-made-in-Arrays
returns-in_ok-made-in-Arrays c t c' w h =
    let v = c.in-Arrays.field-0 in
    let form : decl_form_shape c.args.name.now.form ≡ arrays (lengths_list v.items) = ap decl_form_shape c.in-Arrays.is ∙ arrays_open v in
    rw form (c.in_ok-made-in-Arrays.ensures t (lengths_list v.items) form c' (with_variable w) h)
