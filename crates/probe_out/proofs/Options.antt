-- What is left of specifiers with a list.
use Rattle.std.proofs.Common.{◌≡◌, List, Option, Some, option_map, ap, sym, ◌∙◌}
use Rattle.std.specs.declared.vec.Vec.{Vec}
use Rattle.std.specs.declared.alloc.Global.{Global}
use Rattle.c_syntax.specs.declared.tree.Named.{Named}
use Rattle.c_syntax.specs.declared.tree.Decl.{Decl}
use Rattle.c_syntax.specs.declared.tree.Enumer.{Enumer}
use Rattle.c_syntax.specs.declared.tree.SpecForm.{SpecForm}
use Rattle.c_syntax.specs.declared.tree.SpecForm.TheVariants as spec
use Rattle.c_syntax.specs.Shape.{struct, members, enum, rows}
use Rattle.c_syntax.specs.View.{spec_shape, decl_list, enumer_list}
use Rattle.c_syntax.specs.Options.{maybe_members, maybe_rows}
use Rattle.c_syntax.proofs.Open.{struct_open, enum_open}
use Rattle.c_tree.specs.Erased.{erased_name, erased_spec, erased_decls, erased_enumers}

pub struct_left : (f g : SpecForm) (n m : Option Named) (l : Option (Vec Decl Global)) (v w : Vec Decl Global) (ds : List Decl) → f ≡ spec.Struct n l → l ≡ Some v → m ≡ option_map erased_name n → decl_list w.items ≡ erased_decls (decl_list ds) → ds ≡ v.items → spec_shape g ≡ struct m (maybe_members (Some w)) → spec_shape g ≡ erased_spec (spec_shape f)
struct_left f g n m l v w ds is some named listed same made =
    let opened : spec_shape f ≡ struct n (members (decl_list v.items)) = ap spec_shape is ∙ struct_open n l ∙ ap (λ x. struct n (maybe_members x)) some in
    made ∙ ap (λ x. struct x (members (decl_list w.items))) named ∙ ap (λ x. struct (option_map erased_name n) (members x)) (listed ∙ ap (λ x. erased_decls (decl_list x)) same) ∙ sym (ap erased_spec opened)

pub enum_left : (f g : SpecForm) (n m : Option Named) (l : Option (Vec Enumer Global)) (v w : Vec Enumer Global) (es : List Enumer) → f ≡ spec.Enum n l → l ≡ Some v → m ≡ option_map erased_name n → enumer_list w.items ≡ erased_enumers (enumer_list es) → es ≡ v.items → spec_shape g ≡ enum m (maybe_rows (Some w)) → spec_shape g ≡ erased_spec (spec_shape f)
enum_left f g n m l v w es is some named listed same made =
    let opened : spec_shape f ≡ enum n (rows (enumer_list v.items)) = ap spec_shape is ∙ enum_open n l ∙ ap (λ x. enum n (maybe_rows x)) some in
    made ∙ ap (λ x. enum x (rows (enumer_list w.items))) named ∙ ap (λ x. enum (option_map erased_name n) (rows x)) (listed ∙ ap (λ x. erased_enumers (enumer_list x)) same) ∙ sym (ap erased_spec opened)
