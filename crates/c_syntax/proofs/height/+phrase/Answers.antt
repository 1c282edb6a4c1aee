use Rattle.std.proofs.Common.{arith, rules, ap}
use Rattle.c_syntax.specs.declared.tree.Expr.{the_lemmas}
use Rattle.c_syntax.specs.Levels.{type_height, decl_height}
use Rattle.c_syntax.proofs.Open.{type_open, decl_open, param_open}
use Rattle.c_syntax.proofs.Levels.{call_levels, select_levels, struct_levels, enum_levels, arrays_levels, params_levels, inits_levels}
use Rattle.c_syntax.proofs.height.+phrase.Goals as goal

pub node_height-nodes_height-requires : goal.node_height-nodes_height-requires
node_height-nodes_height-requires t c =
    let levels = call_levels c.args.node.now.form c.in-Call.field-0 c.in-Call.args c.in-Call.is in
    (search (rules, the_lemmas), rw c.deref.ensures.value (omega (arith, levels, c.requires)))

pub cases_height-nodes_height-requires : goal.cases_height-nodes_height-requires
cases_height-nodes_height-requires t c =
    let levels = select_levels c.args.probe.now c.in-Select.field-0 c.in-Select.cases c.in-Select.is in
    (search (rules, the_lemmas), rw c.deref.ensures.value (omega (arith, levels, c.requires)))

pub type_height-type_lengths_height-requires : goal.type_height-type_lengths_height-requires
type_height-type_lengths_height-requires t c =
    let levels = ap type_height (type_open c.args.name.now) in
    (search (rules, the_lemmas), rw c.deref.ensures.value (omega (arith, levels, c.requires)))

pub type_height-specs_height-requires : goal.type_height-specs_height-requires
type_height-specs_height-requires t c =
    let levels = ap type_height (type_open c.args.name.now) in
    (search (rules, the_lemmas), rw c.deref-2.ensures.value (omega (arith, levels, c.requires)))

pub spec_height-decls_height-requires : goal.spec_height-decls_height-requires
spec_height-decls_height-requires t c =
    let levels = struct_levels c.args.form.now c.in-Struct.field-0 c.in-Struct.members c.in-Some.decls c.in-Struct.is c.in-Some.is in
    (search (rules, the_lemmas), rw c.deref.ensures.value (omega (arith, levels, c.requires)))

pub spec_height-enumers_height-requires : goal.spec_height-enumers_height-requires
spec_height-enumers_height-requires t c =
    let levels = enum_levels c.args.form.now c.in-Enum.field-0 c.in-Enum.enumers c.in-Some-enumers.rows c.in-Enum.is c.in-Some-enumers.is in
    (search (rules, the_lemmas), rw c.deref-in-Some-enumers.ensures.value (omega (arith, levels, c.requires)))

pub decl_height-specs_height-requires : goal.decl_height-specs_height-requires
decl_height-specs_height-requires t c =
    let levels = ap decl_height (decl_open c.args.decl.now) in
    (search (rules, the_lemmas), rw c.deref.ensures.value (omega (arith, levels, c.requires)))

pub decl_height-declarators_height-requires : goal.decl_height-declarators_height-requires
decl_height-declarators_height-requires t c =
    let levels = ap decl_height (decl_open c.args.decl.now) in
    (search (rules, the_lemmas), rw c.deref-2.ensures.value (omega (arith, levels, c.requires)))

pub behind_height-lengths_height-requires : goal.behind_height-lengths_height-requires
behind_height-lengths_height-requires t c =
    let levels = arrays_levels c.args.stars.now c.args.form.now c.in-Arrays.lengths c.in-Arrays.is in
    (search (rules, the_lemmas), rw c.deref.ensures.value (omega (arith, levels, c.requires)))

pub params_height-param_list_height-requires : goal.params_height-param_list_height-requires
params_height-param_list_height-requires t c =
    let levels = params_levels c.args.list.now c.in-List.list c.in-List.is in
    (search (rules, the_lemmas), rw c.deref.ensures.value (omega (arith, levels, c.requires)))

pub param_height-specs_height-requires : goal.param_height-specs_height-requires
param_height-specs_height-requires t c =
    let levels = ap decl_height (param_open c.args.param.now) in
    (search (rules, the_lemmas), rw c.deref.ensures.value (omega (arith, levels, c.requires)))

pub init_height-inits_height-requires : goal.init_height-inits_height-requires
init_height-inits_height-requires t c =
    let levels = inits_levels c.args.init.now c.in-List.field-0 c.in-List.list c.in-List.field-2 c.in-List.is in
    (search (rules, the_lemmas), rw c.deref.ensures.value (omega (arith, levels, c.requires)))
