use Rattle.std.proofs.Common.{◌+◌, ◌++◌, refl, sym, ap, ◌∙◌}
use Rattle.c_sites.specs.declared.names.Leaf.{Leaf}
use Rattle.c_sites.specs.LeafView.{leaf_shape}
use Rattle.c_sites.specs.Numbers.{with_name, number_of}
use Rattle.c_sites.proofs.Numbering.{inserted_name, inserted_number}
use Rattle.c_sites.proofs.names.Names.number.Goals as goal

pub returns-clause-names : goal.returns-clause-names
returns-clause-names c =
    let k : Leaf = record { variable = c.args.variable; text = c.args.text } in
    let ks = c.self.inside.leaves.keys in
    inserted_name leaf_shape k ks c.insert_full.new.self.keys c.in-Ok.ensures.keys ∙ ap (λ ns. with_name ns (leaf_shape k)) c.self.view_is

pub returns-clause-number : goal.returns-clause-number
returns-clause-number c more =
    let k : Leaf = record { variable = c.args.variable; text = c.args.text } in
    let ks = c.self.inside.leaves.keys in
    let new = inserted_name leaf_shape k ks c.insert_full.new.self.keys c.in-Ok.ensures.keys in
    inserted_number leaf_shape k ks c.in-Ok.index (c.in-Ok.index + 1) c.in-Ok.ensures.index refl more ∙ ap (λ ns. number_of (ns ++ more) (leaf_shape k)) (sym new)
