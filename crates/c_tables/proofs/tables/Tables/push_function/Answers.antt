use Rattle.std.proofs.Common.{rules, sym, ◌∙◌}
use Rattle.std.proofs.lemmas.Grind.{common_steps}
use Rattle.c_tables.proofs.Named.{firsts_filled}
use Rattle.c_tables.proofs.tables.Tables.push_function.Goals as goal

-- src/tables/adding.rt:47:15
pub invariant_of-self-2 : goal.invariant_of-self-2
invariant_of-self-2 c =
    let t = c.args.self.now in
    record {
      few_structures = t.few_structures;
      few_functions = search (rules, common_steps);
      few_variables = t.few_variables;
      few_literals = t.few_literals;
      firsts = firsts_filled t.first c.keep_first.new.first t.functions.items c.reserve.new.self.items c.push.new.self.items c.args.row _ _ c.push.result (search rules) c.reserve.ensures.items c.push.ensures.items t.firsts (search rules) (search rules) c.in_ok-keep_first.ensures.ok;
    }
