use Rattle.std.proofs.Common.{rules, ◌-◌, Some, arith}
use Rattle.std.proofs.lemmas.Grind.{common_steps}
use Rattle.c_tables.proofs.Rows.{length_changed}
use Rattle.c_tables.proofs.Named.{firsts_changed}
use Rattle.c_tables.proofs.tables.Tables.define.Goals as goal

-- src/tables/changing.rt:25:9
pub invariant_of-self : goal.invariant_of-self
invariant_of-self c =
    let t = c.args.self.now in
    record {
      few_structures = t.few_structures;
      few_functions = search (rules, length_changed, common_steps);
      few_variables = t.few_variables;
      few_literals = t.few_literals;
      firsts = firsts_changed t.first t.functions.items (c.args.i - 1) c.index_mut.result.now (Some c.args.params) (search (rules, common_steps)) c.index_mut.ensures.value t.firsts;
    }
