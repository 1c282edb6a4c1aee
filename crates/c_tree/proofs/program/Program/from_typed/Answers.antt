use Rattle.c_tree.proofs.program.Program.from_typed.Goals as goal

-- src/program.rt:23:5
pub invariant_of-result : goal.invariant_of-result
invariant_of-result c = record { typed = c.requires }
