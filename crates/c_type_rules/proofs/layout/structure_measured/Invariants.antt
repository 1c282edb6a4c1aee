use Rattle.std.proofs.Common.{◌≡◌, map, drop}
use Rattle.c_syntax.specs.View.{type_of}
use Rattle.c_type_rules.specs.Layouts.{measures, measure_of, known, laid_out, empty}
use Rattle.c_type_rules.proofs.layout.structure_measured.Given as goal

abbrev pub invariant-loop-i : goal.invariant-loop-i
invariant-loop-i l = laid_out (measures l.structures) (measure_of l.so_far) (map type_of (drop l.i l.fields)) ≡ laid_out (measures l.structures) (known empty) (map type_of l.fields)
