use Rattle.std.proofs.Common.{◌≡◌, ◌<◌, ◌∙◌, length, ap, sym}
use Rattle.std.specs.Option.{is_some}
use Rattle.std.proofs.Common.{true, false}
use Rattle.c_tables.specs.declared.tables.Tables as tables
use Rattle.c_tables.specs.Tables.{tables_shape}
use Rattle.c_tree.specs.declared.program.Program.{Program}
use Rattle.c_world.specs.World.{state_of, tables_of}
use Rattle.c_world.proofs.Literals.{within, literals_stop, literals_next}
use Rattle.c_world.proofs.world.World.make_literals.Goals as goal

pub returns-then-is_some-clause-done : goal.returns-then-is_some-clause-done
returns-then-is_some-clause-done c = λ h.
    let inside : c.loop-i.i < length (tables_of c.args.self.now).literals = within c.loop-i.i c.literals-i-end.result (tables_of c.args.self.now).literals (tables_shape c.tables.result.now).literals c.loop-i-test.true c.literals-i-end.ensures (ap (λ (t : tables.Tables). (tables_shape t).literals) c.tables.ensures.tables) in
    let some : is_some c.in_ok-stopped.stopped ≡ true = sym c.if-is_some.ensures in
    sym (c.loop-i.invariant.made h) ∙ literals_stop (tables_of c.args.self.now).literals (tables_of c.loop-i.self).literals c.loop-i.i c.in_ok-stopped.stopped (state_of c.loop-i.self h) (state_of c.make_literal.new.self h) inside (ap (λ (p : Program). (tables_shape p.tables).literals) c.loop-i.invariant.same.program) (c.in_ok-stopped.ensures.done h) some

pub loop-i-preserved : goal.loop-i-preserved
loop-i-preserved c =
    let inside : c.loop-i.i < length (tables_of c.args.self.now).literals = within c.loop-i.i c.literals-i-end.result (tables_of c.args.self.now).literals (tables_shape c.tables.result.now).literals c.loop-i-test.true c.literals-i-end.ensures (ap (λ (t : tables.Tables). (tables_shape t).literals) c.tables.ensures.tables) in
    let none : is_some c.in_ok-stopped.stopped ≡ false = sym c.if-is_some.ensures in
    record {
      made = λ h. literals_next (tables_of c.args.self.now).literals (tables_of c.loop-i.self).literals c.loop-i.i c.in_ok-stopped.stopped (state_of c.loop-i.self h) (state_of c.make_literal.new.self h) inside (ap (λ (p : Program). (tables_shape p.tables).literals) c.loop-i.invariant.same.program) (c.in_ok-stopped.ensures.done h) none ∙ c.loop-i.invariant.made h;
      names = c.make_literal.ensures.names ∙ c.loop-i.invariant.names;
      same = record { program = c.make_literal.ensures.same.program ∙ c.loop-i.invariant.same.program; limit = c.make_literal.ensures.same.limit ∙ c.loop-i.invariant.same.limit };
    }
