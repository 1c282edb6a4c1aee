use Rattle.std.proofs.Common.{false, ◌+◌, ◌-◌, ◌∙◌, sym, ap, arith}
use Rattle.c_store.specs.Cells.{Cells, literal_cells}
use Rattle.c_tables.specs.declared.tables.Tables as tables
use Rattle.c_tables.specs.Tables.{tables_shape}
use Rattle.c_world.specs.World.{tables_of}
use Rattle.c_world.proofs.Made.{made_on}
use Rattle.c_world.proofs.Shown.{literal_noted}
use Rattle.c_world.proofs.world.World.make_literal.Goals as goal

pub invariant_of-self-in-Ok : goal.invariant_of-self-in-Ok
invariant_of-self-in-Ok c =
    let g = made_on c.args.self.now.names c.args.self.now.store c.make_literal.new.self false (literal_cells c.bytes.result.now) c.in-Ok.instance c.args.self.now.last c.args.self.now.living c.args.self.now.most c.args.self.now.active c.in-Ok.ensures.is.0 c.in-Ok.ensures.is.1 in
    record { living = g.living; counted = g.counted; most = g.most; active = g.active; within = c.args.self.now.within; limited = c.args.self.now.limited; routed = c.args.self.now.routed; measured = c.args.self.now.measured }

pub returns-in_ok-note-in-Ok-clause-noted : goal.returns-in_ok-note-in-Ok-clause-noted
returns-in_ok-note-in-Ok-clause-noted c = λ n x at.
    let t : tables.Tables = c.tables.result.now in
    literal_noted c.note.new.self.fresh.items c.args.self.now.fresh.items (tables_of c.args.self.now).literals (tables_shape t).literals c.args.before (c.args.before + 1 - 1) x c.literal-literal.result.now.bytes c.in-Ok.instance c.note.new.self.store.count c.saturating_add.result c.len.result
    c.in_ok-note-in-Ok.ensures.noted (c.in-Ok.ensures.is.1 ∙ sym (ap (λ (s : Cells). s.count) c.in_ok-note-in-Ok.ensures.store)) c.saturating_add.ensures c.len.ensures c.literal-literal.ensures (ap (λ (t : tables.Tables). (tables_shape t).literals) c.tables.ensures.tables) (omega arith) at
