use Rattle.std.proofs.Common.{List, refl, sym, ap, ◌∙◌, Bool, true, map}
use Rattle.std.specs.Prelude.{slice_set}
use Rattle.c_lex.specs.declared.expand.Frame.{Frame}
use Rattle.c_lex.specs.Macros.{rows_of, spelled}
use Rattle.c_lex.specs.Output.{made_of}
use Rattle.c_lex.specs.Expand.{macro_of}
use Rattle.c_lex.specs.Replacing.{closed_of}
use Rattle.c_lex.proofs.Levels.{take_refused, take_opened, open_marks}
use Rattle.c_lex.proofs.expand.take.Goals as goal

pub returns-then-not-replace-clause-given : goal.returns-then-not-replace-clause-given
returns-then-not-replace-clause-given c =
    let there = ap (λ (h : List Bool). macro_of (rows_of c.args.table.now.entries) h (spelled c.args.piece)) (sym c.deref.ensures.value) ∙ c.in-Some.ensures in
    take_refused c.args.pos (made_of c.args.out.now) (rows_of c.args.table.now.entries) c.args.opened.now.items _ (spelled c.args.piece) _ there (search c.if-not-replace.ensures.replaced)

pub returns-in_ok-push-in-Some-clause-given : goal.returns-in_ok-push-in-Some-clause-given
returns-in_ok-push-in-Some-clause-given c =
    let there = ap (λ (h : List Bool). macro_of (rows_of c.args.table.now.entries) h (spelled c.args.piece)) (sym c.deref.ensures.value) ∙ c.in-Some.ensures in
    take_opened c.args.pos (made_of c.args.out.now) (made_of c.replace.new.self) (rows_of c.args.table.now.entries) c.args.opened.now.items c.mark.new.opened.items c.args.stack.now.items c.push.new.stack.items (record { row = c.in-Some.row; rest = c.in-Some.body }) (spelled c.args.piece) (c.in-Some.row, map spelled c.in-Some.body.now) there refl refl (search c.if-not-replace.ensures.replaced) c.mark.ensures c.in_ok-push-in-Some.ensures

pub returns-in_ok-push-in-Some-clause-marks : goal.returns-in_ok-push-in-Some-clause-marks
returns-in_ok-push-in-Some-clause-marks c = λ _.
    let there = ap (λ (h : List Bool). macro_of (rows_of c.args.table.now.entries) h (spelled c.args.piece)) (sym c.deref.ensures.value) ∙ c.in-Some.ensures in
    ap (λ (h : List Bool). closed_of h c.push.new.stack.items) c.mark.ensures ∙ ap (λ (l : List Frame). closed_of (slice_set c.args.opened.now.items c.in-Some.row true) l) c.in_ok-push-in-Some.ensures
    ∙ open_marks (rows_of c.args.table.now.entries) c.args.opened.now.items c.args.stack.now.items (record { row = c.in-Some.row; rest = c.in-Some.body }) (spelled c.args.piece) (c.in-Some.row, map spelled c.in-Some.body.now) there refl
