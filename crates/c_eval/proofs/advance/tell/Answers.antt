use Rattle.std.proofs.Common.{◌∙◌, ◌++◌, [], take, refl, ap}
use Rattle.std.proofs.lemmas.Result.{err_from_is_err_and}
use Rattle.c_tables.specs.Tables.{tables_shape}
use Rattle.c_world.specs.World.{state_of, tables_of}
use Rattle.c_eval.specs.Advance.{advance_of}
use Rattle.c_eval.proofs.Advanced.{front_taken, none_pending, same_names}
use Rattle.c_eval.proofs.advance.tell.Goals as goal

pub returns-in_err-tell-clause-front : goal.returns-in_err-tell-clause-front
returns-in_err-tell-clause-front g c = let p = err_from_is_err_and c.from_residual.result c.from_residual.ensures.1 in rw p.1 (λ h l at.
    let w = c.in_err-tell.ensures.front h l at in
    (l ++ take w.0 c.args.world.now.pending.items, w.1, front_taken l c.args.world.now.pending.items w.0))

pub returns-clause-advance : goal.returns-clause-advance
returns-clause-advance g c = λ l.
    let m = l ++ c.args.world.now.pending.items in
    c.in_ok-advance.ensures m ∙
    ap (λ p. advance_of (tables_shape p.tables) (state_of c.tell.new.self m) c.args.step) c.in_ok-tell.ensures.same.program ∙
    ap (λ s. advance_of (tables_of c.args.world.now) s c.args.step) (c.in_ok-tell.ensures.rest l)

pub returns-clause-kept : goal.returns-clause-kept
returns-clause-kept g c =
    let e = c.in_ok-tell.ensures.rest [] in
    record { program = c.in_ok-tell.ensures.same.program; limit = c.in_ok-tell.ensures.same.limit; names = same_names _ _ (ap (λ s. s.file) e) (ap (λ s. s.calls) e) }

pub returns-clause-turns : goal.returns-clause-turns
returns-clause-turns g c = ap (λ s. s.turns) (c.in_ok-tell.ensures.rest [])

pub returns-clause-empty : goal.returns-clause-empty
returns-clause-empty g c = none_pending c.args.world.now.pending.items c.tell.new.self.pending.items _ _ refl refl (c.in_ok-tell.ensures.rest [])
