-- The whole runs at the three ends, and completeness from the run.
use Rattle.std.proofs.Common.{refl, inl, inr, []}
use Rattle.atac_steps.specs.Ends.{IsDone, BadWords}
use Rattle.atac_commands.specs.Readings.{Refuses}
use Rattle.atac_words.specs.Stops.{command_of}
use Rattle.atac_steps.specs.Stops.{end_of}
use Rattle.atac_programs.proofs.Same.{same_source}
use Rattle.atac_kept.proofs.Commands.{commands_speak_of_programs}
use Rattle.atac_top.proofs.Claims.{complete_for, shows}
use Rattle.atac_commands.proofs.Watched.{handed_in}
use Rattle.atac_commands.proofs.Exits.{known_nothing}
use Rattle.atac_steps.proofs.Growing.{shelf_stays, sink_stays}
use Rattle.atac_top.proofs.top.atac.Goals as goal

pub returns-in_default-clause-runs : goal.returns-in_default-clause-runs
returns-in_default-clause-runs g c =
    rw (← c.in_default.ensures.command) (record {
      end = BadWords;
      status_is = refl;
      goes = record { found = []; put = []; agrees = tt; comes = inr (record { understood = Refuses []; is = (tt, tt); comes = (refl, refl); keeps = refl }); bytes = known_nothing _; shelf_grows = shelf_stays _; out_grows = sink_stays _ };
      tells = c.put_four.ensures;
    })

pub returns-in-Ok-clause-runs : goal.returns-in-Ok-clause-runs
returns-in-Ok-clause-runs g c =
    rw (← c.in-Some.ensures.command) (record {
      end = IsDone;
      status_is = refl;
      goes = c.in-Ok.ensures;
      tells = record { put = []; bytes = known_nothing _; whole = inl refl; grows = sink_stays _ };
    })

pub returns-in-Err-clause-runs : goal.returns-in-Err-clause-runs
returns-in-Err-clause-runs g c =
    rw (← c.in-Some.ensures.command) (record { end = end_of c.in-Err.stop; status_is = c.status.ensures.status; goes = c.in-Err.ensures; tells = c.tell.ensures })

pub returns-in-Err-clause-complete : goal.returns-in-Err-clause-complete
returns-in-Err-clause-complete g c =
    rw (← c.in-Some.ensures.command) (complete_for (handed_in c.args.watchers.items (λ w. (g.dyn-1.0.entry w.vtable).1.called w.value) (λ w. (g.dyn-1.0.entry w.vtable).1.stands_for w.value) (λ w. (g.dyn-1.0.entry w.vtable).1.text_of w.value)) (command_of c.in-Some.asked) _ _ _ _ (g.E.Sink.state c.args.err.now) (g.E.Sink.state c.tell.new.err) _
    (record { end = end_of c.in-Err.stop; status_is = c.status.ensures.status; goes = c.in-Err.ensures; tells = c.tell.ensures }) c.status.ensures.not_usage)

pub returns-in-Ok-clause-headline : goal.returns-in-Ok-clause-headline
returns-in-Ok-clause-headline g c = λ is.
    rw (← c.in-Some.ensures.command) (shows (handed_in c.args.watchers.items (λ w. (g.dyn-1.0.entry w.vtable).1.called w.value) (λ w. (g.dyn-1.0.entry w.vtable).1.stands_for w.value) (λ w. (g.dyn-1.0.entry w.vtable).1.text_of w.value)) (command_of c.in-Some.asked) _ _ _ _ IsDone c.in-Ok.ensures refl)

pub returns-in-Ok-clause-kept : goal.returns-in-Ok-clause-kept
returns-in-Ok-clause-kept g c = λ is.
    let ws = handed_in c.args.watchers.items (λ w. (g.dyn-1.0.entry w.vtable).1.called w.value) (λ w. (g.dyn-1.0.entry w.vtable).1.stands_for w.value) (λ w. (g.dyn-1.0.entry w.vtable).1.text_of w.value) in
    rw (← c.in-Some.ensures.command) (commands_speak_of_programs ws (command_of c.in-Some.asked) _ _ _ _ (shows ws (command_of c.in-Some.asked) _ _ _ _ IsDone c.in-Ok.ensures refl))

pub returns-in_default-clause-one_program : goal.returns-in_default-clause-one_program
returns-in_default-clause-one_program g c = same_source

pub returns-in-Ok-clause-one_program : goal.returns-in-Ok-clause-one_program
returns-in-Ok-clause-one_program g c = same_source

pub returns-in-Err-clause-one_program : goal.returns-in-Err-clause-one_program
returns-in-Err-clause-one_program g c = same_source
