-- Each command; but for two no watcher is asked.
use Rattle.atac_commands.proofs.Exits.{goes_as}
use Rattle.atac_commands.proofs.commands.carry_out.Goals as goal

pub returns-in-Check : goal.returns-in-Check
returns-in-Check g c = rw c.in-Check.is (goes_as _ _ _ _ _ _ _ _ (λ found u h. (h, tt)) c.check.ensures)

pub returns-in-List : goal.returns-in-List
returns-in-List g c = rw c.in-List.is (goes_as _ _ _ _ _ _ _ _ (λ found u h. (h, tt)) c.list.ensures)

pub returns-in-Cover : goal.returns-in-Cover
returns-in-Cover g c = rw c.in-Cover.is (goes_as _ _ _ _ _ _ _ _ (λ found u h. (h, tt)) c.cover.ensures)

pub returns-in-Run : goal.returns-in-Run
returns-in-Run g c = rw c.in-Run.is (goes_as _ _ _ _ _ _ _ _ (λ found u h. (h, tt)) c.run.ensures)

pub returns-in-Instrument : goal.returns-in-Instrument
returns-in-Instrument g c = rw c.in-Instrument.is (goes_as _ _ _ _ _ _ _ _ (λ found u h. (h, tt)) c.instrument.ensures)

pub returns-in-RunInto : goal.returns-in-RunInto
returns-in-RunInto g c = rw c.in-RunInto.is (goes_as _ _ _ _ _ _ _ _ (λ found u h. (h, tt)) c.run_into.ensures)

pub returns-in-Merge : goal.returns-in-Merge
returns-in-Merge g c = rw c.in-Merge.is (goes_as _ _ _ _ _ _ _ _ (λ found u h. (h, tt)) c.merge.ensures)

pub returns-in-Tell : goal.returns-in-Tell
returns-in-Tell g c = rw c.in-Tell.is (goes_as _ _ _ _ _ _ _ _ (λ found u h. (h, tt)) c.tell.ensures)

pub returns-in-Pick : goal.returns-in-Pick
returns-in-Pick g c = rw c.in-Pick.is (goes_as _ _ _ _ _ _ _ _ (λ found u h. (h, tt)) c.pick.ensures)

pub returns-in-SelfCover : goal.returns-in-SelfCover
returns-in-SelfCover g c = rw c.in-SelfCover.is (c.self_cover.ensures (g.S.Shelf.state c.args.shelf.now))
