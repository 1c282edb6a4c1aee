use Rattle.std.proofs.Common.{◌∙◌, ◌≡◌, ◌<◌, List, ◌∷◌, ◌+◌, drop, get_or, inl, inr}
use Rattle.c_world.specs.declared.world.Made.{Made}
use Rattle.c_world.specs.Shown.{Rising, HasCell}
use Rattle.c_world.proofs.Shown.{rising_next, rising_above, cell_next}
use Rattle.c_world.proofs.world.telling.tell_made.Goals as goal

pub loop-made-preserved : goal.loop-made-preserved
loop-made-preserved g c =
    let i = c.loop-made.made-index in
    let ms = c.args.fresh.now in
    let d : Made = record { instance = 0; cells = 0 } in
    let inv = c.loop-made.invariant in
    let e = c.in_ok-made.ensures in
    record {
      goes_by = e.goes_by ∙ inv.goes_by;
      kept = λ h at. e.kept h (inv.kept h at);
      stay = λ cell at. e.stay cell (inv.stay cell at);
      rising = λ r.
          let n = rising_next ms i d (g.P.Probes.top c.loop-made.probes) c.loop-made-test.true (inv.rising r) in
          rising_above (g.P.Probes.top c.made.new.self) (get_or ms i d).instance (drop (i + 1) ms) (e.below n.0) n.1;
      taken = λ r cell has.
          let n = rising_next ms i d (g.P.Probes.top c.loop-made.probes) c.loop-made-test.true (inv.rising r) in
          elim (inv.taken r cell has) [
            | inl at ↦ inl (e.stay cell at)
            | inr has ↦ elim (cell_next ms i d cell c.loop-made-test.true has) [ inl at ↦ inl (e.taken n.0 cell at.0 at.1) | inr has ↦ inr has ]
          ];
    }
