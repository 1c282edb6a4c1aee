-- Each action of a walk stands in the walk's function, by the lists of sites.
use Rattle.std.proofs.Common.{◌≡◌, ℕ, ◌-◌, [], refl, ap, sym, subst, ◌∙◌, arith, append-nil}
use Rattle.std.specs.Prelude.{slice_get, Contains}
use Rattle.c_walk.specs.Items.{labels}
use Rattle.c_walk.specs.Counted.{def_count, use_count}
use Rattle.c_walk.specs.Sound.{decision_count}
use Rattle.c_walk.specs.Units.{no_items}
use Rattle.c_sites.specs.Kinds.{decisions, def_site, defs, use_site, uses}
use Rattle.c_meaning.specs.Calls.{Source}
use Rattle.flow_walks.specs.declared.action.Action.{Action}
use Rattle.flow_walks.specs.declared.action.Action.TheVariants.{Define, Use, Block, Test, Kill, Nothing}
use Rattle.flow_walks.specs.Comes.{act}
use Rattle.flow_parts.specs.Sites.{all_items, all_names, all_sites, StandsIn, WalksStandInTheirFunction}
use Rattle.flow_parts.proofs.Numbers.{def_listed, use_listed, decision_listed}
use Rattle.flow_parts.proofs.Standing.{IsFit, in_fit, externals_fit}

module _ (P : Source) (f : ℕ) where
  stands : (a : Action) → IsFit (all_items P) f (act a) → StandsIn (all_sites P) f a
  stands (Define d) h =
      let ns = all_names P in
      let rows = P.tables.structures in
      let n = h.number in
      let k : d - 1 ≡ def_count h.pre = omega (arith, n) in
      (def_site ns rows h.place f h.direct, (omega (arith, n), ap (slice_get (defs ns rows (all_items P))) k ∙ ap (λ is. slice_get (defs ns rows is) (def_count h.pre)) h.is ∙ def_listed ns rows h.pre h.place f h.direct h.rest), refl)
  stands (Use u) h =
      let ns = all_names P in
      let rows = P.tables.structures in
      let n = h.number in
      let k : u - 1 ≡ use_count h.pre = omega (arith, n) in
      (use_site ns rows h.place f h.direct h.owner, (omega (arith, n), ap (slice_get (uses ns rows (all_items P))) k ∙ ap (λ is. slice_get (uses ns rows is) (use_count h.pre)) h.is ∙ use_listed ns rows h.pre h.place f h.direct h.owner h.rest), refl)
  stands (Test k o) h =
      let n = h.number in
      let m : k - 1 ≡ decision_count h.pre = omega (arith, n) in
      (record { pos = h.place; labels = labels h.outcomes }, (omega (arith, n), ap (slice_get (decisions (all_items P))) m ∙ ap (λ is. slice_get (decisions is) (decision_count h.pre)) h.is ∙ decision_listed h.pre h.place h.outcomes h.rest), (h.label, h.listed))
  stands (Block k) h = tt
  stands (Kill v) h = tt
  stands Nothing h = tt

pub walks_stand : WalksStandInTheirFunction
walks_stand P f v a w c =
    let all = all_items P in
    let fit = externals_fit all f P.tables P.unit.externals no_items refl ([], sym (append-nil all)) w.0 w.1 in
    stands P f a (in_fit all f w.0 a fit (subst (λ x. Contains x a) (sym w.2) c))
