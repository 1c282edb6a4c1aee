-- The four lists, each from where those before it end.
use Rattle.std.proofs.Common.{refl}
use Rattle.trace_file.proofs.Loop.{goes_behind, no_first, neither}
use Rattle.trace_file.proofs.reading.are_orderly.Goals as goal

pub returns-in_default : goal.returns-in_default
returns-in_default c = neither _ (no_first 0 _ _ c.in_default.ensures.none)

pub returns-in_default-end_of : goal.returns-in_default-end_of
returns-in_default-end_of c = neither _ (λ o. no_first _ _ _ c.in_default-end_of.ensures.none ((goes_behind 0 _ _ _ c.in-Some.ensures.some).0 o))

pub returns-in_default-end_of-2 : goal.returns-in_default-end_of-2
returns-in_default-end_of-2 c = neither _ (λ o. no_first _ _ _ c.in_default-end_of-2.ensures.none ((goes_behind _ _ _ _ c.in-Some-end_of.ensures.some).0 ((goes_behind 0 _ _ _ c.in-Some.ensures.some).0 o)))

pub returns-in_default-end_of-3 : goal.returns-in_default-end_of-3
returns-in_default-end_of-3 c = neither _ (λ o. c.in_default-end_of-3.ensures.none ((goes_behind _ _ _ _ c.in-Some-end_of-2.ensures.some).0 ((goes_behind _ _ _ _ c.in-Some-end_of.ensures.some).0 ((goes_behind 0 _ _ _ c.in-Some.ensures.some).0 o))))

pub returns : goal.returns
returns c =
    let d = c.in-Some-end_of-3.ensures.some.orderly in
    ((λ e. (goes_behind 0 _ _ _ c.in-Some.ensures.some).1 ((goes_behind _ _ _ _ c.in-Some-end_of.ensures.some).1 ((goes_behind _ _ _ _ c.in-Some-end_of-2.ensures.some).1 d))), (λ o. refl))
