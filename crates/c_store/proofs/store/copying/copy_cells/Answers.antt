use Rattle.std.proofs.Common.{◌≡◌, ◌∙◌, ◌<◌, ◌≤◌, ◌+◌, length, get_or, take, drop, sym, ap, subst, arith}
use Rattle.std.specs.Prelude.{slice_set}
use Rattle.std.proofs.lemmas.List.{get_or-set_other}
use Rattle.c_store.specs.declared.instance.Instance.{Instance}
use Rattle.c_store.specs.Held.{cells_in}
use Rattle.c_store.specs.Copies.{with_part}
use Rattle.c_store.specs.Cells.{cell_of}
use Rattle.c_store.proofs.Copied.{Copied, room, copied_at, copied_across}
use Rattle.c_store.proofs.store.copying.copy_cells.Goals as goal

same_place : (c : goal.After-index-instances-j) → c.index-instances-j.result ≡ get_or c.args.instances.now c.args.i c.index-instances-j.result
same_place c = subst (λ k. c.index-instances-j.result ≡ get_or c.args.instances.now k c.index-instances-j.result) (sym c.if-i-j.true) c.index-instances-j.is

pub copy_within-requires-clause-source : goal.copy_within-requires-clause-source
copy_within-requires-clause-source c = subst (λ (y : Instance). c.cell-start.result + c.args.from.size ≤ length (cells_in y.cells)) c.index-instances-j.is (omega (arith, (room c.args.instances.now c.args.from c.args.i c.index-instances-j.result c.requires.source (same_place c)).1, c.cell-start.ensures.value))

pub copy_within-requires-clause-at : goal.copy_within-requires-clause-at
copy_within-requires-clause-at c = subst (λ (y : Instance). c.cell-dest.result < length (cells_in y.cells)) c.index-instances-j.is (omega (arith, (room c.args.instances.now c.args.to c.args.j c.index-instances-j.result c.requires.target c.index-instances-j.is).0, c.cell-dest.ensures.value))

pub copy_within-requires-clause-target : goal.copy_within-requires-clause-target
copy_within-requires-clause-target c = subst (λ (y : Instance). c.cell-dest.result + c.args.from.size ≤ length (cells_in y.cells)) c.index-instances-j.is (omega (arith, (room c.args.instances.now c.args.to c.args.j c.index-instances-j.result c.requires.target c.index-instances-j.is).1, c.cell-dest.ensures.value, c.requires.size))

pub returns-then-i-j : goal.returns-then-i-j
returns-then-i-j c =
    let all = c.args.instances.now in
    let y = c.index-instances-j.result in
    let is : cells_in c.copy_within.new.self ≡ with_part (cells_in y.cells) (cell_of c.args.to) (take c.args.from.size (drop (cell_of c.args.from) (cells_in y.cells))) = subst (λ (z : Instance). cells_in c.copy_within.new.self ≡ with_part (cells_in z.cells) (cell_of c.args.to) (take c.args.from.size (drop (cell_of c.args.from) (cells_in z.cells)))) (sym c.index-instances-j.is) (rw (← c.cell-start.ensures.value, ← c.cell-dest.ensures.value) c.copy_within.ensures) in
    let done = copied_at all c.args.from c.args.to c.args.i c.args.j y y c.copy_within.new.self c.requires.source c.requires.target (subst (λ k. y ≡ get_or all k y) (sym c.if-i-j.true) c.index-instances-j.is) c.index-instances-j.is is in
    subst (λ (z : Instance). Copied all (slice_set all c.args.j (record z { cells = c.copy_within.new.self })) c.args.from c.args.to) c.index-instances-j.is done

-- what stands at the other place while this one's cells are taken out
other_place : (c : goal.After-index-instances-i) → c.index-instances-i.result ≡ get_or c.args.instances.now c.args.i c.index-instances-i.result
other_place c = c.index-instances-i.is ∙ get_or-set_other c.args.instances.now c.args.j c.args.i _ c.index-instances-i.result c.if-i-j.false

held_cells : (c : goal.After-index-instances-i) → cells_in c.replace-held.result ≡ cells_in c.index-instances-j-else-i-j.result.cells
held_cells c = ap (λ h. cells_in h) c.replace-held.ensures.value ∙ ap (λ (y : Instance). cells_in y.cells) (sym c.index-instances-j-else-i-j.is)

pub copy_from-requires-clause-first : goal.copy_from-requires-clause-first
copy_from-requires-clause-first c = subst (λ (y : Instance). c.cell-start.result < length (cells_in y.cells)) c.index-instances-i.is (omega (arith, (room c.args.instances.now c.args.from c.args.i c.index-instances-i.result c.requires.source (other_place c)).0, c.cell-start.ensures.value))

pub copy_from-requires-clause-source : goal.copy_from-requires-clause-source
copy_from-requires-clause-source c = subst (λ (y : Instance). c.cell-start.result + c.args.from.size ≤ length (cells_in y.cells)) c.index-instances-i.is (omega (arith, (room c.args.instances.now c.args.from c.args.i c.index-instances-i.result c.requires.source (other_place c)).1, c.cell-start.ensures.value))

pub copy_from-requires-clause-at : goal.copy_from-requires-clause-at
copy_from-requires-clause-at c = omega (arith, (room c.args.instances.now c.args.to c.args.j c.index-instances-j-else-i-j.result c.requires.target c.index-instances-j-else-i-j.is).0, c.cell-dest.ensures.value, ap (λ l. length l) (held_cells c))

pub copy_from-requires-clause-target : goal.copy_from-requires-clause-target
copy_from-requires-clause-target c = omega (arith, (room c.args.instances.now c.args.to c.args.j c.index-instances-j-else-i-j.result c.requires.target c.index-instances-j-else-i-j.is).1, c.cell-dest.ensures.value, c.requires.size, ap (λ l. length l) (held_cells c))

pub returns-else-i-j : goal.returns-else-i-j
returns-else-i-j c =
    let all = c.args.instances.now in
    let x = c.index-instances-i.result in
    let y = c.index-instances-j-else-i-j.result in
    let at_i : x ≡ get_or all c.args.i x = c.index-instances-i.is ∙ get_or-set_other all c.args.j c.args.i _ x c.if-i-j.false in
    let held : cells_in c.replace-held.result ≡ cells_in y.cells = ap (λ h. cells_in h) c.replace-held.ensures.value ∙ ap (λ (z : Instance). cells_in z.cells) (sym c.index-instances-j-else-i-j.is) in
    let read : cells_in c.copy_from.new.self ≡ with_part (cells_in c.replace-held.result) c.cell-dest.result (take c.args.from.size (drop c.cell-start.result (cells_in x.cells))) = subst (λ (z : Instance). cells_in c.copy_from.new.self ≡ with_part (cells_in c.replace-held.result) c.cell-dest.result (take c.args.from.size (drop c.cell-start.result (cells_in z.cells)))) (sym c.index-instances-i.is) c.copy_from.ensures in
    let is : cells_in c.copy_from.new.self ≡ with_part (cells_in y.cells) (cell_of c.args.to) (take c.args.from.size (drop (cell_of c.args.from) (cells_in x.cells))) = rw (← c.cell-start.ensures.value, ← c.cell-dest.ensures.value, ← held) read in
    copied_across all c.args.from c.args.to c.args.i c.args.j x y _ c.index-instances-j-else-i-j-2.result c.copy_from.new.self c.requires.source c.requires.target c.requires.j_in at_i c.index-instances-j-else-i-j.is (ap (λ (z : Instance). z.number) (sym c.index-instances-j-else-i-j.is)) (ap (λ (z : Instance). z.writable) (sym c.index-instances-j-else-i-j.is)) is
