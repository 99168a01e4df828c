use Rattle.std.proofs.Common.{◌≡◌, ◌+◌, set, get_or, length-set, sym, subst, ap, ◌∙◌, arith}
use Rattle.lrc_exact.specs.Rule.{closed}
use Rattle.lrc_exact_judge.specs.Memory.{AreKept, with_have}
use Rattle.lrc_exact_judge.specs.Shape.{shape_of}
use Rattle.lrc_exact_judge.proofs.Kept.{kept-closed, rows-pushed}
use Rattle.lrc_exact_judge.proofs.Loops.{few-at, long-at}
use Rattle.lrc_exact_judge.proofs.memory.Memory.close.Goals as goal

pub close-requires : goal.close-requires
close-requires c =
    let memory = c.args.self.now in
    let node = c.args.node in
    let had = c.index_mut.result.now in
    let is : had ≡ get_or memory.copies.items node had = c.index_mut.ensures.value ∙ ap (λ p. get_or memory.copies.items p had) c.from-place.ensures in
    let long = long-at c.requires.ready.kept node c.requires.node had is in
    let within = c.requires.node in
    record { in_range = omega arith; few = few-at c.requires.ready.kept node c.requires.node had is c.requires.ready.few }

pub returns-clause-kept : goal.returns-clause-kept
returns-clause-kept c = λ a l most having old.
    let memory = c.args.self.now in
    let node = c.args.node in
    let had = c.index_mut.result.now in
    let copy = c.close.new.self in
    let row = c.push.new.self in
    let is : had ≡ get_or memory.copies.items node had = c.index_mut.ensures.value ∙ ap (λ p. get_or memory.copies.items p had) c.from-place.ensures in
    let rows : c.index_mut-2.result.now ≡ get_or memory.made.items node c.index_mut-2.result.now =
    c.index_mut-2.ensures.value ∙ ap (λ p. get_or memory.made.items p c.index_mut-2.result.now) c.from-place.ensures in
    let long = old.all_made in
    let within = c.requires.node in
    subst (λ p. AreKept memory.layout a l (most + 1) (set memory.copies.items p copy) (set memory.made.items p row) memory.released.items memory.dropped
    (with_have having node (closed node (having.have node))))
    (sym c.from-place.ensures)
    (kept-closed old node within had copy is (set memory.made.items node row) c.in_ok-made.made (length-set memory.made.items node row ∙ long)
    (rows-pushed memory.made.items node c.index_mut-2.result.now row c.in_ok-made.made (omega arith) rows c.in_ok-push.ensures.items)
    (λ h. c.in_ok-made.ensures.made (shape_of memory.layout) a l (having.have node) h)
    (λ h. c.in_ok-made.ensures.copy (shape_of memory.layout) a l (having.have node) h))
