use Rattle.std.proofs.Common.{◌≡◌, set, get_or, refl, sym, subst, ap, ◌∙◌, arith}
use Rattle.lrc_exact_judge.specs.Memory.{AreKept, with_have}
use Rattle.std.specs.Prelude.{◌/◌}
use Rattle.lrc_exact.specs.Rule.{accessed, with_write}
use Rattle.lrc_exact_judge.specs.Shape.{shape_of}
use Rattle.lrc_exact_judge.proofs.Kept.{kept-still}
use Rattle.lrc_exact_judge.proofs.Loops.{few-at, long-at}
use Rattle.lrc_exact_judge.proofs.memory.Memory.write.Goals as goal

pub returns-clause-kept : goal.returns-clause-kept
returns-clause-kept c = λ a l most having le lt old.
    let memory = c.args.self.now in
    let node = c.args.node in
    let had = c.index_mut.result.now in
    let copy = c.write.new.self in
    let state = (with_write (shape_of memory.layout) c.args.word c.args.value (accessed (shape_of memory.layout) (c.args.word / memory.layout.page_words) (having.have c.args.node))) in
    let is : had ≡ get_or memory.copies.items node had = c.index_mut.ensures.value ∙ ap (λ p. get_or memory.copies.items p had) c.from.ensures in
    subst (λ p. AreKept memory.layout c.args.now l most (set memory.copies.items p copy) memory.made.items memory.released.items memory.dropped
    (with_have having node state))
    (sym c.from.ensures)
    (kept-still old c.args.now l node had copy state le (omega arith) c.requires.node is refl refl (λ h. c.in_ok-write.ensures (shape_of memory.layout) a l (having.have node) le lt refl h))

pub write-requires : goal.write-requires
write-requires c =
    let memory = c.args.self.now in
    let node = c.args.node in
    let had = c.index_mut.result.now in
    let is : had ≡ get_or memory.copies.items node had = c.index_mut.ensures.value ∙ ap (λ p. get_or memory.copies.items p had) c.from.ensures in
    let long = long-at c.requires.ready.kept node c.requires.node had is in
    let within = c.requires.node in
    record { in_range = omega arith; few = few-at c.requires.ready.kept node c.requires.node had is c.requires.ready.few }
