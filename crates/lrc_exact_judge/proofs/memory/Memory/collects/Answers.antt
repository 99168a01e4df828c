use Rattle.std.proofs.Common.{◌≡◌, ◌<◌, ◌+◌, ◌||◌, ◌&&◌, length, get_or, sym, ap, ◌∙◌, arith, add-one}
use Rattle.std.specs.Prelude.{nat_le}
use Rattle.std.proofs.lemmas.Bool.{le-leb}
use Rattle.lrc_time.specs.Time.{weight_of}
use Rattle.lrc_exact.specs.Rule.{some_asks}
use Rattle.lrc_exact_judge.specs.Memory.{all_of}
use Rattle.lrc_exact_judge.proofs.Loops.{asks-more, time-at}
use Rattle.lrc_exact_judge.proofs.memory.Memory.collects.Goals as goal
use Rattle.lrc_exact_judge.proofs.memory.Memory.collects.Goals.{then-holds, else-holds}

pub loop-copy-preserved : goal.loop-copy-preserved
loop-copy-preserved c = λ a k most having kept.
    let self = c.args.self.now in
    let n = self.layout.nodes in
    let collect = self.layout.collect in
    let items = self.copies.items in
    let i = c.loop-copy.copy-index in
    let item = c.copy-item.result in
    let test = c.loop-copy-test.true in
    let value = ap length c.as_slice-copy-items.ensures.value in
    let long = kept.all_copies in
    let within : i < n = omega arith in
    let had : item ≡ get_or items i item = c.copy-item.is ∙ ap (λ xs. get_or xs i item) c.as_slice-copy-items.ensures.value in
    let state = having.have i in
    let said : c.holds.result ≡ nat_le (collect + weight_of state.dropped) (weight_of state.knows.time) =
    c.holds.ensures
    ∙ ap (λ m. nat_le (m + c.weight-dropped.result) c.weight.result) c.from-collect.ensures
    ∙ ap (λ m. nat_le (collect + m) c.weight.result) (c.weight-dropped.ensures ∙ ap weight_of (sym (kept.nodes i within).dropped_is))
    ∙ ap (λ m. nat_le (collect + weight_of state.dropped) m) (c.weight.ensures ∙ ap weight_of (sym (time-at kept i within item had))) in
    let before = c.loop-copy.invariant a k most having kept in
    let now : some_asks (i + 1) collect (all_of n having.have) ≡ (c.holds.result || c.loop-copy.some) =
    ap (λ m. some_asks m collect (all_of n having.have)) (add-one i) ∙ asks-more n having.have collect i within
    ∙ ap (λ b. b || some_asks i collect (all_of n having.have)) (sym said) ∙ ap (λ b. c.holds.result || b) (sym before) in
    elim c.if-holds.branch [
      | then-holds w ↦ w.some-is ∙ w.if-holds.true ∙ sym (now ∙ ap (λ b. b || c.loop-copy.some) w.if-holds.true)
      | else-holds w ↦ w.some-is ∙ sym (now ∙ ap (λ b. b || c.loop-copy.some) w.if-holds.false)
    ]

pub returns-then-collect-ge1 : goal.returns-then-collect-ge1
returns-then-collect-ge1 c = λ a l most having kept.
    let self = c.args.self.now in
    let n = self.layout.nodes in
    let collect = self.layout.collect in
    let value = ap length c.as_slice-copy-items.ensures.value in
    let long = kept.all_copies in
    let low = c.loop-copy-test.false in
    let high = c.loop-copy.auto.copy-index-end in
    let end : c.loop-copy.copy-index ≡ n = omega arith in
    let from = c.from-collect.ensures in
    let some = c.if-collect-ge1.true in
    c.loop-copy.invariant a l most having kept ∙ ap (λ m. some_asks m collect (all_of n having.have)) end
    ∙ sym (ap (λ b. b && some_asks n collect (all_of n having.have)) (le-leb 1 collect (omega arith)))
