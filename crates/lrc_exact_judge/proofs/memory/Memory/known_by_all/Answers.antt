use Rattle.std.proofs.Common.{◌≡◌, ◌<◌, length, get_or, sym, ap, ◌∙◌, arith, add-one}
use Rattle.lrc_time.specs.Time.{joined}
use Rattle.lrc_time.proofs.Times.{length-joined_same}
use Rattle.lrc_exact.specs.Rule.{known_by_all}
use Rattle.lrc_exact_judge.specs.Memory.{all_of}
use Rattle.lrc_exact_judge.proofs.Loops.{known-more, long-at, time-at}
use Rattle.lrc_exact_judge.proofs.memory.Memory.known_by_all.Goals as goal

pub join-requires : goal.join-requires
join-requires c =
    let ready = c.requires.ready in
    let items = c.args.self.now.copies.items in
    let i = c.loop-copy.copy-index in
    let test = c.loop-copy-test.true in
    let value = ap length c.as_slice-copy-items.ensures.value in
    let long = ready.kept.all_copies in
    let had : c.copy-item.result ≡ get_or items i c.copy-item.result =
    c.copy-item.is ∙ ap (λ xs. get_or xs i c.copy-item.result) c.as_slice-copy-items.ensures.value in
    c.loop-copy.invariant.0 ∙ sym (long-at ready.kept i (omega arith) c.copy-item.result had)

pub loop-copy-preserved : goal.loop-copy-preserved
loop-copy-preserved c =
    let ready = c.requires.ready in
    let self = c.args.self.now in
    let n = self.layout.nodes in
    let items = self.copies.items in
    let i = c.loop-copy.copy-index in
    let item = c.copy-item.result in
    let test = c.loop-copy-test.true in
    let value = ap length c.as_slice-copy-items.ensures.value in
    let long = ready.kept.all_copies in
    let within : i < n = omega arith in
    let had : item ≡ get_or items i item = c.copy-item.is ∙ ap (λ xs. get_or xs i item) c.as_slice-copy-items.ensures.value in
    let wide = long-at ready.kept i within item had in (
      ap length c.join.ensures ∙ length-joined_same c.loop-copy.all item.time (c.loop-copy.invariant.0 ∙ sym wide) ∙ c.loop-copy.invariant.0,
      λ a k most having kept.
          c.join.ensures
          ∙ ap (λ t. joined t item.time) (c.loop-copy.invariant.1 a k most having kept)
          ∙ ap (joined (known_by_all i n (all_of n having.have)).time) (sym (time-at kept i within item had))
          ∙ sym (ap (λ m. (known_by_all m n (all_of n having.have)).time) (add-one i) ∙ known-more n having.have n i within),
    )

pub returns : goal.returns
returns c = λ a l most having kept.
    let n = c.args.self.now.layout.nodes in
    let value = ap length c.as_slice-copy-items.ensures.value in
    let long = kept.all_copies in
    let low = c.loop-copy-test.false in
    let high = c.loop-copy.auto.copy-index-end in
    let end : c.loop-copy.copy-index ≡ n = omega arith in
    c.loop-copy.invariant.1 a l most having kept ∙ ap (λ m. (known_by_all m n (all_of n having.have)).time) end
