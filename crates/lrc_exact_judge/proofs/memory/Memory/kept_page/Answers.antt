use Rattle.std.proofs.Common.{◌≡◌, ◌+◌, ◌*◌, [], ◌∷◌, length, inl, inr, sym, ap, ◌∙◌, arith}
use Rattle.std.specs.Prelude.{slice_index}
use Rattle.std.specs.Ordering.{nat_cmp}
use Rattle.std.specs.BTreeMap.{get}
use Rattle.std.proofs.lemmas.Bool.{cases_lt}
use Rattle.std.proofs.lemmas.List.{get_or_append_left, get_or_push, length_push}
use Rattle.lrc_exact_judge.specs.Keepers.{value_at}
use Rattle.lrc_exact_judge.proofs.memory.Memory.kept_page.Goals as goal

pub loop-offset-preserved : goal.loop-offset-preserved
loop-offset-preserved c =
    let items = c.loop-offset.values.items in
    let i = c.loop-offset.offset in
    let x = c.kept.result in
    let page = c.args.page in
    let words = c.args.self.now.layout.page_words in
    let long : length items ≡ i = c.loop-offset.invariant.0 in
    let pushed = c.in_ok-push.ensures.items in
    let at : c.from.result * c.from-2.result + c.from-in-loop-offset.result ≡ page * words + i =
    ap (λ n. n * c.from-2.result + c.from-in-loop-offset.result) c.from.ensures
    ∙ ap (λ n. page * n + c.from-in-loop-offset.result) c.from-2.ensures
    ∙ ap (λ n. page * words + n) c.from-in-loop-offset.ensures in (
      ap length pushed ∙ length_push items x ∙ ap (λ n. n + 1) long,
      λ a k most having kept offset lt.
          elim (cases_lt offset i) [
            | inl less ↦
                ap (λ xs. slice_index xs offset) pushed ∙ get_or_append_left items (x ∷ []) 0 offset (omega arith)
                ∙ c.loop-offset.invariant.1 a k most having kept offset less
            | inr le ↦
                let same : offset ≡ i = omega arith in
                ap (λ xs. slice_index xs offset) pushed ∙ get_or_push items x 0 offset (long ∙ sym same)
                ∙ c.kept.ensures a k most having kept
                ∙ ap (λ w. value_at (get nat_cmp c.args.keepers.now page) having.have w) (at ∙ ap (λ n. page * words + n) (sym same))
          ],
    )

pub returns-clause-values : goal.returns-clause-values
returns-clause-values c = λ a l most having kept offset lt.
    let low = c.loop-offset-test.false in
    c.loop-offset.invariant.1 a l most having kept offset (omega arith)
