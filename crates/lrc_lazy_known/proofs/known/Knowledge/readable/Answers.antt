use Rattle.std.proofs.Common.{◌≡◌, ◌∙◌, ap, sym, subst, ◌⊎◌}
use Rattle.std.specs.Prelude.{◌↔◌, Contains}
use Rattle.std.proofs.lemmas.Result.{IfOk-weaker}
use Rattle.lrc_lazy_known.specs.Word.{last_of, values_of}
use Rattle.lrc_lazy_known.specs.Effect.{word_of}
use Rattle.lrc_lazy_known.specs.Tidy.{IsRising}
use Rattle.lrc_lazy_known.proofs.After.{unordered_gives}
use Rattle.lrc_lazy_known.proofs.Keeping.{tidy_word, values_rise}
use Rattle.lrc_lazy_known.proofs.known.Knowledge.readable.Goals as goal

pub returns-in-Unordered-clause-gives : goal.returns-in-Unordered-clause-gives
returns-in-Unordered-clause-gives c =
    let word = c.word-known.result.now in
    let node = c.args.node in
    IfOk-weaker c.values_with.result _ _
    (λ all is v.
    unordered_gives (last_of (word_of c.args.self.now c.args.word) node) (values_of (word_of c.args.self.now c.args.word) node) all.items
    (ap (λ w. last_of w node) (sym c.word-known.ensures) ∙ sym c.last_of.ensures ∙ c.in-Unordered.is)
    (λ u. subst (λ l. Contains all.items u ↔ (Contains l u ⊎ (u ≡ 0))) (c.values_of.ensures ∙ ap (λ w. values_of w node) c.word-known.ensures) (is u)) v)
    c.values_with.ensures.values

pub returns-in-Unordered-clause-rising : goal.returns-in-Unordered-clause-rising
returns-in-Unordered-clause-rising c =
    let node = c.args.node in
    IfOk-weaker c.values_with.result _ _
    (λ all is tidy.
    is (subst IsRising (sym (c.values_of.ensures ∙ ap (λ w. values_of w node) c.word-known.ensures))
    (values_rise (word_of c.args.self.now c.args.word) node (tidy_word c.args.self.now c.args.word tidy))))
    c.values_with.ensures.rising
