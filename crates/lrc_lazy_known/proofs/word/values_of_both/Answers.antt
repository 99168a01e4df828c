use Rattle.std.proofs.Common.{◌⊎◌, subst, sym}
use Rattle.std.specs.Prelude.{◌↔◌, Contains}
use Rattle.std.proofs.lemmas.Result.{IfOk-weaker}
use Rattle.lrc_lazy_known.specs.Word.{values_of}
use Rattle.lrc_lazy_known.proofs.Sharing.{has_both, other_has_both, made_of_both}
use Rattle.lrc_lazy_known.proofs.word.values_of_both.Goals as goal

pub returns-then-has_all-clause-values : goal.returns-then-has_all-clause-values
returns-then-has_all-clause-values c =
    IfOk-weaker c.values_shared.result _ _
    (λ all is. has_both (values_of c.args.word.now c.args.one) (values_of c.args.word.now c.args.other) all.value.items c.values_of-own.result.now
    c.values_of-more.result.now is c.values_of-own.ensures c.values_of-more.ensures c.if-has_all.ensures)
    c.values_shared.ensures

pub returns-then-has_all-2-clause-values : goal.returns-then-has_all-2-clause-values
returns-then-has_all-2-clause-values c =
    IfOk-weaker c.values_shared-then-has_all-2.result _ _
    (λ all is. other_has_both (values_of c.args.word.now c.args.one) (values_of c.args.word.now c.args.other) all.value.items
    c.values_of-own.result.now c.values_of-more.result.now is c.values_of-own.ensures c.values_of-more.ensures c.if-has_all-2.ensures)
    c.values_shared-then-has_all-2.ensures

pub returns-clause-values : goal.returns-clause-values
returns-clause-values c = λ v.
    subst (λ w. Contains w.items v ↔ (Contains (values_of c.args.word.now c.args.one) v ⊎ Contains (values_of c.args.word.now c.args.other) v))
    (sym c.in_ok-new.ensures.ok)
    (made_of_both (values_of c.args.word.now c.args.one) (values_of c.args.word.now c.args.other) c.in_ok-both.both.items c.values_of-own.result.now
    c.values_of-more.result.now c.values_of-own.ensures c.values_of-more.ensures c.in_ok-both.ensures.values v)
