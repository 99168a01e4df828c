use Rattle.std.proofs.Common.{◌⊎◌, subst, sym}
use Rattle.std.specs.Prelude.{◌↔◌, Contains}
use Rattle.std.proofs.lemmas.Result.{IfOk-weaker}
use Rattle.lrc_lazy_known.specs.Word.{values_of}
use Rattle.lrc_lazy_known.proofs.Sharing.{learner_taught}
use Rattle.lrc_lazy_known.proofs.word.values_learned.Goals as goal

pub returns-then-knower-learner-clause-values : goal.returns-then-knower-learner-clause-values
returns-then-knower-learner-clause-values c =
    IfOk-weaker c.values_of_both.result _ _
    (λ all is v. subst (λ l. Contains all.value.items v ↔ (Contains (values_of c.args.word.now c.args.knower) v ⊎ Contains l v))
    (sym (learner_taught c.args.word.now c.args.learner c.args.teacher c.args.knower c.if-knower-learner.true)) (is v))
    c.values_of_both.ensures.values
