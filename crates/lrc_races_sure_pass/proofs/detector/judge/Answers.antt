-- A read or a write tells its pairs; another event tells none.
use Rattle.std.proofs.Common.{inl, inr, sym, subst}
use Rattle.lrc_races_sure.specs.Sure.{AreSureToldAt}
use Rattle.lrc_races_sure_pass.proofs.Covering.{covers_kept}
use Rattle.lrc_races_detector.proofs.Noting.{variables_kept}
use Rattle.lrc_races_sure_pass.proofs.Telling.{told_none}
use Rattle.lrc_races_sure_pass.proofs.detector.judge.Goals as goal

pub returns-in_ok-judge_access-in-Read : goal.returns-in_ok-judge_access-in-Read
returns-in_ok-judge_access-in-Read c = λ events here g old covers empty.
    c.in_ok-judge_access-in-Read.ensures events here c.in-Read.is g old covers empty

pub returns-in_ok-judge_access-in-Write : goal.returns-in_ok-judge_access-in-Write
returns-in_ok-judge_access-in-Write c = λ events here g old covers empty.
    c.in_ok-judge_access-in-Write.ensures events here c.in-Write.is g old covers empty

pub returns-in_default : goal.returns-in_default
returns-in_default c = λ events here g old covers empty. (
  variables_kept events c.args.placed.position c.args.placed.event here c.args.variables.now c.in_default.not-Read c.in_default.not-Write old,
  covers_kept events c.args.placed.position c.args.placed.event here c.args.covers.now
      (λ v accesses. elim accesses [ inl r ↦ c.in_default.not-Read v r | inr h ↦ c.in_default.not-Write v h ]) covers,
  subst (λ ps. AreSureToldAt events c.args.placed.position ps) (sym empty)
      (told_none events c.args.placed.position c.args.placed.event here c.in_default.not-Read c.in_default.not-Write),
)
