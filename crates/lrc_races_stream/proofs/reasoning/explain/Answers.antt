-- What is said is of what is kept.
use Rattle.std.proofs.Common.{subst}
use Rattle.lrc_races_text.specs.Tables.{naming_of}
use Rattle.lrc_races_why.specs.Answers.{IsAnswered}
use Rattle.lrc_races_why.specs.declared.answer.Outcome.{Outcome}
use Rattle.lrc_races_stream.specs.Why.{lacking}
use Rattle.lrc_races_stream.proofs.AnswerLemmas.{explain_of, none_of}
use Rattle.lrc_races_stream.proofs.reasoning.explain.Goals as goal

pub returns-in-Ok-Told : goal.returns-in-Ok-Told
returns-in-Ok-Told c =
    explain_of c.args.form c.args.kept.now c.args.first c.args.second _ _ _ _ c.deref.ensures.value c.deref-2.ensures.value c.new-text.ensures.items
    (subst (λ (o : Outcome). IsAnswered c.args.form (naming_of c.args.kept.now.names) c.deref.result.now c.deref-2.result.now c.args.first c.args.second
    c.new-text.result.items c.push_answer.new.text.items o) c.in-Ok-Told.field-0-is c.in-Ok-Told.ensures)

pub returns-in-Ok-NoEvent : goal.returns-in-Ok-NoEvent
returns-in-Ok-NoEvent c =
    none_of c.args.form c.args.kept.now c.args.first c.args.second c.in-Ok-NoEvent.line _ _ _ _ c.deref.ensures.value
    (subst (λ (o : Outcome). IsAnswered c.args.form (naming_of c.args.kept.now.names) c.deref.result.now c.deref-2.result.now c.args.first c.args.second
    c.new-text.result.items c.push_answer.new.text.items o) c.in-Ok-NoEvent.field-0-is c.in-Ok-NoEvent.ensures)

pub returns-in-Err : goal.returns-in-Err
returns-in-Err c = lacking
