use Rattle.std.proofs.Common.{Ok, map, subst}
use Rattle.lrc_cli_args.specs.CommandLine.{Chooses, words_meant}
use Rattle.lrc_cli_args.specs.declared.choice.Request.{Request}
use Rattle.lrc_shell.specs.Plays.{played, raced, reasoned, refused, scored, spoken, witnessed}
use Rattle.lrc_shell_more.proofs.MoreLemmas.{same}
use Rattle.lrc_shell.proofs.PlayLemmas.{refused_meant}
use Rattle.lrc_shell.proofs.played.play_words.Goals as goal

pub returns-in-Ok-Answer : goal.returns-in-Ok-Answer
returns-in-Ok-Answer g c =
    played c.in-Ok-Answer.choice
    (subst (λ (request : Request). Chooses (words_meant (map g.S.AsStr.text c.args.words.now)) (Ok request)) c.in-Ok-Answer.field-0-is c.in-Ok-Answer.ensures)
    c.play_choice.ensures

pub returns-in-Ok-Races : goal.returns-in-Ok-Races
returns-in-Ok-Races g c =
    raced c.in-Ok-Races.racing
    (subst (λ (request : Request). Chooses (words_meant (map g.S.AsStr.text c.args.words.now)) (Ok request)) c.in-Ok-Races.field-0-is c.in-Ok-Races.ensures)
    c.trace_racing.ensures

pub returns-in-Ok-Witness : goal.returns-in-Ok-Witness
returns-in-Ok-Witness g c =
    witnessed c.in-Ok-Witness.witnessing
    (subst (λ (request : Request). Chooses (words_meant (map g.S.AsStr.text c.args.words.now)) (Ok request)) c.in-Ok-Witness.field-0-is c.in-Ok-Witness.ensures)
    c.trace_witness.ensures

pub returns-in-Ok-Reasons : goal.returns-in-Ok-Reasons
returns-in-Ok-Reasons g c =
    reasoned c.in-Ok-Reasons.reasoning
    (subst (λ (request : Request). Chooses (words_meant (map g.S.AsStr.text c.args.words.now)) (Ok request)) c.in-Ok-Reasons.field-0-is c.in-Ok-Reasons.ensures)
    c.trace_reasons.ensures

pub returns-in-Ok-Score : goal.returns-in-Ok-Score
returns-in-Ok-Score g c =
    scored c.in-Ok-Score.scoring
    (subst (λ (request : Request). Chooses (words_meant (map g.S.AsStr.text c.args.words.now)) (Ok request)) c.in-Ok-Score.field-0-is c.in-Ok-Score.ensures)
    c.trace_score.ensures

pub returns-in-Ok-About : goal.returns-in-Ok-About
returns-in-Ok-About g c =
    spoken c.in-Ok-About.topic
    (subst (λ (request : Request). Chooses (words_meant (map g.S.AsStr.text c.args.words.now)) (Ok request)) c.in-Ok-About.field-0-is c.in-Ok-About.ensures)
    c.tell_topic.ensures

pub returns-in-Err : goal.returns-in-Err
returns-in-Err g c =
    refused c.in-Err.fault c.in-Err.ensures
    (refused_meant _ c.in-Err.fault (map g.S.AsStr.text c.args.words.now) _ _ _ c.refuse.ensures) (same (g.W.Write.contents c.args.out.now))
