-- An answer, or a fault.
use Rattle.std.proofs.Common.{Result, Ok, option_map, refl, subst}
use Rattle.lrc_cli.proofs.AnswerLemmas.{keeps_races}
use Rattle.lrc_cli.specs.Answer.{Answers}
use Rattle.lrc_cli.specs.declared.answer.Answered.{Answered}
use Rattle.lrc_cli_answer.specs.declared.fault.Fault.{Fault}
use Rattle.lrc_shell.specs.Plays.{answers, faults}
use Rattle.lrc_shell_more.proofs.MoreLemmas.{same}
use Rattle.lrc_shell.proofs.PlayLemmas.{told_fault}
use Rattle.lrc_shell.proofs.played.tell_answered.Goals as goal

pub tell-requires : goal.tell-requires
tell-requires g c =
    let events = option_map (λ e. e.now) c.args.events in
    keeps_races c.args.choice.now c.args.text.now events (Ok c.in-Ok.answered)
    (subst (λ (r : Result Answered Fault). Answers c.args.choice.now c.args.text.now events r) c.in-Ok.is c.requires)

pub returns-in-Ok : goal.returns-in-Ok
returns-in-Ok g c =
    let events = option_map (λ e. e.now) c.args.events in
    let is = subst (λ (r : Result Answered Fault). Answers c.args.choice.now c.args.text.now events r) c.in-Ok.is c.requires in
    answers c.in-Ok.answered is (c.tell.ensures c.args.choice.now c.args.text.now events is)

pub returns-in-Err : goal.returns-in-Err
returns-in-Err g c =
    let events = option_map (λ e. e.now) c.args.events in
    let is = subst (λ (r : Result Answered Fault). Answers c.args.choice.now c.args.text.now events r) c.in-Err.is c.requires in
    faults c.tell_fault-told.result
    (told_fault c.args.choice.now c.args.text.now events c.in-Err.fault c.tell_fault-told.result is c.tell_fault-told.ensures.told)
    (record { between = g.E.Write.contents c.tell_fault-told.new.err; told = c.tell_fault-told.ensures.line; behind = c.tell_more.ensures })
    (same (g.W.Write.contents c.args.out.now)) refl
