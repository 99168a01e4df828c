use Rattle.std.proofs.Common.{option_map, subst, sym}
use Rattle.std.specs.Prelude.{Result}
use Rattle.lrc_cli_answer.specs.declared.fault.Fault.{Fault}
use Rattle.lrc_cli.specs.Answer.{Answers}
use Rattle.lrc_cli.specs.declared.answer.Answered.{Answered}
use Rattle.lrc_shell.proofs.played.perform.Goals as goal
use Rattle.lrc_shell.proofs.played.perform.Goals.{in-Some, in-None}

pub tell_answered-requires : goal.tell_answered-requires
tell_answered-requires g c =
    let events = option_map (λ e. e.now) c.args.events in
    elim c.match-late.branch [
      | in-Some w ↦ subst (λ (r : Result Answered Fault). Answers c.args.choice.now c.args.text.now events r) (sym w.answered-is) w.answer_watched-answered.ensures
      | in-None w ↦ subst (λ (r : Result Answered Fault). Answers c.args.choice.now c.args.text.now events r) (sym w.answered-is) w.answer_any-answered.ensures
    ]
