use Rattle.std.proofs.Common.{option_map, sym, subst}
use Rattle.lrc_cli.specs.Answer.{Answers}
use Rattle.lrc_cli_args.specs.declared.choice.Choice.{Choice}
use Rattle.lrc_cli.proofs.AnswerLemmas.{answers_of_run}
use Rattle.lrc_cli.proofs.performance.answer_any.Goals as goal

pub returns-in-Show : goal.returns-in-Show
returns-in-Show g c =
    subst (λ (choice : Choice). Answers choice c.args.text.now (option_map (λ e. e.now) c.args.events) c.printed.result) (sym c.in-Show.is)
    (answers_of_run c.in-Show.run' c.in-Show.shape c.args.text.now (option_map (λ e. e.now) c.args.events) c.shown_any.result c.printed.result c.printed.ensures c.shown_any.ensures)
