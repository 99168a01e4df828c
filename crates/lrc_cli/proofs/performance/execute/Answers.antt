use Rattle.std.proofs.Common.{option_map}
use Rattle.lrc_cli.proofs.AnswerLemmas.{keeps_races}
use Rattle.lrc_cli.proofs.performance.execute.Goals as goal

pub tell-requires : goal.tell-requires
tell-requires g c = keeps_races c.args.choice.now c.args.text.now (option_map (λ e. e.now) c.args.events) c.answer_any.result c.answer_any.ensures

pub returns : goal.returns
returns g c = c.tell.ensures c.args.choice.now c.args.text.now (option_map (λ e. e.now) c.args.events) c.answer_any.ensures
