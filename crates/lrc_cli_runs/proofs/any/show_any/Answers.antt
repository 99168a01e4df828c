use Rattle.std.proofs.Common.{◌≡◌, ◌∙◌, ℕ, false, List, Option, Some, None, is_some, ap, subst, option_map}
use Rattle.std.specs.Borrow.{Bor}
use Rattle.lrc_cli_args.specs.Files.{events_along}
use Rattle.lrc_cli_args.specs.declared.choice.Way.{Way}
use Rattle.lrc_cli_runs.specs.Showing.{AnswersShowing}
use Rattle.lrc_cli_runs.proofs.ShowingLemmas.{answers_of}
use Rattle.lrc_cli_runs.proofs.any.show_any.Goals as goal

-- where no events are named there are none
none_named : (events : Option (Bor (List ℕ))) → is_some events ≡ false → None ≡ option_map (λ e. e.now) events
none_named None h = cc
none_named (Some e) h = absurd cc

pub returns-in-Threads : goal.returns-in-Threads
returns-in-Threads g c =
    let none = none_named c.args.events (c.requires ∙ ap (λ (way : Way). is_some (events_along way)) c.in-Threads.is) in
    subst (λ (events : Option (List ℕ)). AnswersShowing c.args.choice.now c.args.shape c.args.text.now events c.show_on_threads.result) none
    (answers_of c.args.choice.now c.args.shape c.args.text.now None c.show_on_threads.result c.show_on_threads.ensures.ok c.show_on_threads.ensures.err)
