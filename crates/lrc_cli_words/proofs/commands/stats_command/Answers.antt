use Rattle.std.proofs.Common.{ap, ◌≡◌, ◌∙◌, codes}
use Rattle.std.proofs.lemmas.Result.{IfOk-weaker}
use Rattle.clap.specs.Words.{app_of, new_app}
use Rattle.clap.specs.Simple.{app_of_fields}
use Rattle.lrc_cli_words.specs.Commands.{with_showing_options}
use Rattle.lrc_cli_words.proofs.commands.stats_command.Goals as goal

pub taking_showing_options-requires : goal.taking_showing_options-requires
taking_showing_options-requires c = ap (λ f. f.has_globals) c.about-command.ensures ∙ c.new.ensures.local

pub returns-clause-app : goal.returns-clause-app
returns-clause-app c =
    let about_is : app_of c.about-command.result ≡ new_app (codes "stats") = ap app_of_fields c.about-command.ensures ∙ c.new.ensures.app in
    IfOk-weaker c.taking_showing_options.result _ _ (λ r h. h ∙ ap with_showing_options about_is) c.taking_showing_options.ensures.app
