use Rattle.std.proofs.Common.{ap, ◌≡◌, ◌∙◌, codes}
use Rattle.std.proofs.lemmas.Result.{IfOk-weaker}
use Rattle.clap.specs.Words.{app_of, new_app}
use Rattle.clap.specs.Simple.{app_of_fields}
use Rattle.lrc_cli_words.specs.Commands.{with_showing_options}
use Rattle.lrc_cli_words.proofs.commands.trace_command.Goals as goal

pub taking_showing_options-command-requires : goal.taking_showing_options-command-requires
taking_showing_options-command-requires c = ap (λ f. f.has_globals) c.about-command.ensures ∙ c.new.ensures.local

pub returns-clause-app : goal.returns-clause-app
returns-clause-app c =
    let about_is : app_of c.about-command.result ≡ new_app (codes "trace") = ap app_of_fields c.about-command.ensures ∙ c.new.ensures.app in
    let shown = IfOk-weaker c.taking_showing_options-command.result _ _ (λ r h. h ∙ ap with_showing_options about_is)
    c.taking_showing_options-command.ensures.app in
    let one = c.taking-command.ensures.app _ _ c.form.ensures.local c.form.ensures.rule shown in
    let two = c.taking-command-2.ensures.app _ _ c.flag_option.ensures.local c.flag_option.ensures.rule one in
    c.taking_part.ensures.app _ two

pub returns-clause-local : goal.returns-clause-local
returns-clause-local c =
    let one = c.taking-command.ensures.local c.form.ensures.local c.taking_showing_options-command.ensures.local in
    c.taking_part.ensures.local (c.taking-command-2.ensures.local c.flag_option.ensures.local one)
